use Rattle.std.proofs.Common.{◌+◌, Some, sym, refl, ap, ◌∙◌, subst, rules}
use Rattle.std.proofs.lemmas.Result.{err_from_is_err_and}
use Rattle.plan.specs.Listed.{laid}
use Rattle.book.specs.declared.contents.EntryLine.{EntryLine}
use Rattle.book.specs.Jobs.{JobOf}
use Rattle.book.specs.Judging.{entry_wrong}
use Rattle.book.proofs.Judged.{wrong_start, wrong_plan, wrong_kind, wrong_carrier, wrong-length, right_entry, missing, a_kind, no_kind}
use Rattle.book.proofs.judge.judge_entry.Goals as goal

pub returns-then-line-start : goal.returns-then-line-start
returns-then-line-start c =
    ap (entry_wrong (c.args.e + 1) c.args.start) (sym c.read_line-line.ensures.value) ∙ wrong_start _ _ _ c.if-line-start.true

pub returns-in_err-plan : goal.returns-in_err-plan
returns-in_err-plan c =
    let p = err_from_is_err_and c.from_residual.result c.from_residual.ensures.1 in
    rw (p.1, p.2)
    (ap (entry_wrong (c.args.e + 1) c.args.start) (sym c.read_line-line.ensures.value)
    ∙ wrong_plan _ _ _ c.if-line-start.false (sym c.listed_plan.ensures ∙ ap laid c.in_err-plan.ensures.ok_part)
    ∙ ap Some (missing _ _ _ c.in_err-plan.ensures.value c.in_err-plan.ensures.ok_part))

pub returns-in_err-kind : goal.returns-in_err-kind
returns-in_err-kind c =
    let p = err_from_is_err_and c.from_residual-in_err-kind.result c.from_residual-in_err-kind.ensures.1 in
    let none = no_kind _ c.read_line-line.result.kind _ _ c.try_from.ensures c.in_err-kind.ensures.cases in
    rw (p.1, p.2)
    (ap (entry_wrong (c.args.e + 1) c.args.start) (sym c.read_line-line.ensures.value)
    ∙ wrong_kind _ _ _ _ c.if-line-start.false (sym c.listed_plan.ensures ∙ ap laid c.in_ok-plan.ensures.ok_part) none.1.0
    ∙ ap Some (let said = none.1.1 in search rules))

pub returns-then-not-is_allowed : goal.returns-then-not-is_allowed
returns-then-not-is_allowed c =
    ap (entry_wrong (c.args.e + 1) c.args.start) (sym c.read_line-line.ensures.value)
    ∙ wrong_carrier _ _ _ _ c.in_ok-kind.kind c.if-line-start.false (sym c.listed_plan.ensures ∙ ap laid c.in_ok-plan.ensures.ok_part) (a_kind _ c.read_line-line.result.kind _ _ c.try_from.ensures c.in_ok-kind.ensures.cases c.in_ok-kind.ensures.variant) (sym c.is_allowed.ensures ∙ c.if-not-is_allowed.true)

pub returns-then-line-asked_length : goal.returns-then-line-asked_length
returns-then-line-asked_length c =
    ap (entry_wrong (c.args.e + 1) c.args.start) (sym c.read_line-line.ensures.value)
    ∙ wrong-length _ _ _ _ c.in_ok-kind.kind c.if-line-start.false (sym c.listed_plan.ensures ∙ ap laid c.in_ok-plan.ensures.ok_part) (a_kind _ c.read_line-line.result.kind _ _ c.try_from.ensures c.in_ok-kind.ensures.cases c.in_ok-kind.ensures.variant) (sym c.is_allowed.ensures ∙ c.if-not-is_allowed.false) (λ e. c.if-line-asked_length.true (e ∙ sym c.asked_length.ensures))

pub returns : goal.returns
returns c = (
  ap (entry_wrong (c.args.e + 1) c.args.start) (sym c.read_line-line.ensures.value)
      ∙ right_entry _ _ _ _ c.in_ok-kind.kind c.if-line-start.false (sym c.listed_plan.ensures ∙ ap laid c.in_ok-plan.ensures.ok_part) (a_kind _ c.read_line-line.result.kind _ _ c.try_from.ensures c.in_ok-kind.ensures.cases c.in_ok-kind.ensures.variant) (sym c.is_allowed.ensures ∙ c.if-not-is_allowed.false) (c.if-line-asked_length.false ∙ c.asked_length.ensures),
  subst (λ (l : EntryLine). JobOf l (record { plan = c.in_ok-plan.plan; kind = c.in_ok-kind.kind; start = c.read_line-line.result.start; length = c.read_line-line.result.length })) c.read_line-line.ensures.value
      (record { plan = sym c.listed_plan.ensures ∙ ap laid c.in_ok-plan.ensures.ok_part; kind = (a_kind _ c.read_line-line.result.kind _ _ c.try_from.ensures c.in_ok-kind.ensures.cases c.in_ok-kind.ensures.variant); start = refl; long = refl; short = c.read_line-line.ensures.short; fine = sym c.is_allowed.ensures ∙ c.if-not-is_allowed.false; asks = c.if-line-asked_length.false ∙ c.asked_length.ensures }),
)
