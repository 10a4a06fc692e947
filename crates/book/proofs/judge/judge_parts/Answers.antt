use Rattle.std.proofs.Common.{◌≡◌, ℕ, ◌+◌, ◌*◌, None, sym, ap, ◌∙◌, arith, rules}
use Rattle.std.proofs.lemmas.Result.{err_from_is_err_and}
use Rattle.book.specs.declared.job.Needs.{Needs}
use Rattle.book.specs.Contents.{line_at}
use Rattle.book.specs.Judging.{entry_wrong, start_at, no_needs, and_needs, needs_before}
use Rattle.book.proofs.Judged.{none_yet, entries_more, start_more, needs_more, job_needs, stays_wrong, parts_by_entry}
use Rattle.book.proofs.judge.judge_parts.Goals as goal

pub loop-e-init : goal.loop-e-init
loop-e-init c =
    let none = none_yet c.args.file.now in
    let needs : c.default-needs.result ≡ no_needs = search rules in
    (none.0, ap (λ (n : ℕ). 2 + 6 * n) c.requires.0 ∙ none.1, needs ∙ none.2, omega arith, omega (arith, ap (λ (n : Needs). n.results) needs))

pub returns-in_err-job : goal.returns-in_err-job
returns-in_err-job c =
    let p = err_from_is_err_and c.from_residual.result c.from_residual.ensures.1 in
    rw (p.1, p.2)
    (parts_by_entry c.args.file.now _
    (stays_wrong c.args.file.now c.loop-e.e _ _
    (entries_more c.args.file.now c.loop-e.e c.loop-e.invariant.0
    ∙ ap (λ (s : ℕ). entry_wrong (c.loop-e.e + 1) s (line_at c.args.file.now c.loop-e.e)) (sym c.loop-e.invariant.1)
    ∙ c.in_err-job.ensures)
    (omega (arith, c.requires.0))))

pub loop-e-preserved : goal.loop-e-preserved
loop-e-preserved c =
    let f = c.args.file.now in
    let job = c.in_ok-job.ensures.1 in
    let right : entry_wrong (c.loop-e.e + 1) (start_at f c.loop-e.e) (line_at f c.loop-e.e) ≡ None
    = ap (λ (s : ℕ). entry_wrong (c.loop-e.e + 1) s (line_at f c.loop-e.e)) (sym c.loop-e.invariant.1) ∙ c.in_ok-job.ensures.0 in
    let add : c.and-needs.result ≡ needs_before f (c.loop-e.e + 1)
    = c.and-needs.ensures
    ∙ ap (λ (n : Needs). and_needs n c.needs.result) c.loop-e.invariant.2
    ∙ ap (λ (n : Needs). and_needs (needs_before f c.loop-e.e) n) (c.needs.ensures.value ∙ sym (job_needs (line_at f c.loop-e.e) c.in_ok-job.job job))
    ∙ sym (needs_more f c.loop-e.e) in
    let sum : c.and-needs.result.results ≡ c.loop-e.needs.results + c.needs.result.results
    = ap (λ (n : Needs). n.results) c.and-needs.ensures in (
      entries_more f c.loop-e.e c.loop-e.invariant.0 ∙ right,
      ap (λ (s : ℕ). s + c.in_ok-job.job.length) c.loop-e.invariant.1 ∙ ap (λ (n : ℕ). start_at f c.loop-e.e + n) job.long ∙ sym (start_more f c.loop-e.e),
      add,
      omega (arith, job.short),
      omega (arith, sum, c.needs.ensures.high),
    )
