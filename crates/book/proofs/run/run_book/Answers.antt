use Rattle.std.proofs.Common.{ℕ, length, sym, refl, ap, ◌∙◌, arith, rules}
use Rattle.stack.specs.Buffers.{padded}
use Rattle.book.specs.declared.job.Needs.{Needs}
use Rattle.book.specs.Running.{results_before}
use Rattle.book.specs.Contents.{count}
use Rattle.book.proofs.Lending.{lent_parts, wrong_lent, right_book, book_refused, book_run, enough_kept}
use Rattle.book.proofs.Recording.{front_recorded}
use Rattle.book.proofs.Refusals.{only_two}
use Rattle.book.proofs.run.run_book.Goals as goal

pub returns-then-not-met : goal.returns-then-not-met
returns-then-not-met c =
    let ok = c.in_ok-count.ensures.judged in
    record {
      ran =
          book_refused c.args.file.now c.args.records.now c.args.results.now c.args.first.now c.args.second.now c.args.steps.now c.args.hard.now c.args.soft.now _ _ refl
          (wrong_lent c.args.file.now _ _ _ _ _ _ _ c.in_ok-count.needs c.in_ok-count.count ok.2 ok.1 ok.0 (sym c.if-not-met.ensures));
      late = only_two c.args.file.now;
    }

pub run_entries-requires : goal.run_entries-requires
run_entries-requires c =
    let ok = c.in_ok-count.ensures.judged in
    let lent = lent_parts c.in_ok-count.needs c.in_ok-count.count _ _ _ _ _ _ _ (sym c.if-not-met.ensures) in
    record {
      right = ok.0;
      room = (
        enough_kept c.in_ok-count.needs _ (length c.args.first.now) (length c.args.second.now) (length c.args.steps.now) (length c.args.hard.now) (length c.args.soft.now) _ _ _ _ _ ok.2 c.clear_all.auto.first c.clear_all.auto.second c.clear_all.auto.steps c.clear_all.auto.hard c.clear_all.auto.soft lent.0,
        (omega (arith, ap (λ (n : Needs). n.results) ok.2, c.clear_all.auto.results, lent.1), search rules),
      );
      idle = (c.clear_all.ensures.idle, c.clear_all.ensures.results);
    }

pub returns : goal.returns
returns c =
    let ok = c.in_ok-count.ensures.judged in
    let lent = lent_parts c.in_ok-count.needs c.in_ok-count.count _ _ _ _ _ _ _ (sym c.if-not-met.ensures) in
    record {
      ran =
          book_run c.args.file.now c.args.records.now c.args.results.now c.args.first.now c.args.second.now c.args.steps.now c.args.hard.now c.args.soft.now _ _ _ _ _ _ _ _
          (right_book c.args.file.now _ _ _ _ _ _ _ c.in_ok-count.needs c.in_ok-count.count ok.2 ok.1 ok.0 (sym c.if-not-met.ensures))
          ok.1 (front_recorded c.args.file.now (count c.args.file.now) c.in_ok-count.count c.args.records.now _ ok.1 (omega (arith, ok.1, lent.2)) c.run_entries.ensures.records) (c.run_entries.ensures.results ∙ ap (λ (n : ℕ). padded n (results_before c.args.file.now (count c.args.file.now))) c.clear_all.auto.results) c.run_entries.ensures.idle;
      late = only_two c.args.file.now;
    }
