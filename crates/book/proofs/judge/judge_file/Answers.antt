use Rattle.std.proofs.Common.{◌∙◌, arith, rules}
use Rattle.std.proofs.lemmas.Result.{err_from_is_err_and}
use Rattle.std.proofs.lemmas.Bool.Decides.{nat_tests}
use Rattle.book.proofs.Covering.{covered, other_width, by_size, by_width, by_count, by_contents, by_parts}
use Rattle.book.proofs.judge.judge_file.Goals as goal

pub returns-then-file-lt2 : goal.returns-then-file-lt2
returns-then-file-lt2 c = record { judged = by_size _ (grind (arith, nat_tests)); covered = covered _; other_width = other_width _ }

pub returns-then-file-ne6 : goal.returns-then-file-ne6
returns-then-file-ne6 c = record { judged = by_width _ (grind (arith, nat_tests)) c.if-file-ne6.true; covered = covered _; other_width = other_width _ }

pub returns-then-count-lt1 : goal.returns-then-count-lt1
returns-then-count-lt1 c = record { judged = by_count _ (grind (arith, nat_tests)) c.if-file-ne6.false (grind (arith, nat_tests)); covered = covered _; other_width = other_width _ }

pub returns-then-file-count : goal.returns-then-file-count
returns-then-file-count c = record { judged = by_contents _ (grind (arith, nat_tests)) c.if-file-ne6.false (grind (arith, nat_tests)) (grind (arith, nat_tests)); covered = covered _; other_width = other_width _ }

pub returns-in_err-needs : goal.returns-in_err-needs
returns-in_err-needs c =
    let p = err_from_is_err_and c.from_residual.result c.from_residual.ensures.1 in
    record {
      judged = rw (p.1, p.2) (by_parts _ (grind (arith, nat_tests)) c.if-file-ne6.false (grind (arith, nat_tests)) (grind (arith, nat_tests)) ∙ c.in_err-needs.ensures);
      covered = covered _;
      other_width = other_width _;
    }

pub returns : goal.returns
returns c = record {
  judged = (by_parts _ (grind (arith, nat_tests)) c.if-file-ne6.false (grind (arith, nat_tests)) (grind (arith, nat_tests)) ∙ c.in_ok-needs.ensures.0, c.from-count.ensures, search rules);
  covered = covered _;
  other_width = other_width _;
}
