use Rattle.std.proofs.Common.{◌≡◌, ℕ, ◌+◌, ◌-◌, ◌≤◌, ◌++◌, length, take, drop, None, sym, ap, ◌∙◌, subst, arith, length-append, rules}
use Rattle.book.specs.declared.job.Needs.{Needs}
use Rattle.book.specs.Contents.{count, line_at}
use Rattle.book.specs.Judging.{Enough, entry_needs, entry_wrong}
use borrow.Rule.Slice.PartMut.{put_mid}
use Rattle.stack.specs.Buffers.{zeros, padded}
use Rattle.stack.specs.Bodies.{length-padded}
use Rattle.book.specs.declared.contents.EntryLine.{EntryLine}
use Rattle.book.specs.Running.{Outcome, entry_outcome, outcome, results_before}
use Rattle.book.proofs.Covering.{starts}
use Rattle.book.proofs.Judged.{job_needs}
use Rattle.book.proofs.Entries.{line_inside, entry_right, ends_inside, enough_for, results_fit, job_outcome, bytes_are, part_empty, part_written, recorded, reached_more, file_small, size_is}
use Rattle.book.proofs.run.run_entry.Goals as goal

pub judge_entry-requires : goal.judge_entry-requires
judge_entry-requires c = line_inside c.args.file.now c.args.e c.requires.right.0 c.requires.right.1

pub unreachable-requires : goal.unreachable-requires
unreachable-requires c =
    let f = c.args.file.now in
    let none : entry_wrong (c.args.e + 1) c.args.start (line_at f c.args.e) ≡ None
    = ap (λ (s : ℕ). entry_wrong (c.args.e + 1) s (line_at f c.args.e)) c.requires.reached.start_is ∙ entry_right f c.args.e c.requires.right.0 c.requires.right.1 in
    let some = c.in_default.ensures in
    let z : ◌≡◌ {A = ℕ} 0 1 = cc in omega arith

pub overflow_add-bytes : goal.overflow_add-bytes
overflow_add-bytes c =
    let f = c.args.file.now in
    omega (arith, ends_inside f c.args.e c.requires.right.0 c.requires.right.1, file_small f c.requires.right.0, c.requires.reached.start_is, c.in-Ok.ensures.1.long)

pub slice_bounds-bytes-end : goal.slice_bounds-bytes-end
slice_bounds-bytes-end c =
    let f = c.args.file.now in
    omega (arith, ends_inside f c.args.e c.requires.right.0 c.requires.right.1, c.requires.reached.start_is, c.in-Ok.ensures.1.long)

pub slice_bounds-part-end : goal.slice_bounds-part-end
slice_bounds-part-end c =
    let f = c.args.file.now in
    let j = c.in-Ok.job in
    let size : c.result_size-size.result ≡ (entry_needs (line_at f c.args.e)).results
    = size_is f c.args.e _ j c.in-Ok.ensures.1 c.result_size-size.ensures.value in
    omega (arith, results_fit f c.args.e (count f) c.requires.right.1, c.requires.reached.place_is, c.requires.room.1)

pub run_job-answer-requires : goal.run_job-answer-requires
run_job-answer-requires c =
    let f = c.args.file.now in
    let e = c.args.e in
    let j = c.in-Ok.job in
    let job = c.in-Ok.ensures.1 in
    let starts-there = starts (e + 1) c.args.start (line_at f e) c.in-Ok.ensures.0 in
    let size = size_is f e _ j job c.result_size-size.ensures.value in
    record {
      fit = record {
        fine = job.fine;
        long = search rules;
        room = subst (λ (n : Needs). Enough n (length c.args.first.now) (length c.args.second.now) (length c.args.steps.now) (length c.args.hard.now) (length c.args.soft.now)) (job_needs (line_at f e) j job)
            (enough_for f e (count f) _ _ _ _ _ c.requires.right.1 c.requires.room.0);
        empty = part_empty (length c.args.results.now) c.args.place c.result_size-size.result (results_before f e) c.args.results.now c.requires.reached.held c.requires.reached.long
            (omega (arith, results_fit f e (count f) c.requires.right.1, c.requires.reached.place_is, c.requires.room.1, size))
            ∙ ap zeros c.result_size-size.ensures.value;
      };
      idle = c.requires.idle;
    }

pub read_line-requires : goal.read_line-requires
read_line-requires c = (line_inside c.args.file.now c.args.e c.requires.right.0 c.requires.right.1).0

pub returns : goal.returns
returns c =
    let f = c.args.file.now in
    let e = c.args.e in
    let j = c.in-Ok.job in
    let job = c.in-Ok.ensures.1 in
    let starts-there = starts (e + 1) c.args.start (line_at f e) c.in-Ok.ensures.0 in
    let size = size_is f e _ j job c.result_size-size.ensures.value in
    let done = c.run_job-answer.ensures in
    let is : entry_outcome f e ≡ outcome j.kind j.plan.numbers j.plan.unit (take (c.args.start + j.length - c.args.start) (drop c.args.start f))
    = job_outcome f e j job ∙ ap (outcome j.kind j.plan.numbers j.plan.unit) (sym (bytes_are f (line_at f e) c.args.start j.length (sym starts-there) job.long)) in
    let result : c.run_job-answer.new.part ≡ (entry_outcome f e).result = done.result ∙ ap (λ (o : Outcome). o.result) (sym is) in
    let long : length c.run_job-answer.new.part ≡ c.result_size-size.result = search rules in
    let line = c.read_line.ensures.value in
    let room : c.args.place + c.result_size-size.result ≤ length c.args.results.now = omega (arith, results_fit f e (count f) c.requires.right.1, c.requires.reached.place_is, c.requires.room.1, size) in
    let after = put_mid c.args.place (c.args.place + c.result_size-size.result - c.args.place) c.args.results.now c.run_job-answer.new.part in
    let put : after ≡ padded (length c.args.results.now) (results_before f e ++ c.run_job-answer.new.part)
    = part_written (length c.args.results.now) c.args.place c.result_size-size.result (results_before f e) c.args.results.now c.requires.reached.held c.requires.reached.long c.run_job-answer.new.part long in
    let same : length after ≡ length c.args.results.now
    = ap length put ∙ length-padded (length c.args.results.now) (results_before f e ++ c.run_job-answer.new.part) (omega (arith, length-append (results_before f e) c.run_job-answer.new.part, c.requires.reached.long, long, room)) in
    record {
      «record» = recorded f e c.args.place c.result_size-size.result c.read_line.result c.run_job-answer.result line c.requires.reached.place_is (sym (ap length result) ∙ long) (done.answer ∙ ap (λ (o : Outcome). o.answer) (sym is));
      reached = reached_more f e c.args.start c.args.place c.result_size-size.result c.args.results.now after c.run_job-answer.new.part c.read_line.result c.requires.reached line (sym size) result long same put;
      bounds = (omega (arith, ends_inside f e c.requires.right.0 c.requires.right.1, c.requires.reached.start_is, ap (λ (l : EntryLine). l.length) line), room);
      idle = done.idle;
    }
