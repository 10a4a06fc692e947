-- A code word stays; else the errors are located and taken off, and the verdict is whether that gives a code word.
use Rattle.std.proofs.Common.{◌*◌, sym, ◌∙◌, arith, rules}
use Rattle.outer.proofs.Repairs.{repaired_itself, places_inside, repaired_found, nearest_lost}
use Rattle.outer.proofs.Zeros.{all_taken, taken_all}
use Rattle.outer.proofs.code.correct_word.Goals as goal

pub returns-then-all_zero : goal.returns-then-all_zero
returns-then-all_zero g c =
    let field = c.args.field.now in
    let f = g.F.Field.meaning field in
    let rule = g.met.F.Field.rule field in
    repaired_itself f rule c.args.r c.args.e c.args.word.now c.requires.sizes c.syndromes-found.ensures.small.0
    (λ j h. sym (c.syndromes-found.ensures.lanes f c.args.r rule c.requires.roots j (omega arith)) ∙ all_taken (2 * c.args.e) c.syndromes-found.result (omega arith) (c.all_zero.ensures.0 c.if-all_zero.true) j h)

pub correct-count-requires : goal.correct-count-requires
correct-count-requires g c =
    let field = c.args.field.now in
    let f = g.F.Field.meaning field in
    let rule = g.met.F.Field.rule field in
    record {
      known = (c.requires.sizes.short, c.requires.sizes.low);
      inside = places_inside f rule c.args.r c.args.e c.args.word.now c.requires.sizes c.syndromes-found.ensures.small.0 c.syndromes-found.result
          c.annihilator-polynomial.result c.locator_zeros-places.result c.syndromes-found.ensures.small.1
          (c.syndromes-found.ensures.lanes f c.args.r rule c.requires.roots) c.annihilator-polynomial.ensures c.locator_zeros-places.ensures;
    }

pub returns-then-all_zero-2 : goal.returns-then-all_zero-2
returns-then-all_zero-2 g c =
    let field = c.args.field.now in
    let f = g.F.Field.meaning field in
    let rule = g.met.F.Field.rule field in
    repaired_found f rule c.args.r c.args.e c.args.word.now c.requires.sizes c.syndromes-found.ensures.small.0 c.syndromes-found.result
    c.annihilator-polynomial.result c.locator_zeros-places.result c.syndromes-found.ensures.small.1
    (c.syndromes-found.ensures.lanes f c.args.r rule c.requires.roots) c.annihilator-polynomial.ensures c.locator_zeros-places.ensures
    c.correct-count.new.word c.correct-count.ensures.word c.correct-count.result c.correct-count.ensures.count
    (λ j h. sym (c.syndromes.ensures.lanes f c.args.r rule c.requires.roots j (omega arith)) ∙ all_taken (2 * c.args.e) c.syndromes.result (omega arith) (c.all_zero-2.ensures.0 c.if-all_zero-2.true) j h)

pub returns-else-all_zero-2 : goal.returns-else-all_zero-2
returns-else-all_zero-2 g c =
    let field = c.args.field.now in
    let f = g.F.Field.meaning field in
    let rule = g.met.F.Field.rule field in
    nearest_lost f rule c.args.r c.args.e c.args.word.now c.requires.sizes c.syndromes-found.ensures.small.0 c.syndromes-found.result
    c.annihilator-polynomial.result c.locator_zeros-places.result c.syndromes-found.ensures.small.1
    (c.syndromes-found.ensures.lanes f c.args.r rule c.requires.roots) c.annihilator-polynomial.ensures c.locator_zeros-places.ensures
    c.correct-count.new.word c.correct-count.ensures.word
    (λ code.
    let all = taken_all (2 * c.args.e) c.syndromes.result (omega arith) (λ j h. c.syndromes.ensures.lanes f c.args.r rule c.requires.roots j (omega arith) ∙ code j h) in
    let yes = c.if-all_zero-2.ensures.1 all in search rules)
