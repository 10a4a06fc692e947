-- One place more.
use Rattle.std.proofs.Common.{◌≡◌, ℕ, ◌+◌, ◌-◌, ◌<◌, List, [], ◌∷◌, ◌++◌, length, get_or, map, take, sym, ap, ◌∙◌, subst, arith, rules}
use lib.ListN.{length-map}
use Rattle.std.proofs.lemmas.List.{length-take-le, map-append, take_all, take_more}
use Rattle.galois.specs.Bytes.{power}
use Rattle.outer.specs.declared.correction.Located.{Located}
use Rattle.outer.specs.declared.lanes.Multiples.{Multiples}
use Rattle.outer.specs.Cutting.{always}
use Rattle.outer.specs.Decoding.{locator}
use Rattle.outer.specs.Lanes.{Are}
use Rattle.outer.proofs.Cuts.{push_more}
use Rattle.outer.proofs.correction.locate.Goals as goal

pub loop-place-init : goal.loop-place-init
loop-place-init g c = (ap (map (λ (e : Located). e.place)) c.new-located.ensures, λ k h. absurd (omega arith))

pub push-requires : goal.push-requires
push-requires g c =
    let es = c.loop-place.located.items in
    let zs = c.args.places.now in
    let same = c.as_slice-place-items.ensures.value in
    let few = length-take-le c.loop-place.place-index zs (omega (arith, ap length same, c.loop-place-test.true)) in
    let room : length es < 16 = omega (arith, ap length c.loop-place.invariant.0, few, length-map es (λ (e : Located). e.place), c.loop-place-test.true, c.as_slice-place-items.ensures.few) in
    search rules

pub loop-place-preserved : goal.loop-place-preserved
unfolding locator
loop-place-preserved g c =
    let f = g.F.Field.meaning c.args.field.now in
    let n = c.args.n in
    let es = c.loop-place.located.items in
    let zs = c.args.places.now in
    let i = c.loop-place.place-index in
    let m = c.scalar_multiples.result in
    let none : Multiples = record { rows = [] } in
    let same = c.as_slice-place-items.ensures.value in
    let p = get_or c.as_slice-place-items.result.now i 0 in
    let is : get_or zs i 0 ≡ p = ap (λ l. get_or l i 0) (sym same) in
    let inside : i < length zs = omega (arith, ap length same, c.loop-place-test.true) in
    let size : length (map (λ (e : Located). e.locator) es) ≡ i
    = omega (arith, ap length c.loop-place.invariant.0, length-take-le i zs (omega arith), length-map es (λ (e : Located). e.place), length-map es (λ (e : Located). e.locator)) in (
      ap (map (λ (e : Located). e.place)) c.push.ensures.items ∙ map-append (λ (e : Located). e.place) es (record { place = p; locator = m } ∷ [])
          ∙ ap (λ l. l ++ p ∷ []) c.loop-place.invariant.0 ∙ sym (take_more zs i 0 inside ∙ ap (λ z. take i zs ++ z ∷ []) is),
      subst (λ (ms : List Multiples). (k : ℕ) → k < i + 1 → Are f (always (locator f n (get_or zs k 0))) (get_or ms k none).rows)
          (sym (ap (map (λ (e : Located). e.locator)) c.push.ensures.items ∙ map-append (λ (e : Located). e.locator) es (record { place = p; locator = m } ∷ [])))
          (push_more (λ (k : ℕ) (u : Multiples). Are f (always (locator f n (get_or zs k 0))) u.rows) none (map (λ (e : Located). e.locator) es) i m size
          (subst (λ x. Are f (always x) m.rows) (c.power.ensures ∙ ap (λ z. power f (n - 1 - z)) (c.from.ensures ∙ sym is)) c.scalar_multiples.ensures) c.loop-place.invariant.1),
    )

pub returns-clause-places : goal.returns-clause-places
returns-clause-places g c = c.loop-place.invariant.0 ∙ take_all c.loop-place.place-index c.args.places.now (omega (arith, ap length c.as_slice-place-items.ensures.value, c.loop-place-test.false))

pub returns-clause-multiples : goal.returns-clause-multiples
returns-clause-multiples g c k h = c.loop-place.invariant.1 k (omega (arith, ap length c.as_slice-place-items.ensures.value, c.loop-place-test.false))
