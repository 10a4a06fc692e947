-- What one call adds to the counts.
use Rattle.std.proofs.Common.{◌≡◌, ℕ, ◌+◌, ◌≤◌, add-zero, Bool, true, false, cond, eqb, Ok, Err, Result, refl, ap, ◌∙◌, arith}
use Rattle.std.proofs.lemmas.Bool.{eqb-false}
use Rattle.stack.specs.declared.fault.CarrierFault.{CarrierFault}
use Rattle.stack.specs.declared.fault.Misfit.{Misfit}
use Rattle.stack.specs.declared.fault.Refusal.{Refusal}
use Rattle.stack.specs.declared.fault.Refusal.TheVariants.{Early, Late}
use Rattle.stack.specs.Meaning.{Received, CarrierMeaning}
use Rattle.station.specs.declared.answer.Given.{Given}
use Rattle.station.specs.declared.counts.Counts.{Counts}
use Rattle.station.specs.declared.refusal.Refused.{Refused}
use Rattle.station.specs.declared.refusal.Refused.TheVariants.{Full, Carrier}
use Rattle.station.specs.Counting.{unless_full, read_out, if_judged}
use Rattle.station.specs.Events.{Event, Wrote, Read, Acknowledged, Declined, Counted, Step}
use Rattle.station.specs.Runs.{one_if_ok, one_if_late, writes, gives, refuses, tries, acknowledges, declines, symbols_in, bytes_in, symbols_of, bytes_of}

-- an answer cannot be both
no_both : {X E : Type 0} {x : X} {e : E} {P : Type 0} → Ok x ≡ Err e → P
no_both d =
    let z : ◌≡◌ {A = ℕ} 0 1 = cc d in
    let no : ⊥ = omega arith in
    elim no [ ]

-- a call that went on was not at 65,535
not_full : {E : Type 0} (early : Misfit → E) (count : ℕ) (j : Result (Unit {0}) Misfit) → Ok tt ≡ unless_full early count j → count ≡ 65535 → ⊥
not_full early count (Ok u) e f = no_both (e ∙ ap (λ m. cond (eqb m 65535) (Err Full) (Ok tt)) f)
not_full early count (Err m) e f = no_both e

-- what a read that gives a body says
pub record Says (n b : ℕ) (v : Result Received CarrierFault) (g : Given) : Type 0 where
  pub symbols : g.corrections.symbols ≡ symbols_in v
  pub bytes : g.corrections.bytes ≡ bytes_in v
  pub answer : g.answer ≡ record { station = n; block = b }

pub given_says : (n b : ℕ) (j : Result (Unit {0}) (Refused Refusal)) (v : Result Received CarrierFault) (g : Given) → Ok g ≡ if_judged j (read_out n b v) → Says n b v g
given_says n b (Ok u) (Ok d) g e =
    let same : g ≡ record { corrections = d.counts; answer = record { station = n; block = b } } = cc e in
    record { symbols = ap (λ x. x.corrections.symbols) same; bytes = ap (λ x. x.corrections.bytes) same; answer = ap (λ x. x.answer) same }
given_says n b (Ok u) (Err f) g e = no_both e
given_says n b (Err r) v g e = no_both e

-- the counts, each raised by what a call counts
abbrev pub raised : {R : Type 0} → CarrierMeaning R → Counts → Event R → Counts
raised c k e = record {
  written = k.written + writes e;
  tried = k.tried + tries e;
  given = k.given + gives e;
  refused = k.refused + refuses e;
  acknowledged = k.acknowledged + acknowledges e;
  declined = k.declined + declines e;
  symbols = k.symbols + symbols_of c e;
  bytes = k.bytes + bytes_of c e;
}

pub moved : {R : Type 0} (c : CarrierMeaning R) (n : ℕ) (k : Counts) (e : Event R) (k' : Counts) → Step c n k e k' → k' ≡ raised c k e
moved c n k (Wrote a b m (Ok u)) k' (p, q) = q ∙ simp add-zero refl
moved c n k (Wrote a b m (Err e)) k' (p, q) = q ∙ simp add-zero refl
moved c n k (Read a b t rs (Ok g)) k' (p, q) =
    let says = given_says n (k.tried + 1) _ (c.got rs) g p in
    q ∙ simp (add-zero, says.symbols, says.bytes) refl
moved c n k (Read a b t rs (Err (Carrier (Early f)))) k' (p, q) = q ∙ simp add-zero refl
moved c n k (Read a b t rs (Err Full)) k' (p, q) = q ∙ simp add-zero refl
moved c n k (Read a b t rs (Err (Carrier (Late f)))) k' (p, q) = q ∙ simp add-zero refl
moved c n k (Acknowledged p (Ok b)) k' (e, q) = q ∙ simp add-zero refl
moved c n k (Acknowledged p (Err u)) k' (e, q) = q ∙ simp add-zero refl
moved c n k (Declined p (Ok b)) k' (e, q) = q ∙ simp add-zero refl
moved c n k (Declined p (Err u)) k' (e, q) = q ∙ simp add-zero refl
moved c n k (Counted m) k' (p, q) = q ∙ simp add-zero refl

-- reads: tried is given and refused
pub tried_both : {R : Type 0} (e : Event R) → tries e ≡ gives e + refuses e
tried_both (Wrote a b m r) = refl
tried_both (Read a b t rs r) = refl
tried_both (Acknowledged p r) = refl
tried_both (Declined p r) = refl
tried_both (Counted k) = refl

-- a count that rises was below its limit
pub write_below : {R : Type 0} (c : CarrierMeaning R) (n : ℕ) (k : Counts) (e : Event R) (k' : Counts) → Step c n k e k' → k.written ≤ 65535 → k.written + writes e ≤ 65535
write_below c n k (Wrote a b m (Ok u)) k' (p, q) h = let below : k.written ≡ 65535 → ⊥ = not_full _ k.written _ p in omega arith
write_below c n k (Wrote a b m (Err e)) k' (p, q) h = omega arith
write_below c n k (Read a b t rs r) k' s h = omega arith
write_below c n k (Acknowledged p r) k' s h = omega arith
write_below c n k (Declined p r) k' s h = omega arith
write_below c n k (Counted m) k' s h = omega arith

-- a read counts at most once
at_most_one : (r : Result Given (Refused Refusal)) → one_if_ok r + one_if_late r ≤ 1
at_most_one (Ok g) = omega arith
at_most_one (Err (Carrier (Early m))) = omega arith
at_most_one (Err Full) = omega arith
at_most_one (Err (Carrier (Late f))) = omega arith

-- a tried read was not at 65,535
read_below : (n b count : ℕ) (j : Result (Unit {0}) Misfit) (v : Result Received CarrierFault) (r : Result Given (Refused Refusal)) → r ≡ if_judged (unless_full Early count j) (read_out n b v)
    → count ≤ 65535 → count + (one_if_ok r + one_if_late r) ≤ 65535
read_below n b count (Ok u) v r e h = go (eqb count 65535) refl e
  where
    go : (full : Bool) → eqb count 65535 ≡ full → r ≡ if_judged (cond full (Err Full) (Ok tt)) (read_out n b v) → count + (one_if_ok r + one_if_late r) ≤ 65535
    go true f e = omega (arith, ap (λ x. one_if_ok x + one_if_late x) e)
    go false f e = let below : count ≡ 65535 → ⊥ = eqb-false count 65535 f in omega (arith, at_most_one r)
read_below n b count (Err m) v r e h = omega (arith, ap (λ x. one_if_ok x + one_if_late x) e)

pub try_below : {R : Type 0} (c : CarrierMeaning R) (n : ℕ) (k : Counts) (e : Event R) (k' : Counts) → Step c n k e k' → k.tried ≤ 65535 → k.tried + tries e ≤ 65535
try_below c n k (Wrote a b m r) k' s h = omega arith
try_below c n k (Read a b t rs r) k' (p, q) h = read_below n (k.tried + 1) k.tried _ (c.got rs) r p h
try_below c n k (Acknowledged p r) k' s h = omega arith
try_below c n k (Declined p r) k' s h = omega arith
try_below c n k (Counted m) k' s h = omega arith
