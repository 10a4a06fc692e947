-- What one call does to the answers held, and what holds between calls.
use Rattle.std.proofs.Common.{◌≡◌, ℕ, ◌+◌, ◌≤◌, cond, not, ◌&&◌, eqb, List, [], ◌∷◌, ◌++◌, length, Ok, Err, sym, refl, ap, ◌∙◌, arith, length-append}
use Rattle.std.proofs.lemmas.Bool.{eq-eqb, ne_eqb}
use Rattle.std.proofs.lemmas.List.Elements.{All-append, All-cons, All-head, All-nil, All-same, All-tail}
use Rattle.std.specs.List.{All}
use Rattle.stack.specs.Meaning.{CarrierMeaning}
use Rattle.station.specs.declared.answer.PendingAnswer.{PendingAnswer}
use Rattle.station.specs.Counting.{owed, spent}
use Rattle.station.specs.Events.{Event, Wrote, Read, Acknowledged, Declined, Counted}
use Rattle.station.specs.Runs.{gives, acknowledges, declines, Without, State, Next}
use Rattle.station.proofs.Moving.{given_says, moved, tried_both, write_below, try_below}

-- one answer fewer is held, and what holds of all holds of the others and of it
fewer : {p : PendingAnswer} {held left : List PendingAnswer} → Without p held left → length held ≡ length left + 1
fewer {p} w =
    let e : length (w.before ++ p ∷ w.after) ≡ length (w.before ++ w.after) + 1 = simp length-append (omega arith) in
    ap length w.had ∙ e ∙ ap (λ l. length l + 1) (sym w.has)

all_front : {X : Type 0} (P : X → Type 0) (xs ys : List X) → All P (xs ++ ys) → All P xs
all_front P [] ys a = All-nil P
all_front P (x ∷ xs) ys a = All-cons P x xs (All-head P x (xs ++ ys) a) (all_front P xs ys (All-tail P x (xs ++ ys) a))

all_back : {X : Type 0} (P : X → Type 0) (xs ys : List X) → All P (xs ++ ys) → All P ys
all_back P [] ys a = a
all_back P (x ∷ xs) ys a = all_back P xs ys (All-tail P x (xs ++ ys) a)

all_left : (P : PendingAnswer → Type 0) {p : PendingAnswer} {held left : List PendingAnswer} → Without p held left → All P held → All P left
all_left P {p} {held} {left} w a =
    let b : All P (w.before ++ p ∷ w.after) = All-same P (w.before ++ p ∷ w.after) held (sym w.had) a in
    All-same P left (w.before ++ w.after) w.has (All-append P w.before w.after (all_front P w.before (p ∷ w.after) b) (All-tail P p w.after (all_back P w.before (p ∷ w.after) b)))

all_taken : (P : PendingAnswer → Type 0) {p : PendingAnswer} {held left : List PendingAnswer} → Without p held left → All P held → P p
all_taken P {p} {held} w a = All-head P p w.after (all_back P w.before (p ∷ w.after) (All-same P (w.before ++ p ∷ w.after) held (sym w.had) a))

-- the answer is station n's
abbrev pub Of : ℕ → PendingAnswer → Type 0
Of n p = p.station ≡ n

-- the answers held are as many as were given and not spent, and this station's
pub record Kept {R : Type 0} (n : ℕ) (held : List PendingAnswer) (e : Event R) (held' : List PendingAnswer) : Type 0 where
  pub many : length held' + acknowledges e + declines e ≡ length held + gives e
  pub own : All (Of n) held'

same_kept : {R : Type 0} (n : ℕ) (held : List PendingAnswer) (e : Event R) (held' : List PendingAnswer) → held' ≡ held → All (Of n) held → acknowledges e ≡ 0 → declines e ≡ 0 → gives e ≡ 0
    → Kept n held e held'
same_kept n held e held' q own a d g = record { many = omega (arith, ap length q); own = All-same (Of n) held' held q own }

kept : {R : Type 0} (c : CarrierMeaning R) (n : ℕ) (s : State) (e : Event R) (s' : State) → Next c n s e s' → All (Of n) s.held → Kept n s.held e s'.held
kept c n s (Wrote a b m r) s' x own = same_kept n s.held (Wrote a b m r) s'.held x.holds own refl refl refl
kept c n s (Read a b t rs (Ok g)) s' x own =
    let says = given_says n (s.counts.tried + 1) _ (c.got rs) g x.step.0 in
    record {
      many = omega (arith, ap length x.holds);
      own = All-same (Of n) s'.held (g.answer ∷ s.held) x.holds (All-cons (Of n) g.answer s.held (ap (λ p. p.station) says.answer) own);
    }
kept c n s (Read a b t rs (Err e)) s' x own = same_kept n s.held (Read a b t rs (Err e)) s'.held x.holds own refl refl refl
kept c n s (Acknowledged p (Ok b)) s' x own = record { many = omega (arith, fewer x.holds); own = all_left (Of n) x.holds own }
kept c n s (Acknowledged p (Err u)) s' x own = same_kept n s.held (Acknowledged p (Err u)) s'.held x.holds own refl refl refl
kept c n s (Declined p (Ok b)) s' x own = record { many = omega (arith, fewer x.holds); own = all_left (Of n) x.holds own }
kept c n s (Declined p (Err u)) s' x own = same_kept n s.held (Declined p (Err u)) s'.held x.holds own refl refl refl
kept c n s (Counted k) s' x own = same_kept n s.held (Counted k) s'.held x.holds own refl refl refl

-- what holds between calls: the sums stand, no count is past its limit, and every answer held is this station's
pub record Balanced (n : ℕ) (s : State) : Type 0 where
  pub tried_sum : s.counts.tried ≡ s.counts.given + s.counts.refused
  pub given_sum : s.counts.given ≡ s.counts.acknowledged + s.counts.declined + length s.held
  pub written_high : s.counts.written ≤ 65535
  pub tried_high : s.counts.tried ≤ 65535
  pub own : All (Of n) s.held

-- a call keeps the balance
pub balanced_next : {R : Type 0} (c : CarrierMeaning R) (n : ℕ) (s : State) (e : Event R) (s' : State) → Next c n s e s' → Balanced n s → Balanced n s'
balanced_next c n s e s' x b =
    let m = moved c n s.counts e s'.counts x.step in
    let h = kept c n s e s' x b.own in
    record {
      tried_sum = omega (arith, ap (λ x. x.tried) m, ap (λ x. x.given) m, ap (λ x. x.refused) m, b.tried_sum, tried_both e);
      given_sum = omega (arith, ap (λ x. x.given) m, ap (λ x. x.acknowledged) m, ap (λ x. x.declined) m, b.given_sum, h.many);
      written_high = omega (arith, ap (λ x. x.written) m, write_below c n s.counts e s'.counts x.step b.written_high);
      tried_high = omega (arith, ap (λ x. x.tried) m, try_below c n s.counts e s'.counts x.step b.tried_high);
      own = h.own;
    }

-- an answer that is held is accepted
pub held_accepted : (n : ℕ) (s : State) → Balanced n s → (p : PendingAnswer) (left : List PendingAnswer) → Without p s.held left → spent n s.counts p ≡ Ok p.block
held_accepted n s b p left w =
    let same : p.station ≡ n = all_taken (Of n) w b.own in
    let some : owed s.counts ≡ 0 → ⊥ = λ z. omega (arith, b.given_sum, fewer w) in
    ap (λ t. cond (t && not (eqb (owed s.counts) 0)) (Ok p.block) (Err (record { answer = p }))) (eq-eqb p.station n same)
    ∙ ap (λ t. cond (not t) (Ok p.block) (Err (record { answer = p }))) (ne_eqb (owed s.counts) 0 some)
