-- After every list of calls on a tuned station, the counts add up.
use Rattle.std.proofs.Common.{◌≡◌, ℕ, ◌+◌, List, [], ◌∷◌, ◌++◌, Ok, sym, refl, ap, ◌∙◌, subst, append_assoc, arith}
use Rattle.std.proofs.lemmas.List.Elements.{All-nil}
use Rattle.stack.specs.Meaning.{CarrierMeaning}
use Rattle.station.specs.declared.answer.Given.{Given}
use Rattle.station.specs.declared.counts.Counts.{Counts}
use Rattle.station.specs.Events.{Event, Read}
use Rattle.station.specs.Runs.{total, writes, gives, refuses, tries, acknowledges, declines, symbols_of, bytes_of, State, Next, Run, tuned, RunsAddUp}
use Rattle.station.proofs.Holding.{Of, Balanced, balanced_next, held_accepted}
use Rattle.station.proofs.Moving.{given_says, moved}

total_more : {R : Type 0} (f : Event R → ℕ) (e : Event R) (es : List (Event R)) → total f (e ∷ es) ≡ f e + total f es
unfolding total
total_more f e es = refl

total_none : {R : Type 0} (f : Event R → ℕ) → total f [] ≡ 0
unfolding total
total_none f = refl

total-append : {R : Type 0} (f : Event R → ℕ) (xs ys : List (Event R)) → total f (xs ++ ys) ≡ total f xs + total f ys
total-append f [] ys = omega (arith, total_none f)
total-append f (x ∷ xs) ys = omega (arith, total_more f x (xs ++ ys), total-append f xs ys, total_more f x xs)

-- every count rises by the sum over the list
record Rose {R : Type 0} (c : CarrierMeaning R) (k : Counts) (es : List (Event R)) (k' : Counts) : Type 0 where
  pub written : k'.written ≡ k.written + total writes es
  pub tried : k'.tried ≡ k.tried + total tries es
  pub given : k'.given ≡ k.given + total gives es
  pub refused : k'.refused ≡ k.refused + total refuses es
  pub acknowledged : k'.acknowledged ≡ k.acknowledged + total acknowledges es
  pub declined : k'.declined ≡ k.declined + total declines es
  pub symbols : k'.symbols ≡ k.symbols + total (symbols_of c) es
  pub bytes : k'.bytes ≡ k.bytes + total (bytes_of c) es

rise_none : {R : Type 0} (f : Event R → ℕ) (a b : ℕ) → b ≡ a → b ≡ a + total f []
rise_none f a b q = omega (arith, total_none f)

rise_more : {R : Type 0} (f : Event R → ℕ) (e : Event R) (es : List (Event R)) (a b d : ℕ) → b ≡ a + f e → d ≡ b + total f es → d ≡ a + total f (e ∷ es)
rise_more f e es a b d p q = omega (arith, total_more f e es)

rose : {R : Type 0} (c : CarrierMeaning R) (n : ℕ) (s : State) (es : List (Event R)) (s' : State) → Run c n s es s' → Rose c s.counts es s'.counts
unfolding Run
rose c n s [] s' q =
    let k : s'.counts ≡ s.counts = ap (λ x. x.counts) q in
    record {
      written = rise_none writes _ _ (ap (λ x. x.written) k);
      tried = rise_none tries _ _ (ap (λ x. x.tried) k);
      given = rise_none gives _ _ (ap (λ x. x.given) k);
      refused = rise_none refuses _ _ (ap (λ x. x.refused) k);
      acknowledged = rise_none acknowledges _ _ (ap (λ x. x.acknowledged) k);
      declined = rise_none declines _ _ (ap (λ x. x.declined) k);
      symbols = rise_none (symbols_of c) _ _ (ap (λ x. x.symbols) k);
      bytes = rise_none (bytes_of c) _ _ (ap (λ x. x.bytes) k);
    }
rose c n s (e ∷ es) s' (m, x, run) =
    let one = moved c n s.counts e m.counts x.step in
    let rest = rose c n m es s' run in
    record {
      written = rise_more writes e es _ _ _ (ap (λ x. x.written) one) rest.written;
      tried = rise_more tries e es _ _ _ (ap (λ x. x.tried) one) rest.tried;
      given = rise_more gives e es _ _ _ (ap (λ x. x.given) one) rest.given;
      refused = rise_more refuses e es _ _ _ (ap (λ x. x.refused) one) rest.refused;
      acknowledged = rise_more acknowledges e es _ _ _ (ap (λ x. x.acknowledged) one) rest.acknowledged;
      declined = rise_more declines e es _ _ _ (ap (λ x. x.declined) one) rest.declined;
      symbols = rise_more (symbols_of c) e es _ _ _ (ap (λ x. x.symbols) one) rest.symbols;
      bytes = rise_more (bytes_of c) e es _ _ _ (ap (λ x. x.bytes) one) rest.bytes;
    }

balanced : {R : Type 0} (c : CarrierMeaning R) (n : ℕ) (s : State) (es : List (Event R)) (s' : State) → Run c n s es s' → Balanced n s → Balanced n s'
unfolding Run
balanced c n s [] s' q b = subst (Balanced n) (sym q) b
balanced c n s (e ∷ es) s' (m, x, run) b = balanced c n m es s' run (balanced_next c n s e m x b)

-- a run of two lists has a state between them
between : {R : Type 0} (c : CarrierMeaning R) (n : ℕ) (s : State) (xs ys : List (Event R)) (s' : State) → Run c n s (xs ++ ys) s' → (m : State) × Run c n s xs m × Run c n m ys s'
unfolding Run
between c n s [] ys s' run = (s, refl, run)
between c n s (x ∷ xs) ys s' (m, next, run) =
    let more = between c n m xs ys s' run in
    (more.0, (m, next, more.1), more.2)

-- no call, and one call more: by these a program carries its run from call to call
pub run_none : {R : Type 0} (c : CarrierMeaning R) (n : ℕ) (s : State) → Run c n s [] s
unfolding Run
run_none c n s = refl

pub run_push : {R : Type 0} (c : CarrierMeaning R) (n : ℕ) (s : State) (es : List (Event R)) (e : Event R) (m s' : State) → Run c n s es m → Next c n m e s' → Run c n s (es ++ e ∷ []) s'
unfolding Run
run_push c n s [] e m s' q next = (s', subst (λ x. Next c n x e s') q next, refl)
run_push c n s (x ∷ xs) e m s' (b, first, run) next = (b, first, run_push c n b xs e m s' run next)

first_next : {R : Type 0} (c : CarrierMeaning R) (n : ℕ) (s : State) (e : Event R) (es : List (Event R)) (s' : State) → Run c n s (e ∷ es) s' → (m : State) × Next c n s e m
unfolding Run
first_next c n s e es s' (m, next, run) = (m, next)

-- a block's number is that of the reads tried before it, and 1
block_of : {R : Type 0} (c : CarrierMeaning R) (n : ℕ) (s : State) (before after : List (Event R)) (a b t : List ℕ) (rs : List R) (g : Given) (s' : State) → Run c n s (before ++ Read a b t rs (Ok g) ∷ after) s'
    → g.answer ≡ record { station = n; block = s.counts.tried + total tries before + 1 }
block_of c n s before after a b t rs g s' run =
    let parts = between c n s before (Read a b t rs (Ok g) ∷ after) s' run in
    let one = first_next c n parts.0 (Read a b t rs (Ok g)) after s' parts.2 in
    let says = given_says n (parts.0.counts.tried + 1) _ (c.got rs) g one.1.step.0 in
    let same : parts.0.counts.tried + 1 ≡ s.counts.tried + total tries before + 1 = omega (arith, (rose c n s before parts.0 parts.1).tried) in
    says.answer ∙ ap (λ m. record { station = n; block = m }) same

tuned_balanced : (n : ℕ) → Balanced n tuned
tuned_balanced n = record { tried_sum = refl; given_sum = refl; written_high = omega arith; tried_high = omega arith; own = All-nil (Of n) }

from_none : (a b : ℕ) → a ≡ 0 + b → a ≡ b
from_none a b e = omega arith

pub runs_add_up : {R : Type 0} (c : CarrierMeaning R) (n : ℕ) → RunsAddUp c n
runs_add_up {R} c n es s run =
    let b = balanced c n tuned es s run (tuned_balanced n) in
    let sums = rose c n tuned es s run in
    let numbered : (before after : List (Event R)) (a b t : List ℕ) (rs : List R) (g : Given) → es ≡ before ++ Read a b t rs (Ok g) ∷ after → g.answer ≡ record { station = n; block = total tries before + 1 } =
    λ before after a b t rs g q.
    let at : 0 + total tries before + 1 ≡ total tries before + 1 = omega arith in
    block_of c n tuned before after a b t rs g s (subst (λ l. Run c n tuned l s) q run) ∙ ap (λ m. record { station = n; block = m }) at in
    record {
      tried_sum = b.tried_sum;
      given_sum = b.given_sum;
      written_high = b.written_high;
      tried_high = b.tried_high;
      written = from_none _ _ sums.written;
      tried = from_none _ _ sums.tried;
      given = from_none _ _ sums.given;
      refused = from_none _ _ sums.refused;
      acknowledged = from_none _ _ sums.acknowledged;
      declined = from_none _ _ sums.declined;
      symbols = from_none _ _ sums.symbols;
      bytes = from_none _ _ sums.bytes;
      numbered = numbered;
      rising = λ before between after a b t x y z rs qs g h q.
          let first = ap (λ p. p.block) (numbered before (between ++ Read x y z qs (Ok h) ∷ after) a b t rs g q) in
          let front : List (Event R) = before ++ Read a b t rs (Ok g) ∷ between in
          let second = ap (λ p. p.block) (numbered front after x y z qs h (q ∙ sym (append_assoc before (Read a b t rs (Ok g) ∷ between) (Read x y z qs (Ok h) ∷ after)))) in
          omega (arith, first, second, total-append tries before (Read a b t rs (Ok g) ∷ between), total_more tries (Read a b t rs (Ok g)) between);
      accepted = held_accepted n s b;
    }
