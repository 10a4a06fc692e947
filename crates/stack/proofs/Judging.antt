-- What a caller of `put` or `get` knows of a call that did not refuse.
use Rattle.std.proofs.Common.{◌≡◌, ℕ, ◌≤◌, List, length, take, Ok, Err, Result, refl, arith, MatchResult}
use Rattle.std.proofs.lemmas.Bool.Decides.{nat_tests}
use Rattle.stack.specs.declared.corrections.Corrections.{Corrections}
use Rattle.stack.specs.declared.fault.Misfit.{Misfit}
use Rattle.stack.specs.declared.fault.Refusal.{Refusal}
use Rattle.stack.specs.Calls.{judged, told, Sent, Held, Put, Get}
use Rattle.stack.specs.Faults.{early}
use Rattle.stack.specs.Meaning.{CarrierMeaning}

-- the call went on where its answer is no refusal of what was lent
accepted : {T E : Type 0} (j : Result (Unit {0}) Misfit) (w : Misfit → E) (r : Result T E) (n : T) (X A B C : Type 0)
    → MatchResult j (λ _. X) (λ f. (r ≡ Err (w f)) × A × B × C) → r ≡ Ok n → (j ≡ Ok tt) × X
accepted (Ok u) w r n X A B C k e = (refl, k)
accepted (Err f) w r n X A B C k e =
    let z : ◌≡◌ {A = ℕ} 0 1 = cc (k.0, e) in
    let no : ⊥ = omega arith in
    elim no [ ]

judged_room : (need first second step_need steps air list : ℕ) → judged need first second step_need steps air list ≡ Ok tt → need ≤ first
judged_room need first second step_need steps air list e = grind (arith, nat_tests)

pub put_accepted : {R : Type 0} (F : Type 0) (c : CarrierMeaning R) (a b m : List ℕ) (r : Result (Unit {0}) Misfit) (a' b' m' : List ℕ)
    → Put F c a b m r a' b' m' → r ≡ Ok tt → (c.byte_need ≤ length a) × (F → Sent (c.sent (take c.body a)) a b a' b' m')
put_accepted F c a b m r a' b' m' k e =
    let j = accepted (judged c.byte_need (length a) (length b) 0 0 c.air (length m)) (λ f. f) r tt ((r ≡ Ok tt) × (F → Sent (c.sent (take c.body a)) a b a' b' m')) (a' ≡ a) (b' ≡ b) (m' ≡ m) k e in
    (judged_room c.byte_need (length a) (length b) 0 0 c.air (length m) j.0, j.1.1)

pub get_accepted : {R : Type 0} (F : Type 0) (c : CarrierMeaning R) (a b t : List ℕ) (rs : List R) (r : Result Corrections Refusal) (n : Corrections) (a' b' t' : List ℕ)
    → Get F c a b t rs r a' b' t' → r ≡ Ok n → F → (r ≡ told (c.got rs)) × Held (c.got rs) a b t a' b' t'
get_accepted F c a b t rs r n a' b' t' k e =
    (accepted (judged c.byte_need (length a) (length b) c.step_need (length t) c.air (length rs)) early r n (F → (r ≡ told (c.got rs)) × Held (c.got rs) a b t a' b' t') (a' ≡ a) (b' ≡ b) (t' ≡ t) k e).1
