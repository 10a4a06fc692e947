-- What a carrier sends comes back.
use Rattle.std.proofs.Common.{◌≡◌, ℕ, List, length, take, Ok, Err, Result, sym, refl, ap, ◌∙◌, arith}
use Rattle.std.proofs.lemmas.List.{length-replicate, length-take-le, places}
use Rattle.stack.specs.declared.corrections.Corrections.{Corrections}
use Rattle.stack.specs.declared.fault.Misfit.{Misfit}
use Rattle.stack.specs.declared.fault.Refusal.{Refusal}
use Rattle.stack.specs.Buffers.{Bytes}
use Rattle.stack.specs.Calls.{Put, Get, Sent, told, received_into}
use Rattle.stack.specs.Meaning.{CarrierMeaning}
use Rattle.stack.specs.Rules.{CarrierRule}
use Rattle.stack.proofs.Judging.{put_accepted, get_accepted}
use Rattle.airblock.specs.Loops.{Looped}

pub looped : (F : Type 0) (c : CarrierMeaning ℕ) → (F → CarrierRule c) → (a b t m a1 b1 m1 a2 b2 t2 : List ℕ) (p : Result (Unit {0}) Misfit) (r : Result Corrections Refusal)
    → Bytes a → Put F c a b m p a1 b1 m1 → p ≡ Ok tt → Get F c a1 b1 t m1 r a2 b2 t2 → Looped F c a a2 m1 r
looped F c rule a b t m a1 b1 m1 a2 b2 t2 p (Err f) bytes put e get fit clean = tt
looped F c rule a b t m a1 b1 m1 a2 b2 t2 p (Ok n) bytes put e get fit clean =
    let x : List ℕ = take c.body a in
    let took = put_accepted F c a b m p a1 b1 m1 put e in
    let sent : Sent (c.sent x) a b a1 b1 m1 = took.1 fit in
    let got = get_accepted F c a1 b1 t m1 (Ok n) n a2 b2 t2 get refl fit in
    let len : length x ≡ c.body = length-take-le c.body a (omega (arith, took.0, (rule fit).need_low)) in
    let back : c.got m1 ≡ Ok (record { body = x; counts = record { symbols = 0; bytes = 0 } }) =
    ap c.got (sent.symbols ∙ sym (clean (c.sent x))) ∙ (rule fit).returns x len (λ k. grind (arith, places, bytes k)) in
    let same : Ok n ≡ Ok (record { symbols = 0; bytes = 0 }) = got.0 ∙ ap told back in
    (cc same, got.1.first ∙ (λ i. received_into ((ap length sent.first ∙ length-replicate (length a) 0) i) (back i)), sent.symbols)
