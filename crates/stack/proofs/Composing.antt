-- Every stack of stages on a carrier is the composition of its parts.
use Rattle.std.proofs.Common.{◌≡◌, ℕ, ◌+◌, ◌<◌, ◌≤◌, max, List, [], ◌∷◌, ◌++◌, reverse, length, Ok, Err, Result, sym, refl, ap, ◌∙◌, arith}
use Rattle.std.proofs.lemmas.List.{length_push, reverse-append}
use Rattle.stack.specs.declared.corrections.Corrections.{Corrections}
use Rattle.stack.specs.declared.fault.Fault.{Fault}
use Rattle.stack.specs.declared.fault.CarrierFault.{CarrierFault}
use Rattle.stack.specs.Meaning.{Corrected, Received, StageMeaning, CarrierMeaning, decoded, raised, stacked}
use Rattle.stack.specs.Rules.{CarrierRule}
use Rattle.stack.specs.Stacks.{stack_of, top_body, Stand, longest, encoded_down, decoded_one, decoded_up, received_up, Composed, StacksCompose, Nests}
use Rattle.stack.specs.Stacking.{stacked_rule}

-- one stage more on top
top_one : (n : Corrections) (w : Result Corrected Fault) → decoded_one Ok 0 n w ≡ decoded n w
unfolding decoded_one
top_one n (Ok d) = refl
top_one n (Err f) = refl

raised_one : (s : StageMeaning) (j k : Received → Result Received CarrierFault) (m : ℕ) → ((g : Received) → j g ≡ raised s (k g))
    → (n : Corrections) (w : Result Corrected Fault) → decoded_one j (m + 1) n w ≡ raised s (decoded_one k m n w)
unfolding decoded_one
raised_one s j k m e n (Ok d) = e (record { body = d.body; counts = record { symbols = n.symbols; bytes = n.bytes + d.count } })
raised_one s j k m e n (Err f) = refl

decoded_more : (xs : List StageMeaning) (s : StageMeaning) (g : Received) → decoded_up (xs ++ s ∷ []) g ≡ raised s (decoded_up xs g)
unfolding decoded_up
decoded_more [] s g = top_one g.counts (s.decode g.body)
decoded_more (x ∷ xs) s g =
    ap (λ m. decoded_one (decoded_up (xs ++ s ∷ [])) m g.counts (x.decode g.body)) (length_push xs s)
    ∙ raised_one s (decoded_up (xs ++ s ∷ [])) (decoded_up xs) (length xs) (decoded_more xs s) g.counts (x.decode g.body)

received_more : (xs : List StageMeaning) (s : StageMeaning) (v : Result Received CarrierFault) → received_up (xs ++ s ∷ []) v ≡ raised s (received_up xs v)
unfolding received_up
received_more xs s (Ok g) = decoded_more xs s g
received_more xs s (Err f) =
    let e : f.depth + length (xs ++ s ∷ []) ≡ f.depth + length xs + 1 = simp length_push (omega arith) in
    ap (λ d. Err (record { depth = d; fault = f.fault })) e

received_none : (v : Result Received CarrierFault) → v ≡ received_up [] v
unfolding received_up decoded_up
received_none (Ok g) = refl
received_none (Err f) =
    let e : f.depth ≡ f.depth + 0 = omega arith in
    ap (λ d. Err (record { depth = d; fault = f.fault })) e

-- the stage's lower length is a body below it, so it adds nothing to the need
need_is : (upper lower body need rest : ℕ) → lower ≡ body → body ≤ need → need ≡ rest → max upper (max lower need) ≡ max upper rest
need_is upper lower body need rest e h f = omega arith

pub stacks_compose : {R : Type 0} (c : CarrierMeaning R) → CarrierRule c → StacksCompose c
unfolding stack_of top_body Stand longest encoded_down
stacks_compose c rule [] stand high = record {
  rule = rule;
  body = refl;
  air = refl;
  height = omega arith;
  byte_need = refl;
  step_need = refl;
  clean = refl;
  sent = λ x. refl;
  got = λ rs. received_none (c.got rs);
}
stacks_compose c rule (s ∷ ss) stand high =
    let below : Composed ss c = stacks_compose c rule ss stand.2 (omega arith) in
    let tall : (stack_of ss c).height < 32 = omega (arith, below.height) in
    let meet : s.lower ≡ (stack_of ss c).body = stand.1 ∙ sym below.body in
    record {
      rule = stacked_rule stand.0 below.rule (record { lengths = meet; below = tall });
      body = refl;
      air = below.air;
      height = omega (arith, below.height);
      byte_need = need_is s.upper s.lower (stack_of ss c).body (stack_of ss c).byte_need (longest ss c) meet below.rule.need_low below.byte_need;
      step_need = below.step_need;
      clean = below.clean;
      sent = λ x. below.sent (s.encode x);
      got = λ rs. ap (raised s) (below.got rs) ∙ sym (received_more (reverse ss) s (c.got rs)) ∙ ap (λ l. received_up l (c.got rs)) (sym (reverse-append (s ∷ []) ss));
    }

pub nests : {R : Type 0} (s : StageMeaning) (c : CarrierMeaning R) → Nests s c
unfolding stack_of
nests s c ss foot e = ap (stacked s) e
