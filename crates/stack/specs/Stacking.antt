-- A stage that keeps its rule, set on a carrier that keeps its own, is a carrier that keeps it.
use Rattle.std.specs.Prelude.{◌≡◌, ℕ, ◌+◌, ◌-◌, ◌*◌, ◌^◌, ◌<◌, ◌≤◌, min, List, length, take, IsErrAnd, Ok, Err, Result, refl}
use Rattle.std.proofs.Common.{sym, ap, ◌∙◌, arith}
use Rattle.std.proofs.lemmas.List.{length-take-le}
use Rattle.stack.specs.declared.corrections.Corrections.{Corrections}
use Rattle.stack.specs.declared.fault.Fault.{Fault}
use Rattle.stack.specs.declared.fault.CarrierFault.{CarrierFault}
use Rattle.stack.specs.Buffers.{zeros}
use Rattle.stack.specs.Calls.{counted, decoded_into, Encoded, Decoded, answered, received_into, Sent, Got}
use Rattle.stack.specs.Faults.{at_top}
use Rattle.stack.specs.Meaning.{Corrected, Received, StageMeaning, CarrierMeaning, decoded, raised, stacked, Meets}
use Rattle.stack.specs.Rules.{Decodes, StageRule, Receives, CarrierRule}
use Rattle.stack.specs.Bodies.{length-padded, take-padded, length-zeros}

-- an answer cannot be both
no_both : {X E : Type 0} {x : X} {e : E} {P : Type 0} → Ok x ≡ Err e → P
no_both d =
    let z : ◌≡◌ {A = ℕ} 0 1 = cc d in
    let no : ⊥ = omega arith in
    elim no [ ]

-- what a stack leaves after `send`
pub stacked-sent : {R : Type 0} {s : StageMeaning} {c : CarrierMeaning R} {a b a1 b1 a2 b2 m : List ℕ} → StageRule s → Meets s c → s.upper ≤ length a → s.lower ≤ length b
    → Encoded (s.encode (take s.upper a)) a b a1 b1 → Sent (c.sent (take c.body b1)) b1 a1 b2 a2 m
    → Sent (c.sent (s.encode (take s.upper a))) a b a2 b2 m
stacked-sent {s} {c} {a} {b} {a1} {b1} rule meets high low e p =
    let y : List ℕ = s.encode (take s.upper a) in
    let len : length y ≡ s.lower = rule.encode_length (take s.upper a) (length-take-le s.upper a high) in
    let same : take c.body b1 ≡ y = take-padded (length b) c.body y b1 e.to (len ∙ meets.lengths) in
    let lb : length b1 ≡ length b = ap length e.to ∙ length-padded (length b) y (omega arith) in
    record {
      symbols = p.symbols ∙ ap c.sent same;
      first = p.second ∙ ap zeros (length-zeros (length a) a1 e.from);
      second = p.first ∙ ap zeros lb;
    }

-- the answer of a stack, as the code adds it up
abbrev joined : Corrections → Result ℕ Fault → Result Corrections CarrierFault
joined n (Ok k) = Ok (record { symbols = n.symbols; bytes = min (n.bytes + k) (2 ^ 32 - 1) })
joined n (Err f) = Err (at_top f)

joined_is : (s : StageMeaning) (n : Corrections) (w : Result Corrected Fault) (h : ℕ) → h < 32 → n.bytes ≤ 98304 * h → Decodes s w → joined n (counted w) ≡ answered (decoded n w)
joined_is s n (Ok d) h l b k =
    let e : min (n.bytes + d.count) (2 ^ 32 - 1) ≡ n.bytes + d.count = omega (arith, k.count) in
    ap (λ x. Ok (record { symbols = n.symbols; bytes = x })) e
joined_is s n (Err f) h l b k = refl

into_same : (n : ℕ) (k : Corrections) (w : Result Corrected Fault) → decoded_into n w ≡ received_into n (decoded k w)
into_same n k (Ok d) = refl
into_same n k (Err f) = refl

-- what a stack leaves after `receive`, where its carrier gave a body
stacked_got : {R : Type 0} {s : StageMeaning} {c : CarrierMeaning R} (v : Result Received CarrierFault) {below : Corrections} {r : Result ℕ Fault} {q : Result Corrections CarrierFault}
    {a b t a1 b1 t1 a2 b2 : List ℕ} → StageRule s → Meets s c → Receives c v → s.lower ≤ length b
    → Got v b a t (Ok below) b1 a1 t1 → Decoded (s.decode (take s.lower b1)) b1 a1 r b2 a2 → q ≡ joined below r
    → Got (raised s v) a b t q a2 b2 t1
stacked_got {s = s} {c = c} (Ok g) {below = below} {a = a} {b = b} {a1 = a1} {b1 = b1} rule meets w low p d e =
    let h = p.held in
    let len : length g.body ≡ s.lower = w.body ∙ sym meets.lengths in
    let same : take s.lower b1 ≡ g.body = take-padded (length b) s.lower g.body b1 h.first len in
    let la : length a1 ≡ length a = length-zeros (length a) a1 h.second in
    let lb : length b1 ≡ length b = ap length h.first ∙ length-padded (length b) g.body (omega arith) in
    let n : below ≡ g.counts = cc p.answer in
    record {
      answer = e ∙ (λ i. joined (n i) ((d.answer ∙ ap (λ y. counted (s.decode y)) same) i))
          ∙ joined_is s g.counts (s.decode g.body) c.height meets.below w.bytes (rule.decodes g.body len);
      held = record {
        first = d.to ∙ (λ i. decoded_into (la i) (s.decode (same i))) ∙ into_same (length a) g.counts (s.decode g.body);
        second = d.from ∙ ap zeros lb;
        steps = h.steps;
      };
    }
stacked_got (Err f) rule meets w low p d e = no_both p.answer

pub stacked_gave : {R : Type 0} {s : StageMeaning} {c : CarrierMeaning R} {v : Result Received CarrierFault} {below : Corrections} {r : Result ℕ Fault} {k n : ℕ}
    {a b t a1 b1 t1 a2 b2 : List ℕ} → StageRule s → Meets s c → Receives c v → s.lower ≤ length b
    → Got v b a t (Ok below) b1 a1 t1 → Decoded (s.decode (take s.lower b1)) b1 a1 r b2 a2 → r ≡ Ok k → n ≡ min (below.bytes + k) (2 ^ 32 - 1)
    → Got (raised s v) a b t (Ok (record { symbols = below.symbols; bytes = n })) a2 b2 t1
stacked_gave {v = v} {below = below} rule meets w low p d o e = stacked_got v rule meets w low p d (ap (λ n. Ok (record { symbols = below.symbols; bytes = n })) e ∙ ap (joined below) (sym o))

-- where its stage refused
at_top_is : (below : Corrections) (q : Result Corrections CarrierFault) {f : Fault} {r : Result ℕ Fault} → IsErrAnd q (λ h. h ≡ at_top f) → r ≡ Err f → q ≡ joined below r
at_top_is below (Ok n) k o = elim k [ ]
at_top_is below (Err h) k o = ap Err k ∙ ap (joined below) (sym o)

pub stacked_stopped : {R : Type 0} {s : StageMeaning} {c : CarrierMeaning R} {v : Result Received CarrierFault} {below : Corrections} {r : Result ℕ Fault} {f : Fault} {q : Result Corrections CarrierFault}
    {a b t a1 b1 t1 a2 b2 : List ℕ} → StageRule s → Meets s c → Receives c v → s.lower ≤ length b
    → Got v b a t (Ok below) b1 a1 t1 → Decoded (s.decode (take s.lower b1)) b1 a1 r b2 a2 → r ≡ Err f → IsErrAnd q (λ h. h ≡ at_top f)
    → Got (raised s v) a b t q a2 b2 t1
stacked_stopped {v = v} {below = below} {q = q} rule meets w low p d o k = stacked_got v rule meets w low p d (at_top_is below q k o)

-- and where its carrier refused
stacked_err : {R : Type 0} {s : StageMeaning} {c : CarrierMeaning R} (v : Result Received CarrierFault) {f : CarrierFault} {n : ℕ} {a b t a1 b1 t1 : List ℕ} → Meets s c → Receives c v
    → Got v b a t (Err f) b1 a1 t1 → n ≡ min (f.depth + 1) (2 ^ 32 - 1)
    → Got (raised s v) a b t (Err (record { depth = n; fault = f.fault })) a1 b1 t1
stacked_err (Ok g) meets w p e = no_both (sym p.answer)
stacked_err (Err h) {f = f} {n = n} meets w p e =
    let o : f ≡ h = cc p.answer in
    let m : n ≡ f.depth + 1 = omega (arith, meets.below, w.depth, ap (λ x. x.depth) o) in
    record {
      answer = λ i. Err (record { depth = (m ∙ ap (λ x. x.depth + 1) o) i; fault = (o i).fault });
      held = record { first = p.held.second; second = p.held.first; steps = p.held.steps };
    }

pub stacked-refused : {R : Type 0} {s : StageMeaning} {c : CarrierMeaning R} {v : Result Received CarrierFault} {f : CarrierFault} {n : ℕ} {a b t a1 b1 t1 : List ℕ} → Meets s c → Receives c v
    → Got v b a t (Err f) b1 a1 t1 → n ≡ min (f.depth + 1) (2 ^ 32 - 1)
    → Got (raised s v) a b t (Err (record { depth = n; fault = f.fault })) a1 b1 t1
stacked-refused {v = v} meets w p e = stacked_err v meets w p e

-- the rule

decoded_receives : {R : Type 0} (s : StageMeaning) (c : CarrierMeaning R) (n : Corrections) (w : Result Corrected Fault) → n.symbols ≤ 98304 → n.bytes ≤ 98304 * c.height
    → Decodes s w → Receives (stacked s c) (decoded n w)
decoded_receives s c n (Ok d) l b k = record { body = k.body; symbols = l; bytes = omega (arith, k.count) }
decoded_receives s c n (Err f) l b k = record { number = k; depth = omega arith }

raised_receives : {R : Type 0} (s : StageMeaning) (c : CarrierMeaning R) (v : Result Received CarrierFault) → StageRule s → Meets s c → Receives c v → Receives (stacked s c) (raised s v)
raised_receives s c (Ok g) rule meets w = decoded_receives s c g.counts (s.decode g.body) w.symbols w.bytes (rule.decodes g.body (w.body ∙ sym meets.lengths))
raised_receives s c (Err f) rule meets w = record { number = w.number; depth = omega (arith, w.depth) }

pub stacked_rule : {R : Type 0} {s : StageMeaning} {c : CarrierMeaning R} → StageRule s → CarrierRule c → Meets s c → CarrierRule (stacked s c)
stacked_rule {s = s} {c = c} rule below meets = record {
  body = rule.upper;
  air = below.air;
  height_low = omega arith;
  height_high = omega (arith, meets.below);
  need_low = omega arith;
  need_high = omega (arith, rule.upper.high, rule.lower.high, below.need_high);
  sent_length = λ x h. below.sent_length (s.encode x) (rule.encode_length x h ∙ meets.lengths);
  clean_length = below.clean_length;
  receives = λ rs h. raised_receives s c (c.got rs) rule meets (below.receives rs h);
  returns = λ x h k. ap (raised s) (below.returns (s.encode x) (rule.encode_length x h ∙ meets.lengths) (rule.encode_bytes x h k)) ∙ ap (decoded (record { symbols = 0; bytes = 0 })) (rule.returns x h k);
}
