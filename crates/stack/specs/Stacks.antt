-- Any number of stages on a carrier, the top one first in the list.
use Rattle.std.specs.Prelude.{◌≡◌, ℕ, ◌+◌, ◌≤◌, max, List, [], ◌∷◌, reverse, length, Ok, Err, Result}
use Rattle.stack.specs.declared.corrections.Corrections.{Corrections}
use Rattle.stack.specs.declared.fault.Fault.{Fault}
use Rattle.stack.specs.declared.fault.CarrierFault.{CarrierFault}
use Rattle.stack.specs.Meaning.{Corrected, Received, StageMeaning, CarrierMeaning, stacked}
use Rattle.stack.specs.Rules.{StageRule, CarrierRule}

-- the stack of a list of stages on a carrier
unfoldable pub stack_of : {R : Type 0} → List StageMeaning → CarrierMeaning R → CarrierMeaning R
stack_of [] c = c
stack_of (s ∷ ss) c = stacked s (stack_of ss c)

-- the length of the body at the top
unfoldable pub top_body : {R : Type 0} → List StageMeaning → CarrierMeaning R → ℕ
top_body [] c = c.body
top_body (s ∷ ss) c = s.upper

-- each stage keeps its rule, and its lower length is the length of the body below it
unfoldable pub Stand : {R : Type 0} → List StageMeaning → CarrierMeaning R → Type 0
Stand [] c = Unit {0}
Stand (s ∷ ss) c = StageRule s × (s.lower ≡ top_body ss c) × Stand ss c

-- the longest body: that of a stage, or what the carrier needs
unfoldable pub longest : {R : Type 0} → List StageMeaning → CarrierMeaning R → ℕ
longest [] c = c.byte_need
longest (s ∷ ss) c = max s.upper (longest ss c)

-- every `encode`, from the top down
unfoldable pub encoded_down : List StageMeaning → List ℕ → List ℕ
encoded_down [] x = x
encoded_down (s ∷ ss) x = encoded_down ss (s.encode x)

-- one `decode`: the stages above go on with its body and the bytes so far, or it refuses, with so many stages above it
unfoldable pub decoded_one : (Received → Result Received CarrierFault) → ℕ → Corrections → Result Corrected Fault → Result Received CarrierFault
decoded_one rest above n (Ok d) = rest (record { body = d.body; counts = record { symbols = n.symbols; bytes = n.bytes + d.count } })
decoded_one rest above n (Err f) = Err (record { depth = above; fault = f })

-- every `decode` upward, the lowest stage first in this list, until one refuses
unfoldable pub decoded_up : List StageMeaning → Received → Result Received CarrierFault
decoded_up [] g = Ok g
decoded_up (s ∷ ss) g = decoded_one (decoded_up ss) (length ss) g.counts (s.decode g.body)

-- the same after what the carrier gave
unfoldable pub received_up : List StageMeaning → Result Received CarrierFault → Result Received CarrierFault
received_up ss (Ok g) = decoded_up ss g
received_up ss (Err f) = Err (record { depth = f.depth + length ss; fault = f.fault })

-- a stack is the composition of its parts, and a carrier that keeps the carrier rule
pub record Composed {R : Type 0} (ss : List StageMeaning) (c : CarrierMeaning R) : Type 0 where
  pub rule : CarrierRule (stack_of ss c)
  pub body : (stack_of ss c).body ≡ top_body ss c
  pub air : (stack_of ss c).air ≡ c.air
  pub height : (stack_of ss c).height ≡ c.height + length ss
  pub byte_need : (stack_of ss c).byte_need ≡ longest ss c
  pub step_need : (stack_of ss c).step_need ≡ c.step_need
  pub clean : (stack_of ss c).clean ≡ c.clean
  pub sent : (x : List ℕ) → (stack_of ss c).sent x ≡ c.sent (encoded_down ss x)
  pub got : (rs : List R) → (stack_of ss c).got rs ≡ received_up (reverse ss) (c.got rs)

-- every list of stages that stand on a carrier, at most 32 high together, is such a stack
abbrev pub StacksCompose : {R : Type 0} → CarrierMeaning R → Type 0
StacksCompose c = (ss : List StageMeaning) → Stand ss c → c.height + length ss ≤ 32 → Composed ss c

-- a stage set on the stack of a list is the stack of the list that is longer by it
abbrev pub Nests : {R : Type 0} → StageMeaning → CarrierMeaning R → Type 0
Nests {R} s c = (ss : List StageMeaning) (foot : CarrierMeaning R) → c ≡ stack_of ss foot → stacked s c ≡ stack_of (s ∷ ss) foot
