-- An entry that is run is refused for a word without a near code word, or for a byte that is no mark.
use Rattle.std.proofs.Common.{◌≡◌, ℕ, zero, suc, ◌+◌, ◌*◌, Bool, true, false, cond, ◌&&◌, eqb, ◌⊎◌, List, [], ◌∷◌, ◌++◌, map, Some, None, Ok, Err, Option, Result, sym, refl, subst, inl, inr, eq-eqb}
use Rattle.std.proofs.lemmas.Bool.{and_parts, eqb-true}
use Rattle.galois.specs.Bytes.{ByteField}
use Rattle.plan.specs.declared.listed.Listed.{Listed}
use Rattle.limits.specs.declared.numbers.PlanNumbers.{PlanNumbers}
use Rattle.limits.specs.Numbers.{numbers_of}
use Rattle.plan.specs.Listed.{table, among, listed, layout_of}
use Rattle.limits.specs.Limits.{body_length, coded_length, data_length, rate_of}
use Rattle.limits.specs.Limits.{on_bare}
use Rattle.plan.specs.Stacks.{Layout, plan_on, plan_stages, randomiser_part, code_part, bare_plan, line_plan, field_of}
use Rattle.line.specs.Line.{lining}
use Rattle.readings.specs.Readings.{hard_cost, clean_hard, soft_cost, clean_soft}
use Rattle.readings.specs.Samples.{soft_of}
use Rattle.reed_solomon.specs.Coding.{words_decoded, with_word, then_word, word, differing}
use Rattle.stages.specs.Checking.{checking}
use Rattle.stages.specs.Randomising.{randomising}
use Rattle.stack.specs.Bare.{bare}
use Rattle.outer.specs.Nearest.{nearest}
use Rattle.stack.specs.declared.corrections.Corrections.{Corrections}
use Rattle.stack.specs.declared.fault.Fault.{Fault}
use Rattle.stack.specs.declared.fault.CarrierFault.{CarrierFault}
use Rattle.stack.specs.Faults.{fault_number}
use Rattle.stack.specs.Meaning.{Corrected, Received, StageMeaning, CarrierMeaning, decoded, raised}
use Rattle.stack.specs.Stacks.{stack_of}
use Rattle.book.specs.declared.contents.Kind.{Kind}
use Rattle.book.specs.declared.contents.Kind.TheVariants.{Body, Block, Soft, Samples}
use Rattle.book.specs.declared.fault.EntryFault.{EntryFault}
use Rattle.book.specs.Contents.{line_at, kind_of}
use Rattle.book.specs.Faults.{entry_report}
use Rattle.book.specs.Running.{TwoRefusals, read, read_marks, mark_of, signed, samples, outcome, outcome_by, entry_outcome, entry_bytes, first_over}

-- no listed plan has a check byte
unchecked : List Listed → Bool
unchecked [] = true
unchecked (r ∷ rs) = eqb (numbers_of r.1).check 0 && unchecked rs

table_unchecked : unchecked table ≡ true
unfolding table unchecked
table_unchecked = refl

-- what is looked up has none
Unchecked : Option Layout → Type 0
Unchecked None = Unit {0}
Unchecked (Some l) = l.numbers.check ≡ 0

one_unchecked : (b : Bool) (r : Listed) (o : Option Layout) → (numbers_of r.1).check ≡ 0 → Unchecked o → Unchecked (cond b (Some (layout_of r)) o)
unfolding Unchecked
one_unchecked true r o e k = e
one_unchecked false r o e k = k

among_unchecked : (rs : List Listed) (n : ℕ) → unchecked rs ≡ true → Unchecked (among rs n)
unfolding unchecked Unchecked among
among_unchecked [] n t = tt
among_unchecked (r ∷ rs) n t =
    let both = and_parts _ _ t in
    one_unchecked (eqb r.0 n) r (among rs n) (eqb-true _ _ both.0) (among_unchecked rs n both.1)

-- a stage refuses by 5 only, and so does a carrier
ByWord : Result Corrected Fault → Type 0
ByWord (Ok d) = Unit {0}
ByWord (Err f) = fault_number f ≡ 5

Fives : Result Received CarrierFault → Type 0
Fives (Ok g) = Unit {0}
Fives (Err f) = fault_number f.fault ≡ 5

-- the words of a code
one_word : (w : ℕ) (differ : List ℕ → ℕ) (o : Option (List ℕ)) (d : Corrected) → ByWord (with_word w differ o d)
unfolding ByWord
one_word w differ None d = refl
one_word w differ (Some x) d = tt

next_word : (next : Corrected → Result Corrected Fault) (v : Result Corrected Fault) → ((d : Corrected) → ByWord (next d)) → ByWord v → ByWord (then_word next v)
unfolding ByWord
next_word next (Ok d) h k = h d
next_word next (Err f) h k = k

all_words : (f : ByteField) (r k e w : ℕ) (y : List ℕ) → ByWord (words_decoded f r k e w y)
unfolding ByWord words_decoded
all_words f r k e zero y = tt
all_words f r k e (suc w) y =
    next_word _ (words_decoded f r k e w y) (λ d. one_word w (differing f r e (word (k + 2 * e) w y)) (nearest f r k e (word (k + 2 * e) w y)) d) (all_words f r k e w y)

-- a stage on a carrier, both of which refuse by 5 only
made : (n : Corrections) (v : Result Corrected Fault) → ByWord v → Fives (decoded n v)
unfolding ByWord Fives
made n (Ok d) k = tt
made n (Err f) k = k

raises : (s : StageMeaning) (v : Result Received CarrierFault) → ((y : List ℕ) → ByWord (s.decode y)) → Fives v → Fives (raised s v)
unfolding Fives
raises s (Ok g) h k = made g.counts (s.decode g.body) (h g.body)
raises s (Err f) h k = k

-- any number of such stages
Each : List StageMeaning → Type 0
Each [] = Unit {0}
Each (s ∷ ss) = ((y : List ℕ) → ByWord (s.decode y)) × Each ss

stacks : {R : Type 0} (ss : List StageMeaning) (c : CarrierMeaning R) (rs : List R) → Each ss → Fives (c.got rs) → Fives ((stack_of ss c).got rs)
unfolding Each stack_of
stacks [] c rs h k = k
stacks (s ∷ ss) c rs h k = raises s ((stack_of ss c).got rs) h.0 (stacks ss c rs h.1 k)

-- the stages of a plan without a check byte
coded : (p : PlanNumbers) → Each (code_part p)
unfolding Each ByWord
coded p = (λ y. all_words (field_of p.field) p.root p.length p.errors p.words y, (λ y. tt, tt))

with_randomiser : (p : PlanNumbers) (s : StageMeaning) (b : Bool) → ((y : List ℕ) → ByWord (s.decode y)) → Each (cond b [] (s ∷ []) ++ code_part p)
unfolding Each
with_randomiser p s true h = coded p
with_randomiser p s false h = (h, coded p)

by_plan : {R : Type 0} (p : PlanNumbers) (unit : ℕ) (c : CarrierMeaning R) (rs : List R) → p.check ≡ 0 → Fives (c.got rs) → Fives ((plan_on p unit c).got rs)
unfolding plan_on ByWord
by_plan p unit c rs e k =
    let lower : Each (randomiser_part p unit ++ code_part p) = with_randomiser p (randomising p.seed unit (data_length p)) (eqb p.seed 0) (λ y. tt) in
    stacks (plan_stages p unit) c rs (subst (λ (b : Bool). Each (cond b [] (checking (body_length p) ∷ []) ++ (randomiser_part p unit ++ code_part p))) (sym (eq-eqb p.check 0 e)) lower) k

on_line : {R : Type 0} (cost : R → ℕ → ℕ) (clean : ℕ → R) (p : PlanNumbers) (unit : ℕ) (rs : List R) → p.check ≡ 0 → Fives ((line_plan cost clean p unit).got rs)
unfolding Fives
on_line cost clean p unit rs e = by_plan p unit (lining cost clean (rate_of p.rate) p.rows p.columns (coded_length p)) rs e tt

on_bytes : (p : PlanNumbers) (unit : ℕ) (bs : List ℕ) → p.check ≡ 0 → Fives ((bare_plan p unit).got bs)
unfolding Fives
on_bytes p unit bs e = by_plan p unit (bare (coded_length p)) bs e tt

-- an entry's answer
OneOfTwo : Result Corrections EntryFault → Type 0
OneOfTwo (Ok n) = Unit {0}
OneOfTwo (Err w) = ((entry_report w).number ≡ 5) ⊎ ((entry_report w).number ≡ 17)

after_read : (n : ℕ) (v : Result Received CarrierFault) → Fives v → OneOfTwo (read n v).answer
unfolding OneOfTwo Fives
after_read n (Ok g) k = tt
after_read n (Err f) k = inl k

after-marks : (p : PlanNumbers) (unit : ℕ) (bs : List ℕ) (o : Option ℕ) → p.check ≡ 0 → OneOfTwo (read_marks p unit bs o).answer
unfolding OneOfTwo
after-marks p unit bs None e = after_read (body_length p) _ (on_line hard_cost clean_hard p unit (map mark_of bs) e)
after-marks p unit bs (Some i) e = inr refl

after_block : (b : Bool) (p : PlanNumbers) (unit : ℕ) (bs : List ℕ) → p.check ≡ 0 → OneOfTwo (cond b (read (body_length p) ((bare_plan p unit).got bs)) (read_marks p unit bs (first_over 0 bs))).answer
after_block true p unit bs e = after_read (body_length p) _ (on_bytes p unit bs e)
after_block false p unit bs e = after-marks p unit bs (first_over 0 bs) e

after_job : (k : Kind) (p : PlanNumbers) (unit : ℕ) (bs : List ℕ) → p.check ≡ 0 → OneOfTwo (outcome k p unit bs).answer
unfolding OneOfTwo
after_job Body p unit bs e = tt
after_job Block p unit bs e = after_block (on_bare p) p unit bs e
after_job Soft p unit bs e = after_read (body_length p) _ (on_line soft_cost clean_soft p unit (map signed bs) e)
after_job Samples p unit bs e = after_read (body_length p) _ (on_line soft_cost clean_soft p unit (map soft_of (samples bs)) e)

after_entry : (o : Option Layout) (k : Option Kind) (bs : List ℕ) → Unchecked o → OneOfTwo (outcome_by o k bs).answer
unfolding OneOfTwo Unchecked
after_entry None k bs h = tt
after_entry (Some l) None bs h = tt
after_entry (Some l) (Some k) bs h = after_job k l.numbers l.unit bs h

pub only_two : (f : List ℕ) → TwoRefusals f
unfolding entry_outcome OneOfTwo
only_two f right e w h is =
    subst OneOfTwo is (after_entry (listed (line_at f e).plan) (kind_of (line_at f e).kind) (entry_bytes f (line_at f e)) (among_unchecked table (line_at f e).plan table_unchecked))
