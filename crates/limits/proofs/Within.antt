-- Numbers that are within their limits, as facts.
use Rattle.std.proofs.Common.{◌≡◌, ℕ, ◌+◌, ◌-◌, ◌*◌, ◌≤◌, Bool, true, false, cond, ◌&&◌, eqb, leb, List, [], ◌∷◌, ◌++◌, Some, None, Option, Ok, Err, sym, refl, ap, ◌∙◌, mul-le-mul, mul-add, arith}
use Rattle.std.proofs.lemmas.Bool.{and_parts, leb-true}
use Rattle.limits.specs.declared.numbers.PlanNumbers.{PlanNumbers}
use Rattle.limits.specs.declared.numbers.PlanNumber.{PlanNumber}
use Rattle.limits.specs.Limits.{Limit, on_bare, air_length, limits, code_limits, stage_limits, carrier_limits, first_wrong, first_out, judged, within, all_hold, body_length, data_length, coded_length, mark_count, between}

-- the limits of the outer code
pub record CodeWithin (p : PlanNumbers) : Type 0 where
  pub field_low : 1 ≤ p.field
  pub field_high : p.field ≤ 2
  pub root : p.root ≤ 254
  pub words_low : 1 ≤ p.words
  pub words_high : p.words ≤ 16
  pub length_low : 1 ≤ p.length
  pub length_high : p.length ≤ 253
  pub errors_low : 1 ≤ p.errors
  pub errors_high : p.errors ≤ 16
  pub room : p.length + 2 * p.errors ≤ 255

-- the limits of the stages above it
pub record StagesWithin (p : PlanNumbers) : Type 0 where
  pub seed : p.seed ≤ 32767
  pub check : p.check ≤ 1
  pub body : 1 ≤ p.words * p.length - p.check

-- the limits of the line
pub record LineWithin (p : PlanNumbers) : Type 0 where
  pub rate_low : 1 ≤ p.rate
  pub rate_high : p.rate ≤ 4
  pub rows : 1 ≤ p.rows
  pub columns : 1 ≤ p.columns
  pub marks : mark_count p ≤ p.rows * p.columns
  pub air : p.rows * p.columns ≤ 98304

between_parts : (low high x : ℕ) → between low high x ≡ true → (low ≤ x) × (x ≤ high)
between_parts low high x h = let a = and_parts (leb low x) (leb x high) h in (leb-true low x a.0, leb-true x high a.1)

-- none is wrong where all hold, and only there
pub none_wrong : (ls : List Limit) → first_wrong ls ≡ None → all_hold ls ≡ true
none_wrong [] h = refl
none_wrong (l ∷ ls) h = go (none_wrong ls) l.holds h
  where
    go : (first_wrong ls ≡ None → all_hold ls ≡ true) → (b : Bool) → cond b (first_wrong ls) (Some l.number) ≡ None → (b && all_hold ls) ≡ true
    go rest true n = rest n
    go rest false n = absurd (let z : ◌≡◌ {A = ℕ} 0 1 = cc in omega arith)

pub all_none : (ls : List Limit) → all_hold ls ≡ true → first_wrong ls ≡ None
all_none [] h = refl
all_none (l ∷ ls) h =
    let both = and_parts l.holds (all_hold ls) h in
    ap (λ (b : Bool). cond b (first_wrong ls) (Some l.number)) both.0 ∙ all_none ls both.1

-- the first of two lists is judged first
pub later_wrong : (xs ys : List Limit) → first_wrong xs ≡ None → first_wrong (xs ++ ys) ≡ first_wrong ys
later_wrong [] ys h = refl
later_wrong (x ∷ xs) ys h =
    let both = and_parts x.holds (all_hold xs) (none_wrong (x ∷ xs) h) in
    ap (λ (b : Bool). cond b (first_wrong (xs ++ ys)) (Some x.number)) both.0 ∙ later_wrong xs ys (all_none xs both.1)

pub sooner_wrong : (xs ys : List Limit) (w : PlanNumber) → first_wrong xs ≡ Some w → first_wrong (xs ++ ys) ≡ Some w
sooner_wrong [] ys w h = absurd (let z : ◌≡◌ {A = ℕ} 0 1 = cc in omega arith)
sooner_wrong (x ∷ xs) ys w h = go (sooner_wrong xs ys w) x.holds h
  where
    go : (first_wrong xs ≡ Some w → first_wrong (xs ++ ys) ≡ Some w) → (b : Bool) → cond b (first_wrong xs) (Some x.number) ≡ Some w → cond b (first_wrong (xs ++ ys)) (Some x.number) ≡ Some w
    go rest true e = rest e
    go rest false e = e

-- the parts of all limits
pub parts_hold : (p : PlanNumbers) → all_hold (limits p) ≡ true → (all_hold (code_limits p) ≡ true) × (all_hold (stage_limits p) ≡ true) × (all_hold (carrier_limits p) ≡ true)
parts_hold p h =
    let c = none_first (code_limits p) (stage_limits p ++ carrier_limits p) h in
    let s = none_first (stage_limits p) (carrier_limits p) c.1 in
    (c.0, s.0, s.1)
  where
    none_first : (xs ys : List Limit) → all_hold (xs ++ ys) ≡ true → (all_hold xs ≡ true) × (all_hold ys ≡ true)
    none_first [] ys k = (refl, k)
    none_first (x ∷ xs) ys k =
        let both = and_parts x.holds (all_hold (xs ++ ys)) k in
        let rest = none_first xs ys both.1 in
        (ap (λ (b : Bool). b && all_hold xs) both.0 ∙ rest.0, rest.1)

pub code_within : (p : PlanNumbers) → all_hold (code_limits p) ≡ true → CodeWithin p
code_within p h =
    let field = and_parts _ _ h in
    let root = and_parts _ _ field.1 in
    let words = and_parts _ _ root.1 in
    let long = and_parts _ _ words.1 in
    let errors = and_parts _ _ long.1 in
    let each = and_parts _ _ errors.0 in
    record {
      field_low = (between_parts 1 2 p.field field.0).0;
      field_high = (between_parts 1 2 p.field field.0).1;
      root = leb-true _ _ root.0;
      words_low = (between_parts 1 16 p.words words.0).0;
      words_high = (between_parts 1 16 p.words words.0).1;
      length_low = (between_parts 1 253 p.length long.0).0;
      length_high = (between_parts 1 253 p.length long.0).1;
      errors_low = (between_parts 1 16 p.errors each.0).0;
      errors_high = (between_parts 1 16 p.errors each.0).1;
      room = leb-true _ _ each.1;
    }

pub stages_within : (p : PlanNumbers) → all_hold (stage_limits p) ≡ true → StagesWithin p
stages_within p h =
    let seed = and_parts _ _ h in
    let check = and_parts _ _ seed.1 in
    let each = and_parts _ _ check.0 in
    record { seed = leb-true _ _ seed.0; check = leb-true _ _ each.0; body = leb-true _ _ each.1 }

-- the carrier is the bare one or the line
pub carrier_within : (p : PlanNumbers) → all_hold (carrier_limits p) ≡ true → p.carrier ≤ 1
carrier_within p h = leb-true _ _ (and_parts _ _ h).0

line_tests : (p : PlanNumbers) (a b : Bool) → eqb p.carrier 0 ≡ false → cond (eqb p.carrier 0) a b ≡ true → b ≡ true
line_tests p a b line k = ap (λ (t : Bool). cond t a b) (sym line) ∙ k

pub line_within : (p : PlanNumbers) → all_hold (carrier_limits p) ≡ true → eqb p.carrier 0 ≡ false → LineWithin p
line_within p h line =
    let rest = (and_parts _ _ h).1 in
    let rate = and_parts _ _ rest in
    let rows = and_parts _ _ rate.1 in
    let rates = between_parts 1 4 p.rate (line_tests p (eqb p.rate 0) (between 1 4 p.rate) line rate.0) in
    let columns = and_parts _ _ (line_tests p (eqb p.columns 0) (leb 1 p.columns && between (mark_count p) 98304 (p.rows * p.columns)) line (and_parts _ _ rows.1).0) in
    let room = between_parts (mark_count p) 98304 (p.rows * p.columns) columns.1 in
    record {
      rate_low = rates.0;
      rate_high = rates.1;
      rows = leb-true _ _ (line_tests p (eqb p.rows 0) (leb 1 p.rows) line rows.0);
      columns = leb-true _ _ columns.0;
      marks = room.0;
      air = room.1;
    }

-- the limits of numbers that are within them
pub record Sound (p : PlanNumbers) : Type 0 where
  pub code : CodeWithin p
  pub stages : StagesWithin p
  pub carrier : p.carrier ≤ 1
  pub line : eqb p.carrier 0 ≡ false → LineWithin p

pub sound : (p : PlanNumbers) → within p ≡ true → Sound p
unfolding within
sound p h =
    let parts = parts_hold p h in
    record {
      code = code_within p parts.0;
      stages = stages_within p parts.1;
      carrier = carrier_within p parts.2;
      line = line_within p parts.2;
    }

-- what refuses numbers, and what does not
pub some_judged : (o : Option PlanNumber) (w : PlanNumber) → Err w ≡ judged o → o ≡ Some w
some_judged None w h = absurd (let z : ◌≡◌ {A = ℕ} 0 1 = cc in omega arith)
some_judged (Some v) w h = cc

pub none_judged : (o : Option PlanNumber) → Ok tt ≡ judged o → o ≡ None
none_judged None h = refl
none_judged (Some v) h = absurd (let z : ◌≡◌ {A = ℕ} 0 1 = cc in omega arith)

-- three judges, one after another
pub first_by_code : (p : PlanNumbers) (w : PlanNumber) → first_wrong (code_limits p) ≡ Some w → first_out p ≡ Some w
unfolding first_out
first_by_code p w h = sooner_wrong (code_limits p) (stage_limits p ++ carrier_limits p) w h

pub first_by_stages : (p : PlanNumbers) (w : PlanNumber) → first_wrong (code_limits p) ≡ None → Err w ≡ judged (first_wrong (stage_limits p)) → first_out p ≡ Some w
unfolding first_out
first_by_stages p w h k =
    later_wrong (code_limits p) (stage_limits p ++ carrier_limits p) h ∙ sooner_wrong (stage_limits p) (carrier_limits p) w (some_judged (first_wrong (stage_limits p)) w k)

pub first_by_carrier : (p : PlanNumbers) → first_wrong (code_limits p) ≡ None → Ok tt ≡ judged (first_wrong (stage_limits p)) → first_out p ≡ first_wrong (carrier_limits p)
unfolding first_out
first_by_carrier p h k =
    later_wrong (code_limits p) (stage_limits p ++ carrier_limits p) h ∙ later_wrong (stage_limits p) (carrier_limits p) (none_judged (first_wrong (stage_limits p)) k)

pub none_out : (p : PlanNumbers) → first_out p ≡ None → within p ≡ true
unfolding first_out within
none_out p h = none_wrong (limits p) h

-- the data of sound numbers have a length from 1 to 4,048
pub data_low : (p : PlanNumbers) → Sound p → 1 ≤ data_length p
data_low p s = mul-le-mul s.code.words_low s.code.length_low

pub data_high : (p : PlanNumbers) → Sound p → data_length p ≤ 4048
data_high p s = mul-le-mul s.code.words_high s.code.length_high

-- the words together
pub coded_high : (p : PlanNumbers) → Sound p → coded_length p ≤ 4080
coded_high p s = mul-le-mul s.code.words_high s.code.room

-- the symbols of a block
pub air_high : (p : PlanNumbers) → Sound p → air_length p ≤ 98304
air_high p s = go (on_bare p) refl
  where
    go : (b : Bool) → on_bare p ≡ b → cond b (coded_length p) (p.rows * p.columns) ≤ 98304
    go true e = omega (arith, coded_high p s)
    go false e = (s.line e).air

pub body_high : (p : PlanNumbers) → Sound p → body_length p ≤ 4048
body_high p s = omega (arith, data_high p s)

-- a body is no longer than its words
pub body_coded : (p : PlanNumbers) → Sound p → body_length p ≤ coded_length p
body_coded p s = omega (arith, mul-add p.words p.length (2 * p.errors))

pub coded_low : (p : PlanNumbers) → Sound p → 1 ≤ coded_length p
coded_low p s = omega (arith, body_coded p s, s.stages.body)
