-- Every listed plan is within the limits, and its unit divides its data.
use Rattle.std.proofs.Common.{◌≡◌, ℕ, ◌+◌, ◌*◌, ◌/◌, ◌%◌, ◌≤◌, Bool, true, false, cond, ◌&&◌, ◌==◌, eqb, leb, List, [], ◌∷◌, ◌++◌, Some, Option, sym, refl, ap, ◌∙◌, subst, arith}
use Rattle.std.proofs.lemmas.Bool.{and_parts, eqb-true, leb-true}
use Rattle.std.specs.List.{find}
use Rattle.std.specs.Option.{option_map}
use Rattle.convolution.specs.Code.{marks_before}
use Rattle.convolution.specs.declared.rate.Rate.{Rate}
use Rattle.convolution.specs.declared.rate.Rate.TheVariants.{Half, TwoThirds, ThreeQuarters, Third}
use Rattle.convolution.proofs.Pattern.{count_half, count_third, count_two_thirds, count_three_quarters}
use Rattle.plan.specs.declared.listed.Listed.{Listed}
use Rattle.limits.specs.Numbers.{numbers_of}
use Rattle.limits.specs.Limits.{within, all_hold, code_limits, stage_limits, limits_with_marks, coded_length, data_length, rate_of}
use Rattle.plan.specs.Listed.{table, layout_of, among, listed}

-- the number of kept marks, without counting them step by step
counted : Rate → ℕ → ℕ
counted Half n = 2 * n
counted TwoThirds n = n + (n + 1) / 2
counted ThreeQuarters n = n + (n + 2) / 3
counted Third n = 3 * n

counts : (r : Rate) (n : ℕ) → counted r n ≡ marks_before r n
unfolding counted
counts Half n = count_half n
counts TwoThirds n = count_two_thirds n
counts ThreeQuarters n = count_three_quarters n
counts Third n = count_third n

-- a row is within the limits, and whole units make up its data
good : Listed → Bool
good r =
    all_hold (code_limits (numbers_of r.1) ++ (stage_limits (numbers_of r.1) ++ limits_with_marks (counted (rate_of (numbers_of r.1).rate) (8 * coded_length (numbers_of r.1) + 6)) (numbers_of r.1)))
    && (leb 1 r.2 && eqb (data_length (numbers_of r.1) % r.2) 0)

all_good : List Listed → Bool
all_good [] = true
all_good (r ∷ rs) = good r && all_good rs

-- the test of the whole table
table_good : all_good table ≡ true
unfolding table all_good good counted
table_good = refl

good_found : (rs : List Listed) (test : Listed → Bool) (r : Listed) → all_good rs ≡ true → find test rs ≡ Some r → good r ≡ true
unfolding all_good
good_found [] test r t h = absurd (let z : ◌≡◌ {A = ℕ} 0 1 = cc in omega arith)
good_found (s ∷ rs) test r t h = go (good_found rs test r (and_parts (good s) (all_good rs) t).1) (test s) h
  where
    go : (find test rs ≡ Some r → good r ≡ true) → (b : Bool) → cond b (Some s) (find test rs) ≡ Some r → good r ≡ true
    go rest true e = let same : s ≡ r = cc in subst (λ x. good x ≡ true) same (and_parts (good s) (all_good rs) t).0
    go rest false e = rest e

-- the facts of a row
pub record Good (r : Listed) : Type 0 where
  pub inside : within (numbers_of r.1) ≡ true
  pub unit : 1 ≤ r.2
  pub whole : data_length (numbers_of r.1) % r.2 ≡ 0

good_row : (r : Listed) → good r ≡ true → Good r
unfolding good within
good_row r h =
    let p = numbers_of r.1 in
    let both = and_parts _ _ h in
    let units = and_parts _ _ both.1 in
    record {
      inside = ap (λ (m : ℕ). all_hold (code_limits p ++ (stage_limits p ++ limits_with_marks m p))) (sym (counts (rate_of p.rate) (8 * coded_length p + 6))) ∙ both.0;
      unit = leb-true _ _ units.0;
      whole = eqb-true _ _ units.1;
    }

pub good_listed : (n : ℕ) (r : Listed) → Some r ≡ find (λ s. s.0 == n) table → Good r
good_listed n r h = good_row r (good_found table (λ s. s.0 == n) r table_good (sym h))

-- what is laid out is the row that is found
among_find : (rs : List Listed) (n : ℕ) → option_map layout_of (find (λ r. r.0 == n) rs) ≡ among rs n
unfolding among
among_find [] n = refl
among_find (r ∷ rs) n = go (among_find rs n) (r.0 == n)
  where
    go : option_map layout_of (find (λ s. s.0 == n) rs) ≡ among rs n → (b : Bool) → option_map layout_of (cond b (Some r) (find (λ s. s.0 == n) rs)) ≡ cond b (Some (layout_of r)) (among rs n)
    go rest true = refl
    go rest false = rest

pub listed_found : (n : ℕ) (row : Option Listed) → row ≡ find (λ s. s.0 == n) table → option_map layout_of row ≡ listed n
listed_found n row h = ap (option_map layout_of) h ∙ among_find table n
