-- The definition by exhaustion, computed: the bits 1, 0, 1 at one half, with two of eighteen readings wrong.
use Rattle.std.proofs.Common.{◌≡◌, ℕ, true, false, cond, eqb, List, [], ◌∷◌, get_or, refl}
use lib.Count.{ones}
use Rattle.convolution.specs.declared.rate.Rate.TheVariants.{Half}
use Rattle.convolution.specs.Code.{window, keeps, kept_from, step_marks, marks_to, marks}
use Rattle.convolution.specs.Cost.{cost_from, total_cost, best, least}

-- what was read of the marks 11 10 00 01 11 10 11 01 11, the second and the ninth turned
abbrev pub readings : List ℕ
readings = 1 ∷ 0 ∷ 1 ∷ 0 ∷ 0 ∷ 0 ∷ 0 ∷ 1 ∷ 0 ∷ 1 ∷ 1 ∷ 0 ∷ 1 ∷ 1 ∷ 0 ∷ 1 ∷ 1 ∷ 1 ∷ []

-- a wrong mark costs 1
abbrev pub price : ℕ → ℕ → ℕ
price i m = cond (eqb (get_or readings i 0) m) 0 1

pub least_example : least Half price 3 ≡ true ∷ false ∷ true ∷ []
unfolding least best total_cost marks marks_to step_marks kept_from keeps window cost_from ones
least_example = refl
