-- Short lists of places in an array of sixteen bytes.
use Rattle.std.specs.Prelude.{◌≡◌, ℕ, ◌-◌, ◌≤◌, List, ◌++◌, length, take, drop, replicate}
use Rattle.std.proofs.Common.{sym, ap, ◌∙◌, arith}
use Rattle.std.proofs.lemmas.List.{length-take-le, take-append-drop}

-- sixteen bytes begin with so many places, and are zero behind them
pub record Stored (at : List ℕ) (count : ℕ) : Type 0 where
  pub long : length at ≡ 16
  pub few : count ≤ 16
  pub rest : drop count at ≡ replicate (16 - count) 0

-- sixteen bytes that begin with these places, and are zero behind them
abbrev pub stored : List ℕ → List ℕ
stored zs = zs ++ replicate (16 - length zs) 0

-- the array and the count come back from the places
module _ {at : List ℕ} {count : ℕ} (h : Stored at count) where
  pub count_back : length (take count at) ≡ count
  count_back = length-take-le count at (omega (arith, h.few, h.long))

  pub array_back : stored (take count at) ≡ at
  array_back =
      ap (λ n. take count at ++ replicate (16 - n) 0) count_back ∙ ap (λ l. take count at ++ l) (sym h.rest) ∙ take-append-drop count at
