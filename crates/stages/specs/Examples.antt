-- Worked examples of the stages.
use Rattle.std.specs.Prelude.{◌≡◌, [], ◌∷◌}
use Rattle.stages.specs.Checking.{checking}
use Rattle.stages.specs.Randomising.{randomising}

pub record Examples : Type 0 where
  -- the check bytes of 01 and 02 hex
  pub check_01 : (checking 1).encode (0x01 ∷ []) ≡ 0x01 ∷ 0x97 ∷ []
  pub check_02 : (checking 1).encode (0x02 ∷ []) ≡ 0x02 ∷ 0xB9 ∷ []
  -- the seed 4A80 hex on four zero bytes
  pub sequence : (randomising 0x4A80 4 4).encode (0 ∷ 0 ∷ 0 ∷ 0 ∷ []) ≡ 0x03 ∷ 0xF6 ∷ 0x08 ∷ 0x34 ∷ []
