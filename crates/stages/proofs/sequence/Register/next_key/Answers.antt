-- The register added to itself one place on has the eight sums in its bits 7 to 14; they go into the eight lowest bits, and the seven first stages stand above them.
use Rattle.std.proofs.Common.{◌∙◌, subst}
use Rattle.stages.specs.Sequence.{Holds}
use Rattle.stages.specs.Registers.{advanced_holds, held_lowest, key_is_sums, lowest_held}
use Rattle.stages.proofs.sequence.Register.next_key.Goals as goal

pub returns : goal.returns
returns c =
    let holds : Holds c.self.inside.stages c.args.self.now = subst (Holds c.self.inside.stages) c.self.view_is (held_lowest c.self.invariant) in
    record { key = key_is_sums holds; register = lowest_held (advanced_holds holds (c.from.ensures ∙ key_is_sums holds)) }
