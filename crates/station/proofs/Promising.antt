-- The whole promise, from the laws of its parts.
use Rattle.std.proofs.Common.{◌≡◌, ℕ, ◌+◌, ◌*◌, ◌≤◌, mul-le-mul, arith}
use Rattle.galois.specs.Bytes.{ByteField, FieldRule}
use Rattle.reed_solomon.specs.Coding.{Limits}
use Rattle.reed_solomon.specs.Coded.{coding_rule}
use Rattle.reed_solomon.proofs.Damage.{protects}
use Rattle.stack.specs.Meaning.{CarrierMeaning}
use Rattle.stack.specs.Rules.{CarrierRule}
use Rattle.stack.proofs.Composing.{stacks_compose}
use Rattle.stages.specs.Moved.{interleaving_rule}
use Rattle.station.specs.Promise.{OuterCode, Promise}
use Rattle.station.proofs.Running.{runs_add_up}

outer_code : {R : Type 0} (f : ByteField) → FieldRule f → (r words k e : ℕ) → Limits r words k e → (d : CarrierMeaning R) → CarrierRule d → d.body ≡ words * (k + 2 * e) → OuterCode f r words k e d
outer_code f field r words k e limits d rule meets =
    let small : words * (k + 2 * e) ≤ 16 * 255 = mul-le-mul limits.words_high limits.room in
    record {
      code = coding_rule f field r words k e limits;
      interleaver = interleaving_rule words (k + 2 * e) limits.words_low (omega (arith, limits.data_low)) (omega (arith, small));
      bears = protects f field r words k e limits d rule meets;
    }

pub promised : {R : Type 0} (c : CarrierMeaning R) (n : ℕ) → CarrierRule c → Promise c n
promised c n rule = record { carrier = rule; stacks = stacks_compose; outer_code = outer_code; stations = runs_add_up c n }
