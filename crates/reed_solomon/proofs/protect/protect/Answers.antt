-- What stands is protected.
use Rattle.reed_solomon.proofs.Damage.{protects}
use Rattle.reed_solomon.proofs.Judged.{limits_of}
use Rattle.reed_solomon.proofs.protect.protect.Goals as goal

pub returns-in-Err-clause-protected : goal.returns-in-Err-clause-protected
returns-in-Err-clause-protected g c fit meets = protects _ (g.met.F.Field.rule _) c.args.code.root c.args.code.words c.args.code.length c.args.code.errors (limits_of c.args.code) _ (g.met.C.Carrier.rule _ fit) meets

pub returns-clause-protected : goal.returns-clause-protected
returns-clause-protected g c fit meets = protects _ (g.met.F.Field.rule _) c.args.code.root c.args.code.words c.args.code.length c.args.code.errors (limits_of c.args.code) _ (g.met.C.Carrier.rule _ fit) meets
