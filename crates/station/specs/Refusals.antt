-- Each refusal's number, depth and place.
use Rattle.std.specs.Prelude.{◌≡◌}
use Rattle.stack.specs.declared.fault.Report.{Report}
use Rattle.stack.specs.Faults.{numbered}
use Rattle.station.specs.declared.refusal.Refused.{Refused}
use Rattle.station.specs.declared.refusal.Refused.TheVariants.{Full, Carrier}

-- a count that would pass 65,535
abbrev pub full_report : Report
full_report = numbered 9

-- a refusal, where the carrier's own has a report
abbrev pub refused_report : {E : Type 0} → (E → Report) → Refused E → Report
refused_report report Full = full_report
refused_report report (Carrier e) = report e

-- an answer that is another station's, or where none is owed
abbrev pub unanswered_report : Report
unanswered_report = numbered 7

-- a station that owes answers
abbrev pub owing_report : Report
owing_report = numbered 8

-- it is refused by the carrier, with such a refusal
abbrev pub CarrierSays : {E : Type 0} → (E → Type 0) → Refused E → Type 0
CarrierSays {E} Says r = (e : E) × Says e × (r ≡ Carrier e)
