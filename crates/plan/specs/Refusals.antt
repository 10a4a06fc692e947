-- Why a call by a plan refuses readings, in numbers.
use Rattle.stack.specs.declared.fault.Refusal.{Refusal}
use Rattle.stack.specs.declared.fault.Report.{Report}
use Rattle.stack.specs.Faults.{reported}
use Rattle.limits.specs.declared.numbers.PlanNumber.TheVariants.{Carrier}
use Rattle.plan.specs.declared.refusal.PlanRefusal.{PlanRefusal}
use Rattle.plan.specs.declared.refusal.PlanRefusal.TheVariants.{OtherCarrier, Stack}
use Rattle.limits.specs.Limits.{plan_report}

-- readings of the other carrier are refused as the plan's number of the carrier would be; the stack's refusals as they are
abbrev pub plan_reported : PlanRefusal → Report
plan_reported OtherCarrier = plan_report Carrier
plan_reported (Stack f) = reported f

-- a refusal of the plan's stack
abbrev pub refused_by_plan : Refusal → PlanRefusal
refused_by_plan f = Stack f
