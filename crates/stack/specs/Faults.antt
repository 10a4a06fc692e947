-- Each refusal's number, depth and place.
use Rattle.std.specs.Prelude.{◌≡◌, ℕ, ◌+◌, ◌≤◌, ◌⊎◌}
use Rattle.stack.specs.declared.fault.Fault.{Fault}
use Rattle.stack.specs.declared.fault.Fault.TheVariants.{NoCodeWord, CheckByte, Other}
use Rattle.stack.specs.declared.fault.CarrierFault.{CarrierFault}
use Rattle.stack.specs.declared.fault.Misfit.{Misfit}
use Rattle.stack.specs.declared.fault.Misfit.TheVariants.{Buffers, AirLength}
use Rattle.stack.specs.declared.fault.Refusal.{Refusal}
use Rattle.stack.specs.declared.fault.Refusal.TheVariants.{Early, Late as ForReadings}
use Rattle.stack.specs.declared.fault.Report.{Report}

-- the number of a part's refusal
abbrev pub fault_number : Fault → ℕ
fault_number (NoCodeWord word) = 5
fault_number CheckByte = 6
fault_number (Other code place) = 100 + code

-- its place
abbrev pub fault_place : Fault → ℕ
fault_place (NoCodeWord word) = word
fault_place CheckByte = 0
fault_place (Other code place) = place

-- the numbers by which a part may refuse: one given to a make of this repository, or 100 and up
abbrev pub Late : ℕ → Type 0
Late n = (n ≡ 5) ⊎ ((n ≡ 6) ⊎ (100 ≤ n))

-- a refusal that is told at the top: depth 0, place 0
abbrev pub numbered : ℕ → Report
numbered n = record { number = n; depth = 0; place = 0 }

-- what does not fit is told at the top
abbrev pub misfit_report : Misfit → Report
misfit_report Buffers = numbered 3
misfit_report AirLength = numbered 4

-- the fault of a carrier, at its depth
abbrev pub fault_report : CarrierFault → Report
fault_report f = record { number = fault_number f.fault; depth = f.depth; place = fault_place f.fault }

-- every refusal of `get`
abbrev pub reported : Refusal → Report
reported (Early m) = misfit_report m
reported (ForReadings f) = fault_report f

-- a stage and a carrier that cannot be stacked
abbrev pub unstacked_report : Report
unstacked_report = numbered 2

-- the fault of a stage, seen from the top of its stack
abbrev pub at_top : Fault → CarrierFault
at_top f = record { depth = 0; fault = f }

-- a fault from below, seen from one stage higher
abbrev pub deeper : CarrierFault → CarrierFault
deeper f = record { depth = f.depth + 1; fault = f.fault }

-- what does not fit is refused early
abbrev pub early : Misfit → Refusal
early m = Early m

-- what readings say is refused late
abbrev pub late : CarrierFault → Refusal
late f = ForReadings f
