-- What the code tells, as the workings and the meaning have it: the step that a number of the list
-- is found to be, and what is found of the list.
use Rattle.std.specs.Prelude.{Result, Ok, Err}
use Rattle.field.specs.declared.Place.{Place}
use Rattle.field.specs.declared.reasons.Reason.{Reason}
use Rattle.field.specs.declared.reasons.Fault.{Fault}
use Rattle.field.specs.Reasons.{no_fault, reason_number}
use Rattle.field.specs.Checks.{Finding}
use Rattle.field.specs.Workings.Checking.{Step, fault}

-- The crossing reached, or the reason.
abbrev pub step_told : Result Place Reason → Step
step_told (Ok p) = record { reason = no_fault; x = p.x; y = p.y }
step_told (Err r) = fault (reason_number r)

-- The list is accepted, or at fault there and for that.
abbrev pub finding_told : Result (Unit {0}) Fault → Finding
finding_told (Ok _) = record { reason = no_fault; position = 0 }
finding_told (Err f) = record { reason = reason_number f.reason; position = f.position }
