-- What the code answers of each call, as document 01's number and values: on success 0 and the
-- values, and at a refusal its number and zeros.
use Rattle.std.specs.Prelude.{Bool, true, List, ℕ, Result, Ok, Err, Option, None, Some}
use Rattle.field.specs.declared.Labelled.{Labelled}
use Rattle.field.specs.declared.Hops.{Hops}
use Rattle.field.specs.declared.Hops.TheVariants.{There, One, Two}
use Rattle.field.specs.declared.Reading.{Reading}
use Rattle.field.specs.declared.Size.{Size}
use Rattle.field.specs.declared.Place.{Place}
use Rattle.field.specs.declared.refusals.Refusal.{Refusal}
use Rattle.field.specs.declared.reasons.Fault.{Fault}
use Rattle.field.specs.Refusals.{success, number_of}
use Rattle.field.specs.Reasons.{no_fault, reason_number}
use Rattle.field.specs.Hops.{HopAnswer, there, one, two}
use Rattle.calls.specs.Answers.{no_count, no_labelling, no_four, no_assurance, no_hop, no_crossings, no_map, no_bytes, homeward}
use Rattle.calls.specs.SweepsCall.{no_sweeps}
use Rattle.calls.specs.CheckCall.{no_check}
use Rattle.calls.specs.LinesCall.{no_lines_told}
use Rattle.calls.specs.PictureCalls.{not_written, not_read}
use Rattle.calls.specs.declared.Counted.{Counted}
use Rattle.calls.specs.declared.Labelling.{Labelling}
use Rattle.calls.specs.declared.Swept.{Swept}
use Rattle.calls.specs.declared.Four.{Four}
use Rattle.calls.specs.declared.Assurance.{Assurance}
use Rattle.calls.specs.declared.Homeward.{Homeward}
use Rattle.calls.specs.declared.Drove.{Drove}
use Rattle.calls.specs.declared.ReadMap.{ReadMap}
use Rattle.calls.specs.declared.WroteMap.{WroteMap}
use Rattle.calls.specs.declared.Checked.{Checked}
use Rattle.calls.specs.declared.SheetWritten.{SheetWritten}
use Rattle.calls.specs.declared.SheetRead.{SheetRead}
use Rattle.calls.specs.declared.CrossingLines.{CrossingLines}

abbrev pub counted : Result ℕ Refusal → Counted
counted (Ok n) = record { refusal = success; count = n }
counted (Err r) = no_count (number_of r)

abbrev pub labelling : Result Labelled Refusal → Labelling
labelling (Ok n) = record { refusal = success; rocks = n.rocks; shut = n.shut; groups = n.groups }
labelling (Err r) = no_labelling (number_of r)

abbrev pub swept : Result ℕ Refusal → Swept
swept (Ok n) = record { refusal = success; sweeps = n }
swept (Err r) = no_sweeps (number_of r)

abbrev pub four : Result (List ℕ) Refusal → Four
four (Ok l) = record { refusal = success; four = l }
four (Err r) = no_four (number_of r)

abbrev pub assurance : Result Bool Refusal → Assurance
assurance (Ok b) = record { refusal = success; assured = b }
assurance (Err r) = no_assurance (number_of r)

-- Document 01's answer for each case of the enum: "there", one crossing, or two, the east-west one
-- first.
abbrev pub hops_named : Hops → HopAnswer
hops_named There = there
hops_named (One p) = one p.x p.y
hops_named (Two p q) = two p.x p.y q.x q.y

abbrev pub homeward_of : Result Hops Refusal → Homeward
homeward_of (Ok a) = homeward (hops_named a)
homeward_of (Err r) = no_hop (number_of r)

abbrev pub drove : Result ℕ Refusal → Drove
drove (Ok n) = record { refusal = success; length = n }
drove (Err r) = no_crossings (number_of r)

abbrev pub read_map : Result Reading Refusal → ReadMap
read_map (Ok a) = record { refusal = success; width = a.map.w; height = a.map.h; count = a.rocks }
read_map (Err r) = no_map (number_of r)

abbrev pub wrote_map : Result ℕ Refusal → WroteMap
wrote_map (Ok n) = record { refusal = success; bytes = n }
wrote_map (Err r) = no_bytes (number_of r)

-- "Ok(Ok(()))" is a drawn list that is accepted: no reason, and position 0.
abbrev pub checked : Result (Result Unit Fault) Refusal → Checked
checked (Ok (Ok _)) = record { refusal = success; reason = no_fault; position = 0 }
checked (Ok (Err f)) = record { refusal = success; reason = reason_number f.reason; position = f.position }
checked (Err r) = no_check (number_of r)

abbrev pub sheet_written : Result ℕ Refusal → SheetWritten
sheet_written (Ok n) = record { refusal = success; bytes = n }
sheet_written (Err r) = not_written (number_of r)

abbrev pub sheet_read : Result Size Refusal → SheetRead
sheet_read (Ok a) = record { refusal = success; width = a.w; height = a.h }
sheet_read (Err r) = not_read (number_of r)

-- No lines is no refusal: "the test just says no".
abbrev pub crossing_lines : Result (Option Place) Refusal → CrossingLines
crossing_lines (Ok None) = no_lines_told success
crossing_lines (Ok (Some p)) = record { refusal = success; yes = true; column = p.x; row = p.y }
crossing_lines (Err r) = no_lines_told (number_of r)
