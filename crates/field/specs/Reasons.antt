-- Why a drawn list is refused, each reason by a name; src/reasons.rt has the same for the code.
-- Request 01: "wrong start, off the map, closed, not a neighbour, not nearer d, or list ended early
-- or went on after d".
use Rattle.std.specs.Prelude.{ℕ}
use Rattle.field.specs.declared.reasons.Reason.{Reason}
use Rattle.field.specs.declared.reasons.Reason.TheVariants.{WrongStart, OffTheMap, IsClosed, NotANeighbour, NotNearer, EndedEarly, WentOn}

-- No reason applies.
abbrev pub no_fault : ℕ
no_fault = 0

abbrev pub wrong_start : ℕ
wrong_start = 1

abbrev pub off_the_map : ℕ
off_the_map = 2

abbrev pub is_closed : ℕ
is_closed = 3

abbrev pub not_a_neighbour : ℕ
not_a_neighbour = 4

abbrev pub not_nearer : ℕ
not_nearer = 5

abbrev pub ended_early : ℕ
ended_early = 6

abbrev pub went_on : ℕ
went_on = 7

abbrev pub reason_number : Reason → ℕ
reason_number WrongStart = wrong_start
reason_number OffTheMap = off_the_map
reason_number IsClosed = is_closed
reason_number NotANeighbour = not_a_neighbour
reason_number NotNearer = not_nearer
reason_number EndedEarly = ended_early
reason_number WentOn = went_on
