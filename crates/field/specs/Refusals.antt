-- Document 01's refusal numbers and those of document 02, each by a name, and the number of each
-- refusal of the code. "The lowest number that applies is given", but for reading a file, and for 19,
-- which comes before 10, and 20, which comes before 8.
use Rattle.std.specs.Prelude.{ℕ, Result, Ok, Err}
use Rattle.field.specs.declared.refusals.Refusal.{Refusal}
use Rattle.field.specs.declared.refusals.Refusal.TheVariants.{BadSize, BadSheet, BadList, BadPlace, IdInUse, IdNotInUse, NoSlot, EndClosed, NoDrive, ShortRoute, NotAssured, BadLetters, BadHeader, ShortRaster, LongRaster, SharedCrossing, ShortOutput, BadLargest, NoLines, NotTaken}

-- "(0 on success)"
abbrev pub success : ℕ
success = 0

-- width or height is 0 or over the limit
abbrev pub bad_size : ℕ
bad_size = 1

-- a lent sheet is not width × height bytes
abbrev pub bad_sheet : ℕ
bad_sheet = 2

-- count over the limit or over the list lent, an id 0, ids not rising, or a marker off the map
abbrev pub bad_list : ℕ
bad_list = 3

-- a place or new marker off the map, or a new id of 0
abbrev pub bad_place : ℕ
bad_place = 4

-- entering an id in use
abbrev pub id_in_use : ℕ
id_in_use = 5

-- clearing an id not in use
abbrev pub id_not_in_use : ℕ
id_not_in_use = 6

-- no slot: count (or a file's rocks) would pass the list lent or the limit
abbrev pub no_slot : ℕ
no_slot = 7

-- assurance, hop, region or drive asked, an end (home, place, s or d) closed
abbrev pub end_closed : ℕ
end_closed = 8

-- region or drive asked, both ends open, no shortest drive
abbrev pub no_drive : ℕ
no_drive = 9

-- route buffer shorter than distance + 1
abbrev pub short_route : ℕ
short_route = 10

-- hop asked, home not assured
abbrev pub not_assured : ℕ
not_assured = 11

-- first two bytes are neither P1 nor P4, or there are fewer than two
abbrev pub bad_letters : ℕ
bad_letters = 12

-- header against the rules or cut short, or a P1 raster byte before the last digit that is neither
-- digit 0, 1 nor blank
abbrev pub bad_header : ℕ
bad_header = 13

-- raster ends early
abbrev pub short_raster : ℕ
short_raster = 14

-- bytes after the raster (in P1: other than blanks)
abbrev pub long_raster : ℕ
long_raster = 15

-- two markers on one crossing, when writing
abbrev pub shared_crossing : ℕ
shared_crossing = 16

-- output too short for the whole file
abbrev pub short_output : ℕ
short_output = 17

-- a picture's largest value other than the two that sheets are, or were, written with
abbrev pub bad_largest : ℕ
bad_largest = 18

-- drive by way of crossing lines asked and no such column and row
abbrev pub no_lines : ℕ
no_lines = 19

-- "sheet not taken" (Req 09)
abbrev pub sheet_not_taken : ℕ
sheet_not_taken = 20

-- The number of a refusal, and the number that an outcome answers.
abbrev pub number_of : Refusal → ℕ
number_of BadSize = bad_size
number_of BadSheet = bad_sheet
number_of BadList = bad_list
number_of BadPlace = bad_place
number_of IdInUse = id_in_use
number_of IdNotInUse = id_not_in_use
number_of NoSlot = no_slot
number_of EndClosed = end_closed
number_of NoDrive = no_drive
number_of ShortRoute = short_route
number_of NotAssured = not_assured
number_of BadLetters = bad_letters
number_of BadHeader = bad_header
number_of ShortRaster = short_raster
number_of LongRaster = long_raster
number_of SharedCrossing = shared_crossing
number_of ShortOutput = short_output
number_of BadLargest = bad_largest
number_of NoLines = no_lines
number_of NotTaken = sheet_not_taken

abbrev pub told : {A : Type 0} → Result A Refusal → ℕ
told (Ok _) = success
told (Err r) = number_of r
