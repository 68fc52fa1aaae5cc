-- What the search for open lines asks and tells, in numbers of crossings.
use Rattle.std.specs.Prelude.{Option, None, Some, ◌≡◌, List, ℕ, ◌+◌, ◌*◌, ◌<◌, min, max, length, get_or}
use Rattle.field.specs.Map.{side}
use Rattle.meetings.specs.declared.search.Span.{Span}

-- Two places of one axis of a map within the limits.
pub record OnAxis (a b : ℕ) : Type 0 where
  pub from : a < side
  pub to : b < side

-- The places from the lower of a and b to the higher, both included.
pub record SpanOf (a b : ℕ) (r : Span) : Type 0 where
  pub low : r.low ≡ min a b
  pub many : r.low + r.many ≡ max a b + 1

-- A line of n crossings lies on the sheet, and none of them has a mark.
abbrev pub Laid : List ℕ → ℕ → ℕ → ℕ → Type 0
Laid s i along n = (k : ℕ) → k < n → i + k * along < length s

abbrev pub Bare : List ℕ → ℕ → ℕ → ℕ → Type 0
Bare s i along n = (k : ℕ) → k < n → get_or s (i + k * along) 0 ≡ 0

-- m lines of n crossings lie on the sheet.
pub record LaidOut (s : List ℕ) (i across along m n : ℕ) : Type 0 where
  pub some : 0 < n
  pub inside : (j : ℕ) → j < m → Laid s (i + j * across) along n

-- Line r is the first without a mark, or every line has one.
pub record FirstAt (s : List ℕ) (i across along m n r : ℕ) : Type 0 where
  pub below : r < m
  pub before : (j : ℕ) → j < r → ¬ Bare s (i + j * across) along n
  pub there : Bare s (i + r * across) along n

abbrev pub FirstBare : List ℕ → ℕ → ℕ → ℕ → ℕ → ℕ → Option ℕ → Type 0
FirstBare s i across along m n None = (j : ℕ) → j < m → ¬ Bare s (i + j * across) along n
FirstBare s i across along m n (Some r) = FirstAt s i across along m n r
