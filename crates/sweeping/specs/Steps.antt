-- What the functions within ask and promise. A sweep marks what it closes as new, and puts it
-- behind in a queue of crossing numbers; n is the queue's end. s and q are sheet and queue before,
-- s', q' and n' are sheet, queue and end after.
use Rattle.std.specs.Prelude.{Option, None, Some, ◌≡◌, cond, List, map, ◌⊎◌, ℕ, ◌+◌, ◌*◌, ◌<◌, ◌≤◌, ltb, length, get_or, take}
use Rattle.field.specs.declared.Place.{Place}
use Rattle.sweeping.specs.declared.Side.{Side}
use Rattle.sweeping.specs.declared.Side.TheVariants.{East, West, North, South}
use Rattle.field.specs.Map.{On, number, at, Near}
use Rattle.field.specs.Limits.{crossing_slots}
use Rattle.field.specs.Workings.Sheet.{lit, around}
use Rattle.field.specs.Workings.MarkCount.{marks}
use Rattle.rows.specs.Sheets.{Stamped}

-- The constants' numbers: SHUT, NEW.
abbrev pub shut_mark : ℕ
shut_mark = 2

abbrev pub new_mark : ℕ
new_mark = 3

-- (x, y) is next to p on a side.
abbrev pub Toward : Side → Place → ℕ → ℕ → Type 0
Toward East p x y = (x ≡ p.x + 1) × (y ≡ p.y)
Toward West p x y = (x + 1 ≡ p.x) × (y ≡ p.y)
Toward North p x y = (x ≡ p.x) × (y ≡ p.y + 1)
Toward South p x y = (x ≡ p.x) × (y + 1 ≡ p.y)

-- The place next to p on a side, where the map has one.
abbrev pub IsNext : ℕ → ℕ → Place → Side → Option Place → Type 0
IsNext w h p d None = (x y : ℕ) → On w h x y → ¬ Toward d p x y
IsNext w h p d (Some r) = On w h r.x r.y × Toward d p r.x r.y

-- A place of the map, if there is one.
abbrev pub OnAt : ℕ → ℕ → Option Place → Type 0
OnAt w h None = Unit {0}
OnAt w h (Some p) = On w h p.x p.y

-- The state before the sweep that is being made: what the sweep itself has closed counts as open.
abbrev pub old : ℕ → ℕ
old v = cond (ltb v new_mark) v 0

unfoldable pub before : List ℕ → List ℕ
before s = map old s

-- 1 where (x, y) was closed before the sweep, and else 0.
pub record Looked (s : List ℕ) (w h x y r : ℕ) : Type 0 where
  pub is : r ≡ lit (before s) w h x y
  pub most : r ≤ 1

-- The same at a place, if there is one.
abbrev pub LookedAt : List ℕ → ℕ → ℕ → Option Place → ℕ → Type 0
LookedAt s w h None r = r ≡ 0
LookedAt s w h (Some p) r = Looked s w h p.x p.y r

-- The queue has the crossing of number i from a up to b.
pub record Queued (q : List ℕ) (a b i : ℕ) : Type 0 where
  pub slot : ℕ
  pub from : a ≤ slot
  pub to : slot < b
  pub is : get_or q slot 0 ≡ i

-- A sheet of the map, and a queue with room for all crossings, of which so many are closed as the
-- queue has at least.
pub record Ready (w h : ℕ) (s q : List ℕ) (n : ℕ) : Type 0 where
  pub size : length s ≡ h * w
  pub room : crossing_slots ≤ length q
  pub few : n ≤ marks s

-- Some open crossings with two or more neighbours closed before the sweep are marked as new and put
-- behind; nothing else changes.
pub record Grows (w h : ℕ) (s q : List ℕ) (n : ℕ) (s' q' : List ℕ) (n' : ℕ) : Type 0 where
  pub size : length s' ≡ length s
  pub room : length q' ≡ length q
  pub more : n ≤ n'
  pub count : n' + marks s ≡ n + marks s'
  pub kept : (i : ℕ) → 0 < get_or s i 0 → get_or s' i 0 ≡ get_or s i 0
  pub made : (i : ℕ) → get_or s i 0 ≡ 0 → (get_or s' i 0 ≡ 0) ⊎ ((get_or s' i 0 ≡ new_mark) × Queued q' n n' i)
  pub fair : (x y : ℕ) → On w h x y → at s w x y ≡ 0 → at s' w x y ≡ new_mark → 2 ≤ around (before s) w h x y
  pub front : (j : ℕ) → j < n → get_or q' j 0 ≡ get_or q j 0
  pub behind : (j : ℕ) → n ≤ j → j < n' → (get_or s (get_or q' j 0) 0 ≡ 0) × (get_or s' (get_or q' j 0) 0 ≡ new_mark)

-- (x, y) has been judged: if it had two or more neighbours closed before the sweep, it is closed.
pub record Judged (w h : ℕ) (s s' : List ℕ) (x y : ℕ) : Type 0 where
  pub done : On w h x y → 2 ≤ around (before s) w h x y → 0 < at s' w x y

-- The same of a place, if there is one.
abbrev pub JudgedPlace : ℕ → ℕ → List ℕ → List ℕ → Option Place → Type 0
JudgedPlace w h s s' None = Unit {0}
JudgedPlace w h s s' (Some p) = Judged w h s s' p.x p.y

pub record JudgedAt (w h : ℕ) (p : Option Place) (s q : List ℕ) (n : ℕ) (s' q' : List ℕ) (n' : ℕ) : Type 0 where
  pub grows : Grows w h s q n s' q' n'
  pub judged : JudgedPlace w h s s' p

-- Every neighbour of the crossing of number i has been judged.
pub record AllJudged (w h : ℕ) (s s' : List ℕ) (i : ℕ) : Type 0 where
  pub each : (x y a b : ℕ) → On w h x y → number w x y ≡ i → Near x y a b → Judged w h s s' a b

pub record Spreads (w h i : ℕ) (s q : List ℕ) (n : ℕ) : Type 0 where
  pub ready : Ready w h s q n
  pub on : i < h * w

pub record SpreadFrom (w h i : ℕ) (s q : List ℕ) (n : ℕ) (s' q' : List ℕ) (n' : ℕ) : Type 0 where
  pub grows : Grows w h s q n s' q' n'
  pub judged : AllJudged w h s s' i

-- The queue from lo up to hi has crossings of the map.
abbrev pub Numbers : ℕ → ℕ → ℕ → List ℕ → Type 0
Numbers size lo hi q = (j : ℕ) → lo ≤ j → j < hi → get_or q j 0 < size

pub record SweepsPart (w h lo hi : ℕ) (s q : List ℕ) : Type 0 where
  pub ready : Ready w h s q hi
  pub order : lo ≤ hi
  pub numbers : Numbers (h * w) lo hi q

pub record SweptPart (w h lo hi : ℕ) (s q s' q' : List ℕ) (n' : ℕ) : Type 0 where
  pub grows : Grows w h s q hi s' q' n'
  pub judged : (j : ℕ) → lo ≤ j → j < hi → AllJudged w h s s' (get_or q j 0)

-- What stands in the queue from lo up to hi becomes shut, and nothing else changes.
pub record Settles (lo hi : ℕ) (s q : List ℕ) : Type 0 where
  pub order : lo ≤ hi
  pub most : hi ≤ length q
  pub numbers : Numbers (length s) lo hi q

pub record Settled (lo hi : ℕ) (s q s' : List ℕ) : Type 0 where
  pub size : length s' ≡ length s
  pub shut : (i : ℕ) → Queued q lo hi i → get_or s' i 0 ≡ shut_mark
  pub other : (i : ℕ) → ¬ Queued q lo hi i → get_or s' i 0 ≡ get_or s i 0

-- A sweep and its end: t is the sheet between them.
pub record Stepped (w h lo hi : ℕ) (s q s' q' : List ℕ) (n' : ℕ) : Type 0 where
  pub t : List ℕ
  pub swept : SweptPart w h lo hi s q t q' n'
  pub settled : Settled hi n' t q' s'

-- The queue has the numbers of the marks among the first i bytes of the sheet, one each.
pub record Gathering (i : ℕ) (s q : List ℕ) (n : ℕ) : Type 0 where
  pub count : n ≡ marks (take i s)
  pub numbers : Numbers (length s) 0 n q
  pub all : (j : ℕ) → j < i → 0 < get_or s j 0 → Queued q 0 n j

-- It is to get those of all.
pub record Gathers (s q : List ℕ) : Type 0 where
  pub few : length s ≤ crossing_slots
  pub room : crossing_slots ≤ length q

pub record Putting (i : ℕ) (s q : List ℕ) (n : ℕ) : Type 0 where
  pub gathers : Gathers s q
  pub inside : i < length s
  pub gathering : Gathering i s q n

pub record Put (i : ℕ) (s q q' : List ℕ) (n' : ℕ) : Type 0 where
  pub room : length q' ≡ length q
  pub gathering : Gathering (i + 1) s q' n'

pub record Gathered (s q q' : List ℕ) (n : ℕ) : Type 0 where
  pub room : length q' ≡ length q
  pub count : n ≡ marks s
  pub numbers : Numbers (length s) 0 n q'
  pub all : (i : ℕ) → 0 < get_or s i 0 → Queued q' 0 n i

-- All sweeps, over a queue with room for the largest map.
pub record AllSweeps (w h : ℕ) (s q : List ℕ) : Type 0 where
  pub stamped : Stamped w h s
  pub room : crossing_slots ≤ length q
