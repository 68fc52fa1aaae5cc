-- Between a sheet and the rows of bits: the rocks of a sheet read, the labels written.
use Rattle.std.specs.Prelude.{◌≡◌, List, ◌⊎◌, ℕ, ◌*◌, ◌/◌, ◌%◌, ◌<◌, ◌≤◌, length, get_or}
use Rattle.field.specs.Map.{Sides, On, at}
use Rattle.field.specs.Workings.Sheet.{Marked}
use Rattle.bits.specs.Laws.{without}
use Rattle.words.specs.Words.{ZeroOne, byte_of}
use Rattle.rows.specs.Rows.{word_at, bit_in, Long, Rows, WidthAt}

-- A sheet of the map's size with 1 on each rock's crossing and 0 elsewhere.
pub record Stamped (w h : ℕ) (s : List ℕ) : Type 0 where
  pub sides : Sides w h
  pub size : length s ≡ h * w
  pub ones : (i : ℕ) → get_or s i 0 ≤ 1

-- The rocks are what is stamped.
abbrev pub Stones : ℕ → ℕ → List ℕ → ℕ → ℕ → Type 0
Stones w h s x y = Marked s w h x y

-- A sheet of 0 and 1, and words enough, all zero.
pub record Reading (h : ℕ) (s c : List ℕ) : Type 0 where
  pub ones : ZeroOne s
  pub long : Long h c
  pub blank : (i : ℕ) → get_or c i 0 ≡ 0

-- The words of D (row and word) have the sheet's bytes as bits.
pub record Drawing (D : ℕ → ℕ → Type 0) (w h : ℕ) (s c : List ℕ) : Type 0 where
  pub rows : Rows w h c
  pub drawn : (x y : ℕ) → On w h x y → D y (x / 64) → bit_in c x y ≡ at s w x y

-- Word a of row b stands before word j of row y: in a row before it, or before it in its row.
abbrev pub Before : ℕ → ℕ → ℕ → ℕ → Type 0
Before y j b a = (b < y) ⊎ ((b ≡ y) × (a < j))

-- The rows before row y are read.
pub record ReadingRow (w h y : ℕ) (s c : List ℕ) : Type 0 where
  pub ones : ZeroOne s
  pub in_y : y < h
  pub drawing : Drawing (λ (b a : ℕ). b < y) w h s c

-- The words before word j of row y are read.
pub record ReadingAt (w h y j : ℕ) (s c : List ℕ) : Type 0 where
  pub ones : ZeroOne s
  pub in_y : y < h
  pub in_x : 64 * j < w
  pub drawing : Drawing (Before y j) w h s c

-- c has the sheet's bytes as bits.
pub record Drawn (w h : ℕ) (s c : List ℕ) : Type 0 where
  pub rows : Rows w h c
  pub drawn : (x y : ℕ) → On w h x y → bit_in c x y ≡ at s w x y

-- The label of (x, y), where rock has the rocks' bits and c those of the closed crossings: 1 for a
-- rock, 2 where it is closed without one.
abbrev pub label_at : List ℕ → List ℕ → ℕ → ℕ → ℕ
label_at rock c x y = byte_of (word_at rock y (x / 64)) (without 64 (word_at c y (x / 64)) (word_at rock y (x / 64))) (x % 64)

-- The byte of each crossing is its rock's bit or its label.
abbrev pub Fair : ℕ → ℕ → List ℕ → List ℕ → List ℕ → Type 0
Fair w h rock c s = (x y : ℕ) → On w h x y → (at s w x y ≡ bit_in rock x y) ⊎ (at s w x y ≡ label_at rock c x y)

pub record Putting (w h : ℕ) (rock c s : List ℕ) : Type 0 where
  pub size : length s ≡ h * w
  pub fair : Fair w h rock c s

-- Row y, whose first word has n crossings; word j of it, which has n.
pub record PuttingRow (w h y n : ℕ) (rock c s : List ℕ) : Type 0 where
  pub putting : Putting w h rock c s
  pub in_y : y < h
  pub width : WidthAt w 0 n

pub record PuttingWord (w h y j n : ℕ) (rock c s : List ℕ) : Type 0 where
  pub putting : Putting w h rock c s
  pub in_y : y < h
  pub in_x : 64 * j < w
  pub width : WidthAt w j n

-- The labels of the words of D are written, and no label is lost.
pub record Wrote (D : ℕ → ℕ → Type 0) (w h : ℕ) (rock c s t : List ℕ) : Type 0 where
  pub size : length t ≡ length s
  pub done : (x y : ℕ) → On w h x y → D y (x / 64) → at t w x y ≡ label_at rock c x y
  pub keep : (x y : ℕ) → On w h x y → at s w x y ≡ label_at rock c x y → at t w x y ≡ label_at rock c x y
  pub fair : Fair w h rock c t
