-- The three numbers, by counting bits: rock has the rocks' bits, c those of the closed crossings.
use Rattle.std.specs.Prelude.{◌≡◌, List, ℕ, ◌+◌, ◌*◌, ◌^◌, ◌<◌, ◌≤◌, get_or}
use Rattle.std.specs.Int.Count.{ones}
use Rattle.field.specs.Labels.{sum_to}
use Rattle.bits.specs.Laws.{without}
use Rattle.bits.specs.Carries.{west_word}
use Rattle.rows.specs.Layout.{words_of, spot, spot_south, spot_west}
use Rattle.rows.specs.Rows.{word_at}
use Rattle.field.specs.declared.Labelled.{Labelled}

-- Three numbers and three: each sum fits, and is its number.
pub record Summing (a b : Labelled) : Type 0 where
  pub rocks : a.rocks + b.rocks < 2 ^ 64
  pub shut : a.shut + b.shut < 2 ^ 64
  pub groups : a.groups + b.groups < 2 ^ 64

pub record Summed (a b r : Labelled) : Type 0 where
  pub rocks : r.rocks ≡ a.rocks + b.rocks
  pub shut : r.shut ≡ a.shut + b.shut
  pub groups : r.groups ≡ a.groups + b.groups

-- The bits of word j of row y that are closed without a rock; and those closed with neither a
-- closed west nor a closed south neighbour.
abbrev pub shut_at : List ℕ → List ℕ → ℕ → ℕ → ℕ
shut_at rock c y j = without 64 (word_at c y j) (word_at rock y j)

abbrev pub west_at : List ℕ → ℕ → ℕ → ℕ
west_at c y j = west_word 64 (get_or c (spot y j) 0) (get_or c (spot_west y j) 0)

abbrev pub corners_at : List ℕ → ℕ → ℕ → ℕ
corners_at c y j = without 64 (without 64 (word_at c y j) (west_at c y j)) (get_or c (spot_south y j) 0)

-- Of word j of row y.
pub record CountedWord (y j : ℕ) (rock c : List ℕ) (r : Labelled) : Type 0 where
  pub rocks : r.rocks ≡ ones (word_at rock y j)
  pub shut : r.shut ≡ ones (shut_at rock c y j)
  pub groups : r.groups ≡ ones (corners_at c y j)
  pub most_rocks : r.rocks ≤ 64
  pub most_shut : r.shut ≤ 64
  pub most_groups : r.groups ≤ 64

-- Of the first n words of row y.
pub record CountedTo (n y : ℕ) (rock c : List ℕ) (r : Labelled) : Type 0 where
  pub rocks : r.rocks ≡ sum_to n (λ j. ones (word_at rock y j))
  pub shut : r.shut ≡ sum_to n (λ j. ones (shut_at rock c y j))
  pub groups : r.groups ≡ sum_to n (λ j. ones (corners_at c y j))
  pub most_rocks : r.rocks ≤ 64 * n
  pub most_shut : r.shut ≤ 64 * n
  pub most_groups : r.groups ≤ 64 * n

abbrev pub CountedRow : ℕ → ℕ → List ℕ → List ℕ → Labelled → Type 0
CountedRow w y rock c r = CountedTo (words_of w) y rock c r

-- Of the first h rows.
pub record Counted (w h : ℕ) (rock c : List ℕ) (r : Labelled) : Type 0 where
  pub rocks : r.rocks ≡ sum_to h (λ y. sum_to (words_of w) (λ j. ones (word_at rock y j)))
  pub shut : r.shut ≡ sum_to h (λ y. sum_to (words_of w) (λ j. ones (shut_at rock c y j)))
  pub groups : r.groups ≡ sum_to h (λ y. sum_to (words_of w) (λ j. ones (corners_at c y j)))
