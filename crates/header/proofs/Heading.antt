-- The header's parts put together: a number after a separator.
use mathlib.Core.Path.{◌≡◌, ap, ◌∙◌}
use mathlib.Core.Bool.{false}
use mathlib.Core.List.{List}
use mathlib.Core.Option.{none, some}
use Prim.Native.Nat.{ℕ, ◌+◌, ◌<◌, ◌≤◌}
use lib.ListN.{length, get_or, drop, drop_of_length-le}
use Rattle.mapfile.specs.Header.{Blank}
use Rattle.mapfile.specs.HeaderWorking.{
  after_items,
  no_value,
  number_from,
  number_after,
  next_number,
  last_blank,
  last_blank_none,
  last_blank_there,
  last_blank_other,
}
use Rattle.header.specs.Left.{left_cons}

module _ (s : List ℕ) (at : ℕ) where
  pub blank_none : length s ≤ at → last_blank (drop at s) ≡ none
  blank_none l = ap last_blank (drop_of_length-le s l) ∙ last_blank_none

  pub blank_other : at < length s → ¬ Blank (get_or s at 0) → last_blank (drop at s) ≡ none
  blank_other l b = ap last_blank (left_cons s at l) ∙ last_blank_other (drop (at + 1) s) b

  -- The rest begins right after the one blank byte.
  pub blank_last : at < length s → Blank (get_or s at 0) → last_blank (drop at s) ≡ some (drop (at + 1) s)
  blank_last l b = ap last_blank (left_cons s at l) ∙ last_blank_there (drop (at + 1) s) b

-- A separator, and then what follows it.
pub next_some : (l m : List ℕ) → after_items l false ≡ some m → next_number l ≡ number_from m 0 0
unfolding next_number number_after
next_some l m e = ap number_after e

pub next_none : (l : List ℕ) → after_items l false ≡ none → next_number l ≡ no_value
unfolding next_number number_after
next_none l e = ap number_after e
