-- The bytes left at a place.
use Rattle.std.specs.Prelude.{◌≡◌, List, ◌∷◌, ℕ, ◌+◌, ◌<◌, length, get_or, drop}
use Rattle.std.proofs.Common.{add-one, drop-cons}

-- The bytes left, by the first of them.
pub left_cons : (s : List ℕ) (i : ℕ) → i < length s → drop i s ≡ get_or s i 0 ∷ drop (i + 1) s
left_cons s i l = rw add-one (drop-cons s i 0 l)
