-- What the bytes at hand tell of the map that they begin: they end it, or show a fault, or leave it
-- undecided.
use Rattle.std.specs.Prelude.{◌≡◌, refl, List, [], ◌∷◌, ℕ, ◌≤◌, length}
use Rattle.std.proofs.Common.{arith}
use Rattle.std.proofs.Math.Decide.{ℕ_discrete}
use Rattle.field.specs.Map.{most_markers}
use Rattle.mapfile.specs.File.{markers_of}
use Rattle.mapfile.specs.Following.{MapFirst, FirstFault, Shows, Undecided}

-- Fewer than two bytes that may still become the letters.
pub data LettersCut (l : List ℕ) : Type 0 where
  nothing : l ≡ [] → LettersCut l
  the_first : l ≡ 80 ∷ [] → LettersCut l

-- What bytes tell.
pub data Piece (l : List ℕ) : Type 0 where
  ends : (w h : ℕ) (bits rest : List ℕ) → MapFirst l w h bits rest → length (markers_of w h bits) ≤ most_markers → Piece l
  shows : (n : ℕ) → Shows l n → Piece l
  leaves : (n : ℕ) → FirstFault l n → Undecided l → Piece l

unfoldable pub letters_cut_dec : (l : List ℕ) → Dec (LettersCut l)
letters_cut_dec [] = yes (nothing refl)
letters_cut_dec (a ∷ []) = go (ℕ_discrete a 80)
  where
    go : Dec (a ≡ 80) → Dec (LettersCut (a ∷ []))
    go (yes p) = yes (the_first (cc))
    go (no p) = no other
      where
        other : ¬ LettersCut (a ∷ [])
        other (nothing e) = let z : ◌≡◌ {A = ℕ} 0 1 = cc in omega arith
        other (the_first e) = p (cc)
letters_cut_dec (a ∷ b ∷ l) = no two
  where
    two : ¬ LettersCut (a ∷ b ∷ l)
    two (nothing e) = let z : ◌≡◌ {A = ℕ} 0 1 = cc in omega arith
    two (the_first e) = let p : b ∷ l ≡ [] = cc in let z : ◌≡◌ {A = ℕ} 0 1 = cc in omega arith
