-- A file read whole: the map that it is, or the number of its fault.
use Rattle.std.specs.Prelude.{◌≡◌, ℕ, zero, suc, ◌*◌, ◌<◌, ◌≤◌, length, get_or}
use mathlib.Core.List.{List, [], ◌∷◌}
use Rattle.std.proofs.Math.Option.{Option, none, some}
use Rattle.std.proofs.Math.Decide.{dec_le, dec_lt, ℕ_discrete}
use Rattle.field.specs.Map.{Sides, side}
use Rattle.field.specs.Refusals.{bad_size, bad_letters, bad_header, short_raster, long_raster}
use Rattle.mapfile.specs.HeaderWorking.{pick}
use Rattle.mapfile.specs.HeadingWorking.{Heading, heading, no_heading, heading_of}
use Rattle.mapfile.specs.Raster.{row_bytes}
use Rattle.mapfile.specs.RasterWorking.{raw_bits, digits_of, plain_verdict}
use Rattle.mapfile.specs.File.{Format, plain, raw, MapFile, FileFault}

-- What a file is found to be.
pub data Found : Type 0 where
  a_map : (w h : ℕ) (bits : List ℕ) → Found
  a_fault : ℕ → Found

-- Within the limits.
unfoldable pub sides_dec : (w h : ℕ) → Dec (Sides w h)
sides_dec w h = go (dec_le 1 w) (dec_le 1 h) (dec_le w side) (dec_le h side)
  where
    go : Dec (1 ≤ w) → Dec (1 ≤ h) → Dec (w ≤ side) → Dec (h ≤ side) → Dec (Sides w h)
    go (yes p) (yes q) (yes r) (yes s) = yes (record { some_w = p; some_h = q; most_w = r; most_h = s })
    go (no p) q r s = no (λ k. p k.some_w)
    go (yes p) (no q) r s = no (λ k. q k.some_h)
    go (yes p) (yes q) (no r) s = no (λ k. r k.most_w)
    go (yes p) (yes q) (yes r) (no s) = no (λ k. s k.most_h)

-- A raster, by the verdict on a plain one, and by the length of a raw one.
unfoldable pub plain_found : ℕ → ℕ → List ℕ → ℕ → Found
plain_found w h l zero = a_map w h (digits_of l)
plain_found w h l (suc n) = a_fault (suc n)

unfoldable pub raw_found : (w h : ℕ) (l : List ℕ) → Dec (length l < h * row_bytes w) → Dec (h * row_bytes w < length l) → Found
raw_found w h l (yes p) q = a_fault short_raster
raw_found w h l (no p) (yes q) = a_fault long_raster
raw_found w h l (no p) (no q) = a_map w h (raw_bits w h l)

unfoldable pub raster_found : Format → ℕ → ℕ → List ℕ → Found
raster_found plain w h l = plain_found w h l (plain_verdict l (h * w))
raster_found raw w h l = raw_found w h l (dec_lt (length l) (h * row_bytes w)) (dec_lt (h * row_bytes w) (length l))

-- What follows the header, by its sides; what follows the letters, by the header.
unfoldable pub sized_found : Format → (w h : ℕ) → List ℕ → Dec (Sides w h) → Found
sized_found f w h l (yes s) = raster_found f w h l
sized_found f w h l (no s) = a_fault bad_size

unfoldable pub headed_found : Format → Heading → Found
headed_found f (heading vs l) = sized_found f (get_or vs 0 0) (get_or vs 1 0) l (sides_dec (get_or vs 0 0) (get_or vs 1 0))
headed_found f no_heading = a_fault bad_header

-- What follows the two bytes a and b, where the bytes begin with them.
unfoldable pub after_two : ℕ → ℕ → List ℕ → Option (List ℕ)
after_two a b [] = none
after_two a b (c ∷ []) = none
after_two a b (c ∷ d ∷ l) = pick (ℕ_discrete c a) (pick (ℕ_discrete d b) (some l) none) none

unfoldable pub raw_letters_found : Option (List ℕ) → Found
raw_letters_found (some l) = headed_found raw (heading_of 2 l)
raw_letters_found none = a_fault bad_letters

unfoldable pub letters_found : Option (List ℕ) → Option (List ℕ) → Found
letters_found (some l) o = headed_found plain (heading_of 2 l)
letters_found none o = raw_letters_found o

unfoldable pub file_found : List ℕ → Found
file_found file = letters_found (after_two 80 49 file) (after_two 80 52 file)

-- What a file is found to be tells it.
abbrev pub FileTold : List ℕ → Found → Type 0
FileTold file (a_map w h bits) = MapFile file w h bits
FileTold file (a_fault n) = FileFault file n

-- The two bytes, found or not.
abbrev pub TwoTold : ℕ → ℕ → List ℕ → Option (List ℕ) → Type 0
TwoTold a b file (some rest) = file ≡ a ∷ b ∷ rest
TwoTold a b file none = (rest : List ℕ) → ¬ (file ≡ a ∷ b ∷ rest)
