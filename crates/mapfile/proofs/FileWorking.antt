-- Reading a file whole agrees with the grammar both ways, since a file is one map or has one fault.
use Rattle.std.specs.Prelude.{◌≡◌, ℕ, zero, suc, ◌*◌, ◌<◌, length, get_or}
use Rattle.std.proofs.Math.Path.{refl}
use Rattle.std.proofs.Common.{ap, subst, ◌∙◌, inl, inr, arith}
use mathlib.Core.List.{List, [], ◌∷◌}
use Rattle.std.proofs.Math.Option.{Option, none, some}
use Rattle.std.proofs.Math.Decide.{dec_lt, ℕ_discrete}
use Rattle.field.specs.Map.{Sides}
use Rattle.mapfile.specs.Header.{Header}
use Rattle.mapfile.specs.HeaderWorking.{pick, pick_yes}
use Rattle.mapfile.specs.HeadingWorking.{Heading, heading, no_heading, heading_of, HeadingTold}
use Rattle.mapfile.proofs.HeadingWorking.{heading_told}
use Rattle.mapfile.specs.Raster.{row_bytes, PlainFault, raw_short, raw_long}
use Rattle.mapfile.specs.RasterWorking.{plain_verdict}
use Rattle.mapfile.specs.RasterLaws.{raw_raster, digits_are}
use Rattle.mapfile.specs.PlainSound.{PlainTold, plain_told}
use Rattle.mapfile.specs.File.{Format, plain, raw, Letters, Raster, RasterFault, MapFile, FileFault, no_letters, no_header, no_sides, no_raster}
use Rattle.mapfile.proofs.FileLaws.{map_file_one, file_fault_one, fault_no_map}
use Rattle.mapfile.specs.FileWorking.{Found, a_map, a_fault, sides_dec, plain_found, raw_found, raster_found, sized_found, headed_found, after_two, raw_letters_found, letters_found, file_found, FileTold, TwoTold}

-- The same of a raster.
abbrev RasterTold : Format → ℕ → ℕ → List ℕ → Found → Type 0
RasterTold f w h l (a_map a b bits) = (a ≡ w) × (b ≡ h) × Raster f w h l bits
RasterTold f w h l (a_fault n) = RasterFault f w h l n

fault_some : {w h : ℕ} {l : List ℕ} → ¬ PlainFault w h l 0
fault_some {w} {h} {l} (PlainFault.plain_foreign bits front back b d s p e m) = omega arith
fault_some (PlainFault.plain_short bits d s m) = omega arith
fault_some (PlainFault.plain_long bits front back b d s p e m) = omega arith

plain_found_lem : (w h : ℕ) (l : List ℕ) (v : ℕ) → PlainTold w h l v → RasterTold plain w h l (plain_found w h l v)
unfolding plain_found
plain_found_lem w h l zero (inl t) = (refl, refl, subst (Raster plain w h l) (digits_are t.1.digits) t.1)
plain_found_lem w h l zero (inr f) = absurd (fault_some f)
plain_found_lem w h l (suc v) (inl t) = absurd (omega (arith, t.2))
plain_found_lem w h l (suc v) (inr f) = f

raw_found_lem : (w h : ℕ) (l : List ℕ) (p : Dec (length l < h * row_bytes w)) (q : Dec (h * row_bytes w < length l)) → RasterTold raw w h l (raw_found w h l p q)
unfolding raw_found
raw_found_lem w h l (yes p) q = raw_short p refl
raw_found_lem w h l (no p) (yes q) = raw_long q refl
raw_found_lem w h l (no p) (no q) = (refl, refl, raw_raster w h l (omega arith))

raster_found_lem : (f : Format) (w h : ℕ) (l : List ℕ) → RasterTold f w h l (raster_found f w h l)
unfolding raster_found
raster_found_lem plain w h l = plain_found_lem w h l (plain_verdict l (h * w)) (plain_told w h l)
raster_found_lem raw w h l = raw_found_lem w h l (dec_lt (length l) (h * row_bytes w)) (dec_lt (h * row_bytes w) (length l))

-- Two numbers by their places.
pub two_values : (vs : List ℕ) → length vs ≡ 2 → vs ≡ get_or vs 0 0 ∷ get_or vs 1 0 ∷ []
two_values [] e = absurd (omega arith)
two_values (a ∷ []) e = absurd (omega arith)
two_values (a ∷ b ∷ []) e = refl
two_values (a ∷ b ∷ c ∷ vs) e = absurd (omega arith)

module _ (f : Format) (file after : List ℕ) (letters : Letters f file after) where
  raster_file : {w h : ℕ} {body : List ℕ} → Header (w ∷ h ∷ []) after body → Sides w h → (o : Found) → RasterTold f w h body o → FileTold file o
  raster_file {w} {h} {body} k s (a_map a b bits) t =
      rw (t.0, t.1)
      (record { format = f; after = after; body = body; letters = letters; header = k; sides = s; raster = t.2 })
  raster_file {w} {h} {body} k s (a_fault n) t = no_raster f after body w h letters k s t

  sized_file : {w h : ℕ} {body : List ℕ} → Header (w ∷ h ∷ []) after body → (d : Dec (Sides w h)) → FileTold file (sized_found f w h body d)
  unfolding sized_found
  sized_file {w} {h} {body} k (yes s) = raster_file k s (raster_found f w h body) (raster_found_lem f w h body)
  sized_file {w} {h} {body} k (no s) = no_sides f after body w h letters k s refl

  headed_file : (o : Heading) → HeadingTold 2 after o → FileTold file (headed_found f o)
  unfolding headed_found
  headed_file (heading vs body) t =
      sized_file (subst (λ (us : List ℕ). Header us after body) (two_values vs t.0) t.1) (sides_dec (get_or vs 0 0) (get_or vs 1 0))
  headed_file no_heading t = no_header f after letters (λ w h body. t (w ∷ h ∷ []) body refl) refl

pub two_told : (a b : ℕ) (file : List ℕ) → TwoTold a b file (after_two a b file)
unfolding after_two pick
two_told a b [] = λ rest e. let z : ◌≡◌ {A = ℕ} 0 1 = cc in omega arith
two_told a b (c ∷ []) = λ rest e. let t : [] ≡ b ∷ rest = cc in let z : ◌≡◌ {A = ℕ} 0 1 = cc in omega arith
two_told a b (c ∷ d ∷ l) = go (ℕ_discrete c a) (ℕ_discrete d b)
  where
    go : (p : Dec (c ≡ a)) (q : Dec (d ≡ b)) → TwoTold a b (c ∷ d ∷ l) (pick p (pick q (some l) none) none)
    go (yes p) (yes q) = cc
    go (yes p) (no q) = λ rest e. q (cc)
    go (no p) q = λ rest e. p (cc)

pub two_found : (a b : ℕ) (file rest : List ℕ) → file ≡ a ∷ b ∷ rest → after_two a b file ≡ some rest
unfolding after_two
two_found a b file rest e = ap (after_two a b) e ∙ pick_yes (ℕ_discrete a a) _ _ refl ∙ pick_yes (ℕ_discrete b b) _ _ refl

letters_file : (file : List ℕ) (o k : Option (List ℕ)) → TwoTold 80 49 file o → TwoTold 80 52 file k → FileTold file (letters_found o k)
unfolding letters_found raw_letters_found
letters_file file (some l) k p q = headed_file plain file l p (heading_of 2 l) (heading_told 2 l)
letters_file file none (some l) p q = headed_file raw file l q (heading_of 2 l) (heading_told 2 l)
letters_file file none none p q = no_letters absent refl
  where
    absent : (f : Format) (rest : List ℕ) → ¬ Letters f file rest
    absent plain rest e = p rest e
    absent raw rest e = q rest e

-- Soundness, for every file: so each file is a map or has a fault.
pub file_told : (file : List ℕ) → FileTold file (file_found file)
unfolding file_found
file_told file = letters_file file (after_two 80 49 file) (after_two 80 52 file) (two_told 80 49 file) (two_told 80 52 file)

-- Completeness: what a file is, it is found to be.
pub map_found : {file bits : List ℕ} {w h : ℕ} → MapFile file w h bits → file_found file ≡ a_map w h bits
map_found {file} {bits} {w} {h} m = go (file_found file) (file_told file)
  where
    go : (o : Found) → FileTold file o → o ≡ a_map w h bits
    go (a_map a b cs) t =
        let e = map_file_one t m in
        let p : a ≡ w = e.0 in
        let q : b ≡ h = e.1 in
        let r : cs ≡ bits = e.2 in
        cc
    go (a_fault n) t = absurd (fault_no_map t m)

pub fault_found : {file : List ℕ} {n : ℕ} → FileFault file n → file_found file ≡ a_fault n
fault_found {file} {n} f = go (file_found file) (file_told file)
  where
    go : (o : Found) → FileTold file o → o ≡ a_fault n
    go (a_map a b cs) t = absurd (fault_no_map f t)
    go (a_fault k) t = let p : k ≡ n = file_fault_one t f in cc
