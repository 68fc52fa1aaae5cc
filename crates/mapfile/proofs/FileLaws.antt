-- A file is one map at most, and has one fault at most; with a fault it is no map. Letters, header,
-- sides and raster are each settled by the bytes.
use Rattle.std.specs.Prelude.{◌≡◌, refl, List, [], ◌∷◌, ℕ}
use Rattle.std.proofs.Common.{sym, subst, ◌∙◌, arith}
use Rattle.field.specs.Map.{Sides}
use Rattle.mapfile.specs.Header.{Header}
use Rattle.mapfile.proofs.HeaderLaws.{header_one}
use Rattle.mapfile.specs.RasterLaws.{raw_raster_one, raw_fault_one, raw_fault_no_raster, plain_raster_one, plain_fault_one, plain_fault_no_raster}
use Rattle.mapfile.specs.File.{
  Format,
  plain,
  raw,
  Letters,
  Raster,
  RasterFault,
  Begins,
  MapFile,
  FileFault,
  no_letters,
  no_header,
  no_sides,
  no_raster,
}

-- The letters name one format, and what follows them is one.
pub letters_one : (f g : Format) {file rest other : List ℕ} → Letters f file rest → Letters g file other → (f ≡ g) × (rest ≡ other)
letters_one plain plain {file} {rest} {other} a b = (refl, (let e : 80 ∷ 49 ∷ rest ≡ 80 ∷ 49 ∷ other = sym a ∙ b in cc))
letters_one plain raw {file} {rest} {other} a b =
    absurd (let e : 80 ∷ 49 ∷ rest ≡ 80 ∷ 52 ∷ other = sym a ∙ b in let z : ◌≡◌ {A = ℕ} 49 52 = cc in omega arith)
letters_one raw plain {file} {rest} {other} a b =
    absurd (let e : 80 ∷ 52 ∷ rest ≡ 80 ∷ 49 ∷ other = sym a ∙ b in let z : ◌≡◌ {A = ℕ} 52 49 = cc in omega arith)
letters_one raw raw {file} {rest} {other} a b = (refl, (let e : 80 ∷ 52 ∷ rest ≡ 80 ∷ 52 ∷ other = sym a ∙ b in cc))

-- Of one format, a raster's bits are one, and so is the number of its fault.
pub raster_one : (f : Format) (w h : ℕ) (l : List ℕ) {bits bits' : List ℕ} → Raster f w h l bits → Raster f w h l bits' → bits ≡ bits'
raster_one plain w h l a b = plain_raster_one a b
raster_one raw w h l a b = raw_raster_one a b

pub raster_fault_one : (f : Format) (w h : ℕ) (l : List ℕ) {n m : ℕ} → RasterFault f w h l n → RasterFault f w h l m → n ≡ m
raster_fault_one plain w h l a b = plain_fault_one a b
raster_fault_one raw w h l a b = raw_fault_one a b

pub raster_fault_no_raster : (f : Format) (w h n : ℕ) (l bits : List ℕ) → RasterFault f w h l n → ¬ Raster f w h l bits
raster_fault_no_raster plain w h n l bits a b = plain_fault_no_raster a b
raster_fault_no_raster raw w h n l bits a b = raw_fault_no_raster a b

-- A file's beginning.
begins : {file body : List ℕ} (f : Format) {w h : ℕ} (after : List ℕ) → Letters f file after → Header (w ∷ h ∷ []) after body → Begins file f w h body
begins f after l k = record { after = after; letters = l; header = k }

pub begins_one : {file : List ℕ} {f g : Format} {w h w' h' : ℕ} {body body' : List ℕ} → Begins file f w h body → Begins file g w' h' body'
    → (f ≡ g) × (w ≡ w') × (h ≡ h') × (body ≡ body')
begins_one {file} {f} {g} {w} {h} {w'} {h'} {body} {body'} a b =
    let l = letters_one f g a.letters b.letters in
    let k = header_one a.header (subst (λ (m : List ℕ). Header (w' ∷ h' ∷ []) m body') (sym l.1) b.header) in
    (l.0, k.0, k.1, k.2)

pub map_begins : {file bits : List ℕ} {w h : ℕ} (m : MapFile file w h bits) → Begins file m.format w h m.body
map_begins m = record { after = m.after; letters = m.letters; header = m.header }

-- The sides of a beginning, whatever its format and what follows.
abbrev sides : Format → ℕ → ℕ → List ℕ → Type 0
sides f w h body = Sides w h

-- What stands of one beginning of a file, said of another.
begins_move : {file : List ℕ} {f g : Format} {w h w' h' : ℕ} {body body' : List ℕ} (P : Format → ℕ → ℕ → List ℕ → Type 0)
    → Begins file f w h body → Begins file g w' h' body' → P g w' h' body' → P f w h body
begins_move P a b p = let e = begins_one a b in rw (e.0, e.1, e.2, e.3) p

-- A file is one map at most.
pub map_file_one : {file bits bits' : List ℕ} {w h w' h' : ℕ} → MapFile file w h bits → MapFile file w' h' bits'
    → (w ≡ w') × (h ≡ h') × (bits ≡ bits')
map_file_one {file} {bits} {bits'} {w} {h} m k =
    let e = begins_one (map_begins m) (map_begins k) in (
      e.1,
      e.2,
      raster_one m.format w h m.body m.raster
          (begins_move (λ (f : Format) (a b : ℕ) (l : List ℕ). Raster f a b l bits') (map_begins m) (map_begins k) k.raster),
    )

-- A file whose letters are followed by no header has no beginning.
headless : (f : Format) {file after body : List ℕ} {g : Format} {w h : ℕ} → Letters f file after → ((a b : ℕ) (l : List ℕ) → ¬ Header (a ∷ b ∷ []) after l)
    → ¬ Begins file g w h body
headless f {file} {after} {body} {g} {w} {h} l none b =
    none w h body (subst (λ (m : List ℕ). Header (w ∷ h ∷ []) m body) (sym (letters_one f g l b.letters).1) b.header)

-- A file with a fault is no map.
pub fault_no_map : {file bits : List ℕ} {n w h : ℕ} → FileFault file n → ¬ MapFile file w h bits
fault_no_map (no_letters none e) m = none m.format m.after m.letters
fault_no_map (no_header f after l none e) m = headless f l none (map_begins m)
fault_no_map (no_sides f after body a b l k s e) m =
    s (begins_move sides (begins f after l k) (map_begins m) m.sides)
fault_no_map {file} {bits} {n} (no_raster f after body a b l k s r) m =
    raster_fault_no_raster f a b n body bits r
    (begins_move (λ (g : Format) (c d : ℕ) (t : List ℕ). Raster g c d t bits) (begins f after l k) (map_begins m) m.raster)

-- A file has one fault at most: each excludes what the later ones ask.
pub file_fault_one : {file : List ℕ} {n m : ℕ} → FileFault file n → FileFault file m → n ≡ m
file_fault_one (no_letters none e) (no_letters none' e') = omega arith
file_fault_one (no_letters none e) (no_header g after' l' none' e') = absurd (none g after' l')
file_fault_one (no_letters none e) (no_sides g after' body' c d l' k' s' e') = absurd (none g after' l')
file_fault_one (no_letters none e) (no_raster g after' body' c d l' k' s' r') = absurd (none g after' l')
file_fault_one (no_header f after l none e) (no_letters none' e') = absurd (none' f after l)
file_fault_one (no_header f after l none e) (no_header g after' l' none' e') = omega arith
file_fault_one (no_header f after l none e) (no_sides g after' body' c d l' k' s' e') =
    absurd (headless f l none (begins g after' l' k'))
file_fault_one (no_header f after l none e) (no_raster g after' body' c d l' k' s' r') =
    absurd (headless f l none (begins g after' l' k'))
file_fault_one (no_sides f after body a b l k s e) (no_letters none' e') = absurd (none' f after l)
file_fault_one (no_sides f after body a b l k s e) (no_header g after' l' none' e') =
    absurd (headless g l' none' (begins f after l k))
file_fault_one (no_sides f after body a b l k s e) (no_sides g after' body' c d l' k' s' e') = omega arith
file_fault_one (no_sides f after body a b l k s e) (no_raster g after' body' c d l' k' s' r') =
    absurd (s (begins_move sides (begins f after l k) (begins g after' l' k') s'))
file_fault_one (no_raster f after body a b l k s r) (no_letters none' e') = absurd (none' f after l)
file_fault_one (no_raster f after body a b l k s r) (no_header g after' l' none' e') =
    absurd (headless g l' none' (begins f after l k))
file_fault_one (no_raster f after body a b l k s r) (no_sides g after' body' c d l' k' s' e') =
    absurd (s' (begins_move sides (begins g after' l' k') (begins f after l k) s))
file_fault_one {file} {n} {m} (no_raster f after body a b l k s r) (no_raster g after' body' c d l' k' s' r') =
    raster_fault_one f a b body r
    (begins_move (λ (t : Format) (p q : ℕ) (u : List ℕ). RasterFault t p q u m) (begins f after l k)
    (begins g after' l' k') r')
