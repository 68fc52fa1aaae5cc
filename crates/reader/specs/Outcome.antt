-- Reading has one outcome: two answers that the promise allows for the same file and list are
-- equal, and so are a map's bits. A file is one map at most and has one fault at most; with a fault
-- it is no map, and a map's rocks either find a slot each or do not.
use Rattle.std.specs.Prelude.{◌≡◌, Result, Ok, Err, List, ◌⊎◌, ℕ, ◌*◌, ◌<◌, length, take}
use Rattle.std.proofs.Common.{sym, ap, ◌∙◌, inl, inr, arith}
use Rattle.field.specs.declared.Reading.{Reading}
use Rattle.field.specs.declared.Size.{Size}
use Rattle.field.specs.declared.refusals.Refusal.{Refusal}
use Rattle.field.specs.Map.{most_markers}
use Rattle.field.specs.Refusals.{no_slot}
use Rattle.mapfile.specs.File.{MapFile, markers_of, FileFault, NoSlot}
use Rattle.mapfile.proofs.FileLaws.{map_file_one, file_fault_one, fault_no_map}
use Rattle.reader.specs.Promise.{MapTaken, Reads}
use Rattle.raster.proofs.Sizes.{sizes_same, refusals_same}

-- One map has the same markers.
map_markers : {file : List ℕ} {w h w' h' : ℕ} {bits bits' : List ℕ} → MapFile file w h bits → MapFile file w' h' bits'
    → markers_of w h bits ≡ markers_of w' h' bits'
map_markers a b = let e = map_file_one a b in rw (e.0, e.1, e.2)

abbrev Faulty : List ℕ → ℕ → ℕ → Type 0
Faulty file lent n = FileFault file n ⊎ (NoSlot file lent × (n ≡ no_slot))

abbrev found : Size → ℕ → Reading
found m rocks = record { map = m; rocks = rocks }

module _ {file : List ℕ} {lent : ℕ} where
  taken_one : (m m' : Reading) {out out' : List ℕ} → MapTaken file lent m.map.w m.map.h m.rocks out → MapTaken file lent m'.map.w m'.map.h m'.rocks out' → m ≡ m'
  taken_one m m' a b =
      let e = map_file_one a.map b.map in
      let s : m.map ≡ m'.map = sizes_same m.map m'.map e.0 e.1 in
      let c : m.rocks ≡ m'.rocks = a.counted ∙ ap length (map_markers a.map b.map) ∙ sym b.counted in
      ap (λ (n : Size). found n m.rocks) s ∙ ap (found m'.map) c

  -- The bits of one map are the same.
  pub taken_bits : {w h count w' h' count' : ℕ} {out out' : List ℕ} → MapTaken file lent w h count out → MapTaken file lent w' h' count' out'
      → take (h * w) out ≡ take (h' * w') out'
  taken_bits a b = (map_file_one a.map b.map).2

  -- Rocks that find a slot each do not pass the list or the limit.
  taken_not_refused : {w h count n : ℕ} {out : List ℕ} → MapTaken file lent w h count out → ¬ Faulty file lent n
  taken_not_refused a (inl f) = fault_no_map f a.map
  taken_not_refused {w} {h} {count} {n} {out} a (inr o) = over (ap length (map_markers a.map o.0.map)) o.0.many
    where
      over : {l : ℕ} → length (markers_of w h (take (h * w) out)) ≡ l → ¬ ((lent < l) ⊎ (most_markers < l))
      over e (inl p) = omega (arith, a.counted, a.within)
      over e (inr p) = omega (arith, a.counted, a.few)

  refused_one : {n m : ℕ} → Faulty file lent n → Faulty file lent m → n ≡ m
  refused_one (inl f) (inl g) = file_fault_one f g
  refused_one (inl f) (inr o) = absurd (fault_no_map f o.0.map)
  refused_one (inr o) (inl g) = absurd (fault_no_map g o.0.map)
  refused_one (inr o) (inr p) = o.1 ∙ sym p.1

-- Two outcomes of reading the same file for as many slots.
pub reads_one : (file : List ℕ) (lent : ℕ) (out out' : List ℕ) (r r' : Result Reading Refusal) → Reads file lent out r → Reads file lent out' r' → r ≡ r'
reads_one file lent out out' (Ok m) (Ok m') a b = ap Ok (taken_one m m' a b)
reads_one file lent out out' (Ok m) (Err n) a b = absurd (taken_not_refused a b)
reads_one file lent out out' (Err n) (Ok m) a b = absurd (taken_not_refused b a)
reads_one file lent out out' (Err n) (Err m) a b = ap Err (refusals_same n m (refused_one a b))
