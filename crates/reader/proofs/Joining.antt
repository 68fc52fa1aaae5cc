-- The reader's parts put together: a raster read after letters, header and sides is a file read.
use mathlib.Core.Path.{◌≡◌}
use mathlib.Core.List.{List, [], ◌∷◌}
use mathlib.Core.Logic.{inl, inr}
use Prim.Native.Nat.{ℕ, ◌*◌, ◌-◌}
use native.Mathlib.Omega.{arith}
use lib.ListN.{length, take, drop, length-drop}
use lib.Seq.{take_all}
use Rattle.std.proofs.Common.{Result, Ok, Err}
use Rattle.field.specs.declared.Reading.{Reading}
use Rattle.field.specs.declared.Size.{Size}
use Rattle.field.specs.declared.refusals.Refusal.{Refusal}
use Rattle.mapfile.specs.Header.{Header}
use Rattle.mapfile.specs.File.{Format, Letters, Raster, MapFile, no_raster}
use Rattle.reader.specs.Promise.{Reads}
use Rattle.reader.specs.ReadingParts.{RasterReads}

-- The slice from the raster's first byte on is what follows the header.
pub part_is : (s : List ℕ) (e : ℕ) → take (length s - e) (drop e s) ≡ drop e s
part_is s e = take_all (length s - e) (drop e s) (omega (arith, length-drop e s))

-- The file.
module _ (f : Format) (src : List ℕ) (lent : ℕ) (out : List ℕ) (m : Size) {body : List ℕ} (l : Letters f src (drop 2 src)) (k : Header (m.w ∷ m.h ∷ []) (drop 2 src) body) where
  file : (bits : List ℕ) → Raster f m.w m.h body bits → MapFile src m.w m.h bits
  file bits r =
      record { format = f; after = drop 2 src; body = body; letters = l; header = k; sides = m.within; raster = r }

  pub map_reads : (r : Result Reading Refusal) → RasterReads f m body lent out r → Reads src lent out r
  map_reads (Ok found) t =
      rw t.map
      (record { map = file (take (m.h * m.w) out) t.raster.raster; counted = t.raster.counted; within = t.room.room; few = t.room.few })
  map_reads (Err r) (inl q) = inl (no_raster f (drop 2 src) body m.w m.h l k m.within q)
  map_reads (Err r) (inr o) =
      inr (record { w = m.w; h = m.h; bits = o.0.bits; map = file o.0.bits o.0.raster; many = o.0.many }, o.1)
