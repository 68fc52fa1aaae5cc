-- A raster that is read, or refused: a P4 raster by its length alone.
use mathlib.Core.Path.{◌≡◌, sym, ap, subst, ◌∙◌}
use mathlib.Core.List.{List}
use Prim.Native.Nat.{ℕ, ◌*◌}
use lib.ListN.{length, take}
use Rattle.mapfile.specs.Raster.{row_bytes, RawRaster}
use Rattle.mapfile.specs.RasterLaws.{raw_raster}
use Rattle.mapfile.specs.File.{raw, markers_of}
use Rattle.mapfile.specs.MarkerLaws.{ones, markers_length}
use Rattle.raster.specs.RasterParts.{RasterIn, RowsRead}

-- There are as many markers as bits that are 1.
pub rocks_marked : (w h : ℕ) (bits : List ℕ) (rocks : ℕ) → rocks ≡ ones bits → rocks ≡ length (markers_of w h bits)
unfolding markers_of
rocks_marked w h bits rocks e = e ∙ sym (markers_length w h 1 0 bits)

module _ (w h : ℕ) (body out : List ℕ) where
  pub raw_read : (rocks : ℕ) → length body ≡ h * row_bytes w → RowsRead w h body out rocks → RasterIn raw w h body out rocks
  raw_read rocks l r =
      record {
        raster = subst (RawRaster w h body) (sym r.bits) (raw_raster w h body l);
        counted = rocks_marked w h (take (h * w) out) rocks (r.counted ∙ ap ones (sym r.bits));
      }
