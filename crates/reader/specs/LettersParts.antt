-- What reading the letters promises, by the cases of its answer: the format that the first two
-- bytes name; or that they name none.
use Rattle.std.specs.Prelude.{Option, Some, None, List, ℕ, drop}
use Rattle.mapfile.specs.File.{Format, Letters}
use Rattle.raster.specs.declared.Format.{Format as CodeFormat}
use Rattle.raster.specs.RasterParts.{format_of}

abbrev pub LettersRead : List ℕ → Option CodeFormat → Type 0
LettersRead file (Some f) = Letters (format_of f) file (drop 2 file)
LettersRead file None = (f : Format) (rest : List ℕ) → ¬ Letters f file rest
