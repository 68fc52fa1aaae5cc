-- `read_map` meets its contract: no header, sides out of bounds, or what reading the raster finds,
-- in that order.
use mathlib.Core.Path.{◌≡◌, refl}
use mathlib.Core.Logic.{inl}
use Rattle.std.proofs.lemmas.Result.{err_from_is_err_and}
use Rattle.field.specs.declared.refusals.Refusal.TheVariants.{BadHeader, BadSize}
use Rattle.mapfile.specs.File.{no_header, no_sides}
use Rattle.raster.specs.RasterParts.{format_of}
use Rattle.header.specs.Found.{head_found, head_missing}
use Rattle.reader.proofs.Joining.{part_is, map_reads}
use Rattle.reader.proofs.read_map.Goals as goal

pub returns-in_err-at : goal.returns-in_err-at
returns-in_err-at c =
    let p = err_from_is_err_and c.from_residual.result c.from_residual.ensures.1 in
    let is : c.in_err-at.field-0.0 ≡ BadHeader = let v = rw c.in_err-at.ensures.ok_part at c.in_err-at.ensures.value in cc in
    rw (p.1, p.2, is)
    (inl (no_header (format_of c.args.format) _ c.requires.letters
    (head_missing c.args.src.now 2 c.header.new.numbers c.header.auto.numbers (rw c.in_err-at.ensures.ok_part at c.header.ensures)) refl))

pub returns-in_err-map : goal.returns-in_err-map
returns-in_err-map c =
    let p = err_from_is_err_and c.from_residual-in_err-map.result c.from_residual-in_err-map.ensures.1 in
    let is : c.in_err-map.field-0.0 ≡ BadSize = let v = rw c.in_err-map.ensures.ok_part at c.in_err-map.ensures.value in cc in
    let found = rw c.in_ok-at.ensures.ok_part at c.header.ensures in
    rw (p.1, p.2, is)
    (inl (no_sides (format_of c.args.format) _ _ _ _ c.requires.letters (head_found c.header.auto.numbers found).1
    (rw c.in_err-map.ensures.ok_part at c.sized.ensures) refl))

pub returns : goal.returns
returns c =
    let found = rw c.in_ok-at.ensures.ok_part at c.header.ensures in
    let sized = rw c.in_ok-map.ensures.ok_part at c.sized.ensures in
    map_reads (format_of c.args.format) c.args.src.now c.args.lent c.read_raster.new.bits c.in_ok-map.map c.requires.letters
    (rw (sized.width, sized.height) (head_found c.header.auto.numbers found).1)
    c.read_raster.result
    (rw (part_is c.args.src.now c.in_ok-at.at) at c.read_raster.ensures)
