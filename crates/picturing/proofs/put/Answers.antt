-- `put` meets its promise: header, largest value and rows fill the output from the front, and
-- together they are the file.
use Rattle.std.proofs.Common.{refl, sym, ap, arith, append_assoc, Ok}
use Rattle.field.specs.Limits.{crossings_few}
use Rattle.mapfile.specs.Header.{most_digits}
use Rattle.writer.specs.FileLaws.{side_few}
use Rattle.picturing.specs.Parts.{too_short, whole}
use Rattle.picturing.specs.Rasters.{raster_of}
use Rattle.picturing.specs.RasterLaws.{raster_length}
use Rattle.picturing.proofs.Filing.{file_of, file_length, file_written}
use Rattle.picturing.proofs.put.Goals as goal

pub overflow_add-start : goal.overflow_add-start
unfolding most_digits
overflow_add-start c = let s = c.args.map.within in omega (arith, side_few s.most_w c.digit_count-a.ensures, side_few s.most_h c.digit_count-b.ensures)

pub overflow_add-start-2 : goal.overflow_add-start-2
unfolding most_digits
overflow_add-start-2 c = let s = c.args.map.within in omega (arith, side_few s.most_w c.digit_count-a.ensures, side_few s.most_h c.digit_count-b.ensures)

pub overflow_add-end : goal.overflow_add-end
unfolding most_digits
overflow_add-end c = let s = c.args.map.within in omega (arith, side_few s.most_w c.digit_count-a.ensures, side_few s.most_h c.digit_count-b.ensures)

pub overflow_add-end-2 : goal.overflow_add-end-2
unfolding most_digits
overflow_add-end-2 c =
    let s = c.args.map.within in
    omega (arith, side_few s.most_w c.digit_count-a.ensures, side_few s.most_h c.digit_count-b.ensures, crossings_few s)

pub returns-then-out-end : goal.returns-then-out-end
returns-then-out-end c =
    let m = c.args.map in
    let a = c.digit_count-a in
    let b = c.digit_count-b in
    let rows = raster_of c.args.sheet.now m.w m.h in
    too_short (file_of m.w a.result m.h b.result rows)
    (file_written c.args.sheet.now m.within a.ensures b.ensures c.requires (λ k. omega (arith, c.type_inv.sheet k)))
    (omega (arith, file_length m.w a.result m.h b.result rows (raster_length c.args.sheet.now m.w m.h))) refl refl

pub returns : goal.returns
unfolding file_of
returns c =
    let m = c.args.map in
    let a = c.digit_count-a in
    let b = c.digit_count-b in
    let rows = raster_of c.args.sheet.now m.w m.h in
    let size = file_length m.w a.result m.h b.result rows (raster_length c.args.sheet.now m.w m.h) in
    whole (file_of m.w a.result m.h b.result rows)
    (file_written c.args.sheet.now m.within a.ensures b.ensures c.requires (λ k. omega (arith, c.type_inv.sheet k)))
    (omega (arith, size))
    (rw (size, c.write_header.ensures, c.write_largest.ensures, c.put_rows.ensures, c.split_at_mut-file.ensures.back) (simp append_assoc))
    (ap Ok (sym size))
