-- `write` meets its promise: header and rows fill the output from the front, and together they are
-- the file.
use Rattle.std.proofs.Common.{refl, sym, ℕ, ◌+◌, ◌*◌, ◌/◌, ◌≤◌, mul-le-mul_left, arith}
use Rattle.field.specs.Limits.{crossings_few}
use Rattle.mapfile.specs.Raster.{row_bytes}
use Rattle.mapfile.specs.Header.{most_digits}
use Rattle.writer.specs.FileLaws.{file_of, side_few, file_length, file_written}
use Rattle.writer.proofs.write.Goals as goal

-- The rows take no more bytes than the sheet has.
rows_few : (w h : ℕ) → 1 ≤ w → h * ((w + 7) / 8) ≤ h * w
rows_few w h p = mul-le-mul_left h (omega arith)

pub overflow_add-start : goal.overflow_add-start
unfolding most_digits
overflow_add-start c = let s = c.args.s.map.within in omega (arith, side_few s.most_w c.digit_count-a.ensures, side_few s.most_h c.digit_count-b.ensures)

pub overflow_add-start-2 : goal.overflow_add-start-2
unfolding most_digits
overflow_add-start-2 c = let s = c.args.s.map.within in omega (arith, side_few s.most_w c.digit_count-a.ensures, side_few s.most_h c.digit_count-b.ensures)

pub overflow_add-end-2 : goal.overflow_add-end-2
unfolding most_digits
overflow_add-end-2 c =
    let s = c.args.s.map.within in
    omega (arith, rows_few c.args.s.map.w c.args.s.map.h s.some_w, crossings_few s, side_few s.most_w c.digit_count-a.ensures, side_few s.most_h c.digit_count-b.ensures)

pub returns-then-out-end : goal.returns-then-out-end
unfolding row_bytes
returns-then-out-end c =
    let s = c.args.s in
    let a = c.digit_count-a in
    let b = c.digit_count-b in (
      refl,
      record {
        file = file_of s.cells.now s.map.w a.result s.map.h b.result;
        written = file_written s.cells.now s.map.w a.result s.map.h b.result s.map.within a.ensures b.ensures;
        long = omega (arith, file_length s.cells.now s.map.w a.result s.map.h b.result);
        same = refl;
      },
    )

pub write_rows-requires : goal.write_rows-requires
unfolding row_bytes
write_rows-requires c = omega arith

pub returns : goal.returns
unfolding row_bytes file_of
returns c =
    let s = c.args.s in
    let a = c.digit_count-a in
    let b = c.digit_count-b in
    record {
      file = file_of s.cells.now s.map.w a.result s.map.h b.result;
      written = file_written s.cells.now s.map.w a.result s.map.h b.result s.map.within a.ensures b.ensures;
      counted = sym (file_length s.cells.now s.map.w a.result s.map.h b.result);
      fits = omega arith;
      is = rw (c.write_header.ensures, c.write_rows.ensures, c.split_at_mut-file.ensures.back) refl;
    }
