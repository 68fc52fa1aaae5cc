-- A row of the sheet is as many bytes of the raster.
use Rattle.std.proofs.Common.{ap, ◌∙◌, ℕ, ◌+◌, ◌*◌, ◌-◌, take, drop, arith}
use Rattle.turning.specs.Turning.{raster_row}
use Rattle.turning.proofs.fn.turn.put.Goals as goal

pub returns : goal.returns
unfolding raster_row
returns c =
    let s = c.captures in
    let from = (s.h - (c.args.y + 1)) * s.w in
    c.copy_from_slice.ensures.after ∙ ap (λ (n : ℕ). take n (drop from s.raster.now)) (omega arith)
