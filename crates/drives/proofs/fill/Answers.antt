-- `fill` meets its promise. What `region` finds settles the first two refusals, the route's length
-- the third, and the drive that is written is the chooser's.
use Rattle.std.proofs.Common.{arith}
use Rattle.drives.proofs.Making.{made_sheet, made_drive, makes_drive}
use Rattle.drives.proofs.fill.Goals as goal

pub write_drive-requires : goal.write_drive-requires
write_drive-requires c =
    let p = c.requires in
    record {
      ends = record { from = p.from; to = p.to };
      closed = c.args.s.cells.now;
      sheet = made_sheet c.in_ok-region.ensures;
      some = made_drive c.in_ok-region.ensures p.from p.to;
      room = omega (arith, c.distance-length.ensures.is);
    }

pub returns : goal.returns
returns c =
    let p = c.requires in
    makes_drive c.in_ok-region.ensures (made_drive c.in_ok-region.ensures p.from p.to) (omega (arith, c.distance-length.ensures.is)) c.if-route-length.false c.write_drive.ensures
