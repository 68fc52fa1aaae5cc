-- The loop's invariant of `put`: k slots are filled, and the bits are gone over up to the k-th rock.
use Rattle.std.proofs.Common.{◌≡◌, ◌*◌, take}
use Rattle.mapfile.specs.File.{markers_of}
use Rattle.layer.specs.Files.{put_in}
use Rattle.layer.proofs.Putting.{RocksPassed}
use Rattle.layer.proofs.files.put.Given as goal

abbrev pub invariant-loop-k : goal.invariant-loop-k
invariant-loop-k l =
    record {
      passed : RocksPassed (take (l.found.map.h * l.found.map.w) l.bits) l.i l.k;
      filled : l.list ≡ put_in l.initial.list l.k (markers_of l.found.map.w l.found.map.h (take (l.found.map.h * l.found.map.w) l.bits));
    }
