-- `put` meets its contract: the next rock of the bits is the next of the map's markers, so that one
-- store puts one marker more.
use Rattle.std.proofs.Common.{◌≡◌, refl, ap₂, ◌∙◌, ◌*◌, List, take, set, arith}
use Rattle.field.specs.declared.Marker.{Marker}
use Rattle.mapfile.specs.File.{markers_of}
use Rattle.layer.proofs.Putting.{passed_none, rock_ahead, passed_next, may_mark, next_slot}
use Rattle.layer.specs.Reading.{put_more}
use Rattle.layer.proofs.files.put.Goals as goal

pub loop-k-init : goal.loop-k-init
loop-k-init c = record { passed = passed_none _; filled = refl }

pub next_rock-at-requires : goal.next_rock-at-requires
next_rock-at-requires c = rock_ahead c.requires c.loop-k-test.true c.loop-k.invariant.passed

pub marker_of-requires : goal.marker_of-requires
marker_of-requires c = may_mark c.requires c.loop-k-test.true c.loop-k.invariant.passed c.next_rock-at.ensures

pub loop-k-preserved : goal.loop-k-preserved
loop-k-preserved c =
    let a = c.args in
    let less = c.loop-k-test.true in
    let at = c.next_rock-at.ensures in
    let markers = markers_of a.found.map.w a.found.map.h (take (a.found.map.h * a.found.map.w) a.bits.now) in
    record {
      passed = passed_next c.requires less c.loop-k.invariant.passed at;
      filled = ap₂ (λ (t : List Marker) (v : Marker). set t c.loop-k.k v) c.loop-k.invariant.filled (c.marker_of.ensures ∙ next_slot c.requires less c.loop-k.invariant.passed at)
          ∙ put_more a.list.now markers c.loop-k.k (omega (arith, c.requires.lent)) (omega (arith, c.requires.counted));
    }

pub returns : goal.returns
returns c =
    let full : c.loop-k.k ≡ c.args.found.rocks = omega arith in
    rw (← full) c.loop-k.invariant.filled
