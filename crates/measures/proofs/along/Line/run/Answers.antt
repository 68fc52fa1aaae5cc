-- `along::Line::run` meets its contract. The invariant: the places passed have their running
-- numbers, and the last of them is at hand.
use mathlib.Core.Path.{refl}
use native.Mathlib.Omega.{arith}
use Rattle.field.specs.Limits.{side_is}
use Rattle.measures.specs.Running.{counted}
use Rattle.measures.proofs.Lines.{OnLine}
use Rattle.measures.proofs.Runs.{from_none, from_le, from_more}
use Rattle.measures.proofs.along.Line.run.Goals as goal

pub loop-k-init : goal.loop-k-init
loop-k-init c = from_none

pub overflow_add-last : goal.overflow_add-last
overflow_add-last c =
    let line = c.args.self in
    let on : OnLine line.end line.start line.n c.args.out.now = record { sound = line.sound; inside = c.requires.inside } in
    omega (arith, from_le on c.requires.within c.loop-k.invariant, line.sound.short, side_is)

pub loop-k-preserved : goal.loop-k-preserved
unfolding counted
loop-k-preserved c =
    let line = c.args.self in
    let on : OnLine line.end line.start line.n c.args.out.now = record { sound = line.sound; inside = c.requires.inside } in
    from_more on c.requires.within c.loop-k.invariant (omega arith) c.number-i.ensures refl
