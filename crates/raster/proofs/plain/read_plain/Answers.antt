-- `read_plain` meets its contract: the loop keeps ReadingPlain, and each return is a fault at the
-- byte just met or the end of the bytes.
use native.Mathlib.Omega.{arith}
use Rattle.std.proofs.lemmas.Bool.Decides.{not_from_Decides}
use Rattle.field.specs.Limits.{crossings_few}
use Rattle.raster.proofs.ReadingPlain.{reading_start, bit_value, bit_no_blank, reading_blank, reading_room, reading_bit, reading_few, read_long, read_foreign, read_short, read_good}
use Rattle.raster.proofs.plain.read_plain.Goals as goal
use Rattle.raster.proofs.plain.read_plain.Goals.{then-is_bit+else-digits-size, else-is_bit+else-not-is_blank}

pub loop-b-init : goal.loop-b-init
loop-b-init c = reading_start _ _ _ _

pub returns-then-digits-size : goal.returns-then-digits-size
returns-then-digits-size c =
    read_long c.args.map.within c.requires c.loop-b.invariant c.loop-b-test.true (bit_no_blank (c.is_bit.ensures.0 c.if-is_bit.true)) c.if-digits-size.true

pub bounds-bits-digits : goal.bounds-bits-digits
bounds-bits-digits c =
    reading_room c.args.map.within c.requires c.loop-b.invariant c.if-digits-size.false

pub overflow_add-digits : goal.overflow_add-digits
overflow_add-digits c =
    omega (arith, c.loop-b.invariant.few, crossings_few c.args.map.within)

pub overflow_add-rocks : goal.overflow_add-rocks
overflow_add-rocks c =
    omega (arith, c.from-rocks.ensures, reading_few c.args.map.within c.requires c.loop-b.invariant, (bit_value (c.is_bit.ensures.0 c.if-is_bit.true)).1)

pub returns-then-digits-size-2 : goal.returns-then-digits-size-2
returns-then-digits-size-2 c =
    read_long c.args.map.within c.requires c.loop-b.invariant c.loop-b-test.true
    (not_from_Decides _ c.is_blank.ensures c.if-not-is_blank.true)
    c.if-digits-size-2.true

pub returns-then-not-is_blank : goal.returns-then-not-is_blank
returns-then-not-is_blank c =
    read_foreign c.args.map.within c.requires c.loop-b.invariant c.loop-b-test.true
    (not_from_Decides _ c.is_blank.ensures c.if-not-is_blank.true)
    (not_from_Decides _ c.is_bit.ensures c.if-is_bit.false)
    c.if-digits-size-2.false

pub loop-b-preserved : goal.loop-b-preserved
loop-b-preserved c =
    let s = c.args.map.within in
    elim c.if-is_bit.branch [
      | then-is_bit+else-digits-size w ↦
          rw (w.bits-is, w.digits-is, w.rocks-is, w.from-rocks.ensures)
          (reading_bit s c.requires c.loop-b.invariant c.loop-b-test.true (c.is_bit.ensures.0 w.if-is_bit.true) w.if-digits-size.false)
      | else-is_bit+else-not-is_blank w ↦
          rw (w.bits-is, w.digits-is, w.rocks-is)
          (reading_blank s c.requires c.loop-b.invariant c.loop-b-test.true (w.is_blank.ensures.0 w.if-not-is_blank.false))
    ]

pub returns-then-digits-size-3 : goal.returns-then-digits-size-3
returns-then-digits-size-3 c =
    read_short c.args.map.within c.requires c.loop-b.invariant c.loop-b-test.false c.if-digits-size-3.true

pub returns : goal.returns
returns c =
    read_good c.args.map.within c.requires c.loop-b.invariant c.loop-b-test.false c.if-digits-size-3.false
