-- `pack` meets its contract: after j turns the byte is the first j bits, packed, and below 2 ^ j.
use Rattle.std.proofs.Common.{◌≡◌, refl, ℕ, ◌+◌, ◌*◌, ◌^◌, ◌<◌, ◌≤◌, List, arith, add-one}
use Rattle.std.proofs.Math.Nat.{pow-le-pow_right}
use Rattle.packing.specs.Packing.{packed, rock_bit, byte_of}
use Rattle.packing.specs.PackingLaws.{packed_lt, rock_bit_small}
use Rattle.packing.proofs.pack.Goals as goal

-- While a bit is to come, those so far are a number below 128.
room : (s : List ℕ) (from w x j : ℕ) → j < 8 → packed (rock_bit s from w) x j < 128
room s from w x j h =
    let most : 2 ^ j ≤ 2 ^ 7 = pow-le-pow_right {n = 2} (omega arith) {i = j} {j = 7} (omega arith) in
    omega (arith, packed_lt (rock_bit s from w) (rock_bit_small s from w) x j)

-- The next bit.
next : (f : ℕ → ℕ) (x j : ℕ) → packed f x (j + 1) ≡ packed f x j * 2 + f (x + j)
unfolding packed
next f x j = rw (add-one j)

pub loop-j-init : goal.loop-j-init
unfolding packed
loop-j-init c = refl

pub overflow_mul-b : goal.overflow_mul-b
overflow_mul-b c =
    let a = c.args in
    omega (arith, room a.s.now a.from a.w a.x c.loop-j.j (omega arith), rock_bit_small a.s.now a.from a.w (a.x + c.loop-j.j))

pub overflow_add-b : goal.overflow_add-b
overflow_add-b c =
    let a = c.args in
    omega (arith, room a.s.now a.from a.w a.x c.loop-j.j (omega arith), rock_bit_small a.s.now a.from a.w (a.x + c.loop-j.j))

pub loop-j-preserved : goal.loop-j-preserved
loop-j-preserved c =
    let f = rock_bit c.args.s.now c.args.from c.args.w in
    omega (arith, next f c.args.x c.loop-j.j, c.rock_bit.ensures)

pub returns : goal.returns
unfolding byte_of
returns c =
    let all : c.loop-j.j ≡ 8 = omega arith in
    rw (← all) c.loop-j.invariant
