-- A slice from a place on, as it is lent, is what follows the place.
use mathlib.Core.Path.{◌≡◌}
use mathlib.Core.List.{List}
use Prim.Native.Nat.{ℕ, ◌-◌}
use native.Mathlib.Omega.{arith}
use lib.ListN.{length, drop, take, length-drop}
use lib.Seq.{take_all}

pub rest_is : (s : List ℕ) (e : ℕ) → take (length s - e) (drop e s) ≡ drop e s
rest_is s e = take_all (length s - e) (drop e s) (omega (arith, length-drop e s))
