-- `closing::fill` meets its contract. The word grows at each turn, so it comes to rest.
use Prim.Native.Nat.{◌^◌, ◌-◌, ◌≤◌}
use Rattle.closing.specs.Steps.{Stepped, Steps}
use Rattle.closing.proofs.fill.Given as goal

abbrev pub invariant-loop-t : goal.invariant-loop-t
invariant-loop-t l = Steps l.n l.s l.e l.w l.mask l.v l.u × Stepped l.u l.n l.s l.e l.w l.mask l.t × (l.v ≤ l.u)

abbrev pub decreases-loop-t : goal.decreases-loop-t
decreases-loop-t l = 2 ^ 64 - l.u
