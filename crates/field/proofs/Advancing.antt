-- What is proved of the state after a drive (request 13), for any set C of closed crossings: each
-- hop draws once, so the hops alone count, and not the rocks.
use Rattle.std.specs.Prelude.{◌≡◌, refl, List}
use Rattle.std.proofs.Common.{sym, ◌∙◌, zero-add, suc-add, arith, length-append}
use Rattle.std.proofs.Math.Path.{ap}
use Prim.Native.Nat.{ℕ, zero, suc, ◌+◌}
use Rattle.std.proofs.Math.ListN.{length}
use Rattle.field.specs.Map.{dist}
use Rattle.field.specs.Chooser.{drawn, advanced, Advances, Chosen, alone, east_west, north_south, Driven, arrived, onward}
use Rattle.field.specs.CrossingLines.{DrivenBy}
use Rattle.field.proofs.Workings.GridLaws.{dist_none}
use Rattle.field.proofs.Workings.ChooserLaws.{chosen_candidate}

-- Advanced by the hops of one part, and then by those of the next.
pub advanced_on : (m n z : ℕ) → advanced (m + n) z ≡ advanced n (advanced m z)
unfolding advanced
advanced_on zero n z = ap (λ (k : ℕ). advanced k z) (zero-add n)
advanced_on (suc m) n z = ap (λ (k : ℕ). advanced k z) (suc-add m n) ∙ advanced_on m n (drawn z)

-- The state depends on nothing but the state before and the number of crossings. One crossing is no
-- hop.
pub advances_one : {k m z z' z'' : ℕ} → Advances k z z' → Advances m z z'' → k ≡ m → z' ≡ z''
advances_one {z} p q e = p.is ∙ ap (λ (n : ℕ). advanced n z) (omega (arith, p.counted, q.counted)) ∙ sym q.is

pub advances_still : {z z' : ℕ} → Advances 1 z z' → z' ≡ z
unfolding advanced
advances_still p = advances_one p (record { hops = 0; counted = refl; is = refl }) refl

module _ {w h : ℕ} {C : ℕ → ℕ → Type 0} {sx sy dx dy : ℕ} where
  -- "the chooser draws at each hop, whether there is one candidate or two"
  pub chosen_draws : {x y z a b z' : ℕ} → Chosen w h C sx sy dx dy x y z a b z' → z' ≡ drawn z
  chosen_draws (alone k u e) = e
  chosen_draws (east_west d k p m e t) = e
  chosen_draws (north_south c k p m e t) = e

  -- "The state after a drive is then the start state advanced once for each hop".
  pub driven_advances : {x y z z' : ℕ} {l : List ℕ} → Driven w h C sx sy dx dy x y z l z' → Advances (length l) z z'
  unfolding advanced
  driven_advances (arrived p q e f) = record { hops = 0; counted = ap length e; is = f }
  driven_advances (onward c v e) =
      let r = driven_advances v in
      record { hops = suc r.hops; counted = omega (arith, ap length e, r.counted); is = r.is ∙ ap (advanced r.hops) (chosen_draws c) }

  -- The hops are as many as the distance, so the state can be foretold from the two ends.
  pub driven_hops : {x y z z' : ℕ} {l : List ℕ} → Driven w h C sx sy dx dy x y z l z' → length l ≡ dist x y dx dy + 1
  driven_hops (arrived p q e f) = omega (arith, ap length e, dist_none p q)
  driven_hops (onward c v e) = omega (arith, ap length e, driven_hops v, (chosen_candidate w h C sx sy dx dy c).nearer)

  pub driven_foretold : {x y z z' : ℕ} {l : List ℕ} → Driven w h C sx sy dx dy x y z l z' → z' ≡ advanced (dist x y dx dy) z
  driven_foretold v = advances_one (driven_advances v) (record { hops = _; counted = driven_hops v; is = refl }) refl

  -- "and a drive of no hops leaves it"
  pub driven_still : {x y z z' : ℕ} {l : List ℕ} → Driven w h C sx sy dx dy x y z l z' → length l ≡ 1 → z' ≡ z
  driven_still v e = advances_still (rw e at (driven_advances v))

-- "Two carts with equal start states drift apart as soon as one passes a rock": no longer. After
-- equally long drives their states are equal, whatever the maps, the rocks and the ends.
pub driven_alike : {w h v i : ℕ} {C D : ℕ → ℕ → Type 0} {sx sy dx dy tx ty ex ey z z' z'' : ℕ} {l m : List ℕ} → Driven w h C sx sy dx dy sx sy z l z'
    → Driven v i D tx ty ex ey tx ty z m z'' → length l ≡ length m → z' ≡ z''
driven_alike p q = advances_one (driven_advances p) (driven_advances q)

-- "Drives over two parts, as in Req 06, pass the state from the first part to the second": after
-- both it is the start state advanced once for each hop of both.
pub driven_by_advances : {w h : ℕ} {C : ℕ → ℕ → Type 0} {sx sy dx dy x y z z' : ℕ} {l : List ℕ} → DrivenBy w h C sx sy dx dy x y z l z' → Advances (length l) z z'
driven_by_advances {z = z} v =
    let a = driven_advances v.to_meeting in
    let b = driven_advances v.from_meeting in
    record {
      hops = a.hops + b.hops;
      counted = omega (arith, ap length v.joined, length-append v.first v.onward, a.counted, b.counted);
      is = b.is ∙ ap (advanced b.hops) a.is ∙ sym (advanced_on a.hops b.hops z);
    }

pub driven_by_foretold : {w h : ℕ} {C : ℕ → ℕ → Type 0} {sx sy dx dy x y z z' : ℕ} {l : List ℕ} → DrivenBy w h C sx sy dx dy x y z l z'
    → z' ≡ advanced (dist sx sy x y + dist x y dx dy) z
driven_by_foretold {sx = sx} {sy} {dx} {dy} {x} {y} {z} v =
    driven_foretold v.from_meeting ∙ ap (advanced (dist x y dx dy)) (driven_foretold v.to_meeting) ∙ sym (advanced_on (dist sx sy x y) (dist x y dx dy) z)
