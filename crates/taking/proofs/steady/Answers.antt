-- `steady` meets its contract: every row passed has no fault; so a fault met is the sheet's, and
-- where none is met every crossing is as it may be.
use mathlib.Core.Path.{◌≡◌, sym}
use mathlib.Core.List.{List}
use Prim.Native.Nat.{ℕ, ◌+◌, ◌<◌}
use native.Mathlib.Omega.{arith}
use native.Mathlib.Decide.{ℕ_discrete}
use Rattle.field.specs.Limits.{side_number, side_is}
use Rattle.field.specs.Workings.MorningLaws.{Kept}
use Rattle.field.proofs.Workings.MorningLaws.{kept_steady, steady_kept}
use Rattle.sheets.proofs.Told.{refused, accepted}
use Rattle.taking.proofs.Rows.{zeros_long, zeros_all}
use Rattle.taking.proofs.steady.Goals as goal

-- A row more.
passed : (w h : ℕ) (s : List ℕ) (y : ℕ) → ((x v : ℕ) → x < w → v < y → Kept w h s x v) → ((x : ℕ) → x < w → Kept w h s x y)
    → (x v : ℕ) → x < w → v < y + 1 → Kept w h s x v
passed w h s y f g x v l m = go (ℕ_discrete v y)
  where
    go : Dec (v ≡ y) → Kept w h s x v
    go (yes e) = rw e (g x l)
    go (no e) = f x v l (omega arith)

pub slice_bounds-zeros-end : goal.slice_bounds-zeros-end
slice_bounds-zeros-end c = omega (arith, c.args.s.map.within.most_w, side_is)

pub slice_bounds-none-end : goal.slice_bounds-none-end
slice_bounds-none-end c = sym (zeros_long side_number c.args.s.map.w (omega (arith, c.args.s.map.within.most_w, side_is)))

pub faults_at-requires : goal.faults_at-requires
faults_at-requires c =
    let w = c.args.s.map.w in
    record {
      row = omega arith;
      long = zeros_long side_number w (omega (arith, c.args.s.map.within.most_w, side_is));
      zeros = zeros_all side_number w;
    }

pub returns-then-faults_at-ne0 : goal.returns-then-faults_at-ne0
returns-then-faults_at-ne0 c =
    let s = c.args.s in
    let y = c.loop-y.y in
    refused (λ k. c.if-faults_at-ne0.true (c.faults_at.ensures.1
    (λ x l. steady_kept s.map.w s.map.h s.cells.now k.bytes k.none_between x y (record { in_x = l; in_y = omega arith }))))

pub loop-y-preserved : goal.loop-y-preserved
loop-y-preserved c =
    let s = c.args.s in
    passed s.map.w s.map.h s.cells.now c.loop-y.y c.loop-y.invariant (c.faults_at.ensures.0 c.if-faults_at-ne0.false)

pub returns : goal.returns
returns c =
    let s = c.args.s in
    let k = kept_steady s.map.w s.map.h s.cells.now s.fits (λ x y o. c.loop-y.invariant x y o.in_x (omega (arith, o.in_y))) in
    accepted (record { bytes = k.0; none_between = k.1 })
