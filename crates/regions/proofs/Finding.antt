-- What is found between open ends, as the promise says it: no shortest drive, or some.
use mathlib.Core.Path.{◌≡◌, refl}
use mathlib.Core.List.{List}
use mathlib.Core.Logic.{inl, inr}
use Prim.Native.Nat.{ℕ, ◌*◌, ◌<◌}
use native.Mathlib.Omega.{arith}
use native.Mathlib.Decide.{dec_lt}
use lib.ListN.{get_or, get_or-eq_default}
use Rattle.field.specs.Labels.{Open}
use Rattle.field.specs.Drives.{HasDrive, InRegion, InOut, is_in, is_out, RegionSheet}
use Rattle.field.specs.Workings.Sheet.{Marked, Crossing, crossing}
use Rattle.field.proofs.Workings.DriveLaws.{has_drive_open, has_drive_open_end}
use Rattle.calls.specs.Rules.{AnEndClosed}
use Rattle.calls.specs.AfterLaws.{region_zeros, region_made}
use Rattle.field.specs.declared.refusals.Refusal.TheVariants.{NoDrive}
use Rattle.std.specs.Prelude.{Ok, Err}
use Rattle.regions.specs.Promise.{Regioned}

-- Where there is no shortest drive no crossing is in the region, and its sheet is all 0, as past
-- its end.
module _ {w h sx sy dx dy : ℕ} {C : ℕ → ℕ → Type 0} (none : ¬ HasDrive w h C sx sy dx dy) {g : List ℕ} (sheet : RegionSheet w h C sx sy dx dy g) where
  out_zero : {x y v : ℕ} → InOut (InRegion w h C sx sy dx dy x y) v → v ≡ 0
  out_zero (is_in e k) = absurd (none (record { route = k.route; shortest = k.shortest }))
  out_zero (is_out e n) = e

  region_empty : (i : ℕ) → get_or g i 0 ≡ 0
  region_empty i = go (dec_lt i (h * w))
    where
      by_number : Crossing w h i → get_or g i 0 ≡ 0
      by_number c = rw c.is at (out_zero (sheet.region c.x c.y c.on))

      go : Dec (i < h * w) → get_or g i 0 ≡ 0
      go (yes l) = by_number (crossing w h i l)
      go (no m) = get_or-eq_default g 0 (omega (arith, sheet.size))

module _ {w h : ℕ} (s : List ℕ) {sx sy dx dy : ℕ} {g : List ℕ} where
  pub finds_none : Open w h (Marked s w h) sx sy → Open w h (Marked s w h) dx dy → ¬ HasDrive w h (Marked s w h) sx sy dx dy → {g' : List ℕ} → RegionSheet w h (Marked s w h) sx sy dx dy g'
      → Regioned w h s sx sy dx dy g g' (Err NoDrive)
  finds_none o q n r =
      record {
        given = inr (open-ends, inl (record { from = o; to = q; none = n }, refl));
        region_after = region_zeros refl r.size (region_empty n r);
      }
    where
      open-ends : ¬ AnEndClosed (Marked s w h) sx sy dx dy
      open-ends (inl c) = o.free c
      open-ends (inr c) = q.free c

  pub finds_some : HasDrive w h (Marked s w h) sx sy dx dy → {g' : List ℕ} → RegionSheet w h (Marked s w h) sx sy dx dy g' → Regioned w h s sx sy dx dy g g' (Ok tt)
  finds_some v r =
      record {
        given = inr (open-ends, inr (λ k. k.none v, refl));
        region_after = region_made (λ b. omega (arith, b.0)) r;
      }
    where
      open-ends : ¬ AnEndClosed (Marked s w h) sx sy dx dy
      open-ends (inl c) = (has_drive_open w h (Marked s w h) v).free c
      open-ends (inr c) = (has_drive_open_end w h (Marked s w h) v).free c
