-- The two passes make the region sheet. The pass from s marks what is open and has a shortest drive
-- to s; the pass from d keeps of that what has one to d as well; and in the rectangle that s and d
-- span the two together are no detour.
use mathlib.Core.Path.{◌≡◌, sym, ◌∙◌}
use mathlib.Core.List.{List}
use Prim.Native.Nat.{ℕ, ◌+◌, ◌*◌}
use native.Mathlib.Omega.{arith}
use native.Mathlib.Decide.{ℕ_discrete}
use lib.ListN.{length, get_or}
use Rattle.field.specs.Map.{On, number, at, dist}
use Rattle.field.specs.Labels.{Open}
use Rattle.field.specs.Drives.{HasDrive, InRegion, InOut, is_in, is_out, RegionSheet}
use Rattle.field.specs.Workings.Sheet.{Marked}
use Rattle.field.proofs.Workings.GridLaws.{Toward, gap_turned, gap_detour, near_turned, toward_near, toward_nearer}
use Rattle.field.proofs.Workings.DriveLaws.{hop, has_drive_open, has_drive_turned, has_drive_step}
use Rattle.field.proofs.Workings.RegionLaws.{region_split, has_drive_in}
use Rattle.regions.specs.Passes.{Spanned, Pass, free}
use Rattle.regions.specs.Reaching.{Reached}
use Rattle.sheets.specs.Promise.{Wiped}
use Rattle.regions.proofs.WayLaws.{way_turned}
use Rattle.regions.proofs.LookLaws.{zero_bit, other_bit}
use Rattle.regions.proofs.PassMeaning.{spanned_toward, pass_means}

in-out-map : {P Q : Type 0} {v : ℕ} → (P → Q) → (Q → P) → InOut P v → InOut Q v
in-out-map f g (is_in e p) = is_in e (f p)
in-out-map f g (is_out e n) = is_out e (λ q. n (g q))

-- The rectangle is the same from either end, and holds the crossings at which there is no detour.
spanned_turned : {ex ey fx fy x y : ℕ} → Spanned ex ey fx fy x y → Spanned fx fy ex ey x y
spanned_turned s = record { across = way_turned s.across; along = way_turned s.along }

spanned_direct : {ex ey fx fy x y : ℕ} → Spanned ex ey fx fy x y → dist ex ey x y + dist x y fx fy ≡ dist ex ey fx fy
spanned_direct s = omega (arith, s.across.direct, s.along.direct)

direct_spanned : (ex ey fx fy x y : ℕ) → dist ex ey x y + dist x y fx fy ≡ dist ex ey fx fy → Spanned ex ey fx fy x y
direct_spanned ex ey fx fy x y e =
    record {
      across = record { direct = omega (arith, gap_detour ex x fx, gap_detour ey y fy) };
      along = record { direct = omega (arith, gap_detour ex x fx, gap_detour ey y fy) };
    }

-- A hop towards d from a crossing with a shortest drive to s brings it one farther from s.
farther : {sx sy dx dy x y a b : ℕ} → Spanned dx dy sx sy x y → Toward dx dy x y a b → dist x y sx sy + 1 ≡ dist a b sx sy
farther {sx} {sy} {dx} {dy} {x} {y} {a} {b} s t =
    let k = spanned_toward s t in
    omega (arith, spanned_direct s, spanned_direct k, toward_nearer t, gap_turned dx x, gap_turned dy y, gap_turned dx a, gap_turned dy b)

module _ (w h : ℕ) (s : List ℕ) (sx sy dx dy : ℕ) where
  abbrev C : ℕ → ℕ → Type 0
  C = Marked s w h

  free_tells : (x y : ℕ) → On w h x y → InOut (Open w h C x y) (free s w x y)
  free_tells x y o = go (ℕ_discrete (at s w x y) 0)
    where
      go : Dec (at s w x y ≡ 0) → InOut (Open w h C x y) (free s w x y)
      go (yes e) = is_in (sym (zero_bit e)) (record { on = o; free = λ m. omega (arith, m.mark, e) })
      go (no n) = is_out (sym (other_bit n)) (λ k. k.free (record { on = o; mark = omega arith }))

  -- Open, and with a shortest drive to s.
  abbrev FromS : ℕ → ℕ → Type 0
  FromS x y = Open w h C x y × HasDrive w h C x y sx sy

  carries : (x y a b : ℕ) → Spanned dx dy sx sy x y → FromS x y → Toward dx dy x y a b → HasDrive w h C a b dx dy → FromS a b
  carries x y a b k f t v =
      let o = has_drive_open w h C v in (o, (has_drive_step w h C).1 (hop x y o (near_turned (toward_near t)) (farther k t) f.1))

  -- What the pass from s leaves.
  module _ {g₀ g₁ : List ℕ} (p : Pass w h sx sy (Spanned sx sy dx dy) (free s w) g₀ g₁) where
    spread_means : (x y : ℕ) → On w h x y → Spanned sx sy dx dy x y → InOut (FromS x y) (at g₁ w x y)
    spread_means = pass_means w h C sx sy dx dy (Open w h C) (λ x y o. o) (λ x y a b k o t v. has_drive_open w h C v) (free s w) (λ x y o k. free_tells x y o) g₀ g₁ p

    pub reach_made : Reached w h s sx sy dx dy g₀ g₁
    reach_made =
        record {
          size = p.size;
          reached = λ x y o k. in-out-map (λ f. f.1) (λ v. (has_drive_open w h C v, v)) (spread_means x y o k);
          other = p.other;
        }

  module _ {g g₀ g₁ g₂ : List ℕ} (z : Wiped g g₀) (p : Pass w h sx sy (Spanned sx sy dx dy) (free s w) g₀ g₁)
      (q : Pass w h dx dy (Spanned dx dy sx sy) (at g₁ w) g₁ g₂) where
    sift_means : (x y : ℕ) → On w h x y → Spanned dx dy sx sy x y → InOut (FromS x y × HasDrive w h C x y dx dy) (at g₂ w x y)
    sift_means = pass_means w h C dx dy sx sy FromS (λ x y f. f.0) carries (at g₁ w) (λ x y o k. spread_means p x y o (spanned_turned k)) g₁ g₂ q

    inside : (x y : ℕ) → On w h x y → Spanned sx sy dx dy x y → InOut (InRegion w h C sx sy dx dy x y) (at g₂ w x y)
    inside x y o k = in-out-map to from (sift_means x y o (spanned_turned k))
      where
        to : FromS x y × HasDrive w h C x y dx dy → InRegion w h C sx sy dx dy x y
        to r =
            (region_split w h C sx sy dx dy).1
            (record { on = o; direct = spanned_direct k; before = has_drive_turned w h C r.0.1; after = r.1 })

        from : InRegion w h C sx sy dx dy x y → FromS x y × HasDrive w h C x y dx dy
        from r =
            let b = (region_split w h C sx sy dx dy).0 r in
            ((has_drive_open w h C b.after, has_drive_turned w h C b.before), b.after)

    outside : (x y : ℕ) → On w h x y → ¬ Spanned sx sy dx dy x y → InOut (InRegion w h C sx sy dx dy x y) (at g₂ w x y)
    outside x y o n =
        is_out (q.other x y o (λ k. n (spanned_turned k)) ∙ p.other x y o n ∙ z.zeros (number w x y))
        (λ r. n (direct_spanned sx sy dx dy x y ((region_split w h C sx sy dx dy).0 r).direct))

    pub region_made : length g ≡ h * w → RegionSheet w h C sx sy dx dy g₂
    region_made size = record { size = q.size ∙ p.size ∙ z.size ∙ size; region = λ x y o. go x y o (spanned_dec x y) }
      where
        spanned_dec : (x y : ℕ) → Dec (Spanned sx sy dx dy x y)
        spanned_dec x y = known (ℕ_discrete (dist sx sy x y + dist x y dx dy) (dist sx sy dx dy))
          where
            known : Dec (dist sx sy x y + dist x y dx dy ≡ dist sx sy dx dy) → Dec (Spanned sx sy dx dy x y)
            known (yes e) = yes (direct_spanned sx sy dx dy x y e)
            known (no n) = no (λ k. n (spanned_direct k))

        go : (x y : ℕ) → On w h x y → Dec (Spanned sx sy dx dy x y) → InOut (InRegion w h C sx sy dx dy x y) (at g₂ w x y)
        go x y o (yes k) = inside x y o k
        go x y o (no n) = outside x y o n

-- An end at which nothing stands is open.
pub end_open : {w h x y : ℕ} (s : List ℕ) → On w h x y → at s w x y ≡ 0 → Open w h (Marked s w h) x y
end_open s o e = record { on = o; free = λ m. omega (arith, m.mark, e) }

-- The test at s on the region sheet tells whether there is a shortest drive.
module _ {w h sx sy dx dy i : ℕ} {C : ℕ → ℕ → Type 0} (g : List ℕ) (r : RegionSheet w h C sx sy dx dy g) (o : On w h sx sy) (is : i ≡ number w sx sy) where
  at_start : InOut (InRegion w h C sx sy dx dy sx sy) (get_or g i 0)
  at_start = rw is (r.region sx sy o)

  pub no_way : get_or g i 0 ≡ 0 → ¬ HasDrive w h C sx sy dx dy
  no_way e v = go at_start
    where
      go : InOut (InRegion w h C sx sy dx dy sx sy) (get_or g i 0) → ⊥
      go (is_in f k) = omega (arith, e, f)
      go (is_out f n) = n ((has_drive_in w h C sx sy dx dy).0 v)

  pub some_way : ¬ (get_or g i 0 ≡ 0) → HasDrive w h C sx sy dx dy
  some_way n = go at_start
    where
      go : InOut (InRegion w h C sx sy dx dy sx sy) (get_or g i 0) → HasDrive w h C sx sy dx dy
      go (is_in f k) = (has_drive_in w h C sx sy dx dy).1 k
      go (is_out f m) = absurd (n f)
