-- Rows that need no look: only a row that changes can move a row beside it.
use mathlib.Core.Path.{◌≡◌, refl, sym, ◌∙◌}
use mathlib.Core.List.{List}
use Prim.Native.Nat.{ℕ, ◌+◌, ◌*◌, ◌<◌, ◌≤◌}
use native.Mathlib.Omega.{arith}
use native.Mathlib.Decide.{ℕ_discrete}
use lib.ListN.{length, get_or, set, length-set, replicate}
use lib.Seq.{get_or-set_same, get_or-set_other}
use Rattle.std.proofs.lemmas.List.{get_or-replicate}
use Rattle.field.specs.Map.{Sides}
use Rattle.rows.specs.Layout.{spot, spot_north, spot_south, spot_east, spot_west, sides_w}
use Rattle.closing.specs.Growth.{StillWord, Sweeps}
use Rattle.closing.specs.Closes.{Marks, LookingRow, Looks}
use Rattle.closing.proofs.Laws.Sweeping.{grown_refl, sweeps_zero}

pub marks_start : {w h n : ℕ} {c : List ℕ} → h + 2 ≤ length {A = ℕ} (replicate n 1) → h + 2 ≤ n → Marks w h c (replicate n 1)
marks_start {w} {h} {n} m l = record { long = m; calm = λ y p e j q. absurd (omega (arith, get_or-replicate {A = ℕ} n (y + 1) 1 0 (omega arith))) }

abbrev Row : ℕ → ℕ → ℕ → ℕ → Type 0
Row w y b a = (b ≡ y) × (64 * a < w)

module _ {w h y : ℕ} {s f : List ℕ} (sides : Sides w h) (k : LookingRow w h y s f) where
  pub look_calm : get_or f (y + 1) 0 ≡ 0 → Looks (Row w y) w h s f s f 0
  look_calm e =
      record {
        sweeps = record {
          grown = grown_refl k.rows;
          same = λ z. refl;
          still = λ z b a d. rw d.0 (k.marks.calm y k.in_y e a d.1);
          more = λ m. absurd (m refl);
          frame = λ i n. refl;
        };
        marks = k.marks;
      }

  -- The row was looked at, and nothing changed.
  pub look_still : {d : ℕ} {t : List ℕ} → Sweeps (Row w y) w h s t d → d ≡ 0 → Looks (Row w y) w h s f t (set f (y + 1) 0) 0
  look_still {d} {t} g e =
      record {
        sweeps = sweeps_zero e g;
        marks = record { long = simp length-set k.marks.long; calm = λ z l q j m. calm z l q j m (ℕ_discrete z y) };
      }
    where
      calm : (z : ℕ) → z < h → get_or (set f (y + 1) 0) (z + 1) 0 ≡ 0 → (j : ℕ) → 64 * j < w → Dec (z ≡ y) → StillWord w t z j
      calm z l q j m (yes p) = rw (g.same e) (g.still e z j (p, m))
      calm z l q j m (no n) = rw (g.same e) (k.marks.calm z l (sym (get_or-set_other f (y + 1) (z + 1) 0 0 (λ u. n (omega arith))) ∙ q) j m)

  -- The row has changed.
  pub look_grown : {d : ℕ} {t : List ℕ} → Sweeps (Row w y) w h s t d → (get_or f (y + 1) 0 ≡ 0 → ⊥) → Looks (Row w y) w h s f t (set (set f y 1) (y + 2) 1) d
  look_grown {d} {t} g e =
      record {
        sweeps = g;
        marks = record { long = simp length-set k.marks.long; calm = λ z l q j m. calm z l q j m (ℕ_discrete z y) (ℕ_discrete (z + 1) y) (ℕ_discrete z (y + 1)) };
      }
    where
      long : y + 2 < length f
      long = omega (arith, k.marks.long, k.in_y)

      calm : (z : ℕ) → z < h → get_or (set (set f y 1) (y + 2) 1) (z + 1) 0 ≡ 0 → (j : ℕ) → 64 * j < w → Dec (z ≡ y) → Dec (z + 1 ≡ y) → Dec (z ≡ y + 1) → StillWord w t z j
      calm z l q j m (yes a) b c =
          let u : z + 1 ≡ y + 1 = omega arith in
          absurd (e (sym (get_or-set_other (set f y 1) (y + 2) (y + 1) 1 0 (λ v. omega arith) ∙ get_or-set_other f y (y + 1) 1 0 (λ v. omega arith)) ∙ (rw u at q)))
      calm z l q j m (no a) (yes b) c =
          let v : get_or (set (set f y 1) (y + 2) 1) y 0 ≡ 1 = get_or-set_other (set f y 1) (y + 2) y 1 0 (λ u. omega arith) ∙ get_or-set_same f y 1 0 (omega (arith, long)) in
          absurd (omega (arith, v, rw b at q))
      calm z l q j m (no a) (no b) (yes c) =
          let u : z + 1 ≡ y + 2 = omega arith in
          let v : get_or (set (set f y 1) (y + 2) 1) (y + 2) 0 ≡ 1 = get_or-set_same (set f y 1) (y + 2) 1 0 (simp length-set long) in
          absurd (omega (arith, v, rw u at q))
      calm z l q j m (no a) (no b) (no c) =
          let o = k.marks.calm z l (sym (get_or-set_other (set f y 1) (y + 2) (z + 1) 1 0 (λ u. c (omega arith)) ∙ get_or-set_other f y (z + 1) 1 0 (λ u. b u)) ∙ q) j m in
          let ww = sides_w sides in
          let e6 : get_or t (spot z j) 0 ≡ get_or s (spot z j) 0 = g.frame (spot z j) (λ y' a' p u. omega (arith, p.0, p.1, ww)) in
          let e11 : get_or t (spot_north z j) 0 ≡ get_or s (spot_north z j) 0 = g.frame (spot_north z j) (λ y' a' p u. omega (arith, p.0, p.1, ww)) in
          let e1 : get_or t (spot_south z j) 0 ≡ get_or s (spot_south z j) 0 = g.frame (spot_south z j) (λ y' a' p u. omega (arith, p.0, p.1, ww)) in
          let e7 : get_or t (spot_east z j) 0 ≡ get_or s (spot_east z j) 0 = g.frame (spot_east z j) (λ y' a' p u. omega (arith, p.0, p.1, ww)) in
          let e5 : get_or t (spot_west z j) 0 ≡ get_or s (spot_west z j) 0 = g.frame (spot_west z j) (λ y' a' p u. omega (arith, p.0, p.1, ww)) in
          record { mask = o.mask; masks = o.masks; still = rw (e6, e11, e1, e7, e5) o.still }
