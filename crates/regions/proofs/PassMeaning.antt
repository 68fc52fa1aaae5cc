-- What a pass from e means. Each crossing of its rectangle is allowed or not, and the sheet then
-- marks the allowed ones that have a shortest drive to e: by the first hop of such a drive, and by
-- induction on the distance.
use mathlib.Core.Path.{◌≡◌, refl, sym, ap, ◌∙◌}
use mathlib.Core.Bool.{Bool, true, false, cond, ◌&&◌, ◌||◌, true≢false}
use mathlib.Core.List.{List}
use mathlib.Core.Logic.{◌⊎◌, inl, inr}
use Prim.Native.Nat.{ℕ, zero, suc, ◌+◌, ◌<◌}
use native.Mathlib.Omega.{arith}
use lib.Dec.{eqb}
use borrow.Author.Tests.{eqb-true, eq-eqb}
use Rattle.field.specs.Map.{On, at, dist}
use Rattle.field.specs.Labels.{Open}
use Rattle.field.specs.Drives.{HasDrive, InOut, is_in, is_out}
use Rattle.field.specs.Workings.Sheet.{Marked}
use Rattle.field.proofs.Workings.Marks.{and_split, and_both, or_split, or_right}
use Rattle.field.specs.Workings.Tests.{or_left}
use Rattle.field.specs.Workings.Looking.{hop_to}
use Rattle.field.specs.Workings.Reaching.{east_west_in, north_south_in}
use Rattle.field.proofs.Workings.GridLaws.{Toward, along_row, along_column, nearer_toward, toward_near, toward_nearer}
use Rattle.field.proofs.Workings.DriveLaws.{FirstHop, there, hop, has_drive_open, has_drive_step}
use Rattle.regions.specs.Passes.{Spanned, backed, Pass}
use Rattle.regions.proofs.WayLaws.{way_turned, way_hop}
use Rattle.regions.proofs.LookLaws.{east_west_tells, north_south_tells}

-- Why (x, y) is backed: it is the end, or one of the two hops towards the end leads to a mark.
data Backing (g : List ℕ) (w h ex ey x y : ℕ) : Type 0 where
  at_end : x ≡ ex → y ≡ ey → Backing g w h ex ey x y
  behind : (a b : ℕ) → Toward ex ey x y a b → Marked g w h a b → Backing g w h ex ey x y

module _ (g : List ℕ) (w h ex ey x y : ℕ) where
  backed_split : backed g w h ex ey x y ≡ true → Backing g w h ex ey x y
  unfolding backed
  backed_split e = go (or_split _ _ e)
    where
      hops : (east_west_in g w h ex x y ≡ true) ⊎ (north_south_in g w h ey x y ≡ true) → Backing g w h ex ey x y
      hops (inl f) = let k = (east_west_tells g w h ex x y).1 f in behind (hop_to x ex) y (along_row k.0 refl refl) k.1
      hops (inr f) = let k = (north_south_tells g w h ey x y).1 f in behind x (hop_to y ey) (along_column k.0 refl refl) k.1

      go : ((eqb x ex && eqb y ey) ≡ true) ⊎ ((east_west_in g w h ex x y || north_south_in g w h ey x y) ≡ true) → Backing g w h ex ey x y
      go (inl f) = let k = and_split (eqb x ex) (eqb y ey) f in at_end (eqb-true _ _ k.0) (eqb-true _ _ k.1)
      go (inr f) = hops (or_split _ _ f)

  backing : Backing g w h ex ey x y → backed g w h ex ey x y ≡ true
  unfolding backed
  backing (at_end p q) = or_left _ _ (and_both _ _ (eq-eqb x ex p) (eq-eqb y ey q))
  backing (behind a b (along_row n p q) m) =
      or_right (eqb x ex && eqb y ey) _ (or_left _ _ ((east_west_tells g w h ex x y).0 (n, rw (p, q) at m)))
  backing (behind a b (along_column n p q) m) =
      or_right (eqb x ex && eqb y ey) _ (or_right (east_west_in g w h ex x y) _ ((north_south_tells g w h ey x y).0 (n, rw (p, q) at m)))

-- A hop towards an end stays in the rectangle.
pub spanned_toward : {ex ey fx fy x y a b : ℕ} → Spanned ex ey fx fy x y → Toward ex ey x y a b → Spanned ex ey fx fy a b
spanned_toward s (along_row n p q) = record { across = rw p (way_turned (way_hop (way_turned s.across) n)); along = rw q s.along }
spanned_toward s (along_column n p q) = record { across = rw p s.across; along = rw q (way_turned (way_hop (way_turned s.along) n)) }

-- A says which crossings of the rectangle are allowed: they are open, and on the way to e a
-- shortest drive keeps to them.
module _ (w h : ℕ) (C : ℕ → ℕ → Type 0) (ex ey fx fy : ℕ) (A : ℕ → ℕ → Type 0) (is_open : (x y : ℕ) → A x y → Open w h C x y)
    (carries : (x y a b : ℕ) → Spanned ex ey fx fy x y → A x y → Toward ex ey x y a b → HasDrive w h C a b ex ey → A a b) where
  -- At (x, y) stands 1 if it is allowed and has a shortest drive to e, and else 0.
  abbrev Right : List ℕ → ℕ → ℕ → Type 0
  Right g x y = InOut (A x y × HasDrive w h C x y ex ey) (at g w x y)

  abbrev Nearer : List ℕ → ℕ → ℕ → Type 0
  Nearer g x y = (a b : ℕ) → dist a b ex ey + 1 ≡ dist x y ex ey → On w h a b → Spanned ex ey fx fy a b → Right g a b

  -- A backed crossing that is allowed has such a drive, and one that has such a drive is backed, if
  -- all is right one hop nearer e.
  right_mark : (g : List ℕ) {a b : ℕ} → Right g a b → 0 < at g w a b → HasDrive w h C a b ex ey
  right_mark g (is_in e r) l = r.1
  right_mark g (is_out e n) l = absurd (omega arith)

  mark_right : (g : List ℕ) {a b : ℕ} → Right g a b → A a b → HasDrive w h C a b ex ey → On w h a b → Marked g w h a b
  mark_right g (is_in e r) a d o = record { on = o; mark = omega arith }
  mark_right g (is_out e n) a d o = absurd (n (a, d))

  backing_drive : {g : List ℕ} {x y : ℕ} → Nearer g x y → Spanned ex ey fx fy x y → A x y → Backing g w h ex ey x y → HasDrive w h C x y ex ey
  backing_drive r s a (at_end p q) = (has_drive_step w h C).1 (there (is_open _ _ a) p q)
  backing_drive {g} r s a (behind c d t m) =
      let k = right_mark g (r c d (toward_nearer t) m.on (spanned_toward s t)) m.mark in
      (has_drive_step w h C).1 (hop c d (is_open _ _ a) (toward_near t) (toward_nearer t) k)

  drive_backing : {g : List ℕ} {x y : ℕ} → Nearer g x y → Spanned ex ey fx fy x y → A x y → FirstHop w h C x y ex ey → Backing g w h ex ey x y
  drive_backing r s a (there o p q) = at_end p q
  drive_backing {g} {x} {y} r s a (hop c d o n e v) =
      let t = nearer_toward ex ey n e in
      let k = (has_drive_open w h C v).on in
      behind c d t (mark_right g (r c d e k (spanned_toward s t)) (carries x y c d s a t v) v k)

  allowed_right : (g : List ℕ) (x y : ℕ) → Nearer g x y → Spanned ex ey fx fy x y → A x y → (t : Bool) → backed g w h ex ey x y ≡ t
      → at g w x y ≡ cond t 1 0 → Right g x y
  allowed_right g x y r s a true e f = is_in f (a, backing_drive r s a (backed_split g w h ex ey x y e))
  allowed_right g x y r s a false e f =
      is_out f (λ k. true≢false (sym (backing g w h ex ey x y (drive_backing r s a ((has_drive_step w h C).0 k.1))) ∙ e))

  cond_zero : (t : Bool) → ◌≡◌ {A = ℕ} (cond t 0 0) 0
  cond_zero true = refl
  cond_zero false = refl

  module _ (v : ℕ → ℕ → ℕ) (tells : (x y : ℕ) → On w h x y → Spanned ex ey fx fy x y → InOut (A x y) (v x y)) (g g' : List ℕ)
      (p : Pass w h ex ey (Spanned ex ey fx fy) v g g') where
    step : (x y : ℕ) → Nearer g' x y → On w h x y → Spanned ex ey fx fy x y → InOut (A x y) (v x y) → Right g' x y
    step x y r o s (is_in e a) = allowed_right g' x y r s a _ refl (p.passed x y o s ∙ ap (λ (k : ℕ). cond (backed g' w h ex ey x y) k 0) e)
    step x y r o s (is_out e n) =
        is_out (p.passed x y o s ∙ ap (λ (k : ℕ). cond (backed g' w h ex ey x y) k 0) e ∙ cond_zero (backed g' w h ex ey x y)) (λ k. n k.0)

    means : (n x y : ℕ) → dist x y ex ey ≡ n → On w h x y → Spanned ex ey fx fy x y → Right g' x y
    means zero x y e o s = step x y (λ a b f. absurd (omega arith)) o s (tells x y o s)
    means (suc n) x y e o s = step x y (λ a b f. means n a b (omega arith)) o s (tells x y o s)

    pub pass_means : (x y : ℕ) → On w h x y → Spanned ex ey fx fy x y → InOut (A x y × HasDrive w h C x y ex ey) (at g' w x y)
    pass_means x y = means _ x y refl
