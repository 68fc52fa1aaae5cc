-- The hop call's tests on a sheet of the closed crossings: each tells whether its hop is permitted,
-- every permitted hop is one of theirs, and so the answer made of them is the answer.
use Rattle.std.specs.Prelude.{◌≡◌, Bool, true, List, ◌⊎◌, ◌↔◌, ℕ}
use Rattle.std.proofs.Math.Path.{refl}
use Rattle.std.proofs.Common.{sym, ◌∙◌, true≢false, inl, inr}
use Rattle.std.proofs.Math.Bool.{false}
use Rattle.std.proofs.Math.Logic.Iff
use Rattle.std.proofs.Math.Logic.Dec
use Rattle.std.proofs.Math.Decide.{ℕ_discrete}
use Rattle.field.specs.Workings.Tests.{only, off_looks}
use Rattle.field.specs.Map.{Apart}
use Rattle.field.specs.Hops.{Permitted, There, HopAnswer, Answers, at_home, just, both}
use Rattle.field.specs.Workings.Sheet.{Draws}
use Rattle.field.specs.Workings.Looking.{hop_to, east_west_of, north_south_of, answer_of, hop_of}
use Rattle.field.proofs.Workings.AssuredLaws.{open_looks}
use Rattle.field.proofs.Workings.HopLaws.{ByRow, ByColumn, permitted_which, permitted_other, answers_one, row_permitted, column_permitted}

-- One of the two tests passes, and (a, b) is where its hop leads.
abbrev pub HopTested : List ℕ → ℕ → ℕ → ℕ → ℕ → ℕ → ℕ → ℕ → ℕ → Type 0
HopTested s w h hx hy x y a b =
    (ByRow hx x y a b × (east_west_of s w h hx x y ≡ true)) ⊎ (ByColumn hy x y a b × (north_south_of s w h hy x y ≡ true))

module _ (w h : ℕ) (C : ℕ → ℕ → Type 0) (s : List ℕ) (D : Draws w h C s) (hx hy x y : ℕ) where
  -- Each test tells whether its hop is permitted.
  pub east_west_permitted : Permitted w h C hx hy x y (hop_to x hx) y ↔ east_west_of s w h hx x y ≡ true
  unfolding east_west_of
  east_west_permitted = Iff.trans (Iff.symm row_permitted) (off_looks _ (open_looks w h C s D (hop_to x hx) y) x hx)

  pub north_south_permitted : Permitted w h C hx hy x y x (hop_to y hy) ↔ north_south_of s w h hy x y ≡ true
  unfolding north_south_of
  north_south_permitted = Iff.trans (Iff.symm column_permitted) (off_looks _ (open_looks w h C s D x (hop_to y hy)) y hy)

  -- The hops that the two tests tell are the permitted ones.
  pub permitted_looks : (a b : ℕ) → (Permitted w h C hx hy x y a b ↔ HopTested s w h hx hy x y a b)
  permitted_looks a b = (λ p. told p (permitted_which p), holds)
    where
      told : Permitted w h C hx hy x y a b → ByRow hx x y a b ⊎ ByColumn hy x y a b → HopTested s w h hx hy x y a b
      told p (inl e) = inl (e, east_west_permitted.0 (rw (e.0, e.1) at p))
      told p (inr e) = inr (e, north_south_permitted.0 (rw (e.0, e.1) at p))

      holds : HopTested s w h hx hy x y a b → Permitted w h C hx hy x y a b
      holds (inl (e, t)) = rw (e.0, e.1) (east_west_permitted.1 t)
      holds (inr (e, t)) = rw (e.0, e.1) (north_south_permitted.1 t)

  -- Where one test fails, the other's hop is the only one.
  row_alone : north_south_of s w h hy x y ≡ false → (a b : ℕ) → Permitted w h C hx hy x y a b → ByRow hx x y a b
  row_alone f a b p = go ((permitted_looks a b).0 p)
    where
      go : HopTested s w h hx hy x y a b → ByRow hx x y a b
      go (inl (e, t)) = e
      go (inr (e, t)) = absurd (true≢false (sym t ∙ f))

  column_alone : east_west_of s w h hx x y ≡ false → (a b : ℕ) → Permitted w h C hx hy x y a b → ByColumn hy x y a b
  column_alone f a b p = go ((permitted_looks a b).0 p)
    where
      go : HopTested s w h hx hy x y a b → ByColumn hy x y a b
      go (inl (e, t)) = absurd (true≢false (sym t ∙ f))
      go (inr (e, t)) = e

  -- With no test passed there is no permitted hop, and so the place is home.
  answer_of_lem : (Apart x y hx hy → (a : ℕ) × (b : ℕ) × Permitted w h C hx hy x y a b) → Answers w h C hx hy x y (hop_of s w h hx hy x y)
  unfolding hop_of
  answer_of_lem some = go (east_west_of s w h hx x y) (north_south_of s w h hy x y) refl refl
    where
      home : east_west_of s w h hx x y ≡ false → north_south_of s w h hy x y ≡ false → Dec (There hx hy x y) → There hx hy x y
      home p q (yes t) = t
      home p q (no f) = let r = some f in absurd (permitted_other r.2 ((column_alone p _ _ r.2).0, (row_alone q _ _ r.2).1))

      go : (e n : Bool) → east_west_of s w h hx x y ≡ e → north_south_of s w h hy x y ≡ n
          → Answers w h C hx hy x y (answer_of e n x y (hop_to x hx) (hop_to y hy))
      go true true p q = both (hop_to x hx) y x (hop_to y hy) (east_west_permitted.1 p) refl (north_south_permitted.1 q) refl refl
      go true false p q = just (hop_to x hx) y (east_west_permitted.1 p) (row_alone q) refl
      go false true p q = just x (hop_to y hy) (north_south_permitted.1 q) (column_alone p) refl
      go false false p q = at_home (home p q (Dec.and (ℕ_discrete x hx) (ℕ_discrete y hy))) refl

  -- Where some hop is permitted unless the place is home, the answer names the hops that the tests
  -- tell.
  pub hop_looks : (Apart x y hx hy → (a : ℕ) × (b : ℕ) × Permitted w h C hx hy x y a b)
      → (r : HopAnswer) → (Answers w h C hx hy x y r ↔ r ≡ hop_of s w h hx hy x y)
  hop_looks some r = only (Answers w h C hx hy x y) (hop_of s w h hx hy x y) (answer_of_lem some) (λ r r'. answers_one) r
