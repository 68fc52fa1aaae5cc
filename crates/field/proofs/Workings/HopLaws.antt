-- Single hops homeward: a permitted hop keeps the row or the column, and of the two places next to
-- one on the other axis only one is nearer home. So from a place there are at most two, and what a
-- hop call may answer is one.
use Rattle.std.specs.Prelude.{◌≡◌, refl, ◌⊎◌, ◌↔◌, ◌≢◌, ℕ}
use Rattle.std.proofs.Common.{inl, inr, arith}
use Rattle.field.specs.Map.{Apart}
use Rattle.field.specs.Labels.{Open}
use Rattle.field.specs.Hops.{Permitted, HopAnswer, Answers, at_home, just, both}
use Rattle.field.specs.Workings.Looking.{hop_to}
pub use Rattle.field.proofs.Workings.AxisLaws.{Step, up, down, hop_up, hop_down, hop_step, hop_nearer, step_hop}
use Rattle.field.proofs.Workings.GridLaws.{dist_none, near_apart, Toward, along_row, along_column, nearer_toward, toward_near, toward_nearer, toward_row, toward_column}

-- The hop along the row leads to (a, b), and the hop along the column.
abbrev pub ByRow : ℕ → ℕ → ℕ → ℕ → ℕ → Type 0
ByRow hx x y a b = (a ≡ hop_to x hx) × (b ≡ y)

abbrev pub ByColumn : ℕ → ℕ → ℕ → ℕ → ℕ → Type 0
ByColumn hy x y a b = (a ≡ x) × (b ≡ hop_to y hy)

module _ {w h : ℕ} {C : ℕ → ℕ → Type 0} {hx hy x y : ℕ} where
  -- A permitted hop is one of the two hops towards home, and a hop towards home that leads to an
  -- open crossing is permitted.
  pub permitted_toward : {a b : ℕ} → Permitted w h C hx hy x y a b → Toward hx hy x y a b
  permitted_toward p = nearer_toward hx hy p.near p.homeward

  toward_permitted : {a b : ℕ} → Toward hx hy x y a b → Open w h C a b → Permitted w h C hx hy x y a b
  toward_permitted t o = record { near = toward_near t; to = o; homeward = toward_nearer t }

  pub permitted_which : {a b : ℕ} → Permitted w h C hx hy x y a b → ByRow hx x y a b ⊎ ByColumn hy x y a b
  permitted_which {a} {b} p = go (permitted_toward p)
    where
      go : Toward hx hy x y a b → ByRow hx x y a b ⊎ ByColumn hy x y a b
      go (along_row n q e) = inl (q, e)
      go (along_column n q e) = inr (q, e)

  -- A hop leaves the place, and at home there is none.
  pub permitted_other : {a b : ℕ} → Permitted w h C hx hy x y a b → Apart a b x y
  permitted_other p e = near_apart p.near e.0 e.1

  pub permitted_away : {a b : ℕ} → Permitted w h C hx hy x y a b → Apart x y hx hy
  permitted_away p e = omega (arith, p.homeward, dist_none e.0 e.1)

  -- There is one on the row, and one on the column.
  permitted_row : {a b : ℕ} → Permitted w h C hx hy x y a b → b ≡ y → a ≡ hop_to x hx
  permitted_row p e = (toward_row (permitted_toward p) e).1

  permitted_column : {a b : ℕ} → Permitted w h C hx hy x y a b → a ≡ x → b ≡ hop_to y hy
  permitted_column p e = (toward_column (permitted_toward p) e).1

  -- Two permitted hops on two axes are not all one hop.
  permitted_two : {a b c d k l : ℕ} → Permitted w h C hx hy x y a b → b ≡ y → c ≡ x → (a ≡ k) × (b ≡ l) → (c ≡ k) × (d ≡ l) → ⊥
  permitted_two p e e' q r = permitted_other p (omega arith)

  -- A place has one answer.
  pub answers_one : {r r' : HopAnswer} → Answers w h C hx hy x y r → Answers w h C hx hy x y r' → r ≡ r'
  answers_one (at_home t e) (at_home t' e') = cc
  answers_one (at_home t e) (just a b p f e') = absurd (permitted_away p t)
  answers_one (at_home t e) (both a b c d p k q l e') = absurd (permitted_away p t)
  answers_one (just a b p f e) (at_home t e') = absurd (permitted_away p t)
  answers_one (just a b p f e) (just a' b' p' f' e') = let z = f a' b' p' in cc
  answers_one (just a b p f e) (both a' b' c d p' k q l e') = absurd (permitted_two p' k l (f a' b' p') (f c d q))
  answers_one (both a b c d p k q l e) (at_home t e') = absurd (permitted_away p t)
  answers_one (both a b c d p k q l e) (just a' b' p' f e') = absurd (permitted_two p k l (f a b p) (f c d q))
  answers_one (both a b c d p k q l e) (both a' b' c' d' p' k' q' l' e') =
      cc (permitted_row p k, permitted_row p' k', permitted_column q l, permitted_column q' l')

  -- Off home's column the hop along the row is permitted where it leads to an open crossing, and
  -- off home's row the one along the column.
  pub row_permitted : ((x ≢ hx) × Open w h C (hop_to x hx) y) ↔ Permitted w h C hx hy x y (hop_to x hx) y
  row_permitted = (λ o. toward_permitted (along_row o.0 refl refl) o.1, λ p. ((toward_row (permitted_toward p) refl).0, p.to))

  pub column_permitted : ((y ≢ hy) × Open w h C x (hop_to y hy)) ↔ Permitted w h C hx hy x y x (hop_to y hy)
  column_permitted = (λ o. toward_permitted (along_column o.0 refl refl) o.1, λ p. ((toward_column (permitted_toward p) refl).0, p.to))
