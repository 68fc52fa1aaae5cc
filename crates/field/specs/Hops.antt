-- Single hops homeward, their answer, and sequences of them. C tells the closed crossings, (hx, hy)
-- is home.
use Rattle.std.specs.Prelude.{◌≡◌, ℕ, ◌+◌}
use Rattle.field.specs.Map.{Near, dist}
use Rattle.field.specs.Labels.{Open}

-- "A permitted hop homeward goes to an open neighbour one hop nearer home."
pub record Permitted (w h : ℕ) (C : ℕ → ℕ → Type 0) (hx hy x y a b : ℕ) : Type 0 where
  pub near : Near x y a b
  pub to : Open w h C a b
  pub homeward : dist a b hx hy + 1 ≡ dist x y hx hy

-- "At home there is none, and the answer is 'there'."
abbrev pub There : ℕ → ℕ → ℕ → ℕ → Type 0
There hx hy x y = (x ≡ hx) × (y ≡ hy)

-- What a hop call may answer: "there", one crossing, or two.
pub data HopAnswer : Type 0 where
  there : HopAnswer
  one : ℕ → ℕ → HopAnswer
  two : ℕ → ℕ → ℕ → ℕ → HopAnswer

-- "The answer names every permitted hop, the east-west one first." An east-west hop keeps the row,
-- a north-south one the column.
pub data Answers (w h : ℕ) (C : ℕ → ℕ → Type 0) (hx hy x y : ℕ) (r : HopAnswer) : Type 0 where
  at_home : There hx hy x y → r ≡ there → Answers w h C hx hy x y r
  just : (a b : ℕ) → Permitted w h C hx hy x y a b → ((c d : ℕ) → Permitted w h C hx hy x y c d → (c ≡ a) × (d ≡ b))
      → r ≡ one a b → Answers w h C hx hy x y r
  both : (a b c d : ℕ) → Permitted w h C hx hy x y a b → b ≡ y → Permitted w h C hx hy x y c d → c ≡ x
      → r ≡ two a b c d → Answers w h C hx hy x y r

-- n permitted hops, one after the other, lead from (x, y) to (a, b).
pub data Taken (w h : ℕ) (C : ℕ → ℕ → Type 0) (hx hy x y : ℕ) : ℕ → ℕ → ℕ → Type 0 where
  none : {n a b : ℕ} → n ≡ 0 → a ≡ x → b ≡ y → Taken w h C hx hy x y n a b
  hop : {n m a b c d : ℕ} → Taken w h C hx hy x y n a b → Permitted w h C hx hy a b c d → m ≡ n + 1 → Taken w h C hx hy x y m c d
