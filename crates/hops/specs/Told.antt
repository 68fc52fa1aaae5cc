-- What the hop's answer tells of the closed crossings that the sheet draws: it names exactly the
-- permitted hops, and is "there" exactly at home. A hop is permitted over the sheet's marks where
-- it is permitted over C, for the two agree on which crossings are open.
use Rattle.std.specs.Prelude.{◌≡◌, List, ◌⊎◌, ◌↔◌, ℕ}
use Rattle.std.proofs.Common.{sym, ◌∙◌, subst₂, inl, inr, arith}
use Rattle.field.specs.Labels.{Stable, Open}
use Rattle.field.specs.Distances.{Assured}
use Rattle.field.specs.Hops.{Permitted, There, HopAnswer, there, one, two, Answers, at_home, just, both}
use Rattle.field.specs.Workings.Sheet.{Marked, Draws}
use Rattle.field.proofs.Workings.HopLaws.{ByRow, ByColumn, permitted_which, permitted_other, permitted_away}
use Rattle.distances.specs.Drawn.{assured_drawn}
use Rattle.hops.specs.Promise.{MayHop}

-- The answer names (a, b).
abbrev pub AnswerNames : HopAnswer → ℕ → ℕ → Type 0
AnswerNames there a b = ⊥
AnswerNames (one c d) a b = (a ≡ c) × (b ≡ d)
AnswerNames (two c d e f) a b = ((a ≡ c) × (b ≡ d)) ⊎ ((a ≡ e) × (b ≡ f))

module _ {w h : ℕ} {C : ℕ → ℕ → Type 0} {hx hy x y : ℕ} where
  -- The permitted hop on the row is the one that leads along the row, and so on the column.
  same_row : {a b c d : ℕ} → Permitted w h C hx hy x y a b → b ≡ y → ByRow hx x y c d → (c ≡ a) × (d ≡ b)
  same_row {a} {b} {c} {d} p e q = go (permitted_which p)
    where
      go : ByRow hx x y a b ⊎ ByColumn hy x y a b → (c ≡ a) × (d ≡ b)
      go (inl r) = (q.0 ∙ sym r.0, q.1 ∙ sym r.1)
      go (inr r) = absurd (permitted_other p (r.0, e))

  same_column : {a b c d : ℕ} → Permitted w h C hx hy x y a b → a ≡ x → ByColumn hy x y c d → (c ≡ a) × (d ≡ b)
  same_column {a} {b} {c} {d} p e q = go (permitted_which p)
    where
      go : ByRow hx x y a b ⊎ ByColumn hy x y a b → (c ≡ a) × (d ≡ b)
      go (inl r) = absurd (permitted_other p (e, r.1))
      go (inr r) = (q.0 ∙ sym r.0, q.1 ∙ sym r.1)

  -- The hop to a crossing under other names for its coordinates.
  renamed : {a b c d : ℕ} → Permitted w h C hx hy x y c d → (a ≡ c) × (b ≡ d) → Permitted w h C hx hy x y a b
  renamed p e = subst₂ (Permitted w h C hx hy x y) (sym e.0) (sym e.1) p

  -- The answer names exactly the permitted hops.
  pub answer_names : {r : HopAnswer} → Answers w h C hx hy x y r → (a b : ℕ) → (Permitted w h C hx hy x y a b ↔ AnswerNames r a b)
  answer_names (at_home t e) a b = rw e (λ p. permitted_away p t, λ n. absurd n)
  answer_names (just c d p f e) a b = rw e (λ q. f a b q, renamed p)
  answer_names (both c d i j p k q l e) a b = rw e (λ o. which (permitted_which o), named)
    where
      which : ByRow hx x y a b ⊎ ByColumn hy x y a b → AnswerNames (two c d i j) a b
      which (inl o) = inl (same_row p k o)
      which (inr o) = inr (same_column q l o)

      named : AnswerNames (two c d i j) a b → Permitted w h C hx hy x y a b
      named (inl n) = renamed p n
      named (inr n) = renamed q n

  -- It is "there" exactly at home.
  pub answer_there : {r : HopAnswer} → Answers w h C hx hy x y r → (r ≡ there ↔ There hx hy x y)
  answer_there (at_home t e) = (λ f. t, λ u. e)
  answer_there (just c d p f e) = (λ g. absurd (let z : ◌≡◌ {A = ℕ} 0 1 = cc in omega arith), λ u. absurd (permitted_away p u))
  answer_there (both c d i j p k q l e) = (λ g. absurd (let z : ◌≡◌ {A = ℕ} 0 1 = cc in omega arith), λ u. absurd (permitted_away p u))

-- A sheet that draws C.
module _ {w h : ℕ} {C : ℕ → ℕ → Type 0} {s : List ℕ} (D : Draws w h C s) where
  -- A crossing without a mark is a crossing outside C.
  open-drawn : {x y : ℕ} → (Open w h (Marked s w h) x y ↔ Open w h C x y)
  open-drawn {x} {y} = (
    λ o. record { on = o.on; free = λ c. o.free (D.complete x y c) },
    λ o. record { on = o.on; free = λ m. o.free (D.sound x y m) },
  )

  -- So the same hops are permitted.
  permitted_drawn : {hx hy x y a b : ℕ} → (Permitted w h (Marked s w h) hx hy x y a b ↔ Permitted w h C hx hy x y a b)
  permitted_drawn = (
    λ p. record { near = p.near; to = open-drawn.0 p.to; homeward = p.homeward },
    λ p. record { near = p.near; to = open-drawn.1 p.to; homeward = p.homeward },
  )

  -- The answer over the sheet's marks is the answer over C.
  pub answers_drawn : {hx hy x y : ℕ} {r : HopAnswer} → Answers w h (Marked s w h) hx hy x y r → Answers w h C hx hy x y r
  answers_drawn (at_home t e) = at_home t e
  answers_drawn (just a b p f e) = just a b (permitted_drawn.0 p) (λ c d q. f c d (permitted_drawn.1 q)) e
  answers_drawn (both a b c d p k q l e) = both a b c d (permitted_drawn.0 p) k (permitted_drawn.0 q) l e

  -- It names exactly the permitted hops of C.
  pub told_permitted : {hx hy x y : ℕ} {r : HopAnswer} → Answers w h (Marked s w h) hx hy x y r
      → (a b : ℕ) → (Permitted w h C hx hy x y a b ↔ AnswerNames r a b)
  told_permitted t = answer_names (answers_drawn t)

  -- It is "there", and names none, exactly at home.
  pub told_there : {hx hy x y : ℕ} {r : HopAnswer} → Answers w h (Marked s w h) hx hy x y r → (r ≡ there ↔ There hx hy x y)
  told_there t = answer_there (answers_drawn t)

  pub told_none : {hx hy x y : ℕ} {r : HopAnswer} → Answers w h (Marked s w h) hx hy x y r → There hx hy x y → (a b : ℕ) → ¬ AnswerNames r a b
  told_none t u a b n = permitted_away ((told_permitted t a b).1 n) u

  -- Where no open crossing has two closed neighbours and home is assured, a hop may be asked.
  pub may_hop : {hx hy x y : ℕ} → Stable w h C → Assured w h C hx hy x y → MayHop w h s hx hy x y
  may_hop st a =
      record {
        stable = λ x y a b c d o n k t p q. D.complete x y (st x y a b c d o n k t (D.sound a b p) (D.sound c d q));
        assured = (assured_drawn D).1 a;
      }
