-- The crossing lines are fixed by the map: there is one westmost open column and one southmost open
-- row, and where there are such lines at all, they can be found by going through the rectangle.
use Rattle.std.specs.Prelude.{◌≡◌, refl, List, ◌∷◌, ℕ, zero, suc, ◌+◌, ◌<◌, ◌≤◌, min, max}
use Rattle.std.proofs.Common.{sym, subst, ap₂, ◌∙◌, arith}
use Rattle.std.proofs.Math.Decide.{dec_le}
use Rattle.field.specs.Map.{OnMap, number}
use Rattle.field.specs.Labels.{Open}
use Rattle.field.specs.Chooser.{Driven}
use Rattle.field.specs.CrossingLines.{OpenColumn, OpenRow, Lines, HasLines, LinesAnswer, says_no, says_yes, Says, DrivenBy}
use Rattle.field.proofs.Workings.Marks.{decided, decided_draws}
use Rattle.field.proofs.Workings.AssuredLaws.{open_dec}
use Rattle.field.proofs.Workings.ChooserLaws.{driven_one}
use Rattle.field.specs.Geometry.Shapes.{Between}

module _ {w h : ℕ} {C : ℕ → ℕ → Type 0} {sx sy dx dy : ℕ} where
  -- One westmost column, one southmost row.
  pub lines_one : {c r c' r' : ℕ} → Lines w h C sx sy dx dy c r → Lines w h C sx sy dx dy c' r' → (c ≡ c') × (r ≡ r')
  lines_one {c} {r} {c'} {r'} p q =
      (omega (arith, p.westmost c' q.column_open, q.westmost c p.column_open), omega (arith, p.southmost r' q.row_open, q.southmost r p.row_open))

  -- Lines say yes.
  pub lines_yes : {c r : ℕ} → Lines w h C sx sy dx dy c r → HasLines w h C sx sy dx dy
  lines_yes {c} {r} p = record { column = c; row = r; column_open = p.column_open; row_open = p.row_open }

  -- The drive by way of a crossing, and the state after it, are fixed by the crossing and the
  -- state.
  pub driven_by_one : {x y z z' z'' : ℕ} {l m : List ℕ} → DrivenBy w h C sx sy dx dy x y z l z' → DrivenBy w h C sx sy dx dy x y z m z'' → (l ≡ m) × (z' ≡ z'')
  driven_by_one {x} {y} p q =
      let a = driven_one w h C sx sy x y p.to_meeting q.to_meeting in
      let b = driven_one w h C x y dx dy p.from_meeting (subst (λ (k : ℕ). Driven w h C x y dx dy x y k (number w x y ∷ q.onward) _) (sym a.1) q.from_meeting) in
      let first : p.first ≡ q.first = a.0 in
      let rest : p.onward ≡ q.onward = cc in
      (p.joined ∙ rw (first, rest) (sym q.joined), b.1)

-- One answer of the test.
pub said_one : (w h : ℕ) (C : ℕ → ℕ → Type 0) (sx sy dx dy : ℕ) (a b : LinesAnswer) → Says w h C sx sy dx dy a → Says w h C sx sy dx dy b → a ≡ b
said_one w h C sx sy dx dy says_no says_no p q = refl
said_one w h C sx sy dx dy says_no (says_yes c r) p q = absurd (p (lines_yes q))
said_one w h C sx sy dx dy (says_yes c r) says_no p q = absurd (q (lines_yes p))
said_one w h C sx sy dx dy (says_yes c r) (says_yes d s) p q = let e = lines_one p q in ap₂ says_yes e.0 e.1

-- The least of the numbers from a on, k of them, that are in P, or that there is none.
module _ (P : ℕ → Type 0) (dec : (n : ℕ) → Dec (P n)) where
  pub data Least (a k : ℕ) : Type 0 where
    least : (n : ℕ) → a ≤ n → n < a + k → P n → ((m : ℕ) → a ≤ m → m < n → ¬ P m) → Least a k
    nowhere : ((m : ℕ) → a ≤ m → m < a + k → ¬ P m) → Least a k

  pub search_least : (a k : ℕ) → Least a k
  search_least a zero = nowhere (λ m l n. absurd (omega arith))
  search_least a (suc k) = go (dec a) (search_least (suc a) k)
    where
      later : (u : ℕ) → ¬ P a → ((m : ℕ) → suc a ≤ m → m < u → ¬ P m) → (m : ℕ) → a ≤ m → m < u → ¬ P m
      later u f g m l n = pick (dec_le (suc a) m)
        where
          pick : Dec (suc a ≤ m) → ¬ P m
          pick (yes p) = g m p n
          pick (no p) = λ q. f (subst P (omega arith) q)

      go : Dec (P a) → Least (suc a) k → Least a (suc k)
      go (yes p) r = least a (omega arith) (omega arith) p (λ m l n. absurd (omega arith))
      go (no f) (least n l m p g) = least n (omega arith) (omega arith) p (later n f g)
      go (no f) (nowhere g) = nowhere (λ m l n. later (suc a + k) f g m l (omega arith))

-- Whether P holds of every number between a and b, both included.
all_dec : (P : ℕ → Type 0) → ((n : ℕ) → Dec (P n)) → (a b : ℕ) → Dec ((v : ℕ) → Between a v b → P v)
all_dec P dec a b = go (search_least (λ n. ¬ P n) off (min a b) (suc (max a b)))
  where
    off : (n : ℕ) → Dec (¬ P n)
    off n = turn (dec n)
      where
        turn : Dec (P n) → Dec (¬ P n)
        turn (yes p) = no (λ f. f p)
        turn (no f) = yes f

    hold : {v : ℕ} → Dec (P v) → ¬ ¬ P v → P v
    hold (yes p) f = p
    hold (no g) f = absurd (f g)

    go : Least (λ n. ¬ P n) off (min a b) (suc (max a b)) → Dec ((v : ℕ) → Between a v b → P v)
    go (least n l m f g) = within (dec_le n (max a b))
      where
        within : Dec (n ≤ max a b) → Dec ((v : ℕ) → Between a v b → P v)
        within (yes k) = no (λ all. f (all n (l, k)))
        within (no k) = yes (λ v b. hold (dec v) (g v b.0 (omega (arith, b.1))))
    go (nowhere g) = yes (λ v b. hold (dec v) (g v b.0 (omega (arith, b.1))))

module _ (w h : ℕ) (C : ℕ → ℕ → Type 0) (on : OnMap w h C) (dec : (x y : ℕ) → Dec (C x y)) (sx sy dx dy : ℕ) where
  here_open : (x y : ℕ) → Dec (Open w h C x y)
  here_open = open_dec w h C (decided w h dec) (decided_draws w h C on dec)

  between_dec : (a u b : ℕ) → Dec (Between a u b)
  between_dec a u b = go (dec_le (min a b) u) (dec_le u (max a b))
    where
      go : Dec (min a b ≤ u) → Dec (u ≤ max a b) → Dec (Between a u b)
      go (yes p) (yes q) = yes (p, q)
      go (no p) q = no (λ t. p t.0)
      go (yes p) (no q) = no (λ t. q t.1)

  -- Each line can be looked at.
  pub column_dec : (x : ℕ) → Dec (OpenColumn w h C sx sy dx dy x)
  column_dec x = go (between_dec sx x dx) (all_dec (λ y. Open w h C x y) (here_open x) sy dy)
    where
      go : Dec (Between sx x dx) → Dec ((y : ℕ) → Between sy y dy → Open w h C x y) → Dec (OpenColumn w h C sx sy dx dy x)
      go (yes p) (yes q) = yes (record { between = p; throughout = q })
      go (no p) q = no (λ c. p c.between)
      go (yes p) (no q) = no (λ c. q c.throughout)

  pub row_dec : (y : ℕ) → Dec (OpenRow w h C sx sy dx dy y)
  row_dec y = go (between_dec sy y dy) (all_dec (λ x. Open w h C x y) (λ x. here_open x y) sx dx)
    where
      go : Dec (Between sy y dy) → Dec ((x : ℕ) → Between sx x dx → Open w h C x y) → Dec (OpenRow w h C sx sy dx dy y)
      go (yes p) (yes q) = yes (record { between = p; throughout = q })
      go (no p) q = no (λ c. p c.between)
      go (yes p) (no q) = no (λ c. q c.throughout)

  -- The lowest of the numbers in P, where there is one.
  lowest_of_lem : (P : ℕ → Type 0) → ((n : ℕ) → Dec (P n)) → (k : ℕ) → P k → (n : ℕ) × P n × ((m : ℕ) → P m → n ≤ m)
  lowest_of_lem P d k p = go (search_least P d 0 (suc k))
    where
      lower : (n : ℕ) → ((m : ℕ) → 0 ≤ m → m < n → ¬ P m) → (m : ℕ) → P m → n ≤ m
      lower n g m q = pick (dec_le n m)
        where
          pick : Dec (n ≤ m) → n ≤ m
          pick (yes l) = l
          pick (no l) = absurd (g m (omega arith) (omega arith) q)

      go : Least P d 0 (suc k) → (n : ℕ) × P n × ((m : ℕ) → P m → n ≤ m)
      go (least n l m q g) = (n, q, lower n g)
      go (nowhere g) = absurd (g k (omega arith) (omega arith) p)

  -- Where the test says yes there are a westmost column and a southmost row; so it says yes exactly
  -- where there are.
  pub lines_some : HasLines w h C sx sy dx dy → (c : ℕ) × (r : ℕ) × Lines w h C sx sy dx dy c r
  lines_some t =
      let c = lowest_of_lem (OpenColumn w h C sx sy dx dy) column_dec t.column t.column_open in
      let r = lowest_of_lem (OpenRow w h C sx sy dx dy) row_dec t.row t.row_open in
      (c.0, r.0, record { column_open = c.1; westmost = c.2; row_open = r.1; southmost = r.2 })
