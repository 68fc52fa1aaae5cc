-- Laws of refusals. No row of a call's table has the number 0, and no two have one number: so 0 is
-- given exactly where no row applies, and a number exactly where its row applies and no row before
-- it does. In all tables but two the numbers rise.
use Rattle.std.specs.Prelude.{◌≡◌, List, [], ◌∷◌, ◌++◌, ◌↔◌, ◌⊎◌, ℕ, ◌*◌, ◌<◌, ◌≤◌, length}
use Rattle.std.proofs.Common.{sym, subst, ◌∙◌, inl, inr, arith}
use Rattle.std.proofs.Math.Decide.{dec_le, dec_lt}
use Rattle.field.specs.declared.Marker.{Marker}
use Rattle.field.specs.Map.{Sides, On}
use Rattle.markers.specs.List.{WellFormed}
use Rattle.calls.specs.Rules.{Rule, Gives, Misfit}

-- No row applies.
abbrev pub None : List Rule → Type 0
None [] = Unit {0}
None (r ∷ rs) = (¬ r.applies) × None rs

-- Every row's number is above m.
abbrev pub Above : ℕ → List Rule → Type 0
Above m [] = Unit {0}
Above m (r ∷ rs) = (m < r.number) × Above m rs

-- What is given is 0 or above m.
pub gives_above : (rules : List Rule) (m n : ℕ) → Above m rules → Gives rules n → (n ≡ 0) ⊎ (m < n)
gives_above [] m n u g = inl g
gives_above (r ∷ rs) m n u (inl p) = inr (omega (arith, u.0, p.1))
gives_above (r ∷ rs) m n u (inr p) = gives_above rs m n u.1 p.1

-- 0 is given exactly where no row applies.
pub none_gives : (rules : List Rule) (n : ℕ) → n ≡ 0 → None rules → Gives rules n
none_gives [] n e f = e
none_gives (r ∷ rs) n e f = inr (f.0, none_gives rs n e f.1)

pub gives_none : (rules : List Rule) (m n : ℕ) → Above m rules → Gives rules n → n ≡ 0 → None rules
gives_none [] m n u g e = tt
gives_none (r ∷ rs) m n u (inl p) e = absurd (omega (arith, u.0, p.1))
gives_none (r ∷ rs) m n u (inr p) e = (p.0, gives_none rs m n u.1 p.1 e)

-- n is given exactly as the table says. Each row's number is given exactly where the row applies
-- and no earlier one does; 0 exactly where no row applies. Earlier says that no earlier row
-- applies.
abbrev pub ExactlyAfter : Type 0 → List Rule → ℕ → Type 0
ExactlyAfter Earlier [] n = (n ≡ 0) ↔ Earlier
ExactlyAfter Earlier (r ∷ rs) n = ((n ≡ r.number) ↔ (r.applies × Earlier)) × ExactlyAfter (Earlier × (¬ r.applies)) rs n

abbrev pub Exactly : List Rule → ℕ → Type 0
Exactly rules n = ExactlyAfter (Unit {0}) rules n

-- k is no row's number, and not 0.
abbrev pub Unlisted : ℕ → List Rule → Type 0
Unlisted k [] = ¬ (k ≡ 0)
Unlisted k (r ∷ rs) = (¬ (k ≡ r.number)) × Unlisted k rs

-- No two rows have one number, and none has 0.
abbrev pub Differ : List Rule → Type 0
Differ [] = Unit {0}
Differ (r ∷ rs) = Unlisted r.number rs × Differ rs

-- What is given is listed, or 0.
pub gives_listed : (rules : List Rule) (k n : ℕ) → Unlisted k rules → Gives rules n → ¬ (k ≡ n)
gives_listed [] k n u g e = u (e ∙ g)
gives_listed (r ∷ rs) k n u (inl p) e = u.0 (e ∙ p.1)
gives_listed (r ∷ rs) k n u (inr p) e = gives_listed rs k n u.1 p.1 e

-- So far: no earlier row applies, and these rows give n; or one does, and n is its number, which
-- these rows do not have.
exactly_after : (Earlier : Type 0) (rules : List Rule) (n : ℕ) → Differ rules → (Earlier × Gives rules n) ⊎ ((¬ Earlier) × Unlisted n rules)
    → ExactlyAfter Earlier rules n
exactly_after E [] n u (inl p) = (λ z. p.0, λ z. p.1)
exactly_after E [] n u (inr p) = (λ z. absurd (p.1 z), λ z. absurd (p.0 z))
exactly_after E (r ∷ rs) n u (inl (p, inl q)) = (
  (λ z. (q.0, p), λ z. q.1),
  exactly_after (E × (¬ r.applies)) rs n u.1 (inr (λ t. t.1 q.0, subst (λ (k : ℕ). Unlisted k rs) (sym q.1) u.0)),
)
exactly_after E (r ∷ rs) n u (inl (p, inr q)) = (
  (λ z. absurd (gives_listed rs r.number n u.0 q.1 (sym z)), λ z. absurd (q.0 z.0)),
  exactly_after (E × (¬ r.applies)) rs n u.1 (inl ((p, q.0), q.1)),
)
exactly_after E (r ∷ rs) n u (inr p) =
    ((λ z. absurd (p.1.0 z), λ z. absurd (p.0 z.1)), exactly_after (E × (¬ r.applies)) rs n u.1 (inr (λ t. p.0 t.0, p.1.1)))

-- In whatever order the rows stand.
pub exactly_listed : (rules : List Rule) (n : ℕ) → Differ rules → Gives rules n → Exactly rules n
exactly_listed rules n u g = exactly_after (Unit {0}) rules n u (inl (tt, g))

-- The rows' numbers rise, all above m: then no two are one.
abbrev pub Rises : ℕ → List Rule → Type 0
Rises m [] = Unit {0}
Rises m (r ∷ rs) = (m < r.number) × Rises r.number rs

rises_past : (rules : List Rule) (m k : ℕ) → Rises m rules → 1 ≤ k → k ≤ m → Unlisted k rules
rises_past [] m k u s l = λ e. omega arith
rises_past (r ∷ rs) m k u s l = (λ e. omega (arith, u.0), rises_past rs r.number k u.1 s (omega (arith, u.0)))

rises_differ : (rules : List Rule) (m : ℕ) → Rises m rules → Differ rules
rises_differ [] m u = tt
rises_differ (r ∷ rs) m u = (rises_past rs r.number r.number u.1 (omega (arith, u.0)) (omega arith), rises_differ rs r.number u.1)

-- "The lowest number that applies is given": the rows stand in the order of their numbers.
pub exactly : (rules : List Rule) (n : ℕ) → Rises 0 rules → Gives rules n → Exactly rules n
exactly rules n u = exactly_listed rules n (rises_differ rules 0 u)

-- A table's rows may be told in other words: where each row applies exactly when the other's does,
-- as long as no earlier row applies, and rows left over never apply, both give one number.
abbrev pub Reworded : List Rule → List Rule → Type 0
Reworded [] [] = Unit {0}
Reworded [] (s ∷ ss) = ⊥
Reworded (r ∷ rs) [] = (¬ r.applies) × Reworded rs []
Reworded (r ∷ rs) (s ∷ ss) = (r.number ≡ s.number) × (r.applies ↔ s.applies) × (¬ r.applies → Reworded rs ss)

pub gives_reworded : (rs ss : List Rule) (n : ℕ) → Reworded rs ss → Gives rs n → Gives ss n
gives_reworded [] [] n a g = g
gives_reworded [] (s ∷ ss) n a g = absurd a
gives_reworded (r ∷ rs) [] n a (inl p) = absurd (a.0 p.0)
gives_reworded (r ∷ rs) [] n a (inr p) = gives_reworded rs [] n a.1 p.1
gives_reworded (r ∷ rs) (s ∷ ss) n a (inl p) = inl (a.1.0 p.0, p.1 ∙ a.0)
gives_reworded (r ∷ rs) (s ∷ ss) n a (inr p) = inr (λ q. p.0 (a.1.1 q), gives_reworded rs ss n (a.2 p.0) p.1)

-- A row told in the same words.
pub same : {P : Type 0} → P ↔ P
same = (λ p. p, λ p. p)

-- Rows that come after others: what is given is the first rows' number, or where they give none,
-- the later ones'.
pub gives_early : (rs later : List Rule) (n : ℕ) → Gives rs n → ¬ (n ≡ 0) → Gives (rs ++ later) n
gives_early [] later n g f = absurd (f g)
gives_early (r ∷ rs) later n (inl p) f = inl p
gives_early (r ∷ rs) later n (inr p) f = inr (p.0, gives_early rs later n p.1 f)

pub gives_later : (rs later : List Rule) (n : ℕ) → None rs → Gives later n → Gives (rs ++ later) n
gives_later [] later n f g = g
gives_later (r ∷ rs) later n f g = inr (f.0, gives_later rs later n f.1 g)

-- A row that does not apply may be left out.
pub gives_without : (rs : List Rule) (r : Rule) (later : List Rule) (n : ℕ) → ¬ r.applies → Gives (rs ++ r ∷ later) n → Gives (rs ++ later) n
gives_without [] r later n f (inl p) = absurd (f p.0)
gives_without [] r later n f (inr p) = p.1
gives_without (s ∷ rs) r later n f (inl p) = inl p
gives_without (s ∷ rs) r later n f (inr p) = inr (p.0, gives_without rs r later n f p.1)

-- What can be told holds where it does not fail.
pub holds : {P : Type 0} → Dec P → ¬ ¬ P → P
holds (yes p) n = p
holds (no q) n = absurd (n q)

-- Sheets of the map's size pass row 2.
pub sheets_fit : (w h : ℕ) (s : List ℕ) (ss : List (List ℕ)) → length s ≡ h * w → ¬ Misfit w h ss → ¬ Misfit w h (s ∷ ss)
sheets_fit w h s ss e f (inl n) = n e
sheets_fit w h s ss e f (inr n) = f n

-- What a call may rely on where a row does not apply. 1: the map's size.
pub sides_hold : {w h : ℕ} → ¬ ¬ Sides w h → Sides w h
sides_hold {w} {h} n =
    record {
      some_w = holds (dec_le _ _) (λ f. n (λ s. f s.some_w));
      some_h = holds (dec_le _ _) (λ f. n (λ s. f s.some_h));
      most_w = holds (dec_le _ _) (λ f. n (λ s. f s.most_w));
      most_h = holds (dec_le _ _) (λ f. n (λ s. f s.most_h));
    }

-- 4: a place.
pub on_holds : {w h x y : ℕ} → ¬ ¬ On w h x y → On w h x y
on_holds n = record { in_x = holds (dec_lt _ _) (λ f. n (λ o. f o.in_x)); in_y = holds (dec_lt _ _) (λ f. n (λ o. f o.in_y)) }

-- 3: the list.
pub formed_holds : {w h : ℕ} {list : List Marker} {count : ℕ} → ¬ ¬ WellFormed w h list count → WellFormed w h list count
formed_holds {w} {h} {list} {count} n =
    record {
      few = holds (dec_le _ _) (λ f. n (λ s. f s.few));
      lent = holds (dec_le _ _) (λ f. n (λ s. f s.lent));
      some_id = λ k l. holds (dec_le _ _) (λ f. n (λ s. f (s.some_id k l)));
      on = λ k l. on_holds (λ f. n (λ s. f (s.on k l)));
      rising = λ k l. holds (dec_lt _ _) (λ f. n (λ s. f (s.rising k l)));
    }
