-- The hop call on a cart's way: at an assured place it is not refused, the crossings that it names
-- are the permitted hops, and it says "there" exactly at home. So a journey is a sequence of
-- permitted hops from an assured place.
use Rattle.std.specs.Prelude.{◌≡◌, refl, true, List, [], ◌↔◌, ◌⊎◌, ℕ, ◌*◌, length}
use Rattle.std.proofs.Common.{sym, ap, subst₂, ◌∙◌, inl, inr, arith}
use Rattle.field.specs.Distances.{Assured}
use Rattle.field.specs.Hops.{Permitted, There, HopAnswer, Answers, at_home, just, both, Taken, none, hop}
use Rattle.field.proofs.Geometry.WayHome.{taken_assured}
use Rattle.field.proofs.Workings.HopLaws.{ByRow, ByColumn, permitted_which, permitted_other, permitted_away}
use Rattle.calls.specs.Rules
use Rattle.calls.specs.Rules.{Gives, gives_one, LentMap, Sized, OnIt, Formed, ClosedBy}
use Rattle.calls.specs.RuleLaws.{gives_none, none_gives, sheets_fit, sides_hold, formed_holds}
use Rattle.calls.specs.Answers.{homeward, HopsNamed}
use Rattle.calls.specs.Calls.{AssuredCall, HopCall}
use Rattle.calls.specs.Sequences.{Names, SaysThere, Journey, start, move}
use Rattle.calls.specs.declared.Assurance.{Assurance}
use Rattle.calls.specs.declared.Homeward.{Homeward}

-- What a cart knows whose home is assured: the map, the list and the assurance.
pub record Assurances (m : LentMap) (hx hy x y : ℕ) : Type 0 where
  pub sides : Sized m
  pub formed : Formed m
  pub assured : Assured m.width m.height (ClosedBy m) hx hy x y

pub assured_yes : {m : LentMap} {hx hy x y : ℕ} {labels labels' : List ℕ} {r : Assurance}
    → AssuredCall m hx hy x y labels labels' r → r.refusal ≡ 0 → r.assured ≡ true → Assurances m hx hy x y
assured_yes {m} {hx} {hy} {x} {y} {labels} {r = r} c z e =
    let t = gives_none (Rules.assured_table m hx hy x y labels) 0 r.refusal (omega arith) c.given z in
    record { sides = sides_hold t.0; formed = formed_holds t.1.1.0; assured = (c.done z).0 e }

-- No row of the hop call applies.
pub hop_passes : {m : LentMap} {hx hy x y : ℕ} (labels : List ℕ) → Assurances m hx hy x y → length labels ≡ m.height * m.width
    → Gives (Rules.hop_table m hx hy x y labels) 0
hop_passes {m} {hx} {hy} {x} {y} labels k e =
    none_gives (Rules.hop_table m hx hy x y labels) 0 refl
    (λ n. n k.sides, (sheets_fit m.width m.height labels [] e (λ n. n), (λ n. n k.formed, (places, (ends, (λ n. n k.assured, tt))))))
  where
    places : ¬ ((¬ OnIt m hx hy) ⊎ (¬ OnIt m x y))
    places (inl n) = n k.assured.home.on
    places (inr n) = n k.assured.place.on

    ends : ¬ (ClosedBy m hx hy ⊎ ClosedBy m x y)
    ends (inl n) = k.assured.home.free n
    ends (inr n) = k.assured.place.free n

module _ {m : LentMap} {hx hy x y : ℕ} {labels labels' : List ℕ} {r : Homeward}
    (c : HopCall m hx hy x y labels labels' r) where
  pub hop_not_refused : Assurances m hx hy x y → length labels ≡ m.height * m.width → r.refusal ≡ 0
  hop_not_refused k e = gives_one (Rules.hop_table m hx hy x y labels) _ _ c.given (hop_passes labels k e)

module _ {w h : ℕ} {C : ℕ → ℕ → Type 0} {hx hy x y : ℕ} where
  -- A permitted hop that keeps the row is the hop along the row, and one that keeps the column is
  -- the hop along the column.
  by_row : {a b : ℕ} → Permitted w h C hx hy x y a b → b ≡ y → ByRow hx x y a b
  by_row {a} {b} p e = go (permitted_which p)
    where
      go : ByRow hx x y a b ⊎ ByColumn hy x y a b → ByRow hx x y a b
      go (inl q) = q
      go (inr q) = absurd (permitted_other p (q.0, e))

  by_column : {a b : ℕ} → Permitted w h C hx hy x y a b → a ≡ x → ByColumn hy x y a b
  by_column {a} {b} p e = go (permitted_which p)
    where
      go : ByRow hx x y a b ⊎ ByColumn hy x y a b → ByColumn hy x y a b
      go (inl q) = absurd (permitted_other p (e, q.1))
      go (inr q) = q

-- The answer by its fields: "there", one permitted hop and no other, or two, the east-west one
-- first.
data Reply (w h : ℕ) (C : ℕ → ℕ → Type 0) (hx hy x y : ℕ) (r : Homeward) : Type 0 where
  says_there : There hx hy x y → r.hops ≡ 0 → Reply w h C hx hy x y r
  names_one : Permitted w h C hx hy x y r.x r.y → ((c d : ℕ) → Permitted w h C hx hy x y c d → (c ≡ r.x) × (d ≡ r.y)) → r.hops ≡ 1
      → Reply w h C hx hy x y r
  names_two : Permitted w h C hx hy x y r.x r.y → r.y ≡ y → Permitted w h C hx hy x y r.a r.b → r.a ≡ x → r.hops ≡ 2
      → Reply w h C hx hy x y r

module _ {w h : ℕ} {C : ℕ → ℕ → Type 0} {hx hy x y : ℕ} {r : Homeward} where
  reply_of : {q : HopAnswer} → Answers w h C hx hy x y q → r ≡ homeward q → Reply w h C hx hy x y r
  reply_of (at_home t e) f = let g = f ∙ ap homeward e in says_there t (ap (λ (s : Homeward). s.hops) g)
  reply_of (just a b p o e) f =
      let g = f ∙ ap homeward e in
      let k : r.x ≡ a = ap (λ (s : Homeward). s.x) g in
      let l : r.y ≡ b = ap (λ (s : Homeward). s.y) g in
      names_one (rw (k, l) p) (λ c d q. let u = o c d q in (u.0 ∙ sym k, u.1 ∙ sym l)) (ap (λ (s : Homeward). s.hops) g)
  reply_of (both a b c d p u q v e) f =
      let g = f ∙ ap homeward e in
      let k : r.x ≡ a = ap (λ (s : Homeward). s.x) g in
      let l : r.y ≡ b = ap (λ (s : Homeward). s.y) g in
      let m : r.a ≡ c = ap (λ (s : Homeward). s.a) g in
      let n : r.b ≡ d = ap (λ (s : Homeward). s.b) g in
      names_two (rw (k, l) p) (l ∙ u) (rw (m, n) q) (m ∙ v) (ap (λ (s : Homeward). s.hops) g)

  -- It names the permitted hops, all of them and nothing else.
  named : (a b : ℕ) → Reply w h C hx hy x y r → Names r a b → Permitted w h C hx hy x y a b
  named a b (says_there t e) (inl n) = absurd (omega arith)
  named a b (says_there t e) (inr n) = absurd (omega arith)
  named a b (names_one p o e) (inl n) = subst₂ (Permitted w h C hx hy x y) n.1 n.2 p
  named a b (names_one p o e) (inr n) = absurd (omega arith)
  named a b (names_two p u q v e) (inl n) = subst₂ (Permitted w h C hx hy x y) n.1 n.2 p
  named a b (names_two p u q v e) (inr n) = subst₂ (Permitted w h C hx hy x y) n.1 n.2 q

  name : (a b : ℕ) → Reply w h C hx hy x y r → Permitted w h C hx hy x y a b → Names r a b
  name a b (says_there t e) k = absurd (permitted_away k t)
  name a b (names_one p o e) k = let u = o a b k in inl (omega arith, sym u.0, sym u.1)
  name a b (names_two p u q v e) k = go (permitted_which k)
    where
      go : ByRow hx x y a b ⊎ ByColumn hy x y a b → Names r a b
      go (inl t) = inl (omega arith, (by_row p u).0 ∙ sym t.0, u ∙ sym t.1)
      go (inr t) = inr (omega arith, v ∙ sym t.0, (by_column q v).1 ∙ sym t.1)

  there : Reply w h C hx hy x y r → SaysThere r ↔ There hx hy x y
  there (says_there t e) = (λ z. t, λ z. e)
  there (names_one p o e) = (λ z. absurd (omega arith), λ t. absurd (permitted_away p t))
  there (names_two p u q v e) = (λ z. absurd (omega arith), λ t. absurd (permitted_away p t))

  some : Reply w h C hx hy x y r → ¬ SaysThere r → (a : ℕ) × (b : ℕ) × Names r a b
  some (says_there t e) n = absurd (n e)
  some (names_one p o e) n = (r.x, r.y, inl (omega arith, refl, refl))
  some (names_two p u q v e) n = (r.x, r.y, inl (omega arith, refl, refl))

-- The crossings that an answer names are exactly the permitted hops; it is "there" exactly at home,
-- and else it names one at least. Said of any closed crossings C.
module _ {w h : ℕ} {C : ℕ → ℕ → Type 0} {hx hy x y : ℕ} {r : Homeward} (d : HopsNamed w h C hx hy x y r) where
  reply : Reply w h C hx hy x y r
  reply = reply_of d.answers d.is

  pub named_hops : (a b : ℕ) → Names r a b ↔ Permitted w h C hx hy x y a b
  named_hops a b = (named a b reply, name a b reply)

  pub named_there : SaysThere r ↔ There hx hy x y
  named_there = there reply

  pub named_some : ¬ SaysThere r → (a : ℕ) × (b : ℕ) × Names r a b
  named_some = some reply

module _ {m : LentMap} {hx hy x y : ℕ} {labels labels' : List ℕ} {r : Homeward}
    (c : HopCall m hx hy x y labels labels' r) (z : r.refusal ≡ 0) where
  pub hop_names : (a b : ℕ) → Names r a b ↔ Permitted m.width m.height (ClosedBy m) hx hy x y a b
  hop_names = named_hops (c.done z)

  pub hop_there : SaysThere r ↔ There hx hy x y
  hop_there = named_there (c.done z)

  pub hop_some : ¬ SaysThere r → (a : ℕ) × (b : ℕ) × Names r a b
  hop_some = named_some (c.done z)

-- A journey is a sequence of permitted hops, and keeps what the cart knows.
module _ {m : LentMap} {hx hy x y : ℕ} where
  pub journey_taken : {n a b : ℕ} → Journey m hx hy x y n a b → Taken m.width m.height (ClosedBy m) hx hy x y n a b
  journey_taken (start e p q) = none e p q
  journey_taken (move {c} {d} j k z n e) = hop (journey_taken j) ((hop_names k z c d).0 n) e

  pub journey_assured : {n a b : ℕ} → Assurances m hx hy x y → Journey m hx hy x y n a b → Assurances m hx hy a b
  journey_assured k j = record { sides = k.sides; formed = k.formed; assured = taken_assured k.assured (journey_taken j) }
