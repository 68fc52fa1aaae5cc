-- The workings of crossing lines agree with their meanings, both ways, for any sheet that draws the
-- closed crossings. A column and a row are found in the same way: the first line between two places
-- of one axis whose places between two of the other all are open.
use Rattle.std.specs.Prelude.{◌≡◌, refl, Bool, false, ◌&&◌, ◌||◌, List, ◌↔◌}
use Rattle.std.proofs.Common.{sym, ◌∙◌}
use Rattle.std.proofs.Math.Bool.{true}
use Rattle.std.proofs.lemmas.Bool.{false≢true}
use Prim.Native.Nat.{ℕ, zero, suc, ◌+◌, ◌<◌, ◌≤◌, min, max}
use native.Mathlib.Omega.{arith}
use Rattle.std.proofs.Math.Decide.{dec_le, dec_lt}
use Rattle.std.proofs.Math.Dec.{ltb, leb}
use borrow.Author.Tests.{leb-true, le-leb, ltb-true, lt-ltb}
use Rattle.std.proofs.Math.ListN.{drop}
use Rattle.field.specs.Map.{Sides, OnMap, gap, dist}
use Rattle.field.specs.Labels.{Stable, Open}
use Rattle.field.specs.Drives.{HasDrive}
use Rattle.field.specs.Chooser.{Driven}
use Rattle.field.specs.CrossingLines.{OpenColumn, OpenRow, Lines, HasLines, LinesAnswer, Says, DrivenBy}
use Rattle.field.specs.Geometry.Shapes.{Between}
use Rattle.field.proofs.Geometry.Meeting as Meeting
use Rattle.field.proofs.Geometry.LinesLaws.{said_one, driven_by_one}
use Rattle.field.specs.Workings.Tests.{and_split, and_both, or_case, or_right, cond_cases, only}
use Rattle.field.specs.Workings.Sheet.{Draws}
use Rattle.field.proofs.Workings.Marks.{decided, decided_draws}
use Rattle.field.proofs.Workings.Corners.{every, every_one}
use Rattle.field.specs.Workings.Looking.{open_of}
use Rattle.field.proofs.Workings.AssuredLaws.{open_looks}
use Rattle.field.proofs.Workings.DriveLaws.{drive_head}
use Rattle.field.specs.Workings.Reaching.{Made, region_of, drive_of}
use Rattle.field.proofs.Workings.ReachLaws.{region_made}
use Rattle.field.proofs.Workings.ChooserLaws.{driven_shortest}
use Rattle.field.proofs.Workings.ChoosingLaws.{driven_looks}
use Rattle.field.proofs.Workings.Crossing.{every_between, first_from, first_between, column_of, row_of, lines_of, driven_by_of}

-- All pass.
pub one_every : (n : ℕ) (f : ℕ → Bool) → ((k : ℕ) → k < n → f k ≡ true) → every n f ≡ true
unfolding every
one_every zero f g = refl
one_every (suc n) f g = and_both _ _ (g n (omega arith)) (one_every n f (λ k l. g k (omega arith)))

-- f tells P.
module _ (a b : ℕ) (P : ℕ → Type 0) (f : ℕ → Bool) (tells : (v : ℕ) → (P v ↔ f v ≡ true)) where
  pub every_between_lem : (((v : ℕ) → Between a v b → P v) ↔ every_between a b f ≡ true)
  unfolding every_between
  every_between_lem = (
    λ g. one_every (suc (max a b)) (λ v. ltb v (min a b) || f v) (λ v l. here v l g (dec_lt v (min a b))),
    λ e v t. (tells v).1 (or_case (ltb v (min a b)) (f v) (λ q. absurd (omega (arith, ltb-true v (min a b) q, t.0))) (λ q. q) (every_one (suc (max a b)) (λ v. ltb v (min a b) || f v) e v (omega (arith, t.1)))),
  )
    where
      here : (v : ℕ) → v < suc (max a b) → ((v : ℕ) → Between a v b → P v) → Dec (v < min a b) → (ltb v (min a b) || f v) ≡ true
      here v l g (yes m) = rw (lt-ltb v (min a b) m)
      here v l g (no m) = or_right (ltb v (min a b)) (f v) ((tells v).0 (g v (omega arith, omega arith)))

-- r is the first of the n numbers from k on that passes f, or the number after them.
record First (f : ℕ → Bool) (k n r : ℕ) : Type 0 where
  pub from : k ≤ r
  pub most : r ≤ k + n
  pub there : r < k + n → f r ≡ true
  pub before : (v : ℕ) → k ≤ v → f v ≡ true → r ≤ v

first_from_lem : (n k : ℕ) (f : ℕ → Bool) → First f k n (first_from n k f)
unfolding first_from
first_from_lem zero k f = record { from = omega arith; most = omega arith; there = λ l. absurd (omega arith); before = λ v l e. l }
first_from_lem (suc n) k f = cond_cases (First f k (suc n)) (f k) here (later (first_from_lem n (suc k) f))
  where
    here : f k ≡ true → First f k (suc n) k
    here e = record { from = omega arith; most = omega arith; there = λ l. e; before = λ v l q. l }

    later : {r : ℕ} → First f (suc k) n r → f k ≡ false → First f k (suc n) r
    later {r} t e =
        record {
          from = omega (arith, t.from);
          most = omega (arith, t.most);
          there = λ l. t.there (omega arith);
          before = λ v l q. onward v l q (dec_le (suc k) v);
        }
      where
        onward : (v : ℕ) → k ≤ v → f v ≡ true → Dec (suc k ≤ v) → r ≤ v
        onward v l q (yes m) = t.before v m q
        onward v l q (no m) = let i : v ≡ k = omega arith in absurd (false≢true (sym e ∙ rw i at q))

-- The numbers between a and b, counted from the lower.
between_many : (a b : ℕ) → min a b + gap a b ≡ max a b
unfolding gap
between_many a b = omega arith

-- Lines p between a and b, open at every place q between c and d: the first is found.
module _ (a b c d : ℕ) (Q : ℕ → ℕ → Type 0) (f : ℕ → ℕ → Bool) (tells : (p q : ℕ) → (Q p q ↔ f p q ≡ true)) where
  abbrev OpenLine : ℕ → Type 0
  OpenLine p = Between a p b × ((q : ℕ) → Between c q d → Q p q)

  abbrev first : ℕ
  first = first_between a b (λ p. every_between c d (f p))

  found : First (λ p. every_between c d (f p)) (min a b) (suc (gap a b)) first
  unfolding first_between
  found = first_from_lem (suc (gap a b)) (min a b) (λ p. every_between c d (f p))

  line_there : first ≤ max a b → OpenLine first
  line_there l = (
    (found.from, l),
    (every_between_lem c d (Q first) (f first) (tells first)).1 (found.there (omega (arith, between_many a b))),
  )

  line_first : (p : ℕ) → OpenLine p → first ≤ p
  line_first p t = found.before p t.0.0 ((every_between_lem c d (Q p) (f p) (tells p)).0 t.1)

module _ (w h : ℕ) (C : ℕ → ℕ → Type 0) (s : List ℕ) (D : Draws w h C s) (sx sy dx dy : ℕ) where
  column_there : column_of s w h sx sy dx dy ≤ max sx dx → OpenColumn w h C sx sy dx dy (column_of s w h sx sy dx dy)
  unfolding column_of
  column_there l = let t = line_there sx dx sy dy (Open w h C) (open_of s w h) (open_looks w h C s D) l in record { between = t.0; throughout = t.1 }

  column_first : (x : ℕ) → OpenColumn w h C sx sy dx dy x → column_of s w h sx sy dx dy ≤ x
  unfolding column_of
  column_first x t = line_first sx dx sy dy (Open w h C) (open_of s w h) (open_looks w h C s D) x (t.between, t.throughout)

  row_there : row_of s w h sx sy dx dy ≤ max sy dy → OpenRow w h C sx sy dx dy (row_of s w h sx sy dx dy)
  unfolding row_of
  row_there l =
      let t = line_there sy dy sx dx (λ y x. Open w h C x y) (λ y x. open_of s w h x y) (λ y x. open_looks w h C s D x y) l in
      record { between = t.0; throughout = t.1 }

  row_first : (y : ℕ) → OpenRow w h C sx sy dx dy y → row_of s w h sx sy dx dy ≤ y
  unfolding row_of
  row_first y t = line_first sy dy sx dx (λ y x. Open w h C x y) (λ y x. open_of s w h x y) (λ y x. open_looks w h C s D x y) y (t.between, t.throughout)

  said : Says w h C sx sy dx dy (lines_of s w h sx sy dx dy)
  unfolding lines_of
  said = cond_cases (Says w h C sx sy dx dy) (leb (column_of s w h sx sy dx dy) (max sx dx) && leb (row_of s w h sx sy dx dy) (max sy dy)) yes_said no_said
    where
      yes_said : (leb (column_of s w h sx sy dx dy) (max sx dx) && leb (row_of s w h sx sy dx dy) (max sy dy)) ≡ true
          → Lines w h C sx sy dx dy (column_of s w h sx sy dx dy) (row_of s w h sx sy dx dy)
      yes_said e =
          let f = and_split _ _ e in
          record {
            column_open = column_there (leb-true _ _ f.0);
            westmost = column_first;
            row_open = row_there (leb-true _ _ f.1);
            southmost = row_first;
          }

      no_said : (leb (column_of s w h sx sy dx dy) (max sx dx) && leb (row_of s w h sx sy dx dy) (max sy dy)) ≡ false → ¬ HasLines w h C sx sy dx dy
      no_said e t =
          let c : column_of s w h sx sy dx dy ≤ max sx dx = omega (arith, column_first t.column t.column_open, t.column_open.between) in
          let r : row_of s w h sx sy dx dy ≤ max sy dy = omega (arith, row_first t.row t.row_open, t.row_open.between) in
          false≢true (sym e ∙ and_both _ _ (le-leb _ _ c) (le-leb _ _ r))

  -- The working's answer is what the test says, and nothing else is.
  pub lines_look : (r : LinesAnswer) → (Says w h C sx sy dx dy r ↔ r ≡ lines_of s w h sx sy dx dy)
  lines_look = only (Says w h C sx sy dx dy) (lines_of s w h sx sy dx dy) said (said_one w h C sx sy dx dy)

  -- The drive by way of (x, y), where both parts have a shortest drive.
  module _ (x y : ℕ) (to : HasDrive w h C sx sy x y) (on : HasDrive w h C x y dx dy) where
    part : (ax ay ex ey z : ℕ) → HasDrive w h C ax ay ex ey
        → Driven w h C ax ay ex ey ax ay z (drive_of (region_of s w h ax ay ex ey) w h ex ey (dist ax ay ex ey) ax ay z).route
        (drive_of (region_of s w h ax ay ex ey) w h ex ey (dist ax ay ex ey) ax ay z).state
    part ax ay ex ey z v = (driven_looks w h C ax ay ex ey (region_of s w h ax ay ex ey) (region_made w h C s D ax ay ex ey) z _ _ v).1 (refl, refl)

    -- The two parts.
    abbrev first_part : ℕ → Made
    first_part z = drive_of (region_of s w h sx sy x y) w h x y (dist sx sy x y) sx sy z

    abbrev second_part : ℕ → Made
    second_part z = drive_of (region_of s w h x y dx dy) w h dx dy (dist x y dx dy) x y z

    pub driven_by_made : (z : ℕ) → DrivenBy w h C sx sy dx dy x y z (driven_by_of s w h sx sy dx dy x y z).route (driven_by_of s w h sx sy dx dy x y z).state
    unfolding driven_by_of
    driven_by_made z =
        let b = part x y dx dy (first_part z).state on in
        record {
          first = (first_part z).route;
          onward = drop 1 (second_part (first_part z).state).route;
          handed_on = (first_part z).state;
          to_meeting = part sx sy x y z to;
          from_meeting = rw (drive_head w h C (driven_shortest w h C x y dx dy on b).drive) at b;
          joined = refl;
        }

    pub driven_by_looks : (z z' : ℕ) (l : List ℕ)
        → (DrivenBy w h C sx sy dx dy x y z l z'
        ↔ ((l ≡ (driven_by_of s w h sx sy dx dy x y z).route) × (z' ≡ (driven_by_of s w h sx sy dx dy x y z).state)))
    driven_by_looks z z' l = (λ v. driven_by_one v (driven_by_made z), λ e. rw (e.0, e.1) (driven_by_made z))

-- Where an open column and an open row meet there is such a drive, from every state.
pub driven_by_some : (w h : ℕ) → Sides w h → (C : ℕ → ℕ → Type 0) → OnMap w h C → Stable w h C → ((x y : ℕ) → Dec (C x y)) → (sx sy dx dy x y : ℕ)
    → OpenColumn w h C sx sy dx dy x → OpenRow w h C sx sy dx dy y → Open w h C sx sy → Open w h C dx dy → (z : ℕ)
    → (l : List ℕ) × (z' : ℕ) × DrivenBy w h C sx sy dx dy x y z l z'
driven_by_some w h sides C on st dec sx sy dx dy x y c r s d z =
    let k = decided w h dec in (
      (driven_by_of k w h sx sy dx dy x y z).route,
      (driven_by_of k w h sx sy dx dy x y z).state,
      driven_by_made w h C k (decided_draws w h C on dec) sx sy dx dy x y
          (Meeting.meeting_drive w h sides C on st dec sx sy dx dy x y c r s)
          (Meeting.meeting_drive_end w h sides C on st dec sx sy dx dy x y c r d) z,
    )
