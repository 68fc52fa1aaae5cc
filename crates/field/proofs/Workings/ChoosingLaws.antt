-- The chooser's workings agree with its meaning. Two tests tell whether the hop along the row and
-- the hop along the column are candidates; in the region, and not at d, at least one is, and what
-- the tests choose is the choice.
use Rattle.std.specs.Prelude.{◌≡◌, Bool, true, false, cond, List, ◌↔◌, ◌⊎◌, ltb, eqb}
use Rattle.std.proofs.Math.Path.{refl, subst₃}
use Rattle.std.proofs.Common.{sym, subst₂, inl, inr, arith, eqb-true}
use Rattle.std.proofs.lemmas.Bool.{false≢true, eqb-false}
use Prim.Native.Nat.{ℕ, zero, suc}
use Rattle.field.specs.Map.{Apart, dist}
use Rattle.field.specs.Drives.{HasDrive, InRegion, RegionSheet}
use Rattle.field.specs.Chooser.{drawn, top, Candidate, Chosen, alone, east_west, north_south, Driven, arrived, onward}
use Rattle.field.specs.Workings.Tests.{cond_cases, off_looks}
use Rattle.field.specs.Workings.Sheet.{lit}
use Rattle.field.proofs.Workings.Marks.{drawn_looks}
use Rattle.field.specs.Workings.Looking.{hop_to}
use Rattle.field.specs.Workings.Reaching.{Choice, east_west_in, north_south_in, choice_of, chosen_of, drive_of}
use Rattle.field.proofs.Workings.GridLaws.{Toward, along_row, along_column, toward_row, toward_column, dist_apart, dist_zero}
use Rattle.field.proofs.Workings.RegionLaws.{has_drive_in, region_sheet_draws}
use Rattle.field.proofs.Workings.ChooserLaws.{top_bit, candidate_toward, toward_candidate, candidate_some, chosen_candidate, chosen_one, driven_one}

module _ (w h : ℕ) (C : ℕ → ℕ → Type 0) (sx sy dx dy : ℕ) where
  -- The hop along the row is a candidate, and the hop along the column is one.
  abbrev InRow : ℕ → ℕ → Type 0
  InRow x y = Candidate w h C sx sy dx dy x y (hop_to x dx) y

  abbrev InColumn : ℕ → ℕ → Type 0
  InColumn x y = Candidate w h C sx sy dx dy x y x (hop_to y dy)

  -- A candidate is one of the two.
  data OneOf (x y a b : ℕ) : Type 0 where
    by_row : InRow x y → a ≡ hop_to x dx → b ≡ y → OneOf x y a b
    by_column : InColumn x y → a ≡ x → b ≡ hop_to y dy → OneOf x y a b

  one_of : {x y a b : ℕ} → Candidate w h C sx sy dx dy x y a b → OneOf x y a b
  one_of {x} {y} {a} {b} k = go (candidate_toward w h C sx sy dx dy k)
    where
      go : Toward dx dy x y a b → OneOf x y a b
      go (along_row n p q) = by_row (rw (p, q) at k) p q
      go (along_column n p q) = by_column (rw (p, q) at k) p q

  -- The choice by what is a candidate: the one, the other, or by the draw between the two.
  row_alone : {x y : ℕ} (z : ℕ) → InRow x y → ¬ InColumn x y → Chosen w h C sx sy dx dy x y z (hop_to x dx) y (drawn z)
  row_alone {x} {y} z k n = alone k (λ c d m. go (one_of m)) refl
    where
      go : {c d : ℕ} → OneOf x y c d → (c ≡ hop_to x dx) × (d ≡ y)
      go (by_row m p q) = (p, q)
      go (by_column m p q) = absurd (n m)

  column_alone : {x y : ℕ} (z : ℕ) → ¬ InRow x y → InColumn x y → Chosen w h C sx sy dx dy x y z x (hop_to y dy) (drawn z)
  column_alone {x} {y} z n k = alone k (λ c d m. go (one_of m)) refl
    where
      go : {c d : ℕ} → OneOf x y c d → (c ≡ x) × (d ≡ hop_to y dy)
      go (by_row m p q) = absurd (n m)
      go (by_column m p q) = (p, q)

  -- k is the choice at (x, y) in state z.
  abbrev IsChoice : ℕ → ℕ → ℕ → Choice → Type 0
  IsChoice x y z k = Chosen w h C sx sy dx dy x y z k.x k.y k.state

  draw_chosen : {x y : ℕ} (z : ℕ) → InRow x y → InColumn x y → IsChoice x y z (choice_of true true x y (hop_to x dx) (hop_to y dy) z)
  draw_chosen {x} {y} z k m =
      cond_cases (IsChoice x y z) (eqb (top (drawn z)) 0) (λ e. east_west (hop_to y dy) k refl m refl (eqb-true (top (drawn z)) 0 e))
      (λ e. north_south (hop_to x dx) m refl k refl (bit_one e (top_bit z)))
    where
      bit_one : eqb (top (drawn z)) 0 ≡ false → (top (drawn z) ≡ 0) ⊎ (top (drawn z) ≡ 1) → top (drawn z) ≡ 1
      bit_one e (inl b) = absurd (eqb-false (top (drawn z)) 0 e b)
      bit_one e (inr b) = b

  -- What two right tests choose is the choice.
  choice_right : {x y : ℕ} (z : ℕ) → InRegion w h C sx sy dx dy x y → Apart x y dx dy → (e n : Bool) → (InRow x y ↔ e ≡ true) → (InColumn x y ↔ n ≡ true)
      → IsChoice x y z (choice_of e n x y (hop_to x dx) (hop_to y dy) z)
  choice_right z r f true true p q = draw_chosen z (p.1 refl) (q.1 refl)
  choice_right z r f true false p q = row_alone z (p.1 refl) (λ k. false≢true (q.0 k))
  choice_right z r f false true p q = column_alone z (λ k. false≢true (p.0 k)) (q.1 refl)
  choice_right {x} {y} z r f false false p q = absurd (go (one_of (candidate_some w h C sx sy dx dy r f).2))
    where
      go : {a b : ℕ} → OneOf x y a b → ⊥
      go (by_row k s t) = false≢true (p.0 k)
      go (by_column k s t) = false≢true (q.0 k)

  -- The test for a hop towards d that is there exactly if p is not q: u tells whether it leads into
  -- the region.
  hop_test : {x y a b : ℕ} (p q : ℕ) → (¬ (p ≡ q) → Toward dx dy x y a b) → (Toward dx dy x y a b → ¬ (p ≡ q)) → (u : Bool)
      → (InRegion w h C sx sy dx dy a b ↔ u ≡ true) → (Candidate w h C sx sy dx dy x y a b ↔ cond (eqb p q) false u ≡ true)
  hop_test p q f t u i = (
    λ k. (off_looks u i p q).0 (t (candidate_toward w h C sx sy dx dy k), k.within),
    λ e. let o = (off_looks u i p q).1 e in toward_candidate w h C sx sy dx dy (f o.0) o.1,
  )

  row_test : (x y : ℕ) (u : Bool) → (InRegion w h C sx sy dx dy (hop_to x dx) y ↔ u ≡ true) → (InRow x y ↔ cond (eqb x dx) false u ≡ true)
  row_test x y = hop_test x dx (λ n. along_row n refl refl) (λ t. (toward_row t refl).0)

  column_test : (x y : ℕ) (u : Bool) → (InRegion w h C sx sy dx dy x (hop_to y dy) ↔ u ≡ true) → (InColumn x y ↔ cond (eqb y dy) false u ≡ true)
  column_test x y = hop_test y dy (λ n. along_column n refl refl) (λ t. (toward_column t refl).0)

module _ (w h : ℕ) (C : ℕ → ℕ → Type 0) (sx sy dx dy : ℕ) (g : List ℕ) (G : RegionSheet w h C sx sy dx dy g) where
  -- A mark on the sheet tells the region.
  in-looks : (x y : ℕ) → (InRegion w h C sx sy dx dy x y ↔ ltb 0 (lit g w h x y) ≡ true)
  in-looks = drawn_looks w h (InRegion w h C sx sy dx dy) g (region_sheet_draws w h C sx sy dx dy G)

  choice_made : {x y : ℕ} (z : ℕ) → InRegion w h C sx sy dx dy x y → Apart x y dx dy → IsChoice w h C sx sy dx dy x y z (chosen_of g w h dx dy x y z)
  unfolding chosen_of east_west_in north_south_in
  choice_made {x} {y} z r f =
      choice_right w h C sx sy dx dy z r f _ _
      (row_test w h C sx sy dx dy x y _ (in-looks (hop_to x dx) y))
      (column_test w h C sx sy dx dy x y _ (in-looks x (hop_to y dy)))

  -- What is looked up is the choice, and nothing else is.
  pub chosen_looks : {x y : ℕ} (z a b z' : ℕ) → InRegion w h C sx sy dx dy x y → Apart x y dx dy
      → (Chosen w h C sx sy dx dy x y z a b z'
      ↔ ((a ≡ (chosen_of g w h dx dy x y z).x) × (b ≡ (chosen_of g w h dx dy x y z).y) × (z' ≡ (chosen_of g w h dx dy x y z).state)))
  chosen_looks {x} {y} z a b z' r f = ((λ c. chosen_one w h C sx sy dx dy c k), back)
    where
      k : IsChoice w h C sx sy dx dy x y z (chosen_of g w h dx dy x y z)
      k = choice_made z r f

      back : (a ≡ (chosen_of g w h dx dy x y z).x) × (b ≡ (chosen_of g w h dx dy x y z).y) × (z' ≡ (chosen_of g w h dx dy x y z).state)
          → Chosen w h C sx sy dx dy x y z a b z'
      back e = subst₃ (λ (i j s : ℕ). Chosen w h C sx sy dx dy x y z i j s) (sym e.0) (sym e.1) (sym e.2) k

  -- From a crossing of the region, the drive that is made is the chooser's.
  drive_made : (n : ℕ) {x y : ℕ} (z : ℕ) → InRegion w h C sx sy dx dy x y → dist x y dx dy ≡ n
      → Driven w h C sx sy dx dy x y z (drive_of g w h dx dy n x y z).route (drive_of g w h dx dy n x y z).state
  unfolding drive_of
  drive_made zero {x} {y} z r e = let p = dist_zero x y dx dy e in arrived p.0 p.1 refl refl
  drive_made (suc n) {x} {y} z r e =
      let c = choice_made z r (dist_apart x y dx dy (omega arith)) in
      let m = chosen_candidate w h C sx sy dx dy c in
      onward c (drive_made n (chosen_of g w h dx dy x y z).state m.within (omega (arith, m.nearer))) refl

  pub driven_looks : (z z' : ℕ) (l : List ℕ) → HasDrive w h C sx sy dx dy
      → (Driven w h C sx sy dx dy sx sy z l z'
      ↔ ((l ≡ (drive_of g w h dx dy (dist sx sy dx dy) sx sy z).route) × (z' ≡ (drive_of g w h dx dy (dist sx sy dx dy) sx sy z).state)))
  driven_looks z z' l r = ((λ v. driven_one w h C sx sy dx dy v k), back)
    where
      k : Driven w h C sx sy dx dy sx sy z (drive_of g w h dx dy (dist sx sy dx dy) sx sy z).route (drive_of g w h dx dy (dist sx sy dx dy) sx sy z).state
      k = drive_made (dist sx sy dx dy) z ((has_drive_in w h C sx sy dx dy).0 r) refl

      back : (l ≡ (drive_of g w h dx dy (dist sx sy dx dy) sx sy z).route) × (z' ≡ (drive_of g w h dx dy (dist sx sy dx dy) sx sy z).state)
          → Driven w h C sx sy dx dy sx sy z l z'
      back e = subst₂ (λ (m : List ℕ) (s : ℕ). Driven w h C sx sy dx dy sx sy z m s) (sym e.0) (sym e.1) k
