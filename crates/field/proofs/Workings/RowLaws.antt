-- A row of a table that passes its test holds: each test is made of workings, and each working
-- agrees with its meaning.
use Rattle.std.specs.Prelude.{◌≡◌, true, ◌||◌, ◌↔◌, length}
use Rattle.std.proofs.Common.{sym, ◌∙◌, arith}
use Rattle.std.proofs.Math.Path.{subst}
use Rattle.std.proofs.Math.Bool.{Bool, false≢true}
use mathlib.Core.List.{List, [], ◌∷◌}
use Prim.Native.Nat.{ℕ, suc}
use Rattle.std.proofs.Math.Dec.{ltb, eqb}
use borrow.Author.Tests.{ltb-true, eqb-true, le-ltb, not-true}
use Rattle.field.specs.Map.{dist, side, Sides}
use Rattle.field.specs.Labels.{RockOn, closed_on_map, closed_stable, Open, Shut, Count}
use Rattle.field.specs.Groups.{Groups}
use Rattle.field.specs.Hops.{HopAnswer}
use Rattle.field.specs.Drives.{HasDrive, InRegion, RegionSheet}
use Rattle.field.specs.Table.{Row, labels, group, each_distance, distances, assured, not_assured, hop, refused_9, drive, region, outside, driven, Holds, Place, wide, high, markers_on, RocksOn, ClosedBy, picture, EachShut}
use Rattle.field.specs.Workings.Tests.{and_split, test_dec}
use Rattle.field.specs.Workings.Sheet.{Draws, lit}
use Rattle.field.proofs.Workings.Marks.{drawn_lit, drawn_looks, drawn_dec}
use Rattle.field.proofs.Workings.Closing.{closing_draws}
use Rattle.field.proofs.Workings.Stamping.{stamp_draws}
use Rattle.field.proofs.Workings.Labelling.{labels_labelling, alone, shut_looks}
use Rattle.field.proofs.Workings.Counting.{count_marks, count_tests}
use Rattle.field.proofs.Workings.Corners.{every_two, groups_look, rectangle_looks}
use Rattle.field.specs.Workings.Looking.{open_of}
use Rattle.field.proofs.Workings.ClearLaws.{clear_looks}
use Rattle.field.proofs.Workings.DistanceLaws.{distances_look}
use Rattle.field.proofs.Workings.AssuredLaws.{open_looks, open_dec, assured_looks}
use Rattle.field.proofs.Workings.AnswerLaws.{hop_looks}
use Rattle.field.proofs.Workings.RegionLaws.{has_drive_in, region_sheet_draws}
use Rattle.field.proofs.Workings.ReachLaws.{region_made}
use Rattle.field.proofs.Workings.ChoosingLaws.{driven_looks}
use Rattle.field.proofs.Workings.RowTests.{same_is, rock_sheet, closed_sheet, region_sheet, each_alone, distance_at, each_way, same_answer_is, passes}
use Rattle.field.proofs.Geometry.Theorems.{home_hop}

-- The examples' map is one of document 01's.
table_sides : Sides wide high
unfolding side
table_sides = record { some_w = omega arith; some_h = omega arith; most_w = omega arith; most_h = omega arith }

module _ (rocks : List Place) where
  -- R tells the row's rocks and C its closed crossings; r and c are their sheets.
  abbrev R : ℕ → ℕ → Type 0
  R = RocksOn rocks

  abbrev C : ℕ → ℕ → Type 0
  C = ClosedBy rocks

  abbrev r : List ℕ
  r = rock_sheet rocks

  abbrev c : List ℕ
  c = closed_sheet rocks

  rocks_draw : Draws wide high (RockOn R wide high) r
  unfolding rock_sheet
  rocks_draw = stamp_draws 0 wide high (markers_on rocks)

  pub closed_draw : Draws wide high C c
  unfolding closed_sheet
  closed_draw = closing_draws wide high R r rocks_draw

  shut_tells : (x y : ℕ) → (Shut R wide high x y ↔ alone wide high r c x y ≡ true)
  shut_tells = shut_looks R wide high r c rocks_draw closed_draw

  each_shut : (shut : List Place) → each_alone r c shut ≡ true → EachShut rocks shut
  unfolding each_alone
  each_shut [] e = tt
  each_shut (p ∷ ps) e = let f = and_split _ _ e in ((shut_tells p.x p.y).1 f.0, each_shut ps f.1)

  labels_hold : (shut : List Place) (groups opens : ℕ) → passes (labels rocks shut groups opens) ≡ true → Holds (labels rocks shut groups opens)
  unfolding passes
  labels_hold shut groups opens e =
      let f = and_split _ _ e in
      let g = and_split _ _ f.0 in
      let d = and_split _ _ g.0 in
      let k = and_split _ _ f.1 in
      let m = and_split _ _ k.0 in (
        (labels_labelling R wide high r rocks_draw (picture rocks shut)).1 (same_is _ _ d.0),
        each_shut shut d.1,
        (count_marks wide high (RockOn R wide high) r rocks_draw (length rocks)).1 (eqb-true _ _ g.1),
        subst (Count wide high (Shut R wide high)) (sym (eqb-true _ _ m.0))
            (count_tests wide high (Shut R wide high) (alone wide high r c) (λ x y o. shut_tells x y) (λ x y. test_dec (alone wide high r c x y) (shut_tells x y))),
        subst (Groups wide high C) (sym (eqb-true _ _ m.1))
            (groups_look wide high C c closed_draw (closed_on_map R wide high) (closed_stable R wide high)),
        subst (Count wide high (Open wide high C)) (sym (eqb-true _ _ k.1))
            (count_tests wide high (Open wide high C) (open_of c wide high) (λ x y o. open_looks wide high C c closed_draw x y)
            (open_dec wide high C c closed_draw)),
      )

  group_holds : (x₀ x₁ y₀ y₁ : ℕ) → passes (group rocks x₀ x₁ y₀ y₁) ≡ true → Holds (group rocks x₀ x₁ y₀ y₁)
  unfolding passes
  group_holds = rectangle_looks wide high C c closed_draw (closed_on_map R wide high) (closed_stable R wide high)

  each_distance_holds : (n : ℕ) → passes (each_distance rocks n) ≡ true → Holds (each_distance rocks n)
  unfolding passes
  each_distance_holds n e t x y o =
      (clear_looks wide high C c closed_draw t x y n o).1
      (sym (each_way n c x y (every_two high wide (distance_at n c) e x y o.in_x o.in_y) t))

  distances_hold : (x y : ℕ) (four : List ℕ) → passes (distances rocks x y four) ≡ true → Holds (distances rocks x y four)
  unfolding passes
  distances_hold x y four e =
      let f = and_split _ _ e in
      let g = and_split _ _ f.0 in
      (distances_look wide high C c closed_draw x y four (record { in_x = ltb-true _ _ g.0; in_y = ltb-true _ _ g.1 })).1
      (same_is _ _ f.1)

  assured_holds : (hx hy x y : ℕ) → passes (assured rocks hx hy x y) ≡ true → Holds (assured rocks hx hy x y)
  unfolding passes
  assured_holds hx hy x y = (assured_looks wide high C c closed_draw hx hy x y).1

  not_assured_holds : (hx hy x y : ℕ) → passes (not_assured rocks hx hy x y) ≡ true → Holds (not_assured rocks hx hy x y)
  unfolding passes
  not_assured_holds hx hy x y e a = false≢true (sym (not-true _ e) ∙ (assured_looks wide high C c closed_draw hx hy x y).0 a)

  -- A place that is assured has a permitted hop unless it is home, and so the tests tell the
  -- answer.
  hop_holds : (hx hy x y : ℕ) (answer : HopAnswer) → passes (hop rocks hx hy x y answer) ≡ true → Holds (hop rocks hx hy x y answer)
  unfolding passes
  hop_holds hx hy x y answer e =
      let f = and_split _ _ e in
      let a = (assured_looks wide high C c closed_draw hx hy x y).1 f.0 in (
        a,
        (hop_looks wide high C c closed_draw hx hy x y (home_hop R wide high (drawn_dec wide high C c closed_draw) table_sides hx hy a) answer).1 (same_answer_is _ _ f.1),
      )

  -- The rows on drives. In tells the region, and g is its sheet.
  module _ (sx sy dx dy : ℕ) where
    abbrev In : ℕ → ℕ → Type 0
    In = InRegion wide high C sx sy dx dy

    abbrev g : List ℕ
    g = region_sheet rocks sx sy dx dy

    made : RegionSheet wide high C sx sy dx dy g
    unfolding region_sheet
    made = region_made wide high C c closed_draw sx sy dx dy

    region_draws : Draws wide high In g
    region_draws = region_sheet_draws wide high C sx sy dx dy made

    some : ltb 0 (lit g wide high sx sy) ≡ true → HasDrive wide high C sx sy dx dy
    some e = (has_drive_in wide high C sx sy dx dy).1 ((drawn_looks wide high In g region_draws sx sy).1 e)

    out : (x y : ℕ) → eqb (lit g wide high x y) 0 ≡ true → ¬ In x y
    out x y e k = omega (arith, eqb-true (lit g wide high x y) 0 e, drawn_lit wide high In g region_draws x y k)

    refused_9_holds : passes (refused_9 rocks sx sy dx dy) ≡ true → Holds (refused_9 rocks sx sy dx dy)
    unfolding passes
    refused_9_holds e =
        let f = and_split _ _ e in
        let k = and_split _ _ f.0 in (
          (open_looks wide high C c closed_draw sx sy).1 k.0,
          (open_looks wide high C c closed_draw dx dy).1 k.1,
          λ v. out sx sy f.1 ((has_drive_in wide high C sx sy dx dy).0 v),
        )

    drive_holds : (n : ℕ) → passes (drive rocks sx sy dx dy n) ≡ true → Holds (drive rocks sx sy dx dy n)
    unfolding passes
    drive_holds n e =
        let f = and_split _ _ e in
        let k = some f.0 in
        (k.route, k.shortest, omega (arith, k.shortest.hops, eqb-true (dist sx sy dx dy) n f.1))

    region_holds : (n : ℕ) → passes (region rocks sx sy dx dy n) ≡ true → Holds (region rocks sx sy dx dy n)
    unfolding passes
    region_holds n e = (count_marks wide high In g region_draws n).1 (eqb-true _ _ e)

    outside_holds : (x₀ x₁ y₀ y₁ : ℕ) → passes (outside rocks sx sy dx dy x₀ x₁ y₀ y₁) ≡ true → Holds (outside rocks sx sy dx dy x₀ x₁ y₀ y₁)
    unfolding passes
    outside_holds x₀ x₁ y₀ y₁ e a b i = out a b (simp (le-ltb a x₀ i.from_west, le-ltb b y₀ i.from_south) at here)
      where
        f : ℕ → ℕ → Bool
        f y x = (ltb x x₀ || ltb y y₀) || eqb (lit g wide high x y) 0

        here : ((ltb a x₀ || ltb b y₀) || eqb (lit g wide high a b) 0) ≡ true
        here = every_two (suc y₁) (suc x₁) f e a b (omega (arith, i.to_east)) (omega (arith, i.to_north))

    driven_holds : (z : ℕ) (route : List ℕ) (z' : ℕ) → passes (driven rocks sx sy dx dy z route z') ≡ true → Holds (driven rocks sx sy dx dy z route z')
    unfolding passes
    driven_holds z route z' e =
        let f = and_split _ _ e in
        let k = and_split _ _ f.1 in
        (driven_looks wide high C sx sy dx dy g made z z' route (some f.0)).1 (same_is _ _ k.0, eqb-true _ _ k.1)

-- A row that passes its test holds.
pub passes_holds : (r : Row) → passes r ≡ true → Holds r
passes_holds (labels rocks shut groups opens) = labels_hold rocks shut groups opens
passes_holds (group rocks x₀ x₁ y₀ y₁) = group_holds rocks x₀ x₁ y₀ y₁
passes_holds (each_distance rocks n) = each_distance_holds rocks n
passes_holds (distances rocks x y four) = distances_hold rocks x y four
passes_holds (assured rocks hx hy x y) = assured_holds rocks hx hy x y
passes_holds (not_assured rocks hx hy x y) = not_assured_holds rocks hx hy x y
passes_holds (hop rocks hx hy x y answer) = hop_holds rocks hx hy x y answer
passes_holds (refused_9 rocks sx sy dx dy) = refused_9_holds rocks sx sy dx dy
passes_holds (drive rocks sx sy dx dy n) = drive_holds rocks sx sy dx dy n
passes_holds (region rocks sx sy dx dy n) = region_holds rocks sx sy dx dy n
passes_holds (outside rocks sx sy dx dy x₀ x₁ y₀ y₁) = outside_holds rocks sx sy dx dy x₀ x₁ y₀ y₁
passes_holds (driven rocks sx sy dx dy z route z') = driven_holds rocks sx sy dx dy z route z'
