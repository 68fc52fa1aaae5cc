-- A test for each kind of row of a table, which the checker computes; beside the small tests of
-- which they are made stands what those tell. That a row which passes its test holds is proved in
-- RowLaws.
use Rattle.std.specs.Prelude.{◌≡◌, refl, Bool, true, false, not, ◌&&◌, ◌||◌, List, [], ◌∷◌, ℕ, suc, ltb, eqb, length}
use Rattle.std.proofs.lemmas.Bool.{false≢true}
use Rattle.std.proofs.Common.{eqb-true}
use Rattle.field.specs.Map.{dist}
use Rattle.field.specs.Distances.{Way, eastward, southward, westward, northward}
use Rattle.field.specs.Hops.{HopAnswer, there, one, two}
use Rattle.field.specs.Table.{Row, labels, group, each_distance, distances, assured, not_assured, hop, refused_9, drive, region, outside, driven, Place, wide, high, markers_on, picture}
use Rattle.field.specs.Workings.Tests.{bit, and_split}
use Rattle.field.specs.Workings.Sheet.{lit}
use Rattle.field.specs.Workings.Closing.{closing}
use Rattle.field.specs.Workings.Stamping.{stamp}
use Rattle.field.proofs.Workings.Labelling.{labelling, alone}
use Rattle.field.proofs.Workings.Counting.{tally}
use Rattle.field.proofs.Workings.Corners.{groups_of, every, rectangle_of}
use Rattle.field.specs.Workings.Looking.{clear_of, distances_of, open_of, assured_of, hop_of}
use Rattle.field.specs.Workings.Reaching.{region_of, drive_of}

-- Two lists of numbers are the same.
unfoldable pub same : List ℕ → List ℕ → Bool
same [] [] = true
same [] (v ∷ vs) = false
same (u ∷ us) [] = false
same (u ∷ us) (v ∷ vs) = eqb u v && same us vs

pub same_is : (s t : List ℕ) → same s t ≡ true → s ≡ t
unfolding same
same_is [] [] e = refl
same_is [] (v ∷ vs) e = absurd (false≢true e)
same_is (u ∷ us) [] e = absurd (false≢true e)
same_is (u ∷ us) (v ∷ vs) e =
    let f = and_split _ _ e in
    let p : u ≡ v = eqb-true u v f.0 in
    let q : us ≡ vs = same_is us vs f.1 in
    cc

-- A row's sheets: its rocks, its closed crossings, its region from s to d.
unfoldable pub rock_sheet : List Place → List ℕ
rock_sheet ps = stamp wide high 0 (markers_on ps)

unfoldable pub closed_sheet : List Place → List ℕ
closed_sheet ps = closing wide high (rock_sheet ps)

unfoldable pub region_sheet : List Place → ℕ → ℕ → ℕ → ℕ → List ℕ
region_sheet ps sx sy dx dy = region_of (closed_sheet ps) wide high sx sy dx dy

-- Each distance of (x, y) is n.
unfoldable pub distance_at : ℕ → List ℕ → ℕ → ℕ → Bool
distance_at n s y x =
    (eqb (clear_of eastward s wide high x y) n && eqb (clear_of southward s wide high x y) n)
    && (eqb (clear_of westward s wide high x y) n && eqb (clear_of northward s wide high x y) n)

pub each_way : (n : ℕ) (s : List ℕ) (x y : ℕ) → distance_at n s y x ≡ true → (t : Way) → clear_of t s wide high x y ≡ n
unfolding distance_at
each_way n s x y e t =
    let f = and_split _ _ e in
    let g = and_split _ _ f.0 in
    let k = and_split _ _ f.1 in
    by_way t (eqb-true _ _ g.0) (eqb-true _ _ g.1) (eqb-true _ _ k.0) (eqb-true _ _ k.1)
  where
    P : Way → Type 0
    P t = clear_of t s wide high x y ≡ n

    by_way : (t : Way) → P eastward → P southward → P westward → P northward → P t
    by_way eastward e d f u = e
    by_way southward e d f u = d
    by_way westward e d f u = f
    by_way northward e d f u = u

-- Two answers of a hop call are the same.
unfoldable pub same_answer : HopAnswer → HopAnswer → Bool
same_answer there there = true
same_answer there (one a b) = false
same_answer there (two a b c d) = false
same_answer (one a b) there = false
same_answer (one a b) (one p q) = eqb a p && eqb b q
same_answer (one a b) (two p q r s) = false
same_answer (two a b c d) there = false
same_answer (two a b c d) (one p q) = false
same_answer (two a b c d) (two p q r s) = (eqb a p && eqb b q) && (eqb c r && eqb d s)

pub same_answer_is : (r t : HopAnswer) → same_answer r t ≡ true → r ≡ t
unfolding same_answer
same_answer_is there there e = refl
same_answer_is there (one a b) e = absurd (false≢true e)
same_answer_is there (two a b c d) e = absurd (false≢true e)
same_answer_is (one a b) there e = absurd (false≢true e)
same_answer_is (one a b) (one p q) e =
    let f = and_split _ _ e in
    cc (eqb-true a p f.0, eqb-true b q f.1)
same_answer_is (one a b) (two p q r s) e = absurd (false≢true e)
same_answer_is (two a b c d) there e = absurd (false≢true e)
same_answer_is (two a b c d) (one p q) e = absurd (false≢true e)
same_answer_is (two a b c d) (two p q r s) e =
    let f = and_split _ _ e in
    let g = and_split _ _ f.0 in
    let k = and_split _ _ f.1 in
    cc (eqb-true a p g.0, eqb-true b q g.1, eqb-true c r k.0, eqb-true d s k.1)

-- Each of the places is marked on the second sheet alone.
unfoldable pub each_alone : List ℕ → List ℕ → List Place → Bool
each_alone s t [] = true
each_alone s t (p ∷ ps) = alone wide high s t p.x p.y && each_alone s t ps

-- The tests.
unfoldable pub passes : Row → Bool
passes (labels rocks shut groups opens) =
    ((same (picture rocks shut) (labelling wide high (rock_sheet rocks)) && each_alone (rock_sheet rocks) (closed_sheet rocks) shut) && eqb (length rocks) (tally wide high (lit (rock_sheet rocks) wide high)))
    && ((eqb (length shut) (tally wide high (λ x y. bit (alone wide high (rock_sheet rocks) (closed_sheet rocks) x y)))
    && eqb groups (groups_of (closed_sheet rocks) wide high))
    && eqb opens (tally wide high (λ x y. bit (open_of (closed_sheet rocks) wide high x y))))
passes (group rocks x₀ x₁ y₀ y₁) = rectangle_of (closed_sheet rocks) wide high x₀ x₁ y₀ y₁
passes (each_distance rocks n) = every high (λ y. every wide (distance_at n (closed_sheet rocks) y))
passes (distances rocks x y four) = (ltb x wide && ltb y high) && same four (distances_of (closed_sheet rocks) wide high x y)
passes (assured rocks hx hy x y) = assured_of (closed_sheet rocks) wide high hx hy x y
passes (not_assured rocks hx hy x y) = not (assured_of (closed_sheet rocks) wide high hx hy x y)
passes (hop rocks hx hy x y answer) =
    assured_of (closed_sheet rocks) wide high hx hy x y && same_answer answer (hop_of (closed_sheet rocks) wide high hx hy x y)
passes (refused_9 rocks sx sy dx dy) =
    (open_of (closed_sheet rocks) wide high sx sy && open_of (closed_sheet rocks) wide high dx dy)
    && eqb (lit (region_sheet rocks sx sy dx dy) wide high sx sy) 0
passes (drive rocks sx sy dx dy n) = ltb 0 (lit (region_sheet rocks sx sy dx dy) wide high sx sy) && eqb (dist sx sy dx dy) n
passes (region rocks sx sy dx dy n) = eqb n (tally wide high (lit (region_sheet rocks sx sy dx dy) wide high))
passes (outside rocks sx sy dx dy x₀ x₁ y₀ y₁) =
    every (suc y₁) (λ y. every (suc x₁) (λ x. (ltb x x₀ || ltb y y₀) || eqb (lit (region_sheet rocks sx sy dx dy) wide high x y) 0))
passes (driven rocks sx sy dx dy z route z') =
    ltb 0 (lit (region_sheet rocks sx sy dx dy) wide high sx sy)
    && (same route (drive_of (region_sheet rocks sx sy dx dy) wide high dx dy (dist sx sy dx dy) sx sy z).route
    && eqb z' (drive_of (region_sheet rocks sx sy dx dy) wide high dx dy (dist sx sy dx dy) sx sy z).state)
