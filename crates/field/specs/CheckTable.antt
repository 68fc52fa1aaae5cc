-- Drawn lists and what the checker finds of them (request 01): a row for each reason, for the order
-- of the reasons, and for the ends of their ranges. That every row holds is proved in CheckSettled.
use Rattle.std.specs.Prelude.{List, [], ◌∷◌, ℕ}
use Rattle.field.specs.Reasons.{no_fault, wrong_start, off_the_map, is_closed, not_a_neighbour, not_nearer, ended_early, went_on}
use Rattle.field.specs.Checks.{Finds}
use Rattle.field.specs.Table.{Place, place, wide, high, ClosedBy, R}

-- On the map of the settled examples with these rocks: a list drawn from s to d, the reason, and
-- the position.
pub record Row : Type 0 where
  pub rocks : List Place
  pub s : Place
  pub d : Place
  pub drawn : List ℕ
  pub reason : ℕ
  pub position : ℕ

abbrev pub Holds : Row → Type 0
Holds r =
    Finds wide high (ClosedBy r.rocks) r.s.x r.s.y r.d.x r.d.y r.drawn
    (record { reason = r.reason; position = r.position })

abbrev pub row : List Place → Place → Place → List ℕ → ℕ → ℕ → Row
row rocks s d drawn reason position =
    record { rocks = rocks; s = s; d = d; drawn = drawn; reason = reason; position = position }

-- The table. On a map 8 wide, one row to the north is 8 more.
unfoldable pub table : List Row
table =
    -- accepted: the chooser's drive of example 11, and another between the same ends
    row [] (place 0 0) (place 2 1) (0 ∷ 1 ∷ 2 ∷ 10 ∷ []) no_fault 0
    ∷ row [] (place 0 0) (place 2 1) (0 ∷ 8 ∷ 9 ∷ 10 ∷ []) no_fault 0
    -- accepted: west and south, and from a crossing to itself
    ∷ row [] (place 2 1) (place 0 0) (10 ∷ 9 ∷ 1 ∷ 0 ∷ []) no_fault 0
    ∷ row [] (place 3 1) (place 3 1) (11 ∷ []) no_fault 0
    -- accepted: round the group of R, the 9 hops of example 9
    ∷ row R (place 0 2) (place 7 4) (16 ∷ 24 ∷ 32 ∷ 33 ∷ 34 ∷ 35 ∷ 36 ∷ 37 ∷ 38 ∷ 39 ∷ []) no_fault 0
    -- wrong start, also where it is off the map or closed
    ∷ row [] (place 0 0) (place 2 1) (1 ∷ 2 ∷ 10 ∷ []) wrong_start 0
    ∷ row [] (place 0 0) (place 2 1) (64 ∷ []) wrong_start 0
    ∷ row R (place 0 0) (place 2 1) (19 ∷ []) wrong_start 0
    -- wrong start: d alone, which nothing went before
    ∷ row [] (place 0 0) (place 2 1) (10 ∷ []) wrong_start 0
    -- off the map: the first number that is, and the largest of sixteen bits
    ∷ row [] (place 7 6) (place 7 7) (55 ∷ 64 ∷ []) off_the_map 1
    ∷ row [] (place 0 0) (place 2 1) (0 ∷ 1 ∷ 65535 ∷ []) off_the_map 2
    -- closed: a rock, a shut crossing, and a rock that is no neighbour either
    ∷ row R (place 2 2) (place 6 2) (18 ∷ 19 ∷ []) is_closed 1
    ∷ row R (place 4 0) (place 4 5) (4 ∷ 12 ∷ 20 ∷ []) is_closed 2
    ∷ row R (place 0 0) (place 7 3) (0 ∷ 19 ∷ []) is_closed 1
    -- not a neighbour: a step of two, a rest, and the next row's first crossing after the east edge
    ∷ row [] (place 0 0) (place 2 1) (0 ∷ 2 ∷ 10 ∷ []) not_a_neighbour 1
    ∷ row [] (place 0 0) (place 2 1) (0 ∷ 0 ∷ []) not_a_neighbour 1
    ∷ row [] (place 7 0) (place 0 1) (7 ∷ 8 ∷ []) not_a_neighbour 1
    ∷ row [] (place 0 1) (place 7 0) (8 ∷ 7 ∷ []) not_a_neighbour 1
    -- not a neighbour, and not nearer either
    ∷ row [] (place 2 0) (place 4 0) (2 ∷ 0 ∷ []) not_a_neighbour 1
    -- not nearer: aside, and back and forth
    ∷ row [] (place 0 0) (place 2 0) (0 ∷ 8 ∷ 9 ∷ []) not_nearer 1
    ∷ row [] (place 0 0) (place 2 1) (0 ∷ 1 ∷ 0 ∷ 1 ∷ []) not_nearer 2
    -- ended early: nothing drawn, and one hop short of d
    ∷ row [] (place 0 0) (place 2 1) [] ended_early 0
    ∷ row [] (place 3 1) (place 3 1) [] ended_early 0
    ∷ row [] (place 0 0) (place 2 1) (0 ∷ 1 ∷ 2 ∷ []) ended_early 3
    -- went on after d: to an open crossing, back and to d again, to d itself, and off the map
    ∷ row [] (place 0 0) (place 2 1) (0 ∷ 1 ∷ 2 ∷ 10 ∷ 11 ∷ []) went_on 4
    ∷ row [] (place 0 0) (place 2 1) (0 ∷ 1 ∷ 2 ∷ 10 ∷ 2 ∷ 10 ∷ []) went_on 4
    ∷ row [] (place 3 1) (place 3 1) (11 ∷ 11 ∷ []) went_on 1
    ∷ row [] (place 3 1) (place 3 1) (11 ∷ 65535 ∷ []) went_on 1
    -- went on after d: to a rock
    ∷ row R (place 2 1) (place 2 2) (10 ∷ 18 ∷ 19 ∷ []) went_on 2
    ∷ []
