-- Workings: the check of a drawn list, over a sheet s that marks the closed crossings. Each number
-- is looked at once, against the crossing before it.
use Rattle.std.specs.Prelude.{Bool, cond, ◌&&◌, List, [], ◌∷◌, ℕ, ◌+◌, ◌-◌, ◌*◌, ltb, eqb, get_or}
use Rattle.field.specs.Checks.{Finding}
use Rattle.field.specs.Map.{number}
use Rattle.field.specs.Reasons.{no_fault, wrong_start, off_the_map, is_closed, not_a_neighbour, not_nearer, ended_early, went_on}

-- What is found of one number of a drawn list: the first reason that applies to it; or none, and
-- the crossing.
pub record Step : Type 0 where
  pub reason : ℕ
  pub x : ℕ
  pub y : ℕ

-- One number that is at fault.
abbrev pub fault : ℕ → Step
fault r = record { reason = r; x = 0; y = 0 }

-- A hop to (x, y), which is nearer d or is not.
unfoldable pub step_to : Bool → ℕ → ℕ → Step
step_to b x y = cond b (record { reason = no_fault; x = x; y = y }) (fault not_nearer)

-- The hop from (x, y) to the crossing n: to the east, the west, the north, the south, or to none of
-- these.
unfoldable pub neighbour_of : ℕ → ℕ → ℕ → ℕ → ℕ → ℕ → Step
neighbour_of w dx dy x y n =
    cond (eqb n (number w x y + 1) && ltb (x + 1) w) (step_to (ltb x dx) (x + 1) y)
    (cond (eqb (n + 1) (number w x y) && ltb 0 x) (step_to (ltb dx x) (x - 1) y)
    (cond (eqb n (number w x y + w)) (step_to (ltb y dy) x (y + 1))
    (cond (eqb (n + w) (number w x y)) (step_to (ltb dy y) x (y - 1)) (fault not_a_neighbour))))

-- The number n after (x, y), which is not d.
unfoldable pub step_of : List ℕ → ℕ → ℕ → ℕ → ℕ → ℕ → ℕ → ℕ → Step
step_of s w h dx dy x y n =
    cond (ltb n (h * w)) (cond (ltb 0 (get_or s n 0)) (fault is_closed) (neighbour_of w dx dy x y n)) (fault off_the_map)

abbrev pub found : ℕ → ℕ → Finding
found r p = record { reason = r; position = p }

-- The rest of the list, from position p on, after the crossing (x, y).
unfoldable pub check_from : List ℕ → ℕ → ℕ → ℕ → ℕ → ℕ → ℕ → ℕ → List ℕ → Finding
check_from s w h dx dy p x y [] = cond (eqb x dx && eqb y dy) (found no_fault 0) (found ended_early p)
check_from s w h dx dy p x y (n ∷ m) =
    let t = step_of s w h dx dy x y n in
    let r = check_from s w h dx dy (p + 1) t.x t.y m in
    cond (eqb x dx && eqb y dy) (found went_on p) (cond (eqb t.reason no_fault) r (found t.reason p))

-- The whole list.
unfoldable pub check_of : List ℕ → ℕ → ℕ → ℕ → ℕ → ℕ → ℕ → List ℕ → Finding
check_of s w h sx sy dx dy [] = found ended_early 0
check_of s w h sx sy dx dy (n ∷ m) =
    let r = check_from s w h dx dy 1 sx sy m in
    cond (eqb n (number w sx sy)) (cond (ltb 0 (get_or s n 0)) (found is_closed 0) r) (found wrong_start 0)
