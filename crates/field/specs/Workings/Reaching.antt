-- Workings: the region and the chooser's drive. c is a sheet of the closed crossings, g one of the
-- region.
use Rattle.std.specs.Prelude.{Bool, true, false, cond, ◌&&◌, ◌||◌, List, [], ◌∷◌, ℕ, zero, suc, ◌+◌, ltb, eqb}
use Rattle.field.specs.Map.{number, dist}
use Rattle.field.specs.Chooser.{drawn, top}
use Rattle.field.specs.Workings.Tests.{bit}
use Rattle.field.specs.Workings.Sheet.{lit, around, sheet}
use Rattle.field.specs.Workings.Looking.{hop_to, open_of}

-- What one more hop makes of (x, y): t marks the crossings with a shortest drive to (dx, dy) of
-- fewer than n hops.
unfoldable pub reach_next : List ℕ → ℕ → ℕ → ℕ → ℕ → List ℕ → ℕ → ℕ → ℕ → ℕ
reach_next c w h dx dy t n x y =
    bit (ltb 0 (lit t w h x y) || (open_of c w h x y && (eqb (dist x y dx dy) n && ltb 0 (around t w h x y))))

-- The crossings with a shortest drive to (dx, dy) of at most n hops.
unfoldable pub reach : List ℕ → ℕ → ℕ → ℕ → ℕ → ℕ → List ℕ
reach c w h dx dy zero = sheet w h (λ x y. bit (open_of c w h x y && eqb (dist x y dx dy) 0))
reach c w h dx dy (suc n) = let t = reach c w h dx dy n in sheet w h (reach_next c w h dx dy t (suc n))

-- (x, y) lies on the way: it has a shortest drive to s (f marks those) and one to d (b marks
-- those), and the two together are no detour.
unfoldable pub on_way : ℕ → ℕ → ℕ → ℕ → ℕ → ℕ → List ℕ → List ℕ → ℕ → ℕ → ℕ
on_way w h sx sy dx dy f b x y =
    bit (eqb (dist sx sy x y + dist x y dx dy) (dist sx sy dx dy) && (ltb 0 (lit f w h x y) && ltb 0 (lit b w h x y)))

unfoldable pub region_of : List ℕ → ℕ → ℕ → ℕ → ℕ → ℕ → ℕ → List ℕ
region_of c w h sx sy dx dy =
    sheet w h (on_way w h sx sy dx dy (reach c w h sx sy (dist sx sy dx dy)) (reach c w h dx dy (dist sx sy dx dy)))

-- A drive and the state after it.
pub record Made : Type 0 where
  pub route : List ℕ
  pub state : ℕ

-- The candidates at (x, y): the east-west one, and the north-south one.
unfoldable pub east_west_in : List ℕ → ℕ → ℕ → ℕ → ℕ → ℕ → Bool
east_west_in g w h dx x y = cond (eqb x dx) false (ltb 0 (lit g w h (hop_to x dx) y))

unfoldable pub north_south_in : List ℕ → ℕ → ℕ → ℕ → ℕ → ℕ → Bool
north_south_in g w h dy x y = cond (eqb y dy) false (ltb 0 (lit g w h x (hop_to y dy)))

-- The chooser's choice between the candidates: where to, and in which state.
pub record Choice : Type 0 where
  pub x : ℕ
  pub y : ℕ
  pub state : ℕ

abbrev pub choice_of : Bool → Bool → ℕ → ℕ → ℕ → ℕ → ℕ → Choice
choice_of true true x y a b z =
    cond (eqb (top (drawn z)) 0) (record { x = a; y = y; state = drawn z }) (record { x = x; y = b; state = drawn z })
choice_of true false x y a b z = record { x = a; y = y; state = drawn z }
choice_of false n x y a b z = record { x = x; y = b; state = drawn z }

unfoldable pub chosen_of : List ℕ → ℕ → ℕ → ℕ → ℕ → ℕ → ℕ → ℕ → Choice
chosen_of g w h dx dy x y z = choice_of (east_west_in g w h dx x y) (north_south_in g w h dy x y) x y (hop_to x dx) (hop_to y dy) z

-- n hops of the chooser from (x, y) in state z.
unfoldable pub drive_of : List ℕ → ℕ → ℕ → ℕ → ℕ → ℕ → ℕ → ℕ → ℕ → Made
drive_of g w h dx dy zero x y z = record { route = number w x y ∷ []; state = z }
drive_of g w h dx dy (suc n) x y z =
    let k = chosen_of g w h dx dy x y z in
    let r = drive_of g w h dx dy n k.x k.y k.state in
    record { route = number w x y ∷ r.route; state = r.state }
