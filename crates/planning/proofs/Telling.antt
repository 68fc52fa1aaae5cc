-- A corner's numbers can be added to the sums, and the corners' lines, put one after the other, are
-- the text of a map.
use mathlib.Core.Path.{◌≡◌, refl, ap, ◌∙◌}
use mathlib.Core.List.{List, [], ◌∷◌, ◌++◌, append_assoc}
use Prim.Native.Nat.{ℕ, zero, suc, ◌+◌, ◌-◌, ◌*◌, ◌<◌, ◌≤◌}
use native.Mathlib.Omega.{arith}
use native.Mathlib.Numerals.{add-one}
use lib.ListN.{get_or}
use Rattle.field.specs.Map.{Sides}
use Rattle.field.specs.Limits.{crossing_slots}
use Rattle.field.specs.Workings.Placing.{plus, AtMost, Fitting}
use Rattle.field.specs.declared.Depot.{Depot}
use Rattle.field.specs.declared.Depot.TheVariants.{SouthWest, SouthEast, NorthWest, NorthEast}
use Rattle.field.specs.declared.Placing.{Placing}
use Rattle.printing.specs.Parts.{Put}
use Rattle.printing.proofs.Putting.{put_then}
use Rattle.planning.specs.declared.lines.Told.{Told}
use Rattle.planning.specs.Steps.{line_room}
use Rattle.planning.specs.Parts.{Addable, DepotTold, AllTold}
use Rattle.planning.specs.LineLaws.{placed_most}
use Rattle.planning.specs.TallyLaws.{addable_now, addable_next}

-- The numbers of a line can be added to the sums.
pub sums_fit : {sums p : Placing} → Addable 1 sums → AtMost crossing_slots p → Fitting (plus sums p)
sums_fit a p =
    let m = addable_now a p in
    record { opens_fit = omega arith; assured_fit = omega arith; driven_fit = omega arith; stranded_fit = omega arith }

-- The corners in the order of their lines.
abbrev pub corners : List Depot
corners = SouthWest ∷ SouthEast ∷ NorthWest ∷ NorthEast ∷ []

-- Four of them are the lines of the map.
module _ {w h : ℕ} {C : ℕ → ℕ → Type 0} {sums : Placing} {out a b c after : List ℕ} {i j k r : Told} where
  pub lines_put : DepotTold w h C SouthWest (record { end = 0; sums = sums }) out a i → DepotTold w h C SouthEast i a b j → DepotTold w h C NorthWest j b c k
      → DepotTold w h C NorthEast k c after r → AllTold w h C sums out after r
  lines_put p q s t =
      record {
        piece = p.puts.piece ++ (q.puts.piece ++ (s.puts.piece ++ t.puts.piece));
        right = record {
          sw = p.numbers;
          se = q.numbers;
          nw = s.numbers;
          ne = t.numbers;
          sw_line = p.puts.piece;
          se_line = q.puts.piece;
          nw_line = s.puts.piece;
          ne_line = t.puts.piece;
          southwest = record { placed = p.placed; printed = p.puts.right.line };
          southeast = record { placed = q.placed; printed = q.puts.right.line };
          northwest = record { placed = s.placed; printed = s.puts.right.line };
          northeast = record { placed = t.placed; printed = t.puts.right.line };
          sums = t.sums ∙ ap (λ (n : Placing). plus n t.numbers) (s.sums ∙ ap (λ (n : Placing). plus n s.numbers) (q.sums ∙ ap (λ (n : Placing). plus n q.numbers) p.sums));
          is = refl;
        };
        put = simp append_assoc at (put_then (omega arith) three t.puts.put);
      }
    where
      three : Put out 0 ((p.puts.piece ++ q.puts.piece) ++ s.puts.piece) c k.end
      three = put_then (omega arith) (put_then (omega arith) p.puts.put q.puts.put) s.puts.put

-- After n corners: each one's line stands behind that of the one before.
module _ (w h : ℕ) (C : ℕ → ℕ → Type 0) (sums : Placing) (out : List ℕ) where
  pub record Begins (told : Told) (after : List ℕ) : Type 0 where
    pub start : told ≡ record { end = 0; sums = sums }
    pub same : after ≡ out

  abbrev pub LinesTold : ℕ → Told → List ℕ → Type 0
  LinesTold zero r after = Begins r after
  LinesTold (suc n) r after = (told : Told) × (mid : List ℕ) × LinesTold n told mid × DepotTold w h C (get_or corners n SouthWest) told mid after r

  -- They take their room at most, and leave sums to which the others can be added.
  pub record Going (n : ℕ) (r : Told) (after : List ℕ) : Type 0 where
    pub lines : LinesTold n r after
    pub reach : r.end ≤ n * line_room
    pub addable : Addable (4 - n) r.sums

module _ {w h : ℕ} {C : ℕ → ℕ → Type 0} {sums : Placing} {out : List ℕ} where
  pub going_none : Addable 4 sums → Going w h C sums out 0 (record { end = 0; sums = sums }) out
  going_none a = record { lines = record { start = refl; same = refl }; reach = omega arith; addable = a }

  pub going_next : (n : ℕ) {told r : Told} {mid after : List ℕ} → n < 4 → Sides w h → Going w h C sums out n told mid
      → DepotTold w h C (get_or corners n SouthWest) told mid after r → Going w h C sums out (n + 1) r after
  going_next n {told} {r} {mid} {after} l s g t =
      record {
        lines = rw add-one (told, mid, g.lines, t);
        reach = omega (arith, t.puts.put.size, t.puts.right.few, g.reach);
        addable = rw t.sums (addable_next n l g.addable (placed_most s t.placed));
      }

  -- All four are the lines of the map.
  pub going_all : {r : Told} {after : List ℕ} → Going w h C sums out 4 r after → AllTold w h C sums out after r
  going_all {r} {after} g = go g.lines
    where
      go : LinesTold w h C sums out 4 r after → AllTold w h C sums out after r
      go (k, c, (j, b, (i, a, (s, o, z, p), q), u), t) = lines_put (rw (z.start, z.same) at p) q u t
