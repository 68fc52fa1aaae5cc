-- Every input has a text: a number is printed somehow, every map's corners have their numbers, and
-- what is left begins with something. The text is made so, map by map.
use Rattle.std.specs.Prelude.{◌≡◌, refl, List, [], ◌∷◌, ◌++◌, ℕ, zero, suc, ◌+◌, ◌<◌, ◌≤◌, get_or}
use Rattle.std.proofs.Common.{arith}
use Rattle.std.proofs.Math.Decide.{dec_lt, ℕ_discrete}
use Rattle.field.specs.declared.Depot.{Depot}
use Rattle.field.specs.declared.Depot.TheVariants.{SouthWest, SouthEast, NorthWest, NorthEast}
use Rattle.field.specs.declared.Placing.{Placing}
use Rattle.field.specs.Map.{On, Sides}
use Rattle.field.specs.Labels.{Closed, RockOn}
use Rattle.field.specs.Depots.{depot_x, depot_y}
use Rattle.field.specs.Workings.Sheet.{Draws}
use Rattle.field.proofs.Workings.Marks.{decided, decided_draws}
use Rattle.field.specs.Workings.Closing.{closing}
use Rattle.field.proofs.Workings.Closing.{closing_draws}
use Rattle.field.specs.Workings.Placing.{plus}
use Rattle.field.proofs.Workings.PlacingLaws.{placed_of, placed_made}
use Rattle.mapfile.specs.File.{FileRock, raster_place}
use Rattle.mapfile.specs.Following.{Outcome, a_map, refused, too_long, FirstIs}
use Rattle.mapfile.proofs.FollowingOutcome.{first_some}
use Rattle.printing.specs.Printed as printed
use Rattle.printing.specs.Printed.{long, last_number, next_number_lem, RefusalLine}
use Rattle.printing.specs.PrintSome.{printed_some}
use Rattle.planning.specs.Promise.{most_maps, FourLine, DepotLine, MapLines, all_read, bad_map, past_bytes, past_maps, Runs, ends, goes_on, Text}

unfoldable pub four_some : (p : Placing) → (l : List ℕ) × FourLine p l
four_some p =
    let o = printed_some p.opens in
    let a = printed_some p.assured in
    let d = printed_some p.driven in
    let s = printed_some p.stranded in (
      o.0 ++ 32 ∷ (a.0 ++ 32 ∷ (d.0 ++ 32 ∷ (s.0 ++ 10 ∷ []))),
      next_number_lem _ o.0 _ o.1 (next_number_lem _ a.0 _ a.1 (next_number_lem _ d.0 _ d.1 (last_number _ s.0 s.1 refl refl) refl refl) refl refl) refl refl,
    )

unfoldable pub refusal_some : (n : ℕ) → (l : List ℕ) × RefusalLine n l
refusal_some n = let d = printed_some n in (printed.refused ++ d.0 ++ 10 ∷ [], record { digits = d.0; printed = d.1; is = refl })

-- The closed crossings of a file's map have a sheet.
module _ (w h : ℕ) (bits : List ℕ) where
  unfoldable pub rock_dec : (x y : ℕ) → Dec (RockOn (FileRock w h bits) w h x y)
  rock_dec x y = go (dec_lt x w) (dec_lt y h) (ℕ_discrete (get_or bits (raster_place w h x y) 0) 1)
    where
      go : Dec (x < w) → Dec (y < h) → Dec (get_or bits (raster_place w h x y) 0 ≡ 1) → Dec (RockOn (FileRock w h bits) w h x y)
      go (yes p) (yes q) (yes e) = let o : On w h x y = record { in_x = p; in_y = q } in yes (record { on = o; stone = record { on = o; one = e } })
      go (no p) q e = no (λ r. p r.on.in_x)
      go (yes p) (no q) e = no (λ r. q r.on.in_y)
      go (yes p) (yes q) (no e) = no (λ r. e r.stone.one)

  unfoldable pub closed_sheet : List ℕ
  closed_sheet = closing w h (decided w h rock_dec)

  pub closed_drawn : Draws w h (Closed (FileRock w h bits) w h) closed_sheet
  unfolding closed_sheet
  closed_drawn = closing_draws w h (FileRock w h bits) (decided w h rock_dec) (decided_draws w h (RockOn (FileRock w h bits) w h) (λ x y r. r.on) rock_dec)

-- A corner is on the map.
pub depot_on : {w h : ℕ} → Sides w h → (d : Depot) → On w h (depot_x d w) (depot_y d h)
depot_on s SouthWest = record { in_x = omega (arith, s.some_w); in_y = omega (arith, s.some_h) }
depot_on s SouthEast = record { in_x = omega (arith, s.some_w); in_y = omega (arith, s.some_h) }
depot_on s NorthWest = record { in_x = omega (arith, s.some_w); in_y = omega (arith, s.some_h) }
depot_on s NorthEast = record { in_x = omega (arith, s.some_w); in_y = omega (arith, s.some_h) }

module _ {w h : ℕ} (bits : List ℕ) (s : Sides w h) where
  abbrev C : ℕ → ℕ → Type 0
  C = Closed (FileRock w h bits) w h

  unfoldable pub numbers_of : Depot → Placing
  numbers_of d = placed_of (closed_sheet w h bits) w h (depot_x d w) (depot_y d h)

  unfoldable pub depot_some : (d : Depot) → (l : List ℕ) × DepotLine w h C d (numbers_of d) l
  unfolding numbers_of
  depot_some d =
      let f = four_some (numbers_of d) in (
        f.0,
        record {
          placed = placed_made w h C (closed_sheet w h bits) (closed_drawn w h bits) (depot_x d w) (depot_y d h) (depot_on s d);
          printed = f.1;
        },
      )

  unfoldable pub lines_some : (before : Placing) → (after : Placing) × (text : List ℕ) × MapLines w h C before after text
  lines_some before =
      let sw = depot_some SouthWest in
      let se = depot_some SouthEast in
      let nw = depot_some NorthWest in
      let ne = depot_some NorthEast in (
        plus (plus (plus (plus before (numbers_of SouthWest)) (numbers_of SouthEast)) (numbers_of NorthWest)) (numbers_of NorthEast),
        sw.0 ++ (se.0 ++ (nw.0 ++ ne.0)),
        record {
          sw = numbers_of SouthWest;
          se = numbers_of SouthEast;
          nw = numbers_of NorthWest;
          ne = numbers_of NorthEast;
          sw_line = sw.0;
          se_line = se.0;
          nw_line = nw.0;
          ne_line = ne.0;
          southwest = sw.1;
          southeast = se.1;
          northwest = nw.1;
          northeast = ne.1;
          sums = refl;
          is = refl;
        },
      )

-- What a run goes on to print after one map more.
abbrev Goes : ℕ → Type 0
Goes k = (sums : Placing) (input : List ℕ) → (text : List ℕ) × Runs k sums input text

pub not_empty : {b : ℕ} {l : List ℕ} → ¬ (b ∷ l ≡ [])
not_empty e = let z : ◌≡◌ {A = ℕ} 0 1 = cc in omega arith

unfoldable pub step_some : (k : ℕ) → k < most_maps → Goes (k + 1) → Goes k
step_some k l next sums [] = let f = four_some sums in (f.0, ends (all_read refl f.1))
step_some k l next sums (b ∷ input) = go (first_some (b ∷ input))
  where
    go : ((o : Outcome) × FirstIs (b ∷ input) o) → (text : List ℕ) × Runs k sums (b ∷ input) text
    go (a_map w h bits rest, f) =
        let lines = lines_some bits f.map.sides sums in
        let more = next lines.0 rest in
        (lines.1 ++ more.0, goes_on l f lines.2 more.1 refl)
    go (refused n, f) = let line = refusal_some n in (line.0, ends (bad_map n l not_empty f line.1))
    go (too_long, f) = (printed.refused ++ long, ends (past_bytes l f refl))

unfoldable pub last_some : (k : ℕ) → most_maps ≤ k → Goes k
last_some k l sums [] = let f = four_some sums in (f.0, ends (all_read refl f.1))
last_some k l sums (b ∷ input) = (printed.refused ++ long, ends (past_maps l not_empty refl))

unfoldable pub runs_some : (fuel k : ℕ) → most_maps ≡ k + fuel → Goes k
runs_some zero k e = last_some k (omega arith)
runs_some (suc fuel) k e = step_some k (omega arith) (runs_some fuel (k + 1) (omega arith))

-- Every input has a text.
unfoldable pub text_some : (input : List ℕ) → (text : List ℕ) × Text input text
text_some input = runs_some most_maps 0 (omega arith) _ input
