-- What a run of the planners' program prints (document 02, request 05): it "reads P4 maps one after
-- another from standard input, as Netpbm lets them follow in one file, and prints a line for each
-- map and each corner as depot (southwest, southeast, northwest, northeast), four numbers with a
-- space between". "A last line gives the four sums over all lines before; input with no bytes gives
-- just four zeros."
use Rattle.std.specs.Prelude.{◌≡◌, List, [], ◌∷◌, ◌++◌, ℕ, ◌+◌, ◌<◌, ◌≤◌}
use Rattle.field.specs.declared.Depot.{Depot}
use Rattle.field.specs.declared.Depot.TheVariants.{SouthWest, SouthEast, NorthWest, NorthEast}
use Rattle.field.specs.declared.Placing.{Placing}
use Rattle.field.specs.Depots.{depot_x, depot_y, all_zero, HowPlaced}
use Rattle.field.specs.Labels.{Closed}
use Rattle.field.specs.Workings.Placing.{plus}
use Rattle.mapfile.specs.File.{FileRock}
use Rattle.mapfile.specs.Following.{FirstMap, FirstRefused, FirstLong}
use Rattle.printing.specs.Printed.{Line, refused, long, RefusalLine}

-- "65,535 maps a run"
unfoldable pub most_maps : ℕ
most_maps = 65535

-- "four numbers with a space between: open crossings; those for which the depot is assured; those
-- not assured that have a shortest drive; those with none."
abbrev pub FourLine : Placing → List ℕ → Type 0
FourLine p line = Line (p.opens ∷ p.assured ∷ p.driven ∷ p.stranded ∷ []) line

-- The line of a corner as depot. C tells the closed crossings.
pub record DepotLine (w h : ℕ) (C : ℕ → ℕ → Type 0) (d : Depot) (p : Placing) (line : List ℕ) : Type 0 where
  pub placed : HowPlaced w h C (depot_x d w) (depot_y d h) p
  pub printed : FourLine p line

-- "a line for each map and each corner as depot (southwest, southeast, northwest, northeast)": the
-- lines of one map, and the sums before and after them.
pub record MapLines (w h : ℕ) (C : ℕ → ℕ → Type 0) (before after : Placing) (text : List ℕ) : Type 0 where
  pub sw : Placing
  pub se : Placing
  pub nw : Placing
  pub ne : Placing
  pub sw_line : List ℕ
  pub se_line : List ℕ
  pub nw_line : List ℕ
  pub ne_line : List ℕ
  pub southwest : DepotLine w h C SouthWest sw sw_line
  pub southeast : DepotLine w h C SouthEast se se_line
  pub northwest : DepotLine w h C NorthWest nw nw_line
  pub northeast : DepotLine w h C NorthEast ne ne_line
  pub sums : after ≡ plus (plus (plus (plus before sw) se) nw) ne
  pub is : text ≡ sw_line ++ (se_line ++ (nw_line ++ ne_line))

-- How a run ends after k maps, where `sums` are the sums over all lines before and `input` is what
-- is left of the input:
pub data Ends (k : ℕ) (sums : Placing) (input text : List ℕ) : Type 0 where
  -- "A last line gives the four sums over all lines before";
  all_read : input ≡ [] → FourLine sums text → Ends k sums input text
  -- "a bad one ends the run with its refusal line in place of the sums";
  bad_map : (n : ℕ) → k < most_maps → ¬ (input ≡ []) → FirstRefused input n → RefusalLine n text → Ends k sums input text
  -- "The 65,536 bytes now bound each map, and 65,535 maps a run; past either, 'refused long' ends
  -- it".
  past_bytes : k < most_maps → FirstLong input → text ≡ refused ++ long → Ends k sums input text
  past_maps : most_maps ≤ k → ¬ (input ≡ []) → text ≡ refused ++ long → Ends k sums input text

-- A run after k maps: it ends, or the next map stands first in what is left, and the run goes on
-- after its lines.
pub data Runs : ℕ → Placing → List ℕ → List ℕ → Type 0 where
  ends : {k : ℕ} {sums : Placing} {input text : List ℕ} → Ends k sums input text → Runs k sums input text
  goes_on : {k w h : ℕ} {sums after : Placing} {input text bits rest lines more : List ℕ} → k < most_maps → FirstMap input w h bits rest
      → MapLines w h (Closed (FileRock w h bits) w h) sums after lines → Runs (k + 1) after rest more → text ≡ lines ++ more → Runs k sums input text

-- The whole text for an input.
abbrev pub Text : List ℕ → List ℕ → Type 0
Text input text = Runs 0 all_zero input text
