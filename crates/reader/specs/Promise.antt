-- The reader's promise: it accepts exactly the byte strings that the grammar makes a map for whose
-- rocks there is a slot each, with exactly that map, and refuses every other on its occasion.
use Rattle.std.specs.Prelude.{◌≡◌, Result, Ok, Err, List, ◌⊎◌, ℕ, ◌*◌, ◌≤◌, length, take}
use Rattle.field.specs.declared.Reading.{Reading}
use Rattle.field.specs.declared.refusals.Refusal.{Refusal}
use Rattle.field.specs.Map.{most_markers}
use Rattle.field.specs.Refusals.{no_slot, number_of}
use Rattle.mapfile.specs.File.{MapFile, markers_of, FileFault, NoSlot}

-- A map for whose rocks there is a slot each: its bits, in raster order, are the first h × w of the
-- bytes handed back.
pub record MapTaken (file : List ℕ) (lent w h count : ℕ) (out : List ℕ) : Type 0 where
  pub map : MapFile file w h (take (h * w) out)
  pub counted : count ≡ length (markers_of w h (take (h * w) out))
  pub within : count ≤ lent
  pub few : count ≤ most_markers

-- A refusal is the file's fault, or 7 where the map's rocks find no slot.
abbrev pub Reads : List ℕ → ℕ → List ℕ → Result Reading Refusal → Type 0
Reads file lent out (Ok m) = MapTaken file lent m.map.w m.map.h m.rocks out
Reads file lent out (Err r) = FileFault file (number_of r) ⊎ (NoSlot file lent × (number_of r ≡ no_slot))
