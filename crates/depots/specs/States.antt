-- How the program stands between two steps, and a number that falls with each: what is left to do.
use Rattle.std.specs.Prelude.{◌≡◌, true, false, cond, not, ◌&&◌, List, ℕ, ◌+◌, ◌*◌, ◌-◌, ◌<◌, ◌≤◌, ltb, length, take, drop}
use Rattle.field.specs.Workings.Tests.{bit}
use Rattle.planning.specs.declared.Run.{Run}
use Rattle.planning.specs.Promise.{most_maps}
use Rattle.planning.specs.Steps.{step_room, Tally}
use Rattle.depots.specs.declared.State.{State}

-- The buffers' lengths.
abbrev pub input_room : ℕ
input_room = 65537

abbrev pub text_room : ℕ
text_room = 65536

abbrev pub output_room : ℕ
output_room = text_room + step_room

pub record Buffers (src out : List ℕ) : Type 0 where
  pub input : length src ≡ input_room
  pub output : length out ≡ output_room

-- The bytes at hand stand in the buffer.
pub record Keeping (src : List ℕ) (from held : ℕ) : Type 0 where
  pub order : from ≤ held
  pub within : held ≤ length src

-- They are moved to its front.
pub record Kept (src : List ℕ) (from held : ℕ) (after : List ℕ) (n : ℕ) : Type 0 where
  pub many : n ≡ held - from
  pub front : take n after ≡ take n (drop from src)

-- The same of a state, in a buffer of n bytes.
pub record Standing (n : ℕ) (s : State) : Type 0 where
  pub order : s.from ≤ s.held
  pub within : s.held ≤ n

-- The buffer is full, or the input ends in it.
pub record Filled (n : ℕ) (s r : State) : Type 0 where
  pub same_run : r.run ≡ s.run
  pub front : r.from ≡ 0
  pub within : r.held ≤ n
  pub told : r.ended ≡ ltb r.held n
  pub same_text : r.text ≡ s.text
  pub same_going : r.going ≡ s.going

-- The text is handed over, or there is room for a step more.
pub record HandedOver (s r : State) : Type 0 where
  pub same_run : r.run ≡ s.run
  pub same_from : r.from ≡ s.from
  pub same_held : r.held ≡ s.held
  pub room : r.text ≤ text_room

pub record Finished (s r : State) : Type 0 where
  pub same_run : r.run ≡ s.run
  pub same_from : r.from ≡ s.from
  pub same_held : r.held ≡ s.held
  pub no_text : r.text ≡ 0
  pub stopped : r.going ≡ false

-- So many bytes at hand are used, and so much text is there behind what is gathered.
pub record MayGoOn (n : ℕ) (s : State) (used end : ℕ) : Type 0 where
  pub order : s.from + used ≤ s.held
  pub texts : s.text + end ≤ n

pub record Advanced (s : State) (used : ℕ) (run : Run) (r : State) : Type 0 where
  pub new_run : r.run ≡ run
  pub next : r.from ≡ s.from + used
  pub same_held : r.held ≡ s.held
  pub room : r.text ≤ text_room

-- Between two steps.
pub record Stands (s : State) : Type 0 where
  pub standing : Standing input_room s
  pub room : s.text ≤ text_room
  pub tally : Tally s.run

pub record MayStep (src out : List ℕ) (s : State) : Type 0 where
  pub buffers : Buffers src out
  pub stands : Stands s
  pub going : s.going ≡ true

-- 1 where a step may ask for more bytes: the input has not ended, and the buffer is not full.
abbrev pub unfilled : State → ℕ
unfilled s = bit (not s.ended && ltb (s.held - s.from) input_room)

-- What is left to do: two turns for each map that may be read, one to fill the buffer and one to
-- read it, and a last one.
unfoldable pub left : State → ℕ
left s = cond s.going (1 + 2 * (most_maps - s.run.maps) + unfilled s) 0

pub record StepMade (s r : State) : Type 0 where
  pub stands : Stands r
  pub less : left r < left s
