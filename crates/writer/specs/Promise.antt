-- The writer's promise, over a sheet on which the rocks are stamped.
use Rattle.std.specs.Prelude.{◌≡◌, List, ◌++◌, ℕ, ◌<◌, ◌≤◌, length, drop, Result, Ok, Err}
use Rattle.field.specs.declared.refusals.Refusal.{Refusal}
use Rattle.field.specs.declared.refusals.Refusal.TheVariants.{ShortOutput}
use Rattle.field.specs.Workings.Sheet.{Marked}
use Rattle.mapfile.specs.Written.{Written}

-- "The number of bytes written is handed back; bytes past the end stay."
pub record BytesWritten (w h : ℕ) (s out : List ℕ) (n : ℕ) (after : List ℕ) : Type 0 where
  pub file : List ℕ
  pub written : Written w h (Marked s w h) file
  pub counted : n ≡ length file
  pub fits : n ≤ length out
  pub is : after ≡ file ++ drop n out

-- "output too short for the whole file": nothing is changed then.
pub record NoRoom (w h : ℕ) (s out after : List ℕ) : Type 0 where
  pub file : List ℕ
  pub written : Written w h (Marked s w h) file
  pub long : length out < length file
  pub same : after ≡ out

-- Document 01's number for each case is told's: 0 on success, and 17 where the output is too short
-- for the whole file, which is the one refusal.
abbrev pub Writes : ℕ → ℕ → List ℕ → List ℕ → List ℕ → Result ℕ Refusal → Type 0
Writes w h s out after (Ok n) = BytesWritten w h s out n after
Writes w h s out after (Err r) = (r ≡ ShortOutput) × NoRoom w h s out after
