-- A call in two parts. The first part finds what is refused before anything is written; its number
-- is the first row of the second part, which goes on where it is 0.
use Rattle.std.specs.Prelude.{◌≡◌, ℕ}
use Rattle.calls.specs.Rule.{Rule, rule}

-- What was found before is given, where it is not 0.
abbrev pub before : ℕ → Rule
before n = rule n (¬ (n ≡ 0))
