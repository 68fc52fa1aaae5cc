-- The few bytes that make a header of one that is cut short, if any bytes that follow do. Their
-- first LF ends a comment or a number, or is a blank; the second is a blank; then follow as many
-- numbers as can be wanting.
use Rattle.std.specs.Prelude.{List, [], ◌∷◌, ℕ}

-- LF, LF, "1", LF, "1", LF.
abbrev pub probe : List ℕ
probe = 10 ∷ 10 ∷ 49 ∷ 10 ∷ 49 ∷ 10 ∷ []
