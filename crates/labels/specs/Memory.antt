-- The working memory of a labelling.
use Rattle.std.specs.Prelude.{◌≡◌, List, ℕ}
use Rattle.rows.specs.Sheets.{Stamped, Drawn}

-- The rocks of a stamped sheet are read into rock, and c has them too.
pub record Ready (w h : ℕ) (s rock c : List ℕ) : Type 0 where
  pub stamped : Stamped w h s
  pub drawn : Drawn w h s rock
  pub same : c ≡ rock
