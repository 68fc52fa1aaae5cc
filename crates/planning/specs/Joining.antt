-- The steps of a run joined: however the input is cut into pieces, the texts of the steps, one
-- after another, are the text of the whole input.
use Rattle.std.specs.Prelude.{◌≡◌, refl, Bool, List, [], ◌∷◌, ◌++◌, ℕ, drop}
use Rattle.std.proofs.Common.{sym, append_assoc}
use Rattle.planning.specs.declared.Run.{Run}
use Rattle.planning.specs.Promise.{Runs, ends, goes_on, Text}
use Rattle.planning.specs.Outcome.{runs_one}
use Rattle.following.specs.Promise.{Follows}
use Rattle.planning.specs.Steps.{begun, OneMap, RunEnds}

-- The pieces one after another.
unfoldable pub joined : List (List ℕ) → List ℕ
joined [] = []
joined (p ∷ ps) = p ++ joined ps

-- A sequence of steps, with these bytes at hand and these pieces to come. A map's bytes are dropped
-- in front once its lines are printed; a piece is added behind; at the run's end the rest of the
-- input is left. `ended` may be said only if no bytes are to come.
pub data Steps : Run → List ℕ → List (List ℕ) → List ℕ → Type 0 where
  took : {r next : Run} {held text lines more : List ℕ} {pieces : List (List ℕ)} {ended : Bool} {used : ℕ} → Follows ended (joined pieces)
      → OneMap r held ended used next lines → Steps next (drop used held) pieces more → text ≡ lines ++ more → Steps r held pieces text
  added : {r : Run} {held p text : List ℕ} {ps pieces : List (List ℕ)} → pieces ≡ p ∷ ps → Steps r (held ++ p) ps text → Steps r held pieces text
  finished : {r : Run} {held text : List ℕ} {pieces : List (List ℕ)} {ended : Bool} → Follows ended (joined pieces) → RunEnds r held ended text
      → Steps r held pieces text

joined_next : (held p : List ℕ) (ps : List (List ℕ)) → held ++ joined (p ∷ ps) ≡ (held ++ p) ++ joined ps
unfolding joined
joined_next held p ps = sym (append_assoc held p (joined ps))

pub steps_join : {r : Run} {held text : List ℕ} {pieces : List (List ℕ)} → Steps r held pieces text → Runs r.maps r.sums (held ++ joined pieces) text
steps_join {pieces} (took f m s e) = goes_on m.before (m.first (joined pieces) f) m.lines (rw m.counted at (steps_join s)) e
steps_join {held} (added {p} {ps} e s) = rw (e, joined_next held p ps) (steps_join s)
steps_join {pieces} (finished f m) = ends (m (joined pieces) f)

-- The text of the whole input.
pub steps_text : {pieces : List (List ℕ)} {text : List ℕ} → Steps begun [] pieces text → Text (joined pieces) text
steps_text s = steps_join s

-- However the same input is cut, the text is the same.
pub steps_one : {pieces others : List (List ℕ)} {text other : List ℕ} → joined pieces ≡ joined others → Steps begun [] pieces text
    → Steps begun [] others other → text ≡ other
steps_one e s t = runs_one refl refl e (steps_text s) (steps_text t)
