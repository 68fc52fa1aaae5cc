-- A header is read in one way only. The working gives one answer, and it gives each header's
-- numbers and rest: so two headers of the same bytes, with as many numbers, have the same numbers
-- and the same rest.
use Rattle.std.specs.Prelude.{◌≡◌, refl, List, [], ◌∷◌, ℕ, length}
use Rattle.std.proofs.Common.{sym, subst, ◌∙◌, arith}
use Rattle.std.proofs.Math.Option.{some}
use Rattle.mapfile.specs.Header.{Header}
use Rattle.mapfile.specs.HeaderWorking.{value, GivesNumbers}
use Rattle.mapfile.proofs.HeaderComplete.{header_complete}

pub gives_one : (vs us l rest other : List ℕ) → length vs ≡ length us → GivesNumbers vs l rest → GivesNumbers us l other → (vs ≡ us) × (rest ≡ other)
unfolding GivesNumbers
gives_one [] [] l rest other n g k = (refl, (let e : some rest ≡ some other = sym g ∙ k in cc))
gives_one [] (u ∷ us) l rest other n g k = absurd (omega arith)
gives_one (v ∷ vs) [] l rest other n g k = absurd (omega arith)
gives_one (v ∷ vs) (u ∷ us) l rest other n g k =
    let first : value v g.0 ≡ value u k.0 = sym g.1 ∙ k.1 in
    let same : k.0 ≡ g.0 = cc in
    let more = gives_one vs us g.0 rest other (omega arith) g.2 (subst (λ (m : List ℕ). GivesNumbers us m other) same k.2) in
    ((let tail : vs ≡ us = more.0 in cc), more.1)

-- Two headers of as many numbers.
pub headers_one : {vs us file rest other : List ℕ} → length vs ≡ length us → Header vs file rest → Header us file other → (vs ≡ us) × (rest ≡ other)
headers_one {vs} {us} {file} {rest} {other} n h k = gives_one vs us file rest other n (header_complete h) (header_complete k)

-- The header of a map file, of two numbers.
pub header_one : {w h w' h' : ℕ} {file body body' : List ℕ} → Header (w ∷ h ∷ []) file body → Header (w' ∷ h' ∷ []) file body'
    → (w ≡ w') × (h ≡ h') × (body ≡ body')
header_one {w} {h} {w'} {h'} p q =
    let one = headers_one refl p q in
    let values : w ∷ h ∷ [] ≡ w' ∷ h' ∷ [] = one.0 in
    (cc, cc, one.1)
