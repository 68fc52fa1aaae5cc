-- What the header's answer says of the bytes, where two numbers are asked.
use Rattle.std.specs.Prelude.{◌≡◌, List, [], ◌∷◌, ℕ, ◌≤◌, length, get_or, drop}
use Rattle.std.proofs.Common.{sym, subst}
use Rattle.mapfile.specs.Header.{Header}
use Rattle.mapfile.proofs.FileWorking.{two_values}
use Rattle.header.specs.HeaderParts.{HeadFound, NoHead}

pub head_found : {s : List ℕ} {at : ℕ} {numbers : List ℕ} {e : ℕ} → length numbers ≡ 2 → HeadFound s at numbers e
    → (e ≤ length s) × Header (get_or numbers 0 0 ∷ get_or numbers 1 0 ∷ []) (drop at s) (drop e s)
head_found {s} {at} {numbers} {e} n f =
    (f.within, subst (λ (vs : List ℕ). Header vs (drop at s) (drop e s)) (two_values numbers n) f.header)

pub head_missing : (s : List ℕ) (at : ℕ) (numbers : List ℕ) → length numbers ≡ 2 → NoHead s at (length numbers)
    → (w h : ℕ) (body : List ℕ) → ¬ Header (w ∷ h ∷ []) (drop at s) body
head_missing s at numbers n f w h body = f (w ∷ h ∷ []) body (sym n)
