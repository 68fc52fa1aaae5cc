-- A sheet that is filled with zeros is wiped.
use mathlib.Core.Path.{◌≡◌}
use mathlib.Core.List.{List}
use Prim.Native.Nat.{ℕ, zero, ◌<◌, ◌≤◌}
use native.Mathlib.Omega.{arith}
use native.Mathlib.Decide.{dec_lt}
use lib.ListN.{length, get_or, replicate, get_or-eq_default}
use Rattle.std.proofs.lemmas.List.{get_or-replicate, length-replicate}
use Rattle.sheets.specs.Promise.{Wiped}

pub wiped_filled : {s t : List ℕ} → t ≡ replicate (length s) 0 → Wiped s t
wiped_filled {s} {t} e = rw (e) (record { size = length-replicate (length s) zero; zeros = λ i. go i (dec_lt i (length s)) })
  where
    go : (i : ℕ) → Dec (i < length s) → ◌≡◌ {A = ℕ} (get_or (replicate (length s) 0) i 0) 0
    go i (yes l) = get_or-replicate (length s) i 0 0 l
    go i (no n) =
        let k : length (replicate {A = ℕ} (length s) 0) ≤ i = rw (length-replicate {A = ℕ} (length s) 0) (omega arith) in
        get_or-eq_default (replicate {A = ℕ} (length s) 0) 0 k
