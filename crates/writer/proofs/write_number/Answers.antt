-- `write_number` meets its contract: the k lowest digits of the rest, with what stands from k on,
-- are always the digits of the number.
use Rattle.std.proofs.Common.{◌≡◌, sym, ◌∙◌, ap, ℕ, zero, suc, ◌-◌, ◌/◌, ◌%◌, ◌+◌, ◌<◌, List, [], ◌∷◌, ◌++◌, append_assoc, arith, length, drop}
use Rattle.std.proofs.Math.ListN.{set}
use Rattle.std.proofs.lemmas.Grind.{drop-set_at}
use Rattle.writer.specs.Digits.{digits_of}
use Rattle.writer.proofs.write_number.Goals as goal

-- A digit taken off the rest and written before what stands from k on.
digit_put : (out : List ℕ) (k rest d : ℕ) → 0 < k → k - 1 < length out → d ≡ 48 + rest % 10
    → digits_of (k - 1) (rest / 10) ++ drop (k - 1) (set out (k - 1) d) ≡ digits_of k rest ++ drop k out
unfolding digits_of
digit_put out zero rest d p q e = absurd (omega arith)
digit_put out (suc k) rest d p q e =
    let less : suc k - 1 ≡ k = omega arith in
    let next : k + 1 ≡ suc k = omega arith in
    let within : k < length out = omega arith in
    rw (less, drop-set_at out k k d (omega arith) within, e, next) (sym (append_assoc (digits_of k (rest / 10)) ((48 + rest % 10) ∷ []) (drop (suc k) out)))

pub loop-k-preserved : goal.loop-k-preserved
loop-k-preserved c =
    let l = c.loop-k in
    digit_put l.out l.k l.rest c.digit.result (omega arith) (omega arith) c.digit.ensures ∙ l.invariant

pub returns : goal.returns
unfolding digits_of
returns c =
    let l = c.loop-k in
    let none : l.k ≡ 0 = omega arith in
    sym (ap (λ (k : ℕ). digits_of k l.rest ++ drop k l.out) none) ∙ l.invariant
