-- What is judged on numbers is what the tables of the calls give: their rows are told in other
-- words. So the first part of an asking keeps its promise.
use Rattle.std.proofs.Common.{◌≡◌, refl, Bool, true, false, true≢false, sym, List, ◌↔◌, inl, ℕ, length, arith}
use Rattle.std.proofs.Math.Decide.{ℕ_discrete}
use Rattle.std.specs.Prelude.{Result, Ok}
use Rattle.std.specs.Result.{IsErrAnd}
use Rattle.std.proofs.lemmas.Result.{err_from_is_err_and}
use Rattle.field.specs.declared.Size.{Size}
use Rattle.field.specs.declared.refusals.Refusal.{Refusal}
use Rattle.field.specs.Refusals.{number_of}
use Rattle.records.specs.Promise.{MayStamp, StampedWith}
use Rattle.calls.specs.Rules.{LentMap, Formed, Gives}
use Rattle.calls.specs.RuleLaws.{gives_none, gives_reworded, same, holds}
use Rattle.sheets.specs.Promise.{Of}
use Rattle.judging.specs.Judging.{asking_judged}
use Rattle.layer.specs.Prepared.{Prepared, asking_found}

-- A no means that P fails.
pub no_means : {P : Type 0} (well : Bool) → ((well ≡ true) ↔ P) → ((well ≡ false) ↔ (¬ P))
no_means true e = (λ z. absurd (true≢false z), λ n. absurd (n (e.0 refl)))
no_means false e = (λ z p. true≢false (sym (e.1 p)), λ n. refl)

pub not_no : (well : Bool) → ¬ (well ≡ false) → well ≡ true
not_no true f = refl
not_no false f = absurd (f refl)

module _ (m : LentMap) (labels : List ℕ) {well : Bool} (formed : (well ≡ true) ↔ Formed m) {x y a b : ℕ} {others : Bool} where
  -- What is judged before an asking.
  pub asking_gives : (n : ℕ) → Gives (asking_judged m.width m.height (length labels) others well x y a b) n → Gives (asking_found m x y a b others labels) n
  asking_gives n =
      gives_reworded (asking_judged m.width m.height (length labels) others well x y a b) (asking_found m x y a b others labels) n
      (refl, same, λ _. (refl, same, λ _. (refl, no_means well formed, λ _. (refl, same, λ _. tt))))

  pub prepared_refused : {low : Bool} (e : Refusal) {r : Result Size Refusal} → Gives (asking_judged m.width m.height (length labels) others well x y a b) (number_of e)
      → IsErrAnd r (λ d. d ≡ e) → Prepared m low x y a b others labels labels r
  prepared_refused e {r} g f =
      let q = err_from_is_err_and r f in rw (q.1, q.2) (record { given = asking_gives _ g; left = refl })

  module _ (g : Gives (asking_judged m.width m.height (length labels) others well x y a b) 0) {map : Size} (o : Of m.width m.height map) where
    -- Where nothing is refused, the sheet may be stamped.
    pub may_stamp : MayStamp map.w map.h m.list m.count labels
    may_stamp =
        let free = gives_none (asking_judged m.width m.height (length labels) others well x y a b) 0 0 (omega arith) g refl in
        rw (o.width, o.height) (record { formed = formed.0 (not_no well free.1.1.0); size = holds (ℕ_discrete _ _) (λ f. free.1.0 (inl f)) })

    pub prepared : {low : Bool} {labels' : List ℕ} → StampedWith map.w map.h m.clearance low m.list m.count labels' → Prepared m low x y a b others labels labels' (Ok map)
    prepared s =
        record { given = asking_gives 0 g; left = record { size = o; stamped = rw (o.width, o.height) at s } }
