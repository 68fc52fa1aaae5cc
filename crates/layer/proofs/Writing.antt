-- The call's promise at each place where writing ends: the first part refuses, the second does, or
-- the third answers.
use Rattle.std.proofs.Common.{arith, ◌≡◌, refl, ◌∙◌, ap, Bool, true, false, List, ℕ, length}
use Rattle.std.specs.Prelude.{Result, Ok, Err}
use Rattle.std.proofs.lemmas.Result.{err_from_is_err_and}
use Rattle.field.specs.declared.Size.{Size}
use Rattle.field.specs.declared.refusals.Refusal.{Refusal}
use Rattle.field.specs.declared.refusals.Refusal.TheVariants.{SharedCrossing}
use Rattle.field.specs.Workings.MarkCount.{marks}
use Rattle.records.specs.Promise.{MayStamp, StampedWith}
use Rattle.calls.specs.Rules.{LentMap, Formed}
use Rattle.calls.specs.RuleLaws.{None, gives_none, formed_holds}
use Rattle.calls.specs.Calls.{WriteCall}
use Rattle.calls.specs.Told.{wrote_map}
use Rattle.exchange.specs.Promise.{Area, WriteRest}
use Rattle.layer.specs.Prepared.{asking_found, Prepared}
use Rattle.layer.specs.Writing.{writes}
use Rattle.layer.proofs.Joining.{Handed}

module _ {m : LentMap} {sheet marked : List ℕ} (area : Area m.width m.height (length sheet)) where
  -- The first part refuses, whatever it would have stamped.
  pub write_refused : {low : Bool} {out : List ℕ} {e : Refusal} (r : Result ℕ Refusal) → Prepared m low 0 0 0 0 true sheet marked (Err e) → Handed e r
      → WriteCall m out out (wrote_map r)
  write_refused {e = e} r p f =
      let q = err_from_is_err_and r f.1 in
      writes (Err e) (Ok tt) area (record { given = p.given; left = p.left }) tt marked tt r (refl, q.1 ∙ ap (λ d. Err d) q.2)

  module _ {map : Size} (p : Prepared m true 0 0 0 0 true sheet marked (Ok map)) where
    free : None (asking_found m 0 0 0 0 true sheet)
    free = gives_none (asking_found m 0 0 0 0 true sheet) 0 0 (omega arith) p.given refl

    formed : Formed m
    formed = formed_holds free.1.1.0

    -- The second part refuses: two markers share a crossing.
    pub write_shared : {out : List ℕ} {e : Refusal} (r : Result ℕ Refusal) → (¬ (marks marked ≡ m.count)) × (e ≡ SharedCrossing) → Handed e r
        → WriteCall m out out (wrote_map r)
    write_shared {e = e} r k f =
        let q = err_from_is_err_and r f.1 in
        writes (Ok map) (Err e) area p k marked tt r (refl, q.1 ∙ ap (λ d. Err d) q.2)

    -- The rocks may be stamped over the markers.
    pub may_stamp_over : MayStamp map.w map.h m.list m.count marked
    may_stamp_over = rw (p.left.size.width, p.left.size.height) (record { formed = formed; size = p.left.stamped.size })

    module _ {stamped : List ℕ} (q : StampedWith map.w map.h m.clearance false m.list m.count stamped) where
      -- The third part refuses or writes.
      pub write_call : {out out' : List ℕ} (r : Result ℕ Refusal) → marks marked ≡ m.count → WriteRest map.w map.h stamped out out' r → WriteCall m out out' (wrote_map r)
      write_call r apart u = writes (Ok map) (Ok tt) area p apart stamped q r u
