-- From a walk to a function's statement. The walk begins with what the function's parameters own,
-- their machine values written out, and ends with the tokens, the result and what is said of the
-- last values of what was lent.
use Rattle.std.specs.Prelude.{◌≡◌, [], ◌∷◌}
use Rattle.std.proofs.Common.{sym, subst}
use seplogic.Ra.Ura.{Ura}
use mir.Val.{Val}
use base.Logic.{SProp, ent, sep, wand, ex, emp, via, mono_l, fst∗, comm∗, wand_i, apply∗}
use types.Logic.{Logic, sem}
use contract.Lifetimes.{Lfts, Shares, AllOutlive}
use contract.Monad.{Fun, fact, fact_i}
use types.Kit.{‵, raw, ◌$◌, ◌∵◌, !, qed, by, move, frame, show, join}
use denote.RattleType.{flat}
use denote.Laws.{Are, Ises, Spells, valss, Tellss}
use denote.Signature.{type_at, types_at}
use denote.Steps.{said}
use denote.Triple.Clauses.{Ended, Clauses, Lasts, at_exit, lasts, ensured, closing}
use denote.Triple.Entry.{Args, Vals, Res, alive, on_entry}
use denote.Triple.Spec.{Back, Meets, triple_of}
use denote.Triple.Statement.{Contract}

-- A function with no `requires` is asked nothing.
pub asked_nothing : {M : Type 1} (𝓤 : Ura M) (P : SProp 𝓤) {Q : SProp 𝓤} → ent 𝓤 P Q → ent 𝓤 (sep 𝓤 P (emp 𝓤)) Q
asked_nothing 𝓤 P h = via 𝓤 P (fst∗ 𝓤 P (emp 𝓤)) h

module _ {M : Type 1} {𝓤 : Ura M} (𝓛 : Logic 𝓤) (T : Ended) (c : Clauses 𝓤 T) where
  -- The contract as a triple.
  abbrev pub Promised : Contract 𝓤
  Promised = triple_of 𝓛 T.signature (closing 𝓛 T c)

  -- The function's code meets its contract where each of its runs is walked.
  pub meets : (run : Fun 𝓤) (sp : (κs : Lfts T.signature.lifetimes) → Spells (types_at T.signature.params κs))
      → ((κs : Lfts T.signature.lifetimes) → Tellss (types_at T.signature.params κs) (Ises (types_at T.signature.params κs)) (sp κs))
      → ((κs : Lfts T.signature.lifetimes) (qs : Shares T.signature.lifetimes) (bounds : AllOutlive T.signature.lifetimes T.signature.outlives κs)
      (a : Args T.signature κs) (g : (c κs a).ghost) → Are (types_at T.signature.params κs) (Ises (types_at T.signature.params κs)) a (valss (types_at T.signature.params κs) (sp κs) a)
      → ent 𝓤 (sep 𝓤 (on_entry 𝓛 T.signature κs qs a (valss (types_at T.signature.params κs) (sp κs) a)) ((c κs a).requires g))
      (run (flat (types_at T.signature.params κs) (valss (types_at T.signature.params κs) (sp κs) a)) (Promised.post ((κs, qs, bounds, a, valss (types_at T.signature.params κs) (sp κs) a), g))))
      → Meets 𝓛 T.signature run (closing 𝓛 T c)
  meets run sp tl k y =
      let R : SProp 𝓤 = (c y.0.0 y.0.3).requires y.1 in
      let Q : Vals T.signature y.0.0 → SProp 𝓤 = λ us. run (flat (types_at T.signature.params y.0.0) us) (Promised.post ((y.0.0, y.0.1, y.0.2, y.0.3, us), y.1)) in
      via 𝓤 (sep 𝓤 (wand 𝓤 R (Q y.0.4)) R)
      (mono_l 𝓤 R (said 𝓛 T.signature y.0.0 y.0.1 (sp y.0.0) (tl y.0.0) y.0.3 (λ us. wand 𝓤 R (Q us)) y.0.4
      (λ are. wand_i 𝓤 _ R _ (k y.0.0 y.0.1 y.0.2 y.0.3 y.1 are))))
      (via 𝓤 (sep 𝓤 R (wand 𝓤 R (Q y.0.4))) (comm∗ 𝓤 (wand 𝓤 R (Q y.0.4)) R) (apply∗ 𝓤 R (Q y.0.4)))

  module _ (y : Promised.Ghost) where
    -- What a walk has at its end.
    abbrev Ending : Val → Res T.signature y.0.0 → Lasts T y.0.0 y.0.3 → SProp 𝓤
    Ending v r ws = sep 𝓤 (alive 𝓛 T.signature y.0.0 y.0.1) (sep 𝓤 (sem 𝓛 (lasts T y.0.0 y.0.3 ws)) (sem 𝓛 ((type_at T.signature.result y.0.0).own_val r (v ∷ []))))

    -- A walk ends at the machine value v, with the result r and the last values ws, of which what
    -- is ensured is shown.
    pub ends : (v : Val) (r : Res T.signature y.0.0) (ws : Lasts T y.0.0 y.0.3) (φ : Type 0)
        → (c y.0.0 y.0.3).ensures y.1 r (at_exit T y.0.0 y.0.3 ws) ≡ fact 𝓤 φ → φ → ent 𝓤 (Ending v r ws) (Promised.post y v)
    ends v r ws φ e p =
        let Ensured : Res T.signature y.0.0 → SProp 𝓤 = λ u. ensured 𝓛 T c y.0.0 y.0.3 y.1 u in
        let Last : Lasts T y.0.0 y.0.3 → SProp 𝓤 = λ us. sep 𝓤 (sem 𝓛 (lasts T y.0.0 y.0.3 us)) ((c y.0.0 y.0.3).ensures y.1 r (at_exit T y.0.0 y.0.3 us)) in
        via 𝓤 (ex 𝓤 (λ (u : Res T.signature y.0.0). sep 𝓤 (Back 𝓛 T.signature y.0 v u) (Ensured u)))
        (qed 𝓛 ((raw (alive 𝓛 T.signature y.0.0 y.0.1)) ∷ ‵ (lasts T y.0.0 y.0.3 ws) ∷ ‵ ((type_at T.signature.result y.0.0).own_val r (v ∷ [])) ∷ []) ∵
        show ! (λ (u : Res T.signature y.0.0). sep 𝓤 (Back 𝓛 T.signature y.0 v u) (Ensured u)) r $ move ! (0 ∷ 2 ∷ []) $ join ! $ frame ! $ show ! Last ws $ frame ! $
        by ! (subst (λ (P : SProp 𝓤). ent 𝓤 (emp 𝓤) P) (sym e) (fact_i 𝓤 φ (emp 𝓤) p)))
        (𝓛.laws.⇛_intro _)
