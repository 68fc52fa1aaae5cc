-- An asking, walked: how it begins, and how it ends where the part that answers it is called last,
-- whatever its form (`Forms.antt`). It begins with what its parameters own taken apart, and it ends
-- because what the part that answers says at its exit is what the asking says (`Passing.antt`).
use Rattle.std.specs.Prelude.{◌≡◌, refl, List, [], ◌∷◌, ℕ, zero, suc, ◌<◌, ◌^◌, T, length}
use Rattle.std.proofs.Common.{sym, ap}
use Rattle.std.proofs.Math.Option.{none}
use seplogic.Ra.Ura.{Ura}
use mir.Syntax.{Callee, Fn, Ty, place, Opd as Operand, seq, call, return}
use mir.Val.{Val, has_ty, WT}
use base.Logic.{SProp, ent, emp, via, fst∗}
use base.Fml.{ftrue, flft}
use prog.Wp.{Env, Calls, Loops, WpFn}
use types.Logic.{Logic, sem}
use contract.Lifetimes.{Lfts, Shares, toks}
use contract.Monad.{fact}
use sound.WpLaws.{FmC}
use types.Kit.{Go, Item, ‵, raw, ◌⊛◌, mean, ⋆, Seq, runs, at_ret, ◌$◌, ◌∵◌, !, qed, by, move, drop, split, join, use1, recast}
use types.Run.{Opds}
use denote.RattleType.{RattleType, Denots, Valss, owns, flat, mirs}
use denote.Laws.{Ises, Are, valss, Typed, all_Typed}
use Rattle.std.specs.Borrow.{u8}
use denote.Slice.{mut_slice_vals}
use denote.Signature.{types_at}
use denote.Steps.{nothing}
use denote.Triple.Clauses.{Clauses, Lasts, at_exit, lasts, closing}
use denote.Triple.Entry.{on_entry}
use denote.Triple.Spec.{Meets}
use denote.Triple.Statement.{Triple}
use Rattle.walks.specs.Frames.{Known, Blocks, Passed, these, env_of, locals, enters_behind}
use Rattle.walks.specs.Lending.{mut_own}
use Rattle.walks.specs.Meeting.{Promised, meets}
use Rattle.walks.specs.Handing.{ends_owning}
use Rattle.walks.specs.Returning.{returns_owned}
use Rattle.walks.specs.Forms
use Rattle.walks.specs.Passing

module _ {M : Type 1} {𝓤 : Ura M} (𝓛 : Logic 𝓤) (R : RattleType) (F : Forms.Form) (c : Clauses 𝓤 (Forms.asking R F)) where
  open 𝓛 use {H}

  module _ (κs : Lfts (suc (suc (Forms.count F.lent)))) (qs : Shares (suc (suc (Forms.count F.lent)))) (a : Denots (types_at (Forms.asking_params R F) κs)) where
    -- The machine values of the arguments.
    abbrev pub vals : Valss (types_at (Forms.asking_params R F) κs)
    vals = valss (types_at (Forms.asking_params R F) κs) (Forms.asking_spells R F κs) a

    abbrev pub passed : List Val
    passed = flat (types_at (Forms.asking_params R F) κs) vals

    -- What a walk has: the label sheet with s on it, the tokens of its lifetime and of the list's,
    -- those of the other lifetimes, and the other things lent.
    abbrev pub labels_at : List ℕ → Item 𝓤
    labels_at s = ‵ (mut_own κs.1.0 u8 (Passing.labels_of_lem R F κs a).ref_ptr.0 (Passing.labels_of_lem R F κs a).ref_ptr.1 (Passing.labels_of_lem R F κs a).ghost_name s (mut_slice_vals (Passing.labels_of_lem R F κs a)))

    labels_same : (s : List ℕ) → sem 𝓛 (Passing.labels_own R F κs a vals 𝓛 s) ≡ mean 𝓛 (labels_at s)
    labels_same s =
        ap (λ (vs : List Val). sem 𝓛 (mut_own κs.1.0 u8 (Passing.labels_of_lem R F κs a).ref_ptr.0 (Passing.labels_of_lem R F κs a).ref_ptr.1 (Passing.labels_of_lem R F κs a).ghost_name s vs)) (Passing.labels_spelled R F κs a)

    abbrev pub labels_token : Item 𝓤
    labels_token = ‵ (flft κs.1.0 qs.1.0)

    abbrev pub list_token : Item 𝓤
    list_token = ‵ (flft κs.0 qs.0) ⊛ ‵ ftrue

    abbrev pub list_at : Item 𝓤
    list_at = ‵ (Passing.list_own R F κs a vals 𝓛)

    abbrev pub other_tokens : Item 𝓤
    other_tokens = raw (toks 𝓛 (Forms.count F.lent) κs.1.1 qs.1.1)

    abbrev pub others_at : Item 𝓤
    others_at = ‵ (Passing.others_own R F κs a vals 𝓛)

    abbrev pub ending : (c κs a).ghost → Val → SProp 𝓤
    ending g = (Promised 𝓛 (Forms.asking R F) c).post ((κs, qs, tt, a, vals), g)

  -- It begins.
  pub begins : (f : Fn) (C : Calls 𝓤 H) (Λ : Loops 𝓤 H)
      → ((κs : Lfts (suc (suc (Forms.count F.lent)))) (qs : Shares (suc (suc (Forms.count F.lent)))) (a : Denots (types_at (Forms.asking_params R F) κs))
      → Typed (mirs (types_at (Forms.asking_params R F) κs)) (passed κs qs a) → Passed 𝓛 f.locals (passed κs qs a))
      → ((κs : Lfts (suc (suc (Forms.count F.lent)))) (qs : Shares (suc (suc (Forms.count F.lent)))) (a : Denots (types_at (Forms.asking_params R F) κs)) (g : (c κs a).ghost)
      → Are (types_at (Forms.asking_params R F) κs) (Ises (types_at (Forms.asking_params R F) κs)) a (vals κs qs a) → (bs : Blocks f.locals)
      → Seq (Go {0}) 𝓛 (labels_at κs qs a (Passing.labels_of_lem R F κs a).now ∷ labels_token κs qs a ∷ list_token κs qs a ∷ list_at κs qs a ∷ other_tokens κs qs a ∷ others_at κs qs a
      ∷ locals 𝓛 (env_of 𝓛 f.locals bs) (none ∷ these (passed κs qs a)) [])
      (runs C Λ (env_of 𝓛 f.locals bs) f.body (at_ret (env_of 𝓛 f.locals bs) (ending κs qs a g))))
      → Meets 𝓛 (Forms.asking R F).signature (WpFn 𝓤 H C Λ f) (closing 𝓛 (Forms.asking R F) c)
  begins f C Λ stored go =
      meets 𝓛 (Forms.asking R F) c (WpFn 𝓤 H C Λ f) (Forms.asking_spells R F) (Forms.asking_tells R F) (λ κs qs bounds a g are.
      via 𝓤 _ (fst∗ 𝓤 (on_entry 𝓛 (Forms.asking R F).signature κs qs a (vals κs qs a)) ((c κs a).requires g))
      (qed 𝓛 ((‵ (flft κs.0 qs.0) ⊛ labels_token κs qs a ⊛ other_tokens κs qs a) ∷ ‵ (owns (types_at (Forms.asking_params R F) κs) a (vals κs qs a)) ∷ []) ∵
      move ! (1 ∷ []) $ use1 𝓛 (list_at κs qs a ⊛ ‵ (Passing.labels_own R F κs a (vals κs qs a) 𝓛 (Passing.labels_of_lem R F κs a).now) ⊛ others_at κs qs a) (Passing.call_owns R F κs a (vals κs qs a) 𝓛) $
      split ! $ move ! (1 ∷ []) $ split ! $ recast 𝓛 (labels_at κs qs a (Passing.labels_of_lem R F κs a).now) (labels_same κs qs a (Passing.labels_of_lem R F κs a).now) $ move ! (3 ∷ []) $ split ! $ move ! (1 ∷ []) $ split ! $ nothing ! $ move ! (3 ∷ 0 ∷ []) $ join ! $ move ! (3 ∷ 1 ∷ 0 ∷ 5 ∷ 2 ∷ 4 ∷ []) $
      enters_behind ! C Λ f (passed κs qs a) (ending κs qs a g)
      (stored κs qs a (all_Typed 𝓛 (types_at (Forms.asking_params R F) κs) (Forms.asking_lawful 𝓛 R F κs) a (vals κs qs a) are)) (go κs qs a g are)))

  -- It ends: `answers` is called, and what it returns is returned.
  module _ (c' : Clauses 𝓤 (Forms.answering F)) (E : Env 𝓤 H) (e : Ty × ℕ) (C : Calls 𝓤 H) (Λ : Loops 𝓤 H) (answers : Callee)
      (fm : FmC 𝓤 H 𝓛.laws C) (known : Triple 𝓤 (C answers) (Promised 𝓛 (Forms.answering F) c'))
      (κs : Lfts (suc (suc (Forms.count F.lent)))) (qs : Shares (suc (suc (Forms.count F.lent)))) (a : Denots (types_at (Forms.asking_params R F) κs)) (g : (c κs a).ghost)
      (are : Are (types_at (Forms.asking_params R F) κs) (Ises (types_at (Forms.asking_params R F) κs)) a (vals κs qs a))
      (typed : (r : Passing.Answer F κs) → Passing.IsAnswer F κs r → T (has_ty e.0 (Passing.answer_val F κs r)) × WT (Passing.answer_val F κs r)) (n : ℕ) (s : List ℕ) (fits : n < 2 ^ 8) (len : length s ≡ length (Passing.labels_of_lem R F κs a).now)
      (g' : (c' κs.1 (Passing.answer_args R F κs a n s)).ghost) (may : ent 𝓤 (emp 𝓤) ((c' κs.1 (Passing.answer_args R F κs a n s)).requires g'))
      (φ : Passing.Returned F κs → Lasts (Forms.asking R F) κs a → Type 0) (φ' : Passing.Answer F κs → Lasts (Forms.answering F) κs.1 (Passing.answer_args R F κs a n s) → Type 0)
      (says : (r : Passing.Returned F κs) (ws : Lasts (Forms.asking R F) κs a) → (c κs a).ensures g r (at_exit (Forms.asking R F) κs a ws) ≡ fact 𝓤 (φ r ws))
      (says' : (r : Passing.Answer F κs) (ws : Lasts (Forms.answering F) κs.1 (Passing.answer_args R F κs a n s))
      → (c' κs.1 (Passing.answer_args R F κs a n s)).ensures g' r (at_exit (Forms.answering F) κs.1 (Passing.answer_args R F κs a n s) ws) ≡ fact 𝓤 (φ' r ws))
      (joined : (r : Passing.Answer F κs) (ws : Lasts (Forms.answering F) κs.1 (Passing.answer_args R F κs a n s)) → φ' r ws → φ (Passing.returned F κs r) (Passing.call_lasts R F κs a n s ws)) where
    abbrev there : (Promised 𝓛 (Forms.answering F) c').Ghost
    there = ((κs.1, qs.1, tt, Passing.answer_args R F κs a n s, Passing.answer_vals R F κs a (vals κs qs a) n), g')

    abbrev handed : Item 𝓤
    handed = labels_token κs qs a ⊛ other_tokens κs qs a

    -- The result is owned by the part that answers, and is handed on.
    left_with : (r : Passing.Answer F κs) (ws : Lasts (Forms.answering F) κs.1 (Passing.answer_args R F κs a n s)) → φ' r ws → Passing.IsAnswer F κs r
        → ent 𝓤 (⋆ 𝓛 (‵ (Passing.answer_own F κs r) ∷ handed ∷ ‵ (lasts (Forms.answering F) κs.1 (Passing.answer_args R F κs a n s) ws) ∷ list_token κs qs a ∷ [])) (ending κs qs a g (Passing.answer_val F κs r))
    left_with r ws p is =
        qed 𝓛 (‵ (Passing.answer_own F κs r) ∷ handed ∷ ‵ (lasts (Forms.answering F) κs.1 (Passing.answer_args R F κs a n s) ws) ∷ list_token κs qs a ∷ []) ∵
        -- [the list's token and those of what was handed on; what is said at exit; the result]
        move ! (3 ∷ 1 ∷ []) $ split ! $ move ! (1 ∷ []) $ drop ! $ join ! $ move ! (2 ∷ []) $
        use1 𝓛 (‵ (lasts (Forms.asking R F) κs a (Passing.call_lasts R F κs a n s ws))) (Passing.call_says R F κs a (vals κs qs a) 𝓛 n s len ws) $ move ! (2 ∷ []) $
        use1 𝓛 (‵ (Passing.returned_own F κs r)) (Passing.returns_answer F κs 𝓛 r) $ move ! (0 ∷ 2 ∷ []) $
        by ! (ends_owning 𝓛 (Forms.asking R F) c ((κs, qs, tt, a, vals κs qs a), g) (Passing.answer_val F κs r) (Passing.returned F κs r) (Passing.call_lasts R F κs a n s ws) (φ (Passing.returned F κs r) (Passing.call_lasts R F κs a n s ws))
        (says (Passing.returned F κs r) (Passing.call_lasts R F κs a n s ws)) (joined r ws p) [] (‵ (flft κs.0 qs.0) ⊛ handed) refl tt)

    pub answered : (us : Known) (xs : List Operand)
        → Opds (Go {0}) 𝓛 (raw ((Promised 𝓛 (Forms.answering F) c').pre there) ∷ list_token κs qs a ∷ locals 𝓛 (e ∷ E) (none ∷ us) []) (e ∷ E) xs ((Promised 𝓛 (Forms.answering F) c').args there)
        → Seq (Go {0}) 𝓛 (labels_at κs qs a s ∷ labels_token κs qs a ∷ list_token κs qs a ∷ other_tokens κs qs a ∷ others_at κs qs a ∷ locals 𝓛 (e ∷ E) (none ∷ us) [])
        (runs C Λ (e ∷ E) (seq (call answers xs (place zero [])) return) (at_ret (e ∷ E) (ending κs qs a g)))
    answered us xs os =
        recast 𝓛 (‵ (Passing.labels_own R F κs a (vals κs qs a) 𝓛 s)) (sym (labels_same κs qs a s)) $ move ! (0 ∷ 4 ∷ []) $ join ! $ use1 𝓛 (‵ (owns (types_at (Forms.answering_params F) κs.1) (Passing.answer_args R F κs a n s) (Passing.answer_vals R F κs a (vals κs qs a) n)))
        (Passing.answer_owns R F κs a (vals κs qs a) 𝓛 are n s fits) $
        move ! (1 ∷ 3 ∷ []) $ join ! $
        returns_owned 𝓛 ! fm (Forms.answering F) c' known there [] handed refl tt may (Passing.answer_val F κs) (Forms.result_tells (suc (Forms.count F.lent)) Forms.in_answering F.result κs.1) φ' says' (list_token κs qs a) us os typed left_with
