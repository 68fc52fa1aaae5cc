-- What is handed to a callee, and what is said at exit, by marks on the parameters: a marked one is
-- at hand, as an entry of the context; one that is not marked is plain, and is had for nothing.
-- Where the marks end, all the parameters that are left are at hand as one entry.
use Rattle.std.specs.Prelude.{◌≡◌, Bool, true, false, List, [], ◌∷◌, ◌++◌, ℕ}
use Rattle.std.proofs.Common.{sym, subst}
use seplogic.Ra.Ura.{Ura}
use mir.Val.{Val}
use base.Logic.{SProp, ent, sep, emp, id⊢, via, mono∗, mono_r, snd∗, emp∗, comm∗, assoc∗}
use Rattle.std.specs.Borrow.{Fml, ftrue}
use types.Logic.{Logic, sem}
use contract.Lifetimes.{Lfts}
use contract.Monad.{fact}
use types.Kit.{Item, ‵, raw, mean, ⋆, pop, push, Goal, Step, cut}
use denote.RattleType.{RattleType, Denots, Valss, owns}
use denote.Laws.{Is, Makes}
use denote.Exit.{left}
use denote.Signature.{Slot, type_at, types_at}
use denote.Triple.Clauses.{Ended, Clauses, Lasts, at_exit, lasts}
use denote.Triple.End.{Kepts, Fins, lasts_of}
use denote.Triple.Entry.{Args, Res, alive}
use Rattle.walks.specs.Meeting.{Promised, ends}

abbrev pub Marks : Type 0
Marks = List Bool

module _ {M : Type 1} {𝓤 : Ura M} (𝓛 : Logic 𝓤) where
  -- The parameters at hand, and what is shown of the plain ones.
  abbrev pub had : Marks → (Rs : List RattleType) → Denots Rs → Valss Rs → List (Item 𝓤)
  had ms [] a vss = []
  had [] (R ∷ Rs) a vss = ‵ (owns (R ∷ Rs) a vss) ∷ []
  had (true ∷ ms) (R ∷ Rs) a vss = ‵ (R.own_val a.0 vss.0) ∷ had ms Rs a.1 vss.1
  had (false ∷ ms) (R ∷ Rs) a vss = had ms Rs a.1 vss.1

  abbrev pub Made : Marks → (Rs : List RattleType) → Denots Rs → Valss Rs → Type 1
  Made ms [] a vss = Unit {1}
  Made [] (R ∷ Rs) a vss = Unit {1}
  Made (true ∷ ms) (R ∷ Rs) a vss = Made ms Rs a.1 vss.1
  Made (false ∷ ms) (R ∷ Rs) a vss = (Makes 𝓛 R (Is R) × Is R a.0 vss.0) × Made ms Rs a.1 vss.1

  owns_had : (ms : Marks) (Rs : List RattleType) (a : Denots Rs) (vss : Valss Rs) → Made ms Rs a vss → ent 𝓤 (⋆ 𝓛 (had ms Rs a vss)) (sem 𝓛 (owns Rs a vss))
  owns_had ms [] a vss mk = id⊢ 𝓤 (emp 𝓤)
  owns_had [] (R ∷ Rs) a vss mk = id⊢ 𝓤 _
  owns_had (true ∷ ms) (R ∷ Rs) a vss mk =
      via 𝓤 _ (pop 𝓛 (‵ (R.own_val a.0 vss.0)) (had ms Rs a.1 vss.1)) (mono_r 𝓤 (sem 𝓛 (R.own_val a.0 vss.0)) (owns_had ms Rs a.1 vss.1 mk))
  owns_had (false ∷ ms) (R ∷ Rs) a vss mk =
      via 𝓤 _ (emp∗ 𝓤 (⋆ 𝓛 (had ms Rs a.1 vss.1))) (mono∗ 𝓤 (mk.0.0 a.0 vss.0 mk.0.1) (owns_had ms Rs a.1 vss.1 mk.1))

  had_owns : (ms : Marks) (Rs : List RattleType) (a : Denots Rs) (vss : Valss Rs) → ent 𝓤 (sem 𝓛 (owns Rs a vss)) (⋆ 𝓛 (had ms Rs a vss))
  had_owns ms [] a vss = id⊢ 𝓤 (emp 𝓤)
  had_owns [] (R ∷ Rs) a vss = id⊢ 𝓤 _
  had_owns (true ∷ ms) (R ∷ Rs) a vss =
      via 𝓤 _ (mono_r 𝓤 (sem 𝓛 (R.own_val a.0 vss.0)) (had_owns ms Rs a.1 vss.1)) (push 𝓛 (‵ (R.own_val a.0 vss.0)) (had ms Rs a.1 vss.1))
  had_owns (false ∷ ms) (R ∷ Rs) a vss = via 𝓤 _ (snd∗ 𝓤 (sem 𝓛 (R.own_val a.0 vss.0)) (sem 𝓛 (owns Rs a.1 vss.1))) (had_owns ms Rs a.1 vss.1)

  -- The same of what is said of the parameters at exit: nothing is said of a plain one.
  module _ {n : ℕ} (κs : Lfts n) where
    abbrev pub told : Marks → (ss : List (Slot n)) (ks : Kepts ss) (a : Denots (types_at ss κs)) → Fins κs ss ks a → List (Item 𝓤)
    told ms [] ks a ws = []
    told [] (s ∷ ss) ks a ws = ‵ (lasts_of κs (s ∷ ss) ks a ws) ∷ []
    told (true ∷ ms) (s ∷ ss) ks a ws = ‵ (left ((s.row κs).exit ks.0) a.0 ws.0) ∷ told ms ss ks.1 a.1 ws.1
    told (false ∷ ms) (s ∷ ss) ks a ws = told ms ss ks.1 a.1 ws.1

    abbrev pub Silent : Marks → (ss : List (Slot n)) (ks : Kepts ss) (a : Denots (types_at ss κs)) → Fins κs ss ks a → Type 1
    Silent ms [] ks a ws = Unit {1}
    Silent [] (s ∷ ss) ks a ws = Unit {1}
    Silent (true ∷ ms) (s ∷ ss) ks a ws = Silent ms ss ks.1 a.1 ws.1
    Silent (false ∷ ms) (s ∷ ss) ks a ws = (left ((s.row κs).exit ks.0) a.0 ws.0 ≡ ftrue) × Silent ms ss ks.1 a.1 ws.1

    lasts_told : (ms : Marks) (ss : List (Slot n)) (ks : Kepts ss) (a : Denots (types_at ss κs)) (ws : Fins κs ss ks a) → Silent ms ss ks a ws
        → ent 𝓤 (⋆ 𝓛 (told ms ss ks a ws)) (sem 𝓛 (lasts_of κs ss ks a ws))
    lasts_told ms [] ks a ws silent = id⊢ 𝓤 (emp 𝓤)
    lasts_told [] (s ∷ ss) ks a ws silent = id⊢ 𝓤 _
    lasts_told (true ∷ ms) (s ∷ ss) ks a ws silent =
        let i : Item 𝓤 = ‵ (left ((s.row κs).exit ks.0) a.0 ws.0) in
        via 𝓤 _ (pop 𝓛 i (told ms ss ks.1 a.1 ws.1)) (mono_r 𝓤 (mean 𝓛 i) (lasts_told ms ss ks.1 a.1 ws.1 silent))
    lasts_told (false ∷ ms) (s ∷ ss) ks a ws silent =
        via 𝓤 _ (emp∗ 𝓤 (⋆ 𝓛 (told ms ss ks.1 a.1 ws.1)))
        (mono∗ 𝓤 (subst (λ (F : Fml). ent 𝓤 (emp 𝓤) (sem 𝓛 F)) (sym silent.0) (id⊢ 𝓤 (emp 𝓤))) (lasts_told ms ss ks.1 a.1 ws.1 silent.1))

    told_lasts : (ms : Marks) (ss : List (Slot n)) (ks : Kepts ss) (a : Denots (types_at ss κs)) (ws : Fins κs ss ks a)
        → ent 𝓤 (sem 𝓛 (lasts_of κs ss ks a ws)) (⋆ 𝓛 (told ms ss ks a ws))
    told_lasts ms [] ks a ws = id⊢ 𝓤 (emp 𝓤)
    told_lasts [] (s ∷ ss) ks a ws = id⊢ 𝓤 _
    told_lasts (true ∷ ms) (s ∷ ss) ks a ws =
        let i : Item 𝓤 = ‵ (left ((s.row κs).exit ks.0) a.0 ws.0) in
        via 𝓤 _ (mono_r 𝓤 (mean 𝓛 i) (told_lasts ms ss ks.1 a.1 ws.1)) (push 𝓛 i (told ms ss ks.1 a.1 ws.1))
    told_lasts (false ∷ ms) (s ∷ ss) ks a ws =
        via 𝓤 _ (snd∗ 𝓤 (sem 𝓛 (left ((s.row κs).exit ks.0) a.0 ws.0)) (sem 𝓛 (lasts_of κs ss ks.1 a.1 ws.1))) (told_lasts ms ss ks.1 a.1 ws.1)

add : {M : Type 1} (𝓤 : Ura M) (P : SProp 𝓤) {Q : SProp 𝓤} → ent 𝓤 (emp 𝓤) Q → ent 𝓤 P (sep 𝓤 P Q)
add 𝓤 P h = via 𝓤 _ (emp∗ 𝓤 P) (via 𝓤 _ (comm∗ 𝓤 (emp 𝓤) P) (mono_r 𝓤 P h))

module _ {M : Type 1} {𝓤 : Ura M} {𝓛 : Logic 𝓤} where
  open 𝓛 use {H}

  -- Of what the parameters own, the marked ones are taken.
  pub takes : {K : Type 0} {Γ : List (Item 𝓤)} {G : Goal 𝓤 H} (Rs : List RattleType) (a : Denots Rs) (vss : Valss Rs) (ms : Marks)
      → Step K 𝓛 (had 𝓛 ms Rs a vss ++ Γ) G (‵ (owns Rs a vss) ∷ Γ) G
  takes {Γ} Rs a vss ms = cut (‵ (owns Rs a vss) ∷ []) (had 𝓛 ms Rs a vss) Γ (had_owns 𝓛 ms Rs a vss)

  -- A callee with the clauses c is handed what it asks at y: the tokens tk, and its parameters.
  pub hands : {K : Type 0} {Γ : List (Item 𝓤)} {G : Goal 𝓤 H} (T : Ended) (c : Clauses 𝓤 T) (y : (Promised 𝓛 T c).Ghost) (ms : Marks) (tk : Item 𝓤)
      → mean 𝓛 tk ≡ alive 𝓛 T.signature y.0.0 y.0.1 → Made 𝓛 ms (types_at T.signature.params y.0.0) y.0.3 y.0.4
      → ent 𝓤 (emp 𝓤) ((c y.0.0 y.0.3).requires y.1)
      → Step K 𝓛 (raw ((Promised 𝓛 T c).pre y) ∷ Γ) G (tk ∷ (had 𝓛 ms (types_at T.signature.params y.0.0) y.0.3 y.0.4 ++ Γ)) G
  hands {Γ} T c y ms tk e mk asked =
      let Rs = types_at T.signature.params y.0.0 in
      cut (tk ∷ had 𝓛 ms Rs y.0.3 y.0.4) (raw ((Promised 𝓛 T c).pre y) ∷ []) Γ
      (via 𝓤 _ (pop 𝓛 tk (had 𝓛 ms Rs y.0.3 y.0.4))
      (via 𝓤 _ (mono∗ 𝓤 (subst (λ (P : SProp 𝓤). ent 𝓤 (mean 𝓛 tk) P) e (id⊢ 𝓤 (mean 𝓛 tk))) (owns_had 𝓛 ms Rs y.0.3 y.0.4 mk)) (add 𝓤 _ asked)))

  -- Of what a callee says of its parameters at its exit, what it says of the marked ones is taken.
  pub hears : {K : Type 0} {Γ : List (Item 𝓤)} {G : Goal 𝓤 H} (T : Ended) (κs : Lfts T.signature.lifetimes) (a : Args T.signature κs) (ws : Lasts T κs a) (ms : Marks)
      → Step K 𝓛 (told 𝓛 κs ms T.signature.params T.kept a ws ++ Γ) G (‵ (lasts T κs a ws) ∷ Γ) G
  hears {Γ} T κs a ws ms =
      cut (‵ (lasts T κs a ws) ∷ []) (told 𝓛 κs ms T.signature.params T.kept a ws) Γ (told_lasts 𝓛 κs ms T.signature.params T.kept a ws)

module _ {M : Type 1} {𝓤 : Ura M} (𝓛 : Logic 𝓤) where
  -- A walk ends at the machine value v, with the result r and the last values ws: the tokens, and
  -- what is said of the parameters at hand.
  module _ (T : Ended) (c : Clauses 𝓤 T) (y : (Promised 𝓛 T c).Ghost) (v : Val) (r : Res T.signature y.0.0) (ws : Lasts T y.0.0 y.0.3) (φ : Type 0)
      (says : (c y.0.0 y.0.3).ensures y.1 r (at_exit T y.0.0 y.0.3 ws) ≡ fact 𝓤 φ) (p : φ)
      (ms : Marks) (tk : Item 𝓤) (e : mean 𝓛 tk ≡ alive 𝓛 T.signature y.0.0 y.0.1) (silent : Silent 𝓛 y.0.0 ms T.signature.params T.kept y.0.3 ws) where
    abbrev saying : List (Item 𝓤)
    saying = told 𝓛 y.0.0 ms T.signature.params T.kept y.0.3 ws

    abbrev result : Item 𝓤
    result = ‵ ((type_at T.signature.result y.0.0).own_val r (v ∷ []))

    tokens : ent 𝓤 (mean 𝓛 tk) (alive 𝓛 T.signature y.0.0 y.0.1)
    tokens = subst (λ (P : SProp 𝓤). ent 𝓤 (mean 𝓛 tk) P) e (id⊢ 𝓤 (mean 𝓛 tk))

    said : ent 𝓤 (⋆ 𝓛 saying) (sem 𝓛 (lasts T y.0.0 y.0.3 ws))
    said = lasts_told 𝓛 y.0.0 ms T.signature.params T.kept y.0.3 ws silent

    -- The result is a plain value, or it is owned and at hand.
    pub ends_with : Makes 𝓛 (type_at T.signature.result y.0.0) (Is (type_at T.signature.result y.0.0)) → Is (type_at T.signature.result y.0.0) r (v ∷ [])
        → ent 𝓤 (⋆ 𝓛 (tk ∷ saying)) ((Promised 𝓛 T c).post y v)
    ends_with mk is = via 𝓤 _ (pop 𝓛 tk saying) (via 𝓤 _ (mono∗ 𝓤 tokens (via 𝓤 _ said (add 𝓤 _ (mk r (v ∷ []) is)))) (ends 𝓛 T c y v r ws φ says p))

    pub ends_owning : ent 𝓤 (⋆ 𝓛 (result ∷ tk ∷ saying)) ((Promised 𝓛 T c).post y v)
    ends_owning =
        let R = mean 𝓛 result in
        let L = alive 𝓛 T.signature y.0.0 y.0.1 in
        let S = sem 𝓛 (lasts T y.0.0 y.0.3 ws) in
        via 𝓤 _ (pop 𝓛 result (tk ∷ saying)) (via 𝓤 _ (mono_r 𝓤 R (via 𝓤 _ (pop 𝓛 tk saying) (mono∗ 𝓤 tokens said)))
        (via 𝓤 _ (comm∗ 𝓤 R (sep 𝓤 L S)) (via 𝓤 _ (assoc∗ 𝓤 L S R) (ends 𝓛 T c y v r ws φ says p))))
