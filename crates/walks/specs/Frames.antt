-- The locals of a function that is walked. The context has one entry for each, in their order, and
-- after them one entry for the blocks in which they lie. So where k entries stand before them,
-- local n is entry k + n. They are made, and the arguments stored, in one step, and freed in one
-- step.
use Rattle.std.specs.Prelude.{List, [], ◌∷◌, ◌++◌, ℕ, T}
use Rattle.std.proofs.Math.Option.{Option, none, some}
use seplogic.Ra.Ura.{Ura}
use base.Fraction.{full_share}
use mir.Syntax.{Ty, Fn, Local}
use mir.Val.{Val, has_ty, WT}
use base.Logic.{SProp, ent, sep, emp, id⊢, via, mono_r, snd∗, emp∗, assoc∗, assoc', wand_i, all_i}
use base.Fml.{fat, froom}
use prog.Wp.{Env, Calls, Loops, WpFn, ty_of, alloc, params, pass, release}
use types.Logic.{Logic}
use types.Kit.{Item, ‵, raw, ◌⊛◌, mean, ⋆, pop, push, ++⊢, ⊢++, Seq, prop, runs, at_ret, frees, ◌$◌, ◌∵◌, !, qed, by, move, use1, split, join, check, assume, frame}

-- What is known of the locals: the value of each, or none where it has none or it no longer
-- matters.
abbrev pub Known : Type 0
Known = List (Option Val)

abbrev pub first : Known → Option Val
first [] = none
first (v ∷ vs) = v

abbrev pub rest : Known → Known
rest [] = []
rest (v ∷ vs) = vs

abbrev pub these : List Val → Known
these [] = []
these (v ∷ vs) = some v ∷ these vs

-- The blocks that the locals are given.
abbrev pub Blocks : List Local → Type 0
Blocks [] = Unit {0}
Blocks (l ∷ ls) = ℕ × Blocks ls

module _ {M : Type 1} {𝓤 : Ura M} (𝓛 : Logic 𝓤) where
  open 𝓛 use {H}

  -- The arguments have the types of the locals in which they are stored. The first local is the
  -- result, and the arguments come after it.
  abbrev Stored : List Local → List Val → Type 0
  Stored ls [] = Unit {0}
  Stored [] (v ∷ vs) = ⊥
  Stored (l ∷ ls) (v ∷ vs) = (T (has_ty (ty_of 𝓤 H l) v) × WT v) × Stored ls vs

  abbrev pub Passed : List Local → List Val → Type 0
  Passed [] vs = ⊥
  Passed (l ∷ ls) vs = Stored ls vs

  abbrev pub env_of : (ls : List Local) → Blocks ls → Env 𝓤 H
  env_of [] bs = []
  env_of (l ∷ ls) bs = (ty_of 𝓤 H l, bs.0) ∷ env_of ls bs.1

  abbrev dying : Env 𝓤 H → SProp 𝓤
  dying [] = emp 𝓤
  dying (e ∷ E) = sep 𝓤 (H.dies e.0 e.1) (dying E)

  abbrev pub cell : Ty × ℕ → Option Val → Item 𝓤
  cell e none = ‵ (froom e.0 e.1 0)
  cell e (some v) = ‵ (fat full_share e.0 e.1 0 v)

  abbrev pub cells : Env 𝓤 H → Known → List (Item 𝓤) → List (Item 𝓤)
  cells [] vs Γ = Γ
  cells (e ∷ E) vs Γ = cell e (first vs) ∷ cells E (rest vs) Γ

  -- The locals, and then Γ.
  abbrev pub locals : Env 𝓤 H → Known → List (Item 𝓤) → List (Item 𝓤)
  locals E vs Γ = cells E vs (raw (dying E) ∷ Γ)

  -- The same as one assertion.
  abbrev all_of : Env 𝓤 H → Known → SProp 𝓤
  all_of [] vs = emp 𝓤
  all_of (e ∷ E) vs = sep 𝓤 (mean 𝓛 (cell e (first vs))) (all_of E (rest vs))

  out : (E : Env 𝓤 H) (vs : Known) (Γ : List (Item 𝓤)) → ent 𝓤 (⋆ 𝓛 (cells E vs Γ)) (sep 𝓤 (all_of E vs) (⋆ 𝓛 Γ))
  out [] vs Γ = emp∗ 𝓤 (⋆ 𝓛 Γ)
  out (e ∷ E) vs Γ =
      let c = cell e (first vs) in
      via 𝓤 _ (pop 𝓛 c (cells E (rest vs) Γ))
      (via 𝓤 _ (mono_r 𝓤 (mean 𝓛 c) (out E (rest vs) Γ)) (assoc' 𝓤 (mean 𝓛 c) (all_of E (rest vs)) (⋆ 𝓛 Γ)))

  back : (E : Env 𝓤 H) (vs : Known) (Γ : List (Item 𝓤)) → ent 𝓤 (sep 𝓤 (all_of E vs) (⋆ 𝓛 Γ)) (⋆ 𝓛 (cells E vs Γ))
  back [] vs Γ = snd∗ 𝓤 (emp 𝓤) (⋆ 𝓛 Γ)
  back (e ∷ E) vs Γ =
      let c = cell e (first vs) in
      via 𝓤 _ (assoc∗ 𝓤 (mean 𝓛 c) (all_of E (rest vs)) (⋆ 𝓛 Γ))
      (via 𝓤 _ (mono_r 𝓤 (mean 𝓛 c) (back E (rest vs) Γ)) (push 𝓛 c (cells E (rest vs) Γ)))

  -- A local's room is there, whatever it holds.
  room : (e : Ty × ℕ) (v : Option Val) → ent 𝓤 (mean 𝓛 (cell e v)) (H.room e.0 e.1 0)
  room e none = id⊢ 𝓤 _
  room e (some v) = 𝓛.laws.at_room e.0 e.1 0 v

  freed : (E : Env 𝓤 H) (vs : Known) (P : SProp 𝓤) → ent 𝓤 (sep 𝓤 (all_of E vs) (sep 𝓤 (dying E) P)) (release 𝓤 H E P)
  freed [] vs P = via 𝓤 _ (snd∗ 𝓤 (emp 𝓤) (sep 𝓤 (emp 𝓤) P)) (snd∗ 𝓤 (emp 𝓤) P)
  freed (e ∷ E) vs P =
      qed 𝓛 ((cell e (first vs) ⊛ raw (all_of E (rest vs))) ∷ (raw (H.dies e.0 e.1) ⊛ raw (dying E)) ∷ raw P ∷ []) ∵
      split ! $ use1 𝓛 (raw (H.room e.0 e.1 0)) (room e (first vs)) $ move ! (2 ∷ []) $ split ! $ move ! (2 ∷ 0 ∷ []) $ join ! $ frame ! $
      move ! (1 ∷ 0 ∷ 2 ∷ []) $ by ! (freed E (rest vs) P)

  -- A local for each of a list is made, in a block that the machine picks.
  made : (ls : List Local) (Kt : Env 𝓤 H → SProp 𝓤) (R : SProp 𝓤)
      → ((bs : Blocks ls) → ent 𝓤 (sep 𝓤 (all_of (env_of ls bs) []) (sep 𝓤 (dying (env_of ls bs)) R)) (Kt (env_of ls bs))) → ent 𝓤 R (alloc 𝓤 H ls Kt)
  made [] Kt R k = via 𝓤 _ (emp∗ 𝓤 R) (via 𝓤 _ (emp∗ 𝓤 (sep 𝓤 (emp 𝓤) R)) (k tt))
  made (l ∷ ls) Kt R k =
      all_i 𝓤 _ (λ b.
      let τ = ty_of 𝓤 H l in
      wand_i 𝓤 R (sep 𝓤 (H.room τ b 0) (H.dies τ b)) _
      (made ls (λ E. Kt ((τ, b) ∷ E)) (sep 𝓤 R (sep 𝓤 (H.room τ b 0) (H.dies τ b))) (λ bs.
      qed 𝓛 (raw (all_of (env_of ls bs) []) ∷ raw (dying (env_of ls bs)) ∷ raw R ∷ raw (H.room τ b 0) ∷ raw (H.dies τ b) ∷ []) ∵
      move ! (3 ∷ 0 ∷ []) $ join ! $ move ! (3 ∷ 1 ∷ []) $ join ! $ move ! (1 ∷ 0 ∷ []) $ by ! (k (b, bs)))))

  -- The arguments are stored.
  stored : (ls : List Local) (bs : Blocks ls) (vs : List Val) → Stored ls vs → (R P : SProp 𝓤)
      → ent 𝓤 (sep 𝓤 (all_of (env_of ls bs) (these vs)) R) P → ent 𝓤 (sep 𝓤 (all_of (env_of ls bs) []) R) (pass 𝓤 H (env_of ls bs) vs P)
  stored ls bs [] ok R P k = k
  stored [] bs (v ∷ vs) ok R P k = absurd ok
  stored (l ∷ ls) bs (v ∷ vs) ok R P k =
      let τ = ty_of 𝓤 H l in
      let E = env_of ls bs.1 in
      let Q = pass 𝓤 H E vs P in
      qed 𝓛 ((raw (H.room τ bs.0 0) ⊛ raw (all_of E [])) ∷ raw R ∷ []) ∵ check ! ok.0 $ split ! $ frame ! $ assume ! (‵ (fat full_share τ bs.0 0 v)) $
      move ! (1 ∷ 0 ∷ 2 ∷ []) $ by ! (stored ls bs.1 vs ok.1 (sep 𝓤 (H.at full_share τ bs.0 0 v) R) P
      (qed 𝓛 (raw (all_of E (these vs)) ∷ ‵ (fat full_share τ bs.0 0 v) ∷ raw R ∷ []) ∵ move ! (1 ∷ 0 ∷ []) $ join ! $ by ! k))

-- A function is entered: what is left to walk is its body, with its locals in front, of which the
-- arguments are known.
pub enters : {M : Type 1} {𝓤 : Ura M} {𝓛 : Logic 𝓤} {K : Type 0} {Γ : List (Item 𝓤)} → K → (C : Calls 𝓤 𝓛.H) (Λ : Loops 𝓤 𝓛.H)
    (f : Fn) (vs : List Val) (Kf : Val → SProp 𝓤) → Passed 𝓛 f.locals vs
    → ((bs : Blocks f.locals)
    → Seq K 𝓛 (locals 𝓛 (env_of 𝓛 f.locals bs) (none ∷ these vs) Γ) (runs C Λ (env_of 𝓛 f.locals bs) f.body (at_ret (env_of 𝓛 f.locals bs) Kf)))
    → Seq K 𝓛 Γ (prop (WpFn 𝓤 𝓛.H C Λ f vs Kf))
unfolding WpFn
enters {𝓤 = 𝓤} {𝓛 = 𝓛} {Γ = Γ} t C Λ f vs Kf ok k =
    by t (made 𝓛 f.locals _ (⋆ 𝓛 Γ) (λ bs. go f.locals bs ok _ (via 𝓤 _ (mono_r 𝓤 (all_of 𝓛 (env_of 𝓛 f.locals bs) (none ∷ these vs)) (push 𝓛 (raw (dying 𝓛 (env_of 𝓛 f.locals bs))) Γ))
    (via 𝓤 _ (back 𝓛 (env_of 𝓛 f.locals bs) (none ∷ these vs) _) (k bs).prf))))
  where
    go : (ls : List Local) (bs : Blocks ls) → Passed 𝓛 ls vs → (P : SProp 𝓤)
        → ent 𝓤 (sep 𝓤 (all_of 𝓛 (env_of 𝓛 ls bs) (none ∷ these vs)) (sep 𝓤 (dying 𝓛 (env_of 𝓛 ls bs)) (⋆ 𝓛 Γ))) P
        → ent 𝓤 (sep 𝓤 (all_of 𝓛 (env_of 𝓛 ls bs) []) (sep 𝓤 (dying 𝓛 (env_of 𝓛 ls bs)) (⋆ 𝓛 Γ))) (params 𝓤 𝓛.H (env_of 𝓛 ls bs) vs P)
    go [] bs ok P h = absurd ok
    go (l ∷ ls) bs ok P h =
        let τ = ty_of 𝓤 𝓛.H l in
        let D = dying 𝓛 (env_of 𝓛 (l ∷ ls) bs) in
        let E = env_of 𝓛 ls bs.1 in
        qed 𝓛 ((raw (𝓛.H.room τ bs.0 0) ⊛ raw (all_of 𝓛 E [])) ∷ raw D ∷ raw (⋆ 𝓛 Γ) ∷ []) ∵ split ! $ move ! (1 ∷ 0 ∷ []) $
        by ! (stored 𝓛 ls bs.1 vs ok (sep 𝓤 (𝓛.H.room τ bs.0 0) (sep 𝓤 D (⋆ 𝓛 Γ))) P
        (qed 𝓛 (raw (all_of 𝓛 E (these vs)) ∷ raw (𝓛.H.room τ bs.0 0) ∷ raw D ∷ raw (⋆ 𝓛 Γ) ∷ []) ∵ move ! (1 ∷ 0 ∷ []) $ join ! $ by ! h))

-- A function is left: what stands before its locals shows what it promises, and the locals are
-- freed.
pub leaves : {M : Type 1} {𝓤 : Ura M} {𝓛 : Logic 𝓤} {K : Type 0} {E : Env 𝓤 𝓛.H} {P : SProp 𝓤} → K → (Δ : List (Item 𝓤)) (vs : Known)
    → ent 𝓤 (⋆ 𝓛 Δ) P → Seq K 𝓛 (Δ ++ locals 𝓛 E vs []) (frees E (prop P))
leaves {𝓤 = 𝓤} {𝓛 = 𝓛} {E = E} {P = P} t Δ vs h =
    by t (via 𝓤 _ (⊢++ 𝓛 Δ (locals 𝓛 E vs [])) (via 𝓤 _ (mono_r 𝓤 (⋆ 𝓛 Δ) (out 𝓛 E vs (raw (dying 𝓛 E) ∷ [])))
    (qed 𝓛 (raw (⋆ 𝓛 Δ) ∷ raw (all_of 𝓛 E vs) ∷ raw (dying 𝓛 E) ∷ []) ∵ use1 𝓛 (raw P) h $ move ! (1 ∷ 2 ∷ 0 ∷ []) $ by ! (freed 𝓛 E vs P))))

-- The same with the locals behind what there is.
pub enters_behind : {M : Type 1} {𝓤 : Ura M} {𝓛 : Logic 𝓤} {K : Type 0} {Γ : List (Item 𝓤)} → K → (C : Calls 𝓤 𝓛.H) (Λ : Loops 𝓤 𝓛.H)
    (f : Fn) (vs : List Val) (Kf : Val → SProp 𝓤) → Passed 𝓛 f.locals vs
    → ((bs : Blocks f.locals)
    → Seq K 𝓛 (Γ ++ locals 𝓛 (env_of 𝓛 f.locals bs) (none ∷ these vs) []) (runs C Λ (env_of 𝓛 f.locals bs) f.body (at_ret (env_of 𝓛 f.locals bs) Kf)))
    → Seq K 𝓛 Γ (prop (WpFn 𝓤 𝓛.H C Λ f vs Kf))
enters_behind {𝓤 = 𝓤} {𝓛 = 𝓛} {Γ = Γ} t C Λ f vs Kf ok k =
    enters t C Λ f vs Kf ok (λ bs. by t (via 𝓤 _ (turned (env_of 𝓛 f.locals bs) (none ∷ these vs)) (k bs).prf))
  where
    turned : (E : Env 𝓤 𝓛.H) (us : Known) → ent 𝓤 (⋆ 𝓛 (locals 𝓛 E us Γ)) (⋆ 𝓛 (Γ ++ locals 𝓛 E us []))
    turned E us =
        via 𝓤 _ (out 𝓛 E us (raw (dying 𝓛 E) ∷ Γ))
        (via 𝓤 _ (mono_r 𝓤 (all_of 𝓛 E us) (pop 𝓛 (raw (dying 𝓛 E)) Γ))
        (via 𝓤 _ (qed 𝓛 (raw (all_of 𝓛 E us) ∷ raw (dying 𝓛 E) ∷ raw (⋆ 𝓛 Γ) ∷ []) ∵ move ! (2 ∷ []) $ frame ! $
        by ! (back 𝓛 E us (raw (dying 𝓛 E) ∷ [])))
        (++⊢ 𝓛 Γ (locals 𝓛 E us []))))
