-- Lending, in a walk. A row of elements in memory is lent for a call as a slice, as `&mut` or as
-- `&`, for a lifetime that lasts as long as the call, and taken back after it. A slice that is
-- itself lent as `&mut` is opened, so that its elements are at hand as a row, and shut with others
-- in their place: so it is lent on in the same way.
use Rattle.std.specs.Prelude.{◌≡◌, refl, List, [], ◌∷◌, ℕ, length}
use Rattle.std.proofs.Common.{sym, ap, subst, ◌∙◌}
use seplogic.Ra.Ura.{Ura}
use base.Fraction.{full_share}
use mir.Syntax.{erased}
use mir.Val.{Val}
use base.Stored.{Gv}
use base.Fml.{Lft, GName, Share, Fml, Incl-refl, flft, fobs, fauth, fres, fbor, fobor, flent}
use types.Logic.{Logic}
use types.Kit.{Item, ‵, ◌⊛◌, some, later, Goal, Soaks, Seq, Step, step, ◌$◌, move, drop, use1, use2, use3, split, join, pick, await, rewrite, fsplit, fjoin, feq_l, feq_i}
use types.SemTy.{cells, Arr}
use types.Share.{arr_parts}
use types.Tokens.{lft_new, lft_end, lent_back}
use Rattle.std.specs.Borrow.{RattleType, MutBor}
use denote.Ref.{Bor}
use denote.RattleType.{RowLaws}
use denote.Shadow.{pure_l, pure_i}
use denote.Memory.{mem, shares}
use denote.Exit.{left, yes}
use denote.Slice.{slice_val, MutSlice, ShrSlice, heres, Room, finally, res-finally, mut_slice_at, coded_holeys, shr_slice_copy}
use denote.Lend.{Held, lends_slice, slice_back, lends_shr_slice}
use denote.Copied.{Copied}
use denote.Shares.{Shares}
use denote.Index.{row, whole_out, whole_in, opens_slice, closes_slice}

-- A slice at (b, o), whose elements are ys: as `&mut` it is known by the ghost name γ, and as `&` it
-- has no name.
abbrev pub slice_at : {X : Type 0} → ℕ → ℕ → GName → List X → MutBor (List X)
slice_at b o γ ys = record { ref_ptr = (b, o); ghost_name = γ; now = ys }

abbrev pub shr_slice_of : {X : Type 0} → ℕ → ℕ → List X → Bor (List X)
shr_slice_of b o ys = record { ref_ptr = (b, o); now = ys }

-- What is owned of a `&κ mut [T]` and of a `&κ [T]`, passed as the machine values vs.
abbrev pub mut_own : Lft → (R : RattleType) → ℕ → ℕ → GName → List R.Denot → List Val → Fml
mut_own κ R b o γ ys vs = (MutSlice erased κ R).own_val (slice_at b o γ ys) vs

abbrev pub shr_own : Lft → (R : RattleType) → ℕ → ℕ → List R.Denot → List Val → Fml
shr_own κ R b o ys vs = (ShrSlice erased κ R).own_val (shr_slice_of b o ys) vs

-- What is said at exit of a `&κ mut [T]` whose elements were ys and are zs: that these are its last,
-- and as many; and its borrow comes back.
abbrev pub lastly : Lft → (R : RattleType) → ℕ → ℕ → GName → List R.Denot → List R.Denot → Fml
lastly κ R b o γ ys zs = left ((MutSlice erased κ R).exit yes) (slice_at b o γ ys) zs

abbrev code : (R : RattleType) → List R.Denot → Gv
code R ys = (coded_holeys R).code (heres R ys)

-- What a `&κ mut [T]` is known to be: its machine value is its place and length, and its elements
-- have room.
abbrev pub SliceIs : (R : RattleType) → ℕ → ℕ → List R.Denot → List Val → Type 0
SliceIs R b o ys vs = (vs ≡ slice_val (b, o) (length ys) ∷ []) × Room R (length ys)

module _ {M : Type 1} (𝓤 : Ura M) where
  -- What is kept while it is open.
  abbrev pub opened : Lft → Share → (R : RattleType) → ℕ → ℕ → GName → List R.Denot → Item 𝓤
  opened κ q R b o γ ys = ‵ (fobor κ q (Held R (length ys) b o γ)) ⊛ ‵ (fobs γ (code R ys)) ⊛ ‵ (fauth γ (code R ys))

  -- What is kept while it is lent on for the lifetime ν: as `&mut`, known to the callee by δ, or as
  -- `&`.
  abbrev pub lent : Lft → Share → (R : RattleType) → ℕ → ℕ → GName → List R.Denot → ℕ → GName → Item 𝓤
  lent κ q R b o γ ys ν δ = ‵ (flent (ν ∷ []) (Held R (length ys) b o δ)) ⊛ opened κ q R b o γ ys

  abbrev pub shown : Lft → Share → (R : RattleType) → ℕ → ℕ → GName → List R.Denot → ℕ → Item 𝓤
  shown κ q R b o γ ys ν = ‵ (flent (ν ∷ []) ((arr_parts (shares R) (length ys)).part full_share ys b o)) ⊛ opened κ q R b o γ ys

-- A type that is Copy, as a number is, can be lent as `&`.
pub copies_show : {M : Type 1} {𝓤 : Ura M} (𝓛 : Logic 𝓤) (R : RattleType) → Copied 𝓛 R → (ν : ℕ) → Shares 𝓛 R (ν ∷ [])
copies_show 𝓛 R copied ν = copied.shares full_share (ν ∷ [])

module _ {M : Type 1} {𝓤 : Ura M} {𝓛 : Logic 𝓤} {K : Type 0} {Γ : List (Item 𝓤)} {G : Goal 𝓤 𝓛.H} where
  -- A row is lent as `&mut`, and taken back with the elements that the callee says it leaves.
  pub lends_row : K → Soaks G → (R : RattleType) (b o : ℕ) (ys : List R.Denot) (vs : List Val) → SliceIs R b o ys vs
      → ((ν : ℕ) (δ : GName) → Seq K 𝓛 (‵ (flft (ν ∷ []) full_share) ∷ ‵ (mut_own (ν ∷ []) R b o δ ys vs) ∷ ‵ (flent (ν ∷ []) (Held R (length ys) b o δ)) ∷ Γ) G)
      → Seq K 𝓛 (‵ (row R full_share ys b o) ∷ Γ) G
  lends_row t z R b o ys vs known k =
      use1 𝓛 (‵ (cells (mem R) ys b o)) (whole_in 𝓛 R ys b o) $ lft_new t z (λ ν. move t (1 ∷ []) $
      use1 𝓛 (later (some (λ (δ : GName). ‵ (mut_own (ν ∷ []) R b o δ ys (slice_val (b, o) (length ys) ∷ [])) ⊛ ‵ (flent (ν ∷ []) (Held R (length ys) b o δ))))) (lends_slice 𝓛 R erased (ν ∷ []) ys b o known.1) $ await t z $ pick t (λ δ. split t $
      rewrite t 0 (λ (us : List Val). ‵ (mut_own (ν ∷ []) R b o δ ys us)) (sym known.0) refl $ move t (2 ∷ 0 ∷ 1 ∷ []) $ k ν δ))

  pub row_back : K → Soaks G → (R : RattleType) (b o : ℕ) (ys zs : List R.Denot) (ν : ℕ) (δ : GName)
      → (length zs ≡ length ys → Seq K 𝓛 (‵ (row R full_share zs b o) ∷ Γ) G)
      → Seq K 𝓛 (‵ (flft (ν ∷ []) full_share) ∷ ‵ (flent (ν ∷ []) (Held R (length ys) b o δ)) ∷ ‵ (lastly (ν ∷ []) R b o δ ys zs) ∷ Γ) G
  row_back t z R b o ys zs ν δ k =
      lft_end t z $ move t (2 ∷ []) $ fsplit t $ move t (1 ∷ []) $ drop t $ fsplit t $ move t (1 ∷ []) $ feq_l t (λ e. move t (1 ∷ 2 ∷ 0 ∷ []) $
      use3 𝓛 (later (‵ ((Arr (mem R) (length ys)).own_at zs b o))) (slice_back 𝓛 R (ν ∷ []) δ zs (length ys) b o) $ await t z $ fsplit t $ drop t $
      use1 𝓛 (‵ (row R full_share zs b o)) (whole_out 𝓛 R zs b o) $ k e)

  -- It is lent as `&`, of a type that can be, and taken back as it was.
  pub shows_row : K → Soaks G → (R : RattleType) → ((ν : ℕ) → Shares 𝓛 R (ν ∷ [])) → (b o : ℕ) (ys : List R.Denot) (vs : List Val) → SliceIs R b o ys vs
      → ((ν : ℕ) → Seq K 𝓛 (‵ (flft (ν ∷ []) full_share) ∷ ‵ (shr_own (ν ∷ []) R b o ys vs) ∷ ‵ (flent (ν ∷ []) ((arr_parts (shares R) (length ys)).part full_share ys b o)) ∷ Γ) G)
      → Seq K 𝓛 (‵ (row R full_share ys b o) ∷ Γ) G
  shows_row t z R can b o ys vs known k =
      feq_i t ℕ (length ys) (length ys) refl $ fjoin t $ lft_new t z (λ ν. move t (1 ∷ 0 ∷ []) $
      use2 𝓛 (later ((‵ (shr_own (ν ∷ []) R b o ys (slice_val (b, o) (length ys) ∷ [])) ⊛ ‵ (flent (ν ∷ []) ((arr_parts (shares R) (length ys)).part full_share ys b o))) ⊛ ‵ (flft (ν ∷ []) full_share)))
      (lends_shr_slice 𝓛 R erased (ν ∷ []) full_share ys b o known.1 (ν ∷ []) (can ν) ((ν ∷ [], full_share) ∷ []) (Incl-refl (ν ∷ [])) (Incl-refl (ν ∷ []))) $ await t z $ split t $ split t $
      rewrite t 0 (λ (us : List Val). ‵ (shr_own (ν ∷ []) R b o ys us)) (sym known.0) refl $ move t (2 ∷ 0 ∷ 1 ∷ []) $ k ν)

  pub row_shown : K → Soaks G → (R : RattleType) (b o : ℕ) (ys : List R.Denot) (ν : ℕ)
      → Step K 𝓛 (‵ (row R full_share ys b o) ∷ Γ) G (‵ (flft (ν ∷ []) full_share) ∷ ‵ (flent (ν ∷ []) ((arr_parts (shares R) (length ys)).part full_share ys b o)) ∷ Γ) G
  row_shown t z R b o ys ν = step (λ s. lft_end t z $ lent_back t z $ fsplit t $ drop t $ s)

-- A slice is opened, and shut.
module _ {M : Type 1} {𝓤 : Ura M} {𝓛 : Logic 𝓤} {K : Type 0} {Γ : List (Item 𝓤)} {G : Goal 𝓤 𝓛.H} where
  pub opens : K → Soaks G → {κ : Lft} {q : Share} (R : RattleType) (b o : ℕ) {γ : GName} (ys : List R.Denot) (vs : List Val)
      → (SliceIs R b o ys vs → Seq K 𝓛 (‵ (row R full_share ys b o) ∷ opened 𝓤 κ q R b o γ ys ∷ Γ) G)
      → Seq K 𝓛 (‵ (mut_own κ R b o γ ys vs) ∷ ‵ (flft κ q) ∷ Γ) G
  opens t z R b o {γ} ys vs k =
      fsplit t $ pure_l t (mut_slice_at R (slice_at b o γ ys) vs) (λ p. fsplit t $ opens_slice t z R ys b o $ move t (2 ∷ 3 ∷ []) $ join t $ move t (2 ∷ 0 ∷ []) $ join t $ move t (1 ∷ 0 ∷ []) $ k p)

  pub shuts : K → Soaks G → {κ : Lft} {q : Share} (R : RattleType) (b o : ℕ) {γ : GName} (ys zs : List R.Denot) (vs : List Val) → SliceIs R b o ys vs → length zs ≡ length ys
      → Step K 𝓛 (‵ (mut_own κ R b o γ zs vs) ∷ ‵ (flft κ q) ∷ Γ) G (‵ (row R full_share zs b o) ∷ opened 𝓤 κ q R b o γ ys ∷ Γ) G
  shuts t z R b o {γ} ys zs vs known e = step (λ s.
      move t (1 ∷ []) $ split t $ move t (1 ∷ []) $ split t $ move t (3 ∷ 2 ∷ []) $ closes_slice t z R ys zs e b o $ fjoin t $
      pure_i t (mut_slice_at R (slice_at b o γ zs) vs) (tt, (tt, tt)) (known.0 ∙ ap (λ (n : ℕ). slice_val (b, o) n ∷ []) (sym e), subst (Room R) (sym e) known.1) $ fjoin t $ s)

  -- It is lent on as `&mut`.
  pub lends : K → Soaks G → {κ : Lft} {q : Share} (R : RattleType) (b o : ℕ) {γ : GName} (ys : List R.Denot) (vs : List Val)
      → (SliceIs R b o ys vs → (ν : ℕ) (δ : GName) → Seq K 𝓛 (‵ (flft (ν ∷ []) full_share) ∷ ‵ (mut_own (ν ∷ []) R b o δ ys vs) ∷ lent 𝓤 κ q R b o γ ys ν δ ∷ Γ) G)
      → Seq K 𝓛 (‵ (mut_own κ R b o γ ys vs) ∷ ‵ (flft κ q) ∷ Γ) G
  lends t z R b o ys vs k =
      opens t z R b o ys vs (λ known. lends_row t z R b o ys vs known (λ ν δ. move t (2 ∷ 3 ∷ []) $ join t $ move t (1 ∷ 2 ∷ 0 ∷ []) $ k known ν δ))

  -- And taken back, with the elements that the callee says it leaves.
  pub takes_back : K → Soaks G → {κ : Lft} {q : Share} (R : RattleType) (b o : ℕ) {γ : GName} (ys zs : List R.Denot) (vs : List Val) → SliceIs R b o ys vs → (ν : ℕ) (δ : GName)
      → (length zs ≡ length ys → Seq K 𝓛 (‵ (mut_own κ R b o γ zs vs) ∷ ‵ (flft κ q) ∷ Γ) G)
      → Seq K 𝓛 (‵ (flft (ν ∷ []) full_share) ∷ lent 𝓤 κ q R b o γ ys ν δ ∷ ‵ (lastly (ν ∷ []) R b o δ ys zs) ∷ Γ) G
  takes_back t z R b o ys zs vs known ν δ k =
      move t (1 ∷ []) $ split t $ move t (2 ∷ 0 ∷ 3 ∷ []) $ row_back t z R b o ys zs ν δ (λ e. shuts t z R b o ys zs vs known e $ k e)

  -- It is lent on as `&`, of a type that can be, and taken back as it was.
  pub shows_on : K → Soaks G → {κ : Lft} {q : Share} (R : RattleType) → ((ν : ℕ) → Shares 𝓛 R (ν ∷ [])) → (b o : ℕ) {γ : GName} (ys : List R.Denot) (vs : List Val)
      → (SliceIs R b o ys vs → (ν : ℕ) → Seq K 𝓛 (‵ (flft (ν ∷ []) full_share) ∷ ‵ (shr_own (ν ∷ []) R b o ys vs) ∷ shown 𝓤 κ q R b o γ ys ν ∷ Γ) G)
      → Seq K 𝓛 (‵ (mut_own κ R b o γ ys vs) ∷ ‵ (flft κ q) ∷ Γ) G
  shows_on t z R can b o ys vs k =
      opens t z R b o ys vs (λ known. shows_row t z R can b o ys vs known (λ ν. move t (2 ∷ 3 ∷ []) $ join t $ move t (1 ∷ 2 ∷ 0 ∷ []) $ k known ν))

  pub has_shown : K → Soaks G → {κ : Lft} {q : Share} (R : RattleType) (b o : ℕ) {γ : GName} (ys : List R.Denot) (vs : List Val) → SliceIs R b o ys vs → (ν : ℕ)
      → Step K 𝓛 (‵ (mut_own κ R b o γ ys vs) ∷ ‵ (flft κ q) ∷ Γ) G (‵ (flft (ν ∷ []) full_share) ∷ shown 𝓤 κ q R b o γ ys ν ∷ Γ) G
  has_shown t z R b o ys vs known ν = step (λ s.
      move t (1 ∷ []) $ split t $ move t (2 ∷ 0 ∷ []) $ row_shown t z R b o ys ν $ shuts t z R b o ys ys vs known refl $ s)

  -- What is said of it at exit.
  pub says_last : K → {κ : Lft} (R : RattleType) (b o : ℕ) {γ : GName} (ys zs : List R.Denot) (vs : List Val) → length zs ≡ length ys
      → Step K 𝓛 (‵ (lastly κ R b o γ ys zs) ∷ Γ) G (‵ (mut_own κ R b o γ zs vs) ∷ Γ) G
  says_last t {κ} R b o {γ} ys zs vs e = step (λ s. fsplit t $ drop t $ fsplit t $
      use1 𝓛 (‵ (fres γ (code R zs))) (𝓛.names.obs-res γ (code R zs)) $ use1 𝓛 (‵ (finally R γ zs)) (res-finally 𝓛 erased [] R γ zs) $
      feq_i t ℕ (length zs) (length ys) e $ move t (1 ∷ 0 ∷ []) $ fjoin t $ move t (1 ∷ []) $
      rewrite t 0 (λ (n : ℕ). ‵ (fbor κ (Held R n b o γ))) e refl $ move t (1 ∷ 0 ∷ []) $ fjoin t $ s)

  -- A slice lent as `&` may be had twice.
  pub doubles : K → (κ : Lft) (R : RattleType) → RowLaws R → (b o : ℕ) (ys : List R.Denot) (vs : List Val)
      → Step K 𝓛 (‵ (shr_own κ R b o ys vs) ∷ ‵ (shr_own κ R b o ys vs) ∷ Γ) G (‵ (shr_own κ R b o ys vs) ∷ Γ) G
  doubles t κ R laws b o ys vs = step (λ s.
      use1 𝓛 (‵ (shr_own κ R b o ys vs) ⊛ ‵ (shr_own κ R b o ys vs)) ((shr_slice_copy 𝓛 erased κ R laws).twice (shr_slice_of b o ys) vs) $ split t $ s)
