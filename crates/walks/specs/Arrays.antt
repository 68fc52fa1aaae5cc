-- A local array of numbers, in a walk. Made of zeros, it is a row of elements, which can be lent as
-- a slice, whole or in part. In the end the row is the local's room again.
use Rattle.std.specs.Prelude.{◌≡◌, T, ltb, length, take, drop as past, replicate}
use Rattle.std.proofs.Math.Path.{refl}
use Rattle.std.proofs.Common.{sym, subst, ltb→lt}
use mathlib.Core.List.{List, [], ◌∷◌, ◌++◌}
use Prim.Native.Nat.{ℕ, zero, suc, ◌+◌, ◌<◌, ◌^◌}
use seplogic.Ra.Ura.{Ura}
use base.Fraction.{full_share}
use Rattle.std.proofs.lemmas.List.{length-replicate}
use mir.Syntax.{Width, ty_int, ty_array, int, int_big, place, repeat, assign, seq, Body}
use mir.Val.{Val, Fits, vint, bits, has_ty, WT}
use base.Logic.{ent, sep, emp, via, mono_r, snd∗, emp∗, assoc∗, assoc', guard_i}
use base.Fml.{fsep, fat, froom}
use prog.Wp.{Env, Calls, Loops, Spot, spot_of}
use types.Logic.{Logic, sem}
use types.Kit.{Item, ‵, ◌⊛◌, Post, Goal, Step, step, runs, ◌$◌, ◌∵◌, !, qed, move, drop, use1, use2, split, rewrite, fsplit, fjoin, fpick, fpack, feq_l, feq_i, done}
use types.Run.{Opd, Walks, init, stop, from, lit, assigns}
use types.Part.{rep}
use types.Share.{arr_parts}
use Rattle.std.specs.Borrow.{RattleType}
use denote.Shadow.{shadow}
use denote.Laws.{Is}
use denote.Memory.{cell_at, part_at, mem, shares, part_of}
use denote.Plain.{UInt, uint_Lawful, uint_Makes}
use denote.Array.{each, Array, array_val, Array-Typed, Array-Makes}
use denote.ArrayMemory.{Array-apart, Array-whole}
use denote.Index.{row, place as place_of}
use denote.Steps.{owned}

-- A literal that is larger than a byte or so.
pub lit_big : {M : Type 1} {𝓤 : Ura M} {𝓛 : Logic 𝓤} {K : Type 0} {Γ : List (Item 𝓤)} {E : Env 𝓤 𝓛.H} → K → {w : Width} {n : ℕ}
    → Fits w n → Opd K 𝓛 Γ E (int_big w n) (vint w n)
lit_big {𝓤 = 𝓤} t {w} {n} f = record { go = λ Kt h. via 𝓤 (Kt (vint w n)) h (guard_i 𝓤 (Fits w n) (Kt (vint w n)) f) }

-- The zeros of which an array is made, and its machine value. A long list of them is never written
-- out.
pub zeros : ℕ → List ℕ
zeros n = replicate n 0

pub zeros_length : (n : ℕ) → length (zeros n) ≡ n
unfolding zeros
zeros_length n = length-replicate {A = ℕ} n 0

abbrev zeroed : Width → ℕ → Val
zeroed w n = array_val (replicate n (vint w 0))

zeros_each : (w : Width) → 0 < 2 ^ bits w → (n : ℕ) → shadow (each ℕ (UInt w).own_val (zeros n) (replicate n (vint w 0)))
unfolding zeros
zeros_each w f zero = tt
zeros_each w f (suc n) = ((refl, f), zeros_each w f n)

zeros_are : (w : Width) → 0 < 2 ^ bits w → (n : ℕ) → Is (Array (UInt w) n) (zeros n) (zeroed w n ∷ [])
zeros_are w f n = (replicate n (vint w 0), ((refl, zeros_length n), zeros_each w f n))

module _ {M : Type 1} {𝓤 : Ura M} (𝓛 : Logic 𝓤) (w : Width) (n b : ℕ) where
  zeros_typed : 0 < 2 ^ bits w → T (has_ty (ty_array (ty_int w) n) (zeroed w n)) × WT (zeroed w n)
  zeros_typed f = (Array-Typed (UInt w) (uint_Lawful 𝓛 w).typed n (zeros n) (zeroed w n ∷ []) (zeros_are w f n)).0

  -- An array that is written whole lies in memory as its elements do, and elements that lie so are
  -- the array's room.
  lays_out : ent 𝓤 (sep 𝓤 (sem 𝓛 (fat full_share (ty_array (ty_int w) n) b 0 (zeroed w n))) (sem 𝓛 ((Array (UInt w) n).own_val (zeros n) (zeroed w n ∷ []))))
      (sem 𝓛 (row (UInt w) full_share (zeros n) b 0))
  unfolding part_of
  lays_out =
      qed 𝓛 (‵ (fat full_share (ty_array (ty_int w) n) b 0 (zeroed w n)) ∷ ‵ ((Array (UInt w) n).own_val (zeros n) (zeroed w n ∷ [])) ∷ []) ∵ fjoin ! $
      fpack ! (List Val) (λ us. fsep (cell_at full_share (Array (UInt w) n).mir us b 0) ((Array (UInt w) n).own_val (zeros n) us)) (zeroed w n ∷ []) $
      use1 𝓛 (‵ ((arr_parts (shares (UInt w)) n).part full_share (zeros n) b 0)) (Array-apart 𝓛 (UInt w) full_share tt n (zeros n) b 0) $ fsplit ! $ drop ! $ done !

  rooms : (xs : List ℕ) → length xs ≡ n → ent 𝓤 (sem 𝓛 (row (UInt w) full_share xs b 0)) (sem 𝓛 (froom (ty_array (ty_int w) n) b 0))
  unfolding part_of
  rooms xs e =
      qed 𝓛 (‵ (row (UInt w) full_share xs b 0) ∷ []) ∵ feq_i ! ℕ (length xs) n e $ fjoin ! $
      use1 𝓛 (‵ (part_at (Array (UInt w) n) full_share xs b 0)) (Array-whole 𝓛 (UInt w) full_share n xs b 0) $
      fpick ! (λ vs. fsplit ! $ move ! (1 ∷ []) $ fpick ! (λ us. fsplit ! $ fsplit ! $ feq_l ! (λ d. drop ! $ drop ! $
      rewrite ! 0 (λ (ws : List Val). ‵ (cell_at full_share (Array (UInt w) n).mir ws b 0)) d refl $
      use1 𝓛 (‵ (froom (ty_array (ty_int w) n) b 0)) (𝓛.laws.at_room (ty_array (ty_int w) n) b 0 (array_val us)) $ done !)))

module _ {M : Type 1} {𝓤 : Ura M} (𝓛 : Logic 𝓤) (R : RattleType) (b : ℕ) where
  -- A row is its first n elements and those past them.
  parted : (n : ℕ) (ys : List R.Denot) (o : ℕ)
      → ent 𝓤 (sem 𝓛 (row R full_share ys b o)) (sep 𝓤 (sem 𝓛 (row R full_share (take n ys) b o)) (sem 𝓛 (row R full_share (past n ys) b (place_of (mem R).size o n))))
  parted zero ys o = emp∗ 𝓤 (sem 𝓛 (row R full_share ys b o))
  parted (suc n) [] o = emp∗ 𝓤 (emp 𝓤)
  parted (suc n) (y ∷ ys) o =
      via 𝓤 _ (mono_r 𝓤 (sem 𝓛 (part_at R full_share y b o)) (parted n ys (o + (mem R).size)))
      (assoc' 𝓤 (sem 𝓛 (part_at R full_share y b o)) (sem 𝓛 (row R full_share (take n ys) b (o + (mem R).size)))
      (sem 𝓛 (row R full_share (past n ys) b (place_of (mem R).size (o + (mem R).size) n))))

  joined : (xs ys : List R.Denot) (o : ℕ)
      → ent 𝓤 (sep 𝓤 (sem 𝓛 (row R full_share xs b o)) (sem 𝓛 (row R full_share ys b (place_of (mem R).size o (length xs))))) (sem 𝓛 (row R full_share (xs ++ ys) b o))
  joined [] ys o = snd∗ 𝓤 (emp 𝓤) (sem 𝓛 (row R full_share ys b o))
  joined (x ∷ xs) ys o =
      via 𝓤 _ (assoc∗ 𝓤 (sem 𝓛 (part_at R full_share x b o)) (sem 𝓛 (row R full_share xs b (o + (mem R).size)))
      (sem 𝓛 (row R full_share ys b (place_of (mem R).size (o + (mem R).size) (length xs)))))
      (mono_r 𝓤 (sem 𝓛 (part_at R full_share x b o)) (joined xs ys (o + (mem R).size)))

module _ {M : Type 1} {𝓤 : Ura M} {𝓛 : Logic 𝓤} {K : Type 0} {Γ : List (Item 𝓤)} where
  open 𝓛 use {H}

  -- A local is made an array of n zeros. Its room stands at the head of the context, and the row in
  -- its place.
  pub makes_array : {E : Env 𝓤 H} {C : Calls 𝓤 H} {Λ : Loops 𝓤 H} {z : Post 𝓤 H} {i b : ℕ} {rest : Body} → K → (w : Width) (n : ℕ) → T (ltb 0 (2 ^ bits w))
      → spot_of 𝓤 H E i ≡ (ty_array (ty_int w) n, b, 0)
      → Step K 𝓛 (‵ (row (UInt w) full_share (zeros n) b 0) ∷ Γ) (runs C Λ E rest z) (‵ (froom (ty_array (ty_int w) n) b 0) ∷ Γ) (runs C Λ E (seq (assign (place i []) (repeat (int w 0) n)) rest) z)
  makes_array {E = E} {b = b} t w n f e = step (λ s.
      let some-width : 0 < 2 ^ bits w = ltb→lt 0 (2 ^ bits w) f in
      assigns t (rep t n (lit t f)) (from t (subst (λ (sp : Spot 𝓤 H). Walks K 𝓛 (‵ (froom (ty_array (ty_int w) n) b 0) ∷ Γ) E sp [] (ty_array (ty_int w) n, b, 0)) (sym e) (stop t)))
      (init t 0 refl (zeros_typed 𝓛 w n b some-width)) $
      owned t (Array (UInt w) n) (Is (Array (UInt w) n)) (Array-Makes 𝓛 (UInt w) (uint_Makes 𝓛 w) n) (zeros n) (zeroed w n ∷ []) (zeros_are w some-width n) $
      move t (1 ∷ 0 ∷ []) $ use2 𝓛 (‵ (row (UInt w) full_share (zeros n) b 0)) (lays_out 𝓛 w n b) $ s)

  module _ {G : Goal 𝓤 H} where
    -- The row is the local's room again.
    pub room_again : K → (w : Width) (n b : ℕ) (xs : List ℕ) → length xs ≡ n → Step K 𝓛 (‵ (froom (ty_array (ty_int w) n) b 0) ∷ Γ) G (‵ (row (UInt w) full_share xs b 0) ∷ Γ) G
    room_again t w n b xs e = step (λ s. use1 𝓛 (‵ (froom (ty_array (ty_int w) n) b 0)) (rooms 𝓛 w n b xs e) $ s)

    -- A row is parted into its first n elements and those past them, and put together again.
    pub parts : K → (R : RattleType) (n b o : ℕ) (ys : List R.Denot)
        → Step K 𝓛 (‵ (row R full_share (take n ys) b o) ∷ ‵ (row R full_share (past n ys) b (place_of (mem R).size o n)) ∷ Γ) G (‵ (row R full_share ys b o) ∷ Γ) G
    parts t R n b o ys = step (λ s.
        use1 𝓛 (‵ (row R full_share (take n ys) b o) ⊛ ‵ (row R full_share (past n ys) b (place_of (mem R).size o n))) (parted 𝓛 R b n ys o) $ split t $ s)

    pub joins : K → (R : RattleType) (n b o : ℕ) (xs ys : List R.Denot) → length xs ≡ n
        → Step K 𝓛 (‵ (row R full_share (xs ++ ys) b o) ∷ Γ) G (‵ (row R full_share xs b o) ∷ ‵ (row R full_share ys b (place_of (mem R).size o n)) ∷ Γ) G
    joins t R n b o xs ys e = step (λ s.
        rewrite t 1 (λ (k : ℕ). ‵ (row R full_share ys b (place_of (mem R).size o k))) (sym e) refl $ use2 𝓛 (‵ (row R full_share (xs ++ ys) b o)) (joined 𝓛 R b xs ys o) $ s)
