-- The form of an asking: the marker list and its count, the map's width and height, the cart's
-- clearance, numbers of any widths, a label sheet, and other things lent. The part that answers it
-- takes the refusal found so far, width and height, the same numbers, the label sheet and the other
-- things, and no clearance: the rocks are stamped on the sheet by then. So the signatures of both,
-- their machine values and the laws of these follow from the form, by recursion on the numbers and
-- on the things lent.
use Rattle.std.specs.Prelude.{List, [], ◌∷◌, ℕ, zero, suc, length}
use seplogic.Ra.Ura.{Ura}
use mir.Syntax.{Width, w16, w64, named}
use mir.Val.{Val}
use base.Fml.{Lft}
use types.Logic.{Logic}
use contract.Lifetimes.{Lfts}
use Rattle.std.specs.Borrow.{RattleType, u8, usize}
use denote.Exit.{Kept, yes, no}
use denote.Laws.{Is, Ises, Spells, Tells, Tellss, Lawful, Lawfuls}
use denote.Plain.{UInt, uint_vals, uint_Tells, uint_Lawful}
use denote.Ref.{MutRef, mut_vals, mut_Tells, mut_Lawful}
use denote.Slice.{MutSlice, ShrSlice, slice_val, shr_slice_vals, mut_slice_vals, mut_slice_Tells, shr_slice_Tells, mut_slice_Lawful, shr_slice_Lawful}
use denote.Signature.{Slot, plain, types_at}
use denote.Triple.Clauses.{Ended}
use denote.Triple.End.{Kepts}

-- A thing lent: a slice as `&mut`, a number as `&mut`, a slice as `&`, or a slice as `&mut` of
-- which a part is handed back. Of the last nothing is said at the exit: it is spent.
pub data Lent : Type 2 where
  sheet : RattleType → Lent
  cell : RattleType → Lent
  shown : RattleType → Lent
  spent : RattleType → Lent

-- What is handed back: a plain value, with how the machine spells it; or a part of the j-th of the
-- other things lent.
pub data Result : Type 2 where
  value : (R : RattleType) (spelled : R.Denot → Val) → Tells R (Is R) (λ r. spelled r ∷ []) → Result
  part : ℕ → RattleType → Result

pub record Form : Type 2 where
  pub widths : List Width
  pub lent : List Lent
  pub result : Result

abbrev pub count : List Lent → ℕ
count [] = zero
count (k ∷ ks) = suc (count ks)

abbrev pub lft_of : (n j : ℕ) → Lfts n → Lft
lft_of zero j κs = []
lft_of (suc n) zero κs = κs.0
lft_of (suc n) (suc j) κs = lft_of n j κs.1

-- Its type, where its lifetime is the j-th; its machine values, and the laws of these.
abbrev pub type_of : ℕ → Lft → Lent → RattleType
type_of j κ (sheet R) = MutSlice (named j) κ R
type_of j κ (cell R) = MutRef (named j) κ R
type_of j κ (shown R) = ShrSlice (named j) κ R
type_of j κ (spent R) = MutSlice (named j) κ R

abbrev vals_of : (j : ℕ) (κ : Lft) (k : Lent) → (type_of j κ k).Denot → List Val
vals_of j κ (sheet R) = mut_slice_vals
vals_of j κ (cell R) = mut_vals
vals_of j κ (shown R) = shr_slice_vals
vals_of j κ (spent R) = mut_slice_vals

tells_of : (j : ℕ) (κ : Lft) (k : Lent) → Tells (type_of j κ k) (Is (type_of j κ k)) (vals_of j κ k)
tells_of j κ (sheet R) = mut_slice_Tells (named j) κ R
tells_of j κ (cell R) = mut_Tells (named j) κ R
tells_of j κ (shown R) = shr_slice_Tells (named j) κ R
tells_of j κ (spent R) = mut_slice_Tells (named j) κ R

lawful_of : {M : Type 1} {𝓤 : Ura M} (𝓛 : Logic 𝓤) (j : ℕ) (κ : Lft) (k : Lent) → Lawful 𝓛 (type_of j κ k)
lawful_of 𝓛 j κ (sheet R) = mut_slice_Lawful 𝓛 (named j) κ R
lawful_of 𝓛 j κ (cell R) = mut_Lawful 𝓛 (named j) κ R
lawful_of 𝓛 j κ (shown R) = shr_slice_Lawful 𝓛 (named j) κ R
lawful_of 𝓛 j κ (spent R) = mut_slice_Lawful 𝓛 (named j) κ R

-- The parameters: the things lent, from the j-th lifetime on; and numbers before others.
abbrev pub lents : (n j : ℕ) → List Lent → List (Slot n)
lents n j [] = []
lents n j (k ∷ ks) = plain (λ κs. type_of j (lft_of n j κs) k) ∷ lents n (suc j) ks

abbrev pub nums : {n : ℕ} → List Width → List (Slot n) → List (Slot n)
nums [] ss = ss
nums (w ∷ ws) ss = plain (λ κs. UInt w) ∷ nums ws ss

-- All the numbers of an asking, and those of the part that answers it, by the widths of the numbers
-- that come after width, height and clearance.
abbrev pub asked_nums : List Width → List Width
asked_nums ws = w64 ∷ w64 ∷ w16 ∷ ws

abbrev pub told_nums : List Width → List Width
told_nums ws = w64 ∷ w64 ∷ ws

-- Which of them are spoken of at the exit: all but what is spent.
abbrev kept_of : Lent → Kept
kept_of (sheet R) = yes
kept_of (cell R) = yes
kept_of (shown R) = yes
kept_of (spent R) = no

abbrev pub lent_kepts : (n j : ℕ) (ks : List Lent) → Kepts (lents n j ks)
lent_kepts n j [] = tt
lent_kepts n j (k ∷ ks) = (kept_of k, lent_kepts n (suc j) ks)

abbrev pub num_kepts : {n : ℕ} (ws : List Width) (ss : List (Slot n)) → Kepts ss → Kepts (nums ws ss)
num_kepts [] ss ks = ks
num_kepts (w ∷ ws) ss ks = (yes, num_kepts ws ss ks)

-- The result's type, where the j-th other thing lent has the lifetime numbered at j; its machine
-- value, and that it is told by it.
module _ (n : ℕ) (at : ℕ → ℕ) where
  abbrev pub result_of : Result → Lfts n → RattleType
  result_of (value R spelled tells) κs = R
  result_of (part j R) κs = MutSlice (named (at j)) (lft_of n (at j) κs) R

  abbrev pub result_val : (r : Result) (κs : Lfts n) → (result_of r κs).Denot → Val
  result_val (value R spelled tells) κs x = spelled x
  result_val (part j R) κs x = slice_val x.ref_ptr (length x.now)

  pub result_tells : (r : Result) (κs : Lfts n) → Tells (result_of r κs) (Is (result_of r κs)) (λ x. result_val r κs x ∷ [])
  result_tells (value R spelled tells) κs = tells
  result_tells (part j R) κs = mut_slice_Tells (named (at j)) (lft_of n (at j) κs) R

-- The lifetimes of an asking are the list's, the label sheet's, and those of the other things lent;
-- of the part that answers, all but the first.
abbrev pub in_asking : ℕ → ℕ
in_asking j = suc (suc j)

abbrev pub in_answering : ℕ → ℕ
in_answering j = suc j

-- The asking, over a list of R, and the part that answers it.
abbrev pub sheets_of : (F : Form) → List (Slot (suc (suc (count F.lent))))
sheets_of F = plain (λ κs. MutSlice (named 1) κs.1.0 u8) ∷ lents (suc (suc (count F.lent))) 2 F.lent

abbrev pub asking_params : RattleType → (F : Form) → List (Slot (suc (suc (count F.lent))))
asking_params R F = plain (λ κs. ShrSlice (named 0) κs.0 R) ∷ plain (λ κs. usize) ∷ nums (asked_nums F.widths) (sheets_of F)

abbrev pub asking : RattleType → Form → Ended
asking R F = record {
  signature = record { lifetimes = suc (suc (count F.lent)); outlives = []; params = asking_params R F; result = plain (λ κs. result_of (suc (suc (count F.lent))) in_asking F.result κs) };
  kept = (yes, (yes, num_kepts (asked_nums F.widths) (sheets_of F) (yes, lent_kepts (suc (suc (count F.lent))) 2 F.lent)));
}

abbrev pub sheets_on : (F : Form) → List (Slot (suc (count F.lent)))
sheets_on F = plain (λ κs. MutSlice (named 0) κs.0 u8) ∷ lents (suc (count F.lent)) 1 F.lent

abbrev pub answering_params : (F : Form) → List (Slot (suc (count F.lent)))
answering_params F = plain (λ κs. u8) ∷ nums (told_nums F.widths) (sheets_on F)

abbrev pub answering : Form → Ended
answering F = record {
  signature = record { lifetimes = suc (count F.lent); outlives = []; params = answering_params F; result = plain (λ κs. result_of (suc (count F.lent)) in_answering F.result κs) };
  kept = (yes, num_kepts (told_nums F.widths) (sheets_on F) (yes, lent_kepts (suc (count F.lent)) 1 F.lent));
}

-- ---- the machine values and their laws
abbrev lent_spells : (n j : ℕ) (ks : List Lent) (κs : Lfts n) → Spells (types_at (lents n j ks) κs)
lent_spells n j [] κs = tt
lent_spells n j (k ∷ ks) κs = (vals_of j (lft_of n j κs) k, lent_spells n (suc j) ks κs)

lent_tells : (n j : ℕ) (ks : List Lent) (κs : Lfts n) → Tellss (types_at (lents n j ks) κs) (Ises (types_at (lents n j ks) κs)) (lent_spells n j ks κs)
lent_tells n j [] κs = tt
lent_tells n j (k ∷ ks) κs = (tells_of j (lft_of n j κs) k, lent_tells n (suc j) ks κs)

abbrev pub num_spells : {n : ℕ} (ws : List Width) (ss : List (Slot n)) (κs : Lfts n) → Spells (types_at ss κs) → Spells (types_at (nums ws ss) κs)
num_spells [] ss κs sp = sp
num_spells (w ∷ ws) ss κs sp = (uint_vals w, num_spells ws ss κs sp)

num_tells : {n : ℕ} (ws : List Width) (ss : List (Slot n)) (κs : Lfts n) (sp : Spells (types_at ss κs)) → Tellss (types_at ss κs) (Ises (types_at ss κs)) sp
    → Tellss (types_at (nums ws ss) κs) (Ises (types_at (nums ws ss) κs)) (num_spells ws ss κs sp)
num_tells [] ss κs sp tl = tl
num_tells (w ∷ ws) ss κs sp tl = (uint_Tells w, num_tells ws ss κs sp tl)

module _ (R : RattleType) (F : Form) (κs : Lfts (suc (suc (count F.lent)))) where
  abbrev pub asking_spells : Spells (types_at (asking_params R F) κs)
  asking_spells = (shr_slice_vals, (uint_vals w64, num_spells (asked_nums F.widths) _ κs (mut_slice_vals, lent_spells (suc (suc (count F.lent))) 2 F.lent κs)))

  pub asking_tells : Tellss (types_at (asking_params R F) κs) (Ises (types_at (asking_params R F) κs)) asking_spells
  asking_tells =
      (shr_slice_Tells (named 0) κs.0 R, (uint_Tells w64, num_tells (asked_nums F.widths) _ κs _ (mut_slice_Tells (named 1) κs.1.0 u8, lent_tells (suc (suc (count F.lent))) 2 F.lent κs)))

module _ {M : Type 1} {𝓤 : Ura M} (𝓛 : Logic 𝓤) where
  lent_lawful : (n j : ℕ) (ks : List Lent) (κs : Lfts n) → Lawfuls 𝓛 (types_at (lents n j ks) κs)
  lent_lawful n j [] κs = tt
  lent_lawful n j (k ∷ ks) κs = (lawful_of 𝓛 j (lft_of n j κs) k, lent_lawful n (suc j) ks κs)

  num_lawful : {n : ℕ} (ws : List Width) (ss : List (Slot n)) (κs : Lfts n) → Lawfuls 𝓛 (types_at ss κs) → Lawfuls 𝓛 (types_at (nums ws ss) κs)
  num_lawful [] ss κs ls = ls
  num_lawful (w ∷ ws) ss κs ls = (uint_Lawful 𝓛 w, num_lawful ws ss κs ls)

  pub asking_lawful : (R : RattleType) (F : Form) (κs : Lfts (suc (suc (count F.lent)))) → Lawfuls 𝓛 (types_at (asking_params R F) κs)
  asking_lawful R F κs =
      (shr_slice_Lawful 𝓛 (named 0) κs.0 R, (uint_Lawful 𝓛 w64, num_lawful (asked_nums F.widths) _ κs (mut_slice_Lawful 𝓛 (named 1) κs.1.0 u8, lent_lawful (suc (suc (count F.lent))) 2 F.lent κs)))
