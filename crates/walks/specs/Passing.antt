-- What passes between an asking and the part that answers it, whatever the form (`Forms.antt`):
-- what the one owns is handed to the other, and what the other says at its exit is what the one
-- says. The numbers are plain and had for nothing, and a thing lent is the same thing at one
-- lifetime fewer; so it holds by recursion on the numbers and on the things lent.
use Rattle.std.specs.Prelude.{◌≡◌, refl, List, [], ◌∷◌, ℕ, suc, ◌<◌, ◌^◌, length}
use Rattle.std.proofs.Common.{ap, ◌∙◌}
use seplogic.Ra.Ura.{Ura}
use Rattle.std.specs.Int.{Width, w8}
use mir.Val.{Val, vint}
use base.Logic.{SProp, ent, sep, emp, id⊢, via, mono∗, mono_l, mono_r, snd∗, emp∗}
use Rattle.std.specs.Borrow.{GName, Fml, u8, usize, MutBor}
use base.Fml.{Lft, fbor}
use types.Logic.{Logic, sem}
use contract.Lifetimes.{Lfts}
use types.Kit.{‵, ◌$◌, ◌∵◌, !, qed, move, fsplit, fjoin, rewrite, feq_l, feq_i, done}
use denote.RattleType.{RattleType, Denots, Valss, owns}
use denote.Exit.{yes, no, left}
use denote.Laws.{Is, Ises, Are, Spells, valss}
use denote.Plain.{UInt, uint_Makes}
use denote.Slice.{ShrSlice, mut_slice_vals}
use denote.Lend.{Held}
use denote.Signature.{Slot, types_at}
use denote.Triple.Clauses.{Lasts, lasts}
use denote.Triple.End.{Kepts, Fins, lasts_of}
use mir.Syntax.{named}
use Rattle.walks.specs.Lending.{mut_own, lastly}
use Rattle.walks.specs.Forms.{Lent, sheet, cell, shown, spent, Result, value, part, Form, count, lft_of, type_of, lents, nums, asked_nums, told_nums, lent_kepts, num_kepts, result_of, result_val, in_asking, in_answering, sheets_of, sheets_on, asking_params, answering_params, asking, answering, num_spells, asking_spells}

-- ---- the numbers: what comes after them, and other things put after them
abbrev pub past_nums : {n : ℕ} (ws : List Width) (ss : List (Slot n)) (κs : Lfts n) → Denots (types_at (nums ws ss) κs) → Denots (types_at ss κs)
past_nums [] ss κs a = a
past_nums (w ∷ ws) ss κs a = past_nums ws ss κs a.1

abbrev pub past_vals : {n : ℕ} (ws : List Width) (ss : List (Slot n)) (κs : Lfts n) → Valss (types_at (nums ws ss) κs) → Valss (types_at ss κs)
past_vals [] ss κs vs = vs
past_vals (w ∷ ws) ss κs vs = past_vals ws ss κs vs.1

abbrev pub past_are : {n : ℕ} (ws : List Width) (ss : List (Slot n)) (κs : Lfts n) (a : Denots (types_at (nums ws ss) κs)) (vs : Valss (types_at (nums ws ss) κs))
    → Are (types_at (nums ws ss) κs) (Ises (types_at (nums ws ss) κs)) a vs → Are (types_at ss κs) (Ises (types_at ss κs)) (past_nums ws ss κs a) (past_vals ws ss κs vs)
past_are [] ss κs a vs are = are
past_are (w ∷ ws) ss κs a vs are = past_are ws ss κs a.1 vs.1 are.1

-- The numbers but the clearance.
abbrev told : {n : ℕ} (ws : List Width) (ss : List (Slot n)) (κs : Lfts n) → Denots (types_at (nums (asked_nums ws) ss) κs) → Denots (types_at (nums (told_nums ws) ss) κs)
told ws ss κs a = (a.0, (a.1.0, a.1.1.1))

abbrev told_vals : {n : ℕ} (ws : List Width) (ss : List (Slot n)) (κs : Lfts n) → Valss (types_at (nums (asked_nums ws) ss) κs) → Valss (types_at (nums (told_nums ws) ss) κs)
told_vals ws ss κs vs = (vs.0, (vs.1.0, vs.1.1.1))

abbrev told_are : {n : ℕ} (ws : List Width) (ss : List (Slot n)) (κs : Lfts n) (a : Denots (types_at (nums (asked_nums ws) ss) κs)) (vs : Valss (types_at (nums (asked_nums ws) ss) κs))
    → Are (types_at (nums (asked_nums ws) ss) κs) (Ises (types_at (nums (asked_nums ws) ss) κs)) a vs
    → Are (types_at (nums (told_nums ws) ss) κs) (Ises (types_at (nums (told_nums ws) ss) κs)) (told ws ss κs a) (told_vals ws ss κs vs)
told_are ws ss κs a vs are = (are.0, (are.1.0, are.1.1.1))

module _ {n m : ℕ} (ss : List (Slot n)) (κs : Lfts n) (ss' : List (Slot m)) (κs' : Lfts m) where
  abbrev pub refill : (ws : List Width) → Denots (types_at (nums ws ss) κs) → Denots (types_at ss' κs') → Denots (types_at (nums ws ss') κs')
  refill [] a b = b
  refill (w ∷ ws) a b = (a.0, refill ws a.1 b)

  abbrev pub refill_vals : (ws : List Width) → Valss (types_at (nums ws ss) κs) → Valss (types_at ss' κs') → Valss (types_at (nums ws ss') κs')
  refill_vals [] vs us = us
  refill_vals (w ∷ ws) vs us = (vs.0, refill_vals ws vs.1 us)

  abbrev strip : (kp : Kepts ss') (ws : List Width) (a : Denots (types_at (nums ws ss) κs)) (b : Denots (types_at ss' κs'))
      → Fins κs' (nums ws ss') (num_kepts ws ss' kp) (refill ws a b) → Fins κs' ss' kp b
  strip kp [] a b fs = fs
  strip kp (w ∷ ws) a b fs = strip kp ws a.1 b fs.1

abbrev wrap : {n : ℕ} (ws : List Width) (ss : List (Slot n)) (κs : Lfts n) (kp : Kepts ss) (a : Denots (types_at (nums ws ss) κs))
    → Fins κs ss kp (past_nums ws ss κs a) → Fins κs (nums ws ss) (num_kepts ws ss kp) a
wrap [] ss κs kp a fs = fs
wrap (w ∷ ws) ss κs kp a fs = (tt, wrap ws ss κs kp a.1 fs)

-- ---- the things lent, for one lifetime fewer
abbrev pub over : (n j : ℕ) (ks : List Lent) (κs : Lfts (suc n)) → Denots (types_at (lents (suc n) (suc j) ks) κs) → Denots (types_at (lents n j ks) κs.1)
over n j [] κs a = tt
over n j (sheet R ∷ ks) κs a = (a.0, over n (suc j) ks κs a.1)
over n j (cell R ∷ ks) κs a = (a.0, over n (suc j) ks κs a.1)
over n j (shown R ∷ ks) κs a = (a.0, over n (suc j) ks κs a.1)
over n j (spent R ∷ ks) κs a = (a.0, over n (suc j) ks κs a.1)

abbrev pub over_vals : (n j : ℕ) (ks : List Lent) (κs : Lfts (suc n)) → Valss (types_at (lents (suc n) (suc j) ks) κs) → Valss (types_at (lents n j ks) κs.1)
over_vals n j [] κs vs = tt
over_vals n j (k ∷ ks) κs vs = (vs.0, over_vals n (suc j) ks κs vs.1)

abbrev under : (n j : ℕ) (ks : List Lent) (κs : Lfts (suc n)) (a : Denots (types_at (lents (suc n) (suc j) ks) κs))
    → Fins κs.1 (lents n j ks) (lent_kepts n j ks) (over n j ks κs a) → Fins κs (lents (suc n) (suc j) ks) (lent_kepts (suc n) (suc j) ks) a
under n j [] κs a fs = tt
under n j (sheet R ∷ ks) κs a fs = (fs.0, under n (suc j) ks κs a.1 fs.1)
under n j (cell R ∷ ks) κs a fs = (fs.0, under n (suc j) ks κs a.1 fs.1)
under n j (shown R ∷ ks) κs a fs = (fs.0, under n (suc j) ks κs a.1 fs.1)
under n j (spent R ∷ ks) κs a fs = (fs.0, under n (suc j) ks κs a.1 fs.1)

module _ {M : Type 1} {𝓤 : Ura M} (𝓛 : Logic 𝓤) where
  pub drops_nums : {n : ℕ} (ws : List Width) (ss : List (Slot n)) (κs : Lfts n) (a : Denots (types_at (nums ws ss) κs)) (vs : Valss (types_at (nums ws ss) κs))
      → ent 𝓤 (sem 𝓛 (owns (types_at (nums ws ss) κs) a vs)) (sem 𝓛 (owns (types_at ss κs) (past_nums ws ss κs a) (past_vals ws ss κs vs)))
  drops_nums [] ss κs a vs = id⊢ 𝓤 _
  drops_nums (w ∷ ws) ss κs a vs =
      via 𝓤 _ (snd∗ 𝓤 (sem 𝓛 ((UInt w).own_val a.0 vs.0)) (sem 𝓛 (owns (types_at (nums ws ss) κs) a.1 vs.1))) (drops_nums ws ss κs a.1 vs.1)

  pub adds_nums : {n m : ℕ} (ss : List (Slot n)) (κs : Lfts n) (ss' : List (Slot m)) (κs' : Lfts m) (ws : List Width) (a : Denots (types_at (nums ws ss) κs)) (vs : Valss (types_at (nums ws ss) κs))
      → Are (types_at (nums ws ss) κs) (Ises (types_at (nums ws ss) κs)) a vs → (b : Denots (types_at ss' κs')) (us : Valss (types_at ss' κs'))
      → ent 𝓤 (sem 𝓛 (owns (types_at ss' κs') b us)) (sem 𝓛 (owns (types_at (nums ws ss') κs') (refill ss κs ss' κs' ws a b) (refill_vals ss κs ss' κs' ws vs us)))
  adds_nums ss κs ss' κs' [] a vs are b us = id⊢ 𝓤 _
  adds_nums ss κs ss' κs' (w ∷ ws) a vs are b us =
      via 𝓤 _ (emp∗ 𝓤 (sem 𝓛 (owns (types_at ss' κs') b us))) (mono∗ 𝓤 (uint_Makes 𝓛 w a.0 vs.0 are.0) (adds_nums ss κs ss' κs' ws a.1 vs.1 are.1 b us))

  strips : {n m : ℕ} (ss : List (Slot n)) (κs : Lfts n) (ss' : List (Slot m)) (κs' : Lfts m) (kp : Kepts ss') (ws : List Width) (a : Denots (types_at (nums ws ss) κs)) (b : Denots (types_at ss' κs'))
      (fs : Fins κs' (nums ws ss') (num_kepts ws ss' kp) (refill ss κs ss' κs' ws a b))
      → ent 𝓤 (sem 𝓛 (lasts_of κs' (nums ws ss') (num_kepts ws ss' kp) (refill ss κs ss' κs' ws a b) fs)) (sem 𝓛 (lasts_of κs' ss' kp b (strip ss κs ss' κs' kp ws a b fs)))
  strips ss κs ss' κs' kp [] a b fs = id⊢ 𝓤 _
  strips ss κs ss' κs' kp (w ∷ ws) a b fs =
      via 𝓤 _ (snd∗ 𝓤 (emp 𝓤) (sem 𝓛 (lasts_of κs' (nums ws ss') (num_kepts ws ss' kp) (refill ss κs ss' κs' ws a.1 b) fs.1))) (strips ss κs ss' κs' kp ws a.1 b fs.1)

  wraps : {n : ℕ} (ws : List Width) (ss : List (Slot n)) (κs : Lfts n) (kp : Kepts ss) (a : Denots (types_at (nums ws ss) κs)) (fs : Fins κs ss kp (past_nums ws ss κs a))
      → ent 𝓤 (sem 𝓛 (lasts_of κs ss kp (past_nums ws ss κs a) fs)) (sem 𝓛 (lasts_of κs (nums ws ss) (num_kepts ws ss kp) a (wrap ws ss κs kp a fs)))
  wraps [] ss κs kp a fs = id⊢ 𝓤 _
  wraps (w ∷ ws) ss κs kp a fs = via 𝓤 _ (wraps ws ss κs kp a.1 fs) (emp∗ 𝓤 (sem 𝓛 (lasts_of κs (nums ws ss) (num_kepts ws ss kp) a.1 (wrap ws ss κs kp a.1 fs))))

  pub hands_over : (n j : ℕ) (ks : List Lent) (κs : Lfts (suc n)) (a : Denots (types_at (lents (suc n) (suc j) ks) κs)) (vs : Valss (types_at (lents (suc n) (suc j) ks) κs))
      → ent 𝓤 (sem 𝓛 (owns (types_at (lents (suc n) (suc j) ks) κs) a vs)) (sem 𝓛 (owns (types_at (lents n j ks) κs.1) (over n j ks κs a) (over_vals n j ks κs vs)))
  hands_over n j [] κs a vs = id⊢ 𝓤 _
  hands_over n j (sheet R ∷ ks) κs a vs = mono_r 𝓤 (sem 𝓛 ((type_of j (lft_of n j κs.1) (sheet R)).own_val a.0 vs.0)) (hands_over n (suc j) ks κs a.1 vs.1)
  hands_over n j (cell R ∷ ks) κs a vs = mono_r 𝓤 (sem 𝓛 ((type_of j (lft_of n j κs.1) (cell R)).own_val a.0 vs.0)) (hands_over n (suc j) ks κs a.1 vs.1)
  hands_over n j (shown R ∷ ks) κs a vs = mono_r 𝓤 (sem 𝓛 ((type_of j (lft_of n j κs.1) (shown R)).own_val a.0 vs.0)) (hands_over n (suc j) ks κs a.1 vs.1)
  hands_over n j (spent R ∷ ks) κs a vs = mono_r 𝓤 (sem 𝓛 ((type_of j (lft_of n j κs.1) (spent R)).own_val a.0 vs.0)) (hands_over n (suc j) ks κs a.1 vs.1)

  unders : (n j : ℕ) (ks : List Lent) (κs : Lfts (suc n)) (a : Denots (types_at (lents (suc n) (suc j) ks) κs)) (fs : Fins κs.1 (lents n j ks) (lent_kepts n j ks) (over n j ks κs a))
      → ent 𝓤 (sem 𝓛 (lasts_of κs.1 (lents n j ks) (lent_kepts n j ks) (over n j ks κs a) fs)) (sem 𝓛 (lasts_of κs (lents (suc n) (suc j) ks) (lent_kepts (suc n) (suc j) ks) a (under n j ks κs a fs)))
  unders n j [] κs a fs = id⊢ 𝓤 _
  unders n j (sheet R ∷ ks) κs a fs = mono_r 𝓤 (sem 𝓛 (left ((type_of j (lft_of n j κs.1) (sheet R)).exit yes) a.0 fs.0)) (unders n (suc j) ks κs a.1 fs.1)
  unders n j (cell R ∷ ks) κs a fs = mono_r 𝓤 (sem 𝓛 (left ((type_of j (lft_of n j κs.1) (cell R)).exit yes) a.0 fs.0)) (unders n (suc j) ks κs a.1 fs.1)
  unders n j (shown R ∷ ks) κs a fs = mono_r 𝓤 (sem 𝓛 (left ((type_of j (lft_of n j κs.1) (shown R)).exit yes) a.0 fs.0)) (unders n (suc j) ks κs a.1 fs.1)
  unders n j (spent R ∷ ks) κs a fs = mono_r 𝓤 (sem 𝓛 (left ((type_of j (lft_of n j κs.1) (spent R)).exit no) a.0 fs.0)) (unders n (suc j) ks κs a.1 fs.1)

-- ---- what is handed back: the asking's result is the answering part's
abbrev handed_back : (n : ℕ) (r : Result) (κs : Lfts (suc n)) → (result_of n in_answering r κs.1).Denot → (result_of (suc n) in_asking r κs).Denot
handed_back n (value R spelled tells) κs x = x
handed_back n (part j R) κs x = x

hands_back : {M : Type 1} {𝓤 : Ura M} (𝓛 : Logic 𝓤) (n : ℕ) (r : Result) (κs : Lfts (suc n)) (x : (result_of n in_answering r κs.1).Denot) (vs : List Val)
    → ent 𝓤 (sem 𝓛 ((result_of n in_answering r κs.1).own_val x vs)) (sem 𝓛 ((result_of (suc n) in_asking r κs).own_val (handed_back n r κs x) vs))
hands_back {𝓤 = 𝓤} 𝓛 n (value R spelled tells) κs x vs = id⊢ 𝓤 _
hands_back {𝓤 = 𝓤} 𝓛 n (part j R) κs x vs = id⊢ 𝓤 _

module _ (F : Form) (κs : Lfts (suc (suc (count F.lent)))) where
  abbrev pub Answer : Type 0
  Answer = (result_of (suc (count F.lent)) in_answering F.result κs.1).Denot

  abbrev pub answer_val : Answer → Val
  answer_val = result_val (suc (count F.lent)) in_answering F.result κs.1

  abbrev pub IsAnswer : Answer → Type 0
  IsAnswer r = Is (result_of (suc (count F.lent)) in_answering F.result κs.1) r (answer_val r ∷ [])

  abbrev pub answer_own : Answer → Fml
  answer_own r = (result_of (suc (count F.lent)) in_answering F.result κs.1).own_val r (answer_val r ∷ [])

  abbrev pub Returned : Type 0
  Returned = (result_of (suc (suc (count F.lent))) in_asking F.result κs).Denot

  abbrev pub returned : Answer → Returned
  returned = handed_back (suc (count F.lent)) F.result κs

  abbrev pub returned_own : Answer → Fml
  returned_own r = (result_of (suc (suc (count F.lent))) in_asking F.result κs).own_val (returned r) (answer_val r ∷ [])

  pub returns_answer : {M : Type 1} {𝓤 : Ura M} (𝓛 : Logic 𝓤) (r : Answer) → ent 𝓤 (sem 𝓛 (answer_own r)) (sem 𝓛 (returned_own r))
  returns_answer 𝓛 r = hands_back 𝓛 (suc (count F.lent)) F.result κs r (answer_val r ∷ [])

-- ---- a call at its arguments
module _ (R : RattleType) (F : Form) (κs : Lfts (suc (suc (count F.lent)))) where
  abbrev kept_on : Kepts (sheets_on F)
  kept_on = (yes, lent_kepts (suc (count F.lent)) 1 F.lent)

  abbrev kept_of : Kepts (sheets_of F)
  kept_of = (yes, lent_kepts (suc (suc (count F.lent))) 2 F.lent)

  module _ (a : Denots (types_at (asking_params R F) κs)) where
    -- The label sheet, and the other things lent.
    abbrev pub labels_of_lem : MutBor (List ℕ)
    labels_of_lem = (past_nums (asked_nums F.widths) (sheets_of F) κs a.1.1).0

    abbrev pub others_of_lem : Denots (types_at (lents (suc (suc (count F.lent))) 2 F.lent) κs)
    others_of_lem = (past_nums (asked_nums F.widths) (sheets_of F) κs a.1.1).1

    abbrev sheet_and_others : List ℕ → Denots (types_at (sheets_on F) κs.1)
    sheet_and_others s = (record { ref_ptr = labels_of_lem.ref_ptr; ghost_name = labels_of_lem.ghost_name; now = s }, over (suc (count F.lent)) 1 F.lent κs others_of_lem)

    -- What is handed to the part that answers: the number n, and s on the label sheet.
    abbrev pub answer_args : ℕ → List ℕ → Denots (types_at (answering_params F) κs.1)
    answer_args n s = (n, refill (sheets_of F) κs (sheets_on F) κs.1 (told_nums F.widths) (told F.widths (sheets_of F) κs a.1.1) (sheet_and_others s))

    -- What the call says at its exit, by what that part says.
    abbrev pub call_lasts : (n : ℕ) (s : List ℕ) → Lasts (answering F) κs.1 (answer_args n s) → Lasts (asking R F) κs a
    call_lasts n s fs =
        let gs = strip (sheets_of F) κs (sheets_on F) κs.1 kept_on (told_nums F.widths) (told F.widths (sheets_of F) κs a.1.1) (sheet_and_others s) fs.1 in
        (tt, (tt, wrap (asked_nums F.widths) (sheets_of F) κs kept_of a.1.1 (gs.0, under (suc (count F.lent)) 1 F.lent κs others_of_lem gs.1)))

    module _ (vs : Valss (types_at (asking_params R F) κs)) where
      abbrev pub labels_vals : List Val
      labels_vals = (past_vals (asked_nums F.widths) (sheets_of F) κs vs.1.1).0

      abbrev pub others_vals : Valss (types_at (lents (suc (suc (count F.lent))) 2 F.lent) κs)
      others_vals = (past_vals (asked_nums F.widths) (sheets_of F) κs vs.1.1).1

      abbrev pub answer_vals : ℕ → Valss (types_at (answering_params F) κs.1)
      answer_vals n = (vint w8 n ∷ [], refill_vals (sheets_of F) κs (sheets_on F) κs.1 (told_nums F.widths) (told_vals F.widths (sheets_of F) κs vs.1.1) (labels_vals, over_vals (suc (count F.lent)) 1 F.lent κs others_vals))

      module _ {M : Type 1} {𝓤 : Ura M} (𝓛 : Logic 𝓤) where
        abbrev pub others_own : Fml
        others_own = owns (types_at (lents (suc (suc (count F.lent))) 2 F.lent) κs) others_of_lem others_vals

        abbrev pub list_own : Fml
        list_own = (ShrSlice (named 0) κs.0 R).own_val a.0 vs.0

        abbrev pub labels_own : List ℕ → Fml
        labels_own s = mut_own κs.1.0 u8 labels_of_lem.ref_ptr.0 labels_of_lem.ref_ptr.1 labels_of_lem.ghost_name s labels_vals

        -- What a call owns at its entry: the list, the label sheet, and the other things lent.
        pub call_owns : ent 𝓤 (sem 𝓛 (owns (types_at (asking_params R F) κs) a vs)) (sep 𝓤 (sem 𝓛 list_own) (sep 𝓤 (sem 𝓛 (labels_own labels_of_lem.now)) (sem 𝓛 others_own)))
        call_owns =
            mono_r 𝓤 (sem 𝓛 list_own) (via 𝓤 _ (snd∗ 𝓤 (sem 𝓛 (usize.own_val a.1.0 vs.1.0)) (sem 𝓛 (owns (types_at (nums (asked_nums F.widths) (sheets_of F)) κs) a.1.1 vs.1.1)))
            (drops_nums 𝓛 (asked_nums F.widths) (sheets_of F) κs a.1.1 vs.1.1))

        -- It is handed on.
        pub answer_owns : Are (types_at (asking_params R F) κs) (Ises (types_at (asking_params R F) κs)) a vs → (n : ℕ) (s : List ℕ) → n < 2 ^ 8
            → ent 𝓤 (sep 𝓤 (sem 𝓛 (labels_own s)) (sem 𝓛 others_own)) (sem 𝓛 (owns (types_at (answering_params F) κs.1) (answer_args n s) (answer_vals n)))
        answer_owns are n s fits =
            via 𝓤 _ (mono_r 𝓤 (sem 𝓛 (labels_own s)) (hands_over 𝓛 (suc (count F.lent)) 1 F.lent κs others_of_lem others_vals))
            (via 𝓤 _ (adds_nums 𝓛 (sheets_of F) κs (sheets_on F) κs.1 (told_nums F.widths) (told F.widths (sheets_of F) κs a.1.1) (told_vals F.widths (sheets_of F) κs vs.1.1)
            (told_are F.widths (sheets_of F) κs a.1.1 vs.1.1 are.1.1) _ _)
            (via 𝓤 _ (emp∗ 𝓤 after_n) (mono_l 𝓤 after_n (uint_Makes 𝓛 w8 n (vint w8 n ∷ []) (refl, fits)))))
          where
            after_n : SProp 𝓤
            after_n = sem 𝓛 (owns (types_at (nums (told_nums F.widths) (sheets_on F)) κs.1) (answer_args n s).1 (answer_vals n).1)

        retold : (κ : Lft) (b o : ℕ) (γ : GName) (before between after : List ℕ) → length between ≡ length before → ent 𝓤 (sem 𝓛 (lastly κ u8 b o γ between after)) (sem 𝓛 (lastly κ u8 b o γ before after))
        retold κ b o γ before between after e =
            qed 𝓛 (‵ (lastly κ u8 b o γ between after) ∷ []) ∵ fsplit ! $ fsplit ! $ move ! (1 ∷ []) $ feq_l ! (λ k. feq_i ! ℕ (length after) (length before) (k ∙ e) $ move ! (1 ∷ 0 ∷ []) $ fjoin ! $ move ! (1 ∷ []) $
            rewrite ! 0 (λ (n : ℕ). ‵ (fbor κ (Held u8 n b o γ))) e refl $ move ! (1 ∷ 0 ∷ []) $ fjoin ! $ done !)

        -- And what is said of it at exit is what the call says, where the label sheet is as long.
        pub call_says : (n : ℕ) (s : List ℕ) → length s ≡ length labels_of_lem.now → (fs : Lasts (answering F) κs.1 (answer_args n s))
            → ent 𝓤 (sem 𝓛 (lasts (answering F) κs.1 (answer_args n s) fs))
            (sem 𝓛 (lasts (asking R F) κs a (call_lasts n s fs)))
        call_says n s e fs =
            let b = sheet_and_others s in
            let gs = strip (sheets_of F) κs (sheets_on F) κs.1 kept_on (told_nums F.widths) (told F.widths (sheets_of F) κs a.1.1) b fs.1 in
            via 𝓤 _ (snd∗ 𝓤 (emp 𝓤) _)
            (via 𝓤 _ (strips 𝓛 (sheets_of F) κs (sheets_on F) κs.1 kept_on (told_nums F.widths) (told F.widths (sheets_of F) κs a.1.1) b fs.1)
            (via 𝓤 _ (mono∗ 𝓤 (retold κs.1.0 labels_of_lem.ref_ptr.0 labels_of_lem.ref_ptr.1 labels_of_lem.ghost_name labels_of_lem.now s gs.0 e) (unders 𝓛 (suc (count F.lent)) 1 F.lent κs others_of_lem gs.1))
            (via 𝓤 _ (wraps 𝓛 (asked_nums F.widths) (sheets_of F) κs kept_of a.1.1 (gs.0, under (suc (count F.lent)) 1 F.lent κs others_of_lem gs.1))
            (via 𝓤 _ (emp∗ 𝓤 _) (emp∗ 𝓤 _)))))

spelled_past : {n : ℕ} (ws : List Width) (ss : List (Slot n)) (κs : Lfts n) (sp : Spells (types_at ss κs)) (a : Denots (types_at (nums ws ss) κs))
    → past_vals ws ss κs (valss (types_at (nums ws ss) κs) (num_spells ws ss κs sp) a) ≡ valss (types_at ss κs) sp (past_nums ws ss κs a)
spelled_past [] ss κs sp a = refl
spelled_past (w ∷ ws) ss κs sp a = spelled_past ws ss κs sp a.1

module _ (R : RattleType) (F : Form) (κs : Lfts (suc (suc (count F.lent)))) (a : Denots (types_at (asking_params R F) κs)) where
  -- The label sheet's machine value, and the things known of the arguments: the label sheet has
  -- room, and so have the others.
  pub labels_spelled : labels_vals R F κs a (valss (types_at (asking_params R F) κs) (asking_spells R F κs) a) ≡ mut_slice_vals (labels_of_lem R F κs a)
  labels_spelled = ap (λ (vs : Valss (types_at (sheets_of F) κs)). vs.0) (spelled_past (asked_nums F.widths) (sheets_of F) κs _ a.1.1)

  pub labels_room : (vs : Valss (types_at (asking_params R F) κs)) → Are (types_at (asking_params R F) κs) (Ises (types_at (asking_params R F) κs)) a vs → length (labels_of_lem R F κs a).now < 2 ^ 64
  labels_room vs are = (past_are (asked_nums F.widths) (sheets_of F) κs a.1.1 vs.1.1 are.1.1).0.0.1.0

  abbrev pub others_are : (vs : Valss (types_at (asking_params R F) κs)) → Are (types_at (asking_params R F) κs) (Ises (types_at (asking_params R F) κs)) a vs
      → Are (types_at (lents (suc (suc (count F.lent))) 2 F.lent) κs) (Ises (types_at (lents (suc (suc (count F.lent))) 2 F.lent) κs)) (others_of_lem R F κs a) (others_vals R F κs a vs)
  others_are vs are = (past_are (asked_nums F.widths) (sheets_of F) κs a.1.1 vs.1.1 are.1.1).1
