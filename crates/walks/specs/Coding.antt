-- The code of an asking, by its form (`Forms.antt`): which local holds what, what is lent on, and
-- the operands of its calls. It is told as lists, which `Straight.antt` runs in one step; that the
-- compiled code is this code is the row `body` of each asking.
--
-- The compiler numbers the locals so: 0 the result, 1 the list, 2 the count, 3 and 4 the map's
-- width and height, 5 the clearance, from 6 on the other numbers, then the label sheet, then the
-- other things lent. Then those that a `let` names: the truth whether the other sheets fit, where
-- it is asked, and the refusal that `prepare` answers. Then, in the order in which the code needs
-- them, the lengths that are read, and for each thing that is lent on a reference and, of a slice,
-- the slice made of it.
use Rattle.std.specs.Prelude.{Bool, true, false, List, [], ◌∷◌, ◌++◌, ℕ, zero, suc, ◌<◌, ◌^◌, T, length}
use seplogic.Ra.Ura.{Ura}
use Rattle.std.proofs.Common.{lit<}
use mir.Syntax.{Local, local, ty_unit, ty_int, ty_ref, named, mut, value_local, Fn, place, Opd as Operand, copy, int, opd_false, Width, w8, w16, w32, w64, w128}
use mir.Val.{bits}
use types.Logic.{Logic}
use contract.Lifetimes.{Lfts}
use denote.RattleType.{Denots, Valss}
use denote.Exit.{yes}
use denote.Plain.{Boolean, uint_Makes}
use denote.Laws.{Ises, Are, Makess}
use denote.Memory.{lone}
use denote.Signature.{Slot, plain, types_at}
use denote.Triple.Clauses.{Ended}
use denote.Triple.End.{all}
use Rattle.field.specs.contracts.Marker as T
use Rattle.walks.specs.Places.{both, both_hold}
use Rattle.walks.specs.Straight.{Stmt, lend, size, pass}
use Rattle.walks.specs.Forms.{Form, Lent, sheet, cell, shown, spent, lents, nums, asked_nums, count, asking_params}
use Rattle.walks.specs.Passing.{others_of_lem, labels_of_lem}

abbrev pub head : List Local → Local
head [] = local ty_unit value_local
head (l ∷ ls) = l

abbrev pub tail : List Local → List Local
tail [] = []
tail (l ∷ ls) = ls

-- The function, its first local in sight.
abbrev pub trimmed : Fn → Fn
trimmed f = record { lifetimes = f.lifetimes; outlives = f.outlives; ty_params = f.ty_params; givens = f.givens; params = f.params; locals = head f.locals ∷ tail f.locals; body = f.body }

-- The label sheet's local, where ws are the widths of the numbers before it; and the local past the
-- things lent.
abbrev pub labels_local : List Width → ℕ
labels_local [] = 3
labels_local (w ∷ ws) = suc (labels_local ws)

abbrev beyond : ℕ → List Lent → ℕ
beyond i [] = i
beyond i (k ∷ ks) = suc (beyond i ks)

-- The things lent are lent on, from local s on, into p and on; and named as operands. A slice lent
-- as `&` is handed on as it is.
abbrev lent_on : (n j s p : ℕ) (ks : List Lent) (κs : Lfts n) → Denots (types_at (lents n j ks) κs) → List Stmt
lent_on n j s p [] κs a = []
lent_on n j s p (sheet R ∷ ks) κs a =
    lend s p (suc p) a.0.ref_ptr.0 a.0.ref_ptr.1 (length a.0.now) (ty_ref (named j) mut (lone R.mir)) (lone R.mir) ∷ lent_on n (suc j) (suc s) (suc (suc p)) ks κs a.1
lent_on n j s p (cell R ∷ ks) κs a = pass s p a.0.ref_ptr.0 a.0.ref_ptr.1 (lone R.mir) ∷ lent_on n (suc j) (suc s) (suc p) ks κs a.1
lent_on n j s p (shown R ∷ ks) κs a = lent_on n (suc j) (suc s) p ks κs a.1
lent_on n j s p (spent R ∷ ks) κs a =
    lend s p (suc p) a.0.ref_ptr.0 a.0.ref_ptr.1 (length a.0.now) (ty_ref (named j) mut (lone R.mir)) (lone R.mir) ∷ lent_on n (suc j) (suc s) (suc (suc p)) ks κs a.1

abbrev lent_named : ℕ → ℕ → List Lent → List Operand
lent_named s p [] = []
lent_named s p (sheet R ∷ ks) = copy (place (suc p) []) ∷ lent_named (suc s) (suc (suc p)) ks
lent_named s p (cell R ∷ ks) = copy (place p []) ∷ lent_named (suc s) (suc p) ks
lent_named s p (shown R ∷ ks) = copy (place s []) ∷ lent_named (suc s) p ks
lent_named s p (spent R ∷ ks) = copy (place (suc p) []) ∷ lent_named (suc s) (suc (suc p)) ks

abbrev numbers_named : ℕ → List Width → List Operand → List Operand
numbers_named i [] xs = xs
numbers_named i (w ∷ ws) xs = copy (place i []) ∷ numbers_named (suc i) ws xs

-- The label sheet is lent on into p and the next; and after it what else is lent, from there on.
module _ (F : Form) (κs : Lfts (suc (suc (count F.lent)))) (a : Denots (types_at (asking_params T.the_row F) κs)) where
  abbrev pub labels_on : ℕ → Stmt
  labels_on p =
      lend (labels_local (asked_nums F.widths)) p (suc p) (labels_of_lem T.the_row F κs a).ref_ptr.0 (labels_of_lem T.the_row F κs a).ref_ptr.1 (length (labels_of_lem T.the_row F κs a).now)
      (ty_ref (named 1) mut (ty_int w8)) (ty_int w8)

  abbrev pub all_on : ℕ → List Stmt
  all_on p = labels_on p ∷ lent_on (suc (suc (count F.lent))) 2 (suc (labels_local (asked_nums F.widths))) (suc (suc p)) F.lent κs (others_of_lem T.the_row F κs a)

-- The other things lent.
abbrev pub beside : (F : Form) (κs : Lfts (suc (suc (count F.lent)))) (a : Denots (types_at (asking_params T.the_row F) κs)) → Denots (types_at (lents (suc (suc (count F.lent))) 2 F.lent) κs)
beside F κs a = others_of_lem T.the_row F κs a

-- What is handed to the part that answers: d, the numbers but the clearance, and what was lent on
-- from p on.
abbrev pub handed_on : Form → ℕ → ℕ → List Operand
handed_on F d p =
    copy (place d []) ∷ copy (place 3 []) ∷ copy (place 4 [])
    ∷ numbers_named 6 F.widths (copy (place (suc p) []) ∷ lent_named (suc (labels_local (asked_nums F.widths))) (suc (suc p)) F.lent)

-- What `prepare` is handed: the list, its count, the map, the clearance, that low markers are not
-- included, the places asked, the truth `others`, and the label sheet, lent on in r.
abbrev pub to_first : List Operand → Operand → ℕ → List Operand
to_first places others r =
    copy (place 1 []) ∷ copy (place 2 []) ∷ copy (place 3 []) ∷ copy (place 4 []) ∷ copy (place 5 []) ∷ opd_false
    ∷ (places ++ (others ∷ copy (place r []) ∷ []))

-- The first local that a `let` names.
abbrev pub answer_local : Form → ℕ
answer_local F = suc (beyond (labels_local (asked_nums F.widths)) F.lent)

-- A function that judges numbers, and borrows nothing.
abbrev pub judging_params : List Width → List (Slot 0)
judging_params ws = nums ws []

abbrev pub judging : List Width → Ended
judging ws = record { signature = record { lifetimes = 0; outlives = []; params = judging_params ws; result = plain (λ κs. Boolean) }; kept = all yes (judging_params ws) }

pub num_makes : {M : Type 1} {𝓤 : Ura M} (𝓛 : Logic 𝓤) (ws : List Width) → Makess 𝓛 (types_at (judging_params ws) tt) (Ises (types_at (judging_params ws) tt))
num_makes 𝓛 [] = tt
num_makes 𝓛 (w ∷ ws) = (uint_Makes 𝓛 w, num_makes 𝓛 ws)

-- The lengths of the first t things lent are read, from local s on, into p and on; and named as
-- operands.
abbrev pub sized : (n j s p t : ℕ) (ks : List Lent) (κs : Lfts n) → Denots (types_at (lents n j ks) κs) → List Stmt
sized n j s p zero ks κs a = []
sized n j s p (suc t) [] κs a = []
sized n j s p (suc t) (sheet R ∷ ks) κs a =
    size s p a.0.ref_ptr.0 a.0.ref_ptr.1 (length a.0.now) (ty_ref (named j) mut (lone R.mir)) ∷ sized n (suc j) (suc s) (suc p) t ks κs a.1
sized n j s p (suc t) (cell R ∷ ks) κs a = []
sized n j s p (suc t) (shown R ∷ ks) κs a = []
sized n j s p (suc t) (spent R ∷ ks) κs a = []

abbrev pub from_on : ℕ → ℕ → List Operand
from_on p zero = []
from_on p (suc t) = copy (place p []) ∷ from_on (suc p) t

abbrev pub past_on : ℕ → ℕ → ℕ
past_on p zero = p
past_on p (suc t) = suc (past_on p t)

-- A number that is asked for: one of the call's numbers, by its place among those after the
-- clearance, or nought. It is of 64 bits.
pub data Number : Type 0 where
  at : ℕ → Number
  nought : Number

abbrev is_64 : Width → Bool
is_64 w8 = false
is_64 w16 = false
is_64 w32 = false
is_64 w64 = true
is_64 w128 = false

small_64 : (w : Width) (n : ℕ) → T (is_64 w) → n < 2 ^ bits w → n < 2 ^ 64
small_64 w8 n h f = absurd h
small_64 w16 n h f = absurd h
small_64 w32 n h f = absurd h
small_64 w64 n h f = f
small_64 w128 n h f = absurd h

abbrev num_at : {n : ℕ} (ws : List Width) (ss : List (Slot n)) (κs : Lfts n) → Denots (types_at (nums ws ss) κs) → ℕ → ℕ
num_at [] ss κs a i = 0
num_at (w ∷ ws) ss κs a zero = a.0
num_at (w ∷ ws) ss κs a (suc i) = num_at ws ss κs a.1 i

abbrev pub wide_at : List Width → ℕ → Bool
wide_at [] i = false
wide_at (w ∷ ws) zero = is_64 w
wide_at (w ∷ ws) (suc i) = wide_at ws i

small_at : {n : ℕ} (ws : List Width) (ss : List (Slot n)) (κs : Lfts n) (a : Denots (types_at (nums ws ss) κs)) (vs : Valss (types_at (nums ws ss) κs))
    → Are (types_at (nums ws ss) κs) (Ises (types_at (nums ws ss) κs)) a vs → (i : ℕ) → T (wide_at ws i) → num_at ws ss κs a i < 2 ^ 64
small_at [] ss κs a vs are i h = absurd h
small_at (w ∷ ws) ss κs a vs are zero h = small_64 w a.0 h are.0.1
small_at (w ∷ ws) ss κs a vs are (suc i) h = small_at ws ss κs a.1 vs.1 are.1 i h

abbrev pub number_of : {n : ℕ} (ws : List Width) (ss : List (Slot n)) (κs : Lfts n) → Denots (types_at (nums ws ss) κs) → Number → ℕ
number_of ws ss κs a (at i) = num_at ws ss κs a i
number_of ws ss κs a nought = 0

abbrev pub wide : List Width → Number → Bool
wide ws (at i) = wide_at ws i
wide ws nought = true

abbrev pub all_wide : List Width → List Number → Bool
all_wide ws [] = true
all_wide ws (k ∷ ks) = both (wide ws k) (all_wide ws ks)

pub first_wide : (ws : List Width) (k : Number) (ks : List Number) → T (all_wide ws (k ∷ ks)) → T (wide ws k) × T (all_wide ws ks)
first_wide ws k ks h = both_hold (wide ws k) (all_wide ws ks) h

pub small_of : {n : ℕ} (ws : List Width) (ss : List (Slot n)) (κs : Lfts n) (a : Denots (types_at (nums ws ss) κs)) (vs : Valss (types_at (nums ws ss) κs))
    → Are (types_at (nums ws ss) κs) (Ises (types_at (nums ws ss) κs)) a vs → (k : Number) → T (wide ws k) → number_of ws ss κs a k < 2 ^ 64
small_of ws ss κs a vs are (at i) h = small_at ws ss κs a vs are i h
small_of ws ss κs a vs are nought h = lit< tt

abbrev pub number_named : Number → Operand
number_named (at i) = copy (place (suc (suc (suc (suc (suc (suc i)))))) [])
number_named nought = int w64 0
