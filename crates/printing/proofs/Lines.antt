-- Numbers put one after the other make a line, and each takes its room at most; and a number put
-- behind the word makes a refusal's line.
use mathlib.Core.Path.{◌≡◌, refl, sym, ap, ◌∙◌}
use mathlib.Core.List.{List, [], ◌∷◌, ◌++◌, append_assoc, append-nil}
use Prim.Native.Nat.{ℕ, ◌+◌, ◌*◌, ◌<◌, ◌≤◌}
use native.Mathlib.Omega.{arith}
use lib.ListN.{length, get_or, take, length-append}
use lib.Seq.{take-length}
use Rattle.std.proofs.Math.Nat.{suc-mul}
use Rattle.packing.proofs.Filling.{take_more}
use Rattle.printing.specs.Printed.{number_room, Line, last_number, next_number_lem, refused, RefusalLine}
use Rattle.printing.specs.Parts.{Put, Puts, NumberThen, NumbersLine}
use Rattle.printing.proofs.Putting.{put_none, put_then}

pub number_ends : {v mark at end : ℕ} {out after : List ℕ} → Puts (NumberThen v mark) out at after end → end ≤ at + number_room
number_ends {v} {mark} p =
    let n = p.right in
    omega (arith, p.put.size, ap length n.is ∙ length-append n.digits (mark ∷ []), n.few)

-- The last number of a line, with LF after it.
pub line_last : {v : ℕ} {l : List ℕ} → NumberThen v 10 l → Line (v ∷ []) l
line_last {v} n = last_number v n.digits n.printed refl n.is

-- A number and a space before a line.
pub line_next : {v : ℕ} {us l k : List ℕ} → NumberThen v 32 l → Line us k → Line (v ∷ us) (l ++ k)
line_next {v} {us} {l} {k} n m =
    next_number_lem v n.digits k n.printed m refl (ap (λ (a : List ℕ). a ++ k) n.is ∙ append_assoc n.digits (32 ∷ []) k)

-- The first n numbers of a line stand in the output, each with a space after it: a line of the
-- numbers that follow makes it whole.
pub record Begun (vs : List ℕ) (n : ℕ) (out : List ℕ) (at : ℕ) (after : List ℕ) (end : ℕ) : Type 0 where
  pub piece : List ℕ
  pub line : (us l : List ℕ) → Line us l → Line (take n vs ++ us) (piece ++ l)
  pub put : Put out at piece after end
  pub few : end ≤ at + n * number_room

pub begun_none : {vs out : List ℕ} {at : ℕ} → at ≤ length out → Begun vs 0 out at out at
begun_none {vs} {out} {at} l = record { piece = []; line = λ us l m. m; put = put_none l; few = omega arith }

module _ (vs : List ℕ) {n v : ℕ} (here : n < length vs) (e : v ≡ get_or vs n 0) where
  taken : (us : List ℕ) → take n vs ++ v ∷ us ≡ take (n + 1) vs ++ us
  taken us =
      sym (append_assoc (take n vs) (v ∷ []) us)
      ∙ ap (λ (l : List ℕ). l ++ us) (ap (λ (u : ℕ). take n vs ++ u ∷ []) e ∙ take_more vs n here)

  -- One number more, with a space after it.
  pub begun_next : {out mid after : List ℕ} {at i end : ℕ} → at ≤ length out → Begun vs n out at mid i → Puts (NumberThen v 32) mid i after end → Begun vs (n + 1) out at after end
  begun_next low b p =
      record {
        piece = b.piece ++ p.piece;
        line = λ us l m. rw (append_assoc b.piece p.piece l, ← taken us) (b.line (v ∷ us) (p.piece ++ l) (line_next p.right m));
        put = put_then low b.put p.put;
        few = omega (arith, b.few, number_ends p, suc-mul n number_room);
      }

  -- The last number, with LF after it.
  pub begun_ends : {out mid after : List ℕ} {at i end : ℕ} → n + 1 ≡ length vs → at ≤ length out → Begun vs n out at mid i
      → Puts (NumberThen v 10) mid i after end → Puts (NumbersLine vs) out at after end
  begun_ends all low b p =
      let put = put_then low b.put p.put in
      record {
        piece = b.piece ++ p.piece;
        right = record {
          line = rw whole at (b.line (v ∷ []) p.piece (line_last p.right));
          few = omega (arith, put.size, b.few, number_ends p, suc-mul n number_room, ap (λ (k : ℕ). k * number_room) all);
        };
        put = put;
      }
    where
      whole : take n vs ++ v ∷ [] ≡ vs
      whole = taken [] ∙ append-nil (take (n + 1) vs) ∙ ap (λ (k : ℕ). take k vs) all ∙ take-length vs

-- A number behind the word.
pub refusal_put : {n at end : ℕ} {out mid after : List ℕ} → Put out 0 refused mid at → Puts (NumberThen n 10) mid at after end
    → Puts (RefusalLine n) out 0 after end
refusal_put p q =
    record {
      piece = refused ++ q.piece;
      right = record { digits = q.right.digits; printed = q.right.printed; is = ap (λ (l : List ℕ). refused ++ l) q.right.is };
      put = put_then (omega arith) p q.put;
    }
