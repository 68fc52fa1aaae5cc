-- A slice that is filled from the front: what is written so far, and behind it what stood there.
-- Writing the next byte, or the next part once it is back, lengthens the front by it.
use mathlib.Core.Path.{◌≡◌, refl, sym, ap, ◌∙◌}
use mathlib.Core.List.{List, [], ◌∷◌, ◌++◌, append_assoc, append-nil}
use Prim.Native.Nat.{ℕ, suc, ◌+◌, ◌-◌, ◌<◌, ◌≤◌}
use native.Mathlib.Omega.{arith}
use native.Mathlib.Numerals.{add-one}
use lib.ListN.{length, get_or, take, drop, set, length-append, length-drop, drop_of_length-le}
use lib.Seq.{drop-cons, set_at, take-suc, take_at, drop_at}
use borrow.Rule.Slice.PartMut.{mid_of, put_mid, post_of, Post-is, mid_len}

-- The first n elements are `front`, and the others are as they were in `before`.
pub record Filled {A : Type 0} (front : List A) (n : ℕ) (before after : List A) : Type 0 where
  pub size : length front ≡ n
  pub within : n ≤ length before
  pub is : after ≡ front ++ drop n before

pub filled_none : {A : Type 0} (l : List A) → Filled [] 0 l l
filled_none l = record { size = refl; within = omega arith; is = refl }

pub filled_as : {A : Type 0} (front other : List A) (n m : ℕ) (before after : List A) → Filled front n before after → front ≡ other → n ≡ m → Filled other m before after
filled_as front other n m before after f p q = record { size = ap length (sym p) ∙ f.size ∙ q; within = omega (arith, f.within); is = rw (← p, ← q) f.is }

module _ {A : Type 0} (front : List A) (n : ℕ) (before after : List A) (f : Filled front n before after) where
  pub filled_length : length after ≡ length before
  filled_length =
      ap length f.is ∙ length-append front (drop n before) ∙ omega (arith, length-drop n before, f.size, f.within)

  pub filled_all : n ≡ length before → after ≡ front
  filled_all e = f.is ∙ ap (λ (l : List A). front ++ l) (drop_of_length-le before {i = n} (omega arith)) ∙ append-nil front

  pub filled_byte : (v : A) → n < length before → Filled (front ++ v ∷ []) (n + 1) before (set after n v)
  filled_byte v h =
      record {
        size = length-append front (v ∷ []) ∙ omega (arith, f.size);
        within = omega arith;
        is =
            ap (λ (l : List A). set l n v) (f.is ∙ ap (λ (l : List A). front ++ l) (drop-cons before n v h))
            ∙ set_at front _ (drop (suc n) before) v n f.size
            ∙ sym (append_assoc front (v ∷ []) (drop (n + 1) before) ∙ ap (λ (m : ℕ). front ++ v ∷ drop m before) (add-one n));
      }

  -- The part from n to e, which is lent.
  pub filled_lent : (e : ℕ) → e ≤ length before → length (mid_of n (e - n) after) ≡ e - n
  filled_lent e l = mid_len n e after (omega (arith, filled_length))

  -- It is back as `part`.
  pub filled_part : (e : ℕ) (part : List A) → n ≤ e → e ≤ length before → length part ≡ length (mid_of n (e - n) after)
      → Filled (front ++ part) e before (put_mid n (e - n) after part)
  filled_part e part h l m =
      record {
        size = length-append front part ∙ omega (arith, f.size, m, filled_lent e l);
        within = l;
        is =
            ap (λ (k : List A). put_mid n (e - n) k part) f.is
            ∙ ap (λ (k : List A). k ++ (part ++ post_of n (e - n) (front ++ drop n before))) (take_at front (drop n before) n f.size)
            ∙ ap (λ (k : List A). front ++ (part ++ drop (e - n) k)) (drop_at front (drop n before) n f.size)
            ∙ ap (λ (k : List A). front ++ (part ++ k)) (Post-is n e before h)
            ∙ sym (append_assoc front part (drop e before));
      }

-- One byte more from the front of a list.
pub take_more : (l : List ℕ) (i : ℕ) → i < length l → take i l ++ get_or l i 0 ∷ [] ≡ take (i + 1) l
take_more l i h = sym (ap (λ (n : ℕ). take n l) (add-one i) ∙ take-suc l i 0 h)
