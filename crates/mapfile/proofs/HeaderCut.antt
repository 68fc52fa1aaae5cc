-- A header cut short: if some bytes that follow make a header of what is there, then the few bytes
-- of `probe` do.
use Rattle.std.specs.Prelude.{◌≡◌, refl, Bool, true, false, List, [], ◌∷◌, ◌++◌, ℕ, zero, suc, ◌+◌, ◌*◌, ◌-◌, ◌<◌, ◌≤◌, length}
use Rattle.std.proofs.Common.{sym, ap, subst, ◌∙◌, arith}
use Rattle.std.proofs.Math.Option.{Option, none, some}
use Rattle.std.proofs.Math.Decide.{dec_le, dec_lt, ℕ_discrete}
use Rattle.mapfile.specs.Header.{Blank, feed, LineEnd, at_feed, Digit, most_digits, Header}
use Rattle.mapfile.specs.HeaderWorking.{
  pick,
  blank_dec,
  line_end_dec,
  digit_dec,
  end_items,
  after_items,
  after_comment,
  items_hash,
  items_blank,
  items_stop,
  comment_ends,
  comment_goes_on,
  Value,
  value,
  no_value,
  end_number,
  number_from,
  number_digit,
  number_many,
  number_stop,
  number_after,
  next_number,
  last_blank,
  last_blank_there,
  last_blank_other,
}
use Rattle.mapfile.proofs.HeaderComplete.{blank_no_digit}
use Rattle.mapfile.specs.HeadingWorking.{Heading, heading, no_heading, heading_of, lastly, onto, and_then, HeadingTold}
use Rattle.mapfile.proofs.HeadingWorking.{heading_told, heading_more, heading_none, heading_last, heading_no_last, heading_found}
use Rattle.mapfile.proofs.FileWorking.{two_values}
use Rattle.mapfile.specs.HeaderCut.{probe}

never_some : {A B : Type 0} {a : A} → none ≡ some a → B
never_some e = let z : ◌≡◌ {A = ℕ} 0 1 = cc in absurd (omega arith)

never_value : {B : Type 0} {v : ℕ} {l : List ℕ} → no_value ≡ value v l → B
never_value e = let z : ◌≡◌ {A = ℕ} 0 1 = cc in absurd (omega arith)

-- Where a separator stands that some bytes end, f giving what is left after it for the bytes that
-- follow: it is cut, and two LFs end it before a digit; or it ended before, whatever follows.
data SeparatorCut (f : List ℕ → Option (List ℕ)) : Type 0 where
  within : ((q : List ℕ) → f (10 ∷ 10 ∷ 49 ∷ q) ≡ some (49 ∷ q)) → SeparatorCut f
  past : (b : ℕ) (k : List ℕ) → ((u : List ℕ) → f u ≡ some (b ∷ k ++ u)) → SeparatorCut f

separator_as : {f g : List ℕ → Option (List ℕ)} → ((u : List ℕ) → f u ≡ g u) → SeparatorCut g → SeparatorCut f
separator_as e (within p) = within (λ q. e (10 ∷ 10 ∷ 49 ∷ q) ∙ p q)
separator_as e (past b k p) = past b k (λ u. e u ∙ p u)

-- A 1 ends the items.
one_ends : (q : List ℕ) → after_items (49 ∷ q) true ≡ some (49 ∷ q)
unfolding end_items
one_ends q = items_stop q true (λ (b : Blank 49). blank_no_digit b (record { from_zero = omega arith; to_nine = omega arith })) (λ (e : ◌≡◌ {A = ℕ} 49 35). omega arith)

feeds_end : (q : List ℕ) (seen : Bool) → after_items (10 ∷ 49 ∷ q) seen ≡ some (49 ∷ q)
feeds_end q seen = items_blank (49 ∷ q) seen (feed refl) ∙ one_ends q

stopped : (seen : Bool) (b : ℕ) (l t m : List ℕ) → end_items seen (b ∷ l ++ t) ≡ some m → (u : List ℕ) → end_items seen (b ∷ l ++ u) ≡ some (b ∷ l ++ u)
unfolding end_items
stopped true b l t m e u = refl
stopped false b l t m e u = never_some e

mutual
  items_cut : (l t m : List ℕ) (seen : Bool) → after_items (l ++ t) seen ≡ some m → SeparatorCut (λ u. after_items (l ++ u) seen)
  items_cut [] t m seen e = within (λ q. items_blank (10 ∷ 49 ∷ q) seen (feed refl) ∙ feeds_end q true)
  items_cut (b ∷ l) t m seen e = go (ℕ_discrete b 35) (blank_dec b) (λ r. items_cut l t m true r) (λ r. comment_cut l t m seen r)
    where
      go : Dec (b ≡ 35) → Dec (Blank b) → (after_items (l ++ t) true ≡ some m → SeparatorCut (λ u. after_items (l ++ u) true))
          → (after_comment (l ++ t) seen ≡ some m → SeparatorCut (λ u. after_comment (l ++ u) seen)) → SeparatorCut (λ u. after_items (b ∷ l ++ u) seen)
      go (yes p) q more comment = separator_as (λ u. items_hash (l ++ u) seen p) (comment (sym (items_hash (l ++ t) seen p) ∙ e))
      go (no p) (yes q) more comment = separator_as (λ u. items_blank (l ++ u) seen q) (more (sym (items_blank (l ++ t) seen q) ∙ e))
      go (no p) (no q) more comment =
          past b l (λ u. items_stop (l ++ u) seen q p ∙ stopped seen b l t m (sym (items_stop (l ++ t) seen q p) ∙ e) u)

  comment_cut : (l t m : List ℕ) (seen : Bool) → after_comment (l ++ t) seen ≡ some m → SeparatorCut (λ u. after_comment (l ++ u) seen)
  comment_cut [] t m seen e = within (λ q. comment_ends (10 ∷ 49 ∷ q) seen (at_feed refl) ∙ feeds_end q seen)
  comment_cut (b ∷ l) t m seen e = go (line_end_dec b) (λ r. items_cut l t m seen r) (λ r. comment_cut l t m seen r)
    where
      go : Dec (LineEnd b) → (after_items (l ++ t) seen ≡ some m → SeparatorCut (λ u. after_items (l ++ u) seen))
          → (after_comment (l ++ t) seen ≡ some m → SeparatorCut (λ u. after_comment (l ++ u) seen)) → SeparatorCut (λ u. after_comment (b ∷ l ++ u) seen)
      go (yes p) more comment = separator_as (λ u. comment_ends (l ++ u) seen p) (more (sym (comment_ends (l ++ t) seen p) ∙ e))
      go (no p) more comment = separator_as (λ u. comment_goes_on (l ++ u) seen p) (comment (sym (comment_goes_on (l ++ t) seen p) ∙ e))

-- The same of a number: it is cut, and LF ends it; or it ended before.
data NumberCut (f : List ℕ → Value) : Type 0 where
  within : (v : ℕ) → ((q : List ℕ) → f (10 ∷ q) ≡ value v (10 ∷ q)) → NumberCut f
  past : (v b : ℕ) (k : List ℕ) → ((u : List ℕ) → f u ≡ value v (b ∷ k ++ u)) → NumberCut f

number_as : {f g : List ℕ → Value} → ((u : List ℕ) → f u ≡ g u) → NumberCut g → NumberCut f
number_as e (within v p) = within v (λ q. e (10 ∷ q) ∙ p q)
number_as e (past v b k p) = past v b k (λ u. e u ∙ p u)

feed_no_digit : ¬ Digit 10
feed_no_digit d = blank_no_digit (feed refl) d

number_stopped : (n v : ℕ) (b : ℕ) (l t m : List ℕ) (w : ℕ) → end_number n v (b ∷ l ++ t) ≡ value w m → (u : List ℕ)
    → end_number n v (b ∷ l ++ u) ≡ value v (b ∷ l ++ u)
unfolding end_number
number_stopped zero v b l t m w e u = never_value e
number_stopped (suc n) v b l t m w e u = refl

number_cut : (l t m : List ℕ) (n v w : ℕ) → 1 ≤ n + length l → number_from (l ++ t) n v ≡ value w m → NumberCut (λ u. number_from (l ++ u) n v)
unfolding end_number
number_cut [] t m zero v w s e = absurd (omega arith)
number_cut [] t m (suc n) v w s e = within v (λ q. number_stop q (suc n) v feed_no_digit)
number_cut (b ∷ l) t m n v w s e = go (digit_dec b) (dec_lt n most_digits) (number_cut l t m (suc n) (v * 10 + (b - 48)) w (omega arith))
  where
    go : Dec (Digit b) → Dec (n < most_digits)
        → (number_from (l ++ t) (suc n) (v * 10 + (b - 48)) ≡ value w m → NumberCut (λ u. number_from (l ++ u) (suc n) (v * 10 + (b - 48))))
        → NumberCut (λ u. number_from (b ∷ l ++ u) n v)
    go (yes d) (yes p) more = number_as (λ u. number_digit (l ++ u) n v d p) (more (sym (number_digit (l ++ t) n v d p) ∙ e))
    go (yes d) (no p) more = never_value (sym (number_many (l ++ t) n v d p) ∙ e)
    go (no d) p more =
        past v b l (λ u. number_stop (l ++ u) n v d ∙ number_stopped n v b l t m w (sym (number_stop (l ++ t) n v d) ∙ e) u)

-- And of a separator with the number after it: nothing of the number is there, or it is cut, or it
-- ended before.
data NextCut (f : List ℕ → Value) : Type 0 where
  before : ((q : List ℕ) → f (10 ∷ 10 ∷ 49 ∷ 10 ∷ q) ≡ value 1 (10 ∷ q)) → NextCut f
  after : NumberCut f → NextCut f

one_taken : (q : List ℕ) → number_from (49 ∷ 10 ∷ q) 0 0 ≡ value 1 (10 ∷ q)
unfolding end_number most_digits
one_taken q =
    number_digit (10 ∷ q) 0 0 (record { from_zero = omega arith; to_nine = omega arith }) (omega arith)
    ∙ number_stop q 1 1 feed_no_digit

next_cut : (l t m : List ℕ) (v : ℕ) → next_number (l ++ t) ≡ value v m → NextCut (λ u. next_number (l ++ u))
unfolding next_number number_after
next_cut l t m v e = go (after_items (l ++ t) false) refl
  where
    separated : (k : List ℕ) → after_items (l ++ t) false ≡ some k → SeparatorCut (λ u. after_items (l ++ u) false) → NextCut (λ u. next_number (l ++ u))
    separated k p (within q) = before (λ r. ap number_after (q (10 ∷ r)) ∙ one_taken r)
    separated k p (past b j q) =
        after (number_as (λ u. ap number_after (q u)) (number_cut (b ∷ j) t m 0 0 v (omega arith) (sym (ap number_after (q t)) ∙ e)))

    go : (o : Option (List ℕ)) → after_items (l ++ t) false ≡ o → NextCut (λ u. next_number (l ++ u))
    go none p = never_value (sym (ap number_after p) ∙ e)
    go (some k) p = separated k p (items_cut l t k false p)

-- A heading was read.
abbrev pub Read : Heading → Type 0
Read (heading vs rest) = Unit {0}
Read no_heading = ⊥

onto_read : (v : ℕ) (k : Heading) → Read k → Read (onto v k)
unfolding onto
onto_read v (heading vs rest) r = r
onto_read v no_heading r = r

read_onto : (v : ℕ) (k : Heading) → Read (onto v k) → Read k
unfolding onto
read_onto v (heading vs rest) r = r
read_onto v no_heading r = r

-- What the probe leads to by itself, with no number or one still to come.
probe_read : (n : ℕ) → n ≤ 1 → Read (heading_of n probe) × Read (heading_of n (10 ∷ 49 ∷ 10 ∷ []))
unfolding dec_le dec_lt ℕ_discrete heading_of lastly last_blank pick blank_dec and_then next_number number_after after_items end_items number_from end_number digit_dec most_digits onto
probe_read zero s = (tt, tt)
probe_read (suc zero) s = (tt, tt)
probe_read (suc (suc n)) s = absurd (omega arith)

-- What bytes that follow lead to, the probe leads to.
last_read : (l t : List ℕ) → Read (heading_of 0 (l ++ t)) → Read (heading_of 0 (l ++ probe))
last_read [] t r = (probe_read 0 (omega arith)).0
last_read (b ∷ l) t r = go (blank_dec b)
  where
    go : Dec (Blank b) → Read (heading_of 0 (b ∷ l ++ probe))
    go (yes p) = rw (heading_last _ _ (last_blank_there (l ++ probe) p)) tt
    go (no p) = absurd (subst Read (heading_no_last _ (last_blank_other (l ++ t) p)) r)

probe_reads : (n : ℕ) → n ≤ 2 → (l t : List ℕ) → Read (heading_of n (l ++ t)) → Read (heading_of n (l ++ probe))
probe_reads zero s l t r = last_read l t r
probe_reads (suc n) s l t r = go (next_number (l ++ t)) refl (probe_reads n (omega arith))
  where
    then : (v : ℕ) (m : List ℕ) → next_number (l ++ probe) ≡ value v m → Read (heading_of n m) → Read (heading_of (suc n) (l ++ probe))
    then v m e k = rw (heading_more n (l ++ probe) m v e) (onto_read v (heading_of n m) k)

    read : (v : ℕ) (m : List ℕ) → next_number (l ++ t) ≡ value v m → NextCut (λ u. next_number (l ++ u))
        → ((k u : List ℕ) → Read (heading_of n (k ++ u)) → Read (heading_of n (k ++ probe))) → Read (heading_of (suc n) (l ++ probe))
    read v m e (before p) more = then 1 (10 ∷ 49 ∷ 10 ∷ []) (p (49 ∷ 10 ∷ [])) (probe_read n (omega arith)).1
    read v m e (after (within u p)) more = then u probe (p (10 ∷ 49 ∷ 10 ∷ 49 ∷ 10 ∷ [])) (probe_read n (omega arith)).0
    read v m e (after (past u b k p)) more =
        then u (b ∷ k ++ probe) (p probe) (more (b ∷ k) t (read_onto u _ (subst Read (heading_more n (l ++ t) (b ∷ k ++ t) u (p t)) r)))

    go : (o : Value) → next_number (l ++ t) ≡ o → ((k u : List ℕ) → Read (heading_of n (k ++ u)) → Read (heading_of n (k ++ probe)))
        → Read (heading_of (suc n) (l ++ probe))
    go no_value e more = absurd (subst Read (heading_none n (l ++ t) e) r)
    go (value v m) e more = read v m e (next_cut l t m v e) more

-- So the probe tells: where it makes no header of two numbers, no bytes that follow do.
pub cut_told : (l : List ℕ) → ((w h : ℕ) (body : List ℕ) → ¬ Header (w ∷ h ∷ []) (l ++ probe) body)
    → (t : List ℕ) (w h : ℕ) (body : List ℕ) → ¬ Header (w ∷ h ∷ []) (l ++ t) body
cut_told l absent t w h body k =
    go (heading_of 2 (l ++ probe)) (heading_told 2 (l ++ probe)) (probe_reads 2 (omega arith) l t (rw (heading_found k) tt))
  where
    go : (o : Heading) → HeadingTold 2 (l ++ probe) o → Read o → ⊥
    go (heading vs rest) e r = absent _ _ rest (subst (λ (us : List ℕ). Header us (l ++ probe) rest) (two_values vs e.0) e.1)
    go no_heading e r = r
