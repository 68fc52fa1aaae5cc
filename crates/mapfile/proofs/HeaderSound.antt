-- What the header's working accepts is so by the grammar: each step that it makes over the bytes is
-- an item, a digit or the last blank.
use Rattle.std.specs.Prelude.{◌≡◌, refl, Bool, true, false, List, [], ◌∷◌, ◌++◌, ◌⊎◌, ℕ, zero, suc, ◌+◌, ◌*◌, ◌-◌, ◌<◌, ◌≤◌, length, get_or}
use Rattle.std.proofs.Common.{sym, ap, ◌∙◌, append_assoc, inl, inr, arith}
use Rattle.std.proofs.Math.Option.{Option, none, some}
use Rattle.std.proofs.Math.Decide.{dec_lt, ℕ_discrete}
use Rattle.mapfile.specs.Header.{
  Blank,
  LineEnd,
  Items,
  no_items,
  blank_item,
  comment_item,
  Separator,
  Digit,
  value_from,
  most_digits,
  Number,
  last_blank_lem,
  next_number_lem,
  Header,
}
use Rattle.mapfile.specs.HeaderWorking.{
  blank_dec,
  line_end_dec,
  digit_dec,
  end_items,
  after_items,
  after_comment,
  items_none,
  items_hash,
  items_blank,
  items_stop,
  comment_none,
  comment_ends,
  comment_goes_on,
  value,
  no_value,
  end_number,
  number_from,
  number_none,
  number_digit,
  number_many,
  number_stop,
  number_after,
  next_number,
  last_blank,
  last_blank_none,
  last_blank_there,
  last_blank_other,
  GivesNumbers,
}

-- Items before the rest, with a blank among them unless one was seen before.
pub record ItemsBefore (l rest : List ℕ) (seen : Bool) : Type 0 where
  pub front : List ℕ
  pub blanks : ℕ
  pub items : Items blanks front
  pub is : l ≡ front ++ rest
  pub some : (seen ≡ true) ⊎ (1 ≤ blanks)

-- The rest of a comment, up to its end, and items after it.
pub record CommentBefore (l rest : List ℕ) (seen : Bool) : Type 0 where
  pub text : List ℕ
  pub end : ℕ
  pub no_line_end : (k : ℕ) → k < length text → ¬ LineEnd (get_or text k 0)
  pub ended : LineEnd end
  pub left : List ℕ
  pub is : l ≡ text ++ end ∷ left
  pub after : ItemsBefore left rest seen

never_some : {A : Type 0} {a : A} → none ≡ some a → ⊥
never_some e = let z : ◌≡◌ {A = ℕ} 0 1 = cc in omega arith

never_value : {v : ℕ} {l : List ℕ} → no_value ≡ value v l → ⊥
never_value e = let z : ◌≡◌ {A = ℕ} 0 1 = cc in omega arith

never_true : {B : Type 0} → false ≡ true → B
never_true e = let z : ◌≡◌ {A = ℕ} 0 1 = cc in absurd (omega arith)

end_items_lem : (seen : Bool) (l rest : List ℕ) → end_items seen l ≡ some rest → ItemsBefore l rest seen
unfolding end_items
end_items_lem true l rest e = record { front = []; blanks = 0; items = no_items refl refl; is = cc; some = inl refl }
end_items_lem false l rest e = absurd (never_some e)

blank_before : {b : ℕ} {l rest : List ℕ} (seen : Bool) → Blank b → ItemsBefore l rest true → ItemsBefore (b ∷ l) rest seen
blank_before {b} seen q i =
    record {
      front = b ∷ i.front;
      blanks = i.blanks + 1;
      items = blank_item b q i.items refl refl;
      is = ap (λ (m : List ℕ). b ∷ m) i.is;
      some = inr (omega arith);
    }

comment_before : {b : ℕ} {l rest : List ℕ} {seen : Bool} → b ≡ 35 → CommentBefore l rest seen → ItemsBefore (b ∷ l) rest seen
comment_before {b} {l} {rest} {seen} q c =
    record {
      front = (35 ∷ c.text ++ c.end ∷ []) ++ c.after.front;
      blanks = c.after.blanks;
      items =
          comment_item (35 ∷ c.text ++ c.end ∷ [])
          (record { text = c.text; end = c.end; no_line_end = c.no_line_end; ended = c.ended; is = refl })
          c.after.items
          refl;
      is = whole;
      some = c.after.some;
    }
  where
    whole : b ∷ l ≡ ((35 ∷ c.text ++ c.end ∷ []) ++ c.after.front) ++ rest
    whole = rw (q, c.is, c.after.is) (simp append_assoc)

-- Of a byte and a list, that no byte ends a line.
no_line_end_more : {b : ℕ} (text : List ℕ) → ¬ LineEnd b → ((k : ℕ) → k < length text → ¬ LineEnd (get_or text k 0)) → (k : ℕ)
    → k < length (b ∷ text) → ¬ LineEnd (get_or (b ∷ text) k 0)
no_line_end_more text p all zero m = p
no_line_end_more text p all (suc k) m = all k (omega arith)

text_before : {b : ℕ} {l rest : List ℕ} {seen : Bool} → ¬ LineEnd b → CommentBefore l rest seen → CommentBefore (b ∷ l) rest seen
text_before {b} p c =
    record {
      text = b ∷ c.text;
      end = c.end;
      no_line_end = no_line_end_more c.text p c.no_line_end;
      ended = c.ended;
      left = c.left;
      is = ap (λ (m : List ℕ). b ∷ m) c.is;
      after = c.after;
    }

mutual
  pub items_sound : (l : List ℕ) (seen : Bool) (rest : List ℕ) → after_items l seen ≡ some rest → ItemsBefore l rest seen
  items_sound [] seen rest e = end_items_lem seen [] rest (sym (items_none seen) ∙ e)
  items_sound (b ∷ l) seen rest e = go (ℕ_discrete b 35) (blank_dec b) (λ q. items_sound l true rest q) (λ q. comment_sound l seen rest q)
    where
      go : Dec (b ≡ 35) → Dec (Blank b) → (after_items l true ≡ some rest → ItemsBefore l rest true)
          → (after_comment l seen ≡ some rest → CommentBefore l rest seen) → ItemsBefore (b ∷ l) rest seen
      go (yes p) q more comment = comment_before p (comment (sym (items_hash l seen p) ∙ e))
      go (no p) (yes q) more comment = blank_before seen q (more (sym (items_blank l seen q) ∙ e))
      go (no p) (no q) more comment = end_items_lem seen (b ∷ l) rest (sym (items_stop l seen q p) ∙ e)

  pub comment_sound : (l : List ℕ) (seen : Bool) (rest : List ℕ) → after_comment l seen ≡ some rest → CommentBefore l rest seen
  comment_sound [] seen rest e = absurd (never_some (sym (comment_none seen) ∙ e))
  comment_sound (b ∷ l) seen rest e = go (line_end_dec b) (λ q. items_sound l seen rest q) (λ q. comment_sound l seen rest q)
    where
      go : Dec (LineEnd b) → (after_items l seen ≡ some rest → ItemsBefore l rest seen)
          → (after_comment l seen ≡ some rest → CommentBefore l rest seen) → CommentBefore (b ∷ l) rest seen
      go (yes p) more comment =
          record {
            text = [];
            end = b;
            no_line_end = λ k m. absurd (omega arith);
            ended = p;
            left = l;
            is = refl;
            after = more (sym (comment_ends l seen p) ∙ e);
          }
      go (no p) more comment = text_before p (comment (sym (comment_goes_on l seen p) ∙ e))

-- Digits before the rest, after n of them with value v.
pub record DigitsBefore (l rest : List ℕ) (n v u : ℕ) : Type 0 where
  pub front : List ℕ
  pub digits : (k : ℕ) → k < length front → Digit (get_or front k 0)
  pub is : l ≡ front ++ rest
  pub some : 1 ≤ n + length front
  pub few : n + length front ≤ most_digits
  pub value : u ≡ value_from v front

digits_more : {b : ℕ} (front : List ℕ) → Digit b → ((k : ℕ) → k < length front → Digit (get_or front k 0)) → (k : ℕ) → k < length (b ∷ front)
    → Digit (get_or (b ∷ front) k 0)
digits_more front d all zero m = d
digits_more front d all (suc k) m = all k (omega arith)

end_number_lem : (n v u : ℕ) (l rest : List ℕ) → n ≤ most_digits → end_number n v l ≡ value u rest → DigitsBefore l rest n v u
unfolding end_number value_from
end_number_lem zero v u l rest few e = absurd (never_value e)
end_number_lem (suc n) v u l rest few e =
    record { front = []; digits = λ k m. absurd (omega arith); is = cc; some = omega arith; few = omega arith; value = cc }

digit_before : {b u : ℕ} {l rest : List ℕ} (n v : ℕ) → Digit b → DigitsBefore l rest (suc n) (v * 10 + (b - 48)) u → DigitsBefore (b ∷ l) rest n v u
unfolding value_from
digit_before {b} n v d f =
    record {
      front = b ∷ f.front;
      digits = digits_more f.front d f.digits;
      is = ap (λ (m : List ℕ). b ∷ m) f.is;
      some = omega arith;
      few = omega (arith, f.few);
      value = f.value;
    }

pub number_sound : (l : List ℕ) (n v : ℕ) (u : ℕ) (rest : List ℕ) → n ≤ most_digits → number_from l n v ≡ value u rest → DigitsBefore l rest n v u
number_sound [] n v u rest few e = end_number_lem n v u [] rest few (sym (number_none n v) ∙ e)
number_sound (b ∷ l) n v u rest few e = go (digit_dec b) (dec_lt n most_digits) (number_sound l (suc n) (v * 10 + (b - 48)) u rest)
  where
    go : Dec (Digit b) → Dec (n < most_digits)
        → (suc n ≤ most_digits → number_from l (suc n) (v * 10 + (b - 48)) ≡ value u rest → DigitsBefore l rest (suc n) (v * 10 + (b - 48)) u)
        → DigitsBefore (b ∷ l) rest n v u
    go (yes d) (yes m) more = digit_before n v d (more m (sym (number_digit l n v d m) ∙ e))
    go (yes d) (no m) more = absurd (never_value (sym (number_many l n v d m) ∙ e))
    go (no d) m more = end_number_lem n v u (b ∷ l) rest few (sym (number_stop l n v d) ∙ e)

-- A separator and a number before the rest.
pub record NumberBefore (l rest : List ℕ) (v : ℕ) : Type 0 where
  pub gap : List ℕ
  pub front : List ℕ
  pub separator : Separator gap
  pub number : Number v front
  pub is : l ≡ gap ++ front ++ rest

pub next_sound : (l : List ℕ) (v : ℕ) (rest : List ℕ) → next_number l ≡ value v rest → NumberBefore l rest v
unfolding next_number number_after
next_sound l v rest e = go (after_items l false) refl e
  where
    separated : (m : List ℕ) → ItemsBefore l m false → DigitsBefore m rest 0 0 v → NumberBefore l rest v
    separated m i d =
        record {
          gap = i.front;
          front = d.front;
          separator = record { blanks = i.blanks; some = seen i.some; items = i.items };
          number = record { digits = d.digits; some = omega (arith, d.some); few = omega (arith, d.few); value = d.value };
          is = i.is ∙ ap (λ (k : List ℕ). i.front ++ k) d.is ∙ sym (append_assoc i.front d.front rest);
        }
      where
        seen : (false ≡ true) ⊎ (1 ≤ i.blanks) → 1 ≤ i.blanks
        seen (inl q) = never_true q
        seen (inr q) = q

    go : (o : Option (List ℕ)) → after_items l false ≡ o → number_after o ≡ value v rest → NumberBefore l rest v
    go none q f = absurd (never_value f)
    go (some m) q f = separated m (items_sound l false m q) (number_sound m 0 0 v rest (omega arith) f)

pub blank_sound : (l rest : List ℕ) → last_blank l ≡ some rest → (b : ℕ) × Blank b × (l ≡ b ∷ rest)
blank_sound [] rest e = absurd (never_some (sym last_blank_none ∙ e))
blank_sound (b ∷ l) rest e = go (blank_dec b)
  where
    go : Dec (Blank b) → (a : ℕ) × Blank a × (b ∷ l ≡ a ∷ rest)
    go (yes p) = (b, p, (let q : some l ≡ some rest = sym (last_blank_there l p) ∙ e in cc))
    go (no p) = absurd (never_some (sym (last_blank_other l p) ∙ e))

-- Soundness: what gives numbers is a header.
pub header_sound : (vs l rest : List ℕ) → GivesNumbers vs l rest → Header vs l rest
unfolding GivesNumbers
header_sound [] l rest g =
    let f = blank_sound l rest g in
    record { bytes = f.0 ∷ []; numbers = last_blank_lem f.0 f.1 refl refl; is = f.2 }
header_sound (v ∷ vs) l rest g = joined (next_sound l v g.0 g.1) (header_sound vs g.0 rest g.2)
  where
    joined : NumberBefore l g.0 v → Header vs g.0 rest → Header (v ∷ vs) l rest
    joined n k =
        record {
          bytes = n.gap ++ n.front ++ k.bytes;
          numbers = next_number_lem v n.gap n.front k.bytes n.separator n.number k.numbers refl refl;
          is = n.is ∙ ap (λ (m : List ℕ). n.gap ++ n.front ++ m) k.is ∙ sym (append_assoc (n.gap ++ n.front) k.bytes rest);
        }
