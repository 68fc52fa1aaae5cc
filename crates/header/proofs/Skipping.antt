-- What the two skippers keep true: after each byte that is passed, what is left leads to the same
-- end of the separator.
use mathlib.Core.Path.{◌≡◌, sym, ap, ◌∙◌}
use mathlib.Core.Bool.{Bool, true, false}
use mathlib.Core.List.{List}
use mathlib.Core.Option.{none}
use Prim.Native.Nat.{ℕ, ◌+◌, ◌<◌, ◌≤◌}
use native.Mathlib.Omega.{arith}
use lib.ListN.{length, get_or, drop, drop_of_length-le}
use Rattle.mapfile.specs.Header.{Blank, LineEnd}
use Rattle.mapfile.specs.HeaderWorking.{
  end_items,
  after_items,
  after_comment,
  items_none,
  items_hash,
  items_blank,
  items_stop,
  comment_none,
  comment_ends,
  comment_goes_on,
}
use Rattle.header.specs.Left.{left_cons}
use Rattle.header.specs.HeaderParts.{GapRead, gap_end, Past}
use Rattle.std.proofs.Common.{Option as Maybe}

-- At i, with what was seen so far, the items end where they end from `at`.
pub record SkippingBlanks (s : List ℕ) (at : ℕ) (seen : Bool) (i : ℕ) (any : Bool) : Type 0 where
  pub within : i ≤ length s
  pub past : Past i any
  pub same : after_items (drop at s) seen ≡ after_items (drop i s) any

module _ {s : List ℕ} {at i : ℕ} {seen any : Bool} (k : SkippingBlanks s at seen i any) where
  pub blanks_more : i < length s → Blank (get_or s i 0) → SkippingBlanks s at seen (i + 1) true
  blanks_more l b =
      record {
        within = omega arith;
        past = λ e. omega arith;
        same = k.same ∙ ap (λ (m : List ℕ). after_items m any) (left_cons s i l) ∙ items_blank (drop (i + 1) s) any b;
      }

  pub blanks_hash : (r : Maybe ℕ) → i < length s → get_or s i 0 ≡ 35 → GapRead s (after_comment (drop (i + 1) s) any) r → GapRead s (after_items (drop at s) seen) r
  blanks_hash r l e g =
      rw (k.same ∙ ap (λ (m : List ℕ). after_items m any) (left_cons s i l) ∙ items_hash (drop (i + 1) s) any e) g

  end_read : (b : Bool) → after_items (drop i s) any ≡ end_items b (drop i s) → (r : Maybe ℕ) → r ≡ gap_end i b → GapRead s (after_items (drop i s) any) r
  unfolding end_items
  end_read true e r q = rw q (k.within, e)
  end_read false e r q = rw q e

  pub blanks_stop : (r : Maybe ℕ) → i < length s → ¬ Blank (get_or s i 0) → ¬ (get_or s i 0 ≡ 35) → r ≡ gap_end i any → GapRead s (after_items (drop at s) seen) r
  blanks_stop r l b h q =
      rw k.same
      (end_read any
      (ap (λ (m : List ℕ). after_items m any) (left_cons s i l) ∙ items_stop (drop (i + 1) s) any b h ∙ ap (end_items any) (sym (left_cons s i l))) r q)

  pub blanks_end : (r : Maybe ℕ) → length s ≤ i → r ≡ gap_end (length s) any → GapRead s (after_items (drop at s) seen) r
  blanks_end r l p =
      let e : length s ≡ i = omega (arith, k.within) in
      let q : r ≡ gap_end i any = p ∙ ap (λ (n : ℕ). gap_end n any) e in
      rw k.same
      (end_read any (ap (λ (m : List ℕ). after_items m any) (drop_of_length-le s l) ∙ items_none any ∙ ap (end_items any) (sym (drop_of_length-le s l))) r q)

-- The same within a comment.
pub record SkippingComment (s : List ℕ) (at : ℕ) (seen : Bool) (i : ℕ) : Type 0 where
  pub within : i ≤ length s
  pub same : after_comment (drop at s) seen ≡ after_comment (drop i s) seen

module _ {s : List ℕ} {at i : ℕ} {seen : Bool} (k : SkippingComment s at seen i) where
  pub comment_more : i < length s → ¬ LineEnd (get_or s i 0) → SkippingComment s at seen (i + 1)
  comment_more l n =
      record {
        within = omega arith;
        same = k.same ∙ ap (λ (m : List ℕ). after_comment m seen) (left_cons s i l) ∙ comment_goes_on (drop (i + 1) s) seen n;
      }

  pub comment_end : (r : Maybe ℕ) → i < length s → LineEnd (get_or s i 0) → GapRead s (after_items (drop (i + 1) s) seen) r
      → GapRead s (after_comment (drop at s) seen) r
  comment_end r l e g =
      rw (k.same ∙ ap (λ (m : List ℕ). after_comment m seen) (left_cons s i l) ∙ comment_ends (drop (i + 1) s) seen e) g

  pub comment_open : length s ≤ i → after_comment (drop at s) seen ≡ none
  comment_open l = k.same ∙ ap (λ (m : List ℕ). after_comment m seen) (drop_of_length-le s l) ∙ comment_none seen
