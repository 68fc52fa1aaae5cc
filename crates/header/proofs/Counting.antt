-- A header being read: after k numbers, what is left leads to the same header, and these k numbers
-- stand before what is read of it.
use mathlib.Core.Path.{◌≡◌, refl, sym, ap, subst, ◌∙◌}
use mathlib.Core.List.{List, [], ◌∷◌, ◌++◌}
use mathlib.Core.Option.{none, some}
use Prim.Native.Nat.{ℕ, suc, ◌+◌, ◌-◌, ◌<◌, ◌≤◌}
use native.Mathlib.Omega.{arith}
use native.Mathlib.Numerals.{add-one}
use lib.ListN.{length, take, drop, set, length-set}
use lib.Seq.{take-suc-set, take-length}
use Rattle.mapfile.specs.HeaderWorking.{value, no_value, next_number, last_blank}
use Rattle.mapfile.specs.HeadingWorking.{no_heading, heading_of, onto_all, HeadingTold}
use Rattle.mapfile.proofs.HeadingWorking.{heading_told, onto_more, onto_none, onto_last, heading_more, heading_none, heading_last, heading_no_last}
use Rattle.std.proofs.Common.{Option as Maybe, Some, None}
use Rattle.header.specs.HeaderParts.{GapRead, HeadFound, NoHead, HeadRead}

pub record Counting (s : List ℕ) (at n : ℕ) (numbers : List ℕ) (k i : ℕ) : Type 0 where
  pub within : i ≤ length s
  pub few : k ≤ n
  pub size : length numbers ≡ n
  pub same : heading_of n (drop at s) ≡ onto_all (take k numbers) (heading_of (n - k) (drop i s))

pub counting_start : (s : List ℕ) (at : ℕ) (numbers : List ℕ) → at ≤ length s → Counting s at (length numbers) numbers 0 at
unfolding onto_all
counting_start s at numbers l =
    let whole : length numbers - 0 ≡ length numbers = omega arith in
    record { within = l; few = omega arith; size = refl; same = ap (λ (n : ℕ). heading_of n (drop at s)) (sym whole) }

-- The answer where the working reads no header.
missing : (s : List ℕ) (at n : ℕ) → heading_of n (drop at s) ≡ no_heading → NoHead s at n
missing s at n e = subst (HeadingTold n (drop at s)) e (heading_told n (drop at s))

module _ {s : List ℕ} {at n : ℕ} {numbers : List ℕ} {k i : ℕ} (c : Counting s at n numbers k i) where
  -- One number more.
  pub counting_more : (v e : ℕ) → k < n → e ≤ length s → next_number (drop i s) ≡ value v (drop e s) → Counting s at n (set numbers k v) (k + 1) e
  counting_more v e l b q =
      record {
        within = b;
        few = omega arith;
        size = length-set numbers k v ∙ c.size;
        same = c.same ∙ ap (onto_all (take k numbers)) (ap (λ (m : ℕ). heading_of m (drop i s)) left ∙ heading_more (n - (k + 1)) (drop i s) (drop e s) v q) ∙ sym (ap (λ (l : List ℕ). onto_all l (heading_of (n - (k + 1)) (drop e s))) taken ∙ onto_more (take k numbers) v (heading_of (n - (k + 1)) (drop e s)));
      }
    where
      left : n - k ≡ suc (n - (k + 1))
      left = omega arith

      taken : take (k + 1) (set numbers k v) ≡ take k numbers ++ v ∷ []
      taken = ap (λ (m : ℕ). take m (set numbers k v)) (add-one k) ∙ take-suc-set numbers k v (omega (arith, c.size))

  -- No number where one must be.
  pub counting_stops : k < n → next_number (drop i s) ≡ no_value → NoHead s at n
  counting_stops l q =
      missing s at n (c.same ∙ ap (onto_all (take k numbers)) (ap (λ (m : ℕ). heading_of m (drop i s)) left ∙ heading_none (n - (k + 1)) (drop i s) q) ∙ onto_none (take k numbers))
    where
      left : n - k ≡ suc (n - (k + 1))
      left = omega arith

  -- All numbers are read: the last blank follows, or there is no header.
  module _ (all : n ≤ k) where
    whole : heading_of n (drop at s) ≡ onto_all numbers (heading_of 0 (drop i s))
    whole =
        let none_left : n - k ≡ 0 = omega arith in
        let full : k ≡ length numbers = omega (arith, c.few, c.size) in
        c.same ∙ ap (λ (m : ℕ). onto_all (take k numbers) (heading_of m (drop i s))) none_left
        ∙ ap (λ (l : List ℕ). onto_all l (heading_of 0 (drop i s))) (ap (λ (m : ℕ). take m numbers) full ∙ take-length numbers)

    ends : (e : ℕ) → e ≤ length s → last_blank (drop i s) ≡ some (drop e s) → HeadFound s at numbers e
    ends e b q =
        record {
          within = b;
          header = (subst (HeadingTold n (drop at s)) (whole ∙ ap (onto_all numbers) (heading_last (drop i s) (drop e s) q) ∙ onto_last numbers (drop e s)) (heading_told n (drop at s))).1;
        }

    unended : last_blank (drop i s) ≡ none → NoHead s at (length numbers)
    unended q =
        missing s at (length numbers) (ap (λ (m : ℕ). heading_of m (drop at s)) c.size ∙ whole ∙ ap (onto_all numbers) (heading_no_last (drop i s) q) ∙ onto_none numbers)

    pub counting_ends : (r : Maybe ℕ) → GapRead s (last_blank (drop i s)) r → HeadRead s at numbers r
    counting_ends (Some e) g = ends e g.0 g.1
    counting_ends None g = unended g
