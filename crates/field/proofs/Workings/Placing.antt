-- A depot's four numbers are the sizes of the four sets wherever the tests tell what the meanings
-- say. The code's tests and those that the examples are computed with both go by this law.
use Rattle.std.specs.Prelude.{◌≡◌, refl, Bool, true, false, not, ◌&&◌, List, ◌↔◌}
use Rattle.std.proofs.Common.{◌∙◌, add-one, arith}
use Rattle.std.proofs.lemmas.Bool.{false≢true}
use Prim.Native.Nat.{ℕ, zero, suc, ◌+◌, ◌*◌}
use Rattle.field.specs.declared.Placing.{Placing}
use Rattle.field.specs.Map.{On}
use Rattle.field.specs.Labels.{Open, sum_to, Count}
use Rattle.field.specs.Distances.{Assured}
use Rattle.field.specs.Drives.{HasDrive}
use Rattle.field.specs.Depots.{all_zero, DrivenOnly, Stranded, Sizes}
use Rattle.field.specs.Workings.Tests.{bit, bit_le, and_split, and_both}
use Rattle.field.specs.Workings.Sheet.{Draws}
use Rattle.field.proofs.Workings.Counting.{tally, count_tests, sum_same}
use Rattle.field.proofs.Workings.AssuredLaws.{open_dec, assured_dec}
use Rattle.field.proofs.Workings.ReachLaws.{has_drive_dec}
use Rattle.field.specs.Workings.Placing.{adds, plus, total_to, total, AtMost}

pub total_none : (f : ℕ → Placing) → total_to 0 f ≡ all_zero
unfolding total_to
total_none f = refl

pub total_next : (n : ℕ) (f : ℕ → Placing) → total_to (n + 1) f ≡ plus (total_to n f) (f n)
unfolding total_to
total_next n f = rw add-one

pub adds_most : (o a m : Bool) → AtMost 1 (adds o a m)
adds_most o a m =
    record { opens_most = bit_le o; assured_most = bit_le (o && a); driven_most = bit_le (o && (not a && m)); stranded_most = bit_le (o && not m) }

pub total_most : (n k : ℕ) (f : ℕ → Placing) → ((i : ℕ) → AtMost k (f i)) → AtMost (n * k) (total_to n f)
unfolding total_to
total_most zero k f l = record { opens_most = omega arith; assured_most = omega arith; driven_most = omega arith; stranded_most = omega arith }
total_most (suc n) k f l =
    let p = total_most n k f l in
    let q = l n in
    record { opens_most = omega arith; assured_most = omega arith; driven_most = omega arith; stranded_most = omega arith }

-- One of the four numbers of a sum is the sum of that number.
module _ (part : Placing → ℕ) (none : part all_zero ≡ 0) (split : (p q : Placing) → part (plus p q) ≡ part p + part q) where
  part_to : (n : ℕ) (f : ℕ → Placing) → part (total_to n f) ≡ sum_to n (λ k. part (f k))
  unfolding total_to sum_to
  part_to zero f = none
  part_to (suc n) f = omega (arith, split (total_to n f) (f n), part_to n f)

  pub part_total : (w h : ℕ) (f : ℕ → ℕ → Placing) → part (total w h f) ≡ tally w h (λ x y. part (f x y))
  unfolding tally
  part_total w h f = part_to h (λ y. total_to w (λ x. f x y)) ∙ sum_same h _ _ (λ y l. part_to w (λ x. f x y))

-- Not, as a test.
not_looks : {P : Type 0} (b : Bool) → (P ↔ b ≡ true) → ((¬ P) ↔ not b ≡ true)
not_looks true k = (λ n. absurd (n (k.1 refl)), λ e. absurd (false≢true e))
not_looks false k = (λ n. refl, λ e p. false≢true (k.0 p))

module _ (w h : ℕ) (C : ℕ → ℕ → Type 0) (s : List ℕ) (D : Draws w h C s) (dx dy : ℕ) where
  -- The sets can be told.
  driven_dec : (x y : ℕ) → Dec (DrivenOnly w h C dx dy x y)
  driven_dec x y = go (open_dec w h C s D x y) (assured_dec w h C s D dx dy x y) (has_drive_dec w h C s D x y dx dy)
    where
      go : Dec (Open w h C x y) → Dec (Assured w h C dx dy x y) → Dec (HasDrive w h C x y dx dy) → Dec (DrivenOnly w h C dx dy x y)
      go (yes o) (no n) (yes v) = yes (record { is_open = o; not_assured = n; drive = v })
      go (no n) a v = no (λ k. n k.is_open)
      go (yes o) (yes a) v = no (λ k. k.not_assured a)
      go (yes o) (no n) (no m) = no (λ k. m k.drive)

  stranded_dec : (x y : ℕ) → Dec (Stranded w h C dx dy x y)
  stranded_dec x y = go (open_dec w h C s D x y) (has_drive_dec w h C s D x y dx dy)
    where
      go : Dec (Open w h C x y) → Dec (HasDrive w h C x y dx dy) → Dec (Stranded w h C dx dy x y)
      go (yes o) (no n) = yes (record { is_open = o; no_drive = n })
      go (no n) v = no (λ k. n k.is_open)
      go (yes o) (yes v) = no (λ k. k.no_drive v)

  -- Three tests that tell of each crossing whether it is open and, if it is, whether the depot is
  -- assured for it and whether it has a shortest drive.
  module _ (o a m : ℕ → ℕ → Bool) (opens : (x y : ℕ) → On w h x y → (Open w h C x y ↔ o x y ≡ true))
      (assures : (x y : ℕ) → Open w h C x y → (Assured w h C dx dy x y ↔ a x y ≡ true))
      (drives : (x y : ℕ) → Open w h C x y → (HasDrive w h C x y dx dy ↔ m x y ≡ true)) where
    -- A set of open crossings, told by one more test.
    told : {P : ℕ → ℕ → Type 0} (t : ℕ → ℕ → Bool) → ((x y : ℕ) → P x y → Open w h C x y) → ((x y : ℕ) → Open w h C x y → (P x y ↔ t x y ≡ true))
        → (x y : ℕ) → On w h x y → (P x y ↔ (o x y && t x y) ≡ true)
    told t is_open k x y on = (
      λ p. and_both _ _ ((opens x y on).0 (is_open x y p)) ((k x y (is_open x y p)).0 p),
      λ e. let f = and_split (o x y) (t x y) e in (k x y ((opens x y on).1 f.0)).1 f.1,
    )

    driven_only_looks : (x y : ℕ) → Open w h C x y → (DrivenOnly w h C dx dy x y ↔ (not (a x y) && m x y) ≡ true)
    driven_only_looks x y p = (
      λ k. and_both _ _ ((not_looks (a x y) (assures x y p)).0 k.not_assured) ((drives x y p).0 k.drive),
      λ e.
          let f = and_split (not (a x y)) (m x y) e in
          record { is_open = p; not_assured = (not_looks (a x y) (assures x y p)).1 f.0; drive = (drives x y p).1 f.1 },
    )

    stranded_looks : (x y : ℕ) → Open w h C x y → (Stranded w h C dx dy x y ↔ not (m x y) ≡ true)
    stranded_looks x y p = (
      λ k. (not_looks (m x y) (drives x y p)).0 k.no_drive,
      λ e. record { is_open = p; no_drive = (not_looks (m x y) (drives x y p)).1 e },
    )

    counted : {P : ℕ → ℕ → Type 0} (t : ℕ → ℕ → Bool) → ((x y : ℕ) → Dec (P x y)) → ((x y : ℕ) → On w h x y → (P x y ↔ t x y ≡ true)) → {n : ℕ}
        → n ≡ tally w h (λ x y. bit (t x y)) → Count w h P n
    counted {P} t d k e = let c = count_tests w h P t k d in (c.0, e ∙ c.1)

    -- The numbers that they add up to are the sizes of the sets.
    pub total_sizes : Sizes w h C dx dy (total w h (λ x y. adds (o x y) (a x y) (m x y)))
    total_sizes =
        record {
          open_count = counted o (open_dec w h C s D) opens (part_total (λ p. p.opens) refl (λ p q. refl) w h _);
          assured_count =
              counted (λ x y. o x y && a x y) (assured_dec w h C s D dx dy) (told a (λ x y k. k.place) assures)
              (part_total (λ p. p.assured) refl (λ p q. refl) w h _);
          driven_count =
              counted (λ x y. o x y && (not (a x y) && m x y)) driven_dec (told (λ x y. not (a x y) && m x y) (λ x y k. k.is_open) driven_only_looks)
              (part_total (λ p. p.driven) refl (λ p q. refl) w h _);
          stranded_count =
              counted (λ x y. o x y && not (m x y)) stranded_dec (told (λ x y. not (m x y)) (λ x y k. k.is_open) stranded_looks)
              (part_total (λ p. p.stranded) refl (λ p q. refl) w h _);
        }
