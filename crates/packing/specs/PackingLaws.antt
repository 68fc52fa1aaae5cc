-- Packing: a column's bit is 1 exactly at a mark, a byte made by doubling has each bit at its
-- place, and piece r of equally long pieces begins at r times their length.
use Rattle.std.specs.Prelude.{◌≡◌, Bool, ◌&&◌, List, ◌++◌, length}
use Rattle.std.proofs.Common.{◌∙◌, pow-suc, suc-mul, mul-le-mul_right, add-one, get_or-append-add}
use Rattle.std.proofs.Math.Bool.{true, false}
use Prim.Native.Nat.{ℕ, zero, suc, ◌+◌, ◌*◌, ◌-◌, ◌/◌, ◌%◌, ◌^◌, ◌<◌, ◌≤◌}
use native.Mathlib.Omega.{arith}
use Rattle.std.proofs.Math.Decide.{dec_lt}
use Rattle.std.proofs.Math.Dec.{ltb}
use Rattle.std.proofs.Math.ListN.{get_or, length-append, get_or-append}
use borrow.Author.Tests.{lt-ltb, le-ltb}
use Rattle.field.specs.Workings.Sheet.{bit}
use Rattle.mapfile.proofs.PackedLaws.{bit_lowest, bit_higher}
use Rattle.packing.specs.Packing.{rock_bit, packed, pieces}

module _ (s : List ℕ) (from w x : ℕ) where
  pub rock_bit_marked : x < w → 0 < get_or s (from + x) 0 → rock_bit s from w x ≡ 1
  unfolding rock_bit
  rock_bit_marked a b = rw (lt-ltb x w a, lt-ltb 0 (get_or s (from + x) 0) b)

  pub rock_bit_bare : x < w → get_or s (from + x) 0 ≡ 0 → rock_bit s from w x ≡ 0
  unfolding rock_bit
  rock_bit_bare a b = rw (lt-ltb x w a, b)

  pub rock_bit_past : w ≤ x → rock_bit s from w x ≡ 0
  unfolding rock_bit
  rock_bit_past a = rw (le-ltb x w a)

  pub rock_bit_small : rock_bit s from w x ≤ 1
  unfolding rock_bit
  rock_bit_small = small (ltb x w && ltb 0 (get_or s (from + x) 0))
    where
      small : (b : Bool) → bit b ≤ 1
      small true = omega arith
      small false = omega arith

-- Bits packed into a number.
module _ (f : ℕ → ℕ) (small : (x : ℕ) → f x ≤ 1) (x : ℕ) where
  pub packed_lt : (n : ℕ) → packed f x n < 2 ^ n
  unfolding packed
  packed_lt zero = omega arith
  packed_lt (suc n) = rw (pow-suc 2 n) (omega (arith, packed_lt n, small (x + n)))

  pub packed_bit_lem : (n j : ℕ) → j < n → packed f x n / 2 ^ (n - (j + 1)) % 2 ≡ f (x + j)
  unfolding packed
  packed_bit_lem zero j h = absurd (omega arith)
  packed_bit_lem (suc n) j h = go (dec_lt j n) (λ m. packed_bit_lem n j m)
    where
      whole : ℕ
      whole = packed f x n * 2 + f (x + n)

      go : Dec (j < n) → (j < n → packed f x n / 2 ^ (n - (j + 1)) % 2 ≡ f (x + j)) → whole / 2 ^ (suc n - (j + 1)) % 2 ≡ f (x + j)
      go (yes m) before =
          let place : suc n - (j + 1) ≡ suc (n - (j + 1)) = omega arith in
          let half : whole / 2 ≡ packed f x n = omega (arith, small (x + n)) in
          rw (place, bit_higher whole (n - (j + 1)), half) (before m)
      go (no m) before =
          let place : suc n - (j + 1) ≡ 0 = omega arith in
          let last : j ≡ n = omega arith in
          rw (place, bit_lowest whole, last) (omega (arith, small (x + n)))

-- Of n equally long pieces each ends within them all.
pub piece_end : (r n m : ℕ) → r < n → r * m + m ≤ n * m
piece_end r n m h = rw (suc-mul r m) at (mul-le-mul_right {m = suc r} {n = n} m h)

-- So a row of h ends within all that they have.
pub row_ends : (r h m n : ℕ) → r < h → n ≡ h * m → r * m + m ≤ n
row_ends r h m n l e = omega (arith, piece_end r h m l)

pub pieces_more : {A : Type 0} (n : ℕ) (f : ℕ → List A) → pieces (n + 1) f ≡ pieces n f ++ f n
unfolding pieces
pieces_more n f = rw add-one

module _ (f : ℕ → List ℕ) (m : ℕ) (long : (r : ℕ) → length (f r) ≡ m) where
  pub pieces_length : (n : ℕ) → length (pieces n f) ≡ n * m
  unfolding pieces
  pieces_length zero = omega arith
  pieces_length (suc n) = length-append (pieces n f) (f n) ∙ rw (suc-mul n m) (omega (arith, pieces_length n, long n))

  pub pieces_at : (n r k : ℕ) → r < n → k < m → get_or (pieces n f) (r * m + k) 0 ≡ get_or (f r) k 0
  unfolding pieces
  pieces_at zero r k a b = absurd (omega arith)
  pieces_at (suc n) r k a b = go (dec_lt r n) (λ c. pieces_at n r k c b)
    where
      go : Dec (r < n) → (r < n → get_or (pieces n f) (r * m + k) 0 ≡ get_or (f r) k 0) → get_or (pieces n f ++ f n) (r * m + k) 0 ≡ get_or (f r) k 0
      go (yes c) before =
          let end : r * m + m ≤ n * m = piece_end r n m c in
          get_or-append (pieces n f) (f n) 0 (r * m + k) (omega (arith, pieces_length n)) ∙ before c
      go (no c) before =
          let last : r ≡ n = omega arith in
          rw (last, ← pieces_length n) (get_or-append-add (pieces n f) (f n) k 0)
