-- The bits of a word, and what it means for a word to be made of others' bits. Bits are the numbers
-- 0 and 1, and each meaning is linear in them.
use Rattle.std.specs.Prelude.{◌≡◌, ℕ, ◌+◌, ◌-◌, ◌/◌, ◌%◌, ◌^◌, ◌<◌, ◌≤◌}

-- Bit i of v, the lowest first.
unfoldable pub bit_at : ℕ → ℕ → ℕ
bit_at v i = v / 2 ^ i % 2

-- The bit m is 1 exactly where a and b are; exactly where a or b is.
pub record Both (a b m : ℕ) : Type 0 where
  pub left : m ≤ a
  pub right : m ≤ b
  pub both : a + b ≤ m + 1

pub record Either (a b m : ℕ) : Type 0 where
  pub left : a ≤ m
  pub right : b ≤ m
  pub either : m ≤ a + b

-- A row goes on from word to word of n bits, to the east from low to high. r has at bit i what
-- stands one to the east of bit i of v, where u is the next word to the east; and the same to the
-- west.
pub record EastOf (n v u r : ℕ) : Type 0 where
  pub inner : (i : ℕ) → i + 1 < n → bit_at r i ≡ bit_at v (i + 1)
  pub carry : bit_at r (n - 1) ≡ bit_at u 0

pub record WestOf (n v u r : ℕ) : Type 0 where
  pub inner : (i : ℕ) → i + 1 < n → bit_at r (i + 1) ≡ bit_at v i
  pub carry : bit_at r 0 ≡ bit_at u (n - 1)

-- v has the low k bits and no other.
pub record Mask (k v : ℕ) : Type 0 where
  pub has : (i : ℕ) → i < k → bit_at v i ≡ 1
  pub only : (i : ℕ) → bit_at v i ≡ 1 → i < k
