-- Eight bytes at a time: eight bytes of 0 and 1 to eight bits and back.
use Rattle.std.specs.Prelude.{◌≡◌, List, ℕ, ◌+◌, ◌*◌, ◌/◌, ◌%◌, ◌^◌, ◌<◌, ◌≤◌, length, get_or}
use Rattle.std.specs.Int.Bits.{bit_and, bit_or}
use Rattle.bits.specs.Bit.{bit_at}
use Rattle.words.specs.Words.{ZeroOne, byte_of}

-- n bytes of a sheet of 0 and 1 from number i on.
pub record LookingAt (i n : ℕ) (s : List ℕ) : Type 0 where
  pub ones : ZeroOne s
  pub in_sheet : i + n ≤ length s

-- Four bytes as one number, the lowest first.
abbrev pub four_of : (a b c d : ℕ) → ℕ
four_of a b c d = a + 0x100 * b + 0x1_0000 * c + 0x100_0000 * d

pub record LookedFour (i : ℕ) (s : List ℕ) (r : ℕ) : Type 0 where
  pub is : r ≡ four_of (get_or s i 0) (get_or s (i + 1) 0) (get_or s (i + 2) 0) (get_or s (i + 3) 0)
  pub most : r ≤ 0x0101_0101

-- Eight bytes, as the low eight bits of r.
pub record LookedEight (i : ℕ) (s : List ℕ) (r : ℕ) : Type 0 where
  pub bits : (j : ℕ) → j < 8 → bit_at r j ≡ get_or s (i + j) 0
  pub small : r < 256

-- What the machine computes where it gathers eight bits that stand four apart, and where it spreads
-- eight bits out into eight bytes.
unfoldable pub gathered : ℕ → ℕ
gathered v = bit_and (v * 0x0020_4081 / 2 ^ 21) 255

unfoldable pub spread_out : ℕ → ℕ
spread_out v =
    let a : ℕ = bit_and (bit_or v (v * 2 ^ 28 % 2 ^ 64)) 0x0000_000f_0000_000f in
    let b : ℕ = bit_and (bit_or a (a * 2 ^ 14 % 2 ^ 64)) 0x0003_0003_0003_0003 in
    bit_and (bit_or b (b * 2 ^ 7 % 2 ^ 64)) 0x0101_0101_0101_0101

-- The first n bytes of the word v stand from number i on.
pub record Puts (i v n : ℕ) (s t : List ℕ) : Type 0 where
  pub size : length t ≡ length s
  pub before : (k : ℕ) → k < i → get_or t k 0 ≡ get_or s k 0
  pub after : (k : ℕ) → i + n ≤ k → get_or t k 0 ≡ get_or s k 0
  pub inside : (j : ℕ) → j < n → get_or t (i + j) 0 ≡ v / 2 ^ (8 * j) % 256

-- Byte j of r is 1 for bit j of a, 2 for bit j of b.
pub record Bytes (a b r : ℕ) : Type 0 where
  pub bytes : (j : ℕ) → j < 8 → r / 2 ^ (8 * j) % 256 ≡ byte_of a b j
  pub small : r < 2 ^ 64
