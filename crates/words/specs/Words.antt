-- A part of a sheet and a word: bytes of 0 and 1 read as bits, labels written from the bits of two
-- words, and the number of set bits.
use Rattle.std.specs.Prelude.{◌≡◌, List, ℕ, ◌+◌, ◌*◌, ◌^◌, ◌<◌, ◌≤◌, length, get_or}
use Rattle.std.specs.Int.Count.{ones}
use Rattle.bits.specs.Bit.{bit_at}

-- A sheet of 0 and 1.
abbrev pub ZeroOne : List ℕ → Type 0
ZeroOne s = (k : ℕ) → get_or s k 0 ≤ 1

pub record ReadingWord (i n : ℕ) (s : List ℕ) : Type 0 where
  pub ones : ZeroOne s
  pub in_sheet : i + n ≤ length s
  pub most_n : n ≤ 64

-- v has the x bytes from number i on as bits, and no other bit.
pub record Reads (i : ℕ) (s : List ℕ) (x v : ℕ) : Type 0 where
  pub upto : (k : ℕ) → k < x → bit_at v k ≡ get_or s (i + k) 0
  pub past : (k : ℕ) → x ≤ k → bit_at v k ≡ 0
  pub fits : v < 2 ^ 64

-- The byte of bit i: 1 where ro has it, 2 where sh has it.
abbrev pub byte_of : ℕ → ℕ → ℕ → ℕ
byte_of ro sh i = bit_at ro i + 2 * bit_at sh i

-- The x bytes from number i on are written to s, which makes it t.
pub record WrittenAt (i ro sh : ℕ) (s t : List ℕ) (x : ℕ) : Type 0 where
  pub size : length t ≡ length s
  pub before : (k : ℕ) → k < i → get_or t k 0 ≡ get_or s k 0
  pub after : (k : ℕ) → i + x ≤ k → get_or t k 0 ≡ get_or s k 0
  pub inside : (k : ℕ) → k < x → get_or t (i + k) 0 ≡ byte_of ro sh k

-- r is the number of set bits.
pub record Ones (v r : ℕ) : Type 0 where
  pub is : r ≡ ones v
  pub most : r ≤ 64
