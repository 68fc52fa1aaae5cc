-- Packed bytes by their bits. Doubling a number and adding a bit moves its bits up by one; so a
-- number below 2 ^ n is fixed by its n bits, a byte by eight, and packed rows by the rocks that
-- they show.
use Rattle.std.specs.Prelude.{◌≡◌, List, ℕ, zero, suc, ◌+◌, ◌*◌, ◌-◌, ◌/◌, ◌%◌, ◌^◌, ◌<◌, get_or}
use Rattle.std.proofs.Common.{sym, ap, ◌∙◌, arith, pow-suc, div-one, one-add, shr-shr, ext_get_or}
use Rattle.std.proofs.Math.Decide.{dec_lt}
use Rattle.field.specs.Map.{On}
use Rattle.field.specs.Workings.Sheet.{Crossing, crossing}
use Rattle.mapfile.specs.Raster.{row_bytes, packed_bit}
use Rattle.mapfile.specs.Written.{PackedRows}

-- The lowest bit, and each higher one by the number's half.
pub bit_lowest : (n : ℕ) → n / 2 ^ 0 % 2 ≡ n % 2
bit_lowest n = ap (λ (m : ℕ). m % 2) (div-one n)

pub bit_higher : (n k : ℕ) → n / 2 ^ suc k % 2 ≡ n / 2 / 2 ^ k % 2
bit_higher n k = ap (λ (m : ℕ). m % 2) (ap (λ (m : ℕ). n / 2 ^ m) (sym (one-add k)) ∙ sym (shr-shr n 1 k))

-- A number of n bits is fixed by them.
pub bits_same : (n a b : ℕ) → a < 2 ^ n → b < 2 ^ n → ((k : ℕ) → k < n → a / 2 ^ k % 2 ≡ b / 2 ^ k % 2) → a ≡ b
bits_same zero a b p q f = omega arith
bits_same (suc n) a b p q f =
    let u : a < 2 ^ n * 2 = rw (pow-suc 2 n) at p in
    let v : b < 2 ^ n * 2 = rw (pow-suc 2 n) at q in
    let low : a % 2 ≡ b % 2 = sym (bit_lowest a) ∙ f 0 (omega arith) ∙ bit_lowest b in
    let high : a / 2 ≡ b / 2 =
    bits_same n (a / 2) (b / 2) (omega arith) (omega arith) (λ k h. sym (bit_higher a k) ∙ f (suc k) (omega arith) ∙ bit_higher b k) in
    omega arith

-- Bit j of a row's k-th byte, counted from the west, is the bit of column k * 8 + j.
pub packed_at : (w : ℕ) (l : List ℕ) (r k j : ℕ) → j < 8 → packed_bit w l r (k * 8 + j) ≡ get_or l (r * row_bytes w + k) 0 / 2 ^ (7 - j) % 2
unfolding packed_bit
packed_at w l r k j h =
    let byte : (k * 8 + j) / 8 ≡ k = omega arith in
    let place : (k * 8 + j) % 8 ≡ j = omega arith in
    rw (byte, place)

-- It can be told of each crossing of the map whether it is in R.
abbrev pub Tellable : ℕ → ℕ → (ℕ → ℕ → Type 0) → Type 0
Tellable w h R = (x y : ℕ) → On w h x y → Dec (R x y)

module _ (w h : ℕ) (R : ℕ → ℕ → Type 0) (told : Tellable w h R) (l k : List ℕ) (p : PackedRows w h R l) (q : PackedRows w h R k) where
  -- The two agree at each bit: at a crossing by R, and pad bits are 0.
  packed_same : (r x : ℕ) → r < h → x < row_bytes w * 8 → packed_bit w l r x ≡ packed_bit w k r x
  packed_same r x a b = go (dec_lt x w)
    where
      rock : x < w → Dec (R x (h - (r + 1))) → packed_bit w l r x ≡ packed_bit w k r x
      rock c (yes m) = p.rock r x a c m ∙ sym (q.rock r x a c m)
      rock c (no m) = p.free r x a c m ∙ sym (q.free r x a c m)

      go : Dec (x < w) → packed_bit w l r x ≡ packed_bit w k r x
      go (yes c) = rock c (told x (h - (r + 1)) (record { in_x = c; in_y = omega arith }))
      go (no c) = p.pad r x a (omega arith) b ∙ sym (q.pad r x a (omega arith) b)

  -- So they agree at each byte.
  byte_same : (i : ℕ) → Crossing (row_bytes w) h i → get_or l i 0 ≡ get_or k i 0
  byte_same i c = bits_same 8 (get_or l i 0) (get_or k i 0) (p.bytes i) (q.bytes i) bit
    where
      bit : (j : ℕ) → j < 8 → get_or l i 0 / 2 ^ j % 2 ≡ get_or k i 0 / 2 ^ j % 2
      bit j m =
          let back : 7 - (7 - j) ≡ j = omega arith in
          let in_row : c.x * 8 + (7 - j) < row_bytes w * 8 = omega (arith, c.on.in_x) in
          let same = packed_same c.y (c.x * 8 + (7 - j)) c.on.in_y in_row in
          rw (← back, ← c.is)
          (sym (packed_at w l c.y c.x (7 - j) (omega arith)) ∙ same ∙ packed_at w k c.y c.x (7 - j) (omega arith))

  pub packed_one : l ≡ k
  packed_one =
      ext_get_or 0 l k (p.size ∙ sym q.size) (λ i m. byte_same i (crossing (row_bytes w) h i (omega (arith, p.size))))
