-- From the bits to the labels and their numbers: the rocks' bits, the closed crossings' bits, and
-- the corners'.
use mathlib.Core.Path.{◌≡◌, sym, ap, ap₂, ◌∙◌}
use mathlib.Core.List.{List}
use mathlib.Core.Logic.{inl}
use Prim.Native.Nat.{ℕ, zero, suc, ◌+◌, ◌-◌, ◌*◌, ◌/◌, ◌%◌, ◌^◌, ◌<◌, ◌≤◌}
use native.Mathlib.Omega.{arith}
use native.Mathlib.Decide.{ℕ_discrete}
use lib.ListN.{get_or}
use lib.Bits.{or_lt}
use Rattle.field.specs.Map.{On, number, at}
use Rattle.field.specs.Labels.{Closed, rock, closed_on_map, closed_stable, smallest, Shut, RockOn, Label, is_open, is_rock, is_shut}
use Rattle.field.specs.Geometry.Shapes.{Corner}
use Rattle.field.proofs.Geometry.Theorems.{groups_corners}
use Rattle.field.proofs.Workings.Counting.{tally, sum_same}
use Rattle.bits.specs.Bit.{bit_at, Both, WestOf}
use Rattle.bits.specs.Laws.{bit_le, bit_and_lem, without, bit_without, without_lt}
use Rattle.bits.specs.Carries.{west_law}
use Rattle.bits.specs.Ones.{ones_row}
use Rattle.rows.specs.Layout.{words, words_of, spot, spot_south, spot_west, sides_w}
use Rattle.rows.specs.Rows.{word_at, bit_in, Lit, Place, Rows}
use Rattle.rows.specs.Sheets.{Drawn, Wrote, Putting}
use Rattle.closing.specs.Closes.{Closes}
use Rattle.field.specs.declared.Labelled.{Labelled}
use Rattle.labels.specs.Promise.{Stamped, Stones, Labels}
use Rattle.labels.specs.Counting.{shut_at, west_at, corners_at, Counted}
use Rattle.labels.specs.Memory.{Ready}
use Rattle.labels.proofs.Laws.Tells.{Tells, is_so, is_not, tells, tells_dec, count_told}

module _ {w h : ℕ} {s t marks c : List ℕ} {r : Labelled} (S : Stamped w h s) (D : Drawn w h s marks) (K : Closes w h marks c)
    (W : Wrote (λ (b a : ℕ). (b < h) × (64 * a < w)) w h marks c s t) (N : Counted w h marks c r) where
  abbrev R : ℕ → ℕ → Type 0
  R = Stones w h s

  lit_stone : (x y : ℕ) → Lit w h marks x y → R x y
  lit_stone x y l = record { on = l.on; mark = omega (arith, D.drawn x y l.on, l.set) }

  stone_lit : (x y : ℕ) → R x y → Lit w h marks x y
  stone_lit x y m = record { on = m.on; set = omega (arith, D.drawn x y m.on, m.mark, S.ones (number w x y)) }

  lit_closed : (x y : ℕ) → Lit w h c x y → Closed R w h x y
  lit_closed x y l =
      smallest (Lit w h marks) w h (Closed R w h) (λ a b o m. rock o (lit_stone a b m)) (closed_stable R w h) x y (K.sound x y l)

  closed_lit : (x y : ℕ) → Closed R w h x y → Lit w h c x y
  closed_lit x y k =
      K.complete x y
      (smallest R w h (Closed (Lit w h marks) w h) (λ a b o m. rock o (stone_lit a b m)) (closed_stable (Lit w h marks) w h) x y k)

  abbrev ro : ℕ → ℕ → ℕ
  ro x y = bit_in marks x y

  abbrev cl : ℕ → ℕ → ℕ
  cl x y = bit_in c x y

  abbrev sh : ℕ → ℕ → ℕ
  sh x y = bit_at (shut_at marks c y (x / 64)) (x % 64)

  most_w : w ≤ 64 * words
  most_w = sides_w S.sides

  shut_bit : (x y : ℕ) → On w h x y → Both (cl x y) (1 - ro x y) (sh x y)
  shut_bit x y o = bit_without 64 (word_at c y (x / 64)) (word_at marks y (x / 64)) (x % 64) (D.rows.words (spot y (x / 64))) (omega arith)

  tells_rock : (x y : ℕ) → On w h x y → Tells (RockOn R w h x y) (ro x y)
  tells_rock x y o =
      tells (bit_le _ (x % 64)) (λ e. record { on = o; stone = lit_stone x y (record { on = o; set = e }) }) (λ p. (stone_lit x y p.stone).set)

  tells_closed : (x y : ℕ) → On w h x y → Tells (Closed R w h x y) (cl x y)
  tells_closed x y o = tells (bit_le _ (x % 64)) (λ e. lit_closed x y (record { on = o; set = e })) (λ k. (closed_lit x y k).set)

  tells_shut : (x y : ℕ) → On w h x y → Tells (Shut R w h x y) (sh x y)
  tells_shut x y o = go (tells_rock x y o) (tells_closed x y o)
    where
      go : Tells (RockOn R w h x y) (ro x y) → Tells (Closed R w h x y) (cl x y) → Tells (Shut R w h x y) (sh x y)
      go (is_so p e) q = is_not (λ k. k.bare p.stone) (omega (arith, shut_bit x y o))
      go (is_not p e) (is_so q f) = is_so (record { closed = q; bare = λ k. p (record { on = o; stone = k }) }) (omega (arith, shut_bit x y o))
      go (is_not p e) (is_not q f) = is_not (λ k. q k.closed) (omega (arith, shut_bit x y o))

  label_at : (x y : ℕ) → On w h x y → Label R w h x y (at t w x y)
  label_at x y o = go (tells_rock x y o) (tells_closed x y o)
    where
      byte : at t w x y ≡ ro x y + 2 * sh x y
      byte = W.done x y o (o.in_y, omega (arith, o.in_x))

      go : Tells (RockOn R w h x y) (ro x y) → Tells (Closed R w h x y) (cl x y) → Label R w h x y (at t w x y)
      go (is_so p e) q = is_rock (omega (arith, byte, shut_bit x y o)) p
      go (is_not p e) (is_so q f) =
          is_shut (omega (arith, byte, shut_bit x y o)) (record { closed = q; bare = λ k. p (record { on = o; stone = k }) })
      go (is_not p e) (is_not q f) = is_open (omega (arith, byte, shut_bit x y o)) (record { on = o; free = q })

  -- The corners.
  abbrev WestClosed : ℕ → ℕ → Type 0
  WestClosed x y = (a : ℕ) × (a + 1 ≡ x) × Closed R w h a y

  abbrev SouthClosed : ℕ → ℕ → Type 0
  SouthClosed x y = (b : ℕ) × (b + 1 ≡ y) × Closed R w h x b

  -- Where no crossing is, no bit is set.
  off : (u : List ℕ) → Rows w h u → (i k : ℕ) → (Place w h i k → ⊥) → bit_at (get_or u i 0) k ≡ 0
  off u q i k n = go (ℕ_discrete (bit_at (get_or u i 0) k) 1)
    where
      go : Dec (bit_at (get_or u i 0) k ≡ 1) → bit_at (get_or u i 0) k ≡ 0
      go (yes e) = absurd (n (q.narrow i k e))
      go (no m) = omega (arith, bit_le (get_or u i 0) k)

  abbrev west_bit : ℕ → ℕ → ℕ
  west_bit x y = bit_at (west_at c y (x / 64)) (x % 64)

  west_of_lem : (x y : ℕ) → WestOf 64 (get_or c (spot y (x / 64)) 0) (get_or c (spot_west y (x / 64)) 0) (west_at c y (x / 64))
  west_of_lem x y = west_law 64 (get_or c (spot y (x / 64)) 0) (get_or c (spot_west y (x / 64)) 0) (omega arith) (K.rows.words (spot_west y (x / 64)))

  west_none : (y : ℕ) → west_bit zero y ≡ 0
  west_none y = (west_of_lem zero y).carry ∙ off c K.rows (spot_west y (zero / 64)) 63 (λ p. omega (arith, p.word, p.bit, p.on.in_x, most_w))

  west_some : (x y : ℕ) → west_bit (suc x) y ≡ cl x y
  west_some x y = go (ℕ_discrete (suc x % 64) 0)
    where
      go : Dec (suc x % 64 ≡ 0) → west_bit (suc x) y ≡ cl x y
      go (yes e) =
          let i : spot_west y (suc x / 64) ≡ spot y (x / 64) = omega arith in
          let k : 63 ≡ x % 64 = omega arith in
          ap (bit_at (west_at c y (suc x / 64))) e ∙ (west_of_lem (suc x) y).carry
          ∙ ap₂ (λ (m n : ℕ). bit_at (get_or c m 0) n) i k
      go (no n) =
          let i : spot y (suc x / 64) ≡ spot y (x / 64) = omega arith in
          let k : suc x % 64 ≡ x % 64 + 1 = omega arith in
          ap (bit_at (west_at c y (suc x / 64))) k ∙ (west_of_lem (suc x) y).inner (x % 64) (omega arith)
          ∙ ap (λ (m : ℕ). bit_at (get_or c m 0) (x % 64)) i

  tells_west : (x y : ℕ) → On w h x y → Tells (WestClosed x y) (west_bit x y)
  tells_west zero y o = is_not (λ k. omega (arith, k.1)) (west_none y)
  tells_west (suc x) y o = go (tells_closed x y (record { in_x = omega (arith, o.in_x); in_y = o.in_y }))
    where
      go : Tells (Closed R w h x y) (cl x y) → Tells (WestClosed (suc x) y) (west_bit (suc x) y)
      go (is_so k e) = is_so (x, omega arith, k) (west_some x y ∙ e)
      go (is_not n e) = is_not (λ k. let f : k.0 ≡ x = omega (arith, k.1) in n (rw f at k.2)) (west_some x y ∙ e)

  abbrev south_bit : ℕ → ℕ → ℕ
  south_bit x y = bit_at (get_or c (spot_south y (x / 64)) 0) (x % 64)

  tells_south : (x y : ℕ) → On w h x y → Tells (SouthClosed x y) (south_bit x y)
  tells_south x zero o =
      is_not (λ k. omega (arith, k.1)) (off c K.rows (spot_south zero (x / 64)) (x % 64) (λ p. omega (arith, p.word, p.on.in_x, o.in_x, most_w)))
  tells_south x (suc y) o = go (tells_closed x y (record { in_x = o.in_x; in_y = omega (arith, o.in_y) }))
    where
      same : south_bit x (suc y) ≡ cl x y
      same = let i : spot_south (suc y) (x / 64) ≡ spot y (x / 64) = omega arith in ap (λ (k : ℕ). bit_at (get_or c k 0) (x % 64)) i

      go : Tells (Closed R w h x y) (cl x y) → Tells (SouthClosed x (suc y)) (south_bit x (suc y))
      go (is_so k e) = is_so (y, omega arith, k) (same ∙ e)
      go (is_not n e) = is_not (λ k. let f : k.0 ≡ y = omega (arith, k.1) in n (rw f at k.2)) (same ∙ e)

  abbrev corner : ℕ → ℕ → ℕ
  corner x y = bit_at (corners_at c y (x / 64)) (x % 64)

  west_lt : (y j : ℕ) → west_at c y j < 2 ^ 64
  west_lt y j = or_lt 64 (get_or c (spot y j) 0 * 2 ^ 1 % 2 ^ 64) (get_or c (spot_west y j) 0 / 2 ^ 63) (omega arith) (omega (arith, K.rows.words (spot_west y j)))

  tells_corner : (x y : ℕ) → On w h x y → Tells (Corner (Closed R w h) x y) (corner x y)
  tells_corner x y o = go (tells_closed x y o) (tells_west x y o) (tells_south x y o)
    where
      inner : Both (cl x y) (1 - west_bit x y) (bit_at (without 64 (get_or c (spot y (x / 64)) 0) (west_at c y (x / 64))) (x % 64))
      inner = bit_without 64 (get_or c (spot y (x / 64)) 0) (west_at c y (x / 64)) (x % 64) (west_lt y (x / 64)) (omega arith)

      outer : Both (bit_at (without 64 (get_or c (spot y (x / 64)) 0) (west_at c y (x / 64))) (x % 64)) (1 - south_bit x y) (corner x y)
      outer = bit_without 64 (without 64 (get_or c (spot y (x / 64)) 0) (west_at c y (x / 64))) (get_or c (spot_south y (x / 64)) 0) (x % 64) (K.rows.words (spot_south y (x / 64))) (omega arith)

      go : Tells (Closed R w h x y) (cl x y) → Tells (WestClosed x y) (west_bit x y) → Tells (SouthClosed x y) (south_bit x y)
          → Tells (Corner (Closed R w h) x y) (corner x y)
      go (is_not n e) u v = is_not (λ k. n k.closed) (omega (arith, inner, outer))
      go (is_so k e) (is_so u f) v = is_not (λ z. z.no_west u.0 u.1 u.2) (omega (arith, inner, outer))
      go (is_so k e) (is_not u f) (is_so v g) = is_not (λ z. z.no_south v.0 v.1 v.2) (omega (arith, inner, outer))
      go (is_so k e) (is_not u f) (is_not v g) =
          is_so (record { closed = k; no_west = λ a m n. u (a, m, n); no_south = λ b m n. v (b, m, n) }) (omega (arith, inner, outer))

  -- The numbers: no row has a bit past the map.
  none_past : (u : List ℕ) → Rows w h u → (y j k : ℕ) → j < words_of w → k < 64 → w ≤ 64 * j + k → bit_at (word_at u y j) k ≡ 0
  none_past u q y j k l m n = off u q (spot y j) k (λ p. omega (arith, p.word, p.bit, p.on.in_x, most_w))

  rocks_tally : r.rocks ≡ tally w h ro
  unfolding tally
  rocks_tally = N.rocks ∙ sum_same h _ _ (λ y l. ones_row w (word_at marks y) (λ j. D.rows.words (spot y j)) (none_past marks D.rows y))

  shut_tally : r.shut ≡ tally w h sh
  unfolding tally
  shut_tally =
      N.shut
      ∙ sum_same h _ _ (λ y l. ones_row w (λ j. shut_at marks c y j) (λ j. without_lt 64 (word_at c y j) (word_at marks y j) (K.rows.words (spot y j)))
      (λ j k m n p. omega (arith, bit_and_lem (word_at c y j) ((2 ^ 64 - 1) - word_at marks y j) k, none_past c K.rows y j k m n p)))

  groups_tally : r.groups ≡ tally w h corner
  unfolding tally
  groups_tally = N.groups ∙ sum_same h _ _ (λ y l. ones_row w (corners_at c y) (λ j. lt y j) (λ j k m n p. none y j k m n p))
    where
      v : ℕ → ℕ → ℕ
      v y j = west_at c y j

      lt : (y j : ℕ) → corners_at c y j < 2 ^ 64
      lt y j = without_lt 64 (without 64 (word_at c y j) (v y j)) (get_or c (spot_south y j) 0) (without_lt 64 (word_at c y j) (v y j) (K.rows.words (spot y j)))

      none : (y j k : ℕ) → j < words_of w → k < 64 → w ≤ 64 * j + k → bit_at (corners_at c y j) k ≡ 0
      none y j k m n p =
          omega (arith, bit_and_lem (word_at c y j) ((2 ^ 64 - 1) - v y j) k, bit_and_lem (without 64 (word_at c y j) (v y j)) ((2 ^ 64 - 1) - get_or c (spot_south y j) 0) k, none_past c K.rows y j k m n p)

  pub labelled : Labels w h s t r
  labelled =
      record {
        sheet = record { size = W.size ∙ S.size; label = label_at };
        rocks = count_told w h (RockOn R w h) ro (λ x y p. p.on) tells_rock r.rocks rocks_tally;
        shut = count_told w h (Shut R w h) sh (λ x y p. closed_on_map R w h x y p.closed) tells_shut r.shut shut_tally;
        groups = (groups_corners R w h (tells_dec w h (Closed R w h) cl (closed_on_map R w h) tells_closed) r.groups).1
            (count_told w h (Corner (Closed R w h)) corner (λ x y p. closed_on_map R w h x y p.closed) tells_corner r.groups groups_tally);
      }

-- What writing and counting ask.
pub putting : {w h : ℕ} {s marks c : List ℕ} → Stamped w h s → Drawn w h s marks → Closes w h marks c → Putting w h marks c s
putting S D K =
    record { size = S.size; fair = λ x y o. inl (sym (D.drawn x y o)) }

-- What closing asks of words that are ready, and what it promises: the rocks are what is lit in
-- rock.
pub ready_rows : {w h : ℕ} {s marks c : List ℕ} → Ready w h s marks c → Rows w h c
ready_rows p = rw p.same p.drawn.rows

pub ready_closes : {w h : ℕ} {s marks c t : List ℕ} → Ready w h s marks c → Closes w h c t → Closes w h marks t
ready_closes p k = rw p.same at k
