-- Growing one word of a map: what is set is closed, and nothing is lost.
use mathlib.Core.Path.{◌≡◌, refl, sym, ap, ◌∙◌}
use mathlib.Core.List.{List}
use mathlib.Core.Logic.{◌⊎◌, inl, inr}
use Prim.Native.Nat.{ℕ, zero, suc, ◌+◌, ◌*◌, ◌/◌, ◌%◌, ◌^◌, ◌<◌, ◌≤◌}
use native.Mathlib.Omega.{arith}
use native.Mathlib.Decide.{ℕ_discrete}
use lib.ListN.{length, get_or, set, length-set}
use lib.Seq.{get_or-set_other, set-get_or}
use lib.Bits.{bit_xor}
use Rattle.field.specs.Map.{Sides, On, Near, east, west, north, south}
use Rattle.field.specs.Labels.{Closed, rock, between, closed_on_map}
use Rattle.bits.specs.Bit.{bit_at, EastOf, WestOf}
use Rattle.bits.specs.Laws.{bit_le, xor_same, same_xor}
use Rattle.rows.specs.Layout.{stride, spot, spot_north, spot_south, spot_east, spot_west, sides_w}
use Rattle.rows.specs.Rows.{Lit, Place, Rows, MaskAt}
use Rattle.rows.specs.Laws.{by_set}
use Rattle.closing.specs.Steps.{around_at, Stepped, Along, here, from_west, from_east, Beside, Steps, start, next, run, Filled}
use Rattle.closing.specs.Growth.{total, Grown, Sweeps, Growing}
use Rattle.closing.proofs.Laws.Totals.{total_set}

-- Two of four bits.
two_of_lem : {P : Type 0} (e w n s : ℕ) → e ≤ 1 → w ≤ 1 → n ≤ 1 → s ≤ 1 → 2 ≤ e + w + n + s
    → (e ≡ 1 → w ≡ 1 → P) → (e ≡ 1 → n ≡ 1 → P) → (e ≡ 1 → s ≡ 1 → P) → (w ≡ 1 → n ≡ 1 → P) → (w ≡ 1 → s ≡ 1 → P) → (n ≡ 1 → s ≡ 1 → P) → P
two_of_lem {P} e w n s le lw ln ls l ew en es wn ws ns = go (ℕ_discrete e 1) (ℕ_discrete w 1) (ℕ_discrete n 1)
  where
    go : Dec (e ≡ 1) → Dec (w ≡ 1) → Dec (n ≡ 1) → P
    go (yes a) (yes b) c = ew a b
    go (yes a) (no b) (yes c) = en a c
    go (yes a) (no b) (no c) = es a (omega arith)
    go (no a) (yes b) (yes c) = wn b c
    go (no a) (yes b) (no c) = ws b (omega arith)
    go (no a) (no b) c = ns (omega arith) (omega arith)

-- All words that a word's growing reads are there.
pub room : {w h y j : ℕ} {s : List ℕ} → Sides w h → Growing w h y j s → spot_north y j < length s
room z g = omega (arith, g.rows.long, g.in_y, g.in_x, sides_w z)

module _ {w h y j mask : ℕ} {s : List ℕ} (sides : Sides w h) (g : Growing w h y j s) (masks : MaskAt w j mask) where
  abbrev K : ℕ → ℕ → Type 0
  K = Closed (Lit w h s) w h

  -- A set bit is a closed crossing.
  place_closed : {i k : ℕ} (p : Place w h i k) → bit_at (get_or s i 0) k ≡ 1 → K p.x p.y
  place_closed p e = rock p.on (record { on = p.on; set = rw (← p.word, ← p.bit) e })

  closed_at : (i k x z : ℕ) → bit_at (get_or s i 0) k ≡ 1 → i ≡ spot z (x / 64) → k ≡ x % 64 → x < 64 * stride → K x z
  closed_at i k x z e p q l =
      let m = g.rows.narrow i k e in
      let a : m.x ≡ x = omega (arith, m.word, m.bit, m.on.in_x, sides_w sides) in
      let b : m.y ≡ z = omega (arith, m.word, m.bit, m.on.in_x, sides_w sides) in
      rw (a, b) at (place_closed m e)

  -- Each bit of the word u is a closed crossing.
  abbrev InWord : ℕ → Type 0
  InWord u = (i : ℕ) → bit_at u i ≡ 1 → (i < 64) × K (64 * j + i) y

  in_start : InWord (get_or s (spot y j) 0)
  in_start i e =
      let m = g.rows.narrow (spot y j) i e in
      let l : i < 64 = omega (arith, m.bit) in
      (l, closed_at (spot y j) i (64 * j + i) y e (omega arith) (omega arith) (omega (arith, g.in_x, sides_w sides)))

  at_north : (i : ℕ) → i < 64 → bit_at (get_or s (spot_north y j) 0) i ≡ 1 → K (64 * j + i) (y + 1)
  at_north i l e = closed_at (spot_north y j) i (64 * j + i) (y + 1) e (omega arith) (omega arith) (omega (arith, g.in_x, sides_w sides))

  at_south : (i : ℕ) → i < 64 → bit_at (get_or s (spot_south y j) 0) i ≡ 1 → (b : ℕ) × (b + 1 ≡ y) × K (64 * j + i) b
  at_south i l e =
      let m = g.rows.narrow (spot_south y j) i e in
      let a : m.x ≡ 64 * j + i = omega (arith, m.word, m.bit, m.on.in_x, sides_w sides, g.in_x) in
      (m.y, omega (arith, m.word, m.bit, m.on.in_x, sides_w sides, g.in_x), rw a at (place_closed m e))

  at_east : (u e i : ℕ) → InWord u → EastOf 64 u (get_or s (spot_east y j) 0) e → i < 64 → bit_at e i ≡ 1 → K (64 * j + i + 1) y
  at_east u e i r q l b = go (ℕ_discrete i 63)
    where
      go : Dec (i ≡ 63) → K (64 * j + i + 1) y
      go (yes f) = closed_at (spot_east y j) 0 (64 * j + i + 1) y (sym q.carry ∙ (rw f at b)) (omega arith) (omega arith) (omega (arith, g.in_x, sides_w sides))
      go (no n) =
          let f : 64 * j + (i + 1) ≡ 64 * j + i + 1 = omega arith in
          rw f at (r (i + 1) (sym (q.inner i (omega arith)) ∙ b)).1

  at_west : (u e i : ℕ) → InWord u → WestOf 64 u (get_or s (spot_west y j) 0) e → i < 64 → bit_at e i ≡ 1 → (a : ℕ) × (a + 1 ≡ 64 * j + i) × K a y
  at_west u e zero r q l b =
      let c = sym q.carry ∙ b in
      let m = g.rows.narrow (spot_west y j) 63 c in
      let z : m.y ≡ y = omega (arith, m.word, m.bit, m.on.in_x, sides_w sides, g.in_x) in
      (m.x, omega (arith, m.word, m.bit, m.on.in_x, sides_w sides, g.in_x), rw z at (place_closed m c))
  at_west u e (suc i) r q l b =
      let f : i + 1 ≡ suc i = omega arith in
      let c : bit_at u i ≡ 1 = sym (q.inner i (omega arith)) ∙ ap (bit_at e) f ∙ b in
      (64 * j + i, omega arith, (r i c).1)

  in_step : (u v : ℕ) → InWord u → Stepped u (get_or s (spot_north y j) 0) (get_or s (spot_south y j) 0) (get_or s (spot_east y j) 0) (get_or s (spot_west y j) 0) mask v → InWord v
  in_step u v r st i e = go (st.only i e)
    where
      go : (bit_at u i ≡ 1) ⊎ ((i < 64) × (bit_at mask i ≡ 1) × (2 ≤ around_at st.e st.w (get_or s (spot_north y j) 0) (get_or s (spot_south y j) 0) i)) → (i < 64) × K (64 * j + i) y
      go (inl p) = r i p
      go (inr p) =
          let o : On w h (64 * j + i) y = record { in_x = masks.only i p.1; in_y = g.in_y } in (
            p.0,
            two_of_lem (bit_at st.e i) (bit_at st.w i) (bit_at (get_or s (spot_north y j) 0) i) (bit_at (get_or s (spot_south y j) 0) i) (bit_le _ i) (bit_le _ i) (bit_le _ i) (bit_le _ i) p.2
                (λ a b. let q = west_of_lem b in between o (east refl refl) (west q.1 refl) (λ t. omega (arith, t.0, q.1)) (east_of a) q.2)
                (λ a b. between o (east refl refl) (north refl refl) (λ t. omega (arith, t.0)) (east_of a) (at_north i p.0 b))
                (λ a b. let q = at_south i p.0 b in between o (east refl refl) (south refl q.1) (λ t. omega (arith, t.0)) (east_of a) q.2)
                (λ a b. let q = west_of_lem a in between o (west q.1 refl) (north refl refl) (λ t. omega (arith, t.0, q.1)) q.2 (at_north i p.0 b))
                (λ a b. let q = west_of_lem a in let z = at_south i p.0 b in between o (west q.1 refl) (south refl z.1) (λ t. omega (arith, t.0, q.1)) q.2 z.2)
                (λ a b. let z = at_south i p.0 b in between o (north refl refl) (south refl z.1) (λ t. omega (arith, t.1, z.1)) (at_north i p.0 a) z.2),
          )
        where
          east_of : bit_at st.e i ≡ 1 → K (64 * j + i + 1) y
          east_of = at_east u st.e i r st.east p.0

          west_of_lem : bit_at st.w i ≡ 1 → (a : ℕ) × (a + 1 ≡ 64 * j + i) × K a y
          west_of_lem = at_west u st.w i r st.west p.0

  -- A crossing with a closed neighbour in its row, and one to the north or south.
  beside_closed : {p i a : ℕ} → Beside (get_or s (spot_north y j) 0) (get_or s (spot_south y j) 0) mask p → bit_at p i ≡ 1 → Near (64 * j + i) y a y → K a y
      → (a ≡ 64 * j + i → ⊥) → (i < 64) × K (64 * j + i) y
  beside_closed {p} {i} {a} b e near k apart = go (ℕ_discrete (bit_at (get_or s (spot_north y j) 0) i) 1)
    where
      q : (i < 64) × (bit_at mask i ≡ 1) × (1 ≤ bit_at (get_or s (spot_north y j) 0) i + bit_at (get_or s (spot_south y j) 0) i)
      q = b.only i e

      o : On w h (64 * j + i) y
      o = record { in_x = masks.only i q.1; in_y = g.in_y }

      go : Dec (bit_at (get_or s (spot_north y j) 0) i ≡ 1) → (i < 64) × K (64 * j + i) y
      go (yes m) = (q.0, between o near (north refl refl) (λ t. apart t.0) k (at_north i q.0 m))
      go (no m) =
          let z = at_south i q.0 (omega (arith, q.2, bit_le (get_or s (spot_north y j) 0) i, bit_le (get_or s (spot_south y j) 0) i)) in
          (q.0, between o near (south refl z.1) (λ t. apart t.0) k z.2)

  in-along : {u p i : ℕ} → InWord u → Beside (get_or s (spot_north y j) 0) (get_or s (spot_south y j) 0) mask p → Along u p i → (i < 64) × K (64 * j + i) y
  in-along {u} {p} {i} r b (here e) = r i e
  in-along {u} {p} {i} r b (from_west k f e a) =
      let n : Near (64 * j + i) y (64 * j + k) y = west (omega arith) refl in
      beside_closed b e n (in-along r b a).1 (λ z. omega arith)
  in-along {u} {p} {i} r b (from_east k f e a) =
      let n : Near (64 * j + i) y (64 * j + k) y = east (omega arith) refl in
      beside_closed b e n (in-along r b a).1 (λ z. omega arith)

  abbrev StepsTo : ℕ → Type 0
  StepsTo v = Steps (get_or s (spot_north y j) 0) (get_or s (spot_south y j) 0) (get_or s (spot_east y j) 0) (get_or s (spot_west y j) 0) mask (get_or s (spot y j) 0) v

  in-steps : {v : ℕ} → StepsTo v → InWord v
  in-steps start = in_start
  in-steps (next p q) = in_step _ _ (in-steps p) q
  in-steps (run p b q) = λ i e. in-along (in-steps p) b (q.only i e)

  kept_steps : {v : ℕ} → StepsTo v → (i : ℕ) → bit_at (get_or s (spot y j) 0) i ≡ 1 → bit_at v i ≡ 1
  kept_steps start i e = e
  kept_steps (next p q) i e = q.kept i (kept_steps p i e)
  kept_steps (run p b q) i e = q.kept i (kept_steps p i e)

  module _ {r : ℕ} (f : Filled (get_or s (spot y j) 0) (get_or s (spot_north y j) 0) (get_or s (spot_south y j) 0) (get_or s (spot_east y j) 0) (get_or s (spot_west y j) 0) mask r) where
    abbrev I : ℕ
    I = spot y j

    fits : I < length s
    fits = omega (arith, g.rows.long, g.in_y, g.in_x, sides_w sides)

    by_word : (P : ℕ → Type 0) (k : ℕ) → (k ≡ I → P r) → ((k ≡ I → ⊥) → P (get_or s k 0)) → P (get_or (set s I r) k 0)
    by_word = by_set s I r fits

    -- The crossing of a bit of this word.
    at_x : (x z k : ℕ) → k ≡ I → k ≡ spot z (x / 64) → x < w → (x ≡ 64 * j + x % 64) × (z ≡ y)
    at_x x z k p q l = (omega (arith, sides_w sides, g.in_x), omega (arith, sides_w sides, g.in_x))

    on_of : (i : ℕ) → i < 64 → K (64 * j + i) y → Place w h I i
    on_of i l k = record { x = 64 * j + i; y = y; on = closed_on_map (Lit w h s) w h (64 * j + i) y k; word = omega arith; bit = omega arith }

    grown_rows : Rows w h (set s I r)
    grown_rows =
        record {
          long = simp length-set g.rows.long;
          words = λ k. by_word (λ (v : ℕ). v < 2 ^ 64) k (λ e. f.still.fits) (λ n. g.rows.words k);
          narrow = λ k b. by_word (λ (v : ℕ). bit_at v b ≡ 1 → Place w h k b) k (λ e q. let z = in-steps f.steps b q in rw e (on_of b z.0 z.1)) (λ n q. g.rows.narrow k b q);
        }

    grown : Grown w h s (set s I r)
    grown =
        record {
          rows = grown_rows;
          kept = λ x z l. record {
            on = l.on;
            set = by_word (λ (v : ℕ). bit_at v (x % 64) ≡ 1) (spot z (x / 64)) (λ e. kept_steps f.steps (x % 64) (rw e at l.set)) (λ n. l.set);
          };
          sound = λ x z l. by_word (λ (v : ℕ). bit_at v (x % 64) ≡ 1 → K x z) (spot z (x / 64))
              (λ e b. let q = at_x x z (spot z (x / 64)) e refl l.on.in_x in rw q.1 (rw (← q.0) at (in-steps f.steps (x % 64) b).1))
              (λ n b. rock l.on (record { on = l.on; set = b })) l.set;
          up = omega (arith, total_set s I r fits, f.more);
          size = length-set s I r;
        }

    pub sweeps_word : Sweeps (λ (b a : ℕ). (b ≡ y) × (a ≡ j)) w h s (set s I r) (bit_xor r (get_or s I 0))
    sweeps_word =
        record {
          grown = grown;
          same = λ e. ap (set s I) (xor_same r (get_or s I 0) e) ∙ set-get_or s I 0;
          still = λ e b a d. rw (d.0, d.1) (record { mask = mask; masks = masks; still = rw (xor_same r (get_or s I 0) e) at f.still });
          more = λ n. more n (ℕ_discrete r (get_or s I 0));
          frame = λ i n. get_or-set_other s I i r 0 (λ e. n y j (refl, refl) e);
        }
      where
        more : (bit_xor r (get_or s I 0) ≡ 0 → ⊥) → Dec (r ≡ get_or s I 0) → total s < total (set s I r)
        more n (yes e) = absurd (n (same_xor r (get_or s I 0) e))
        more n (no m) = omega (arith, total_set s I r fits, f.more)
