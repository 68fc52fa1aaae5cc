-- A morning sheet (Req 09) as a sheet of marks: where every byte is 0, 1 or 2, what is shown closed
-- is what is marked. So whether the sheet is taken is told crossing by crossing, by its byte, its
-- marked neighbours and its rock.
use Rattle.std.specs.Prelude.{◌≡◌, Bool, ◌&&◌, ◌||◌, List, ◌⊎◌, ◌↔◌, ℕ, zero, suc, ◌*◌, ◌<◌, ◌≤◌, ltb, length, get_or}
use Rattle.std.proofs.Common.{subst, inl, inr, arith, ltb-true, lt-ltb, leb-true, le-leb}
use Rattle.std.proofs.Math.Bool.{true}
use Rattle.std.proofs.Math.Decide.{dec_le, dec_lt, ℕ_discrete, map_dec}
use Rattle.std.proofs.Math.Dec.{leb}
use Rattle.std.proofs.Math.ListN.{get_or-eq_default}
use Rattle.field.specs.Map.{On, OnMap, at}
use Rattle.field.specs.Labels.{Stable, Open, RockOn}
use Rattle.field.specs.Morning.{ShownOpen, ShownClosed, LabelBytes, RocksShown, NoneBetween, SheetTaken}
use Rattle.field.specs.Workings.Tests.{and_split, and_both, or_case, or_left, or_right, test_dec}
use Rattle.field.specs.Workings.Sheet.{Marked, Draws, lit, around, Crossing, crossing}
use Rattle.field.proofs.Workings.Marks.{marked_lit, lit_marked, marked_dec, Two, around_two, two_around, drawn_lit, undrawn_lit, lit_le, decided, decided_draws}
use Rattle.field.proofs.Workings.SameLaws.{Alike}
use Rattle.field.proofs.Workings.Corners.{every, every_two}
use Rattle.field.proofs.Workings.CrossingLaws.{one_every}
use Rattle.field.specs.Workings.MorningLaws.{Kept}

-- What is past the end counts as 0.
label_byte : (s : List ℕ) → LabelBytes s → (i : ℕ) → get_or s i 0 ≤ 2
label_byte s b i = go (dec_lt i (length s))
  where
    go : Dec (i < length s) → get_or s i 0 ≤ 2
    go (yes l) = b i l
    go (no l) = omega (arith, get_or-eq_default s 0 {n = i} (omega arith))

module _ (w h : ℕ) (s : List ℕ) where
  pub shown_on : OnMap w h (ShownClosed w h s)
  shown_on x y c = c.on

  label_mark : {b : ℕ} → (b ≡ 1) ⊎ (b ≡ 2) → 0 < b
  label_mark (inl e) = omega arith
  label_mark (inr e) = omega arith

  pub shown_marked : (x y : ℕ) → ShownClosed w h s x y → Marked s w h x y
  shown_marked x y c = record { on = c.on; mark = label_mark c.label }

  -- A byte that is a label and not 0 is 1 or 2.
  closed_byte : {b : ℕ} → b ≤ 2 → 0 < b → (b ≡ 1) ⊎ (b ≡ 2)
  closed_byte {b} l m = go (ℕ_discrete b 1)
    where
      go : Dec (b ≡ 1) → (b ≡ 1) ⊎ (b ≡ 2)
      go (yes e) = inl e
      go (no e) = inr (omega arith)

  module _ (bytes : LabelBytes s) where
    pub marked_shown : (x y : ℕ) → Marked s w h x y → ShownClosed w h s x y
    marked_shown x y m = record { on = m.on; label = closed_byte (label_byte s bytes _) m.mark }

    pub shown_alike : Alike (Marked s w h) (ShownClosed w h s)
    shown_alike x y = (marked_shown x y, shown_marked x y)

    pub shown_draws : Draws w h (ShownClosed w h s) s
    shown_draws = record { sound = marked_shown; complete = shown_marked }

    -- What is not shown closed is shown open.
    pub open_shown : (x y : ℕ) → Open w h (ShownClosed w h s) x y → ShownOpen w h s x y
    open_shown x y o = record { on = o.on; zero = go (dec_lt 0 (at s w x y)) }
      where
        go : Dec (0 < at s w x y) → at s w x y ≡ 0
        go (yes m) = absurd (o.free (marked_shown x y (record { on = o.on; mark = m })))
        go (no m) = omega arith

    -- With no open crossing between two closed ones, the crossings shown closed are a stable set.
    pub shown_stable : NoneBetween w h s → Stable w h (ShownClosed w h s)
    shown_stable none x y a b c d o n n' t p q = go (dec_lt 0 (at s w x y))
      where
        go : Dec (0 < at s w x y) → ShownClosed w h s x y
        go (yes m) = marked_shown x y (record { on = o; mark = m })
        go (no m) = absurd (none x y a b c d (record { on = o; zero = omega arith }) n n' t p q)

  pub shown_open : (x y : ℕ) → ShownOpen w h s x y → Open w h (ShownClosed w h s) x y
  shown_open x y o = record { on = o.on; free = λ c. omega (arith, o.zero, label_mark c.label) }

  -- Every crossing is so exactly where the sheet itself has no fault.
  pub kept_steady : length s ≡ h * w → ((x y : ℕ) → On w h x y → Kept w h s x y) → LabelBytes s × NoneBetween w h s
  kept_steady size kept = (bytes, none)
    where
      by_crossing : (i : ℕ) → Crossing w h i → get_or s i 0 ≤ 2
      by_crossing i c = subst (λ (k : ℕ). get_or s k 0 ≤ 2) c.is (kept c.x c.y c.on).byte

      bytes : LabelBytes s
      bytes i l = by_crossing i (crossing w h i (omega arith))

      none : NoneBetween w h s
      none x y a b c d o n n' t p q =
          omega (arith, (kept x y o.on).few o.zero, two_around s w h x y a b c d n n' t (shown_marked a b p) (shown_marked c d q))

  pub steady_kept : LabelBytes s → NoneBetween w h s → (x y : ℕ) → On w h x y → Kept w h s x y
  steady_kept bytes none x y o = record { byte = label_byte s bytes _; few = λ z. go z (dec_lt 1 (around s w h x y)) }
    where
      go : at s w x y ≡ 0 → Dec (1 < around s w h x y) → around s w h x y ≤ 1
      go z (no l) = omega arith
      go z (yes l) =
          let t : Two s w h x y = around_two s w h x y l in
          absurd
          (none x y _ _ _ _ (record { on = o; zero = z }) t.first.near t.second.near t.two (marked_shown bytes _ _ t.first.mark)
          (marked_shown bytes _ _ t.second.mark))

  -- The test of one crossing, and of its rock.
  unfoldable pub kept_of : ℕ → ℕ → Bool
  kept_of x y = leb (at s w x y) 2 && (ltb 0 (at s w x y) || leb (around s w h x y) 1)

  kept_looks : (x y : ℕ) → (Kept w h s x y ↔ kept_of x y ≡ true)
  unfolding kept_of
  kept_looks x y = (λ k. and_both _ _ (le-leb _ _ k.byte) (passes k (dec_lt 0 (at s w x y))), holds)
    where
      passes : Kept w h s x y → Dec (0 < at s w x y) → (ltb 0 (at s w x y) || leb (around s w h x y) 1) ≡ true
      passes k (yes l) = or_left _ _ (lt-ltb _ _ l)
      passes k (no l) = or_right (ltb 0 (at s w x y)) _ (le-leb _ _ (k.few (omega arith)))

      holds : (leb (at s w x y) 2 && (ltb 0 (at s w x y) || leb (around s w h x y) 1)) ≡ true → Kept w h s x y
      holds e =
          let f = and_split _ _ e in
          record {
            byte = leb-true _ _ f.0;
            few = λ z. or_case (ltb 0 (at s w x y)) _ (λ t. absurd (omega (arith, ltb-true 0 (at s w x y) t))) (λ t. leb-true _ _ t) f.1;
          }

  -- Whether the sheet is taken, over a sheet of the rocks.
  unfoldable pub taken_of : List ℕ → Bool
  taken_of rocks = every h (λ y. every w (λ x. kept_of x y && leb (lit rocks w h x y) (lit s w h x y)))

  module _ (R : ℕ → ℕ → Type 0) (rocks : List ℕ) (D : Draws w h (RockOn R w h) rocks) (size : length s ≡ h * w) where
    rock_lit : RocksShown R w h s → (x y : ℕ) → On w h x y → Dec (RockOn R w h x y) → lit rocks w h x y ≤ lit s w h x y
    rock_lit f x y o (yes r) = omega (arith, lit_le rocks w h x y, marked_lit s w h x y (shown_marked x y (f x y o r.stone)))
    rock_lit f x y o (no n) = omega (arith, undrawn_lit w h (RockOn R w h) rocks D x y n)

    rock_dec : (x y : ℕ) → Dec (RockOn R w h x y)
    rock_dec x y = go (marked_dec rocks w h x y)
      where
        go : Dec (Marked rocks w h x y) → Dec (RockOn R w h x y)
        go (yes m) = yes (D.sound x y m)
        go (no n) = no (λ r. n (D.complete x y r))

    pub taken_looks : (SheetTaken R w h s ↔ taken_of rocks ≡ true)
    unfolding taken_of
    taken_looks = (passes, holds)
      where
        passes : SheetTaken R w h s → every h (λ y. every w (λ x. kept_of x y && leb (lit rocks w h x y) (lit s w h x y))) ≡ true
        passes t =
            one_every h _ (λ y q. one_every w _ (λ x p. let o : On w h x y = record { in_x = p; in_y = q } in
            and_both _ _ ((kept_looks x y).0 (steady_kept t.bytes t.none_between x y o)) (le-leb _ _ (rock_lit t.rocks x y o (rock_dec x y)))))

        holds : every h (λ y. every w (λ x. kept_of x y && leb (lit rocks w h x y) (lit s w h x y))) ≡ true → SheetTaken R w h s
        holds e = record { bytes = steady.0; rocks = shown; none_between = steady.1 }
          where
            each : (x y : ℕ) → On w h x y → (kept_of x y ≡ true) × (leb (lit rocks w h x y) (lit s w h x y) ≡ true)
            each x y o = and_split _ _ (every_two h w (λ y x. kept_of x y && leb (lit rocks w h x y) (lit s w h x y)) e x y o.in_x o.in_y)

            steady : LabelBytes s × NoneBetween w h s
            steady = kept_steady size (λ x y o. (kept_looks x y).1 (each x y o).0)

            shown : RocksShown R w h s
            shown x y o r =
                marked_shown steady.0 x y
                (lit_marked s w h x y (omega (arith, leb-true (lit rocks w h x y) (lit s w h x y) (each x y o).1, drawn_lit w h (RockOn R w h) rocks D x y (record { on = o; stone = r }))))

-- Where rocks can be told, it can be told whether a sheet is taken.
pub taken_dec : (R : ℕ → ℕ → Type 0) (w h : ℕ) (s : List ℕ) → ((x y : ℕ) → Dec (R x y)) → length s ≡ h * w → Dec (SheetTaken R w h s)
taken_dec R w h s told size = test_dec _ (taken_looks w h s R (decided w h rock) (decided_draws w h (RockOn R w h) (λ x y r. r.on) rock) size)
  where
    rock : (x y : ℕ) → Dec (RockOn R w h x y)
    rock x y = go (dec_lt x w) (dec_lt y h) (told x y)
      where
        go : Dec (x < w) → Dec (y < h) → Dec (R x y) → Dec (RockOn R w h x y)
        go (yes p) (yes q) (yes r) = yes (record { on = record { in_x = p; in_y = q }; stone = r })
        go (no p) q r = no (λ k. p k.on.in_x)
        go (yes p) (no q) r = no (λ k. q k.on.in_y)
        go (yes p) (yes q) (no r) = no (λ k. r k.stone)

-- Of finitely many things that can each be told, it can be told whether all hold.
all_dec : (P : ℕ → Type 0) → ((k : ℕ) → Dec (P k)) → (n : ℕ) → Dec ((k : ℕ) → k < n → P k)
all_dec P d zero = yes (λ k l. absurd (omega arith))
all_dec P d (suc n) = go (all_dec P d n) (d n)
  where
    go : Dec ((k : ℕ) → k < n → P k) → Dec (P n) → Dec ((k : ℕ) → k < suc n → P k)
    go (no f) e = no (λ g. f (λ k l. g k (omega arith)))
    go (yes f) (no e) = no (λ g. e (g n (omega arith)))
    go (yes f) (yes e) = yes (λ k l. here k l (ℕ_discrete k n))
      where
        here : (k : ℕ) → k < suc n → Dec (k ≡ n) → P k
        here k l (yes i) = rw i e
        here k l (no i) = f k (omega arith)

-- A sheet that is not taken fails one of the conditions.
module _ (R : ℕ → ℕ → Type 0) (w h : ℕ) (s : List ℕ) (told : (x y : ℕ) → Dec (R x y)) where
  closed_told : (x y : ℕ) → Dec (R x y → (at s w x y ≡ 1) ⊎ (at s w x y ≡ 2))
  closed_told x y = go (told x y) (ℕ_discrete (at s w x y) 1) (ℕ_discrete (at s w x y) 2)
    where
      neither : ¬ (at s w x y ≡ 1) → ¬ (at s w x y ≡ 2) → (at s w x y ≡ 1) ⊎ (at s w x y ≡ 2) → ⊥
      neither p q (inl e) = p e
      neither p q (inr e) = q e

      go : Dec (R x y) → Dec (at s w x y ≡ 1) → Dec (at s w x y ≡ 2) → Dec (R x y → (at s w x y ≡ 1) ⊎ (at s w x y ≡ 2))
      go (no n) p q = yes (λ r. absurd (n r))
      go (yes r) (yes p) q = yes (λ _. inl p)
      go (yes r) (no p) (yes q) = yes (λ _. inr q)
      go (yes r) (no p) (no q) = no (λ f. neither p q (f r))

  rocks_told : Dec (RocksShown R w h s)
  rocks_told =
      map_dec (λ f x y o r. record { on = o; label = f y o.in_y x o.in_x r }) (λ f y q x p r. (f x y (record { in_x = p; in_y = q }) r).label)
      (all_dec (λ y. (x : ℕ) → x < w → R x y → (at s w x y ≡ 1) ⊎ (at s w x y ≡ 2)) (λ y. all_dec _ (λ x. closed_told x y) w) h)

  bytes_told : Dec (LabelBytes s)
  bytes_told = all_dec (λ i. get_or s i 0 ≤ 2) (λ i. dec_le (get_or s i 0) 2) (length s)

  pub not_taken : (¬ SheetTaken R w h s) ↔ ((¬ LabelBytes s) ⊎ ((¬ RocksShown R w h s) ⊎ (¬ NoneBetween w h s)))
  not_taken = (λ n. go n bytes_told rocks_told, back)
    where
      go : ¬ SheetTaken R w h s → Dec (LabelBytes s) → Dec (RocksShown R w h s) → (¬ LabelBytes s) ⊎ ((¬ RocksShown R w h s) ⊎ (¬ NoneBetween w h s))
      go n (no b) r = inl b
      go n (yes b) (no r) = inr (inl r)
      go n (yes b) (yes r) = inr (inr (λ f. n (record { bytes = b; rocks = r; none_between = f })))

      back : (¬ LabelBytes s) ⊎ ((¬ RocksShown R w h s) ⊎ (¬ NoneBetween w h s)) → ¬ SheetTaken R w h s
      back (inl f) t = f t.bytes
      back (inr (inl f)) t = f t.rocks
      back (inr (inr f)) t = f t.none_between
