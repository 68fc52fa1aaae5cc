-- The way home. If both hops homeward were closed, the place would have two closed neighbours and
-- be closed itself; on home's own row or column the assurance keeps the next hop open; and each
-- permitted hop keeps the place assured. So permitted hops go on until home, and as each comes one
-- hop nearer, that takes as many as the distance.
use Rattle.std.specs.Prelude.{◌≡◌, refl, ℕ, zero, suc, ◌+◌, ◌-◌, ◌≤◌}
use Rattle.std.proofs.Common.{sym, ap, subst, arith}
use Rattle.std.proofs.Math.Path.{subst₃}
use Rattle.std.proofs.Math.Decide.{ℕ_discrete}
use Rattle.field.specs.Map.{Sides, On, OnMap, Apart, gap, dist}
use Rattle.field.specs.Labels.{Stable, Open}
use Rattle.field.specs.Distances.{Assured}
use Rattle.field.specs.Hops.{Permitted, There, Taken, none, hop}
use Rattle.field.specs.Workings.Looking.{hop_to}
use Rattle.field.proofs.Workings.AxisLaws.{Step, step_other, hop_step, hop_below}
use Rattle.field.proofs.Workings.GridLaws.{dist_none, dist_zero, dist_apart, step_row, step_column, Toward, along_row, along_column}
use Rattle.field.proofs.Workings.HopLaws.{permitted_toward, permitted_away, row_permitted, column_permitted}
use Rattle.field.specs.Geometry.Shapes.{Between, Stage}
use Rattle.field.proofs.Geometry.Links.{moved}
use Rattle.field.proofs.Geometry.Offsets.{hop_between}
use Rattle.field.proofs.Geometry.HomeLines.{axis_between, row_open, column_open}

module _ {w h : ℕ} {C : ℕ → ℕ → Type 0} {hx hy : ℕ} where
  -- A permitted hop stays between the place and home on both axes.
  permitted_between : {x y a b : ℕ} → Permitted w h C hx hy x y a b → Between hx a x × Between hy b y
  permitted_between {x} {y} {a} {b} k = go (permitted_toward k)
    where
      go : Toward hx hy x y a b → Between hx a x × Between hy b y
      go (along_row n p q) = (rw p (hop_between hx x n), omega arith)
      go (along_column n p q) = (omega arith, rw q (hop_between hy y n))

  -- After any permitted hop from an assured place home is assured again.
  pub hop_assured : {x y a b : ℕ} → Assured w h C hx hy x y → Permitted w h C hx hy x y a b → Assured w h C hx hy a b
  hop_assured {a} {b} s k =
      record {
        home = s.home;
        place = k.to;
        east_west = axis_between s.east_west a (permitted_between k).0;
        north_south = axis_between s.north_south b (permitted_between k).1;
      }

  -- Wherever a sequence of permitted hops has led, home is assured, and the place is open.
  pub taken_assured : {x y n a b : ℕ} → Assured w h C hx hy x y → Taken w h C hx hy x y n a b → Assured w h C hx hy a b
  taken_assured s (none e p q) = moved (Assured w h C hx hy) (sym p) (sym q) s
  taken_assured s (hop l k e) = hop_assured (taken_assured s l) k

  pub taken_open : {x y n a b : ℕ} → Open w h C x y → Taken w h C hx hy x y n a b → Open w h C a b
  taken_open o (none e p q) = moved (Open w h C) (sym p) (sym q) o
  taken_open o (hop l k e) = k.to

  -- Each hop comes one hop nearer: hops taken and hops left make the distance, so that no sequence
  -- has more hops.
  pub taken_count : {x y n a b : ℕ} → Taken w h C hx hy x y n a b → n + dist a b hx hy ≡ dist x y hx hy
  taken_count (none e p q) = omega (arith, ap (λ (i : ℕ). gap i hx) p, ap (λ (j : ℕ). gap j hy) q)
  taken_count (hop l k e) = omega (arith, taken_count l, k.homeward)

  -- Two sequences one after the other are one.
  pub taken_append : {x y n a b m c d : ℕ} → Taken w h C hx hy x y n a b → Taken w h C hx hy a b m c d → Taken w h C hx hy x y (n + m) c d
  taken_append {x} {y} l (none e p q) = subst₃ (Taken w h C hx hy x y) (omega arith) (sym p) (sym q) l
  taken_append {n} l (hop {m = j} m k e) = hop {m = n + j} (taken_append l m) k (omega arith)

  -- Every stage of a sequence is itself one, and what is left of it is another.
  pub taken_stage : {x y n a b : ℕ} → Taken w h C hx hy x y n a b → (k : ℕ) → k ≤ n → Stage w h C hx hy x y n a b k
  taken_stage {x} {y} {n} (none e p q) k l =
      record { c = x; d = y; so_far = none {n = k} (omega arith) refl refl; left = none {n = n - k} (omega arith) p q }
  taken_stage {x} {y} {n} {a} {b} (hop {n = m} {a = c} {b = d} t f e) k l = go (ℕ_discrete k n) (taken_stage t k)
    where
      go : Dec (k ≡ n) → (k ≤ m → Stage w h C hx hy x y m c d k) → Stage w h C hx hy x y n a b k
      go (yes g) r = record { c = a; d = b; so_far = hop {m = k} t f (omega arith); left = none {n = n - k} (omega arith) refl refl }
      go (no g) r =
          let s : Stage w h C hx hy x y m c d k = r (omega arith) in
          record { c = s.c; d = s.d; so_far = s.so_far; left = hop {m = n - k} s.left f (omega arith) }

  -- At home there is no permitted hop.
  pub there_ends : {x y a b : ℕ} → There hx hy x y → ¬ Permitted w h C hx hy x y a b
  there_ends t k = permitted_away k t

-- The map is of document 01's size, so that the number that marks no distance is none.
module _ (w h : ℕ) (sides : Sides w h) (C : ℕ → ℕ → Type 0) (on : OnMap w h C) (st : Stable w h C) (dec : (x y : ℕ) → Dec (C x y)) (hx hy : ℕ) where
  -- Some hop is permitted from (x, y).
  abbrev Some : ℕ → ℕ → Type 0
  Some x y = (a : ℕ) × (b : ℕ) × Permitted w h C hx hy x y a b

  module _ {x y : ℕ} (s : Assured w h C hx hy x y) where
    -- The next crossing homeward along the row, and along the column, is a permitted hop if it is
    -- open.
    hop_row : ¬ (x ≡ hx) → ¬ C (hop_to x hx) y → Some x y
    hop_row p n =
        let o : On w h (hop_to x hx) y = record { in_x = hop_below x hx w s.place.on.in_x s.home.on.in_x; in_y = s.place.on.in_y } in
        (hop_to x hx, y, row_permitted.0 (p, record { on = o; free = n }))

    hop_column : ¬ (y ≡ hy) → ¬ C x (hop_to y hy) → Some x y
    hop_column q n =
        let o : On w h x (hop_to y hy) = record { in_x = s.place.on.in_x; in_y = hop_below y hy h s.place.on.in_y s.home.on.in_y } in
        (x, hop_to y hy, column_permitted.0 (q, record { on = o; free = n }))

    -- On home's row, and on its column, it is.
    on_row : y ≡ hy → ¬ (x ≡ hx) → ¬ C (hop_to x hx) y
    on_row q p c =
        row_open sides on s.home s.east_west (hop_to x hx) (hop_between hx x p) (step_other (hop_step x hx p)) (moved C refl q c)

    on_column : x ≡ hx → ¬ (y ≡ hy) → ¬ C x (hop_to y hy)
    on_column p q c =
        column_open sides on s.home s.north_south (hop_to y hy) (hop_between hy y q) (step_other (hop_step y hy q)) (moved C p refl c)

    -- Elsewhere one of the two is, or the place would be closed.
    one_open : ¬ (x ≡ hx) → ¬ (y ≡ hy) → Dec (C (hop_to x hx) y) → Dec (C x (hop_to y hy)) → Some x y
    one_open p q (no n) d = hop_row p n
    one_open p q (yes c) (no n) = hop_column q n
    one_open p q (yes c) (yes k) =
        let t : Step x (hop_to x hx) = hop_step x hx p in
        let r : Step y (hop_to y hy) = hop_step y hy q in
        let two : Apart (hop_to x hx) y x (hop_to y hy) = λ e. step_other t e.0 in
        absurd (s.place.free (st x y (hop_to x hx) y x (hop_to y hy) s.place.on (step_row t y) (step_column r x) two c k))

    -- An assured place other than home has a permitted hop.
    pub home_hop : Apart x y hx hy → Some x y
    home_hop o = go (ℕ_discrete x hx) (ℕ_discrete y hy)
      where
        go : Dec (x ≡ hx) → Dec (y ≡ hy) → Some x y
        go (yes p) (yes q) = absurd (o (p, q))
        go (yes p) (no q) = hop_column q (on_column p q)
        go (no p) (yes q) = hop_row p (on_row q p)
        go (no p) (no q) = one_open p q (dec (hop_to x hx) y) (dec x (hop_to y hy))

  -- So k hops homeward lead home from an assured place that is k hops away.
  home_in : (k x y : ℕ) → Assured w h C hx hy x y → dist x y hx hy ≡ k → Taken w h C hx hy x y k hx hy
  home_in zero x y s e = let z = dist_zero x y hx hy e in none refl (sym z.0) (sym z.1)
  home_in (suc k) x y s e = go (home_hop s (dist_apart x y hx hy (omega arith))) (home_in k)
    where
      go : Some x y → ((a b : ℕ) → Assured w h C hx hy a b → dist a b hx hy ≡ k → Taken w h C hx hy a b k hx hy) → Taken w h C hx hy x y (suc k) hx hy
      go r f =
          let rest : Taken w h C hx hy r.0 r.1 k hx hy = f r.0 r.1 (hop_assured s r.2) (omega (arith, r.2.homeward)) in
          subst (λ (n : ℕ). Taken w h C hx hy x y n hx hy) (omega arith) (taken_append (hop (none refl refl refl) r.2 refl) rest)

  -- Every sequence of permitted hops from an assured place can be continued until home.
  pub taken_continues : {x y n a b : ℕ} → Assured w h C hx hy x y → Taken w h C hx hy x y n a b → Taken w h C hx hy a b (dist a b hx hy) hx hy
  taken_continues {a} {b} s l = home_in (dist a b hx hy) a b (taken_assured s l) refl

  -- One that cannot be continued has led home, in as many hops as the distance.
  pub taken_ends : {x y n a b : ℕ} → Assured w h C hx hy x y → Taken w h C hx hy x y n a b → ((c d : ℕ) → ¬ Permitted w h C hx hy a b c d)
      → There hx hy a b × (n ≡ dist x y hx hy)
  taken_ends {x} {y} {n} {a} {b} s l stop = go (ℕ_discrete a hx) (ℕ_discrete b hy)
    where
      away : Apart a b hx hy → ⊥
      away o = let r : Some a b = home_hop (taken_assured s l) o in stop r.0 r.1 r.2

      go : Dec (a ≡ hx) → Dec (b ≡ hy) → There hx hy a b × (n ≡ dist x y hx hy)
      go (yes p) (yes q) = ((p, q), omega (arith, taken_count l, dist_none p q))
      go (yes p) (no q) = absurd (away (λ t. q t.1))
      go (no p) d = absurd (away (λ t. p t.0))
