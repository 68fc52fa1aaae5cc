-- What more clearance gives a cart (Req 08). Its rocks are among those of a lower cart, and so are
-- its closed crossings, being the smallest set over fewer rocks. All else follows from that: what
-- is open stays open, so hops, drives, regions and open lines stay, no distance shrinks, and
-- assurance stays. C tells the closed crossings of the cart with more clearance, D those of the
-- lower one.
--
-- Two numbers may rise all the same, those of shut crossings and of groups. Of three rocks in a row
-- a cart that only the outer two stop finds the middle one shut, and of four in a row one that only
-- the outer two stop finds two groups where a lower cart finds one.
use Rattle.std.specs.Prelude.{◌≡◌, List, ◌⊎◌, ℕ, zero, suc, ◌<◌, ◌≤◌, get_or}
use Rattle.std.proofs.Common.{inl, inr, arith}
use Rattle.std.proofs.Math.Decide.{dec_le, dec_lt}
use Rattle.field.specs.Map.{Sides, On, OnMap, at, side, no_distance}
use Rattle.field.specs.Labels.{Closed, rock, closed_stable, smallest, Open, LabelSheet}
use Rattle.field.specs.Distances.{Way, Clear, at_closed, nearest, none, Distances, DistanceSheet}
use Rattle.field.specs.Distances.{Enough, nothing_that_way, at_most, Axis, level, above, below, Assured}
use Rattle.field.specs.Hops.{Permitted, Taken, none, hop}
use Rattle.field.specs.Drives.{Drive, last, next, ShortestDrive, HasDrive, InRegion, InOut, is_in, is_out, RegionSheet}
use Rattle.field.specs.CrossingLines.{OpenColumn, OpenRow, Lines, HasLines}
use Rattle.field.specs.Checks.{Accepted}
use Rattle.field.specs.Workings.Sheet.{Marked, Draws}
use Rattle.field.proofs.Workings.Marks.{decided, decided_draws}
use Rattle.field.proofs.Workings.Labelling.{label_sheet_draws}
use Rattle.field.specs.Workings.Looking.{clear_of}
use Rattle.field.proofs.Workings.ClearLaws.{clear_of_lem, clear_small, no_distance_far}
use Rattle.field.proofs.Workings.AcceptLaws.{accepted_shortest}
use Rattle.field.proofs.Workings.ShortestLaws.{shortest_accepted}
use Rattle.field.specs.Geometry.Shapes.{Among}
use Rattle.field.proofs.Geometry.HomeLines.{along_length}

-- "a cart with more clearance never has a closed crossing that a lower one finds open": R tells its
-- rocks, and S the lower cart's.
pub closed_fewer : (R S : ℕ → ℕ → Type 0) → Among R S → (w h : ℕ) → Among (Closed R w h) (Closed S w h)
closed_fewer R S f w h = smallest R w h (Closed S w h) (λ x y o r. rock o (f x y r)) (closed_stable S w h)

-- So a crossing that the lower cart's label sheet s shows open is open on the other's, t.
pub label_fewer : (R S : ℕ → ℕ → Type 0) → Among R S → (w h : ℕ) (s t : List ℕ) → LabelSheet S w h s → LabelSheet R w h t
    → (x y : ℕ) → On w h x y → at s w x y ≡ 0 → at t w x y ≡ 0
label_fewer R S f w h s t l k x y o e = go (dec_lt 0 (at t w x y))
  where
    shown : Marked t w h x y → Marked s w h x y
    shown m = (label_sheet_draws S w h s l).complete x y (closed_fewer R S f w h x y ((label_sheet_draws R w h t k).sound x y m))

    go : Dec (0 < at t w x y) → at t w x y ≡ 0
    go (yes m) = absurd (omega (arith, e, (shown (record { on = o; mark = m })).mark))
    go (no m) = omega arith

module _ (w h : ℕ) (C D : ℕ → ℕ → Type 0) (f : Among C D) where
  -- What the lower cart finds open is open.
  pub open_more : {x y : ℕ} → Open w h D x y → Open w h C x y
  open_more {x} {y} o = record { on = o.on; free = λ c. o.free (f x y c) }

  -- Its permitted hops are permitted, and so are sequences of them.
  pub permitted_more : {hx hy x y a b : ℕ} → Permitted w h D hx hy x y a b → Permitted w h C hx hy x y a b
  permitted_more p = record { near = p.near; to = open_more p.to; homeward = p.homeward }

  pub taken_more : {hx hy x y n a b : ℕ} → Taken w h D hx hy x y n a b → Taken w h C hx hy x y n a b
  taken_more (none e p q) = none e p q
  taken_more (hop t p e) = hop (taken_more t) (permitted_more p) e

  -- Its drives are drives, its shortest ones shortest, and its region is in the region.
  pub drive_more : {dx dy x y : ℕ} {l : List ℕ} → Drive w h D dx dy x y l → Drive w h C dx dy x y l
  drive_more (last p q o e) = last p q (open_more o) e
  drive_more (next o n v e) = next (open_more o) n (drive_more v) e

  pub shortest_more : {sx sy dx dy : ℕ} {l : List ℕ} → ShortestDrive w h D sx sy dx dy l → ShortestDrive w h C sx sy dx dy l
  shortest_more v = record { drive = drive_more v.drive; hops = v.hops }

  pub has_drive_more : {sx sy dx dy : ℕ} → HasDrive w h D sx sy dx dy → HasDrive w h C sx sy dx dy
  has_drive_more v = record { route = v.route; shortest = shortest_more v.shortest }

  pub region_more : {sx sy dx dy x y : ℕ} → InRegion w h D sx sy dx dy x y → InRegion w h C sx sy dx dy x y
  region_more v =
      record {
        on = v.on;
        route = v.route;
        shortest = shortest_more v.shortest;
        place = v.place;
        in_route = v.in_route;
        is_there = v.is_there;
      }

  -- So a crossing that its region sheet s shows in is in on the other's, t.
  pub region_sheet_more : {sx sy dx dy : ℕ} {s t : List ℕ} → RegionSheet w h D sx sy dx dy s → RegionSheet w h C sx sy dx dy t
      → (x y : ℕ) → On w h x y → at s w x y ≡ 1 → at t w x y ≡ 1
  region_sheet_more {sx} {sy} {dx} {dy} {s} {t} p q x y o e = go (p.region x y o) (q.region x y o)
    where
      go : InOut (InRegion w h D sx sy dx dy x y) (at s w x y) → InOut (InRegion w h C sx sy dx dy x y) (at t w x y) → at t w x y ≡ 1
      go (is_out z n) v = absurd (omega arith)
      go (is_in z i) (is_in z' j) = z'
      go (is_in z i) (is_out z' n) = absurd (n (region_more i))

  -- A drawn list that is accepted for it is accepted.
  pub accepted_more : (sx sy dx dy : ℕ) (l : List ℕ) → Accepted w h D sx sy dx dy l → Accepted w h C sx sy dx dy l
  accepted_more sx sy dx dy l a = shortest_accepted w h C sx sy dx dy l (shortest_more (accepted_shortest w h D sx sy dx dy l a))

  -- Its open columns and rows are open, so that a yes of the crossing-lines test stays a yes. More
  -- of them may be open: the westmost column is no further east, the southmost row no further
  -- north.
  pub column_more : {sx sy dx dy x : ℕ} → OpenColumn w h D sx sy dx dy x → OpenColumn w h C sx sy dx dy x
  column_more c = record { between = c.between; throughout = λ y b. open_more (c.throughout y b) }

  pub row_more : {sx sy dx dy y : ℕ} → OpenRow w h D sx sy dx dy y → OpenRow w h C sx sy dx dy y
  row_more r = record { between = r.between; throughout = λ x b. open_more (r.throughout x b) }

  pub lines_more : {sx sy dx dy : ℕ} → HasLines w h D sx sy dx dy → HasLines w h C sx sy dx dy
  lines_more t =
      record { column = t.column; row = t.row; column_open = column_more t.column_open; row_open = row_more t.row_open }

  pub lines_nearer : {sx sy dx dy c r c' r' : ℕ} → Lines w h D sx sy dx dy c r → Lines w h C sx sy dx dy c' r' → (c' ≤ c) × (r' ≤ r)
  lines_nearer {c} {r} t u = (u.westmost c (column_more t.column_open), u.southmost r (row_more t.row_open))

  -- Distances are compared as the numbers that are told, of which the mark for none is the largest:
  -- it is so on maps within the limits of the sides.
  module _ (sides : Sides w h) (on : OnMap w h D) where
    -- No distance shrinks.
    pub clear_farther : {t : Way} {x y m n : ℕ} → On w h x y → Clear D t x y m → Clear C t x y n → m ≤ n
    clear_farther o (at_closed d e) q = omega arith
    clear_farther {x} {y} o (nearest a b p l d g) (at_closed c e) = absurd (p (f x y c))
    clear_farther {m} {n} o (nearest a b p l d g) (nearest a' b' p' l' c g') = go (dec_le m n)
      where
        go : Dec (m ≤ n) → m ≤ n
        go (yes k) = k
        go (no k) = absurd (g n a' b' (omega arith) l' (f a' b' c))
    clear_farther {t} {x} {y} {m} o (nearest a b p l d g) (none p' g' e) = omega (arith, along_length t m x y a b sides o (on a b d) l)
    clear_farther {x} {y} o (none p g e) (at_closed c e') = absurd (p (f x y c))
    clear_farther {n} o (none p g e) (nearest a b p' l c g') = absurd (g n a b l (f a b c))
    clear_farther o (none p g e) (none p' g' e') = omega arith

    -- So none of a crossing's four shrinks, and none of a sheet.
    pub distances_farther : {x y : ℕ} {four four' : List ℕ} → On w h x y → Distances D x y four → Distances C x y four'
        → (i : ℕ) → get_or four i 0 ≤ get_or four' i 0
    distances_farther {four} {four'} o p q i =
        go i (clear_farther o p.east q.east) (clear_farther o p.south q.south) (clear_farther o p.west q.west) (clear_farther o p.north q.north)
      where
        -- Whatever the order of the four is.
        go : (i : ℕ) → p.e ≤ q.e → p.s ≤ q.s → p.w ≤ q.w → p.n ≤ q.n → get_or four i 0 ≤ get_or four' i 0
        go zero e s v n = rw (p.in_order, q.in_order) (omega arith)
        go (suc zero) e s v n = rw (p.in_order, q.in_order) (omega arith)
        go (suc (suc zero)) e s v n = rw (p.in_order, q.in_order) (omega arith)
        go (suc (suc (suc zero))) e s v n = rw (p.in_order, q.in_order) (omega arith)
        go (suc (suc (suc (suc i)))) e s v n = rw (p.in_order, q.in_order) (omega arith)

    pub distance_sheet_farther : {t : Way} {s s' : List ℕ} → DistanceSheet w h D t s → DistanceSheet w h C t s'
        → (x y : ℕ) → On w h x y → at s w x y ≤ at s' w x y
    distance_sheet_farther p q x y o = clear_farther o (p.distance x y o) (q.distance x y o)

    module _ (dec : (x y : ℕ) → Dec (C x y)) where
      abbrev marks : List ℕ
      marks = decided w h dec

      marks_draw : Draws w h C marks
      marks_draw = decided_draws w h C (λ x y c. on x y (f x y c)) dec

      -- Where the lower cart's distance is enough for an offset, there is a distance, and it is
      -- enough.
      clear_more : (t : Way) {x y offset n : ℕ} → On w h x y → Clear D t x y n → Enough offset n → (m : ℕ) × Clear C t x y m × Enough offset m
      clear_more t {x} {y} {offset} {n} o d e =
          (m, c, go e (clear_farther o d c) (clear_small w h C marks marks_draw sides t x y m o c))
        where
          m : ℕ
          m = clear_of t marks w h x y

          c : Clear C t x y m
          c = clear_of_lem w h C marks marks_draw t x y o

          go : Enough offset n → n ≤ m → (m ≡ no_distance) ⊎ (m < side) → Enough offset m
          go k l (inl z) = nothing_that_way z
          go (nothing_that_way k) l (inr z) = absurd (omega (arith, no_distance_far))
          go (at_most k) l (inr z) = at_most (omega arith)

      axis_more : {x y : ℕ} {up down : Way} {m p : ℕ} → On w h x y → Axis (λ t n. Clear D t x y n) up down m p → Axis (λ t n. Clear C t x y n) up down m p
      axis_more o (level e) = level e
      axis_more {up} o (above l n d e) = let k = clear_more up o d e in above l k.0 k.1 k.2
      axis_more {down} o (below l n d e) = let k = clear_more down o d e in below l k.0 k.1 k.2

      -- Where home is assured for the lower cart, it is assured.
      pub assured_more : {hx hy x y : ℕ} → Assured w h D hx hy x y → Assured w h C hx hy x y
      assured_more a =
          record {
            home = open_more a.home;
            place = open_more a.place;
            east_west = axis_more a.home.on a.east_west;
            north_south = axis_more a.home.on a.north_south;
          }
