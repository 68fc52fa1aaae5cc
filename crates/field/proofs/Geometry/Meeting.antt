-- The crossing where an open column and an open row meet. The row is clear from it to each end's column and the column
-- to each end's row, so it is assured for both ends as if it were home; both have a shortest drive to it, and the two
-- together are no detour. C is any stable set of crossings on the map.
use Rattle.std.specs.Prelude.{◌≡◌, List, ◌++◌, ℕ, ◌+◌, ◌≤◌, drop}
use Rattle.std.proofs.Common.{sym, arith}
use Rattle.std.proofs.Math.Decide.{dec_le}
use Rattle.field.specs.Map.{Sides, OnMap, gap, dist}
use Rattle.field.specs.Labels.{Stable, Open}
use Rattle.field.specs.Distances.{Way, eastward, southward, westward, northward, Along, Clear, at_closed, nearest, none}
use Rattle.field.specs.Distances.{Enough, nothing_that_way, at_most, Axis, level, above, below, Assured}
use Rattle.field.specs.Drives.{ShortestDrive, HasDrive}
use Rattle.field.specs.CrossingLines.{OpenColumn, OpenRow, HasLines, DrivenBy}
use Rattle.field.specs.Workings.Sheet.{Draws}
use Rattle.field.proofs.Workings.Marks.{decided, decided_draws}
use Rattle.field.proofs.Workings.AxisLaws.{Order, less, same, more, order, gap_above, gap_turned}
use Rattle.field.specs.Workings.Looking.{clear_of}
use Rattle.field.proofs.Workings.ClearLaws.{clear_of_lem}
use Rattle.field.proofs.Workings.DriveLaws.{drive_join, drive_join_length, has_drive_turned}
use Rattle.field.proofs.Workings.ChooserLaws.{driven_shortest}
use Rattle.field.specs.Geometry.Shapes.{Between}
use Rattle.field.proofs.Geometry.HomeDrives.{assured_drive}

-- A distance is enough for an offset up to which nothing is closed.
clear_enough : {C : ℕ → ℕ → Type 0} {t : Way} {x y n : ℕ} (offset : ℕ) → ¬ C x y → Clear C t x y n
    → ((k a b : ℕ) → k ≤ offset → Along t k x y a b → ¬ C a b) → Enough offset n
clear_enough offset o (at_closed c e) f = absurd (o c)
clear_enough {n} offset o (nearest a b p l c g) f = go (dec_le n offset)
  where
    go : Dec (n ≤ offset) → Enough offset n
    go (yes m) = absurd (f n a b m l c)
    go (no m) = at_most (omega arith)
clear_enough offset o (none p g e) f = nothing_that_way e

-- A place between two others makes no detour on their axis.
gap_rising : {a m b : ℕ} → a ≤ m → m ≤ b → gap a m + gap m b ≡ gap a b
gap_rising {a} {m} {b} p q = omega (arith, gap_above p, gap_above q, gap_above {a = a} {b = b} (omega arith))

pub gap_by : (a m b : ℕ) → Between a m b → gap a m + gap m b ≡ gap a b
gap_by a m b t = go (dec_le a b)
  where
    go : Dec (a ≤ b) → gap a m + gap m b ≡ gap a b
    go (yes l) = gap_rising (omega arith) (omega arith)
    go (no l) =
        let e : gap b m + gap m a ≡ gap b a = gap_rising (omega arith) (omega arith) in
        omega (arith, e, gap_turned a m, gap_turned m b, gap_turned a b)

module _ (w h : ℕ) (sides : Sides w h) (C : ℕ → ℕ → Type 0) (on : OnMap w h C) (st : Stable w h C) (dec : (x y : ℕ) → Dec (C x y)) where
  -- A sheet of C, from which distances can be read.
  abbrev marks : List ℕ
  marks = decided w h dec

  marks_draw : Draws w h C marks
  marks_draw = decided_draws w h C on dec

  -- One axis of assurance, from m to p, where nothing is closed on m's line from m up to p. L tells what is closed on the line.
  module _ (x y : ℕ) (o : Open w h C x y) (up down : Way) (m p : ℕ) (L : ℕ → Type 0)
      (f : (k a b : ℕ) → Along up k x y a b → C a b → L (m + k))
      (g : (k a b : ℕ) → Along down k x y a b → C a b → (v : ℕ) × (v + k ≡ m) × L v)
      (free : (v : ℕ) → Between m v p → ¬ L v) where
    axis_clear : Axis (λ t n. Clear C t x y n) up down m p
    axis_clear = go (order m p)
      where
        go : Order m p → Axis (λ t n. Clear C t x y n) up down m p
        go (less l) =
            let n : (n : ℕ) × Clear C up x y n = (clear_of up marks w h x y, clear_of_lem w h C marks marks_draw up x y o.on) in
            above l n.0 n.1
            (clear_enough (gap m p) o.free n.1
            (λ k a b q r c. free (m + k) (omega (arith, gap_above {a = m} {b = p} (omega arith))) (f k a b r c)))
        go (same l) = level (sym l)
        go (more l) =
            let n : (n : ℕ) × Clear C down x y n = (clear_of down marks w h x y, clear_of_lem w h C marks marks_draw down x y o.on) in
            below l n.0 n.1
            (clear_enough (gap m p) o.free n.1
            (λ k a b q r c.
            let v = g k a b r c in
            free v.0 (omega (arith, v.1, gap_above {a = p} {b = m} (omega arith), gap_turned m p)) v.2))

  -- (x, y) is assured, as home, for an open place, where its row is open from it to the place's column and its column to the place's row.
  pub clear_assured : (x y a b : ℕ) → Open w h C x y → Open w h C a b → ((u : ℕ) → Between x u a → ¬ C u y) → ((v : ℕ) → Between y v b → ¬ C x v)
      → Assured w h C x y a b
  clear_assured x y a b o p f g =
      record {
        home = o;
        place = p;
        east_west =
            axis_clear x y o eastward westward x a (λ u. C u y) (λ k c d l t. east k c d l t) (λ k c d l t. (c, l.0, west k c d l t)) f;
        north_south =
            axis_clear x y o northward southward y b (C x) (λ k c d l t. north k c d l t) (λ k c d l t. (d, l.1, south k c d l t)) g;
      }
    where
      east : (k c d : ℕ) → (c ≡ x + k) × (d ≡ y) → C c d → C (x + k) y
      east k c d l t = rw (l.0, l.1) at t

      west : (k c d : ℕ) → (c + k ≡ x) × (d ≡ y) → C c d → C c y
      west k c d l t = rw l.1 at t

      north : (k c d : ℕ) → (c ≡ x) × (d ≡ y + k) → C c d → C x (y + k)
      north k c d l t = rw (l.0, l.1) at t

      south : (k c d : ℕ) → (c ≡ x) × (d + k ≡ y) → C c d → C x d
      south k c d l t = rw l.0 at t

  module _ (sx sy dx dy : ℕ) where
    -- s and d change places: the same columns and rows are open.
    column_turned : {x : ℕ} → OpenColumn w h C sx sy dx dy x → OpenColumn w h C dx dy sx sy x
    column_turned c =
        record { between = omega (arith, c.between); throughout = λ y b. c.throughout y (omega arith) }

    row_turned : {y : ℕ} → OpenRow w h C sx sy dx dy y → OpenRow w h C dx dy sx sy y
    row_turned r = record { between = omega (arith, r.between); throughout = λ x b. r.throughout x (omega arith) }

    module _ (x y : ℕ) (column : OpenColumn w h C sx sy dx dy x) (row : OpenRow w h C sx sy dx dy y) where
      pub meeting_open : Open w h C x y
      meeting_open = column.throughout y row.between

      -- The meeting crossing is assured for s: its row is open to s's column, and its column to s's row.
      pub meeting_assured : Open w h C sx sy → Assured w h C x y sx sy
      meeting_assured o =
          clear_assured x y sx sy meeting_open o
          (λ u b. (row.throughout u (omega (arith, column.between))).free)
          (λ v b. (column.throughout v (omega (arith, row.between))).free)

      -- By way of it there is no detour.
      pub meeting_direct : dist sx sy x y + dist x y dx dy ≡ dist sx sy dx dy
      meeting_direct = omega (arith, gap_by sx x dx column.between, gap_by sy y dy row.between)

      pub meeting_drive : Open w h C sx sy → HasDrive w h C sx sy x y
      meeting_drive o = assured_drive w h sides C on st dec (meeting_assured o)

  -- It is assured for d as well, and has a shortest drive to d.
  pub meeting_assured_end : (sx sy dx dy x y : ℕ) → OpenColumn w h C sx sy dx dy x → OpenRow w h C sx sy dx dy y → Open w h C dx dy → Assured w h C x y dx dy
  meeting_assured_end sx sy dx dy x y c r o = meeting_assured dx dy sx sy x y (column_turned sx sy dx dy c) (row_turned sx sy dx dy r) o

  pub meeting_drive_end : (sx sy dx dy x y : ℕ) → OpenColumn w h C sx sy dx dy x → OpenRow w h C sx sy dx dy y → Open w h C dx dy → HasDrive w h C x y dx dy
  meeting_drive_end sx sy dx dy x y c r o = has_drive_turned w h C (assured_drive w h sides C on st dec (meeting_assured_end sx sy dx dy x y c r o))

  -- Two shortest drives that meet where there is no detour join to one.
  pub shortest_join : {sx sy x y dx dy : ℕ} {l m : List ℕ} → dist sx sy x y + dist x y dx dy ≡ dist sx sy dx dy
      → ShortestDrive w h C sx sy x y l → ShortestDrive w h C x y dx dy m → ShortestDrive w h C sx sy dx dy (l ++ drop 1 m)
  shortest_join e v u =
      record { drive = drive_join w h C v.drive u.drive; hops = omega (arith, drive_join_length w h C v.drive u.drive, v.hops, u.hops) }

  -- A yes has a shortest drive.
  pub lines_drive : (sx sy dx dy : ℕ) → Open w h C sx sy → Open w h C dx dy → HasLines w h C sx sy dx dy → HasDrive w h C sx sy dx dy
  lines_drive sx sy dx dy s d t =
      let c = t.column_open in
      let r = t.row_open in
      let v = meeting_drive sx sy dx dy t.column t.row c r s in
      let u = meeting_drive_end sx sy dx dy t.column t.row c r d in
      record { route = v.route ++ drop 1 u.route; shortest = shortest_join (meeting_direct sx sy dx dy t.column t.row c r) v.shortest u.shortest }

  -- The drive by way of the meeting crossing is a shortest drive from s to d.
  pub driven_by_shortest : (sx sy dx dy x y : ℕ) {z z' : ℕ} {l : List ℕ} → OpenColumn w h C sx sy dx dy x → OpenRow w h C sx sy dx dy y
      → Open w h C sx sy → Open w h C dx dy → DrivenBy w h C sx sy dx dy x y z l z' → ShortestDrive w h C sx sy dx dy l
  driven_by_shortest sx sy dx dy x y c r s d v =
      rw v.joined
      (shortest_join (meeting_direct sx sy dx dy x y c r)
      (driven_shortest w h C sx sy x y (meeting_drive sx sy dx dy x y c r s) v.to_meeting)
      (driven_shortest w h C x y dx dy (meeting_drive_end sx sy dx dy x y c r d) v.from_meeting))
