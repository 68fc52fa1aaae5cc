-- Why a written map is read back. What is written is one map by the grammar, so that no reading
-- finds a fault in it. Neither in the list written nor among the file's markers do two share a
-- crossing: so there are as many of these as rocks' crossings, no more than the list has, and they
-- find a slot each.
use Rattle.std.specs.Prelude.{◌≡◌, List, ◌↔◌, ◌⊎◌, ℕ, ◌*◌, ◌<◌, ◌≤◌, length, take, drop}
use Rattle.std.proofs.Common.{sym, ap, subst, ◌∙◌, inl, inr, arith, take_at}
use Rattle.std.proofs.Math.Decide.{dec_lt, ℕ_discrete}
use Rattle.field.specs.declared.Marker.{Marker}
use Rattle.field.specs.Map.{On, most_markers, tallest}
use Rattle.field.specs.Limits.{tallest_some}
use Rattle.field.specs.Labels.{Rock, RockOn, Count}
use Rattle.field.proofs.Workings.Counting.{count_one}
use Rattle.field.proofs.Workings.SameLaws.{count_alike}
use Rattle.markers.specs.List.{slot}
use Rattle.markers.specs.Laws.Rocks.{Stands, Any, Over}
use Rattle.markers.proofs.Laws.Rocks.{rock_stands}
use Rattle.mapfile.specs.File.{MapFile, markers_of}
use Rattle.mapfile.proofs.PackedLaws.{Tellable}
use Rattle.mapfile.proofs.FileLaws.{fault_no_map}
use Rattle.mapfile.proofs.RockLaws.{raster_crossings, marker_tall, marker_on, markers_apart}
use Rattle.mapfile.specs.Written.{Written}
use Rattle.mapfile.proofs.WrittenLaws.{written_map, ReadBack, read_written}
use Rattle.calls.specs.ListRead as List-read
use Rattle.calls.specs.Rules
use Rattle.calls.specs.Rules.{LentMap, with_clearance, Sized, OnIt, Formed, markers_in, RocksOf, Shared}
use Rattle.calls.specs.Answers.{ReadFault, read_map_lem}
use Rattle.calls.specs.RuleLaws.{None, holds, gives_none, sides_hold, formed_holds}
use Rattle.calls.specs.Calls.{ReadCall, WriteCall}
use Rattle.calls.specs.OutcomeLaws.{rocks_told}
use Rattle.calls.specs.Sharing.{apart_fewer, apart_counted}
use Rattle.calls.specs.declared.ReadMap.{ReadMap}
use Rattle.calls.specs.declared.WroteMap.{WroteMap}

-- The markers of a map file stand on its map, no two on one crossing.
module _ {file bits : List ℕ} {w h : ℕ} (m : MapFile file w h bits) where
  abbrev markers : List Marker
  markers = markers_of w h bits

  long : length bits ≡ h * w
  long = raster_crossings m.format w h m.body bits m.raster

  file_on : (k : ℕ) → k < length markers → On w h (slot markers k).x (slot markers k).y
  file_on = marker_on bits m.sides long

  file_rock : (x y : ℕ) → Stands Any markers (length markers) x y ↔ Rock 0 markers x y
  file_rock x y = (
    λ s. record {
      slot = s.place;
      in_use = s.below;
      x_is = s.x_is;
      y_is = s.y_is;
      stops = omega (arith, marker_tall bits m.sides long s.place s.below, tallest_some);
    },
    λ r. record { place = r.slot; below = r.in_use; x_is = r.x_is; y_is = r.y_is; such = tt },
  )

  file_apart : ¬ Shared markers (length markers)
  file_apart t = go (dec_lt t.j t.k)
    where
      go : Dec (t.j < t.k) → ⊥
      go (yes l) = markers_apart bits m.sides long t.j t.k l t.k_below t.x t.y
      go (no l) = markers_apart bits m.sides long t.k t.j (omega (arith, t.two)) t.j_below (sym t.x) (sym t.y)

-- What a reading leaves that is not refused.
module _ {file : List ℕ} {list list' : List Marker} {r : ReadMap} (c : ReadCall file list list' r) (z : r.refusal ≡ 0) where
  pub read_sides : Sized (read_map_lem list' r)
  read_sides = (c.done z).map.sides

  pub read_formed : Formed (read_map_lem list' r)
  read_formed = List-read.read_formed (c.done z)

  -- The markers read are those of the file, so no two of them share a crossing.
  pub read_apart : ¬ Shared list' r.count
  read_apart t =
      let u = c.done z in
      let a = List-read.slot_is u t.j t.j_below in
      let b = List-read.slot_is u t.k t.k_below in
      file_apart u.map
      (record {
        j = t.j;
        k = t.k;
        j_below = omega (arith, t.j_below, u.counted);
        k_below = omega (arith, t.k_below, u.counted);
        two = t.two;
        x = sym (ap (λ (m : Marker). m.x) a) ∙ t.x ∙ ap (λ (m : Marker). m.x) b;
        y = sym (ap (λ (m : Marker). m.y) a) ∙ t.y ∙ ap (λ (m : Marker). m.y) b;
      })

-- A writing that is not refused: the list is well formed, no two of its markers share a crossing,
-- and the bytes written are the file.
module _ {m : LentMap} {out out' : List ℕ} {wrote : WroteMap} (c : WriteCall m out out' wrote) (z : wrote.refusal ≡ 0) where
  none : None (Rules.write_table m out)
  none = gives_none (Rules.write_table m out) 0 wrote.refusal (omega arith) c.given z

  sides : Sized m
  sides = sides_hold none.0

  formed : Formed m
  formed = formed_holds none.1.0

  -- The bytes written.
  abbrev bytes : List ℕ
  bytes = take wrote.bytes out'

  written : Written m.width m.height (RocksOf m) bytes
  written =
      let u = c.done z in
      let front : bytes ≡ u.file = ap (take wrote.bytes) u.is ∙ take_at u.file (drop (length u.file) out) wrote.bytes (sym u.counted) in
      subst (Written m.width m.height (RocksOf m)) (sym front) u.written

  rocks_tell : Tellable m.width m.height (RocksOf m)
  rocks_tell = rocks_told m.clearance (markers_in m) m.width m.height

  rock_on : (x y : ℕ) → RocksOf m x y → OnIt m x y
  rock_on x y r = at_stand (rock_stands m.clearance m.list m.count x y r)
    where
      at_stand : Stands (Over m.clearance) m.list m.count x y → OnIt m x y
      at_stand s = rw (← s.x_is, ← s.y_is) (formed.on s.place s.below)

  -- Whatever map the bytes are by the grammar, its markers stand on the cart's rocks, and are as
  -- many; so they are no more than the list's.
  module _ {width height : ℕ} {bits : List ℕ} (f : MapFile bytes width height bits) where
    pub back : ReadBack m.width m.height (RocksOf m) width height bits
    back = read_written m.width m.height (RocksOf m) rocks_tell bytes sides written width height bits f

    back_rocks : (clearance x y : ℕ) → clearance < tallest → Rock clearance (markers_of width height bits) x y ↔ RocksOf m x y
    back_rocks c x y low = (λ r. ((back.rocks c x y low).0 r).1, λ r. (back.rocks c x y low).1 (rock_on x y r, r))

    on_map : (k : ℕ) → k < length (markers_of width height bits) → OnIt m (slot (markers_of width height bits) k).x (slot (markers_of width height bits) k).y
    on_map k l = rw (← back.width_is, ← back.height_is) (file_on f k l)

    stands_rock : (x y : ℕ) → Stands Any (markers_of width height bits) (length (markers_of width height bits)) x y ↔ RocksOf m x y
    stands_rock x y =
        (λ s. (back_rocks 0 x y tallest_some).0 ((file_rock f x y).0 s), λ r. (file_rock f x y).1 ((back_rocks 0 x y tallest_some).1 r))

    pub back_count : Count m.width m.height (RockOn (RocksOf m) m.width m.height) (length (markers_of width height bits))
    back_count =
        count_alike m.width m.height
        (λ x y. (
          λ s. record { on = s.on; stone = (stands_rock x y).0 s.stone },
          λ r. record { on = r.on; stone = (stands_rock x y).1 r.stone },
        ))
        (apart_counted on_map (file_apart f))

    back_few : length (markers_of width height bits) ≤ m.count
    back_few =
        apart_fewer on_map formed.on
        (λ x y s. let t = rock_stands m.clearance m.list m.count x y ((stands_rock x y).0 s) in record { place = t.place; below = t.below; x_is = t.x_is; y_is = t.y_is; such = tt })
        (file_apart f) none.1.1.0

  -- Read into a list with a slot for each rock, they are not refused.
  module _ {list list' : List Marker} {r : ReadMap} (d : ReadCall bytes list list' r) where
    pub back_not_refused : {n : ℕ} → Count m.width m.height (RockOn (RocksOf m) m.width m.height) n → n ≤ length list → r.refusal ≡ 0
    back_not_refused {n} rocks room = holds (ℕ_discrete _ _) (λ n. go (d.given n))
      where
        full : {k : ℕ} → k ≡ n → k ≤ m.count → (length list < k) ⊎ (most_markers < k) → ⊥
        full e l (inl o) = omega arith
        full e l (inr o) = omega (arith, formed.few)

        go : ReadFault bytes (length list) r.refusal → ⊥
        go (inl f) = fault_no_map f (written_map m.width m.height (RocksOf m) rocks_tell bytes sides written).1
        go (inr s) = full (count_one m.width m.height (back_count s.0.map) rocks) (back_few s.0.map) s.0.many

    -- The list then holds the map's markers.
    pub back_crossings : r.refusal ≡ 0 → (clearance : ℕ) → clearance < tallest → (x y : ℕ)
        → RocksOf (with_clearance (read_map_lem list' r) clearance) x y ↔ RocksOf m x y
    back_crossings z c low x y = rw (List-read.read_markers (d.done z)) (back_rocks (d.done z).map c x y low)
