-- What stands in the list after a map is read: a well-formed list of the file's markers.
use Rattle.std.specs.Prelude.{◌≡◌, List, ℕ, ◌+◌, ◌*◌, ◌<◌, ◌≤◌, length, drop, take}
use Rattle.std.proofs.Common.{sym, ap, ◌∙◌, inl, inr, arith, length-append, length-drop, take_at}
use Rattle.std.proofs.Math.Decide.{dec_le}
use Rattle.std.proofs.Math.ListN.{get_or-append}
use Rattle.field.specs.declared.Marker.{Marker}
use Rattle.field.specs.Map.{most_markers}
use Rattle.field.specs.Labels.{blank}
use Rattle.markers.specs.List.{slot}
use Rattle.mapfile.specs.File.{markers_of}
use Rattle.mapfile.proofs.RockLaws.{raster_crossings, marker_id, marker_on}
use Rattle.calls.specs.Rules.{Formed, markers_in}
use Rattle.calls.specs.RuleLaws.{holds}
use Rattle.calls.specs.Answers.{MapRead, read_map_lem}
use Rattle.calls.specs.declared.ReadMap.{ReadMap}

module _ {file : List ℕ} {list after : List Marker} {r : ReadMap} (t : MapRead file list after r) where
  -- The file's markers.
  abbrev pub markers : List Marker
  markers = markers_of r.width r.height t.bits

  -- Its rocks found a slot each.
  enough : r.count ≤ length list
  enough =
      holds (dec_le _ _) (λ l. t.room (record { w = r.width; h = r.height; bits = t.bits; map = t.map; many = inl (omega (arith, t.counted)) }))

  few : r.count ≤ most_markers
  few =
      holds (dec_le _ _) (λ l. t.room (record { w = r.width; h = r.height; bits = t.bits; map = t.map; many = inr (omega (arith, t.counted)) }))

  long : length t.bits ≡ r.height * r.width
  long = raster_crossings t.map.format r.width r.height t.map.body t.bits t.map.raster

  -- The k-th slot in use holds the k-th of the map's markers.
  pub slot_is : (k : ℕ) → k < r.count → slot after k ≡ slot markers k
  slot_is k l = ap (λ (m : List Marker). slot m k) t.slots ∙ get_or-append markers (drop r.count list) blank k (omega (arith, t.counted))

  pub read_formed : Formed (read_map_lem after r)
  read_formed =
      record {
        few = few;
        lent =
            omega (arith, enough, t.counted, ap length t.slots, length-append markers (drop r.count list), length-drop r.count list);
        some_id = λ k l. omega (arith, id_is k l);
        on = λ k l. rw (slot_is k l) (marker_on t.bits t.map.sides long k (omega (arith, t.counted)));
        rising = λ k l. omega (arith, id_is k (omega arith), id_is (k + 1) l);
      }
    where
      id_is : (k : ℕ) → k < r.count → (slot after k).id ≡ k + 1
      id_is k l = ap (λ (m : Marker). m.id) (slot_is k l) ∙ marker_id t.bits t.map.sides long k (omega (arith, t.counted))

  -- The markers in use are the map's.
  pub read_markers : markers_in (read_map_lem after r) ≡ markers
  read_markers = ap (take r.count) t.slots ∙ take_at markers (drop r.count list) r.count (sym t.counted)
