-- Map files there and back. What is written is read as the same map; and a list that is read is
-- well formed, so that every asking, entering, clearing and writing can follow.
use Rattle.std.specs.Prelude.{◌≡◌, List, ℕ, ◌≤◌, length, take}
use Rattle.std.proofs.Common.{sym, subst}
use Rattle.field.specs.declared.Marker.{Marker}
use Rattle.field.specs.Labels.{RockOn, Count}
use Rattle.calls.specs.Rules.{LentMap, Sized, Formed, RocksOf, Shared}
use Rattle.calls.specs.Answers.{read_map_lem}
use Rattle.calls.specs.Calls.{ReadCall, WriteCall}
use Rattle.calls.proofs.RoundLaws
use Rattle.calls.specs.declared.ReadMap.{ReadMap}
use Rattle.calls.specs.declared.WroteMap.{WroteMap}
use Rattle.calls.specs.RoundTrip.{SameMap}

-- "Reading a written map into a list with a slot for each rock gives the same crossings." The bytes
-- written are the first of the output, as many as were handed back; the list that is lent to
-- reading may hold anything. There are n rocks, those of the cart for which the map was written.
module _ {m : LentMap} {list list' : List Marker} {out out' : List ℕ} {wrote : WroteMap} {r : ReadMap} {n : ℕ} (c : WriteCall m out out' wrote)
    (z : wrote.refusal ≡ 0) (d : ReadCall (take wrote.bytes out') list list' r)
    (rocks : Count m.width m.height (RockOn (RocksOf m) m.width m.height) n) (room : n ≤ length list) where
  pub read_write_taken : r.refusal ≡ 0
  read_write_taken = RoundLaws.back_not_refused c z d rocks room

  pub read_write : SameMap m (read_map_lem list' r)
  read_write =
      let u = d.done read_write_taken in
      let back = RoundLaws.back c z u.map in
      record {
        width = back.width_is;
        height = back.height_is;
        count = subst (Count m.width m.height (RockOn (RocksOf m) m.width m.height)) (sym u.counted) (RoundLaws.back_count c z u.map);
        crossings = RoundLaws.back_crossings c z d read_write_taken;
      }

-- What any reading leaves that is not refused: a map of document 01's size, a well-formed list, and
-- no two markers on one crossing. So 1 and 3 are never given for it, nor 16 when it is written.
module _ {file : List ℕ} {list list' : List Marker} {r : ReadMap} (c : ReadCall file list list' r) (z : r.refusal ≡ 0) where
  pub read_sides : Sized (read_map_lem list' r)
  read_sides = RoundLaws.read_sides c z

  pub read_formed : Formed (read_map_lem list' r)
  read_formed = RoundLaws.read_formed c z

  pub read_apart : ¬ Shared list' r.count
  read_apart = RoundLaws.read_apart c z
