-- From the parts of reading to the call's promise. Where the first part refuses, the second doesn't
-- come; else it puts the markers of the map in the first slots.
use Rattle.std.specs.Prelude.{◌≡◌, refl, List, [], ◌∷◌, ◌++◌, ◌⊎◌, ℕ, suc, ◌+◌, ◌*◌, ◌<◌, ◌≤◌, length, set, take, drop, Result, Ok, Err, MatchResult}
use Rattle.std.proofs.Common.{sym, ap, ◌∙◌, append_assoc, inl, inr, arith, add-one, length-append, length-drop, take-suc, drop-cons, take_all, length-take-le}
use Rattle.std.proofs.lemmas.List.{set_at}
use Rattle.field.specs.declared.Marker.{Marker}
use Rattle.field.specs.declared.Reading.{Reading}
use Rattle.field.specs.declared.refusals.Refusal.{Refusal}
use Rattle.field.specs.Map.{side, most_markers}
use Rattle.field.specs.Labels.{blank}
use Rattle.field.specs.Limits.{most_crossings_is, crossings_few}
use Rattle.markers.specs.List.{slot}
use Rattle.mapfile.specs.File.{markers_of, NoSlot}
use Rattle.mapfile.proofs.FileLaws.{map_file_one}
use Rattle.exchange.specs.Promise.{ReadFirst}
use Rattle.layer.specs.Files.{MayPut, put_in}
use Rattle.calls.specs.Calls.{ReadCall}
use Rattle.calls.specs.Told.{read_map}
use Rattle.layer.specs.Told.{some_number}

-- Putting changes no length, and one marker more is put by one store.
pub put_length : (list markers : List Marker) (k : ℕ) → k ≤ length list → k ≤ length markers → length (put_in list k markers) ≡ length list
put_length list markers k l m = omega (arith, length-append (take k markers) (drop k list), length-take-le k markers m, length-drop k list)

pub put_more : (list markers : List Marker) (k : ℕ) → k < length list → k < length markers → set (put_in list k markers) k (slot markers k) ≡ put_in list (k + 1) markers
put_more list markers k l m =
    ap (λ (t : List Marker). set (front ++ t) k (slot markers k)) (drop-cons list k blank l)
    ∙ set_at front (slot list k) (drop (suc k) list) (slot markers k) k (length-take-le k markers (omega arith))
    ∙ sym (append_assoc front (slot markers k ∷ []) (drop (suc k) list))
    ∙ ap (λ (t : List Marker). t ++ drop (suc k) list) (sym (take-suc markers k blank m))
    ∙ ap (λ (n : ℕ). put_in list n markers) (sym (add-one k))
  where
    front : List Marker
    front = take k markers

-- Where the first part has a map, the second part may put its markers.
pub may_put : {file : List ℕ} {list : List Marker} {out : List ℕ} (r : Reading) → side * side ≤ length out → ReadFirst file (length list) out (Ok r)
    → MayPut list r.rocks r.map.w r.map.h out
may_put r l q =
    record { lent = q.within; all = omega (arith, crossings_few q.map.sides, most_crossings_is); counted = q.counted; few = q.few }

-- The call's promise, whatever the first part answers.
pub read_call : {file : List ℕ} {list list' : List Marker} (out : List ℕ) (r : Result Reading Refusal) → ReadFirst file (length list) out r
    → MatchResult r (λ f. list' ≡ put_in list f.rocks (markers_of f.map.w f.map.h (take (f.map.h * f.map.w) out))) (λ _. list' ≡ list) → ReadCall file list list' (read_map r)
read_call out (Err e) k s = record { given = λ _. k; kept = λ _. s; refused = λ _. refl; done = λ z. absurd (some_number e z) }
read_call {file} {list} {list'} out (Ok r) q s =
    record {
      given = λ f. absurd (f refl);
      kept = λ f. absurd (f refl);
      refused = λ f. absurd (f refl);
      done = λ _. record {
        bits = take (r.map.h * r.map.w) out;
        map = q.map;
        counted = q.counted;
        room = room;
        slots = s ∙ ap (λ (t : List Marker). t ++ drop r.rocks list) (take_all r.rocks markers (omega (arith, q.counted)));
      };
    }
  where
    markers : List Marker
    markers = markers_of r.map.w r.map.h (take (r.map.h * r.map.w) out)

    room : ¬ NoSlot file (length list)
    room t = go t.many
      where
        same : length (markers_of t.w t.h t.bits) ≡ r.rocks
        same = let o = map_file_one t.map q.map in rw (o.0, o.1, o.2) (sym q.counted)

        go : (length list < length (markers_of t.w t.h t.bits)) ⊎ (most_markers < length (markers_of t.w t.h t.bits)) → ⊥
        go (inl l) = omega (arith, same, q.within)
        go (inr l) = omega (arith, same, q.few)
