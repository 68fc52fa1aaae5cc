-- The call's promise at each place where reading ends: the first part refuses, or the second has
-- put the map's markers.
use Rattle.std.specs.Prelude.{◌≡◌, refl, List, [], ℕ, ◌*◌, length, take, Result, Ok, Err}
use Rattle.std.proofs.lemmas.Result.{err_from_is_err_and}
use Rattle.field.specs.declared.Marker.{Marker}
use Rattle.field.specs.declared.Reading.{Reading}
use Rattle.field.specs.declared.refusals.Refusal.{Refusal}
use Rattle.field.specs.Refusals.{number_of}
use Rattle.mapfile.specs.File.{markers_of}
use Rattle.exchange.specs.Promise.{ReadFirst}
use Rattle.layer.specs.Files.{put_in}
use Rattle.layer.specs.Reading.{read_call}
use Rattle.calls.specs.Calls.{ReadCall}
use Rattle.calls.specs.Answers.{ReadFault}
use Rattle.calls.specs.Told.{read_map}
use Rattle.layer.proofs.Joining.{Handed}

pub read_refused : {file : List ℕ} {list : List Marker} (e : Refusal) (r : Result Reading Refusal) → ReadFault file (length list) (number_of e) → Handed e r
    → ReadCall file list list (read_map r)
read_refused e r k f =
    let q = err_from_is_err_and r f.1 in
    rw (q.1, q.2) (read_call [] (Err e) k refl)

pub read_taken : {file : List ℕ} {list list' : List Marker} {out : List ℕ} (r : Reading) → ReadFirst file (length list) out (Ok r)
    → list' ≡ put_in list r.rocks (markers_of r.map.w r.map.h (take (r.map.h * r.map.w) out)) → ReadCall file list list' (read_map (Ok r))
read_taken {out = out} r q s = read_call out (Ok r) q s
