-- What the first map of the bytes at hand says, told as a step of the run.
use mathlib.Core.Path.{◌≡◌, refl, ap}
use mathlib.Core.Bool.{Bool}
use mathlib.Core.List.{List, [], ◌++◌}
use Prim.Native.Nat.{ℕ, ◌+◌, ◌*◌, ◌<◌, ◌≤◌}
use native.Mathlib.Omega.{arith}
use lib.ListN.{length, take, length-take, length-append}
use lib.Seq.{get_or-take}
use Rattle.field.specs.declared.Placing.{Placing}
use Rattle.mapfile.specs.File.{raw}
use Rattle.mapfile.specs.Following.{refused}
use Rattle.mapfile.proofs.RockLaws.{raster_bits}
use Rattle.following.specs.Promise.{Stands, MapRead}
use Rattle.printing.specs.Printed as printed
use Rattle.printing.specs.Printed.{long, RefusalLine}
use Rattle.printing.specs.Parts.{Put, Puts}
use Rattle.planning.specs.declared.lines.Told.{Told}
use Rattle.planning.specs.declared.Run.{Run}
use Rattle.planning.specs.Promise.{most_maps, bad_map, past_maps}
use Rattle.planning.specs.Steps.{step_room, OneMap, RunEnds}
use Rattle.planning.specs.Parts.{Addable, MayTellMap, MapTold}

-- Bytes at hand are there whatever follows.
some_bytes : (l t : List ℕ) → 1 ≤ length l → ¬ (l ++ t ≡ [])
some_bytes l t s e = omega (arith, length-append l t, ap length e)

module _ {src bits : List ℕ} {ended : Bool} {w h used : ℕ} (m : MapRead src ended w h used bits) where
  -- The map that was read can be told.
  pub map_tells : {sums : Placing} {out : List ℕ} → Addable 4 sums → step_room ≤ length out → MayTellMap w h bits sums out
  map_tells a l =
      let f = m.stands [] (λ e. refl) in
      let r = f.map.raster in
      record {
        whole = omega (arith, length-take (h * w) bits, r.crossings);
        ones = λ i k. omega (arith, get_or-take (h * w) bits i 0 k, raster_bits raw w h f.map.own (take (h * w) bits) r i);
        room = l;
        addable = a;
      }

  -- Its lines are a step of the run.
  pub map_steps : {r : Run} {out after : List ℕ} {told : Told} → r.maps < most_maps → MapTold w h bits r.sums out after told
      → Puts (OneMap r src ended used (record { maps = r.maps + 1; sums = told.sums })) out 0 after told.end
  map_steps b p =
      record {
        piece = p.piece;
        right = record {
          w = w;
          h = h;
          bits = take (h * w) bits;
          before = b;
          counted = refl;
          within = m.within;
          first = m.stands;
          lines = p.right;
        };
        put = p.put;
      }

module _ (r : Run) (src : List ℕ) (ended : Bool) {out after : List ℕ} {end : ℕ} where
  -- A refusal ends the run,
  pub refusal_ends : {n : ℕ} → r.maps < most_maps → 1 ≤ length src → Stands src ended (λ t. refused n) → Puts (RefusalLine n) out 0 after end
      → Puts (RunEnds r src ended) out 0 after end
  refusal_ends {n} b s f p = record { piece = p.piece; right = λ t k. bad_map n b (some_bytes src t s) (f t k) p.right; put = p.put }

  -- and so do maps past the bound.
  pub maps_end : most_maps ≤ r.maps → 1 ≤ length src → Put out 0 (printed.refused ++ long) after end → Puts (RunEnds r src ended) out 0 after end
  maps_end b s p = record { piece = printed.refused ++ long; right = λ t k. past_maps b (some_bytes src t s) refl; put = p }
