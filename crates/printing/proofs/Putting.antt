-- Pieces put into the output one after the other: what stands at the front grows by each. The
-- output is filled from the front, as the map writer fills its own.
use mathlib.Core.Path.{◌≡◌, refl, sym, ap, ◌∙◌}
use mathlib.Core.List.{List, [], ◌++◌, append_assoc}
use Prim.Native.Nat.{ℕ, ◌+◌, ◌-◌, ◌≤◌}
use native.Mathlib.Omega.{arith}
use lib.ListN.{length, take, drop, length-append, take-append-drop}
use lib.Seq.{length-take-le, take_at, drop_at, drop-append-add, drop-drop}
use borrow.Rule.Slice.PartMut.{mid_of, put_mid}
use Rattle.packing.proofs.Filling.{Filled, filled_as, filled_length, filled_part}
use Rattle.printing.specs.Parts.{Put}

-- The output as it is, up to a place.
pub filled_self : (at : ℕ) (out : List ℕ) → at ≤ length out → Filled (take at out) at out out
filled_self at out h = record { size = length-take-le at out h; within = h; is = sym (take-append-drop at out) }

-- What is filled in behind that is a piece put there.
pub filled_put : (out : List ℕ) (at end : ℕ) (piece after : List ℕ) → at ≤ length out → Filled (take at out ++ piece) end out after → Put out at piece after end
filled_put out at end piece after h f =
    record {
      size = omega (arith, length-append (take at out) piece, length-take-le at out h, f.size);
      fits = f.within;
      is = f.is ∙ append_assoc (take at out) piece (drop end out);
    }

-- A part of the output that was lent is back.
pub part_put : (out : List ℕ) (at end : ℕ) (part : List ℕ) → at ≤ end → end ≤ length out → length part ≡ length (mid_of at (end - at) out)
    → Put out at part (put_mid at (end - at) out part) end
part_put out at end part h l kept =
    let whole : at ≤ length out = omega arith in
    filled_put out at end part _ whole (filled_part (take at out) at out out (filled_self at out whole) end part h l kept)

-- Nothing is put there yet.
pub put_none : {out : List ℕ} {at : ℕ} → at ≤ length out → Put out at [] out at
put_none {out} {at} l = record { size = omega arith; fits = l; is = sym (take-append-drop at out) }

-- A piece put at the front, and the other way round.
pub put_front : {out piece after : List ℕ} {end : ℕ} → Put out 0 piece after end → Filled piece end out after
put_front p = record { size = omega (arith, p.size); within = p.fits; is = p.is }

pub front_put : {out piece after : List ℕ} {end : ℕ} → Filled piece end out after → Put out 0 piece after end
front_put f = record { size = omega (arith, f.size); fits = f.within; is = f.is }

-- One piece more.
pub filled_more : (front piece : List ℕ) (at end : ℕ) (out mid after : List ℕ) → Filled front at out mid → Put mid at piece after end
    → Filled (front ++ piece) end out after
filled_more front piece at end out mid after f p =
    record {
      size = length-append front piece ∙ omega (arith, f.size, p.size);
      within = omega (arith, p.fits, filled_length front at out mid f);
      is = p.is ∙ rw (before, behind) (sym (append_assoc front piece (drop end out)));
    }
  where
    before : take at mid ≡ front
    before = ap (take at) f.is ∙ take_at front (drop at out) at f.size

    place : end ≡ length front + length piece
    place = omega (arith, f.size, p.size)

    place_out : at + length piece ≡ end
    place_out = p.size

    behind : drop end mid ≡ drop end out
    behind =
        ap (drop end) f.is ∙ ap (λ (n : ℕ). drop n (front ++ drop at out)) place ∙ drop-append-add front (drop at out) (length piece)
        ∙ drop-drop (length piece) at out ∙ ap (λ (n : ℕ). drop n out) place_out

-- Two pieces one after the other are one piece.
pub put_then : {out a mid b after : List ℕ} {at i j : ℕ} → at ≤ length out → Put out at a mid i → Put mid i b after j → Put out at (a ++ b) after j
put_then {out} {a} {mid} {b} {after} {at} {i} {j} l p q =
    filled_put out at j (a ++ b) after l
    (filled_as _ _ j j out after (filled_more (take at out ++ a) b i j out mid after front q) (append_assoc (take at out) a b) refl)
  where
    front : Filled (take at out ++ a) i out mid
    front =
        record {
          size = length-append (take at out) a ∙ omega (arith, length-take-le at out l, p.size);
          within = p.fits;
          is = p.is ∙ sym (append_assoc (take at out) a (drop i out));
        }

-- What is put at the front is the front, and the rest of the output stays.
pub put_told : {out piece after : List ℕ} {end : ℕ} → Put out 0 piece after end → (take end after ≡ piece) × (drop end after ≡ drop end out)
put_told {out} {piece} {after} {end} p =
    let size : length piece ≡ end = omega (arith, p.size) in
    (ap (take end) p.is ∙ take_at piece (drop end out) end size, ap (drop end) p.is ∙ drop_at piece (drop end out) end size)
