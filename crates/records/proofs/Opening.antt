-- A slot being opened in the list, from the count down: the marker below the free slot k moves up
-- into it. So far, all below k stand where they stood, and all from k on stand one higher.
use Rattle.std.proofs.Common.{◌≡◌, refl, ◌∙◌, List, ℕ, ◌+◌, ◌<◌, ◌≤◌, length, set, arith, length-set, get_or-set_same, get_or-set_other}
use Rattle.field.specs.declared.Marker.{Marker}
use Rattle.field.specs.Labels.{blank}
use Rattle.markers.specs.List.{slot}
use Rattle.records.specs.Promise.{Belongs, MayEnter, Enters}

pub record Opening (s : List Marker) (count k : ℕ) (t : List Marker) : Type 0 where
  pub size : length t ≡ length s
  pub kept : (j : ℕ) → j < k → slot t j ≡ slot s j
  pub moved : (j : ℕ) → k ≤ j → j < count → slot t (j + 1) ≡ slot s j
  pub rest : (j : ℕ) → count < j → slot t j ≡ slot s j

-- The slot is opened down to the marker's place, and it is put there.
pub opening_end : {s t : List Marker} {count k : ℕ} (m : Marker) (place : ℕ) → MayEnter s count m → Belongs s count m.id place → k ≡ place → Opening s count k t
    → Enters s count m (set t place m) (count + 1)
opening_end {s} {t} {count} {k} m place may at e o =
    record {
      list = record {
        place = place;
        within = at.within;
        lower = at.lower;
        higher = λ j l u. omega (arith, at.higher j l u, fresh j u);
        size = length-set t place m ∙ o.size;
        before = λ j l. get_or-set_other t place j m blank (omega arith) ∙ o.kept j (omega arith);
        put = get_or-set_same t place m blank (omega (arith, at.within, o.size, may.room));
        moved = λ j l u. get_or-set_other t place (j + 1) m blank (omega arith) ∙ o.moved j (omega arith) u;
        rest = λ j l. get_or-set_other t place j m blank (omega (arith, at.within)) ∙ o.rest j l;
      };
      counted = refl;
    }
  where
    fresh : (j : ℕ) → j < count → ¬ ((slot s j).id ≡ m.id)
    fresh j u e = may.new (record { place = j; below = u; is = e })
