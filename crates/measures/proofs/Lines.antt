-- One law for every way. A line's places are counted from the edge that its way leads to: each
-- place's neighbour that way is the place before it. So a number that is made from place to place,
-- of the number before and of the crossing's own mark, is at each place the distance.
use mathlib.Core.Path.{◌≡◌, refl, sym, subst, ap, ◌∙◌}
use Rattle.measures.specs.declared.each.End.{End}
use Rattle.measures.specs.declared.each.End.TheVariants.{High, Low}
use mathlib.Core.List.{List}
use mathlib.Core.Logic.{◌≢◌}
use Prim.Native.Nat.{ℕ, suc, zero, ◌+◌, ◌-◌, ◌*◌, ◌^◌, ◌<◌, ◌≤◌}
use native.Mathlib.Omega.{arith}
use lib.ListN.{length, get_or}
use Rattle.field.specs.Map.{Sides, On, number, at}
use Rattle.field.specs.Distances.{Way, Along, Clear}
use Rattle.field.specs.Limits.{side_is}
use Rattle.field.specs.Workings.Sheet.{Marked, number_lt}
use Rattle.field.proofs.Workings.GridLaws.{number_one}
use Rattle.sheets.specs.Promise.{Numbered}
use Rattle.measures.specs.Running.{nth, Nth, on_to, Sound, row_way, column_way, lead, placed, OnLineFrom}
use Rattle.measures.proofs.Ahead.{Onward, Ahead, ahead_edge, ahead_next, onward_clear}

-- The places of a line: place k is (X k, Y k), and place 0 is at the edge.
pub record Line (t : Way) (w h : ℕ) (X Y : ℕ → ℕ) (n : ℕ) : Type 0 where
  pub on : (k : ℕ) → k < n → On w h (X k) (Y k)
  pub edge : (i a b : ℕ) → 0 < i → Along t i (X 0) (Y 0) a b → ¬ On w h a b
  pub next : (k : ℕ) → suc k < n → Along t 1 (X (suc k)) (Y (suc k)) (X k) (Y k)

module _ {t : Way} {w h n : ℕ} {X Y : ℕ → ℕ} {s : List ℕ} (sides : Sides w h) (line : Line t w h X Y n) (f : ℕ → ℕ)
    (steps : (k : ℕ) → k < n → Onward (at s w (X k) (Y k)) (lead f k) (f k)) where
  line_ahead : (k : ℕ) → k < n → Ahead s w h t (X k) (Y k) (lead f k)
  line_ahead zero p = ahead_edge line.edge
  line_ahead (suc k) p =
      ahead_next (X k) (Y k) (line.next k p) (onward_clear sides (line.on k (omega arith)) (steps k (omega arith)) (line_ahead k (omega arith)))

  pub line_clear : (k : ℕ) → k < n → Clear (Marked s w h) t (X k) (Y k) (f k)
  line_clear k p = onward_clear sides (line.on k p) (steps k p) (line_ahead k p)

-- Rows and columns are lines, from either end.
pub row_line : (e : End) (w h y : ℕ) → y < h → Line (row_way e) w h (nth e w) (λ k. y) w
row_line High w h y p = record { on = λ k l. omega arith; edge = λ i a b q l o. omega arith; next = λ k l. omega arith }
row_line Low w h y p = record { on = λ k l. omega arith; edge = λ i a b q l o. omega arith; next = λ k l. omega arith }

pub column_line : (e : End) (w h x : ℕ) → x < w → Line (column_way e) w h (λ k. x) (nth e h) h
column_line High w h x p = record { on = λ k l. omega arith; edge = λ i a b q l o. omega arith; next = λ k l. omega arith }
column_line Low w h x p = record { on = λ k l. omega arith; edge = λ i a b q l o. omega arith; next = λ k l. omega arith }

-- Counted from one end, a place is where it is counted to from the same end again; so each place is
-- counted once.
pub nth_nth : (e : End) (n k : ℕ) → k < n → nth e n (nth e n k) ≡ k
nth_nth High n k p = omega arith
nth_nth Low n k p = refl

pub nth_lt : (e : End) (n k : ℕ) → k < n → nth e n k < n
nth_lt High n k p = omega arith
nth_lt Low n k p = p

pub nth_one : (e : End) (n j k : ℕ) → j < n → k < n → nth e n j ≡ nth e n k → j ≡ k
nth_one High n j k p q e = omega arith
nth_one Low n j k p q e = e

-- A row is a line on its sheet: a place's number is so many further from the first place's.
pub record First (e : End) (w y start : ℕ) : Type 0 where
  pub is : start ≡ number w (nth e w 0) y

pub row_first : {e : End} {w h y x start : ℕ} → Numbered w h x y start → Nth e w 0 x → First e w y start
row_first {w = w} {y = y} n p = record { is = n.is ∙ ap (λ (x : ℕ). number w x y) p.is }

number_further : {e : End} {w y start : ℕ} (k : ℕ) → First e w y start → k < w → on_to e start k ≡ number w (nth e w k) y
number_further {e = High} k f p = omega (arith, f.is)
number_further {e = Low} k f p = omega (arith, f.is)

pub row_placed : {e : End} {w y start : ℕ} (u : List ℕ) (k : ℕ) → First e w y start → k < w → placed e start u k ≡ at u w (nth e w k) y
row_placed u k f p = ap (λ (i : ℕ). get_or u i 0) (number_further k f p)

pub row_other : {e : End} {w h y start a b : ℕ} → First e w y start → y < h → On w h a b → b ≢ y → (k : ℕ) → k < w → number w a b ≢ on_to e start k
row_other {e} {w} {h} {y} f in_y o d k p q =
    d (number_one (record { in_x = nth_lt e w k p; in_y = in_y }) o (q ∙ number_further k f p)).1

-- A line on a sheet.
pub record OnLine (e : End) (start n : ℕ) (u : List ℕ) : Type 0 where
  pub sound : Sound e start n
  pub inside : (k : ℕ) → k < n → on_to e start k < length u

row_sound : {e : End} {w h y start : ℕ} → Sides w h → First e w y start → start < 65536 → Sound e start w
row_sound {e} {w} {h} {y} {start} sides f small =
    record { below = λ t. below e t f; short = sides.most_w; few = omega (arith, sides.most_w, side_is) }
  where
    below : (e : End) → e ≡ High → First e w y start → w ≤ start + 1
    below High t f = omega (arith, f.is)
    below Low t f = absurd (cc)

pub row_on : {e : End} {w h y start : ℕ} (u : List ℕ) → Sides w h → length u ≡ h * w → y < h → First e w y start → start < 65536 → OnLine e start w u
row_on {e} {w} {h} {y} u sides room in_y f small =
    record {
      sound = row_sound sides f small;
      inside = λ k p. omega (arith, number_further k f p, number_lt w h (nth e w k) y (record { in_x = nth_lt e w k p; in_y = in_y }), room);
    }

-- The same from one of its places on.
pub row_from : {e : End} {w h y x start from : ℕ} (u : List ℕ) → Sides w h → length u ≡ h * w → y < h → Numbered w h x y start → Nth e w 0 x
    → from ≤ w → OnLineFrom e start from w u
row_from u sides room in_y n p l = record { inside = (row_on u sides room in_y (row_first n p) n.small).inside; within = l }

module _ {e : End} {start n : ℕ} {u : List ℕ} (on : OnLine e start n u) where
  -- Each place is counted once.
  pub line_one : (j k : ℕ) → j < n → k < n → on_to e start j ≡ on_to e start k → j ≡ k
  line_one = go e on.sound.below
    where
      go : (e : End) → (e ≡ High → n ≤ start + 1) → (j k : ℕ) → j < n → k < n → on_to e start j ≡ on_to e start k → j ≡ k
      go High below j k p q d = let l = below refl in omega arith
      go Low below j k p q d = omega arith

  -- The line that begins at one of its places.
  pub further_on : (a k : ℕ) → on_to e (on_to e start a) k ≡ on_to e start (a + k)
  further_on a k = go e
    where
      go : (e : End) → on_to e (on_to e start a) k ≡ on_to e start (a + k)
      go High = omega arith
      go Low = omega arith

  pub line_from : (a : ℕ) → a ≤ n → OnLine e (on_to e start a) (n - a) u
  line_from a l =
      record {
        sound = record { below = λ t. below e t (on.sound.below t); short = omega (arith, on.sound.short); few = few e on.sound.few };
        inside = λ k p. subst (λ (i : ℕ). i < length u) (sym (further_on a k)) (on.inside (a + k) (omega arith));
      }
    where
      below : (e : End) → e ≡ High → n ≤ start + 1 → n - a ≤ on_to e start a + 1
      below High t b = omega arith
      below Low t b = absurd (cc)

      few : (e : End) → start + n < 2 ^ 64 → on_to e start a + (n - a) < 2 ^ 64
      few High f = omega arith
      few Low f = omega arith
