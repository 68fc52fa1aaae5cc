-- All markers in use that count stamped, the sheet draws what is to be stamped: the crossings with
-- a marker, or a cart's rocks.
use Rattle.std.proofs.Common.{◌≡◌, sym, subst, Bool, true, false, List, ℕ, ◌+◌, ◌<◌, ◌≤◌, length, arith}
use Rattle.std.proofs.Math.Decide.{dec_lt}
use Rattle.field.specs.declared.Marker.{Marker}
use Rattle.field.specs.Map.{On, at}
use Rattle.markers.specs.List.{slot}
use Rattle.markers.specs.Laws.Rocks.{Stands}
use Rattle.markers.proofs.Laws.Rocks.{rock_stands, stands_rock}
use Rattle.markers.specs.Laws.Stamping.{StandsBefore, Stamping, stamping_more, stamping_past}
use Rattle.records.specs.Promise.{Stamps, StampedWith}
use Rattle.records.specs.Steps.{Counts, Marks}

-- Where the k-th marker stands, and whether it counts.
abbrev pub x_of : List Marker → ℕ → ℕ
x_of list k = (slot list k).x

abbrev pub y_of : List Marker → ℕ → ℕ
y_of list k = (slot list k).y

abbrev pub CountsAt : ℕ → Bool → List Marker → ℕ → Type 0
CountsAt clearance low list k = Counts clearance low (slot list k)

-- The markers passed, stamped on the sheet.
abbrev pub Upto : ℕ → ℕ → ℕ → Bool → List Marker → ℕ → List ℕ → Type 0
Upto w h clearance low list k sheet = Stamping w h (x_of list) (y_of list) (CountsAt clearance low list) k sheet

-- Whether one counts can be told.
counts_dec : (clearance : ℕ) (low : Bool) (m : Marker) → Dec (Counts clearance low m)
counts_dec clearance true m = yes tt
counts_dec clearance false m = dec_lt clearance m.height

-- One turn.
pub stamping_on : {w h clearance k : ℕ} {low : Bool} (list : List Marker) {sheet sheet' : List ℕ} → On w h (slot list k).x (slot list k).y
    → Marks clearance low (slot list k) w sheet sheet' → Upto w h clearance low list k sheet → Upto w h clearance low list (k + 1) sheet'
stamping_on {w} {h} {clearance} {k} {low} list {sheet} {sheet'} on m s = go (counts_dec clearance low (slot list k))
  where
    go : Dec (Counts clearance low (slot list k)) → Upto w h clearance low list (k + 1) sheet'
    go (yes c) = subst (Upto w h clearance low list (k + 1)) (sym (m.stamped c)) (stamping_more on c s)
    go (no n) = subst (Upto w h clearance low list (k + 1)) (sym (m.passed n)) (stamping_past n s)

-- A marker in use that counts is what makes a crossing one to be stamped.
stands_stamps : (clearance : ℕ) (low : Bool) {list : List Marker} {count : ℕ} (x y : ℕ) → count ≤ length list
    → Stands (Counts clearance low) list count x y → Stamps clearance low list count x y
stands_stamps clearance true x y lent s = s
stands_stamps clearance false {list} {count} x y lent s = stands_rock clearance list count x y lent s

stamps_stands : (clearance : ℕ) (low : Bool) {list : List Marker} {count : ℕ} (x y : ℕ)
    → Stamps clearance low list count x y → Stands (Counts clearance low) list count x y
stamps_stands clearance true x y s = s
stamps_stands clearance false {list} {count} x y r = rock_stands clearance list count x y r

pub stamping_end : {w h clearance count k : ℕ} {low : Bool} {list : List Marker} {sheet : List ℕ} → count ≤ length list → k ≡ count
    → Upto w h clearance low list k sheet → StampedWith w h clearance low list count sheet
stamping_end {w} {h} {clearance} {count} {k} {low} {list} {sheet} lent e s =
    record {
      size = s.size;
      ones = s.ones;
      rocks = record {
        sound = λ x y m. record { on = m.on; stone = stands_stamps clearance low x y lent (stood x y (s.sound x y m.on m.mark)) };
        complete = λ x y r. record { on = r.on; mark = marked x y (stamps_stands clearance low x y r.stone) };
      };
    }
  where
    stood : (x y : ℕ) → StandsBefore (x_of list) (y_of list) (CountsAt clearance low list) k x y → Stands (Counts clearance low) list count x y
    stood x y f = record { place = f.place; below = omega (arith, f.below); x_is = f.x_is; y_is = f.y_is; such = f.counts }

    marked : (x y : ℕ) → Stands (Counts clearance low) list count x y → 0 < at sheet w x y
    marked x y f = rw (← f.x_is, ← f.y_is) (s.complete f.place (omega (arith, f.below)) f.such)
