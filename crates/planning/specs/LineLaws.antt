-- The numbers of a line are bounded by the map's crossings, and depend on which crossings are
-- closed and not on how that is said.
use Rattle.std.specs.Prelude.{List, ℕ, zero, suc, ◌*◌, ◌≤◌}
use Rattle.std.proofs.Common.{arith, suc-mul}
use Rattle.field.specs.declared.Depot.{Depot}
use Rattle.field.specs.declared.Placing.{Placing}
use Rattle.field.specs.Map.{Sides}
use Rattle.field.specs.Limits.{crossing_slots, crossings_few}
use Rattle.field.specs.Labels.{sum_to, one, count, Count}
use Rattle.field.specs.Depots.{DrivenOnly, Stranded, HowPlaced, depot_closed, depot_open}
use Rattle.field.specs.Workings.Sheet.{Draws, Marked}
use Rattle.field.specs.Workings.Placing.{AtMost}
use Rattle.field.proofs.Workings.SameLaws.{Alike, alike_back, open_same, assured_same, has_drive_same, count_alike}
use Rattle.planning.specs.Promise.{DepotLine, MapLines}

-- How many there are is at most how many crossings there are.
sum_most : (n k : ℕ) (f : ℕ → ℕ) → ((i : ℕ) → f i ≤ k) → sum_to n f ≤ n * k
unfolding sum_to
sum_most zero k f l = omega arith
sum_most (suc n) k f l = omega (arith, sum_most n k f l, l n, suc-mul n k)

one_most : {P : Type 0} (d : Dec P) → one d ≤ 1
one_most (yes p) = omega arith
one_most (no n) = omega arith

pub count_most : (w h : ℕ) {n : ℕ} {P : ℕ → ℕ → Type 0} → Count w h P n → n ≤ h * w
unfolding count
count_most w h c =
    omega (arith, c.1, sum_most h w (λ y. sum_to w (λ x. one (c.0 x y))) (λ y. omega (arith, sum_most w 1 (λ x. one (c.0 x y)) (λ x. one_most (c.0 x y)))))

pub placed_most : {w h dx dy : ℕ} {C : ℕ → ℕ → Type 0} {p : Placing} → Sides w h → HowPlaced w h C dx dy p → AtMost crossing_slots p
placed_most s (depot_closed c e) =
    rw e (record { opens_most = omega arith; assured_most = omega arith; driven_most = omega arith; stranded_most = omega arith })
placed_most {w} {h} s (depot_open o z) =
    record {
      opens_most = omega (arith, count_most w h z.open_count, crossings_few s);
      assured_most = omega (arith, count_most w h z.assured_count, crossings_few s);
      driven_most = omega (arith, count_most w h z.driven_count, crossings_few s);
      stranded_most = omega (arith, count_most w h z.stranded_count, crossings_few s);
    }

module _ {w h dx dy : ℕ} where
  driven_same : {C D : ℕ → ℕ → Type 0} → Alike C D → {x y : ℕ} → DrivenOnly w h C dx dy x y → DrivenOnly w h D dx dy x y
  driven_same a m =
      record {
        is_open = open_same w h a m.is_open;
        not_assured = λ s. m.not_assured (assured_same w h (alike_back a) s);
        drive = has_drive_same w h a m.drive;
      }

  stranded_same : {C D : ℕ → ℕ → Type 0} → Alike C D → {x y : ℕ} → Stranded w h C dx dy x y → Stranded w h D dx dy x y
  stranded_same a m = record { is_open = open_same w h a m.is_open; no_drive = λ s. m.no_drive (has_drive_same w h (alike_back a) s) }

  pub placed_same : {C D : ℕ → ℕ → Type 0} → Alike C D → {p : Placing} → HowPlaced w h C dx dy p → HowPlaced w h D dx dy p
  placed_same a (depot_closed c e) = depot_closed ((a dx dy).0 c) e
  placed_same a (depot_open o s) =
      let b = alike_back a in
      depot_open (open_same w h a o)
      (record {
        open_count = count_alike w h (λ x y. (open_same w h a, open_same w h b)) s.open_count;
        assured_count = count_alike w h (λ x y. (assured_same w h a, assured_same w h b)) s.assured_count;
        driven_count = count_alike w h (λ x y. (driven_same a, driven_same b)) s.driven_count;
        stranded_count = count_alike w h (λ x y. (stranded_same a, stranded_same b)) s.stranded_count;
      })

module _ {w h : ℕ} {C D : ℕ → ℕ → Type 0} (a : Alike C D) where
  line_same : {d : Depot} {p : Placing} {l : List ℕ} → DepotLine w h C d p l → DepotLine w h D d p l
  line_same m = record { placed = placed_same a m.placed; printed = m.printed }

  pub lines_same : {before after : Placing} {text : List ℕ} → MapLines w h C before after text → MapLines w h D before after text
  lines_same m =
      record {
        sw = m.sw;
        se = m.se;
        nw = m.nw;
        ne = m.ne;
        sw_line = m.sw_line;
        se_line = m.se_line;
        nw_line = m.nw_line;
        ne_line = m.ne_line;
        southwest = line_same m.southwest;
        southeast = line_same m.southeast;
        northwest = line_same m.northwest;
        northeast = line_same m.northeast;
        sums = m.sums;
        is = m.is;
      }

-- The marks of a sheet that draws the closed crossings.
pub drawn_alike : {w h : ℕ} {C : ℕ → ℕ → Type 0} {s : List ℕ} → Draws w h C s → Alike (Marked s w h) C
drawn_alike d x y = (d.sound x y, d.complete x y)
