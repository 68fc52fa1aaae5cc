-- Meanings depend on which crossings are closed, and not on how that is said: where C and D hold
-- each other, whatever is told of the one is told of the other. The same of rocks: two rock
-- predicates that agree on the map close the same crossings.
use Rattle.std.specs.Prelude.{List, ◌↔◌}
use Prim.Native.Nat.{ℕ, zero, suc}
use Rattle.field.specs.Map.{On}
use Rattle.field.specs.Labels.{Closed, rock, between, Open, Shut, RockOn, Label, is_open, is_rock, is_shut, LabelSheet, Count}
use Rattle.field.specs.Groups.{Linked, here, step, Lowest, Groups}
use Rattle.field.specs.Distances.{Way, Clear, at_closed, nearest, none, Distances, DistanceSheet, Axis, level, above, below, Assured}
use Rattle.field.specs.Hops.{HopAnswer, Permitted, Answers, at_home, just, both}
use Rattle.field.specs.Drives.{Drive, last, next, HasDrive, InRegion, InOut, is_in, is_out, RegionSheet}
use Rattle.field.specs.Chooser.{Candidate, Chosen, alone, east_west, north_south, Driven, arrived, onward}
use Rattle.field.specs.CrossingLines.{OpenColumn, OpenRow, Lines, HasLines, DrivenBy}
use Rattle.field.specs.Sweeps.{AfterSweep, stays, closes, State, Rests, Sweeps}
use Rattle.field.proofs.Workings.Counting.{count_moved}

-- C and D have the same crossings.
abbrev pub Alike : (ℕ → ℕ → Type 0) → (ℕ → ℕ → Type 0) → Type 0
Alike C D = (x y : ℕ) → C x y ↔ D x y

pub alike_back : {C D : ℕ → ℕ → Type 0} → Alike C D → Alike D C
alike_back a x y = ((a x y).1, (a x y).0)

module _ (w h : ℕ) {C D : ℕ → ℕ → Type 0} (a : Alike C D) where
  pub open_same : {x y : ℕ} → Open w h C x y → Open w h D x y
  open_same {x} {y} o = record { on = o.on; free = λ d. o.free ((a x y).1 d) }

  pub clear_same : {t : Way} {x y n : ℕ} → Clear C t x y n → Clear D t x y n
  clear_same {t} {x} {y} (at_closed c e) = at_closed ((a x y).0 c) e
  clear_same {t} {x} {y} (nearest p q f l c g) =
      nearest p q (λ d. f ((a x y).1 d)) l ((a p q).0 c) (λ k u v m r d. g k u v m r ((a u v).1 d))
  clear_same {t} {x} {y} (none f g e) = none (λ d. f ((a x y).1 d)) (λ k u v r d. g k u v r ((a u v).1 d)) e

  pub distances_same : {x y : ℕ} {four : List ℕ} → Distances C x y four → Distances D x y four
  distances_same p =
      record {
        e = p.e;
        s = p.s;
        w = p.w;
        n = p.n;
        in_order = p.in_order;
        east = clear_same p.east;
        south = clear_same p.south;
        west = clear_same p.west;
        north = clear_same p.north;
      }

  pub distance_sheet_same : {t : Way} {s : List ℕ} → DistanceSheet w h C t s → DistanceSheet w h D t s
  distance_sheet_same p = record { size = p.size; distance = λ x y o. clear_same (p.distance x y o) }

  axis_same : {up down : Way} {hx hy m p : ℕ} → Axis (λ t n. Clear C t hx hy n) up down m p → Axis (λ t n. Clear D t hx hy n) up down m p
  axis_same (level e) = level e
  axis_same (above l n c k) = above l n (clear_same c) k
  axis_same (below l n c k) = below l n (clear_same c) k

  pub assured_same : {hx hy x y : ℕ} → Assured w h C hx hy x y → Assured w h D hx hy x y
  assured_same p =
      record { home = open_same p.home; place = open_same p.place; east_west = axis_same p.east_west; north_south = axis_same p.north_south }

  pub permitted_same : {hx hy x y c d : ℕ} → Permitted w h C hx hy x y c d → Permitted w h D hx hy x y c d
  permitted_same p = record { near = p.near; to = open_same p.to; homeward = p.homeward }

  pub drive_same : {dx dy x y : ℕ} {l : List ℕ} → Drive w h C dx dy x y l → Drive w h D dx dy x y l
  drive_same (last p q o e) = last p q (open_same o) e
  drive_same (next o n v e) = next (open_same o) n (drive_same v) e

  pub has_drive_same : {sx sy dx dy : ℕ} → HasDrive w h C sx sy dx dy → HasDrive w h D sx sy dx dy
  has_drive_same p = record { route = p.route; shortest = record { drive = drive_same p.shortest.drive; hops = p.shortest.hops } }

  pub in_region_same : {sx sy dx dy x y : ℕ} → InRegion w h C sx sy dx dy x y → InRegion w h D sx sy dx dy x y
  in_region_same p =
      record {
        on = p.on;
        route = p.route;
        shortest = record { drive = drive_same p.shortest.drive; hops = p.shortest.hops };
        place = p.place;
        in_route = p.in_route;
        is_there = p.is_there;
      }

  pub candidate_same : {sx sy dx dy x y c d : ℕ} → Candidate w h C sx sy dx dy x y c d → Candidate w h D sx sy dx dy x y c d
  candidate_same p = record { near = p.near; within = in_region_same p.within; nearer = p.nearer }

  pub linked_same : {x y c d : ℕ} → Linked C x y c d → Linked D x y c d
  linked_same (here {a = u} {b = v} p q c) = here p q ((a u v).0 c)
  linked_same (step {c = u} {d = v} l n c) = step (linked_same l) n ((a u v).0 c)

  -- Crossing lines.
  pub open_column_same : {sx sy dx dy x : ℕ} → OpenColumn w h C sx sy dx dy x → OpenColumn w h D sx sy dx dy x
  open_column_same p = record { between = p.between; throughout = λ y b. open_same (p.throughout y b) }

  pub open_row_same : {sx sy dx dy y : ℕ} → OpenRow w h C sx sy dx dy y → OpenRow w h D sx sy dx dy y
  open_row_same p = record { between = p.between; throughout = λ x b. open_same (p.throughout x b) }

  pub has_lines_same : {sx sy dx dy : ℕ} → HasLines w h C sx sy dx dy → HasLines w h D sx sy dx dy
  has_lines_same p =
      record { column = p.column; row = p.row; column_open = open_column_same p.column_open; row_open = open_row_same p.row_open }

-- These look both ways: what is not so for the one is not so for the other.
module _ (w h : ℕ) {C D : ℕ → ℕ → Type 0} (a : Alike C D) where
  pub answers_same : {hx hy x y : ℕ} {r : HopAnswer} → Answers w h C hx hy x y r → Answers w h D hx hy x y r
  answers_same (at_home t e) = at_home t e
  answers_same (just p q k f e) = just p q (permitted_same w h a k) (λ u v m. f u v (permitted_same w h (alike_back a) m)) e
  answers_same (both p q u v k i m j e) = both p q u v (permitted_same w h a k) i (permitted_same w h a m) j e

  in-out-same : {P Q : Type 0} {v : ℕ} → (P → Q) → (Q → P) → InOut P v → InOut Q v
  in-out-same f g (is_in e p) = is_in e (f p)
  in-out-same f g (is_out e n) = is_out e (λ q. n (g q))

  pub region_sheet_same : {sx sy dx dy : ℕ} {s : List ℕ} → RegionSheet w h C sx sy dx dy s → RegionSheet w h D sx sy dx dy s
  region_sheet_same p =
      record { size = p.size; region = λ x y o. in-out-same (in_region_same w h a) (in_region_same w h (alike_back a)) (p.region x y o) }

  chosen_same : {sx sy dx dy x y z c d z' : ℕ} → Chosen w h C sx sy dx dy x y z c d z' → Chosen w h D sx sy dx dy x y z c d z'
  chosen_same (alone k f e) = alone (candidate_same w h a k) (λ u v m. f u v (candidate_same w h (alike_back a) m)) e
  chosen_same (east_west d k e m p q) = east_west d (candidate_same w h a k) e (candidate_same w h a m) p q
  chosen_same (north_south c k e m p q) = north_south c (candidate_same w h a k) e (candidate_same w h a m) p q

  pub driven_same : {sx sy dx dy x y z z' : ℕ} {l : List ℕ} → Driven w h C sx sy dx dy x y z l z' → Driven w h D sx sy dx dy x y z l z'
  driven_same (arrived p q e f) = arrived p q e f
  driven_same (onward c v e) = onward (chosen_same c) (driven_same v) e

  pub lines_same : {sx sy dx dy c r : ℕ} → Lines w h C sx sy dx dy c r → Lines w h D sx sy dx dy c r
  lines_same p =
      record {
        column_open = open_column_same w h a p.column_open;
        westmost = λ x k. p.westmost x (open_column_same w h (alike_back a) k);
        row_open = open_row_same w h a p.row_open;
        southmost = λ y k. p.southmost y (open_row_same w h (alike_back a) k);
      }

  pub driven_by_same : {sx sy dx dy x y z z' : ℕ} {l : List ℕ} → DrivenBy w h C sx sy dx dy x y z l z' → DrivenBy w h D sx sy dx dy x y z l z'
  driven_by_same p =
      record {
        first = p.first;
        onward = p.onward;
        handed_on = p.handed_on;
        to_meeting = driven_same p.to_meeting;
        from_meeting = driven_same p.from_meeting;
        joined = p.joined;
      }

  lowest_same : {x y : ℕ} → Lowest w C x y → Lowest w D x y
  lowest_same {x} {y} p = record { closed = (a x y).0 p.closed; lowest = λ c d l. p.lowest c d (linked_same w h (alike_back a) l) }

dec_same : {P Q : Type 0} → (P → Q) → (Q → P) → Dec P → Dec Q
dec_same f g (yes p) = yes (f p)
dec_same f g (no n) = no (λ q. n (g q))

pub count_alike : (w h : ℕ) {P Q : ℕ → ℕ → Type 0} → Alike P Q → {n : ℕ} → Count w h P n → Count w h Q n
count_alike w h a c = count_moved (λ x y o. a x y) (λ x y. dec_same (a x y).0 (a x y).1 (c.0 x y)) c

pub groups_same : (w h : ℕ) {C D : ℕ → ℕ → Type 0} → Alike C D → {n : ℕ} → Groups w h C n → Groups w h D n
groups_same w h a g = count_alike w h (λ x y. (lowest_same w h a, lowest_same w h (alike_back a))) g

-- Rocks that agree on the map.
module _ (w h : ℕ) {R S : ℕ → ℕ → Type 0} (a : Alike (RockOn R w h) (RockOn S w h)) where
  closed_to : {x y : ℕ} → Closed R w h x y → Closed S w h x y
  closed_to {x} {y} (rock o r) = let k = (a x y).0 (record { on = o; stone = r }) in rock k.on k.stone
  closed_to (between o n m t p q) = between o n m t (closed_to p) (closed_to q)

module _ (w h : ℕ) {R S : ℕ → ℕ → Type 0} (a : Alike (RockOn R w h) (RockOn S w h)) where
  pub closed_same : Alike (Closed R w h) (Closed S w h)
  closed_same x y = (closed_to w h a, closed_to w h (alike_back a))

  shut_to : {x y : ℕ} → On w h x y → Shut R w h x y → Shut S w h x y
  shut_to {x} {y} o t = record { closed = closed_to w h a t.closed; bare = λ s. t.bare ((a x y).1 (record { on = o; stone = s })).stone }

  label_same : {x y b : ℕ} → On w h x y → Label R w h x y b → Label S w h x y b
  label_same o (is_open e k) = is_open e (open_same w h closed_same k)
  label_same {x} {y} o (is_rock e r) = is_rock e ((a x y).0 r)
  label_same o (is_shut e t) = is_shut e (shut_to o t)

  pub label_sheet_same : {s : List ℕ} → LabelSheet R w h s → LabelSheet S w h s
  label_sheet_same p = record { size = p.size; label = λ x y o. label_same o (p.label x y o) }

module _ (w h : ℕ) {R S : ℕ → ℕ → Type 0} (a : Alike (RockOn R w h) (RockOn S w h)) where
  pub shut_same : Alike (Shut R w h) (Shut S w h)
  shut_same x y = (λ t. shut_to w h a (on t) t, λ t. shut_to w h (alike_back a) (on t) t)
    where
      on : {Q : ℕ → ℕ → Type 0} → Shut Q w h x y → On w h x y
      on {Q} t = Rattle.field.specs.Labels.closed_on_map Q w h x y t.closed

-- Rocks that agree on the map take the same sweeps.
module _ (w h : ℕ) {R S : ℕ → ℕ → Type 0} (a : Alike (RockOn R w h) (RockOn S w h)) where
  state_same : (n : ℕ) → Alike (State R w h n) (State S w h n)
  unfolding State
  state_same zero x y = a x y
  state_same (suc n) x y = (swept (state_same n), swept (alike_back (state_same n)))
    where
      swept : {C D : ℕ → ℕ → Type 0} → Alike C D → AfterSweep w h C x y → AfterSweep w h D x y
      swept k (stays p) = stays ((k x y).0 p)
      swept k (closes {a} {b} {c} {d} o n m t p q) = closes o n m t ((k a b).0 p) ((k c d).0 q)

  pub rests_same : (n : ℕ) → Rests R w h n → Rests S w h n
  rests_same n r x y =
      let before = state_same n x y in
      let after = state_same (suc n) x y in
      (λ p. before.0 ((r x y).0 (after.1 p)), λ p. after.0 ((r x y).1 (before.1 p)))

module _ (w h : ℕ) {R S : ℕ → ℕ → Type 0} (a : Alike (RockOn R w h) (RockOn S w h)) where
  pub sweeps_same : {n : ℕ} → Sweeps R w h n → Sweeps S w h n
  sweeps_same {n} s =
      record { rests = rests_same w h a n s.rests; changed = λ m l r. s.changed m l (rests_same w h (alike_back a) m r) }
