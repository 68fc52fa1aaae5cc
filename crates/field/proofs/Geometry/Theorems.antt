-- The theorems that need no code, of the closed crossings of any rocks: groups are rectangles at
-- least three hops apart, and permitted hops lead home. They hold of every stable set of crossings
-- on the map, and are proved so in the files beside this one; the closed crossings are one.
use Rattle.std.specs.Prelude.{◌≡◌, List, ◌↔◌, ℕ, ◌+◌, ◌≤◌}
use Rattle.field.specs.declared.Placing.{Placing}
use Rattle.field.specs.Map.{Sides, On, at, Apart, dist}
use Rattle.field.specs.Labels.{Closed, closed_stable, closed_on_map, smallest, Open, Label, is_open, is_rock, is_shut, LabelSheet, Count}
use Rattle.field.specs.Groups.{Linked, Lowest, Groups, GroupsApart}
use Rattle.field.specs.Distances.{Assured}
use Rattle.field.specs.Hops.{Permitted, There, Taken}
use Rattle.field.specs.Drives.{ShortestDrive, HasDrive}
use Rattle.field.specs.CrossingLines.{OpenColumn, OpenRow, Lines, HasLines, DrivenBy}
use Rattle.field.specs.Depots.{HowPlaced}
use Rattle.field.specs.Geometry.Shapes.{Filled, Rectangle, rectangles_apart, Corner, Stage}
use Rattle.field.proofs.Geometry.Links
use Rattle.field.proofs.Geometry.Rectangles
use Rattle.field.proofs.Geometry.Apart
use Rattle.field.proofs.Workings.Counting.{count_one}
use Rattle.field.proofs.Geometry.Groups
use Rattle.field.proofs.Geometry.WayHome
use Rattle.field.proofs.Geometry.HomeDrives
use Rattle.field.proofs.Geometry.Meeting
use Rattle.field.proofs.Workings.CrossingLaws
use Rattle.field.proofs.Geometry.LinesLaws
use Rattle.field.proofs.Geometry.DepotLaws

-- R tells the rocks, and of each crossing it can be told whether it is closed.
module _ (R : ℕ → ℕ → Type 0) (w h : ℕ) (dec : (x y : ℕ) → Dec (Closed R w h x y)) where
  abbrev C : ℕ → ℕ → Type 0
  C = Closed R w h

  -- Every crossing of the rectangle between two crossings of a group is closed.
  pub span : {x y a b : ℕ} → Linked C x y a b → Filled C x y a b
  span = Rectangles.span w h C (closed_on_map R w h) (closed_stable R w h)

  -- Every group is a full rectangle.
  pub group_rectangle : (x y : ℕ) → C x y → Rectangle C x y
  group_rectangle = Rectangles.group_rectangle w h C (closed_on_map R w h) (closed_stable R w h) dec

  -- Any two groups are at least three hops apart, and so are any two closed crossings that are not
  -- in one group.
  pub groups_three_apart : {x y a b n : ℕ} → GroupsApart C x y a b n → ¬ Linked C x y a b → 3 ≤ n
  groups_three_apart = Apart.groups_three_apart w h C (closed_on_map R w h) (closed_stable R w h)

  pub three_apart : (a b c d : ℕ) → C a b → C c d → ¬ Linked C a b c d → 3 ≤ dist a b c d
  three_apart = Apart.three_apart w h C (closed_on_map R w h) (closed_stable R w h)

  -- How far apart two groups are is read off their rectangles.
  pub groups_apart : {x y a b : ℕ} (p : C x y) (q : C a b) (n : ℕ)
      → GroupsApart C x y a b n ↔ (n ≡ rectangles_apart (group_rectangle x y p) (group_rectangle a b q))
  groups_apart {x} {y} {a} {b} p q = Apart.rectangles_apart_lem (group_rectangle x y p) (group_rectangle a b q)

  -- To be in one group goes both ways and from one to the next, and can be told.
  pub linked_sym : {x y a b : ℕ} → Linked C x y a b → Linked C a b x y
  linked_sym = Links.linked_sym

  pub linked_trans : {x y a b c d : ℕ} → Linked C x y a b → Linked C a b c d → Linked C x y c d
  linked_trans = Links.linked_trans

  pub linked_dec : (x y a b : ℕ) → Dec (Linked C x y a b)
  linked_dec = Groups.linked_dec w h C (closed_on_map R w h) (closed_stable R w h) dec

  -- Each group has a crossing of lowest number, and no two. So counting these counts groups; and
  -- they are the closed crossings with neither a closed west nor a closed south neighbour.
  pub lowest_some : (x y : ℕ) → C x y → (a : ℕ) × (b : ℕ) × Linked C x y a b × Lowest w C a b
  lowest_some = Groups.lowest_some w h C (closed_on_map R w h) (closed_stable R w h) dec

  pub lowest_one : (x y a b : ℕ) → Linked C x y a b → Lowest w C x y → Lowest w C a b → (x ≡ a) × (y ≡ b)
  lowest_one = Groups.lowest_one w h C (closed_on_map R w h) (closed_stable R w h)

  pub lowest_corner : (x y : ℕ) → Lowest w C x y ↔ Corner C x y
  lowest_corner = Groups.lowest_corner w h C (closed_on_map R w h) (closed_stable R w h)

  pub groups_corners : (n : ℕ) → Groups w h C n ↔ Count w h (Corner C) n
  groups_corners = Groups.groups_corners w h C (closed_on_map R w h) (closed_stable R w h) dec

  -- There is a number of groups, and only one.
  pub groups_some : (n : ℕ) × Groups w h C n
  groups_some = Groups.groups_some w h C (closed_on_map R w h) (closed_stable R w h) dec

  pub groups_one : {n m : ℕ} → Groups w h C n → Groups w h C m → n ≡ m
  groups_one = count_one w h

  -- The way home. Home is (hx, hy), and the map is of document 01's size: on a wider one the mark
  -- for no distance could be a distance.
  module _ (sides : Sides w h) (hx hy : ℕ) where
    -- From an assured place other than home there is a permitted hop, and after any permitted hop
    -- home is assured again.
    pub home_hop : {x y : ℕ} → Assured w h C hx hy x y → Apart x y hx hy → (a : ℕ) × (b : ℕ) × Permitted w h C hx hy x y a b
    home_hop = WayHome.home_hop w h sides C (closed_on_map R w h) (closed_stable R w h) dec hx hy

    pub hop_assured : {x y a b : ℕ} → Assured w h C hx hy x y → Permitted w h C hx hy x y a b → Assured w h C hx hy a b
    hop_assured = WayHome.hop_assured

    -- Wherever a sequence of permitted hops leads from an assured place, the crossing is open and
    -- home is assured; hops taken and hops left make the distance. The same holds at each stage of
    -- the sequence, which is such a sequence itself.
    pub taken_open : {x y n a b : ℕ} → Assured w h C hx hy x y → Taken w h C hx hy x y n a b → Open w h C a b
    taken_open s = WayHome.taken_open s.place

    pub taken_assured : {x y n a b : ℕ} → Assured w h C hx hy x y → Taken w h C hx hy x y n a b → Assured w h C hx hy a b
    taken_assured = WayHome.taken_assured

    pub taken_count : {x y n a b : ℕ} → Taken w h C hx hy x y n a b → n + dist a b hx hy ≡ dist x y hx hy
    taken_count = WayHome.taken_count

    pub taken_stage : {x y n a b : ℕ} → Taken w h C hx hy x y n a b → (k : ℕ) → k ≤ n → Stage w h C hx hy x y n a b k
    taken_stage = WayHome.taken_stage

    -- It can always be continued until home.
    pub taken_continues : {x y n a b : ℕ} → Assured w h C hx hy x y → Taken w h C hx hy x y n a b → Taken w h C hx hy a b (dist a b hx hy) hx hy
    taken_continues = WayHome.taken_continues w h sides C (closed_on_map R w h) (closed_stable R w h) dec hx hy

    pub taken_append : {x y n a b m c d : ℕ} → Taken w h C hx hy x y n a b → Taken w h C hx hy a b m c d → Taken w h C hx hy x y (n + m) c d
    taken_append = WayHome.taken_append

    -- It ends at home and nowhere else, after exactly as many hops as the distance.
    pub taken_ends : {x y n a b : ℕ} → Assured w h C hx hy x y → Taken w h C hx hy x y n a b → ((c d : ℕ) → ¬ Permitted w h C hx hy a b c d)
        → There hx hy a b × (n ≡ dist x y hx hy)
    taken_ends = WayHome.taken_ends w h sides C (closed_on_map R w h) (closed_stable R w h) dec hx hy

    pub there_ends : {x y a b : ℕ} → There hx hy x y → ¬ Permitted w h C hx hy x y a b
    there_ends = WayHome.there_ends

-- Shortest drives that are sure: home's, where it is assured, and those of crossing lines (Req 06).
module _ (R : ℕ → ℕ → Type 0) (w h : ℕ) (sides : Sides w h) (dec : (x y : ℕ) → Dec (Closed R w h x y)) where
  abbrev D : ℕ → ℕ → Type 0
  D = Closed R w h

  -- An assured place has a shortest drive home.
  pub assured_drive : {hx hy x y : ℕ} → Assured w h D hx hy x y → HasDrive w h D x y hx hy
  assured_drive = HomeDrives.assured_drive w h sides D (closed_on_map R w h) (closed_stable R w h) dec

  -- "Show that a yes always has a shortest drive": for any two open places, whichever way d lies
  -- from s.
  pub lines_drive : (sx sy dx dy : ℕ) → Open w h D sx sy → Open w h D dx dy → HasLines w h D sx sy dx dy → HasDrive w h D sx sy dx dy
  lines_drive = Meeting.lines_drive w h sides D (closed_on_map R w h) (closed_stable R w h) dec

  -- Why: the crossing where column and row meet is assured, as a home, for both places.
  pub meeting_assured : (sx sy dx dy x y : ℕ) → OpenColumn w h D sx sy dx dy x → OpenRow w h D sx sy dx dy y → Open w h D sx sy → Assured w h D x y sx sy
  meeting_assured = Meeting.meeting_assured w h sides D (closed_on_map R w h) (closed_stable R w h) dec

  pub meeting_assured_end : (sx sy dx dy x y : ℕ) → OpenColumn w h D sx sy dx dy x → OpenRow w h D sx sy dx dy y → Open w h D dx dy → Assured w h D x y dx dy
  meeting_assured_end = Meeting.meeting_assured_end w h sides D (closed_on_map R w h) (closed_stable R w h) dec

  -- The drive by way of that crossing is a shortest drive from s to d.
  pub driven_by_shortest : (sx sy dx dy x y : ℕ) {z z' : ℕ} {l : List ℕ} → OpenColumn w h D sx sy dx dy x → OpenRow w h D sx sy dx dy y
      → Open w h D sx sy → Open w h D dx dy → DrivenBy w h D sx sy dx dy x y z l z' → ShortestDrive w h D sx sy dx dy l
  driven_by_shortest = Meeting.driven_by_shortest w h sides D (closed_on_map R w h) (closed_stable R w h) dec

  -- There is such a drive from every state.
  pub driven_by_some : (sx sy dx dy x y : ℕ) → OpenColumn w h D sx sy dx dy x → OpenRow w h D sx sy dx dy y → Open w h D sx sy → Open w h D dx dy
      → (z : ℕ) → (l : List ℕ) × (z' : ℕ) × DrivenBy w h D sx sy dx dy x y z l z'
  driven_by_some = CrossingLaws.driven_by_some w h sides D (closed_on_map R w h) (closed_stable R w h) dec

  -- Where the test says yes there are a westmost column and a southmost row, and no two.
  pub lines_some : (sx sy dx dy : ℕ) → HasLines w h D sx sy dx dy → (c : ℕ) × (r : ℕ) × Lines w h D sx sy dx dy c r
  lines_some = LinesLaws.lines_some w h D (closed_on_map R w h) dec

  pub lines_one : {sx sy dx dy c r c' r' : ℕ} → Lines w h D sx sy dx dy c r → Lines w h D sx sy dx dy c' r' → (c ≡ c') × (r ≡ r')
  lines_one = LinesLaws.lines_one

  -- A depot's four numbers (Req 05): "The last three add up to the first." Two outcomes for one
  -- depot are equal.
  pub placed_adds : (dx dy : ℕ) {p : Placing} → HowPlaced w h D dx dy p → p.assured + p.driven + p.stranded ≡ p.opens
  placed_adds = DepotLaws.placed_adds w h sides D (closed_on_map R w h) (closed_stable R w h) dec

  pub placed_one : (dx dy : ℕ) {p q : Placing} → HowPlaced w h D dx dy p → HowPlaced w h D dx dy q → p ≡ q
  placed_one dx dy = DepotLaws.placed_one

-- What the smallest set excludes: on a map without rocks, to close anything.
module _ (R : ℕ → ℕ → Type 0) (w h : ℕ) (no-rocks : (x y : ℕ) → On w h x y → ¬ R x y) where
  -- Without rocks nothing is closed: the empty set holds the rocks and is stable.
  pub no_rocks_none_closed : (x y : ℕ) → ¬ Closed R w h x y
  no_rocks_none_closed = smallest R w h (λ x y. ⊥) no-rocks (λ x y a b c d o n m t p q. p)

  -- So a sheet that labels every crossing rock or shut is not the labelling.
  pub all_closed_no_labelling : 1 ≤ w → 1 ≤ h → (s : List ℕ) → ((x y : ℕ) → On w h x y → ¬ (at s w x y ≡ 0)) → ¬ LabelSheet R w h s
  all_closed_no_labelling p q s full sheet = go (sheet.label 0 0 origin)
    where
      origin : On w h 0 0
      origin = record { in_x = p; in_y = q }

      go : Label R w h 0 0 (at s w 0 0) → ⊥
      go (is_open e o) = full 0 0 origin e
      go (is_rock e r) = no-rocks 0 0 origin r.stone
      go (is_shut e t) = no_rocks_none_closed 0 0 t.closed
