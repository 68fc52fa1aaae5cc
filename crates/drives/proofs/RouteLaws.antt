-- How a drive is written down. What stands on the route so far, followed by the drive that the
-- chooser makes from the crossing it has come to, is always the whole drive from s; and that
-- crossing is always in the region, so there is a candidate as long as it is not d.
use Rattle.std.proofs.Common.{◌≡◌, ℕ, suc, ◌+◌, ◌<◌, ◌≤◌, true, ◌⊎◌, List, [], ◌∷◌, ◌++◌, length, take, drop, set, sym, refl, ap, ◌∙◌, inl, inr, append_assoc, add-one, arith, length-set, take-suc-set, drop-set-lt}
use Rattle.field.specs.Map.{Sides, side, number, Apart, gap, dist}
use Rattle.field.specs.Drives.{InRegion, RegionSheet}
use Rattle.field.specs.Chooser.{Candidate}
use Rattle.field.specs.Workings.Sheet.{Marked}
use Rattle.field.specs.Workings.Reaching.{east_west_in, north_south_in, chosen_of, drive_of}
use Rattle.field.proofs.Workings.GridLaws.{Toward, along_row, along_column, dist_none}
use Rattle.field.proofs.Workings.RegionLaws.{has_drive_in, region_sheet_draws}
use Rattle.field.proofs.Workings.ChooserLaws.{candidate_toward, candidate_some, chosen_candidate}
use Rattle.field.proofs.Workings.ChoosingLaws.{chosen_looks}
use Rattle.drives.specs.declared.chooser.Choice.{Choice}
use Rattle.regions.specs.Promise.{Ends}
use Rattle.drives.specs.Hops.{Choosable, Chose, Steered, DriveWritten}
use Rattle.regions.proofs.LookLaws.{east_west_tells, north_south_tells}

-- In the region, and not at d, one of the two tests for a candidate is passed.
module _ (w h : ℕ) (C : ℕ → ℕ → Type 0) (sx sy dx dy : ℕ) (g : List ℕ) (G : RegionSheet w h C sx sy dx dy g) where
  candidate_tested : {x y a b : ℕ} → Candidate w h C sx sy dx dy x y a b → (east_west_in g w h dx x y ≡ true) ⊎ (north_south_in g w h dy x y ≡ true)
  candidate_tested {x} {y} {a} {b} k = go (candidate_toward w h C sx sy dx dy k) ((region_sheet_draws w h C sx sy dx dy G).complete a b k.within)
    where
      go : Toward dx dy x y a b → Marked g w h a b → (east_west_in g w h dx x y ≡ true) ⊎ (north_south_in g w h dy x y ≡ true)
      go (along_row n p q) m = inl ((east_west_tells g w h dx x y).0 (n, rw (p, q) at m))
      go (along_column n p q) m = inr ((north_south_tells g w h dy x y).0 (n, rw (p, q) at m))

-- The drive is written as far as the k-th hop, which leads to (x, y), in that state.
pub record Onward (w h : ℕ) (g : List ℕ) (sx sy dx dy z : ℕ) (route route' : List ℕ) (x y state k : ℕ) : Type 0 where
  pub steered : Steered w h g sx sy dx dy route
  pub within : InRegion w h (Marked steered.closed w h) sx sy dx dy x y
  pub left : dist x y dx dy + k ≡ dist sx sy dx dy
  pub size : length route' ≡ length route
  pub front : take k route' ++ (drive_of g w h dx dy (dist x y dx dy) x y state).route ≡ (drive_of g w h dx dy (dist sx sy dx dy) sx sy z).route
  pub rest : drop (dist sx sy dx dy + 1) route' ≡ drop (dist sx sy dx dy + 1) route
  pub after : (drive_of g w h dx dy (dist x y dx dy) x y state).state ≡ (drive_of g w h dx dy (dist sx sy dx dy) sx sy z).state

module _ (w h : ℕ) (g : List ℕ) (sx sy dx dy z : ℕ) where
  pub onward_start : {route : List ℕ} → Steered w h g sx sy dx dy route → Onward w h g sx sy dx dy z route route sx sy z 0
  onward_start s =
      record {
        steered = s;
        within = (has_drive_in w h (Marked s.closed w h) sx sy dx dy).0 s.some;
        left = omega arith;
        size = refl;
        front = refl;
        rest = refl;
        after = refl;
      }

  -- A drive of one hop more: the crossing, and then the drive from the chooser's choice.
  drive_next : {a b state' : ℕ} (n x y state m : ℕ) → n ≡ suc m → a ≡ (chosen_of g w h dx dy x y state).x → b ≡ (chosen_of g w h dx dy x y state).y
      → state' ≡ (chosen_of g w h dx dy x y state).state
      → ((drive_of g w h dx dy n x y state).route ≡ number w x y ∷ (drive_of g w h dx dy m a b state').route)
      × ((drive_of g w h dx dy n x y state).state ≡ (drive_of g w h dx dy m a b state').state)
  unfolding drive_of
  drive_next n x y state m e p q r = rw (e, p, q, r) (refl, refl)

  -- A drive of no hop.
  drive_end : (n x y state : ℕ) → n ≡ 0
      → ((drive_of g w h dx dy n x y state).route ≡ number w x y ∷ []) × ((drive_of g w h dx dy n x y state).state ≡ state)
  unfolding drive_of
  drive_end n x y state e = rw e (refl, refl)

  -- One more crossing on the route.
  front_last : (l : List ℕ) (k v : ℕ) → k < length l → take (k + 1) (set l k v) ≡ take k l ++ (v ∷ [])
  front_last l k v b = rw (add-one k) (take-suc-set l k v b)

  front_more : (l : List ℕ) (k v : ℕ) (m : List ℕ) → k < length l → take (k + 1) (set l k v) ++ m ≡ take k l ++ (v ∷ m)
  front_more l k v m b = rw (front_last l k v b) (append_assoc (take k l) (v ∷ []) m)

  module _ {route route' : List ℕ} {x y state k : ℕ} (s : Onward w h g sx sy dx dy z route route' x y state k) where
    abbrev C : ℕ → ℕ → Type 0
    C = Marked s.steered.closed w h

    pub onward_ends : Ends w h dx dy x y
    onward_ends = record { from = s.steered.ends.to; to = s.within.on }

    -- The next number has its place on the route.
    pub onward_room : k < length route'
    onward_room = omega (arith, s.left, s.size, s.steered.room)

    away : k < dist sx sy dx dy → Apart x y dx dy
    away l e = omega (arith, s.left, dist_none e.0 e.1)

    pub onward_choosable : k < dist sx sy dx dy → Choosable w h g dx dy x y
    onward_choosable l =
        record {
          ends = onward_ends;
          some = candidate_tested w h C sx sy dx dy g s.steered.sheet (candidate_some w h C sx sy dx dy s.within (away l)).2;
        }

    pub onward_next : k < dist sx sy dx dy → (v : ℕ) → v ≡ number w x y → (c : Choice) → Chose w h g dx dy x y state c
        → Onward w h g sx sy dx dy z route (set route' k v) c.at.x c.at.y c.state (k + 1)
    onward_next l v i c t =
        let a = chosen_candidate w h C sx sy dx dy
        ((chosen_looks w h C sx sy dx dy g s.steered.sheet state c.at.x c.at.y c.state s.within (away l)).1 (t.x_is, t.y_is, t.state_is)) in
        let d = drive_next (dist x y dx dy) x y state (dist c.at.x c.at.y dx dy) (omega (arith, a.nearer)) t.x_is t.y_is t.state_is in
        record {
          steered = s.steered;
          within = a.within;
          left = omega (arith, s.left, a.nearer);
          size = length-set route' k v ∙ s.size;
          front = front_more route' k v _ onward_room ∙ rw i (rw d.0 at s.front);
          rest = drop-set-lt (dist sx sy dx dy + 1) route' k v (omega (arith, s.left)) ∙ s.rest;
          after = sym d.1 ∙ s.after;
        }

    pub onward_end : {n : ℕ} → n ≡ dist sx sy dx dy → n ≤ k → (v : ℕ) → v ≡ number w x y → DriveWritten w h g sx sy dx dy z route (set route' n v) state
    onward_end {n} e l v i =
        let m : n ≡ k = omega (arith, s.left) in
        let d = drive_end (dist x y dx dy) x y state (omega (arith, s.left)) in
        rw (m) (record {
          front =
              ap (λ (a : ℕ). take (a + 1) (set route' k v)) (sym e ∙ m)
              ∙ front_last route' k v onward_room
              ∙ ap (λ (r : List ℕ). take k route' ++ r) (ap (λ (a : ℕ). a ∷ []) i ∙ sym d.0)
              ∙ s.front;
          rest = drop-set-lt (dist sx sy dx dy + 1) route' k v (omega (arith, m)) ∙ s.rest;
          state = sym d.1 ∙ s.after;
        })

-- A distance on a map within the limits is small.
gap_lt : {a b m : ℕ} → a < m → b < m → gap a b < m
unfolding gap
gap_lt l r = omega arith

pub dist_small : {w h ax ay bx by : ℕ} → Sides w h → Ends w h ax ay bx by → dist ax ay bx by + 1 < 65536
unfolding side
dist_small s k = omega (arith, s.most_w, s.most_h, gap_lt k.from.in_x k.to.in_x, gap_lt k.from.in_y k.to.in_y)
