-- What more clearance gives a cart, in the calls' own terms (Req 08): "a cart with more clearance
-- never has a closed crossing that a lower one finds open". Two calls ask the same over one list
-- and map, the first for the lower cart. Where the first is not refused, the second, lent sheets of
-- the map's size and a route no shorter, is not: rows 1 to 4 and 10 do not look at the clearance,
-- and 8, 9, 11 and 19 apply to it only where they apply to the first. What the first tells, the
-- second tells too: labels that are 0, hops, the region, a yes, an accepted list. No distance is
-- less. m is lent for the lower cart, k for the one with more clearance.
use Rattle.std.specs.Prelude.{◌≡◌, refl, true, List, [], ◌∷◌, ◌⊎◌, ℕ, ◌*◌, ◌≤◌, length, get_or, take}
use Rattle.std.proofs.Common.{inl, inr, arith}
use Rattle.field.specs.declared.Marker.{Marker}
use Rattle.field.specs.Map.{at}
use Rattle.field.specs.Reasons.{no_fault}
use Rattle.field.specs.Labels.{Rock, closed_on_map, Open}
use Rattle.field.specs.Distances.{Way, DistanceSheet, Assured}
use Rattle.field.specs.Hops.{Taken}
use Rattle.field.specs.Drives.{ShortestDrive}
use Rattle.field.specs.CrossingLines.{HasLines}
use Rattle.field.specs.Geometry.Shapes.{Among}
use Rattle.field.proofs.Geometry.LinesLaws.{lines_yes}
use Rattle.field.proofs.Geometry.Clearances
use Rattle.markers.proofs.Theorems.{closed_dec}
use Rattle.calls.specs.LentMap.{with_clearance}
use Rattle.calls.specs.Rules
use Rattle.calls.specs.Rules.{Rule, Gives, gives_one, LentMap, Sized, OnIt, Formed, markers_in, RocksOf, ClosedBy, Misfit, AnEndClosed, NoWay}
use Rattle.calls.specs.RuleLaws.{None, gives_none, none_gives, on_holds, sides_hold, sheets_fit}
use Rattle.calls.specs.Calls.{LabelCall, DistancesCall, MeasureCall, AssuredCall, HopCall, RegionCall, DriveCall, RouteCall}
use Rattle.calls.specs.Sequences.{Names, SaysThere, Journey}
use Rattle.calls.proofs.HopCalls.{hop_names, hop_there, journey_taken}
use Rattle.calls.proofs.DriveCalls.{drive_shortest, route_shortest}
use Rattle.calls.specs.CheckCall.{check_table, no_check, CheckCall}
use Rattle.calls.proofs.CheckCalls.{check_accepts, shortest_passes}
use Rattle.calls.specs.LinesCall.{lines_rows, lines_table, lines_drive_rows, lines_drive_table, LinesCall, LinesDriveCall}
use Rattle.calls.proofs.LinesCalls.{lines_yes_exactly, lines_drive_shortest}
use Rattle.calls.specs.declared.Labelling.{Labelling}
use Rattle.calls.specs.declared.Four.{Four}
use Rattle.calls.specs.declared.Assurance.{Assurance}
use Rattle.calls.specs.declared.Homeward.{Homeward}
use Rattle.calls.specs.declared.Drove.{Drove}
use Rattle.calls.specs.declared.Checked.{Checked}
use Rattle.calls.specs.declared.CrossingLines.{CrossingLines}

-- A marker that stops a cart stops every lower one.
pub rock_more : {c c' : ℕ} → c ≤ c' → (list : List Marker) → Among (Rock c' list) (Rock c list)
rock_more l list x y r =
    record { slot = r.slot; in_use = r.in_use; x_is = r.x_is; y_is = r.y_is; stops = omega (arith, r.stops) }

module _ (m : LentMap) (c : ℕ) (more : m.clearance ≤ c) where
  abbrev k : LentMap
  k = with_clearance m c

  -- The closed crossings of the cart with more clearance are among the lower one's.
  pub closed_more : Among (ClosedBy k) (ClosedBy m)
  closed_more = Clearances.closed_fewer (RocksOf k) (RocksOf m) (rock_more more (markers_in m)) m.width m.height

  -- Whether a crossing is closed can be told.
  dec : (x y : ℕ) → Dec (ClosedBy k x y)
  dec = closed_dec m.width m.height c (markers_in m)

  -- The rows that need the labels. 8, 9, 11 and 19 apply to k only where they apply to m.
  ends_row : (x y a b : ℕ) → ¬ AnEndClosed (ClosedBy m) x y a b → ¬ AnEndClosed (ClosedBy k) x y a b
  ends_row x y a b n (inl p) = n (inl (closed_more x y p))
  ends_row x y a b n (inr p) = n (inr (closed_more a b p))

  from_open : {x y a b : ℕ} → ¬ ((¬ OnIt m x y) ⊎ (¬ OnIt m a b)) → ¬ AnEndClosed (ClosedBy m) x y a b → Open m.width m.height (ClosedBy m) x y
  from_open places ends = record { on = on_holds (λ n. places (inl n)); free = λ p. ends (inl p) }

  to_open : {x y a b : ℕ} → ¬ ((¬ OnIt m x y) ⊎ (¬ OnIt m a b)) → ¬ AnEndClosed (ClosedBy m) x y a b → Open m.width m.height (ClosedBy m) a b
  to_open places ends = record { on = on_holds (λ n. places (inr n)); free = λ p. ends (inr p) }

  drive_row : (sx sy dx dy : ℕ) → ¬ ((¬ OnIt m sx sy) ⊎ (¬ OnIt m dx dy)) → ¬ AnEndClosed (ClosedBy m) sx sy dx dy
      → ¬ NoWay m.width m.height (ClosedBy m) sx sy dx dy → ¬ NoWay m.width m.height (ClosedBy k) sx sy dx dy
  drive_row sx sy dx dy places ends n v =
      n (record {
        from = from_open places ends;
        to = to_open places ends;
        none = λ d. v.none (Clearances.has_drive_more m.width m.height (ClosedBy k) (ClosedBy m) closed_more d);
      })

  assured_kept : {hx hy x y : ℕ} → Sized m → Assured m.width m.height (ClosedBy m) hx hy x y → Assured m.width m.height (ClosedBy k) hx hy x y
  assured_kept s = Clearances.assured_more m.width m.height (ClosedBy k) (ClosedBy m) closed_more s (closed_on_map (RocksOf m) m.width m.height) dec

  lines_kept : {sx sy dx dy : ℕ} → HasLines m.width m.height (ClosedBy m) sx sy dx dy → HasLines m.width m.height (ClosedBy k) sx sy dx dy
  lines_kept = Clearances.lines_more m.width m.height (ClosedBy k) (ClosedBy m) closed_more

  -- An asking of k with fitting sheets gives 0 where none of its own rows applies and m's asking
  -- passed rows 1 and 3, which are the same for both.
  asking_passes : (sheets other : List (List ℕ)) (own rows : List Rule) {n : ℕ} → None (Rules.asking_table m sheets own)
      → ¬ Misfit m.width m.height other → None rows → Gives (Rules.asking_table k other rows) n → n ≡ 0
  asking_passes sheets other own rows t fit f g =
      gives_one (Rules.asking_table k other rows) _ _ g (none_gives (Rules.asking_table k other rows) 0 refl (t.0, (fit, (t.1.1.0, f))))

  one_fits : (s : List ℕ) → length s ≡ m.height * m.width → ¬ Misfit m.width m.height (s ∷ [])
  one_fits s e = sheets_fit m.width m.height s [] e (λ n. n)

  two_fit : (s t : List ℕ) → length s ≡ m.height * m.width → length t ≡ m.height * m.width → ¬ Misfit m.width m.height (s ∷ t ∷ [])
  two_fit s t e f = sheets_fit m.width m.height s (t ∷ []) e (one_fits t f)

  -- Labels: a crossing with label 0 for the lower cart has label 0.
  pub label_more : {labels labels' sheet sheet' : List ℕ} {r q : Labelling} → LabelCall m labels labels' r → r.refusal ≡ 0
      → length sheet ≡ m.height * m.width → LabelCall k sheet sheet' q
      → (q.refusal ≡ 0) × ((x y : ℕ) → OnIt m x y → at labels' m.width x y ≡ 0 → at sheet' m.width x y ≡ 0)
  label_more {labels} {labels'} {sheet} {sheet'} {r} {q} a z fits b = (
    given,
    Clearances.label_fewer (RocksOf k) (RocksOf m) (rock_more more (markers_in m)) m.width m.height labels' sheet'
        (a.labels_after.labelled (λ t. omega arith)) (b.labels_after.labelled (λ t. omega (arith, given))),
  )
    where
      given : q.refusal ≡ 0
      given =
          let t = gives_none (Rules.label_table m labels) 0 r.refusal (omega arith) a.given z in
          asking_passes (labels ∷ []) (sheet ∷ []) [] [] t (one_fits sheet fits) tt b.given

  -- Distances of one crossing: none of the four is less.
  pub distances_more : {x y : ℕ} {labels labels' sheet sheet' : List ℕ} {r q : Four} → DistancesCall m x y labels labels' r → r.refusal ≡ 0
      → length sheet ≡ m.height * m.width → DistancesCall k x y sheet sheet' q
      → (q.refusal ≡ 0) × ((i : ℕ) → get_or r.four i 0 ≤ get_or q.four i 0)
  distances_more {x} {y} {labels} {labels'} {sheet} {sheet'} {r} {q} a z fits b = (
    given,
    Clearances.distances_farther m.width m.height (ClosedBy k) (ClosedBy m) closed_more (sides_hold t.0)
        (closed_on_map (RocksOf m) m.width m.height) (on_holds t.1.1.1.0) (a.done z) (b.done given),
  )
    where
      t : None (Rules.distances_table m x y labels)
      t = gives_none (Rules.distances_table m x y labels) 0 r.refusal (omega arith) a.given z

      given : q.refusal ≡ 0
      given =
          asking_passes (labels ∷ []) (sheet ∷ []) (Rules.place_rule m x y ∷ []) (Rules.place_rule k x y ∷ []) t (one_fits sheet fits) t.1.1.1 b.given

  -- Distances of the map: none on any of the four sheets is less.
  module _ {labels east south west north labels' east' south' west' north' sheet e s v n sheet' e' s' v' n' : List ℕ} {r q : ℕ}
      (a : MeasureCall m labels east south west north labels' east' south' west' north' r) (z : r ≡ 0)
      (fit : ¬ Misfit m.width m.height (sheet ∷ e ∷ s ∷ v ∷ n ∷ [])) (b : MeasureCall k sheet e s v n sheet' e' s' v' n' q) where
    measured : None (Rules.measure_table m labels east south west north)
    measured = gives_none (Rules.measure_table m labels east south west north) 0 r (omega arith) a.given z

    pub measure_given : q ≡ 0
    measure_given =
        asking_passes (labels ∷ east ∷ south ∷ west ∷ north ∷ []) (sheet ∷ e ∷ s ∷ v ∷ n ∷ []) [] [] measured fit tt b.given

    farther : {t : Way} {old new : List ℕ} → DistanceSheet m.width m.height (ClosedBy m) t old → DistanceSheet m.width m.height (ClosedBy k) t new
        → (x y : ℕ) → OnIt m x y → at old m.width x y ≤ at new m.width x y
    farther =
        Clearances.distance_sheet_farther m.width m.height (ClosedBy k) (ClosedBy m) closed_more (sides_hold measured.0)
        (closed_on_map (RocksOf m) m.width m.height)

    pub measure_more : (x y : ℕ) → OnIt m x y
        → (at east' m.width x y ≤ at e' m.width x y) × (at south' m.width x y ≤ at s' m.width x y)
        × (at west' m.width x y ≤ at v' m.width x y) × (at north' m.width x y ≤ at n' m.width x y)
    measure_more x y o = (
      farther (a.east_after.filled z) (b.east_after.filled measure_given) x y o,
      farther (a.south_after.filled z) (b.south_after.filled measure_given) x y o,
      farther (a.west_after.filled z) (b.west_after.filled measure_given) x y o,
      farther (a.north_after.filled z) (b.north_after.filled measure_given) x y o,
    )

  -- Assurance: a yes stays a yes.
  pub assured_more : {hx hy x y : ℕ} {labels labels' sheet sheet' : List ℕ} {r q : Assurance} → AssuredCall m hx hy x y labels labels' r → r.refusal ≡ 0
      → length sheet ≡ m.height * m.width → AssuredCall k hx hy x y sheet sheet' q
      → (q.refusal ≡ 0) × (r.assured ≡ true → q.assured ≡ true)
  assured_more {hx} {hy} {x} {y} {labels} {labels'} {sheet} {sheet'} {r} {q} a z fits b =
      (given, λ e. (b.done given).1 (assured_kept (sides_hold t.0) ((a.done z).0 e)))
    where
      t : None (Rules.assured_table m hx hy x y labels)
      t = gives_none (Rules.assured_table m hx hy x y labels) 0 r.refusal (omega arith) a.given z

      given : q.refusal ≡ 0
      given =
          asking_passes (labels ∷ []) (sheet ∷ []) (Rules.places_rule m hx hy x y ∷ Rules.assured_rows (ClosedBy m) hx hy x y)
          (Rules.places_rule k hx hy x y ∷ Rules.assured_rows (ClosedBy k) hx hy x y) t (one_fits sheet fits)
          (t.1.1.1.0, (ends_row hx hy x y t.1.1.1.1.0, tt)) b.given

  -- Hops: every hop that is named for the lower cart is named, and "there" stays "there".
  pub hop_more : {hx hy x y : ℕ} {labels labels' sheet sheet' : List ℕ} {r q : Homeward} → HopCall m hx hy x y labels labels' r → r.refusal ≡ 0
      → length sheet ≡ m.height * m.width → HopCall k hx hy x y sheet sheet' q
      → (q.refusal ≡ 0) × ((i j : ℕ) → Names r i j → Names q i j) × (SaysThere r → SaysThere q)
  hop_more {hx} {hy} {x} {y} {labels} {labels'} {sheet} {sheet'} {r} {q} a z fits b = (
    given,
    λ i j n. (hop_names b given i j).1 (Clearances.permitted_more m.width m.height (ClosedBy k) (ClosedBy m) closed_more ((hop_names a z i j).0 n)),
    λ n. (hop_there b given).1 ((hop_there a z).0 n),
  )
    where
      t : None (Rules.hop_table m hx hy x y labels)
      t = gives_none (Rules.hop_table m hx hy x y labels) 0 r.refusal (omega arith) a.given z

      given : q.refusal ≡ 0
      given =
          asking_passes (labels ∷ []) (sheet ∷ []) (Rules.places_rule m hx hy x y ∷ Rules.hop_rows m.width m.height (ClosedBy m) hx hy x y)
          (Rules.places_rule k hx hy x y ∷ Rules.hop_rows m.width m.height (ClosedBy k) hx hy x y) t (one_fits sheet fits)
          (t.1.1.1.0, (ends_row hx hy x y t.1.1.1.1.0, (λ n. t.1.1.1.1.1.0 (λ s. n (assured_kept (sides_hold t.0) s)), tt)))
          b.given

  -- Each hop of a lower cart's journey is permitted.
  pub journey_more : {hx hy x y n a b : ℕ} → Journey m hx hy x y n a b → Taken m.width m.height (ClosedBy k) hx hy x y n a b
  journey_more j = Clearances.taken_more m.width m.height (ClosedBy k) (ClosedBy m) closed_more (journey_taken j)

  -- Region: a crossing that is in stays in.
  pub region_more : {sx sy dx dy : ℕ} {labels region labels' region' sheet part sheet' part' : List ℕ} {r q : ℕ}
      → RegionCall m sx sy dx dy labels region labels' region' r → r ≡ 0
      → length sheet ≡ m.height * m.width → length part ≡ m.height * m.width → RegionCall k sx sy dx dy sheet part sheet' part' q
      → (q ≡ 0) × ((x y : ℕ) → OnIt m x y → at region' m.width x y ≡ 1 → at part' m.width x y ≡ 1)
  region_more {sx} {sy} {dx} {dy} {labels} {region} {labels'} {region'} {sheet} {part} {sheet'} {part'} {r} {q} a z fits fits' b = (
    given,
    Clearances.region_sheet_more m.width m.height (ClosedBy k) (ClosedBy m) closed_more
        (a.region_after.made (λ t. omega arith)) (b.region_after.made (λ t. omega (arith, given))),
  )
    where
      t : None (Rules.region_table m sx sy dx dy labels region)
      t = gives_none (Rules.region_table m sx sy dx dy labels region) 0 r (omega arith) a.given z

      given : q ≡ 0
      given =
          asking_passes (labels ∷ region ∷ []) (sheet ∷ part ∷ []) (Rules.places_rule m sx sy dx dy ∷ Rules.region_rows m.width m.height (ClosedBy m) sx sy dx dy)
          (Rules.places_rule k sx sy dx dy ∷ Rules.region_rows m.width m.height (ClosedBy k) sx sy dx dy) t (two_fit sheet part fits fits')
          (t.1.1.1.0, (ends_row sx sy dx dy t.1.1.1.1.0, (drive_row sx sy dx dy t.1.1.1.0 t.1.1.1.1.0 t.1.1.1.1.1.0, tt)))
          b.given

  -- Drives: where the lower cart has one there is one, into a route that is no shorter. It need not
  -- be the same: with more open crossings the chooser may draw more often.
  drive_given : (sx sy dx dy : ℕ) (labels region route sheet part way : List ℕ) {n q : ℕ} → Gives (Rules.drive_table m sx sy dx dy labels region route) n → n ≡ 0
      → length sheet ≡ m.height * m.width → length part ≡ m.height * m.width → length route ≤ length way
      → Gives (Rules.drive_table k sx sy dx dy sheet part way) q → q ≡ 0
  drive_given sx sy dx dy labels region route sheet part way {n} g z fits fits' room =
      asking_passes (labels ∷ region ∷ []) (sheet ∷ part ∷ []) (Rules.places_rule m sx sy dx dy ∷ Rules.drive_rows m.width m.height (ClosedBy m) sx sy dx dy route)
      (Rules.places_rule k sx sy dx dy ∷ Rules.drive_rows m.width m.height (ClosedBy k) sx sy dx dy way) t (two_fit sheet part fits fits') (
        t.1.1.1.0,
        (
          ends_row sx sy dx dy t.1.1.1.1.0,
          (drive_row sx sy dx dy t.1.1.1.0 t.1.1.1.1.0 t.1.1.1.1.1.0, (λ l. t.1.1.1.1.1.1.0 (omega arith), tt)),
        ),
      )
    where
      t : None (Rules.drive_table m sx sy dx dy labels region route)
      t = gives_none (Rules.drive_table m sx sy dx dy labels region route) 0 n (omega arith) g z

  pub drive_more : {sx sy dx dy : ℕ} {labels region route labels' region' route' sheet part way sheet' part' way' : List ℕ} {state state' z z' : ℕ} {r q : Drove}
      → DriveCall m sx sy dx dy labels region route state labels' region' route' state' r → r.refusal ≡ 0
      → length sheet ≡ m.height * m.width → length part ≡ m.height * m.width → length route ≤ length way
      → DriveCall k sx sy dx dy sheet part way z sheet' part' way' z' q → q.refusal ≡ 0
  drive_more {sx} {sy} {dx} {dy} {labels} {region} {route} {sheet = sheet} {part = part} {way = way} a e fits fits' room b =
      drive_given sx sy dx dy labels region route sheet part way a.given e fits fits' room b.given

  pub route_more : {sx sy dx dy : ℕ} {labels region route labels' region' front sheet part way sheet' part' front' : List ℕ} {state state' z z' n q : ℕ} {f g i j : ℕ × ℕ}
      → RouteCall m sx sy dx dy labels region route state labels' region' front n state' f g → n ≡ 0
      → length sheet ≡ m.height * m.width → length part ≡ m.height * m.width → length route ≤ length way
      → RouteCall k sx sy dx dy sheet part way z sheet' part' front' q z' i j → q ≡ 0
  route_more {sx} {sy} {dx} {dy} {labels} {region} {route} {sheet = sheet} {part = part} {way = way} a e fits fits' room b =
      drive_given sx sy dx dy labels region route sheet part way a.given e fits fits' room b.given

  -- The check of a drawn list: what is accepted for the lower cart is accepted.
  drawn_passes : {sx sy dx dy : ℕ} {drawn sheet sheet' : List ℕ} {q : Checked} → ¬ ¬ Sized m → ¬ ¬ Formed m
      → ShortestDrive m.width m.height (ClosedBy m) sx sy dx dy drawn
      → length sheet ≡ m.height * m.width → CheckCall k sx sy dx dy sheet drawn sheet' q → q ≡ no_check 0
  drawn_passes s f v fits = shortest_passes s f fits (Clearances.shortest_more m.width m.height (ClosedBy k) (ClosedBy m) closed_more v)

  pub check_more : {sx sy dx dy : ℕ} {labels drawn labels' sheet sheet' : List ℕ} {r q : Checked}
      → CheckCall m sx sy dx dy labels drawn labels' r → r.refusal ≡ 0 → r.reason ≡ no_fault
      → length sheet ≡ m.height * m.width → CheckCall k sx sy dx dy sheet drawn sheet' q → q ≡ no_check 0
  check_more {sx} {sy} {dx} {dy} {labels} {r = r} a z e =
      let t = gives_none (check_table m sx sy dx dy labels) 0 r.refusal (omega arith) a.given z in
      drawn_passes t.0 t.1.1.0 ((check_accepts a z).0 e)

  -- And so is every drive that is made for it: into a route, as a part handed back, or by way of
  -- crossing lines.
  pub drive_accepted_more : {sx sy dx dy : ℕ} {labels region route labels' region' route' sheet sheet' : List ℕ} {state state' : ℕ} {r : Drove} {q : Checked}
      → DriveCall m sx sy dx dy labels region route state labels' region' route' state' r → r.refusal ≡ 0
      → length sheet ≡ m.height * m.width → CheckCall k sx sy dx dy sheet (take r.length route') sheet' q → q ≡ no_check 0
  drive_accepted_more {sx} {sy} {dx} {dy} {labels} {region} {route} {r = r} a z =
      let t = gives_none (Rules.drive_table m sx sy dx dy labels region route) 0 r.refusal (omega arith) a.given z in
      drawn_passes t.0 t.1.1.0 (drive_shortest a z)

  pub route_accepted_more : {sx sy dx dy : ℕ} {labels region route labels' region' front sheet sheet' : List ℕ} {state state' n : ℕ} {f g : ℕ × ℕ} {q : Checked}
      → RouteCall m sx sy dx dy labels region route state labels' region' front n state' f g → n ≡ 0
      → length sheet ≡ m.height * m.width → CheckCall k sx sy dx dy sheet front sheet' q → q ≡ no_check 0
  route_accepted_more {sx} {sy} {dx} {dy} {labels} {region} {route} {n = n} a z =
      let t = gives_none (Rules.drive_table m sx sy dx dy labels region route) 0 n (omega arith) a.given z in
      drawn_passes t.0 t.1.1.0 (route_shortest a z)

  pub joined_accepted_more : {sx sy dx dy : ℕ} {labels region route labels' region' route' sheet sheet' : List ℕ} {state state' : ℕ} {r : Drove} {q : Checked}
      → LinesDriveCall m sx sy dx dy labels region route state labels' region' route' state' r → r.refusal ≡ 0
      → length sheet ≡ m.height * m.width → CheckCall k sx sy dx dy sheet (take r.length route') sheet' q → q ≡ no_check 0
  joined_accepted_more {sx} {sy} {dx} {dy} {labels} {region} {route} {r = r} a z =
      let t = gives_none (lines_drive_table m sx sy dx dy labels region route) 0 r.refusal (omega arith) a.given z in
      drawn_passes t.0 t.1.1.0 (lines_drive_shortest a z)

  -- The crossing-lines test: a yes stays a yes, with a column no further east and a row no further
  -- north.
  module _ {sx sy dx dy : ℕ} {labels labels' sheet sheet' : List ℕ} {r q : CrossingLines} (a : LinesCall m sx sy dx dy labels labels' r) (z : r.refusal ≡ 0)
      (fits : length sheet ≡ m.height * m.width) (b : LinesCall k sx sy dx dy sheet sheet' q) where
    pub lines_given : q.refusal ≡ 0
    lines_given =
        let t = gives_none (lines_table m sx sy dx dy labels) 0 r.refusal (omega arith) a.given z in
        asking_passes (labels ∷ []) (sheet ∷ []) (Rules.places_rule m sx sy dx dy ∷ lines_rows (ClosedBy m) sx sy dx dy)
        (Rules.places_rule k sx sy dx dy ∷ lines_rows (ClosedBy k) sx sy dx dy) t (one_fits sheet fits)
        (t.1.1.1.0, (ends_row sx sy dx dy t.1.1.1.1.0, tt)) b.given

    pub lines_more : r.yes ≡ true → q.yes ≡ true
    lines_more e = (lines_yes_exactly b lines_given).1 (lines_kept (lines_yes ((a.done z).lines e)))

    pub lines_nearer : r.yes ≡ true → (q.column ≤ r.column) × (q.row ≤ r.row)
    lines_nearer e =
        Clearances.lines_nearer m.width m.height (ClosedBy k) (ClosedBy m) closed_more ((a.done z).lines e) ((b.done lines_given).lines (lines_more e))

  -- The drive that it yields: where the lower cart has one there is one.
  pub lines_drive_more : {sx sy dx dy : ℕ} {labels region route labels' region' route' sheet part way sheet' part' way' : List ℕ} {state state' z z' : ℕ} {r q : Drove}
      → LinesDriveCall m sx sy dx dy labels region route state labels' region' route' state' r → r.refusal ≡ 0
      → length sheet ≡ m.height * m.width → length part ≡ m.height * m.width → length route ≤ length way
      → LinesDriveCall k sx sy dx dy sheet part way z sheet' part' way' z' q → q.refusal ≡ 0
  lines_drive_more {sx} {sy} {dx} {dy} {labels} {region} {route} {sheet = sheet} {part = part} {way = way} {r = r} a e fits fits' room b =
      let t = gives_none (lines_drive_table m sx sy dx dy labels region route) 0 r.refusal (omega arith) a.given e in
      asking_passes (labels ∷ region ∷ []) (sheet ∷ part ∷ []) (Rules.places_rule m sx sy dx dy ∷ lines_drive_rows m.width m.height (ClosedBy m) sx sy dx dy route)
      (Rules.places_rule k sx sy dx dy ∷ lines_drive_rows m.width m.height (ClosedBy k) sx sy dx dy way) t (two_fit sheet part fits fits') (
        t.1.1.1.0,
        (
          ends_row sx sy dx dy t.1.1.1.1.0,
          (λ n. t.1.1.1.1.1.0 (λ h. n (lines_kept h)), (λ l. t.1.1.1.1.1.1.0 (omega arith), tt)),
        ),
      )
      b.given
