-- What is answered and left over C is answered and left over D, where they have the same crossings;
-- and so over rocks. It is asked only where the number given lets anything hang on them.
use Rattle.std.specs.Prelude.{◌≡◌, refl, List, ◌↔◌, ℕ}
use Rattle.std.proofs.Common.{inl, inr, arith}
use Rattle.field.specs.Labels.{RockOn}
use Rattle.field.specs.Distances.{Way, Assured}
use Rattle.field.specs.Checks.{Finding}
use Rattle.field.specs.Checks.{IsClosed, reasons, Finds, accepted, at_fault}
use Rattle.field.proofs.Workings.SameLaws.{Alike, alike_back, open_same, assured_same, answers_same, has_drive_same, has_lines_same, lines_same, driven_by_same, distance_sheet_same, region_sheet_same, driven_same, closed_same, shut_same, groups_same, count_alike}
use Rattle.calls.specs.Rules.{AnEndClosed, Gives, NoWay, assured_rows, hop_rows, region_rows, drive_rows}
use Rattle.calls.specs.RuleLaws.{Reworded, gives_reworded, same}
use Rattle.calls.specs.Answers.{Early, LabelNumbers, DistancesAfter, HopsNamed, RegionAfter, RouteAfter}
use Rattle.calls.specs.LinesCall.{lines_drive_rows, LinesTold, LinesRegionAfter, JoinedAfter}
use Rattle.calls.specs.declared.CrossingLines.{CrossingLines}
use Rattle.calls.specs.declared.Labelling.{Labelling}
use Rattle.calls.specs.declared.Homeward.{Homeward}

-- Rocks.
module _ (w h : ℕ) {R S : ℕ → ℕ → Type 0} where
  pub numbers_same : Alike (RockOn R w h) (RockOn S w h) → {r : Labelling} → LabelNumbers R w h r → LabelNumbers S w h r
  numbers_same a k =
      record {
        rocks = count_alike w h a k.rocks;
        shut = count_alike w h (shut_same w h a) k.shut;
        groups = groups_same w h (closed_same w h a) k.groups;
      }

-- Closed crossings.
module _ (w h : ℕ) {C D : ℕ → ℕ → Type 0} where
  pub distances_after_same : {way : Way} {n : ℕ} {sheet sheet' : List ℕ} → (n ≡ 0 → Alike C D) → DistancesAfter w h C way n sheet sheet'
      → DistancesAfter w h D way n sheet sheet'
  distances_after_same a l = record { kept = l.kept; filled = λ z. distance_sheet_same w h (a z) (l.filled z) }

  pub region_after_same : {sx sy dx dy n : ℕ} {region region' : List ℕ} → (¬ Early n → Alike C D) → RegionAfter w h C sx sy dx dy n region region'
      → RegionAfter w h D sx sy dx dy n region region'
  region_after_same a l =
      record {
        kept = l.kept;
        size = l.size;
        zeros = l.zeros;
        made = λ f. region_sheet_same w h (a (λ e. f (omega (arith, e)))) (l.made f);
      }

  pub route_after_same : {sx sy dx dy n i state state' : ℕ} {route route' : List ℕ} → (n ≡ 0 → Alike C D)
      → RouteAfter w h C sx sy dx dy n i route state route' state' → RouteAfter w h D sx sy dx dy n i route state route' state'
  route_after_same a l =
      record {
        none = l.none;
        kept = l.kept;
        still = l.still;
        long = l.long;
        driven = λ z. driven_same w h (a z) (l.driven z);
        rest = l.rest;
      }

  pub lines_region_after_same : {sx sy dx dy n : ℕ} {region region' : List ℕ} → (¬ Early n → Alike C D) → LinesRegionAfter w h C sx sy dx dy n region region'
      → LinesRegionAfter w h D sx sy dx dy n region region'
  lines_region_after_same a l =
      record { kept = l.kept; made = λ f. region_sheet_same w h (a (λ e. f (inl (e.0, omega (arith, e.1))))) (l.made f) }

  pub joined_after_same : {sx sy dx dy n i state state' : ℕ} {route route' : List ℕ} → (n ≡ 0 → Alike C D)
      → JoinedAfter w h C sx sy dx dy n i route state route' state' → JoinedAfter w h D sx sy dx dy n i route state route' state'
  joined_after_same a l =
      record {
        none = l.none;
        kept = l.kept;
        still = l.still;
        long = l.long;
        driven = λ z. let k = l.driven z in
            record { column = k.column; row = k.row; lines = lines_same w h (a z) k.lines; by = driven_by_same w h (a z) k.by };
        rest = l.rest;
      }

module _ (w h : ℕ) {C D : ℕ → ℕ → Type 0} (a : Alike C D) where
  pub hops_named_same : {hx hy x y : ℕ} {r : Homeward} → HopsNamed w h C hx hy x y r → HopsNamed w h D hx hy x y r
  hops_named_same k = record { answer = k.answer; answers = answers_same w h a k.answers; is = k.is }

  assured_both : {hx hy x y : ℕ} → Assured w h C hx hy x y ↔ Assured w h D hx hy x y
  assured_both = (assured_same w h a, assured_same w h (alike_back a))

  -- The rows apply over the one exactly where they apply over the other.
  ends_both : {x y p q : ℕ} → AnEndClosed C x y p q ↔ AnEndClosed D x y p q
  ends_both {x} {y} {p} {q} = (there, back)
    where
      there : AnEndClosed C x y p q → AnEndClosed D x y p q
      there (inl c) = inl ((a x y).0 c)
      there (inr c) = inr ((a p q).0 c)

      back : AnEndClosed D x y p q → AnEndClosed C x y p q
      back (inl c) = inl ((a x y).1 c)
      back (inr c) = inr ((a p q).1 c)

  no_way_both : {sx sy dx dy : ℕ} → NoWay w h C sx sy dx dy ↔ NoWay w h D sx sy dx dy
  no_way_both = (
    λ k. record { from = open_same w h a k.from; to = open_same w h a k.to; none = λ v. k.none (has_drive_same w h (alike_back a) v) },
    λ k. record {
      from = open_same w h (alike_back a) k.from;
      to = open_same w h (alike_back a) k.to;
      none = λ v. k.none (has_drive_same w h a v);
    },
  )

  pub assured_rows_same : {hx hy x y : ℕ} → Reworded (assured_rows C hx hy x y) (assured_rows D hx hy x y)
  assured_rows_same = (refl, ends_both, λ _. tt)

  pub hop_rows_same : {hx hy x y : ℕ} → Reworded (hop_rows w h C hx hy x y) (hop_rows w h D hx hy x y)
  hop_rows_same = (refl, ends_both, λ _. (refl, (λ f k. f (assured_both.1 k), λ f k. f (assured_both.0 k)), λ _. tt))

  pub region_rows_same : {sx sy dx dy : ℕ} → Reworded (region_rows w h C sx sy dx dy) (region_rows w h D sx sy dx dy)
  region_rows_same = (refl, ends_both, λ _. (refl, no_way_both, λ _. tt))

  pub drive_rows_same : {sx sy dx dy : ℕ} (route : List ℕ) → Reworded (drive_rows w h C sx sy dx dy route) (drive_rows w h D sx sy dx dy route)
  drive_rows_same route = (refl, ends_both, λ _. (refl, no_way_both, λ _. (refl, same, λ _. tt)))

  pub lines_told_same : {sx sy dx dy : ℕ} {r : CrossingLines} → LinesTold w h C sx sy dx dy r → LinesTold w h D sx sy dx dy r
  lines_told_same k =
      record { lines = λ e. lines_same w h a (k.lines e); none = λ e t. k.none e (has_lines_same w h (alike_back a) t); zeros = k.zeros }

  pub lines_drive_rows_same : {sx sy dx dy : ℕ} (route : List ℕ) → Reworded (lines_drive_rows w h C sx sy dx dy route) (lines_drive_rows w h D sx sy dx dy route)
  lines_drive_rows_same route =
      (refl, ends_both, λ _. (refl, (λ f t. f (has_lines_same w h (alike_back a) t), λ f t. f (has_lines_same w h a t)), λ _. (refl, same, λ _. tt)))

  -- What is found of a drawn list.
  reasons_same : (sx sy dx dy : ℕ) (l : List ℕ) (p : ℕ) → Reworded (reasons w h C sx sy dx dy l p) (reasons w h D sx sy dx dy l p)
  reasons_same sx sy dx dy l p =
      (refl, same, λ _. (refl, same, λ _. (refl, same, λ _. (refl, closed_both, λ _. (refl, same, λ _. (refl, same, λ _. (refl, same, λ _. tt)))))))
    where
      closed_both : IsClosed w h C l p ↔ IsClosed w h D l p
      closed_both = (
        λ k. record { x = k.x; y = k.y; here = k.here; closed = (a k.x k.y).0 k.closed },
        λ k. record { x = k.x; y = k.y; here = k.here; closed = (a k.x k.y).1 k.closed },
      )

  pub finds_same : {sx sy dx dy : ℕ} {l : List ℕ} {f : Finding} → Finds w h C sx sy dx dy l f → Finds w h D sx sy dx dy l f
  finds_same {sx} {sy} {dx} {dy} {l} k = go k
    where
      moved : (p r : ℕ) → Gives (reasons w h C sx sy dx dy l p) r → Gives (reasons w h D sx sy dx dy l p) r
      moved p r = gives_reworded (reasons w h C sx sy dx dy l p) (reasons w h D sx sy dx dy l p) r (reasons_same sx sy dx dy l p)

      go : {f : Finding} → Finds w h C sx sy dx dy l f → Finds w h D sx sy dx dy l f
      go (accepted s e i) = accepted (λ p. moved p _ (s p)) e i
      go (at_fault f) = at_fault (record { before = λ q b. moved q _ (f.before q b); why = moved _ _ f.why; some = f.some })
