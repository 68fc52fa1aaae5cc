-- The label call: on a map of document 01's size, with a fitting sheet and a well-formed list, it
-- is not refused. What its sheet shows closed is stable, so that the geometry holds of the sheet
-- itself.
use Rattle.std.specs.Prelude.{◌≡◌, refl, List, [], ℕ, ◌*◌, ◌≤◌, length}
use Rattle.std.proofs.Common.{arith}
use Rattle.field.specs.Map.{OnMap, dist}
use Rattle.field.specs.Labels.{between, Stable}
use Rattle.field.specs.Groups.{Linked, GroupsApart}
use Rattle.field.specs.Geometry.Shapes.{Rectangle}
use Rattle.field.proofs.Geometry.Rectangles
use Rattle.field.proofs.Geometry.Apart
use Rattle.field.specs.Workings.Sheet.{Marked, Draws}
use Rattle.field.proofs.Workings.Marks.{marked_dec}
use Rattle.field.proofs.Workings.Labelling.{label_sheet_draws}
use Rattle.calls.specs.Rules
use Rattle.calls.specs.Rules.{gives_one, LentMap, Sized, Formed, RocksOf, ClosedBy}
use Rattle.calls.specs.RuleLaws.{none_gives, sheets_fit}
use Rattle.calls.specs.Calls.{LabelCall}
use Rattle.calls.specs.declared.Labelling.{Labelling}

module _ {m : LentMap} {labels labels' : List ℕ} {r : Labelling} (c : LabelCall m labels labels' r) where
  pub label_not_refused : Sized m → length labels ≡ m.height * m.width → Formed m → r.refusal ≡ 0
  label_not_refused s e f =
      gives_one (Rules.label_table m labels) _ _ c.given
      (none_gives (Rules.label_table m labels) 0 refl (λ n. n s, (sheets_fit m.width m.height labels [] e (λ n. n), (λ n. n f, tt))))

  module _ (z : r.refusal ≡ 0) where
    -- The sheet's marks, the labels that are not 0, are the closed crossings.
    pub label_draws : Draws m.width m.height (ClosedBy m) labels'
    label_draws = label_sheet_draws (RocksOf m) m.width m.height labels' (c.labels_after.labelled (λ t. omega arith))

    marked_on : OnMap m.width m.height (Marked labels' m.width m.height)
    marked_on x y k = k.on

    marked_stable : Stable m.width m.height (Marked labels' m.width m.height)
    marked_stable x y a b c d o n k t p q =
        label_draws.complete x y (between o n k t (label_draws.sound a b p) (label_draws.sound c d q))

    pub label_rectangles : (x y : ℕ) → Marked labels' m.width m.height x y → Rectangle (Marked labels' m.width m.height) x y
    label_rectangles = Rectangles.group_rectangle m.width m.height (Marked labels' m.width m.height) marked_on marked_stable (marked_dec labels' m.width m.height)

    -- Two closed crossings of different groups are at least three hops apart, and so is the
    -- distance of the groups.
    pub label_closed_apart : (x y a b : ℕ) → Marked labels' m.width m.height x y → Marked labels' m.width m.height a b → ¬ Linked (Marked labels' m.width m.height) x y a b → 3 ≤ dist x y a b
    label_closed_apart = Apart.three_apart m.width m.height (Marked labels' m.width m.height) marked_on marked_stable

    pub label_three_apart : {x y a b n : ℕ} → GroupsApart (Marked labels' m.width m.height) x y a b n → ¬ Linked (Marked labels' m.width m.height) x y a b → 3 ≤ n
    label_three_apart = Apart.groups_three_apart m.width m.height (Marked labels' m.width m.height) marked_on marked_stable
