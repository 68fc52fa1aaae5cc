-- The bridge from a label sheet's marks to the closed crossings. The marks of the sheet are the
-- crossings that the rocks stamped before close, no more and no fewer; so each answer over the
-- marks is that answer over the closed crossings.
use Rattle.std.proofs.Common.{◌≡◌, refl, sym, true≢false, List, ◌∷◌, inl, inr, ℕ, arith}
use Rattle.std.specs.Prelude.{Result, Ok, Err, IfOk, Option, None, Some}
use Rattle.std.specs.Result.{IsErrAnd}
use Rattle.std.proofs.lemmas.Result.{err_from_is_err_and}
use Rattle.field.specs.declared.Hops.{Hops}
use Rattle.field.specs.declared.Hops.TheVariants.{There, One, Two}
use Rattle.field.specs.declared.Place.{Place}
use Rattle.field.specs.declared.reasons.Fault.{Fault}
use Rattle.field.specs.declared.refusals.Refusal.{Refusal}
use Rattle.field.specs.declared.refusals.Refusal.TheVariants.{EndClosed}
use Rattle.field.specs.Refusals.{told}
use Rattle.field.specs.Labels.{Stable, closed_stable, LabelSheet}
use Rattle.field.specs.Hops.{Answers}
use Rattle.field.specs.Checks.{Finds}
use Rattle.field.specs.Workings.Sheet.{Marked}
use Rattle.field.proofs.Workings.Labelling.{label_sheet_draws}
use Rattle.field.proofs.Workings.SameLaws.{Alike}
use Rattle.labels.specs.Promise.{Stones}
use Rattle.hops.specs.Promise.{answered}
use Rattle.regions.specs.Promise.{Regioned}
use Rattle.drives.specs.Promise.{Makes}
use Rattle.meetings.specs.Promise.{Says, Joins}
use Rattle.checks.specs.Told.{finding_told}
use Rattle.calls.specs.Rules.{Rule, Gives, AnEndClosed, ends_rule, region_rows, drive_rows}
use Rattle.calls.specs.RuleLaws.{Reworded, gives_reworded}
use Rattle.calls.specs.AfterLaws.{lines_region_kept, joined_kept}
use Rattle.calls.specs.SameLaws.{region_rows_same, drive_rows_same, region_after_same, route_after_same, lines_drive_rows_same, lines_region_after_same, joined_after_same}
use Rattle.calls.specs.CheckCall.{finding}
use Rattle.calls.specs.LinesCall.{LinesTold, lines_drive_rows}
use Rattle.calls.specs.Told.{hops_named, checked, crossing_lines}
use Rattle.askings.specs.Promise.{ClosedOn, Asked, Rest, RegionRest, DriveRest, LinesDriveRest}

-- A question whose rows are told in other words, and whose answer says the same in others.
pub asked_same : {A : Type 0} {rows rows' : List Rule} {Answer Answer' : A → Type 0} (r : Result A Refusal)
    → Reworded rows rows' → ((a : A) → Answer a → Answer' a) → Asked rows Answer r → Asked rows' Answer' r
asked_same {rows = rows} {rows' = rows'} (Ok a) e f k = record { given = gives_reworded rows rows' _ e k.given; answer = f a k.answer }
asked_same {rows = rows} {rows' = rows'} (Err r) e f k = record { given = gives_reworded rows rows' _ e k.given; answer = tt }

-- What the crates below tell of a hop and of a drawn list, in the words of the calls.
pub hops_told : {w h hx hy x y : ℕ} {C : ℕ → ℕ → Type 0} (a : Hops) → Answers w h C hx hy x y (answered a) → Answers w h C hx hy x y (hops_named a)
hops_told There k = k
hops_told (One p) k = k
hops_told (Two p q) k = k

pub check_found : {w h sx sy dx dy : ℕ} {C : ℕ → ℕ → Type 0} {drawn : List ℕ} (f : Result Unit Fault) → Finds w h C sx sy dx dy drawn (finding_told f)
    → Finds w h C sx sy dx dy drawn (finding (checked (Ok f)))
check_found (Ok _) k = k
check_found (Err f) k = k

pub lines_said : {w h sx sy dx dy : ℕ} {C : ℕ → ℕ → Type 0} (met : Option Place) → Says w h C sx sy dx dy met → LinesTold w h C sx sy dx dy (crossing_lines (Ok met))
lines_said None k = record { lines = λ e. absurd (true≢false (sym e)); none = λ _. k; zeros = λ _. refl }
lines_said (Some p) k = record { lines = λ _. k; none = λ e. absurd (true≢false e); zeros = λ e. absurd (true≢false e) }

-- s is the sheet stamped, t the label sheet that came of it.
module _ {w h : ℕ} {s t : List ℕ} (sheet : LabelSheet (Stones w h s) w h t) where
  pub marked_alike : Alike (Marked t w h) (ClosedOn w h s)
  marked_alike x y = let d = label_sheet_draws (Stones w h s) w h t sheet in (d.sound x y, d.complete x y)

  -- No open crossing of the sheet has two or more marked neighbours.
  pub marked_stable : Stable w h (Marked t w h)
  marked_stable x y a b c d o n m k p q =
      (marked_alike x y).1 (closed_stable (Stones w h s) w h x y a b c d o n m k ((marked_alike a b).0 p) ((marked_alike c d).0 q))

  -- An end closed, told of the marks, is told of the closed crossings.
  pub ends_carried : {x y a b : ℕ} → AnEndClosed (Marked t w h) x y a b → AnEndClosed (ClosedOn w h s) x y a b
  ends_carried {x} {y} (inl c) = inl ((marked_alike x y).0 c)
  ends_carried {a = a} {b = b} (inr c) = inr ((marked_alike a b).0 c)

  ends_back : {x y a b : ℕ} → AnEndClosed (ClosedOn w h s) x y a b → AnEndClosed (Marked t w h) x y a b
  ends_back {x} {y} (inl c) = inl ((marked_alike x y).1 c)
  ends_back {a = a} {b = b} (inr c) = inr ((marked_alike a b).1 c)

  module _ {A : Type 0} {later : List Rule} {Answer : A → Type 0} {x y a b : ℕ} where
    -- An end closed, by the sheet's marks: what `?` hands on is refusal 8.
    pub rest_closed : {e : Refusal} {r : Result A Refusal} → AnEndClosed (Marked t w h) x y a b × (e ≡ EndClosed) → IsErrAnd r (λ d. d ≡ e)
        → Rest w h s t (ends_rule (ClosedOn w h s) x y a b ∷ later) Answer r
    rest_closed {r = r} k f =
        let p = err_from_is_err_and r f in
        rw (p.1, p.2, k.1) (record { sheet = sheet; asked = record { given = inl (ends_carried k.0, refl); answer = tt } })

    -- Both ends open: the rows after 8.
    pub rest_open : (r : Result A Refusal) → ¬ AnEndClosed (Marked t w h) x y a b → Gives later (told r) → IfOk r Answer
        → Rest w h s t (ends_rule (ClosedOn w h s) x y a b ∷ later) Answer r
    rest_open r o g k = record { sheet = sheet; asked = record { given = inr (λ c. o (ends_back c), g); answer = k } }

  module _ {sx sy dx dy : ℕ} {g : List ℕ} where
    pub region_told : {g' : List ℕ} {r : Result Unit Refusal} → Regioned w h t sx sy dx dy g g' r → RegionRest w h sx sy dx dy s g t g' r
    region_told p =
        record {
          sheet = sheet;
          given = gives_reworded (region_rows w h (Marked t w h) sx sy dx dy) (region_rows w h (ClosedOn w h s) sx sy dx dy) _ (region_rows_same w h marked_alike) p.given;
          region_after = region_after_same w h (λ _. marked_alike) p.region_after;
        }

    pub drive_told : {g' route route' : List ℕ} {y y' : ℕ} {r : Result ℕ Refusal} → Makes w h t sx sy dx dy y g g' route route' y' r
        → DriveRest w h sx sy dx dy s g route y t g' route' y' r
    drive_told {route = route} p =
        record {
          sheet = sheet;
          given = gives_reworded (drive_rows w h (Marked t w h) sx sy dx dy route) (drive_rows w h (ClosedOn w h s) sx sy dx dy route) _ (drive_rows_same w h marked_alike route) p.given;
          region_after = region_after_same w h (λ _. marked_alike) p.region_after;
          route_after = route_after_same w h (λ _. marked_alike) p.route_after;
        }

    pub lines_drive_closed : {route : List ℕ} {y : ℕ} {e : Refusal} {r : Result ℕ Refusal} → AnEndClosed (Marked t w h) sx sy dx dy × (e ≡ EndClosed)
        → IsErrAnd r (λ d. d ≡ e) → LinesDriveRest w h sx sy dx dy s g route y t g route y r
    lines_drive_closed {r = r} k f =
        let p = err_from_is_err_and r f in
        rw (p.1, p.2, k.1)
        (record {
          sheet = sheet;
          given = inl (ends_carried k.0, refl);
          region_after = lines_region_kept (inl (omega arith, omega arith));
          route_after = joined_kept (λ k. omega arith);
        })

    pub joined_told : {g' route route' : List ℕ} {y y' : ℕ} {r : Result ℕ Refusal} → Joins w h t sx sy dx dy y g g' route route' y' r
        → LinesDriveRest w h sx sy dx dy s g route y t g' route' y' r
    joined_told {route = route} p =
        record {
          sheet = sheet;
          given = gives_reworded (lines_drive_rows w h (Marked t w h) sx sy dx dy route) (lines_drive_rows w h (ClosedOn w h s) sx sy dx dy route) _ (lines_drive_rows_same w h marked_alike route) p.given;
          region_after = lines_region_after_same w h (λ _. marked_alike) p.region_after;
          route_after = joined_after_same w h (λ _. marked_alike) p.route_after;
        }
