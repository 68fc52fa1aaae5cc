-- A sheet on which all markers in use are stamped, low ones included, has as many marks as there
-- are of them exactly where no two share a crossing: it has the marks that stamping them one after
-- the other makes.
use Rattle.std.specs.Prelude.{◌≡◌, true, List, ℕ, ◌<◌, length, get_or}
use Rattle.std.proofs.Common.{sym, ◌∙◌, inl, inr, arith}
use Rattle.field.specs.Workings.MarkCount.{marks, Among, marks_mono}
use Rattle.field.specs.Workings.Sheet.{Crossing, crossing}
use Rattle.markers.specs.Laws.Stamping.{Stamping}
use Rattle.records.specs.Promise.{StampedWith}
use Rattle.calls.specs.Rules.{LentMap, Formed, Shared}
use Rattle.calls.specs.Sharing.{x_of, y_of, drawn, drawn_is, drawn_stands, stands_drawn, MarksTold, told, distinct}

module _ {m : LentMap} (sheet : List ℕ) (formed : Formed m) (stamped : StampedWith m.width m.height m.clearance true m.list m.count sheet) where
  -- The sheet on which the markers in use are stamped one after the other.
  abbrev one_by_one : List ℕ
  one_by_one = drawn m.width m.height m.list m.count

  -- The stamped sheet has the marks of the markers in use.
  sheet_marks : marks sheet ≡ marks one_by_one
  sheet_marks = omega (arith, marks_mono sheet one_by_one long there, marks_mono one_by_one sheet (sym long) back)
    where
      s : Stamping m.width m.height (x_of m.width m.height m.list) (y_of m.width m.height m.list) (λ j. Unit {0}) m.count one_by_one
      s = drawn_is m.width m.height m.list m.count formed.on

      long : length sheet ≡ length one_by_one
      long = stamped.size ∙ sym s.size

      there_at : (i : ℕ) → Crossing m.width m.height i → 0 < get_or sheet i 0 → 0 < get_or one_by_one i 0
      there_at i c k =
          let r = stamped.rocks.sound c.x c.y (record { on = c.on; mark = rw c.is k }) in
          rw c.is at (drawn_stands m.width m.height m.list m.count c.x c.y formed.on r.stone)

      there : Among sheet one_by_one
      there i l k = there_at i (crossing m.width m.height i (omega (arith, stamped.size))) k

      back_at : (i : ℕ) → Crossing m.width m.height i → 0 < get_or one_by_one i 0 → 0 < get_or sheet i 0
      back_at i c k =
          let r = stands_drawn m.width m.height m.list m.count c.x c.y formed.on c.on (rw c.is k) in
          rw c.is at (stamped.rocks.complete c.x c.y (record { on = c.on; stone = r })).mark

      back : Among one_by_one sheet
      back i l k = back_at i (crossing m.width m.height i (omega (arith, s.size))) k

  -- As many marks as markers: no two share a crossing. Another number: two do.
  pub marks_apart : marks sheet ≡ m.count → ¬ Shared m.list m.count
  marks_apart e = go (told m.width m.height m.list m.count formed.on)
    where
      go : MarksTold m.width m.height m.list m.count (marks one_by_one) → ¬ Shared m.list m.count
      go (inl t) = distinct m.width m.height m.list t.1
      go (inr t) = absurd (omega (arith, t.0, sheet_marks))

  pub marks_shared : ¬ (marks sheet ≡ m.count) → Shared m.list m.count
  marks_shared e = go (told m.width m.height m.list m.count formed.on)
    where
      go : MarksTold m.width m.height m.list m.count (marks one_by_one) → Shared m.list m.count
      go (inl t) = absurd (e (sheet_marks ∙ t.0))
      go (inr t) = t.1
