-- `renewed` meets its contract: the old mark is the new one, and every other byte itself.
use Rattle.std.proofs.Common.{◌∙◌, sym, arith}
use Rattle.std.proofs.Math.Decide.{ℕ_discrete}
use Rattle.field.specs.Map.{old_mark}
use Rattle.field.specs.Limits.{old_mark_is, no_distance_is}
use Rattle.mapfile.specs.HeaderWorking.{pick_yes, pick_no}
use Rattle.picturefile.specs.Working.{renewed_of}
use Rattle.picturing.proofs.rasters.renewed.Goals as goal

pub returns-then-byte-eq-OLD_MARK : goal.returns-then-byte-eq-OLD_MARK
unfolding renewed_of
returns-then-byte-eq-OLD_MARK c = sym (pick_yes (ℕ_discrete _ old_mark) _ _ (omega (arith, old_mark_is)) ∙ no_distance_is)

pub returns : goal.returns
unfolding renewed_of
returns c = c.from.ensures ∙ sym (pick_no (ℕ_discrete _ old_mark) _ _ (λ e. c.if-byte-eq-OLD_MARK.false (omega (arith, old_mark_is))))
