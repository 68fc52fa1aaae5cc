-- The drive by way of crossing lines over the label sheet's marks is that over the closed crossings.
use Rattle.askings.proofs.Bridge.{marked_stable, lines_drive_closed, joined_told}
use Rattle.askings.proofs.over.lines_drive.Goals as goal

pub returns-in_err-open_ends : goal.returns-in_err-open_ends
returns-in_err-open_ends c = lines_drive_closed c.label.ensures.sheet c.in_err-open_ends.ensures c.from_residual.ensures.1

pub join-requires : goal.join-requires
join-requires c =
    record {
      may = record { region = c.requires.size; from = c.requires.asked.from; to = c.requires.asked.to };
      stable = marked_stable c.label.ensures.sheet;
      ends = c.in_ok-open_ends.ensures;
    }

pub returns : goal.returns
returns c = joined_told c.label.ensures.sheet c.join.ensures
