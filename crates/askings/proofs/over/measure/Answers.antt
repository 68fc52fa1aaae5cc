-- The four sheets over the label sheet's marks are those over the closed crossings.
use Rattle.field.proofs.Workings.SameLaws.{distance_sheet_same}
use Rattle.askings.proofs.Bridge.{marked_alike}
use Rattle.askings.proofs.over.measure.Goals as goal

pub returns : goal.returns
returns c =
    let sheet = c.label.ensures.sheet in
    let alike = marked_alike sheet in
    let told = c.measure.ensures in
    record {
      sheet = sheet;
      east = distance_sheet_same _ _ alike told.east;
      south = distance_sheet_same _ _ alike told.south;
      west = distance_sheet_same _ _ alike told.west;
      north = distance_sheet_same _ _ alike told.north;
    }
