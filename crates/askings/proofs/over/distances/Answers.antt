-- The four distances over the label sheet's marks are those over the closed crossings.
use Rattle.field.proofs.Workings.SameLaws.{distances_same}
use Rattle.askings.proofs.Bridge.{marked_alike}
use Rattle.askings.proofs.over.distances.Goals as goal

pub returns : goal.returns
returns c =
    let sheet = c.label.ensures.sheet in
    record { sheet = sheet; distances = distances_same c.args.map.w c.args.map.h (marked_alike sheet) c.distances.ensures }
