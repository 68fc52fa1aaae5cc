-- `label_bits` meets its contract: the bits turned onto the sheet stamp it with the map's rocks,
-- and the labels mark the closed crossings.
use Rattle.field.proofs.Workings.Labelling.{label_sheet_draws}
use Rattle.field.proofs.Workings.SameLaws.{label_sheet_same}
use Rattle.turning.specs.Stamping.{turned_stamped, turned_draws, stones_alike}
use Rattle.planning.proofs.lines.label_bits.Goals as goal

pub label-requires : goal.label-requires
label-requires c = turned_stamped c.args.bits.now c.args.map.within c.requires.ones c.turn.ensures

pub returns : goal.returns
returns c =
    let map = c.args.map in
    label_sheet_draws _ map.w map.h c.label.new.s
    (label_sheet_same map.w map.h (stones_alike (turned_draws c.args.bits.now map.within c.requires.ones c.turn.ensures)) c.label.ensures.sheet)
