-- `lines` meets its promise: columns and rows are searched as lines of the rectangle.
use Rattle.meetings.proofs.LineLaws.{columns_laid, rows_laid, column_none, row_none, lines_met}
use Rattle.meetings.proofs.lines.Goals as goal

pub first_open-requires : goal.first_open-requires
first_open-requires c = columns_laid c.requires c.between-x.ensures c.between-y.ensures c.number_of-first.ensures.is _ c.args.s.fits

pub returns-in_default : goal.returns-in_default
returns-in_default c = column_none c.requires c.between-x.ensures c.between-y.ensures c.number_of-first.ensures.is _ c.args.s.fits c.in_default.ensures

pub first_open-requires-2 : goal.first_open-requires-2
first_open-requires-2 c = rows_laid c.requires c.between-x.ensures c.between-y.ensures c.number_of-first.ensures.is _ c.args.s.fits

pub returns-in_default-first_open : goal.returns-in_default-first_open
returns-in_default-first_open c = row_none c.requires c.between-x.ensures c.between-y.ensures c.number_of-first.ensures.is _ c.args.s.fits c.in_default-first_open.ensures

pub returns : goal.returns
returns c = lines_met c.requires c.between-x.ensures c.between-y.ensures c.number_of-first.ensures.is _ c.args.s.fits c.in-Some.ensures c.in-Some-first_open.ensures
