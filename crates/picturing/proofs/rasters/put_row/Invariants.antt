-- The pieces of a row are its numbers, in two bytes each.
use Rattle.std.proofs.Common.{◌/◌, ◌%◌, [], ◌∷◌, get_or}
use Rattle.picturing.proofs.rasters.put_row.Given as goal

abbrev pub ghost-each_row : goal.ghost-each_row
ghost-each_row a = λ x. get_or a.put.0.now x 0 / 256 ∷ get_or a.put.0.now x 0 % 256 ∷ []
