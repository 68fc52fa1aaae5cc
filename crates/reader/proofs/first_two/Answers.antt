-- `first_two` meets its contract: each test compares with one format's letters, and a file with
-- neither's begins with none.
use Rattle.std.proofs.lemmas.Bool.Decides.{not_from_Decides}
use Rattle.mapfile.specs.File.{plain, raw}
use Rattle.reader.proofs.FirstTwo.{same_letters, letters_neither}
use Rattle.reader.proofs.first_two.Goals as goal

pub returns-then-begins : goal.returns-then-begins
returns-then-begins c = same_letters plain _ (c.begins.ensures.0 c.if-begins.true)

pub returns-then-begins-2 : goal.returns-then-begins-2
returns-then-begins-2 c = same_letters raw _ (c.begins-2.ensures.0 c.if-begins-2.true)

pub returns : goal.returns
returns c =
    letters_neither _ (not_from_Decides _ c.begins.ensures c.if-begins.false) (not_from_Decides _ c.begins-2.ensures c.if-begins-2.false)
