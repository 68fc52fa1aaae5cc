-- `rock_bit` meets its contract: each case of the test is a case of the bit.
use Rattle.std.proofs.Common.{arith}
use Rattle.std.proofs.lemmas.Grind.{common_steps}
use Rattle.packing.specs.PackingLaws.{rock_bit_marked, rock_bit_bare, rock_bit_past}
use Rattle.packing.proofs.rock_bit.Goals as goal

pub returns : goal.returns
returns c = grind (arith, common_steps, rock_bit_marked, rock_bit_bare, rock_bit_past)
