-- `gather` meets its contract: crossing after crossing.
use Rattle.sweeping.proofs.Laws.Gathering.{gathering_start}
use Rattle.sweeping.proofs.gather.Goals as goal

pub loop-i-init : goal.loop-i-init
loop-i-init c = gathering_start _ _
