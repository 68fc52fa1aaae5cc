-- `put_refusal` meets its contract: the word stands at the front, and the number behind it.
use Rattle.printing.proofs.Lines.{refusal_put}
use Rattle.printing.proofs.put_refusal.Goals as goal

pub returns : goal.returns
returns c = refusal_put c.put_bytes-number.ensures c.put_number.ensures
