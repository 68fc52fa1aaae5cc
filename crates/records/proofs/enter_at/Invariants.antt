-- The loop of `enter_at` keeps Opening: all markers below the free slot k stand where they stood,
-- all from k on stand one higher. The free slot comes down with each turn.
use Rattle.std.proofs.Common.{◌≤◌}
use Rattle.records.proofs.Opening.{Opening}
use Rattle.records.proofs.enter_at.Given as goal

abbrev pub invariant-loop-k : goal.invariant-loop-k
invariant-loop-k l = Opening l.fn.list l.count l.k l.list × (l.place ≤ l.k)
