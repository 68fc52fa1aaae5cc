-- The hops over the marks of a sheet taken are those over what it shows closed.
use Rattle.askings.proofs.Mornings.{steady_stable, by_shown}
use Rattle.askings.proofs.over.hop_by.Goals as goal

pub hops_over-requires : goal.hops_over-requires
hops_over-requires c = record { home = c.requires.home; on = c.requires.on; stable = steady_stable (c.steady.ensures.0 c.if-not-steady.false) }

pub returns : goal.returns
returns c = by_shown (c.steady.ensures.0 c.if-not-steady.false) c.hops_over.ensures
