-- `permitted` meets its contract: it makes the axis's test.
use mathlib.Core.Path.{◌∙◌, sym}
use borrow.Author.Tests.{eq-eqb, ne_eqb}
use Rattle.hops.proofs.Testing.{end_on, passes_level, passes_off, moved_end}
use Rattle.hops.proofs.permitted.Goals as goal

pub returns-then-from-to : goal.returns-then-from-to
returns-then-from-to c = passes_level c.requires c.args.axis c.args.s.cells.now (sym c.of-from.ensures ∙ c.if-from-to.true ∙ c.of-to.ensures)

pub at-requires : goal.at-requires
at-requires c =
    end_on c.requires c.args.axis _
    (moved_end c.requires c.args.axis c.moved-end.result c.of-from.ensures c.of-to.ensures c.hop.ensures c.moved-end.ensures)

pub returns-then-at-ne0 : goal.returns-then-at-ne0
returns-then-at-ne0 c =
    passes_off c.requires c.args.axis c.args.s.cells.now _
    (λ e. c.if-from-to.false (c.of-from.ensures ∙ e ∙ sym c.of-to.ensures))
    (moved_end c.requires c.args.axis c.moved-end.result c.of-from.ensures c.of-to.ensures c.hop.ensures c.moved-end.ensures) c.at.ensures
    ∙ ne_eqb c.at.result 0 c.if-at-ne0.true

pub returns : goal.returns
returns c =
    let there = moved_end c.requires c.args.axis c.moved-end.result c.of-from.ensures c.of-to.ensures c.hop.ensures c.moved-end.ensures in
    record {
      passed = passes_off c.requires c.args.axis c.args.s.cells.now _
          (λ e. c.if-from-to.false (c.of-from.ensures ∙ e ∙ sym c.of-to.ensures)) there c.at.ensures ∙ eq-eqb c.at.result 0 c.if-at-ne0.false;
      there = there;
    }
