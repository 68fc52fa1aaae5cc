-- `region` meets its promise. What stands at an end tells whether it is open; the two passes make
-- the region sheet; and what stands there at s tells whether there is a shortest drive.
use mathlib.Core.Path.{sym, ◌∙◌}
use Rattle.sheets.proofs.Wiping.{wiped_filled}
use Rattle.regions.proofs.Finding.{finds_none, finds_some}
use Rattle.regions.proofs.RegionMade.{region_made, end_open, no_way, some_way}
use Rattle.regions.proofs.region.Goals as goal

pub returns-then-g-number_of-eq0 : goal.returns-then-g-number_of-eq0
returns-then-g-number_of-eq0 c =
    let k = c.requires in
    let r = region_made _ _ _ _ _ _ _ (wiped_filled (c.fill.ensures.after (λ y e. e))) c.spread.ensures c.sift.ensures k.region in
    finds_none _ (end_open _ k.from (sym c.at.ensures ∙ c.if-at-ne0.false)) (end_open _ k.to (sym c.at-else-at-ne0.ensures ∙ c.if-at-ne0-2.false))
    (no_way _ r k.from c.number_of.ensures.is c.if-g-number_of-eq0.true) r

pub returns : goal.returns
returns c =
    let k = c.requires in
    let r = region_made _ _ _ _ _ _ _ (wiped_filled (c.fill.ensures.after (λ y e. e))) c.spread.ensures c.sift.ensures k.region in
    finds_some _ (some_way _ r k.from c.number_of.ensures.is c.if-g-number_of-eq0.false) r
