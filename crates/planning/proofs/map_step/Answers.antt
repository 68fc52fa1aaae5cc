-- `map_step` meets its contract: what the bytes at hand begin with is told as a step of the run.
use Rattle.std.proofs.Common.{◌∙◌, arith}
use Rattle.field.specs.Limits.{most_crossings_is}
use Rattle.planning.specs.Promise.{most_maps}
use Rattle.planning.specs.TallyLaws.{tally_addable}
use Rattle.planning.proofs.Stepping.{map_tells, map_steps, refusal_ends}
use Rattle.planning.proofs.map_step.Goals as goal

pub next_map-requires : goal.next_map-requires
next_map-requires c = omega (arith, most_crossings_is)

pub put_map-told-requires : goal.put_map-told-requires
put_map-told-requires c =
    let p = c.requires.step in
    map_tells (rw c.in-Ok-Some.field-0-is at c.in-Ok-Some.ensures) (tally_addable p.tally) p.room

pub overflow_add-run : goal.overflow_add-run
unfolding most_maps
overflow_add-run c = omega (arith, c.requires.before)

pub returns-in-Ok-Some : goal.returns-in-Ok-Some
returns-in-Ok-Some c = map_steps (rw c.in-Ok-Some.field-0-is at c.in-Ok-Some.ensures) c.requires.before c.put_map-told.ensures

pub returns-in-Err-Refused : goal.returns-in-Err-Refused
returns-in-Err-Refused c =
    let a = c.args in
    let p = c.requires in
    refusal_ends a.run a.src.now a.ended p.before p.some (rw c.in-Err-Refused.field-0-is at c.in-Err-Refused.ensures)
    (rw (c.from.ensures ∙ c.number.ensures, c.in-Err-Refused.refusal-is) at c.put_refusal.ensures)
