-- `place_of` meets its contract: the ids rise, so those below the one looked for come first.
use Rattle.std.proofs.Common.{rules}
use Rattle.std.proofs.Math.Dec.{ltb}
use Rattle.field.specs.declared.Marker.{Marker}
use Rattle.std.proofs.lemmas.List.Sorted.{IsPartitionPoint-from_clause}
use Rattle.records.proofs.Seeking.{by_id, belongs}
use Rattle.records.proofs.place_of.Goals as goal

pub returns : goal.returns
returns c =
    belongs _ c.requires
    (IsPartitionPoint-from_clause (λ (m : Marker). ltb m.id c.args.id) _ _ c.partition_point.ensures.partitioned (by_id _ c.requires) (λ a r q k. search rules))
    c.partition_point.ensures.bound
