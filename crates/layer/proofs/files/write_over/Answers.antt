-- `write_over` meets its contract: what is given by the marks of all markers, and then by those of the
-- cart's rocks, are the rows of the call in their order.
use Rattle.layer.proofs.Writing.{write_refused, write_shared, may_stamp_over, write_call}
use Rattle.layer.proofs.files.write_over.Goals as goal

pub returns-in_err-map : goal.returns-in_err-map
returns-in_err-map c = write_refused c.requires c.from_residual.result c.in_err-map.ensures c.from_residual.ensures

pub returns-in_err-shared : goal.returns-in_err-shared
returns-in_err-shared c =
    write_shared c.requires c.in_ok-map.ensures c.from_residual-in_err-shared.result c.in_err-shared.ensures c.from_residual-in_err-shared.ensures

pub stamp-requires : goal.stamp-requires
stamp-requires c = may_stamp_over c.requires c.in_ok-map.ensures

pub invariant_of-write_stamped : goal.invariant_of-write_stamped
invariant_of-write_stamped c = record { fits = c.stamp.ensures.size }

pub returns : goal.returns
returns c = write_call c.requires c.in_ok-map.ensures c.stamp.ensures c.write_stamped.result c.in_ok-shared.ensures c.write_stamped.ensures
