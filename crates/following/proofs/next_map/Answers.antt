-- `next_map` meets its contract: what the bytes tell, or the first so many of more, stands whatever
-- follows.
use mathlib.Core.Path.{sym}
use native.Mathlib.Omega.{arith}
use lib.Seq.{length-take-le}
use Rattle.std.proofs.lemmas.Result.{err_from_is_err_and}
use Rattle.mapfile.specs.Following.{most_bytes}
use Rattle.following.proofs.Telling.{piece_stands, fault_stays, past_map, past_fault, past_long}
use Rattle.following.proofs.next_map.Goals as goal

pub slice_bounds-read_piece-end : goal.slice_bounds-read_piece-end
slice_bounds-read_piece-end c = sym (length-take-le _ c.args.src.now (omega arith))

pub read_piece-requires : goal.read_piece-requires
unfolding most_bytes
read_piece-requires c =
    record { short = omega (arith, length-take-le most_bytes c.args.src.now (omega arith)); room = c.requires }

pub returns-in_err-piece : goal.returns-in_err-piece
unfolding most_bytes
returns-in_err-piece c =
    let p = err_from_is_err_and c.from_residual.result c.from_residual.ensures.1 in
    rw (p.1, p.2) (past_fault c.args.src.now (omega arith) c.in_err-piece.ensures)

pub returns-in-Some : goal.returns-in-Some
unfolding most_bytes
returns-in-Some c =
    past_map c.args.src.now (omega arith) (rw c.in-Some.is at c.in_ok-piece.ensures)

pub returns-in-None : goal.returns-in-None
unfolding most_bytes
returns-in-None c =
    past_long c.args.src.now (omega arith) (rw c.in-None.is at c.in_ok-piece.ensures)

pub read_piece-requires-2 : goal.read_piece-requires-2
unfolding most_bytes
read_piece-requires-2 c = record { short = omega arith; room = c.requires }

pub returns-in_err-read_piece : goal.returns-in_err-read_piece
unfolding most_bytes
returns-in_err-read_piece c =
    let p = err_from_is_err_and c.from_residual-in_err-read_piece.result c.from_residual-in_err-read_piece.ensures.1 in
    rw (p.1, p.2) (fault_stays c.args.src.now (omega arith) c.args.ended c.in_err-read_piece.ensures)

pub returns : goal.returns
unfolding most_bytes
returns c =
    piece_stands c.args.src.now (omega arith) c.args.ended _ c.in_ok-read_piece.field-0 c.in_ok-read_piece.ensures
