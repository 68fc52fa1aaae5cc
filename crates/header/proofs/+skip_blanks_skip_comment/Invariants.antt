-- `skip_blanks` and `skip_comment` meet their contracts together. Each loop keeps what is left
-- leading to the same end; each call is made further on than the bytes that the caller began with,
-- so the bytes left fall.
use Rattle.std.proofs.Common.{length, ◌-◌}
use Rattle.header.proofs.Skipping.{SkippingBlanks, SkippingComment}
use Rattle.header.proofs.+skip_blanks_skip_comment.Given as goal

abbrev pub decreases-skip_blanks : goal.decreases-skip_blanks
decreases-skip_blanks l = length l.src.now.now - l.at

abbrev pub decreases-skip_comment : goal.decreases-skip_comment
decreases-skip_comment l = length l.src.now.now - l.at

abbrev pub invariant-skip_blanks-loop-i : goal.invariant-skip_blanks-loop-i
invariant-skip_blanks-loop-i l = SkippingBlanks l.bytes l.at l.seen l.i l.any

abbrev pub invariant-skip_comment-loop-i : goal.invariant-skip_comment-loop-i
invariant-skip_comment-loop-i l = SkippingComment l.bytes l.at l.seen l.i
