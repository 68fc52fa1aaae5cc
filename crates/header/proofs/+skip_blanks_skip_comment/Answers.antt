-- `skip_blanks` and `skip_comment` meet their contracts together. Each loop keeps what is left
-- leading to the same end; where a loop stops, or hands on to the other skipper, the end that comes
-- back is the end from where it began.
use Rattle.header.specs.HeaderParts.{gap_at}
use Rattle.std.proofs.lemmas.Bool.Decides.{not_from_Decides}
use Rattle.header.proofs.Skipping.{blanks_more, blanks_hash, blanks_stop, blanks_end, comment_more, comment_end, comment_open}
use Rattle.header.proofs.+skip_blanks_skip_comment.Goals as goal

pub skip_blanks-returns-then-bytes-i-eq35 : goal.skip_blanks-returns-then-bytes-i-eq35
skip_blanks-returns-then-bytes-i-eq35 t c =
    blanks_hash c.loop-i.invariant (gap_at c.skip_comment.result) c.loop-i-test.true c.if-bytes-i-eq35.true c.skip_comment.ensures

pub skip_blanks-returns-then-not-is_blank : goal.skip_blanks-returns-then-not-is_blank
skip_blanks-returns-then-not-is_blank t c =
    blanks_stop c.loop-i.invariant (gap_at c.gap_end.result) c.loop-i-test.true
    (not_from_Decides _ c.is_blank.ensures c.if-not-is_blank.true)
    c.if-bytes-i-eq35.false
    c.gap_end.ensures

pub skip_blanks-loop-i-preserved : goal.skip_blanks-loop-i-preserved
skip_blanks-loop-i-preserved t c =
    blanks_more c.loop-i.invariant c.loop-i-test.true (c.is_blank.ensures.0 c.if-not-is_blank.false)

pub skip_blanks-returns : goal.skip_blanks-returns
skip_blanks-returns t c =
    blanks_end c.loop-i.invariant (gap_at c.gap_end-2.result) c.loop-i-test.false c.gap_end-2.ensures

pub skip_comment-returns-then-is_line_end : goal.skip_comment-returns-then-is_line_end
skip_comment-returns-then-is_line_end t c =
    comment_end c.loop-i.invariant (gap_at c.skip_blanks.result) c.loop-i-test.true
    (c.is_line_end.ensures.0 c.if-is_line_end.true)
    c.skip_blanks.ensures

pub skip_comment-loop-i-preserved : goal.skip_comment-loop-i-preserved
skip_comment-loop-i-preserved t c =
    comment_more c.loop-i.invariant c.loop-i-test.true (not_from_Decides _ c.is_line_end.ensures c.if-is_line_end.false)

pub skip_comment-returns : goal.skip_comment-returns
skip_comment-returns t c = comment_open c.loop-i.invariant c.loop-i-test.false
