-- What the walks share, passed on: what they cite of the logic, and the laws of walking. A walk
-- takes its names from here. (`drop` of the logic is not among them: lists have a `drop` too.)
pub use Rattle.std.specs.Prelude.{◌*◌, ◌+◌, ◌-◌, ◌/◌, ◌<◌, ◌^◌, ◌≤◌, ℕ, zero, suc, T, eqb, drop, length, set, take, Bool, false, not, true, List, [], ◌++◌, ◌∷◌, ◌↔◌, ◌≡◌, refl}
pub use Rattle.std.proofs.Common.{zero-le, T_not, eqb→eq, leb→le, lit<, ltb→lt, nltb→le, length-append, length-drop, length-set, ◌∙◌, ap, subst, sym, arith}
pub use Rattle.walks.specs.Calls.{called, pays, pays_lent}
pub use Rattle.walks.specs.Frames.{Blocks, enters, env_of, leaves, locals, Known, Passed, these, rest}
pub use Rattle.walks.specs.Handing.{ends_owning, ends_with, hands, hears, takes}
pub use Rattle.walks.specs.Lending.{SliceIs, copies_show, doubles, has_shown, lastly, lends, lends_row, mut_own, opened, opens, row_back, row_shown, says_last, shows_on, shows_row, shr_own, shr_slice_of, shuts, slice_at, takes_back, lent}
pub use Rattle.walks.specs.Meeting.{Promised, asked_nothing, ends, meets}
pub use Rattle.walks.specs.Slots.{marker_size, IsMarker, blank_fits, id_fits, lent_list, looks_into, mach, markers_double, markers_show, marker_typed, puts_slot, reads_lent, reads_slot}
pub use Rattle.walks.specs.Steps.{field_of_lem, relends, resets, sets, var}
pub use Rattle.walks.specs.Turns.{Rest, Round, Turn, breaks, gives, gives_up, looped, tested, turns, unless}
pub use base.Fml.{Fml, GName, Lft, Share, flft, ftrue}
pub use base.Logic.{SProp, emp, ent, id⊢}
pub use contract.Monad.{Fun, fact, fact_i}
unfoldable pub use contract.Running.{tables, tables_of}
pub use contract.Running.{Running}
pub use types.Logic.{Logic, sem}
pub use Rattle.std.specs.Borrow.{bool, u16, u32, u8, usize}
pub use denote.Index.{row}
pub use denote.Laws.{Is, Ises, Are, Typed, valss}
pub use denote.Plain.{Nothing, bool_Makes, bool_Tells, bool_vals, Nothing-Makes, Nothing-Tells, uint_Makes, uint_Tells, uint_vals}
pub use denote.RattleType.{owns, Denots, Valss, flat, mirs}
pub use denote.Ref.{MutRef, Bor, MutBor, mut_Tells, shr_vals, mut_vals}
pub use denote.Slice.{MutSlice, Room, ShrSlice, mut_slice_Lawful, mut_slice_Tells, shr_slice_Tells, shr_slice_vals, mut_slice_vals, slice_val}
pub use denote.Steps.{nothing, owned}
pub use denote.Triple.Clauses.{Clauses, lasts, Lasts, at_exit, closing}
pub use denote.Triple.Entry.{Vals, on_entry}
pub use denote.Triple.Spec.{Meets, triple_of}
pub use denote.Triple.Statement.{Triple}
pub use denote.Triple.Table.{cited, entered}
pub use denote.Triple.Walked.{needs}
pub use ghost.Atoms.{Atoms}
pub use base.Fraction.{full_share}
pub use seplogic.Ra.Ura.{Ura}
pub use Rattle.std.proofs.Math.Dec.{eqb_refl, nleb→lt}
pub use Rattle.std.proofs.Math.Option.{none, some, Option}
pub use mir.Syntax.{named, w16, w64, w8, Callee, Fn, place, copy, opd_true, Body, seq, call, return, Width, Place}
pub use mir.Val.{Val, vbool, vint, vptr, vunit, has_ty, WT}
pub use prog.Memory.{Memory}
pub use prog.Routine.{Routine}
pub use prog.Wp.{Env, Heap, Tables, WpFn, ty_of, spot_of, Calls, Loops}
pub use sound.WpLaws.{fm_of, FmC}
pub use types.Kit.{ !, Item, Sq, ◌$◌, ◌∵◌, ◌⊛◌, at_ret, by, done, fjoin, frame, fsplit, join, keep, move, qed, raw, rewrite, runs, split, suffices, use0, use1, use2, ‵, ⋆, Go, Post, Seq, Goal, Step, step, lands, feq_l, feq_i}
pub use types.Part.{agg, look_in, sub, whole}
pub use types.Run.{addr, and_then, assigns, assigns_last, bin, branches, false_lit, fld, forget, from, hop, init, land, lit, load, look, look_raw, no_more, of_opd, returns, stop, store, store_raw, true_lit, un, unit_lit, Opds}
pub use prog.Model.{Model}
pub use contract.Lifetimes.{Lfts, Shares}
pub use denote.Signature.{types_at}
pub use Rattle.walks.specs.Places.{true_T, keeps, known_at, has, readable, values, operands, lands_in}
pub use Rattle.walks.specs.Straight.{TwoCalls, OneCall, Stmt, coded, after, Sound, straight}
pub use Rattle.walks.specs.Forms.{Form, lents, asked_nums, count, num_spells, asking, asking_params, answering, answering_params, sheet, cell, shown, spent, value, part}
pub use Rattle.walks.specs.Passing.{Answer, answer_val, IsAnswer, Returned, returned, labels_of_lem, labels_room, others_of_lem, others_vals, others_are, answer_args, answer_vals, call_lasts}
pub use Rattle.walks.specs.Coding.{head, tail, trimmed, labels_local, labels_on, all_on, handed_on, to_first, answer_local, judging_params, judging, num_makes, sized, from_on, past_on, Number, at, wide, all_wide, first_wide, small_of, number_of, number_named, beside, nought}
pub use Rattle.walks.specs.Asks.{vals, passed, labels_at, labels_token, list_token, list_at, other_tokens, others_at, ending, begins, answered}
