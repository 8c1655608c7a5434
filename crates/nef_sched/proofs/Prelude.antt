-- The names that most proofs cite, passed on from one place. Declares nothing.
pub use Rattle.nef_core.proofs.Prelude.{Bool, IfSome, List, None, Option, Some, [], ap, arith, false, false≢true, inl, inr, length, refl, set, slice_get, slice_get_within, slice_set, subst, suc, sym, true, vec_capacity, vec_len, zero, ℕ, ◌++◌, ◌+◌, ◌<◌, ◌∙◌, ◌∷◌, ◌≡◌, ◌≢◌, ◌≤◌, ◌⊎◌}
pub use Rattle.crossbeam_queue.specs.Passes.{IsPassOf, view}
pub use Rattle.std.proofs.Common.{All, Global, IsSomeAnd, Vec, append_assoc, cond, drop, eq-eqb, max, ne_eqb, rules, slice_index_or, take, ⊎_elim, ◌-◌, ◌^◌, ◌||◌}
pub use Rattle.std.proofs.lemmas.List.{get_or-set_same, get_or_append_left, get_or_at, length-append, length-set, length-take-le, take_more}
pub use Rattle.std.proofs.lemmas.List.Elements.{All-pop, All-push}
pub use Rattle.std.proofs.lemmas.Option.{get_or_from_slice_get, slice_get-get_or, slice_get_read}
pub use Rattle.std.proofs.lemmas.Result.{IfOk-weaker}
pub use Rattle.std.specs.Prelude.{Err, MatchOption, Ok, OnOk, Result, is_err, is_some, not, option_map, slice_index}
pub use Rattle.nef_sched.specs.Counts.{Differ, IsDealt, one, times, weigh}
pub use Rattle.nef_sched.specs.Line.{EndsLast, ends_in, numbers_in}
pub use Rattle.nef_sched.specs.Plans.{AreGroups, AreRounds, IsPlan, IsRoundList, round_after}
pub use Rattle.nef_sched.specs.Results.{AreFitting, AreReady, AreSound, HasNeeds, HasWorked, IsKept, IsReady, NeedsOf, flat, kept}
pub use Rattle.nef_sched.specs.Rounds.{IsFresh, IsPassInRound, any_ended, ended, known, numbers_of, parts, taken, times_taken, total_parts, total_worked}
pub use Rattle.nef_sched.specs.Rule.{FitsRound, Kept, SawItems, ShowsNumbers, Took, TookEach}
pub use Rattle.nef_sched.specs.Views.{at_end, cut, first_view, put, share, spent, taken_together, took, total, whole}
pub use Rattle.nef_sched.specs.declared.pass.RoundPass.{RoundPass}
pub use Rattle.nef_sched.specs.declared.pass.View.{View}
