-- The names that most proofs cite, passed on from one place. Declares nothing.
pub use Rattle.nef_core.proofs.Prelude.{AllDone, Bool, IfSome, IsLegal, List, None, Option, Some, State, [], after, ap, arith, false, inl, inr, length, refl, replay, replicate, set, slice_get, slice_get_within, slice_set, start, subst, suc, sym, true, zero, ℕ, ◌++◌, ◌+◌, ◌<◌, ◌==◌, ◌∙◌, ◌∷◌, ◌≡◌, ◌≢◌, ◌≤◌, ◌⊎◌}
pub use Rattle.atomic_table.proofs.Lists.{at_longer, at_set, set_again, set_else, set_here}
pub use Rattle.atomic_table.specs.Table.{Act, Allows, Final, Joins, Me, Seen, Splits, Valid, carried_after, gives, keeps, opening, rest, step, stepped, takes}
pub use Rattle.std.proofs.Common.{MatchBool, add-one, length-append, lt_of_not-le, slice_index, ◌*◌}
pub use Rattle.std.proofs.Math.ListN.{length-set}
pub use Rattle.std.proofs.lemmas.List.{get_or-set_same, length-replicate, set-get_or}
pub use Rattle.nef_core.proofs.Deposits.{among, done_not_held, held_by, held_not_done, not_among, open_not_done, open_not_held}
pub use Rattle.std.proofs.lemmas.Option.{same_Some}
pub use Rattle.nef_core.proofs.Passes.{fits_at_end, fits_beside, fits_cut, fits_deposited, fits_first, fits_gave_back, fits_holding, fits_moved, fits_new, fits_taken_in, held_in}
pub use Rattle.nef_core.proofs.Places.{at_length, below_last, get_replicate, get_set_here, get_set_other, only_one, same_or_not, within}
pub use Rattle.nef_core.proofs.Schedules.{RestIsOpen, claim_answers, claimed, fresh, fresh_start, got_free, got_next, got_none, legal_more, past_answers, past_is_same, replay_append}
pub use Rattle.nef_core.specs.Passes.{Fits, deposited}
pub use Rattle.nef_core.specs.Results.{HasResult, IsClosedWith, ResultsFit}
pub use Rattle.nef_core.specs.declared.machine.Event.{Event}
pub use Rattle.nef_core.specs.declared.machine.Event.TheVariants.{Claim, Deposit, GiveBack}
pub use Rattle.nef_core.specs.declared.machine.Slot.{Slot}
pub use Rattle.nef_core.specs.declared.machine.Slot.TheVariants.{Done, InHand, Open}
pub use Rattle.nef_board.specs.Rule.{Claimed, Deposited, FoundState, GaveBack, HasTurn, IsStateAt, IsTurnHeld, Kept, SawEnd, SawIs, ShowsMachine, TookTurn}
pub use Rattle.nef_board.specs.Sound.{IsSound, Sound, events_left, owed}
pub use Rattle.nef_board.specs.Views.{back_view, claimed_view, cut, deposited_view, ended_view, first_view, job_in, new_view, seeing, seen_next, spent, taken_in}
pub use Rattle.nef_board.specs.declared.board.LockView.{LockView}
pub use Rattle.nef_board.specs.declared.state.BoardState.{BoardState}
