-- The names that most proofs cite, passed on from one place. Declares nothing.
pub use Rattle.nef_core.proofs.Prelude.{Bool, IsLegal, List, None, Option, Some, [], after, ap, arith, false, if◌then◌else◌, inl, inr, length, nat_lt, refl, replay, replicate, set, slice_get, slice_get_within, slice_set, start, subst, suc, sym, true, vec_capacity, vec_len, zero, ℕ, ◌&&◌, ◌++◌, ◌+◌, ◌<◌, ◌==◌, ◌∙◌, ◌∷◌, ◌≡◌, ◌≢◌, ◌≤◌, ◌⊎◌}
pub use Rattle.atomic_table.proofs.Lists.{at_longer, at_set, set_else, set_here}
pub use Rattle.atomic_table.specs.Table.{Act, Allows, Final, Joins, Seen, Splits, State, Valid, carried_after, gives, keeps, opening, rest, step, stepped, takes}
pub use Rattle.std.proofs.Common.{MatchBool, cond, length-append, map, not, slice_index, slice_index_or, ◌%◌, ◌-◌, ◌^◌}
pub use Rattle.std.proofs.lemmas.List.{get_or-replicate, get_or-set_other, get_or-set_same, length-replicate}
pub use Rattle.nef_core.proofs.Deposits.{among, held_by, held_not_done, not_among, open_not_done, open_not_held}
pub use Rattle.std.proofs.lemmas.Option.{same_Some}
pub use Rattle.nef_core.proofs.Passes.{fits_at_end, fits_beside, fits_cut, fits_deposited, fits_first, fits_gave_back, fits_holding, fits_moved, fits_new, fits_taken_in, held_in}
pub use Rattle.nef_core.proofs.Places.{at_length, below_last, get_replicate, get_set_here, get_set_other, only_one, same_or_not, within}
pub use Rattle.nef_core.proofs.Schedules.{claim_answers, claimed, legal_more, past_answers, past_is_same, replay_append}
pub use Rattle.nef_core.specs.Passes.{Fits, at_end, cut, deposited, first_view, gave_back, holding, new_view, spent, taken_in}
pub use Rattle.nef_core.specs.Views.{has_job}
pub use Rattle.nef_core.specs.declared.board.View.{View}
pub use Rattle.nef_core.specs.declared.machine.Slot.{Slot}
pub use Rattle.nef_core.specs.declared.machine.Slot.TheVariants.{Done, InHand, Open}
pub use Rattle.nef_free.specs.Rule.{Claimed, Deposited, GaveBack, Kept, ShowsMachine, SlotIs, carried, drew_past, is_below, overs}
