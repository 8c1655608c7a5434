-- The names that most proofs cite, passed on from one place. Declares nothing.
pub use Rattle.std.proofs.Common.{Bool, IfSome, List, None, Option, Some, [], ap, arith, false, if◌then◌else◌, inl, inr, length, nat_lt, refl, replicate, set, slice_get, slice_set, subst, suc, sym, true, vec_capacity, vec_len, zero, ℕ, ◌&&◌, ◌++◌, ◌+◌, ◌<◌, ◌==◌, ◌∙◌, ◌∷◌, ◌≡◌, ◌≢◌, ◌≤◌, ◌⊎◌}
pub use Rattle.std.proofs.lemmas.Bool.{eq-eqb, false≢true, lt-ltb, ne_eqb}
pub use Rattle.std.proofs.lemmas.Option.{slice_get_within}
pub use Rattle.nef_core.specs.Machine.{IsLegal, IsLegalStep, State, after, replay, reply, start}
pub use Rattle.nef_core.specs.Results.{AllDone}
pub use Rattle.nef_core.specs.declared.machine.Event.{Event}
pub use Rattle.nef_core.specs.declared.machine.Event.TheVariants.{Claim, Deposit, GiveBack}
pub use Rattle.nef_core.specs.declared.machine.Slot.{Slot}
pub use Rattle.nef_core.specs.declared.machine.Slot.TheVariants.{Done, InHand, Open}
