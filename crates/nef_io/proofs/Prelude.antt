-- The names that most proofs cite, passed on from one place. Declares nothing.
pub use Rattle.std.proofs.Common.{Bool, List, MutBor, None, Option, Some, [], ap, append_assoc, arith, drop, false, inl, inr, length, length-append, refl, take, true, vec_len, ℕ, ◌++◌, ◌-◌, ◌<◌, ◌^◌, ◌∙◌, ◌∷◌, ◌≡◌, ◌≤◌}
pub use Rattle.std.proofs.Math.Seq.{take-add, take-length}
pub use Rattle.nef_io.specs.Bytes.{Grows}
