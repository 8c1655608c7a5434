-- The names that most proofs cite, passed on from one place. Declares nothing.
pub use Rattle.nef_space.proofs.Prelude.{length, ◌++◌}
pub use Rattle.nef_geo.proofs.Prelude.{List, Option, Some, [], ap, arith, inl, inr, ints, pos, refl, rules, subst, suc, sym, zero, ℕ, ⊎_elim, ◌+◌, ◌-◌, ◌<◌, ◌^◌, ◌↔◌, ◌∙◌, ◌∷◌, ◌≡◌, ◌≢◌, ◌≤◌, ◌⊎◌}
pub use Rattle.std.proofs.Common.{Err, Global, Ok, Result, Vec, drop, get_or, get_or-set_other, get_or-set_same, length-append, length-drop, map, set, take, zero-add}
pub use Rattle.std.proofs.Math.ListN.{drop_of_length-le, length-set}
pub use Rattle.std.proofs.lemmas.List.{append-nil, get_or-take, length-take, take-append-le, take_all, take_at}
pub use Rattle.std.proofs.lemmas.Option.{get_or_from_slice_get, slice_get-get_or, slice_get-map, slice_get_read, slice_get_within}
pub use Rattle.std.specs.Prelude.{IfOk, option_map}
pub use Rattle.nef_space.specs.Lists.{Chained, IsAt, IsChain, NumbersClasses}
pub use Rattle.nef_classes.specs.Classes.{AreClasses, AreLinked, AreNumbered}
pub use Rattle.nef_classes.specs.Flat.{AreCut, AreStarts, flat_tie}
pub use Rattle.nef_classes.specs.Forest.{AreOrdered, AreRoots, AreTogether, HasSameTrees, IsLifted, IsParentOrLink}
pub use Rattle.nef_classes.specs.Tables.{AreNumbers, AreTied, AreTiedWithin, HasCounts, IsCellBelow, IsCellIn, IsCellNumber, cell_number, cell_total}
pub use Rattle.nef_classes.specs.declared.forest.Link.{Link}
pub use Rattle.nef_classes.specs.declared.table.Cell.{Cell}
pub use Rattle.nef_classes.specs.declared.table.Tie.{Tie}
