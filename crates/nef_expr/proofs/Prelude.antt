-- The names that most proofs cite, passed on from one place. Declares nothing.
pub use Rattle.nef_geo.proofs.Prelude.{Bool, Equal, Form, Greater, IsAtMost, IsDirection, IsInRange, IsLowest, IsPositiveMultiple, Less, List, MatchOrdering, Ordering, Some, SpacePoint, Vector, [], ap, arith, at, cases_lt, false, false≢true, form, form_at, form_numbers, form_of, given_form, inl, inr, ints, nat_abs, neg_ℤ, negsuc, normal_limit, normal_of, num, of_z, offset_limit, opposite_form, point_limit, point_of, pos, refl, ring, sign_of, subst, suc, sym, to_z, true, unsigned_abs-mul, vector, w64, zero, ℕ, ℤ, ◌*ℤ◌, ◌*◌, ◌+◌, ◌-ℤ◌, ◌-◌, ◌<ℤ◌, ◌<◌, ◌∙◌, ◌∣◌, ◌∷◌, ◌≡◌, ◌≤◌, ◌⊎◌, ◌⊗◌}
pub use Rattle.nef_case.proofs.Prelude.{common_steps, get_or, get_or_from_slice_get, length, slice_get, slice_get-get_or}
pub use Rattle.law_geometry.proofs.turns.Prelude.{InHalf, IsComposition, Set, Triple, cond, map, turned, turned_plane, turned_point, turned_set, turned_vector, ◌++◌}
pub use Rattle.std.proofs.Common.{Err, IfOk, Ok, Result, append-nil, append_assoc, drop, length-append, not, ◌&&◌, ◌||◌}
pub use Rattle.std.proofs.Math.ListN.{get_or-append}
pub use Rattle.std.proofs.Math.Seq.{get_or-append_seam, take-append_seam}
pub use Rattle.std.proofs.lemmas.Bool.{cases_eq, ne_eqb}
pub use Rattle.std.proofs.lemmas.List.{get_or-map, get_or_default, get_or_read, length-map}
pub use Rattle.std.proofs.lemmas.Option.{slice_get_read, slice_get_within}
pub use Rattle.std.specs.BTreeMap.{BTreeMap, Updates, get}
pub use Rattle.std.specs.Ordering.{is_eq, nat_cmp}
pub use Rattle.std.specs.Prelude.{IsTrue, nat_eq, slice_index, slice_index_or, ◌↔◌}
pub use Rattle.nef_space.specs.Sets.{Holds}
pub use Rattle.nef_geo.specs.declared.plane.Oriented.{Oriented}
pub use Rattle.law_geometry.proofs.turns.Carriers.{same-form}
pub use Rattle.nef_expr.specs.Copying.{AreClosedFrom, AreCopies, AreWithOperands, Extends, IsMarked, IsTurnedNode, MarksOperands, OperandsTurned, Stays, turned_shape}
pub use Rattle.nef_expr.specs.Nodes.{IsOperand, IsOrdered, NamesBelow, Shape, Uses, UsesBelow, made_of, node_set, operand, set_of, sets_after, shape_of}
pub use Rattle.nef_expr.specs.Plain.{IsPlainSet, TellsEach, TellsHolds, TellsNext}
pub use Rattle.nef_expr.specs.Table.{AreOrigins, AreOriginsNumbered, HasOrigin, IsCopyOf, IsOfOrigin, IsTable, NodeTable, key_of, most_bases, origin}
pub use Rattle.nef_expr.specs.Turns.{HasShape, IsNode, TurnOf, of_binary, of_leaf, of_unary}
pub use Rattle.nef_expr.specs.declared.nodes.Node.{Node}
pub use Rattle.nef_expr.specs.declared.table.Origin.{Origin}
