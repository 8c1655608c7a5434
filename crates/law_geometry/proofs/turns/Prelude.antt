-- The names that most proofs cite, passed on from one place. Declares nothing.
pub use Rattle.law_geometry.proofs.near.Prelude.{Closure, InHalf, Interior, IsEvenPath, IsPointBelow, Joined, NearNumber, Not, Ratio, SameSet, Within, frame, halves, side}
pub use Rattle.nef_case.proofs.Prelude.{IsComposition, Triple, Undoes, has_bit, negated_if, ordered, turned, ◌%◌, ◌/◌}
pub use Rattle.law_geometry.proofs.sphere.Prelude.{ArcBelow, HasArc, HasSide, InOneSface, InOrder, IsClear, IsFree, IsPrimitive, MapSloop, None, Option, Ordered, Reaches, Sees, Side, Some, VectorBelow, around_svertex, by_way_of, directly, here, is-at_first, is-at_none, items_then, lies-left, lies-right, link, neg_item, on_item, pos_item, seen, whole, ◌++◌}
pub use Rattle.law_geometry.proofs.sphere.cones.Prelude.{at-lies, lies-at}
pub use Rattle.law_geometry.proofs.sphere.building.Prelude.{ArcBetween, at-sloop, below-itself, ends-together, map, sloop-at}
pub use Rattle.law_geometry.proofs.complex.Prelude.{Arc, Bool, Complex, Cone, Ends, Flat, FlatDim, FlatDim-by_germs, Form, Germ, HasFlat, HasLabel, In, InFrame, IsAhead, IsAt, IsBetween, IsDirection, IsEven, IsNormal, IsOnCircle, IsOpposite, IsStrictlyOn, IsVertex, IsZero, Item, Label, Label-cells, Least, Lies, List, Map, MapLabel, MapVertex, NearGerm, NearLabel, NearPlain, NearStraight, OnItem, Out, SameDirection, SamePlane, SamePoint, Set, Shaped, Shows, SpacePoint, Valid, Vector, Vertex, [], ap, arc-at, arc_item, arith, at, at-arc, is-at_one, at_svertex, blend, by_order, by_side, carriers, cases_order, cond, cross, dir-at, dir-self, dir_of, dot, ends-of, false, form, form_at, germs-by_cell, half_side, inl, inr, ints, item_mark, item_neg, item_normal, item_pos, items, mul-pos, nat_abs, neg, neg_ℤ, negsuc, normal-is, normal_of, num, opposite, pos, refl, ring, same-point_sym, sign, signs-same, sloop_item, slope, step, subst, suc, sym, toward, triple, true, vector, zero, ℕ, ℤ, ⊎_elim, ◌*ℤ◌, ◌*◌, ◌+ℤ◌, ◌-ℤ◌, ◌<ℤ◌, ◌<◌, ◌↔◌, ◌∙◌, ◌∷◌, ◌≡◌, ◌≤ℤ◌, ◌≤◌, ◌⊎◌, ◌⊕◌, ◌⊖◌, ◌⊗◌}
pub use Rattle.nef_space.specs.Numbers.{IsBelow, IsLowest}
pub use Rattle.nef_space.specs.Points.{form_numbers}
pub use Rattle.nef_space.specs.Vectors.{IsAtMost}
pub use Rattle.law_geometry.proofs.sphere.cyclic.Directions.{way_back_passes_the_same}
pub use Rattle.law_geometry.proofs.sphere.Shot.{item-point}
pub use Rattle.law_geometry.proofs.sphere.cones.Listing.{Mapped, Sorted, chain-order, map-list, sort}
pub use Rattle.law_geometry.proofs.complex.Ways.{same-point_trans}
pub use Rattle.law_geometry.specs.complex.Shows.{Carriers}
pub use Rattle.law_geometry.specs.turns.Complexes.{AreTurnedPlanes, AreTurnedVertices, IsTurnedComplex, ShowsVertices, signed_form}
pub use Rattle.law_geometry.specs.turns.Maps.{HasTurnedLists, IsTurnedArc, IsTurnedItem, IsTurnedMap, IsTurnedOption, IsTurnedSloop, turned_svertex}
pub use Rattle.law_geometry.specs.turns.Turned.{differ, disordered, is_exchange, is_odd, point_numbers, signed, triple_of, turned_plane, turned_point, turned_set, turned_vector, unturned, unturned_point, unturned_vector, vector_of_triple}
pub use Rattle.nef_space.proofs.Lists.{is-at_map, map-is_at}
