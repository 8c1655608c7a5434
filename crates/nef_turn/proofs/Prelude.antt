-- The names that most proofs cite, passed on from one place. Declares nothing.
pub use Rattle.nef_geo.proofs.Prelude.{IfSome, IsInRange, IsPositiveMultiple, given_form, opposite_form, point_at}
pub use Rattle.law_geometry.proofs.turns.Prelude.{Arc, ArcBelow, AreTurnedPlanes, AreTurnedVertices, Bool, Form, HasTurnedLists, InOrder, IsAt, IsAtMost, IsBelow, IsDirection, IsNormal, IsPointBelow, IsPrimitive, IsTurnedArc, IsTurnedMap, IsTurnedOption, Item, List, Map, MapSloop, MapVertex, None, Option, Ordered, SameDirection, SamePoint, Set, Shaped, Some, SpacePoint, Triple, Vector, VectorBelow, [], ap, arc-at, arc_item, arith, at, is-at_map, is-at_one, cond, differ, false, form, form_numbers, ints, is-at_none, is_exchange, item_normal, items, map, map-is_at, nat_abs, neg, neg_ℤ, negated_if, normal_of, num, pos, refl, ring, same-point_sym, same-point_trans, signed, signed_form, sloop-at, sloop_item, subst, sym, true, turned, turned_plane, turned_point, turned_set, turned_svertex, turned_vector, vector, ℕ, ℤ, ⊎_elim, ◌%◌, ◌*ℤ◌, ◌++◌, ◌-ℤ◌, ◌/◌, ◌<ℤ◌, ◌<◌, ◌∙◌, ◌∷◌, ◌≡◌, ◌≤◌, ◌⊖◌, ◌⊗◌}
pub use Rattle.nef_smap.proofs.Prelude.{IsAtMost-weaken, not}
pub use Rattle.nef_spair.proofs.Prelude.{IsArcBelow, IsLeastMap, IsSmall, IsSorted, SArc, SLoop, SphereMap, arc_of, is-at_is, is-at_within, same-dirs, eq-or-lt_of_le, length-map, map_of, normal_limit, option_map, sloop_of, svertex_limit}
pub use Rattle.nef_complex.proofs.Prelude.{AreSorted, IsPlaneBelow, IsSamePlane, always_returns_same, complex_of, length-set, plane-ordered, plane_order, plane_total, point_below-apart, same_planes_equal}
pub use Rattle.nef_edges.proofs.Prelude.{AreInOrder, AreVerticesOf, Dir, Equal, Greater, IsPermutation, IsTotalOrder, Less, MatchOrdering, Ordering, Plane, Point, SVertex, ShowsSet, Vertex, answers_always, dir-ordered, dir_total, direction_limit, direction_numbers, false≢true, form_of, get_or, is_lt, length, normal-direction, of_z, on_total, point_limit, point_of, ranks_by, rules, same_directions_equal, set, svertex_of, tied_itself, to_z, vector_of, vertex_of, w64, ◌+◌}
pub use Rattle.nef_cand.proofs.Prelude.{Complex, IsOrder, one-order, point-ordered, point_order, point_total}
pub use Rattle.std.proofs.lemmas.List.{get_or-set_other, get_or-set_same}
pub use Rattle.std.proofs.lemmas.List.Sorted.{length_permutation}
pub use Rattle.nef_geo.proofs.Orders.{dir_order, never-below}
pub use Rattle.law_geometry.proofs.sphere.building.BuiltAxes.{number-order}
pub use Rattle.law_geometry.proofs.turns.Exists.{image-number, one-arc, one-plane}
pub use Rattle.law_geometry.proofs.turns.Numbers.{at_most-turned, lowest_form-turned, lowest_vector-turned, normal-choice}
pub use Rattle.law_geometry.specs.turns.Turned.{negates_odd}
pub use Rattle.nef_smap.proofs.Primitive.{dir-primitive}
pub use Rattle.nef_smap.proofs.WellFormed.{below-vectors}
pub use Rattle.nef_spair.proofs.Apart.{sorted-in_order, still-apart, still-listed, was-listed}
pub use Rattle.nef_turn.specs.Images.{AreApart, AreImages}
pub use Rattle.nef_turn.specs.Turning.{AllEndBelow, AreAtOnePoint, AreMoved, AreNewNumbers, AreOldNumbers, AreTurnedArcs, HaveLeastMaps, HaveSameNumber, HaveSameWay, IsMoved, IsMovedBelow, IsOfMoved, IsSArcImage, IsTurnedCarrier, IsVertexBelow, IsVertexImage, Renumbers, number_in, svertex_in}
pub use Rattle.nef_turn.specs.declared.maps.Moved.{Moved}
pub use Rattle.nef_space.proofs.Lists.{is-at_more, is-at_read}
