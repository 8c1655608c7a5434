-- The names that most proofs cite, passed on from one place. Declares nothing.
pub use Rattle.nef_geo.proofs.Prelude.{Code, IsAhead, Limited, const, int_cmp_total, size_of, then_total, ◌⊞◌}
pub use Rattle.law_geometry.proofs.sphere.cones.Prelude.{Found, IsOpposite-decided, at-lies, each, is-at_first, is-at_none, lies-at, lies-each, normal-direction, normals-not_opposite, search_list}
pub use Rattle.law_geometry.proofs.complex.Prelude.{Complex, IsEdge, mul_le_right}
pub use Rattle.nef_smap.proofs.Prelude.{Decided, Dir, Equal, FitsSigned, Greater, IfOk, InOrder, IsOpposite, Label, Less, Lies, MapVertex, Ordering, SameDirection-decided, Shaped, cancel_eq, cancel_lt, dir-self, direction_limit, direction_numbers, exact_of, fits_of, is-at_get, is-at_is, is-at_last, is-at_left, is-at_within, is_lt, lies-left, lies-right, load, map-is_at, minus-is, opposite, plus-is, same_directions_equal, sign-minus, sign-plus, svertex_of, wrap, ◌⊟◌, ◌⊠◌}
pub use Rattle.nef_complex.proofs.Prelude.{AreInOrder, AreVertexHolders, Bool, Contains-permutation, Err, Global, HaveEnds, IsAt, IsBelow, IsBetween, IsEdgeBelow, IsNormal, IsPartitionPoint, IsPermutation, IsPermutation-sym, IsPointBelow, IsTotalOrder, IsZero, ItemsAreHeld, List, MatchOrdering, None, Ok, Out, Plane, Point, Result, SameDirection, SameDirection-trans, SameDirection-turned, Set, Shows, ShowsSet, Some, SpacePoint, Vec, Vector, [], ap, arith, at, is-at_one, by_order, cases_lt, cases_order, cross, dot, edge_of, false, false≢true, follows, form_of, get_or, given, inl, inr, int_cmp, int_div_euclid, int_ranks, ints, is-at_read, length, ltb-true, map, mul_neg, mul_nonneg, mul_pos, nat_abs, nat_cmp, neg, neg_ℤ, none, nought-is, num, of_z, on_total, ordering_reverse, ordering_then, point_limit, point_of, pos, pos-abs, refl, ring, rules, set, sign, slice_get, subst, suc, sym, to_z, toward, true, vector_of, vertex_of, w64, weight_limit, zero, ℕ, ℤ, ⊎_elim, ◌*ℤ◌, ◌++◌, ◌+ℤ◌, ◌+◌, ◌-ℤ◌, ◌-◌, ◌<ℤ◌, ◌<◌, ◌∙◌, ◌∷◌, ◌≡◌, ◌≤ℤ◌, ◌≤◌, ◌⊎◌, ◌⊕◌, ◌⊖◌, ◌⊗◌}
pub use Rattle.std.proofs.lemmas.Cmp.{nat_cmp_total, ranked, tied_itself}
pub use Rattle.std.proofs.lemmas.List.Sorted.{IsPartitionPoint-from_clause, answers_always, ranks_by, sorted_far}
pub use Rattle.std.specs.Bool.{IsTrue}
pub use Rattle.std.specs.Cmp.{IsStrictWeakOrder, tied_back, upto}
pub use Rattle.std.specs.Ordering.{is_gt, is_le}
pub use Rattle.nef_space.proofs.Machine.{run}
pub use Rattle.nef_space.proofs.Order.{mul_lt_right}
pub use Rattle.nef_geo.proofs.Orders.{dir-ordered, dir_total, then-both, then-is}
pub use Rattle.law_geometry.specs.complex.Complexes.{Edges}
pub use Rattle.nef_smap.specs.declared.map.SVertex.{SVertex}
pub use Rattle.nef_complex.proofs.Lines.{on_line}
pub use Rattle.nef_complex.specs.Complexes.{AreVerticesOf, IsIndexed}
pub use Rattle.nef_complex.specs.Index.{AreFlagged}
pub use Rattle.nef_index.specs.declared.skeleton.Edge.{Edge}
pub use Rattle.nef_complex.specs.declared.complex.Vertex.{Vertex}
pub use Rattle.nef_edges.specs.EdgeEnds.{AreArriving, IsAfter, IsArriving, IsEarlierSvertex, IsNextEnd, NoneAfter}
pub use Rattle.nef_edges.specs.Laid.{AreLaid, IsJoinedAt, IsPart, edge_between}
pub use Rattle.nef_edges.specs.Matched.{AreMarkedArrivals, AreMatched, AreMatchedEnds, ArriveApart, IsMatched, slot_of}
pub use Rattle.nef_edges.specs.Moments.{clamped, product_of, sum_of}
pub use Rattle.nef_edges.specs.Order.{dir_order, end_lt, end_order, line_order, moment_of, moment_order, ratio_order}
pub use Rattle.nef_edges.specs.Pairs.{AreEdges, AreJoined, IsFrom, IsTo}
pub use Rattle.nef_edges.specs.Widths.{moment_limit}
pub use Rattle.nef_edges.specs.declared.edge_end.EdgeEnd.{EdgeEnd}
pub use Rattle.nef_space.proofs.Lists.{is-at_map, is-at_more}
