-- The names that most proofs cite, passed on from one place. Declares nothing.
pub use Rattle.law_geometry.proofs.near.Prelude.{HasFlat, HasLabel, In, InFrame, InHalf, IsVertex, Label, Not, Ratio, Within, abs_plus, by_lt_z, combination, mul_le_right, sign-scaled, sign_at, square_pos, step}
pub use Rattle.nef_geo.proofs.Prelude.{IsNone, IsOnlyCommon, lit≤, ◌&&◌}
pub use Rattle.law_geometry.proofs.complex.Prelude.{HasFlat-fewer, IsNearCut, IsVertexOfBoth, flat_dim-of, is-at_none}
pub use Rattle.nef_smap.proofs.Prelude.{eq_by_cmp, fraction-le-trans}
pub use Rattle.nef_complex.proofs.Prelude.{AreInOrder, Contains, Contains-permutation, Equal, FlatDim, IfSome, IsBelow, IsEdgeBelow, IsPermutation, IsPermutation-sym, IsSamePlane, IsSkeletonIn, IsSorted, IsTotalOrder, IsWithin, Less, Ordering, Out, ShowsSet, append_assoc, coordinate_x, dedup, drop, form_numbers, length-drop, map, on_total, point_below-apart, point_below-same, point_below-trans, same-point_below, same_planes_equal, same_points_equal, take, take_all, ◌++◌}
pub use Rattle.nef_plane.proofs.Prelude.{AreAlone, AreHolders, Bool, Complex, Decides-int_eq, Edge, EdgeSupport, Flat, Form, HasEnds, HasOppositeSigns, HoldsBoth, InClosedFrame, IsAt, IsBetween, IsDirection, IsEdgePoint, IsInSpan, IsNarrower, IsPointBelow, IsVertexPoint, IsZero, Lies, List, MatchOption, None, Option, Plane, Point, Poly, SamePlane, SamePoint, Set, Shows, Some, SpacePoint, Span, Vector, Vertex, [], abs_times, ap, apart, arith, at, is-at_map, between-ends, between-same, by_order, carriers, cases_lt, complex_of, cross, crossed-parted, edge-points, edge-support, edge_of, ends, eq-or-lt_of_le, false, follows, form_at, form_of, get_or, given, half_side, held-between, high-within, hit_point, holders-within, inl, inr, int_eq, ints, is-at_get, is-at_is, is-at_one, is-at_some, is-at_within, length, listed_edge, low-within, ltb-true, map-is_at, minus-is, mul-le-mul_right, mul_nonneg, nat_abs, neg, neg_ℤ, none, normal_of, nought-is, nought-or, num, parallel-both, parted-cut, plane-point, plane-slope, plane-turned, plane-way, plus-is, point_limit, point_of, pos, refl, ring, rules, same-point_sym, same-point_trans, sign, sign-minus, sign-plus, slope, span-between, span-wider, start, start-between, subst, suc, sym, through-both, positive-factor, toward, true, unsigned_abs-mul, vertex-same, vertex_of, zero, ℕ, ℤ, ⊎_elim, ◌*ℤ◌, ◌*◌, ◌+ℤ◌, ◌+◌, ◌-ℤ◌, ◌-◌, ◌<ℤ◌, ◌<◌, ◌^◌, ◌↔◌, ◌∙◌, ◌∷◌, ◌≡◌, ◌≤ℤ◌, ◌≤◌, ◌⊎◌, ◌⊕◌, ◌⊖◌, ◌⊗◌}
pub use Rattle.nef_locate.proofs.Prelude.{IfOk-weaker, InOrder, IsSkeletonAt, is_lt, level-same_point, no_span, normal-direction, search_list, spanned}
pub use Rattle.std.proofs.lemmas.Bool.{le-leb, leb-true}
pub use Rattle.std.proofs.lemmas.List.{map_more, take-append-drop}
pub use Rattle.std.proofs.lemmas.List.Elements.{Contains-append_cases, Contains-append_left, Contains-append_right, Contains-push, Contains-push_cases}
pub use Rattle.std.proofs.lemmas.List.Sorted.{answers_always, ranks_by}
pub use Rattle.std.proofs.lemmas.Result.{on_ok_weaker}
pub use Rattle.std.specs.Bool.{IsTrue}
pub use Rattle.law_geometry.proofs.near.Mixed.{point-decided}
pub use Rattle.nef_geo.specs.Meet.{HasDependentNormals}
pub use Rattle.law_geometry.proofs.sphere.Lists.{Found}
pub use Rattle.law_geometry.proofs.complex.Candidates.{candidates-suffice, never-flat}
pub use Rattle.law_geometry.proofs.complex.Edges.{edge-way}
pub use Rattle.law_geometry.specs.complex.Laws.{HoldsEdge, IsCut}
pub use Rattle.nef_classes.proofs.ClassLists.{take-more}
pub use Rattle.nef_smap.proofs.Lists.{at-contains, contains-at}
pub use Rattle.nef_smap.proofs.SideLists.{is-at_left, at-right, is-at_either}
pub use Rattle.nef_complex.proofs.Framed.{dim-framed, edge-framed, vertex-framed}
pub use Rattle.nef_complex.proofs.Order.{IsOrder, as-ordered, one-order, point-ordered, point_order, point_total}
pub use Rattle.nef_complex.proofs.Parted.{independent, parted-apart, parted-slope}
pub use Rattle.nef_complex.proofs.Reading.{all-more}
pub use Rattle.nef_index.proofs.Spanning.{within-both}
pub use Rattle.nef_index.proofs.Spanning.{narrower-still}
pub use Rattle.nef_index.specs.declared.spans.Bounds.{Bounds}
pub use Rattle.nef_locate.proofs.Located.{held-same, skeleton-same, vertices-sorted}
pub use Rattle.nef_cand.specs.Candidates.{AreCandidates, AreCutCandidates, AreExactly, AreFramed, IsCutBy, IsListed, IsVertexOf}
pub use Rattle.nef_cand.specs.Names.{AreNamed, AreNamedBelow, AreNamedInOrder, IsAmong, IsNamed, IsNamedBetween, IsNamedIn, IsOnceEach, named_point}
pub use Rattle.nef_cand.specs.Near.{AreMergedFirst, AreMergedTo, ArePassed, AreSpannedCarriers, AreSpannedIn, AreThoseNear, AreWithinSpan, CutsBy, CutsEdgeBy, CutsEdgeByOne, CutsEdgeHeld, CutsEdgeHeldOne, CutsHeld, HasBothVertices, HasTogether, HasVertices, IsApart, IsCandidate, IsCarrierCut, IsHeldCut, IsHeldCutOf, IsHeldIn, IsSpanned, IsSpannedIn, ListsCuts, ListsNear}
pub use Rattle.nef_cand.specs.Points.{AddsAll, AddsPoints, CutsEdge, CutsOne, HasBoth, IsCutBetween, ListsCandidates, MissesFrame, vertex_point}
pub use Rattle.nef_cand.specs.declared.listing.Spanned.{Spanned}
pub use Rattle.nef_cand.specs.declared.named.Named.{Named}
pub use Rattle.nef_cand.specs.declared.named.Operand.{Operand}
pub use Rattle.nef_cand.specs.declared.named.Operand.TheVariants.{First, Second}
pub use Rattle.nef_space.proofs.Lists.{is-at_more, is-at_read}
pub use Rattle.nef_space.proofs.Elementary.{weight-positive}
