-- The names that most proofs cite, passed on from one place. Declares nothing.
pub use Rattle.nef_space.proofs.Order.{cancel_le, lt_by, mul_nonneg}
pub use Rattle.nef_space.proofs.Lists.{is-at_get, is-at_is, is-at_last, is-at_left, is-at_one, is-at_some, is-at_within}
pub use Rattle.nef_space.proofs.Prelude.{cond, fits_signed_from_abs, ltb}
pub use Rattle.nef_space.specs.Lists.{IsAt}
pub use Rattle.law_geometry.proofs.near.Prelude.{Out, cases_order}
pub use Rattle.law_geometry.specs.complex.Spans.{Coordinate, IsWithin, coordinate_of, coordinate_x, coordinate_y, coordinate_z}
pub use Rattle.nef_geo.proofs.Prelude.{false≢true, Bool, Form, IfSome, IsBelow, None, SpacePoint, Vector, at, cases_lt, false, form_at, form_numbers, form_of, int_cmp, mul_pos, nat_abs, neg, neg_ℤ, negsuc, normal_of, num, of_z, point_of, point_limit, pos-abs, ring, sign_of, sub_pos, to_z, to_z-of_z, true, w64, weight_limit, ℤ, ◌*ℤ◌, ◌*◌, ◌+ℤ◌, ◌-ℤ◌, ◌/◌, ◌<ℤ◌, ◌≤ℤ◌, ◌⊕◌, ◌⊖◌, ◌⊗◌}
pub use Rattle.nef_geo.specs.Signs.{sign_number}
pub use Rattle.nef_geo.specs.declared.plane.Plane.{Plane}
pub use Rattle.nef_geo.specs.declared.point.Point.{Point}
pub use Rattle.nef_geo.specs.declared.sign.Sign.TheVariants.{Zero}
pub use Rattle.nef_classes.proofs.ClassLists.{Either, earlier, is-at_take, last, refilled, is-at_pushed}
pub use Rattle.nef_classes.proofs.Prelude.{Err, Global, List, Ok, Option, Result, Some, Vec, [], ap, append-nil, arith, drop, drop_of_length-le, get_or, get_or-take, inl, inr, ints, length, length-append, length-drop, length-set, length-take, pos, refl, rules, set, slice_get_read, subst, suc, sym, take, take-append-le, take_all, zero, ℕ, ⊎_elim, ◌++◌, ◌+◌, ◌-◌, ◌<◌, ◌^◌, ◌↔◌, ◌∙◌, ◌∷◌, ◌≡◌, ◌≢◌, ◌≤◌, ◌⊎◌}
pub use Rattle.std.proofs.Common.{IsTrue, append_assoc, eq-eqb, is_some, ne_eqb}
pub use Rattle.std.proofs.Math.Nat.{div-le_self, div-mul-le_self, lt-div-mul-add}
pub use Rattle.std.proofs.lemmas.Bool.{cases_eq, ltb-true}
pub use Rattle.std.proofs.lemmas.Bool.Decides.{nat_tests}
pub use Rattle.std.proofs.lemmas.Fn.{always_returns_same}
pub use Rattle.std.proofs.lemmas.List.{drop-append-le, drop_at, drop_more, get_or-drop, nil_from_length}
pub use Rattle.std.proofs.lemmas.List.Sorted.{Contains-permutation, IsPermutation-sym}
pub use Rattle.std.specs.Int.{int_div_euclid}
pub use Rattle.std.specs.List.Sorted.{IsBinarySearchResult, IsNonDecreasingBy, IsPermutation, IsSearchInRange}
pub use Rattle.std.specs.Ordering.{ordering_index}
pub use Rattle.std.specs.Slice.Iter.{chunks_rest}
pub use Rattle.std.specs.Vec.{vec_capacity, vec_len}
pub use Rattle.nef_index.specs.Carriers.{AreHolders, AreInOrder, IsHolder}
pub use Rattle.nef_index.specs.Common.{AreCommon, AreCommonAlong, AreCommonRows, DoAllRise, HasAdded, HaveRows}
pub use Rattle.nef_index.specs.Counting.{AreNumbersBelow, AreRanks, AreRowsByRank, HaveCounts, StandsFor, many_below, many_equal, rank_of}
pub use Rattle.nef_index.specs.Groups.{AreKeyed, IsInCluster, IsInGroup, IsWide, StandsIn}
pub use Rattle.nef_index.specs.Index.{AreCarrierEdges, AreCarrierPoints, AreCarrierSpans, AreClusters, AreEdgeHolders, AreInSpan, ArePointHolders, ArePointSpans, AreSpanned}
pub use Rattle.nef_index.specs.Numbers.{AreNumbersOf, AreNumbersWith, AreOnce, AreRowsOfOnce, DoRise, HasEntry, HasNumber}
pub use Rattle.nef_index.specs.Peaks.{ArePeaks, EndBelow, HavePeaks, block_start}
pub use Rattle.nef_index.specs.Runs.{AreRuns, AreRunsTo, ContinuesRun, IsHolderIn, IsOnlyHolder, IsRun}
pub use Rattle.nef_index.specs.Skeleton.{HaveEnds, HoldsBoth, IsEdgeIn, IsPointOn}
pub use Rattle.nef_index.specs.Spans.{AreNarrower, AreNarrowerListed, IsInSpan, IsNarrower}
pub use Rattle.nef_index.specs.Tables.{AreRead, AreRowEnds, rows_of}
pub use Rattle.nef_index.specs.declared.groups.Cluster.{Cluster}
pub use Rattle.nef_index.specs.declared.groups.Group.{Group}
pub use Rattle.nef_index.specs.declared.skeleton.Edge.{Edge}
pub use Rattle.nef_index.specs.declared.spans.Bounds.{Bounds}
pub use Rattle.nef_index.specs.declared.spans.Span.{Span}
pub use Rattle.nef_space.proofs.Elementary.{less-or-last}
