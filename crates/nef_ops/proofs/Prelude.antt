-- The names that most proofs cite, passed on from one place. Declares nothing.
pub use Rattle.law_geometry.proofs.sphere.border.Prelude.{boundary, closure, interior, is-at_first, is-at_none, whole}
pub use Rattle.law_geometry.proofs.complex.Prelude.{Germ-zero, IsMixed, SameGerms, germ_of, label-one, labels-by_germs, mixed-of, of_point}
pub use Rattle.nef_stopo.proofs.Prelude.{Err, IfOk, Ok, Result, Topology, complement, exchanged_map, topology-cone, zero_vector}
pub use Rattle.nef_complex.proofs.Prelude.{IsSpanOn}
pub use Rattle.nef_cand.proofs.Prelude.{AreFramed, AreNamed, HasEnds, IsListed, IsNamed, IsNone, IsVertexOfBoth, ListsNear, is-at_is, named_point, span-wider}
pub use Rattle.nef_result.proofs.Prelude.{And, AreOutcomesOf, Carriers, Contains, Diff, Edge, First, FlatDim-by_germs, In, IsOutcomeAt, IsVertex, Not, Op, Or, Ratio, Second, Sign, StandsAt, Vertex, Xor, at-contains, given_form, of_operand, op_label, opposite_form}
pub use Rattle.nef_locate.proofs.Prelude.{Bool, Complex, Cone, Corner, FitsSigned, Flat, FlatDim, Form, Germ, Germ-unique, HasCorner, HasLabel, HasSide, IfOk-weaker, IfSome, InClosedFrame, InFrame, InOrder, IsAt, IsBetween, IsCorner, IsDirection, IsInSpan, IsLeastMap, IsNarrower, IsPlaceAt, IsPlaceIn, IsPointBelow, IsSkeletonPoint, IsVertexPoint, Item, Label, List, Map, MapLabel, MapVertex, Option, Out, Plane, Point, SVertex, SamePlane, SamePoint, Set, Shows, ShowsSet, Some, SpacePoint, Span, SphereMap, Vector, [], ap, arith, around_svertex, at, is-at_map, at_svertex, at_vertex, blend, by_order, by_side, cancel_lt, complex_of, cond, coordinate_of, corner_of, dir_of, dot, edge-points, edge_of, even-by, even-germs, false, flat-germ, follows, form_of, germ-label, get_or, given, half_side, inl, inr, ints, is-at_get, is-at_one, is-at_within, item_mark, item_neg, item_normal, item_of, item_pos, items, label-direction, label-germ, label-unique, label_of, length, length-map, map, map-is_at, map_of, minus, mul_le_right, mul_pos, nat_abs, neg, neg_item, neg_ℤ, no_span, none, normal-direction, normal_of, nought, num, of_z, on_edge, on_item, plus, point_of, pos, pos_item, refl, ring, rules, seen, sign, slice_get, span-3, spanned, step, subst, suc, svertex_of, sym, to_z, to_z-of_z, true, vertex_of, w64, zero, ℕ, ℤ, ⊎_elim, ◌&&◌, ◌*ℤ◌, ◌*◌, ◌+ℤ◌, ◌+◌, ◌-ℤ◌, ◌<ℤ◌, ◌<◌, ◌∙◌, ◌∷◌, ◌≡◌, ◌≤ℤ◌, ◌≤◌, ◌⊎◌, ◌⊕◌, ◌⊖◌, ◌⊗◌}
pub use Rattle.law_geometry.proofs.near.Combine.{germ-not, not-label}
pub use Rattle.nef_stopo.specs.Sets.{op_set}
pub use Rattle.nef_locate.proofs.Cones.{cone-flat, corner-labels}
pub use Rattle.nef_locate.proofs.Marks.{corner-read, image-read}
pub use Rattle.nef_locate.proofs.VolumeLabels.{volume-flat}
pub use Rattle.nef_cand.specs.Names.{IsNameAt, operand_of, other_of}
pub use Rattle.nef_cand.specs.declared.named.Named.{Named}
pub use Rattle.nef_cand.specs.declared.named.Operand.{Operand}
pub use Rattle.nef_result.specs.Givens.{given_of, moved_if, moved_of}
pub use Rattle.nef_ops.specs.Far.{AreHeldBySpan, AreTold, HoldsSkeleton, IsFar, IsPastEnd, IsUniform, IsWithinEnd, MeetsFrame, axis_coordinate}
pub use Rattle.nef_ops.specs.Nodes.{unary_set}
pub use Rattle.nef_ops.specs.Rights.{IsAsIn, IsInput, IsOutcomeOf, IsRight, IsWorkedBy, kept_outcome, movable}
pub use Rattle.nef_ops.specs.Shares.{AgreeOnOut, HasShare, InShare, IsCombinedMap, IsFindingIn, IsFoundAt, IsRightChoice, ItemLacks, LacksLabel, SvertexLacks, complement_if, complement_label_if, either_of}
pub use Rattle.nef_ops.specs.declared.local.MapChoice.TheVariants.{One}
pub use Rattle.nef_ops.specs.declared.local.Input.{Input}
pub use Rattle.nef_ops.specs.declared.operations.UnaryOp.{UnaryOp}
pub use Rattle.nef_ops.specs.declared.regions.Axis.{Axis}
pub use Rattle.nef_ops.specs.declared.regions.Axis.TheVariants.{X, Y, Z}
pub use Rattle.nef_ops.specs.declared.regions.Region.{Region}
pub use Rattle.nef_ops.specs.declared.regions.SpanSide.{SpanSide}
pub use Rattle.nef_ops.specs.declared.regions.SpanEnd.TheVariants.{Above, Below}
pub use Rattle.nef_ops.specs.declared.share.Share.{Share}
pub use Rattle.nef_ops.specs.declared.share.Share.TheVariants.{Everything, Nothing, Part}
pub use Rattle.nef_smap.proofs.Lists.{map-within}
pub use Rattle.law_geometry.proofs.sphere.Dimensions.{cone-same}
