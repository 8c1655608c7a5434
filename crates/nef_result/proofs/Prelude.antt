-- The names that most proofs cite, passed on from one place. Declares nothing.
pub use Rattle.law_geometry.proofs.near.Prelude.{FlatCone, IsShort, frame, halves, side}
pub use Rattle.nef_geo.proofs.Prelude.{given_form, opposite_form, point_at}
pub use Rattle.law_geometry.proofs.complex.Prelude.{Cone, Edge, Flat-from_cone, FlatCone-from_flat, FlatDim-by_germs, FlatDim-one, Germ, Germ-unique, Sign, cases_order, form, germs-by_cell, is-at_first, is-at_none, label_of, minus, nought, plus, reach_all, signs-same, slide, slope-slide}
pub use Rattle.nef_smap.proofs.Prelude.{Bor, Equal, Greater, IsSphereMap, Least, Less, Map, MapLabel, Minus, Ordered, Plus, SameDirection, Valid, Zero, axis_x, axis_y, axis_z, by_side, cond, dot, length-map, length-take-le, lies-left, lies-right, map_of, mul_pos, negsuc, not, not_true, of_z, sign-neg, sign_of, sign_turned, to_z, vector, vector_of}
pub use Rattle.nef_stopo.proofs.Prelude.{ByOp, IsLeastMap, Op, SphereMap, map-append, op_label}
pub use Rattle.nef_complex.proofs.Prelude.{AreSorted, AreVertexHolders, append-nil, keeps-all, lt_by, plane-ordered, set, step-within, w64}
pub use Rattle.nef_edges.proofs.Prelude.{AreVerticesOf, Edges}
pub use Rattle.nef_cand.proofs.Prelude.{AreHolders, AreInOrder, Bool, Contains, Contains-append_left, Contains-push, Contains-push_cases, Flat, FlatDim, Form, HasLabel, IfOk-weaker, In, InFrame, InHalf, InOrder, IsAt, IsBelow, IsDirection, IsPointBelow, IsVertex, Label, Lies, List, None, Not, Out, Plane, Point, Ratio, SamePlane, SamePoint, Set, Shows, ShowsSet, Some, SpacePoint, Vector, Vertex, [], ap, append_assoc, arith, at, at-contains, is-at_one, at-right, is-at_within, by_order, carriers, contains-at, drop, false, form_at, form_numbers, form_of, get_or, half_side, inl, inr, ints, length, length-drop, map, minus-is, nat_abs, neg, neg_ℤ, normal_of, nought-is, num, plus-is, point_below-apart, point_limit, point_of, pos, is-at_read, refl, ring, same-point_sym, same-point_trans, sign, sign-minus, sign_at, slope, step, subst, suc, sym, take, take-append-drop, take_all, true, vertex_of, zero, ℕ, ℤ, ⊎_elim, ◌*ℤ◌, ◌++◌, ◌+ℤ◌, ◌+◌, ◌-◌, ◌<ℤ◌, ◌<◌, ◌↔◌, ◌∙◌, ◌∷◌, ◌≡◌, ◌≤◌, ◌⊎◌, ◌⊕◌, ◌⊖◌, ◌⊗◌}
pub use Rattle.std.proofs.Common.{vec_capacity, vec_len}
pub use Rattle.std.proofs.lemmas.List.{length-append}
pub use Rattle.std.specs.List.{zip}
pub use Rattle.nef_space.proofs.Lists.{lies-append, is-at_last, is-at_left, is-at_map, is-at_more, map-is_at}
pub use Rattle.law_geometry.proofs.near.Cells.{coordinate-in, is_nought}
pub use Rattle.law_geometry.proofs.near.Frames.{frame-minus}
pub use Rattle.law_geometry.proofs.near.Germs.{Germ-from_sample, sample, sample-short, sign-along}
pub use Rattle.law_geometry.proofs.near.Near.{ray-keeps, ray-level}
pub use Rattle.law_geometry.specs.complex.Shows.{Carriers}
pub use Rattle.nef_star.specs.declared.star.Op.TheVariants.{And, Diff, Or, Xor}
pub use Rattle.nef_edges.proofs.Places.{at-read}
pub use Rattle.nef_cand.specs.declared.named.Operand.TheVariants.{First, Second}
pub use Rattle.nef_result.specs.Begun.{AreBegun, AreFilledTo, AreLeft, AreThere, Begins, HasNamed, HasSourceAt, IsAdded, IsFilled, IsFilledAt, NamesVertex, vertex_at}
pub use Rattle.law_geometry.specs.sphere.Forms.{axes}
pub use Rattle.nef_result.specs.Ends.{AreFrameCorners, FrameCorner, IsFrameCornerAt, IsFrameCornerOf, IsWall, all_ends, at_wall, corner_label, ends, frame_end}
pub use Rattle.nef_result.specs.Outcomes.{AreOutcomesOf, IsOtherOf, IsOutcomeAt, StandsAt, of_operand}
pub use Rattle.nef_result.specs.Planes.{sorted_sides}
pub use Rattle.nef_result.specs.Results.{ArePlanesInOrder, ArePlanesMerged, ArePointsInOrder, IsPlaneBefore, IsUnion}
pub use Rattle.nef_result.specs.declared.outcome.Outcome.{Outcome}
pub use Rattle.nef_result.specs.declared.parting.MapSource.{MapSource}
pub use Rattle.nef_space.proofs.Elementary.{below-trans}
