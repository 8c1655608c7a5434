-- The names that most proofs cite, passed on from one place. Declares nothing.
pub use Rattle.law_geometry.proofs.complex.Prelude.{IsOnEdges, germ_of}
pub use Rattle.nef_smap.proofs.Prelude.{AreRoots, Err, IfOk, In, Not, Ok, Result, same_directions_equal}
pub use Rattle.nef_cand.proofs.Prelude.{AreInOrder, Ratio, Vertex, vertices-sorted}
pub use Rattle.nef_locate.proofs.Prelude.{Complex, Dir, Germ, HasLabel, IfSome, InFrame, IsAt, IsEdgePoint, IsSkeletonPoint, Label, List, MapVertex, Option, Out, Plane, SVertex, SameDirection, SameDirection-turned, SamePoint, Set, ShowsSet, SpacePoint, Vector, Zero, arith, is-at_map, is-at_one, is-at_within, at_vertex, closed-same, complex_of, edge_of, eq-or-lt_of_le, form_at, form_of, hit_point, inl, inr, ints, length, meets-on, normal_of, not_true, on_edge, opposite, opposite-same, plane_axis, point_of, pos, refl, rules, same-point_sym, subst, svertex_of, sym, vector_of, vertex_of, zero_sign, ⊎_elim, ◌+◌, ◌∙◌, ◌≡◌}
pub use Rattle.nef_facets.proofs.Prelude.{FromVertex, HasNoSvertex, none-more, plane_dir}
pub use Rattle.std.specs.Prelude.{ℕ, ◌<◌}
pub use Rattle.nef_geo.specs.Shapes.{given_form}
pub use Rattle.nef_plane.proofs.Listed.{are-items}
pub use Rattle.nef_ops.specs.Nodes.{constant_set, unary_set}
pub use Rattle.tests_places.specs.Clear.{IsClearVertex}
