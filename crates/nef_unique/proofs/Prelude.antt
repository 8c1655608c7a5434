-- The names that most proofs cite, passed on from one place. Declares nothing.
pub use Rattle.law_geometry.proofs.near.Prelude.{SameCone, SameSet}
pub use Rattle.law_geometry.proofs.complex.Prelude.{Arc, Complex, Cone, Decided, Edge, Germ, Germ-zero, HasLabel, In, IsVertex, Label, Label-cells, MapVertex, germs-by_cell, label-direction, label-one, signs-same, vector}
pub use Rattle.nef_smap.proofs.Prelude.{Dir, InOrder, MapSloop, Not, arc_of, option_map, sloop_of, svertex_of}
pub use Rattle.nef_complex.proofs.Prelude.{Bool, Decides-and, Decides-int_eq, IsAt, IsEdgeBelow, IsPointBelow, IsZero, List, Map, None, Option, Out, Point, SamePoint, Set, Shows, Some, SpacePoint, Vector, [], ap, arith, is-at_map, carriers, complex_of, edge_of, false, inl, inr, ints, length, map, map-is_at, map_of, nought-or, point_below-apart, point_below-trans, point_of, pos, refl, rules, same-point_sym, same_points_equal, subst, sym, take, take_all, true, vertex_of, ℕ, ⊎_elim, ◌<◌, ◌^◌, ◌∙◌, ◌∷◌, ◌≡◌}
pub use Rattle.std.proofs.lemmas.Bool.Decides.{Decides-at, Decides-eqb, Decides-like}
pub use Rattle.std.specs.Bool.{Decides}
pub use Rattle.law_geometry.proofs.near.Alike.{FlatDim-by_cone, cones-of_same}
pub use Rattle.law_geometry.proofs.sphere.Equal.{cone-unique, least-unique, same-lists}
pub use Rattle.law_geometry.specs.complex.Complexes.{Edges}
pub use Rattle.nef_smap.specs.declared.map.SArc.{SArc}
pub use Rattle.nef_smap.specs.declared.map.SLoop.{SLoop}
pub use Rattle.nef_smap.specs.declared.map.SVertex.{SVertex}
pub use Rattle.nef_smap.specs.declared.map.SphereMap.{SphereMap}
pub use Rattle.nef_complex.specs.declared.complex.Vertex.{Vertex}
