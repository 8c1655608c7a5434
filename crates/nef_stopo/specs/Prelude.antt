-- The names that most clauses cite, passed on from one place. Declares nothing.
pub use Rattle.nef_geo.specs.Prelude.{Label, option_map}
pub use Rattle.nef_star.specs.Prelude.{op_label}
pub use Rattle.nef_smap.specs.Prelude.{IsSphereMap}
pub use Rattle.nef_spair.specs.Prelude.{ByOp, Cone, IfOk, IsDirection, IsLeastMap, IsStar, List, MapLabel, Set, SpacePoint, Vector, [], arc_of, length, map, map_of, sloop_of, star_of, svertex_of}
pub use Rattle.law_geometry.specs.sphere.Forms.{gather}
pub use Rattle.law_geometry.specs.sphere.border.Marks.{IsRemarked, arc_labels, exchanged_arc, exchanged_svertex, face_label, in_by, is_in, label_by, map_labels, option_labels, ray_mark, sloop_by, sloop_labels, star_labels, svertex_labels}
pub use Rattle.law_geometry.specs.sphere.border.Topology.{boundary, closure, complement, interior, set_by}
pub use Rattle.nef_star.specs.Stars.{ray_of}
pub use Rattle.nef_stopo.specs.Labels.{nearby_of, topology_of}
pub use Rattle.nef_stopo.specs.Made.{IsMadeBy}
pub use Rattle.nef_stopo.specs.Sets.{op_set}
pub use Rattle.nef_stopo.specs.Stars.{AreRaysMarked, AreRemarked}
