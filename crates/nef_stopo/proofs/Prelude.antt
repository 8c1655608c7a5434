-- The names that most proofs cite, passed on from one place. Declares nothing.
pub use Rattle.law_geometry.proofs.near.Prelude.{label_and, label_less, label_one_of, label_or}
pub use Rattle.law_geometry.proofs.sphere.border.Prelude.{Germ, HasLabel, In, IsNormal, IsRemarked, IsRemarkedAt, IsTopologyMap, IsTopologyRaw, MarkLabel, Not, Topology, all_in, arc_labels, at-other, at-sloop, complement, exchanged, exchanged_arc, exchanged_map, exchanged_sloop, exchanged_svertex, face_label, gather, is-at_none, is_in, label_by, label_from, map_labels, marked, option_labels, option_map, ray_mark, set_by, sloop_by, sloop_item, some_in, star_labels, svertex_labels, ◌&&◌, ◌||◌}
pub use Rattle.nef_star.proofs.Prelude.{drop, map-append, map-set, op_label, sector_count, zero_vector}
pub use Rattle.nef_smap.proofs.Prelude.{Err, IfOk, IsBelow, IsNeighbourhood, IsRayBelow, IsSphereMap, IsTurning, Ok, Result, direction_numbers, sectors-fill}
pub use Rattle.nef_sover.proofs.Prelude.{Op, SVertex}
pub use Rattle.nef_spair.proofs.Prelude.{Arc, BeginsAnywhere, Bool, ByOp, Cone, Dir, Follows, IsAt, IsAtMost, IsDirection, IsLabelling, IsLeastMap, IsNext, IsRawOf, IsRawStars, IsRay, IsSmall, IsStar, Item, Label, Least, List, Map, MapLabel, MapSloop, MapVertex, None, Option, Ordered, Out, RawStars, Ray, SArc, SLoop, Set, Some, SpacePoint, SphereMap, Star, Valid, Vector, [], ap, arc_of, arith, is-at_map, is-at_one, is-at_within, cond, count-some, dot, false, forms, is-at_get, get_or, inl, inr, item_normal, left_at, left_of, length, length-map, length-set, map, map-is_at, map_of, normal_limit, opposite, raw-shows_op, raw_of, ray_of, refilled, refl, slice_set, sloop_of, star-well_formed, star_of, subst, suc, svertex_limit, svertex_of, sym, take, true, vector_of, zero, ℕ, ◌++◌, ◌+◌, ◌-◌, ◌<◌, ◌↔◌, ◌∙◌, ◌∷◌, ◌≡◌, ◌≤◌}
pub use Rattle.std.proofs.Common.{add-one, append_assoc}
pub use Rattle.std.proofs.lemmas.List.{append-nil, drop_all, get_or-map, get_or_default, length_push, take_all}
pub use Rattle.law_geometry.proofs.sphere.border.Cones.{topology-cone}
pub use Rattle.nef_stopo.specs.Labels.{nearby_of, topology_of}
pub use Rattle.nef_stopo.specs.Stars.{AreRaysMarked, AreRemarked, IsRayMarked}
pub use Rattle.nef_space.proofs.Lists.{is-at_more, all-of}
