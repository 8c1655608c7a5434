-- The names that most proofs cite, passed on from one place. Declares nothing.
pub use Rattle.law_geometry.proofs.near.Prelude.{In, InFrame, NearGerm, Not, Out}
pub use Rattle.law_geometry.proofs.sphere.Prelude.{Agrees, Cone, Full, Germ, Germ-unique, HasLabel, InOrder, Lies, Set, SpacePoint, blend_of, gather, germ_of, is-at_first, is-at_none, items_then, label-one, minus, nought, plus}
pub use Rattle.law_geometry.proofs.sphere.building.Prelude.{Arc, ArcBelow, ArcBetween, Bool, Follows, HasArc, HasSide, IsAt, IsBare, IsDirection, IsFree, IsLabelling, IsNormal, IsOnCircle, IsPrimitive, IsRawOf, IsSmooth, IsStrictlyOn, IsStrictlyOn-same, IsStrictlyOn-stays, IsWellFormed, IsZero, Item, Keeps, Label, Labelling, Least, LeavesAxis, List, Map, MapLabel, MapSloop, MapVertex, Near, NearLabel, NearPlain, NearStraight, NextRay, None, Of, OnItem, OnRay, OnSvertex, Option, Ordered, PlaceOf, Plain, PlainAt, Proper, RawMap, Ray, SameDirection, SameDirection-turned, SameSigns, Shaped, ShowsLabels, Side, Sign, Some, Star, StarLabel, StarShows, StraightAt, Valid, Vector, VectorBelow, [], across, across-same, across-side, amount, ap, apart, arc-at, arc-point, arc_forms, arc_item, arith, around_svertex, at, is-at_one, at-sloop, at_svertex, axes, axes-forms, blend, by_order, by_side, circle-point, cond, cross, cross_of, dir-self, dir-signs, dir_of, directed-by, dot, dot-opposite, false, far-keeps, far-level, far_directed-by, forms, free_place, in-span, in_only_sector, in_sector, inl, inr, ints, item_mark, item_neg, item_normal, item_place, item_pos, items, label-by_signs, label-direction, label-exists, label-unique, length, level-same, lies-left, lies-right, map, near-near, neg, neg_item, next-ray, none-at, normal-direction, normals-same, not-even, nought-or, num, numbers, on-level, on_item, on_ray, opposite, past_source, place_of, plain, planes-parallel, pos, pos_item, previous, ray-level, ray_dir, refl, ring, sector_count, seen, self-pos, sign, sign-minus, sign-plus, sign-scaled, sloop-at, sloop_item, straight, subst, suc, svertex_place, sym, triple, triple-dot, true, vec, vector-same, whole, zero, zero-decided, ℕ, ℤ, ⊎_elim, ◌++◌, ◌+◌, ◌<ℤ◌, ◌∙◌, ◌∷◌, ◌≡◌, ◌≤◌, ◌⊎◌}
pub use Rattle.std.proofs.Common.{not, ◌&&◌, ◌||◌}
pub use Rattle.std.specs.Prelude.{option_map}
pub use Rattle.nef_space.proofs.Lists.{lies-append, is-at_map, map-is_at}
pub use Rattle.nef_space.proofs.Vectors.{cross-blend}
pub use Rattle.law_geometry.proofs.sphere.Along.{near-same_cell}
pub use Rattle.law_geometry.proofs.sphere.Arcs.{at-arc}
pub use Rattle.law_geometry.proofs.sphere.Forms.{on-direction, same-turned}
pub use Rattle.law_geometry.proofs.sphere.Labels.{far-from_near, near-exists, near-from_far, near-unique}
pub use Rattle.law_geometry.proofs.sphere.Lists.{at-lies, gather-has, lies-at}
pub use Rattle.law_geometry.proofs.sphere.Lone.{near-lone}
pub use Rattle.law_geometry.proofs.sphere.NearItems.{label-around, label-beside, near-free, near-item}
pub use Rattle.law_geometry.proofs.sphere.Vectors.{normal-is}
pub use Rattle.law_geometry.specs.sphere.Forms.{axis_x}
pub use Rattle.law_geometry.specs.sphere.Raw.{RayBelow}
pub use Rattle.law_geometry.specs.sphere.Stars.{PastRay}
pub use Rattle.law_geometry.proofs.sphere.building.BuiltAxes.{map-empty}
pub use Rattle.law_geometry.proofs.sphere.building.Chosen.{chosen, chosen-is, chosen-labelling, map-labels}
pub use Rattle.law_geometry.proofs.sphere.building.KeptStars.{at-other, none-left}
pub use Rattle.law_geometry.proofs.sphere.building.RawGround.{no-item, not-both, only-ground}
pub use Rattle.law_geometry.specs.sphere.border.Laws.{ExchangedMap, RegularCone, TopologyCone, TopologyLabelling, TopologyMark, TopologyOneLabel, TopologyStars}
pub use Rattle.law_geometry.specs.sphere.border.Marks.{IsRemarked, IsRemarkedAt, IsTopologyRaw, all_in, arc_labels, exchanged, exchanged_arc, exchanged_map, exchanged_sloop, exchanged_svertex, face_label, in_by, is_in, label_by, label_from, map_labels, marked, option_labels, ray_mark, sloop_by, sloop_labels, some_in, star_labels, svertex_labels}
pub use Rattle.law_geometry.specs.sphere.border.Topology.{ByTopology, IsClosed, IsInBy, IsInside, IsTopologyMap, MarkLabel, Topology, TopologyLabel, boundary, closure, complement, interior, set_by}
