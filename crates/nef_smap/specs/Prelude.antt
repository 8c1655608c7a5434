-- The names that most clauses cite, passed on from one place. Declares nothing.
pub use Rattle.nef_geo.specs.Prelude.{IfOk, IfSome, IsAt, IsAtMost, IsDirection, IsNormal, IsTrue, MatchOption, OnOk, Option, SameDirection, Sign, Some, Vector, [], cond, cross, dot, filter_map, length, nat_abs, normal_limit, pos, sign, sign_of, slice_get, svertex_limit, up, vector_of, wide_vector, ℕ, ℤ}
pub use Rattle.nef_star.specs.Prelude.{IsOnCircle, IsStar, star_of}
pub use Rattle.nef_arc.specs.Arcs.{IsOn, normal_vector}
pub use Rattle.law_geometry.specs.sphere.Least.{by_side}
pub use Rattle.law_geometry.specs.sphere.Maps.{IsFree, Item, MapLabel, MapVertex, OnItem, Side, arc_item, item_mark, item_neg, item_normal, item_pos, items, neg_item, pos_item}
pub use Rattle.nef_classes.specs.Classes.{AreLinked}
pub use Rattle.nef_smap.specs.Above.{IsFirst, IsFirstOf, IsOver, rise_form}
pub use Rattle.nef_smap.specs.Close.{ArcPasses, IsClose, PassesArc, beyond_sign, close_sign, geo_sign, lean_direction, then_toward}
pub use Rattle.nef_smap.specs.Items.{IsItemThrough, item_of}
pub use Rattle.nef_smap.specs.JoinLinks.{AreArounds, AreEach, AreGrounds, AreSloops, ComesOf, JoinsArc, JoinsBelow, JoinsSloop}
pub use Rattle.nef_smap.specs.Joined.{FirstNear}
pub use Rattle.nef_smap.specs.Linear.{AreAtMost, IsLarge, leading_of, linear_at, turn_value}
pub use Rattle.nef_smap.specs.Links.{AreJoins, met_number}
pub use Rattle.nef_smap.specs.Maps.{IsLeastMap, IsSphereMap, arc_of, map_of}
pub use Rattle.nef_smap.specs.Paths.{IsMetOnWay, MeetsFirst, OnFairPaths, met_at}
pub use Rattle.nef_smap.specs.SideNumbers.{arounds_before, side_number}
pub use Rattle.nef_smap.specs.Sides.{AreSfaces, IsPlaceOf, IsSide, SideSees, sides_of}
pub use Rattle.nef_smap.specs.Stars.{AreArcEnds, IsNeighbourhood}
pub use Rattle.nef_smap.specs.WideVectors.{AreValues, IsWidePath}
