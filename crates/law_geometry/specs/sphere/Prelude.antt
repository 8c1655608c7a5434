-- The names that most clauses cite, passed on from one place. Declares nothing.
pub use Rattle.law_geometry.specs.sphere.Forms.{forms}
pub use Rattle.law_geometry.specs.sphere.Labelling.{ByOp}
pub use Rattle.law_geometry.specs.sphere.Least.{ArcBelow, Cone, InOrder, Least, Ordered, by_side}
pub use Rattle.nef_space.specs.Lists.{IsAt}
pub use Rattle.law_geometry.specs.sphere.Maps.{Arc, Item, Map, MapLabel, MapSloop, MapVertex, NearLabel, OnItem, Shaped, Valid, arc_item, dir_of, item_mark, item_neg, item_normal, item_pos, items, sloop_item}
pub use Rattle.law_geometry.specs.sphere.Raw.{IsWellFormed, RawMap}
pub use Rattle.law_geometry.specs.sphere.Stars.{Star, StarLabel}
pub use Rattle.law_geometry.specs.sphere.Vectors.{VectorBelow}
