-- The stars of two maps, merged.
use Rattle.std.specs.Prelude.{◌≡◌}
use Rattle.nef_geo.specs.Prelude.{List, Vector, IsDirection, cross, Label, vector_of}
use Rattle.std.specs.List.{AllZip}
use Rattle.nef_geo.specs.declared.dir.Dir.{Dir}
use Rattle.law_geometry.specs.sphere.Prelude.{Map, Item, item_normal, item_mark, item_pos, item_neg, StarLabel, ByOp}
use Rattle.law_geometry.specs.sphere.building.Overlays.{NearByOp}
use Rattle.nef_star.specs.declared.rounds.CircleLabels.{CircleLabels}
use Rattle.nef_star.specs.declared.star.Star.{Star}
use Rattle.nef_star.specs.Stars.{star_of, IsStar}
use Rattle.nef_sover.specs.declared.axes.Axis.{Axis}

-- l is the great circle of the item x near a direction on x
pub record AreCircleLabelsOf (x : Item) (l : CircleLabels) : Type 0 where
  pub normal : vector_of l.normal ≡ item_normal x
  pub mark : l.mark ≡ item_mark x
  pub pos : l.pos ≡ item_pos x
  pub neg : l.neg ≡ item_neg x

-- t has the axis d, and the operation's labels of both maps on the axis and close to the axis
pub record IsMergedAt (A B : Map) (op : Label → Label → Label) (d : Dir) (t : Star) : Type 0 where
  pub star : IsStar t
  pub axis : t.axis ≡ d
  pub mark : ByOp A B op (vector_of d) t.mark
  pub labels : (e : Vector) (l : Label) → IsDirection (cross (vector_of d) e) → StarLabel (star_of t) e l → NearByOp A B op (vector_of d) e l

-- ts has a merged star for each axis, in the order of the axes
abbrev pub AreMerged : Map → Map → (Label → Label → Label) → List Axis → List Star → Type 0
AreMerged A B op xs ts = AllZip (λ (t : Star) (x : Axis). IsMergedAt A B op x.dir t) ts xs
