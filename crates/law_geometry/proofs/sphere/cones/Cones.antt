-- Every point has a least map of every set, and every operation on two maps has one.
use Rattle.law_geometry.proofs.sphere.cones.Prelude.{◌≡◌, sym, ◌↔◌, ◌++◌, subst, SpacePoint, Vector, IsDirection, Set, Label, HasLabel, Germ, carriers, label_of, Map, MapLabel, Valid, forms, Least, Ordered, Cone, ByOp, op-build, set-build}
use Rattle.law_geometry.proofs.sphere.Labellings.{normals_of, germ-labelling, op-labelling}
use Rattle.law_geometry.proofs.sphere.cones.Assembled.{labelling-map}

pub point-map : (s : Set) (p : SpacePoint) → (M : Map) × Cone M s p × Least M × Ordered M
point-map s p = by (label_of s p)
  where
    by : ((m : Label) × HasLabel s p m) → (M : Map) × Cone M s p × Least M × Ordered M
    by (m, h) =
        let r = labelling-map (normals_of (carriers s)) (Germ s p) (germ-labelling s p) m in
        let c = set-build r.map s p (subst (HasLabel s p) (sym r.marked) h) r.built r.kept in
        (r.map, c.0, c.1, r.ordered)

pub op-map : (A B : Map) (op : Label → Label → Label) (mark : Label) → Valid A → Valid B
    → (M : Map) × Valid M × Least M × Ordered M × (M.mark ≡ mark) × ((d : Vector) (m : Label) → IsDirection d → MapLabel M d m ↔ ByOp A B op d m)
op-map A B op mark V W =
    let r = labelling-map (forms A ++ forms B) (ByOp A B op) (op-labelling A B op V W) mark in
    let c = op-build A B r.map op V W r.built r.kept in
    (r.map, c.0, c.1, r.ordered, r.marked, c.2)
