-- The operations on one set keep its carriers, and make no vertices; regularisation is the closure of the interior.
use Rattle.nef_ops.proofs.Prelude.{List, Result, Ok, Err, IfOk, SpacePoint, Form, step, Set, Vector, Flat, IsVertex, Cone, Map, Topology, Carriers, SphereMap, map_of, IsLeastMap, UnaryOp, unary_set}
use Rattle.law_geometry.proofs.near.FlatOperations.{flat-of, flat-not, flat-inside, flat-closed, flat-border, flat-regular}
use Rattle.law_geometry.proofs.near.Topology.{regular-label}
use Rattle.nef_stopo.specs.Made.{IsMadeBy}
use Rattle.nef_ops.specs.declared.operations.UnaryOp.TheVariants.{Not, Int, Cl, Bd, Reg}

pub unary-carriers : (op : UnaryOp) (s : Set) (hs : List Form) → Carriers s hs → Carriers (unary_set op s) hs
unary-carriers Not s hs C = record { each = C.each; all = C.all; ordered = C.ordered }
unary-carriers Int s hs C = record { each = C.each; all = C.all; ordered = C.ordered }
unary-carriers Cl s hs C = record { each = C.each; all = C.all; ordered = C.ordered }
unary-carriers Bd s hs C = record { each = C.each; all = C.all; ordered = C.ordered }
unary-carriers Reg s hs C = record { each = C.each; all = C.all; ordered = C.ordered }

-- what is flat for the set is flat for what is made of it
unary-flat : (op : UnaryOp) (s : Set) (y : SpacePoint) (d : Vector) → Flat s y d → Flat (unary_set op s) y d
unary-flat Not s y d f = flat-not s y d f
unary-flat Int s y d f = flat-of s (Set.inside s) y d (flat-inside s y d) f
unary-flat Cl s y d f = flat-of s (Set.closed s) y d (flat-closed s y d) f
unary-flat Bd s y d f = flat-of s (Set.border s) y d (flat-border s y d) f
unary-flat Reg s y d f = flat-of s (Set.regular s) y d (flat-regular s y d) f

pub unary-vertex : (op : UnaryOp) (s : Set) (y : SpacePoint) → IsVertex (unary_set op s) y → IsVertex s y
unary-vertex op s y v = (tt, λ h. v.1 (h.0, h.1, unary-flat op s y h.0 h.2))

pub regular-cone : (M : Map) (s : Set) (p : SpacePoint) → Cone M (Set.closed (Set.inside s)) p → Cone M (Set.regular s) p
regular-cone M s p C = record {
  valid = C.valid;
  mark = (regular-label s p M.mark).1 C.mark;
  labels = λ d i. let l = C.labels d i in let g = l.2 in (l.0, l.1, (g.0, g.1, λ t h. (regular-label s (step p t d) l.0).1 (g.2 t h)));
}

-- what is known of the map that is made of another one
module _ {E : Type 0} (k : Topology) (made : Set → Set) (m : SphereMap) where
  pub made-least : (o : Result SphereMap E) → IfOk o (IsMadeBy k made m) → IfOk o IsLeastMap
  made-least (Ok n) M = M.least
  made-least (Err e) M = tt

  pub made-cone : (o : Result SphereMap E) → IfOk o (IsMadeBy k made m) → IfOk o (λ n. (s : Set) (p : SpacePoint) → Cone (map_of m) s p → Cone (map_of n) (made s) p)
  made-cone (Ok n) M = M.cone
  made-cone (Err e) M = tt
