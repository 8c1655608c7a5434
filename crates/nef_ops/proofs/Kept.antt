-- A vertex of an operand that is one of the result, with its map or with that of the complement.
use Rattle.nef_ops.proofs.Prelude.{◌≡◌, refl, sym, subst, ap, List, ℕ, Bool, true, false, IsVertex, Germ, SpacePoint, SamePoint, Set, Vector, Label, Out, Not, In, point_of, FlatDim-by_germs, germ-not, germ_of, Germ-unique, IsAt, Cone, complement, exchanged_map, topology-cone, IsVertexPoint, map_of, IsLeastMap, is-at_map, map-is_at, Vertex, Complex, vertex_of, complex_of, ShowsSet, Operand, First, Second, operand_of, moved_if, of_operand, StandsAt, IsOutcomeAt, Op, op_set, One, Input, Share, Part, AreTold, IsAsIn, IsInput, movable, kept_outcome, IsOutcomeOf, either_of, complement_if, HasShare, IsRightChoice}
use Rattle.law_geometry.specs.near.Cones.{label_not}
use Rattle.law_geometry.proofs.sphere.border.ExchangedLabels.{exchanged-laws}
use Rattle.law_geometry.specs.complex.Complexes.{Vertex as PlainVertex}
use Rattle.nef_result.proofs.Vertices.{vertex-flat, flat-vertex}
use Rattle.nef_ops.specs.declared.operations.UnaryOp.TheVariants as unary
use Rattle.nef_ops.proofs.ByShare.{share-part, shown-one}
use Rattle.nef_ops.proofs.OneSet.{unary-vertex}
use Rattle.law_geometry.proofs.near.Same.{IsVertex-same}
use Rattle.law_geometry.proofs.sphere.Dimensions.{cone-same}

-- ---- the complement
label-twice : (l : Label) → label_not (label_not l) ≡ l
label-twice Out = refl
label-twice Not = refl
label-twice In = refl

module _ (s : Set) (p : SpacePoint) where
  germ-twice : (v : Vector) (l : Label) → Germ s p v l → Germ (Set.other (Set.other s)) p v l
  germ-twice v l g = subst (Germ (Set.other (Set.other s)) p v) (label-twice l) (germ-not (Set.other s) p v (label_not l) (germ-not s p v l g))

  germ-back : (v : Vector) (l : Label) → Germ (Set.other (Set.other s)) p v l → Germ s p v l
  germ-back v l g = let a = germ_of s p v in subst (Germ s p v) (Germ-unique (Set.other (Set.other s)) p v a.0 l (germ-twice v a.0 a.1) g) a.1

  -- a vertex of a set is one of its complement
  other-vertex : IsVertex s p → IsVertex (Set.other s) p
  other-vertex v = unary-vertex unary.Not (Set.other s) p (FlatDim-by_germs s (Set.other (Set.other s)) p p (λ d l. (germ-twice d l, germ-back d l)) 0 v)

-- ---- a vertex of an operand
module _ (c : Complex) (k : ℕ) (y : SpacePoint) (r s : Set) (S : ShowsSet s c) (a : IsVertexPoint (complex_of c) k y) where
  here : (v : Vertex) × StandsAt c.vertices k v y
  here = let u = is-at_map vertex_of c.vertices k a.0 a.1 in (u.0, (u.1, subst (λ (w : PlainVertex). SamePoint w.point y) (sym u.2) a.2))

  least : IsLeastMap here.0.map
  least = S.maps k here.0 here.1.0

  plain : IsAt (complex_of c).vertices k (vertex_of here.0)
  plain = map-is_at vertex_of c.vertices k here.0 here.1.0

  cone : Cone (map_of here.0.map) s y
  cone = cone-same (map_of here.0.map) s (point_of here.0.point) y here.1.1 (S.shows.cones k (vertex_of here.0) plain)

  vertex-here : IsVertex s y
  vertex-here = IsVertex-same s (point_of here.0.point) y here.1.1 (S.shows.vertices k (vertex_of here.0) plain)

  module _ (us vs : List Vertex) (o : Operand) (is : of_operand o us vs ≡ c.vertices) where
    stands : StandsAt (of_operand o us vs) k here.0 y
    stands = (subst (λ (ws : List Vertex). IsAt ws k here.0) (sym is) here.1.0, here.1.1)

    pub kept : (turned : Bool) → IsAsIn (complement_if turned s) r y → IsOutcomeAt us vs r y (kept_outcome turned o k)
    kept false h =
        let m = map_of here.0.map in
        (vertex-flat m r y least.least (h m cone) (flat-vertex m s y least.least cone vertex-here), (here.0, stands, least, h m cone))
    kept true h =
        let m = map_of here.0.map in
        let n = exchanged_map m in
        let laws = exchanged-laws m least.sphere_map.valid in
        let there = topology-cone complement m n s y cone laws.0 laws.3 in
        let smallest = laws.2 least.least in (
          vertex-flat n r y smallest (h n there) (flat-vertex n (Set.other s) y smallest there (other-vertex s y vertex-here)),
          (here.0, stands, least, λ l i. h (map_of l) (i.1 s y cone)),
        )

-- a vertex of an operand whose maps may be moved, where a region of the other operand tells enough
pub told : (op : Op) (o : Operand) (turned : Bool) (a b : Input) (k : ℕ) (p : SpacePoint) (f : Share) → IsInput a → IsInput b → (either_of o a b).is_own ≡ true
    → IsVertexPoint (operand_of o (complex_of a.complex.now) (complex_of b.complex.now)) k p → ((c : Complex) (s : Set) → AreTold c (either_of o b a).far.now → ShowsSet s c → HasShare f s p)
    → IsRightChoice (One o turned) op (either_of o Part f) (either_of o f Part) → IsOutcomeOf op a b p (kept_outcome turned o k)
told op First turned a b k p f A B own vertex share leads s t S T =
    kept a.complex.now k p (op_set op s t) s S vertex (movable a) (movable b) First (ap (λ (m : Bool). moved_if m a.complex.now) own) turned
    (λ M K. shown-one op Part f M s t p (share-part s p) (share b.complex.now t B.1 T) First turned K leads)
told op Second turned a b k p f A B own vertex share leads s t S T =
    kept b.complex.now k p (op_set op s t) t T vertex (movable a) (movable b) Second (ap (λ (m : Bool). moved_if m b.complex.now) own) turned
    (λ M K. shown-one op f Part M s t p (share a.complex.now s A.1 S) (share-part t p) Second turned K leads)
