-- Rays down from vertices, and the sides that see downward.
use Rattle.nef_volumes.proofs.Prelude.{◌≡◌, ℕ, ◌<◌, pos, neg_ℤ, [], ◌∷◌, length, Some, slice_get, arith, refl, ap, sym, ◌∙◌, subst, ints, ring, at, neg, ◌⊖◌, ◌⊗◌, SpacePoint, InClosedFrame, IsAhead, Set, Vector, IsZero, SameDirection, cross, opposite, up, Label, Out, point_of, IsAt, MapVertex, Item, items, item_normal, OnItem, IsFree, Side, HasSide, Sees, here, link, on-level, SphereMap, map_of, IsSphereMap, LabelledSide, sides_of, IsSide, SideSees, is-at_one, side-has, number-one, map-ahead, map-across, Vertex, Spot as SkeletonSpot, IsSpot, IsSkeletonPoint, VertexSide, HasSideLabel, IsAbove, RayDown, vertex_of, complex_of, ShowsSet, Cell, LinkDown, IsPlaceAt, IsFirstHit, IsSideAbove, side_cell, IsCellOf, IsFloorCell, IsTieDown, dot-opposite}
use Rattle.nef_complex.specs.declared.complex.Complex.{Complex}
use Rattle.nef_complex.specs.declared.complex.Vertex.{Vertex as ProgramVertex}
use Rattle.nef_complex.proofs.Framed.{dim-framed}
use Rattle.nef_locate.specs.declared.point.Place.{Place as LocatedPlace}
use Rattle.nef_volumes.specs.Ties.{IsSideAtRayDown}
use Rattle.nef_volumes.proofs.SideCells.{cell-numbered}
use Rattle.nef_volumes.proofs.ReadVertex.{vertex-there, vertex-read, vertex-within}

-- ---- the downward direction is free
turned : (u v : Vector) → IsZero (cross v (opposite u)) → IsZero (cross u v)
turned u v z = (
  ring (u.x ∷ u.y ∷ u.z ∷ v.x ∷ v.y ∷ v.z ∷ []) (at 1 ⊗ at 5 ⊖ at 2 ⊗ at 4) (at 4 ⊗ neg (at 2) ⊖ at 5 ⊗ neg (at 1)) tt ∙ z.0,
  ring (u.x ∷ u.y ∷ u.z ∷ v.x ∷ v.y ∷ v.z ∷ []) (at 2 ⊗ at 3 ⊖ at 0 ⊗ at 5) (at 5 ⊗ neg (at 0) ⊖ at 3 ⊗ neg (at 2)) tt ∙ z.1,
  ring (u.x ∷ u.y ∷ u.z ∷ v.x ∷ v.y ∷ v.z ∷ []) (at 0 ⊗ at 4 ⊖ at 1 ⊗ at 3) (at 3 ⊗ neg (at 1) ⊖ at 4 ⊗ neg (at 0)) tt ∙ z.2,
)

module _ (m : SphereMap) (S : IsSphereMap m) where
  no-svertex : (k : ℕ) (v : MapVertex) → IsAt (map_of m).svertices k v → SameDirection v.dir (opposite up) → ⊥
  no-svertex k v a w = map-across m S k v a (turned up v.dir w.parallel)

  no-item : (k : ℕ) (x : Item) → IsAt (items (map_of m)) k x → OnItem (map_of m) x (opposite up) → ⊥
  no-item k x a o =
      let p = map-ahead m S k x a in let f = sym (dot-opposite (item_normal x) up) ∙ on-level (map_of m) x (opposite up) o in
      omega (arith, ints, p, f)

  pub down-free : IsFree (map_of m) (opposite up)
  down-free = record { direction = λ z. (let e : neg_ℤ (pos 1) ≡ pos 0 = z.2 in omega (arith, ints, e)); off_svertices = no-svertex; off_items = no-item }

-- ---- vertices lie in the closed frame
module _ (s : Set) (c : Complex) (S : ShowsSet s c) (i : ℕ) (u : ProgramVertex) (e : slice_get c.vertices i ≡ Some u) where
  pub vertex-framed : InClosedFrame (point_of u.point)
  vertex-framed = dim-framed s (point_of u.point) 0 (omega arith) (S.shows.vertices i (vertex_of u) (vertex-there c i u e))

  -- ---- the side above the point where the ray ends
  module _ (floor : LocatedPlace) (F : IsFirstHit (complex_of c) (point_of u.point) (opposite up) floor) where
    ray-of : (x : VertexSide) (l : Label) → HasSideLabel (complex_of c) x l → ((y : SpacePoint) → IsSkeletonPoint (complex_of c) y → IsPlaceAt (complex_of c) y floor → (t : SkeletonSpot) × IsSpot (complex_of c) t y × IsAbove (complex_of c) y t x) → RayDown (complex_of c) (point_of u.point) x
    ray-of x l h f =
        let r = f F.place F.skeleton F.at in
        record { place = F.place; spot = r.0; ahead = F.ahead; is_spot = r.1; first = F.first; above = r.2; label = l; has = h }

    pub above-within : (j k : ℕ) → IsSideAbove (complex_of c) floor j k → j < length c.vertices
    above-within j k (o, l, (v, a, g), f) = vertex-within c j v a

    pub cell-above : (j k : ℕ) → IsSideAbove (complex_of c) floor j k → (a : Cell) → a ≡ side_cell j k → IsFloorCell (complex_of c) i a
    cell-above j k (o, l, (v, b, g), f) a h =
        let x : VertexSide = record { vertex = j; side = o } in
        let y = side-has v.map k o l g in
        (x, subst (IsCellOf (complex_of c) x) (sym h) (cell-numbered (complex_of c) j k v o l b y (number-one v.map k o l g)), (vertex_of u, vertex-there c i u e, ray-of x l (v, b, y) f))

  -- the ray ends nowhere
  pub none-below : ((q : SpacePoint) → IsAhead (point_of u.point) (opposite up) q → IsSkeletonPoint (complex_of c) q → ⊥) → (x : VertexSide) → IsSideAtRayDown (complex_of c) i x → ⊥
  none-below apart x (v, a, R) = let one = vertex-read c i u v e a in apart R.place (subst (λ (w : Vertex). IsAhead w.point (opposite up) R.place) one R.ahead) (R.spot, R.is_spot)

  -- ---- the tie down the ray
  module _ (j : ℕ) (seen : SideSees (map_of u.map) j (opposite up)) where
    -- what links down from here has the label of the side
    link-label : (x y : VertexSide) → x.vertex ≡ i → (L : LinkDown (complex_of c) x y) → (o : Side) × IsSide (map_of u.map) j o L.label
    link-label x y f L =
        let (o, l, g, v) = seen in
        let M = map_of u.map in
        let one = vertex-read c i u L.vertex e (subst (λ (n : ℕ). IsAt (complex_of c).vertices n L.vertex) f L.is_vertex) in
        let has = subst (λ (w : Vertex). HasSide w.map x.side L.label) one L.has in
        let sight = subst (λ (w : Vertex). Sees w.map x.side (opposite up)) one L.sees in
        let K = S.shows.cones i (vertex_of u) (vertex-there c i u e) in
        let same = K.valid.one_label o x.side l L.label (side-has M j o l g) has (link o x.side x.side L.label has (opposite up, v, sight) (here x.side)) in
        (o, subst (λ (k : Label). IsSide M j o k) same g)

    pub out-none : (o : Side) × IsSide (map_of u.map) j o Out → (x y : VertexSide) → x.vertex ≡ i → LinkDown (complex_of c) x y → ⊥
    out-none (o, g) x y f L = let r = link-label x y f L in L.not_out (ap (λ (q : LabelledSide). q.1) (is-at_one (sides_of (map_of u.map)) j (r.0, L.label) (o, Out) r.1 g))

    pub nothing-below : ((x : VertexSide) → IsSideAtRayDown (complex_of c) i x → ⊥) → (x y : VertexSide) → x.vertex ≡ i → LinkDown (complex_of c) x y → ⊥
    nothing-below apart x y f L = apart y (L.vertex, subst (λ (n : ℕ). IsAt (complex_of c).vertices n L.vertex) f L.is_vertex, L.down)

    pub tie-down : ((o : Side) × IsSide (map_of u.map) j o Out → ⊥) → (a b : Cell) → a ≡ side_cell i j → IsFloorCell (complex_of c) i b → IsTieDown (complex_of c) i (record { first = a; second = b })
    tie-down not a b f (y, Y, (v, h, R)) =
        let (o, l, g, w) = seen in
        let x : VertexSide = record { vertex = i; side = o } in
        let there = vertex-there c i u e in
        let one = vertex-read c i u v e h in
        let has = side-has (map_of u.map) j o l g in (
          x,
          y,
          refl,
          subst (IsCellOf (complex_of c) x) (sym f) (cell-numbered (complex_of c) i j (vertex_of u) o l there has (number-one (map_of u.map) j o l g)),
          Y,
          record { vertex = vertex_of u; is_vertex = there; label = l; has = has; not_out = λ z. not (o, subst (λ (k : Label). IsSide (map_of u.map) j o k) z g); sees = w; down = subst (λ (q : Vertex). RayDown (complex_of c) q.point y) one R },
        )
