-- Each corner has one next corner.
use Rattle.nef_statement.proofs.text.Prelude.{◌≡◌, ℕ, pos, neg_ℤ, ◌<ℤ◌, inl, inr, [], ◌∷◌, arith, refl, sym, ◌∙◌, subst, ints, ring, at, num, neg, ◌⊕◌, ◌⊖◌, ◌⊗◌, toward, Set, Vector, dot, cross, triple, IsDirection, SameDirection, IsAt, Arc, arc_item, normal-is, same-minus, is-at_one, at-arc, turn-same, Vertex, Edge, Complex, Corner, IsCorner, Shows, end-level, close_way, on-close, Leads, IsNextArc, level-normal, arc-no_sloop, self-pos, cross-turned, nought-if, SameDirection-turned, SameDirection-trans, dir-self, direction-right}
use Rattle.law_geometry.proofs.complex.links.EdgeEnds.{corner_of_numbers}
use Rattle.nef_facets.proofs.EdgeViews.{EdgeFrom, edge-from, one-vertex, one-svertex}
use Rattle.nef_statement.proofs.text.OneCycles.{HasOneNext}
use Rattle.law_geometry.proofs.complex.Equal.{corners-equal}

level-back : (n u : Vector) → dot n (cross u n) ≡ pos 0
level-back n u = ring (n.x ∷ n.y ∷ n.z ∷ u.x ∷ u.y ∷ u.z ∷ [])
    (at 0 ⊗ (at 4 ⊗ at 2 ⊖ at 5 ⊗ at 1) ⊕ at 1 ⊗ (at 5 ⊗ at 0 ⊖ at 3 ⊗ at 2) ⊕ at 2 ⊗ (at 3 ⊗ at 1 ⊖ at 4 ⊗ at 0)) (num (pos 0)) tt

-- the product of a normal and a way with what lies on its right is negative
right-of : (n u : Vector) → IsDirection (cross u n) → triple n u (cross u n) <ℤ pos 0
right-of n u h =
    let p = self-pos (cross u n) h in
    let e : triple n u (cross u n) ≡ neg_ℤ (dot (cross u n) (cross u n)) = ring (n.x ∷ n.y ∷ n.z ∷ u.x ∷ u.y ∷ u.z ∷ [])
    (at 0 ⊗ (at 4 ⊗ (at 3 ⊗ at 1 ⊖ at 4 ⊗ at 0) ⊖ at 5 ⊗ (at 5 ⊗ at 0 ⊖ at 3 ⊗ at 2)) ⊕ at 1 ⊗ (at 5 ⊗ (at 4 ⊗ at 2 ⊖ at 5 ⊗ at 1) ⊖ at 3 ⊗ (at 3 ⊗ at 1 ⊖ at 4 ⊗ at 0))
    ⊕ at 2 ⊗ (at 3 ⊗ (at 5 ⊗ at 0 ⊖ at 3 ⊗ at 2) ⊖ at 4 ⊗ (at 4 ⊗ at 2 ⊖ at 5 ⊗ at 1)))
    (neg ((at 4 ⊗ at 2 ⊖ at 5 ⊗ at 1) ⊗ (at 4 ⊗ at 2 ⊖ at 5 ⊗ at 1) ⊕ (at 5 ⊗ at 0 ⊖ at 3 ⊗ at 2) ⊗ (at 5 ⊗ at 0 ⊖ at 3 ⊗ at 2) ⊕ (at 3 ⊗ at 1 ⊖ at 4 ⊗ at 0) ⊗ (at 3 ⊗ at 1 ⊖ at 4 ⊗ at 0))) tt in
    omega (arith, ints)

-- ---- two arcs that come to one svertex with one normal are one
module _ (s : Set) (C : Complex) (S : Shows s C) (i a j b : ℕ) (V : EdgeFrom s C i a j b) (k l : ℕ) (c e : Arc) (at-k : IsAt V.from.map.arcs k c) (at-l : IsAt V.from.map.arcs l e) (enters : c.target ≡ a) (also : e.target ≡ a) (w : SameDirection c.normal e.normal) where
  abbrev v : Vertex
  v = V.from

  first : IsCorner C (corner_of_numbers i k) v (arc_item c)
  first = record { vertex = V.is_from; item = at-arc v.map.arcs v.map.sloop k c at-k }

  second : IsCorner C (corner_of_numbers i l) v (arc_item e)
  second = record { vertex = V.is_from; item = at-arc v.map.arcs v.map.sloop l e at-l }

  abbrev g : Vector
  g = cross V.start.dir c.normal

  u-is : IsDirection V.start.dir
  u-is = direction-right (toward v.point V.to.point) V.start.dir V.onward

  n-is : IsDirection c.normal
  n-is = normal-is (S.cones i v V.is_from).valid.shaped k (arc_item c) first.item

  level-is : dot c.normal V.start.dir ≡ pos 0
  level-is = end-level s C S (corner_of_numbers i k) v c first a V.start V.is_start (inr enters)

  g-is : IsDirection g
  g-is z = u-is (nought-if c.normal V.start.dir n-is (cross-turned V.start.dir c.normal z) level-is)

  right-is : triple c.normal V.start.dir g <ℤ pos 0
  right-is = right-of c.normal V.start.dir g-is

  one-arc-into : k ≡ l
  one-arc-into = (S.cones i v V.is_from).valid.shaped.no_items_meet k l (arc_item c) (arc_item e)
      (close_way s C S (corner_of_numbers i k) v c first a V.start V.is_start g) first.item second.item
      (on-close s C S (corner_of_numbers i k) v c first a V.start V.is_start g (level-back c.normal V.start.dir) (inr (enters, right-is)))
      (on-close s C S (corner_of_numbers i l) v e second a V.start V.is_start g (level-normal c.normal e.normal g w (level-back c.normal V.start.dir))
      (inr (also, same-minus (triple c.normal V.start.dir g) (triple e.normal V.start.dir g) (turn-same c.normal e.normal V.start.dir V.start.dir g g w (dir-self V.start.dir u-is) (dir-self g g-is)) right-is)))

turned-edge : (e : Edge) (i a j b : ℕ) → Leads e i a j b → Leads e j b i a
turned-edge e i a j b (inl (f, g, h, k)) = inr (h, k, f, g)
turned-edge e i a j b (inr (f, g, h, k)) = inl (h, k, f, g)

module _ (s : Set) (C : Complex) (S : Shows s C) where
  arcs-one : (j k l : Corner) (x : IsNextArc C j k) (y : IsNextArc C j l) → y.this_arc ≡ x.this_arc → k ≡ l
  arcs-one j k l x y e =
      let p = k.vertex in let q = l.vertex in let a = x.that_arc.target in let b = y.that_arc.target in let m = j.vertex in let t = x.this_arc.source in
      let V = edge-from s C S x.number x.edge x.is_edge p a m t (turned-edge x.edge m t p a x.leads) in
      let W = subst (λ (c : Arc). EdgeFrom s C q b m c.source) e (edge-from s C S y.number y.edge y.is_edge q b m y.this_arc.source (turned-edge y.edge m y.this_arc.source q b y.leads)) in
      let same = one-vertex s C S p a q b m t V W in
      let here = is-at_one C.vertices p x.there V.from x.is_there V.is_from in
      let there = is-at_one C.vertices p y.there V.from (subst (λ (n : ℕ). IsAt C.vertices n y.there) (sym same) y.is_there) V.is_from in
      corners-equal k l same
      (one-arc-into s C S p a m t V k.item l.item x.that_arc y.that_arc (subst (λ (v : Vertex). IsAt v.map.arcs k.item x.that_arc) here x.is_that) (subst (λ (v : Vertex). IsAt v.map.arcs l.item y.that_arc) there y.is_that)
      refl (sym (one-svertex s C S p a q b m t V W))
      (SameDirection-trans x.that_arc.normal x.this_arc.normal y.that_arc.normal (SameDirection-turned x.this_arc.normal x.that_arc.normal x.one_normal)
      (subst (λ (c : Arc). SameDirection c.normal y.that_arc.normal) e y.one_normal)))

  pub one-next : HasOneNext C
  one-next j k l (inl x) (inl y) =
      let e = is-at_one C.vertices j.vertex y.here x.here y.is_here x.is_here in
      arcs-one j k l x y (is-at_one x.here.map.arcs j.item y.this_arc x.this_arc (subst (λ (v : Vertex). IsAt v.map.arcs j.item y.this_arc) e y.is_this) x.is_this)
  one-next j k l (inl x) (inr (e, v, o, h)) = absurd (arc-no_sloop s C S j x.here v x.this_arc o x.is_here x.is_this h)
  one-next j k l (inr (e, v, o, h)) (inl y) = absurd (arc-no_sloop s C S j y.here v y.this_arc o y.is_here y.is_this h)
  one-next j k l (inr x) (inr y) = sym (x.0) ∙ y.0
