-- Close to a point of a set the points toward a free direction of its map have three flat directions, and those toward an item two; two directions on one item are tied.
use Rattle.law_geometry.proofs.complex.links.Prelude.{◌≡◌, ℕ, ◌+◌, ◌<◌, pos, nat_abs, arith, refl, ap, sym, ◌∙◌, ◌∷◌, subst, [], ints, Sign, nought, sign, Germ, FlatDim, SpacePoint, Set, Vector, vector, blend, dot, cross, SameDirection, Label, IsStrictlyOn, ahead, near-ahead, sign-large, by_side, Cone, Map, Arc, Item, arc_item, sloop_item, item_normal, item_pos, item_mark, item_neg, OnItem, IsFree, dir_of, Shaped, dot-comb, normal-is, amount, label-exists, near-free, near-item, past_source, arc-at, ends-of, Vertex, Complex, Corner, IsCorner, Shows, near-germ, IsInFacetOf, in-facet}
use Rattle.law_geometry.proofs.sphere.Labels.{mixed-sign}
use Rattle.law_geometry.proofs.complex.FacetSides.{IsSided, one-label-flat}
use Rattle.law_geometry.proofs.complex.links.Ties.{even-fan, ahead-way, IsTied, tied-even, tied-cell, tied-both, tied-turned, tied-itself}
use Rattle.law_geometry.proofs.sphere.ArcWays.{arc-all}
use Rattle.law_geometry.proofs.complex.links.ItemWays.{circle-all}

-- where all germs are one, all directions are flat
pub one-label-dim : (s : Set) (q : SpacePoint) (m : Label) → ((e : Vector) → Germ s q e m) → FlatDim s q 3
one-label-dim s q m all =
    let x = vector (pos 1) (pos 0) (pos 0) in
    let y = vector (pos 0) (pos 1) (pos 0) in
    let z = vector (pos 0) (pos 0) (pos 1) in
    ((x, y, z, (λ e. omega (arith, ints, e)), one-label-flat s q m all x y refl, one-label-flat s q m all y x refl, one-label-flat s q m all z x refl), λ h. h)

-- ---- toward a free direction
pub free-dim : (M : Map) (s : Set) (p : SpacePoint) → Cone M s p → (d : Vector) → IsFree M d → FlatDim s (ahead s p d) 3
free-dim M s p K d F =
    let m = label-exists M K.valid d F.direction in
    one-label-dim s (ahead s p d) m.0 (λ e. (near-ahead s p d e m.0).1 (near-germ M s p K d e m.0 (near-free M K.valid d F m.0 m.1 e)))

-- ---- off a plane that parts the germs
module _ (s : Set) (z : SpacePoint) (n : Vector) (a m b : Label) (all : IsSided s z n a m b) where
  pub off-plane : (d : Vector) → (sign (dot n d) ≡ nought → ⊥) → FlatDim s (ahead s z d) 3
  off-plane d off = one-label-dim s (ahead s z d) l (λ e. (near-ahead s z d e l).1 (
    nat_abs (dot n e) + 1,
    λ k h.
        subst (λ (t : Sign). Germ s z (blend k d 1 e) (by_side a m b t))
        (ap sign (dot-comb n (pos k) d (pos 1) e) ∙ sign-large (dot n d) (dot n e) k (omega arith) off) (all (blend k d 1 e)),
  ))
    where
      l : Label
      l = by_side a m b (sign (dot n d))

  -- directions off the plane to one side are tied
  pub tied-off : (d e : Vector) → (sign (dot n d) ≡ nought → ⊥) → sign (dot n e) ≡ sign (dot n d) → IsTied s (ahead s z d) (ahead s z e)
  tied-off d e off same = tied-even s 3 (ahead s z d) (ahead s z e) (even-fan s z d e 3 (off-plane d off) (off-plane e (λ o. off (sym same ∙ o)))
      (λ i j si sj. off-plane (blend i d j e) (λ o. off (sym (ap sign (dot-comb n (pos i) d (pos j) e) ∙ mixed-sign (dot n d) (dot n e) i j si sj same) ∙ o))))

-- ---- toward an item
module _ (s : Set) (C : Complex) (S : Shows s C) (k : Corner) (v : Vertex) (x : Item) (c : IsCorner C k v x) where
  abbrev K : Cone v.map s v.point
  K = S.cones k.vertex v c.vertex

  abbrev V : Shaped v.map
  V = K.valid.shaped

  pub facet-near : (d : Vector) → OnItem v.map x d → IsInFacetOf s x (ahead s v.point d)
  facet-near d o = in-facet s C S k v x c (ahead s v.point d) (λ e.
      let l = by_side (item_pos x) (item_mark x) (item_neg x) (sign (dot (item_normal x) e)) in
      (near-ahead s v.point d e l).1 (near-germ v.map s v.point K d e l (near-item v.map K.valid d k.item x c.item o e)))

  item-fan : (d e : Vector) → OnItem v.map x d → OnItem v.map x e → ((i j : ℕ) → 0 < i → 0 < j → OnItem v.map x (blend i d j e)) → IsTied s (ahead s v.point d) (ahead s v.point e)
  item-fan d e a b all = tied-even s 2 (ahead s v.point d) (ahead s v.point e) (even-fan s v.point d e 2
      (let f = facet-near d a in f.dim) (let f = facet-near e b in f.dim) (λ i j si sj. let f = facet-near (blend i d j e) (all i j si sj) in f.dim))

-- the points toward two directions of one item are tied
module _ (s : Set) (C : Complex) (S : Shows s C) (k : Corner) (v : Vertex) where
  abbrev Reached : Vector → Vector → Type 0
  Reached d e = IsTied s (ahead s v.point d) (ahead s v.point e)

  onward : (d a b : Vector) → Reached a b → Reached d a → Reached d b
  onward d a b w t = tied-both s (ahead s v.point d) (ahead s v.point a) (ahead s v.point b) t w

  turned : (d e : Vector) → Reached d e → Reached e d
  turned d e = tied-turned s (ahead s v.point d) (ahead s v.point e)

  same-way : (d e : Vector) → SameDirection d e → Reached d e
  same-way d e w = tied-cell s (ahead s v.point d) (ahead s v.point e) (ahead-way s v.point d e w)

  module _ (r : Arc) (c : IsCorner C k v (arc_item r)) where
    abbrev n : Vector
    n = r.normal

    abbrev u : Vector
    u = dir_of v.map.svertices r.source

    abbrev w : Vector
    w = dir_of v.map.svertices r.target

    abbrev y : Vector
    y = past_source n u (amount (cross w n ∷ []) (cross n u))

    from-y : (f : Vector) → IsStrictlyOn n u w f → Reached y f
    from-y f o =
        let V = (S.cones k.vertex v c.vertex).valid.shaped in
        let E = ends-of v.map V k.item r (arc-at v.map.arcs v.map.sloop k.item r c.item) in
        arc-all n u w (normal-is V k.item (arc_item r) c.item) E.source_direction E.target_direction E.source_level E.target_level (λ g. Reached y g)
        (λ g h i j z t. onward y g h (same-way g h z) t)
        (λ g h i j apart all t. onward y g h (item-fan s C S k v (arc_item r) c g h i j all) t)
        (amount (cross w n ∷ []) (cross n u)) (omega arith) (tied-itself s (ahead s v.point y)) f o

    arc-tied : (d e : Vector) → OnItem v.map (arc_item r) d → OnItem v.map (arc_item r) e → Reached d e
    arc-tied d e a b = onward d y e (from-y e b) (turned y d (from-y d a))

  pub item-tied : (x : Item) → IsCorner C k v x → (d e : Vector) → OnItem v.map x d → OnItem v.map x e → IsTied s (ahead s v.point d) (ahead s v.point e)
  item-tied (sloop_item l) c d e a b = circle-all l.normal (normal-is (S.cones k.vertex v c.vertex).valid.shaped k.item (sloop_item l) c.item) (λ f. Reached d f)
      (λ f g w t. onward d f g (same-way f g w) t)
      (λ f g i j all t. onward d f g (item-fan s C S k v (sloop_item l) c f g i j all) t) d e a b (tied-itself s (ahead s v.point d))
  item-tied (arc_item r) c d e a b = arc-tied r c d e a b
