-- Two arcs with one normal that begin at one svertex, or end at one, are one arc.
use Rattle.law_geometry.proofs.turns.Prelude.{◌≡◌, ℕ, pos, neg_ℤ, true, ap, sym, ◌∙◌, subst, Vector, dot, IsDirection, SameDirection, opposite, IsStrictlyOn, way_back_passes_the_same, IsAt, Arc, arc_item, Map, items, dir_of, Shaped, item-point, Ends, ends-of, at-arc, normal-is, ends-together}
use Rattle.law_geometry.proofs.turns.Turning.{signed-dot, zero-signed}

module _ (M : Map) (V : Shaped M) (i j : ℕ) (a b : Arc) (at-a : IsAt M.arcs i a) (at-b : IsAt M.arcs j b) (normal : a.normal ≡ b.normal) where
  abbrev n : Vector
  n = a.normal

  E : Ends M a
  E = ends-of M V i a at-a

  D : Ends M b
  D = ends-of M V j b at-b

  abbrev s : Vector
  s = dir_of M.svertices a.source

  abbrev t : Vector
  t = dir_of M.svertices a.target

  abbrev u : Vector
  u = dir_of M.svertices b.source

  abbrev v : Vector
  v = dir_of M.svertices b.target

  item-a : IsAt (items M) i (arc_item a)
  item-a = at-arc M.arcs M.sloop i a at-a

  item-b : IsAt (items M) j (arc_item b)
  item-b = at-arc M.arcs M.sloop j b at-b

  n-is : IsDirection n
  n-is = normal-is V i (arc_item a) item-a

  u-level : dot n u ≡ pos 0
  u-level = subst (λ (r : Vector). dot r u ≡ pos 0) (sym normal) D.source_level

  v-level : dot n v ≡ pos 0
  v-level = subst (λ (r : Vector). dot r v ≡ pos 0) (sym normal) D.target_level

  -- with both ends in common they have a point in common
  joined : a.source ≡ b.source → a.target ≡ b.target → i ≡ j
  joined e f =
      let (y, on) = item-point M V i (arc_item a) item-a in
      V.no_items_meet i j (arc_item a) (arc_item b) y item-a item-b on
      (subst (λ (k : ℕ). IsStrictlyOn b.normal u (dir_of M.svertices k) y) f (subst (λ (k : ℕ). IsStrictlyOn b.normal (dir_of M.svertices k) t y) e (subst (λ (r : Vector). IsStrictlyOn r s t y) normal on)))

  pub arcs-begin : a.source ≡ b.source → i ≡ j
  arcs-begin e = joined e (V.svertices_apart a.target b.target E.target D.target E.has_target D.has_target
      (subst (λ (r : Vector). SameDirection r D.target.dir) E.target_is (subst (λ (r : Vector). SameDirection t r) D.target_is together)))
    where
      together : SameDirection t v
      together = ends-together n s t v n-is E.source_direction E.target_direction D.target_direction E.source_level E.target_level v-level
          (λ on. V.no_svertex_on_item b.target i D.target (arc_item a) D.has_target item-a (subst (λ (r : Vector). IsStrictlyOn n s t r) D.target_is on))
          (λ on. V.no_svertex_on_item a.target j E.target (arc_item b) E.has_target item-b
          (subst (λ (r : Vector). IsStrictlyOn b.normal u v r) E.target_is (subst (λ (k : ℕ). IsStrictlyOn b.normal (dir_of M.svertices k) v t) e (subst (λ (r : Vector). IsStrictlyOn r s v t) normal on))))

  -- about the opposite normal both begin where they ended
  back : (p q x : Vector) → IsDirection p → IsDirection q → dot n p ≡ pos 0 → dot n q ≡ pos 0 → IsStrictlyOn (opposite n) q p x → IsStrictlyOn n p q x
  back p q x hp hq lp lq = (way_back_passes_the_same n p q x n-is (record { direction = hp; level = lp }) (record { direction = hq; level = lq })).0

  pub arcs-end : a.target ≡ b.target → i ≡ j
  arcs-end f = joined (V.svertices_apart a.source b.source E.source D.source E.has_source D.has_source
      (subst (λ (r : Vector). SameDirection r D.source.dir) E.source_is (subst (λ (r : Vector). SameDirection s r) D.source_is together))) f
    where
      level-opposite : (x : Vector) → dot n x ≡ pos 0 → dot (opposite n) x ≡ pos 0
      level-opposite x e = signed-dot true n x ∙ ap neg_ℤ e

      together : SameDirection s u
      together = ends-together (opposite n) t s u (λ z. n-is ((zero-signed true n).0 z)) E.target_direction E.source_direction D.source_direction
          (level-opposite t E.target_level) (level-opposite s E.source_level) (level-opposite u u-level)
          (λ on. V.no_svertex_on_item b.source i D.source (arc_item a) D.has_source item-a
          (subst (λ (r : Vector). IsStrictlyOn n s t r) D.source_is (back s t u E.source_direction E.target_direction E.source_level E.target_level on)))
          (λ on. V.no_svertex_on_item a.source j E.source (arc_item b) E.has_source item-b
          (subst (λ (r : Vector). IsStrictlyOn b.normal u v r) E.source_is (subst (λ (k : ℕ). IsStrictlyOn b.normal u (dir_of M.svertices k) s) f
          (subst (λ (r : Vector). IsStrictlyOn r u t s) normal (back u t s D.source_direction E.target_direction u-level E.target_level on)))))
