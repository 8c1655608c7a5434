-- The labels near a svertex: on a ray, and in the sector after it.
use Rattle.nef_smap.proofs.Prelude.{◌≡◌, ℕ, ◌+◌, ◌≤◌, List, pos, arith, refl, sym, ap, ◌∙◌, ⊎_elim, sign, sign-scaled, nought-or, Vector, IsDirection, cross, dot, SameDirection, blend, Label, IsOnCircle, IsAt, MapVertex, Map, arc_item, HasSide, on_item, seen, NearLabel, Valid, ArcRay, ray_left, ray_side, Unrayed, IsLastRay, SameSigns, forms, across, at-arc, amount, far-keeps, far-level, label-by_signs, near-from_far, left-on, on-end, across-side, self-pos, direction-left, square-cross, SameDirection-turned, dir-signs}
use Rattle.law_geometry.proofs.sphere.Sectors.{ray-sees}
use Rattle.nef_star.proofs.Lefts.{way-same}

-- close to p, what lies half a plane off p along m x p has the signs of that
beside-signs : (gs : List Vector) (p m e : Vector) (k : ℕ) → IsDirection p → IsOnCircle p m → SameDirection m (cross p e) → amount gs e ≤ k → amount gs (cross m p) ≤ k
    → SameSigns gs (blend k p 1 (cross m p)) (blend k p 1 e)
beside-signs gs p m e k hp on s h i g l = ⊎_elim level off (nought-or (dot g p))
  where
    turned : SameDirection (cross m p) (across p e)
    turned = way-same p hp m (cross p e) on (record { direction = direction-left (cross p e) m (SameDirection-turned m (cross p e) s); level = square-cross p e }) s

    level : dot g p ≡ pos 0 → sign (dot g (blend k p 1 e)) ≡ sign (dot g (blend k p 1 (cross m p)))
    level z =
        far-level gs p e k h g z
        ∙ sym (ap sign (across-side g p e z) ∙ sign-scaled (dot p p) (dot g e) (self-pos p hp))
        ∙ dir-signs (cross m p) (across p e) g (direction-left (cross m p) (across p e) turned) turned
        ∙ sym (far-level gs p (cross m p) k i g z)

    off : (dot g p ≡ pos 0 → ⊥) → sign (dot g (blend k p 1 e)) ≡ sign (dot g (blend k p 1 (cross m p)))
    off f = far-keeps gs p e k h g l f ∙ sym (far-keeps gs p (cross m p) k i g l f)

module _ (M : Map) (V : Valid M) (k : ℕ) (v : MapVertex) (a : IsAt M.svertices k v) where
  abbrev p : Vector
  p = v.dir

  hp : IsDirection p
  hp = V.shaped.svertex_dirs k v a

  -- on a ray there is the arc's mark
  pub ray-label : (q : ArcRay M k) (e : Vector) → SameDirection (ray_left q) (cross p e) → NearLabel M p e q.arc.mark
  ray-label q e s =
      let along = cross (ray_left q) p in
      let o = on-end M V.shaped k v a q in
      let n = amount (forms M) e + amount (forms M) along + o.0 in
      near-from_far M V p e n (omega arith) q.arc.mark
      (label-by_signs M V (blend n p 1 along) (blend n p 1 e) (beside-signs (forms M) p (ray_left q) e n hp (left-on M V.shaped k v a q) s (omega arith) (omega arith)) q.arc.mark
      (on_item q.number (arc_item q.arc) (at-arc M.arcs M.sloop q.number q.arc q.listed) (o.1 n (omega arith)) refl))

  -- in the sector after a ray there is the label of its side
  pub after-label : (q : ArcRay M k) (e : Vector) (l : Label) → IsDirection (cross p e) → HasSide M (ray_side q) l → Unrayed M k p e → IsLastRay M k p e q → NearLabel M p e l
  after-label q e l off has free last =
      let s = ray-sees M V.shaped k v a e off q free last in
      (s.0, λ n large. seen (record { side = ray_side q; has = has; sees = s.1 n large }))
