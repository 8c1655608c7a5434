-- What each link of the program joins.
use Rattle.nef_smap.proofs.Prelude.{◌≡◌, ℕ, ℤ, pos, ◌*ℤ◌, ◌<ℤ◌, arith, ap, sym, ◌∙◌, List, [], ◌∷◌, map, slice_get, subst, Some, ints, ring, at, num, ◌⊕◌, ◌⊖◌, ◌⊗◌, follows, given, none, mul_pos, normal_limit, svertex_limit, Vector, IsDirection, IsZero, IsAtMost, cross, triple, dot, up, opposite, SameDirection, same-nought, vector_of, IsAt, Item, arc_item, items, item_normal, same-plus, dir-at, at-arc, SArc, SVertex, SphereMap, svertex_of, arc_of, map_of, IsSphereMap, dot-zero, self-pos, triple-dot, dir-signs, apart, direction-left, map-is_at, axis_x, axis_y}
use Rattle.nef_geo.proofs.Directions.{small-neg}
use Rattle.nef_smap.proofs.CloseSigns.{dir-from_get}
use Rattle.nef_smap.proofs.Sound.{along-turn}
use Rattle.nef_smap.proofs.Stands.{dot-opposite}
use Rattle.nef_smap.proofs.Upward.{map-ahead, map-across}

-- ---- svertices
pub svertex-listed : (vs : List SVertex) (k : ℕ) (v : SVertex) → slice_get vs k ≡ Some v → IsAt (map svertex_of vs) k (svertex_of v)
svertex-listed = map-is_at svertex_of

module _ (m : SphereMap) (S : IsSphereMap m) (k : ℕ) (v : SVertex) (a : slice_get m.svertices k ≡ Some v) where
  listed : IsAt (map svertex_of m.svertices) k (svertex_of v)
  listed = svertex-listed m.svertices k v a

  pub dir-across : IsDirection (cross up (vector_of v.dir))
  dir-across = map-across m S k (svertex_of v) listed

  pub dir-small : IsAtMost svertex_limit (vector_of v.dir)
  dir-small = let s = S.small in s.svertices k (svertex_of v) listed

pub back-off : (c d e : Vector) → e ≡ opposite d → (dot c d ≡ pos 0 → ⊥) → dot c e ≡ pos 0 → ⊥
back-off c d e q f z = f (let g = dot-opposite c d in let h = subst (λ (r : Vector). dot c r ≡ pos 0) q z in omega (arith, ints))

pub back-small : (k : ℕ) (d e : Vector) → e ≡ opposite d → IsAtMost k d → IsAtMost k e
back-small k d e q s = record {
  of_x = small-neg k d.x e.x (ap (λ (v : Vector). v.x) q) s.of_x;
  of_y = small-neg k d.y e.y (ap (λ (v : Vector). v.y) q) s.of_y;
  of_z = small-neg k d.z e.z (ap (λ (v : Vector). v.z) q) s.of_z;
}

pub one-small : (d : Vector) → IsAtMost 1 d → IsAtMost svertex_limit d
one-small d s = let x = s.of_x in let y = s.of_y in let z = s.of_z in record { of_x = omega (arith, x); of_y = omega (arith, y); of_z = omega (arith, z) }

-- ---- items
pub arc-listed : (as' : List SArc) (k : ℕ) (a : SArc) → slice_get as' k ≡ Some a → IsAt (map arc_of as') k (arc_of a)
arc-listed = map-is_at arc_of

-- ---- directions in a plane
pub cross-level : (n x d : Vector) → SameDirection (cross n x) d → dot n d ≡ pos 0
cross-level n x d w = same-nought (dot n (cross n x)) (dot n d) (dir-signs (cross n x) d n (direction-left (cross n x) d w) w)
    (ring (n.x ∷ n.y ∷ n.z ∷ x.x ∷ x.y ∷ x.z ∷ []) (at 0 ⊗ (at 1 ⊗ at 5 ⊖ at 2 ⊗ at 4) ⊕ at 1 ⊗ (at 2 ⊗ at 3 ⊖ at 0 ⊗ at 5) ⊕ at 2 ⊗ (at 0 ⊗ at 4 ⊖ at 1 ⊗ at 3)) (num (pos 0)) tt)

pub plane-some : (n x y : Vector) → IsDirection n → x ≡ axis_x → y ≡ axis_y → IsZero (cross n x) → IsZero (cross n y) → ⊥
plane-some n x y h a b p q =
    let i : IsZero (cross n axis_x) = subst (λ (v : Vector). IsZero (cross n v)) a p in
    let j : IsZero (cross n axis_y) = subst (λ (v : Vector). IsZero (cross n v)) b q in
    let e = i.1 in let f = i.2 in let g = j.2 in
    h (omega (arith, ints), omega (arith, ints), omega (arith, ints))

-- the direction along the circle of n from s, by an axis whose product with s is positive
module _ (n s a : Vector) (hn : IsDirection n) (ls : dot n s ≡ pos 0) (h : pos 0 <ℤ dot s a) where
  along-ahead : pos 0 <ℤ dot (cross n s) (cross n a)
  along-ahead =
      let ss = mul_pos (dot n n) (dot s a) (self-pos n hn) h in
      let e = cross-product in omega (arith, ints)
    where
      cross-product : dot (cross n s) (cross n a) ≡ dot n n *ℤ dot s a
      cross-product =
          let nx = at 0 in let ny = at 1 in let nz = at 2 in
          let sx = at 3 in let sy = at 4 in let sz = at 5 in
          let ax = at 6 in let ay = at 7 in let az = at 8 in
          follows (n.x ∷ n.y ∷ n.z ∷ s.x ∷ s.y ∷ s.z ∷ a.x ∷ a.y ∷ a.z ∷ [])
          ((ny ⊗ sz ⊖ nz ⊗ sy) ⊗ (ny ⊗ az ⊖ nz ⊗ ay) ⊕ (nz ⊗ sx ⊖ nx ⊗ sz) ⊗ (nz ⊗ ax ⊖ nx ⊗ az) ⊕ (nx ⊗ sy ⊖ ny ⊗ sx) ⊗ (nx ⊗ ay ⊖ ny ⊗ ax))
          ((nx ⊗ nx ⊕ ny ⊗ ny ⊕ nz ⊗ nz) ⊗ (sx ⊗ ax ⊕ sy ⊗ ay ⊕ sz ⊗ az))
          (given (num (pos 0) ⊖ (nx ⊗ ax ⊕ ny ⊗ ay ⊕ nz ⊗ az)) (nx ⊗ sx ⊕ ny ⊗ sy ⊕ nz ⊗ sz) (num (pos 0)) ls none) tt

  pub along-some : IsZero (cross n a) → ⊥
  along-some z = let e = dot-zero (cross n s) (cross n a) z in let p = along-ahead in omega (arith, ints)

  pub along-forward : (r : Vector) → SameDirection (cross n a) r → pos 0 <ℤ triple n s r
  along-forward r w = subst (λ (z : ℤ). pos 0 <ℤ z) (sym (triple-dot n s r)) (same-plus (dot (cross n s) (cross n a)) (dot (cross n s) r) (dir-signs (cross n a) r (cross n s) (direction-left (cross n a) r w) w) along-ahead)

-- such a direction isn't in the plane of u and s
pub along-off : (n s r u : Vector) → dot n s ≡ pos 0 → dot n r ≡ pos 0 → pos 0 <ℤ triple n s r → pos 0 <ℤ dot n u → dot (cross u s) r ≡ pos 0 → ⊥
along-off n s r u p q h k e =
    let i = along-turn n s r u p q in
    let f = ap (λ x. dot n n *ℤ x) e in
    let o = ring (dot n n ∷ []) (at 0 ⊗ num (pos 0)) (num (pos 0)) tt in
    let g = mul_pos (triple n s r) (dot n u) h k in
    omega (arith, ints)

module _ (m : SphereMap) (S : IsSphereMap m) where
  pub normal-small : (k : ℕ) (x : Item) → IsAt (items (map_of m)) k x → IsAtMost normal_limit (item_normal x)
  normal-small k x a = let s = S.small in s.normals k x a

  pub arc-item_listed : (k : ℕ) (r : SArc) → slice_get m.arcs k ≡ Some r → IsAt (items (map_of m)) k (arc_item (arc_of r))
  arc-item_listed k r a = at-arc (map_of m).arcs (map_of m).sloop k (arc_of r) (arc-listed m.arcs k r a)

  -- a direction in the plane of an item isn't parallel to the upward direction
  pub plane-across : (k : ℕ) (x : Item) → IsAt (items (map_of m)) k x → (d : Vector) → IsDirection d → dot (item_normal x) d ≡ pos 0 → IsDirection (cross up d)
  plane-across k x a d h z = apart (item_normal x) up d (λ e. let p = map-ahead m S k x a in omega (arith, ints)) z h

  module _ (k : ℕ) (r : SArc) (a : slice_get m.arcs k ≡ Some r) (v : SVertex) (b : slice_get m.svertices r.source ≡ Some v) where
    pub source-level : dot (vector_of r.normal) (vector_of v.dir) ≡ pos 0
    source-level =
        let w = S.valid in
        let e = w.shaped.arcs_between k (arc_of r) (arc-listed m.arcs k r a) in
        subst (λ (d : Vector). dot (vector_of r.normal) d ≡ pos 0)
        (sym (dir-at (map svertex_of m.svertices) r.source e.source e.has_source) ∙ dir-from_get m.svertices r.source v b) e.level_source
