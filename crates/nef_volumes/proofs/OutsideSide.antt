-- Some side of each of the program's complexes is outside: the one above a corner of the frame.
use Rattle.nef_volumes.proofs.Prelude.{◌≡◌, ℕ, ◌+◌, ◌*◌, ◌<◌, ℤ, pos, negsuc, neg_ℤ, ◌+ℤ◌, ◌*ℤ◌, ◌<ℤ◌, nat_abs, [], ◌∷◌, arith, refl, sym, subst, ints, mul_pos, by_order, lt_by, at, num, neg, ◌⊕◌, ◌⊖◌, ◌⊗◌, half_side, SpacePoint, Ratio, Set, Germ, IsVertex, Vector, vector, up, Out, slide, FlatCone, FlatCone-from_flat, Germ-same, same-point_sym, IsAt, MapLabel, at_svertex, on_item, seen, SeenAs, on-level, SphereMap, map_of, IsSphereMap, is-at_map, map-ahead, Vertex, VertexSide, HasSideLabel, Shows, germ-label, vertex_of, complex_of, dir-self}
use Rattle.nef_geo.proofs.InPlane.{up-direction}
use Rattle.nef_complex.specs.declared.complex.Complex.{Complex}
use Rattle.nef_locate.proofs.UpwardSides.{no-svertex}
use Rattle.nef_volumes.proofs.SideLabels.{HasLeastMaps}
use Rattle.nef_conn.proofs.FirstMet.{step-inside}

-- the corner at the high ends of all axes
abbrev corner : SpacePoint
corner = record { x = pos half_side; y = pos half_side; z = pos half_side; w = 1; proper = omega arith }

-- ---- the directions in which the corner has the label Out
past : (m : ℤ) (b : ℕ) → pos 0 <ℤ m → nat_abs (pos half_side *ℤ pos b +ℤ m) < half_side * (1 * b) → ⊥
past m b h f = omega (arith, ints, h, f)

-- one that leads beyond a side
beyond-x : (s : Set) (d : Vector) → pos 0 <ℤ d.x → Germ s corner d Out
beyond-x s d h = (1, omega arith, λ t k i. let m = mul_pos t.a d.x k.0 h in let f = i.along_x in past (t.a *ℤ pos 1 *ℤ d.x) t.b (let e : t.a *ℤ pos 1 *ℤ d.x ≡ t.a *ℤ d.x = grind (arith, ints) in omega (arith, ints, e, m)) f)

beyond-y : (s : Set) (d : Vector) → pos 0 <ℤ d.y → Germ s corner d Out
beyond-y s d h = (1, omega arith, λ t k i. let m = mul_pos t.a d.y k.0 h in let f = i.along_y in past (t.a *ℤ pos 1 *ℤ d.y) t.b (let e : t.a *ℤ pos 1 *ℤ d.y ≡ t.a *ℤ d.y = grind (arith, ints) in omega (arith, ints, e, m)) f)

beyond-z : (s : Set) (d : Vector) → pos 0 <ℤ d.z → Germ s corner d Out
beyond-z s d h = (1, omega arith, λ t k i. let m = mul_pos t.a d.z k.0 h in let f = i.along_z in past (t.a *ℤ pos 1 *ℤ d.z) t.b (let e : t.a *ℤ pos 1 *ℤ d.z ≡ t.a *ℤ d.z = grind (arith, ints) in omega (arith, ints, e, m)) f)

-- but not the one into the frame
not-inward : (s : Set) → Germ s corner (vector (negsuc 0) (negsuc 0) (negsuc 0)) Out → ⊥
not-inward s (n, some, f) =
    let t : Ratio = record { a = pos 1; b = n + 1; proper = omega arith } in
    f t (omega (arith, ints), omega (arith, ints)) (record { along_x = step-inside n; along_y = step-inside n; along_z = step-inside n })

-- ---- the corner is a vertex
-- twice the square of a number that isn't zero is more than one
square : (m : ℤ) → (m ≡ pos 0 → ⊥) → pos 0 <ℤ (pos 1 *ℤ negsuc 0 +ℤ pos 2 *ℤ m *ℤ m)
square m n = by_order m (pos 0)
    (λ h. let q = mul_pos (neg_ℤ m) (neg_ℤ m) (omega (arith, ints, h)) (omega (arith, ints, h)) in
    lt_by (m ∷ []) (num (pos 0)) (num (pos 1) ⊗ num (negsuc 0) ⊕ num (pos 2) ⊗ at 0 ⊗ at 0) (neg (at 0) ⊗ neg (at 0) ⊕ (neg (at 0) ⊗ neg (at 0) ⊖ num (pos 1))) tt (let r = neg_ℤ m *ℤ neg_ℤ m in omega (arith, ints, q)))
    (λ h. absurd (n h))
    (λ h. let q = mul_pos m m h h in lt_by (m ∷ []) (num (pos 0)) (num (pos 1) ⊗ num (negsuc 0) ⊕ num (pos 2) ⊗ at 0 ⊗ at 0) (at 0 ⊗ at 0 ⊕ (at 0 ⊗ at 0 ⊖ num (pos 1))) tt (omega (arith, ints, q)))

module _ (s : Set) (d : Vector) (f : FlatCone s corner d) where
  -- a flat direction would carry the way inward beyond the side
  carried : (e : Vector) → Germ s corner e Out → (a : ℤ) → e ≡ slide 1 (vector (negsuc 0) (negsuc 0) (negsuc 0)) a d → ⊥
  carried e g a i = not-inward s ((f (vector (negsuc 0) (negsuc 0) (negsuc 0)) 1 a (omega arith) Out).1 (subst (λ (v : Vector). Germ s corner v Out) i g))

  level-x : (d.x ≡ pos 0 → ⊥) → ⊥
  level-x n = let a = pos 2 *ℤ d.x in let e = slide 1 (vector (negsuc 0) (negsuc 0) (negsuc 0)) a d in carried e (beyond-x s e (square d.x n)) a refl

  level-y : (d.y ≡ pos 0 → ⊥) → ⊥
  level-y n = let a = pos 2 *ℤ d.y in let e = slide 1 (vector (negsuc 0) (negsuc 0) (negsuc 0)) a d in carried e (beyond-y s e (square d.y n)) a refl

  level-z : (d.z ≡ pos 0 → ⊥) → ⊥
  level-z n = let a = pos 2 *ℤ d.z in let e = slide 1 (vector (negsuc 0) (negsuc 0) (negsuc 0)) a d in carried e (beyond-z s e (square d.z n)) a refl

zero-if : (m : ℤ) → ((m ≡ pos 0 → ⊥) → ⊥) → m ≡ pos 0
zero-if m n = by_order m (pos 0) (λ h. absurd (n (λ e. omega (arith, ints, h, e)))) (λ e. e) (λ h. absurd (n (λ e. omega (arith, ints, h, e))))

corner-vertex : (s : Set) → IsVertex s corner
corner-vertex s = (tt, λ (d, i, F). let f = FlatCone-from_flat s corner d F in i (zero-if d.x (level-x s d f), zero-if d.y (level-y s d f), zero-if d.z (level-z s d f)))

-- ---- the side above it
upward-seen : (m : SphereMap) → IsSphereMap m → MapLabel (map_of m) up Out → SeenAs (map_of m) up Out
upward-seen m S (at_svertex k v a w e) = absurd (no-svertex m S k v a w)
upward-seen m S (on_item k x a o e) = let z = on-level (map_of m) x up o in let p = map-ahead m S k x a in absurd (omega (arith, ints, z, p))
upward-seen m S (seen h) = h

-- SOME SIDE IS OUTSIDE
pub out-side : (s : Set) (c : Complex) → Shows s (complex_of c) → HasLeastMaps c → (x : VertexSide) × HasSideLabel (complex_of c) x Out
out-side s c S maps =
    let (i, v, a, e) = S.complete corner (corner-vertex s) in
    let (u, b, f) = is-at_map vertex_of c.vertices i v a in
    let g = Germ-same s corner v.point up up Out (same-point_sym v.point corner e) (dir-self up up-direction) (beyond-x s up (omega (arith, ints))) in
    let l = germ-label v.map s v.point (S.cones i v a) up Out up-direction g in
    let M = maps i u b in
    let h = upward-seen u.map M.sphere_map (subst (λ (w : Vertex). MapLabel w.map up Out) (sym f) l) in
    (record { vertex = i; side = h.side }, (vertex_of u, subst (λ (w : Vertex). IsAt (complex_of c).vertices i w) (sym f) a, h.has))
