-- The strip between two lines along d in the plane of h: on y's line lie vertices, between it and z's line and on z's line none. g is h or its opposite, so that z lies to the right of y's line.
use Rattle.nef_conn.proofs.Prelude.{◌≡◌, ℕ, ◌+◌, ℤ, pos, ◌+ℤ◌, ◌-ℤ◌, ◌*ℤ◌, ◌<ℤ◌, ◌≤ℤ◌, arith, refl, ap, sym, ◌∙◌, ◌⊎◌, inl, inr, ⊎_elim, ◌∷◌, subst, [], ints, sign, ring, at, num, ◌⊕◌, ◌⊖◌, ◌⊗◌, mul_pos, mul_nonneg, cancel_le, by_order, sign-scaled, nought-is, nonneg-of, minus-of, plus-of, mul_neg, Flat, FlatDim, IsVertex, SpacePoint, Form, form_at, normal_of, slope, plane_through, SamePoint, toward, IsBetween, Set, Vector, opposite, dot, cross, triple, IsZero, IsDirection, IsNormal, SameDirection, FlatDim-one, between-turned, signs-same, same-point_sym, slope-toward, toward-point, point-toward, between-same, IsAt, same-plus, same-minus, Beside, same_way, other_way, beside, turn-last, turn-same, turns, Vertex, Complex, Shows, IsVertexPoint, IsFlatIn, same-point_trans, plane-way, same-by, aligned, through-at, through-slope, angle, turn_form, turn-at, angle-turned, angle-self, angle-start, angle-inside, between-plus, between-minus, angle-cyclic, HalfEdge, plane-between, below-or, weight-positive, toward-turned, IsInTriangle, LiesAlong, zero-decided, dot-zero, triple-dot, level-opposite-back, triple-middle, triple-turned, SameDirection-turned, SameDirection-trans, dir-self, parallel-in_plane, opposite-same, dot-opposite, opposite-way, opposite-twice, direction-right, right-turn}
use Rattle.nef_conn.proofs.Sweep.{minus-any, cut-of}
use Rattle.nef_conn.proofs.Triangles.{half-to, never-along, third-side, at-corner, on-second}
use Rattle.nef_conn.proofs.Sector.{Seen, seen-level}
use Rattle.law_geometry.proofs.complex.FacetAngles.{turn_entry, way_entry}
use Rattle.law_geometry.proofs.complex.FacetEnds.{level-normal}
use Rattle.law_geometry.proofs.near.Same.{level-same_point, one-not_two, dim-same}
use Rattle.nef_space.proofs.Elementary.{same-itself}

-- from a to c, both left out, the points lie within a facet, a itself being on no edge, or on an edge: on that of a, or a is on none
abbrev pub SideWithin : Set → SpacePoint → SpacePoint → Type 0
SideWithin s a c = (((FlatDim s a 1 → ⊥) × ((r : SpacePoint) → IsBetween a r c → FlatDim s r 2)) ⊎ (FlatDim s a 1 × Flat s a (toward a c) × ((r : SpacePoint) → IsBetween a r c → FlatDim s r 1)))
    ⊎ ((FlatDim s a 1 → ⊥) × ((r : SpacePoint) → IsBetween a r c → FlatDim s r 1 × Flat s r (toward a c)))

-- ---- forms with one normal
-- on its plane, a form has the sign of the slope from there
sign-through : (k : Vector) (b p q : SpacePoint) → form_at (plane_through k b) p ≡ pos 0 → sign (dot k (toward p q)) ≡ sign (form_at (plane_through k b) q)
sign-through k b p q e =
    let F = plane_through k b in
    sym (sign-scaled (pos b.w) (dot k (toward p q)) (weight-positive b)) ∙ ap sign (sym (through-slope k b (toward p q)) ∙ slope-toward F p q ∙ plain (form_at F p) (form_at F q) e) ∙ sign-scaled (pos p.w) (form_at F q) (weight-positive p)
  where
    plain : (a c : ℤ) → a ≡ pos 0 → pos p.w *ℤ c -ℤ pos q.w *ℤ a ≡ pos p.w *ℤ c
    plain a c e = ap (λ r. pos p.w *ℤ c -ℤ pos q.w *ℤ r) e ∙ ring (pos p.w ∷ c ∷ pos q.w ∷ []) (at 0 ⊗ at 1 ⊖ at 2 ⊗ num (pos 0)) (at 0 ⊗ at 1) tt

-- from y over z
shift : (k : Vector) (y z q : SpacePoint) → pos z.w *ℤ dot k (toward y q) ≡ pos y.w *ℤ dot k (toward z q) +ℤ pos q.w *ℤ dot k (toward y z)
shift k y z q = ring (k.x ∷ k.y ∷ k.z ∷ y.x ∷ y.y ∷ y.z ∷ pos y.w ∷ z.x ∷ z.y ∷ z.z ∷ pos z.w ∷ q.x ∷ q.y ∷ q.z ∷ pos q.w ∷ [])
    (at 10 ⊗ (at 0 ⊗ way_entry 3 11 0 ⊕ at 1 ⊗ way_entry 3 11 1 ⊕ at 2 ⊗ way_entry 3 11 2))
    (at 6 ⊗ (at 0 ⊗ way_entry 7 11 0 ⊕ at 1 ⊗ way_entry 7 11 1 ⊕ at 2 ⊗ way_entry 7 11 2) ⊕ at 14 ⊗ (at 0 ⊗ way_entry 3 7 0 ⊕ at 1 ⊗ way_entry 3 7 1 ⊕ at 2 ⊗ way_entry 3 7 2)) tt

plus-same_point : (F : Form) (p q : SpacePoint) → SamePoint p q → pos 0 <ℤ form_at F p → pos 0 <ℤ form_at F q
plus-same_point F p q e h = same-plus (form_at F p) (form_at F q) (sym (signs-same (F ∷ []) p q e F (inl refl))) h

no-minus : (F : Form) (p q : SpacePoint) → SamePoint p q → pos 0 ≤ℤ form_at F p → pos 0 ≤ℤ form_at F q
no-minus F p q e h = by_order (form_at F p) (pos 0) (λ l. omega (arith, ints)) (λ z. let w = level-same_point F p q e z in omega (arith, ints)) (λ l. let w = plus-same_point F p q e l in omega (arith, ints))

no-plus : (F : Form) (p q : SpacePoint) → SamePoint p q → form_at F p ≤ℤ pos 0 → form_at F q ≤ℤ pos 0
no-plus F p q e h = by_order (form_at F q) (pos 0) (λ l. omega (arith, ints)) (λ z. omega (arith, ints)) (λ l. let w = plus-same_point F q p (same-point_sym p q e) l in omega (arith, ints))

-- an edge that ends at an equal point
half-same : (s : Set) (t x y : SpacePoint) → SamePoint x y → HalfEdge s t x → HalfEdge s t y
half-same s t x y e E = half-to s t y (λ z. E.leads (point-toward t x (same-point_trans t y x (toward-point t y z) (same-point_sym x y e)))) E.one
    (λ r m. E.all r (between-same t r y t r x (same-itself t) (same-itself r) (same-point_sym x y e) m))

-- ---- in plain numbers, so that no tactic sees what a triple is made of
first-plain : (ac vd av cd ad cv : ℤ) → ac *ℤ vd ≡ av *ℤ cd -ℤ ad *ℤ cv → pos 0 <ℤ ac → pos 0 ≤ℤ av → pos 0 ≤ℤ cd → pos 0 <ℤ ad → cv ≤ℤ pos 0 → pos 0 ≤ℤ vd
first-plain ac vd av cd ad cv e h i j k l =
    let p = mul_nonneg av cd i j in
    let q = mul_nonneg ad (pos 0 -ℤ cv) (omega (arith, ints)) (omega (arith, ints)) in
    let r = ring (ad ∷ cv ∷ []) (at 0 ⊗ (num (pos 0) ⊖ at 1)) (num (pos 0) ⊖ at 0 ⊗ at 1) tt in
    nonneg-of ac vd h (omega (arith, ints))

first-nought : (ac vd av cd ad cv : ℤ) → ac *ℤ vd ≡ av *ℤ cd -ℤ ad *ℤ cv → pos 0 ≤ℤ av → pos 0 ≤ℤ cd → pos 0 <ℤ ad → cv ≤ℤ pos 0 → vd ≡ pos 0 → cv ≡ pos 0
first-nought ac vd av cd ad cv e i j k l z = by_order cv (pos 0)
    (λ m. absurd (
    let p = mul_nonneg av cd i j in
    let q = mul_neg ad cv k (omega (arith, ints)) in
    let u = ap (λ x. ac *ℤ x) z in
    omega (arith, ints)))
    (λ m. m) (λ m. absurd (omega (arith, ints)))

second-plain : (ca vd cv ad cd av : ℤ) → ca *ℤ vd ≡ cv *ℤ ad -ℤ cd *ℤ av → pos 0 <ℤ ca → pos 0 <ℤ cv → ad <ℤ pos 0 → cd ≤ℤ pos 0 → av ≤ℤ pos 0 → vd <ℤ pos 0
second-plain ca vd cv ad cd av e h i j k l =
    let p = mul_neg cv ad i (omega (arith, ints)) in
    let q = mul_nonneg (pos 0 -ℤ cd) (pos 0 -ℤ av) (omega (arith, ints)) (omega (arith, ints)) in
    let u = ring (cd ∷ av ∷ []) ((num (pos 0) ⊖ at 0) ⊗ (num (pos 0) ⊖ at 1)) (at 0 ⊗ at 1) tt in
    minus-of ca vd h (omega (arith, ints))

shift-plain : (zw yw qw a b c : ℤ) → zw *ℤ a ≡ yw *ℤ b +ℤ qw *ℤ c → pos 0 <ℤ zw → pos 0 <ℤ yw → pos 0 <ℤ qw → pos 0 ≤ℤ b → pos 0 <ℤ c → pos 0 <ℤ a
shift-plain zw yw qw a b c e h i j k l =
    let p = mul_nonneg yw b (omega (arith, ints)) k in
    let q = mul_pos qw c j l in
    plus-of zw a h (omega (arith, ints))

-- ---- the strip
pub record Strip (s : Set) (C : Complex) (h g : Form) (d : Vector) (y z : SpacePoint) : Type 0 where
  pub normal : IsNormal (normal_of h)
  pub seen : Seen (normal_of h) (normal_of g)
  pub too : (p : SpacePoint) → form_at h p ≡ pos 0 → form_at g p ≡ pos 0
  pub back : (p : SpacePoint) → form_at g p ≡ pos 0 → form_at h p ≡ pos 0
  pub some : IsDirection d
  pub level : slope h d ≡ pos 0
  pub on_z : form_at h z ≡ pos 0
  pub flat : IsFlatIn s h z
  pub right : pos 0 <ℤ triple (normal_of g) (toward y z) d
  pub clear : (i : ℕ) (u : Vertex) → IsAt C.vertices i u → form_at h u.point ≡ pos 0 → pos 0 <ℤ triple (normal_of g) (toward y u.point) d → pos 0 <ℤ triple (normal_of g) (toward z u.point) d

module _ (s : Set) (C : Complex) (S : Shows s C) (h g : Form) (d : Vector) (y z : SpacePoint) (T : Strip s C h g d y z) where
  abbrev m : Vector
  m = normal_of g

  abbrev k : Vector
  k = cross d m

  -- the forms of y's line and of z's line, positive to the right
  abbrev pub Near_line : Form
  Near_line = plane_through k y

  abbrev pub Far_line : Form
  Far_line = plane_through k z

  pub m-some : IsDirection m
  m-some = by T.seen
    where
      by : Seen (normal_of h) m → IsDirection m
      by (inl w) = direction-right (normal_of h) m w
      by (inr w) = direction-right (opposite (normal_of h)) m w

  pub level-m : dot m d ≡ pos 0
  level-m = seen-level (normal_of h) m d T.seen T.level

  back-level : (v : Vector) → dot m v ≡ pos 0 → dot (normal_of h) v ≡ pos 0
  back-level v z = by T.seen
    where
      by : Seen (normal_of h) m → dot (normal_of h) v ≡ pos 0
      by (inl w) = level-normal m (normal_of h) v (SameDirection-turned (normal_of h) m w) z
      by (inr w) = level-opposite-back (normal_of h) v (level-normal m (opposite (normal_of h)) v (SameDirection-turned (opposite (normal_of h)) m w) z)

  flat-g : IsFlatIn s g z
  flat-g = (T.flat.0, λ v. (λ f. seen-level (normal_of h) m v T.seen ((T.flat.1 v).0 f), λ e. (T.flat.1 v).1 (back-level v e)))

  -- the turn from a way to d is the way's slope
  pub turn-k : (v : Vector) → triple m v d ≡ dot k v
  turn-k v = triple-middle m v d

  near-at : (q : SpacePoint) → form_at Near_line q ≡ triple m (toward y q) d
  near-at q = through-at k y q ∙ sym (turn-k (toward y q))

  far-at : (q : SpacePoint) → form_at Far_line q ≡ triple m (toward z q) d
  far-at q = through-at k z q ∙ sym (turn-k (toward z q))

  near-z : pos 0 <ℤ form_at Near_line z
  near-z = subst (λ (r : ℤ). pos 0 <ℤ r) (sym (near-at z)) T.right

  far-z : form_at Far_line z ≡ pos 0
  far-z = through-at k z z ∙ dot-zero k (toward z z) (point-toward z z (same-itself z))

  pub strip : (i : ℕ) (u : Vertex) → IsAt C.vertices i u → form_at h u.point ≡ pos 0 → pos 0 <ℤ form_at Near_line u.point → pos 0 <ℤ form_at Far_line u.point
  strip i u a on l = subst (λ (r : ℤ). pos 0 <ℤ r) (sym (far-at u.point)) (T.clear i u a on (subst (λ (r : ℤ). pos 0 <ℤ r) (near-at u.point) l))

  -- from a point of a line the sign of the turn is that of the line's form
  pub near-turn : (a q : SpacePoint) → form_at Near_line a ≡ pos 0 → sign (triple m (toward a q) d) ≡ sign (form_at Near_line q)
  near-turn a q e = ap sign (turn-k (toward a q)) ∙ sign-through k y a q e

  far-turn : (a q : SpacePoint) → form_at Far_line a ≡ pos 0 → sign (triple m (toward a q) d) ≡ sign (form_at Far_line q)
  far-turn a q e = ap sign (turn-k (toward a q)) ∙ sign-through k z a q e

  -- what isn't to the left of z's line lies to the right of y's
  pub beyond : (q : SpacePoint) → pos 0 ≤ℤ form_at Far_line q → pos 0 <ℤ form_at Near_line q
  beyond q l = subst (λ (r : ℤ). pos 0 <ℤ r) (sym (through-at k y q)) (shift-plain (pos z.w) (pos y.w) (pos q.w) (dot k (toward y q)) (dot k (toward z q)) (dot k (toward y z)) (shift k y z q) (weight-positive z) (weight-positive y) (weight-positive q)
      (subst (λ (r : ℤ). pos 0 ≤ℤ r) (through-at k z q) l) (subst (λ (r : ℤ). pos 0 <ℤ r) (turn-k (toward y z)) T.right))

  pub short-of : (q : SpacePoint) → form_at Near_line q ≡ pos 0 → form_at Far_line q <ℤ pos 0
  short-of q e = ⊎_elim (λ l. l) (λ l. absurd (let b = beyond q l in omega (arith, ints))) (below-or (form_at Far_line q))

  -- ---- angles from y's line
  pub turn-z : (a : SpacePoint) → form_at Near_line a ≡ pos 0 → pos 0 <ℤ triple m (toward a z) d
  turn-z a e = same-plus (form_at Near_line z) (triple m (toward a z) d) (near-turn a z e) near-z

  pub angle-ahead : (a c : SpacePoint) → form_at Near_line a ≡ pos 0 → SameDirection (toward a c) d → pos 0 <ℤ angle m a z c
  angle-ahead a c e w = same-plus (triple m (toward a z) d) (angle m a z c) (turn-last m (toward a z) d (toward a c) (SameDirection-turned (toward a c) d w)) (turn-z a e)

  -- from z to a the way leads to the left
  turn-back : (a : SpacePoint) → form_at Near_line a ≡ pos 0 → triple m (toward z a) d <ℤ pos 0
  turn-back a e = same-minus (form_at Far_line a) (triple m (toward z a) d) (far-turn z a far-z) (short-of a e)

  pub angle-over : (a x : SpacePoint) → form_at Near_line a ≡ pos 0 → SameDirection (toward z x) d → pos 0 <ℤ angle m a z x
  angle-over a x e w =
      let t = turn-back a e in
      let r = triple-turned m d (toward z a) in
      let u = turn-same m m d (toward z x) (toward z a) (toward z a) (dir-self m m-some) (SameDirection-turned (toward z x) d w) (dir-self (toward z a) (λ n. let q = dot-zero k (toward z a) n in let i = turn-k (toward z a) in omega (arith, ints))) in
      angle-inside m x a z (angle-inside m z x a (same-plus (triple m d (toward z a)) (angle m z x a) u (omega (arith, ints))))

  pub angle-under : (a x : SpacePoint) → form_at Near_line a ≡ pos 0 → SameDirection (toward z x) (opposite d) → angle m a z x <ℤ pos 0
  angle-under a x e w =
      let t = turn-back a e in
      let v = turn-last m (toward z a) (opposite d) (toward z x) (SameDirection-turned (toward z x) (opposite d) w) in
      let o = right-turn m (toward z a) d in
      let p = angle-inside m z a x (same-plus (triple m (toward z a) (opposite d)) (angle m z a x) v (omega (arith, ints))) in
      let r = angle-turned m a x z in
      omega (arith, ints)

  -- ---- points of z's line
  pub data On_far_line (x : SpacePoint) : Type 0 where
    at_start : SamePoint z x → On_far_line x
    ahead_of : SameDirection (toward z x) d → On_far_line x
    behind_of : SameDirection (toward z x) (opposite d) → On_far_line x

  pub on-far_line : (x : SpacePoint) → form_at h x ≡ pos 0 → form_at Far_line x ≡ pos 0 → On_far_line x
  on-far_line x on e = ⊎_elim (λ o. at_start (toward-point z x o)) (λ i. by (beside (toward z x) d i T.some along)) (zero-decided (toward z x))
    where
      along : IsZero (cross (toward z x) d)
      along = parallel-in_plane m (toward z x) d m-some (plane-way g z x (T.too z T.on_z) (T.too x on)) level-m (sym (far-at x) ∙ e)

      by : Beside (toward z x) d → On_far_line x
      by (same_way w) = ahead_of w
      by (other_way o) = behind_of (subst (λ (r : Vector). SameDirection r (opposite d)) (opposite-twice (toward z x)) (opposite-same (opposite (toward z x)) d (opposite-way (toward z x) d o)))

  -- ---- the third side of a triangle with one side from y's line to z
  module _ (a c : SpacePoint) (on-a : form_at h a ≡ pos 0) (on-c : form_at h c ≡ pos 0) (start : form_at Near_line a ≡ pos 0) (near-c : pos 0 ≤ℤ form_at Near_line c) (far-c : form_at Far_line c ≤ℤ pos 0) (turn : pos 0 <ℤ angle m a z c)
      (first : (r : SpacePoint) → IsBetween a r z → FlatDim s r 2) (second : SideWithin s a c) (corner : (i : ℕ) (v : Vertex) (t : SpacePoint) → IsAt C.vertices i v → SamePoint a v.point → IsBetween z t c → HalfEdge s t v.point → ⊥) where
    none-between : (r : SpacePoint) → IsBetween z r c → (i : ℕ) → IsVertexPoint C i r → ⊥
    none-between r b i (v, at-i, e) =
        let back = same-point_sym v.point r e in
        let on = level-same_point h r v.point back (plane-between h z r c b T.on_z on-c) in
        let near = plus-same_point Near_line r v.point back (between-plus Near_line z r c b near-z near-c) in
        let far = plus-same_point Far_line v.point r e (strip i v at-i on near) in
        by_order (form_at Far_line c) (pos 0)
        (λ l. let x = between-minus Far_line z r c b far-z l in omega (arith, ints))
        (λ l. let x = plane-between Far_line z r c b far-z l in omega (arith, ints))
        (λ l. omega (arith, ints))

    -- a vertex of the triangle is its corner on y's line
    module _ (i : ℕ) (v : Vertex) (at-i : IsAt C.vertices i v) (on-g : form_at g v.point ≡ pos 0) (P : pos 0 ≤ℤ form_at (turn_form m a z) v.point) (R : form_at (turn_form m a c) v.point ≤ℤ pos 0) (G : pos 0 <ℤ form_at (turn_form m z c) v.point)
        (apart : SamePoint a v.point → ⊥) where
      abbrev p : SpacePoint
      p = v.point

      left-of_first : pos 0 ≤ℤ angle m a z p
      left-of_first = subst (λ (r : ℤ). pos 0 ≤ℤ r) (turn-at m a z p) P

      right-of_second : angle m a c p ≤ℤ pos 0
      right-of_second = subst (λ (r : ℤ). r ≤ℤ pos 0) (turn-at m a c p) R

      left-of_third : pos 0 <ℤ angle m z c p
      left-of_third = subst (λ (r : ℤ). pos 0 <ℤ r) (turn-at m z c p) G

      to-c : pos 0 ≤ℤ triple m (toward a c) d
      to-c = by_order (form_at Near_line c) (pos 0) (λ l. absurd (omega (arith, ints)))
          (λ e. let x = nought-is (triple m (toward a c) d) (near-turn a c start ∙ ap sign e) in omega (arith, ints))
          (λ l. let x = same-plus (form_at Near_line c) (triple m (toward a c) d) (near-turn a c start) l in omega (arith, ints))

      near-turns : angle m a z c *ℤ triple m (toward a p) d ≡ angle m a z p *ℤ triple m (toward a c) d -ℤ triple m (toward a z) d *ℤ angle m a c p
      near-turns = turns m (toward a z) (toward a c) (toward a p) d

      right-of_near : pos 0 ≤ℤ triple m (toward a p) d
      right-of_near = first-plain (angle m a z c) (triple m (toward a p) d) (angle m a z p) (triple m (toward a c) d) (triple m (toward a z) d) (angle m a c p) near-turns turn left-of_first to-c (turn-z a start) right-of_second

      far-turns : angle m z c a *ℤ triple m (toward z p) d ≡ angle m z c p *ℤ triple m (toward z a) d -ℤ triple m (toward z c) d *ℤ angle m z a p
      far-turns = turns m (toward z c) (toward z a) (toward z p) d

      from-z_to-c : triple m (toward z c) d ≤ℤ pos 0
      from-z_to-c = by_order (form_at Far_line c) (pos 0)
          (λ l. let x = same-minus (form_at Far_line c) (triple m (toward z c) d) (far-turn z c far-z) l in omega (arith, ints))
          (λ e. let x = nought-is (triple m (toward z c) d) (far-turn z c far-z ∙ ap sign e) in omega (arith, ints))
          (λ l. absurd (omega (arith, ints)))

      from-z_past-a : angle m z a p ≤ℤ pos 0
      from-z_past-a = plain (angle m a z p) (angle m z p a) (angle m z a p) (angle-cyclic m a z p) (angle-turned m z a p) left-of_first
        where
          plain : (x u w : ℤ) → pos z.w *ℤ x ≡ pos a.w *ℤ u → w ≡ pos 0 -ℤ u → pos 0 ≤ℤ x → w ≤ℤ pos 0
          plain x u w e f l =
              let q = mul_nonneg (pos z.w) x (let i = weight-positive z in omega (arith, ints)) l in
              let r = ring (u ∷ pos a.w ∷ []) (at 1 ⊗ at 0) (at 0 ⊗ at 1) tt in
              let n = cancel_le (pos 0) u (pos a.w) (weight-positive a) (omega (arith, ints)) in
              omega (arith, ints)

      left-of_far : triple m (toward z p) d <ℤ pos 0
      left-of_far = second-plain (angle m z c a) (triple m (toward z p) d) (angle m z c p) (triple m (toward z a) d) (triple m (toward z c) d) (angle m z a p) far-turns
          (angle-inside m a z c turn) left-of_third (turn-back a start) from-z_to-c from-z_past-a

      on-near : triple m (toward a p) d ≡ pos 0
      on-near = by_order (triple m (toward a p) d) (pos 0) (λ l. absurd (let r = right-of_near in omega (arith, ints))) (λ e. e) (λ l. absurd (past l))
        where
          past : pos 0 <ℤ triple m (toward a p) d → ⊥
          past l =
              let near = same-plus (triple m (toward a p) d) (form_at Near_line p) (sym (near-turn a p start)) l in
              let far = strip i v at-i (T.back p on-g) near in
              let x = same-minus (triple m (toward z p) d) (form_at Far_line p) (sym (far-turn z p far-z)) left-of_far in
              omega (arith, ints)

      on-second_line : form_at (turn_form m a c) p ≡ pos 0
      on-second_line = turn-at m a c p ∙ first-nought (angle m a z c) (triple m (toward a p) d) (angle m a z p) (triple m (toward a c) d) (triple m (toward a z) d) (angle m a c p) near-turns left-of_first to-c (turn-z a start) right-of_second on-near

      not-amid : IsBetween a p c → ⊥
      not-amid b = by second
        where
          none : (j : ℕ) → (pos 0 <ℤ pos j) → FlatDim s p j → ⊥
          none j l f = let e = FlatDim-one s p 0 j (S.vertices i v at-i) f in omega (arith, ints)

          by : SideWithin s a c → ⊥
          by (inl (inl w)) = none 2 (omega (arith, ints)) (w.1 p b)
          by (inl (inr w)) = none 1 (omega (arith, ints)) (w.2 p b)
          by (inr w) = none 1 (omega (arith, ints)) (w.1 p b).0

      ends-not : ⊥
      ends-not = by_order (form_at (turn_form m a z) p) (pos 0) (λ l. omega (arith, ints))
          (λ e. apart (at-corner s g m-some a z c (T.too a on-a) (T.too z T.on_z) (T.too c on-c) turn p on-g e on-second_line))
          (λ l. not-amid (on-second s g m-some a z c (T.too a on-a) (T.too z T.on_z) (T.too c on-c) turn p on-g on-second_line l G))

    -- an edge from the third side that comes to a vertex doesn't pass a, nor end there
    passes : (t x : SpacePoint) → IsBetween z t c → IsVertex s x → HalfEdge s t x → IsBetween t a x ⊎ SamePoint a x → ⊥
    passes t x amid vertex E (inl d) = by second
      where
        by : SideWithin s a c → ⊥
        by (inl (inl w)) = w.0 (E.all a d)
        by (inl (inr w)) = never-along s g m-some a z c (T.too a on-a) (T.too z T.on_z) (T.too c on-c) turn t x a amid E d (turn-at m a c a ∙ angle-start m a c) w.1
        by (inr w) = w.0 (E.all a d)
    passes t x amid vertex E (inr o) =
        let (i, v, at-i, e) = S.complete x vertex in
        corner i v t at-i (same-point_trans a x v.point o (same-point_sym v.point x e)) amid (half-same s t x v.point (same-point_sym v.point x e) E)

    none : (r : SpacePoint) → IsVertex s r → form_at g r ≡ pos 0 → IsInTriangle (normal_of g) a z c r → (SamePoint a r → ⊥) → ⊥
    none r vertex on (p, q, o) apart =
        let (i, v, at-i, e) = S.complete r vertex in
        let back = same-point_sym v.point r e in
        ⊎_elim
        (λ l. ends-not i v at-i (level-same_point g r v.point back on)
        (no-minus (turn_form m a z) r v.point back (subst (λ x. pos 0 ≤ℤ x) (sym (turn-at m a z r)) p))
        (no-plus (turn_form m a c) r v.point back (subst (λ x. x ≤ℤ pos 0) (sym (turn-at m a c r)) q))
        (plus-same_point (turn_form m z c) r v.point back (subst (λ x. pos 0 <ℤ x) (sym (turn-at m z c r)) l))
        (λ z. apart (same-point_trans a v.point r z e)))
        (λ d. none-between r d i (v, at-i, e)) o

    along-second : SideWithin s a c → LiesAlong s a c
    along-second (inl (inl w)) = inl w.1
    along-second (inl (inr w)) = inr w.2
    along-second (inr w) = inr (λ r d. (w.1 r d).0)

    pub fan : (r : SpacePoint) → IsBetween z r c → FlatDim s r 2
    fan = third-side s g m-some a z c (T.too a on-a) (T.too z T.on_z) (T.too c on-c) turn first (along-second second) flat-g passes none

  -- ---- an edge that leads from y's line to z's line, at z or behind it, would cross the way to z
  module _ (p b x : SpacePoint) (on-p : form_at h p ≡ pos 0) (on-b : form_at h b ≡ pos 0) (on-x : form_at h x ≡ pos 0) (near-p : form_at Near_line p ≡ pos 0) (near-b : form_at Near_line b ≡ pos 0) (upward : SameDirection (toward b p) d) (far-x : form_at Far_line x ≡ pos 0)
      (clear : (r : SpacePoint) → IsBetween b r z → FlatDim s r 2) (edge : (r : SpacePoint) → IsBetween p r x ⊎ SamePoint r x → FlatDim s r 1) where
    abbrev Q : Form
    Q = turn_form m b z

    pub not-at : SamePoint z x → ⊥
    not-at e = one-not_two s x (edge x (inr (same-itself x))) (dim-same s z x 2 e T.flat.0)

    Q-p : pos 0 <ℤ form_at Q p
    Q-p = subst (λ (r : ℤ). pos 0 <ℤ r) (sym (turn-at m b z p)) (angle-ahead b p near-b upward)

    Q-z : form_at Q z ≡ pos 0
    Q-z = turn-at m b z z ∙ angle-self m b z

    Q-x : SameDirection (toward z x) (opposite d) → form_at Q x <ℤ pos 0
    Q-x w =
        let t = turn-z b near-b in
        let o = right-turn m (toward b z) d in
        let u = turn-last m (toward b z) (opposite d) (toward z x) (SameDirection-turned (toward z x) (opposite d) w) in
        let q = same-minus (triple m (toward b z) (opposite d)) (triple m (toward b z) (toward z x)) u (omega (arith, ints)) in
        same-minus (dot (cross m (toward b z)) (toward z x)) (form_at Q x) (sym (sign-through (cross m (toward b z)) b z x Q-z)) (subst (λ (r : ℤ). r <ℤ pos 0) (triple-dot m (toward b z) (toward z x)) q)

    crossed : (r : SpacePoint) → IsBetween p r x → form_at Q r ≡ pos 0 → IsBetween b r z
    crossed r c e =
        let on-r = plane-between h p r x c on-p on-x in
        let near = between-plus Near_line x r p (between-turned p x r c) (beyond x (omega (arith, ints))) (omega (arith, ints)) in
        let far = minus-any Far_line x r p (between-turned p x r c) (omega (arith, ints)) (short-of p near-p) in
        let o = parallel-in_plane m (toward b z) (toward b r) m-some (plane-way g b z (T.too b on-b) (T.too z T.on_z)) (plane-way g b r (T.too b on-b) (T.too r on-r)) (sym (turn-at m b z r) ∙ e) in
        let to-z = subst (λ (v : ℤ). pos 0 <ℤ v) (turn-k (toward b z)) (turn-z b near-b) in
        let to-r = same-plus (form_at Near_line r) (dot k (toward b r)) (sign-through k y b r near-b) near in
        let back = same-minus (form_at Far_line r) (dot k (toward z r)) (sign-through k z z r far-z) far in
        let on = subst (λ (v : Vector). pos 0 <ℤ dot k v) (toward-turned z r) (let q = dot-opposite k (toward z r) in omega (arith, ints)) in
        SameDirection-trans (toward b r) (toward b z) (toward r z) (SameDirection-turned (toward b z) (toward b r) (same-by k (toward b z) (toward b r) o to-z to-r)) (same-by k (toward b z) (toward r z) (aligned b z r o) to-z on)

    pub not-behind : SameDirection (toward z x) (opposite d) → ⊥
    not-behind w =
        let c = cut-of Q p x (inl (Q-p, Q-x w)) in
        one-not_two s c.place (edge c.place (inl c.between)) (clear c.place (crossed c.place c.between c.level))
