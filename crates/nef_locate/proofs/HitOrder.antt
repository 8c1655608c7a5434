-- The vertices of a plane stand in the order of points, so a hit that is none of them parts their numbers.
use Rattle.nef_locate.proofs.Prelude.{◌≡◌, ℕ, ◌+◌, ◌≤◌, ◌<◌, ℤ, pos, ◌*ℤ◌, ◌<ℤ◌, nat_abs, length, List, arith, sym, ◌∙◌, subst, ⊎_elim, w64, Ordering, inl, inr, Less, Equal, Greater, eq-or-lt_of_le, cases_lt, MatchOrdering, IsAt, SpacePoint, Form, SamePoint, IsPointBelow, Set, point_of, Hit, Point, point_below-trans, is-at_one, is-at_within, map-is_at, Shows, IsVertexPoint, Complex, vertex_of, complex_of, LiesOn, AreNumbersWith, PartsOn, pos-abs}
use mir.Syntax.{w128}
use mir.Val.{to_z, of_z}
use Rattle.nef_complex.specs.declared.complex.Vertex.{Vertex}
use Rattle.nef_plane.proofs.Sweep.{exact-of, exact-weight, exact-hit, exact-hit_weight}

-- ---- one coordinate of a point and of a hit, by the products of numbers that are read
abbrev pub Ranks : Ordering → ℤ → ℤ → ℤ → ℤ → Type 0
Ranks o x w y v = MatchOrdering o ((x *ℤ v) <ℤ (y *ℤ w)) (x *ℤ v ≡ y *ℤ w) ((y *ℤ w) <ℤ (x *ℤ v))

ranks-same : (o : Ordering) (x w y v x' w' y' v' : ℤ) → x ≡ x' → w ≡ w' → y ≡ y' → v ≡ v' → Ranks o x w y v → Ranks o x' w' y' v'
ranks-same o x w y v x' w' y' v' a b d e r =
    subst (λ z. Ranks o x' w' y' z) e (subst (λ z. Ranks o x' w' z v) d (subst (λ z. Ranks o x' z y v) b (subst (λ z. Ranks o z w y v) a r)))

module _ (p : Point) (q : Hit) (o : Ordering) (x w y v : ℤ) (weight_is : w ≡ p.w) (hit_weight_is : v ≡ q.w) (r : Ranks o (to_z w64 (of_z w64 x)) (to_z w64 (of_z w64 w)) (to_z w128 (of_z w128 y)) (to_z w128 (of_z w128 v))) where
  ranks : (a b : ℤ) → to_z w64 (of_z w64 x) ≡ a → to_z w128 (of_z w128 y) ≡ b → Ranks o a (pos (nat_abs p.w)) b (pos (nat_abs q.w))
  ranks a b e f = ranks-same o _ _ _ _ a (pos (nat_abs p.w)) b (pos (nat_abs q.w)) e (exact-weight w p.w weight_is p.w_small ∙ sym (pos-abs p.w p.proper)) f (exact-hit_weight v q.w hit_weight_is q.w_small ∙ sym (pos-abs q.w q.proper)) r

  pub ranks-x : x ≡ p.x → y ≡ q.x → Ranks o p.x (pos (nat_abs p.w)) q.x (pos (nat_abs q.w))
  ranks-x e f = ranks p.x q.x (exact-of x p.x e p.x_small) (exact-hit y q.x f q.x_small)

  pub ranks-y : x ≡ p.y → y ≡ q.y → Ranks o p.y (pos (nat_abs p.w)) q.y (pos (nat_abs q.w))
  ranks-y e f = ranks p.y q.y (exact-of x p.y e p.y_small) (exact-hit y q.y f q.y_small)

  pub ranks-z : x ≡ p.z → y ≡ q.z → Ranks o p.z (pos (nat_abs p.w)) q.z (pos (nat_abs q.w))
  ranks-z e f = ranks p.z q.z (exact-of x p.z e p.z_small) (exact-hit y q.z f q.z_small)

-- the order where the first two coordinates are equal
pub order-from_last : (p q : SpacePoint) (o : Ordering) → p.x *ℤ pos q.w ≡ q.x *ℤ pos p.w → p.y *ℤ pos q.w ≡ q.y *ℤ pos p.w → Ranks o p.z (pos p.w) q.z (pos q.w) → MatchOrdering o (IsPointBelow p q) (SamePoint p q) (IsPointBelow q p)
order-from_last p q Less a b r = inr (a, inr (b, inl r))
order-from_last p q Equal a b r = record { along_x = a; along_y = b; along_z = r }
order-from_last p q Greater a b r = inr (sym a, inr (sym b, inl r))

-- ---- the vertices of a plane
-- the vertices with the first n of the numbers come before the point
abbrev pub AreBefore : List Vertex → List ℕ → SpacePoint → ℕ → Type 0
AreBefore vs ns y n = (i j : ℕ) (v : Vertex) → i < n → IsAt ns i j → IsAt vs j v → IsPointBelow (point_of v.point) y

-- those with the other numbers come after it
abbrev pub AreAfter : List Vertex → List ℕ → SpacePoint → ℕ → Type 0
AreAfter vs ns y n = (i j : ℕ) (v : Vertex) → n ≤ i → IsAt ns i j → IsAt vs j v → IsPointBelow y (point_of v.point)

module _ (s : Set) (c : Complex) (S : Shows s (complex_of c)) (h : Form) (ns : List ℕ) (N : AreNumbersWith (LiesOn c.vertices h) ns) (y : SpacePoint) where
  rise : (i m n j : ℕ) (u v : Vertex) → i < m → IsAt ns i n → IsAt ns m j → IsAt c.vertices n u → IsAt c.vertices j v → IsPointBelow (point_of u.point) (point_of v.point)
  rise i m n j u v l a b e f = S.ordered n j (vertex_of u) (vertex_of v) (N.ordered i m n j l a b) (map-is_at vertex_of c.vertices n u e) (map-is_at vertex_of c.vertices j v f)

  same : (i m n j : ℕ) (u v : Vertex) → i ≡ m → IsAt ns i n → IsAt ns m j → IsAt c.vertices n u → IsAt c.vertices j v → v ≡ u
  same i m n j u v o a b e f =
      let r : n ≡ j = is-at_one ns m n j (subst (λ x. IsAt ns x n) o a) b in
      is-at_one c.vertices j v u f (subst (λ x. IsAt c.vertices x u) r e)

  -- where a vertex comes before the point, those before it do
  pub before-up_to : (m j : ℕ) (v : Vertex) → IsAt ns m j → IsAt c.vertices j v → IsPointBelow (point_of v.point) y → AreBefore c.vertices ns y (m + 1)
  before-up_to m j v a e b i n u l f g = ⊎_elim
      (λ o. subst (λ (r : Vertex). IsPointBelow (point_of r.point) y) (same i m n j u v o f a g e) b)
      (λ o. point_below-trans (point_of u.point) (point_of v.point) y (rise i m n j u v o f a g e) b)
      (eq-or-lt_of_le {n = i} {m = m} (omega (arith, l)))

  -- and where one comes after the point, those after it do
  pub after-from : (m j : ℕ) (v : Vertex) → IsAt ns m j → IsAt c.vertices j v → IsPointBelow y (point_of v.point) → AreAfter c.vertices ns y m
  after-from m j v a e b i n u l f g = ⊎_elim
      (λ o. subst (λ (r : Vertex). IsPointBelow y (point_of r.point)) (sym (same m i j n v u o a f e g)) b)
      (λ o. point_below-trans y (point_of v.point) (point_of u.point) b (rise m i j n v u o a f e g))
      (eq-or-lt_of_le {n = m} {m = i} l)

  pub is-vertex : (k : ℕ) (v : Vertex) → IsAt c.vertices k v → SamePoint (point_of v.point) y → IsVertexPoint (complex_of c) k y
  is-vertex k v a o = (vertex_of v, map-is_at vertex_of c.vertices k v a, o)

-- so places among the numbers of the plane's vertices that part these make numbers that do
module _ (c : Complex) (h : Form) (ns : List ℕ) (N : AreNumbersWith (LiesOn c.vertices h) ns) (y : SpacePoint) (m : ℕ) (B : AreBefore c.vertices ns y m) (A : AreAfter c.vertices ns y m) where
  from : (i r j : ℕ) → m ≤ i → IsAt ns m r → IsAt ns i j → r ≤ j
  from i r j l a e = ⊎_elim
      (λ o. let f : r ≡ j = is-at_one ns i r j (subst (λ x. IsAt ns x r) o a) e in omega (arith, f))
      (λ o. let f = N.ordered m i r j o a e in omega (arith, f)) (eq-or-lt_of_le {n = m} {m = i} l)

  pub parts-at : (r : ℕ) → IsAt ns m r → PartsOn c.vertices h y r
  parts-at r a = record {
    before = λ j v l e o. let (i, f) = N.all j (v, e, o) in ⊎_elim (λ t. B i j v t f e) (λ t. absurd (let x = from i r j t a f in omega (arith, l, x))) (cases_lt i m);
    after = λ j v l e o. let (i, f) = N.all j (v, e, o) in ⊎_elim (λ t. absurd (let x = N.ordered i m j r t f a in omega (arith, l, x))) (λ t. A i j v t f e) (cases_lt i m);
  }

  pub parts-past : length ns ≤ m → PartsOn c.vertices h y (length c.vertices)
  parts-past n = record {
    before = λ j v l e o. let (i, f) = N.all j (v, e, o) in B i j v (let x = is-at_within ns i j f in omega (arith, n, x)) f e;
    after = λ j v l e o. absurd (let x = is-at_within c.vertices j v e in omega (arith, l, x));
  }
