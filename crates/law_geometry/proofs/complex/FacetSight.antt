-- Each facet point sees a vertex: of the vertices in the triangle with a point of an edge that it sees and an end of the edge, it sees that of the least angle or one before it.
use Rattle.law_geometry.proofs.complex.Prelude.{◌≡◌, ℕ, zero, suc, ℤ, pos, ◌<ℤ◌, ◌≤ℤ◌, arith, refl, ap, sym, ◌∙◌, ◌⊎◌, inl, inr, ⊎_elim, List, ◌∷◌, subst, [], ints, sign, by_order, nought-is, nought-or, FlatDim, SpacePoint, Form, form_at, normal_of, SamePoint, toward, IsBetween, Set, Vector, cross, IsDirection, Drop, Decided, decided-both, sign-same, same-point_sym, span-1, between-turned, even-until, flat_way-end, between-same, point-toward, toward-point, IsAt, positive-or, same-plus, circle-point, turn-last, Vertex, Complex, Shows, IsEdgePoint, IsOnEdges, IsFlatIn, dot-zero, triple-dot, cross-turned, dir-self, parallel-in_plane, direction-left, is-at_none, is-at_first}
use Rattle.law_geometry.proofs.complex.Planes.{plane-way}
use Rattle.law_geometry.proofs.complex.Ways.{between-way, between-start}
use Rattle.law_geometry.proofs.complex.Edges.{near_point, near-between}
use Rattle.law_geometry.proofs.complex.FacetWays.{plane-ahead, below-on, ends-lie}
use Rattle.law_geometry.proofs.complex.FacetEdges.{ahead-same, not-along}
use Rattle.law_geometry.proofs.complex.FacetAngles.{cross-back, aligned, angle, turn_form, turn-at, angle-turned, angle-self, angle-inside, angle-trans, between-plus, between-level, between-level_minus}
use Rattle.law_geometry.proofs.complex.FacetTriangle.{HalfEdge, below-or, edge-halves, plane-between, ends-inside}
use Rattle.nef_space.proofs.Elementary.{same-itself}

-- a vertex of the plane that y sees within its facet
pub record Visible (s : Set) (C : Complex) (h : Form) (y : SpacePoint) : Type 0 where
  pub number : ℕ
  pub vertex : Vertex
  pub listed : IsAt C.vertices number vertex
  pub level : form_at h vertex.point ≡ pos 0
  pub leads : IsDirection (toward y vertex.point)
  pub clear : (r : SpacePoint) → IsBetween y r vertex.point → FlatDim s r 2

nonnegative-or : (x : ℤ) → Decided (pos 0 ≤ℤ x)
nonnegative-or x = ⊎_elim (λ l. inr (λ m. omega (arith, ints))) (λ l. inl l) (below-or x)

-- a vertex at the end of a clear way
visible-at : (s : Set) (C : Complex) (h : Form) (y t : SpacePoint) (k : ℕ) (v : Vertex) → IsAt C.vertices k v → SamePoint v.point t → form_at h t ≡ pos 0 → IsDirection (toward y t) → ((r : SpacePoint) → IsBetween y r t → FlatDim s r 2) → Visible s C h y
visible-at s C h y t k v a e on i all = record {
  number = k;
  vertex = v;
  listed = a;
  level = nought-is (form_at h v.point) (sign-same h v.point t e ∙ ap sign on);
  leads = direction-left (toward y v.point) (toward y t) (ahead-same y t v.point (toward y t) e (dir-self (toward y t) i));
  clear = λ r b. all r (between-same y r v.point y r t (same-itself y) (same-itself r) e b);
}

module _ (s : Set) (C : Complex) (S : Shows s C) (h : Form) (hn : IsDirection (normal_of h)) (y : SpacePoint) (on-y : form_at h y ≡ pos 0) (F : IsFlatIn s h y) where
  abbrev n : Vector
  n = normal_of h

  -- the edge of a point t that y sees runs across the way from y
  crosses : (t c : SpacePoint) → IsDirection (toward y t) → ((r : SpacePoint) → IsBetween y r t → FlatDim s r 2) → HalfEdge s t c → form_at h t ≡ pos 0 → form_at h c ≡ pos 0 → angle n y t c ≡ pos 0 → ⊥
  crosses t c i all E on-t on-c e =
      let o = parallel-in_plane n (toward y t) (toward y c) hn (plane-way h y t on-y on-t) (plane-way h y c on-y on-c) e in
      let a = cross-back (toward y t) c t (aligned y t c o) in
      let b = cross-back (toward t c) y t (cross-turned (toward y t) (toward t c) a) in
      let back : IsDirection (toward t y) = λ z. i (point-toward y t (same-point_sym t y (toward-point t y z))) in
      not-along s t y (toward t y) (dir-self (toward t y) back) E.one (all (near_point s t y) (between-turned t y (near_point s t y) (near-between s t y back))) (span-1 s t (toward t c) (toward t y) E.leads E.flat b)

  -- ---- from a point z of an edge that y sees, with the end w of the edge to the left
  module _ (z : SpacePoint) (j : ℕ) (w : Vertex) (listed : IsAt C.vertices j w) (on-z : form_at h z ≡ pos 0) (on-w : form_at h w.point ≡ pos 0)
      (clear : (r : SpacePoint) → IsBetween y r z → FlatDim s r 2) (Z : HalfEdge s z w.point) (turn : pos 0 <ℤ angle n y z w.point) where
    -- a vertex of the triangle, off the way from y to z
    abbrev Candidate : Vertex → Type 0
    Candidate v = (form_at h v.point ≡ pos 0) × ((pos 0 <ℤ angle n y z v.point) × ((pos 0 ≤ℤ angle n y v.point w.point) × (pos 0 ≤ℤ angle n z w.point v.point)))

    candidate-decided : (v : Vertex) → Decided (Candidate v)
    candidate-decided v = decided-both (nought-or (form_at h v.point)) (decided-both (positive-or (angle n y z v.point)) (decided-both (nonnegative-or (angle n y v.point w.point)) (nonnegative-or (angle n z w.point v.point))))

    first : Candidate w
    first = (on-w, (turn, ((let e = angle-self n y w.point in omega (arith, ints)), (let e = angle-self n z w.point in omega (arith, ints)))))

    -- a candidate of the least angle, at most that of a
    record Best (xs : List Vertex) (a : Vertex) : Type 0 where
      number : ℕ
      vertex : Vertex
      has : IsAt C.vertices number vertex
      candidate : Candidate vertex
      from : pos 0 ≤ℤ angle n y vertex.point a.point
      least : (k : ℕ) (v : Vertex) → IsAt xs k v → Candidate v → pos 0 ≤ℤ angle n y vertex.point v.point

    trans : (a b c : Vertex) → Candidate a → Candidate b → Candidate c → pos 0 ≤ℤ angle n y c.point a.point → pos 0 ≤ℤ angle n y a.point b.point → pos 0 ≤ℤ angle n y c.point b.point
    trans a b c ca cb cc x u = angle-trans n y z a.point b.point c.point ca.1.0 (weak (angle n y z b.point) cb.1.0) (weak (angle n y z c.point) cc.1.0) x u
      where
        weak : (x : ℤ) → pos 0 <ℤ x → pos 0 ≤ℤ x
        weak x l = omega (arith, ints)

    module _ (x : Vertex) (xs : List Vertex) (f : (k : ℕ) (v : Vertex) → IsAt (x ∷ xs) k v → (l : ℕ) × IsAt C.vertices l v) (a : Vertex) (c : Candidate a) (m : ℕ) (o : IsAt C.vertices m a)
        (rest : (b : Vertex) → Candidate b → (l : ℕ) → IsAt C.vertices l b → Best xs b) where
      nearer : Candidate x → pos 0 <ℤ angle n y x.point a.point → Best (x ∷ xs) a
      nearer d l =
          let i = f zero x refl in
          let r = rest x d i.0 i.1 in
          record { number = r.number; vertex = r.vertex; has = r.has; candidate = r.candidate; from = trans x a r.vertex d c r.candidate r.from (omega (arith, ints)); least = by r }
        where
          by : (r : Best xs x) (k : ℕ) (v : Vertex) → IsAt (x ∷ xs) k v → Candidate v → pos 0 ≤ℤ angle n y r.vertex.point v.point
          by r zero v e q = subst (λ (u : Vertex). pos 0 ≤ℤ angle n y r.vertex.point u.point) (is-at_first e) r.from
          by r (suc k) v e q = r.least k v e q

      farther : (Candidate x × (pos 0 <ℤ angle n y x.point a.point) → ⊥) → Best (x ∷ xs) a
      farther other =
          let r = rest a c m o in
          record { number = r.number; vertex = r.vertex; has = r.has; candidate = r.candidate; from = r.from; least = by r }
        where
          by : (r : Best xs a) (k : ℕ) (v : Vertex) → IsAt (x ∷ xs) k v → Candidate v → pos 0 ≤ℤ angle n y r.vertex.point v.point
          by r zero v e q =
              let d = subst Candidate (sym (is-at_first e)) q in
              let l : pos 0 ≤ℤ angle n y a.point x.point = by_order (angle n y x.point a.point) (pos 0)
              (λ l. let g = angle-turned n y a.point x.point in omega (arith, ints)) (λ l. let g = angle-turned n y a.point x.point in omega (arith, ints)) (λ l. absurd (other (d, l))) in
              subst (λ (u : Vertex). pos 0 ≤ℤ angle n y r.vertex.point u.point) (is-at_first e) (trans a x r.vertex c d r.candidate r.from l)
          by r (suc k) v e q = r.least k v e q

      step : Best (x ∷ xs) a
      step = ⊎_elim (λ d. nearer d.0 d.1) farther (decided-both (candidate-decided x) (positive-or (angle n y x.point a.point)))

    best-of : (xs : List Vertex) → ((k : ℕ) (v : Vertex) → IsAt xs k v → (l : ℕ) × IsAt C.vertices l v) → (a : Vertex) → Candidate a → (m : ℕ) → IsAt C.vertices m a → Best xs a
    best-of [] f a c m o = record { number = m; vertex = a; has = o; candidate = c; from = (let e = angle-self n y a.point in omega (arith, ints)); least = λ k v e. absurd (is-at_none e) }
    best-of (x ∷ xs) f a c m o = step x xs f a c m o (best-of xs (λ k v e. f (suc k) v e))

    best : Best C.vertices w
    best = best-of C.vertices (λ k v e. (k, e)) w first j listed

    abbrev a : Vertex
    a = best.vertex

    leads-a : IsDirection (toward y a.point)
    leads-a o =
        let e = triple-dot n (toward y z) (toward y a.point) ∙ dot-zero (cross n (toward y z)) (toward y a.point) o in
        let l = best.candidate.1.0 in omega (arith, ints)

    -- ---- a point between y and the best candidate has its angle
    module _ (t : SpacePoint) (b : IsBetween y t a.point) where
      same-turn : (p : SpacePoint) → sign (angle n y p t) ≡ sign (angle n y p a.point)
      same-turn p = sym (turn-last n (toward y p) (toward y t) (toward y a.point) (between-way y t a.point b))

      -- to the right of it is to the right of the candidate
      lesser-there : (p : SpacePoint) → angle n y t p <ℤ pos 0 → angle n y a.point p <ℤ pos 0
      lesser-there p l =
          let m = same-plus (angle n y p t) (angle n y p a.point) (sym (same-turn p)) (let e = angle-turned n y p t in omega (arith, ints)) in
          let f = angle-turned n y p a.point in omega (arith, ints)

      right : pos 0 <ℤ angle n y z t
      right = same-plus (angle n y z a.point) (angle n y z t) (same-turn z) best.candidate.1.0

      left : pos 0 ≤ℤ angle n y t w.point
      left = ⊎_elim (λ l. absurd (let m = lesser-there w.point l in let q = best.candidate.1.1.0 in omega (arith, ints))) (λ l. l) (below-or (angle n y t w.point))

      on-t : form_at h t ≡ pos 0
      on-t = plane-between h y t a.point b on-y best.candidate.0

      inside : pos 0 <ℤ angle n z w.point t
      inside =
          let G = turn_form n z w.point in
          let m = between-plus G y t a.point b (subst (λ x. pos 0 <ℤ x) (sym (turn-at n z w.point y)) (angle-inside n y z w.point turn)) (subst (λ x. pos 0 ≤ℤ x) (sym (turn-at n z w.point a.point)) best.candidate.1.1.1) in
          subst (λ x. pos 0 <ℤ x) (turn-at n z w.point t) m

      -- no edge that leads to lesser angles begins there
      none-lesser : (k : ℕ) (c : Vertex) → IsAt C.vertices k c → form_at h c.point ≡ pos 0 → HalfEdge s t c.point → angle n y t c.point <ℤ pos 0 → ⊥
      none-lesser k c o on-c E l =
          ends-inside s h hn y z w.point on-y on-z on-w clear Z turn t c.point on-t on-c right left inside E (S.vertices k c o) l
          (λ p q r. let m = best.least k c o (on-c, (p, (q, r))) in let u = lesser-there c.point l in omega (arith, ints))

      no-edge : ((r : SpacePoint) → IsBetween y r t → FlatDim s r 2) → (k : ℕ) → IsEdgePoint C k t → ⊥
      no-edge all k (e, v, u, o, H, m) =
          let i = between-start y t a.point b in
          let lie = ends-lie s C S h y t i F.0 F.1 all on-t k e v u o H m in
          let half = edge-halves s C S k e v u t o H m in
          let T = turn_form n y t in
          by_order (angle n y t v.point) (pos 0)
          (λ l. none-lesser e.low v H.low lie.0 half.0 l)
          (λ z. crosses t v.point i all half.0 on-t lie.0 z)
          (λ l. none-lesser e.high u H.high lie.1 half.1 (subst (λ x. x <ℤ pos 0) (turn-at n y t u.point) (between-level_minus T v.point t u.point m (turn-at n y t t ∙ angle-self n y t) (subst (λ x. pos 0 <ℤ x) (sym (turn-at n y t v.point)) l))))

    sees-left : Visible s C h y
    sees-left = by (even-until s 2 y a.point F.0 ((F.1 (toward y a.point)).1 (plane-way h y a.point on-y best.candidate.0)))
      where
        at-drop : (t : SpacePoint) → IsBetween y t a.point → ((r : SpacePoint) → IsBetween y r t → FlatDim s r 2) → IsOnEdges C t → Visible s C h y
        at-drop t b all (k, inl (v, o, e)) = visible-at s C h y t k v o e (on-t t b) (between-start y t a.point b) all
        at-drop t b all (k, inr p) = absurd (no-edge t b all k p)

        by : ((r : SpacePoint) → IsBetween y r a.point → FlatDim s r 2) ⊎ Drop s 2 y a.point → Visible s C h y
        by (inl all) = record { number = best.number; vertex = a; listed = best.has; level = best.candidate.0; leads = leads-a; clear = all }
        by (inr D) = at-drop D.at_place D.between D.even_before (below-on s C S D.at_place D.drops)

  -- ---- each facet point sees a vertex
  pub sees-vertex : Visible s C h y
  sees-vertex =
      let d = circle-point n hn in
      let W = flat_way-end s 2 y d.0 (omega arith) F.0 d.1.direction ((F.1 d.0).1 d.1.level) in
      at-end W.at_place (direction-left (toward y W.at_place) d.0 W.is_ahead) W.even_before (plane-ahead h y W.at_place d.0 W.is_ahead d.1.level on-y) (below-on s C S W.at_place W.drops)
    where
      at-end : (z : SpacePoint) → IsDirection (toward y z) → ((r : SpacePoint) → IsBetween y r z → FlatDim s r 2) → form_at h z ≡ pos 0 → IsOnEdges C z → Visible s C h y
      at-end z i all on-z (k, inl (v, o, e)) = visible-at s C h y z k v o e on-z i all
      at-end z i all on-z (k, inr (e, v, u, o, H, m)) =
          let lie = ends-lie s C S h y z i F.0 F.1 all on-z k e v u o H m in
          let half = edge-halves s C S k e v u z o H m in
          let T = turn_form n y z in
          by_order (angle n y z v.point) (pos 0)
          (λ l. sees-left z e.high u H.high on-z lie.1 all half.1 (subst (λ x. pos 0 <ℤ x) (turn-at n y z u.point) (between-level T v.point z u.point m (turn-at n y z z ∙ angle-self n y z) (subst (λ x. x <ℤ pos 0) (sym (turn-at n y z v.point)) l))))
          (λ q. absurd (crosses z v.point i all half.0 on-z lie.0 q))
          (λ l. sees-left z e.low v H.low on-z lie.0 all half.0 l)
