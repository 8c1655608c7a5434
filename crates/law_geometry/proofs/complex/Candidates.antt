-- A vertex of a combination of two sets is a vertex of one of them, or a cut of the one's edges by a carrier of the other in which that has something there: elsewhere some direction is flat for both.
use Rattle.law_geometry.proofs.complex.Prelude.{◌≡◌, ℕ, zero, suc, ◌+◌, pos, arith, ◌∙◌, ◌⊎◌, ◌↔◌, inl, inr, ⊎_elim, subst, nought, Lies, nought-is, nought-or, Flat, HasFlat, FlatDim, IsVertex, SpacePoint, Form, form_at, slope, toward, IsBetween, Set, Vector, dot, cross, IsZero, IsDirection, sign_at, carriers, EdgeSupport, FacetSupport, label_and, label_or, label_less, label_one_of, HasFlat-fewer, flat_dim-of, edge-support, facet-support, flat-plane, span-3, IsAt, circle-point, Vertex, Edge, Complex, HasEnds, Shows, SamePlane, IsEdgePoint, meets_edge, IsNearCut, IsSkeletonIn, IsVertexOfBoth, zero-decided, square-cross, in-span, level_cross_second, dot-comm}
use Rattle.law_geometry.proofs.near.Combine.{and-label, or-label, less-label, one_of-label}
use Rattle.law_geometry.proofs.near.FlatOperations.{flat-of_two}
use Rattle.law_geometry.proofs.complex.Planes.{plane-turned, plane-point, plane-slope, plane-way}
use Rattle.law_geometry.proofs.complex.Ways.{between-ends}
use Rattle.law_geometry.proofs.complex.Edges.{edge-points, edge-way}
use Rattle.law_geometry.proofs.complex.Joining.{edges-complete}
use Rattle.law_geometry.proofs.complex.FacetWays.{plane-ends}
use Rattle.law_geometry.proofs.sphere.Walk.{cross-direction_left}

-- some direction is flat for both sets
abbrev AreFlatTogether : Set → Set → SpacePoint → Type 0
AreFlatTogether s t y = (d : Vector) × IsDirection d × Flat s y d × Flat t y d

-- on an edge of C
module _ (s t : Set) (C D : Complex) (S : Shows s C) (T : Shows t D) (y : SpacePoint) (k : ℕ) (e : Edge) (v w : Vertex) (a : IsAt C.edges k e) (H : HasEnds C e v w) (b : IsBetween v.point y w.point) where
  -- the edge's direction is flat for s
  together : Flat t y (toward v.point w.point) → AreFlatTogether s t y
  together f =
      let E = edge-points s C k e v w y S a H b in
      (toward v.point w.point, between-ends v.point y w.point b, (E.1 (toward v.point w.point)).1 (edge-way s C k e v w S a H), f)

  -- a plane of t in which the edge's direction doesn't lie is a carrier of D that cuts the edge
  cut-in : (f : Form) → Lies (carriers t) f → sign_at f y ≡ nought → (slope f (toward v.point w.point) ≡ pos 0 → ⊥) → ((h : Form) → SamePlane h f → form_at h y ≡ pos 0 → IsSkeletonIn t D h y) → IsNearCut C t D y
  cut-in f l o off has =
      let h = T.carriers.all f l in
      let on = plane-point f h.1 y (plane-turned h.1 f h.3) (nought-is (form_at f y) o) in
      (k, e, v, w, h.0, h.1, a, H, b, h.2, on, λ z. off (plane-slope h.1 f (toward v.point w.point) h.3 (plane-way h.1 v.point w.point z.0 z.1)), has h.1 h.3 on)

  -- in a facet of t, which lies in one of its planes
  beside-facet : FlatDim t y 2 → IsNearCut C t D y ⊎ AreFlatTogether s t y
  beside-facet g = ⊎_elim (λ p. inr (together ((F.flat_in (toward v.point w.point)).1 p))) (λ p. inl (cut-in F.plane F.listed F.passes p (λ h P on. inr (g, flat h P)))) (nought-or (slope F.plane (toward v.point w.point)))
    where
      F : FacetSupport t y
      F = facet-support t y g

      flat : (h : Form) → SamePlane h F.plane → (d : Vector) → Flat t y d ↔ (slope h d ≡ pos 0)
      flat h P d = (λ f. plane-slope F.plane h d (plane-turned h F.plane P) ((F.flat_in d).0 f), λ z. (F.flat_in d).1 (plane-slope h F.plane d P z))

  -- on an edge of t, which lies in two of its planes
  beside-edge : FlatDim t y 1 → IsNearCut C t D y ⊎ AreFlatTogether s t y
  beside-edge g = ⊎_elim
      (λ p. ⊎_elim (λ q. inr (together ((E.flat_in (toward v.point w.point)).1 (p, q)))) (λ q. inl (cut-in E.second E.second_listed E.second_passes q (held E.second (λ d f. ((E.flat_in d).0 f).1)))) (nought-or (slope E.second (toward v.point w.point))))
      (λ p. inl (cut-in E.first E.first_listed E.first_passes p (held E.first (λ d f. ((E.flat_in d).0 f).0))))
      (nought-or (slope E.first (toward v.point w.point)))
    where
      E : EdgeSupport t y
      E = edge-support t y g

      -- a plane that holds the flat directions holds the ends of the edge
      held : (f : Form) → ((d : Vector) → Flat t y d → slope f d ≡ pos 0) → (h : Form) → SamePlane h f → form_at h y ≡ pos 0 → IsSkeletonIn t D h y
      held f level h P on = by (edges-complete t D T y g)
        where
          by : (n : ℕ) × IsEdgePoint D n y → IsSkeletonIn t D h y
          by (n, (r, p, q, c, G, m)) =
              let along = ((edge-points t D n r p q y T c G m).1 (toward p.point q.point)).1 (edge-way t D n r p q T c G) in
              let ends = plane-ends h p.point q.point y m (plane-slope f h (toward p.point q.point) (plane-turned h f P) (level (toward p.point q.point) along)) on in
              inl (meets_edge n, ((r, p, q, c, G, m), (r, p, q, c, G, ends.0, ends.1)))

  -- so the direction is flat for both, unless a carrier of D cuts the edge there that holds something of t
  beside : (j : ℕ) → FlatDim t y (suc j) → IsNearCut C t D y ⊎ AreFlatTogether s t y
  beside zero g = beside-edge g
  beside (suc zero) g = beside-facet g
  beside (suc (suc zero)) g = inr (together (let h = g.0 in span-3 t y h.0 h.1 h.2 (toward v.point w.point) h.3 h.4 h.5 h.6))
  beside (suc (suc (suc j))) g = absurd g.0

along-edge : (s t : Set) (C D : Complex) → Shows s C → Shows t D → (y : SpacePoint) → (k : ℕ) × IsEdgePoint C k y → (j : ℕ) → FlatDim t y (suc j) → IsNearCut C t D y ⊎ AreFlatTogether s t y
along-edge s t C D S T y (k, (e, v, w, a, H, b)) j g = beside s t C D S T y k e v w a H b j g

-- a direction in two planes
in-both : (n m : Vector) → IsDirection n → IsDirection m → (d : Vector) × IsDirection d × (dot n d ≡ pos 0) × (dot m d ≡ pos 0)
in-both n m i j = ⊎_elim parallel (λ f. (cross n m, f, square-cross n m, level_cross_second n m)) (zero-decided (cross n m))
  where
    parallel : IsZero (cross n m) → (d : Vector) × IsDirection d × (dot n d ≡ pos 0) × (dot m d ≡ pos 0)
    parallel z =
        let p = circle-point n i in
        let on = p.1 in
        (p.0, on.direction, on.level, dot-comm m p.0 ∙ in-span p.0 n m i z (dot-comm p.0 n ∙ on.level))

-- a vertex of one of the sets, or a cut of one's edges by a carrier of the other that holds something of that there
abbrev IsCandidate : Set → Set → Complex → Complex → SpacePoint → Type 0
IsCandidate s t C D y = IsVertex s y ⊎ IsVertex t y ⊎ IsNearCut C t D y ⊎ IsNearCut D s C y

candidate-or_flat : (s t : Set) (C D : Complex) (y : SpacePoint) → Shows s C → Shows t D → IsCandidate s t C D y ⊎ AreFlatTogether s t y
candidate-or_flat s t C D y S T = let j = flat_dim-of s y in let k = flat_dim-of t y in by j.0 k.0 j.1 k.1
  where
    by : (j k : ℕ) → FlatDim s y j → FlatDim t y k → IsCandidate s t C D y ⊎ AreFlatTogether s t y
    by zero k f g = inl (inl f)
    by (suc j) zero f g = inl (inr (inl g))
    by (suc zero) (suc k) f g = ⊎_elim (λ c. inl (inr (inr (inl c)))) (λ d. inr d) (along-edge s t C D S T y (edges-complete s C S y f) k g)
    by (suc (suc j)) (suc zero) f g = ⊎_elim (λ c. inl (inr (inr (inr c)))) (λ (d, i, h, k). inr (d, i, k, h)) (along-edge t s D C T S y (edges-complete t D T y g) (suc j) f)
    by (suc (suc zero)) (suc (suc zero)) f g =
        let n = flat-plane s y f in
        let m = flat-plane t y g in
        let d = in-both n.0 m.0 n.1 m.1 in
        inr (d.0, d.1, (n.2 d.0).1 d.2, (m.2 d.0).1 d.3)
    by (suc (suc zero)) (suc (suc (suc zero))) f g =
        let d = f.0 in
        inr (d.0, cross-direction_left d.0 d.1 d.2, d.3, (let h = g.0 in span-3 t y h.0 h.1 h.2 d.0 h.3 h.4 h.5 h.6))
    by (suc (suc (suc zero))) (suc (suc k)) f g =
        let e : suc (suc k) ≡ suc k + 1 = omega arith in
        let d = HasFlat-fewer t y (suc k) 1 (subst (HasFlat t y) e g.0) in
        inr (d.0, d.1, (let h = f.0 in span-3 s y h.0 h.1 h.2 d.0 h.3 h.4 h.5 h.6), d.2)
    by (suc (suc (suc (suc j)))) (suc (suc k)) f g = absurd f.0
    by (suc (suc zero)) (suc (suc (suc (suc k)))) f g = absurd g.0

-- where a direction is flat there is no vertex
pub never-flat : (s : Set) (y : SpacePoint) (d : Vector) → IsDirection d → Flat s y d → IsVertex s y → ⊥
never-flat s y d i f v = v.1 (d, i, f)

-- a direction that is flat for both sets is flat for each combination of them
combined-flat : (s t : Set) (y : SpacePoint) → AreFlatTogether s t y → IsVertexOfBoth s t y → ⊥
combined-flat s t y (d, i, f, g) (inl v) = never-flat (Set.both s t) y d i (flat-of_two Set.both label_and and-label s t y d f g) v
combined-flat s t y (d, i, f, g) (inr (inl v)) = never-flat (Set.either s t) y d i (flat-of_two Set.either label_or or-label s t y d f g) v
combined-flat s t y (d, i, f, g) (inr (inr (inl v))) = never-flat (Set.less s t) y d i (flat-of_two Set.less label_less less-label s t y d f g) v
combined-flat s t y (d, i, f, g) (inr (inr (inr v))) = never-flat (Set.one_of s t) y d i (flat-of_two Set.one_of label_one_of one_of-label s t y d f g) v

pub candidates-suffice : (s t : Set) (C D : Complex) (y : SpacePoint) → Shows s C → Shows t D → IsVertexOfBoth s t y → IsVertex s y ⊎ IsVertex t y ⊎ IsNearCut C t D y ⊎ IsNearCut D s C y
candidates-suffice s t C D y S T v = ⊎_elim (λ c. c) (λ f. absurd (combined-flat s t y f v)) (candidate-or_flat s t C D y S T)
