-- From vertex to vertex along y's line, to the corner that z's ray names.
use Rattle.nef_conn.proofs.Prelude.{◌≡◌, ℕ, ◌<◌, ◌≤◌, ◌+◌, zero, suc, pos, length, arith, ◌∙◌, ◌⊎◌, inl, inr, ⊎_elim, subst, cases_order, Chained, FlatDim, SpacePoint, Form, form_at, normal_of, SamePoint, toward, IsBetween, IsPointBelow, Set, Vector, opposite, cross, SameDirection, plane_dir, point-toward, IsAt, is-at_one, normal-direction, Vertex, Complex, Corner, Shows, RayNames, IsFlatIn, between-way, through-at, ahead-back, FacetLink, dot-zero, SameDirection-turned, SameDirection-trans, dir-self, direction-left}
use Rattle.law_geometry.proofs.sphere.Builder.{normal-either}
use Rattle.nef_conn.proofs.Reached.{Rises, never-both}
use Rattle.nef_space.proofs.Chains.{chain-trans}
use Rattle.nef_conn.proofs.Sector.{Through, Stops, turned}
use Rattle.nef_conn.proofs.FacetStrip.{Strip, m-some, turn-z}
use Rattle.nef_conn.proofs.Beside.{near}
use Rattle.nef_conn.proofs.Beside as lies
use Rattle.nef_conn.proofs.AlongEdge.{Goes_on, along-edge}
use Rattle.nef_conn.proofs.OverEdge.{over-edge}
use Rattle.nef_conn.proofs.AcrossFacet.{facet-ahead}
use Rattle.nef_conn.proofs.FromFacet.{from-facet}
use Rattle.nef_space.proofs.Lists.{is-at_within}
use Rattle.law_geometry.proofs.near.Normals.{toward-normal}
use Rattle.nef_space.proofs.Elementary.{same-itself}

module _ (s : Set) (C : Complex) (S : Shows s C) (h g : Form) (d : Vector) (y z : SpacePoint) (T : Strip s C h g d y z) (inward : SameDirection (opposite (plane_dir (normal_of h))) d) (l : Corner) (named : RayNames C h z d l) where
  abbrev n : Vector
  n = normal_of h

  abbrev m : Vector
  m = normal_of g

  abbrev Is_beside : Corner → Type 0
  Is_beside k = lies.Beside s C S h g d y z T k

  step : (k : Corner) (N : Is_beside k) → Chained (FacetLink C) k l ⊎ Goes_on s C S h g d y z T k N
  step k N = ⊎_elim (λ E. through E) (λ E. stops E)
      (turned n m T.seen (m-some s C S h g d y z T) N.vertex.map (S.cones k.vertex N.vertex N.corner.vertex).valid.shaped (toward w z) d T.some T.level (turn-z s C S h g d y z T w N.on_line) k.item N.item N.corner.item N.same N.on)
    where
      w : SpacePoint
      w = N.vertex.point

      stops : Stops N.vertex.map N.item n m (toward N.vertex.point z) d T.seen → Chained (FacetLink C) k l ⊎ Goes_on s C S h g d y z T k N
      stops E = ⊎_elim (λ way. inr (along-edge s C S h g d y z T k N E way)) (λ right. inl (over-edge s C S h g d y z T k N E right l named)) E.before

      through : Through N.vertex.map N.item n m (toward N.vertex.point z) d → Chained (FacetLink C) k l ⊎ Goes_on s C S h g d y z T k N
      through E =
          let A = facet-ahead s C S h g d y z T k N E inward in
          ⊎_elim (λ c. inl (chain-trans (FacetLink C) k A.corner l A.chain c))
          (λ r. let M = r.0 in
          let b = SameDirection-trans (toward N.vertex.point A.place) d (toward A.place M.vertex.point) A.ahead (SameDirection-turned (toward A.place M.vertex.point) d r.1) in
          inr (A.corner, M, A.chain, SameDirection-trans (toward N.vertex.point M.vertex.point) (toward N.vertex.point A.place) d (SameDirection-turned (toward N.vertex.point A.place) (toward N.vertex.point M.vertex.point) (between-way N.vertex.point A.place M.vertex.point b)) A.ahead))
          (from-facet s C S h g d y z T A.place A.on_plane A.on_line A.flat A.clear A.corner l A.named named)

  -- so one comes to an end, where there is a number of steps that gets less with each
  module _ (Left : ℕ → ℕ → Type 0) (burn : (i j f : ℕ) (u v : Vertex) → IsAt C.vertices i u → IsAt C.vertices j v → SameDirection (toward u.point v.point) d → Left i (suc f) → Left j f) (spent : (i : ℕ) (u : Vertex) → IsAt C.vertices i u → Left i zero → ⊥) where
    run : (f : ℕ) (k : Corner) → Is_beside k → Left k.vertex f → Chained (FacetLink C) k l
    run zero k N e = absurd (spent k.vertex N.vertex N.corner.vertex e)
    run (suc f) k N e = ⊎_elim (λ c. c)
        (λ (r : Goes_on s C S h g d y z T k N). chain-trans (FacetLink C) k r.0 l r.2 (run f r.0 r.1 (burn k.vertex (r.0).vertex f N.vertex r.1.vertex N.corner.vertex r.1.corner.vertex r.3 e)))
        (step k N)

  -- vertices ahead have greater numbers, or smaller
  ahead-order : (i j : ℕ) (u v : Vertex) → IsAt C.vertices i u → IsAt C.vertices j v → SameDirection (toward u.point v.point) d → ((i < j) × IsPointBelow u.point v.point) ⊎ ((j < i) × IsPointBelow v.point u.point)
  ahead-order i j u v a b w = ⊎_elim (λ e. absurd (direction-left (toward u.point v.point) d w (point-toward u.point v.point (one (is-at_one C.vertices j u v (subst (λ (x : ℕ). IsAt C.vertices x u) e a) b)))))
      (λ o. ⊎_elim (λ x. inl (x, S.ordered i j u v x a b)) (λ x. inr (x, S.ordered j i v u x b a)) o) (cases_order i j)
    where
      one : u ≡ v → SamePoint u.point v.point
      one e = subst (λ (x : Vertex). SamePoint u.point x.point) e (same-itself u.point)

  upward : (u v : Vertex) → IsPointBelow u.point v.point → SameDirection (toward u.point v.point) d → Rises d
  upward u v b w = (toward u.point v.point, toward-normal u.point v.point b, w)

  downward : (u v : Vertex) → IsPointBelow v.point u.point → SameDirection (toward u.point v.point) d → Rises (opposite d)
  downward u v b w = (toward v.point u.point, toward-normal v.point u.point b, ahead-back u.point v.point d w)

  rising : Rises d → (k : Corner) → Is_beside k → Chained (FacetLink C) k l
  rising U k N = run (λ i f. length C.vertices ≤ i + f)
      (λ i j f u v a b w e. ⊎_elim (λ o. let x = o.0 in omega arith) (λ o. absurd (never-both d U (downward u v o.1 w))) (ahead-order i j u v a b w))
      (λ i u a e. omega (arith, is-at_within C.vertices i u a)) (length C.vertices) k N (omega arith)

  falling : Rises (opposite d) → (k : Corner) → Is_beside k → Chained (FacetLink C) k l
  falling U k N = run (λ i f. i < f)
      (λ i j f u v a b w e. ⊎_elim (λ o. absurd (never-both d (upward u v o.1 w) U)) (λ o. let x = o.0 in omega arith) (ahead-order i j u v a b w))
      (λ i u a e. omega arith) (suc k.vertex) k N (omega arith)

  comes-to : (k : Corner) → Is_beside k → Chained (FacetLink C) k l
  comes-to k N = ⊎_elim (λ M. rising (d, M, dir-self d T.some) k N)
      (λ M. falling (opposite d, M, dir-self (opposite d) (normal-direction (opposite d) M)) k N) (normal-either d T.some)

  pub strip-names : (on : form_at h y ≡ pos 0) (F : IsFlatIn s h y) → ((r : SpacePoint) → IsBetween y r z → FlatDim s r 2) → (k : Corner) → RayNames C h y d k → Chained (FacetLink C) k l
  strip-names on F clear k a = ⊎_elim (λ c. c) (λ r. comes-to k r.0) (from-facet s C S h g d y z T y on start F clear k l a named)
    where
      start : form_at (near s C S h g d y z T) y ≡ pos 0
      start = through-at (cross d m) y y ∙ dot-zero (cross d m) (toward y y) (point-toward y y (same-itself y))
