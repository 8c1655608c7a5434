-- Components are counted by a point of each class.
use Rattle.nef_conn.proofs.Prelude.{◌≡◌, ℕ, zero, suc, ◌<◌, arith, refl, ap, List, ◌∷◌, length, subst, [], FlatDim, Joined, SpacePoint, toward, Set, joined-itself, joined-both, IsAt, IsVertexPoint, IsEdgePoint, near_point, near-between, edge-points, edges-complete, HasComponents, VerticesCounted, EdgesCounted, direction-left, is-at_none, is-at_first}
use Rattle.nef_conn.proofs.OnEdges.{joined-vertices, joined-edges}
use Rattle.nef_space.proofs.Lists.{is-at_some, is-at_within}
use Rattle.law_geometry.proofs.near.Same.{dim-same}
use Rattle.nef_space.proofs.Elementary.{same-itself}

-- ---- a list with a point for each number
record Chosen (n : ℕ) (P : ℕ → SpacePoint → Type 0) : Type 0 where
  points : List SpacePoint
  as_many : length points ≡ n
  each : (i : ℕ) (p : SpacePoint) → IsAt points i p → P i p
  all : (i : ℕ) → i < n → (p : SpacePoint) × IsAt points i p

one-more : (n : ℕ) (P : ℕ → SpacePoint → Type 0) → (p : SpacePoint) → P 0 p → Chosen n (λ i. P (suc i)) → Chosen (suc n) P
one-more n P p here rest = record { points = p ∷ rest.points; as_many = ap suc rest.as_many; each = each; all = all }
  where
    each : (i : ℕ) (q : SpacePoint) → IsAt (p ∷ rest.points) i q → P i q
    each zero q e = subst (λ (r : SpacePoint). P 0 r) (is-at_first e) here
    each (suc i) q a = rest.each i q a

    all : (i : ℕ) → i < suc n → (q : SpacePoint) × IsAt (p ∷ rest.points) i q
    all zero l = (p, refl)
    all (suc i) l = rest.all i (omega arith)

choose : (n : ℕ) (P : ℕ → SpacePoint → Type 0) → ((i : ℕ) → i < n → (p : SpacePoint) × P i p) → Chosen n P
choose zero P f = record { points = []; as_many = refl; each = λ i p a. absurd (is-at_none a); all = λ i l. absurd (omega arith) }
choose (suc n) P f = let p = f 0 (omega arith) in one-more n P p.0 p.1 (choose n (λ i. P (suc i)) (λ i l. f (suc i) (omega arith)))

-- where points of one number are joined and those of two aren't, and some have each number below n, the components are n
pub components-by : (s : Set) (k n : ℕ) (P : ℕ → SpacePoint → Type 0) → ((i : ℕ) → i < n → (p : SpacePoint) × P i p) → ((i : ℕ) (p : SpacePoint) → P i p → FlatDim s p k)
    → ((i j : ℕ) (p q : SpacePoint) → P i p → P j q → (Joined s p q → i ≡ j) × (i ≡ j → Joined s p q)) → ((q : SpacePoint) → FlatDim s q k → (i : ℕ) × (r : SpacePoint) × (i < n) × P i r × Joined s q r) → HasComponents s k n
components-by s k n P some flat one reach =
    let L = choose n P some in (
      L.points,
      L.as_many,
      record {
        flat = λ i p a. flat i p (L.each i p a);
        apart = λ i j p q a b J. (one i j p q (L.each i p a) (L.each j q b)).0 J;
        all = λ q f.
            let r = reach q f in
            let p = L.all r.0 r.2 in
            (r.0, p.0, p.1, joined-both s q r.1 p.0 r.4 ((one r.0 r.0 r.1 p.0 r.3 (L.each r.0 p.0 p.1)).1 refl));
      },
    )

pub vertices-counted : VerticesCounted
vertices-counted s C S = components-by s 0 (length C.vertices) (IsVertexPoint C) (λ i l. let v = is-at_some C.vertices i l in (v.0.point, (v.0, v.1, same-itself v.0.point)))
    (λ i p P. dim-same s P.0.point p 0 P.2 (S.vertices i P.0 P.1))
    (λ i j p q a b. joined-vertices s C i j p q S a b)
    (λ q f. let P = S.complete q f in (P.0, q, is-at_within C.vertices P.0 P.1 P.2, (P.1, P.2, P.3), joined-itself s q))

pub edges-counted : EdgesCounted
edges-counted s C S = components-by s 1 (length C.edges) (IsEdgePoint C) some
    (λ i p P. (edge-points s C i P.0 P.1 P.2 p S P.3 P.4 P.5).0)
    (λ i j p q a b. joined-edges s C i j p q S a b)
    (λ q f. let P = edges-complete s C S q f in let e = P.1 in (P.0, q, is-at_within C.edges P.0 e.0 e.3, e, joined-itself s q))
  where
    some : (i : ℕ) → i < length C.edges → (p : SpacePoint) × IsEdgePoint C i p
    some i l =
        let e = is-at_some C.edges i l in
        let E = S.edges.edges i e.0 e.1 in
        let v = E.low_vertex in
        let w = E.high_vertex in
        let m = near_point s v.point w.point in
        (m, (e.0, v, w, e.1, record { low = E.is_low; high = E.is_high }, near-between s v.point w.point (direction-left (toward v.point w.point) E.low_end.dir E.ahead)))
