-- Edges of a plane by the numbers of their ends.
use Rattle.nef_plane.proofs.Prelude.{ℕ, ◌<◌, ◌≤◌, List, arith, refl, IsAt, Form, Set, is-at_within, map-is_at, Shows, Edge, Complex, AtEdge, edge_of, complex_of, AreNumbersOf, EdgeLiesIn, AreNumbersWith, EndBelow, AreEnds}

-- the listed edges of a plane are edges
pub edges-within : (c : Complex) (h : Form) (ns : List ℕ) → AreNumbersWith (EdgeLiesIn c.vertices c.edges h) ns → AreNumbersOf c.edges ns
edges-within c h ns N i k a = let L = N.each i k a in is-at_within c.edges k L.0 L.1

module _ (s : Set) (c : Complex) (S : Shows s (complex_of c)) (h : Form) where
  upward : (k : ℕ) (e : Edge) → IsAt c.edges k e → e.low < e.high
  upward k e a = let E = S.edges.edges k (edge_of e) (map-is_at edge_of c.edges k e a) in E.upward

  -- where an edge ends below a limit, both of its ends are below it
  pub both-below : (ns : List ℕ) (first past limit : ℕ) → EndBelow c.edges ns first past limit → (j k : ℕ) → first ≤ j → j < past → IsAt ns j k → EdgeLiesIn c.vertices c.edges h k → (u : ℕ) × (v : ℕ) × AreEnds c (AtEdge k) u v × (u < limit) × (v < limit)
  both-below ns first past limit E j k l m a (e, b, x, y) = let t = upward k e b in let o = E j k e l m a b in (e.low, e.high, (e, b, refl, refl), omega (arith, t, o), o)
