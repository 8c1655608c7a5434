-- The carriers that hold a vertex or an edge by number, as the calls that read them see them.
use Rattle.nef_plane.proofs.Prelude.{◌≡◌, ℕ, List, sym, subst, IsAt, point_of, Plane, Vertex, Edge, Complex, AreHolders, AreHoldersAlong}

module _ (c : Complex) (k : ℕ) (gs : List Plane) (ns : List ℕ) (e : gs ≡ c.carriers) where
  pub vertex-held : (v : Vertex) → IsAt c.vertices k v → ((v : Vertex) → IsAt c.vertices k v → AreHolders c.carriers (point_of v.point) (point_of v.point) ns) → AreHolders gs (point_of v.point) (point_of v.point) ns
  vertex-held v a H = subst (λ (hs : List Plane). AreHolders hs (point_of v.point) (point_of v.point) ns) (sym e) (H v a)

  pub edge-held : (f : Edge) (u v : Vertex) → IsAt c.edges k f → IsAt c.vertices f.low u → IsAt c.vertices f.high v → ((f : Edge) → IsAt c.edges k f → AreHoldersAlong c.carriers c.vertices f ns) → AreHolders gs (point_of u.point) (point_of v.point) ns
  edge-held f u v a i j H = subst (λ (hs : List Plane). AreHolders hs (point_of u.point) (point_of v.point) ns) (sym e) (H f a u v i j)
