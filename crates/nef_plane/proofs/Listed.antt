-- What a ray meets in a plane that holds it lies there.
use Rattle.nef_plane.proofs.Prelude.{◌≡◌, ℕ, ◌<◌, Option, Some, None, List, pos, sym, subst, IfSome, IsAt, SpacePoint, Form, form_at, IsAhead, Vector, IsDirection, point_of, same-point_sym, is-at_one, is-at_within, is-at_map, LiesIn, Vertex, Edge, Complex, PlaneMeet as ProgramMeet, AtVertex, AtEdge, vertex_of, edge_of, complex_of, LiesOn, EdgeLiesIn, AreNumbersWith, ArePeaks, HoldsBoth, vertex-same, meet_at, count_in, AreItems, HasMeet, MeetLiesIn, IsVertexOrLies, HoldsRay, AtMeet}
use Rattle.law_geometry.specs.complex.Complexes.{Vertex as PlainVertex, Edge as PlainEdge}
use Rattle.law_geometry.specs.complex.Skeleton.{PlaneMeet}
use Rattle.nef_complex.specs.declared.complex.PlaneItems.{PlaneItems}
use Rattle.nef_plane.specs.declared.first.MeetKind.{MeetKind}
use Rattle.nef_plane.specs.declared.first.MeetKind.TheVariants.{Vertex as KindVertex, Edge as KindEdge}
use Rattle.nef_plane.proofs.Meeting.{ahead-level}
use Rattle.law_geometry.proofs.near.Same.{level-same_point}

-- the vertex with a number that lies on the plane is on it
pub held-vertex : (vs : List Vertex) (h : Form) (k : ℕ) (v : Vertex) → IsAt vs k v → LiesOn vs h k → form_at h (point_of v.point) ≡ pos 0
held-vertex vs h k v a (x, l, o) = subst (λ (r : Vertex). form_at h (point_of r.point) ≡ pos 0) (is-at_one vs k x v l a) o

-- the ends of the edge with a number that lies in the plane lie on it
pub lying-ends : (vs : List Vertex) (es : List Edge) (h : Form) (k : ℕ) (e : Edge) → IsAt es k e → EdgeLiesIn vs es h k → LiesOn vs h e.low × LiesOn vs h e.high
lying-ends vs es h k e a (f, l, m, n) =
    let o = is-at_one es k f e l a in
    (subst (λ (r : Edge). LiesOn vs h r.low) o m, subst (λ (r : Edge). LiesOn vs h r.high) o n)

pub held-edge : (vs : List Vertex) (es : List Edge) (h : Form) (k : ℕ) (e : Edge) (u v : Vertex) → IsAt es k e → IsAt vs e.low u → IsAt vs e.high v → EdgeLiesIn vs es h k → HoldsBoth h (point_of u.point) (point_of v.point)
held-edge vs es h k e u v a i j l =
    let E = lying-ends vs es h k e a l in
    (held-vertex vs h e.low u i E.0, held-vertex vs h e.high v j E.1)

-- a vertex on the plane is on it as one of the program's, and an edge in it lies there as one
module _ (c : Complex) (h : Form) where
  pub lies : (k : ℕ) (x : PlainVertex) → IsAt (complex_of c).vertices k x → form_at h x.point ≡ pos 0 → LiesOn c.vertices h k
  lies k x a i = let v = is-at_map vertex_of c.vertices k x a in (v.0, v.1, subst (λ (r : PlainVertex). form_at h r.point ≡ pos 0) (sym v.2) i)

  pub edge-lies : (k : ℕ) → LiesIn (complex_of c) h k → EdgeLiesIn c.vertices c.edges h k
  edge-lies k (e, v, w, a, H, i, j) =
      let f = is-at_map edge_of c.edges k e a in (
        f.0,
        f.1,
        lies f.0.low v (subst (λ (r : PlainEdge). IsAt (complex_of c).vertices r.low v) (sym f.2) H.low) i,
        lies f.0.high w (subst (λ (r : PlainEdge). IsAt (complex_of c).vertices r.high w) (sym f.2) H.high) j,
      )

module _ (c : Complex) (h : Form) where
  pub lies-serves : (m : ProgramMeet) → MeetLiesIn c h m → IsVertexOrLies c h m
  lies-serves (AtVertex k) (v, l, o) = is-at_within c.vertices k v l
  lies-serves (AtEdge k) l = l

  pub serves-has : (m : ProgramMeet) → IsVertexOrLies c h m → HasMeet c m
  serves-has (AtVertex k) l = l
  serves-has (AtEdge k) (e, l, i, j) = is-at_within c.edges k e l

  pub lies-has : (m : ProgramMeet) → MeetLiesIn c h m → HasMeet c m
  lies-has m l = serves-has m (lies-serves m l)

  -- each vertex that there is serves, and of edges those that lie in the plane
  pub vertex-serves : (m : ProgramMeet) (k : ℕ) → m ≡ AtVertex k → HasMeet c m → IsVertexOrLies c h m
  vertex-serves m k e l = subst (IsVertexOrLies c h) (sym e) (subst (HasMeet c) e l)

  pub edge-serving : (m : ProgramMeet) (k : ℕ) → m ≡ AtEdge k → IsVertexOrLies c h m → MeetLiesIn c h m
  edge-serving m k e l = subst (MeetLiesIn c h) (sym e) (subst (IsVertexOrLies c h) e l)

  -- what a ray meets in a plane that holds it lies there
  module _ (d : Vector) (n : PlaneMeet) (q : SpacePoint) where
    pub met-serves : (m : ProgramMeet) → AtMeet (complex_of c) h d m n q → IsVertexOrLies c h m
    met-serves (AtVertex k) (e, (x, l, o)) = let v = is-at_map vertex_of c.vertices k x l in is-at_within c.vertices k v.0 v.1
    met-serves (AtEdge k) (o, e, v, x, a, H, b, (i, j), n) = edge-lies c h k (e, v, x, a, H, i, j)

    pub met-lies : (p : SpacePoint) → IsDirection d → HoldsRay h p d → IsAhead p d q → (m : ProgramMeet) → AtMeet (complex_of c) h d m n q → MeetLiesIn c h m
    met-lies p some (on, z) w (AtVertex k) (e, (x, l, o)) =
        let v = is-at_map vertex_of c.vertices k x l in
        let s = same-point_sym (point_of v.0.point) q (vertex-same c k v.0 v.1 q (x, l, o)) in
        (v.0, v.1, level-same_point h q (point_of v.0.point) s (ahead-level h p d q w some on z))
    met-lies p some H w (AtEdge k) x = met-serves (AtEdge k) x

-- the complex has as many of a kind as there are numbers of such
pub has-count : (c : Complex) (t : MeetKind) (k : ℕ) → HasMeet c (meet_at t k) → k < count_in c t
has-count c KindVertex k l = l
has-count c KindEdge k l = l

pub count-has : (c : Complex) (t : MeetKind) (n k : ℕ) → n ≡ count_in c t → k < n → (m : ProgramMeet) → m ≡ meet_at t k → HasMeet c m
count-has c t n k e l m f = subst (HasMeet c) (sym f) (by t (subst (λ (i : ℕ). k < i) e l))
  where
    by : (t : MeetKind) → k < count_in c t → HasMeet c (meet_at t k)
    by KindVertex l = l
    by KindEdge l = l

-- what is listed for a plane, if anything is, are its edges with their peaks and its vertices
pub are-items : (c : Complex) (h : Form) (o : Option PlaneItems) → IfSome o (λ (r : PlaneItems). AreNumbersWith (EdgeLiesIn c.vertices c.edges h) r.edges.now) → IfSome o (λ (r : PlaneItems). AreNumbersWith (LiesOn c.vertices h) r.vertices.now)
    → IfSome o (λ (r : PlaneItems). ArePeaks c.edges r.edges.now r.peaks.now) → IfSome o (AreItems c h)
are-items c h None e v p = tt
are-items c h (Some r) e v p = record { edges = e; vertices = v; peaks = p }
