-- Not all carriers that hold a vertex are along one direction, and those that hold an edge only where the edge is; some carrier holds it.
use Rattle.nef_plane.proofs.Prelude.{◌≡◌, ℕ, pos, sym, ◌∙◌, subst, Lies, nought-is, Flat, SpacePoint, Form, form_at, slope, normal_of, toward, IsBetween, Set, Vector, cross, IsZero, IsDirection, form_of, Plane, carriers, EdgeSupport, start, start-between, edge-support, IsAt, is-at_map, HasEnds, Shows, SamePlane, edge-points, plane-turned, plane-point, plane-slope, Complex, complex_of, HoldsBoth, through-both, along-cross, AllHold, dot-comm, cross-turned, parallel-both, triple-in_plane}
use Rattle.law_geometry.proofs.near.Meets.{vertex-meets}
use Rattle.law_geometry.specs.complex.Complexes.{Vertex, Edge}
use Rattle.law_geometry.proofs.complex.Edges.{edge-way}

-- the program's carrier of a plane of the set
carrier-of : (s : Set) (c : Complex) → Shows s (complex_of c) → (f : Form) → Lies (carriers s) f → (i : ℕ) × (g : Plane) × IsAt c.carriers i g × SamePlane (form_of g) f
carrier-of s c S f l =
    let r = S.carriers.all f l in
    let g = is-at_map form_of c.carriers r.0 r.1 r.2 in
    (r.0, g.0, g.1, subst (λ (k : Form). SamePlane k f) (sym g.2) r.3)

module _ (s : Set) (c : Complex) (S : Shows s (complex_of c)) (d : Vector) where
  -- where all planes that hold two points are along d, so is each carrier of the set that holds them
  held : (a b : SpacePoint) → AllHold c.carriers d a b → (f : Form) → Lies (carriers s) f → HoldsBoth f a b → slope f d ≡ pos 0
  held a b H f l (x, y) =
      let r = carrier-of s c S f l in
      let back = plane-turned (form_of r.1) f r.3 in
      plane-slope (form_of r.1) f d r.3 (H r.0 r.1 r.2 (plane-point f (form_of r.1) a back x, plane-point f (form_of r.1) b back y))

  -- the planes that hold a vertex aren't all along one direction
  pub vertex-crossed : IsDirection d → (k : ℕ) (v : Vertex) → IsAt (complex_of c).vertices k v → AllHold c.carriers d v.point v.point → ⊥
  vertex-crossed some k v a H =
      let m = vertex-meets s v.point (S.vertices k v a) in
      let z = (λ (f : Form) (l : Lies (carriers s) f) (e : form_at f v.point ≡ pos 0). dot-comm d (normal_of f) ∙ held v.point v.point H f l (e, e)) in
      m.independent (triple-in_plane d (normal_of m.first) (normal_of m.second) (normal_of m.third) some
      (z m.first m.first_in (nought-is (form_at m.first v.point) m.first_at))
      (z m.second m.second_in (nought-is (form_at m.second v.point) m.second_at))
      (z m.third m.third_in (nought-is (form_at m.third v.point) m.third_at)))

module _ (s : Set) (c : Complex) (S : Shows s (complex_of c)) (k : ℕ) (e : Edge) (v w : Vertex) (a : IsAt (complex_of c).edges k e) (H : HasEnds (complex_of c) e v w) (apart : IsDirection (toward v.point w.point)) where
  abbrev t : Vector
  t = toward v.point w.point

  abbrev y : SpacePoint
  y = start 1 v.point w.point

  inside : IsBetween v.point y w.point
  inside = start-between 1 v.point w.point apart

  support : EdgeSupport s y
  support = edge-support s y (edge-points s (complex_of c) k e v w y S a H inside).0

  along : Flat s y t
  along = ((edge-points s (complex_of c) k e v w y S a H inside).1 t).1 (edge-way s (complex_of c) k e v w S a H)

  -- where the planes that hold an edge are along d, so is the edge
  pub edge-along : (d : Vector) → AllHold c.carriers d v.point w.point → IsZero (cross t d)
  edge-along d N =
      let E = support in
      let z = (E.flat_in t).0 along in
      let f = held s c S d v.point w.point N E.first E.first_listed (through-both E.first v.point w.point (nought-is (form_at E.first y) E.first_passes) z.0) in
      let g = held s c S d v.point w.point N E.second E.second_listed (through-both E.second v.point w.point (nought-is (form_at E.second y) E.second_passes) z.1) in
      let x = cross (normal_of E.first) (normal_of E.second) in
      parallel-both x t d E.independent (cross-turned t x (along-cross (normal_of E.first) (normal_of E.second) t z.0 z.1)) (cross-turned d x (along-cross (normal_of E.first) (normal_of E.second) d f g))

  -- some carrier holds it
  pub edge-carried : (i : ℕ) × (g : Plane) × IsAt c.carriers i g × HoldsBoth (form_of g) v.point w.point
  edge-carried =
      let E = support in
      let z = (E.flat_in t).0 along in
      let h = through-both E.first v.point w.point (nought-is (form_at E.first y) E.first_passes) z.0 in
      let r = carrier-of s c S E.first E.first_listed in
      let back = plane-turned (form_of r.1) E.first r.3 in
      (r.0, r.1, r.2, (plane-point E.first (form_of r.1) v.point back h.0, plane-point E.first (form_of r.1) w.point back h.1))
