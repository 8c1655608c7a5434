-- The texts of the empty set and of the whole frame.
use Rattle.nef_statement.proofs.text.Prelude.{◌≡◌, ℕ, suc, ℤ, pos, nat_abs, ◌<ℤ◌, arith, refl, sym, ◌∙◌, ap, true, false, List, [], ◌∷◌, ◌++◌, length, map, subst, Option, Some, None, codes, option_map, option_to_list, ints, length-map, flat_map, SameSet, IsAt, SpacePoint, Form, Set, Vector, Label, Out, Not, In, cones-of_same, FlatDim-by_cone, form_of, Plane, MapVertex, Arc, MapSloop, svertex_of, arc_of, sloop_of, SLoop, Vertex as PlainVertex, Edge as PlainEdge, Complex as PlainComplex, Corner as PlainCorner, Edges, vertex_of, edge_of, corner_of, complex_of, ShowsSet, cone-carried, edges-one, One, IsFacet, IsParts, cycle_corners, Word, line, label_word, option_word, numbers, signed_numbers, plane_words, vertex_text, svertex_line, arc_line, sloop_line, edge_line, cycle_line, facet_text, volume_line, text, Cycle, Facet, Parts, FrameCorner, Axis, IsOneLabelSet, empty-whole, full-whole, is_high_on, turned_set}
use Rattle.std.specs.Fmt.{digits}
use Rattle.nef_complex.specs.declared.complex.Complex.{Complex}
use Rattle.nef_complex.specs.declared.complex.Vertex.{Vertex}
use Rattle.nef_statement.specs.text.Frame.{empty_text, with_in, EmptyText, FullText}
use Rattle.nef_statement.proofs.text.FrameVertices.{frame_vertices, AreOf, vertices-listed}
use Rattle.nef_statement.proofs.text.FrameEdges.{frame_edges, frame-edges}
use Rattle.nef_statement.proofs.text.FrameLinks.{frame_complex}
use Rattle.nef_statement.proofs.text.FrameParts.{Wall, walls, wall-number, wall_plane, wall_cycle, volume_beside, IsWallFacet, facet-is, six-facets, volumes-are}
use Rattle.nef_statement.proofs.text.OneCycles.{HasOneNext}
use Rattle.nef_statement.proofs.text.OneNext.{one-next}

-- ---- texts by lists of numbers
flat-image : {X Y A : Type 0} (f : Y → List A) (g : X → Y) (xs : List X) → flat_map (λ x. f (g x)) xs ≡ flat_map f (map g xs)
flat-image f g [] = refl
flat-image f g (x ∷ xs) = ap (λ r. f (g x) ++ r) (flat-image f g xs)

flat-same : {X Y A : Type 0} (f : X → List A) (g : Y → List A) (xs : List X) (ys : List Y) → length xs ≡ length ys → ((k : ℕ) (x : X) (y : Y) → IsAt xs k x → IsAt ys k y → f x ≡ g y) → flat_map f xs ≡ flat_map g ys
flat-same f g [] [] e same = refl
flat-same f g [] (y ∷ ys) e same = absurd (omega (arith, e))
flat-same f g (x ∷ xs) [] e same = absurd (omega (arith, e))
flat-same f g (x ∷ xs) (y ∷ ys) e same = ap (λ r. r ++ flat_map f xs) (same 0 x y refl refl) ∙ ap (λ r. g y ++ r) (flat-same f g xs ys (omega (arith, e)) (λ k a b h i. same (suc k) a b h i))

-- ---- the lines of plain vertices and edges
abbrev vector_words : Vector → List Word
vector_words d = signed_numbers (d.x ∷ d.y ∷ d.z ∷ [])

abbrev place_words : SpacePoint → List Word
place_words p = signed_numbers (p.x ∷ p.y ∷ p.z ∷ pos p.w ∷ [])

abbrev plain_svertex : MapVertex → List ℕ
plain_svertex v = line (codes "s" ∷ [] ++ vector_words v.dir ++ label_word v.mark ∷ option_word v.around ∷ [])

abbrev plain_arc : Arc → List ℕ
plain_arc a = line (codes "a" ∷ [] ++ numbers (a.source ∷ a.target ∷ []) ++ vector_words a.normal ++ label_word a.mark ∷ label_word a.pos ∷ label_word a.neg ∷ [])

abbrev plain_sloop : MapSloop → List ℕ
plain_sloop l = line (codes "l" ∷ [] ++ vector_words l.normal ++ label_word l.mark ∷ label_word l.pos ∷ label_word l.neg ∷ [])

abbrev plain_vertex : PlainVertex → List ℕ
plain_vertex v = line (codes "v" ∷ [] ++ place_words v.point ++ label_word v.map.mark ∷ option_word v.map.ground ∷ [])
    ++ flat_map plain_svertex v.map.svertices ++ flat_map plain_arc v.map.arcs ++ flat_map plain_sloop (option_to_list v.map.sloop)

abbrev plain_edge : PlainEdge → List ℕ
plain_edge e = line (codes "e" ∷ [] ++ numbers (e.low ∷ e.low_svertex ∷ e.high ∷ e.high_svertex ∷ []) ++ label_word e.mark ∷ [])

weight-is : (w : ℤ) → pos 0 <ℤ w → w ≡ pos (nat_abs w)
weight-is w h = omega (arith, ints)

sloop-same : (o : Option SLoop) → flat_map sloop_line (option_to_list o) ≡ flat_map plain_sloop (option_to_list (option_map sloop_of o))
sloop-same None = refl
sloop-same (Some l) = refl

-- the text of a vertex by the words of its weight and the texts of its map
abbrev vertex_by : Vertex → ℤ → List ℕ → List ℕ → List ℕ → List ℕ
vertex_by v w a b c = line (codes "v" ∷ [] ++ signed_numbers (v.point.x ∷ v.point.y ∷ v.point.z ∷ w ∷ []) ++ label_word v.map.mark ∷ option_word v.map.ground ∷ []) ++ a ++ b ++ c

vertex-plain : (v : Vertex) → vertex_text v ≡ plain_vertex (vertex_of v)
vertex-plain v =
    ap (λ w. vertex_by v w (flat_map svertex_line v.map.svertices) (flat_map arc_line v.map.arcs) (flat_map sloop_line (option_to_list v.map.sloop))) (weight-is v.point.w v.point.proper)
    ∙ ap (λ a. vertex_by v (pos (nat_abs v.point.w)) a (flat_map arc_line v.map.arcs) (flat_map sloop_line (option_to_list v.map.sloop))) (flat-image plain_svertex svertex_of v.map.svertices)
    ∙ ap (λ b. vertex_by v (pos (nat_abs v.point.w)) (flat_map plain_svertex (map svertex_of v.map.svertices)) b (flat_map sloop_line (option_to_list v.map.sloop))) (flat-image plain_arc arc_of v.map.arcs)
    ∙ ap (λ c. vertex_by v (pos (nat_abs v.point.w)) (flat_map plain_svertex (map svertex_of v.map.svertices)) (flat_map plain_arc (map arc_of v.map.arcs)) c) (sloop-same v.map.sloop)

all-plain : (vs : List Vertex) → flat_map vertex_text vs ≡ flat_map plain_vertex (map vertex_of vs)
all-plain [] = refl
all-plain (v ∷ vs) = ap (λ r. r ++ flat_map vertex_text vs) (vertex-plain v) ∙ ap (λ r. plain_vertex (vertex_of v) ++ r) (all-plain vs)

-- ---- the lines of facets
abbrev plain_corner : PlainCorner → List Word
plain_corner k = numbers (k.vertex ∷ k.item ∷ [])

abbrev plain_cycle : List PlainCorner → List ℕ
plain_cycle ks = line (codes "c" ∷ [] ++ flat_map plain_corner ks)

abbrev facet_by : Plane → Label → ℕ → ℕ → List ℕ → List ℕ
facet_by h m a b c = line (codes "f" ∷ [] ++ plane_words h ++ label_word m ∷ [] ++ numbers (a ∷ b ∷ [])) ++ c

cycle-plain : (x : Cycle) → cycle_line x ≡ plain_cycle (map corner_of x.corners)
cycle-plain x = ap (λ ws. line (codes "c" ∷ [] ++ ws)) (flat-image plain_corner corner_of x.corners)

cycles-plain : (xs : List Cycle) → flat_map cycle_line xs ≡ flat_map plain_cycle (cycle_corners xs)
cycles-plain [] = refl
cycles-plain (x ∷ xs) = ap (λ r. r ++ flat_map cycle_line xs) (cycle-plain x) ∙ ap (λ r. plain_cycle (map corner_of x.corners) ++ r) (cycles-plain xs)

abbrev wall_text : Wall → List ℕ
wall_text (k, a) = facet_by (wall_plane a (is_high_on k a)) Out (volume_beside (is_high_on k a) false) (volume_beside (is_high_on k a) true) (flat_map plain_cycle (wall_cycle k a ∷ []))

facet-plain : (k : FrameCorner) (a : Axis) (f : Facet) → IsWallFacet k a f → facet_text f ≡ wall_text (k, a)
facet-plain k a f (g, m, above, under, cycles) = ap (facet_by f.plane f.mark f.pos f.neg) (cycles-plain f.cycles) ∙ rw (g, m, above, under, cycles) refl

-- ---- the text
abbrev text_by : List ℕ → List ℕ → List ℕ → List ℕ → List Label → List ℕ
text_by ns vs es fs ms = line (codes "nef3" ∷ codes "1" ∷ [] ++ numbers ns) ++ vs ++ es ++ fs ++ flat_map volume_line ms

abbrev frame_text : Label → List ℕ
frame_text l = text_by (8 ∷ 12 ∷ 6 ∷ 2 ∷ []) (flat_map plain_vertex (frame_vertices l)) (flat_map plain_edge frame_edges) (flat_map wall_text walls) (Out ∷ l ∷ [])

module _ (t : Set) (l : Label) (W : IsOneLabelSet t l) (turned : (n : ℕ) → turned_set n t ≡ t) (s : Set) (c : Complex) (p : Parts) (same : SameSet s t) (S : ShowsSet s c) (P : IsParts (complex_of c) p) where
  -- the vertices are those of the other set too
  of-other : AreOf t (map vertex_of c.vertices)
  of-other =
      let cones = cones-of_same s t same in
      record {
        vertices = λ n v h. (FlatDim-by_cone s t v.point 0 (cones v.point)).0 (S.shows.vertices n v h);
        complete = λ q h. S.shows.complete q ((FlatDim-by_cone s t q 0 (cones q)).1 h);
        ordered = S.shows.ordered;
        cones = λ n v h. cone-carried v.map s t v.point (cones v.point) (S.shows.cones n v h);
        least = S.shows.least;
        maps_ordered = S.shows.maps_ordered;
      }

  vertices-are : map vertex_of c.vertices ≡ frame_vertices l
  vertices-are = vertices-listed t l W turned c.vertices of-other

  edges-are : map edge_of c.edges ≡ frame_edges
  edges-are = edges-one (frame_vertices l) (map edge_of c.edges) frame_edges (subst (λ (vs : List PlainVertex). Edges vs (map edge_of c.edges)) vertices-are S.shows.edges) (frame-edges l)

  abbrev hs : List Form
  hs = map form_of c.carriers

  complex-is : complex_of c ≡ frame_complex l hs
  complex-is = ap (λ (vs : List PlainVertex). record { carriers = hs; vertices = vs; edges = map edge_of c.edges }) vertices-are
      ∙ ap (λ (es : List PlainEdge). record { carriers = hs; vertices = frame_vertices l; edges = es }) edges-are

  parts : IsParts (frame_complex l hs) p
  parts = subst (λ (C : PlainComplex). IsParts C p) complex-is P

  one : HasOneNext (frame_complex l hs)
  one = subst HasOneNext complex-is (one-next s (complex_of c) S.shows)

  facets-text : flat_map facet_text p.facets ≡ flat_map wall_text walls
  facets-text = flat-same facet_text wall_text p.facets walls (six-facets l hs W.some one p parts)
      (λ n f w g h.
      let e = wall-number n w h in
      facet-plain w.0 w.1 f (facet-is l hs W.some one p parts w.0 w.1 f (subst (λ (m : ℕ). IsFacet (frame_complex l hs) p m f) e (parts.facets n f g))))

  many-vertices : length c.vertices ≡ 8
  many-vertices = sym (length-map c.vertices vertex_of) ∙ ap length vertices-are

  many-edges : length c.edges ≡ 12
  many-edges = sym (length-map c.edges edge_of) ∙ ap length edges-are

  pub text-is : text One c p ≡ frame_text l
  text-is =
      let vs : flat_map vertex_text c.vertices ≡ flat_map plain_vertex (frame_vertices l) = all-plain c.vertices ∙ ap (flat_map plain_vertex) vertices-are in
      let es : flat_map edge_line c.edges ≡ flat_map plain_edge frame_edges = flat-image plain_edge edge_of c.edges ∙ ap (flat_map plain_edge) edges-are in
      let made : text_by (length c.vertices ∷ length c.edges ∷ length p.facets ∷ length p.volumes ∷ []) (flat_map vertex_text c.vertices) (flat_map edge_line c.edges) (flat_map facet_text p.facets) p.volumes ≡ frame_text l =
      rw (many-vertices, many-edges, six-facets l hs W.some one p parts, vs, es, facets-text, volumes-are l hs W.some one p parts) refl in
      made

empty-listed : frame_text Not ≡ empty_text
unfolding digits
empty-listed = refl

full-listed : frame_text In ≡ with_in empty_text
unfolding digits
full-listed = refl

pub empty-is : EmptyText
empty-is s c p same S P = text-is Set.empty Not empty-whole (λ n. refl) s c p same S P ∙ empty-listed

pub full-is : FullText
full-is s c p same S P = text-is Set.full In full-whole (λ n. refl) s c p same S P ∙ full-listed
