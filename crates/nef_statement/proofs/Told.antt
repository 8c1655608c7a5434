-- A reader of a text is told the vertices of the complex.
use Rattle.nef_statement.proofs.Prelude.{◌≡◌, ℕ, zero, suc, ◌-◌, ◌^◌, ◌<◌, ◌≤◌, nat_abs, ℤ, pos, ◌<ℤ◌, true, false, List, [], ◌∷◌, ◌++◌, map, Option, Some, None, slice_get, refl, sym, ap, ◌∙◌, subst, arith, append-nil, append_assoc, if◌then◌else◌, codes, props, bytes_eq, flat_map, decimal, signed_decimal, direction_limit, point_limit, weight_limit, SpacePoint, Vector, vector, Label, Out, Not, In, point_of, vector_of, Dir, Point, MapVertex, Arc, MapSloop, Vertex as PlainVertex, svertex_of, arc_of, sloop_of, SVertex, SArc, SLoop, Edge, Complex, vertex_of, TextVersion, One, Two, Cycle, Facet, Parts, Shell, Word, line, label_word, option_word, numbers, svertex_line, arc_line, sloop_line, vertex_line, vertex_text, edge_line, corner_words, cycle_line, facet_line, facet_text, volume_line, sface_line, side_words, shell_line, faced_text, shelled_text, with_rows, counts, version_word, first_line, vertices_text, volumes_text, text, number_or_zero, line_rows, word_at, number_at, Told, with_row, told_by, vertices_told, positive}
use Rattle.std.proofs.Common.{option_to_list, option_map}
use Rattle.nef_complex.specs.declared.complex.Vertex.{Vertex}
use Rattle.nef_complex.specs.declared.complex.Corner.{Corner}
use Rattle.nef_complex.specs.declared.parts.Side.{Side}
use Rattle.nef_complex.specs.Text.{signed_numbers}
use Rattle.nef_statement.proofs.text.Vertices.{with-rows_firsts}
use Rattle.nef_statement.proofs.Lines.{Row, IsGood, AreGood, rows-read, signed-read, decimal-read, decimal-good, signed-good}
use Rattle.nef_statement.proofs.text.Lines.{Each-append, Each}

-- ---- words
abbrev read_label : Word → Label
read_label w = if bytes_eq w (codes "i") then In else (if bytes_eq w (codes "n") then Not else Out)

abbrev read_option : Word → Option Label
read_option w = if bytes_eq w (codes "-") then None else Some (read_label w)

label-read : (l : Label) → read_label (label_word l) ≡ l
label-read In = refl
label-read Not = refl
label-read Out = refl

option-read : (o : Option Label) → read_option (option_word o) ≡ o
option-read None = refl
option-read (Some In) = refl
option-read (Some Not) = refl
option-read (Some Out) = refl

label-good : (l : Label) → IsGood (label_word l)
label-good In = (omega arith, (omega arith, tt))
label-good Not = (omega arith, (omega arith, tt))
label-good Out = (omega arith, (omega arith, tt))

option-good : (o : Option Label) → IsGood (option_word o)
option-good None = (omega arith, (omega arith, tt))
option-good (Some l) = label-good l

numbers-good : (ns : List ℕ) → AreGood (numbers ns)
numbers-good [] = tt
numbers-good (n ∷ ns) = (decimal-good n, numbers-good ns)

-- ---- what rows tell before others
abbrev told : List MapVertex → List Arc → Option MapSloop → List PlainVertex → Told
told svertices arcs sloop vertices = record { svertices = svertices; arcs = arcs; sloop = sloop; vertices = vertices }

abbrev onto : List Row → Told → Told
onto [] t = t
onto (row ∷ rows) t = with_row row (onto rows t)

onto-append : (rows more : List Row) (t : Told) → onto (rows ++ more) t ≡ onto rows (onto more t)
onto-append [] more t = refl
onto-append (row ∷ rows) more t = ap (with_row row) (onto-append rows more t)

onto-all : (rows : List Row) → onto rows (told [] [] None []) ≡ told_by rows
onto-all [] = refl
onto-all (row ∷ rows) = ap (with_row row) (onto-all rows)

-- where a row tells a vertex, its w is positive
abbrev IsWeighed : Row → Type 0
IsWeighed row = word_at row 0 ≡ codes "v" → pos 0 <ℤ number_at row 4

-- the bytes are rows that tell so much
record Tells (x : List ℕ) (f : Told → Told) : Type 0 where
  rows : List Row
  is : x ≡ flat_map line rows
  good : Each AreGood rows
  weighed : Each IsWeighed rows
  tells : (t : Told) → onto rows t ≡ f t

lines-append : (rows more : List Row) → flat_map line (rows ++ more) ≡ flat_map line rows ++ flat_map line more
lines-append [] more = refl
lines-append (row ∷ rows) more = ap (λ x. line row ++ x) (lines-append rows more) ∙ sym (append_assoc (line row) (flat_map line rows) (flat_map line more))

tells-both : (x y : List ℕ) (f g : Told → Told) → Tells x f → Tells y g → Tells (x ++ y) (λ t. f (g t))
tells-both x y f g h k =
    record {
      rows = h.rows ++ k.rows;
      is = ap (λ z. z ++ y) h.is ∙ ap (λ z. flat_map line h.rows ++ z) k.is ∙ sym (lines-append h.rows k.rows);
      good = Each-append AreGood h.rows k.rows h.good k.good;
      weighed = Each-append IsWeighed h.rows k.rows h.weighed k.weighed;
      tells = λ t. onto-append h.rows k.rows t ∙ ap (onto h.rows) (k.tells t) ∙ h.tells (g t);
    }

nothing : Tells [] (λ t. t)
nothing = record { rows = []; is = refl; good = tt; weighed = tt; tells = λ t. refl }

vertex-row : (row : Row) (f : Told → Told) → AreGood row → IsWeighed row → ((t : Told) → with_row row t ≡ f t) → Tells (line row) f
vertex-row row f good weighed e = record { rows = row ∷ []; is = sym (append-nil (line row)); good = (good, tt); weighed = (weighed, tt); tells = e }

-- a row that begins otherwise
one-row : (row : Row) → bytes_eq (word_at row 0) (codes "v") ≡ false → (f : Told → Told) → AreGood row → ((t : Told) → with_row row t ≡ f t) → Tells (line row) f
one-row row other f good e =
    vertex-row row f good (λ first. (let odd : true ≡ false = ap (λ w. bytes_eq w (codes "v")) (sym first) ∙ other in cc)) e

-- lines that tell nothing
silent : {X : Type 0} (spelled : X → List ℕ) → ((x : X) → Tells (spelled x) (λ t. t)) → (xs : List X) → Tells (flat_map spelled xs) (λ t. t)
silent spelled h [] = nothing
silent spelled h (x ∷ xs) = tells-both (spelled x) (flat_map spelled xs) (λ t. t) (λ t. t) (h x) (silent spelled h xs)

-- ---- directions and points
direction-read : (z : ℤ) → nat_abs z ≤ direction_limit → number_or_zero (signed_decimal z) ≡ z
direction-read z h = let l : direction_limit < 2 ^ 63 = omega arith in signed-read z (omega (arith, l, h))

point-read : (z : ℤ) → nat_abs z ≤ point_limit → number_or_zero (signed_decimal z) ≡ z
point-read z h = let l : point_limit < 2 ^ 63 = omega arith in signed-read z (omega (arith, l, h))

weight-read : (z : ℤ) → nat_abs z ≤ weight_limit → number_or_zero (signed_decimal z) ≡ z
weight-read z h = let l : weight_limit < 2 ^ 63 = omega arith in signed-read z (omega (arith, l, h))

dir-read : (d : Dir) → vector (number_or_zero (signed_decimal d.x)) (number_or_zero (signed_decimal d.y)) (number_or_zero (signed_decimal d.z)) ≡ vector_of d
dir-read d =
    ap (λ n. vector n (number_or_zero (signed_decimal d.y)) (number_or_zero (signed_decimal d.z))) (direction-read d.x d.x_small)
    ∙ ap (λ n. vector d.x n (number_or_zero (signed_decimal d.z))) (direction-read d.y d.y_small)
    ∙ ap (λ n. vector d.x d.y n) (direction-read d.z d.z_small)

positive-prop : (n : ℕ) → IsProp (0 < n)
positive-prop n = hlevel props

abbrev place : (x y z : ℤ) (w : ℕ) → 0 < w → SpacePoint
place x y z w proper = record { x = x; y = y; z = z; w = w; proper = proper }

-- places with the same numbers are equal
place-one : (x y z : ℤ) (v w : ℕ) (a : 0 < v) (b : 0 < w) → v ≡ w → place x y z v a ≡ place x y z w b
place-one x y z v w a b e =
    subst (λ (u : ℕ). (c : 0 < u) → place x y z v a ≡ place x y z u c) e (λ c. ap (place x y z v) (positive-prop v a c)) b

point-place : (p : Point) → (a : 0 < suc (nat_abs (number_or_zero (signed_decimal p.w)) - 1))
    → place (number_or_zero (signed_decimal p.x)) (number_or_zero (signed_decimal p.y)) (number_or_zero (signed_decimal p.z)) (suc (nat_abs (number_or_zero (signed_decimal p.w)) - 1)) a ≡ point_of p
point-place p a =
    let e = weight-read p.w p.w_small in
    let l = (point_of p).proper in
    let f : nat_abs (number_or_zero (signed_decimal p.w)) ≡ nat_abs p.w = ap nat_abs e in
    ap (λ n. place n (number_or_zero (signed_decimal p.y)) (number_or_zero (signed_decimal p.z)) _ a) (point-read p.x p.x_small)
    ∙ ap (λ n. place p.x n (number_or_zero (signed_decimal p.z)) _ a) (point-read p.y p.y_small)
    ∙ ap (λ n. place p.x p.y n _ a) (point-read p.z p.z_small)
    ∙ place-one p.x p.y p.z _ (nat_abs p.w) a (point_of p).proper (omega (arith, f, l))

-- ---- svertices
abbrev svertex_words : SVertex → Row
svertex_words v = codes "s" ∷ [] ++ signed_numbers (v.dir.x ∷ v.dir.y ∷ v.dir.z ∷ []) ++ label_word v.mark ∷ option_word v.around ∷ []

abbrev more_svertices : List SVertex → Told → Told
more_svertices vs t = told (map svertex_of vs ++ t.svertices) t.arcs t.sloop t.vertices

svertex-good : (v : SVertex) → AreGood (svertex_words v)
svertex-good v = ((omega arith, (omega arith, tt)), (signed-good v.dir.x, (signed-good v.dir.y, (signed-good v.dir.z, (label-good v.mark, (option-good v.around, tt))))))

svertex-tells : (v : SVertex) → Tells (svertex_line v) (more_svertices (v ∷ []))
svertex-tells v = one-row (svertex_words v) refl (more_svertices (v ∷ [])) (svertex-good v) (λ t.
    let make = λ (d : Vector) (l : Label) (o : Option Label). told (record { dir = d; mark = l; around = o } ∷ t.svertices) t.arcs t.sloop t.vertices in
    ap (λ d. make d (read_label (label_word v.mark)) (read_option (option_word v.around))) (dir-read v.dir)
    ∙ ap (λ l. make (vector_of v.dir) l (read_option (option_word v.around))) (label-read v.mark)
    ∙ ap (λ o. make (vector_of v.dir) v.mark o) (option-read v.around))

svertices-tell : (vs : List SVertex) → Tells (flat_map svertex_line vs) (more_svertices vs)
svertices-tell [] = nothing
svertices-tell (v ∷ vs) = tells-both (svertex_line v) (flat_map svertex_line vs) (more_svertices (v ∷ [])) (more_svertices vs) (svertex-tells v) (svertices-tell vs)

-- ---- arcs
abbrev arc_words : SArc → Row
arc_words a = codes "a" ∷ [] ++ numbers (a.source ∷ a.target ∷ []) ++ signed_numbers (a.normal.x ∷ a.normal.y ∷ a.normal.z ∷ []) ++ label_word a.mark ∷ label_word a.pos ∷ label_word a.neg ∷ []

abbrev more_arcs : List SArc → Told → Told
more_arcs as' t = told t.svertices (map arc_of as' ++ t.arcs) t.sloop t.vertices

arc-good : (a : SArc) → AreGood (arc_words a)
arc-good a =
    let labels : AreGood (label_word a.mark ∷ label_word a.pos ∷ label_word a.neg ∷ []) = (label-good a.mark, (label-good a.pos, (label-good a.neg, tt))) in
    ((omega arith, (omega arith, tt)), (decimal-good a.source, (decimal-good a.target, (signed-good a.normal.x, (signed-good a.normal.y, (signed-good a.normal.z, labels))))))

arc-tells : (a : SArc) → Tells (arc_line a) (more_arcs (a ∷ []))
arc-tells a = one-row (arc_words a) refl (more_arcs (a ∷ [])) (arc-good a) (λ t.
    let make = λ (d : Vector) (i j : ℕ) (p m n : Label). told t.svertices (record { normal = d; source = i; target = j; pos = p; mark = m; neg = n } ∷ t.arcs) t.sloop t.vertices in
    ap (λ d. make d (nat_abs (number_or_zero (decimal a.source))) (nat_abs (number_or_zero (decimal a.target))) (read_label (label_word a.pos)) (read_label (label_word a.mark)) (read_label (label_word a.neg))) (dir-read a.normal)
    ∙ ap (λ i. make (vector_of a.normal) i (nat_abs (number_or_zero (decimal a.target))) (read_label (label_word a.pos)) (read_label (label_word a.mark)) (read_label (label_word a.neg))) (decimal-read a.source a.source_small)
    ∙ ap (λ j. make (vector_of a.normal) a.source j (read_label (label_word a.pos)) (read_label (label_word a.mark)) (read_label (label_word a.neg))) (decimal-read a.target a.target_small)
    ∙ ap (λ l. make (vector_of a.normal) a.source a.target l (read_label (label_word a.mark)) (read_label (label_word a.neg))) (label-read a.pos)
    ∙ ap (λ l. make (vector_of a.normal) a.source a.target a.pos l (read_label (label_word a.neg))) (label-read a.mark)
    ∙ ap (λ l. make (vector_of a.normal) a.source a.target a.pos a.mark l) (label-read a.neg))

arcs-tell : (as' : List SArc) → Tells (flat_map arc_line as') (more_arcs as')
arcs-tell [] = nothing
arcs-tell (a ∷ as') = tells-both (arc_line a) (flat_map arc_line as') (more_arcs (a ∷ [])) (more_arcs as') (arc-tells a) (arcs-tell as')

-- ---- sloops
abbrev sloop_words : SLoop → Row
sloop_words l = codes "l" ∷ [] ++ signed_numbers (l.normal.x ∷ l.normal.y ∷ l.normal.z ∷ []) ++ label_word l.mark ∷ label_word l.pos ∷ label_word l.neg ∷ []

abbrev with_sloop : Option SLoop → Told → Told
with_sloop None t = t
with_sloop (Some l) t = told t.svertices t.arcs (Some (sloop_of l)) t.vertices

sloop-good : (l : SLoop) → AreGood (sloop_words l)
sloop-good l =
    let labels : AreGood (label_word l.mark ∷ label_word l.pos ∷ label_word l.neg ∷ []) = (label-good l.mark, (label-good l.pos, (label-good l.neg, tt))) in
    ((omega arith, (omega arith, tt)), (signed-good l.normal.x, (signed-good l.normal.y, (signed-good l.normal.z, labels))))

sloop-tells : (l : SLoop) → Tells (sloop_line l) (with_sloop (Some l))
sloop-tells l = one-row (sloop_words l) refl (with_sloop (Some l)) (sloop-good l) (λ t.
    let make = λ (d : Vector) (p m n : Label). told t.svertices t.arcs (Some (record { normal = d; pos = p; mark = m; neg = n })) t.vertices in
    ap (λ d. make d (read_label (label_word l.pos)) (read_label (label_word l.mark)) (read_label (label_word l.neg))) (dir-read l.normal)
    ∙ ap (λ k. make (vector_of l.normal) k (read_label (label_word l.mark)) (read_label (label_word l.neg))) (label-read l.pos)
    ∙ ap (λ k. make (vector_of l.normal) l.pos k (read_label (label_word l.neg))) (label-read l.mark)
    ∙ ap (λ k. make (vector_of l.normal) l.pos l.mark k) (label-read l.neg))

sloops-tell : (o : Option SLoop) → Tells (flat_map sloop_line (option_to_list o)) (with_sloop o)
sloops-tell None = nothing
sloops-tell (Some l) = tells-both (sloop_line l) [] (with_sloop (Some l)) (λ t. t) (sloop-tells l) nothing

-- ---- vertices
abbrev vertex_words : Vertex → Row
vertex_words v = codes "v" ∷ [] ++ signed_numbers (v.point.x ∷ v.point.y ∷ v.point.z ∷ v.point.w ∷ []) ++ label_word v.map.mark ∷ option_word v.map.ground ∷ []

abbrev with_vertex : Vertex → Told → Told
with_vertex v t = let ground : Option Label = v.map.ground in told [] [] None (record { point = point_of v.point; map = record { mark = v.map.mark; svertices = t.svertices; arcs = t.arcs; sloop = t.sloop; ground = ground } } ∷ t.vertices)

vertex-good : (v : Vertex) → AreGood (vertex_words v)
vertex-good v =
    let p = v.point in
    ((omega arith, (omega arith, tt)), (signed-good p.x, (signed-good p.y, (signed-good p.z, (signed-good p.w, (label-good v.map.mark, (option-good v.map.ground, tt)))))))

line-tells : (v : Vertex) → Tells (vertex_line v) (with_vertex v)
line-tells v = vertex-row (vertex_words v) (with_vertex v) (vertex-good v) (λ first. subst (λ z. pos 0 <ℤ z) (sym (weight-read v.point.w v.point.w_small)) v.point.proper) (λ t.
    let make = λ (p : SpacePoint) (m : Label) (o : Option Label). told [] [] None (record { point = p; map = record { mark = m; svertices = t.svertices; arcs = t.arcs; sloop = t.sloop; ground = o } } ∷ t.vertices) in
    ap (λ p. make p (read_label (label_word v.map.mark)) (read_option (option_word v.map.ground))) (point-place v.point (positive _))
    ∙ ap (λ m. make (point_of v.point) m (read_option (option_word v.map.ground))) (label-read v.map.mark)
    ∙ ap (λ o. make (point_of v.point) v.map.mark o) (option-read v.map.ground))

-- what a vertex's rows tell, before rows that begin no vertex's own
abbrev add_vertex : Vertex → Told → Told
add_vertex v t = with_vertex v (more_svertices v.map.svertices (more_arcs v.map.arcs (with_sloop v.map.sloop t)))

vertex-tells : (v : Vertex) → Tells (vertex_text v) (add_vertex v)
vertex-tells v =
    let m = v.map in
    let a = vertex_line v in
    let b = flat_map svertex_line m.svertices in
    let c = flat_map arc_line m.arcs in
    let d = flat_map sloop_line (option_to_list m.sloop) in
    tells-both (a ++ b ++ c) d (λ t. with_vertex v (more_svertices m.svertices (more_arcs m.arcs t))) (with_sloop m.sloop)
    (tells-both (a ++ b) c (λ t. with_vertex v (more_svertices m.svertices t)) (more_arcs m.arcs)
    (tells-both a b (with_vertex v) (more_svertices m.svertices) (line-tells v) (svertices-tell m.svertices)) (arcs-tell m.arcs))
    (sloops-tell m.sloop)

-- nothing pends
abbrev only : List PlainVertex → Told
only vs = told [] [] None vs

sloop-only : (o : Option SLoop) (vs : List PlainVertex) → with_sloop o (only vs) ≡ told [] [] (option_map sloop_of o) vs
sloop-only None vs = refl
sloop-only (Some l) vs = refl

added : (v : Vertex) (vs : List PlainVertex) → add_vertex v (only vs) ≡ only (vertex_of v ∷ vs)
added v vs =
    let m = v.map in
    let make = λ (ss : List MapVertex) (rs : List Arc). (let ground : Option Label = m.ground in only (record { point = point_of v.point; map = record { mark = m.mark; svertices = ss; arcs = rs; sloop = option_map sloop_of m.sloop; ground = ground } } ∷ vs)) in
    ap (λ t. with_vertex v (more_svertices m.svertices (more_arcs m.arcs t))) (sloop-only m.sloop vs)
    ∙ ap (λ ss. make ss (map arc_of m.arcs ++ [])) (append-nil (map svertex_of m.svertices))
    ∙ ap (λ rs. make (map svertex_of m.svertices) rs) (append-nil (map arc_of m.arcs))

abbrev add_vertices : List Vertex → Told → Told
add_vertices [] t = t
add_vertices (v ∷ vs) t = add_vertex v (add_vertices vs t)

all-added : (vs : List Vertex) → add_vertices vs (only []) ≡ only (map vertex_of vs)
all-added [] = refl
all-added (v ∷ vs) = ap (add_vertex v) (all-added vs) ∙ added v (map vertex_of vs)

vertices-tell : (vs : List Vertex) → Tells (flat_map vertex_text vs) (add_vertices vs)
vertices-tell [] = nothing
vertices-tell (v ∷ vs) = tells-both (vertex_text v) (flat_map vertex_text vs) (add_vertex v) (add_vertices vs) (vertex-tells v) (vertices-tell vs)

-- ---- rows that tell nothing
face-tells : (ns : List ℕ) → Tells (sface_line ns) (λ t. t)
face-tells ns = one-row (codes "g" ∷ [] ++ numbers ns) refl (λ t. t) ((omega arith, (omega arith, tt)), numbers-good ns) (λ t. refl)

edge-tells : (e : Edge) → Tells (edge_line e) (λ t. t)
edge-tells e =
    one-row (codes "e" ∷ [] ++ numbers (e.low ∷ e.low_svertex ∷ e.high ∷ e.high_svertex ∷ []) ++ label_word e.mark ∷ []) refl (λ t. t)
    ((omega arith, (omega arith, tt)), (decimal-good e.low, (decimal-good e.low_svertex, (decimal-good e.high, (decimal-good e.high_svertex, (label-good e.mark, tt)))))) (λ t. refl)

corners-good : (ks : List Corner) → AreGood (flat_map corner_words ks)
corners-good [] = tt
corners-good (k ∷ ks) = Each-append IsGood (corner_words k) (flat_map corner_words ks) (numbers-good (k.vertex ∷ k.item ∷ [])) (corners-good ks)

cycle-tells : (o : Cycle) → Tells (cycle_line o) (λ t. t)
cycle-tells o = one-row (codes "c" ∷ [] ++ flat_map corner_words o.corners) refl (λ t. t) ((omega arith, (omega arith, tt)), corners-good o.corners) (λ t. refl)

facet-tells : (f : Facet) → Tells (facet_text f) (λ t. t)
facet-tells f =
    let h = f.plane in
    let last : AreGood (label_word f.mark ∷ decimal f.pos ∷ decimal f.neg ∷ []) = (label-good f.mark, (decimal-good f.pos, (decimal-good f.neg, tt))) in
    tells-both (facet_line f) (flat_map cycle_line f.cycles) (λ t. t) (λ t. t)
    (one-row (codes "f" ∷ [] ++ signed_numbers (h.a ∷ h.b ∷ h.c ∷ h.d ∷ []) ++ label_word f.mark ∷ [] ++ numbers (f.pos ∷ f.neg ∷ [])) refl (λ t. t)
    ((omega arith, (omega arith, tt)), (signed-good h.a, (signed-good h.b, (signed-good h.c, (signed-good h.d, last))))) (λ t. refl))
    (silent cycle_line cycle-tells f.cycles)

volume-tells : (l : Label) → Tells (volume_line l) (λ t. t)
volume-tells l = one-row (codes "w" ∷ label_word l ∷ []) refl (λ t. t) ((omega arith, (omega arith, tt)), (label-good l, tt)) (λ t. refl)

sides-good : (ss : List Side) → AreGood (flat_map side_words ss)
sides-good [] = tt
sides-good (s ∷ ss) = Each-append IsGood (side_words s) (flat_map side_words ss) (numbers-good (s.vertex ∷ s.side ∷ [])) (sides-good ss)

shell-tells : (h : Shell) → Tells (shell_line h) (λ t. t)
shell-tells h = one-row (codes "h" ∷ [] ++ flat_map side_words h.sides) refl (λ t. t) ((omega arith, (omega arith, tt)), sides-good h.sides) (λ t. refl)

shelled-tells : (w : Label × List Shell) → Tells (shelled_text w) (λ t. t)
shelled-tells w = tells-both (volume_line w.0) (flat_map shell_line w.1) (λ t. t) (λ t. t) (volume-tells w.0) (silent shell_line shell-tells w.1)

version-good : (version : TextVersion) → IsGood (version_word version)
version-good One = (omega arith, (omega arith, tt))
version-good Two = (omega arith, (omega arith, tt))

first-tells : (version : TextVersion) (c : Complex) (p : Parts) → Tells (first_line version c p) (λ t. t)
first-tells version c p =
    one-row (codes "nef3" ∷ version_word version ∷ [] ++ numbers (counts c p)) refl (λ t. t)
    ((omega arith, (omega arith, (omega arith, (omega arith, (omega arith, tt))))), (version-good version, numbers-good (counts c p))) (λ t. refl)

-- ---- the whole text
faced-tells : (xs : List (Vertex × List ℕ)) → Tells (flat_map faced_text xs) (add_vertices (map (λ (x : Vertex × List ℕ). x.0) xs))
faced-tells [] = nothing
faced-tells (x ∷ xs) =
    tells-both (faced_text x) (flat_map faced_text xs) (add_vertex x.0) (add_vertices (map (λ (x : Vertex × List ℕ). x.0) xs))
    (tells-both (vertex_text x.0) (sface_line x.1) (add_vertex x.0) (λ t. t) (vertex-tells x.0) (face-tells x.1)) (faced-tells xs)

all-vertices : (version : TextVersion) (c : Complex) (p : Parts) → Tells (vertices_text version c p) (add_vertices c.vertices)
all-vertices One c p = vertices-tell c.vertices
all-vertices Two c p = subst (λ vs. Tells (flat_map faced_text (with_rows c.vertices p.sface_of)) (add_vertices vs)) (with-rows_firsts c.vertices p.sface_of) (faced-tells (with_rows c.vertices p.sface_of))

all-volumes : (version : TextVersion) (p : Parts) → Tells (volumes_text version p) (λ t. t)
all-volumes One p = silent volume_line volume-tells p.volumes
all-volumes Two p = silent shelled_text shelled-tells (with_rows p.volumes p.shells)

text-tells : (version : TextVersion) (c : Complex) (p : Parts) → Tells (text version c p) (add_vertices c.vertices)
text-tells version c p =
    let a = first_line version c p in
    let b = vertices_text version c p in
    let e = flat_map edge_line c.edges in
    let f = flat_map facet_text p.facets in
    tells-both (a ++ b ++ e ++ f) (volumes_text version p) (add_vertices c.vertices) (λ t. t)
    (tells-both (a ++ b ++ e) f (add_vertices c.vertices) (λ t. t)
    (tells-both (a ++ b) e (add_vertices c.vertices) (λ t. t)
    (tells-both a b (λ t. t) (add_vertices c.vertices) (first-tells version c p) (all-vertices version c p))
    (silent edge_line edge-tells c.edges)) (silent facet_text facet-tells p.facets)) (all-volumes version p)

-- the rows of a text tell the vertices of its complex
pub vertices-told : (version : TextVersion) (c : Complex) (p : Parts) → vertices_told (text version c p) ≡ map vertex_of c.vertices
vertices-told version c p =
    let h = text-tells version c p in
    ap (λ (t : Told). t.vertices)
    (ap (λ x. told_by (line_rows x)) h.is ∙ ap told_by (rows-read h.rows h.good) ∙ sym (onto-all h.rows) ∙ h.tells (only []) ∙ all-added c.vertices)

-- and each row that tells a vertex has a positive w
abbrev pub HasWeights : List Row → Type 0
HasWeights rows = (n : ℕ) (row : Row) → slice_get rows n ≡ Some row → word_at row 0 ≡ codes "v" → pos 0 <ℤ number_at row 4

each-weighed : (rows : List Row) → Each IsWeighed rows → HasWeights rows
each-weighed [] h n row at first = let f : None ≡ Some row = at in cc
each-weighed (r ∷ rows) h zero row at first = let f : r ≡ row = (let e : Some r ≡ Some row = at in cc) in subst IsWeighed f h.0 first
each-weighed (r ∷ rows) h (suc n) row at first = each-weighed rows h.1 n row at first

pub weights-told : (version : TextVersion) (c : Complex) (p : Parts) → HasWeights (line_rows (text version c p))
weights-told version c p =
    let h = text-tells version c p in
    subst HasWeights (sym (ap line_rows h.is ∙ rows-read h.rows h.good)) (each-weighed h.rows h.weighed)
