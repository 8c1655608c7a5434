-- The vertices that a text tells.
use Rattle.nef_statement.proofs.text.Prelude.{◌≡◌, ℕ, ℤ, pos, negsuc, ◌<◌, ◌≤◌, ◌^◌, nat_abs, arith, refl, ap, sym, ◌∙◌, List, [], ◌∷◌, ◌++◌, get_or, map, append_assoc, Option, Some, None, option_to_list, decimal, signed_decimal, flat_map, map-id, direction_limit, point_limit, weight_limit, vector, Dir, Point, SVertex, SArc, SLoop, same-dirs, svertex-equal, arc-equal, sloop-equal, map-equal, vertex-equal, TextVersion, One, Two, Parts, Word, label_word, option_word, numbers, vertex_line, svertex_line, arc_line, sloop_line, vertex_text, sface_line, faced_text, with_rows, vertices_text}
use lib.Signed.{mag}
use Rattle.std.proofs.lemmas.Fmt.{decimal_injective, signed_decimal_injective}
use Rattle.nef_complex.specs.declared.complex.Vertex.{Vertex}
use Rattle.nef_complex.specs.declared.complex.Complex.{Complex}
use Rattle.nef_statement.proofs.text.Lines.{ArePlain, Starts, Lacks, same-head, line-starts, line-ends, starts-onto, starts-lacks}
use Rattle.nef_statement.proofs.text.Words.{decimal-plain, numbers-plain, signed-plain, label-plain, option-plain, label-one, option-one}
use Rattle.nef_statement.proofs.text.Lists.{IsReadBack, ReadsAll, AnyRest, all-lack, all-read, four_parts}
use Rattle.nef_complex.proofs.SamePoints.{point-one}

-- the n-th word of a line
abbrev nth : ℕ → List Word → Word
nth n ws = get_or ws n []

-- ---- points and directions
small : (k : ℕ) (z : ℤ) → k < 2 ^ 63 → nat_abs z ≤ k → mag z < 2 ^ 63
small k (pos n) l h = omega arith
small k (negsuc n) l h = omega arith

number-read : (k : ℕ) (y z : ℤ) → k < 2 ^ 63 → nat_abs y ≤ k → nat_abs z ≤ k → signed_decimal y ≡ signed_decimal z → y ≡ z
number-read k y z l g h e = signed_decimal_injective y z (small k y l g) (small k z l h) e

dir-read : (d e : Dir) → signed_decimal d.x ≡ signed_decimal e.x → signed_decimal d.y ≡ signed_decimal e.y → signed_decimal d.z ≡ signed_decimal e.z → d ≡ e
dir-read d e a b c =
    let l : direction_limit < 2 ^ 63 = omega arith in
    same-dirs d e
    (ap (λ r. vector r d.y d.z) (number-read direction_limit d.x e.x l d.x_small e.x_small a)
    ∙ ap (λ r. vector e.x r d.z) (number-read direction_limit d.y e.y l d.y_small e.y_small b)
    ∙ ap (λ r. vector e.x e.y r) (number-read direction_limit d.z e.z l d.z_small e.z_small c))

point-read : (p q : Point) → signed_decimal p.x ≡ signed_decimal q.x → signed_decimal p.y ≡ signed_decimal q.y
    → signed_decimal p.z ≡ signed_decimal q.z → signed_decimal p.w ≡ signed_decimal q.w → p ≡ q
point-read p q a b c d =
    let l : point_limit < 2 ^ 63 = omega arith in
    let k : weight_limit < 2 ^ 63 = omega arith in
    point-one p q (number-read point_limit p.x q.x l p.x_small q.x_small a) (number-read point_limit p.y q.y l p.y_small q.y_small b)
    (number-read point_limit p.z q.z l p.z_small q.z_small c) (number-read weight_limit p.w q.w k p.w_small q.w_small d)

-- ---- svertices
abbrev svertex_words : SVertex → List Word
svertex_words v = signed_decimal v.dir.x ∷ signed_decimal v.dir.y ∷ signed_decimal v.dir.z ∷ label_word v.mark ∷ option_word v.around ∷ []

svertex-plain : (v : SVertex) → ArePlain ((115 ∷ []) ∷ svertex_words v)
svertex-plain v = ((omega arith, tt), (signed-plain v.dir.x, (signed-plain v.dir.y, (signed-plain v.dir.z, (label-plain v.mark, (option-plain v.around, tt))))))

svertex-starts : (v : SVertex) → Starts 115 (svertex_line v)
svertex-starts v = line-starts 115 [] (svertex_words v)

svertex-reads : IsReadBack SVertex SVertex AnyRest (λ (v : SVertex). v) svertex_line
svertex-reads v u x y P Q e =
    let r = line-ends (115 ∷ []) (svertex_words v) (115 ∷ []) (svertex_words u) x y (svertex-plain v) (svertex-plain u) e in
    let d = dir-read v.dir u.dir (ap (nth 1) r.0) (ap (nth 2) r.0) (ap (nth 3) r.0) in
    (svertex-equal v u d (label-one v.mark u.mark (ap (nth 4) r.0)) (option-one v.around u.around (ap (nth 5) r.0)), r.1)

svertex-lists : ReadsAll SVertex SVertex AnyRest (λ (v : SVertex). v) svertex_line 115
svertex-lists = all-read SVertex SVertex AnyRest (λ (v : SVertex). v) svertex_line 115 svertex-starts svertex-reads (λ _ _. tt)

-- ---- arcs
abbrev arc_words : SArc → List Word
arc_words a = decimal a.source ∷ decimal a.target ∷ signed_decimal a.normal.x ∷ signed_decimal a.normal.y ∷ signed_decimal a.normal.z
    ∷ label_word a.mark ∷ label_word a.pos ∷ label_word a.neg ∷ []

arc-plain : (a : SArc) → ArePlain ((97 ∷ []) ∷ arc_words a)
arc-plain a =
    let labels : ArePlain (label_word a.mark ∷ label_word a.pos ∷ label_word a.neg ∷ []) = (label-plain a.mark, (label-plain a.pos, (label-plain a.neg, tt))) in
    let n = a.normal in
    ((omega arith, tt), (decimal-plain a.source, (decimal-plain a.target, (signed-plain n.x, (signed-plain n.y, (signed-plain n.z, labels))))))

arc-starts : (a : SArc) → Starts 97 (arc_line a)
arc-starts a = line-starts 97 [] (arc_words a)

arc-reads : IsReadBack SArc SArc AnyRest (λ (a : SArc). a) arc_line
arc-reads a b x y P Q e =
    let r = line-ends (97 ∷ []) (arc_words a) (97 ∷ []) (arc_words b) x y (arc-plain a) (arc-plain b) e in
    let s = decimal_injective a.source b.source a.source_small b.source_small (ap (nth 1) r.0) in
    let t = decimal_injective a.target b.target a.target_small b.target_small (ap (nth 2) r.0) in
    let n = dir-read a.normal b.normal (ap (nth 3) r.0) (ap (nth 4) r.0) (ap (nth 5) r.0) in
    (arc-equal a b s t n (label-one a.mark b.mark (ap (nth 6) r.0)) (label-one a.pos b.pos (ap (nth 7) r.0)) (label-one a.neg b.neg (ap (nth 8) r.0)), r.1)

arc-lists : ReadsAll SArc SArc AnyRest (λ (a : SArc). a) arc_line 97
arc-lists = all-read SArc SArc AnyRest (λ (a : SArc). a) arc_line 97 arc-starts arc-reads (λ _ _. tt)

-- ---- sloops
abbrev sloop_words : SLoop → List Word
sloop_words l = signed_decimal l.normal.x ∷ signed_decimal l.normal.y ∷ signed_decimal l.normal.z ∷ label_word l.mark ∷ label_word l.pos ∷ label_word l.neg ∷ []

sloop-plain : (l : SLoop) → ArePlain ((108 ∷ []) ∷ sloop_words l)
sloop-plain l = (
  (omega arith, tt),
  (signed-plain l.normal.x, (signed-plain l.normal.y, (signed-plain l.normal.z, (label-plain l.mark, (label-plain l.pos, (label-plain l.neg, tt)))))),
)

sloop-starts : (l : SLoop) → Starts 108 (sloop_line l)
sloop-starts l = line-starts 108 [] (sloop_words l)

sloop-reads : IsReadBack SLoop SLoop AnyRest (λ (l : SLoop). l) sloop_line
sloop-reads l k x y P Q e =
    let r = line-ends (108 ∷ []) (sloop_words l) (108 ∷ []) (sloop_words k) x y (sloop-plain l) (sloop-plain k) e in
    let n = dir-read l.normal k.normal (ap (nth 1) r.0) (ap (nth 2) r.0) (ap (nth 3) r.0) in
    (sloop-equal l k n (label-one l.mark k.mark (ap (nth 4) r.0)) (label-one l.pos k.pos (ap (nth 5) r.0)) (label-one l.neg k.neg (ap (nth 6) r.0)), r.1)

sloop-lists : ReadsAll SLoop SLoop AnyRest (λ (l : SLoop). l) sloop_line 108
sloop-lists = all-read SLoop SLoop AnyRest (λ (l : SLoop). l) sloop_line 108 sloop-starts sloop-reads (λ _ _. tt)

-- an optional thing is told by its list
option-listed : {A : Type 0} (o p : Option A) → option_to_list o ≡ option_to_list p → o ≡ p
option-listed None None e = refl
option-listed None (Some y) e = cc
option-listed (Some x) None e = cc
option-listed {A} (Some x) (Some y) e = ap (λ (r : A). Some r) (same-head x y [] [] e)

-- ---- vertices
abbrev vertex_words : Vertex → List Word
vertex_words v = signed_decimal v.point.x ∷ signed_decimal v.point.y ∷ signed_decimal v.point.z ∷ signed_decimal v.point.w
    ∷ label_word v.map.mark ∷ option_word v.map.ground ∷ []

vertex-plain : (v : Vertex) → ArePlain ((118 ∷ []) ∷ vertex_words v)
vertex-plain v =
    let labels : ArePlain (label_word v.map.mark ∷ option_word v.map.ground ∷ []) = (label-plain v.map.mark, (option-plain v.map.ground, tt)) in
    let p = v.point in
    ((omega arith, tt), (signed-plain p.x, (signed-plain p.y, (signed-plain p.z, (signed-plain p.w, labels)))))

line-read : (v u : Vertex) (x y : List ℕ) → vertex_line v ++ x ≡ vertex_line u ++ y
    → (v.point ≡ u.point) × (v.map.mark ≡ u.map.mark) × (v.map.ground ≡ u.map.ground) × (x ≡ y)
line-read v u x y e =
    let r = line-ends (118 ∷ []) (vertex_words v) (118 ∷ []) (vertex_words u) x y (vertex-plain v) (vertex-plain u) e in
    let p = point-read v.point u.point (ap (nth 1) r.0) (ap (nth 2) r.0) (ap (nth 3) r.0) (ap (nth 4) r.0) in
    (p, label-one v.map.mark u.map.mark (ap (nth 5) r.0), option-one v.map.ground u.map.ground (ap (nth 6) r.0), r.1)

-- what follows a vertex begins with no line of a vertex but its first
abbrev pub FollowsVertex : List ℕ → Type 0
FollowsVertex x = Lacks 115 x × Lacks 97 x × Lacks 108 x

abbrev sloop_and : Vertex → List ℕ → List ℕ
sloop_and v x = flat_map sloop_line (option_to_list v.map.sloop) ++ x

abbrev arcs_and : Vertex → List ℕ → List ℕ
arcs_and v x = flat_map arc_line v.map.arcs ++ sloop_and v x

sloop-lacks : (d : ℕ) → (108 ≡ d → ⊥) → (v : Vertex) (x : List ℕ) → Lacks d x → Lacks d (sloop_and v x)
sloop-lacks d n v x h = all-lack SLoop sloop_line 108 sloop-starts d n (option_to_list v.map.sloop) x h

arcs-lack : (d : ℕ) → (97 ≡ d → ⊥) → (108 ≡ d → ⊥) → (v : Vertex) (x : List ℕ) → Lacks d x → Lacks d (arcs_and v x)
arcs-lack d m n v x h = all-lack SArc arc_line 97 arc-starts d m v.map.arcs (sloop_and v x) (sloop-lacks d n v x h)

svertices-read : (v u : Vertex) (x y : List ℕ) → FollowsVertex x → FollowsVertex y
    → flat_map svertex_line v.map.svertices ++ arcs_and v x ≡ flat_map svertex_line u.map.svertices ++ arcs_and u y → (v.map.svertices ≡ u.map.svertices) × (arcs_and v x ≡ arcs_and u y)
svertices-read v u x y P Q e =
    let h = arcs-lack 115 (λ e. omega arith) (λ e. omega arith) v x P.0 in
    let k = arcs-lack 115 (λ e. omega arith) (λ e. omega arith) u y Q.0 in
    let s = svertex-lists v.map.svertices u.map.svertices (arcs_and v x) (arcs_and u y) tt tt h k e in
    (sym (map-id v.map.svertices) ∙ s.0 ∙ map-id u.map.svertices, s.1)

arcs-read : (v u : Vertex) (x y : List ℕ) → FollowsVertex x → FollowsVertex y → arcs_and v x ≡ arcs_and u y
    → (v.map.arcs ≡ u.map.arcs) × (sloop_and v x ≡ sloop_and u y)
arcs-read v u x y P Q e =
    let h = sloop-lacks 97 (λ e. omega arith) v x P.1 in
    let k = sloop-lacks 97 (λ e. omega arith) u y Q.1 in
    let s = arc-lists v.map.arcs u.map.arcs (sloop_and v x) (sloop_and u y) tt tt h k e in
    (sym (map-id v.map.arcs) ∙ s.0 ∙ map-id u.map.arcs, s.1)

sloop-read : (v u : Vertex) (x y : List ℕ) → FollowsVertex x → FollowsVertex y → sloop_and v x ≡ sloop_and u y → (v.map.sloop ≡ u.map.sloop) × (x ≡ y)
sloop-read v u x y P Q e =
    let a = option_to_list v.map.sloop in
    let b = option_to_list u.map.sloop in
    let s = sloop-lists a b x y tt tt P.2 Q.2 e in
    (option-listed v.map.sloop u.map.sloop (sym (map-id a) ∙ s.0 ∙ map-id b), s.1)

pieces : (v : Vertex) (x : List ℕ) → vertex_text v ++ x ≡ vertex_line v ++ (flat_map svertex_line v.map.svertices ++ arcs_and v x)
pieces v x =
    let m = v.map in four_parts (vertex_line v) (flat_map svertex_line m.svertices) (flat_map arc_line m.arcs) (flat_map sloop_line (option_to_list m.sloop)) x

vertex-reads : IsReadBack Vertex Vertex FollowsVertex (λ (v : Vertex). v) vertex_text
vertex-reads v u x y P Q e =
    let h = line-read v u _ _ (sym (pieces v x) ∙ e ∙ pieces u y) in
    let s = svertices-read v u x y P Q h.3 in
    let a = arcs-read v u x y P Q s.1 in
    let l = sloop-read v u x y P Q a.1 in
    (vertex-equal v u h.0 (map-equal v.map u.map h.1 s.0 a.0 l.0 h.2), l.1)

vertex-starts : (v : Vertex) → Starts 118 (vertex_text v)
vertex-starts v =
    let s = starts-onto 118 (vertex_line v) (flat_map svertex_line v.map.svertices) (line-starts 118 [] (vertex_words v)) in
    starts-onto 118 _ (flat_map sloop_line (option_to_list v.map.sloop)) (starts-onto 118 _ (flat_map arc_line v.map.arcs) s)

before-vertex : (v : Vertex) (x : List ℕ) → FollowsVertex (vertex_text v ++ x)
before-vertex v x =
    let s = vertex-starts v in
    let t = vertex_text v in
    (starts-lacks 118 115 t x s (λ e. omega arith), starts-lacks 118 97 t x s (λ e. omega arith), starts-lacks 118 108 t x s (λ e. omega arith))

vertex-lists : ReadsAll Vertex Vertex FollowsVertex (λ (v : Vertex). v) vertex_text 118
vertex-lists = all-read Vertex Vertex FollowsVertex (λ (v : Vertex). v) vertex_text 118 vertex-starts vertex-reads before-vertex

-- ---- vertices with the numbers of their sfaces
face-plain : (ns : List ℕ) → ArePlain ((103 ∷ []) ∷ numbers ns)
face-plain ns = ((omega arith, tt), numbers-plain ns)

face-starts : (ns : List ℕ) → Starts 103 (sface_line ns)
face-starts ns = line-starts 103 [] (numbers ns)

face-follows : (ns : List ℕ) (x : List ℕ) → FollowsVertex (sface_line ns ++ x)
face-follows ns x =
    let s = face-starts ns in
    let t = sface_line ns in
    (starts-lacks 103 115 t x s (λ e. omega arith), starts-lacks 103 97 t x s (λ e. omega arith), starts-lacks 103 108 t x s (λ e. omega arith))

abbrev Faced : Type 0
Faced = Vertex × List ℕ

faced-starts : (v : Faced) → Starts 118 (faced_text v)
faced-starts v = starts-onto 118 (vertex_text v.0) (sface_line v.1) (vertex-starts v.0)

faced-reads : IsReadBack Faced Vertex AnyRest (λ (v : Faced). v.0) faced_text
faced-reads v u x y P Q e =
    let f = sym (append_assoc (vertex_text v.0) (sface_line v.1) x) ∙ e ∙ append_assoc (vertex_text u.0) (sface_line u.1) y in
    let r = vertex-reads v.0 u.0 (sface_line v.1 ++ x) (sface_line u.1 ++ y) (face-follows v.1 x) (face-follows u.1 y) f in
    (r.0, (line-ends (103 ∷ []) (numbers v.1) (103 ∷ []) (numbers u.1) x y (face-plain v.1) (face-plain u.1) r.1).1)

faced-lists : ReadsAll Faced Vertex AnyRest (λ (v : Faced). v.0) faced_text 118
faced-lists = all-read Faced Vertex AnyRest (λ (v : Faced). v.0) faced_text 118 faced-starts faced-reads (λ _ _. tt)

pub with-rows_firsts : {X Y : Type 0} (xs : List X) (rows : List (List Y)) → map (λ (x : X × List Y). x.0) (with_rows xs rows) ≡ xs
with-rows_firsts [] rows = refl
with-rows_firsts {X} (x ∷ xs) [] = ap (λ (ys : List X). x ∷ ys) (with-rows_firsts xs [])
with-rows_firsts {X} (x ∷ xs) (row ∷ rows) = ap (λ (ys : List X). x ∷ ys) (with-rows_firsts xs rows)

-- the vertices, as the version has them
pub vertices-listed : (version : TextVersion) (c d : Complex) (p q : Parts) (x y : List ℕ) → FollowsVertex x → FollowsVertex y → Lacks 118 x → Lacks 118 y
    → vertices_text version c p ++ x ≡ vertices_text version d q ++ y → (c.vertices ≡ d.vertices) × (x ≡ y)
vertices-listed One c d p q x y P Q h k e =
    let r = vertex-lists c.vertices d.vertices x y P Q h k e in
    (sym (map-id c.vertices) ∙ r.0 ∙ map-id d.vertices, r.1)
vertices-listed Two c d p q x y P Q h k e =
    let r = faced-lists (with_rows c.vertices p.sface_of) (with_rows d.vertices q.sface_of) x y tt tt h k e in
    (sym (with-rows_firsts c.vertices p.sface_of) ∙ r.0 ∙ with-rows_firsts d.vertices q.sface_of, r.1)
