-- What the program holds is told by what it stands for.
use Rattle.nef_unique.proofs.Prelude.{◌≡◌, ℕ, ◌<◌, ◌^◌, refl, ap, ◌∙◌, List, [], ◌∷◌, map, subst, Option, Some, None, option_map, Label, Dir, MapVertex, Arc, MapSloop, Map, svertex_of, arc_of, sloop_of, map_of, SVertex, SArc, SLoop, SphereMap, Edge as PlainEdge, Vertex, edge_of}
use Rattle.std.proofs.Props.{props}
use Rattle.nef_index.specs.declared.skeleton.Edge.{Edge}
use Rattle.nef_star.proofs.RoundStars.{same-dirs}

-- ---- lists and options
pub map-one : {A B : Type 0} (f : A → B) → ((x y : A) → f x ≡ f y → x ≡ y) → (xs ys : List A) → map f xs ≡ map f ys → xs ≡ ys
map-one f one [] [] e = refl
map-one f one [] (y ∷ ys) e = cc
map-one f one (x ∷ xs) [] e = cc
map-one {A} {B} f one (x ∷ xs) (y ∷ ys) e =
    let h : f x ≡ f y = cc in
    let t : map f xs ≡ map f ys = cc in
    ap (λ (r : A). r ∷ xs) (one x y h) ∙ ap (λ (r : List A). y ∷ r) (map-one f one xs ys t)

pub option-one : {A B : Type 0} (f : A → B) → ((x y : A) → f x ≡ f y → x ≡ y) → (o p : Option A) → option_map f o ≡ option_map f p → o ≡ p
option-one f one None None e = refl
option-one f one None (Some y) e = cc
option-one f one (Some x) None e = cc
option-one {A} f one (Some x) (Some y) e = let h : f x ≡ f y = cc in ap (λ (r : A). Some r) (one x y h)

-- ---- what a map holds
pub svertex-equal : (v u : SVertex) → v.dir ≡ u.dir → v.mark ≡ u.mark → v.around ≡ u.around → v ≡ u
svertex-equal v u a b c =
    ap (λ r. record { dir = r; mark = v.mark; around = v.around }) a
    ∙ ap (λ r. record { dir = u.dir; mark = r; around = v.around }) b
    ∙ ap (λ r. record { dir = u.dir; mark = u.mark; around = r }) c

pub sloop-equal : (l k : SLoop) → l.normal ≡ k.normal → l.mark ≡ k.mark → l.pos ≡ k.pos → l.neg ≡ k.neg → l ≡ k
sloop-equal l k n m f g =
    ap (λ r. record { normal = r; mark = l.mark; pos = l.pos; neg = l.neg }) n
    ∙ ap (λ r. record { normal = k.normal; mark = r; pos = l.pos; neg = l.neg }) m
    ∙ ap (λ r. record { normal = k.normal; mark = k.mark; pos = r; neg = l.neg }) f
    ∙ ap (λ r. record { normal = k.normal; mark = k.mark; pos = k.pos; neg = r }) g

abbrev AreSmall : ℕ → ℕ → Type 0
AreSmall i j = (i < 2 ^ 64) × (j < 2 ^ 64)

AreSmall-prop : (i j : ℕ) → IsProp (AreSmall i j)
AreSmall-prop i j = hlevel props

abbrev arc : (i j : ℕ) → AreSmall i j → Dir → Label → Label → Label → SArc
arc i j h n m f g = record { source = i; target = j; normal = n; mark = m; pos = f; neg = g; source_small = h.0; target_small = h.1 }

numbers-equal : (i j : ℕ) (h : AreSmall i j) (i' j' : ℕ) (k : AreSmall i' j') (n : Dir) (m f g : Label) → i ≡ i' → j ≡ j' → arc i j h n m f g ≡ arc i' j' k n m f g
numbers-equal i j h i' j' k n m f g a b =
    subst (λ (x : ℕ). (y : AreSmall x j') → arc i j h n m f g ≡ arc x j' y n m f g) a
    (subst (λ (x : ℕ). (y : AreSmall i x) → arc i j h n m f g ≡ arc i x y n m f g) b
    (λ (y : AreSmall i j). ap (λ r. arc i j r n m f g) (AreSmall-prop i j h y))) k

-- arcs with the same numbers, normal and labels are equal, whatever proofs they hold
pub arc-equal : (a b : SArc) → a.source ≡ b.source → a.target ≡ b.target → a.normal ≡ b.normal → a.mark ≡ b.mark → a.pos ≡ b.pos → a.neg ≡ b.neg → a ≡ b
arc-equal a b s t n m f g =
    numbers-equal a.source a.target (a.source_small, a.target_small) b.source b.target (b.source_small, b.target_small) a.normal a.mark a.pos a.neg s t
    ∙ ap (λ r. arc b.source b.target (b.source_small, b.target_small) r a.mark a.pos a.neg) n
    ∙ ap (λ r. arc b.source b.target (b.source_small, b.target_small) b.normal r a.pos a.neg) m
    ∙ ap (λ r. arc b.source b.target (b.source_small, b.target_small) b.normal b.mark r a.neg) f
    ∙ ap (λ r. arc b.source b.target (b.source_small, b.target_small) b.normal b.mark b.pos r) g

pub map-equal : (m n : SphereMap) → m.mark ≡ n.mark → m.svertices ≡ n.svertices → m.arcs ≡ n.arcs → m.sloop ≡ n.sloop → m.ground ≡ n.ground → m ≡ n
map-equal m n a b c d e =
    ap (λ r. record { mark = r; svertices = m.svertices; arcs = m.arcs; sloop = m.sloop; ground = m.ground }) a
    ∙ ap (λ r. record { mark = n.mark; svertices = r; arcs = m.arcs; sloop = m.sloop; ground = m.ground }) b
    ∙ ap (λ r. record { mark = n.mark; svertices = n.svertices; arcs = r; sloop = m.sloop; ground = m.ground }) c
    ∙ ap (λ r. record { mark = n.mark; svertices = n.svertices; arcs = n.arcs; sloop = r; ground = m.ground }) d
    ∙ ap (λ r. record { mark = n.mark; svertices = n.svertices; arcs = n.arcs; sloop = n.sloop; ground = r }) e

-- ---- by what they stand for
svertex-one : (v u : SVertex) → svertex_of v ≡ svertex_of u → v ≡ u
svertex-one v u e = svertex-equal v u (same-dirs v.dir u.dir (ap (λ (r : MapVertex). r.dir) e)) (ap (λ (r : MapVertex). r.mark) e) (ap (λ (r : MapVertex). r.around) e)

arc-one : (a b : SArc) → arc_of a ≡ arc_of b → a ≡ b
arc-one a b e =
    arc-equal a b (ap (λ (r : Arc). r.source) e) (ap (λ (r : Arc). r.target) e) (same-dirs a.normal b.normal (ap (λ (r : Arc). r.normal) e))
    (ap (λ (r : Arc). r.mark) e) (ap (λ (r : Arc). r.pos) e) (ap (λ (r : Arc). r.neg) e)

sloop-one : (l k : SLoop) → sloop_of l ≡ sloop_of k → l ≡ k
sloop-one l k e = sloop-equal l k (same-dirs l.normal k.normal (ap (λ (r : MapSloop). r.normal) e)) (ap (λ (r : MapSloop). r.mark) e) (ap (λ (r : MapSloop). r.pos) e) (ap (λ (r : MapSloop). r.neg) e)

pub map_of-one : (m n : SphereMap) → map_of m ≡ map_of n → m ≡ n
map_of-one m n e =
    map-equal m n (ap (λ (r : Map). r.mark) e)
    (map-one svertex_of svertex-one m.svertices n.svertices (ap (λ (r : Map). r.svertices) e))
    (map-one arc_of arc-one m.arcs n.arcs (ap (λ (r : Map). r.arcs) e))
    (option-one sloop_of sloop-one m.sloop n.sloop (ap (λ (r : Map). r.sloop) e))
    (ap (λ (r : Map). r.ground) e)

-- ---- what a complex holds
pub vertex-equal : (v u : Vertex) → v.point ≡ u.point → v.map ≡ u.map → v ≡ u
vertex-equal v u p m = ap (λ r. record { point = r; map = v.map }) p ∙ ap (λ r. record { point = u.point; map = r }) m

pub edge-one : (e f : Edge) → edge_of e ≡ edge_of f → e ≡ f
edge-one e f q =
    ap (λ r. record { low = r; low_svertex = e.low_svertex; high = e.high; high_svertex = e.high_svertex; mark = e.mark }) (ap (λ (r : PlainEdge). r.low) q)
    ∙ ap (λ r. record { low = f.low; low_svertex = r; high = e.high; high_svertex = e.high_svertex; mark = e.mark }) (ap (λ (r : PlainEdge). r.low_svertex) q)
    ∙ ap (λ r. record { low = f.low; low_svertex = f.low_svertex; high = r; high_svertex = e.high_svertex; mark = e.mark }) (ap (λ (r : PlainEdge). r.high) q)
    ∙ ap (λ r. record { low = f.low; low_svertex = f.low_svertex; high = f.high; high_svertex = r; mark = e.mark }) (ap (λ (r : PlainEdge). r.high_svertex) q)
    ∙ ap (λ r. record { low = f.low; low_svertex = f.low_svertex; high = f.high; high_svertex = f.high_svertex; mark = r }) (ap (λ (r : PlainEdge). r.mark) q)
