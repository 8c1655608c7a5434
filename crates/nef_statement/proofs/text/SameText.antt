-- Complexes that show one set have the same text.
use Rattle.nef_statement.proofs.text.Prelude.{◌≡◌, ℕ, List, map, sym, ◌∙◌, ap, subst, ◌↔◌, SameSet, SpacePoint, InFrame, Set, Holds, form_of, Belongs, Edge as PlainEdge, Edges, Shows, complex_of, vertex_of, edge_of, TextVersion, One, Two, Parts, IsParts, text, Spells, edges-one, set-vertices}
use Rattle.law_geometry.specs.complex.Laws.{BelongsHolds}
use Rattle.nef_complex.specs.declared.complex.Complex.{Complex}
use Rattle.nef_complex.specs.declared.complex.Vertex.{Vertex}
use Rattle.nef_index.specs.declared.skeleton.Edge.{Edge}
use Rattle.nef_unique.proofs.Sets.{vertices-set}
use Rattle.nef_statement.proofs.text.Whole.{vertices-read}
use Rattle.nef_statement.proofs.text.Carriers.{made, parts-too, belongs-too}
use Rattle.nef_statement.proofs.text.OneNext.{one-next}
use Rattle.nef_statement.proofs.text.OneParts.{parts-one}

pub same-parts : (c d : Complex) (p : Parts) → c.vertices ≡ d.vertices → c.edges ≡ d.edges → IsParts (complex_of c) p → IsParts (complex_of d) p
same-parts c d p e f a =
    subst (λ (ws : List Edge). IsParts (made (map form_of d.carriers) (map vertex_of d.vertices) (map edge_of ws)) p) f
    (subst (λ (vs : List Vertex). IsParts (made (map form_of d.carriers) (map vertex_of vs) (map edge_of c.edges)) p) e
    (parts-too (map vertex_of c.vertices) (map edge_of c.edges) (map form_of c.carriers) (map form_of d.carriers) p a))

-- the text looks at vertices, edges and parts alone
text-of : (version : TextVersion) (c d : Complex) (p q : Parts) → c.vertices ≡ d.vertices → c.edges ≡ d.edges → p ≡ q → text version c p ≡ text version d q
text-of One c d p q e f g =
    ap (λ (vs : List Vertex). text One (record { carriers = c.carriers; vertices = vs; edges = c.edges; has_item = c.has_item; index = c.index }) p) e
    ∙ ap (λ (es : List Edge). text One (record { carriers = c.carriers; vertices = d.vertices; edges = es; has_item = c.has_item; index = c.index }) p) f
    ∙ ap (λ (r : Parts). text One d r) g
text-of Two c d p q e f g =
    ap (λ (vs : List Vertex). text Two (record { carriers = c.carriers; vertices = vs; edges = c.edges; has_item = c.has_item; index = c.index }) p) e
    ∙ ap (λ (es : List Edge). text Two (record { carriers = c.carriers; vertices = d.vertices; edges = es; has_item = c.has_item; index = c.index }) p) f
    ∙ ap (λ (r : Parts). text Two d r) g

pub same-set_text : (version : TextVersion) (s t : Set) (c d : Complex) (p q : Parts) → Shows s (complex_of c) → Shows t (complex_of d) → SameSet s t → IsParts (complex_of c) p → IsParts (complex_of d) q → (p ≡ q) × (text version c p ≡ text version d q)
same-set_text version s t c d p q S T same P Q =
    let r = set-vertices s t c d S T same in
    let e = parts-one (complex_of d) (one-next t (complex_of d) T) p q (same-parts c d p (r.0) (r.1) P) Q in
    (e, text-of version c d p q (r.0) (r.1) e)

pub text-set : (version : TextVersion) (s t : Set) (c d : Complex) (p q : Parts) → Shows s (complex_of c) → Shows t (complex_of d) → text version c p ≡ text version d q → SameSet s t
text-set version s t c d p q S T e = vertices-set s t (complex_of c) (complex_of d) S T (ap (map vertex_of) (vertices-read version c d p q e))

-- complexes with the same vertices and edges have the same points
belongs-same : (c d : Complex) (y : SpacePoint) → c.vertices ≡ d.vertices → map edge_of c.edges ≡ map edge_of d.edges → Belongs (complex_of c) y → Belongs (complex_of d) y
belongs-same c d y e f b =
    subst (λ (ws : List PlainEdge). Belongs (made (map form_of d.carriers) (map vertex_of d.vertices) ws) y) f
    (subst (λ (vs : List Vertex). Belongs (made (map form_of d.carriers) (map vertex_of vs) (map edge_of c.edges)) y) e
    (belongs-too (map vertex_of c.vertices) (map edge_of c.edges) (map form_of c.carriers) (map form_of d.carriers) y b))

pub spelled-holds : BelongsHolds → (version : TextVersion) (s : Set) (c d : Complex) (p : Parts) (bytes : List ℕ) (y : SpacePoint) → Shows s (complex_of c) → bytes ≡ text version c p → Spells version bytes d → InFrame y → Belongs (complex_of d) y ↔ Holds s y
spelled-holds holds version s c d p bytes y S e (E, (q, Q, f)) inside =
    let v : c.vertices ≡ d.vertices = vertices-read version c d p q (sym e ∙ f) in
    let w : map edge_of c.edges ≡ map edge_of d.edges =
    edges-one (map vertex_of d.vertices) (map edge_of c.edges) (map edge_of d.edges) (subst (λ (vs : List Vertex). Edges (map vertex_of vs) (map edge_of c.edges)) v S.edges) E in
    let h = holds s (complex_of c) y S inside in
    (λ b. h.0 (belongs-same d c y (sym v) (sym w) b), λ k. belongs-same c d y v w (h.1 k))
