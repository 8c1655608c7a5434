-- A set has one text, and the text tells it.
use Rattle.nef_statement.proofs.Prelude.{◌≡◌, ◌↔◌, ℕ, refl, ap, sym, ◌∙◌, subst, List, [], ◌∷◌, ◌++◌, length, map, append_assoc, SameSet, SpacePoint, InFrame, Set, Holds, Belongs, Vertex, Shows, facet-of, complex_of, vertex_of, edge_of, TextVersion, set-vertices, IsParts, version_word, first_line, vertices_text, edge_line, facet_text, line, numbers, volumes_text, text, Spells, codes, flat_map, Parts, Complex, Edge as ComplexEdge, One, Two, upright-by_maps, line_rows, vertices_told, with_edges, AreAllEdges, TextSays, count_line, IsWrittenOf, IsText, CountTells}
use Rattle.law_geometry.proofs.complex.FacetNames.{facet-at}
use Rattle.law_geometry.proofs.complex.Skeletons.{belongs-holds}
use Rattle.nef_statement.proofs.text.SameText.{same-parts, same-set_text, text-set, spelled-holds}
use Rattle.nef_statement.proofs.Counts.{count-same, counted-by}
use Rattle.nef_statement.proofs.Edged.{sorted-edges, belongs-edged}
use Rattle.nef_complex.specs.declared.complex.Vertex.{Vertex as ComplexVertex}
use Rattle.nef_statement.proofs.text.existence.Shown.{shown-maps}
use Rattle.nef_volumes.proofs.Components.{shown-counted}
use Rattle.nef_statement.proofs.Told.{HasWeights, vertices-told, weights-told}
use Rattle.law_geometry.proofs.near.SameSets.{same-alike, same-turned, same-trans}

-- the texts of two sets are equal exactly where the sets are one
pub same-texts : (version : TextVersion) (s t : Set) (x y : List ℕ) → IsWrittenOf s (text version) x → IsWrittenOf t (text version) y → (x ≡ y) ↔ SameSet s t
same-texts version s t x y (c, p, S, P, e) (d, q, T, Q, f) =
    (λ g. text-set version s t c d p q S T (sym e ∙ g ∙ f), λ h. e ∙ (same-set_text version s t c d p q S T h P Q).1 ∙ sym f)

-- what is counted of two sets that are one is the same
pub counted-one : (s t : Set) (x y : List ℕ) → SameSet s t → IsWrittenOf s count_line x → IsWrittenOf t count_line y → x ≡ y
counted-one s t x y same (c, p, S, P, e) (d, q, T, Q, f) =
    let v = set-vertices s t c d S T same in
    e ∙ ap (λ (vs : List ComplexVertex). line (numbers (length vs ∷ length c.edges ∷ length p.facets ∷ length p.volumes ∷ []))) v.0
    ∙ ap (λ (es : List ComplexEdge). line (numbers (length d.vertices ∷ length es ∷ length p.facets ∷ length p.volumes ∷ []))) v.1
    ∙ ap (λ (r : Parts). line (numbers (length d.vertices ∷ length d.edges ∷ length r.facets ∷ length r.volumes ∷ []))) (same-set_text One s t c d p q S T same P Q).0 ∙ sym f

-- the text of a set spells the complex that shows it
pub text-spells : (version : TextVersion) (s : Set) (x : List ℕ) → IsWrittenOf s (text version) x → (d : Complex) × Spells version x d
text-spells version s x (c, p, S, P, e) = (c, (S.edges, (p, P, e)))

-- and a point of the frame belongs to each complex that it spells exactly where the set holds
pub text-holds : (version : TextVersion) (s : Set) (x : List ℕ) (d : Complex) (y : SpacePoint) → IsWrittenOf s (text version) x → Spells version x d → InFrame y → Belongs (complex_of d) y ↔ Holds s y
text-holds version s x d y (c, p, S, P, e) spells inside = spelled-holds (λ s C p S inside. belongs-holds s C S (facet-at s C S) (facet-of s C S) p inside) version s c d p x y S e spells inside

-- the counted numbers are those of components
pub count-tells : (s : Set) (x : List ℕ) → IsWrittenOf s count_line x → CountTells s x
count-tells s x (c, p, S, P, e) = subst (CountTells s) (sym e) (counted-by s (length c.vertices) (length c.edges) (length p.facets) (length p.volumes) (shown-counted c p P s S (upright-by_maps s c S (shown-maps s c S))))

text-same : (version : TextVersion) (c : Complex) (p : Parts) → text version c p ≡ text version (record { carriers = []; vertices = c.vertices; edges = c.edges; has_item = c.has_item; index = c.index }) p
text-same One c p = refl
text-same Two c p = refl

-- to the vertices and edges of a complex that shows the set a point of the frame belongs exactly where the set holds, whatever the carriers
shown-holds : (version : TextVersion) (t : Set) (c : Complex) (p : Parts) (y : SpacePoint) → Shows t (complex_of c) → IsParts (complex_of c) p → InFrame y → Belongs (with_edges (map vertex_of c.vertices) (map edge_of c.edges)) y ↔ Holds t y
shown-holds version t c p y S P inside =
    let d : Complex = record { carriers = []; vertices = c.vertices; edges = c.edges; has_item = c.has_item; index = c.index } in
    spelled-holds (λ s C p S inside. belongs-holds s C S (facet-at s C S) (facet-of s C S) p inside) version t c d p (text version c p) y S refl
    (S.edges, (p, same-parts c d p refl refl P, text-same version c p)) inside

four_parts : (a b c d x : List ℕ) → a ++ b ++ c ++ d ++ x ≡ a ++ (b ++ (c ++ (d ++ x)))
four_parts a b c d x = append_assoc (a ++ b ++ c) d x ∙ append_assoc (a ++ b) c (d ++ x) ∙ append_assoc a b (c ++ (d ++ x))

-- the text after its first line
abbrev after-first : TextVersion → Complex → Parts → List ℕ
after-first version c p = vertices_text version c p ++ (flat_map edge_line c.edges ++ (flat_map facet_text p.facets ++ volumes_text version p))

first-is : (version : TextVersion) (c : Complex) (p : Parts) → first_line version c p ≡ codes "nef3 " ++ version_word version ++ codes " " ++ count_line c p
first-is One c p = refl
first-is Two c p = refl

text-begins : (version : TextVersion) (c : Complex) (p : Parts) → text version c p ≡ codes "nef3 " ++ version_word version ++ codes " " ++ count_line c p ++ after-first version c p
text-begins version c p = four_parts (first_line version c p) (vertices_text version c p) (flat_map edge_line c.edges) (flat_map facet_text p.facets) (volumes_text version p) ∙ ap (λ z. z ++ after-first version c p) (first-is version c p)

pub text-says : (version : TextVersion) (s : Set) (x : List ℕ) → IsText version s x → TextSays version s x
text-says version s x (t, same, (c, p, S, P, e)) =
    record {
      first = (count_line c p, after-first version c p, count-same s t (count_line c p) same (count-tells t (count_line c p) (c, p, S, P, refl)), e ∙ text-begins version c p);
      weights = subst (λ z. HasWeights (line_rows z)) (sym e) (weights-told version c p);
      edges = (map edge_of c.edges, edges);
      holds = λ es y E inside.
          let w = belongs-edged (vertices_told x) es (map edge_of c.edges) y E edges in
          let h = subst (λ (vs : List Vertex). Belongs (with_edges vs (map edge_of c.edges)) y ↔ Holds t y) (sym vertices) (shown-holds version t c p y S P inside) in
          let a = same-alike s t same y inside in
          (λ b. a.1 (h.0 (w.0 b)), λ k. w.1 (h.1 (a.0 k)));
    }
  where
    vertices : vertices_told x ≡ map vertex_of c.vertices
    vertices = ap vertices_told e ∙ vertices-told version c p

    edges : AreAllEdges (vertices_told x) (map edge_of c.edges)
    edges = subst (λ (vs : List Vertex). AreAllEdges vs (map edge_of c.edges)) (sym vertices) (sorted-edges (map vertex_of c.vertices) (map edge_of c.edges) S.edges)

pub one-text : (version : TextVersion) (s t : Set) (x y : List ℕ) → IsText version s x → IsText version t y → (x ≡ y) ↔ SameSet s t
one-text version s t x y (a, f, h) (b, g, k) =
    let e = same-texts version a b x y h k in (
      λ q. same-trans s a t f (same-trans a b t (e.0 q) (same-turned t b g)),
      λ q. e.1 (same-trans a s b (same-turned s a f) (same-trans s t b q g)),
    )
