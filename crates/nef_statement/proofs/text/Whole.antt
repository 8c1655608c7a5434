-- The edges, facets and volumes of a text, and the whole text.
use Rattle.nef_statement.proofs.text.Prelude.{◌≡◌, ℕ, arith, refl, ap, sym, ◌∙◌, List, [], ◌∷◌, ◌++◌, length, append_assoc, decimal, signed_decimal, flat_map, Label, Cycle, Facet, TextVersion, One, Two, Parts, Shell, Word, label_word, numbers, corner_words, edge_line, cycle_line, facet_line, facet_text, volume_line, side_words, shell_line, shelled_text, with_rows, counts, version_word, first_line, vertices_text, volumes_text, text}
use Rattle.nef_complex.specs.declared.complex.Corner.{Corner}
use Rattle.nef_index.specs.declared.skeleton.Edge.{Edge}
use Rattle.nef_complex.specs.declared.complex.Vertex.{Vertex}
use Rattle.nef_complex.specs.declared.complex.Complex.{Complex}
use Rattle.nef_complex.specs.declared.parts.Side.{Side}
use Rattle.nef_statement.proofs.text.Lines.{Each-append, IsPlainWord, ArePlain, Starts, Lacks, line-starts, line-ends, starts-onto, starts-lacks}
use Rattle.nef_statement.proofs.text.Words.{decimal-plain, numbers-plain, signed-plain, label-plain}
use Rattle.nef_statement.proofs.text.Lists.{IsReadBack, ReadsAll, AnyRest, all-lack, all-read, same-length, four_parts}
use Rattle.nef_statement.proofs.text.Vertices.{FollowsVertex, vertices-listed}
use Rattle.nef_complex.proofs.TextRows.{length-with_rows}

-- ---- edges
abbrev edge_words : Edge → List Word
edge_words e = decimal e.low ∷ decimal e.low_svertex ∷ decimal e.high ∷ decimal e.high_svertex ∷ label_word e.mark ∷ []

edge-plain : (e : Edge) → ArePlain ((101 ∷ []) ∷ edge_words e)
edge-plain e =
    let high : ArePlain (decimal e.high ∷ decimal e.high_svertex ∷ label_word e.mark ∷ []) = (decimal-plain e.high, (decimal-plain e.high_svertex, (label-plain e.mark, tt))) in
    ((omega arith, tt), (decimal-plain e.low, (decimal-plain e.low_svertex, high)))

edge-starts : (e : Edge) → Starts 101 (edge_line e)
edge-starts e = line-starts 101 [] (edge_words e)

edge-reads : IsReadBack Edge (Unit {0}) AnyRest (λ _. tt) edge_line
edge-reads a b x y P Q e = (refl, (line-ends (101 ∷ []) (edge_words a) (101 ∷ []) (edge_words b) x y (edge-plain a) (edge-plain b) e).1)

-- ---- facets
corners-plain : (ks : List Corner) → ArePlain (flat_map corner_words ks)
corners-plain [] = tt
corners-plain (k ∷ ks) = Each-append IsPlainWord (corner_words k) (flat_map corner_words ks) (numbers-plain (k.vertex ∷ k.item ∷ [])) (corners-plain ks)

cycle-starts : (o : Cycle) → Starts 99 (cycle_line o)
cycle-starts o = line-starts 99 [] (flat_map corner_words o.corners)

cycle-reads : IsReadBack Cycle (Unit {0}) AnyRest (λ _. tt) cycle_line
cycle-reads a b x y P Q e =
    let p : ArePlain ((99 ∷ []) ∷ flat_map corner_words a.corners) = ((omega arith, tt), corners-plain a.corners) in
    let q : ArePlain ((99 ∷ []) ∷ flat_map corner_words b.corners) = ((omega arith, tt), corners-plain b.corners) in
    (refl, (line-ends (99 ∷ []) (flat_map corner_words a.corners) (99 ∷ []) (flat_map corner_words b.corners) x y p q e).1)

abbrev facet_words : Facet → List Word
facet_words f = signed_decimal f.plane.a ∷ signed_decimal f.plane.b ∷ signed_decimal f.plane.c ∷ signed_decimal f.plane.d
    ∷ label_word f.mark ∷ decimal f.pos ∷ decimal f.neg ∷ []

facet-plain : (f : Facet) → ArePlain ((102 ∷ []) ∷ facet_words f)
facet-plain f =
    let last : ArePlain (label_word f.mark ∷ decimal f.pos ∷ decimal f.neg ∷ []) = (label-plain f.mark, (decimal-plain f.pos, (decimal-plain f.neg, tt))) in
    let h = f.plane in
    ((omega arith, tt), (signed-plain h.a, (signed-plain h.b, (signed-plain h.c, (signed-plain h.d, last)))))

facet-starts : (f : Facet) → Starts 102 (facet_text f)
facet-starts f = starts-onto 102 (facet_line f) (flat_map cycle_line f.cycles) (line-starts 102 [] (facet_words f))

before-facet : (f : Facet) (x : List ℕ) → Lacks 99 (facet_text f ++ x)
before-facet f x = starts-lacks 102 99 (facet_text f) x (facet-starts f) (λ e. omega arith)

facet-reads : IsReadBack Facet (Unit {0}) (Lacks 99) (λ _. tt) facet_text
facet-reads f g x y P Q e =
    let a = flat_map cycle_line f.cycles in
    let b = flat_map cycle_line g.cycles in
    let h = sym (append_assoc (facet_line f) a x) ∙ e ∙ append_assoc (facet_line g) b y in
    let r = line-ends (102 ∷ []) (facet_words f) (102 ∷ []) (facet_words g) (a ++ x) (b ++ y) (facet-plain f) (facet-plain g) h in
    (refl, (all-read Cycle (Unit {0}) AnyRest (λ _. tt) cycle_line 99 cycle-starts cycle-reads (λ _ _. tt) f.cycles g.cycles x y tt tt P Q r.1).1)

facet-lists : ReadsAll Facet (Unit {0}) (Lacks 99) (λ _. tt) facet_text 102
facet-lists = all-read Facet (Unit {0}) (Lacks 99) (λ _. tt) facet_text 102 facet-starts facet-reads before-facet

-- ---- volumes
volume-plain : (l : Label) → ArePlain ((119 ∷ []) ∷ label_word l ∷ [])
volume-plain l = ((omega arith, tt), (label-plain l, tt))

volume-starts : (l : Label) → Starts 119 (volume_line l)
volume-starts l = line-starts 119 [] (label_word l ∷ [])

volume-reads : IsReadBack Label (Unit {0}) AnyRest (λ _. tt) volume_line
volume-reads l k x y P Q e = (refl, (line-ends (119 ∷ []) (label_word l ∷ []) (119 ∷ []) (label_word k ∷ []) x y (volume-plain l) (volume-plain k) e).1)

-- ---- volumes with their shells
sides-plain : (ss : List Side) → ArePlain (flat_map side_words ss)
sides-plain [] = tt
sides-plain (s ∷ ss) = Each-append IsPlainWord (side_words s) (flat_map side_words ss) (numbers-plain (s.vertex ∷ s.side ∷ [])) (sides-plain ss)

shell-starts : (h : Shell) → Starts 104 (shell_line h)
shell-starts h = line-starts 104 [] (flat_map side_words h.sides)

shell-reads : IsReadBack Shell (Unit {0}) AnyRest (λ _. tt) shell_line
shell-reads a b x y P Q e =
    let p : ArePlain ((104 ∷ []) ∷ flat_map side_words a.sides) = ((omega arith, tt), sides-plain a.sides) in
    let q : ArePlain ((104 ∷ []) ∷ flat_map side_words b.sides) = ((omega arith, tt), sides-plain b.sides) in
    (refl, (line-ends (104 ∷ []) (flat_map side_words a.sides) (104 ∷ []) (flat_map side_words b.sides) x y p q e).1)

abbrev Shelled : Type 0
Shelled = Label × List Shell

shelled-starts : (w : Shelled) → Starts 119 (shelled_text w)
shelled-starts w = starts-onto 119 (volume_line w.0) (flat_map shell_line w.1) (volume-starts w.0)

before-shelled : (w : Shelled) (x : List ℕ) → Lacks 104 (shelled_text w ++ x)
before-shelled w x = starts-lacks 119 104 (shelled_text w) x (shelled-starts w) (λ e. omega arith)

shelled-reads : IsReadBack Shelled (Unit {0}) (Lacks 104) (λ _. tt) shelled_text
shelled-reads v w x y P Q e =
    let a = flat_map shell_line v.1 in
    let b = flat_map shell_line w.1 in
    let h = sym (append_assoc (volume_line v.0) a x) ∙ e ∙ append_assoc (volume_line w.0) b y in
    let r = line-ends (119 ∷ []) (label_word v.0 ∷ []) (119 ∷ []) (label_word w.0 ∷ []) (a ++ x) (b ++ y) (volume-plain v.0) (volume-plain w.0) h in
    (refl, (all-read Shell (Unit {0}) AnyRest (λ _. tt) shell_line 104 shell-starts shell-reads (λ _ _. tt) v.1 w.1 x y tt tt P Q r.1).1)

shelled-lists : ReadsAll Shelled (Unit {0}) (Lacks 104) (λ _. tt) shelled_text 119
shelled-lists = all-read Shelled (Unit {0}) (Lacks 104) (λ _. tt) shelled_text 119 shelled-starts shelled-reads before-shelled

-- ---- the text from the volumes, from the facets and from the edges on
abbrev volumes_end : TextVersion → Parts → List ℕ
volumes_end version p = volumes_text version p ++ []

abbrev facets_end : TextVersion → Parts → List ℕ
facets_end version p = flat_map facet_text p.facets ++ volumes_end version p

abbrev edges_end : TextVersion → Complex → Parts → List ℕ
edges_end version c p = flat_map edge_line c.edges ++ facets_end version p

volumes-lack : (version : TextVersion) (d : ℕ) → (119 ≡ d → ⊥) → (p : Parts) → Lacks d (volumes_end version p)
volumes-lack One d n p = all-lack Label volume_line 119 volume-starts d n p.volumes [] tt
volumes-lack Two d n p = all-lack Shelled shelled_text 119 shelled-starts d n (with_rows p.volumes p.shells) [] tt

module _ (version : TextVersion) where
  facets-lack : (d : ℕ) → (102 ≡ d → ⊥) → (119 ≡ d → ⊥) → (p : Parts) → Lacks d (facets_end version p)
  facets-lack d m n p = all-lack Facet facet_text 102 facet-starts d m p.facets (volumes_end version p) (volumes-lack version d n p)

  edges-lack : (d : ℕ) → (101 ≡ d → ⊥) → (102 ≡ d → ⊥) → (119 ≡ d → ⊥) → (c : Complex) (p : Parts) → Lacks d (edges_end version c p)
  edges-lack d l m n c p = all-lack Edge edge_line 101 edge-starts d l c.edges (facets_end version p) (facets-lack d m n p)

  edges-follow : (c : Complex) (p : Parts) → FollowsVertex (edges_end version c p)
  edges-follow c p = (
    edges-lack 115 (λ e. omega arith) (λ e. omega arith) (λ e. omega arith) c p,
    edges-lack 97 (λ e. omega arith) (λ e. omega arith) (λ e. omega arith) c p,
    edges-lack 108 (λ e. omega arith) (λ e. omega arith) (λ e. omega arith) c p,
  )

volumes-read : (version : TextVersion) (p q : Parts) → volumes_end version p ≡ volumes_end version q → length p.volumes ≡ length q.volumes
volumes-read One p q e =
    let r = all-read Label (Unit {0}) AnyRest (λ _. tt) volume_line 119 volume-starts volume-reads (λ _ _. tt) p.volumes q.volumes [] [] tt tt tt tt e in
    same-length (λ (l : Label). tt) p.volumes q.volumes r.0
volumes-read Two p q e =
    let v = with_rows p.volumes p.shells in
    let w = with_rows q.volumes q.shells in
    let r = shelled-lists v w [] [] tt tt tt tt e in
    sym (length-with_rows p.volumes p.shells) ∙ same-length (λ (l : Shelled). tt) v w r.0 ∙ length-with_rows q.volumes q.shells

module _ (version : TextVersion) where
  facets-read : (p q : Parts) → facets_end version p ≡ facets_end version q → (length p.facets ≡ length q.facets) × (volumes_end version p ≡ volumes_end version q)
  facets-read p q e =
      let h = λ (p : Parts). volumes-lack version 99 (λ e. omega arith) p in
      let k = λ (p : Parts). volumes-lack version 102 (λ e. omega arith) p in
      let r = facet-lists p.facets q.facets (volumes_end version p) (volumes_end version q) (h p) (h q) (k p) (k q) e in
      (same-length (λ (f : Facet). tt) p.facets q.facets r.0, r.1)

  edges-read : (c d : Complex) (p q : Parts) → edges_end version c p ≡ edges_end version d q → (length c.edges ≡ length d.edges) × (facets_end version p ≡ facets_end version q)
  edges-read c d p q e =
      let r = all-read Edge (Unit {0}) AnyRest (λ _. tt) edge_line 101 edge-starts edge-reads (λ _ _. tt) c.edges d.edges (facets_end version p) (facets_end version q) tt tt
      (facets-lack version 101 (λ e. omega arith) (λ e. omega arith) p) (facets-lack version 101 (λ e. omega arith) (λ e. omega arith) q) e in
      (same-length (λ (e : Edge). tt) c.edges d.edges r.0, r.1)

-- ---- the whole text
abbrev name_word : Word
name_word = 110 ∷ 101 ∷ 102 ∷ 51 ∷ []

version-plain : (version : TextVersion) → IsPlainWord (version_word version)
version-plain One = (omega arith, tt)
version-plain Two = (omega arith, tt)

module _ (version : TextVersion) where
  abbrev first_words : Complex → Parts → List Word
  first_words c p = version_word version ∷ numbers (counts c p)

  first-plain : (c : Complex) (p : Parts) → ArePlain (name_word ∷ first_words c p)
  first-plain c p = ((omega arith, (omega arith, (omega arith, (omega arith, tt)))), (version-plain version, numbers-plain (counts c p)))

  pieces : (c : Complex) (p : Parts) → text version c p ++ [] ≡ first_line version c p ++ (vertices_text version c p ++ edges_end version c p)
  pieces c p =
      let a = first_line version c p in
      let b = vertices_text version c p in
      let e = flat_map edge_line c.edges in
      let f = flat_map facet_text p.facets in
      append_assoc (a ++ b ++ e ++ f) (volumes_text version p) [] ∙ four_parts a b e f (volumes_end version p)

  after-first : (c d : Complex) (p q : Parts) → text version c p ≡ text version d q
      → vertices_text version c p ++ edges_end version c p ≡ vertices_text version d q ++ edges_end version d q
  after-first c d p q e =
      let f = sym (pieces c p) ∙ ap (λ (r : List ℕ). r ++ []) e ∙ pieces d q in
      (line-ends name_word (first_words c p) name_word (first_words d q) _ _ (first-plain c p) (first-plain d q) f).1

  all-vertices : (c d : Complex) (p q : Parts) → text version c p ≡ text version d q → (c.vertices ≡ d.vertices) × (edges_end version c p ≡ edges_end version d q)
  all-vertices c d p q e =
      let l = λ (c : Complex) (p : Parts). edges-lack version 118 (λ e. omega arith) (λ e. omega arith) (λ e. omega arith) c p in
      vertices-listed version c d p q (edges_end version c p) (edges_end version d q) (edges-follow version c p) (edges-follow version d q) (l c p) (l d q) (after-first c d p q e)

  pub vertices-read : (c d : Complex) (p q : Parts) → text version c p ≡ text version d q → c.vertices ≡ d.vertices
  vertices-read c d p q e = (all-vertices c d p q e).0

  pub counts-read : (c d : Complex) (p q : Parts) → text version c p ≡ text version d q → counts c p ≡ counts d q
  counts-read c d p q e =
      let v = all-vertices c d p q e in
      let g = edges-read version c d p q v.1 in
      let f = facets-read version p q g.1 in
      let w = volumes-read version p q f.1 in
      ap (λ (n : ℕ). n ∷ length c.edges ∷ length p.facets ∷ length p.volumes ∷ []) (ap (λ (r : List Vertex). length r) v.0)
      ∙ ap (λ (n : ℕ). length d.vertices ∷ n ∷ length p.facets ∷ length p.volumes ∷ []) g.0
      ∙ ap (λ (n : ℕ). length d.vertices ∷ length d.edges ∷ n ∷ length p.volumes ∷ []) f.0
      ∙ ap (λ (n : ℕ). length d.vertices ∷ length d.edges ∷ length q.facets ∷ n ∷ []) w
