-- A map has one kind, and what its fields say of it.
use Rattle.nef_spair.proofs.Prelude.{◌≡◌, ℤ, List, [], ◌∷◌, length, map, slice_get, Option, Some, None, option_map, arith, refl, sym, ap, subst, ◌∙◌, SpacePoint, Set, Vector, opposite, SameDirection, IsOpposite, vector_of, Dir, same_directions_equal, Map, MapVertex, MapSloop, Least, Cone, IsInVolume, IsInFacet, IsOnEdge, SLoop, SphereMap, svertex_of, sloop_of, map_of, same-dirs, Vertex, OnEdge, InFacet, InVolume, IsVertexMap, IsKind, KindFits}
use Rattle.nef_space.proofs.Vectors.{opposite-itself, opposite-way}
use Rattle.law_geometry.proofs.sphere.Kind.{flat-parallel}
use Rattle.law_geometry.proofs.sphere.KindFlats.{facet-flat, facet-only}
use Rattle.law_geometry.proofs.sphere.KindLaws.{KindOf, of_volume, of_facet, of_edge, edge-flat, edge-only, edge-direction}
use Rattle.law_geometry.proofs.sphere.Dimensions.{map-flat, flat-map, volume-dimension, facet-dimension, edge-dimension, vertex-dimension}
use Rattle.nef_smap.specs.declared.map.SVertex.{SVertex}
use Rattle.nef_smap.proofs.MapLists.{sloop-was}
use Rattle.nef_spair.specs.declared.answer.Kind.{Kind}

-- ---- no two kinds
module _ (M : Map) where
  volume-facet : (n : Vector) → IsInVolume M → IsInFacet M n → ⊥
  volume-facet n v f = let e : None ≡ Some f.sloop = sym v.no_sloop ∙ f.has_sloop in cc

  volume-edge : (d : Vector) → IsInVolume M → IsOnEdge M d → ⊥
  volume-edge d v e = let i : [] ≡ e.first ∷ e.second ∷ [] = sym v.no_svertex ∙ e.two_svertices in cc

  facet-edge : (n d : Vector) → IsInFacet M n → IsOnEdge M d → ⊥
  facet-edge n d f e = let i : [] ≡ e.first ∷ e.second ∷ [] = sym f.no_svertex ∙ e.two_svertices in cc

  one-facet : (n m : Vector) → IsInFacet M n → IsInFacet M m → n ≡ m
  one-facet n m f g = let i : Some f.sloop ≡ Some g.sloop = sym f.has_sloop ∙ g.has_sloop in let l : f.sloop ≡ g.sloop = cc in sym f.normal ∙ ap (λ (l : MapSloop). l.normal) l ∙ g.normal

  one-edge : (d e : Vector) → IsOnEdge M d → IsOnEdge M e → d ≡ e
  one-edge d e f g =
      let i : f.first ∷ f.second ∷ [] ≡ g.first ∷ g.second ∷ [] = sym f.two_svertices ∙ g.two_svertices in let s : f.second ≡ g.second = cc in
      sym f.named ∙ ap (λ (v : MapVertex). v.dir) s ∙ g.named

  pub one-kind : (k l : Kind) → IsKind M k → IsKind M l → k ≡ l
  one-kind Vertex Vertex h i = refl
  one-kind Vertex (OnEdge d) h i = absurd (h.no_edge (vector_of d) i)
  one-kind Vertex (InFacet n) h i = absurd (h.no_facet (vector_of n) i)
  one-kind Vertex InVolume h i = absurd (h.no_volume i)
  one-kind (OnEdge d) Vertex h i = absurd (i.no_edge (vector_of d) h)
  one-kind (OnEdge d) (OnEdge e) h i = ap OnEdge (same-dirs d e (one-edge (vector_of d) (vector_of e) h i))
  one-kind (OnEdge d) (InFacet n) h i = absurd (facet-edge (vector_of n) (vector_of d) i h)
  one-kind (OnEdge d) InVolume h i = absurd (volume-edge (vector_of d) i h)
  one-kind (InFacet n) Vertex h i = absurd (i.no_facet (vector_of n) h)
  one-kind (InFacet n) (OnEdge d) h i = absurd (facet-edge (vector_of n) (vector_of d) h i)
  one-kind (InFacet n) (InFacet m) h i = ap InFacet (same-dirs n m (one-facet (vector_of n) (vector_of m) h i))
  one-kind (InFacet n) InVolume h i = absurd (volume-facet (vector_of n) i h)
  one-kind InVolume Vertex h i = absurd (i.no_volume h)
  one-kind InVolume (OnEdge d) h i = absurd (volume-edge (vector_of d) h i)
  one-kind InVolume (InFacet n) h i = absurd (volume-facet (vector_of n) h i)
  one-kind InVolume InVolume h i = refl

  -- k is the kind, and the only one
  pub exactly : (k : Kind) → IsKind M k → (l : Kind) → (IsKind M l → k ≡ l) × (k ≡ l → IsKind M l)
  exactly k h l = (one-kind k l h, λ e. subst (IsKind M) e h)

  -- ---- what each kind says of the flat directions
  neither : IsVertexMap M → KindOf M → ⊥
  neither v (of_volume h) = v.no_volume h
  neither v (of_facet n h) = v.no_facet n h
  neither v (of_edge d h) = v.no_edge d h

  pub fits : (k : Kind) → IsKind M k → Least M → (s : Set) (p : SpacePoint) → Cone M s p → KindFits k s p
  fits Vertex h L s p C = vertex-dimension M s p C L (neither h)
  fits (OnEdge d) h L s p C = (
    edge-dimension M s p C L (vector_of d) h,
    λ e. (λ f. edge-only M C.valid L (vector_of d) h e (map-flat M s p C e f), λ z. flat-map M s p C e (flat-parallel M C.valid (vector_of d) e (edge-direction M C.valid (vector_of d) h) z (edge-flat M C.valid (vector_of d) h))),
  )
  fits (InFacet n) h L s p C = (
    facet-dimension M s p C L (vector_of n) h,
    λ d. (λ f. facet-only M C.valid L (vector_of n) h d (map-flat M s p C d f), λ z. flat-map M s p C d (facet-flat M C.valid (vector_of n) h d z)),
  )
  fits InVolume h L s p C = volume-dimension M s p C h

-- ---- what the fields of a map say
pub none-was : (vs : List SVertex) → map svertex_of vs ≡ [] → vs ≡ []
none-was [] e = refl
none-was (v ∷ vs) e = let i : svertex_of v ∷ map svertex_of vs ≡ [] = e in absurd (cc)

pub two-were : (vs : List SVertex) (v w : MapVertex) → map svertex_of vs ≡ v ∷ w ∷ [] → (a : SVertex) × (b : SVertex) × (vs ≡ a ∷ b ∷ []) × (svertex_of a ≡ v) × (svertex_of b ≡ w)
two-were [] v w e = absurd (cc)
two-were (a ∷ []) v w e = let i : svertex_of a ∷ [] ≡ v ∷ w ∷ [] = e in absurd (cc)
two-were (a ∷ b ∷ []) v w e = let i : svertex_of a ∷ svertex_of b ∷ [] ≡ v ∷ w ∷ [] = e in (a, b, refl, cc, cc)
two-were (a ∷ b ∷ c ∷ vs) v w e = let i : svertex_of a ∷ svertex_of b ∷ svertex_of c ∷ map svertex_of vs ≡ v ∷ w ∷ [] = e in absurd (cc)

pub no-sloop-was : (o : Option SLoop) → option_map sloop_of o ≡ None → o ≡ None
no-sloop-was None e = refl
no-sloop-was (Some l) e = let i : Some (sloop_of l) ≡ None = e in absurd (cc)

module _ (m : SphereMap) where
  pub volume-then : IsInVolume (map_of m) → (m.svertices ≡ []) × (m.sloop ≡ None) × (m.ground ≡ Some m.mark)
  volume-then v = (none-was m.svertices v.no_svertex, no-sloop-was m.sloop v.no_sloop, v.same_mark)

  pub facet-then : (n : Vector) → IsInFacet (map_of m) n → (l : SLoop) × (m.svertices ≡ []) × (m.sloop ≡ Some l) × (l.mark ≡ m.mark)
  facet-then n f = let l = sloop-was m.sloop f.sloop f.has_sloop in (l.0, none-was m.svertices f.no_svertex, l.1, ap (λ (c : MapSloop). c.mark) l.2 ∙ f.same_mark)

  pub edge-if : (a b : SVertex) → m.svertices ≡ a ∷ b ∷ [] → m.sloop ≡ None → a.mark ≡ m.mark → b.mark ≡ m.mark → IsOpposite (vector_of a.dir) (vector_of b.dir) → IsOnEdge (map_of m) (vector_of b.dir)
  edge-if a b e f g h o = record {
    first = svertex_of a;
    second = svertex_of b;
    two_svertices = ap (map svertex_of) e;
    opposite = o;
    first_mark = g;
    second_mark = h;
    no_sloop = ap (option_map sloop_of) f;
    named = refl;
  }

  pub edge-then : (d : Vector) → IsOnEdge (map_of m) d → (a : SVertex) × (b : SVertex) × (m.svertices ≡ a ∷ b ∷ []) × (m.sloop ≡ None) × (a.mark ≡ m.mark) × (b.mark ≡ m.mark) × IsOpposite (vector_of a.dir) (vector_of b.dir)
  edge-then d e =
      let t = two-were m.svertices e.first e.second e.two_svertices in (
        t.0,
        t.1,
        t.2,
        no-sloop-was m.sloop e.no_sloop,
        ap (λ (v : MapVertex). v.mark) t.3 ∙ e.first_mark,
        ap (λ (v : MapVertex). v.mark) t.4 ∙ e.second_mark,
        subst (λ (v : MapVertex). IsOpposite (vector_of t.0.dir) v.dir) (sym t.4) (subst (λ (v : MapVertex). IsOpposite v.dir e.second.dir) (sym t.3) e.opposite),
      )

  pub edge-fields : (d : Vector) → IsOnEdge (map_of m) d → (a b : SVertex) → m.svertices ≡ a ∷ b ∷ [] → (a.mark ≡ m.mark) × (b.mark ≡ m.mark) × IsOpposite (vector_of a.dir) (vector_of b.dir)
  edge-fields d e a b two =
      let t = edge-then d e in
      let both : a ∷ b ∷ [] ≡ t.0 ∷ t.1 ∷ [] = sym two ∙ t.2 in
      let i : a ≡ t.0 = cc in let j : b ≡ t.1 = cc in (
        ap (λ (v : SVertex). v.mark) i ∙ t.4,
        ap (λ (v : SVertex). v.mark) j ∙ t.5,
        subst (λ (v : SVertex). IsOpposite (vector_of a.dir) (vector_of v.dir)) (sym j) (subst (λ (v : SVertex). IsOpposite (vector_of v.dir) (vector_of t.1.dir)) (sym i) t.6),
      )

pub two-listed : {A : Type 0} (xs : List A) (a b : A) → length xs ≡ 2 → slice_get xs 0 ≡ Some a → slice_get xs 1 ≡ Some b → xs ≡ a ∷ b ∷ []
two-listed [] a b n e f = absurd (omega (arith, n))
two-listed (x ∷ []) a b n e f = absurd (omega (arith, n))
two-listed (x ∷ y ∷ []) a b n e f = let g : Some x ≡ Some a = e in let h : Some y ≡ Some b = f in let i : x ≡ a = cc in let j : y ≡ b = cc in rw (i, j) refl
two-listed (x ∷ y ∷ z ∷ xs) a b n e f = absurd (omega (arith, n))

-- ---- opposite directions
abbrev both : Vector → Vector → List ℤ
both u v = u.x ∷ u.y ∷ u.z ∷ v.x ∷ v.y ∷ v.z ∷ []

pub opposite-if : (d b e : Dir) → vector_of b ≡ opposite (vector_of d) → b ≡ e → IsOpposite (vector_of d) (vector_of e)
opposite-if d b e h i = subst (IsOpposite (vector_of d)) (sym h ∙ ap vector_of i) (opposite-itself (vector_of d) d.some)

pub opposite-then : (d b e : Dir) → vector_of b ≡ opposite (vector_of d) → IsOpposite (vector_of d) (vector_of e) → b ≡ e
opposite-then d b e h o = same_directions_equal b e (subst (λ (v : Vector). SameDirection v (vector_of e)) (sym h) (opposite-way (vector_of d) (vector_of e) o))
