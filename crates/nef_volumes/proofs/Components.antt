-- Points at items are joined exactly where the items have one facet number, and points at sides where the sides have one volume number; so facets and volumes are the components of the points with two flat directions and with three.
use Rattle.nef_volumes.proofs.Prelude.{◌≡◌, ◌↔◌, ℕ, ◌<◌, inr, List, length, arith, subst, length-map, FlatDim, Joined, SpacePoint, Set, Label, Item, items, is-at_within, is-at_some, side-has, Vertex, Complex as PlainComplex, Corner, IsCorner, VertexSide, HasSideLabel, Shows, vertex_of, edge_of, complex_of, IsAtItem, IsAtSide, IsUpright, sides-have_points, sides-joined, HasComponents, IsFacetOf, IsVolumeOf, FacetNumbers, IsParts, Parts, FacetsAreComponents, VolumesAreComponents, AreCounted}
use Rattle.nef_complex.specs.declared.complex.Complex.{Complex}
use Rattle.law_geometry.proofs.complex.links.ItemLinks.{items-joined}
use Rattle.law_geometry.proofs.complex.links.ItemPoints.{items-have_points}
use Rattle.nef_conn.proofs.AtItems.{points-reach_items}
use Rattle.nef_conn.proofs.AtSides.{points-reach_sides}
use Rattle.nef_conn.proofs.Counted.{components-by, vertices-counted, edges-counted}
use Rattle.nef_conn.proofs.SidesName.{converse-for_all}
use Rattle.nef_conn.proofs.Steps.{joined-items_linked}
use Rattle.nef_volumes.proofs.SideLabels.{upright}
use Rattle.nef_volumes.proofs.VolumeLabels.{numbered-side}
use Rattle.nef_space.proofs.Elementary.{same-itself}
use Rattle.nef_facets.proofs.FirstCorners.{facet-item}

-- ---- the numbers of items
module _ (C : PlainComplex) (rows : List (List ℕ)) (N : FacetNumbers C rows) where
  -- each item has a number
  pub item-numbered : (k : Corner) (v : Vertex) (x : Item) → IsCorner C k v x → (n : ℕ) × IsFacetOf rows k n
  item-numbered k v x K =
      let S = N.shape in
      let l = is-at_within C.vertices k.vertex v K.vertex in
      let r = is-at_some rows k.vertex (let a = S.as_many in omega (arith, l, a)) in
      let c = S.row k.vertex v r.0 K.vertex r.1 in
      let w = is-at_within (items v.map) k.item x K.item in
      let q = is-at_some r.0 k.item (omega (arith, w, c)) in
      (q.0, (r.0, r.1, q.1))

-- a numbered side is a side
pub volume-side : (C : PlainComplex) (rows : List (List ℕ)) (x : VertexSide) (n : ℕ) → IsVolumeOf C rows x n → (l : Label) × HasSideLabel C x l
volume-side C rows x n (j, J, X) = (J.label, (J.vertex, J.is_vertex, side-has J.vertex.map j x.side J.label J.is_side))

module _ (c : Complex) (p : Parts) (I : IsParts (complex_of c) p) where
  module _ (s : Set) (S : Shows s (complex_of c)) (U : IsUpright (complex_of c)) where
    -- ---- one number just where points are joined
    facets-joined : (j k : Corner) (m n : ℕ) (y z : SpacePoint) → IsFacetOf p.facet_of j m → IsFacetOf p.facet_of k n → IsAtItem s (complex_of c) j y → IsAtItem s (complex_of c) k z → Joined s y z ↔ (m ≡ n)
    facets-joined j k m n y z a b f g =
        let N = I.facet_numbers in
        let one = N.numbered.by_class j k m n a b in (
          λ J. one.1 (joined-items_linked s (complex_of c) S j k y z f g J),
          λ e. items-joined s (complex_of c) j k y z S (one.0 e) f g,
        )

    volumes-joined : (x w : VertexSide) (m n : ℕ) (y z : SpacePoint) → IsVolumeOf (complex_of c) p.volume_of x m → IsVolumeOf (complex_of c) p.volume_of w n → IsAtSide s (complex_of c) x y → IsAtSide s (complex_of c) w z → Joined s y z ↔ (m ≡ n)
    volumes-joined x w m n y z a b f g =
        let N = I.volume_numbers in
        let one = N.numbered.by_class x w m n a b in (
          λ J. one.1 (converse-for_all joined-items_linked s (complex_of c) x w y z S U f g J),
          λ e. sides-joined s (complex_of c) x w y z S U (one.0 e) f g,
        )

    -- ---- the numbers of components
    abbrev C : PlainComplex
    C = complex_of c

    -- the point is at an item, or at a side, with the number
    abbrev InFacet : ℕ → SpacePoint → Type 0
    InFacet i y = (k : Corner) × IsFacetOf p.facet_of k i × IsAtItem s (complex_of c) k y

    abbrev InVolume : ℕ → SpacePoint → Type 0
    InVolume i y = (x : VertexSide) × IsVolumeOf (complex_of c) p.volume_of x i × IsAtSide s (complex_of c) x y

    facets-counted : HasComponents s 2 (length p.facets)
    facets-counted = components-by s 2 (length p.facets) InFacet some flat one reach
      where
        some : (i : ℕ) → i < length p.facets → (y : SpacePoint) × InFacet i y
        some i l =
            let f = is-at_some p.facets i l in
            let F = I.facets i f.0 f.1 in
            let k = F.some in
            let x = facet-item (complex_of c) p.facet_of I.facet_numbers k.0 i k.1 in
            let q = items-have_points s (complex_of c) k.0 x.0 x.1 S x.2 in
            (q.0, (k.0, k.1, q.1))

        flat : (i : ℕ) (y : SpacePoint) → InFacet i y → FlatDim s y 2
        flat i y (k, a, A) = A.even y (inr (same-itself y))

        one : (i j : ℕ) (y z : SpacePoint) → InFacet i y → InFacet j z → (Joined s y z → i ≡ j) × (i ≡ j → Joined s y z)
        one i j y z (k, a, A) (l, b, B) = facets-joined k l i j y z a b A B

        reach : (q : SpacePoint) → FlatDim s q 2 → (i : ℕ) × (r : SpacePoint) × (i < length p.facets) × InFacet i r × Joined s q r
        reach q f =
            let (k, r, A, J) = points-reach_items s (complex_of c) q S f in
            let n = item-numbered (complex_of c) p.facet_of I.facet_numbers k A.vertex A.item A.corner in
            (n.0, r, I.all_facets k n.0 n.1, (k, n.1, A), J)

    volumes-counted : HasComponents s 3 (length p.volumes)
    volumes-counted = components-by s 3 (length p.volumes) InVolume some flat one reach
      where
        some : (i : ℕ) → i < length p.volumes → (y : SpacePoint) × InVolume i y
        some i l =
            let f = is-at_some p.volumes i l in
            let V = I.volumes i f.0 f.1 in
            let x = V.some in
            let h = volume-side (complex_of c) p.volume_of x.0 i x.1 in
            let q = sides-have_points s (complex_of c) x.0 h.0 S h.1 in
            (q.0, (x.0, x.1, q.1))

        flat : (i : ℕ) (y : SpacePoint) → InVolume i y → FlatDim s y 3
        flat i y (x, a, A) = A.even y (inr (same-itself y))

        one : (i j : ℕ) (y z : SpacePoint) → InVolume i y → InVolume j z → (Joined s y z → i ≡ j) × (i ≡ j → Joined s y z)
        one i j y z (x, a, A) (w, b, B) = volumes-joined x w i j y z a b A B

        reach : (q : SpacePoint) → FlatDim s q 3 → (i : ℕ) × (r : SpacePoint) × (i < length p.volumes) × InVolume i r × Joined s q r
        reach q f =
            let (x, r, A, J) = points-reach_sides s (complex_of c) q S f in
            let n = numbered-side (complex_of c) p.volume_of I.volume_numbers x A.label (A.vertex, A.is_vertex, A.has) in
            (n.0, r, I.all_volumes x n.0 n.1, (x, n.1, A), J)

    counted-with : (v e : ℕ) → length C.vertices ≡ v → length C.edges ≡ e → HasComponents s 0 v × HasComponents s 1 e × HasComponents s 2 (length p.facets) × HasComponents s 3 (length p.volumes)
    counted-with v e a b = (
      subst (λ (n : ℕ). HasComponents s 0 n) a (vertices-counted s (complex_of c) S),
      subst (λ (n : ℕ). HasComponents s 1 n) b (edges-counted s (complex_of c) S),
      facets-counted,
      volumes-counted,
    )

    -- THE NUMBERS OF PARTS ARE THOSE OF COMPONENTS
    pub shown-counted : HasComponents s 0 (length c.vertices) × HasComponents s 1 (length c.edges) × HasComponents s 2 (length p.facets) × HasComponents s 3 (length p.volumes)
    shown-counted = counted-with (length c.vertices) (length c.edges) (length-map c.vertices vertex_of) (length-map c.edges edge_of)

  pub facets-are_components : FacetsAreComponents c p
  facets-are_components s j k m n y z S a b f g = facets-joined s S.shows (upright s c S) j k m n y z a b f g

  pub volumes-are_components : VolumesAreComponents c p
  volumes-are_components s x w m n y z S a b f g = volumes-joined s S.shows (upright s c S) x w m n y z a b f g

  pub are-counted : AreCounted c p
  are-counted s S = shown-counted s S.shows (upright s c S)
