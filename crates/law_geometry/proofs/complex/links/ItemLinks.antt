-- Links of items tie points at both, so points at items of one class are joined.
use Rattle.law_geometry.proofs.complex.links.Prelude.{ℕ, sym, inl, inr, subst, Set, ahead, Complex, Corner, Shows, LinkAlong, FacetLink, IsAtItem, ItemsJoined}
use Rattle.law_geometry.proofs.complex.links.ItemPoints.{at-item, one-item}
use Rattle.law_geometry.proofs.complex.links.EdgeEnds.{AreTiedItems, corner_of_numbers, along-tied}
use Rattle.law_geometry.proofs.complex.links.Across.{across-tied}
use Rattle.law_geometry.proofs.complex.links.Chains.{JoinsPoints, chain-joined}

module _ (s : Set) (C : Complex) (S : Shows s C) where
  along-link : (j k : Corner) → LinkAlong C j k → AreTiedItems s C j k
  along-link j k L =
      subst (λ (a : ℕ). AreTiedItems s C (corner_of_numbers a j.item) k) (sym L.from_low)
      (subst (λ (b : ℕ). AreTiedItems s C (corner_of_numbers L.edge.low j.item) (corner_of_numbers b k.item)) (sym L.to_high) (along-tied s C S L.number L.edge L.is_edge j.item k.item L.along))

  pub facet-link : (j k : Corner) → FacetLink C j k → AreTiedItems s C j k
  facet-link j k (inl L) = along-link j k L
  facet-link j k (inr L) = across-tied s C S j k L

  joins-items : (j k : Corner) → AreTiedItems s C j k → JoinsPoints Corner (FacetLink C) s (IsAtItem s C) j k
  joins-items j k T = (
    ahead s T.vertex.point T.dir,
    ahead s T.other_vertex.point T.other_way,
    at-item s C S j T.vertex T.item T.corner T.dir T.on,
    at-item s C S k T.other_vertex T.other_item T.other_corner T.other_way T.other_on,
    T.tied.0,
  )

pub items-joined : ItemsJoined
items-joined s C j k p q S chain a b = chain-joined Corner (FacetLink C) s (IsAtItem s C) (λ i u v x y. (one-item s C S i u v x y).0) (λ i l L. joins-items s C S i l (facet-link s C S i l L)) chain.0 j k p q chain.1 a b
