-- Where up is above each item, points at sides of one class are joined.
use Rattle.law_geometry.proofs.complex.links.Prelude.{inl, inr, Set, Complex, Shows, VertexSide, VolumeLink, IsAtSide, IsUpright, SidesJoined}
use Rattle.law_geometry.proofs.complex.links.SidePoints.{one-side}
use Rattle.law_geometry.proofs.complex.links.SideLinks.{JoinsSides, joins-in_sface, joins-along, joins-across}
use Rattle.law_geometry.proofs.complex.links.Down.{joins-down}
use Rattle.law_geometry.proofs.complex.links.Outside.{joins-outside}
use Rattle.law_geometry.proofs.complex.links.Chains.{chain-joined}

joins : (s : Set) (C : Complex) → Shows s C → IsUpright C → (x y : VertexSide) → VolumeLink C x y → JoinsSides s C x y
joins s C S u x y (inl L) = joins-in_sface s C S x y L
joins s C S u x y (inr (inl L)) = joins-along s C S x y L
joins s C S u x y (inr (inr (inl L))) = joins-across s C S x y L
joins s C S u x y (inr (inr (inr (inl L)))) = joins-down s C S u x y L
joins s C S u x y (inr (inr (inr (inr L)))) = joins-outside s C S x y L

pub sides-joined : SidesJoined
sides-joined s C x y p q S u chain a b = chain-joined VertexSide (VolumeLink C) s (IsAtSide s C) (λ i f g j k. (one-side s C S i f g j k).0) (λ i j L. joins s C S u i j L) chain.0 x y p q chain.1 a b
