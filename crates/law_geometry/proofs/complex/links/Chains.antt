-- Where each link joins some points at its two ends, and all points at one thing are joined, all points at the ends of a chain are joined.
use Rattle.law_geometry.proofs.complex.links.Prelude.{◌⊎◌, inl, inr, List, ◌∷◌, subst, [], Joined, SpacePoint, Set, joined-turned, joined-both}
use Rattle.nef_space.specs.Lists.{IsChain}

module _ (X : Type 0) (Link : X → X → Type 0) (s : Set) (IsPoint : X → SpacePoint → Type 0) where
  -- points at both are joined
  abbrev pub JoinsPoints : X → X → Type 0
  JoinsPoints x y = (p : SpacePoint) × (q : SpacePoint) × IsPoint x p × IsPoint y q × Joined s p q

  module _ (one : (x : X) (p q : SpacePoint) → IsPoint x p → IsPoint x q → Joined s p q) (link : (x y : X) → Link x y → JoinsPoints x y) where
    either-way : (x y : X) → Link x y ⊎ Link y x → JoinsPoints x y
    either-way x y (inl l) = link x y l
    either-way x y (inr l) = let t = link y x l in (t.1, t.0, t.3, t.2, joined-turned s t.0 t.1 t.4)

    pub chain-joined : (ys : List X) (x z : X) (p q : SpacePoint) → IsChain Link x ys z → IsPoint x p → IsPoint z q → Joined s p q
    chain-joined [] x z p q e a b = one z p q (subst (λ (r : X). IsPoint r p) e a) b
    chain-joined (y ∷ ys) x z p q c a b =
        let t = either-way x y c.0 in
        joined-both s p t.0 q (one x p t.0 a t.2) (joined-both s t.0 t.1 q t.4 (chain-joined ys y z t.1 q c.1 t.3 b))
