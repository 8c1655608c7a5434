-- Chains of links of two kinds, where the things of the one stand for those of the other.
use Rattle.nef_volumes.proofs.Prelude.{◌⊎◌, inl, inr, List, [], ◌∷◌, subst, IsChain, Chained, chain-trans, chain-turned}

module _ {X Y : Type 0} (Link : X → X → Type 0) (Other : Y → Y → Type 0) (Is : X → Y → Type 0) (same : (x : X) (y z : Y) → Is x y → Is x z → Chained Other y z)
    (step : (x u : X) → Link x u → (y : Y) × (z : Y) × Is x y × Is u z × Chained Other y z) where
  either-way : (x u : X) → Link x u ⊎ Link u x → (y : Y) × (z : Y) × Is x y × Is u z × Chained Other y z
  either-way x u (inl l) = step x u l
  either-way x u (inr l) = let t = step u x l in (t.1, t.0, t.3, t.2, chain-turned Other t.0 t.1 t.4)

  agree : (us : List X) (x u : X) (y z : Y) → IsChain Link x us u → Is x y → Is u z → Chained Other y z
  agree [] x u y z e a b = same u y z (subst (λ (r : X). Is r y) e a) b
  agree (w ∷ us) x u y z (l, c) a b =
      let t = either-way x w l in
      chain-trans Other y t.0 z (same x y t.0 a t.2) (chain-trans Other t.0 t.1 z t.4 (agree us w u t.1 z c t.3 b))

  -- where each link leads to a chain of the others, so does each chain
  pub chains-agree : (x u : X) (y z : Y) → Chained Link x u → Is x y → Is u z → Chained Other y z
  chains-agree x u y z (us, c) a b = agree us x u y z c a b
