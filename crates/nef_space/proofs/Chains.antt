-- Chains of links, whatever is linked: they are joined end to end, led back, and carried over.
use Rattle.nef_space.proofs.Prelude.{◌≡◌, refl, ap, sym, ◌∙◌, inl, inr, ◌⊎◌, ⊎_elim, List, [], ◌∷◌, ◌++◌, subst}
use Rattle.nef_space.specs.Lists.{IsChain, Chained}

module _ {X : Type 0} (Link : X → X → Type 0) where
  pub chain-here : (x : X) → Chained Link x x
  chain-here x = ([], refl)

  pub chain-link : (x y : X) → Link x y → Chained Link x y
  chain-link x y l = (y ∷ [], (inl l, refl))

  pub chain-before : (x y z : X) → Link x y ⊎ Link y x → Chained Link y z → Chained Link x z
  chain-before x y z l (as', c) = (y ∷ as', (l, c))

  append : (x y z : X) (as' bs : List X) → IsChain Link x as' y → IsChain Link y bs z → IsChain Link x (as' ++ bs) z
  append x y z [] bs e c = subst (λ (r : X). IsChain Link r bs z) (sym e) c
  append x y z (w ∷ as') bs (l, c) d = (l, append w y z as' bs c d)

  pub chain-trans : (x y z : X) → Chained Link x y → Chained Link y z → Chained Link x z
  chain-trans x y z (as', c) (bs, d) = (as' ++ bs, append x y z as' bs c d)

  turned : (x z : X) (as' : List X) → IsChain Link x as' z → Chained Link z x
  turned x z [] e = ([], sym e)
  turned x z (y ∷ as') (l, c) = chain-trans z y x (turned y z as' c) (x ∷ [], (⊎_elim (λ p. inr p) (λ p. inl p) l, refl))

  pub chain-turned : (x z : X) → Chained Link x z → Chained Link z x
  chain-turned x z (as', c) = turned x z as' c

-- what each link keeps, a chain keeps
pub chain-keeps : {X Y : Type 0} (Link : X → X → Type 0) (f : X → Y) → ((x y : X) → Link x y → f x ≡ f y) → (x z : X) → Chained Link x z → f x ≡ f z
chain-keeps {X} {Y} Link f keep x z (as', c) = by x as' c
  where
    by : (x : X) (as' : List X) → IsChain Link x as' z → f x ≡ f z
    by x [] e = ap f e
    by x (y ∷ as') (l, c) = ⊎_elim (λ p. keep x y p) (λ p. sym (keep y x p)) l ∙ by y as' c

-- chains of links that are themselves chains of other links
pub chain-map : {X Y : Type 0} (Link : X → X → Type 0) (Other : Y → Y → Type 0) (f : X → Y) → ((x y : X) → Link x y → Chained Other (f x) (f y)) → (x z : X) → Chained Link x z → Chained Other (f x) (f z)
chain-map {X} {Y} Link Other f each x z (as', c) = by x as' c
  where
    by : (x : X) (as' : List X) → IsChain Link x as' z → Chained Other (f x) (f z)
    by x [] e = subst (λ (r : X). Chained Other (f x) (f r)) e (chain-here Other (f x))
    by x (y ∷ as') (l, c) = chain-trans Other (f x) (f y) (f z) (⊎_elim (λ p. each x y p) (λ p. chain-turned Other (f y) (f x) (each y x p)) l) (by y as' c)
