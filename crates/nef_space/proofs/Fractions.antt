-- Fractions with positive denominators, compared by cross products.
use Rattle.nef_space.proofs.Prelude.{◌≡◌, ℤ, pos, ◌-ℤ◌, ◌*ℤ◌, ◌≤ℤ◌, ◌<ℤ◌, arith, ap, sym, ◌∙◌, [], ◌∷◌, ints}
use Rattle.nef_space.proofs.Ring.{ring, at, ◌⊖◌, ◌⊗◌}
use Rattle.nef_space.proofs.Combination.{follows, follows_times, given, none}
use Rattle.nef_space.proofs.Order.{sign, sign-scaled, mul_lt_right, mul_le_right, cancel_lt, cancel_le}

-- a/b < c/d < e/f
pub fraction-trans : (a b c d e f : ℤ) → pos 0 <ℤ b → pos 0 <ℤ d → pos 0 <ℤ f → (a *ℤ d) <ℤ (c *ℤ b) → (c *ℤ f) <ℤ (e *ℤ d) → (a *ℤ f) <ℤ (e *ℤ b)
fraction-trans a b c d e f hb hd hf h k =
    let p = mul_lt_right (a *ℤ d) (c *ℤ b) f hf h in
    let q = mul_lt_right (c *ℤ f) (e *ℤ d) b hb k in
    let xs = a ∷ b ∷ c ∷ d ∷ e ∷ f ∷ [] in
    let i = ring xs (at 0 ⊗ at 3 ⊗ at 5) (at 0 ⊗ at 5 ⊗ at 3) tt in
    let j = ring xs (at 2 ⊗ at 1 ⊗ at 5) (at 2 ⊗ at 5 ⊗ at 1) tt in
    let l = ring xs (at 4 ⊗ at 3 ⊗ at 1) (at 4 ⊗ at 1 ⊗ at 3) tt in
    cancel_lt (a *ℤ f) (e *ℤ b) d hd (omega (arith, ints))

pub fraction-le-trans : (a b c d e f : ℤ) → pos 0 <ℤ b → pos 0 <ℤ d → pos 0 <ℤ f → (a *ℤ d) ≤ℤ (c *ℤ b) → (c *ℤ f) ≤ℤ (e *ℤ d) → (a *ℤ f) ≤ℤ (e *ℤ b)
fraction-le-trans a b c d e f hb hd hf h k =
    let p = mul_le_right (a *ℤ d) (c *ℤ b) f (omega (arith, ints)) h in
    let q = mul_le_right (c *ℤ f) (e *ℤ d) b (omega (arith, ints)) k in
    let xs = a ∷ b ∷ c ∷ d ∷ e ∷ f ∷ [] in
    let i = ring xs (at 0 ⊗ at 3 ⊗ at 5) (at 0 ⊗ at 5 ⊗ at 3) tt in
    let j = ring xs (at 2 ⊗ at 1 ⊗ at 5) (at 2 ⊗ at 5 ⊗ at 1) tt in
    let l = ring xs (at 4 ⊗ at 3 ⊗ at 1) (at 4 ⊗ at 1 ⊗ at 3) tt in
    cancel_le (a *ℤ f) (e *ℤ b) d hd (omega (arith, ints))

-- a/b = c/d = e/f; only the middle denominator has to be positive
pub fraction-eq-trans : (a b c d e f : ℤ) → pos 0 <ℤ d → a *ℤ d ≡ c *ℤ b → c *ℤ f ≡ e *ℤ d → a *ℤ f ≡ e *ℤ b
fraction-eq-trans a b c d e f hd h k =
    follows_times (a ∷ b ∷ c ∷ d ∷ e ∷ f ∷ []) (at 3) (at 0 ⊗ at 5) (at 4 ⊗ at 1)
    (given (at 5) (at 0 ⊗ at 3) (at 2 ⊗ at 1) h
    (given (at 1) (at 2 ⊗ at 5) (at 4 ⊗ at 3) k none)) hd tt

-- a/b = e/f: both compare alike with c/d
pub fraction-alike : (a b c d e f : ℤ) → pos 0 <ℤ b → pos 0 <ℤ f → a *ℤ f ≡ e *ℤ b → sign (a *ℤ d -ℤ c *ℤ b) ≡ sign (e *ℤ d -ℤ c *ℤ f)
fraction-alike a b c d e f hb hf h =
    let q = follows (a ∷ b ∷ c ∷ d ∷ e ∷ f ∷ []) (at 5 ⊗ (at 0 ⊗ at 3 ⊖ at 2 ⊗ at 1)) (at 1 ⊗ (at 4 ⊗ at 3 ⊖ at 2 ⊗ at 5))
    (given (at 3) (at 0 ⊗ at 5) (at 4 ⊗ at 1) h none) tt in
    sym (sign-scaled f (a *ℤ d -ℤ c *ℤ b) hf) ∙ ap sign q ∙ sign-scaled b (e *ℤ d -ℤ c *ℤ f) hb
