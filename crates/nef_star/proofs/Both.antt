-- What directions that turn give where others that turn, and have all of them, lie.
use Rattle.nef_star.proofs.Prelude.{◌≡◌, ℕ, ◌<◌, arith, sym, ap, subst, ◌∙◌, inl, inr, ◌⊎◌, Vector, IsDirection, SameDirection, Label, IsOnCircle, Passes, one_is_first, order_is_transitive, order_is_cyclic, same_in_place, IsTurning, IsNext, Gives, on_ray, in_sector, in_only_sector, IsUnder, IsLabelAfter, SameDirection-trans, SameDirection-turned}
use Rattle.nef_star.proofs.Turns.{three, four, same_or, next_in, none_between, not_both, one_place}

-- what is given is a matter of the direction
pub gives-same : (a : Vector) → IsDirection a → (n : ℕ) (f : ℕ → Vector) → IsTurning a n f → (M S : ℕ → Label) (d e : Vector) → IsOnCircle a d → IsOnCircle a e → SameDirection d e → (l : Label)
    → Gives a n f M S d l → Gives a n f M S e l
gives-same a axis n f t M S d e o u q l (on_ray k h s z) = on_ray k h (SameDirection-trans (f k) d e s q) z
gives-same a axis n f t M S d e o u q l (in_sector k j h x p z) = in_sector k j h x (same_in_place a (f k) d e (f j) (four a (f k) d e (f j) axis (t.circle k h) o u (t.circle j (next_in n k j h x))) q p) z
gives-same a axis n f t M S d e o u q l (in_only_sector y z) = in_only_sector y z

-- f has all the directions of g; d is between f i and the next
module _ (a : Vector) (axis : IsDirection a) (n : ℕ) (f : ℕ → Vector) (t : IsTurning a n f) (m : ℕ) (g : ℕ → Vector) (u : IsTurning a m g) (all : (p : ℕ) → p < m → (x : ℕ) × (x < n) × (f x ≡ g p))
    (d : Vector) (o : IsOnCircle a d) (i j : ℕ) (h : i < n) (x : IsNext n i j) (r : Passes a (f i) d (f j)) where
  on_f : (k : ℕ) → k < n → IsOnCircle a (f k)
  on_f k l = t.circle k l

  on_g : (k : ℕ) → k < m → IsOnCircle a (g k)
  on_g k l = u.circle k l

  none_there : (p : ℕ) → p < m → Passes a (f i) (g p) (f j) → ⊥
  none_there p k s = let y = all p k in none_between a axis n f t i j y.0 h x y.1 (subst (λ (v : Vector). Passes a (f i) v (f j)) (sym y.2) s)

  -- where d is between g p and the next, so is f i, or it is g p
  under_there : (p q : ℕ) → p < m → IsNext m p q → Passes a (g p) d (g q) → IsUnder a m g (f i) p
  under_there p q k y s = by (same_or (g p) (f i))
    where
      turned : Passes a (g p) d (f i) → (SameDirection (g p) (f i) → ⊥) → Passes a (f i) (g p) d
      turned z apart =
          order_is_cyclic a d (f i) (g p) (three a d (f i) (g p) axis o (on_f i h) (on_g p k)) (λ w. s.not_source (SameDirection-turned d (g p) w))
          (order_is_cyclic a (g p) d (f i) (three a (g p) d (f i) axis (on_g p k) o (on_f i h)) apart z)

      first : (SameDirection (g p) (f i) → ⊥) → SameDirection (f i) d ⊎ Passes a (g p) (f i) d ⊎ Passes a (g p) d (f i) → Passes a (g p) (f i) (g q)
      first apart (inl z) = absurd (r.not_source z)
      first apart (inr (inl z)) = order_is_transitive a (g p) (f i) d (g q) (four a (g p) (f i) d (g q) axis (on_g p k) (on_f i h) o (on_g q (next_in m p q k y))) z s
      first apart (inr (inr z)) =
          absurd (none_there p k (order_is_transitive a (f i) (g p) d (f j) (four a (f i) (g p) d (f j) axis (on_f i h) (on_g p k) o (on_f j (next_in n i j h x))) (turned z apart) r))

      by : SameDirection (g p) (f i) ⊎ (SameDirection (g p) (f i) → ⊥) → IsUnder a m g (f i) p
      by (inl w) = inl w
      by (inr apart) = inr (q, y, first apart (one_is_first a (g p) (f i) d (three a (g p) (f i) d axis (on_g p k) (on_f i h) o) apart s.not_source))

  -- the label just past f i is that at d
  pub after-label : (M S : ℕ → Label) (k l : Label) → IsLabelAfter a m g S (f i) k → Gives a m g M S d l → k ≡ l
  after-label M S k l (inl (q, c, w, e)) (on_ray p b s z) = let y = all p b in absurd (not_both a axis n f t d y.0 i j y.1 h o (subst (λ (v : Vector). SameDirection v d) (sym y.2) s) x r)
  after-label M S k l (inl (q, c, w, e)) (in_sector p p' b y s z) = sym e ∙ ap S (one_place a axis m g u (f i) q p c b (on_f i h) w (under_there p p' b y s)) ∙ z
  after-label M S k l (inl (q, c, w, e)) (in_only_sector y z) = absurd (omega (arith, c, y))
  after-label M S k l (inr (y, e)) (on_ray p b s z) = absurd (omega (arith, b, y))
  after-label M S k l (inr (y, e)) (in_sector p p' b y' s z) = absurd (omega (arith, b, y))
  after-label M S k l (inr (y, e)) (in_only_sector y' z) = sym e ∙ z
