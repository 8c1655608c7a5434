-- Where each corner has one next corner, the cycles are the only ones.
use Rattle.nef_statement.proofs.text.Prelude.{◌≡◌, ℕ, zero, suc, ◌<◌, ◌⊎◌, inl, inr, ⊎_elim, List, [], ◌∷◌, length, arith, refl, sym, ◌∙◌, ap, subst, All, IsAt, same-lists, Complex, Corner, NextCorner, IsCornerBelow, StepsTo, IsCycle, IsCycleBelow, Cycles, is-at_none, is-at_first}
use Rattle.nef_facets.proofs.Order.{below-once}

-- each corner has one next corner
abbrev pub HasOneNext : Complex → Type 0
HasOneNext C = (j k l : Corner) → NextCorner C j k → NextCorner C j l → k ≡ l

-- the corner is below each of the list
abbrev AllAbove : Corner → List Corner → Type 0
AllAbove j [] = Unit {0}
AllAbove j (k ∷ ks) = IsCornerBelow j k × AllAbove j ks

all-above : (j : Corner) (ks : List Corner) → All (IsCornerBelow j) ks → AllAbove j ks
all-above j [] h = tt
all-above j (k ∷ ks) h = (h 0 k (omega arith), all-above j ks (λ i d l. h (suc i) d (omega arith)))

module _ (C : Complex) (one : HasOneNext C) where
  -- two ways round from one corner are one
  round-one : (a z : Corner) (ks ls : List Corner) → StepsTo C a ks z → StepsTo C a ls z → AllAbove z ks → AllAbove z ls → ks ≡ ls
  round-one a z [] [] s t p q = refl
  round-one a z [] (l ∷ ls) s (n, t) p (b, q) = absurd (below-once z l b (subst (λ (w : Corner). IsCornerBelow w z) (one a z l s n) (subst (λ (w : Corner). IsCornerBelow z w) (sym (one a z l s n)) b)))
  round-one a z (k ∷ ks) [] (n, s) t (b, p) q = absurd (below-once z k b (subst (λ (w : Corner). IsCornerBelow w z) (one a z k t n) (subst (λ (w : Corner). IsCornerBelow z w) (sym (one a z k t n)) b)))
  round-one a z (k ∷ ks) (l ∷ ls) (n, s) (m, t) (b, p) (c, q) =
      let e = one a l k m n in
      let r = round-one k z ks ls s (subst (λ (w : Corner). StepsTo C w ls z) e t) p q in
      ap (λ (w : Corner). w ∷ ks) (sym e) ∙ ap (λ (ws : List Corner). l ∷ ws) r

  -- a way to j passes i, which is above it
  record Passes (i j : Corner) (n : ℕ) : Type 0 where
    rest : List Corner
    leads : StepsTo C i rest j
    above : AllAbove j rest
    shorter : length rest < n
    passed : IsCornerBelow j i

  -- of two ways from one corner one ends first, or they end together
  both-ways : (a i j : Corner) (qs rs : List Corner) → StepsTo C a qs j → StepsTo C a rs i → AllAbove j qs → AllAbove i rs → (j ≡ i) ⊎ (Passes i j (length qs)) ⊎ (Passes j i (length rs))
  both-ways a i j [] [] s t p q = inl (one a j i s t)
  both-ways a i j [] (r ∷ rs) s (n, t) p (b, q) =
      let e = one a r j n s in
      inr (inr (record { rest = rs; leads = subst (λ (w : Corner). StepsTo C w rs i) e t; above = q; shorter = omega arith; passed = subst (λ (w : Corner). IsCornerBelow i w) e b }))
  both-ways a i j (k ∷ qs) [] (n, s) t (b, p) q =
      let e = one a k i n t in
      inr (inl (record { rest = qs; leads = subst (λ (w : Corner). StepsTo C w qs j) e s; above = p; shorter = omega arith; passed = subst (λ (w : Corner). IsCornerBelow j w) e b }))
  both-ways a i j (k ∷ qs) (r ∷ rs) (n, s) (m, t) (b, p) (c, q) =
      let e = one a r k m n in
      ⊎_elim (λ h. inl h)
      (λ h. inr (⊎_elim (λ f. inl (longer i j (length qs) (length (k ∷ qs)) (omega arith) f)) (λ f. inr (longer j i (length rs) (length (r ∷ rs)) (omega arith) f)) h))
      (both-ways k i j qs rs s (subst (λ (w : Corner). StepsTo C w rs i) e t) p q)
    where
      longer : (i j : Corner) (m n : ℕ) → m < n → Passes i j m → Passes i j n
      longer i j m n l f = record { rest = f.rest; leads = f.leads; above = f.above; shorter = let h = f.shorter in omega arith; passed = f.passed }

  -- no way to j passes i above it again and again
  never : (n : ℕ) (i j : Corner) (ls : List Corner) → StepsTo C i ls i → AllAbove i ls → Passes i j n → ⊥
  never zero i j ls t q f = let h = f.shorter in omega arith
  never (suc n) i j ls t q f =
      ⊎_elim (λ e. below-once j i f.passed (subst (λ (w : Corner). IsCornerBelow w j) e (subst (λ (w : Corner). IsCornerBelow j w) (sym e) f.passed)))
      (λ h. ⊎_elim (λ g. never n i j ls t q (record { rest = g.rest; leads = g.leads; above = g.above; shorter = let a = g.shorter in let b = f.shorter in omega arith; passed = g.passed })) (λ g. below-once j i f.passed g.passed) h)
      (both-ways i i j f.rest ls f.leads t f.above q)

  -- the rest of a cycle after one of its corners
  rest-of : (a z m : Corner) (ks : List Corner) (i : ℕ) → StepsTo C a ks z → AllAbove z ks → IsAt ks i m → (qs : List Corner) × StepsTo C m qs z × AllAbove z qs
  rest-of a z m [] i s p h = absurd (is-at_none h)
  rest-of a z m (k ∷ ks) zero (n, s) (b, p) h = (ks, subst (λ (w : Corner). StepsTo C w ks z) (is-at_first h) s, p)
  rest-of a z m (k ∷ ks) (suc i) (n, s) (b, p) h = rest-of k z m ks i s p h

  rest-from : (j m : Corner) (ks : List Corner) (i : ℕ) → IsCycle C (j ∷ ks) → IsAt (j ∷ ks) i m → (qs : List Corner) × StepsTo C m qs j × AllAbove j qs
  rest-from j m ks zero c h = (ks, subst (λ (w : Corner). StepsTo C w ks j) (is-at_first h) (c.0), all-above j ks (c.1))
  rest-from j m ks (suc i) c h = rest-of j j m ks i (c.0) (all-above j ks (c.1)) h

  -- cycles with a common corner are one
  cycle-one : (x y : List Corner) (i k : ℕ) (m : Corner) → IsCycle C x → IsCycle C y → IsAt x i m → IsAt y k m → x ≡ y
  cycle-one [] y i k m c d a b = absurd (is-at_none a)
  cycle-one (j ∷ ks) [] i k m c d a b = absurd (is-at_none b)
  cycle-one (j ∷ ks) (l ∷ ls) i k m c d a b =
      let r = rest-from j m ks i c a in
      let t = rest-from l m ls k d b in
      let e = ⊎_elim (λ e. e) (λ h. ⊎_elim (λ f. absurd (never _ l j ls (d.0) (all-above l ls (d.1)) f)) (λ f. absurd (never _ j l ks (c.0) (all-above j ks (c.1)) f)) h) (both-ways m l j (r.0) (t.0) (r.1) (t.1) (r.2) (t.2)) in
      ap (λ (w : Corner). w ∷ ks) e ∙ ap (λ (ws : List Corner). l ∷ ws)
      (round-one l l ks ls (subst (λ (w : Corner). StepsTo C w ks w) e (c.0)) (d.0) (subst (λ (w : Corner). AllAbove w ks) e (all-above j ks (c.1))) (all-above l ls (d.1)))

  cycle-below-apart : (x y : List Corner) → IsCycleBelow x y → IsCycleBelow y x → ⊥
  cycle-below-apart [] y (j, k, a, b, h) g = absurd (is-at_none a)
  cycle-below-apart (m ∷ x) [] (j, k, a, b, h) g = absurd (is-at_none b)
  cycle-below-apart (m ∷ x) (n ∷ y) (j, k, a, b, h) (l, o, c, d, g) =
      below-once m n (subst (λ (w : Corner). IsCornerBelow m w) (sym (is-at_first b)) (subst (λ (w : Corner). IsCornerBelow w k) (sym (is-at_first a)) h))
      (subst (λ (w : Corner). IsCornerBelow n w) (sym (is-at_first d)) (subst (λ (w : Corner). IsCornerBelow w o) (sym (is-at_first c)) g))

  found : (P : Corner → Type 0) (xs ys : List (List Corner)) → Cycles C P xs → Cycles C P ys → (k : ℕ) (x : List Corner) → IsAt xs k x → (i : ℕ) × IsAt ys i x
  found P xs ys X Y k [] a = absurd (X.cycles k [] a)
  found P xs ys X Y k (j ∷ ks) a =
      let r = Y.complete j (X.within k 0 (j ∷ ks) j a refl) in
      let e = cycle-one (j ∷ ks) (r.2) 0 (r.1) j (X.cycles k (j ∷ ks) a) (Y.cycles (r.0) (r.2) (r.3)) refl (r.4) in
      (r.0, subst (λ (x : List Corner). IsAt ys (r.0) x) (sym e) (r.3))

  pub cycles-one : (P : Corner → Type 0) (xs ys : List (List Corner)) → Cycles C P xs → Cycles C P ys → xs ≡ ys
  cycles-one P xs ys X Y = same-lists IsCycleBelow cycle-below-apart xs ys X.ordered Y.ordered (found P xs ys X Y) (found P ys xs Y X)
