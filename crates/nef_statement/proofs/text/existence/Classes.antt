-- The classes of finitely many numbers that a decided relation links.
use Rattle.nef_statement.proofs.text.existence.Prelude.{◌≡◌, ℕ, zero, suc, ◌<◌, arith, refl, sym, ◌∙◌, ◌⊎◌, inl, inr, ⊎_elim, ◌↔◌, List, ◌∷◌, subst, [], cases_order, Chained, Lies, pairs, lies-pairs, Decided, Collected, collect, chain-here, chain-link, chain-trans, chain-turned, chain-keeps, chain-map, eq-decided}

-- ---- links one after the other
abbrev AreLinked : List (ℕ × ℕ) → ℕ → ℕ → Type 0
AreLinked ls s t = Lies ls (s, t)

-- what has the class of a gets that of b
moved : (ℕ → ℕ) → ℕ → ℕ → ℕ → ℕ
moved f a b k = ⊎_elim (λ e. f b) (λ o. f k) (eq-decided (f k) (f a))

module _ (f : ℕ → ℕ) (a b : ℕ) where
  moved-same : (k : ℕ) → f k ≡ f a → moved f a b k ≡ f b
  unfolding moved
  moved-same k e = by (eq-decided (f k) (f a))
    where
      by : (o : Decided (f k ≡ f a)) → ⊎_elim (λ e. f b) (λ o. f k) o ≡ f b
      by (inl d) = refl
      by (inr n) = absurd (n e)

  moved-other : (k : ℕ) → (f k ≡ f a → ⊥) → moved f a b k ≡ f k
  unfolding moved
  moved-other k n = by (eq-decided (f k) (f a))
    where
      by : (o : Decided (f k ≡ f a)) → ⊎_elim (λ e. f b) (λ o. f k) o ≡ f k
      by (inl d) = absurd (n d)
      by (inr m) = refl

  -- what was together stays together
  moved-kept : (s t : ℕ) → f s ≡ f t → moved f a b s ≡ moved f a b t
  moved-kept s t e = ⊎_elim
      (λ d. moved-same s d ∙ sym (moved-same t (sym e ∙ d)))
      (λ n. moved-other s n ∙ e ∙ sym (moved-other t (λ d. n (e ∙ d))))
      (eq-decided (f s) (f a))

  moved-ends : moved f a b a ≡ moved f a b b
  moved-ends = moved-same a refl ∙ ⊎_elim (λ d. sym (moved-same b d)) (λ n. sym (moved-other b n)) (eq-decided (f b) (f a))

-- numbers have one class exactly where chains of links join them
abbrev AreClasses : List (ℕ × ℕ) → (ℕ → ℕ) → Type 0
AreClasses ls f = (s t : ℕ) → (f s ≡ f t) ↔ Chained (AreLinked ls) s t

classes-of : (ls : List (ℕ × ℕ)) → (f : ℕ → ℕ) × AreClasses ls f
classes-of [] = ((λ k. k), λ s t. (λ e. subst (λ r. Chained (AreLinked []) s r) e (chain-here (AreLinked []) s), λ c. chain-keeps (AreLinked []) (λ k. k) (λ x y l. absurd l) s t c))
classes-of (l ∷ ls) = by (classes-of ls)
  where
    by : ((f : ℕ → ℕ) × AreClasses ls f) → (f : ℕ → ℕ) × AreClasses (l ∷ ls) f
    by (f, F) = (moved f a b, λ s t. (joined s t, λ c. chain-keeps (AreLinked (l ∷ ls)) (moved f a b) keeps s t c))
      where
        a : ℕ
        a = l.0

        b : ℕ
        b = l.1

        Link : ℕ → ℕ → Type 0
        Link = AreLinked (l ∷ ls)

        old : (s t : ℕ) → f s ≡ f t → Chained (AreLinked (l ∷ ls)) s t
        old s t e = chain-map (AreLinked ls) (AreLinked (l ∷ ls)) (λ k. k) (λ x y m. chain-link (AreLinked (l ∷ ls)) x y (inr m)) s t ((F s t).0 e)

        new : Chained (AreLinked (l ∷ ls)) l.0 l.1
        new = chain-link (AreLinked (l ∷ ls)) l.0 l.1 (inl refl)

        keeps : (x y : ℕ) → AreLinked (l ∷ ls) x y → moved f l.0 l.1 x ≡ moved f l.0 l.1 y
        keeps x y (inl e) = subst (λ (p : ℕ × ℕ). moved f l.0 l.1 p.0 ≡ moved f l.0 l.1 p.1) e (moved-ends f l.0 l.1)
        keeps x y (inr m) = moved-kept f l.0 l.1 x y ((F x y).1 (chain-link (AreLinked ls) x y m))

        joined : (s t : ℕ) → moved f l.0 l.1 s ≡ moved f l.0 l.1 t → Chained (AreLinked (l ∷ ls)) s t
        joined s t e = cases (eq-decided (f s) (f l.0)) (eq-decided (f t) (f l.0))
          where
            to-a : (k : ℕ) → f k ≡ f l.0 → Chained (AreLinked (l ∷ ls)) k l.0
            to-a k d = old k l.0 d

            cases : Decided (f s ≡ f l.0) → Decided (f t ≡ f l.0) → Chained (AreLinked (l ∷ ls)) s t
            cases (inl d) (inl g) = old s t (d ∙ sym g)
            cases (inl d) (inr n) =
                let g : f l.1 ≡ f t = sym (moved-same f l.0 l.1 s d) ∙ e ∙ moved-other f l.0 l.1 t n in
                chain-trans (AreLinked (l ∷ ls)) s l.0 t (to-a s d) (chain-trans (AreLinked (l ∷ ls)) l.0 l.1 t new (old l.1 t g))
            cases (inr n) (inl d) =
                let g : f s ≡ f l.1 = sym (moved-other f l.0 l.1 s n) ∙ e ∙ moved-same f l.0 l.1 t d in
                chain-trans (AreLinked (l ∷ ls)) s l.1 t (old s l.1 g) (chain-trans (AreLinked (l ∷ ls)) l.1 l.0 t (chain-turned (AreLinked (l ∷ ls)) l.0 l.1 new) (chain-turned (AreLinked (l ∷ ls)) t l.0 (to-a t d)))
            cases (inr n) (inr m) = old s t (sym (moved-other f l.0 l.1 s n) ∙ e ∙ moved-other f l.0 l.1 t m)

-- ---- a decided relation of the numbers below n
pub numbers-to : ℕ → List ℕ
numbers-to zero = []
numbers-to (suc n) = n ∷ numbers-to n

pub in-numbers : (n k : ℕ) → k < n → Lies (numbers-to n) k
unfolding numbers-to
in-numbers zero k l = absurd (omega (arith, l))
in-numbers (suc n) k l = ⊎_elim (λ e. inl (sym e)) (λ o. ⊎_elim (λ m. inr (in-numbers n k m)) (λ m. absurd (omega (arith, l, m))) o) (cases_order k n)

pub number-in : (n k : ℕ) → Lies (numbers-to n) k → k < n
unfolding numbers-to
number-in zero k l = absurd l
number-in (suc n) k (inl e) = omega (arith, e)
number-in (suc n) k (inr l) = let m = number-in n k l in omega (arith, m)

pub decided-classes : (n : ℕ) (Link : ℕ → ℕ → Type 0) → ((s t : ℕ) → Decided (Link s t)) → ((s t : ℕ) → Link s t → (s < n) × (t < n)) → (f : ℕ → ℕ) × ((s t : ℕ) → (f s ≡ f t) ↔ Chained Link s t)
decided-classes n Link D within = by (collect all Holds LinkOf given-by)
  where
    all : List (ℕ × ℕ)
    all = pairs (λ s t. (s, t)) (numbers-to n) (numbers-to n)

    LinkOf : ℕ × ℕ → Type 0
    LinkOf p = Link p.0 p.1

    Holds : ℕ × ℕ → ℕ × ℕ → Type 0
    Holds p q = (p ≡ q) × Link q.0 q.1

    given-by : (p : ℕ × ℕ) → ((q : ℕ × ℕ) × ((p ≡ q) × Link q.0 q.1)) ⊎ (Link p.0 p.1 → ⊥)
    given-by p = ⊎_elim (λ l. inl (p, (refl, l))) (λ f. inr f) (D p.0 p.1)

    by : Collected (pairs (λ s t. (s, t)) (numbers-to n) (numbers-to n)) (λ (p q : ℕ × ℕ). (p ≡ q) × Link q.0 q.1) (λ (p : ℕ × ℕ). Link p.0 p.1) → (f : ℕ → ℕ) × ((s t : ℕ) → (f s ≡ f t) ↔ Chained Link s t)
    by c =
        let r = classes-of c.list in (
          r.0,
          λ s t. (
            λ e. chain-map (AreLinked c.list) Link (λ k. k) (λ x y l. chain-link Link x y ((c.sound (x, y) l).2.1)) s t ((r.1 s t).0 e),
            λ h. (r.1 s t).1 (chain-map Link (AreLinked c.list) (λ k. k) (λ x y l. chain-link (AreLinked c.list) x y (listed x y l)) s t h),
          ),
        )
      where
        listed : (x y : ℕ) → Link x y → Lies c.list (x, y)
        listed x y l =
            let w = within x y l in
            let a = c.all (x, y) (lies-pairs (λ s t. (s, t)) (numbers-to n) (numbers-to n) x y (in-numbers n x w.0) (in-numbers n y w.1)) l in
            subst (λ q. Lies c.list q) (sym a.2.0) a.1
