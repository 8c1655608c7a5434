-- The classes of finitely many things in order, each class in order, and the classes in the order of their first things.
use Rattle.nef_statement.proofs.text.existence.Prelude.{◌≡◌, ℕ, zero, suc, arith, refl, ap, sym, ◌⊎◌, inl, inr, ⊎_elim, Some, List, ◌∷◌, length, subst, [], IsChain, Chained, Lies, Decided, decided-both, decided-to, decided-not, every, IsAt, InOrder, is-at_one, lies-at, at-or, Chain, chain-here, chain-link, chain-trans, chain-turned, is-at_within, eq-decided}
use Rattle.nef_statement.proofs.text.existence.Classes.{decided-classes}

-- ---- classes of the images of listed things
module _ {X Y : Type 0} (xs : List X) (f : X → Y) (R : Y → Y → Type 0) (listed : (y z : Y) → R y z → ((i : ℕ) × (x : X) × IsAt xs i x × (f x ≡ y)) × ((j : ℕ) × (w : X) × IsAt xs j w × (f w ≡ z)))
    (once : (i j : ℕ) (x w : X) → IsAt xs i x → IsAt xs j w → f x ≡ f w → i ≡ j) (D : (i j : ℕ) (x w : X) → IsAt xs i x → IsAt xs j w → Decided (R (f x) (f w))) where
  abbrev Link : ℕ → ℕ → Type 0
  Link i j = (x : X) × (w : X) × IsAt xs i x × IsAt xs j w × R (f x) (f w)

  link-decided : (i j : ℕ) → Decided (Link i j)
  link-decided i j = by (at-or xs i) (at-or xs j)
    where
      by : ((x : X) × IsAt xs i x) ⊎ ((x : X) → IsAt xs i x → ⊥) → ((w : X) × IsAt xs j w) ⊎ ((w : X) → IsAt xs j w → ⊥) → Decided (Link i j)
      by (inl (x, a)) (inl (w, b)) = ⊎_elim (λ r. inl (x, w, a, b, r)) (λ n. inr (λ l. n (subst (λ (z : X). R (f z) (f w)) (is-at_one xs i l.0 x l.2 a) (subst (λ (z : X). R (f l.0) (f z)) (is-at_one xs j l.1 w l.3 b) l.4)))) (D i j x w a b)
      by (inr n) o = inr (λ l. n l.0 l.2)
      by (inl a) (inr n) = inr (λ l. n l.1 l.3)

  to-images : (i j : ℕ) (x w : X) → IsAt xs i x → IsAt xs j w → Chained Link i j → Chained R (f x) (f w)
  to-images i j x w a b (ns, c) = go i x a ns c
    where
      step : (i j : ℕ) (x w : X) → IsAt xs i x → IsAt xs j w → Link i j → R (f x) (f w)
      step i j x w a b l = subst (λ (z : X). R (f z) (f w)) (is-at_one xs i l.0 x l.2 a) (subst (λ (z : X). R (f l.0) (f z)) (is-at_one xs j l.1 w l.3 b) l.4)

      go : (i : ℕ) (x : X) → IsAt xs i x → (ns : List ℕ) → IsChain Link i ns j → Chained R (f x) (f w)
      go i x a [] e = subst (λ (z : X). Chained R (f x) (f z)) (is-at_one xs j x w (subst (λ n. IsAt xs n x) e a) b) (chain-here R (f x))
      go i x a (n ∷ ns) (inl l, c) = chain-trans R (f x) (f l.1) (f w) (chain-link R (f x) (f l.1) (step i n x l.1 a l.3 l)) (go n l.1 l.3 ns c)
      go i x a (n ∷ ns) (inr l, c) = chain-trans R (f x) (f l.0) (f w) (chain-turned R (f l.0) (f x) (chain-link R (f l.0) (f x) (step n i l.0 x l.2 a l))) (go n l.0 l.2 ns c)

  from-images : (i j : ℕ) (x w : X) → IsAt xs i x → IsAt xs j w → Chained R (f x) (f w) → Chained Link i j
  from-images i j x w a b (ys, c) = go i x a ys c
    where
      go : (i : ℕ) (x : X) → IsAt xs i x → (ys : List Y) → IsChain R (f x) ys (f w) → Chained Link i j
      go i x a [] e = subst (λ n. Chained Link i n) (once i j x w a b e) (chain-here Link i)
      go i x a (y ∷ ys) (inl r, c) =
          let (k, z, d, e) = (listed (f x) y r).1 in
          chain-trans Link i k j (chain-link Link i k (x, z, a, d, subst (R (f x)) (sym e) r)) (go k z d ys (subst (λ (v : Y). IsChain R v ys (f w)) (sym e) c))
      go i x a (y ∷ ys) (inr r, c) =
          let (k, z, d, e) = (listed y (f x) r).0 in
          chain-trans Link i k j (chain-turned Link k i (chain-link Link k i (z, x, d, a, subst (λ (v : Y). R v (f x)) (sym e) r))) (go k z d ys (subst (λ (v : Y). IsChain R v ys (f w)) (sym e) c))

  -- whether chains join them is decided
  pub chained-decided : (i j : ℕ) (x w : X) → IsAt xs i x → IsAt xs j w → Decided (Chained R (f x) (f w))
  chained-decided i j x w a b =
      let c = decided-classes (length xs) Link link-decided (λ s t l. (is-at_within xs s l.0 l.2, is-at_within xs t l.1 l.3)) in
      let r = c.1 i j in
      ⊎_elim (λ e. inl (to-images i j x w a b (r.0 e))) (λ n. inr (λ h. n (r.1 (from-images i j x w a b h)))) (eq-decided (c.0 i) (c.0 j))

-- ---- the part of a list in order that has a decided property
module _ {X : Type 0} (Below : X → X → Type 0) where
  abbrev pub IsChainBelow : List X → Type 0
  IsChainBelow xs = Chain Below Below xs

  pub order-chain : (xs : List X) → InOrder Below xs → IsChainBelow xs
  order-chain [] o = tt
  order-chain (x ∷ xs) o = (λ y l. let k = lies-at xs y l in o zero (suc k.0) x y (omega arith) refl k.1, order-chain xs (λ i j u w l a b. o (suc i) (suc j) u w (omega (arith, l)) a b))

  pub record Part (P : X → Type 0) (xs : List X) : Type 0 where
    pub list : List X
    pub ordered : IsChainBelow list
    pub sound : (x : X) → Lies list x → Lies xs x × P x
    pub all : (x : X) → Lies xs x → P x → Lies list x

  pub part : (P : X → Type 0) → ((x : X) → Decided (P x)) → (xs : List X) → IsChainBelow xs → Part P xs
  part P D [] o = record { list = []; ordered = tt; sound = λ x l. absurd l; all = λ x l p. l }
  part P D (x ∷ xs) o = by (D x) (part P D xs o.1)
    where
      by : Decided (P x) → Part P xs → Part P (x ∷ xs)
      by (inl p) r = record {
        list = x ∷ r.list;
        ordered = (λ y l. o.0 y (r.sound y l).0, r.ordered);
        sound = λ y l. ⊎_elim (λ e. (inl e, subst P e p)) (λ m. let q = r.sound y m in (inr q.0, q.1)) l;
        all = λ y l q. ⊎_elim (λ e. inl e) (λ m. inr (r.all y m q)) l;
      }
      by (inr n) r = record {
        list = r.list;
        ordered = r.ordered;
        sound = λ y l. let q = r.sound y l in (inr q.0, q.1);
        all = λ y l q. ⊎_elim (λ e. absurd (n (subst P (sym e) q))) (λ m. r.all y m q) l;
      }

  -- ---- classes
  module _ (self : (x : X) → Below x x → ⊥) (below : (x y : X) → Decided (Below x y)) (turned : (x y : X) → Below x y → Below y x → ⊥) (E : X → X → Type 0) (refl-E : (x : X) → E x x) (sym-E : (x y : X) → E x y → E y x) (trans-E : (x y z : X) → E x y → E y z → E x z)
      (D : (x y : X) → Decided (E x y)) (xs : List X) (o : IsChainBelow xs) where
    -- nothing of its class is before it
    abbrev pub IsLeader : X → Type 0
    IsLeader x = (y : X) → Lies xs y → E y x → Below y x → ⊥

    leader-decided : (x : X) → Decided (IsLeader x)
    leader-decided x = ⊎_elim (λ f. inr (λ L. f.2 (λ e b. L f.0 f.1 e b))) (λ f. inl f) (every xs (λ y. E y x → Below y x → ⊥) (λ y. decided-to (D y x) (decided-not (below y x))))

    pub class : (x : X) → Part (λ y. E y x) xs
    class x = part (λ y. E y x) (λ y. D y x) xs o

    -- the first of a class
    first-of : (x : X) → Lies xs x → (y : X) × Lies xs y × E y x × IsLeader y
    first-of x l = by (class x).list (class x).ordered (λ y m. (class x).sound y m) (λ y m e. (class x).all y m e)
      where
        by : (ys : List X) → IsChainBelow ys → ((y : X) → Lies ys y → Lies xs y × E y x) → ((y : X) → Lies xs y → E y x → Lies ys y) → (y : X) × Lies xs y × E y x × IsLeader y
        by [] c sound all = absurd (all x l (refl-E x))
        by (y ∷ ys) c sound all =
            let q = sound y (inl refl) in
            (y, q.0, q.1, λ z m e b. ⊎_elim (λ f. self z (subst (Below z) f b)) (λ n. turned z y b (c.0 z n)) (all z m (trans-E z y x e q.1)))

    -- it stands first in its class
    pub leads : (x : X) → Lies xs x → IsLeader x → IsAt (class x).list 0 x
    leads x l L = by (class x).list (class x).ordered (λ y m. (class x).sound y m) ((class x).all x l (refl-E x))
      where
        by : (ys : List X) → IsChainBelow ys → ((y : X) → Lies ys y → Lies xs y × E y x) → Lies ys x → IsAt ys 0 x
        by [] c sound m = absurd m
        by (y ∷ ys) c sound (inl e) = ap Some e
        by (y ∷ ys) c sound (inr m) = absurd (let q = sound y (inl refl) in L y q.0 q.1 (c.0 x m))

    -- the leaders with P, which goes over to all of a class
    module _ (P : X → Type 0) (DP : (x : X) → Decided (P x)) (carried : (x y : X) → E x y → P x → P y) where
      pub leaders : Part (λ x. P x × IsLeader x) xs
      leaders = part (λ x. P x × IsLeader x) (λ x. decided-both (DP x) (leader-decided x)) xs o

      pub leader-of : (x : X) → Lies xs x → P x → (y : X) × Lies leaders.list y × E x y
      leader-of x l p = let f = first-of x l in (f.0, leaders.all f.0 f.1 (carried x f.0 (sym-E f.0 x f.2) p, f.3), sym-E f.0 x f.2)
