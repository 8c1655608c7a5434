-- Elements of a table, in order: one for each row and column.
use Rattle.nef_statement.proofs.text.existence.Prelude.{◌≡◌, ℕ, zero, suc, ◌<◌, refl, sym, ◌∙◌, ◌⊎◌, inl, inr, List, ◌∷◌, ◌++◌, subst, [], Lies, each, lies-each, lies-left, lies-right, lies-append, IsAt, InOrder, Mapped, map-list, Sorted, sort, chain-order, lies-at, at-lies, is-at_none, is-at_first}
use Rattle.nef_statement.proofs.text.existence.Classes.{numbers-to, in-numbers, number-in}
use Rattle.nef_statement.proofs.text.existence.Numbering.{PairBelow, pair-trans, pair-either}
use Rattle.nef_statement.proofs.text.existence.Planes.{lies-image}

-- ---- all pairs of a row and a column
abbrev shifted : ℕ × ℕ → ℕ × ℕ
shifted p = (suc p.0, p.1)

pairs-of : {V : Type 0} → (V → ℕ) → List V → List (ℕ × ℕ)
pairs-of count [] = []
pairs-of count (v ∷ vs) = each (λ k. (0, k)) (numbers-to (count v)) ++ each shifted (pairs-of count vs)

pairs-have : {V : Type 0} (count : V → ℕ) (vs : List V) (i k : ℕ) (v : V) → IsAt vs i v → k < count v → Lies (pairs-of count vs) (i, k)
unfolding pairs-of
pairs-have count [] i k v a l = absurd (is-at_none a)
pairs-have {V} count (w ∷ vs) zero k v a l =
    lies-left (each (λ j. (0, j)) (numbers-to (count w))) (each shifted (pairs-of count vs)) (0, k) (lies-each (λ j. (0, j)) (numbers-to (count w)) k (in-numbers (count w) k (subst (λ (u : V). k < count u) (sym (is-at_first a)) l)))
pairs-have count (w ∷ vs) (suc i) k v a l = lies-right (each (λ j. (0, j)) (numbers-to (count w))) (each shifted (pairs-of count vs)) (suc i, k) (lies-each shifted (pairs-of count vs) (i, k) (pairs-have count vs i k v a l))

pairs-sound : {V : Type 0} (count : V → ℕ) (vs : List V) (p : ℕ × ℕ) → Lies (pairs-of count vs) p → (v : V) × IsAt vs p.0 v × (p.1 < count v)
unfolding pairs-of
pairs-sound count [] p l = absurd l
pairs-sound {V} count (w ∷ vs) p l = by (lies-append (each (λ k. (0, k)) (numbers-to (count w))) (each shifted (pairs-of count vs)) p l) (λ q m. pairs-sound count vs q m)
  where
    by : Lies (each (λ k. (0, k)) (numbers-to (count w))) p ⊎ Lies (each shifted (pairs-of count vs)) p → ((q : ℕ × ℕ) → Lies (pairs-of count vs) q → (v : V) × IsAt vs q.0 v × (q.1 < count v)) → (v : V) × IsAt (w ∷ vs) p.0 v × (p.1 < count v)
    by (inl m) rest =
        let r = lies-image (λ k. (0, k)) (numbers-to (count w)) p m in
        subst (λ (q : ℕ × ℕ). (v : V) × IsAt (w ∷ vs) q.0 v × (q.1 < count v)) r.2 (w, refl, number-in (count w) r.0 r.1)
    by (inr m) rest =
        let r = lies-image shifted (pairs-of count vs) p m in
        let s = rest r.0 r.1 in
        subst (λ (q : ℕ × ℕ). (v : V) × IsAt (w ∷ vs) q.0 v × (q.1 < count v)) r.2 (s.0, s.1, s.2)

-- ---- an element for each
module _ {X V : Type 0} (row col : X → ℕ) (vs : List V) (count : V → ℕ) (make : (i k : ℕ) (v : V) → IsAt vs i v → k < count v → (x : X) × (row x ≡ i) × (col x ≡ k)) where
  pub record Elements : Type 0 where
    pub list : List X
    pub ordered : InOrder (λ x y. PairBelow (row x) (col x) (row y) (col y)) list
    pub complete : (i k : ℕ) (v : V) → IsAt vs i v → k < count v → (p : ℕ) × (x : X) × IsAt list p x × (row x ≡ i) × (col x ≡ k)

  abbrev Below : ℕ × ℕ → ℕ × ℕ → Type 0
  Below p q = PairBelow p.0 p.1 q.0 q.1

  abbrev Same : ℕ × ℕ → ℕ × ℕ → Type 0
  Same p q = (p.0 ≡ q.0) × (p.1 ≡ q.1)

  pub elements : Elements
  elements = by (sort Below Same (λ p q r. pair-trans p.0 p.1 q.0 q.1 r.0 r.1) (λ p. (refl, refl)) (λ p q. pair-either p.0 p.1 q.0 q.1) (pairs-of count vs))
    where
      by : Sorted Below Same (pairs-of count vs) → Elements
      by r = then (map-list r.list (λ n p x. (row x ≡ p.0) × (col x ≡ p.1)) (λ n p a. made p (at-lies r.list n p a)))
        where
          made : (p : ℕ × ℕ) → Lies r.list p → (x : X) × ((row x ≡ p.0) × (col x ≡ p.1))
          made p l = let s = pairs-sound count vs p (r.sound p l) in let x = make p.0 p.1 s.0 s.1 s.2 in (x.0, (x.1, x.2))

          then : Mapped r.list (λ n p x. (row x ≡ p.0) × (col x ≡ p.1)) → Elements
          then m = record {
            list = m.list;
            ordered = λ i j x y l a b.
                let p = m.sound i x a in
                let q = m.sound j y b in
                moved (row x) p.0.0 (col x) p.0.1 (row y) q.0.0 (col y) q.0.1 p.2.0 p.2.1 q.2.0 q.2.1 (chain-order Below Same r.list r.chain i j p.0 q.0 l p.1 q.1);
            complete = λ i k v a l.
                let q = r.all (i, k) (pairs-have count vs i k v a l) in
                let n = lies-at r.list q.0 q.1 in
                let x = m.all n.0 q.0 n.1 in
                (n.0, x.0, x.1, x.2.0 ∙ sym q.2.0, x.2.1 ∙ sym q.2.1);
          }
            where
              moved : (a a' b b' c c' d d' : ℕ) → a ≡ a' → b ≡ b' → c ≡ c' → d ≡ d' → PairBelow a' b' c' d' → PairBelow a b c d
              moved a a' b b' c c' d d' e f g h o =
                  subst (λ n. PairBelow n b c d) (sym e) (subst (λ n. PairBelow a' n c d) (sym f) (subst (λ n. PairBelow a' b' n d) (sym g) (subst (λ n. PairBelow a' b' c' n) (sym h) o)))
