-- The classes that ties join, and further ties besides, by links between the numbers of the former.
use Rattle.nef_volumes.proofs.Prelude.{◌≡◌, ℕ, ◌<◌, ◌⊎◌, inl, inr, List, ◌++◌, arith, refl, ◌∙◌, subst, ◌↔◌, Result, Ok, Err, IfOk, Contains, Contains-append_left, Contains-append_right, Contains-append_cases, IsAt, Chained, NumbersClasses, AreLinked, LinksAreBelow, AreClasses, AreNumbered, IsCellIn, AreTiedWithin, AreTied, HasCounts, IsCellNumber, AreNumbers, Link, Cell, Tie, chain-here, chain-link, is-at_one, is-at_within, is-at_some, HasCellNumber, TableIsBelow, HaveNumbers, AreNumberLinks, AreRenumbered}
use Rattle.nef_classes.proofs.ByAppearance.{numbers-classes}
use Rattle.nef_volumes.proofs.Agree.{chains-agree}
use Rattle.nef_volumes.proofs.SideCells.{tie-chain, more-tied}
use Rattle.nef_smap.proofs.Lists.{at-contains, contains-at}

pub cell-one_number : (rows : List (List ℕ)) (x : Cell) (m n : ℕ) → IsCellNumber rows x m → IsCellNumber rows x n → m ≡ n
cell-one_number rows x m n (r, a, b) (t, c, d) = is-at_one t x.column m n (subst (λ (u : List ℕ). IsAt u x.column m) (is-at_one rows x.row r t a c) b) d

-- each element of the table has a number
pub cell-number_there : (counts : List ℕ) (rows : List (List ℕ)) → HasCounts counts rows → (x : Cell) → IsCellIn counts x → HasCellNumber rows x
cell-number_there counts rows H x I =
    let h = is-at_within counts x.row I.count I.is_row in
    let e = H.as_many in
    let r = is-at_some rows x.row (omega (arith, h, e)) in
    let f = H.row x.row I.count r.0 I.is_row r.1 in
    let w = I.within in
    let n = is-at_some r.0 x.column (omega (arith, w, f)) in
    (n.0, (r.0, r.1, n.1))

pub numbers-there : (counts : List ℕ) (rows : List (List ℕ)) (ts : List Tie) → HasCounts counts rows → AreTiedWithin counts ts → HaveNumbers rows ts
numbers-there counts rows ts H W k t a = let w = W k t a in (cell-number_there counts rows H t.first w.0, cell-number_there counts rows H t.second w.1)

-- links of numbers below a count
pub links-below : (rows : List (List ℕ)) (ts : List Tie) (ls : List Link) (count : ℕ) → AreNumberLinks rows ts ls → TableIsBelow rows count → LinksAreBelow count ls
links-below rows ts ls count L below k l a =
    let w = is-at_within ls k l a in
    let e = L.as_many in
    let t = is-at_some ts k (omega (arith, w, e)) in
    let r = L.each k l t.0 a t.1 in
    (below (t.0).first l.first r.0, below (t.0).second l.second r.1)

module _ (ns : List ℕ) (new rows : List (List ℕ)) (R : AreRenumbered ns new rows) where
  -- the old number of an element
  old-number : (x : Cell) (n : ℕ) → IsCellNumber new x n → (o : ℕ) × IsCellNumber rows x o × IsAt ns o n
  old-number x n (row, a, b) =
      let h = is-at_within new x.row row a in
      let e = R.as_many in
      let r = is-at_some rows x.row (omega (arith, h, e)) in
      let S = R.each x.row row r.0 a r.1 in
      let i = is-at_within row x.column n b in
      let f = S.as_many in
      let o = is-at_some r.0 x.column (omega (arith, i, f)) in
      (o.0, (r.0, r.1, o.1), S.each x.column n o.0 b o.1)

  -- and the new one
  new-number : (x : Cell) (o n : ℕ) → IsCellNumber rows x o → IsAt ns o n → IsCellNumber new x n
  new-number x o n (row, a, b) p =
      let h = is-at_within rows x.row row a in
      let e = R.as_many in
      let r = is-at_some new x.row (omega (arith, h, e)) in
      let S = R.each x.row r.0 row r.1 a in
      let i = is-at_within row x.column o b in
      let f = S.as_many in
      let m = is-at_some r.0 x.column (omega (arith, i, f)) in
      (r.0, r.1, subst (λ (k : ℕ). IsAt r.0 x.column k) (is-at_one ns o m.0 n (S.each x.column m.0 o m.1 b) p) m.1)

  pub joined-counts : (counts : List ℕ) → HasCounts counts rows → HasCounts counts new
  joined-counts counts H = record {
    as_many = R.as_many ∙ H.as_many;
    row = λ i n row a b.
        let h = is-at_within new i row b in
        let e = R.as_many in
        let r = is-at_some rows i (omega (arith, h, e)) in
        let S = R.each i row r.0 b r.1 in
        S.as_many ∙ H.row i n r.0 a r.1;
  }

  module _ (us : List Tie) (ls : List Link) (L : AreNumberLinks rows us ls) (cs : List ℕ) (count : ℕ) (K : AreClasses count ls cs) (M : AreNumbered cs ns)
      (counts : List ℕ) (ts : List Tie) (H : HasCounts counts rows) (W : AreTiedWithin counts ts) (N : AreNumbers ts rows) where
    abbrev whole : List Tie
    whole = ts ++ us

    -- ---- a chain of links between numbers leads along a chain of ties
    one-class : (n : ℕ) (y z : Cell) → IsCellNumber rows y n → IsCellNumber rows z n → Chained (AreTied whole) y z
    one-class n y z p q = more-tied ts whole (λ t c. Contains-append_left ts us t c) y z ((N.by_class y z n n p q).0 refl)

    along-link : (s t : ℕ) → AreLinked ls s t → (y : Cell) × (z : Cell) × IsCellNumber rows y s × IsCellNumber rows z t × Chained (AreTied whole) y z
    along-link s t (k, l, a, e, f) =
        let w = is-at_within ls k l a in
        let m = L.as_many in
        let u = is-at_some us k (omega (arith, w, m)) in
        let r = L.each k l u.0 a u.1 in
        let tie : Tie = u.0 in (
          tie.first,
          tie.second,
          subst (λ (n : ℕ). IsCellNumber rows tie.first n) e r.0,
          subst (λ (n : ℕ). IsCellNumber rows tie.second n) f r.1,
          tie-chain whole tie tie.first tie.second (Contains-append_right ts us tie (at-contains us k tie u.1)) refl refl,
        )

    -- ---- and the other way
    one-number : (y : Cell) (m n : ℕ) → IsCellNumber rows y m → IsCellNumber rows y n → Chained (AreLinked ls) m n
    one-number y m n p q = subst (λ (k : ℕ). Chained (AreLinked ls) m k) (cell-one_number rows y m n p q) (chain-here (AreLinked ls) m)

    along-tie : (y z : Cell) → AreTied whole y z → (m : ℕ) × (n : ℕ) × IsCellNumber rows y m × IsCellNumber rows z n × Chained (AreLinked ls) m n
    along-tie y z (k, t, a, e, f) = by (Contains-append_cases ts us t (at-contains whole k t a))
      where
        by : Contains ts t ⊎ Contains us t → (m : ℕ) × (n : ℕ) × IsCellNumber rows y m × IsCellNumber rows z n × Chained (AreLinked ls) m n
        by (inl c) =
            let i = contains-at ts t c in
            let w = W i.0 t i.1 in
            let p = cell-number_there counts rows H t.first w.0 in
            let q = cell-number_there counts rows H t.second w.1 in
            let g = (N.by_class t.first t.second p.0 q.0 p.1 q.1).1 (tie-chain ts t t.first t.second c refl refl) in
            (p.0, q.0, subst (λ (x : Cell). IsCellNumber rows x p.0) e p.1, subst (λ (x : Cell). IsCellNumber rows x q.0) f q.1, subst (λ (n : ℕ). Chained (AreLinked ls) p.0 n) g (chain-here (AreLinked ls) p.0))
        by (inr c) =
            let i = contains-at us t c in
            let w = is-at_within us i.0 t i.1 in
            let m = L.as_many in
            let l = is-at_some ls i.0 (omega (arith, w, m)) in
            let r = L.each i.0 l.0 t l.1 i.1 in
            let link : Link = l.0 in
            (link.first, link.second, subst (λ (x : Cell). IsCellNumber rows x link.first) e r.0, subst (λ (x : Cell). IsCellNumber rows x link.second) f r.1, chain-link (AreLinked ls) link.first link.second (i.0, link, l.1, refl, refl))

    chained : (m n : ℕ) (y z : Cell) → IsCellNumber rows y m → IsCellNumber rows z n → Chained (AreLinked ls) m n ↔ Chained (AreTied whole) y z
    chained m n y z p q = (
      λ c. chains-agree (AreLinked ls) (AreTied whole) (λ (k : ℕ) (x : Cell). IsCellNumber rows x k) one-class along-link m n y z c p q,
      λ c. chains-agree (AreTied whole) (AreLinked ls) (λ (x : Cell) (k : ℕ). IsCellNumber rows x k) one-number along-tie y z m n c p q,
    )

    flat : NumbersClasses (AreLinked ls) (λ s t. s < t) 0 (λ s n. IsAt ns s n)
    flat = numbers-classes (AreLinked ls) cs ns M K.same

    -- THE NEW NUMBERS ARE THOSE OF THE CLASSES OF ALL TIES
    pub joined-numbers : AreNumbers whole new
    joined-numbers = record {
      by_class = λ x y m n X Y.
          let p = old-number x m X in
          let q = old-number y n Y in
          let f = flat.by_class p.0 q.0 m n p.2 q.2 in
          let g = chained p.0 q.0 x y p.1 q.1 in
          (λ e. g.0 (f.0 e), λ c. f.1 (g.1 c));
      by_appearance = λ x m n X low h.
          let p = old-number x n X in
          let r = flat.by_appearance p.0 m n p.2 low h in
          let w = N.by_appearance x r.0 p.0 p.1 (omega arith) r.1 in
          (w.0, w.1, new-number w.0 r.0 m w.2 r.2);
    }

-- ---- of a result
pub joined-counts_ok : {E : Type 0} (ns : List ℕ) (rows : List (List ℕ)) (r : Result (List (List ℕ)) E) → IfOk r (λ new. AreRenumbered ns new rows) → IfOk r (λ new. (counts : List ℕ) → HasCounts counts rows → HasCounts counts new)
joined-counts_ok ns rows (Ok new) R = λ counts H. joined-counts ns new rows R counts H
joined-counts_ok ns rows (Err e) R = R

pub joined-numbers_ok : {E : Type 0} (ns : List ℕ) (rows : List (List ℕ)) (us : List Tie) (ls : List Link) → AreNumberLinks rows us ls → (cs : List ℕ) (count : ℕ) → AreClasses count ls cs → AreNumbered cs ns → (r : Result (List (List ℕ)) E)
    → IfOk r (λ new. AreRenumbered ns new rows) → IfOk r (λ new. (counts : List ℕ) (ts : List Tie) → HasCounts counts rows → AreTiedWithin counts ts → AreNumbers ts rows → AreNumbers (ts ++ us) new)
joined-numbers_ok ns rows us ls L cs count K M (Ok new) R = λ counts ts H W N. joined-numbers ns new rows R us ls L cs count K M counts ts H W N
joined-numbers_ok ns rows us ls L cs count K M (Err e) R = R
