-- The numbers of places are those of the table's elements.
use Rattle.nef_classes.proofs.Prelude.{◌≡◌, ℕ, ◌<◌, ⊎_elim, List, [], ◌∷◌, map, arith, refl, ap, sym, ◌∙◌, subst, ◌↔◌, Result, Ok, Err, IfOk, IsAt, IsChain, Chained, NumbersClasses, Link, AreLinked, AreClasses, AreNumbered, Cell, Tie, cell_total, IsCellIn, cell_number, AreTiedWithin, AreTied, HasCounts, IsCellNumber, AreNumbers, flat_tie, AreCut}
use Rattle.nef_space.proofs.Chains.{chain-here, chain-link, chain-trans, chain-turned, chain-map}
use Rattle.nef_space.proofs.Lists.{is-at_one, is-at_within, is-at_some, is-at_map, map-is_at}
use Rattle.nef_classes.proofs.ByAppearance.{numbers-classes}
use Rattle.nef_classes.proofs.Places.{same-cell, earlier-cell, cell-at}

module _ (counts : List ℕ) (ts : List Tie) (tied : AreTiedWithin counts ts) where
  abbrev links : List Link
  links = map (flat_tie counts) ts

  forth : (x y : Cell) → AreTied ts x y → Chained (AreLinked links) (cell_number counts x) (cell_number counts y)
  forth x y (k, t, a, e, f) = chain-link (AreLinked links) (cell_number counts x) (cell_number counts y) (k, flat_tie counts t, map-is_at (flat_tie counts) ts k t a, ap (cell_number counts) e, ap (cell_number counts) f)

  -- a link between places is a tie
  tie-of : (s t : ℕ) → AreLinked links s t → (x : Cell) × (y : Cell) × IsCellIn counts x × IsCellIn counts y × (cell_number counts x ≡ s) × (cell_number counts y ≡ t) × AreTied ts x y
  tie-of s t (k, l, a, e, f) =
      let r = is-at_map (flat_tie counts) ts k l a in
      let tie : Tie = r.0 in
      let w = tied k tie (r.1) in
      (tie.first, tie.second, w.0, w.1, ap (λ (l : Link). l.first) (r.2) ∙ e, ap (λ (l : Link). l.second) (r.2) ∙ f, (k, tie, r.1, refl, refl))

  back : (x z : Cell) → IsCellIn counts x → IsCellIn counts z → (us : List ℕ) → IsChain (AreLinked links) (cell_number counts x) us (cell_number counts z) → Chained (AreTied ts) x z
  back x z a b [] e = subst (λ (r : Cell). Chained (AreTied ts) x r) (same-cell counts x z a b e) (chain-here (AreTied ts) x)
  back x z a b (u ∷ us) (l, c) =
      ⊎_elim
      (λ h. let r = tie-of (cell_number counts x) u h in
      let p : Cell = r.0 in let q : Cell = r.1 in
      let e = same-cell counts x p a (r.2) (sym (r.4)) in
      chain-trans (AreTied ts) x q z (subst (λ (w : Cell). Chained (AreTied ts) w q) (sym e) (chain-link (AreTied ts) p q (r.6)))
      (back q z (r.3) b us (subst (λ (n : ℕ). IsChain (AreLinked links) n us (cell_number counts z)) (sym (r.5)) c)))
      (λ h. let r = tie-of u (cell_number counts x) h in
      let p : Cell = r.0 in let q : Cell = r.1 in
      let e = same-cell counts x q a (r.3) (sym (r.5)) in
      chain-trans (AreTied ts) x p z (subst (λ (w : Cell). Chained (AreTied ts) w p) (sym e) (chain-turned (AreTied ts) p q (chain-link (AreTied ts) p q (r.6))))
      (back p z (r.2) b us (subst (λ (n : ℕ). IsChain (AreLinked links) n us (cell_number counts z)) (sym (r.4)) c)))
      l

  chained : (x y : Cell) → IsCellIn counts x → IsCellIn counts y → Chained (AreLinked links) (cell_number counts x) (cell_number counts y) ↔ Chained (AreTied ts) x y
  chained x y a b = (λ c. back x y a b (c.0) (c.1), λ c. chain-map (AreTied ts) (AreLinked links) (cell_number counts) forth x y c)

  module _ (cs ns : List ℕ) (rows : List (List ℕ)) (classes : AreClasses (cell_total counts) links cs) (numbered : AreNumbered cs ns) (shape : HasCounts counts rows) (cut : AreCut counts ns rows) where
    flat : NumbersClasses (AreLinked links) (λ s t. s < t) 0 (λ s n. IsAt ns s n)
    flat = numbers-classes (AreLinked links) cs ns numbered classes.same

    -- an element with a number is one of the table
    in-table : (x : Cell) (n : ℕ) → IsCellNumber rows x n → IsCellIn counts x
    in-table x n (row, a, b) =
        let h = is-at_within rows x.row row a in
        let e = shape.as_many in
        let c = is-at_some counts x.row (omega arith) in
        let g = shape.row x.row (c.0) row (c.1) a in
        let i = is-at_within row x.column n b in
        record { count = c.0; is_row = c.1; within = omega arith }

    -- and each element of the table has a number
    has-number : (x : Cell) → IsCellIn counts x → (n : ℕ) × IsCellNumber rows x n
    has-number x a =
        let h = is-at_within counts x.row a.count a.is_row in
        let e = shape.as_many in
        let r = is-at_some rows x.row (omega arith) in
        let g = shape.row x.row a.count (r.0) a.is_row (r.1) in
        let w = a.within in
        let n = is-at_some (r.0) x.column (omega arith) in
        (n.0, (r.0, r.1, n.1))

    pub numbers : AreNumbers ts rows
    numbers = record {
      by_class = λ x y m n hx hy.
          let e = flat.by_class (cell_number counts x) (cell_number counts y) m n (cut x.row x.column m hx) (cut y.row y.column n hy) in
          let c = chained x y (in-table x m hx) (in-table y n hy) in
          (λ s. c.0 (e.0 s), λ s. e.1 (c.1 s));
      by_appearance = λ x m n hx low h.
          let r = flat.by_appearance (cell_number counts x) m n (cut x.row x.column n hx) low h in
          let t : ℕ = r.0 in
          let i = is-at_within ns t m (r.2) in
          let e = numbered.as_many in let f = classes.as_many in
          let y = cell-at counts t (omega arith) in
          let b = has-number (y.0) (y.1) in
          let v = cut (y.0).row (y.0).column (b.0) (b.1) in
          let same = is-at_one ns t (b.0) m (subst (λ (p : ℕ). IsAt ns p (b.0)) (y.2) v) (r.2) in
          (y.0, earlier-cell counts (y.0) x (y.1) (in-table x n hx) (subst (λ (p : ℕ). p < cell_number counts x) (sym (y.2)) (r.1)), subst (λ (p : ℕ). IsCellNumber rows (y.0) p) same (b.1));
    }

  pub numbers-ok : {E : Type 0} (cs ns : List ℕ) (r : Result (List (List ℕ)) E) → AreClasses (cell_total counts) links cs → AreNumbered cs ns → IfOk r (HasCounts counts) → IfOk r (AreCut counts ns) → IfOk r (AreNumbers ts)
  numbers-ok cs ns (Ok rows) classes numbered shape cut = numbers cs ns rows classes numbered shape cut
  numbers-ok cs ns (Err e) classes numbered shape cut = cut
