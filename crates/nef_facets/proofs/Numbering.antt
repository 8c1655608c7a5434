-- Numbers of classes of ties between items are facet numbers.
use Rattle.nef_facets.proofs.Prelude.{◌≡◌, ℕ, ◌+◌, List, ◌++◌, length, map, sym, ◌∙◌, inl, inr, ⊎_elim, ◌⊎◌, ◌↔◌, subst, Result, Ok, Err, length-map, IfOk, IsAt, Chained, chain-link, chain-map, is-at_left, map-is_at, Complex, LinkAlong, LinkAcross, FacetLink, count_items, FacetNumbers, Cell, Tie, AreTiedWithin, AreTied, HasCounts, AreNumbers, cell_of}
use Rattle.law_geometry.specs.complex.Complexes.{Corner}
use Rattle.nef_space.proofs.Lists.{is-at_parts, is-at_right}

abbrev corner_of_cell : Cell → Corner
corner_of_cell x = record { vertex = x.row; item = x.column }

-- ---- ties of both kinds
pub both-within : (counts : List ℕ) (as' bs ts : List Tie) → ts ≡ as' ++ bs → AreTiedWithin counts as' → AreTiedWithin counts bs → AreTiedWithin counts ts
both-within counts as' bs ts e f g k t a = ⊎_elim (λ b. f k t b) (λ b. g b.0 t b.2) (is-at_parts as' bs k t (subst (λ (r : List Tie). IsAt r k t) e a))

module _ (as' bs ts : List Tie) (e : ts ≡ as' ++ bs) (x y : Cell) where
  tied-parts : AreTied ts x y → AreTied as' x y ⊎ AreTied bs x y
  tied-parts (k, t, a, f, g) = ⊎_elim (λ b. inl (k, t, b, f, g)) (λ b. inr (b.0, t, b.2, f, g)) (is-at_parts as' bs k t (subst (λ (r : List Tie). IsAt r k t) e a))

  first-tied : AreTied as' x y → AreTied ts x y
  first-tied (k, t, a, f, g) = (k, t, subst (λ (r : List Tie). IsAt r k t) (sym e) (is-at_left as' bs k t a), f, g)

  second-tied : AreTied bs x y → AreTied ts x y
  second-tied (k, t, a, f, g) = (length as' + k, t, subst (λ (r : List Tie). IsAt r (length as' + k) t) (sym e) (is-at_right as' bs k t a), f, g)

pub both-links : (C : Complex) (as' bs ts : List Tie) → ts ≡ as' ++ bs
    → ((j k : Corner) → AreTied as' (cell_of j) (cell_of k) ↔ LinkAlong C j k) → ((j k : Corner) → AreTied bs (cell_of j) (cell_of k) ↔ LinkAcross C j k)
    → (j k : Corner) → AreTied ts (cell_of j) (cell_of k) ↔ FacetLink C j k
both-links C as' bs ts e f g j k = (
  λ t. ⊎_elim (λ a. inl ((f j k).0 a)) (λ b. inr ((g j k).0 b)) (tied-parts as' bs ts e (cell_of j) (cell_of k) t),
  λ l. ⊎_elim (λ a. first-tied as' bs ts e (cell_of j) (cell_of k) ((f j k).1 a)) (λ b. second-tied as' bs ts e (cell_of j) (cell_of k) ((g j k).1 b)) l,
)

-- ---- classes of ties are classes of links
module _ (C : Complex) (ts : List Tie) (links : (j k : Corner) → AreTied ts (cell_of j) (cell_of k) ↔ FacetLink C j k) where
  chained : (j k : Corner) → Chained (AreTied ts) (cell_of j) (cell_of k) ↔ Chained (FacetLink C) j k
  chained j k = (
    λ c. chain-map (AreTied ts) (FacetLink C) corner_of_cell (λ x y t. chain-link (FacetLink C) (corner_of_cell x) (corner_of_cell y) ((links (corner_of_cell x) (corner_of_cell y)).0 t)) (cell_of j) (cell_of k) c,
    λ c. chain-map (FacetLink C) (AreTied ts) cell_of (λ x y l. chain-link (AreTied ts) (cell_of x) (cell_of y) ((links x y).1 l)) j k c,
  )

  pub facet-numbers : (rows : List (List ℕ)) → HasCounts (map count_items C.vertices) rows → AreNumbers ts rows → FacetNumbers C rows
  facet-numbers rows H N = record {
    shape = record {
      as_many = H.as_many ∙ length-map C.vertices count_items;
      row = λ i v ns a b. H.row i (count_items v) ns (map-is_at count_items C.vertices i v a) b;
    };
    numbered = record {
      by_class = λ j k m n a b.
          let e = N.by_class (cell_of j) (cell_of k) m n a b in
          let c = chained j k in
          (λ s. c.0 (e.0 s), λ s. e.1 (c.1 s));
      by_appearance = λ k m n a l h. let r = N.by_appearance (cell_of k) m n a l h in (corner_of_cell r.0, r.1, r.2);
    };
  }

  pub numbers-ok : {E : Type 0} (r : Result (List (List ℕ)) E) → IfOk r (HasCounts (map count_items C.vertices)) → IfOk r (AreNumbers ts) → IfOk r (FacetNumbers C)
  numbers-ok (Ok rows) H N = facet-numbers rows H N
  numbers-ok (Err e) H N = H
