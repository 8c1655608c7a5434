-- The numbers that stand in two rows, by one way through both.
use Rattle.nef_index.proofs.Prelude.{◌≡◌, ℕ, ◌+◌, ◌<◌, ◌≤◌, List, [], ◌∷◌, ◌++◌, length, arith, sym, subst, ⊎_elim, cases_lt, IsAt, SpacePoint, form_of, point_of, Plane, is-at_one, is-at_some, is-at_within, Edge, Point, DoAllRise, HaveRows, AreCommon, AreCommonRows, AreNumbersWith, AreHolders, ArePointHolders, AreEdgeHolders, HaveEnds, HoldsBoth, HasEntry, DoRise}
use Rattle.nef_index.proofs.Numbered.{AreThinned, thinned-none, thinned-more, thinned-skip}
use Rattle.nef_space.proofs.Elementary.{less-or-last}

-- a number at the same place or later is no less
no-less : (ns : List ℕ) (i j k l : ℕ) → DoRise ns → i ≤ j → IsAt ns i k → IsAt ns j l → k ≤ l
no-less ns i j k l rise le a b = ⊎_elim (λ h. let m = rise i j k l h a b in omega arith)
    (λ h.
    let e : i ≡ j = omega arith in
    let f : k ≡ l = is-at_one ns j k l (subst (λ (n : ℕ). IsAt ns n k) e a) b in omega arith)
    (cases_lt i j)

rising-numbers : (ns : List ℕ) → DoRise ns → AreNumbersWith (HasEntry ns) ns
rising-numbers ns rise = record { each = λ i k a. (i, a); all = λ k e. e; ordered = rise }

-- the numbers are those of the first i of ms that stand in ns, and the first j of ns are below the rest of ms
abbrev pub AreCommonTo : List ℕ → List ℕ → ℕ → ℕ → List ℕ → Type 0
AreCommonTo ms ns i j common = AreThinned ms (HasEntry ns) i common × ((m k n l : ℕ) → m < j → IsAt ns m k → i ≤ n → IsAt ms n l → k < l)

module _ (ms ns : List ℕ) (rise : DoRise ms) (rises : DoRise ns) where
  pub common-none : AreCommonTo ms ns 0 0 []
  common-none = (thinned-none ms (HasEntry ns), λ m k n l h a le b. absurd (omega arith))

  module _ (i j a b : ℕ) (here : IsAt ms i a) (there : IsAt ns j b) (common : List ℕ) (I : AreCommonTo ms ns i j common) where
    -- the number of ms is below all that are left of ns
    pub common-first : a < b → AreCommonTo ms ns (i + 1) j common
    common-first less = (
      thinned-skip (HasEntry ms) (HasEntry ns) ms (rising-numbers ms rise) i a here common I.0
          (λ (m, x). ⊎_elim (λ h. let l = I.1 m a i a h x (omega arith) here in omega arith) (λ h. let l = no-less ns j m b a rises h there x in omega arith) (cases_lt m j)),
      λ m k n l h x le y. I.1 m k n l h x (omega arith) y,
    )

    -- what is left of ms is above the number of ns
    pub common-second : b < a → AreCommonTo ms ns i (j + 1) common
    common-second less = (
      I.0,
      λ m k n l h x le y. ⊎_elim (λ o. I.1 m k n l o x le y)
          (λ e.
          let f : k ≡ b = is-at_one ns j k b (subst (λ (q : ℕ). IsAt ns q k) e x) there in
          let g = no-less ms i n a l rise le here y in omega arith)
          (less-or-last m j h),
    )

    -- the number stands in both
    pub common-both : a ≡ b → AreCommonTo ms ns (i + 1) (j + 1) (common ++ a ∷ [])
    common-both same = (
      thinned-more (HasEntry ms) (HasEntry ns) ms (rising-numbers ms rise) i a here common I.0 (j, subst (IsAt ns j) (sym same) there),
      λ m k n l h x le y. ⊎_elim (λ o. I.1 m k n l o x (omega arith) y)
          (λ e.
          let f : k ≡ b = is-at_one ns j k b (subst (λ (q : ℕ). IsAt ns q k) e x) there in
          let g = rise i n a l (omega arith) here y in omega arith)
          (less-or-last m j h),
    )

  -- nothing is left of ms
  pub common-all-first : (i j : ℕ) (common : List ℕ) → length ms ≤ i → AreCommonTo ms ns i j common → AreCommon ms ns common
  common-all-first i j common le I = record {
    each = λ n k a. let o = I.0.each n k a in ((o.0.0, o.0.2), o.1);
    all = λ k (x, y). I.0.all k ((x.0, (let l = is-at_within ms x.0 k x.1 in omega arith), x.1), y);
    ordered = I.0.ordered;
  }

  -- or nothing of ns
  pub common-all-second : (i j : ℕ) (common : List ℕ) → length ns ≤ j → AreCommonTo ms ns i j common → AreCommon ms ns common
  common-all-second i j common le I = record {
    each = λ n k a. let o = I.0.each n k a in ((o.0.0, o.0.2), o.1);
    all = λ k (x, y). ⊎_elim (λ l. I.0.all k ((x.0, l, x.1), y)) (λ l. absurd (let m = I.1 y.0 k x.0 k (let w = is-at_within ns y.0 k y.1 in omega arith) y.1 l x.1 in omega arith)) (cases_lt x.0 i);
    ordered = I.0.ordered;
  }

-- carriers that stand in the rows of both points hold both, and no others do
common-holders : (hs : List Plane) (a b : SpacePoint) (ms ns common : List ℕ) → AreHolders hs a a ms → AreHolders hs b b ns → AreCommon ms ns common → AreHolders hs a b common
common-holders hs a b ms ns common M N C = record {
  each = λ i k x.
      let o = C.each i k x in
      let (g, p, q) = M.each o.0.0 k o.0.1 in
      let (h, r, s) = N.each o.1.0 k o.1.1 in
      (g, p, (q.0, (subst (λ (f : Plane). HoldsBoth (form_of f) b b) (is-at_one hs k h g r p) s).0));
  all = λ k (g, p, q). C.all k (M.all k (g, p, (q.0, q.0)), N.all k (g, p, (q.1, q.1)));
  ordered = C.ordered;
}

module _ (hs : List Plane) (ps : List Point) (rows : List (List ℕ)) (V : ArePointHolders hs ps rows) where
  pub holders-rise : DoAllRise rows
  holders-rise i ns a = let v = is-at_some ps i (let l = is-at_within rows i ns a in let e = V.as_many in omega arith) in (V.each i v.0 ns v.1 a).ordered

  pub ends-rows : (es : List Edge) → HaveEnds ps es → HaveRows rows es
  ends-rows es ends k e a = let l = ends k e a in let m = V.as_many in (omega (arith, l.0, m), omega (arith, l.1, m))

  row-of : (k : ℕ) (v : Point) → IsAt ps k v → (ns : List ℕ) × IsAt rows k ns
  row-of k v a = is-at_some rows k (let l = is-at_within ps k v a in let e = V.as_many in omega arith)

  pub edges-held : (es : List Edge) (commons : List (List ℕ)) → AreCommonRows rows es commons → AreEdgeHolders hs ps es commons
  edges-held es commons C = record {
    as_many = C.as_many;
    each = λ k e common a b u w l h.
        let m = row-of e.low u l in
        let n = row-of e.high w h in
        common-holders hs (point_of u) (point_of w) m.0 n.0 common (V.each e.low u m.0 l m.1) (V.each e.high w n.0 h n.1) (C.each k e common a b m.0 n.0 m.1 n.1);
  }
