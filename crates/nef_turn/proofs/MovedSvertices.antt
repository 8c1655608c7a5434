-- Turned svertices, sorted, and their new numbers.
use Rattle.nef_turn.proofs.Prelude.{◌≡◌, ℕ, ◌+◌, ◌<◌, ◌≤◌, List, length, map, get_or, set, arith, ap, sym, ◌∙◌, subst, ⊎_elim, length-set, eq-or-lt_of_le, length-map, get_or-set_same, get_or-set_other, length_permutation, IsPermutation, vector_of, IsAt, MapVertex, Shaped, InOrder, is-at_one, is-at_map, map-is_at, svertex_of, map_of, SVertex, SphereMap, is-at_within, is-at_is, same-dirs, is-at_read, was-listed, still-listed, turned_vector, turned_svertex, image-number, Moved, AreImages, AreApart, IsMoved, IsMovedBelow, HaveSameWay, HaveSameNumber, AreMoved, AreOldNumbers, AreNewNumbers, svertex_in, IsOfMoved, Renumbers, number_in}
use Rattle.nef_turn.proofs.Images.{images-all}
use Rattle.nef_turn.proofs.Orders.{moved-apart}

way-of : (k : ℕ) (u : Moved) (v : SVertex) → svertex_of u.svertex ≡ turned_svertex k (svertex_of v) → vector_of u.svertex.dir ≡ turned_vector k (vector_of v.dir)
way-of k u v e = ap (λ (r : MapVertex). r.dir) e

-- ---- in order
module _ (k : ℕ) (m : SphereMap) (V : Shaped (map_of m)) (us : List Moved) (I : AreImages (IsMoved k) (length m.svertices) m.svertices us) where
  pub images-apart : AreApart HaveSameWay us
  images-apart i j u w a b e =
      let (v, c, (p, q)) = I.each i u a in
      let (x, d, (r, s)) = I.each j w b in
      image-number k (map_of m) V i j (svertex_of v) (svertex_of x) (map-is_at svertex_of m.svertices i v c) (map-is_at svertex_of m.svertices j x d)
      (sym (way-of k u v q) ∙ ap vector_of e ∙ way-of k w x s)

  module _ (ts : List Moved) (moved : IsPermutation us ts) where
    from : (j : ℕ) (u : Moved) → IsAt ts j u → (v : SVertex) × IsAt m.svertices u.old v × (svertex_of u.svertex ≡ turned_svertex k (svertex_of v))
    from j u a =
        let (i, b) = was-listed us ts moved j u a in
        let (v, c, (p, q)) = I.each i u b in
        (v, subst (λ (n : ℕ). IsAt m.svertices n v) (sym p) c, q)

    pub moved-sorted : InOrder IsMovedBelow ts → AreMoved k m.svertices ts
    moved-sorted o = record {
      count = length_permutation us ts moved ∙ I.count;
      each = from;
      all = λ i v a.
          let (u, b, (p, q)) = images-all (IsMoved k) m.svertices us I i v a in
          let (j, c) = still-listed us ts moved i u b in
          (j, u, c, p);
      apart = λ i j u w a b e.
          let (v, c, q) = from i u a in
          let (x, d, s) = from j w b in
          let one = is-at_one m.svertices w.old v x (subst (λ (n : ℕ). IsAt m.svertices n v) e c) d in
          moved-apart us ts moved images-apart i j u w a b
          (same-dirs u.svertex.dir w.svertex.dir (way-of k u v q ∙ ap (λ (y : SVertex). turned_vector k (vector_of y.dir)) one ∙ sym (way-of k w x s)));
      ordered = o;
    }

-- ---- without their old numbers
pub images-mapped : (us : List Moved) (ws : List SVertex) → ws ≡ map svertex_in us → AreImages IsOfMoved (length us) us ws
images-mapped us ws e = subst (AreImages IsOfMoved (length us) us) (sym e) (record {
  count = let f = length-map us svertex_in in omega (arith, f);
  each = λ j v a. let (u, b, f) = is-at_map svertex_in us j v a in (u, b, sym f);
})

-- ---- new numbers
pub numbers-none : (us : List Moved) (ns : List ℕ) → AreNewNumbers 0 us ns
numbers-none us ns j u l a = absurd (omega (arith, l))

pub numbers-step : (us : List Moved) (ns : List ℕ) (n : ℕ) (w : Moved) → length ns ≡ length us → AreOldNumbers us → AreApart HaveSameNumber us → n < length us → w ≡ get_or us n w → AreNewNumbers n us ns
    → AreNewNumbers (n + 1) us (set ns w.old n)
numbers-step us ns n w count within apart l e N j u m a =
    let here = is-at_read us n w l e in
    let inside : w.old < length ns = (let h = within n w here in omega (arith, h, count)) in
    ⊎_elim
    (λ o.
    let same : u ≡ w = is-at_one us n u w (subst (λ (i : ℕ). IsAt us i u) o a) here in
    subst (λ (x : Moved). IsAt (set ns w.old n) x.old j) (sym same)
    (is-at_read (set ns w.old n) w.old j (let s = length-set ns w.old n in omega (arith, inside, s)) (sym (get_or-set_same ns w.old n j inside ∙ sym o))))
    (λ o.
    let other = N j u o a in
    let differ : u.old ≡ w.old → ⊥ = λ f. let q = apart j n u w a here f in omega (arith, q, o) in
    is-at_read (set ns w.old n) u.old j (let s = length-set ns w.old n in let h = is-at_within ns u.old j other in omega (arith, h, s)) (sym (get_or-set_other ns w.old u.old n j differ ∙ is-at_is ns u.old j j other)))
    (eq-or-lt_of_le {n = j} {m = n} (omega (arith, m)))

pub numbers-end : (us : List Moved) (ns : List ℕ) (n : ℕ) → length us ≤ n → AreNewNumbers n us ns → AreNewNumbers (length us) us ns
numbers-end us ns n l N j u m a = N j u (omega (arith, l, m)) a

module _ (k : ℕ) (vs : List SVertex) (us : List Moved) (ns : List ℕ) (M : AreMoved k vs us) where
  pub moved-within : AreOldNumbers us
  moved-within j u a = let (v, b, q) = M.each j u a in let l = is-at_within vs u.old v b in let c = M.count in omega (arith, l, c)

  module _ (N : AreNewNumbers (length us) us ns) where
    pub number-is : (j : ℕ) (u : Moved) → IsAt us j u → number_in ns u.old ≡ j
    number-is j u a = is-at_is ns u.old j 0 (N j u (is-at_within us j u a) a)

    module _ (ws : List SVertex) (I : AreImages IsOfMoved (length us) us ws) where
      pub placed : (i : ℕ) (v : SVertex) → IsAt vs i v → (y : SVertex) × IsAt ws (number_in ns i) y × (svertex_of y ≡ turned_svertex k (svertex_of v))
      placed i v a =
          let (j, u, b, e) = M.all i v a in
          let (x, c, q) = M.each j u b in
          let (y, d, f) = images-all IsOfMoved us ws I j u b in
          let one = is-at_one vs i x v (subst (λ (n : ℕ). IsAt vs n x) e c) a in
          let n : number_in ns i ≡ j = ap (number_in ns) (sym e) ∙ number-is j u b in
          (y, subst (λ (h : ℕ). IsAt ws h y) (sym n) d, ap svertex_of f ∙ q ∙ ap (λ (r : SVertex). turned_svertex k (svertex_of r)) one)

      pub renumbers : length ns ≡ length us → Renumbers k vs ns
      renumbers c = record { count = c ∙ M.count; svertices = ws; placed = placed }
