-- The ties between sides of one sface.
use Rattle.nef_volumes.proofs.Prelude.{◌≡◌, ◌≢◌, ℕ, zero, suc, ◌+◌, ◌<◌, ◌==◌, true, false, ◌⊎◌, inl, inr, ⊎_elim, arith, refl, ap, sym, ◌∙◌, subst, List, [], ◌∷◌, ◌++◌, length, length-append, take, Some, cases_order, eqb_tells, length-take, Contains, IsAt, IsChain, Chained, Vector, Label, Map, Side, HasSide, Sees, InOneSface, here, link, LabelledSide, sides_of, IsSide, SideSees, SeeOneWay, AreSfaces, side_number, side-has, side-number, number-one, Either, earlier, last, is-at_pushed, is-at_one, is-at_within, is-at_some, is-at_take, chain-here, chain-link, chain-trans, chain-turned, Vertex, Complex, VertexSide, AreTied, Cell, Tie, LinkInSface, Adds, Any, side_cell, IsCellOf, AreTiedSides, AreTiesOf, tie_within, IsFirstNumber, IsTieNumbered, AreInOneSface, IsTieInSface, AddsInSfaces, adds-one, adds-none}
use Rattle.nef_classes.proofs.Cutting.{take-at}
use Rattle.nef_volumes.proofs.SideCells.{tie-chain, more-tied, cell-is, cell-numbered}
use Rattle.nef_space.proofs.Elementary.{less-or-last}

-- ---- chains of numbers and of sides
module _ (M : Map) where
  numbered-one : (s : ℕ) (o p : Side) (k l : Label) → IsSide M s o k → IsSide M s p l → o ≡ p
  numbered-one s o p k l g h = ap (λ (q : LabelledSide). q.0) (is-at_one (sides_of M) s (o, k) (p, l) g h)

  -- the side with the number sees what the number sees
  sees-by : (s : ℕ) (o : Side) (k : Label) (d : Vector) → IsSide M s o k → SideSees M s d → Sees M o d
  sees-by s o k d g (p, l, h, v) = subst (λ (q : Side). Sees M q d) (numbered-one s p o l k h g) v

  -- a number that sees something is that of a side
  side-at : (s : ℕ) (d : Vector) → SideSees M s d → (o : Side) × (k : Label) × IsSide M s o k
  side-at s d (o, k, g, v) = (o, k, g)

  one-step : (r s : ℕ) → SeeOneWay M r s ⊎ SeeOneWay M s r → SeeOneWay M r s
  one-step r s (inl w) = w
  one-step r s (inr (d, a, b)) = (d, b, a)

  pub sface-from_numbers : (us : List ℕ) (r s : ℕ) (o p : Side) (k l : Label) → IsSide M r o k → IsSide M s p l → IsChain (SeeOneWay M) r us s → InOneSface M o p
  sface-from_numbers [] r s o p k l g h e = subst (λ (q : Side). InOneSface M o q) (numbered-one s o p k l (subst (λ (n : ℕ). IsSide M n o k) e g) h) (here o)
  sface-from_numbers (u ∷ us) r s o p k l g h (w, c) =
      let (d, a, b) = one-step r u w in
      let t = side-at u d b in
      link o t.0 p t.1 (side-has M u t.0 t.1 t.2) (d, sees-by r o k d g a, sees-by u t.0 t.1 d t.2 b) (sface-from_numbers us u s t.0 p t.1 l t.2 h c)

  pub numbers-from_sface : (o p : Side) (k l : Label) → HasSide M o k → HasSide M p l → InOneSface M o p → Chained (SeeOneWay M) (side_number M o) (side_number M p)
  numbers-from_sface o p k l g h (here _) = chain-here (SeeOneWay M) (side_number M o)
  numbers-from_sface o p k l g h (link _ q _ m i (d, a, b) c) =
      chain-trans (SeeOneWay M) (side_number M o) (side_number M q) (side_number M p)
      (chain-link (SeeOneWay M) (side_number M o) (side_number M q) (d, (o, k, side-number M o k g, a), (q, m, side-number M q m i, b)))
      (numbers-from_sface q p m l i h c)

-- the ties of the first n vertices' sfaces
pub record AreTiedBelow (C : Complex) (n : ℕ) (ts : List Tie) : Type 0 where
  pub only : (t : Tie) → Contains ts t → Any (IsTieInSface C) t
  pub tied : (i r s : ℕ) → i < n → AreInOneSface C i r s → Chained (AreTied ts) (side_cell i r) (side_cell i s)

pub below-none : (C : Complex) (ts : List Tie) → ts ≡ [] → AreTiedBelow C 0 ts
below-none C ts e = record {
  only = λ t c. let h = subst (λ (us : List Tie). Contains us t) e c in absurd (let l = h.1 in omega (arith, l));
  tied = λ i r s l. absurd (omega (arith, l));
}

pub below-more : (C : Complex) (n : ℕ) (ts us : List Tie) → AreTiedBelow C n ts → AddsInSfaces C n ts us → AreTiedBelow C (n + 1) us
below-more C n ts us B A = record {
  only = λ t c. ⊎_elim (λ h. B.only t h) (λ h. (n, h)) (A.added t c);
  tied = λ i r s l h. ⊎_elim
      (λ m. more-tied ts us A.kept (side_cell i r) (side_cell i s) (B.tied i r s m h))
      (λ e. subst (λ (k : ℕ). Chained (AreTied us) (side_cell k r) (side_cell k s)) (sym e) (A.tied r s (subst (λ (k : ℕ). AreInOneSface C k r s) e h)))
      (less-or-last i n l);
}

module _ (C : Complex) (n : ℕ) (ts : List Tie) (B : AreTiedBelow C n ts) (whole : (i : ℕ) (v : Vertex) → IsAt C.vertices i v → i < n) where
  only : (t : Tie) → Contains ts t → (x : VertexSide) × (y : VertexSide) × IsCellOf C x t.first × IsCellOf C y t.second × LinkInSface C x y
  only t c =
      let (i, (r, s, (v, a, l, m, ch), e)) = B.only t c in
      let g = is-at_some (sides_of v.map) r l in
      let h = is-at_some (sides_of v.map) s m in
      let o = (g.0).0 in let k = (g.0).1 in let p = (h.0).0 in let q = (h.0).1 in
      let ho = side-has v.map r o k g.1 in
      let hp = side-has v.map s p q h.1 in
      let x : VertexSide = record { vertex = i; side = o } in
      let y : VertexSide = record { vertex = i; side = p } in (
        x,
        y,
        subst (IsCellOf C x) (sym (ap (λ (u : Tie). u.first) e)) (cell-numbered C i r v o k a ho (number-one v.map r o k g.1)),
        subst (IsCellOf C y) (sym (ap (λ (u : Tie). u.second) e)) (cell-numbered C i s v p q a hp (number-one v.map s p q h.1)),
        record {
          vertex = v;
          is_vertex = a;
          one_vertex = refl;
          one = k;
          other = q;
          has = ho;
          has_other = hp;
          one_sface = sface-from_numbers v.map ch.0 r s o p k q g.1 h.1 ch.1;
        },
      )

  within : (M : Map) (o : Side) (k : Label) → HasSide M o k → side_number M o < length (sides_of M)
  within M o k h = is-at_within (sides_of M) (side_number M o) (o, k) (side-number M o k h)

  all : (x y : VertexSide) → LinkInSface C x y → AreTiedSides C ts x y
  all x y L =
      let v = L.vertex in
      let M = v.map in
      let r = side_number M x.side in
      let s = side_number M y.side in
      let c = numbers-from_sface M x.side y.side L.one L.other L.has L.has_other L.one_sface in
      let e = L.one_vertex in
      let b = subst (λ (k : ℕ). IsAt C.vertices k v) (sym e) L.is_vertex in
      let d = B.tied x.vertex r s (whole x.vertex v L.is_vertex) (v, L.is_vertex, within M x.side L.one L.has, within M y.side L.other L.has_other, c) in (
        side_cell x.vertex r,
        side_cell y.vertex s,
        cell-is C x v L.one L.is_vertex L.has,
        cell-is C y v L.other b L.has_other,
        subst (λ (k : ℕ). Chained (AreTied ts) (side_cell x.vertex r) (side_cell k s)) (sym e) d,
      )

  -- THE SIDES OF EACH SFACE ARE TIED
  pub sface-tied : AreTiesOf C (LinkInSface C) ts
  sface-tied = record { only = only; all = all }

-- ---- first places
first-one : (ns : List ℕ) (n r k : ℕ) → IsFirstNumber ns n r → IsFirstNumber ns n k → r ≡ k
first-one ns n r k f g = by (cases_order r k)
  where
    by : (r ≡ k) ⊎ ((r < k) ⊎ (k < r)) → r ≡ k
    by (inl e) = e
    by (inr (inl l)) = absurd (g.1 r l f.0)
    by (inr (inr l)) = absurd (f.1 k l g.0)

first-place : (ns : List ℕ) (n k : ℕ) → IsAt ns k n → (r : ℕ) × IsFirstNumber ns n r
first-place [] n k a = cc
first-place (m ∷ ns) n zero a = (zero, (a, λ j l. absurd (omega (arith, l))))
first-place (m ∷ ns) n (suc k) a = by (eqb_tells m n) (first-place ns n k a)
  where
    later : (r : ℕ) → IsFirstNumber ns n r → m ≢ n → (j : ℕ) → j < suc r → IsAt (m ∷ ns) j n → ⊥
    later r f d zero l b = d (is-at_one (m ∷ ns) zero m n refl b)
    later r f d (suc j) l b = f.1 j (omega (arith, l)) b

    by : ((m == n ≡ true) × (m ≡ n)) ⊎ ((m == n ≡ false) × (m ≢ n)) → (r : ℕ) × IsFirstNumber ns n r → (r : ℕ) × IsFirstNumber (m ∷ ns) n r
    by (inl h) f = (zero, (ap Some h.1, λ j l. absurd (omega (arith, l))))
    by (inr h) f = (suc f.0, (f.1.0, later f.0 f.1 h.1))

-- a first place before s, found among the first s
first-taken : (ns : List ℕ) (s n r : ℕ) → IsFirstNumber (take s ns) n r → (r < s) × IsFirstNumber ns n r
first-taken ns s n r f =
    let w = is-at_within (take s ns) r n f.0 in
    let l = length-take s ns in
    let h : r < s = omega (arith, w, l) in
    (h, (is-at_take s ns r n f.0, λ k m a. f.1 k m (take-at s ns k n (omega (arith, h, m)) a)))

-- ---- the ties of a side
module _ (i s : ℕ) (ns : List ℕ) (n : ℕ) (at_s : IsAt ns s n) (ts : List Tie) where
  pub numbered-added : (r : ℕ) → IsFirstNumber (take s ns) n r → (a b : Cell) → a ≡ side_cell i r → b ≡ side_cell i s
      → Adds (Any (IsTieNumbered i ns s)) ts (ts ++ record { first = a; second = b } ∷ [])
  numbered-added r f a b e g =
      let t : Tie = record { first = a; second = b } in
      let is : t ≡ tie_within i r s = cc in
      let h = first-taken ns s n r f in
      adds-one (Any (IsTieNumbered i ns s)) ts t (r, (h.0, n, h.1, at_s, is)) (λ y (k, (l, m, p, q, w)).
      let one = first-one ns n r k h.1 (subst (λ (x : ℕ). IsFirstNumber ns x k) (is-at_one ns s m n q at_s) p) in
      is ∙ ap (λ (x : ℕ). tie_within i x s) one ∙ sym w)

  pub numbered-none : ((k : ℕ) → IsAt (take s ns) k n → ⊥) → Adds (Any (IsTieNumbered i ns s)) ts ts
  numbered-none none = adds-none (Any (IsTieNumbered i ns s)) ts (λ t (k, (l, m, p, q, w)).
      none k (take-at s ns k n l (subst (IsAt ns k) (is-at_one ns s m n q at_s) p.0)))

-- ---- the ties of a vertex: equal numbers are those of one sface
module _ (C : Complex) (i : ℕ) (u : Vertex) (e : IsAt C.vertices i u) (ns : List ℕ) (F : AreSfaces u.map ns)
    (xs ys : List Tie) (A : Adds (Any (λ s. Any (IsTieNumbered i ns s))) xs ys) where
  to-sface : (t : Tie) → Any (λ s. Any (IsTieNumbered i ns s)) t → IsTieInSface C i t
  to-sface t (s, (r, (l, n, f, h, w))) =
      let m = F.as_many in
      let p = is-at_within ns r n f.0 in
      let q = is-at_within ns s n h in
      (r, s, (u, e, omega (arith, m, p), omega (arith, m, q), (F.numbered.by_class r s n n f.0 h).0 refl), w)

  to-first : (n f k : ℕ) → IsFirstNumber ns n f → IsAt ns k n → Chained (AreTied ys) (side_cell i f) (side_cell i k)
  to-first n f k p a = by (cases_order f k)
    where
      by : (f ≡ k) ⊎ ((f < k) ⊎ (k < f)) → Chained (AreTied ys) (side_cell i f) (side_cell i k)
      by (inl o) = subst (λ (j : ℕ). Chained (AreTied ys) (side_cell i f) (side_cell i j)) o (chain-here (AreTied ys) (side_cell i f))
      by (inr (inl l)) = tie-chain ys (tie_within i f k) (side_cell i f) (side_cell i k) (A.all (tie_within i f k) (k, (f, (l, n, p, a, refl)))) refl refl
      by (inr (inr l)) = absurd (p.1 k l a)

  tied : (r s : ℕ) → AreInOneSface C i r s → Chained (AreTied ys) (side_cell i r) (side_cell i s)
  tied r s (v, a, l, m, ch) =
      let one = is-at_one C.vertices i v u a e in
      let many = F.as_many in
      let l' = subst (λ (x : Vertex). r < length (sides_of x.map)) one l in
      let m' = subst (λ (x : Vertex). s < length (sides_of x.map)) one m in
      let g = is-at_some ns r (omega (arith, many, l')) in
      let h = is-at_some ns s (omega (arith, many, m')) in
      let same = (F.numbered.by_class r s g.0 h.0 g.1 h.1).1 (subst (λ (x : Vertex). Chained (SeeOneWay x.map) r s) one ch) in
      let f = first-place ns g.0 r g.1 in
      chain-trans (AreTied ys) (side_cell i r) (side_cell i f.0) (side_cell i s)
      (chain-turned (AreTied ys) (side_cell i f.0) (side_cell i r) (to-first g.0 f.0 r f.1 g.1))
      (to-first g.0 f.0 s f.1 (subst (IsAt ns s) (sym same) h.1))

  pub numbered-sface : AddsInSfaces C i xs ys
  numbered-sface = record { kept = A.kept; added = λ t h. ⊎_elim (λ b. inl b) (λ b. inr (to-sface t b)) (A.added t h); tied = tied }

pub numbered-below : (i : ℕ) (ns : List ℕ) (s : ℕ) (t : Tie) → Any (IsTieNumbered i ns s) t → s < length ns
numbered-below i ns s t (r, (l, n, f, h, w)) = is-at_within ns s n h

-- ---- the numbers of the first n vertices' sides
pub record AreSfacesTo (C : Complex) (n : ℕ) (rows : List (List ℕ)) : Type 0 where
  pub as_many : length rows ≡ n
  pub row : (i : ℕ) (v : Vertex) (ns : List ℕ) → IsAt C.vertices i v → IsAt rows i ns → AreSfaces v.map ns

pub sfaces-more : (C : Complex) (n : ℕ) (rows : List (List ℕ)) (v : Vertex) (ns : List ℕ) → IsAt C.vertices n v → AreSfaces v.map ns → AreSfacesTo C n rows → AreSfacesTo C (n + 1) (rows ++ ns ∷ [])
sfaces-more C n rows v ns a F S = record {
  as_many = let e = S.as_many in let f = length-append rows (ns ∷ []) in omega (arith, e, f);
  row = λ i w ms b c. by i w ms b (is-at_pushed rows i ms ns c);
}
  where
    by : (i : ℕ) (w : Vertex) (ms : List ℕ) → IsAt C.vertices i w → Either rows i ms ns → AreSfaces w.map ms
    by i w ms b (earlier c) = S.row i w ms b c
    by i w ms b (last e f) =
        subst (λ (ks : List ℕ). AreSfaces w.map ks) (sym f)
        (subst (λ (u : Vertex). AreSfaces u.map ns) (is-at_one C.vertices n v w a (subst (λ (k : ℕ). IsAt C.vertices k w) (e ∙ S.as_many) b)) F)
