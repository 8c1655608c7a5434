-- The labels of volumes: one for each number, that of all sides with the number.
use Rattle.nef_volumes.proofs.Prelude.{◌≡◌, ℕ, ◌+◌, ◌<◌, ◌≤◌, pos, ◌⊎◌, inl, inr, ⊎_elim, List, [], ◌∷◌, ◌++◌, length, length-append, arith, refl, sym, ◌∙◌, subst, cases_order, ints, IsAt, IsInTable, IsBelow, Set, Label, Out, Map, Side, sides_of, IsSide, side_number, side-has, side-number, is-at_one, is-at_within, is-at_some, is-at_left, is-at_last, Vertex, Complex, VertexSide, HasSideLabel, complex_of, ShowsSet, IsSideNumber, IsVolumeOf, VolumeNumbers, HasAppeared, AreLabelsTo, AreLabelsOf, AreVolumeLabels}
use Rattle.nef_complex.specs.declared.complex.Complex.{Complex as ProgramComplex}
use Rattle.nef_volumes.proofs.SideLabels.{upright, chain-label}
use Rattle.nef_volumes.proofs.OutsideSide.{out-side}
use Rattle.std.proofs.Math.Nat.{eq-zero-or-pos}
use Rattle.nef_volumes.proofs.RowNumbers.{side-number_one}
use Rattle.nef_space.proofs.Elementary.{less-or-last}

-- ---- along a row
module _ (M : Map) (row : List ℕ) (xs : List Label) where
  pub labels-start : AreLabelsTo M row xs 0 xs
  labels-start = record {
    long = omega arith;
    kept = λ k l a. a;
    some = λ k l a h. absurd (let w = is-at_within xs k l a in omega (arith, w, h));
    all = λ s m l a. absurd (omega (arith, l));
  }

  pub labels-more : (n m : ℕ) (ys : List Label) (o : Side) (l : Label) → AreLabelsTo M row xs n ys → IsAt row n m → m ≡ length ys → IsSide M n o l → AreLabelsTo M row xs (n + 1) (ys ++ l ∷ [])
  labels-more n m ys o l D a e g = record {
    long = let h = D.long in omega (arith, h, longer);
    kept = λ k j b. is-at_left ys (l ∷ []) k j (D.kept k j b);
    some = λ k j b h. by k j h (either-at k j b);
    all = λ s j h b. found s j b (less-or-last s n h);
  }
    where
      longer : length (ys ++ l ∷ []) ≡ length ys + 1
      longer = length-append ys (l ∷ [])

      either-at : (k : ℕ) (j : Label) → IsAt (ys ++ l ∷ []) k j → IsAt ys k j ⊎ ((k ≡ length ys) × (l ≡ j))
      either-at k j b = ⊎_elim
          (λ h. inl (let r = is-at_some ys k h in subst (λ (q : Label). IsAt ys k q) (is-at_one (ys ++ l ∷ []) k r.0 j (is-at_left ys (l ∷ []) k r.0 r.1) b) r.1))
          (λ h. inr (h, is-at_one (ys ++ l ∷ []) k l j (subst (λ (q : ℕ). IsAt (ys ++ l ∷ []) q l) (sym h) (is-at_last ys l)) b))
          (less-or-last k (length ys) (let w = is-at_within (ys ++ l ∷ []) k j b in omega (arith, w, longer)))

      by : (k : ℕ) (j : Label) → length xs ≤ k → IsAt ys k j ⊎ ((k ≡ length ys) × (l ≡ j)) → (s : ℕ) × (p : Side) × IsAt row s k × IsSide M s p j
      by k j h (inl b) = D.some k j b h
      by k j h (inr (f, i)) = (n, o, subst (λ (q : ℕ). IsAt row n q) (e ∙ sym f) a, subst (λ (q : Label). IsSide M n o q) i g)

      found : (s j : ℕ) → IsAt row s j → (s < n) ⊎ (s ≡ n) → j < length (ys ++ l ∷ [])
      found s j b (inl h) = let w = D.all s j h b in omega (arith, w, longer)
      found s j b (inr h) = let i = is-at_one row n j m (subst (λ (q : ℕ). IsAt row q j) h b) a in omega (arith, i, e, longer)

  pub labels-pass : (n m : ℕ) (ys : List Label) → HasAppeared (length xs) row → AreLabelsTo M row xs n ys → IsAt row n m → (m ≡ length ys → ⊥) → AreLabelsTo M row xs (n + 1) ys
  labels-pass n m ys P D a e = record {
    long = D.long;
    kept = D.kept;
    some = D.some;
    all = λ s j h b. found s j b (less-or-last s n h);
  }
    where
      below : (m ≡ length ys) ⊎ ((m < length ys) ⊎ (length ys < m)) → m < length ys
      below (inl h) = absurd (e h)
      below (inr (inl h)) = h
      below (inr (inr h)) = let r = P n m (length ys) a D.long h in let w = D.all r.0 (length ys) r.1 r.2 in absurd (omega (arith, w))

      found : (s j : ℕ) → IsAt row s j → (s < n) ⊎ (s ≡ n) → j < length ys
      found s j b (inl h) = D.all s j h b
      found s j b (inr h) = let i = is-at_one row n j m (subst (λ (q : ℕ). IsAt row q j) h b) a in let w = below (cases_order m (length ys)) in omega (arith, i, w)

  pub labels-all : (n : ℕ) (ys : List Label) → length row ≤ n → AreLabelsTo M row xs n ys → AreLabelsTo M row xs (length row) ys
  labels-all n ys h D = record { long = D.long; kept = D.kept; some = D.some; all = λ s m l a. D.all s m (omega (arith, l, h)) a }

-- ---- row after row

module _ (C : Complex) (rows : List (List ℕ)) (N : VolumeNumbers C rows) (n : ℕ) (v : Vertex) (a : IsAt C.vertices n v) (row : List ℕ) (e : IsAt rows n row) (ys : List Label) (D : AreLabelsOf C rows n ys) where
  pub as-long : length row ≡ length (sides_of v.map)
  as-long = let S = N.shape in S.row n v row a e

  -- the side with a number
  side-there : (s : ℕ) → s < length row → (o : Side) × (l : Label) × IsSide v.map s o l
  side-there s h = let r = is-at_some (sides_of v.map) s (let i = as-long in omega (arith, h, i)) in (r.0.0, r.0.1, r.1)

  some-label : 0 < length ys
  some-label = is-at_within ys 0 Out D.outside

  -- the side with the number s, and its volume
  here : (s m : ℕ) → IsAt row s m → (x : VertexSide) × IsSideNumber C x s × (x.vertex ≡ n) × IsVolumeOf C rows x m
  here s m b =
      let r = side-there s (is-at_within row s m b) in
      let x : VertexSide = record { vertex = n; side = r.0 } in
      let j : IsSideNumber C x s = record { vertex = v; is_vertex = a; label = r.1; is_side = r.2 } in
      (x, j, refl, (s, j, (row, e, b)))

  pub row-appeared : HasAppeared (length ys) row
  row-appeared s m j b h l =
      let (x, J, q, X) = here s m b in
      let (y, (i, k, I, K, o), Y) = N.numbered.by_appearance x j m X (let w = some-label in omega (arith, w, h)) l in
      by y x i k I K J q o Y
    where
      by : (y x : VertexSide) (i k : ℕ) → IsSideNumber C y i → IsSideNumber C x k → IsSideNumber C x s → x.vertex ≡ n → IsBelow (pos y.vertex ∷ pos i ∷ []) (pos x.vertex ∷ pos k ∷ []) → IsVolumeOf C rows y j → (t : ℕ) × (t < s) × IsAt row t j
      by y x i k I K J q (inl o) (t, T, Y) = let w = D.all y.vertex t j (omega (arith, ints, o, q)) Y in absurd (omega (arith, w, h))
      by y x i k I K J q (inr (f, inl o)) (t, T, (r, z, b)) =
          let c = side-number_one C x k s K J in
          let d = side-number_one C y t i T I in
          let g : y.vertex ≡ n = omega (arith, ints, f, q) in
          let same = is-at_one rows n r row (subst (λ (w : ℕ). IsAt rows w r) g z) e in
          (t, omega (arith, ints, o, c, d), subst (λ (w : List ℕ). IsAt w t j) same b)
      by y x i k I K J q (inr (f, inr (g, o))) Y = absurd o

  pub row-added : (zs : List Label) → AreLabelsTo v.map row ys (length row) zs → AreLabelsOf C rows (n + 1) zs
  row-added zs E = record {
    outside = E.kept 0 Out D.outside;
    some = λ k l b h. by k l b h (old-or-new k);
    all = λ i s m h b. found i s m b (less-or-last i n h);
  }
    where
      old-or-new : (k : ℕ) → (k < length ys) ⊎ (length ys ≤ k)
      old-or-new k = ⊎_elim (λ h. inr (omega (arith, h))) (λ h. ⊎_elim (λ i. inl i) (λ i. inr (omega (arith, i))) h) (cases_order k (length ys))

      by : (k : ℕ) (l : Label) → IsAt zs k l → 1 ≤ k → (k < length ys) ⊎ (length ys ≤ k) → (x : VertexSide) × IsVolumeOf C rows x k × HasSideLabel C x l
      by k l b h (inl i) =
          let r = is-at_some ys k i in
          let one = is-at_one zs k r.0 l (E.kept k r.0 r.1) b in
          D.some k l (subst (λ (q : Label). IsAt ys k q) one r.1) h
      by k l b h (inr i) =
          let (s, o, c, g) = E.some k l b i in
          let x : VertexSide = record { vertex = n; side = o } in
          (x, (s, record { vertex = v; is_vertex = a; label = l; is_side = g }, (row, e, c)), (v, a, side-has v.map s o l g))

      found : (i s m : ℕ) → IsInTable rows i s m → (i < n) ⊎ (i ≡ n) → m < length zs
      found i s m b (inl h) = let w = D.all i s m h b in let q = E.long in omega (arith, w, q)
      found i s m (r, z, b) (inr h) =
          let same = is-at_one rows n r row (subst (λ (w : ℕ). IsAt rows w r) h z) e in
          let c = subst (λ (w : List ℕ). IsAt w s m) same b in
          E.all s m (is-at_within row s m c) c

-- ---- of all rows
-- each side has a number
pub numbered-side : (C : Complex) (rows : List (List ℕ)) → VolumeNumbers C rows → (x : VertexSide) (l : Label) → HasSideLabel C x l → (k : ℕ) × IsVolumeOf C rows x k
numbered-side C rows N x l (v, a, g) =
    let S = N.shape in
    let j = side-number v.map x.side l g in
    let w = is-at_within C.vertices x.vertex v a in
    let r = is-at_some rows x.vertex (let e = S.as_many in omega (arith, w, e)) in
    let i = is-at_within (sides_of v.map) (side_number v.map x.side) (x.side, l) j in
    let e = S.row x.vertex v r.0 a r.1 in
    let q = is-at_some r.0 (side_number v.map x.side) (omega (arith, i, e)) in
    (q.0, (side_number v.map x.side, record { vertex = v; is_vertex = a; label = l; is_side = j }, (r.0, r.1, q.1)))

pub labels-of_volumes : (s : Set) (c : ProgramComplex) → ShowsSet s c → (rows : List (List ℕ)) → VolumeNumbers (complex_of c) rows → (n : ℕ) (ls : List Label) → length rows ≤ n → AreLabelsOf (complex_of c) rows n ls → AreVolumeLabels (complex_of c) rows ls
labels-of_volumes s c S rows N n ls h D = record {
  some = λ k l a. some k l a (eq-zero-or-pos k);
  labels = λ k l x m a X i. labels k l x m a X i (eq-zero-or-pos k);
  all = λ x k (j, J, X). let w = is-at_within rows x.vertex X.0 X.1 in D.all x.vertex j k (omega (arith, w, h)) X;
}
  where
    some : (k : ℕ) (l : Label) → IsAt ls k l → (k ≡ 0) ⊎ (1 ≤ k) → (x : VertexSide) × IsVolumeOf (complex_of c) rows x k
    some k l a (inl e) =
        let o = out-side s c S.shows S.maps in
        let r = numbered-side (complex_of c) rows N o.0 Out o.1 in
        let z = (N.outside o.0 r.0 Out r.1 o.1).1 refl in
        (o.0, subst (λ (m : ℕ). IsVolumeOf (complex_of c) rows o.0 m) (z ∙ sym e) r.1)
    some k l a (inr i) = let r = D.some k l a i in (r.0, r.1)

    labels : (k : ℕ) (l : Label) (x : VertexSide) (m : Label) → IsAt ls k l → IsVolumeOf (complex_of c) rows x k → HasSideLabel (complex_of c) x m → (k ≡ 0) ⊎ (1 ≤ k) → l ≡ m
    labels k l x m a X i (inl e) =
        is-at_one ls 0 l Out (subst (λ (q : ℕ). IsAt ls q l) e a) D.outside ∙ sym ((N.outside x k m X i).0 e)
    labels k l x m a X i (inr h) =
        let r = D.some k l a h in
        let ch = (N.numbered.by_class r.0 x k k r.1 X).0 refl in
        chain-label s (complex_of c) S.shows (upright s c S) r.0 x l m ch r.2 i
