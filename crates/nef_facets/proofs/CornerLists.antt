-- Lists of corners.
use Rattle.nef_facets.proofs.Prelude.{◌≡◌, ℕ, zero, suc, ◌+◌, ◌<◌, pos, List, [], ◌∷◌, ◌++◌, length, arith, refl, ap, sym, ◌∙◌, subst, inl, inr, ⊎_elim, ◌⊎◌, append_assoc, length-append, ints, IsAt, items, is-at_one, Either, earlier, last, is-at_pushed, is-at_last, is-at_left, is-at_within, is-at_some, Vertex as PlainVertex, Complex as PlainComplex, Corner, corner_of, IsCornerBelow, corner_from, corners_at, HasItem, AreCorners, StandFrom}
use Rattle.law_geometry.specs.complex.Complexes.{Corner as PlainCorner}
use Rattle.nef_space.proofs.Lists.{is-at_parts, is-at_right}
use Rattle.nef_space.proofs.Elementary.{less-or-last}

abbrev pub corner : ℕ → ℕ → Corner
corner i k = record { vertex = i; item = k }

-- ---- the corners of one vertex
pub more-corners : (old xs new : List Corner) (i n : ℕ) → xs ≡ old ++ corners_at i n → new ≡ xs ++ corner i n ∷ [] → new ≡ old ++ corners_at i (n + 1)
more-corners old xs new i n e f = f ∙ ap (λ (r : List Corner). r ++ corner i n ∷ []) e ∙ append_assoc old (corners_at i n) (corner i n ∷ []) ∙ ap (λ (m : ℕ). old ++ corners_at i m) (let g : suc n ≡ n + 1 = omega arith in g)

length-corners : (i n : ℕ) → length (corners_at i n) ≡ n
length-corners i zero = refl
length-corners i (suc n) = let e = length-corners i n in let f = length-append (corners_at i n) (corner i n ∷ []) in omega arith

at-corners : (i n j : ℕ) (k : Corner) → IsAt (corners_at i n) j k → (j < n) × (k ≡ corner i j)
at-corners i zero j k a = cc
at-corners i (suc n) j k a = by (at-corners i n j k) (is-at_pushed (corners_at i n) j k (corner i n) a)
  where
    by : (IsAt (corners_at i n) j k → (j < n) × (k ≡ corner i j)) → Either (corners_at i n) j k (corner i n) → (j < suc n) × (k ≡ corner i j)
    by f (earlier b) = let r = f b in (let h = r.0 in omega arith, r.1)
    by g (last e f) = let l = length-corners i n in let q : n ≡ j = omega arith in (omega arith, f ∙ ap (λ (m : ℕ). corner i m) q)

corners-have : (i n j : ℕ) → j < n → IsAt (corners_at i n) j (corner i j)
corners-have i zero j h = absurd (omega arith)
corners-have i (suc n) j h = ⊎_elim
    (λ l. is-at_left (corners_at i n) (corner i n ∷ []) j (corner i j) (corners-have i n j l))
    (λ e. subst (λ (m : ℕ). IsAt (corners_at i n ++ corner i n ∷ []) m (corner i m)) (sym e) (subst (λ (m : ℕ). IsAt (corners_at i n ++ corner i n ∷ []) m (corner i n)) (length-corners i n) (is-at_last (corners_at i n) (corner i n))))
    (less-or-last j n (omega arith))

-- ---- the corners of the vertices below number n
pub record AreCornersTo (C : PlainComplex) (n : ℕ) (ks : List Corner) : Type 0 where
  pub each : (i : ℕ) (k : Corner) → IsAt ks i k → HasItem C (corner_of k) × (k.vertex < n)
  pub all : (k : PlainCorner) → HasItem C k → k.vertex < n → (i : ℕ) × IsAt ks i (corner_from k)
  pub ordered : (i j : ℕ) (x y : Corner) → i < j → IsAt ks i x → IsAt ks j y → IsCornerBelow (corner_of x) (corner_of y)

pub no-corners : (C : PlainComplex) → AreCornersTo C 0 []
no-corners C = record { each = λ i k a. cc; all = λ k h l. absurd (omega arith); ordered = λ i j x y l a b. cc }

module _ (C : PlainComplex) (n : ℕ) (ks : List Corner) (A : AreCornersTo C n ks) (u : PlainVertex) (m : ℕ) (at : IsAt C.vertices n u) (count : m ≡ length (items u.map)) where
  abbrev new : List Corner
  new = ks ++ corners_at n m

  one-more : (k : Corner) (j : ℕ) → IsAt (corners_at n m) j k → HasItem C (corner_of k) × (k.vertex < n + 1)
  one-more k j a =
      let r = at-corners n m j k a in
      let x = is-at_some (items u.map) j (let h = r.0 in omega arith) in
      let e : corner n j ≡ k = sym r.1 in
      subst (λ (l : Corner). HasItem C (corner_of l) × (l.vertex < n + 1)) e ((u, x.0, record { vertex = at; item = x.1 }), omega arith)

  pub corners-next : AreCornersTo C (n + 1) new
  corners-next = record {
    each = λ i k a. ⊎_elim (λ b. let r = A.each i k b in (r.0, let h = r.1 in omega arith)) (λ b. one-more k b.0 b.2) (is-at_parts ks (corners_at n m) i k a);
    all = λ k h l. ⊎_elim (λ b. let r = A.all k h b in (r.0, is-at_left ks (corners_at n m) r.0 (corner_from k) r.1)) (λ e. here k h e) (less-or-last k.vertex n l);
    ordered = λ i j x y l a b. order i j x y l (is-at_parts ks (corners_at n m) i x a) (is-at_parts ks (corners_at n m) j y b);
  }
    where
      here : (k : PlainCorner) → HasItem C k → k.vertex ≡ n → (i : ℕ) × IsAt new i (corner_from k)
      here k (v, x, c) e =
          let f = is-at_one C.vertices n v u (subst (λ (i : ℕ). IsAt C.vertices i v) e c.vertex) at in
          let w = is-at_within (items v.map) k.item x c.item in
          let g : length (items v.map) ≡ length (items u.map) = ap (λ (r : PlainVertex). length (items r.map)) f in
          (length ks + k.item, is-at_right ks (corners_at n m) k.item (corner_from k) (subst (λ (i : ℕ). IsAt (corners_at n m) k.item (corner i k.item)) (sym e) (corners-have n m k.item (omega arith))))

      order : (i j : ℕ) (x y : Corner) → i < j → IsAt ks i x ⊎ ((a : ℕ) × (i ≡ length ks + a) × IsAt (corners_at n m) a x) → IsAt ks j y ⊎ ((b : ℕ) × (j ≡ length ks + b) × IsAt (corners_at n m) b y)
          → IsCornerBelow (corner_of x) (corner_of y)
      order i j x y l (inl a) (inl b) = A.ordered i j x y l a b
      order i j x y l (inl a) (inr (q, e, b)) =
          let r = at-corners n m q y b in
          let f : y.vertex ≡ n = ap (λ (t : Corner). t.vertex) r.1 in
          let g = A.each i x a in let h = g.1 in
          inl (omega (arith, ints))
      order i j x y l (inr (p, d, a)) (inl b) = let h = is-at_within ks j y b in absurd (omega arith)
      order i j x y l (inr (p, d, a)) (inr (q, e, b)) =
          let r = at-corners n m p x a in
          let t = at-corners n m q y b in
          let f : x.vertex ≡ y.vertex = ap (λ (t : Corner). t.vertex) r.1 ∙ sym (ap (λ (t : Corner). t.vertex) t.1) in
          let g : x.item ≡ p = ap (λ (t : Corner). t.item) r.1 in
          let h : y.item ≡ q = ap (λ (t : Corner). t.item) t.1 in
          inr (ap pos f, inl (omega (arith, ints)))

-- the vertices' first corners
pub starts-none : (ks : List Corner) (starts : List ℕ) → ks ≡ [] → StandFrom ks starts
starts-none ks starts e i k a = absurd (let l = is-at_within ks i k a in let m = ap length e in omega (arith, l, m))

pub starts-next : (ks : List Corner) (starts : List ℕ) (n m : ℕ) → length starts ≡ n → StandFrom ks starts → StandFrom (ks ++ corners_at n m) (starts ++ length ks ∷ [])
starts-next ks starts n m e S i k a = by (is-at_parts ks (corners_at n m) i k a)
  where
    by : IsAt ks i k ⊎ ((j : ℕ) × (i ≡ length ks + j) × IsAt (corners_at n m) j k) → (f : ℕ) × IsAt (starts ++ length ks ∷ []) k.vertex f × (f + k.item ≡ i)
    by (inl b) = let s = S i k b in (s.0, is-at_left starts (length ks ∷ []) k.vertex s.0 s.1, s.2)
    by (inr (j, g, b)) =
        let r = at-corners n m j k b in
        let v : length starts ≡ k.vertex = e ∙ sym (ap (λ (t : Corner). t.vertex) r.1) in
        let t : k.item ≡ j = ap (λ (t : Corner). t.item) r.1 in
        (length ks, subst (λ (x : ℕ). IsAt (starts ++ length ks ∷ []) x (length ks)) v (is-at_last starts (length ks)), omega (arith, g, t))

pub all-corners : (C : PlainComplex) (n : ℕ) (ks : List Corner) → AreCornersTo C n ks → ((k : ℕ) (v : PlainVertex) → IsAt C.vertices k v → k < n) → AreCorners C ks
all-corners C n ks A within = record {
  each = λ i k a. (A.each i k a).0;
  all = λ k h. A.all k h (within k.vertex h.0 h.2.vertex);
  ordered = A.ordered;
}
