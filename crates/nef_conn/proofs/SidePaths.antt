-- Along a path of even segments of points with three flat directions, the ends of each segment in its turn: so the converse comes to single segments, and to one point at each side.
use Rattle.nef_conn.proofs.Prelude.{◌≡◌, ℕ, refl, sym, ◌∙◌, ◌⊎◌, inl, inr, ⊎_elim, List, ◌∷◌, subst, [], Chained, HasLabel, FlatDim, Joined, IsEven, IsEvenPath, SpacePoint, InFrame, Set, Label, Out, Not, In, FlatDim-one, label_of, label-one, ahead, near-ahead, even-germs, joined-germs, labels-by_germs, joined-both, Germ-zero, near-germ_zero, zero_vector, HasSide, seen, Complex, Shows, VertexSide, RayDown, label-germ, VolumeLink, IsAtSide, IsUpright, side-sees, at-side, one-side, SidesName, NamesOfFreeSegments}
use Rattle.nef_conn.specs.Sides.{SidesBySegments}
use Rattle.nef_space.proofs.Chains.{chain-trans, chain-link, chain-turned}
use Rattle.nef_conn.proofs.RaysEnd.{rays-end}
use Rattle.nef_space.proofs.Elementary.{same-itself}

-- a point with another label than Out lies in the frame
pub label-inside : (s : Set) (p : SpacePoint) (l : Label) → HasLabel s p l → (l ≡ Out → ⊥) → InFrame p
label-inside s p Out h n = absurd (n refl)
label-inside s p Not h n = h.0
label-inside s p In h n = h.0

-- and a point of the frame has another one
pub inside-label : (s : Set) (p : SpacePoint) (l : Label) → HasLabel s p l → InFrame p → l ≡ Out → ⊥
inside-label s p l h i e = subst (HasLabel s p) e h i

is-out : (l : Label) → (l ≡ Out) ⊎ (l ≡ Out → ⊥)
is-out Out = inl refl
is-out Not = inr (λ e. cc)
is-out In = inr (λ e. cc)

-- the points of an even segment that begins in the frame lie in the frame
pub even-inside : (s : Set) (k : ℕ) (p q : SpacePoint) → IsEven s k p q → InFrame p → InFrame q
even-inside s k p q even i =
    let l = label_of s p in
    label-inside s q l.0 ((labels-by_germs s p q (even-germs s k p q even) l.0).0 l.1) (inside-label s p l.0 l.1 i)

module _ (s : Set) (C : Complex) (S : Shows s C) where
  -- a point at a side has its label
  pub side-label : (x : VertexSide) (q : SpacePoint) (a : IsAtSide s C x q) → HasLabel s q a.label
  side-label x q a =
      let v = a.vertex in
      let K = S.cones x.vertex v a.is_vertex in
      let o = side-sees v.map K.valid.shaped x.side a.label a.has in
      let p = ahead s v.point o.0 in
      let g = label-germ v.map s v.point K o.0 a.label (seen (record { side = x.side; has = a.has; sees = o.1 })) in
      let h : HasLabel s p a.label = (Germ-zero s p zero_vector a.label (refl, refl, refl)).0 ((near-ahead s v.point o.0 zero_vector a.label).1 ((near-germ_zero s v.point o.0 zero_vector a.label (refl, refl, refl)).1 g)) in
      (labels-by_germs s p q (joined-germs s p q (one-side s C S x p q (at-side s C S x v a.label a.is_vertex a.has o.0 o.1) a).0) a.label).0 h

  three : (x : VertexSide) (q : SpacePoint) → IsAtSide s C x q → FlatDim s q 3
  three x q a = a.even q (inr (same-itself q))

  module _ (upright : IsUpright C) (names : NamesOfFreeSegments s C) where
    walk : (rs : List SpacePoint) (r q : SpacePoint) (k l : VertexSide) → InFrame r → IsEvenPath s 3 r rs q → RayDown C r k → RayDown C q l → Chained (VolumeLink C) k l
    walk [] r q k l i even a b = names r q k l i even a b
    walk (t ∷ rs) r q k l i (even, path) a b =
        let j = even-inside s 3 r t even i in
        let c = rays-end s C t S upright j (even t (inr (inr (same-itself t)))) in
        chain-trans (VolumeLink C) k c.0 l (names r t k c.0 i even a c.1) (walk rs t q c.0 l j path c.1 b)

    path-names : (p q : SpacePoint) (k l : VertexSide) → InFrame p → FlatDim s p 3 → Joined s p q → RayDown C p k → RayDown C q l → Chained (VolumeLink C) k l
    path-names p q k l i f J a b = walk J.1 p q k l i (subst (λ (e : ℕ). IsEvenPath s e p J.1 q) (FlatDim-one s p J.0 3 J.2 f) J.3) a b

    module _ (sides : SidesName s C) (x y : VertexSide) (p q : SpacePoint) (a : IsAtSide s C x p) (b : IsAtSide s C y q) (J : Joined s p q) where
      one-label : a.label ≡ b.label
      one-label = label-one s q a.label b.label ((labels-by_germs s p q (joined-germs s p q J) a.label).0 (side-label x p a)) (side-label y q b)

      outside : a.label ≡ Out → Chained (VolumeLink C) x y
      outside e = chain-link (VolumeLink C) x y (inr (inr (inr (inr (
        (a.vertex, a.is_vertex, subst (HasSide a.vertex.map x.side) e a.has),
        (b.vertex, b.is_vertex, subst (HasSide b.vertex.map y.side) (sym one-label ∙ e) b.has),
      )))))

      inside : (a.label ≡ Out → ⊥) → Chained (VolumeLink C) x y
      inside n =
          let A = sides x a.label (a.vertex, a.is_vertex, a.has) n in
          let B = sides y b.label (b.vertex, b.is_vertex, b.has) (λ e. n (one-label ∙ e)) in
          let way = joined-both s A.0 p B.0 (one-side s C S x A.0 p A.2 a).0 (joined-both s p q B.0 J (one-side s C S y q B.0 b B.2).0) in
          let c = path-names A.0 B.0 A.1 B.1 (at-frame A.0 A.2) (three x A.0 A.2) way A.3 B.3 in
          chain-trans (VolumeLink C) x A.1 y A.4 (chain-trans (VolumeLink C) A.1 B.1 y c (chain-turned (VolumeLink C) y B.1 B.4))
        where
          at-frame : (r : SpacePoint) → IsAtSide s C x r → InFrame r
          at-frame r h = label-inside s r a.label ((labels-by_germs s p r (joined-germs s p r (one-side s C S x p r a h).0) a.label).0 (side-label x p a)) n

      pub sides-linked : Chained (VolumeLink C) x y
      sides-linked = ⊎_elim outside inside (is-out a.label)

pub converse-by_segments : SidesBySegments
converse-by_segments s C S upright sides names x y p q a b J = sides-linked s C S upright names sides x y p q a b J
