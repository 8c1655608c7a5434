-- Germs by the sides of a plane: where they aren't all one, the flat directions are those of the plane, and two planes with these flat directions are one.
use Rattle.law_geometry.proofs.complex.Prelude.{◌≡◌, pos, neg_ℤ, arith, refl, ap, sym, ◌∙◌, ⊎_elim, ◌∷◌, subst, [], ints, Sign, minus, nought, plus, sign, ring, at, neg, ◌⊕◌, ◌⊗◌, sign-plus, sign-minus, nought-or, HasLabel, Germ, Flat, HasFlat, FlatDim, SpacePoint, Set, Vector, zero_vector, opposite, dot, cross, IsZero, IsDirection, IsNormal, SameDirection, Label, SameGerms, Germ-zero, Germ-unique, flat-germ, Flat-by_germs, span-3, flat-plane, by_side, product-off, row_x, row_y, row_z, row_x-is, row_y-is, row_z-is, circle-point, row-level, normals-same, dot-comm, dot-zero, self-pos, square-cross}
use Rattle.law_geometry.proofs.complex.Cones.{FlatAre, sided-flat, sided-two}
use Rattle.law_geometry.proofs.sphere.StarKinds.{turn-ahead}

-- a is the label above the plane of n, m in it, b below
abbrev pub IsSided : Set → SpacePoint → Vector → Label → Label → Label → Type 0
IsSided s q n a m b = (e : Vector) → Germ s q e (by_side a m b (sign (dot n e)))

pub sided-carried : (s : Set) (q y : SpacePoint) (n : Vector) (a m b : Label) → SameGerms s q y → IsSided s q n a m b → IsSided s y n a m b
sided-carried s q y n a m b same all e = (same e (by_side a m b (sign (dot n e)))).0 (all e)

pub flats-carried : (s : Set) (q y : SpacePoint) (n : Vector) → SameGerms s q y → FlatAre s q n → FlatAre s y n
flats-carried s q y n same flat v = (
  λ f. (flat v).0 (Flat-by_germs s s y q (λ d l. let g = same d l in (g.1, g.0)) v f),
  λ z. Flat-by_germs s s q y same v ((flat v).1 z),
)

-- ---- where there is one label, not just two directions are flat
pub one-label-flat : (s : Set) (q : SpacePoint) (m : Label) → ((e : Vector) → Germ s q e m) → (v d : Vector) → dot d v ≡ pos 0 → Flat s q v
one-label-flat s q m all v d z = sided-flat s q d m m m (λ e. by e (sign (dot d e))) v z
  where
    by : (e : Vector) (t : Sign) → Germ s q e (by_side m m m t)
    by e plus = all e
    by e nought = all e
    by e minus = all e

pub one-label-not_two : (s : Set) (q : SpacePoint) (m : Label) → ((e : Vector) → Germ s q e m) → FlatDim s q 2 → ⊥
one-label-not_two s q m all two =
    let p = flat-plane s q two in
    let c = circle-point p.0 p.1 in
    let z = (p.2 p.0).0 (one-label-flat s q m all p.0 c.0 (dot-comm c.0 p.0 ∙ c.1.level)) in
    let h = self-pos p.0 p.1 in omega (arith, ints)

-- ---- where the labels aren't all one
module _ (s : Set) (q : SpacePoint) (n : Vector) (a m b : Label) (all : IsSided s q n a m b) where
  pub sided-label : HasLabel s q m
  sided-label = (Germ-zero s q zero_vector m (refl, refl, refl)).0 (subst (λ (t : Sign). Germ s q zero_vector (by_side a m b t)) (ap sign (dot-zero n zero_vector (refl, refl, refl))) (all zero_vector))

  module _ (some : IsDirection n) (differ : a ≡ m → b ≡ m → ⊥) where
    back-is : dot n (opposite n) ≡ neg_ℤ (dot n n)
    back-is = ring (n.x ∷ n.y ∷ n.z ∷ []) (at 0 ⊗ neg (at 0) ⊕ at 1 ⊗ neg (at 1) ⊕ at 2 ⊗ neg (at 2)) (neg (at 0 ⊗ at 0 ⊕ at 1 ⊗ at 1 ⊕ at 2 ⊗ at 2)) tt

    not-three : HasFlat s q 3 → ⊥
    not-three h =
        let flat : (e : Vector) → Flat s q e = λ e. span-3 s q h.0 h.1 h.2 e h.3 h.4 h.5 h.6 in
        let on : (e : Vector) → by_side a m b (sign (dot n e)) ≡ m = λ e. Germ-unique s q e (by_side a m b (sign (dot n e))) m (all e) (flat-germ s q e m (flat e) sided-label) in
        let up = self-pos n some in
        let down = back-is in
        differ (ap (λ (t : Sign). by_side a m b t) (sym (sign-plus (dot n n) up)) ∙ on n)
        (ap (λ (t : Sign). by_side a m b t) (sym (sign-minus (dot n (opposite n)) (omega (arith, ints)))) ∙ on (opposite n))

    pub sided-dim : FlatDim s q 2
    sided-dim = let c = circle-point n some in (sided-two s q n c.0 a m b all some c.1.direction c.1.level, not-three)

    pub sided-flats : FlatAre s q n
    sided-flats v = (λ f. ⊎_elim (λ z. z) (λ o. absurd (third f o)) (nought-or (dot n v)), sided-flat s q n a m b all v)
      where
        -- d, n x d and v are independent: their product is (d.d) (n.v) - (n.d) (d.v)
        third : Flat s q v → (dot n v ≡ pos 0 → ⊥) → ⊥
        third f o =
            let c = circle-point n some in
            let d = c.0 in
            let r = turn-ahead n d v c.1.level in
            not-three (d, cross n d, v, (λ z. product-off (dot d d) (dot n v) (self-pos d c.1.direction) o (sym r ∙ z)), sided-flat s q n a m b all d c.1.level, sided-flat s q n a m b all (cross n d) (square-cross n d), f)

-- ---- two planes with the same flat directions are one
flats-parallel : (s : Set) (q : SpacePoint) (n m : Vector) → FlatAre s q n → FlatAre s q m → IsZero (cross n m)
flats-parallel s q n m f g =
    let r = row-level n in
    let on : (v : Vector) → dot n v ≡ pos 0 → dot m v ≡ pos 0 = λ v z. (g v).0 ((f v).1 z) in (
      sym (row_x-is n m) ∙ dot-comm (row_x n) m ∙ on (row_x n) r.0,
      sym (row_y-is n m) ∙ dot-comm (row_y n) m ∙ on (row_y n) r.1,
      sym (row_z-is n m) ∙ dot-comm (row_z n) m ∙ on (row_z n) r.2,
    )

-- normals point to one side
pub flats-one : (s : Set) (q : SpacePoint) (n m : Vector) → IsNormal n → IsNormal m → FlatAre s q n → FlatAre s q m → SameDirection n m
flats-one s q n m h k f g = normals-same n m h k (flats-parallel s q n m f g)
