-- Sets that are shown by the same vertices are one.
use Rattle.nef_unique.proofs.Prelude.{◌≡◌, pos, sym, inl, inr, ⊎_elim, List, subst, SameSet, HasLabel, Germ, IsVertex, SpacePoint, SamePoint, Set, Vector, IsZero, Label, carriers, SameCone, germs-by_cell, Decided, Label-cells, label-one, Germ-zero, signs-same, same-point_sym, Cone, IsAt, Map, Complex, Shows, nought-or}
use Rattle.law_geometry.proofs.near.Determined.{same-set_of}
use Rattle.law_geometry.specs.complex.Complexes.{Vertex}
use Rattle.law_geometry.proofs.complex.Cones.{label-germ, germ-label}

-- ---- one map that shows two sets
label-carried : (M : Map) (s t : Set) (p : SpacePoint) → Cone M s p → Cone M t p → (l : Label) → HasLabel s p l → HasLabel t p l
label-carried M s t p C D l h = subst (HasLabel t p) (label-one s p M.mark l C.mark h) D.mark

zero-decided : (d : Vector) → Decided (IsZero d)
zero-decided d = by (nought-or d.x) (nought-or d.y) (nought-or d.z)
  where
    by : Decided (d.x ≡ pos 0) → Decided (d.y ≡ pos 0) → Decided (d.z ≡ pos 0) → Decided (IsZero d)
    by (inl a) (inl b) (inl c) = inl (a, b, c)
    by (inr n) _ _ = inr (λ z. n z.0)
    by _ (inr n) _ = inr (λ z. n z.1)
    by _ _ (inr n) = inr (λ z. n z.2)

germ-carried : (M : Map) (s t : Set) (p : SpacePoint) → Cone M s p → Cone M t p → (d : Vector) (l : Label) → Germ s p d l → Germ t p d l
germ-carried M s t p C D d l g = ⊎_elim
    (λ z. (Germ-zero t p d l z).1 (label-carried M s t p C D l ((Germ-zero s p d l z).0 g)))
    (λ f. label-germ M t p D d l (germ-label M s p C d l f g)) (zero-decided d)

pub cones-same : (M : Map) (s t : Set) (p : SpacePoint) → Cone M s p → Cone M t p → SameCone s t p
cones-same M s t p C D = record {
  label = λ l. (label-carried M s t p C D l, label-carried M t s p D C l);
  germs = λ d l. (germ-carried M s t p C D d l, germ-carried M t s p D C d l);
}

-- ---- equal points
pub label-moved : (s : Set) (p q : SpacePoint) (l : Label) → SamePoint p q → HasLabel s p l → HasLabel s q l
label-moved s p q l e = Label-cells s l p q (signs-same (carriers s) p q e)

germ-moved : (s : Set) (p q : SpacePoint) (d : Vector) (l : Label) → SamePoint p q → Germ s p d l → Germ s q d l
germ-moved s p q d l e = (germs-by_cell s p q (signs-same (carriers s) p q e) d l).0

cone-moved : (s t : Set) (p q : SpacePoint) → SamePoint p q → SameCone s t p → SameCone s t q
cone-moved s t p q e c =
    let f = same-point_sym p q e in
    record {
      label = λ l. (λ h. label-moved t p q l e ((c.label l).0 (label-moved s q p l f h)), λ h. label-moved s p q l e ((c.label l).1 (label-moved t q p l f h)));
      germs = λ d l. (λ h. germ-moved t p q d l e ((c.germs d l).0 (germ-moved s q p d l f h)), λ h. germ-moved s p q d l e ((c.germs d l).1 (germ-moved t q p d l f h)));
    }

-- ---- one list of vertices that shows two sets
vertex-cones : (s t : Set) (C D : Complex) → Shows s C → Shows t D → C.vertices ≡ D.vertices → (p : SpacePoint) → IsVertex s p → SameCone s t p
vertex-cones s t C D S T same p is =
    let f = S.complete p is in
    let v = f.1 in
    let a = subst (λ (r : List Vertex). IsAt r f.0 v) same f.2 in
    cone-moved s t v.point p f.3 (cones-same v.map s t v.point (S.cones f.0 v f.2) (T.cones f.0 v a))

pub vertices-set : (s t : Set) (C D : Complex) → Shows s C → Shows t D → C.vertices ≡ D.vertices → SameSet s t
vertices-set s t C D S T same = same-set_of s t (vertex-cones s t C D S T same) (λ p is. turned (vertex-cones t s D C T S (sym same) p is))
  where
    turned : {p : SpacePoint} → SameCone t s p → SameCone s t p
    turned c = record { label = λ l. let x = c.label l in (x.1, x.0); germs = λ d l. let x = c.germs d l in (x.1, x.0) }
