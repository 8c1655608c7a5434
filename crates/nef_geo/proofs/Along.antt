-- The order of points on one ray.
use Rattle.nef_geo.proofs.Prelude.{◌≡◌, ◌≢◌, ◌*◌, ℤ, pos, ◌+ℤ◌, ◌-ℤ◌, ◌*ℤ◌, ◌<ℤ◌, nat_abs, [], ◌∷◌, Ordering, Less, Equal, Greater, arith, ap, sym, ◌∙◌, subst, ints, MatchOrdering, SpacePoint, toward, SamePoint, IsAhead, Vector, dot, IsDirection, SameDirection, none, given, follows, mul_pos, cancel_lt, sub_pos, pos-abs, at, num, neg, ◌⊕◌, ◌⊖◌, ◌⊗◌, IsReached, self-pos}
use Rattle.nef_geo.proofs.Cramer.{cancel, difference}
use Rattle.nef_space.proofs.Elementary.{weight-positive, counted-times}

-- k a = l b, with k and l positive
record IsScaled (k l : ℤ) (a b : Vector) : Type 0 where
  x_is : k *ℤ a.x ≡ l *ℤ b.x
  y_is : k *ℤ a.y ≡ l *ℤ b.y
  z_is : k *ℤ a.z ≡ l *ℤ b.z

not_zero : (k : ℤ) → pos 0 <ℤ k → k ≢ pos 0
not_zero k p e = omega (arith, ints)

SameDirection-scaled : (k l : ℤ) (a b : Vector) → pos 0 <ℤ k → pos 0 <ℤ l → IsDirection b → IsScaled k l a b → SameDirection a b
SameDirection-scaled k l a b pk pl some s =
    let o = num (pos 0) in
    record {
      parallel = (
        cancel k _ (not_zero k pk) (follows (k ∷ l ∷ a.x ∷ a.y ∷ a.z ∷ b.x ∷ b.y ∷ b.z ∷ []) (at 0 ⊗ (at 3 ⊗ at 7 ⊖ at 4 ⊗ at 6)) o (given (at 7) (at 0 ⊗ at 3) (at 1 ⊗ at 6) s.y_is (given (neg (at 6)) (at 0 ⊗ at 4) (at 1 ⊗ at 7) s.z_is none)) tt),
        cancel k _ (not_zero k pk) (follows (k ∷ l ∷ a.x ∷ a.y ∷ a.z ∷ b.x ∷ b.y ∷ b.z ∷ []) (at 0 ⊗ (at 4 ⊗ at 5 ⊖ at 2 ⊗ at 7)) o (given (at 5) (at 0 ⊗ at 4) (at 1 ⊗ at 7) s.z_is (given (neg (at 7)) (at 0 ⊗ at 2) (at 1 ⊗ at 5) s.x_is none)) tt),
        cancel k _ (not_zero k pk) (follows (k ∷ l ∷ a.x ∷ a.y ∷ a.z ∷ b.x ∷ b.y ∷ b.z ∷ []) (at 0 ⊗ (at 2 ⊗ at 6 ⊖ at 3 ⊗ at 5)) o (given (at 6) (at 0 ⊗ at 2) (at 1 ⊗ at 5) s.x_is (given (neg (at 5)) (at 0 ⊗ at 3) (at 1 ⊗ at 6) s.y_is none)) tt),
      );
      forward =
          let e : l *ℤ dot b b ≡ dot a b *ℤ k = follows (k ∷ l ∷ a.x ∷ a.y ∷ a.z ∷ b.x ∷ b.y ∷ b.z ∷ []) (at 1 ⊗ (at 5 ⊗ at 5 ⊕ at 6 ⊗ at 6 ⊕ at 7 ⊗ at 7)) ((at 2 ⊗ at 5 ⊕ at 3 ⊗ at 6 ⊕ at 4 ⊗ at 7) ⊗ at 0)
          (given (neg (at 5)) (at 0 ⊗ at 2) (at 1 ⊗ at 5) s.x_is
          (given (neg (at 6)) (at 0 ⊗ at 3) (at 1 ⊗ at 6) s.y_is
          (given (neg (at 7)) (at 0 ⊗ at 4) (at 1 ⊗ at 7) s.z_is none))) tt in
          let p = mul_pos l (dot b b) pl (self-pos b some) in
          cancel_lt (pos 0) (dot a b) k pk (let z : pos 0 *ℤ k ≡ pos 0 = omega (arith, ints) in subst (λ (i : ℤ). i <ℤ (dot a b *ℤ k)) (sym z) (subst (λ (i : ℤ). pos 0 <ℤ i) e p));
    }

-- a reached point by its numbers: x/w is (s.x + (n/m) d.x) / s.w
record IsOnRay (s : SpacePoint) (d : Vector) (n m : ℤ) (q : SpacePoint) : Type 0 where
  along_x : q.x *ℤ (m *ℤ pos s.w) ≡ (s.x *ℤ m +ℤ n *ℤ d.x) *ℤ pos q.w
  along_y : q.y *ℤ (m *ℤ pos s.w) ≡ (s.y *ℤ m +ℤ n *ℤ d.y) *ℤ pos q.w
  along_z : q.z *ℤ (m *ℤ pos s.w) ≡ (s.z *ℤ m +ℤ n *ℤ d.z) *ℤ pos q.w

plain : (c d n m u x k b l : ℤ) → pos 0 <ℤ u → b ≡ m *ℤ u → l ≡ u *ℤ b → x *ℤ l ≡ (c *ℤ b +ℤ n *ℤ u *ℤ d) *ℤ k → x *ℤ (m *ℤ u) ≡ (c *ℤ m +ℤ n *ℤ d) *ℤ k
plain c d n m u x k b l p eb el e =
    difference _ _ (cancel u _ (not_zero u p)
    (follows (c ∷ d ∷ n ∷ m ∷ u ∷ x ∷ k ∷ b ∷ l ∷ [])
    (at 4 ⊗ (at 5 ⊗ (at 3 ⊗ at 4) ⊖ (at 0 ⊗ at 3 ⊕ at 2 ⊗ at 1) ⊗ at 6)) (num (pos 0))
    (given (num (pos 1)) (at 5 ⊗ at 8) ((at 0 ⊗ at 7 ⊕ at 2 ⊗ at 4 ⊗ at 1) ⊗ at 6) e
    (given (neg (at 5)) (at 8) (at 4 ⊗ at 7) el
    (given (at 0 ⊗ at 6 ⊖ at 5 ⊗ at 4) (at 7) (at 3 ⊗ at 4) eb none))) tt))

on_ray : (s : SpacePoint) (d : Vector) (n m : ℤ) (p : pos 0 <ℤ m) (q : SpacePoint) → IsReached s d n m p q → IsOnRay s d n m q
on_ray s d n m p q r =
    let eb : pos (nat_abs m * s.w) ≡ m *ℤ pos s.w = counted-times (nat_abs m) s.w ∙ ap (λ (k : ℤ). k *ℤ pos s.w) (pos-abs m p) in
    let el : pos (s.w * (nat_abs m * s.w)) ≡ pos s.w *ℤ pos (nat_abs m * s.w) = counted-times s.w (nat_abs m * s.w) in
    record {
      along_x = plain s.x d.x n m (pos s.w) q.x (pos q.w) _ _ (weight-positive s) eb el r.along_x;
      along_y = plain s.y d.y n m (pos s.w) q.y (pos q.w) _ _ (weight-positive s) eb el r.along_y;
      along_z = plain s.z d.z n m (pos s.w) q.z (pos q.w) _ _ (weight-positive s) eb el r.along_z;
    }

-- one coordinate of the way between two points on the ray
between : (c d u pn pm qn qm px pw qx qw : ℤ) → px *ℤ (pm *ℤ u) ≡ (c *ℤ pm +ℤ pn *ℤ d) *ℤ pw → qx *ℤ (qm *ℤ u) ≡ (c *ℤ qm +ℤ qn *ℤ d) *ℤ qw
    → (pm *ℤ qm *ℤ u) *ℤ (qx *ℤ pw -ℤ px *ℤ qw) ≡ (pw *ℤ qw *ℤ (qn *ℤ pm -ℤ pn *ℤ qm)) *ℤ d
between c d u pn pm qn qm px pw qx qw ep eq =
    follows (c ∷ d ∷ u ∷ pn ∷ pm ∷ qn ∷ qm ∷ px ∷ pw ∷ qx ∷ qw ∷ [])
    ((at 4 ⊗ at 6 ⊗ at 2) ⊗ (at 9 ⊗ at 8 ⊖ at 7 ⊗ at 10)) ((at 8 ⊗ at 10 ⊗ (at 5 ⊗ at 4 ⊖ at 3 ⊗ at 6)) ⊗ at 1)
    (given (at 4 ⊗ at 8) (at 9 ⊗ (at 6 ⊗ at 2)) ((at 0 ⊗ at 6 ⊕ at 5 ⊗ at 1) ⊗ at 10) eq
    (given (neg (at 6 ⊗ at 10)) (at 7 ⊗ (at 4 ⊗ at 2)) ((at 0 ⊗ at 4 ⊕ at 3 ⊗ at 1) ⊗ at 8) ep none)) tt

scaled_way : (s : SpacePoint) (d : Vector) (pn pm : ℤ) (p : SpacePoint) (qn qm : ℤ) (q : SpacePoint) → IsOnRay s d pn pm p → IsOnRay s d qn qm q
    → IsScaled (pm *ℤ qm *ℤ pos s.w) (pos p.w *ℤ pos q.w *ℤ (qn *ℤ pm -ℤ pn *ℤ qm)) (toward p q) d
scaled_way s d pn pm p qn qm q i j = record {
  x_is = between s.x d.x (pos s.w) pn pm qn qm p.x (pos p.w) q.x (pos q.w) i.along_x j.along_x;
  y_is = between s.y d.y (pos s.w) pn pm qn qm p.y (pos p.w) q.y (pos q.w) i.along_y j.along_y;
  z_is = between s.z d.z (pos s.w) pn pm qn qm p.z (pos p.w) q.z (pos q.w) i.along_z j.along_z;
}

ahead : (s : SpacePoint) (d : Vector) (pn pm : ℤ) (p : SpacePoint) (qn qm : ℤ) (q : SpacePoint) → IsDirection d → pos 0 <ℤ pm → pos 0 <ℤ qm → IsOnRay s d pn pm p → IsOnRay s d qn qm q → (pn *ℤ qm) <ℤ (qn *ℤ pm) → IsAhead p d q
ahead s d pn pm p qn qm q some pp qp i j less =
    SameDirection-scaled _ _ (toward p q) d
    (mul_pos (pm *ℤ qm) (pos s.w) (mul_pos pm qm pp qp) (weight-positive s))
    (mul_pos (pos p.w *ℤ pos q.w) (qn *ℤ pm -ℤ pn *ℤ qm) (mul_pos (pos p.w) (pos q.w) (weight-positive p) (weight-positive q)) (sub_pos (pn *ℤ qm) (qn *ℤ pm) less))
    some (scaled_way s d pn pm p qn qm q i j)

level : (k l a d m n : ℤ) → pos 0 <ℤ k → k *ℤ a ≡ l *ℤ (m -ℤ n) *ℤ d → n ≡ m → a ≡ pos 0
level k l a d m n p e i = cancel k a (not_zero k p) (follows (k ∷ l ∷ a ∷ d ∷ m ∷ n ∷ []) (at 0 ⊗ at 2) (num (pos 0)) (given (num (pos 1)) (at 0 ⊗ at 2) (at 1 ⊗ (at 4 ⊖ at 5) ⊗ at 3) e (given (neg (at 1 ⊗ at 3)) (at 5) (at 4) i none)) tt)

same : (s : SpacePoint) (d : Vector) (pn pm : ℤ) (p : SpacePoint) (qn qm : ℤ) (q : SpacePoint) → pos 0 <ℤ pm → pos 0 <ℤ qm → IsOnRay s d pn pm p → IsOnRay s d qn qm q → pn *ℤ qm ≡ qn *ℤ pm → SamePoint p q
same s d pn pm p qn qm q pp qp i j e =
    let k = mul_pos (pm *ℤ qm) (pos s.w) (mul_pos pm qm pp qp) (weight-positive s) in
    let t = scaled_way s d pn pm p qn qm q i j in
    record {
      along_x = sym (difference _ _ (level _ (pos p.w *ℤ pos q.w) (q.x *ℤ pos p.w -ℤ p.x *ℤ pos q.w) d.x (qn *ℤ pm) (pn *ℤ qm) k t.x_is e));
      along_y = sym (difference _ _ (level _ (pos p.w *ℤ pos q.w) (q.y *ℤ pos p.w -ℤ p.y *ℤ pos q.w) d.y (qn *ℤ pm) (pn *ℤ qm) k t.y_is e));
      along_z = sym (difference _ _ (level _ (pos p.w *ℤ pos q.w) (q.z *ℤ pos p.w -ℤ p.z *ℤ pos q.w) d.z (qn *ℤ pm) (pn *ℤ qm) k t.z_is e));
    }

-- the order of the steps is that of the points
pub along-ray : (s : SpacePoint) (d : Vector) (pn pm : ℤ) (p : SpacePoint) (qn qm : ℤ) (q : SpacePoint) (o : Ordering) → IsDirection d → (pp : pos 0 <ℤ pm) (qp : pos 0 <ℤ qm) → IsReached s d pn pm pp p → IsReached s d qn qm qp q
    → MatchOrdering o ((pn *ℤ qm) <ℤ (qn *ℤ pm)) (pn *ℤ qm ≡ qn *ℤ pm) ((qn *ℤ pm) <ℤ (pn *ℤ qm)) → MatchOrdering o (IsAhead p d q) (SamePoint p q) (IsAhead q d p)
along-ray s d pn pm p qn qm q Less some pp qp i j h = ahead s d pn pm p qn qm q some pp qp (on_ray s d pn pm pp p i) (on_ray s d qn qm qp q j) h
along-ray s d pn pm p qn qm q Equal some pp qp i j h = same s d pn pm p qn qm q pp qp (on_ray s d pn pm pp p i) (on_ray s d qn qm qp q j) h
along-ray s d pn pm p qn qm q Greater some pp qp i j h = ahead s d qn qm q pn pm p some qp pp (on_ray s d qn qm qp q j) (on_ray s d pn pm pp p i) h
