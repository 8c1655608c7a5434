-- Products of vectors of three numbers, and directions that are the same up to a positive factor.
use Rattle.law_geometry.proofs.near.Prelude.{◌≡◌, ℤ, pos, ◌*ℤ◌, ◌<ℤ◌, nat_abs, arith, ap, sym, ◌∙◌, ◌∷◌, ◌↔◌, [], ints, ring, at, num, ◌⊕◌, ◌⊖◌, ◌⊗◌, follows, given, none, mul_pos, cancel_lt, cancel_eq, pos-abs, abs-pos, Vector, dot, IsDirection, SameDirection, SameUpToFactor, of_direction, self-pos, direction-left, direction-right}
use Rattle.nef_space.proofs.Elementary.{counted-positive}

-- parallel vectors: (b.b) a = (a.b) b
module _ (a b : Vector) (s : SameDirection a b) where
  pub same-factor : SameUpToFactor (of_direction a) (of_direction b)
  same-factor =
      let p = self-pos b (direction-right a b s) in
      let xs = a.x ∷ a.y ∷ a.z ∷ b.x ∷ b.y ∷ b.z ∷ [] in
      let o = num (pos 0) in
      let bb = at 3 ⊗ at 3 ⊕ at 4 ⊗ at 4 ⊕ at 5 ⊗ at 5 in
      let ab = at 0 ⊗ at 3 ⊕ at 1 ⊗ at 4 ⊕ at 2 ⊗ at 5 in
      let cx = at 1 ⊗ at 5 ⊖ at 2 ⊗ at 4 in
      let cy = at 2 ⊗ at 3 ⊖ at 0 ⊗ at 5 in
      let cz = at 0 ⊗ at 4 ⊖ at 1 ⊗ at 3 in
      let c = s.parallel in
      let x = follows xs (bb ⊗ at 0) (ab ⊗ at 3) (given (at 4) cz o c.2 (given (o ⊖ at 5) cy o c.1 none)) tt in
      let y = follows xs (bb ⊗ at 1) (ab ⊗ at 4) (given (at 5) cx o c.0 (given (o ⊖ at 3) cz o c.2 none)) tt in
      let z = follows xs (bb ⊗ at 2) (ab ⊗ at 5) (given (at 3) cy o c.1 (given (o ⊖ at 4) cx o c.0 none)) tt in
      record {
        k = nat_abs (dot b b);
        l = nat_abs (dot a b);
        some_k = abs-pos (dot b b) p;
        some_l = abs-pos (dot a b) s.forward;
        is_x = turned a.x b.x p x;
        is_y = turned a.y b.y p y;
        is_z = turned a.z b.z p z;
        is_w = ring (pos (nat_abs (dot b b)) ∷ pos (nat_abs (dot a b)) ∷ []) (at 0 ⊗ o) (at 1 ⊗ o) tt;
      }
    where
      turned : (x y : ℤ) → pos 0 <ℤ dot b b → dot b b *ℤ x ≡ dot a b *ℤ y → pos (nat_abs (dot b b)) *ℤ x ≡ pos (nat_abs (dot a b)) *ℤ y
      turned x y p e = ap (λ r. r *ℤ x) (pos-abs (dot b b) p) ∙ e ∙ sym (ap (λ r. r *ℤ y) (pos-abs (dot a b) s.forward))

-- ---- and back
module _ (a b : Vector) (s : SameUpToFactor (of_direction a) (of_direction b)) (n : IsDirection a) where
  factor-zero : (x : ℤ) → pos s.l *ℤ x ≡ pos 0 → x ≡ pos 0
  factor-zero x e = cancel_eq x (pos 0) (pos s.l) (counted-positive s.l s.some_l) (ring (x ∷ pos s.l ∷ []) (at 0 ⊗ at 1) (at 1 ⊗ at 0) tt ∙ e ∙ ring (pos s.l ∷ []) (num (pos 0)) (num (pos 0) ⊗ at 0) tt)

  pub factor-same : SameDirection a b
  factor-same =
      let xs = a.x ∷ a.y ∷ a.z ∷ b.x ∷ b.y ∷ b.z ∷ pos s.k ∷ pos s.l ∷ [] in
      let o = num (pos 0) in
      let k = at 6 in let l = at 7 in
      -- l (a x b) = a x (k a) = 0
      let x = follows xs (l ⊗ (at 1 ⊗ at 5 ⊖ at 2 ⊗ at 4)) o (given (o ⊖ at 1) (k ⊗ at 2) (l ⊗ at 5) s.is_z (given (at 2) (k ⊗ at 1) (l ⊗ at 4) s.is_y none)) tt in
      let y = follows xs (l ⊗ (at 2 ⊗ at 3 ⊖ at 0 ⊗ at 5)) o (given (o ⊖ at 2) (k ⊗ at 0) (l ⊗ at 3) s.is_x (given (at 0) (k ⊗ at 2) (l ⊗ at 5) s.is_z none)) tt in
      let z = follows xs (l ⊗ (at 0 ⊗ at 4 ⊖ at 1 ⊗ at 3)) o (given (o ⊖ at 0) (k ⊗ at 1) (l ⊗ at 4) s.is_y (given (at 1) (k ⊗ at 0) (l ⊗ at 3) s.is_x none)) tt in
      -- l (a.b) = k (a.a)
      let f = follows xs ((at 0 ⊗ at 3 ⊕ at 1 ⊗ at 4 ⊕ at 2 ⊗ at 5) ⊗ l) (k ⊗ (at 0 ⊗ at 0 ⊕ at 1 ⊗ at 1 ⊕ at 2 ⊗ at 2))
      (given (o ⊖ at 0) (k ⊗ at 0) (l ⊗ at 3) s.is_x (given (o ⊖ at 1) (k ⊗ at 1) (l ⊗ at 4) s.is_y (given (o ⊖ at 2) (k ⊗ at 2) (l ⊗ at 5) s.is_z none))) tt in
      let g = mul_pos (pos s.k) (dot a a) (counted-positive s.k s.some_k) (self-pos a n) in
      record {
        parallel = (factor-zero _ x, factor-zero _ y, factor-zero _ z);
        forward = cancel_lt (pos 0) (dot a b) (pos s.l) (counted-positive s.l s.some_l) (omega (arith, ints));
      }

-- THE SAME DIRECTION IS THE SAME UP TO A POSITIVE FACTOR
pub same-direction : (a b : Vector) → SameDirection a b ↔ SameUpToFactor (of_direction a) (of_direction b) × IsDirection a
same-direction a b = (λ s. (same-factor a b s, direction-left a b s), λ t. factor-same a b t.0 t.1)
