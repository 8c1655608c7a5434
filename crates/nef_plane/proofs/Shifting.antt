-- The side of a line beside a point on which another point lies, by one coordinate.
use Rattle.nef_plane.proofs.Prelude.{◌≡◌, ℤ, pos, ◌-ℤ◌, ◌*ℤ◌, nat_abs, ◌≤◌, w64, Bool, true, false, cond, ◌&&◌, sym, ap, ◌∙◌, [], ◌∷◌, int_eq, load, wrap, exact_of, SpacePoint, form_at, toward, Vector, vector, dot, form_of, point_of, sign_of, Sign, Plane, Point, shifted_form, pos-abs}
use mir.Val.{to_z, of_z}
use Rattle.nef_plane.proofs.Close.{first-product, second-product, second-swept, shifted-at}
use Rattle.nef_plane.proofs.Sweep.{exact-of, exact-weight, first-swept}

numbers-same : (x v y w b x' v' y' w' b' : ℤ) → x ≡ x' → v ≡ v' → y ≡ y' → w ≡ w' → b ≡ b' → x *ℤ v -ℤ y *ℤ w -ℤ b *ℤ (v *ℤ w) ≡ x' *ℤ v' -ℤ y' *ℤ w' -ℤ b' *ℤ (v' *ℤ w')
numbers-same x v y w b x' v' y' w' b' e f g h i =
    ap (λ r. r *ℤ v -ℤ y *ℤ w -ℤ b *ℤ (v *ℤ w)) e ∙ ap (λ r. x' *ℤ r -ℤ y *ℤ w -ℤ b *ℤ (r *ℤ w)) f ∙ ap (λ r. x' *ℤ v' -ℤ r *ℤ w -ℤ b *ℤ (v' *ℤ w)) g
    ∙ ap (λ r. x' *ℤ v' -ℤ y' *ℤ r -ℤ b *ℤ (v' *ℤ r)) h ∙ ap (λ r. x' *ℤ v' -ℤ y' *ℤ w' -ℤ r *ℤ (v' *ℤ w')) i

module _ (h : Plane) (p a : Point) (z : ℤ) (small : nat_abs z ≤ 1) (r : Sign) (x w y v : ℤ)
    (sign : r ≡ sign_of (to_z w64 (of_z w64 x) *ℤ to_z w64 (of_z w64 v) -ℤ to_z w64 (of_z w64 y) *ℤ to_z w64 (of_z w64 w) -ℤ to_z w64 (of_z w64 z) *ℤ (to_z w64 (of_z w64 v) *ℤ to_z w64 (of_z w64 w)))) (weight_is : w ≡ a.w) (start_is : v ≡ p.w) where
  abbrev P : SpacePoint
  P = point_of p

  abbrev Q : SpacePoint
  Q = point_of a

  abbrev axis : Bool → Vector
  axis b = cond b (vector (pos 0) (pos 1) (pos 0)) (vector (pos 1) (pos 0) (pos 0))

  read : (n k : ℤ) → to_z w64 (of_z w64 x) ≡ n → to_z w64 (of_z w64 y) ≡ k → r ≡ sign_of (n *ℤ pos P.w -ℤ k *ℤ pos Q.w -ℤ z *ℤ (pos P.w *ℤ pos Q.w))
  read n k e f = sign ∙ ap sign_of (numbers-same _ _ _ _ _ n (pos P.w) k (pos Q.w) z e (exact-weight v p.w start_is p.w_small ∙ sym (pos-abs p.w p.proper)) f (exact-weight w a.w weight_is a.w_small ∙ sym (pos-abs a.w a.proper))
      (exact_of (1 ∷ []) (z ∷ []) (wrap w64 (load 0)) (small, tt) tt))

  beside : (b : Bool) (m : ℤ) → b ≡ (int_eq h.c (pos 0) && int_eq h.b (pos 0)) → r ≡ sign_of (m -ℤ z *ℤ (pos P.w *ℤ pos Q.w)) → m ≡ dot (axis b) (toward P Q) → r ≡ sign_of (form_at (shifted_form (form_of h) P z) Q)
  beside b m e s f = s ∙ ap sign_of (ap (λ t. t -ℤ z *ℤ (pos P.w *ℤ pos Q.w)) (f ∙ ap (λ b. dot (axis b) (toward P Q)) e) ∙ sym (shifted-at (form_of h) P z Q))

  pub second-beside : x ≡ a.y → y ≡ p.y → h.c ≡ pos 0 → h.b ≡ pos 0 → r ≡ sign_of (form_at (shifted_form (form_of h) P z) Q)
  second-beside i j c b = beside true (toward P Q).y (second-swept h c b) (read a.y p.y (exact-of x a.y i a.y_small) (exact-of y p.y j p.y_small)) (second-product (toward P Q))

  pub first-beside : x ≡ a.x → y ≡ p.x → (h.c ≡ pos 0 → h.b ≡ pos 0 → ⊥) → r ≡ sign_of (form_at (shifted_form (form_of h) P z) Q)
  first-beside i j n = beside false (toward P Q).x (first-swept h n) (read a.x p.x (exact-of x a.x i a.x_small) (exact-of y p.x j p.x_small)) (first-product (toward P Q))
