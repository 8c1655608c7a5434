use Rattle.nef_geo.proofs.Prelude.{◌≡◌, ℕ, ◌*◌, ◌<◌, ℤ, nat_abs, false, true, arith, sym, ap, subst, ◌∙◌, false≢true, half_side}
use Rattle.nef_geo.proofs.Products.{kept}
use Rattle.nef_geo.proofs.point.Point.in_frame.Goals as goal
use Rattle.nef_geo.proofs.point.Point.in_frame.Goals.{then-is_below, else-is_below}

below_same : (m n : ℤ) (k l : ℕ) → m ≡ n → k ≡ l → nat_abs m < k → nat_abs n < l
below_same m n k l e f h = subst (λ (i : ℤ). nat_abs i < l) e (subst (λ (j : ℕ). nat_abs m < j) f h)

pub returns-then-is_below-2 : goal.returns-then-is_below-2
returns-then-is_below-2 c =
    let s = c.args.self.now in
    let x = kept s.x s.x_small in let y = kept s.y s.y_small in let z = kept s.z s.z_small in
    let w = kept s.w (omega (arith, s.w_small)) in
    let side : c.unsigned_abs.result * c.unsigned_abs-2.result ≡ half_side * nat_abs s.w =
    ap (λ (n : ℕ). n * c.unsigned_abs-2.result) c.unsigned_abs.ensures.value
    ∙ ap (λ (n : ℕ). half_side * n) c.unsigned_abs-2.ensures.value
    ∙ ap (λ (n : ℤ). half_side * nat_abs n) w in
    record {
      in_frame = (
        λ t. elim c.if-is_below.branch [
          | then-is_below v ↦ record {
            along_x = below_same _ _ _ _ x side (c.is_below.ensures.below.0 v.if-is_below.true);
            along_y = below_same _ _ _ _ y side (v.is_below-then-is_below.ensures.below.0 (sym v.value-is ∙ c.if-is_below-2.true));
            along_z = below_same _ _ _ _ z side (c.is_below-then-is_below-2.ensures.below.0 t);
          }
          | else-is_below v ↦ let no : false ≡ true = sym v.if-is_below.false ∙ sym v.value-is ∙ c.if-is_below-2.true in absurd (false≢true no)
        ],
        λ f. c.is_below-then-is_below-2.ensures.below.1 (below_same _ _ _ _ (sym z) (sym side) f.along_z),
      );
    }
