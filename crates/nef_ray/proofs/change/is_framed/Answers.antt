use Rattle.nef_ray.proofs.Prelude.{◌≡◌, ℕ, ◌*◌, ◌≤◌, ℤ, nat_abs, false, true, arith, sym, ap, subst, ◌∙◌, w64, to_z, of_z, half_side, point_limit}
use Rattle.nef_geo.proofs.Products.{kept}
use Rattle.nef_ray.proofs.change.is_framed.Goals as goal
use Rattle.nef_ray.proofs.change.is_framed.Goals.{then-is_within, else-is_within}

read : (n m : ℤ) → n ≡ m → nat_abs m ≤ point_limit → to_z w64 (of_z w64 n) ≡ m
read n m e s = kept n (subst (λ (i : ℤ). nat_abs i ≤ point_limit) (sym e) s) ∙ e

within-same : (m n : ℤ) (k l : ℕ) → m ≡ n → k ≡ l → nat_abs m ≤ k → nat_abs n ≤ l
within-same m n k l e f h = subst (λ (i : ℤ). nat_abs i ≤ l) e (subst (λ (j : ℕ). nat_abs m ≤ j) f h)

pub returns-then-is_within-2 : goal.returns-then-is_within-2
returns-then-is_within-2 c =
    let p = c.args.p.now in
    let z = read c.z.result p.z c.z.ensures.z p.z_small in
    let side : c.unsigned_abs.result * c.unsigned_abs-2.result ≡ half_side * nat_abs p.w =
    ap (λ (n : ℕ). n * c.unsigned_abs-2.result) c.unsigned_abs.ensures.value
    ∙ ap (λ (n : ℕ). half_side * n) c.unsigned_abs-2.ensures.value
    ∙ ap (λ (n : ℤ). half_side * nat_abs n) (read c.w.result p.w c.w.ensures.w (omega (arith, p.w_small))) in
    record {
      framed = (
        λ t. elim c.if-is_within.branch [
          | then-is_within v ↦ record {
            along_x = within-same _ _ _ _ (read c.x.result p.x c.x.ensures.x p.x_small) side (c.is_within.ensures.within.0 v.if-is_within.true);
            along_y = within-same _ _ _ _ (read v.y.result p.y v.y.ensures.y p.y_small) side (v.is_within-then-is_within.ensures.within.0 (sym v.value-is ∙ c.if-is_within-2.true));
            along_z = within-same _ _ _ _ z side (c.is_within-then-is_within-2.ensures.within.0 t);
          }
          | else-is_within v ↦ let no : false ≡ true = sym v.if-is_within.false ∙ sym v.value-is ∙ c.if-is_within-2.true in cc
        ],
        λ f. c.is_within-then-is_within-2.ensures.within.1 (within-same _ _ _ _ (sym z) (sym side) f.along_z),
      );
    }
