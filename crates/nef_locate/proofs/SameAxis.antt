-- Planes with the same normal have the same axis.
use Rattle.nef_locate.proofs.Prelude.{◌≡◌, pos, Bool, true, false, cond, ◌&&◌, ap, ◌∙◌, subst, int_eq, Vector, SameDirection, plane_axis, beside_x, beside_y, SameUpToFactor, of_direction, factor-same, axis-in, opposed, direction-left}
use Rattle.law_geometry.proofs.near.Directions.{same-factor}
use Rattle.nef_conn.proofs.SamePlanes.{level, same-test}

module _ (n m : Vector) (F : SameUpToFactor (of_direction n) (of_direction m)) where
  beside-factor : (t : Bool) → SameUpToFactor (of_direction (cond t (beside_y n) (beside_x n))) (of_direction (cond t (beside_y m) (beside_x m)))
  beside-factor true = record { k = F.k; l = F.l; some_k = F.some_k; some_l = F.some_l; is_x = opposed F.k F.l n.z m.z F.is_z; is_y = level n m F; is_z = F.is_x; is_w = F.is_w }
  beside-factor false = record { k = F.k; l = F.l; some_k = F.some_k; some_l = F.some_l; is_x = level n m F; is_y = F.is_z; is_z = opposed F.k F.l n.y m.y F.is_y; is_w = F.is_w }

  alike : (int_eq n.z (pos 0) && int_eq n.y (pos 0)) ≡ (int_eq m.z (pos 0) && int_eq m.y (pos 0))
  alike = ap (λ t. t && int_eq n.y (pos 0)) (same-test n m F n.z m.z F.is_z) ∙ ap (λ t. int_eq m.z (pos 0) && t) (same-test n m F n.y m.y F.is_y)

  axis-factor : SameUpToFactor (of_direction (plane_axis n)) (of_direction (plane_axis m))
  axis-factor = subst (λ (t : Bool). SameUpToFactor (of_direction (plane_axis n)) (of_direction (cond t (beside_y m) (beside_x m)))) alike (beside-factor (int_eq n.z (pos 0) && int_eq n.y (pos 0)))

-- planes with the same normal have the same axis
pub axis-same : (n m : Vector) → SameDirection n m → SameDirection (plane_axis n) (plane_axis m)
axis-same n m w = factor-same (plane_axis n) (plane_axis m) (axis-factor n m (same-factor n m w)) (axis-in n (direction-left n m w)).0
