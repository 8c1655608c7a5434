-- Planes as they are read from four numbers.
use Rattle.std.specs.Prelude.{◌≡◌, ◌≤◌, ◌*ℤ◌, ◌<ℤ◌, ◌∷◌}
use Rattle.nef_space.specs.Prelude.{ℤ, pos, neg_ℤ, nat_abs, List, [], half_side, normal_limit, offset_limit, Form, form}

-- no coefficient of the form is past its limit
pub record IsInRange (h : Form) : Type 0 where
  pub a_small : nat_abs h.a ≤ normal_limit
  pub b_small : nat_abs h.b ≤ normal_limit
  pub c_small : nat_abs h.c ≤ normal_limit
  pub d_small : nat_abs h.d ≤ offset_limit

-- h is a positive multiple of g
pub record IsPositiveMultiple (h g : Form) : Type 0 where
  pub factor : ℤ
  pub positive : pos 0 <ℤ factor
  pub a_is : h.a ≡ factor *ℤ g.a
  pub b_is : h.b ≡ factor *ℤ g.b
  pub c_is : h.c ≡ factor *ℤ g.c
  pub d_is : h.d ≡ factor *ℤ g.d

-- the planes of the frame's six sides: x, then y, then z, each first at -half_side and then at half_side
abbrev pub side_forms : List Form
side_forms =
    form (pos 1) (pos 0) (pos 0) (pos half_side)
    ∷ form (pos 1) (pos 0) (pos 0) (neg_ℤ (pos half_side))
    ∷ form (pos 0) (pos 1) (pos 0) (pos half_side)
    ∷ form (pos 0) (pos 1) (pos 0) (neg_ℤ (pos half_side))
    ∷ form (pos 0) (pos 0) (pos 1) (pos half_side)
    ∷ form (pos 0) (pos 0) (pos 1) (neg_ℤ (pos half_side))
    ∷ []
