-- Where a plane parts two points, it crosses the line between them in one point strictly between.
use Rattle.nef_cand.proofs.Prelude.{SpacePoint, Form, form_at, normal_of, toward, SamePoint, HasDependentNormals, IsOnlyCommon, form_of, HasOppositeSigns, Plane, between-same, same-point_sym, plane-way, parted-slope, parted-cut, parted-apart, held-between, crossed-parted, independent, IsCutBetween}
use Rattle.nef_cand.proofs.Planes.{IsLineThrough}
use Rattle.nef_space.proofs.Elementary.{same-itself}

-- ---- three planes
module _ (f g h : Plane) (p q : SpacePoint) (L : IsLineThrough f g p q) (s : HasOppositeSigns (form_at (form_of h) p) (form_at (form_of h) q)) where
  pub never-dependent : HasDependentNormals (form_of f) (form_of g) (form_of h) → ⊥
  never-dependent t =
      parted-slope (form_of h) p q s
      (independent (normal_of (form_of f)) (normal_of (form_of g)) (normal_of (form_of h)) (toward p q) L.independent
      (plane-way (form_of f) p q L.first.0 L.first.1) (plane-way (form_of g) p q L.second.0 L.second.1) t)

  module _ (m : SpacePoint) (M : IsOnlyCommon (form_of f) (form_of g) (form_of h) m) where
    only-crossing : (y : SpacePoint) → IsCutBetween (form_of h) p q y → SamePoint y m
    only-crossing y c = M.only y (held-between (form_of f) p q y c.between L.first) (held-between (form_of g) p q y c.between L.second) c.on

    pub meet-crosses : IsCutBetween (form_of h) p q m × ((y : SpacePoint) → IsCutBetween (form_of h) p q y → SamePoint m y)
    meet-crosses =
        let y = parted-cut (form_of h) p q s in
        let apart = parted-apart (form_of h) p q s in (
          record {
            between = between-same p y.0 q p m q (same-itself p) (only-crossing y.0 (record { between = y.1; on = y.2; parts = apart })) (same-itself q) y.1;
            on = M.on_r;
            parts = apart;
          },
          λ y c. same-point_sym y m (only-crossing y c),
        )

-- where the plane doesn't part the points it doesn't cross
pub never-crosses : (h : Form) (p q : SpacePoint) → (HasOppositeSigns (form_at h p) (form_at h q) → ⊥) → (y : SpacePoint) → IsCutBetween h p q y → ⊥
never-crosses h p q n y c = n (crossed-parted h p q y c.between c.on c.parts)
