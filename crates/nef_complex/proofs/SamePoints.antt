-- Points that are tested for equality.
use Rattle.nef_complex.proofs.Prelude.{◌≡◌, Bool, true, refl, Decides-and, Decides-int_eq, Point, same_points_equal}
use Rattle.nef_geo.specs.contracts.point.PointPartialEq.TheImpl.{eq-value as point_eq}

pub point-one : (p q : Point) → p.x ≡ q.x → p.y ≡ q.y → p.z ≡ q.z → p.w ≡ q.w → p ≡ q
point-one p q a b c d = same_points_equal p q (record { along_x = rw (a, d) refl; along_y = rw (b, d) refl; along_z = rw (c, d) refl })

abbrev pub point_test : Point → Point → Bool
point_test = point_eq.it

pub points-tested : (p q : Point) → point_test p q ≡ true → p ≡ q
points-tested p q e =
    let h = (Decides-and _ _ (Decides-int_eq p.x q.x) (Decides-and _ _ (Decides-int_eq p.y q.y) (Decides-and _ _ (Decides-int_eq p.z q.z) (Decides-int_eq p.w q.w)))).0 e in
    point-one p q h.0 h.1.0 h.1.1.0 h.1.1.1
