-- A point at which three planes of the program with independent normals meet is one of the program's points.
use Rattle.nef_statement.proofs.text.existence.Prelude.{◌≡◌, ◌*◌, ◌≤◌, ℤ, pos, negsuc, neg_ℤ, ◌*ℤ◌, ◌<ℤ◌, nat_abs, arith, ◌∷◌, of_z, [], ints, by_order, at, num, neg, ◌⊗◌, follows, given, none, normal_limit, offset_limit, point_limit, weight_limit, SpacePoint, Form, form_at, normal_of, SamePoint, vector, cross, IsAtMost, IsReduced, IsSameRatios, point_of, form_of, Plane, Point, part_small, part_positive, dot_size, cross_size, normal_within}
use Rattle.nef_geo.proofs.Cramer.{constants, meet_x, meet_y, meet_z, meet_w, IsOnlyCommon-from_ratios}
use Rattle.nef_statement.proofs.text.existence.Reduced.{reduce}
use Rattle.nef_space.proofs.Elementary.{size-opposite_within}

-- the point with these numbers, reduced
pub point-with : (x y z w : ℤ) → nat_abs x ≤ point_limit → nat_abs y ≤ point_limit → nat_abs z ≤ point_limit → nat_abs w ≤ weight_limit → pos 0 <ℤ w → (q : Point) × IsReduced x y z w q.x q.y q.z q.w
point-with x y z w a b c d p =
    let r = reduce x y z w p in
    let R = r.reduced in (
      record {
        x = r.x';
        y = r.y';
        z = r.z';
        w = r.w';
        x_small = part_small point_limit R.factor x r.x' R.positive R.x_is a;
        y_small = part_small point_limit R.factor y r.y' R.positive R.y_is b;
        z_small = part_small point_limit R.factor z r.z' R.positive R.z_is c;
        w_small = part_small weight_limit R.factor w r.w' R.positive R.w_is d;
        proper = part_positive R.factor w r.w' R.positive p R.w_is;
        lowest = R.lowest;
      },
      R,
    )

module _ (f g h : Plane) where
  abbrev F : Form
  F = form_of f

  abbrev G : Form
  G = form_of g

  abbrev H : Form
  H = form_of h

  within : IsAtMost offset_limit (constants F G H)
  within = record { of_x = f.d_small; of_y = g.d_small; of_z = h.d_small }

  gh : IsAtMost (2 * (normal_limit * normal_limit)) (cross (normal_of G) (normal_of H))
  gh = cross_size normal_limit normal_limit (normal_of G) (normal_of H) (normal_within g) (normal_within h)

  hf : IsAtMost (2 * (normal_limit * normal_limit)) (cross (normal_of H) (normal_of F))
  hf = cross_size normal_limit normal_limit (normal_of H) (normal_of F) (normal_within h) (normal_within f)

  fg : IsAtMost (2 * (normal_limit * normal_limit)) (cross (normal_of F) (normal_of G))
  fg = cross_size normal_limit normal_limit (normal_of F) (normal_of G) (normal_within f) (normal_within g)

  x-small : nat_abs (meet_x F G H) ≤ point_limit
  x-small = dot_size offset_limit (2 * (normal_limit * normal_limit)) (constants F G H) (vector (cross (normal_of G) (normal_of H)).x (cross (normal_of H) (normal_of F)).x (cross (normal_of F) (normal_of G)).x) within (record { of_x = gh.of_x; of_y = hf.of_x; of_z = fg.of_x })

  y-small : nat_abs (meet_y F G H) ≤ point_limit
  y-small = dot_size offset_limit (2 * (normal_limit * normal_limit)) (constants F G H) (vector (cross (normal_of G) (normal_of H)).y (cross (normal_of H) (normal_of F)).y (cross (normal_of F) (normal_of G)).y) within (record { of_x = gh.of_y; of_y = hf.of_y; of_z = fg.of_y })

  z-small : nat_abs (meet_z F G H) ≤ point_limit
  z-small = dot_size offset_limit (2 * (normal_limit * normal_limit)) (constants F G H) (vector (cross (normal_of G) (normal_of H)).z (cross (normal_of H) (normal_of F)).z (cross (normal_of F) (normal_of G)).z) within (record { of_x = gh.of_z; of_y = hf.of_z; of_z = fg.of_z })

  w-small : nat_abs (meet_w F G H) ≤ weight_limit
  w-small = dot_size normal_limit (2 * (normal_limit * normal_limit)) (normal_of F) (cross (normal_of G) (normal_of H)) (normal_within f) gh

  -- the ratio -m : w by the reduced one of -m : w, or of m : -w
  ratio : (m w k x w' : ℤ) → neg_ℤ m ≡ k *ℤ x → w ≡ k *ℤ w' → neg_ℤ m *ℤ w' ≡ x *ℤ w
  ratio m w k x w' e q = follows (m ∷ w ∷ k ∷ x ∷ w' ∷ []) (neg (at 0) ⊗ at 4) (at 3 ⊗ at 1) (given (at 4) (neg (at 0)) (at 2 ⊗ at 3) e (given (num (negsuc 0) ⊗ at 3) (at 1) (at 2 ⊗ at 4) q none)) tt

  ratio-turned : (m w k x w' : ℤ) → m ≡ k *ℤ x → neg_ℤ w ≡ k *ℤ w' → neg_ℤ m *ℤ w' ≡ x *ℤ w
  ratio-turned m w k x w' e q = follows (m ∷ w ∷ k ∷ x ∷ w' ∷ []) (neg (at 0) ⊗ at 4) (at 3 ⊗ at 1) (given (num (negsuc 0) ⊗ at 4) (at 0) (at 2 ⊗ at 3) e (given (at 3) (neg (at 1)) (at 2 ⊗ at 4) q none)) tt

  abbrev Ratios : Point → Type 0
  Ratios q = IsSameRatios (neg_ℤ (meet_x F G H)) (neg_ℤ (meet_y F G H)) (neg_ℤ (meet_z F G H)) (meet_w F G H) q.x q.y q.z q.w

  with-ratios : (meet_w F G H ≡ pos 0 → ⊥) → (q : Point) × Ratios q
  with-ratios some = by_order (meet_w F G H) (pos 0)
      (λ l.
      let (q, R) = point-with (meet_x F G H) (meet_y F G H) (meet_z F G H) (neg_ℤ (meet_w F G H)) x-small y-small z-small (size-opposite_within weight_limit (meet_w F G H) w-small) (omega (arith, ints, l)) in (
        q,
        record {
          along_x = ratio-turned (meet_x F G H) (meet_w F G H) R.factor q.x q.w R.x_is R.w_is;
          along_y = ratio-turned (meet_y F G H) (meet_w F G H) R.factor q.y q.w R.y_is R.w_is;
          along_z = ratio-turned (meet_z F G H) (meet_w F G H) R.factor q.z q.w R.z_is R.w_is;
        },
      ))
      (λ e. absurd (some e))
      (λ l.
      let (q, R) = point-with (neg_ℤ (meet_x F G H)) (neg_ℤ (meet_y F G H)) (neg_ℤ (meet_z F G H)) (meet_w F G H)
      (size-opposite_within point_limit (meet_x F G H) x-small) (size-opposite_within point_limit (meet_y F G H) y-small) (size-opposite_within point_limit (meet_z F G H) z-small) w-small l in (
        q,
        record {
          along_x = ratio (meet_x F G H) (meet_w F G H) R.factor q.x q.w R.x_is R.w_is;
          along_y = ratio (meet_y F G H) (meet_w F G H) R.factor q.y q.w R.y_is R.w_is;
          along_z = ratio (meet_z F G H) (meet_w F G H) R.factor q.z q.w R.z_is R.w_is;
        },
      ))

  -- THE MEET IS A POINT
  pub meet-point : (p : SpacePoint) → form_at F p ≡ pos 0 → form_at G p ≡ pos 0 → form_at H p ≡ pos 0 → (meet_w F G H ≡ pos 0 → ⊥) → (q : Point) × SamePoint p (point_of q)
  meet-point p a b c some = let (q, R) = with-ratios some in (q, (IsOnlyCommon-from_ratios F G H q.x q.y q.z q.w q.proper some R).only p a b c)
