-- The order of crossings by their steps.
use Rattle.nef_ray.proofs.Prelude.{◌≡◌, ℤ, ◌*ℤ◌, ◌≤ℤ◌, ◌<ℤ◌, true, false, Ordering, Less, Equal, Greater, arith, ap, refl, ints, IsStrictWeakOrder, int_ranks, MatchOrdering, int_cmp, is_lt, fraction-le-trans, SpacePoint, SamePoint, IsAhead, Vector, IsDirection, IsReached, hit_point, never-same, never-both, Crossed, crossed_lt}
use Rattle.std.specs.Cmp.{int_cmp_is}
use Rattle.nef_geo.proofs.Along.{along-ray}

-- ---- what an answer says
less-of : (a b : ℤ) (o : Ordering) → MatchOrdering o (a <ℤ b) (a ≡ b) (b <ℤ a) → is_lt o ≡ true → a <ℤ b
less-of a b Less h e = h
less-of a b Equal h e = cc
less-of a b Greater h e = cc

most-of : (a b : ℤ) (o : Ordering) → MatchOrdering o (a <ℤ b) (a ≡ b) (b <ℤ a) → is_lt o ≡ false → b ≤ℤ a
most-of a b Less h e = cc
most-of a b Equal h e = omega (arith, ints, h)
most-of a b Greater h e = omega (arith, ints, h)

of-most : (a b : ℤ) (o : Ordering) → MatchOrdering o (a <ℤ b) (a ≡ b) (b <ℤ a) → b ≤ℤ a → is_lt o ≡ false
of-most a b Less h l = absurd (omega (arith, ints, h, l))
of-most a b Equal h l = refl
of-most a b Greater h l = refl

-- ---- the order
abbrev first : Crossed → Crossed → ℤ
first x y = x.at.num *ℤ y.at.den

pub steps_weak : IsStrictWeakOrder crossed_lt
steps_weak = record {
  one_way = λ x y e.
      let l = less-of (first x y) (first y x) (int_cmp (first x y) (first y x)) (int_ranks (first x y) (first y x)) e in
      of-most (first y x) (first x y) (int_cmp (first y x) (first x y)) (int_ranks (first y x) (first x y)) (omega (arith, ints, l));
  chain = λ x y z e f.
      of-most (first x z) (first z x) (int_cmp (first x z) (first z x)) (int_ranks (first x z) (first z x))
      (fraction-le-trans z.at.num z.at.den y.at.num y.at.den x.at.num x.at.den z.at.den_sign y.at.den_sign x.at.den_sign
      (most-of (first y z) (first z y) (int_cmp (first y z) (first z y)) (int_ranks (first y z) (first z y)) f)
      (most-of (first x y) (first y x) (int_cmp (first x y) (first y x)) (int_ranks (first x y) (first y x)) e));
}

pub answers-step : (x y : Crossed) (o : Ordering) → MatchOrdering o (first x y <ℤ first y x) (first x y ≡ first y x) (first y x <ℤ first x y) → is_lt o ≡ crossed_lt x y
answers-step x y o h = ap is_lt (int_cmp_is (first x y) (first y x) o h)

-- where the step of y isn't the smaller one, y doesn't lie before x
pub not-ahead : (p : SpacePoint) (d : Vector) → IsDirection d → (x y : Crossed) → IsReached p d x.at.num x.at.den x.at.den_sign (hit_point x.at) → IsReached p d y.at.num y.at.den y.at.den_sign (hit_point y.at) → crossed_lt y x ≡ false
    → IsAhead (hit_point y.at) d (hit_point x.at) → ⊥
not-ahead p d some x y r t e a =
    let o = int_cmp (first y x) (first x y) in
    by o (along-ray p d y.at.num y.at.den (hit_point y.at) x.at.num x.at.den (hit_point x.at) o some y.at.den_sign x.at.den_sign t r (int_ranks (first y x) (first x y))) e
  where
    by : (o : Ordering) → MatchOrdering o (IsAhead (hit_point y.at) d (hit_point x.at)) (SamePoint (hit_point y.at) (hit_point x.at)) (IsAhead (hit_point x.at) d (hit_point y.at)) → is_lt o ≡ false → ⊥
    by Less h e = cc
    by Equal h e = never-same (hit_point y.at) (hit_point x.at) d a h
    by Greater h e = never-both (hit_point y.at) (hit_point x.at) d a h
