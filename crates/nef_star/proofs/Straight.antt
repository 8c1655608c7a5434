-- Stars of two opposite rays.
use Rattle.nef_star.proofs.Prelude.{◌≡◌, ℕ, zero, suc, ◌<◌, pos, List, [], ◌∷◌, length, map, Bool, true, false, cond, arith, refl, sym, ap, subst, ◌∙◌, inl, inr, get_or, All, length-map, All-cons, All-nil, ints, normal_limit, svertex_limit, IsBelow, Vector, dot, opposite, direction_numbers, IsDirection, IsAtMost, IsNormal, SameDirection, vector_of, Dir, IsOnCircle, IsStraight, Ray, Star, ray_of, star_of, left_of, left_at, sector_count, IsRayBelow, AreStraight, IsRay, IsStar, IsTurning, dot-comm, self-pos, opposite-dot, dir-self}
use Rattle.law_geometry.specs.sphere.Stars.{Ray as PlainRay}
use Rattle.nef_star.proofs.RayOrder.{ray-below-self}
use Rattle.nef_star.proofs.Pushed.{left-on_circle}
use Rattle.nef_star.proofs.RoundStars.{same-dirs as dir_equal}
use Rattle.std.proofs.lemmas.Bool.{false≢true}

pub two_items : {X : Type 0} (xs : List X) (q r : X) → length xs ≡ 2 → q ≡ get_or xs 0 q → r ≡ get_or xs 1 r → xs ≡ q ∷ r ∷ []
two_items [] q r n e f = absurd (omega (arith, n))
two_items (x ∷ []) q r n e f = absurd (omega (arith, n))
two_items (x ∷ y ∷ []) q r n e f = rw (e, f) refl
two_items (x ∷ y ∷ z ∷ xs) q r n e f = absurd (omega (arith, n))

pub some_two : {X : Type 0} (xs : List X) → length xs ≡ 2 → (q : X) × (r : X) × (xs ≡ q ∷ r ∷ [])
some_two [] n = absurd (omega (arith, n))
some_two (x ∷ []) n = absurd (omega (arith, n))
some_two (x ∷ y ∷ []) n = (x, y, refl)
some_two (x ∷ y ∷ z ∷ xs) n = absurd (omega (arith, n))

-- one ray goes ahead and the other back
abbrev pub Turned : Ray → Ray → Type 0
Turned q r = (q.ahead ≡ true) × (r.ahead ≡ false)

abbrev left : Dir → Bool → Vector
left n b = cond b (vector_of n) (opposite (vector_of n))

-- of two rays with one normal that leave in different directions, one goes ahead
pub ahead_first : (q r : Ray) → IsDirection (left_of q) → (SameDirection (left_of q) (left_of r) → ⊥) → (IsRayBelow r q → ⊥) → q.normal ≡ r.normal → Turned q r
ahead_first q r d apart least e = by q.ahead r.ahead refl refl
  where
    alike : q.ahead ≡ r.ahead → ⊥
    alike f = apart (subst (SameDirection (left_of q)) (ap (λ (n : Dir). left n q.ahead) e ∙ ap (left r.normal) f) (dir-self (left_of q) d))

    by : (b c : Bool) → q.ahead ≡ b → r.ahead ≡ c → Turned q r
    by true true f g = absurd (alike (f ∙ sym g))
    by true false f g = (f, g)
    by false true f g = absurd (least (inr (sym e, g, f)))
    by false false f g = absurd (alike (f ∙ sym g))

pub straight_if : (t : Star) → IsStar t → (q r : Ray) → t.rays.items ≡ q ∷ r ∷ [] → AreStraight q r t.mark → IsStraight (star_of t)
straight_if t T q r e (same, m, m') =
    let turning = T.turned.counterclockwise in
    let two : length t.rays.items ≡ 2 = ap length e in
    let l0 : left_at t.rays.items 0 ≡ left_of q = ap (λ (l : List Ray). left_at l 0) e in
    let l1 : left_at t.rays.items 1 ≡ left_of r = ap (λ (l : List Ray). left_at l 1) e in
    let turned = ahead_first q r (subst IsDirection l0 (turning.circle 0 (omega (arith, two))).direction)
    (λ s. turning.apart 1 (omega arith) (omega (arith, two)) (rw (l0, l1) s))
    (T.least_first 1 q r (omega (arith, two)) (ap (λ (l : List Ray). get_or l 0 q) e) (ap (λ (l : List Ray). get_or l 1 r) e)) same in
    let s = some_two t.sectors.items (T.turned.sectors ∙ ap sector_count e) in
    record {
      first = ray_of q;
      second = ray_of r;
      two_rays = ap (map ray_of) e;
      pos = s.0;
      neg = s.1;
      two_sectors = s.2;
      one_normal = ap vector_of same;
      first_ahead = turned.0;
      second_behind = turned.1;
      first_mark = m;
      second_mark = m';
    }

pub straight_two : (t : Star) → IsStraight (star_of t) → length t.rays.items ≡ 2
straight_two t S = sym (length-map t.rays.items ray_of) ∙ ap length S.two_rays

pub straight_then : (t : Star) → IsStraight (star_of t) → (q r : Ray) → t.rays.items ≡ q ∷ r ∷ [] → AreStraight q r t.mark
straight_then t S q r e =
    let both : map ray_of (q ∷ r ∷ []) ≡ S.first ∷ S.second ∷ [] = sym (ap (map ray_of) e) ∙ S.two_rays in
    let one : ray_of q ≡ S.first = ap (λ (l : List PlainRay). get_or l 0 (ray_of q)) both in
    let other : ray_of r ≡ S.second = ap (λ (l : List PlainRay). get_or l 1 (ray_of q)) both in (
      dir_equal q.normal r.normal (ap (λ (p : PlainRay). p.normal) one ∙ S.one_normal ∙ sym (ap (λ (p : PlainRay). p.normal) other)),
      ap (λ (p : PlainRay). p.mark) one ∙ S.first_mark,
      ap (λ (p : PlainRay). p.mark) other ∙ S.second_mark,
    )

-- ---- the star of a plane: its two rays
module _ (a : Vector) (axis : IsDirection a) (q r : Ray) (Q : IsRay a q) (R : IsRay a r) (one : q.normal ≡ r.normal) (ahead : q.ahead ≡ true) (behind : r.ahead ≡ false) where
  first-left : left_of q ≡ vector_of q.normal
  first-left = ap (left q.normal) ahead

  second-left : left_of r ≡ opposite (vector_of q.normal)
  second-left = ap (left r.normal) behind ∙ ap (λ (n : Dir). opposite (vector_of n)) (sym one)

  back-apart : SameDirection (vector_of q.normal) (opposite (vector_of q.normal)) → ⊥
  back-apart s =
      let v = vector_of q.normal in
      let p = self-pos v q.normal.some in let f = s.forward in let e = dot-comm v (opposite v) in let z = opposite-dot v v in
      omega (arith, ints, p, f, e, z)

  pub plane-turning : IsTurning a 2 (left_at (q ∷ r ∷ []))
  plane-turning = record { circle = circle; apart = apart; rising = λ i k x y z. absurd (omega (arith, x, y, z)) }
    where
      circle : (k : ℕ) → k < 2 → IsOnCircle a (left_at (q ∷ r ∷ []) k)
      circle zero h = left-on_circle a q Q
      circle (suc zero) h = left-on_circle a r R
      circle (suc (suc k)) h = absurd (omega (arith, h))

      apart : (k : ℕ) → 0 < k → k < 2 → SameDirection (left_of q) (left_at (q ∷ r ∷ []) k) → ⊥
      apart zero p h s = absurd (omega (arith, p))
      apart (suc zero) p h s = back-apart (subst (λ (v : Vector). SameDirection v (opposite (vector_of q.normal))) first-left (subst (SameDirection (left_of q)) second-left s))
      apart (suc (suc k)) p h s = absurd (omega (arith, h))

  none_below : (k : ℕ) (x y : Ray) → k < 2 → q ≡ x → get_or (q ∷ r ∷ []) k y ≡ y → IsRayBelow y x → ⊥
  none_below zero x y h e f b = ray-below-self q (subst (λ (z : Ray). IsRayBelow z q) (sym f) (subst (IsRayBelow y) (sym e) b))
  none_below (suc zero) x y h e f b = not-below (subst (λ (z : Ray). IsRayBelow z q) (sym f) (subst (IsRayBelow y) (sym e) b))
    where
      not-below : IsRayBelow r q → ⊥
      not-below (inl z) = ray-below-self q (inl (subst (λ (n : Dir). IsBelow (direction_numbers (vector_of n)) (direction_numbers (vector_of q.normal))) (sym one) z))
      not-below (inr (z, w, v)) = false≢true (sym behind ∙ w)
  none_below (suc (suc k)) x y h e f b = absurd (omega (arith, h))

pub plane-star : (t : Star) (q r : Ray) → t.rays.items ≡ q ∷ r ∷ [] → length t.sectors.items ≡ 2 → IsAtMost svertex_limit (vector_of t.axis) → IsRay (vector_of t.axis) q → IsRay (vector_of t.axis) r
    → q.normal ≡ r.normal → q.ahead ≡ true → r.ahead ≡ false → IsStar t
plane-star t q r e m small Q R one ahead behind =
    let a = vector_of t.axis in
    record {
      turned = record {
        axis_small = small;
        rays = subst (All (IsRay a)) (sym e) (All-cons (IsRay a) q (r ∷ []) Q (All-cons (IsRay a) r [] R (All-nil (IsRay a))));
        counterclockwise = subst (λ (l : List Ray). IsTurning a (length l) (left_at l)) (sym e) (plane-turning a t.axis.some q r Q R one ahead behind);
        sectors = subst (λ (l : List Ray). length t.sectors.items ≡ sector_count l) (sym e) m;
      };
      least_first = subst (λ (l : List Ray). (k : ℕ) (x y : Ray) → k < length l → get_or l 0 x ≡ x → get_or l k y ≡ y → IsRayBelow y x → ⊥) (sym e)
          (none_below a t.axis.some q r Q R one ahead behind);
    }

at-most-more : (v : Vector) → IsAtMost normal_limit v → IsAtMost svertex_limit v
at-most-more v h = let x = h.of_x in let y = h.of_y in let z = h.of_z in record { of_x = omega (arith, x); of_y = omega (arith, y); of_z = omega (arith, z) }

ray-along : (a : Dir) (n : Dir) (r : Ray) → r.normal ≡ n → dot (vector_of n) (vector_of a) ≡ pos 0 → IsAtMost normal_limit (vector_of n) → IsNormal (vector_of n) → IsRay (vector_of a) r
ray-along a n r e level small normal = record {
  level = subst (λ (d : Dir). dot (vector_of d) (vector_of a) ≡ pos 0) (sym e) level;
  small = subst (λ (d : Dir). IsAtMost normal_limit (vector_of d)) (sym e) small;
  normal = subst (λ (d : Dir). IsNormal (vector_of d)) (sym e) normal;
}

-- the same with the axis a and the normal n
pub plane-star-of : (t : Star) (q r : Ray) (a n : Dir) → t.axis ≡ a → t.rays.items ≡ q ∷ r ∷ [] → length t.sectors.items ≡ 2 → IsAtMost normal_limit (vector_of a)
    → dot (vector_of n) (vector_of a) ≡ pos 0 → IsAtMost normal_limit (vector_of n) → IsNormal (vector_of n) → q.normal ≡ n → r.normal ≡ n → q.ahead ≡ true → r.ahead ≡ false → IsStar t
plane-star-of t q r a n e rays m small level slight normal f h ahead behind =
    plane-star t q r rays m (subst (λ (d : Dir). IsAtMost svertex_limit (vector_of d)) (sym e) (at-most-more (vector_of a) small))
    (subst (λ (d : Dir). IsRay (vector_of d) q) (sym e) (ray-along a n q f level slight normal))
    (subst (λ (d : Dir). IsRay (vector_of d) r) (sym e) (ray-along a n r h level slight normal)) (f ∙ sym h) ahead behind
