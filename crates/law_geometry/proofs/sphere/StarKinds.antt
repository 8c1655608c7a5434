-- A plain star says that the direction is plain, a straight star that it is straight.
use Rattle.law_geometry.proofs.sphere.Prelude.{◌≡◌, ℕ, zero, suc, pos, ◌-ℤ◌, ◌*ℤ◌, ◌<ℤ◌, arith, refl, ap, sym, ◌∙◌, ◌⊎◌, inl, inr, ⊎_elim, List, ◌∷◌, subst, length, cond, [], ints, num, ◌⊖◌, ◌⊗◌, neg, follows, given, none, minus, nought, plus, sign, sign-plus, sign-minus, sign-scaled, Vector, IsDirection, cross, triple, dot, SameDirection, IsOpposite, IsNormal, Label, IsAt, Map, IsStrictlyOn, by_side, NearPlain, Ray, Star, ray_dir, across, OnRay, NextRay, StarLabel, on_ray, in_sector, in_only_sector, LeavesAxis, StarOf, IsPlain, IsStraight, dot-comm, self-pos, cross-turned, dir-signs, direction-left, cross_of, dir-self, dot_poly, from-opposite, level_cross_second, nought-if, numbers, opposite-cross, square-cross, poly_triple, vec, is-at_none, is-at_first}
use Rattle.nef_space.proofs.Vectors.{normal-direction}
use Rattle.law_geometry.proofs.sphere.Lists.{none-at}

-- a plain direction has a plain star
abbrev pub plain_star : Vector → Label → Star
plain_star d m = record { axis = d; rays = []; sectors = m ∷ []; mark = m }

pub star-plain : (M : Map) (d : Vector) (P : NearPlain M d) → StarOf (plain_star d P.label) M d × IsPlain (plain_star d P.label)
star-plain M d P = (
  record { rays = λ k r a. absurd (is-at_none a); axis = refl; mark = P.at_d; labels = λ e f. (P.label, in_only_sector refl refl, P.near e f) },
  record { no_ray = refl; one_sector = refl },
)

-- ---- the sides of a straight star
-- where n is at right angles to d: n.across(d, e) = (d.d)(n.e)
pub across-side : (n d e : Vector) → dot n d ≡ pos 0 → dot n (across d e) ≡ dot d d *ℤ dot n e
across-side n d e z = follows (numbers n d e e) (poly_triple (vec 0) (cross_of (vec 3) (vec 6)) (vec 3)) (dot_poly 3 3 ⊗ dot_poly 0 6) (given (neg (dot_poly 3 6)) (dot_poly 0 3) (num (pos 0)) z none) tt

-- the turn from n x d to E about d: d.((n x d) x E) = (d.d)(n.E) - (d.n)(d.E)
pub turn-ahead : (n d e : Vector) → dot n d ≡ pos 0 → triple d (cross n d) e ≡ dot d d *ℤ dot n e
turn-ahead n d e z = follows (numbers n d e e) (poly_triple (vec 3) (cross_of (vec 0) (vec 3)) (vec 6)) (dot_poly 3 3 ⊗ dot_poly 0 6) (given (neg (dot_poly 3 6)) (dot_poly 0 3) (num (pos 0)) z none) tt

turn-behind : (n d e : Vector) → dot n d ≡ pos 0 → triple d (cross d n) e ≡ pos 0 -ℤ dot d d *ℤ dot n e
turn-behind n d e z = follows (numbers n d e e) (poly_triple (vec 3) (cross_of (vec 3) (vec 0)) (vec 6)) (num (pos 0) ⊖ dot_poly 3 3 ⊗ dot_poly 0 6) (given (dot_poly 3 6) (dot_poly 0 3) (num (pos 0)) z none) tt

module _ (t : Star) (rays : (k : ℕ) (r : Ray) → IsAt t.rays k r → LeavesAxis t r) (K : IsStraight t) (axis : IsDirection t.axis) where
  abbrev d : Vector
  d = t.axis

  abbrev n : Vector
  n = K.first.normal

  first-at : IsAt t.rays zero K.first
  first-at = subst (λ (r : List Ray). IsAt r zero K.first) (sym K.two_rays) refl

  pub straight_star-level : dot n d ≡ pos 0
  straight_star-level = let r = rays zero K.first first-at in r.level

  pub straight_star-normal : IsNormal n
  straight_star-normal = let r = rays zero K.first first-at in r.normal

  ahead : ray_dir t K.first ≡ cross n d
  ahead = ap (λ b. cond b (cross K.first.normal d) (cross d K.first.normal)) K.first_ahead

  behind : ray_dir t K.second ≡ cross d n
  behind = ap (λ b. cond b (cross K.second.normal d) (cross d K.second.normal)) K.second_behind ∙ ap (λ v. cross d v) (sym K.one_normal)

  dd : pos 0 <ℤ dot d d
  dd = self-pos d axis

  -- a plane's side, before and after the projection
  side-of : (e : Vector) → sign (dot n (across d e)) ≡ sign (dot n e)
  side-of e = ap sign (across-side n d e straight_star-level) ∙ sign-scaled (dot d d) (dot n e) dd

  level-on : (w : Vector) (e : Vector) → dot n w ≡ pos 0 → SameDirection w (across d e) → sign (dot n e) ≡ nought
  level-on w e z s = sym (side-of e) ∙ dir-signs w (across d e) n (direction-left w (across d e) s) s ∙ ap sign z

  ahead-level : dot n (cross n d) ≡ pos 0
  ahead-level = square-cross n d

  behind-level : dot n (cross d n) ≡ pos 0
  behind-level = level_cross_second d n

  opposite-ends : IsOpposite (cross n d) (cross d n)
  opposite-ends = from-opposite (cross n d) (cross d n) (subst (λ (v : Vector). SameDirection v (cross d n)) (sym (opposite-cross n d))
      (dir-self (cross d n) (λ z. axis (nought-if n d (normal-direction n straight_star-normal) (cross-turned d n z) straight_star-level))))

  turned-ends : IsOpposite (cross d n) (cross n d)
  turned-ends = record { parallel = cross-turned (cross n d) (cross d n) (let o = opposite-ends in o.parallel); backward = let e = dot-comm (cross d n) (cross n d) in let o = opposite-ends in let b = o.backward in omega (arith, ints) }

  -- past the first ray
  past-first : (e : Vector) → IsStrictlyOn d (cross n d) (cross d n) (across d e) → sign (dot n e) ≡ plus
  past-first e s =
      let h = s.just_half opposite-ends in
      let k = turn-ahead n d (across d e) straight_star-level in
      sym (side-of e) ∙ sym (sign-scaled (dot d d) (dot n (across d e)) dd) ∙ ap sign (sym k) ∙ sign-plus (triple d (cross n d) (across d e)) h

  past-second : (e : Vector) → IsStrictlyOn d (cross d n) (cross n d) (across d e) → sign (dot n e) ≡ minus
  past-second e s =
      let h = s.just_half turned-ends in
      let k = turn-behind n d (across d e) straight_star-level in
      sym (side-of e) ∙ sym (sign-scaled (dot d d) (dot n (across d e)) dd) ∙ sign-minus (dot d d *ℤ dot n (across d e)) (omega (arith, ints))

  ray-one : (k : ℕ) (r : Ray) → IsAt (K.first ∷ K.second ∷ []) k r → ((k ≡ zero) × (K.first ≡ r)) ⊎ ((k ≡ suc zero) × (K.second ≡ r))
  ray-one zero r e = inl (refl, is-at_first e)
  ray-one (suc zero) r e = inr (refl, is-at_first e)
  ray-one (suc (suc k)) r e = absurd (is-at_none e)

  listed-one : (k : ℕ) (r : Ray) → IsAt t.rays k r → ((k ≡ zero) × (K.first ≡ r)) ⊎ ((k ≡ suc zero) × (K.second ≡ r))
  listed-one k r a = ray-one k r (subst (λ (q : List Ray). IsAt q k r) K.two_rays a)

  -- the star's label is that of the side
  pub straight_star-label : (e : Vector) (l : Label) → StarLabel t e l → l ≡ by_side K.pos t.mark K.neg (sign (dot n e))
  straight_star-label e l (on_ray k r a o q) = ⊎_elim
      (λ c. sym q ∙ ap (λ (x : Ray). x.mark) (sym c.1) ∙ K.first_mark ∙ ap (by_side K.pos t.mark K.neg) (sym (level-on (cross n d) e ahead-level (subst (λ (w : Vector). SameDirection w (across d e)) ahead (subst (λ (x : Ray). OnRay t x e) (sym c.1) o)))))
      (λ c. sym q ∙ ap (λ (x : Ray). x.mark) (sym c.1) ∙ K.second_mark ∙ ap (by_side K.pos t.mark K.neg) (sym (level-on (cross d n) e behind-level (subst (λ (w : Vector). SameDirection w (across d e)) behind (subst (λ (x : Ray). OnRay t x e) (sym c.1) o))))) (listed-one k r a)
  straight_star-label e l (in_only_sector z s) = absurd (none-at t.rays zero K.first z first-at)
  straight_star-label e l (in_sector k q r a x o s) = by (listed-one k q a) x
    where
      sector : IsAt (K.pos ∷ K.neg ∷ []) k l
      sector = subst (λ (w : List Label). IsAt w k l) K.two_sectors s

      rays-length : length t.rays ≡ 2
      rays-length = ap (length {A = Ray}) K.two_rays

      first-next : K.first ≡ q → K.second ≡ r → l ≡ K.pos → l ≡ by_side K.pos t.mark K.neg (sign (dot n e))
      first-next f g h = h ∙ ap (by_side K.pos t.mark K.neg) (sym (past-first e (subst (λ (w : Vector). IsStrictlyOn d w (cross d n) (across d e)) (ap (ray_dir t) (sym f) ∙ ahead) (subst (λ (w : Vector). IsStrictlyOn d (ray_dir t q) w (across d e)) (ap (ray_dir t) (sym g) ∙ behind) o))))

      second-next : K.second ≡ q → K.first ≡ r → l ≡ K.neg → l ≡ by_side K.pos t.mark K.neg (sign (dot n e))
      second-next f g h = h ∙ ap (by_side K.pos t.mark K.neg) (sym (past-second e (subst (λ (w : Vector). IsStrictlyOn d w (cross n d) (across d e)) (ap (ray_dir t) (sym f) ∙ behind) (subst (λ (w : Vector). IsStrictlyOn d (ray_dir t q) w (across d e)) (ap (ray_dir t) (sym g) ∙ ahead) o))))

      by : ((k ≡ zero) × (K.first ≡ q)) ⊎ ((k ≡ suc zero) × (K.second ≡ q)) → NextRay t.rays k r → l ≡ by_side K.pos t.mark K.neg (sign (dot n e))
      by (inl c) (inl y) = ⊎_elim (λ z. let p = z.0 in let u = c.0 in absurd (omega arith)) (λ z. first-next c.1 z.1 (is-at_first (sym (subst (λ (i : ℕ). IsAt (K.pos ∷ K.neg ∷ []) i l) c.0 sector)))) (listed-one (suc k) r y)
      by (inl c) (inr y) = let p = y.0 in let u = c.0 in let w = rays-length in absurd (omega arith)
      by (inr c) (inl y) = ⊎_elim (λ z. let p = z.0 in let u = c.0 in absurd (omega arith)) (λ z. let p = z.0 in let u = c.0 in absurd (omega arith)) (listed-one (suc k) r y)
      by (inr c) (inr y) = ⊎_elim (λ z. second-next c.1 z.1 (is-at_first (sym (subst (λ (i : ℕ). IsAt (K.pos ∷ K.neg ∷ []) i l) c.0 sector)))) (λ z. let p = z.0 in absurd (omega arith)) (listed-one zero r y.1)
