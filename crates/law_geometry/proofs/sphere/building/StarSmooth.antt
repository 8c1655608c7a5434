-- Plain and straight stars that show labels, and the normals of rays.
use Rattle.law_geometry.proofs.sphere.building.Prelude.{◌≡◌, zero, suc, pos, ◌*ℤ◌, refl, ap, sym, ◌∙◌, inr, List, subst, length, Bool, true, false, cond, ring, num, ◌⊗◌, follows, given, none, sign, sign-scaled, nought-is, Vector, IsDirection, cross, triple, dot, SameDirection, IsNormal, opposite, Label, IsAt, Near, PlainAt, StraightAt, Proper, Ray, Star, ray_dir, in_only_sector, LeavesAxis, IsPlain, IsStraight, IsSimplified, same-plus, normals-not_opposite, straight_star-level, straight_star-normal, straight_star-label, Of, IsLabelling, ShowsLabels, dot-comm, dot-zero, self-pos, parallel-in_plane, from-opposite, cross-opposite, level-opposite, opposite-cross, cross_of, dot_of, dot_poly, poly_triple, triple_poly, vec, numbers}
use Rattle.law_geometry.proofs.sphere.building.BuiltLabels.{plain-from, straight-from}

-- ---- plain and straight stars
module _ (gs : List Vector) (L : Vector → Label) (I : IsLabelling gs L) (t : Star) (S : ShowsLabels t L) where
  pub star-plain : IsPlain t → PlainAt (Of L) t.axis t.mark
  star-plain P = plain-from gs L I t.axis t.mark S.star.axis S.mark (λ e f. S.labels e t.mark f (in_only_sector P.no_ray (subst (λ (ls : List Label). IsAt ls zero t.mark) (sym P.one_sector) refl)))

  pub star-straight : (K : IsStraight t) → StraightAt (Of L) K.first.normal K.pos t.mark K.neg t.axis
  star-straight K = straight-from gs L I K.first.normal K.pos t.mark K.neg t.axis S.star.axis (straight_star-level t S.star.rays K S.star.axis) S.mark
      (λ e f. let x = S.star.each e f in subst (Near (Of L) t.axis e) (straight_star-label t S.star.rays K S.star.axis e x.0 x.1) (S.labels e x.0 f x.1))

  pub star-normal : (K : IsStraight t) → IsNormal K.first.normal
  star-normal K = straight_star-normal t S.star.rays K S.star.axis

pub straight-first : (t : Star) (K : IsStraight t) → IsAt t.rays zero K.first
straight-first t K = subst (λ (rs : List Ray). IsAt rs zero K.first) (sym K.two_rays) refl

-- a simplified straight star has another label beside the plane
pub straight-proper : (t : Star) (K : IsStraight t) → IsSimplified t → Proper K.pos t.mark K.neg
straight-proper t K simple x y = simple (suc zero) zero K.second K.first K.neg K.pos
    (subst (λ (rs : List Ray). IsAt rs (suc zero) K.second) (sym K.two_rays) refl) (straight-first t K) (inr (sym (ap (length {A = Ray}) K.two_rays), refl))
    (subst (λ (ls : List Label). IsAt ls (suc zero) K.neg) (sym K.two_sectors) refl) (subst (λ (ls : List Label). IsAt ls zero K.pos) (sym K.two_sectors) refl)
    (K.first_mark ∙ sym y) (K.first_mark ∙ sym x)

-- ---- normals
-- where a and b are at right angles to d: (d.d) d.(a x b) = d.((a x d) x (b x d)), and (d.d)(a.b) = (a x d).(b x d)
pub beside-turn : (d a b : Vector) → dot a d ≡ pos 0 → dot b d ≡ pos 0 → dot d d *ℤ triple d a b ≡ dot d (cross (cross a d) (cross b d))
beside-turn d a b la lb = ring (numbers d a b b) (dot_poly 0 0 ⊗ triple_poly 0 3 6) (poly_triple (vec 0) (cross_of (vec 3) (vec 0)) (cross_of (vec 6) (vec 0))) tt

beside-dot : (d a b : Vector) → dot a d ≡ pos 0 → dot d d *ℤ dot a b ≡ dot (cross a d) (cross b d)
beside-dot d a b la = follows (numbers d a b b) (dot_poly 0 0 ⊗ dot_poly 3 6) (dot_of (cross_of (vec 3) (vec 0)) (cross_of (vec 6) (vec 0))) (given (dot_poly 6 0) (dot_poly 3 0) (num (pos 0)) la none) tt

same-beside : (d a b : Vector) → IsDirection d → dot a d ≡ pos 0 → dot b d ≡ pos 0 → SameDirection (cross a d) (cross b d) → SameDirection a b
same-beside d a b hd la lb w = record {
  parallel = parallel-in_plane d a b hd (dot-comm d a ∙ la) (dot-comm d b ∙ lb)
      (nought-is (triple d a b) (sym (sign-scaled (dot d d) (triple d a b) (self-pos d hd)) ∙ ap sign (beside-turn d a b la lb ∙ dot-zero d (cross (cross a d) (cross b d)) w.parallel)));
  forward = same-plus (dot (cross a d) (cross b d)) (dot a b) (sym (ap sign (sym (beside-dot d a b la)) ∙ sign-scaled (dot d d) (dot a b) (self-pos d hd))) w.forward;
}

pub cross-away : (a d : Vector) → cross d a ≡ cross (opposite a) d
cross-away a d = sym (opposite-cross a d) ∙ sym (cross-opposite a d)

-- a ray along the circle of a normal goes ahead and has that normal's direction
pub ray-ahead : (t : Star) (r : Ray) (n : Vector) → IsDirection t.axis → LeavesAxis t r → IsNormal n → dot n t.axis ≡ pos 0 → SameDirection (ray_dir t r) (cross n t.axis) → (r.ahead ≡ true) × SameDirection r.normal n
ray-ahead t r n hd A hn ln = by r.ahead refl
  where
    by : (b : Bool) → r.ahead ≡ b → SameDirection (cond b (cross r.normal t.axis) (cross t.axis r.normal)) (cross n t.axis) → (r.ahead ≡ true) × SameDirection r.normal n
    by true e w = (e, same-beside t.axis r.normal n hd A.level ln w)
    by false e w = absurd (normals-not_opposite r.normal n A.normal hn (from-opposite r.normal n
        (same-beside t.axis (opposite r.normal) n hd (level-opposite r.normal t.axis A.level) ln (subst (λ (v : Vector). SameDirection v (cross n t.axis)) (cross-away r.normal t.axis) w))))
