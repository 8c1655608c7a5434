-- A simplified star at a straight direction has no ray, or two opposite rays with its mark.
use Rattle.law_geometry.proofs.sphere.Prelude.{◌≡◌, ℕ, zero, suc, pos, arith, refl, ap, sym, ◌∙◌, ◌⊎◌, inl, inr, List, ◌∷◌, subst, length, [], ints, Sign, sign, Vector, IsDirection, cross, dot, SameDirection, IsOpposite, opposite, Label, IsAt, Map, NearLabel, Valid, by_side, NearStraight, Ray, Star, ray_dir, StarShows, IsSimplified, dot-comm, self-pos, cross-turned, nought-if, opposites, SameDirection-turned, SameDirection-trans, dir-self, dir-signs, opposite-turned, parallel-trans, crossed, direction-opposite, dot-opposite, level-of_opposite}
use Rattle.law_geometry.proofs.sphere.Vectors.{same-minus}
use Rattle.law_geometry.proofs.sphere.Labels.{near-unique, label-unique}
use Rattle.law_geometry.proofs.sphere.Around.{Beside, same_way, other_way, beside}
use Rattle.law_geometry.proofs.sphere.Turn.{whole-passes}
use Rattle.law_geometry.proofs.sphere.Simplified.{shown-level, off-axis, ray-label, sector-label, straight-level}

-- no two rays go the same way
abbrev pub RaysApart : Star → Type 0
RaysApart t = (i k : ℕ) (q r : Ray) → IsAt t.rays i q → IsAt t.rays k r → SameDirection (ray_dir t q) (ray_dir t r) → i ≡ k

pub record TwoRays (t : Star) : Type 0 where
  pub first : Ray
  pub second : Ray
  pub two_rays : t.rays ≡ first ∷ second ∷ []
  pub opposite : IsOpposite (ray_dir t first) (ray_dir t second)
  pub first_mark : first.mark ≡ t.mark
  pub second_mark : second.mark ≡ t.mark

module _ (t : Star) (M : Map) (V : Valid M) (S : StarShows t M) (simple : IsSimplified t) (apart-rays : RaysApart t) (P : NearStraight M t.axis) where
  abbrev d : Vector
  d = t.axis

  abbrev n : Vector
  n = P.normal

  abbrev w0 : Vector
  w0 = cross n d

  abbrev side : Sign → Label
  side = by_side P.pos P.label P.neg

  w0-direction : IsDirection w0
  w0-direction z = S.axis (nought-if n d P.direction z P.level)

  -- each ray goes along n x d or its opposite
  along-plane : (k : ℕ) (r : Ray) → IsAt t.rays k r → Beside w0 (ray_dir t r)
  along-plane k r a =
      let x = shown-level t M S k r a in
      beside w0 (ray_dir t r) w0-direction x.1 (crossed n d (ray_dir t r) (straight-level t M V S simple P k r a) x.0)

  ray-mark : (k : ℕ) (r : Ray) → IsAt t.rays k r → r.mark ≡ P.label
  ray-mark k r a =
      let x = shown-level t M S k r a in
      near-unique M V d (ray_dir t r) r.mark P.label (ray-label t M S k r a)
      (subst (NearLabel M d (ray_dir t r)) (ap side (ap sign (straight-level t M V S simple P k r a))) (P.near (ray_dir t r) (off-axis d (ray_dir t r) S.axis x.1 x.0)))

  star-mark : P.label ≡ t.mark
  star-mark = label-unique M V d P.label t.mark P.at_d S.mark

  -- one ray alone: its sector goes all round
  not-one : (r : Ray) → t.rays ≡ r ∷ [] → ⊥
  not-one r e =
      let a : IsAt t.rays zero r = subst (λ (q : List Ray). IsAt q zero r) (sym e) refl in
      let l = ap (length {A = Ray}) e in
      let s = S.sectors zero r a in
      let x = shown-level t M S zero r a in
      let w = ray_dir t r in
      let z = straight-level t M V S simple P zero r a in
      let dn = dot-comm d n ∙ P.level in
      let hd = direction-opposite w x.1 in
      let dw = dot-opposite d w in
      let nw = dot-opposite n w in
      let back = label-at r a s.0 s.1 (last-one l) (opposite w) hd (let y = x.0 in omega (arith, ints)) (λ q. let f = q.forward in let g = dot-opposite w w in let h = self-pos w x.1 in omega (arith, ints)) in
      let m = near-unique M V d (opposite w) s.0 P.label back (subst (NearLabel M d (opposite w)) (ap side (ap sign (level-of_opposite n (ray_dir t r) z))) (P.near (opposite w) (off-axis d (opposite w) S.axis hd (let y = x.0 in omega (arith, ints))))) in
      let k = ray-mark zero r a in
      simple zero zero r r s.0 s.0 a a (inr (sym l, refl)) s.1 s.1 (k ∙ sym m) (k ∙ sym m)
    where
      last-one : length t.rays ≡ 1 → suc zero ≡ length t.rays
      last-one l = sym l

      label-at : (r : Ray) → IsAt t.rays zero r → (l : Label) → IsAt t.sectors zero l → suc zero ≡ length t.rays → (e : Vector) → IsDirection e → dot d e ≡ pos 0 → (SameDirection (ray_dir t r) e → ⊥) → NearLabel M d e l
      label-at r a l s q e he z f =
          let x = shown-level t M S zero r a in
          sector-label t M V S simple zero r r l a (inr (q, a)) s e (whole-passes d (ray_dir t r) (ray_dir t r) e S.axis x.1 x.1 he x.0 x.0 z (dir-self (ray_dir t r) x.1) f)

  -- two rays on one side of the axis
  both-same : (i k : ℕ) (q r : Ray) → IsAt t.rays i q → IsAt t.rays k r → SameDirection w0 (ray_dir t q) → SameDirection w0 (ray_dir t r) → i ≡ k
  both-same i k q r a b x y = apart-rays i k q r a b (SameDirection-trans (ray_dir t q) w0 (ray_dir t r) (SameDirection-turned w0 (ray_dir t q) x) y)

  both-other : (i k : ℕ) (q r : Ray) → IsAt t.rays i q → IsAt t.rays k r → IsOpposite w0 (ray_dir t q) → IsOpposite w0 (ray_dir t r) → i ≡ k
  both-other i k q r a b x y = apart-rays i k q r a b (opposites w0 (ray_dir t q) (ray_dir t r) w0-direction x y)

  pub straight-rays : (t.rays ≡ []) ⊎ TwoRays t
  straight-rays = by t.rays refl
    where
      listed : (rs : List Ray) → t.rays ≡ rs → (k : ℕ) (r : Ray) → IsAt rs k r → IsAt t.rays k r
      listed rs e k r a = subst (λ (q : List Ray). IsAt q k r) (sym e) a

      zero-one : zero ≡ suc zero → ⊥
      zero-one e = omega arith

      zero-two : zero ≡ suc (suc zero) → ⊥
      zero-two e = omega arith

      one-two : suc zero ≡ suc (suc zero) → ⊥
      one-two e = omega arith

      two : (q r : Ray) → t.rays ≡ q ∷ r ∷ [] → IsOpposite (ray_dir t q) (ray_dir t r) → TwoRays t
      two q r e o = record { first = q; second = r; two_rays = e; opposite = o; first_mark = ray-mark zero q (listed (q ∷ r ∷ []) e zero q refl) ∙ star-mark; second_mark = ray-mark (suc zero) r (listed (q ∷ r ∷ []) e (suc zero) r refl) ∙ star-mark }

      flip : (u v w : Vector) → IsDirection u → SameDirection u v → IsOpposite u w → IsOpposite v w
      flip u v w h s o = record {
        parallel = parallel-trans v u w h (cross-turned u v s.parallel) o.parallel;
        backward = same-minus (dot u w) (dot v w) (ap sign (dot-comm v w) ∙ dir-signs u v w h s ∙ ap sign (dot-comm w u)) o.backward;
      }

      pair : (q r : Ray) → t.rays ≡ q ∷ r ∷ [] → Beside w0 (ray_dir t q) → Beside w0 (ray_dir t r) → TwoRays t
      pair q r e (same_way x) (same_way y) = absurd (zero-one (both-same zero (suc zero) q r (listed (q ∷ r ∷ []) e zero q refl) (listed (q ∷ r ∷ []) e (suc zero) r refl) x y))
      pair q r e (other_way x) (other_way y) = absurd (zero-one (both-other zero (suc zero) q r (listed (q ∷ r ∷ []) e zero q refl) (listed (q ∷ r ∷ []) e (suc zero) r refl) x y))
      pair q r e (same_way x) (other_way y) = two q r e (flip w0 (ray_dir t q) (ray_dir t r) w0-direction x y)
      pair q r e (other_way x) (same_way y) = two q r e (opposite-turned (ray_dir t r) (ray_dir t q) (flip w0 (ray_dir t r) (ray_dir t q) w0-direction y x))

      three : (q r s : Ray) → IsAt t.rays zero q → IsAt t.rays (suc zero) r → IsAt t.rays (suc (suc zero)) s → Beside w0 (ray_dir t q) → Beside w0 (ray_dir t r) → Beside w0 (ray_dir t s) → ⊥
      three q r s a b c (same_way x) (same_way y) z = zero-one (both-same zero (suc zero) q r a b x y)
      three q r s a b c (other_way x) (other_way y) z = zero-one (both-other zero (suc zero) q r a b x y)
      three q r s a b c (same_way x) (other_way y) (same_way z) = zero-two (both-same zero (suc (suc zero)) q s a c x z)
      three q r s a b c (same_way x) (other_way y) (other_way z) = one-two (both-other (suc zero) (suc (suc zero)) r s b c y z)
      three q r s a b c (other_way x) (same_way y) (same_way z) = one-two (both-same (suc zero) (suc (suc zero)) r s b c y z)
      three q r s a b c (other_way x) (same_way y) (other_way z) = zero-two (both-other zero (suc (suc zero)) q s a c x z)

      by : (rs : List Ray) → t.rays ≡ rs → (t.rays ≡ []) ⊎ TwoRays t
      by [] e = inl e
      by (r ∷ []) e = absurd (not-one r e)
      by (q ∷ r ∷ []) e = inr (pair q r e (along-plane zero q (listed (q ∷ r ∷ []) e zero q refl)) (along-plane (suc zero) r (listed (q ∷ r ∷ []) e (suc zero) r refl)))
      by (q ∷ r ∷ s ∷ rs) e =
          let a = listed (q ∷ r ∷ s ∷ rs) e zero q refl in
          let b = listed (q ∷ r ∷ s ∷ rs) e (suc zero) r refl in
          let c = listed (q ∷ r ∷ s ∷ rs) e (suc (suc zero)) s refl in
          absurd (three q r s a b c (along-plane zero q a) (along-plane (suc zero) r b) (along-plane (suc (suc zero)) s c))
