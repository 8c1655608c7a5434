-- What the turn from an arc's source to its target says of the directions on it.
use Rattle.nef_arc.proofs.Prelude.{◌≡◌, zero, suc, ℤ, pos, negsuc, ◌<ℤ◌, ◌⊎◌, inl, inr, arith, refl, ◌↔◌, ints, Vector, dot, triple, sign_of, IsOnCircle, Arc, normal_vector, source_vector, target_vector, IsOn, IsEndOfArc, PastAndBefore, IsPastSource, IsBeforeTarget, IsPassedByArc, self-pos}
use Rattle.law_geometry.proofs.sphere.cyclic.Planar.{parallel_from_turn, turn_from_parallel, turn_or_dot}

by_sign : {R : Type 0} (z : ℤ) → (z <ℤ pos 0 → R) → (z ≡ pos 0 → R) → (pos 0 <ℤ z → R) → R
by_sign (pos zero) f g h = g refl
by_sign (pos (suc n)) f g h = h (omega (arith, ints))
by_sign (negsuc n) f g h = f (omega (arith, ints))

-- what each sign of the turn says
record Told (z : ℤ) (P Q : Type 0) : Type 0 where
  pub less : pos 0 <ℤ z → P × Q
  pub more : z <ℤ pos 0 → P ⊎ Q
  pub half : z ≡ pos 0 → P

told_by : (z : ℤ) (P Q : Type 0) → PastAndBefore (sign_of z) P Q → Told z P Q
told_by (pos zero) P Q h = record { less = λ k. absurd (omega (arith, ints)); more = λ k. absurd (omega (arith, ints)); half = λ k. h }
told_by (pos (suc n)) P Q h = record { less = λ k. h; more = λ k. absurd (omega (arith, ints)); half = λ k. h.0 }
told_by (negsuc n) P Q h = record { less = λ k. absurd (omega (arith, ints)); more = λ k. h; half = λ k. absurd (omega (arith, ints)) }

by_told : (z : ℤ) (P Q : Type 0) → Told z P Q → PastAndBefore (sign_of z) P Q
by_told (pos zero) P Q h = h.half refl
by_told (pos (suc n)) P Q h = h.less (omega (arith, ints))
by_told (negsuc n) P Q h = h.more (omega (arith, ints))

-- the turn from the source to the target
abbrev turn_of : Arc → ℤ
turn_of a = triple (normal_vector a) (source_vector a) (target_vector a)

-- the turn says of each direction on the arc that it is passed
told : (a : Arc) (d : Vector) → IsOn a d → (dot (source_vector a) (target_vector a) <ℤ pos 0 ⊎ (turn_of a ≡ pos 0 → ⊥)) → PastAndBefore (sign_of (turn_of a)) (IsPastSource a d) (IsBeforeTarget a d)
told a d h k = by_told (turn_of a) _ _ (record { less = h.less_than_half; more = h.more_than_half; half = opposite k })
  where
    opposite : (dot (source_vector a) (target_vector a) <ℤ pos 0 ⊎ (turn_of a ≡ pos 0 → ⊥)) → turn_of a ≡ pos 0 → IsPastSource a d
    opposite (inl back) e = h.just_half (record {
      parallel = parallel_from_turn (normal_vector a) (source_vector a) (target_vector a) (self-pos (normal_vector a) a.normal.some) a.source_level a.target_level e;
      backward = back;
    })
    opposite (inr turned) e = absurd (turned e)

passed_on : (a : Arc) (d : Vector) → IsOn a d → IsPassedByArc a d
passed_on a d h =
    let s = source_vector a in let t = target_vector a in let n = normal_vector a in
    let hn = self-pos n a.normal.some in
    by_sign (turn_of a)
    (λ k. inr (told a d h (inr (λ e. absurd (omega (arith, ints))))))
    (λ e. by_sign (dot s t)
    (λ k. inr (told a d h (inl k)))
    (λ f. absurd (turn_or_dot n s t hn (self-pos s a.source.some) (self-pos t a.target.some) a.source_level a.target_level e f))
    (λ k. inl (record { parallel = parallel_from_turn n s t hn a.source_level a.target_level e; forward = k })))
    (λ k. inr (told a d h (inr (λ e. absurd (omega (arith, ints))))))

on_passed : (a : Arc) (d : Vector) → IsOnCircle (normal_vector a) d → (IsEndOfArc a d → ⊥) → IsPassedByArc a d → IsOn a d
on_passed a d on f (inl same) =
    let e = turn_from_parallel (normal_vector a) (source_vector a) (target_vector a) same.parallel in let ahead = same.forward in
    record {
      on_circle = on;
      not_source = λ k. f (inl k);
      not_target = λ k. f (inr k);
      less_than_half = λ k. absurd (omega (arith, ints));
      more_than_half = λ k. absurd (omega (arith, ints));
      just_half = λ k. let back = k.backward in absurd (omega (arith, ints));
    }
on_passed a d on f (inr way) =
    let w = told_by (turn_of a) (IsPastSource a d) (IsBeforeTarget a d) way in
    record {
      on_circle = on;
      not_source = λ k. f (inl k);
      not_target = λ k. f (inr k);
      less_than_half = w.less;
      more_than_half = w.more;
      just_half = λ k. w.half (turn_from_parallel (normal_vector a) (source_vector a) (target_vector a) k.parallel);
    }

not_end : (a : Arc) (d : Vector) → IsOn a d → IsEndOfArc a d → ⊥
not_end a d h (inl k) = h.not_source k
not_end a d h (inr k) = h.not_target k

-- a direction on the arc's circle is on the arc where it is passed and is neither end
pub passed_is_on : (a : Arc) (d : Vector) → IsOnCircle (normal_vector a) d → ((IsEndOfArc a d → ⊥) × IsPassedByArc a d) ↔ IsOn a d
passed_is_on a d on = (λ h. on_passed a d on h.0 h.1, λ h. (not_end a d h, passed_on a d h))
