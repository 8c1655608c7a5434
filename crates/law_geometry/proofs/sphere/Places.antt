-- Where a direction lies, on a svertex or strictly on an arc, is decided, and stays where the signs of finitely many forms stay.
use Rattle.law_geometry.proofs.sphere.Prelude.{◌≡◌, ℤ, pos, ◌<ℤ◌, arith, refl, sym, ◌∙◌, ◌⊎◌, inl, inr, ⊎_elim, List, ◌∷◌, ◌++◌, subst, [], ints, ring, at, num, ◌⊕◌, ◌⊖◌, ◌⊗◌, sign, by_order, nought-or, Vector, IsDirection, triple, cross, vector, dot, IsZero, SameDirection, IsOpposite, lies-left, lies-right, IsOnCircle, IsStrictlyOn, decided-not, decided-to, decided-both, decided-or, Decided, same-off, zero-decided, zero-dot, triple-dot, triple-middle, nought-if}
pub use Rattle.law_geometry.specs.sphere.Forms.{axis_x, axis_y, axis_z, axes, row_x, row_y, row_z, point_forms, arc_forms}
use Rattle.law_geometry.proofs.sphere.Vectors.{positive-or, negative-or, same-plus, same-minus}
use Rattle.law_geometry.proofs.sphere.Generic.{SameSigns, Keeps}

pub direction-decided : (d : Vector) → Decided (IsDirection d)
direction-decided d = decided-not (zero-decided d)

pub SameDirection-decided : (s d : Vector) → Decided (SameDirection s d)
SameDirection-decided s d = by (zero-decided (cross s d)) (positive-or (dot s d))
  where
    by : Decided (IsZero (cross s d)) → Decided (pos 0 <ℤ dot s d) → Decided (SameDirection s d)
    by (inl p) (inl f) = inl (record { parallel = p; forward = f })
    by (inl p) (inr n) = inr (λ w. n w.forward)
    by (inr n) f = inr (λ w. n w.parallel)

pub IsOpposite-decided : (s d : Vector) → Decided (IsOpposite s d)
IsOpposite-decided s d = by (zero-decided (cross s d)) (negative-or (dot s d))
  where
    by : Decided (IsZero (cross s d)) → Decided (dot s d <ℤ pos 0) → Decided (IsOpposite s d)
    by (inl p) (inl f) = inl (record { parallel = p; backward = f })
    by (inl p) (inr n) = inr (λ w. n w.backward)
    by (inr n) f = inr (λ w. n w.parallel)

pub IsOnCircle-decided : (n d : Vector) → Decided (IsOnCircle n d)
IsOnCircle-decided n d = by (direction-decided d) (nought-or (dot n d))
  where
    by : Decided (IsDirection d) → Decided (dot n d ≡ pos 0) → Decided (IsOnCircle n d)
    by (inl p) (inl f) = inl (record { direction = p; level = f })
    by (inl p) (inr n) = inr (λ w. n w.level)
    by (inr n) f = inr (λ w. n w.direction)

pub IsStrictlyOn-decided : (n s t d : Vector) → Decided (IsStrictlyOn n s t d)
IsStrictlyOn-decided n s t d = by (IsOnCircle-decided n d) (decided-not (SameDirection-decided s d)) (decided-not (SameDirection-decided t d))
    (decided-to (positive-or (triple n s t)) (decided-both (positive-or (triple n s d)) (positive-or (triple n d t))))
    (decided-to (negative-or (triple n s t)) (decided-or (positive-or (triple n s d)) (positive-or (triple n d t))))
    (decided-to (IsOpposite-decided s t) (positive-or (triple n s d)))
  where
    by : Decided (IsOnCircle n d) → Decided (SameDirection s d → ⊥) → Decided (SameDirection t d → ⊥)
        → Decided (pos 0 <ℤ triple n s t → (pos 0 <ℤ triple n s d) × (pos 0 <ℤ triple n d t))
        → Decided (triple n s t <ℤ pos 0 → (pos 0 <ℤ triple n s d) ⊎ (pos 0 <ℤ triple n d t))
        → Decided (IsOpposite s t → pos 0 <ℤ triple n s d) → Decided (IsStrictlyOn n s t d)
    by (inl a) (inl b) (inl c) (inl e) (inl f) (inl g) = inl (record { on_circle = a; not_source = b; not_target = c; less_than_half = e; more_than_half = f; just_half = g })
    by (inr n) b c e f g = inr (λ o. n o.on_circle)
    by (inl a) (inr n) c e f g = inr (λ o. n o.not_source)
    by (inl a) (inl b) (inr n) e f g = inr (λ o. n o.not_target)
    by (inl a) (inl b) (inl c) (inr n) f g = inr (λ o. n o.less_than_half)
    by (inl a) (inl b) (inl c) (inl e) (inr n) g = inr (λ o. n o.more_than_half)
    by (inl a) (inl b) (inl c) (inl e) (inl f) (inr n) = inr (λ o. n o.just_half)

-- ---- forms
pub row_x-is : (v d : Vector) → dot (row_x v) d ≡ (cross v d).x
row_x-is v d = ring (v.x ∷ v.y ∷ v.z ∷ d.x ∷ d.y ∷ d.z ∷ []) (num (pos 0) ⊗ at 3 ⊕ (num (pos 0) ⊖ at 2) ⊗ at 4 ⊕ at 1 ⊗ at 5) (at 1 ⊗ at 5 ⊖ at 2 ⊗ at 4) tt

pub row_y-is : (v d : Vector) → dot (row_y v) d ≡ (cross v d).y
row_y-is v d = ring (v.x ∷ v.y ∷ v.z ∷ d.x ∷ d.y ∷ d.z ∷ []) (at 2 ⊗ at 3 ⊕ num (pos 0) ⊗ at 4 ⊕ (num (pos 0) ⊖ at 0) ⊗ at 5) (at 2 ⊗ at 3 ⊖ at 0 ⊗ at 5) tt

pub row_z-is : (v d : Vector) → dot (row_z v) d ≡ (cross v d).z
row_z-is v d = ring (v.x ∷ v.y ∷ v.z ∷ d.x ∷ d.y ∷ d.z ∷ []) ((num (pos 0) ⊖ at 1) ⊗ at 3 ⊕ at 0 ⊗ at 4 ⊕ num (pos 0) ⊗ at 5) (at 0 ⊗ at 4 ⊖ at 1 ⊗ at 3) tt

pub axis_x-is : (d : Vector) → dot (vector (pos 1) (pos 0) (pos 0)) d ≡ d.x
axis_x-is d = ring (d.x ∷ d.y ∷ d.z ∷ []) (num (pos 1) ⊗ at 0 ⊕ num (pos 0) ⊗ at 1 ⊕ num (pos 0) ⊗ at 2) (at 0) tt

pub axis_y-is : (d : Vector) → dot (vector (pos 0) (pos 1) (pos 0)) d ≡ d.y
axis_y-is d = ring (d.x ∷ d.y ∷ d.z ∷ []) (num (pos 0) ⊗ at 0 ⊕ num (pos 1) ⊗ at 1 ⊕ num (pos 0) ⊗ at 2) (at 1) tt

pub axis_z-is : (d : Vector) → dot (vector (pos 0) (pos 0) (pos 1)) d ≡ d.z
axis_z-is d = ring (d.x ∷ d.y ∷ d.z ∷ []) (num (pos 0) ⊗ at 0 ⊕ num (pos 0) ⊗ at 1 ⊕ num (pos 1) ⊗ at 2) (at 2) tt

-- ---- what stays
pub same-keeps : (gs : List Vector) (d e : Vector) → SameSigns gs d e → Keeps gs d e
same-keeps gs d e s g l f = s g l

-- where a form vanishes after, it vanished before
pub kept-nought : (g d e : Vector) → ((dot g d ≡ pos 0 → ⊥) → sign (dot g e) ≡ sign (dot g d)) → dot g e ≡ pos 0 → dot g d ≡ pos 0
kept-nought g d e k z = ⊎_elim (λ y. y) (λ f. absurd (same-off (dot g d) (dot g e) (k f) f z)) (nought-or (dot g d))

pub kept-plus : (g d e : Vector) → ((dot g d ≡ pos 0 → ⊥) → sign (dot g e) ≡ sign (dot g d)) → pos 0 <ℤ dot g d → pos 0 <ℤ dot g e
kept-plus g d e k h = same-plus (dot g d) (dot g e) (k (λ z. omega (arith, ints))) h

pub kept-minus : (g d e : Vector) → ((dot g d ≡ pos 0 → ⊥) → sign (dot g e) ≡ sign (dot g d)) → dot g d <ℤ pos 0 → dot g e <ℤ pos 0
kept-minus g d e k h = same-minus (dot g d) (dot g e) (k (λ z. omega (arith, ints))) h

pub direction-stays : (d e : Vector) → Keeps axes d e → IsDirection d → IsDirection e
direction-stays d e k f z = f (
  sym (axis_x-is d) ∙ kept-nought axis_x d e (k axis_x (inl refl)) (axis_x-is e ∙ z.0),
  sym (axis_y-is d) ∙ kept-nought axis_y d e (k axis_y (inr (inl refl))) (axis_y-is e ∙ z.1),
  sym (axis_z-is d) ∙ kept-nought axis_z d e (k axis_z (inr (inr (inl refl)))) (axis_z-is e ∙ z.2),
)

module _ (v d e : Vector) (k : Keeps (point_forms v) d e) where
  pub parallel-back : IsZero (cross v e) → IsZero (cross v d)
  parallel-back z = (
    sym (row_x-is v d) ∙ kept-nought (row_x v) d e (k (row_x v) (inr (inl refl))) (row_x-is v e ∙ z.0),
    sym (row_y-is v d) ∙ kept-nought (row_y v) d e (k (row_y v) (inr (inr (inl refl)))) (row_y-is v e ∙ z.1),
    sym (row_z-is v d) ∙ kept-nought (row_z v) d e (k (row_z v) (inr (inr (inr (inl refl))))) (row_z-is v e ∙ z.2),
  )

  pub SameDirection-back : IsDirection d → SameDirection v e → SameDirection v d
  SameDirection-back f w = let p = parallel-back w.parallel in by_order (dot v d) (pos 0)
      (λ l. let m = kept-minus v d e (k v (inl refl)) l in let h = w.forward in absurd (omega (arith, ints)))
      (λ z. absurd (f (nought-if v d (λ y. let a = zero-dot v e y in let h = w.forward in omega (arith, ints)) p z)))
      (λ l. record { parallel = p; forward = l })

-- an arc goes on being met in its plane
pub IsStrictlyOn-stays : (n s t d e : Vector) → Keeps (arc_forms n s t) d e → dot n e ≡ pos 0 → IsStrictlyOn n s t d → IsStrictlyOn n s t e
IsStrictlyOn-stays n s t d e k z o = record {
  on_circle = record { direction = direction-stays d e (λ g l. k g (inr (inr (inr (lies-left axes (point_forms s ++ point_forms t) g l))))) o.on_circle.direction; level = z };
  not_source = λ w. o.not_source (SameDirection-back s d e (λ g l. k g (inr (inr (inr (lies-right axes (point_forms s ++ point_forms t) g (lies-left (point_forms s) (point_forms t) g l)))))) o.on_circle.direction w);
  not_target = λ w. o.not_target (SameDirection-back t d e (λ g l. k g (inr (inr (inr (lies-right axes (point_forms s ++ point_forms t) g (lies-right (point_forms s) (point_forms t) g l)))))) o.on_circle.direction w);
  less_than_half = λ h. let r = o.less_than_half h in (last r.0, middle r.1);
  more_than_half = λ h. ⊎_elim (λ r. inl (last r)) (λ r. inr (middle r)) (o.more_than_half h);
  just_half = λ h. last (o.just_half h);
}
  where
    last : pos 0 <ℤ triple n s d → pos 0 <ℤ triple n s e
    last h = subst (λ (r : ℤ). pos 0 <ℤ r) (sym (triple-dot n s e)) (kept-plus (cross n s) d e (k (cross n s) (inr (inl refl))) (subst (λ (r : ℤ). pos 0 <ℤ r) (triple-dot n s d) h))

    middle : pos 0 <ℤ triple n d t → pos 0 <ℤ triple n e t
    middle h = subst (λ (r : ℤ). pos 0 <ℤ r) (sym (triple-middle n e t)) (kept-plus (cross t n) d e (k (cross t n) (inr (inr (inl refl)))) (subst (λ (r : ℤ). pos 0 <ℤ r) (triple-middle n d t) h))

pub IsOnCircle-stays : (n d e : Vector) → Keeps (n ∷ axes) d e → dot n e ≡ pos 0 → IsOnCircle n d → IsOnCircle n e
IsOnCircle-stays n d e k z o = record { direction = direction-stays d e (λ g l. k g (inr l)) o.direction; level = z }
