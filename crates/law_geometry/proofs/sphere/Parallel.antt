-- Parallel vectors, points of circles and arcs.
use Rattle.law_geometry.proofs.sphere.Prelude.{◌≡◌, ℕ, ◌≤◌, ℤ, pos, negsuc, ◌+ℤ◌, ◌*ℤ◌, ◌<ℤ◌, arith, refl, ap, sym, ◌∙◌, inl, inr, ⊎_elim, ◌∷◌, subst, [], ints, ring, at, num, ◌⊕◌, ◌⊖◌, ◌⊗◌, follows_times, given, none, sign, nought-is, nought-or, Vector, IsDirection, triple, cross, dot, IsZero, SameDirection, blend, IsOnCircle, IsStrictlyOn, Decided, same-off, dot-comm, zero-decided, dot-zero, self-pos, triple-dot, cross-turned, triple-middle, nought-if, parallel-trans, parallel-in_plane, cross-self, cross_of, dot_of, dot_poly, numbers, square-cross, vec}
use Rattle.law_geometry.proofs.sphere.Vectors.{dot-comb, same-plus}
use Rattle.law_geometry.proofs.sphere.Generic.{amount, far-keeps, far-level}
use Rattle.law_geometry.proofs.sphere.Places.{row_x, row_y, row_z}

-- ---- points
pub row-level : (n : Vector) → (dot n (row_x n) ≡ pos 0) × (dot n (row_y n) ≡ pos 0) × (dot n (row_z n) ≡ pos 0)
row-level n =
    let xs = n.x ∷ n.y ∷ n.z ∷ [] in let o = num (pos 0) in (
      ring xs (at 0 ⊗ o ⊕ at 1 ⊗ (o ⊖ at 2) ⊕ at 2 ⊗ at 1) o tt,
      ring xs (at 0 ⊗ at 2 ⊕ at 1 ⊗ o ⊕ at 2 ⊗ (o ⊖ at 0)) o tt,
      ring xs (at 0 ⊗ (o ⊖ at 1) ⊕ at 1 ⊗ at 0 ⊕ at 2 ⊗ o) o tt,
    )

pub circle-point : (n : Vector) → IsDirection n → (y : Vector) × IsOnCircle n y
circle-point n h = by (zero-decided (row_x n)) (zero-decided (row_y n)) (zero-decided (row_z n))
  where
    by : Decided (IsZero (row_x n)) → Decided (IsZero (row_y n)) → Decided (IsZero (row_z n)) → (y : Vector) × IsOnCircle n y
    by (inr f) b c = (row_x n, record { direction = f; level = (row-level n).0 })
    by (inl a) (inr f) c = (row_y n, record { direction = f; level = (row-level n).1 })
    by (inl a) (inl b) (inr f) = (row_z n, record { direction = f; level = (row-level n).2 })
    by (inl a) (inl b) (inl c) = absurd (h (let e = b.2 in omega (arith, ints), a.2, b.0))

-- a direction on the circle of n, close after s
abbrev pub past_source : Vector → Vector → ℕ → Vector
past_source n s k = blend k s 1 (cross n s)

module _ (n s t : Vector) (hn : IsDirection n) (hs : IsDirection s) (ht : IsDirection t) (a : dot n s ≡ pos 0) (b : dot n t ≡ pos 0) (number : ℕ) (large : amount (cross t n ∷ []) (cross n s) ≤ number) where
  abbrev beside : Vector
  beside = cross n s

  abbrev back : Vector
  back = cross t n

  abbrev there : Vector
  there = past_source n s number

  beside-some : IsDirection beside
  beside-some z = hs (nought-if n s hn z a)

  pub there-ahead : pos 0 <ℤ triple n s there
  there-ahead =
      let e = triple-dot n s there ∙ dot-comb beside (pos number) s (pos 1) beside in
      let o : dot beside s ≡ pos 0 = sym (triple-dot n s s) ∙ dot-zero n (cross s s) (cross-self s) in
      let f = e ∙ ap (λ r. pos number *ℤ r +ℤ pos 1 *ℤ dot beside beside) o ∙ ring (pos number ∷ dot beside beside ∷ []) (at 0 ⊗ num (pos 0) ⊕ num (pos 1) ⊗ at 1) (at 1) tt in
      subst (λ (r : ℤ). pos 0 <ℤ r) (sym f) (self-pos beside beside-some)

  pub there-level : dot n there ≡ pos 0
  there-level = dot-comb n (pos number) s (pos 1) beside ∙ ap (λ r. pos number *ℤ r +ℤ pos 1 *ℤ dot n beside) a ∙ ap (λ r. pos number *ℤ pos 0 +ℤ pos 1 *ℤ r) (square-cross n s) ∙ omega (arith, ints)

  there-behind : pos 0 <ℤ triple n s t → pos 0 <ℤ triple n there t
  there-behind h =
      let g = subst (λ (r : ℤ). pos 0 <ℤ r) (triple-middle n s t) h in
      subst (λ (r : ℤ). pos 0 <ℤ r) (sym (triple-middle n there t)) (same-plus (dot back s) (dot back there) (far-keeps (back ∷ []) s beside number large back (inl refl) (λ z. omega (arith, ints))) g)

  there-off_target : SameDirection t there → ⊥
  there-off_target w =
      let z : dot back there ≡ pos 0 = sym (triple-middle n there t) ∙ dot-zero n (cross there t) (cross-turned t there w.parallel) in
      ⊎_elim
      (λ y.
      let f = far-level (back ∷ []) s beside number large back y in
      let u : dot back beside ≡ pos 0 = nought-is (dot back beside) (sym f ∙ ap sign z) in
      -- (t x n).(n x s) = (t.n)(n.s) - (n.n)(t.s)
      let q : dot t s ≡ pos 0 = follows_times (numbers n s t t) (dot_poly 0 0) (dot_poly 6 3) (num (pos 0))
      (given (num (negsuc 0)) (dot_of (cross_of (vec 6) (vec 0)) (cross_of (vec 0) (vec 3))) (num (pos 0)) u (given (dot_poly 0 6) (dot_poly 0 3) (num (pos 0)) a none)) (self-pos n hn) tt in
      let p = parallel-in_plane n s t hn a b (triple-middle n s t ∙ y) in
      ht (nought-if s t hs p (dot-comm s t ∙ q)))
      (λ f. same-off (dot back s) (dot back there) (far-keeps (back ∷ []) s beside number large back (inl refl) f) f z)
      (nought-or (dot back s))

  pub arc-point : IsStrictlyOn n s t there
  arc-point = record {
    on_circle = record { direction = λ z. let h = there-ahead in let e = triple-dot n s there ∙ dot-zero beside there z in omega (arith, ints); level = there-level };
    not_source = λ w. let h = there-ahead in let e = dot-zero n (cross s there) w.parallel in omega (arith, ints);
    not_target = there-off_target;
    less_than_half = λ h. (there-ahead, there-behind h);
    more_than_half = λ h. inl there-ahead;
    just_half = λ h. there-ahead;
  }

-- ---- a direction that misses another
pub miss : (d v w : Vector) → IsDirection v → (IsDirection (cross d v) → dot (cross d v) w ≡ pos 0 → ⊥) → IsDirection (cross d w) → SameDirection v w → ⊥
miss d v w h off f m = ⊎_elim
    (λ z. f (parallel-trans d v w h z m.parallel))
    (λ g. off g (sym (triple-dot d v w) ∙ dot-zero d (cross v w) m.parallel))
    (zero-decided (cross d v))
