-- Normal forms are unique.
use Rattle.nef_geo.proofs.Prelude.{◌≡◌, zero, suc, ◌≤◌, ℤ, pos, negsuc, ◌-ℤ◌, ◌*ℤ◌, ◌<ℤ◌, ◌≤ℤ◌, nat_abs, Bool, true, false, List, [], ◌∷◌, inl, inr, ◌⊎◌, arith, refl, sym, ap, ◌∙◌, subst, ◌∣◌, int_eq, ◌&&◌, ints, dvd_antisymm, normal_limit, offset_limit, point_limit, weight_limit, direction_limit, IsLowest, Vector, vector, dot, IsDirection, IsNormal, SameDirection, none, given, follows, cancel_eq, at, num, ◌⊕◌, ◌⊖◌, ◌⊗◌, ring, IsSamePlane, IsSameRatios, form_of, vector_of, Dir, Plane, Point, self-pos, dir-self}
use Rattle.std.specs.Bool.{IsTrue}
use Rattle.std.proofs.Props.{props}
use Rattle.std.proofs.lemmas.Bool.Decides.{Decides-int_eq}
use lib.Dec.{T}
use Rattle.nef_geo.specs.Laws.{SamePointsAreEqual, SameDirectionsAreEqual, SamePlanesAreEqual}
use Rattle.nef_geo.proofs.Cramer.{IsSameRatios-from_point, difference}
use Rattle.nef_geo.proofs.Euclid.{divides_same}
use Rattle.nef_space.proofs.Vectors.{same-vector}
use Rattle.nef_space.proofs.Elementary.{nought-products, times-comm}

turn_left : (a b c d : ℤ) → a *ℤ b ≡ c *ℤ d → b *ℤ a ≡ c *ℤ d
turn_left a b c d e = ring (b ∷ a ∷ []) (at 0 ⊗ at 1) (at 1 ⊗ at 0) tt ∙ e

-- two numbers with equal products with a positive number
cancelled : (k a b : ℤ) → pos 0 <ℤ k → k *ℤ a ≡ b *ℤ k → a ≡ b
cancelled k a b p e = cancel_eq a b k p (turn_left k a b k e)

-- ---- points
same_weight : (x y z w x' y' z' w' : ℤ) → IsLowest (x ∷ y ∷ z ∷ w ∷ []) → IsLowest (x' ∷ y' ∷ z' ∷ w' ∷ []) → pos 0 <ℤ w → pos 0 <ℤ w' → IsSameRatios x y z w x' y' z' w' → w ≡ w'
same_weight x y z w x' y' z' w' h k p q s =
    let e = dvd_antisymm (divides_same w w' x y z w x' y' z' w' h (one x x' s.along_x) (one y y' s.along_y) (one z z' s.along_z) refl)
    (divides_same w' w x' y' z' w' x y z w k (two x x' s.along_x) (two y y' s.along_y) (two z z' s.along_z) refl) in
    omega (arith, ints, e)
  where
    one : (n n' : ℤ) → n *ℤ w' ≡ n' *ℤ w → w *ℤ n' ≡ n *ℤ w'
    one n n' e = ring (w ∷ n' ∷ []) (at 0 ⊗ at 1) (at 1 ⊗ at 0) tt ∙ sym e

    two : (n n' : ℤ) → n *ℤ w' ≡ n' *ℤ w → w' *ℤ n ≡ n' *ℤ w
    two n n' e = ring (w' ∷ n ∷ []) (at 0 ⊗ at 1) (at 1 ⊗ at 0) tt ∙ e

same_number : (n n' w w' : ℤ) → pos 0 <ℤ w → w ≡ w' → n *ℤ w' ≡ n' *ℤ w → n ≡ n'
same_number n n' w w' p i e = cancel_eq n n' w p (ap (λ m. n *ℤ m) i ∙ e)

abbrev IsPoint : (x y z w : ℤ) → Type 0
IsPoint x y z w = (nat_abs x ≤ point_limit) × (nat_abs y ≤ point_limit) × (nat_abs z ≤ point_limit) × (nat_abs w ≤ weight_limit) × (pos 0 <ℤ w) × IsLowest (x ∷ y ∷ z ∷ w ∷ [])

IsPoint-prop : (x y z w : ℤ) → IsProp (IsPoint x y z w)
IsPoint-prop x y z w = hlevel props

abbrev point : (x y z w : ℤ) → IsPoint x y z w → Point
point x y z w h = record { x = x; y = y; z = z; w = w; x_small = h.0; y_small = h.1; z_small = h.2; w_small = h.3; proper = h.4; lowest = h.5 }

-- points with the same numbers are equal, whatever proofs they hold
point_equal : (x y z w : ℤ) (h : IsPoint x y z w) (x' y' z' w' : ℤ) (k : IsPoint x' y' z' w') → x ≡ x' → y ≡ y' → z ≡ z' → w ≡ w' → point x y z w h ≡ point x' y' z' w' k
point_equal x y z w h x' y' z' w' k ex ey ez ew =
    subst (λ (a : ℤ). (i : IsPoint a y' z' w') → point x y z w h ≡ point a y' z' w' i) ex
    (subst (λ (b : ℤ). (i : IsPoint x b z' w') → point x y z w h ≡ point x b z' w' i) ey
    (subst (λ (c : ℤ). (i : IsPoint x y c w') → point x y z w h ≡ point x y c w' i) ez
    (subst (λ (d : ℤ). (i : IsPoint x y z d) → point x y z w h ≡ point x y z d i) ew
    (λ (i : IsPoint x y z w). ap (point x y z w) (IsPoint-prop x y z w h i))))) k

pub same_points_equal : SamePointsAreEqual
same_points_equal p q same =
    let s = IsSameRatios-from_point p.x p.y p.z p.w q.x q.y q.z q.w p.proper q.proper same in
    let w_is = same_weight p.x p.y p.z p.w q.x q.y q.z q.w p.lowest q.lowest p.proper q.proper s in
    point_equal p.x p.y p.z p.w (p.x_small, p.y_small, p.z_small, p.w_small, p.proper, p.lowest) q.x q.y q.z q.w (q.x_small, q.y_small, q.z_small, q.w_small, q.proper, q.lowest)
    (same_number p.x q.x p.w q.w p.proper w_is s.along_x) (same_number p.y q.y p.w q.w p.proper w_is s.along_y) (same_number p.z q.z p.w q.w p.proper w_is s.along_z) w_is

-- ---- four numbers with equal cross products, both in lowest terms
pub record IsCrossEqual (x y z w x' y' z' w' : ℤ) : Type 0 where
  pub xy : x *ℤ y' ≡ y *ℤ x'
  pub xz : x *ℤ z' ≡ z *ℤ x'
  pub xw : x *ℤ w' ≡ w *ℤ x'
  pub yz : y *ℤ z' ≡ z *ℤ y'
  pub yw : y *ℤ w' ≡ w *ℤ y'
  pub zw : z *ℤ w' ≡ w *ℤ z'

swap_both : (a b c d : ℤ) → a *ℤ b ≡ c *ℤ d → b *ℤ a ≡ d *ℤ c
swap_both a b c d e = ring (b ∷ a ∷ []) (at 0 ⊗ at 1) (at 1 ⊗ at 0) tt ∙ e ∙ ring (c ∷ d ∷ []) (at 0 ⊗ at 1) (at 1 ⊗ at 0) tt

IsCrossEqual-swap : (x y z w x' y' z' w' : ℤ) → IsCrossEqual x y z w x' y' z' w' → IsCrossEqual x' y' z' w' x y z w
IsCrossEqual-swap x y z w x' y' z' w' s = record {
  xy = sym (swap_both x y' y x' s.xy);
  xz = sym (swap_both x z' z x' s.xz);
  xw = sym (swap_both x w' w x' s.xw);
  yz = sym (swap_both y z' z y' s.yz);
  yw = sym (swap_both y w' w y' s.yw);
  zw = sym (swap_both z w' w z' s.zw);
}

record DividesEach (x y z w x' y' z' w' : ℤ) : Type 0 where
  of_x : nat_abs x ∣ nat_abs x'
  of_y : nat_abs y ∣ nat_abs y'
  of_z : nat_abs z ∣ nat_abs z'
  of_w : nat_abs w ∣ nat_abs w'

divides_each : (x y z w x' y' z' w' : ℤ) → IsLowest (x ∷ y ∷ z ∷ w ∷ []) → IsCrossEqual x y z w x' y' z' w' → DividesEach x y z w x' y' z' w'
divides_each x y z w x' y' z' w' h s = record {
  of_x = divides_same x x' x y z w x' y' z' w' h refl s.xy s.xz s.xw;
  of_y = divides_same y y' x y z w x' y' z' w' h (sym s.xy) refl s.yz s.yw;
  of_z = divides_same z z' x y z w x' y' z' w' h (sym s.xz) (sym s.yz) refl s.zw;
  of_w = divides_same w w' x y z w x' y' z' w' h (sym s.xw) (sym s.yw) (sym s.zw) refl;
}

pub record IsSameSizes (x y z w x' y' z' w' : ℤ) : Type 0 where
  pub of_x : nat_abs x ≡ nat_abs x'
  pub of_y : nat_abs y ≡ nat_abs y'
  pub of_z : nat_abs z ≡ nat_abs z'
  pub of_w : nat_abs w ≡ nat_abs w'

same_sizes : (x y z w x' y' z' w' : ℤ) → IsLowest (x ∷ y ∷ z ∷ w ∷ []) → IsLowest (x' ∷ y' ∷ z' ∷ w' ∷ []) → IsCrossEqual x y z w x' y' z' w' → IsSameSizes x y z w x' y' z' w'
same_sizes x y z w x' y' z' w' h k s =
    let d = divides_each x y z w x' y' z' w' h s in
    let e = divides_each x' y' z' w' x y z w k (IsCrossEqual-swap x y z w x' y' z' w' s) in
    record { of_x = dvd_antisymm d.of_x e.of_x; of_y = dvd_antisymm d.of_y e.of_y; of_z = dvd_antisymm d.of_z e.of_z; of_w = dvd_antisymm d.of_w e.of_w }

-- ---- directions
-- numbers of one size and one sign are equal
same_sign : (n n' p q : ℤ) → pos 0 <ℤ p → pos 0 <ℤ q → nat_abs n ≡ nat_abs n' → n *ℤ p ≡ n' *ℤ q → n ≡ n'
same_sign (pos a) (pos b) p q hp hq s e = ap pos s
same_sign (negsuc a) (negsuc b) p q hp hq s e = omega (arith, ints)
same_sign (pos a) (negsuc b) (pos zero) q hp hq s e = absurd (omega (arith, ints))
same_sign (pos a) (negsuc b) (negsuc p) q hp hq s e = absurd (omega (arith, ints))
same_sign (pos a) (negsuc b) (pos (suc p)) (pos zero) hp hq s e = absurd (omega (arith, ints))
same_sign (pos a) (negsuc b) (pos (suc p)) (negsuc q) hp hq s e = absurd (omega (arith, ints))
same_sign (pos a) (negsuc b) (pos (suc p)) (pos (suc q)) hp hq s e = absurd (omega (arith, ints))
same_sign (negsuc a) (pos b) (pos zero) q hp hq s e = absurd (omega (arith, ints))
same_sign (negsuc a) (pos b) (negsuc p) q hp hq s e = absurd (omega (arith, ints))
same_sign (negsuc a) (pos b) (pos (suc p)) (pos zero) hp hq s e = absurd (omega (arith, ints))
same_sign (negsuc a) (pos b) (pos (suc p)) (negsuc q) hp hq s e = absurd (omega (arith, ints))
same_sign (negsuc a) (pos b) (pos (suc p)) (pos (suc q)) hp hq s e = absurd (omega (arith, ints))

record IsSameTriple (a b : Vector) : Type 0 where
  of_x : a.x ≡ b.x
  of_y : a.y ≡ b.y
  of_z : a.z ≡ b.z

lowest_four : (x y z : ℤ) → IsLowest (x ∷ y ∷ z ∷ []) → IsLowest (x ∷ y ∷ z ∷ pos 0 ∷ [])
lowest_four x y z h = λ k d. h k (d.0, (d.1.0, (d.1.1.0, tt)))

abbrev six : Vector → Vector → List ℤ
six a b = a.x ∷ a.y ∷ a.z ∷ b.x ∷ b.y ∷ b.z ∷ []

same_triple : (a b : Vector) → IsLowest (a.x ∷ a.y ∷ a.z ∷ []) → IsLowest (b.x ∷ b.y ∷ b.z ∷ []) → IsDirection a → SameDirection a b → IsSameTriple a b
same_triple a b h k some s =
    let cx : a.y *ℤ b.z -ℤ a.z *ℤ b.y ≡ pos 0 = s.parallel.0 in
    let cy : a.z *ℤ b.x -ℤ a.x *ℤ b.z ≡ pos 0 = s.parallel.1 in
    let cz : a.x *ℤ b.y -ℤ a.y *ℤ b.x ≡ pos 0 = s.parallel.2 in
    let sizes = same_sizes a.x a.y a.z (pos 0) b.x b.y b.z (pos 0) (lowest_four a.x a.y a.z h) (lowest_four b.x b.y b.z k) (record {
      xy = difference _ _ cz;
      xz = sym (difference _ _ cy);
      xw = nought-products a.x b.x;
      yz = difference _ _ cx;
      yw = nought-products a.y b.y;
      zw = nought-products a.z b.z;
    }) in
    let ab = at 0 ⊗ at 3 ⊕ at 1 ⊗ at 4 ⊕ at 2 ⊗ at 5 in
    let aa = at 0 ⊗ at 0 ⊕ at 1 ⊗ at 1 ⊕ at 2 ⊗ at 2 in
    let x = at 1 ⊗ at 5 ⊖ at 2 ⊗ at 4 in let y = at 2 ⊗ at 3 ⊖ at 0 ⊗ at 5 in let z = at 0 ⊗ at 4 ⊖ at 1 ⊗ at 3 in
    let o = num (pos 0) in
    let positive = self-pos a some in
    record {
      of_x = same_sign a.x b.x (dot a b) (dot a a) s.forward positive sizes.of_x
          (follows (six a b) (at 0 ⊗ ab) (at 3 ⊗ aa) (given (at 1) z o cz (given (num (negsuc 0) ⊗ at 2) y o cy none)) tt);
      of_y = same_sign a.y b.y (dot a b) (dot a a) s.forward positive sizes.of_y
          (follows (six a b) (at 1 ⊗ ab) (at 4 ⊗ aa) (given (at 2) x o cx (given (num (negsuc 0) ⊗ at 0) z o cz none)) tt);
      of_z = same_sign a.z b.z (dot a b) (dot a a) s.forward positive sizes.of_z
          (follows (six a b) (at 2 ⊗ ab) (at 5 ⊗ aa) (given (at 0) y o cy (given (num (negsuc 0) ⊗ at 1) x o cx none)) tt);
    }

abbrev pub IsDir : (x y z : ℤ) → Type 0
IsDir x y z = (nat_abs x ≤ direction_limit) × (nat_abs y ≤ direction_limit) × (nat_abs z ≤ direction_limit) × IsDirection (vector x y z) × IsLowest (x ∷ y ∷ z ∷ [])

IsDir-prop : (x y z : ℤ) → IsProp (IsDir x y z)
IsDir-prop x y z = hlevel props

abbrev pub direction : (x y z : ℤ) → IsDir x y z → Dir
direction x y z h = record { x = x; y = y; z = z; x_small = h.0; y_small = h.1; z_small = h.2; some = h.3; lowest = h.4 }

pub direction_equal : (x y z : ℤ) (h : IsDir x y z) (x' y' z' : ℤ) (k : IsDir x' y' z') → x ≡ x' → y ≡ y' → z ≡ z' → direction x y z h ≡ direction x' y' z' k
direction_equal x y z h x' y' z' k ex ey ez =
    subst (λ (a : ℤ). (i : IsDir a y' z') → direction x y z h ≡ direction a y' z' i) ex
    (subst (λ (b : ℤ). (i : IsDir x b z') → direction x y z h ≡ direction x b z' i) ey
    (subst (λ (c : ℤ). (i : IsDir x y c) → direction x y z h ≡ direction x y c i) ez
    (λ (i : IsDir x y z). ap (direction x y z) (IsDir-prop x y z h i)))) k

pub same_directions_equal : SameDirectionsAreEqual
same_directions_equal a b same =
    let s = same_triple (vector_of a) (vector_of b) a.lowest b.lowest a.some same in
    direction_equal a.x a.y a.z (a.x_small, a.y_small, a.z_small, a.some, a.lowest) b.x b.y b.z (b.x_small, b.y_small, b.z_small, b.some, b.lowest) s.of_x s.of_y s.of_z

-- ---- planes
record IsSameFour (x y z w x' y' z' w' : ℤ) : Type 0 where
  of_x : x ≡ x'
  of_y : y ≡ y'
  of_z : z ≡ z'
  of_w : w ≡ w'

same_size : (n n' : ℤ) → pos 0 ≤ℤ n → pos 0 ≤ℤ n' → nat_abs n ≡ nat_abs n' → n ≡ n'
same_size n n' p q e = omega (arith, ints)

-- with a positive number the same, equal cross products give equal numbers
same_beside : (k k' n n' : ℤ) → pos 0 <ℤ k → k ≡ k' → k *ℤ n' ≡ n *ℤ k' → n ≡ n'
same_beside k k' n n' p i e = sym (cancelled k n' n p (e ∙ ap (λ m. n *ℤ m) (sym i)))

positive_or : (n : ℤ) → pos 0 ≤ℤ n → (n ≡ pos 0) ⊎ (pos 0 <ℤ n)
positive_or (pos zero) h = inl refl
positive_or (pos (suc n)) h = inr (omega (arith, ints))
positive_or (negsuc n) h = absurd (omega (arith, ints))

same_four : (a b c d a' b' c' d' : ℤ) → IsNormal (vector a b c) → IsNormal (vector a' b' c') → IsSameSizes a b c d a' b' c' d' → IsCrossEqual a b c d a' b' c' d' → IsSameFour a b c d a' b' c' d'
same_four a b c d a' b' c' d' h k s e =
    let a_is = same_size a a' h.first k.first s.of_x in
    elim (positive_or a h.first) [
      | inr p ↦ record { of_x = a_is; of_y = same_beside a a' b b' p a_is e.xy; of_z = same_beside a a' c c' p a_is e.xz; of_w = same_beside a a' d d' p a_is e.xw }
      | inl z ↦
          let z' : a' ≡ pos 0 = sym a_is ∙ z in
          let b_is = same_size b b' (h.second z) (k.second z') s.of_y in
          elim (positive_or b (h.second z)) [
            | inr p ↦ record { of_x = a_is; of_y = b_is; of_z = same_beside b b' c c' p b_is e.yz; of_w = same_beside b b' d d' p b_is e.yw }
            | inl y ↦
                let y' : b' ≡ pos 0 = sym b_is ∙ y in
                let p : pos 0 <ℤ c = h.third z y in let q : pos 0 <ℤ c' = k.third z' y' in
                let c_is = same_size c c' (omega (arith, ints)) (omega (arith, ints)) s.of_z in
                record { of_x = a_is; of_y = b_is; of_z = c_is; of_w = same_beside c c' d d' p c_is e.zw }
          ]
    ]

abbrev pub IsPlane : (a b c d : ℤ) → Type 0
IsPlane a b c d = (nat_abs a ≤ normal_limit) × (nat_abs b ≤ normal_limit) × (nat_abs c ≤ normal_limit) × (nat_abs d ≤ offset_limit) × IsLowest (a ∷ b ∷ c ∷ d ∷ []) × IsNormal (vector a b c)

IsPlane-prop : (a b c d : ℤ) → IsProp (IsPlane a b c d)
IsPlane-prop a b c d = hlevel props

abbrev pub plane : (a b c d : ℤ) → IsPlane a b c d → Plane
plane a b c d h = record { a = a; b = b; c = c; d = d; a_small = h.0; b_small = h.1; c_small = h.2; d_small = h.3; lowest = h.4; normal = h.5 }

pub plane_equal : (a b c d : ℤ) (h : IsPlane a b c d) (a' b' c' d' : ℤ) (k : IsPlane a' b' c' d') → a ≡ a' → b ≡ b' → c ≡ c' → d ≡ d' → plane a b c d h ≡ plane a' b' c' d' k
plane_equal a b c d h a' b' c' d' k ea eb ec ed =
    subst (λ (x : ℤ). (i : IsPlane x b' c' d') → plane a b c d h ≡ plane x b' c' d' i) ea
    (subst (λ (x : ℤ). (i : IsPlane a x c' d') → plane a b c d h ≡ plane a x c' d' i) eb
    (subst (λ (x : ℤ). (i : IsPlane a b x d') → plane a b c d h ≡ plane a b x d' i) ec
    (subst (λ (x : ℤ). (i : IsPlane a b c x) → plane a b c d h ≡ plane a b c x i) ed
    (λ (i : IsPlane a b c d). ap (plane a b c d) (IsPlane-prop a b c d h i))))) k

cross_equal : (g h : Plane) → IsSamePlane (form_of g) (form_of h) → IsCrossEqual g.a g.b g.c g.d h.a h.b h.c h.d
cross_equal g h same =
    let cx : g.b *ℤ h.c -ℤ g.c *ℤ h.b ≡ pos 0 = same.parallel.0 in
    let cy : g.c *ℤ h.a -ℤ g.a *ℤ h.c ≡ pos 0 = same.parallel.1 in
    let cz : g.a *ℤ h.b -ℤ g.b *ℤ h.a ≡ pos 0 = same.parallel.2 in
    record {
      xy = difference _ _ cz;
      xz = sym (difference _ _ cy);
      xw = same.along_a ∙ times-comm h.a g.d;
      yz = difference _ _ cx;
      yw = same.along_b ∙ times-comm h.b g.d;
      zw = same.along_c ∙ times-comm h.c g.d;
    }

pub same_planes_equal : SamePlanesAreEqual
same_planes_equal g h same =
    let e = cross_equal g h same in
    let s = same_four g.a g.b g.c g.d h.a h.b h.c h.d g.normal h.normal (same_sizes g.a g.b g.c g.d h.a h.b h.c h.d g.lowest h.lowest e) e in
    plane_equal g.a g.b g.c g.d (g.a_small, g.b_small, g.c_small, g.d_small, g.lowest, g.normal) h.a h.b h.c h.d (h.a_small, h.b_small, h.c_small, h.d_small, h.lowest, h.normal) s.of_x s.of_y s.of_z s.of_w

-- ---- the program's test of equality
abbrev pub equal_test : Dir → Dir → Bool
equal_test d e = int_eq d.x e.x && (int_eq d.y e.y && int_eq d.z e.z)

all_three : (p q r : Bool) → true ≡ (p && (q && r)) → IsTrue p × IsTrue q × IsTrue r
all_three true true true h = (refl, refl, refl)
all_three true true false h = absurd (subst T h tt)
all_three true false r h = absurd (subst T h tt)
all_three false q r h = absurd (subst T h tt)

pub same_if_equal : (d e : Dir) → true ≡ equal_test d e → SameDirection (vector_of d) (vector_of e)
same_if_equal d e h =
    let tests = all_three (int_eq d.x e.x) (int_eq d.y e.y) (int_eq d.z e.z) h in
    subst (SameDirection (vector_of d)) (same-vector d.x d.y d.z e.x e.y e.z ((Decides-int_eq d.x e.x).0 tests.0) ((Decides-int_eq d.y e.y).0 tests.1) ((Decides-int_eq d.z e.z).0 tests.2)) (dir-self (vector_of d) d.some)

pub itself : (x : ℤ) → int_eq x x ≡ true
itself x = (Decides-int_eq x x).1 refl

pub equal_to_itself : (d : Dir) → equal_test d d ≡ true
equal_to_itself d = rw (itself d.x, itself d.y, itself d.z) refl
