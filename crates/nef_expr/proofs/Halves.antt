-- A turned plane is read as it is given.
use Rattle.nef_expr.proofs.Prelude.{◌≡◌, ℕ, ◌≤◌, ℤ, pos, ◌-ℤ◌, ◌*ℤ◌, neg_ℤ, nat_abs, Bool, true, false, cond, [], ◌∷◌, arith, ap, sym, ◌∙◌, subst, w64, to_z, of_z, ints, unsigned_abs-mul, ◌∣◌, ring, at, num, ◌⊗◌, normal_limit, offset_limit, point_limit, IsLowest, Form, form, form_numbers, normal_of, Vector, vector, IsDirection, IsAtMost, IsInRange, IsPositiveMultiple, form_of, given_form, opposite_form, Oriented, Triple, turned, turned_vector, turned_plane, same-form}
use Rattle.std.proofs.Math.Nat.{dvd-mul_right}
use Rattle.nef_geo.specs.declared.plane.Plane.{Plane}
use Rattle.nef_geo.proofs.Products.{kept}
use Rattle.nef_case.proofs.TurnLemmas.{same_triple}
use Rattle.law_geometry.proofs.turns.Numbers.{at_most-turned, lowest_form-turned}
use Rattle.law_geometry.proofs.turns.Vectors.{direction-turned}
use Rattle.nef_space.proofs.Vectors.{neg-zero, normal-direction}

abbrev pub word : ℤ → ℤ
word n = to_z w64 (of_z w64 n)

-- ---- the given numbers
pub minus-word : (x a : ℤ) → x ≡ a → nat_abs a ≤ offset_limit → word (pos 0 -ℤ word x) ≡ neg_ℤ a
minus-word x a e l =
    let zero : pos 0 -ℤ a ≡ neg_ℤ a = omega (arith, ints) in
    ap (λ (n : ℤ). word (pos 0 -ℤ word n)) e ∙ ap (λ (n : ℤ). word (pos 0 -ℤ n)) (kept a (omega (arith, l))) ∙ ap word zero ∙ kept (neg_ℤ a) (omega (arith, ints, l))

pub given-flipped : (o : Oriented) (g : Plane) → g ≡ o.plane → o.flipped ≡ true → opposite_form (form_of g) ≡ given_form o
given-flipped o g e f = ap (λ (p : Plane). opposite_form (form_of p)) e ∙ ap (λ (b : Bool). cond b (opposite_form (form_of o.plane)) (form_of o.plane)) (sym f)

module _ (g : Plane) where
  pub given-small : (b : Bool) → IsInRange (given_form (record { plane = g; flipped = b }))
  given-small true = let p = g.a_small in let q = g.b_small in let r = g.c_small in let s = g.d_small in record { a_small = size g.a normal_limit p; b_small = size g.b normal_limit q; c_small = size g.c normal_limit r; d_small = size g.d offset_limit s }
    where
      size : (x : ℤ) (n : ℕ) → nat_abs x ≤ n → nat_abs (neg_ℤ x) ≤ n
      size x n l = omega (arith, ints, l)
  given-small false = record { a_small = g.a_small; b_small = g.b_small; c_small = g.c_small; d_small = g.d_small }

  pub given-some : (b : Bool) → IsDirection (normal_of (given_form (record { plane = g; flipped = b })))
  given-some true = λ z. normal-direction (vector g.a g.b g.c) g.normal (neg-zero g.a z.0, neg-zero g.b z.1, neg-zero g.c z.2)
  given-some false = normal-direction (vector g.a g.b g.c) g.normal

  pub given-lowest : (b : Bool) → IsLowest (form_numbers (given_form (record { plane = g; flipped = b })))
  given-lowest true = lowest_form-turned 0 true (form_of g) g.lowest
  given-lowest false = g.lowest

-- ---- the numbers that are read
module _ (t : ℕ) (h : Form) (small : IsInRange h) where
  abbrev normal : Vector
  normal = vector h.a h.b h.c

  normal-small : IsAtMost normal_limit normal
  normal-small = record { of_x = small.a_small; of_y = small.b_small; of_z = small.c_small }

  image-normal : IsAtMost normal_limit (turned_vector t normal)
  image-normal = at_most-turned t false normal_limit normal normal-small

  pub image-in_range : IsInRange (turned_plane t h)
  image-in_range = record { a_small = image-normal.of_x; b_small = image-normal.of_y; c_small = image-normal.of_z; d_small = small.d_small }

  word-is : (x a : ℤ) (n : ℕ) → x ≡ a → nat_abs a ≤ n → n ≤ point_limit → word x ≡ a
  word-is x a n e l m = ap word e ∙ kept a (omega (arith, l, m))

  pub image-words : (r : Triple) (x y z w : ℤ) → form x y z w ≡ h → r ≡ turned t (word x, word y, word z) → form (word r.0) (word r.1) (word r.2) (word w) ≡ turned_plane t h
  image-words r x y z w e f =
      let same = same_triple (word x) (word y) (word z) h.a h.b h.c
      (word-is x h.a normal_limit (ap (λ (g : Form). g.a) e) small.a_small (omega arith))
      (word-is y h.b normal_limit (ap (λ (g : Form). g.b) e) small.b_small (omega arith))
      (word-is z h.c normal_limit (ap (λ (g : Form). g.c) e) small.c_small (omega arith)) in
      let k : r ≡ turned t (h.a, h.b, h.c) = f ∙ ap (turned t) same in
      same-form _ _ _ _ _ _ _ _
      (word-is r.0 _ normal_limit (ap (λ (u : Triple). u.0) k) image-normal.of_x (omega arith))
      (word-is r.1 _ normal_limit (ap (λ (u : Triple). u.1) k) image-normal.of_y (omega arith))
      (word-is r.2 _ normal_limit (ap (λ (u : Triple). u.2) k) image-normal.of_z (omega arith))
      (word-is w h.d offset_limit (ap (λ (g : Form). g.d) e) small.d_small (omega arith))

pub word-small : (x a : ℤ) → x ≡ a → nat_abs a ≤ normal_limit → nat_abs (word x) ≤ normal_limit
word-small x a e l = subst (λ (n : ℤ). nat_abs n ≤ normal_limit) (sym (ap word e ∙ kept a (omega (arith, l)))) l

-- ---- numbers in lowest terms are what is read of them
factor-one : (f g : Form) → IsPositiveMultiple f g → IsLowest (form_numbers f) → (m : ℤ) × (m ≡ pos 1) × (f.a ≡ m *ℤ g.a) × (f.b ≡ m *ℤ g.b) × (f.c ≡ m *ℤ g.c) × (f.d ≡ m *ℤ g.d)
factor-one f g h lowest =
    let one : nat_abs h.factor ≡ 1 = lowest (nat_abs h.factor) (part f.a g.a h.a_is, (part f.b g.b h.b_is, (part f.c g.c h.c_is, (part f.d g.d h.d_is, tt)))) in
    let p = h.positive in
    (h.factor, omega (arith, ints, one, p), h.a_is, h.b_is, h.c_is, h.d_is)
  where
    part : (x y : ℤ) → x ≡ h.factor *ℤ y → nat_abs h.factor ∣ nat_abs x
    part x y e = subst (λ (i : ℕ). nat_abs h.factor ∣ i) (sym (ap nat_abs e ∙ unsigned_abs-mul h.factor y)) (dvd-mul_right (nat_abs h.factor) (nat_abs y))

pub lowest-read : (f g : Form) → IsPositiveMultiple f g → IsLowest (form_numbers f) → g ≡ f
lowest-read f g h lowest =
    let (m, one, a, b, c, d) = factor-one f g h lowest in
    same-form _ _ _ _ _ _ _ _ (by f.a g.a m one a) (by f.b g.b m one b) (by f.c g.c m one c) (by f.d g.d m one d)
  where
    by : (x y m : ℤ) → m ≡ pos 1 → x ≡ m *ℤ y → y ≡ x
    by x y m one e = sym (e ∙ ap (λ (n : ℤ). n *ℤ y) one ∙ ring (y ∷ []) (num (pos 1) ⊗ at 0) (at 0) tt)

module _ (t : ℕ) (o : Oriented) where
  abbrev h : Form
  h = given_form o

  pub half-small : IsInRange h
  half-small = given-small o.plane o.flipped

  pub half-in_range : IsInRange (turned_plane t h)
  half-in_range = image-in_range t h half-small

  pub half-some : IsDirection (normal_of (turned_plane t h))
  half-some = (direction-turned t (vector h.a h.b h.c)).1 (given-some o.plane o.flipped)

  pub half-words : (r : Triple) (x y z w : ℤ) → form x y z w ≡ h → r ≡ turned t (word x, word y, word z) → form (word r.0) (word r.1) (word r.2) (word w) ≡ turned_plane t h
  half-words = image-words t h half-small

  pub half-read : (p : Oriented) → IsPositiveMultiple (turned_plane t h) (given_form p) → given_form p ≡ turned_plane t h
  half-read p m = lowest-read (turned_plane t h) (given_form p) m (lowest_form-turned t false h (given-lowest o.plane o.flipped))
