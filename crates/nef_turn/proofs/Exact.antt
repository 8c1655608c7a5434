-- Turned numbers make one direction and one plane in lowest terms.
use Rattle.nef_turn.proofs.Prelude.{◌≡◌, ℕ, ◌≤◌, ℤ, pos, ◌*ℤ◌, ◌-ℤ◌, ◌<ℤ◌, neg_ℤ, nat_abs, Bool, true, false, cond, [], ◌∷◌, arith, ap, sym, ◌∙◌, subst, w64, to_z, of_z, ints, ring, at, num, neg, ◌⊖◌, ◌⊗◌, direction_limit, normal_limit, point_limit, SpacePoint, Form, form, SamePoint, normal_of, Vector, vector, IsDirection, IsAtMost, IsNormal, SameDirection, IsSamePlane, IsInRange, IsPositiveMultiple, form_of, vector_of, opposite_form, given_form, point_at, Dir, Plane, Point, IsAtMost-weaken as larger, same_directions_equal, same_planes_equal, Triple, negated_if, turned, normal-direction, turned_vector, turned_plane, signed, signed_form, same-point_sym, at_most-turned, lowest_vector-turned, lowest_form-turned, normal-choice}
use Rattle.nef_geo.specs.declared.plane.Oriented.{Oriented}
use Rattle.nef_geo.proofs.Products.{kept}
use Rattle.nef_geo.proofs.Unique.{direction, plane}
use Rattle.nef_case.proofs.TurnLemmas.{same_triple}
use Rattle.law_geometry.proofs.turns.Carriers.{same-form}
use Rattle.law_geometry.proofs.turns.Vectors.{direction-turned}
use Rattle.nef_space.proofs.Vectors.{same-vector}

-- ---- numbers that fit their machine words
abbrev pub word : ℤ → ℤ
word n = to_z w64 (of_z w64 n)

pub word-is : (x a : ℤ) → x ≡ a → nat_abs a ≤ point_limit → word x ≡ a
word-is x a e l = ap word e ∙ kept a l

pub turned-words : (k : ℕ) (t : Triple) (x y z a b c : ℤ) → t ≡ turned k (word x, word y, word z) → x ≡ a → y ≡ b → z ≡ c → nat_abs a ≤ point_limit → nat_abs b ≤ point_limit → nat_abs c ≤ point_limit → t ≡ turned k (a, b, c)
turned-words k t x y z a b c e p q r l m n = e ∙ ap (turned k) (same_triple (word x) (word y) (word z) a b c (word-is x a p l) (word-is y b q m) (word-is z c r n))

pub words-are : (k : ℕ) (t : Triple) (v : Vector) → t ≡ turned k (v.x, v.y, v.z) → IsAtMost point_limit v → vector (word t.0) (word t.1) (word t.2) ≡ turned_vector k v
words-are k t v e h =
    let s = at_most-turned k false point_limit v h in
    same-vector _ _ _ _ _ _ (word-is t.0 _ (ap (λ (u : Triple). u.0) e) s.of_x) (word-is t.1 _ (ap (λ (u : Triple). u.1) e) s.of_y) (word-is t.2 _ (ap (λ (u : Triple). u.2) e) s.of_z)

-- ---- points
pub point-words : (k : ℕ) (p : Point) (t : Triple) (x y z : ℤ) → t ≡ turned k (word x, word y, word z) → x ≡ p.x → y ≡ p.y → z ≡ p.z → vector (word t.0) (word t.1) (word t.2) ≡ turned_vector k (vector p.x p.y p.z)
point-words k p t x y z e u v w =
    words-are k t (vector p.x p.y p.z) (turned-words k t x y z p.x p.y p.z e u v w p.x_small p.y_small p.z_small) (record { of_x = p.x_small; of_y = p.y_small; of_z = p.z_small })

pub point-small : (k : ℕ) (p : Point) → IsAtMost point_limit (turned_vector k (vector p.x p.y p.z))
point-small k p = at_most-turned k false point_limit (vector p.x p.y p.z) (record { of_x = p.x_small; of_y = p.y_small; of_z = p.z_small })

pub same-numbers : (x y z w : ℤ) (h : pos 0 <ℤ w) (q p : SpacePoint) → x ≡ p.x → y ≡ p.y → z ≡ p.z → nat_abs w ≡ p.w → SamePoint (point_at x y z w h) q → SamePoint q p
same-numbers x y z w h q p ex ey ez ew S =
    let s = same-point_sym (point_at x y z w h) q S in
    record { along_x = by q.x x p.x ex s.along_x; along_y = by q.y y p.y ey s.along_y; along_z = by q.z z p.z ez s.along_z }
  where
    by : (a n m : ℤ) → n ≡ m → a *ℤ pos (nat_abs w) ≡ n *ℤ pos q.w → a *ℤ pos p.w ≡ m *ℤ pos q.w
    by a n m e f = subst (λ (i : ℕ). a *ℤ pos i ≡ m *ℤ pos q.w) ew (subst (λ (i : ℤ). a *ℤ pos (nat_abs w) ≡ i *ℤ pos q.w) e f)

-- ---- directions
pub dir-words : (k : ℕ) (d : Dir) (t : Triple) (x y z : ℤ) → t ≡ turned k (word x, word y, word z) → x ≡ d.x → y ≡ d.y → z ≡ d.z → vector (word t.0) (word t.1) (word t.2) ≡ turned_vector k (vector_of d)
dir-words k d t x y z e p q r =
    let s : IsAtMost point_limit (vector_of d) = larger direction_limit point_limit (vector_of d) (omega arith) (record { of_x = d.x_small; of_y = d.y_small; of_z = d.z_small }) in
    words-are k t (vector_of d) (turned-words k t x y z d.x d.y d.z e p q r s.of_x s.of_y s.of_z) s

module _ (k : ℕ) (d : Dir) where
  abbrev t : Vector
  t = turned_vector k (vector_of d)

  pub dir-small : IsAtMost direction_limit t
  dir-small = at_most-turned k false direction_limit (vector_of d) (record { of_x = d.x_small; of_y = d.y_small; of_z = d.z_small })

  pub dir-some : IsDirection t
  dir-some = (direction-turned k (vector_of d)).1 d.some

  abbrev image : Dir
  image = direction t.x t.y t.z (dir-small.of_x, dir-small.of_y, dir-small.of_z, dir-some, lowest_vector-turned k false (vector_of d) d.lowest)

  pub dir-one : (r : Dir) → SameDirection t (vector_of r) → vector_of r ≡ t
  dir-one r s = ap vector_of (sym (same_directions_equal image r s))

-- ---- planes
times : (b c : Bool) (q x p : ℤ) → x ≡ q *ℤ negated_if c p → negated_if b x ≡ negated_if b (negated_if c q) *ℤ p
times true true q x p e = ap neg_ℤ e ∙ ring (q ∷ p ∷ []) (neg (at 0 ⊗ neg (at 1))) (neg (neg (at 0)) ⊗ at 1) tt
times true false q x p e = ap neg_ℤ e ∙ ring (q ∷ p ∷ []) (neg (at 0 ⊗ at 1)) (neg (at 0) ⊗ at 1) tt
times false true q x p e = e ∙ ring (q ∷ p ∷ []) (at 0 ⊗ neg (at 1)) (neg (at 0) ⊗ at 1) tt
times false false q x p e = e

across : (m g h k l : ℤ) → g ≡ m *ℤ h → k ≡ m *ℤ l → g *ℤ l -ℤ k *ℤ h ≡ pos 0
across m g h k l e f = ap (λ r. r *ℤ l -ℤ k *ℤ h) e ∙ ap (λ r. m *ℤ h *ℤ l -ℤ r *ℤ h) f ∙ ring (m ∷ h ∷ l ∷ []) (at 0 ⊗ at 1 ⊗ at 2 ⊖ at 0 ⊗ at 2 ⊗ at 1) (num (pos 0)) tt

along : (m g h k l : ℤ) → g ≡ m *ℤ h → k ≡ m *ℤ l → g *ℤ l ≡ h *ℤ k
along m g h k l e f = ap (λ r. r *ℤ l) e ∙ ring (m ∷ h ∷ l ∷ []) (at 0 ⊗ at 1 ⊗ at 2) (at 1 ⊗ (at 0 ⊗ at 2)) tt ∙ ap (λ r. h *ℤ r) (sym f)

multiple-same : (g h : Form) (m : ℤ) → g.a ≡ m *ℤ h.a → g.b ≡ m *ℤ h.b → g.c ≡ m *ℤ h.c → g.d ≡ m *ℤ h.d → IsSamePlane g h
multiple-same g h m a b c d = record {
  parallel = (across m g.b h.b g.c h.c b c, across m g.c h.c g.a h.a c a, across m g.a h.a g.b h.b a b);
  along_a = along m g.a h.a g.d h.d a d;
  along_b = along m g.b h.b g.d h.d b d;
  along_c = along m g.c h.c g.d h.d c d;
}

same-plane : (f p : Form) (b c : Bool) → IsPositiveMultiple f (cond c (opposite_form p) p) → IsSamePlane (signed_form b f) p
same-plane f p b true m = multiple-same (signed_form b f) p (negated_if b (negated_if true m.factor)) (times b true m.factor f.a p.a m.a_is) (times b true m.factor f.b p.b m.b_is) (times b true m.factor f.c p.c m.c_is) (times b true m.factor f.d p.d m.d_is)
same-plane f p b false m = multiple-same (signed_form b f) p (negated_if b (negated_if false m.factor)) (times b false m.factor f.a p.a m.a_is) (times b false m.factor f.b p.b m.b_is) (times b false m.factor f.c p.c m.c_is) (times b false m.factor f.d p.d m.d_is)

size-kept : (b : Bool) (x : ℤ) (n : ℕ) → nat_abs x ≤ n → nat_abs (negated_if b x) ≤ n
size-kept true x n h = omega (arith, ints, h)
size-kept false x n h = h

pub plane-words : (k : ℕ) (g : Plane) (t : Triple) (x y z w : ℤ) → t ≡ turned k (word x, word y, word z) → x ≡ g.a → y ≡ g.b → z ≡ g.c → w ≡ g.d → form (word t.0) (word t.1) (word t.2) (word w) ≡ turned_plane k (form_of g)
plane-words k g t x y z w e p q r l =
    let v : Vector = vector g.a g.b g.c in
    let s : IsAtMost point_limit v = larger normal_limit point_limit v (omega arith) (record { of_x = g.a_small; of_y = g.b_small; of_z = g.c_small }) in
    let u = words-are k t v (turned-words k t x y z g.a g.b g.c e p q r s.of_x s.of_y s.of_z) s in
    let m = g.d_small in
    same-form _ _ _ _ _ _ _ _ (ap (λ (r : Vector). r.x) u) (ap (λ (r : Vector). r.y) u) (ap (λ (r : Vector). r.z) u) (word-is w g.d l (omega (arith, m)))

module _ (k : ℕ) (g : Plane) where
  abbrev f : Form
  f = turned_plane k (form_of g)

  abbrev v : Vector
  v = vector g.a g.b g.c

  abbrev v-small : IsAtMost normal_limit v
  v-small = record { of_x = g.a_small; of_y = g.b_small; of_z = g.c_small }

  pub plane-in_range : IsInRange f
  plane-in_range = let s = at_most-turned k false normal_limit v v-small in record { a_small = s.of_x; b_small = s.of_y; c_small = s.of_z; d_small = g.d_small }

  pub plane-some : IsDirection (normal_of f)
  plane-some = (direction-turned k v).1 (normal-direction v g.normal)

  normal : (b : Bool) × IsNormal (signed b (turned_vector k v))
  normal = normal-choice (turned_vector k v) plane-some

  pub plane-one : (o : Oriented) → IsPositiveMultiple f (given_form o) → (b : Bool) × (form_of o.plane ≡ signed_form b f)
  plane-one o m = (normal.0, ap form_of (sym (same_planes_equal image o.plane (same-plane f (form_of o.plane) normal.0 o.flipped m))))
    where
      s : IsAtMost normal_limit (signed normal.0 (turned_vector k v))
      s = at_most-turned k normal.0 normal_limit v v-small

      image : Plane
      image = plane (negated_if normal.0 f.a) (negated_if normal.0 f.b) (negated_if normal.0 f.c) (negated_if normal.0 f.d)
          (s.of_x, s.of_y, s.of_z, size-kept normal.0 g.d _ g.d_small, lowest_form-turned k normal.0 (form_of g) g.lowest, normal.1)
