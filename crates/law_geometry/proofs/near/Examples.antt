-- The closed examples.
use Rattle.law_geometry.proofs.near.Prelude.{◌≡◌, zero, suc, ◌+◌, ◌*◌, ◌<◌, ℤ, pos, negsuc, ◌+ℤ◌, ◌-ℤ◌, ◌*ℤ◌, neg_ℤ, ◌≤ℤ◌, ◌<ℤ◌, nat_abs, arith, refl, ap, ◌∙◌, inl, inr, ⊎_elim, List, ◌∷◌, subst, Bool, true, false, cond, [], ints, ring, at, num, ◌⊕◌, ◌⊖◌, ◌⊗◌, given, none, follows, by_order, half_side, SpacePoint, Form, form_at, slope, Ratio, step, InFrame, Vector, vector, zero_vector, blend, IsZero, cross, triple, Set, HasLabel, Germ, Flat, Label, Out, Not, In, sign_at, carriers, IsInAllAt, slide, NearGerm, vector-same}
use Rattle.nef_space.specs.Signs.{nought, sign}
use Rattle.nef_space.specs.Laws.{space_origin}
use Rattle.nef_space.specs.Sets.{Holds}
use Rattle.law_geometry.specs.near.Examples.{x_below, x_above, y_below, y_above, z_below, z_above, x_axis, y_axis, z_axis, two_halves, wall_example, wall_part, wedge, point, HalvesDisjoint, TwoHalves, WallExample, WallPart, EdgeExample, PointAlone}
use Rattle.law_geometry.proofs.near.Near.{form-step}
use Rattle.law_geometry.proofs.near.Flats.{Flat-from_cone, FlatCone-from_flat, FlatCone-from_carriers}
use Rattle.law_geometry.proofs.near.Alike.{flat-germ}
use Rattle.law_geometry.proofs.near.Rays.{Germ-zero}
use Rattle.law_geometry.proofs.near.Decided.{germ_of}
use Rattle.law_geometry.proofs.near.Frames.{no-germ_out}
use Rattle.law_geometry.proofs.near.Topology.{inside-at, closed-at, border-at, regular-at}

here : InFrame space_origin
here = record { along_x = omega arith; along_y = omega arith; along_z = omega arith }

-- ---- flat directions by computation
abbrev is_zero : ℤ → Bool
is_zero (pos zero) = true
is_zero (pos (suc n)) = false
is_zero (negsuc n) = false

-- d lies in each form of the list that the origin lies on
abbrev in_all : List Form → Vector → Bool
in_all [] d = true
in_all (h ∷ hs) d = cond (cond (is_zero (form_at h space_origin)) (is_zero (slope h d)) true) (in_all hs d) false

both-true : (b c : Bool) → cond b c false ≡ true → (b ≡ true) × (c ≡ true)
both-true true c e = (refl, e)
both-true false c e = cc

zero-true : (s : ℤ) → is_zero s ≡ true → s ≡ pos 0
zero-true (pos zero) e = refl
zero-true (pos (suc n)) e = cc
zero-true (negsuc n) e = cc

one-true : (z s : ℤ) → cond (is_zero z) (is_zero s) true ≡ true → sign z ≡ nought → s ≡ pos 0
one-true (pos zero) s e o = zero-true s e
one-true (pos (suc n)) s e o = cc
one-true (negsuc n) s e o = cc

in_all-true : (hs : List Form) (d : Vector) → in_all hs d ≡ true → IsInAllAt hs space_origin d
in_all-true [] d e h l o = absurd l
in_all-true (k ∷ ks) d e h l o =
    let b = both-true (cond (is_zero (form_at k space_origin)) (is_zero (slope k d)) true) (in_all ks d) e in
    ⊎_elim
    (λ i. subst (λ (g : Form). sign_at g space_origin ≡ nought → slope g d ≡ pos 0) i (one-true (form_at k space_origin) (slope k d) b.0) o)
    (λ m. in_all-true ks d b.1 h m o) l

flat-here : (s : Set) (d : Vector) → in_all (carriers s) d ≡ true → Flat s space_origin d
flat-here s d e = Flat-from_cone s space_origin d (FlatCone-from_carriers s space_origin d (in_all-true (carriers s) d e))

-- ---- directions that aren't flat
-- a germ that is In in a closed half at the origin leads into it
half-germ : (h : Form) (d : Vector) → form_at h space_origin ≡ pos 0 → Germ (Set.half h true) space_origin d In → slope h d ≤ℤ pos 0
unfolding Holds
half-germ h d e (n, some, f) =
    let t : Ratio = record { a = pos 1; b = n + 1; proper = omega arith } in
    let i = (f t (omega (arith, ints), omega (arith, ints))).1 in
    let k = form-step h space_origin t d ∙ ap (λ z. pos (n + 1) *ℤ z +ℤ pos 1 *ℤ pos 1 *ℤ slope h d) e ∙ ring (pos (n + 1) ∷ slope h d ∷ []) (at 0 ⊗ num (pos 0) ⊕ num (pos 1) ⊗ num (pos 1) ⊗ at 1) (at 1) tt in
    below (form_at h (step space_origin t d)) (slope h d) i k
  where
    below : (x y : ℤ) → x ≤ℤ pos 0 → x ≡ y → y ≤ℤ pos 0
    below x y i k = omega (arith, ints)

both-germs : (a b : Set) (p : SpacePoint) (d : Vector) → Germ (Set.both a b) p d In → Germ a p d In × Germ b p d In
unfolding Holds
both-germs a b p d (n, some, f) = ((n, some, λ t h. let k = f t h in (k.0, k.1.0)), (n, some, λ t h. let k = f t h in (k.0, k.1.1)))

at_most : (x y z : ℤ) → (pos 1 *ℤ x +ℤ pos 0 *ℤ y +ℤ pos 0 *ℤ z) ≤ℤ pos 0 → (negsuc 0 *ℤ x +ℤ pos 0 *ℤ y +ℤ pos 0 *ℤ z) ≤ℤ pos 0 → x ≡ pos 0
at_most x y z h k = omega (arith, ints)

wall-germ : (d : Vector) → Germ wall_example space_origin d In → d.x ≡ pos 0
wall-germ d g = let b = both-germs (Set.half x_below true) (Set.half x_above true) space_origin d g in
    at_most d.x d.y d.z (half-germ x_below d refl b.0) (half-germ x_above d refl b.1)

cross-flat : (d e : Vector) → d.x ≡ pos 0 → d.y ≡ pos 0 → e.x ≡ pos 0 → e.y ≡ pos 0 → IsZero (cross d e)
cross-flat d e i j k l = (
  one d.y d.z e.y e.z j l,
  two d.z d.x e.z e.x i k,
  one d.x d.y e.x e.y i k,
)
  where
    -- a y - b x with a and x zero
    one : (a b x y : ℤ) → a ≡ pos 0 → x ≡ pos 0 → a *ℤ y -ℤ b *ℤ x ≡ pos 0
    one a b x y f g = follows (a ∷ b ∷ x ∷ y ∷ []) (at 0 ⊗ at 3 ⊖ at 1 ⊗ at 2) (num (pos 0)) (given (at 3) (at 0) (num (pos 0)) f (given (num (pos 0) ⊖ at 1) (at 2) (num (pos 0)) g none)) tt

    two : (a b x y : ℤ) → b ≡ pos 0 → y ≡ pos 0 → a *ℤ y -ℤ b *ℤ x ≡ pos 0
    two a b x y f g = follows (a ∷ b ∷ x ∷ y ∷ []) (at 0 ⊗ at 3 ⊖ at 1 ⊗ at 2) (num (pos 0)) (given (num (pos 0) ⊖ at 2) (at 1) (num (pos 0)) f (given (at 0) (at 3) (num (pos 0)) g none)) tt

triple-flat : (d e f : Vector) → d.x ≡ pos 0 → e.x ≡ pos 0 → f.x ≡ pos 0 → triple d e f ≡ pos 0
triple-flat d e f i j k =
    follows (d.x ∷ d.y ∷ d.z ∷ e.x ∷ e.y ∷ e.z ∷ f.x ∷ f.y ∷ f.z ∷ [])
    (at 0 ⊗ (at 4 ⊗ at 8 ⊖ at 5 ⊗ at 7) ⊕ at 1 ⊗ (at 5 ⊗ at 6 ⊖ at 3 ⊗ at 8) ⊕ at 2 ⊗ (at 3 ⊗ at 7 ⊖ at 4 ⊗ at 6)) (num (pos 0))
    (given (at 4 ⊗ at 8 ⊖ at 5 ⊗ at 7) (at 0) (num (pos 0)) i
    (given (at 2 ⊗ at 7 ⊖ at 1 ⊗ at 8) (at 3) (num (pos 0)) j
    (given (at 1 ⊗ at 5 ⊖ at 2 ⊗ at 4) (at 6) (num (pos 0)) k none))) tt

-- ---- two half-spaces
pub halves-disjoint : HalvesDisjoint
unfolding Holds
halves-disjoint p Out = (λ h. h, λ h. h)
halves-disjoint p Not = (λ h. (h.0, λ e. e), λ h. (h.0, λ k. none p.x p.y p.z (pos p.w) k.0 k.1))
  where
    none : (x y z w : ℤ) → (pos 1 *ℤ x +ℤ pos 0 *ℤ y +ℤ pos 0 *ℤ z +ℤ pos 0 *ℤ w) <ℤ pos 0 → (negsuc 0 *ℤ x +ℤ pos 0 *ℤ y +ℤ pos 0 *ℤ z +ℤ pos 0 *ℤ w) <ℤ pos 0 → ⊥
    none x y z w h k = omega (arith, ints)
halves-disjoint p In = (λ h. absurd (none p.x p.y p.z (pos p.w) h.1.0 h.1.1), λ h. absurd h.1)
  where
    none : (x y z w : ℤ) → (pos 1 *ℤ x +ℤ pos 0 *ℤ y +ℤ pos 0 *ℤ z +ℤ pos 0 *ℤ w) <ℤ pos 0 → (negsuc 0 *ℤ x +ℤ pos 0 *ℤ y +ℤ pos 0 *ℤ z +ℤ pos 0 *ℤ w) <ℤ pos 0 → ⊥
    none x y z w h k = omega (arith, ints)

halves-not : HasLabel two_halves space_origin Not
unfolding Holds
halves-not = (here, ⊎_elim (λ h. omega (arith, ints, h)) (λ h. omega (arith, ints, h)))

-- along x, a step of less than 1 stays in the frame
halves-germ : Germ two_halves space_origin x_axis In
unfolding Holds
halves-germ = (
  1,
  omega arith,
  λ t short.
      let a = short.0 in
      let b = short.1 in
      let x : nat_abs (pos 0 *ℤ pos t.b +ℤ t.a *ℤ pos 1 *ℤ pos 1) < half_side * (1 * t.b) = omega (arith, ints) in
      let y : nat_abs (pos 0 *ℤ pos t.b +ℤ t.a *ℤ pos 1 *ℤ pos 0) < half_side * (1 * t.b) = omega (arith, ints) in
      (record { along_x = x; along_y = y; along_z = y }, inr (omega (arith, ints))),
)

halves-germ_not : (d : Vector) → Germ two_halves space_origin d Not → d.x ≡ pos 0
unfolding Holds
halves-germ_not d (n, some, f) =
    let t : Ratio = record { a = pos 1; b = n + 1; proper = omega arith } in
    let k = (f t (omega (arith, ints), omega (arith, ints))).1 in
    by_signs d.x d.y d.z (pos (n + 1)) (λ h. k (inl h)) (λ h. k (inr h))
  where
    by_signs : (x y z b : ℤ)
        → ((pos 1 *ℤ (pos 0 *ℤ b +ℤ pos 1 *ℤ pos 1 *ℤ x) +ℤ pos 0 *ℤ (pos 0 *ℤ b +ℤ pos 1 *ℤ pos 1 *ℤ y) +ℤ pos 0 *ℤ (pos 0 *ℤ b +ℤ pos 1 *ℤ pos 1 *ℤ z) +ℤ pos 0 *ℤ pos (1 * (n + 1))) <ℤ pos 0 → ⊥)
        → ((negsuc 0 *ℤ (pos 0 *ℤ b +ℤ pos 1 *ℤ pos 1 *ℤ x) +ℤ pos 0 *ℤ (pos 0 *ℤ b +ℤ pos 1 *ℤ pos 1 *ℤ y) +ℤ pos 0 *ℤ (pos 0 *ℤ b +ℤ pos 1 *ℤ pos 1 *ℤ z) +ℤ pos 0 *ℤ pos (1 * (n + 1))) <ℤ pos 0 → ⊥)
        → x ≡ pos 0
    by_signs x y z b h k = by_order x (pos 0) (λ l. absurd (h (omega (arith, ints)))) (λ e. e) (λ l. absurd (k (omega (arith, ints))))

pub two-halves : TwoHalves
two-halves = record {
  label = halves-not;
  of_closure = (closed-at two_halves space_origin).1 (here, inr (x_axis, halves-germ));
  germ = halves-germ;
  germ_in_plane = flat-germ two_halves space_origin y_axis Not (flat-here two_halves y_axis refl) halves-not;
  dimension = (
    (y_axis, z_axis, (λ z. let e = z.0 in omega (arith, ints)), flat-here two_halves y_axis refl, flat-here two_halves z_axis refl),
    λ h. h.3 (triple-flat h.0 h.1 h.2 (along h.0 h.4) (along h.1 h.5) (along h.2 h.6)),
  );
}
  where
    along : (d : Vector) → Flat two_halves space_origin d → d.x ≡ pos 0
    along d f = halves-germ_not d (flat-germ two_halves space_origin d Not f halves-not)

-- ---- a wall
wall-in : HasLabel wall_example space_origin In
unfolding Holds
wall-in = (here, (omega (arith, ints), omega (arith, ints)))

-- no wall is In in all directions near one
wall-thin : (d : Vector) → ((e : Vector) → NearGerm wall_example space_origin d e In) → ⊥
wall-thin d f =
    let g = f x_axis in
    let h = f (vector (negsuc 0) (pos 0) (pos 0)) in
    let k = g.0 + h.0 in
    none (pos k) d.x (wall-germ (blend k d 1 x_axis) (g.1 k (omega arith))) (wall-germ (blend k d 1 (vector (negsuc 0) (pos 0) (pos 0))) (h.1 k (omega arith)))
  where
    none : (k x : ℤ) → k *ℤ x +ℤ pos 1 *ℤ pos 1 ≡ pos 0 → k *ℤ x +ℤ pos 1 *ℤ negsuc 0 ≡ pos 0 → ⊥
    none k x e f = omega (arith, ints)

pub wall-facts : WallExample
unfolding Holds
wall-facts = record {
  label = wall-in;
  of_interior = (here, λ i. let e = wall-germ x_axis (((inside-at wall_example space_origin).0 (here, i)).1 x_axis) in one e);
  of_regularisation = (here, λ i. let r = ((regular-at wall_example space_origin).0 (here, i)).1 in wall-thin r.0 r.1);
  dimension = (
    (y_axis, z_axis, (λ z. let e = z.0 in omega (arith, ints)), flat-here wall_example y_axis refl, flat-here wall_example z_axis refl),
    λ h. h.3 (triple-flat h.0 h.1 h.2 (along h.0 h.4) (along h.1 h.5) (along h.2 h.6)),
  );
}
  where
    one : pos 1 ≡ pos 0 → ⊥
    one e = omega (arith, ints)

    along : (d : Vector) → Flat wall_example space_origin d → d.x ≡ pos 0
    along d f = wall-germ d (flat-germ wall_example space_origin d In f wall-in)

pub wall-part : WallPart
unfolding Holds
wall-part = record {
  label = (here, λ h. let k = h.1 in omega (arith, ints));
  of_closure = (closed-at wall_part space_origin).1 (
    here,
    inr (
      vector (pos 0) (negsuc 0) (pos 0),
      (
        1,
        omega arith,
        λ t short.
            let a = short.0 in
            let b = short.1 in
            let x : nat_abs (pos 0 *ℤ pos t.b +ℤ t.a *ℤ pos 1 *ℤ pos 0) < half_side * (1 * t.b) = omega (arith, ints) in
            let y : nat_abs (pos 0 *ℤ pos t.b +ℤ t.a *ℤ pos 1 *ℤ negsuc 0) < half_side * (1 * t.b) = omega (arith, ints) in
            (record { along_x = x; along_y = y; along_z = x }, ((omega (arith, ints), omega (arith, ints)), omega (arith, ints))),
      ),
    ),
  );
}

-- ---- an edge
pub edge-facts : EdgeExample
unfolding Holds
edge-facts = record {
  label = edge-in;
  along_edge = flat-here wedge z_axis refl;
  dimension = (
    (z_axis, (λ z. let e = z.2 in omega (arith, ints)), flat-here wedge z_axis refl),
    λ h. h.2 (cross-flat h.0 h.1 (along h.0 h.3).0 (along h.0 h.3).1 (along h.1 h.4).0 (along h.1 h.4).1),
  );
}
  where
    edge-in : InFrame space_origin × Holds wedge space_origin
    edge-in = (here, (omega (arith, ints), omega (arith, ints)))

    back-flat : (d : Vector) → Flat wedge space_origin d → Germ wedge space_origin (vector (neg_ℤ d.x) (neg_ℤ d.y) (neg_ℤ d.z)) In
    back-flat d f =
        let g = (FlatCone-from_flat wedge space_origin d f zero_vector 1 (negsuc 0) (omega arith) In).0 ((Germ-zero wedge space_origin zero_vector In (refl, refl, refl)).1 edge-in) in
        subst (λ (v : Vector). Germ wedge space_origin v In) (vector-same (slide 1 zero_vector (negsuc 0) d) (vector (neg_ℤ d.x) (neg_ℤ d.y) (neg_ℤ d.z)) (turned d.x) (turned d.y) (turned d.z)) g
      where
        turned : (x : ℤ) → pos 1 *ℤ pos 0 +ℤ negsuc 0 *ℤ x ≡ neg_ℤ x
        turned x = omega (arith, ints)

    at_most_x : (x y z : ℤ) → (pos 1 *ℤ x +ℤ pos 0 *ℤ y +ℤ pos 0 *ℤ z) ≤ℤ pos 0 → (pos 1 *ℤ neg_ℤ x +ℤ pos 0 *ℤ neg_ℤ y +ℤ pos 0 *ℤ neg_ℤ z) ≤ℤ pos 0 → x ≡ pos 0
    at_most_x x y z h k = omega (arith, ints)

    at_most_y : (x y z : ℤ) → (pos 0 *ℤ x +ℤ pos 1 *ℤ y +ℤ pos 0 *ℤ z) ≤ℤ pos 0 → (pos 0 *ℤ neg_ℤ x +ℤ pos 1 *ℤ neg_ℤ y +ℤ pos 0 *ℤ neg_ℤ z) ≤ℤ pos 0 → y ≡ pos 0
    at_most_y x y z h k = omega (arith, ints)

    along : (d : Vector) → Flat wedge space_origin d → (d.x ≡ pos 0) × (d.y ≡ pos 0)
    along d f =
        let g = both-germs (Set.half x_below true) (Set.half y_below true) space_origin d (flat-germ wedge space_origin d In f edge-in) in
        let h = both-germs (Set.half x_below true) (Set.half y_below true) space_origin (vector (neg_ℤ d.x) (neg_ℤ d.y) (neg_ℤ d.z)) (back-flat d f) in (
          at_most_x d.x d.y d.z (half-germ x_below d refl g.0) (half-germ x_below (vector (neg_ℤ d.x) (neg_ℤ d.y) (neg_ℤ d.z)) refl h.0),
          at_most_y d.x d.y d.z (half-germ y_below d refl g.1) (half-germ y_below (vector (neg_ℤ d.x) (neg_ℤ d.y) (neg_ℤ d.z)) refl h.1),
        )

-- ---- a point
point-in : HasLabel point space_origin In
unfolding Holds
point-in = (here, ((omega (arith, ints), omega (arith, ints)), ((omega (arith, ints), omega (arith, ints)), (omega (arith, ints), omega (arith, ints)))))

-- no direction leads along the point
point-germ : (d : Vector) → Germ point space_origin d In → IsZero d
point-germ d g =
    let xs = both-germs wall_example (Set.both (Set.both (Set.half y_below true) (Set.half y_above true)) (Set.both (Set.half z_below true) (Set.half z_above true))) space_origin d g in
    let ys = both-germs (Set.both (Set.half y_below true) (Set.half y_above true)) (Set.both (Set.half z_below true) (Set.half z_above true)) space_origin d xs.1 in
    let y = both-germs (Set.half y_below true) (Set.half y_above true) space_origin d ys.0 in
    let z = both-germs (Set.half z_below true) (Set.half z_above true) space_origin d ys.1 in (
      wall-germ d xs.0,
      at_most_y d.x d.y d.z (half-germ y_below d refl y.0) (half-germ y_above d refl y.1),
      at_most_z d.x d.y d.z (half-germ z_below d refl z.0) (half-germ z_above d refl z.1),
    )
  where
    at_most_y : (x y z : ℤ) → (pos 0 *ℤ x +ℤ pos 1 *ℤ y +ℤ pos 0 *ℤ z) ≤ℤ pos 0 → (pos 0 *ℤ x +ℤ negsuc 0 *ℤ y +ℤ pos 0 *ℤ z) ≤ℤ pos 0 → y ≡ pos 0
    at_most_y x y z h k = omega (arith, ints)

    at_most_z : (x y z : ℤ) → (pos 0 *ℤ x +ℤ pos 0 *ℤ y +ℤ pos 1 *ℤ z) ≤ℤ pos 0 → (pos 0 *ℤ x +ℤ pos 0 *ℤ y +ℤ negsuc 0 *ℤ z) ≤ℤ pos 0 → z ≡ pos 0
    at_most_z x y z h k = omega (arith, ints)

point-not : Germ point space_origin x_axis Not
point-not = by (germ_of point space_origin x_axis)
  where
    one : pos 1 ≡ pos 0 → ⊥
    one e = omega (arith, ints)

    by : (l : Label) × Germ point space_origin x_axis l → Germ point space_origin x_axis Not
    by (Out, g) = absurd (no-germ_out point space_origin x_axis here g)
    by (Not, g) = g
    by (In, g) = let z = point-germ x_axis g in absurd (one z.0)

pub point-facts : PointAlone
unfolding Holds
point-facts = record {
  label = point-in;
  of_boundary = (border-at point space_origin).1 (inl point-in, inr (x_axis, point-not), here);
  of_regularisation = (
    here,
    λ i.
        let r = ((regular-at point space_origin).0 (here, i)).1 in
        wall-thin r.0 (λ e. let g = r.1 e in (g.0, λ k h. (both-germs wall_example (Set.both (Set.both (Set.half y_below true) (Set.half y_above true)) (Set.both (Set.half z_below true) (Set.half z_above true))) space_origin (blend k r.0 1 e) (g.1 k h)).0)),
  );
  is_vertex = (tt, λ h. h.1 (point-germ h.0 (flat-germ point space_origin h.0 In h.2 point-in)));
}
