-- The first change at a crossing of a carrier is the end of the ray, and there is one.
use Rattle.nef_ray.proofs.Prelude.{◌≡◌, ℕ, ◌<◌, ◌≤◌, List, All, IsSortedBy, false, ◌⊎◌, ⊎_elim, inl, inr, get_or, sym, subst, Contains, cases_lt, All-contains, sorted_far, Lies, Germ, SpacePoint, Form, SamePoint, InFrame, InClosedFrame, IsBetween, Set, Vector, between-same, IsCrossing, form_of, vector_of, point_of, hit_point, Plane, carriers, same-point_sym, IsAt, at-contains, is-at_is, is-at_map, is-at_within, ahead-same, plane-turned, plane-point, plane-slope, Complex, ShowsSet, Crossed, RayEnd, RayStart, IsHitOf, IsUnchanged, IsUnchangedOn, IsChangeOf, IsCrossedPlane, AreAllCrossed, crossed_lt, IsRayEnd}
use Rattle.nef_ray.proofs.Along.{label-stays, changes-somewhere}
use Rattle.nef_ray.proofs.Listed.{each-listed}
use Rattle.nef_ray.proofs.Nearest.{stays}
use Rattle.nef_ray.proofs.Nearness.{steps_weak, not-ahead}
use Rattle.nef_space.proofs.Elementary.{same-itself}

-- at each crossing of a carrier in the closed frame nothing changes, or N holds
abbrev pub AllSeen : Set → Complex → RayStart → (SpacePoint → Type 0) → Type 0
AllSeen s c ray N = (k : ℕ) (h : Plane) → IsAt c.carriers k h → (y : SpacePoint) → IsCrossing (point_of ray.from) (vector_of ray.along) (form_of h) y → InClosedFrame y → IsUnchanged s (vector_of ray.along) ray.before y ⊎ N y

-- so it is where each crossing among those listed is so
pub all-seen : (s : Set) (c : Complex) (ray : RayStart) (N : SpacePoint → Type 0) (xs zs : List Crossed) → zs ≡ xs → AreAllCrossed c.carriers ray xs
    → ((k : ℕ) (x : Crossed) → IsAt zs k x → (y : SpacePoint) → IsCrossing (point_of ray.from) (vector_of ray.along) (form_of x.plane) y → InClosedFrame y → IsUnchanged s (vector_of ray.along) ray.before y ⊎ N y)
    → AllSeen s c ray N
all-seen s c ray N xs zs e A f k h a y X i =
    let d = vector_of ray.along in let p = point_of ray.from in
    each-listed (λ (g : Plane). (y : SpacePoint) → IsCrossing p d (form_of g) y → InClosedFrame y → IsUnchanged s d ray.before y ⊎ N y) zs f h (subst (λ (vs : List Crossed). IsCrossedPlane vs h) (sym e) (A k h a y X)) y X i

module _ (s : Set) (c : Complex) (S : ShowsSet s c) (ray : RayStart) (inside : InFrame (point_of ray.from)) (germ : Germ s (point_of ray.from) (vector_of ray.along) ray.before) where
  abbrev p : SpacePoint
  p = point_of ray.from

  abbrev d : Vector
  d = vector_of ray.along

  -- so it is at each crossing of the set's own carriers
  seen : (N : SpacePoint → Type 0) → AllSeen s c ray N → (f : Form) → Lies (carriers s) f → (y : SpacePoint) → IsCrossing p d f y → InClosedFrame y → IsUnchanged s d ray.before y ⊎ N y
  seen N A f l y X i =
      let M = S.shows.carriers.all f l in
      let g = is-at_map form_of c.carriers M.0 M.1 M.2 in
      let crossing : IsCrossing p d M.1 y = record { on = plane-point f M.1 y (plane-turned M.1 f M.3) X.on; ahead = X.ahead; passes = λ z. X.passes (plane-slope M.1 f d M.3 z) } in
      A M.0 g.0 g.1 y (subst (λ (h : Form). IsCrossing p d h y) (sym g.2) crossing) i

  pub end-none : AllSeen s c ray (λ y. ⊥) → ⊥
  end-none A = changes-somewhere s p d ray.before inside germ ray.along.some (λ f l y X i. ⊎_elim (λ u. u) (λ n. absurd n) (seen (λ y. ⊥) A f l y X i))

  pub end-some : (x : Crossed) (e : RayEnd) → IsHitOf ray x → SamePoint (hit_point x.at) (point_of e.point) → IsChangeOf s d ray.before e → AllSeen s c ray (λ y. IsBetween p y (hit_point x.at) → ⊥)
      → IsRayEnd s p d (point_of e.point) e.after e.label
  end-some x e H same E A =
      let q = hit_point x.at in let X = H.crossing in
      record {
        before = ray.before;
        germ = germ;
        ahead = ahead-same p q (point_of e.point) d (same-point_sym q (point_of e.point) same) X.ahead;
        same = λ r b. label-stays s p d ray.before inside germ q X.ahead
            (λ f l y Y between i. ⊎_elim (λ u. u) (λ n. absurd (n between)) (seen (λ y. IsBetween p y q → ⊥) A f l y Y i)) r
            (between-same p r (point_of e.point) p r q (same-itself p) (same-itself r) (same-point_sym q (point_of e.point) same) b);
        other = E.other;
        changes = E.changes;
      }

-- ---- the crossings in their order: nothing changes before the first change
pub ordered-seen : (s : Set) (c : Complex) (ray : RayStart) (xs zs : List Crossed) → zs ≡ xs → AreAllCrossed c.carriers ray xs → All (IsHitOf ray) xs → IsSortedBy crossed_lt xs
    → (n : ℕ) (x : Crossed) → IsAt zs n x → ((k : ℕ) (z : Crossed) → k < n → IsAt zs k z → IsUnchangedOn s ray z.plane) → AllSeen s c ray (λ y. IsBetween (point_of ray.from) y (hit_point x.at) → ⊥)
ordered-seen s c ray xs zs e A H up n x a f =
    let p = point_of ray.from in let d = vector_of ray.along in
    all-seen s c ray (λ y. IsBetween p y (hit_point x.at) → ⊥) xs zs e A
    (λ k z b y Y i. ⊎_elim (λ l. inl (f k z l b y Y i)) (λ l. inr (stays p d z.plane z.at (hit k z b).crossing (hit_point x.at) (not-ahead p d ray.along.some x z (hit n x a).reached (hit k z b).reached (later k z b l)) y Y)) (cases_lt k n))
  where
    hit : (k : ℕ) (z : Crossed) → IsAt zs k z → IsHitOf ray z
    hit k z b = All-contains (IsHitOf ray) xs z H (subst (λ (vs : List Crossed). Contains vs z) e (at-contains zs k z b))

    later : (k : ℕ) (z : Crossed) → IsAt zs k z → n ≤ k → crossed_lt z x ≡ false
    later k z b l =
        subst (λ (w : Crossed). crossed_lt z w ≡ false) (is-at_is zs n x z a)
        (subst (λ (w : Crossed). crossed_lt w (get_or zs n z) ≡ false) (is-at_is zs k z z b)
        (sorted_far crossed_lt steps_weak zs (subst (IsSortedBy crossed_lt) (sym e) up) n k z l (is-at_within zs k z b)))
