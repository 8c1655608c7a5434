-- Stars with one more ray, which has the label of the sector that it cuts.
use Rattle.nef_star.proofs.Prelude.{◌≡◌, ℕ, zero, suc, ◌<◌, pos, List, [], ◌∷◌, ◌++◌, length, map, get_or, Bool, true, false, cond, arith, refl, sym, ap, subst, ◌∙◌, inl, inr, ◌⊎◌, length-append, eq-or-lt_of_le, All, All-push, normal_limit, Vector, dot, zero_vector, opposite, IsAtMost, IsNormal, Out, vector_of, Dir, IsOnCircle, Passes, Ray, Star, IsTurning, IsNext, Gives, left_of, left_at, mark_of, mark_at, sector_at, sector_count, IsRay, BeginsAnywhere, HasLeft, LeftPast, IsWithRay, dot-comm, direction-opposite, level-of_opposite}
use Rattle.nef_star.proofs.Rotated.{rotated-gives}
use Rattle.nef_star.proofs.Added.{turning-same, added-turning, added-gives, first-gives}
use Rattle.nef_star.proofs.Counted.{agreeing, count-some, kept-by, renamed, turned-by}

-- ---- lists
pub pushed-map : {X Y : Type 0} (g : X → Y) (d : Y) (xs : List X) (x : X) (k : ℕ) → k < length xs → get_or (map g (xs ++ x ∷ [])) k d ≡ get_or (map g xs) k d
pushed-map g d [] x k h = absurd (omega arith)
pushed-map g d (y ∷ ys) x zero h = refl
pushed-map g d (y ∷ ys) x (suc k) h = pushed-map g d ys x k (omega arith)

pub pushed-map_last : {X Y : Type 0} (g : X → Y) (d : Y) (xs : List X) (x : X) → get_or (map g (xs ++ x ∷ [])) (length xs) d ≡ g x
pushed-map_last g d [] x = refl
pushed-map_last g d (y ∷ ys) x = pushed-map_last g d ys x

pub at-item : {X Y : Type 0} (g : X → Y) (d : Y) (xs : List X) (k : ℕ) (x : X) → k < length xs → get_or (map g xs) k d ≡ g (get_or xs k x)
at-item g d [] k x h = absurd (omega arith)
at-item g d (y ∷ ys) zero x h = refl
at-item g d (y ∷ ys) (suc k) x h = at-item g d ys k x (omega arith)

pub pushed-item : {X : Type 0} (d : X) (xs : List X) (x : X) (k : ℕ) → k < length xs → get_or (xs ++ x ∷ []) k d ≡ get_or xs k d
pushed-item d [] x k h = absurd (omega arith)
pushed-item d (y ∷ ys) x zero h = refl
pushed-item d (y ∷ ys) x (suc k) h = pushed-item d ys x k (omega arith)

pub pushed-last : {X : Type 0} (d : X) (xs : List X) (x : X) → get_or (xs ++ x ∷ []) (length xs) d ≡ x
pushed-last d [] x = refl
pushed-last d (y ∷ ys) x = pushed-last d ys x

pub pushed-length : {X : Type 0} (xs ys : List X) (x : X) → ys ≡ xs ++ x ∷ [] → length ys ≡ suc (length xs)
pushed-length xs ys x e = let a = length-append xs (x ∷ []) in ap length e ∙ a ∙ omega arith

-- ---- rays
pub left-on_circle : (a : Vector) (r : Ray) → IsRay a r → IsOnCircle a (left_of r)
left-on_circle a r R = by r.ahead
  where
    level : dot a (vector_of r.normal) ≡ pos 0
    level = dot-comm a (vector_of r.normal) ∙ R.level

    by : (b : Bool) → IsOnCircle a (cond b (vector_of r.normal) (opposite (vector_of r.normal)))
    by true = record { direction = r.normal.some; level = level }
    by false = record { direction = direction-opposite (vector_of r.normal) r.normal.some; level = level-of_opposite a (vector_of r.normal) level }

pub marked-ray : (a : Vector) (q r : Ray) → r.normal ≡ q.normal → IsRay a q → IsRay a r
marked-ray a q r e R = record {
  level = subst (λ (d : Dir). dot (vector_of d) a ≡ pos 0) (sym e) R.level;
  small = subst (λ (d : Dir). IsAtMost normal_limit (vector_of d)) (sym e) R.small;
  normal = subst (λ (d : Dir). IsNormal (vector_of d)) (sym e) R.normal;
}

pub marked-left : (q r : Ray) → r.normal ≡ q.normal → r.ahead ≡ q.ahead → left_of r ≡ left_of q
marked-left q r e f = ap (λ (d : Dir). cond r.ahead (vector_of d) (opposite (vector_of d))) e ∙ ap (λ (b : Bool). cond b (vector_of q.normal) (opposite (vector_of q.normal))) f

-- ---- stars
module _ (t s : Star) (T : BeginsAnywhere t) (r : Ray) (R : IsRay (vector_of t.axis) r) (e : s.axis ≡ t.axis) (f : s.mark ≡ t.mark) (rays : s.rays.items ≡ t.rays.items ++ r ∷ []) where
  same-left : (k : ℕ) → k < length t.rays.items → left_at s.rays.items k ≡ left_at t.rays.items k
  same-left k h = ap (λ (l : List Ray). left_at l k) rays ∙ pushed-map left_of zero_vector t.rays.items r k h

  same-mark : (k : ℕ) → k < length t.rays.items → mark_at s.rays.items k ≡ mark_at t.rays.items k
  same-mark k h = ap (λ (l : List Ray). mark_at l k) rays ∙ pushed-map mark_of Out t.rays.items r k h

  new-left : left_at s.rays.items (length t.rays.items) ≡ left_of r
  new-left = ap (λ (l : List Ray). left_at l (length t.rays.items)) rays ∙ pushed-map_last left_of zero_vector t.rays.items r

  new-mark : mark_at s.rays.items (length t.rays.items) ≡ r.mark
  new-mark = ap (λ (l : List Ray). mark_at l (length t.rays.items)) rays ∙ pushed-map_last mark_of Out t.rays.items r

  longer : length s.rays.items ≡ suc (length t.rays.items)
  longer = pushed-length t.rays.items s.rays.items r rays

  new-on : IsOnCircle (vector_of t.axis) (left_at s.rays.items (length t.rays.items))
  new-on = subst (IsOnCircle (vector_of t.axis)) (sym new-left) (left-on_circle (vector_of t.axis) r R)

  has : HasLeft s (left_of r)
  has = (length t.rays.items, omega (arith, longer), new-left)

  still : (v : Vector) → HasLeft t v → HasLeft s v
  still v (k, h, z) = (k, omega (arith, longer, h), same-left k h ∙ z)

  only : (v : Vector) → HasLeft s v → HasLeft t v ⊎ (v ≡ left_of r)
  only v (k, h, z) = elim (eq-or-lt_of_le {n = k} {m = length t.rays.items} (omega (arith, longer, h))) [
    | inl e ↦ inr (sym z ∙ ap (left_at s.rays.items) e ∙ new-left)
    | inr p ↦ inl (k, p, sym (same-left k p) ∙ z)
  ]

  all-rays : All (IsRay (vector_of t.axis)) s.rays.items
  all-rays = subst (All (IsRay (vector_of t.axis))) (sym rays) (All-push (IsRay (vector_of t.axis)) t.rays.items r T.rays R)

  old-turning : IsTurning (vector_of t.axis) (length t.rays.items) (left_at s.rays.items)
  old-turning = turning-same (vector_of t.axis) (length t.rays.items) (left_at t.rays.items) (left_at s.rays.items) same-left T.counterclockwise

  new-turned : ((k : ℕ) → suc k ≡ length t.rays.items → Passes (vector_of t.axis) (left_at s.rays.items k) (left_at s.rays.items (length t.rays.items)) (left_at s.rays.items 0)) → length s.sectors.items ≡ suc (length t.rays.items) → BeginsAnywhere s
  new-turned between m =
      let b : 0 < length s.rays.items = omega (arith, longer) in
      turned-by t s T e f all-rays (suc (length t.rays.items)) longer
      (added-turning (vector_of t.axis) t.axis.some (length t.rays.items) (left_at s.rays.items) old-turning new-on between)
      (m ∙ sym longer ∙ sym (count-some s.rays.items b))

  -- ---- the first ray
  module _ (none : length t.rays.items ≡ 0) (sectors : s.sectors.items ≡ t.sectors.items) (label : r.mark ≡ sector_at t.sectors.items 0) where
    one_sector : (rays : List Ray) (n : ℕ) → n ≡ sector_count rays → length rays ≡ 0 → n ≡ 1
    one_sector [] n z h = z
    one_sector (q ∷ qs) n z h = absurd (omega (arith, h))

    first-turned : BeginsAnywhere s
    first-turned =
        let m = one_sector t.rays.items (length t.sectors.items) T.sectors none in let m' = ap length sectors in
        new-turned (λ k z. absurd (omega (arith, z, none))) (omega (arith, m, m', none))

    at-none : (P : ℕ → Type 0) → P (length t.rays.items) → P 0
    at-none P = subst P none

    pub first-cut : IsWithRay (left_of r) t s
    first-cut = record {
      turned = first-turned;
      has = has;
      still = still;
      only = only;
      kept = kept-by t s T first-turned e f (λ d o l g. renamed s t.axis 1 d l e (longer ∙ ap suc none)
          (first-gives (vector_of t.axis) (left_at t.rays.items) (left_at s.rays.items) (mark_at t.rays.items) (sector_at t.sectors.items) (mark_at s.rays.items) (sector_at s.sectors.items)
          (at-none (λ (n : ℕ). IsOnCircle (vector_of t.axis) (left_at s.rays.items n)) new-on)
          (at-none (λ (n : ℕ). mark_at s.rays.items n ≡ r.mark) new-mark ∙ label) (ap (λ l. get_or l 0 Out) sectors) d o l
          (at-none (λ (n : ℕ). Gives (vector_of t.axis) n (left_at t.rays.items) (mark_at t.rays.items) (sector_at t.sectors.items) d l) g)));
    }

  -- ---- after the last ray
  module _ (k : ℕ) (n : length t.rays.items ≡ suc k) (past : LeftPast t (left_of r) k) (sectors : s.sectors.items ≡ t.sectors.items ++ r.mark ∷ []) (label : r.mark ≡ sector_at t.sectors.items k) where
    as-many : length t.sectors.items ≡ suc k
    as-many = T.sectors ∙ count-some t.rays.items (omega (arith, n)) ∙ n

    same-sector : (i : ℕ) → i < suc k → sector_at s.sectors.items i ≡ sector_at t.sectors.items i
    same-sector i h = ap (λ l. get_or l i Out) sectors ∙ pushed-item Out t.sectors.items r.mark i (omega (arith, h, as-many))

    new-sector : sector_at s.sectors.items (suc k) ≡ r.mark
    new-sector = ap (λ l. get_or l (suc k) Out) sectors ∙ subst (λ (m : ℕ). get_or (t.sectors.items ++ r.mark ∷ []) m Out ≡ r.mark) as-many (pushed-last Out t.sectors.items r.mark)

    to_first : (j : ℕ) → IsNext (length t.rays.items) k j → j ≡ 0
    to_first j (inl (x, y)) = absurd (omega (arith, x, y, n))
    to_first j (inr (x, y)) = y

    at-last : (P : ℕ → Type 0) → P (length t.rays.items) → P (suc k)
    at-last P = subst P n

    before_first : Passes (vector_of t.axis) (left_at s.rays.items k) (left_at s.rays.items (suc k)) (left_at s.rays.items 0)
    before_first =
        rw (same-left k (omega (arith, n)), at-last (λ (m : ℕ). left_at s.rays.items m ≡ left_of r) new-left, same-left 0 (omega (arith, n)))
        (subst (λ (j : ℕ). Passes (vector_of t.axis) (left_at t.rays.items k) (left_of r) (left_at t.rays.items j)) (to_first past.0 past.1) past.2)

    last-turned : BeginsAnywhere s
    last-turned =
        let m = pushed-length t.sectors.items s.sectors.items r.mark sectors in
        new-turned
        (λ i z. let w : i ≡ k = omega (arith, z, n) in rw (w, n) before_first)
        (omega (arith, m, as-many, n))

    pub last-cut : IsWithRay (left_of r) t s
    last-cut = record {
      turned = last-turned;
      has = has;
      still = still;
      only = only;
      kept = kept-by t s T last-turned e f (λ d o l g. renamed s t.axis (suc (suc k)) d l e (longer ∙ ap suc n)
          (added-gives (vector_of t.axis) t.axis.some k (left_at s.rays.items)
          (at-last (λ (m : ℕ). IsTurning (vector_of t.axis) m (left_at s.rays.items)) old-turning)
          (at-last (λ (m : ℕ). IsOnCircle (vector_of t.axis) (left_at s.rays.items m)) new-on)
          before_first (mark_at s.rays.items) (sector_at s.sectors.items)
          (at-last (λ (m : ℕ). mark_at s.rays.items m ≡ r.mark) new-mark ∙ label ∙ sym (same-sector k (omega arith)))
          (new-sector ∙ label ∙ sym (same-sector k (omega arith))) d o l
          (rotated-gives (vector_of t.axis) (suc k) 0 (left_at t.rays.items) (left_at s.rays.items) (omega arith)
          (agreeing (suc k) (left_at t.rays.items) (left_at s.rays.items) (λ i h. same-left i (omega (arith, h, n))))
          (mark_at t.rays.items) (mark_at s.rays.items) (sector_at t.sectors.items) (sector_at s.sectors.items)
          (agreeing (suc k) (mark_at t.rays.items) (mark_at s.rays.items) (λ i h. same-mark i (omega (arith, h, n))))
          (agreeing (suc k) (sector_at t.sectors.items) (sector_at s.sectors.items) same-sector) d l
          (at-last (λ (m : ℕ). Gives (vector_of t.axis) m (left_at t.rays.items) (mark_at t.rays.items) (sector_at t.sectors.items) d l) g))));
    }
