-- A star with one more ray, from one whose rays are counted on.
use Rattle.nef_star.proofs.Prelude.{◌≡◌, ℕ, suc, ◌+◌, ◌-◌, ◌<◌, List, [], ◌∷◌, ◌++◌, length, get_or, arith, refl, sym, ap, subst, ◌∙◌, inl, inr, ⊎_elim, eq-or-lt_of_le, Vector, zero_vector, SameDirection, Label, Out, vector_of, Dir, Passes, Ray, Star, IsNext, left_of, left_at, IsRay, BeginsAnywhere, KeepsLabels, IsCountedFrom, HasLeft, LeftPast, LeftUnder, IsWithRay}
use Rattle.nef_star.proofs.Labelled.{sectors-none}
use Rattle.nef_star.proofs.Rotated.{Moved, moved, moved-from, moved-value}
use Rattle.nef_star.proofs.RayOrder.{one-value}
use Rattle.nef_star.proofs.Counted.{lefts, counted-length, count-some}
use Rattle.nef_star.proofs.Needed.{kept-self, kept-trans}
use Rattle.nef_star.proofs.Pushed.{at-item, marked-ray, marked-left, first-cut, last-cut}

-- r is q with the mark l
module _ (t s : Star) (T : BeginsAnywhere t) (q r : Ray) (Q : IsRay (vector_of t.axis) q) (normal : r.normal ≡ q.normal) (ahead : r.ahead ≡ q.ahead) (l : Label) (mark : r.mark ≡ l)
    (e : s.axis ≡ t.axis) (f : s.mark ≡ t.mark) (rays : s.rays.items ≡ t.rays.items ++ r ∷ []) where
  new_ray : IsRay (vector_of t.axis) r
  new_ray = marked-ray (vector_of t.axis) q r normal Q

  as_wanted : IsWithRay (left_of r) t s → IsWithRay (left_of q) t s
  as_wanted = subst (λ (v : Vector). IsWithRay v t s) (marked-left q r normal ahead)

  pub cut-first : length t.rays.items ≡ 0 → s.sectors.items ≡ t.sectors.items → l ≡ get_or t.sectors.items 0 l → IsWithRay (left_of q) t s
  cut-first none sectors label =
      let some = sectors-none t.rays.items (length t.sectors.items) T.sectors none in
      as_wanted (first-cut t s T r new_ray e f rays none sectors (mark ∙ label ∙ one-value t.sectors.items 0 l Out some))

  pub cut-last : (k : ℕ) → length t.rays.items ≡ suc k → LeftPast t (left_of q) k → s.sectors.items ≡ t.sectors.items ++ l ∷ [] → l ≡ get_or t.sectors.items k l → IsWithRay (left_of q) t s
  cut-last k n past sectors label =
      let m = T.sectors ∙ count-some t.rays.items (omega (arith, n)) in
      as_wanted (last-cut t s T r new_ray e f rays k n (subst (λ (v : Vector). LeftPast t v k) (sym (marked-left q r normal ahead)) past)
      (sectors ∙ ap (λ (x : Label). t.sectors.items ++ x ∷ []) (sym mark)) (mark ∙ label ∙ one-value t.sectors.items k l Out (omega (arith, m, n))))

one_next : (n k i j : ℕ) → IsNext n k i → IsNext n k j → i ≡ j
one_next n k i j (inl (x, y)) (inl (z, w)) = omega (arith, x, z)
one_next n k i j (inl (x, y)) (inr (z, w)) = absurd (omega (arith, x, y, z))
one_next n k i j (inr (x, y)) (inl (z, w)) = absurd (omega (arith, x, z, w))
one_next n k i j (inr (x, y)) (inr (z, w)) = omega (arith, y, w)

-- s is t counted from number m on
module _ (t s : Star) (T : BeginsAnywhere t) (k : KeepsLabels t s) (m : ℕ) (h : m < length t.rays.items) (c : IsCountedFrom m t s) where
  there : (i j : ℕ) → i < length t.rays.items → j < length t.rays.items → Moved (length t.rays.items) m i j → left_at s.rays.items j ≡ left_at t.rays.items i
  there i j p q x = moved-value (length t.rays.items) m (left_at t.rays.items) (left_at s.rays.items) (lefts t s T k.axis k.mark m h c) h i j p q x

  as_many : length s.rays.items ≡ length t.rays.items
  as_many = counted-length t s T k.axis k.mark m h c

  counted-has : (v : Vector) → HasLeft t v → HasLeft s v
  counted-has v (i, p, e) = let j = moved (length t.rays.items) m i h p in let b = j.1 in (j.0, omega (arith, as_many, b), there i j.0 p j.1 j.2 ∙ e)

  pub counted-only : (v : Vector) → HasLeft s v → HasLeft t v
  counted-only v (j, q, e) = let i = moved-from (length t.rays.items) m j h (omega (arith, as_many, q)) in (i.0, i.1, sym (there i.0 j i.1 (omega (arith, as_many, q)) i.2) ∙ e)

  pub counted-cut : (d : Vector) (r : Star) → IsWithRay d s r → IsWithRay d t r
  counted-cut d r C = record { turned = C.turned; kept = kept-trans t s r k C.kept; has = C.has; still = λ v x. C.still v (counted-has v x); only = λ v x. ⊎_elim (λ y. inl (counted-only v y)) (λ y. inr y) (C.only v x) }

  -- what is after ray i, before ray m, is now after the last
  last_moved : (i : ℕ) → i < length t.rays.items → IsNext (length t.rays.items) i m → Moved (length t.rays.items) m i (length t.rays.items - 1)
  last_moved i p (inl (x, y)) = inr (omega (arith, x, p))
  last_moved i p (inr (x, y)) = inl (omega (arith, x, y))

  pub counted-past : (d : Vector) (i : ℕ) → i < length t.rays.items → IsNext (length t.rays.items) i m → LeftPast t d i → LeftPast s d (length s.rays.items - 1)
  counted-past d i p x (j, y, q) =
      let n = length t.rays.items in
      let last : length s.rays.items - 1 ≡ n - 1 = omega (arith, as_many) in
      let zero_to : 0 + m ≡ m = omega arith in
      let first = there m 0 h (omega (arith, h)) (inl zero_to) in
      let end = there i (n - 1) p (omega (arith, h)) (last_moved i p x) in
      let q' = subst (λ (z : ℕ). Passes (vector_of t.axis) (left_at t.rays.items i) d (left_at t.rays.items z)) (one_next n i j m y x) q in (
        0,
        inr (omega (arith, as_many, h), refl),
        subst (λ (b : Dir). Passes (vector_of b) (left_at s.rays.items (length s.rays.items - 1)) d (left_at s.rays.items 0)) (sym k.axis)
            (rw (last, end, first) q'),
      )

-- ---- one ray after another
pub only-past : (t : Star) (d : Vector) (k : ℕ) → (SameDirection (left_at t.rays.items k) d → ⊥) → LeftUnder t d k → LeftPast t d k
only-past t d k n (inl s) = absurd (n s)
only-past t d k n (inr p) = p

pub uncut : (t : Star) → BeginsAnywhere t → (d : Vector) → HasLeft t d → IsWithRay d t t
uncut t T d h = record { turned = T; kept = kept-self t; has = h; still = λ v x. x; only = λ v x. inl x }

-- the rays are cut in up to number k
pub record IsCutTo (rays : List Ray) (k : ℕ) (t s : Star) : Type 0 where
  pub turned : BeginsAnywhere s
  pub kept : KeepsLabels t s
  pub all : (i : ℕ) → i < k → HasLeft s (left_at rays i)

pub cut-none : (rays : List Ray) (t : Star) → BeginsAnywhere t → IsCutTo rays 0 t t
cut-none rays t T = record { turned = T; kept = kept-self t; all = λ i h. absurd (omega (arith, h)) }

pub cut-more : (rays : List Ray) (k : ℕ) (t s u : Star) (r : Ray) → k < length rays → r ≡ get_or rays k r → IsCutTo rays k t s → IsWithRay (left_of r) s u → IsCutTo rays (k + 1) t u
cut-more rays k t s u r h e old new = record { turned = new.turned; kept = kept-trans t s u old.kept new.kept; all = all }
  where
    all : (i : ℕ) → i < k + 1 → HasLeft u (left_at rays i)
    all i l = elim (eq-or-lt_of_le {n = i} {m = k} (omega (arith, l))) [
      | inl z ↦ subst (HasLeft u) (sym (ap (left_at rays) z ∙ at-item left_of zero_vector rays k r h ∙ ap left_of (sym e))) new.has
      | inr p ↦ new.still (left_at rays i) (old.all i p)
    ]
