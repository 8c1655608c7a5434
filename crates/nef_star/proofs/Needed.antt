-- Rays that aren't needless stay so when the rays are counted from another one on.
use lib.Dec.{T}
use Rattle.nef_star.proofs.Prelude.{◌≡◌, ℕ, ◌+◌, ◌-◌, ◌<◌, ◌≤◌, length, get_or, true, false, arith, refl, sym, ap, subst, ◌∙◌, inl, inr, ◌⊎◌, ◌↔◌, cross, IsDirection, vector_of, Dir, IsSimplified, Follows, Ray, Star, IsNext, ray_of, star_of, mark_at, sector_at, IsRayBelow, BeginsAnywhere, KeepsLabels, IsCountedFrom, IsNeedless, NoneNeedless, IsRayTried, length-map}
use Rattle.law_geometry.specs.sphere.Stars.{Ray as PlainRay}
use Rattle.nef_star.proofs.Labelled.{at-ray, at-sector}
use Rattle.nef_star.proofs.Rotated.{Moved, moved-value, moved-from as unmoved}
use Rattle.nef_star.proofs.RayOrder.{LeastOf}
use Rattle.nef_star.proofs.Counted.{rotated-list, counted-length, marks, sectors}
use Rattle.std.proofs.lemmas.Bool.{cases_lt}

unmoved-next : (n m i j i' j' : ℕ) → m < n → i < n → j < n → Moved n m i i' → Moved n m j j' → IsNext n i' j' → IsNext n i j
unmoved-next n m i j i' j' h k l (inl e) (inl f) (inl (x, y)) = inl (omega (arith, e, f, x), l)
unmoved-next n m i j i' j' h k l (inl e) (inr f) (inl (x, y)) = inr (omega (arith, e, f, x, k), omega (arith, e, f, x, k))
unmoved-next n m i j i' j' h k l (inr e) (inl f) (inl (x, y)) = absurd (omega (arith, e, f, x, l))
unmoved-next n m i j i' j' h k l (inr e) (inr f) (inl (x, y)) = inl (omega (arith, e, f, x), l)
unmoved-next n m i j i' j' h k l (inl e) (inl f) (inr (x, y)) = inr (omega (arith, e, f, x, y, k), omega (arith, e, f, x, y, k))
unmoved-next n m i j i' j' h k l (inl e) (inr f) (inr (x, y)) = absurd (omega (arith, f, y, h))
unmoved-next n m i j i' j' h k l (inr e) (inl f) (inr (x, y)) = inl (omega (arith, e, f, x, y), l)
unmoved-next n m i j i' j' h k l (inr e) (inr f) (inr (x, y)) = absurd (omega (arith, f, y, h))

before_in : (n j k : ℕ) → k < n → IsNext n j k → j < n
before_in n j k h (inl (x, y)) = omega (arith, x, h)
before_in n j k h (inr (x, y)) = omega (arith, x)

pub record WasNeedless (t : Star) (m k : ℕ) : Type 0 where
  pub before : ℕ
  pub number : ℕ
  pub within : number < length t.rays.items
  pub next : IsNext (length t.rays.items) before number
  pub moved : Moved (length t.rays.items) m number k
  pub needless : IsNeedless t before number

module _ (t s : Star) (T : BeginsAnywhere t) (e : s.axis ≡ t.axis) (f : s.mark ≡ t.mark) (m : ℕ) (h : m < length t.rays.items) (c : IsCountedFrom m t s) where
  pub needless-back : (j k : ℕ) → k < length t.rays.items → IsNext (length t.rays.items) j k → IsNeedless s j k → WasNeedless t m k
  needless-back j k l x z =
      let n = length t.rays.items in
      let b = before_in n j k l x in
      let k' = unmoved n m k h l in let j' = unmoved n m j h b in
      let mark = moved-value n m (mark_at t.rays.items) (mark_at s.rays.items) (marks t s T e f m h c) h k'.0 k k'.1 l k'.2 in
      let at_before = moved-value n m (sector_at t.sectors.items) (sector_at s.sectors.items) (sectors t s T e f m h c) h j'.0 j j'.1 b j'.2 in
      let at_after = moved-value n m (sector_at t.sectors.items) (sector_at s.sectors.items) (sectors t s T e f m h c) h k'.0 k k'.1 l k'.2 in
      record {
        before = j'.0;
        number = k'.0;
        within = k'.1;
        next = unmoved-next n m j'.0 k'.0 j k h j'.1 k'.1 j'.2 k'.2 x;
        moved = k'.2;
        needless = (sym mark ∙ z.0 ∙ at_before, sym mark ∙ z.1 ∙ at_after);
      }

  pub counted-needed : NoneNeedless (length t.rays.items) t → NoneNeedless (length s.rays.items) s
  counted-needed a j k l l' x z =
      let n = counted-length t s T e f m h c in
      let w = needless-back j k (omega (arith, l, n)) (subst (λ (i : ℕ). IsNext i j k) n x) z in
      a w.before w.number w.within w.within w.next w.needless

  pub counted-least : LeastOf t.rays.items m (length t.rays.items) → (k : ℕ) (q r : Ray) → k < length s.rays.items → get_or s.rays.items 0 q ≡ q → get_or s.rays.items k r ≡ r → IsRayBelow r q → ⊥
  counted-least a k q r l p p' b =
      let n = counted-length t s T e f m h c in
      let from = rotated-list q m t.rays.items s.rays.items (omega (arith, h)) c.rays in
      let first : get_or t.rays.items m q ≡ q = let low : 0 + m < length t.rays.items = omega (arith, h) in let z : 0 + m ≡ m = omega arith in sym (from.low 0 low ∙ ap (λ i. get_or t.rays.items i q) z) ∙ p in
      let i = unmoved (length t.rays.items) m k h (omega (arith, l, n)) in
      let there = moved-value (length t.rays.items) m (λ i. get_or t.rays.items i r) (λ i. get_or s.rays.items i r) (rotated-list r m t.rays.items s.rays.items (omega (arith, h)) c.rays) h i.0 k i.1 (omega (arith, l, n)) i.2 in
      a i.0 q r i.1 first (sym there ∙ p') b

-- the ray before the last
last-before : (n j k : ℕ) → 0 < n → k ≡ n - 1 → IsNext n j k → j ≡ n - 2
last-before n j k some e (inl (x, y)) = omega (arith, x, e)
last-before n j k some e (inr (x, y)) = omega (arith, x, y, e, some)

pub last-needless : (t : Star) (j k : ℕ) → 0 < length t.rays.items → k ≡ length t.rays.items - 1 → IsNext (length t.rays.items) j k → IsNeedless t j k ↔ IsNeedless t (length t.rays.items - 2) (length t.rays.items - 1)
last-needless t j k some e x =
    let n = length t.rays.items in let b = last-before n j k some e x in (
      λ z. subst (IsNeedless t (n - 2)) e (subst (λ (i : ℕ). IsNeedless t i k) b z),
      λ z. subst (λ (i : ℕ). IsNeedless t i k) (sym b) (subst (IsNeedless t (n - 2)) (sym e) z),
    )

-- the last ray passed
pub passed-needed : (t s : Star) → BeginsAnywhere t → s.axis ≡ t.axis → s.mark ≡ t.mark → 0 < length t.rays.items → IsCountedFrom (length t.rays.items - 1) t s
    → (IsNeedless t (length t.rays.items - 2) (length t.rays.items - 1) → ⊥) → (c : ℕ) → NoneNeedless c t → IsRayTried c t s
passed-needed t s T e f some count last c a = inr (n, needed)
  where
    h : length t.rays.items - 1 < length t.rays.items
    h = omega (arith, some)

    n : length s.rays.items ≡ length t.rays.items
    n = counted-length t s T e f (length t.rays.items - 1) h count

    at_last : (j k : ℕ) → k < length t.rays.items → k + 1 ≡ length t.rays.items → IsNext (length t.rays.items) j k → IsNeedless t j k → ⊥
    at_last j k l p (inl (x, y)) z =
        let j' : j ≡ length t.rays.items - 2 = omega (arith, x, p) in let k' : k ≡ length t.rays.items - 1 = omega (arith, p) in
        last (subst (IsNeedless t (length t.rays.items - 2)) k' (subst (λ (i : ℕ). IsNeedless t i k) j' z))
    at_last j k l p (inr (x, y)) z =
        let j' : j ≡ length t.rays.items - 2 = omega (arith, x, y, p) in let k' : k ≡ length t.rays.items - 1 = omega (arith, p) in
        last (subst (IsNeedless t (length t.rays.items - 2)) k' (subst (λ (i : ℕ). IsNeedless t i k) j' z))

    by : (k : ℕ) → k < c + 1 → (w : WasNeedless t (length t.rays.items - 1) k) → Moved (length t.rays.items) (length t.rays.items - 1) w.number k → ⊥
    by k l w (inl x) = at_last w.before w.number w.within (let p = w.within in omega (arith, x, p)) w.next w.needless
    by k l w (inr x) = a w.before w.number (omega (arith, x, l, some)) w.within w.next w.needless

    needed : NoneNeedless (c + 1) s
    needed j k l l' x z =
        let w = needless-back t s T e f (length t.rays.items - 1) h count j k (omega (arith, l', n)) (subst (λ (i : ℕ). IsNext i j k) n x) z in
        by k l w w.moved

pub record IsSeen (unseen : ℕ) (t : Star) : Type 0 where
  pub within : unseen ≤ length t.rays.items
  pub needed : NoneNeedless (length t.rays.items - unseen) t

pub seen-more : (t s : Star) (i j : ℕ) → j + 1 ≡ i → IsSeen i t → IsRayTried (length t.rays.items - i) t s → IsSeen j s
seen-more t s i j e v (inl (n, a)) = let w = v.within in let c : length t.rays.items - i ≡ length s.rays.items - j = omega (arith, n, e) in record { within = omega (arith, n, e, w); needed = subst (λ (k : ℕ). NoneNeedless k s) c a }
seen-more t s i j e v (inr (n, a)) = let w = v.within in let c : length t.rays.items - i + 1 ≡ length s.rays.items - j = omega (arith, n, e, w) in record { within = omega (arith, n, e, w); needed = subst (λ (k : ℕ). NoneNeedless k s) c a }

pub kept-trans : (t s r : Star) → KeepsLabels t s → KeepsLabels s r → KeepsLabels t r
kept-trans t s r h k = record {
  axis = k.axis ∙ h.axis;
  mark = k.mark ∙ h.mark;
  labels = λ e l off q. k.labels e l (subst (λ (x : Dir). IsDirection (cross (vector_of x) e)) (sym h.axis) off) (h.labels e l off q);
}

pub kept-self : (t : Star) → KeepsLabels t t
kept-self t = record { axis = refl; mark = refl; labels = λ e l off q. q }

pub simplified : (t : Star) → NoneNeedless (length t.rays.items) t → IsSimplified (star_of t)
simplified t a j k q r l m qj rk follows lj mk el em =
    let v = at-ray t.rays.items k r rk in
    let mark = sym v.1.mark ∙ ap (λ (p : PlainRay). p.mark) v.1.is in
    a j k v.0 v.0 (next follows v.0) (mark ∙ el ∙ sym (at-sector t.sectors.items j l lj), mark ∙ em ∙ sym (at-sector t.sectors.items k m mk))
  where
    next : Follows (star_of t).rays j k → k < length t.rays.items → IsNext (length t.rays.items) j k
    next (inl x) h = inl (x, h)
    next (inr (x, y)) h = inr (x ∙ length-map t.rays.items ray_of, y)

pub true_or_false : true ≡ false → ⊥
true_or_false e = subst T e tt

pub seen-first : (t : Star) (n : ℕ) → n ≡ length t.rays.items → IsSeen n t
seen-first t n e = record { within = omega (arith, e); needed = λ j k h. absurd (omega (arith, e, h)) }

pub seen-all : (t : Star) (n : ℕ) → n ≡ 0 → IsSeen n t → NoneNeedless (length t.rays.items) t
seen-all t n e v = let c : length t.rays.items - n ≡ length t.rays.items = omega (arith, e) in subst (λ (k : ℕ). NoneNeedless k t) c v.needed

pub still-needed : (t s : Star) → BeginsAnywhere t → KeepsLabels t s → (s ≡ t) ⊎ ((m : ℕ) × (m < length t.rays.items) × IsCountedFrom m t s) → NoneNeedless (length t.rays.items) t → NoneNeedless (length s.rays.items) s
still-needed t s T k (inl e) a = subst (λ (r : Star). NoneNeedless (length r.rays.items) r) (sym e) a
still-needed t s T k (inr (m, h, c)) a = counted-needed t s T k.axis k.mark m h c a

-- ---- a star none of whose rays is needless
pub next-one : (n i j k : ℕ) → IsNext n i k → IsNext n j k → k < n → i ≡ j
next-one n i j k (inl (x, h)) (inl (y, g)) l = omega (arith, x, y)
next-one n i j k (inl (x, h)) (inr (y, g)) l = absurd (omega (arith, x, g))
next-one n i j k (inr (x, h)) (inl (y, g)) l = absurd (omega (arith, y, h))
next-one n i j k (inr (x, h)) (inr (y, g)) l = omega (arith, x, y)

pub needed-more : (t : Star) (c : ℕ) → NoneNeedless c t → (i : ℕ) → IsNext (length t.rays.items) i c → (IsNeedless t i c → ⊥) → NoneNeedless (c + 1) t
needed-more t c a i x last j k l h y z = by (cases_lt k c)
  where
    by : (k < c) ⊎ (c ≤ k) → ⊥
    by (inl m) = a j k m h y z
    by (inr m) =
        let e : k ≡ c = omega (arith, l, m) in
        let f = next-one (length t.rays.items) j i c (subst (IsNext (length t.rays.items) j) e y) x (subst (λ (n : ℕ). n < length t.rays.items) e h) in
        last (subst (IsNeedless t i) e (subst (λ (n : ℕ). IsNeedless t n k) f z))
