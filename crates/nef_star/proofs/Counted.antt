-- Stars whose rays are counted from another one on, and stars without their last ray.
use Rattle.nef_star.proofs.Prelude.{◌≡◌, ℕ, suc, ◌+◌, ◌-◌, ◌<◌, ◌≤◌, List, [], ◌∷◌, ◌++◌, length, map, take, drop, get_or, arith, refl, sym, ap, subst, ◌∙◌, inl, inr, length-append, All, drop-map, take-map, map-append, get_or-drop, get_or-take, get_or_append_left, get_or-append_right, length-drop, length-take-le, length-map, All-append, All-take, All-drop, svertex_limit, Vector, cross, zero_vector, IsDirection, IsAtMost, Label, Out, vector_of, Dir, IsOnCircle, Ray, Star, IsTurning, IsNext, Gives, left_of, left_at, mark_of, mark_at, sector_at, sector_count, IsRay, BeginsAnywhere, KeepsLabels, IsCountedFrom, IsNeedless, NoneNeedless, LeftGives}
use Rattle.nef_star.proofs.Labelled.{left-on, to-left, to-star}
use Rattle.nef_star.proofs.Rotated.{IsRotated, rotated-gives, rotated-turning}
use Rattle.nef_star.proofs.Dropped.{fewer-turning, dropped-gives}

-- ---- lists
pub rotated-list : {X : Type 0} (d : X) (m : ℕ) (xs ys : List X) → m ≤ length xs → ys ≡ drop m xs ++ take m xs → IsRotated (length xs) m (λ k. get_or xs k d) (λ k. get_or ys k d)
rotated-list d m xs ys h e =
    let n : length (drop m xs) ≡ length xs - m = length-drop m xs in
    record {
      low = λ k i. let j : k < length (drop m xs) = omega (arith, n, h, i) in let s : m + k ≡ k + m = omega arith in
          ap (λ l. get_or l k d) e ∙ get_or_append_left (drop m xs) (take m xs) d k j ∙ get_or-drop m xs k d ∙ ap (λ i. get_or xs i d) s;
      high = λ k i l. let j : length xs - m ≤ k = omega (arith, h, i) in let s : k - (length xs - m) ≡ k + m - length xs = omega (arith, h, i) in let b : k - (length xs - m) < m = omega (arith, h, i, l) in
          ap (λ l. get_or l k d) e ∙ get_or-append_right (drop m xs) (take m xs) (length xs - m) k d n j ∙ get_or-take m xs (k - (length xs - m)) d b ∙ ap (λ i. get_or xs i d) s;
    }

pub rotated-map : {X Y : Type 0} (g : X → Y) (d : Y) (m : ℕ) (xs ys : List X) → m ≤ length xs → ys ≡ drop m xs ++ take m xs → IsRotated (length xs) m (λ k. get_or (map g xs) k d) (λ k. get_or (map g ys) k d)
rotated-map g d m xs ys h e =
    let n = length-map xs g in let i : m ≤ length (map g xs) = omega (arith, n, h) in
    let f : map g ys ≡ drop m (map g xs) ++ take m (map g xs) = ap (map g) e ∙ map-append g (drop m xs) (take m xs) ∙ rw (drop-map g m xs, take-map g m xs) refl in
    subst (λ (k : ℕ). IsRotated k m (λ k. get_or (map g xs) k d) (λ k. get_or (map g ys) k d)) n (rotated-list d m (map g xs) (map g ys) i f)

pub rotated-length : {X : Type 0} (m : ℕ) (xs ys : List X) → m ≤ length xs → ys ≡ drop m xs ++ take m xs → length ys ≡ length xs
rotated-length m xs ys h e =
    let a = ap length e ∙ length-append (drop m xs) (take m xs) in let b = length-drop m xs in let c = length-take-le m xs h in
    omega (arith, a, b, c, h)

-- the same values below n
pub agreeing : {X : Type 0} (n : ℕ) (f g : ℕ → X) → ((k : ℕ) → k < n → g k ≡ f k) → IsRotated n 0 f g
agreeing n f g h = record {
  low = λ k i. let j : k < n = omega (arith, i) in let e : k ≡ k + 0 = omega arith in h k j ∙ ap f e;
  high = λ k i l. absurd (omega (arith, i, l));
}

pub taken-map : {X Y : Type 0} (g : X → Y) (d : Y) (n : ℕ) (xs ys : List X) → ys ≡ take n xs → (i : ℕ) → i < n → get_or (map g ys) i d ≡ get_or (map g xs) i d
taken-map g d n xs ys e i h = ap (λ l. get_or (map g l) i d) e ∙ ap (λ l. get_or l i d) (sym (take-map g n xs)) ∙ get_or-take n (map g xs) i d h

pub count-some : (rays : List Ray) → 0 < length rays → sector_count rays ≡ length rays
count-some [] h = absurd (omega arith)
count-some (r ∷ rs) h = refl

-- what a vector holds after its slice was written
pub refilled : {X : Type 0} (n : ℕ) (ws ys : List X) → n ≡ length ws → take n (ws ++ ys) ≡ ws
refilled n ws ys e = ap (λ i. take i (ws ++ ys)) e ∙ front ws ys
  where
    front : {X : Type 0} (ws ys : List X) → take (length ws) (ws ++ ys) ≡ ws
    front [] ys = refl
    front (w ∷ ws) ys = ap (λ l. w ∷ l) (front ws ys)

-- ---- stars that give the same labels
pub kept-by : (t s : Star) → BeginsAnywhere t → BeginsAnywhere s → s.axis ≡ t.axis → s.mark ≡ t.mark
    → ((d : Vector) → IsOnCircle (vector_of t.axis) d → (l : Label) → LeftGives t d l → LeftGives s d l) → KeepsLabels t s
kept-by t s T S e f h = record {
  axis = e;
  mark = f;
  labels = λ v l off q.
      to-star s S v (subst (λ (x : Dir). IsDirection (cross (vector_of x) v)) (sym e) off) l
      (subst (λ (x : Dir). LeftGives s (cross (vector_of x) v) l) (sym e) (h (cross (vector_of t.axis) v) (left-on t T v off) l (to-left t T v off l q)));
}

-- about another name of the axis, with another name of the number
pub renamed : (s : Star) (a : Dir) (n : ℕ) (d : Vector) (l : Label) → s.axis ≡ a → length s.rays.items ≡ n
    → Gives (vector_of a) n (left_at s.rays.items) (mark_at s.rays.items) (sector_at s.sectors.items) d l → LeftGives s d l
renamed s a n d l e f h =
    subst (λ (x : Dir). Gives (vector_of x) (length s.rays.items) (left_at s.rays.items) (mark_at s.rays.items) (sector_at s.sectors.items) d l) (sym e)
    (subst (λ (k : ℕ). Gives (vector_of a) k (left_at s.rays.items) (mark_at s.rays.items) (sector_at s.sectors.items) d l) (sym f) h)

module _ (t s : Star) (T : BeginsAnywhere t) (e : s.axis ≡ t.axis) (f : s.mark ≡ t.mark) where
  pub turned-by : All (IsRay (vector_of t.axis)) s.rays.items → (n : ℕ) → length s.rays.items ≡ n → IsTurning (vector_of t.axis) n (left_at s.rays.items) → length s.sectors.items ≡ sector_count s.rays.items → BeginsAnywhere s
  turned-by rays n k turning sectors = record {
    axis_small = subst (λ (x : Dir). IsAtMost svertex_limit (vector_of x)) (sym e) T.axis_small;
    rays = subst (λ (x : Dir). All (IsRay (vector_of x)) s.rays.items) (sym e) rays;
    counterclockwise = subst (λ (x : Dir). IsTurning (vector_of x) (length s.rays.items) (left_at s.rays.items)) (sym e) (subst (λ (m : ℕ). IsTurning (vector_of t.axis) m (left_at s.rays.items)) (sym k) turning);
    sectors = sectors;
  }

  -- ---- counted from m on
  module _ (m : ℕ) (h : m < length t.rays.items) (c : IsCountedFrom m t s) where
    sectors_too : length t.sectors.items ≡ length t.rays.items
    sectors_too = T.sectors ∙ count-some t.rays.items (omega arith)

    pub lefts : IsRotated (length t.rays.items) m (left_at t.rays.items) (left_at s.rays.items)
    lefts = rotated-map left_of zero_vector m t.rays.items s.rays.items (omega arith) c.rays

    pub marks : IsRotated (length t.rays.items) m (mark_at t.rays.items) (mark_at s.rays.items)
    marks = rotated-map mark_of Out m t.rays.items s.rays.items (omega arith) c.rays

    pub sectors : IsRotated (length t.rays.items) m (sector_at t.sectors.items) (sector_at s.sectors.items)
    sectors = subst (λ (n : ℕ). IsRotated n m (sector_at t.sectors.items) (sector_at s.sectors.items)) sectors_too (rotated-list Out m t.sectors.items s.sectors.items (omega (arith, sectors_too)) c.sectors)

    pub counted-length : length s.rays.items ≡ length t.rays.items
    counted-length = rotated-length m t.rays.items s.rays.items (omega arith) c.rays

    counted_sectors : length s.sectors.items ≡ sector_count s.rays.items
    counted_sectors =
        let a = rotated-length m t.sectors.items s.sectors.items (omega (arith, sectors_too)) c.sectors in
        let b : 0 < length s.rays.items = omega (arith, counted-length) in
        a ∙ sectors_too ∙ sym counted-length ∙ sym (count-some s.rays.items b)

    pub counted-turned : BeginsAnywhere s
    counted-turned = turned-by
        (subst (All (IsRay (vector_of t.axis))) (sym c.rays) (All-append (IsRay (vector_of t.axis)) (drop m t.rays.items) (take m t.rays.items) (All-drop (IsRay (vector_of t.axis)) m t.rays.items T.rays) (All-take (IsRay (vector_of t.axis)) m t.rays.items T.rays)))
        (length t.rays.items) counted-length
        (rotated-turning (vector_of t.axis) (length t.rays.items) m (left_at t.rays.items) (left_at s.rays.items) h lefts t.axis.some T.counterclockwise)
        counted_sectors

    pub counted-kept : KeepsLabels t s
    counted-kept = kept-by t s T counted-turned e f (λ d o l g. renamed s t.axis (length t.rays.items) d l e counted-length
        (rotated-gives (vector_of t.axis) (length t.rays.items) m (left_at t.rays.items) (left_at s.rays.items) h lefts (mark_at t.rays.items) (mark_at s.rays.items) (sector_at t.sectors.items) (sector_at s.sectors.items) marks sectors d l g))

  -- ---- without the last
  module _ (k : ℕ) (n : length t.rays.items ≡ suc (suc k)) (rays : s.rays.items ≡ take (suc k) t.rays.items) (ends : s.sectors.items ≡ take (suc k) t.sectors.items) (needless : IsNeedless t k (suc k)) where
    pub fewer-length : length s.rays.items ≡ suc k
    fewer-length = let h : suc k ≤ length t.rays.items = omega (arith, n) in ap length rays ∙ length-take-le (suc k) t.rays.items h

    sectors_as_many : length t.sectors.items ≡ suc (suc k)
    sectors_as_many = T.sectors ∙ count-some t.rays.items (omega (arith, n)) ∙ n

    same-left : (i : ℕ) → i < suc k → left_at s.rays.items i ≡ left_at t.rays.items i
    same-left = taken-map left_of zero_vector (suc k) t.rays.items s.rays.items rays

    pub same-mark : (i : ℕ) → i < suc k → mark_at s.rays.items i ≡ mark_at t.rays.items i
    same-mark = taken-map mark_of Out (suc k) t.rays.items s.rays.items rays

    pub same-sector : (i : ℕ) → i < suc k → sector_at s.sectors.items i ≡ sector_at t.sectors.items i
    same-sector i h = ap (λ l. get_or l i Out) ends ∙ get_or-take (suc k) t.sectors.items i Out h

    fewer_sectors : length s.sectors.items ≡ sector_count s.rays.items
    fewer_sectors =
        let h : suc k ≤ length t.sectors.items = omega (arith, sectors_as_many) in let b : 0 < length s.rays.items = omega (arith, fewer-length) in
        ap length ends ∙ length-take-le (suc k) t.sectors.items h ∙ sym fewer-length ∙ sym (count-some s.rays.items b)

    all_turning : IsTurning (vector_of t.axis) (suc (suc k)) (left_at t.rays.items)
    all_turning = subst (λ (m : ℕ). IsTurning (vector_of t.axis) m (left_at t.rays.items)) n T.counterclockwise

    pub fewer-turned : BeginsAnywhere s
    fewer-turned = turned-by
        (subst (All (IsRay (vector_of t.axis))) (sym rays) (All-take (IsRay (vector_of t.axis)) (suc k) t.rays.items T.rays))
        (suc k) fewer-length
        (rotated-turning (vector_of t.axis) (suc k) 0 (left_at t.rays.items) (left_at s.rays.items) (omega arith) (agreeing (suc k) (left_at t.rays.items) (left_at s.rays.items) same-left) t.axis.some
        (fewer-turning (vector_of t.axis) (suc k) (left_at t.rays.items) all_turning))
        fewer_sectors

    pub fewer-kept : KeepsLabels t s
    fewer-kept = kept-by t s T fewer-turned e f (λ d o l g. renamed s t.axis (suc k) d l e fewer-length
        (rotated-gives (vector_of t.axis) (suc k) 0 (left_at t.rays.items) (left_at s.rays.items) (omega arith) (agreeing (suc k) (left_at t.rays.items) (left_at s.rays.items) same-left)
        (mark_at t.rays.items) (mark_at s.rays.items) (sector_at t.sectors.items) (sector_at s.sectors.items)
        (agreeing (suc k) (mark_at t.rays.items) (mark_at s.rays.items) same-mark) (agreeing (suc k) (sector_at t.sectors.items) (sector_at s.sectors.items) same-sector) d l
        (dropped-gives (vector_of t.axis) t.axis.some k (left_at t.rays.items) all_turning (mark_at t.rays.items) (sector_at t.sectors.items) needless.0 needless.1 d o l
        (subst (λ (m : ℕ). Gives (vector_of t.axis) m (left_at t.rays.items) (mark_at t.rays.items) (sector_at t.sectors.items) d l) n g))))

    -- a ray that is needless without the last was needless with it
    pub fewer-needed : (c : ℕ) → NoneNeedless c t → NoneNeedless c s
    fewer-needed c h i j p q x z = by (subst (λ (m : ℕ). IsNext m i j) fewer-length x)
      where
        here : j < suc k
        here = omega (arith, q, fewer-length)

        later : j < length t.rays.items
        later = omega (arith, here, n)

        by : IsNext (suc k) i j → ⊥
        by (inl (u, v)) = h i j p later (inl (u, later)) (sym (same-mark j here) ∙ z.0 ∙ same-sector i (omega (arith, u, v)), sym (same-mark j here) ∙ z.1 ∙ same-sector j here)
        by (inr (u, v)) =
            let w : i ≡ k = omega (arith, u) in
            h (suc k) j p later (inr (sym n, v))
            (sym (same-mark j here) ∙ z.0 ∙ same-sector i (omega (arith, u)) ∙ ap (sector_at t.sectors.items) w ∙ sym needless.0 ∙ needless.1, sym (same-mark j here) ∙ z.1 ∙ same-sector j here)
