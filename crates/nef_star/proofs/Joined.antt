-- What a star gives at one of its rays, one ray's labels changed, and two stars combined.
use Rattle.nef_star.proofs.Prelude.{◌≡◌, ℕ, ◌<◌, List, length, map, get_or, set, arith, sym, ap, subst, ◌∙◌, inl, inr, ◌⊎◌, length-set, All, map-set, get_or-set_same, get_or-set_other, length-map, All-set, Vector, zero_vector, cross, IsDirection, SameDirection, Label, Out, vector_of, Dir, IsOnCircle, StarLabel, Op, Ray, Star, op_label, IsTurning, Gives, on_ray, in_sector, in_only_sector, star_of, left_of, left_at, mark_of, mark_at, sector_at, sector_count, IsRay, BeginsAnywhere, KeepsLabels, HasLeft, LeftGives, LeftAfter, LeftPast, IsCombined, IsLeftCombined, IsCombinedAt}
use Rattle.nef_star.proofs.Labelled.{left-on, to-left, to-star, sectors-fill, sectors-none}
use Rattle.nef_star.proofs.RayOrder.{one-value}
use Rattle.nef_star.proofs.Added.{turning-same}
use Rattle.nef_star.proofs.Counted.{turned-by, count-some}
use Rattle.nef_star.proofs.Dropped.{only-label}
use Rattle.nef_star.proofs.Pushed.{at-item, left-on_circle, marked-ray, marked-left}
use Rattle.std.proofs.lemmas.Bool.{cases_eq}
use Rattle.std.proofs.Math.Nat.{eq-zero-or-pos}

-- ---- at a ray
pub gives-mark : (t : Star) (d : Vector) (k : ℕ) (r : Ray) → k < length t.rays.items → r ≡ get_or t.rays.items k r → SameDirection (left_at t.rays.items k) d → LeftGives t d r.mark
gives-mark t d k r h e s = on_ray k h s (at-item mark_of Out t.rays.items k r h ∙ ap mark_of (sym e))

pub item-sector : (t : Star) → BeginsAnywhere t → (k : ℕ) (l : Label) → k < length t.rays.items → l ≡ get_or t.sectors.items k l → sector_at t.sectors.items k ≡ l
item-sector t T k l h e = one-value t.sectors.items k Out l (sectors-fill t.rays.items (length t.sectors.items) k T.sectors h) ∙ sym e

pub gives-sector : (t : Star) → BeginsAnywhere t → (d : Vector) (k : ℕ) (l : Label) → k < length t.rays.items → l ≡ get_or t.sectors.items k l → LeftPast t d k → LeftGives t d l
gives-sector t T d k l h e (j, x, p) = in_sector k j h x p (item-sector t T k l h e)

pub item-on : (a : Vector) (rays : List Ray) → All (IsRay a) rays → (k : ℕ) (r : Ray) → k < length rays → r ≡ get_or rays k r → IsOnCircle a (left_of r)
item-on a rays R k r h e = left-on_circle a r (subst (IsRay a) (sym e) (R k r h))

-- ---- one ray's labels changed
pub set-here : {X Y : Type 0} (g : X → Y) (d : Y) (xs : List X) (k : ℕ) (x : X) → k < length xs → get_or (map g (set xs k x)) k d ≡ g x
set-here g d xs k x h = let n = length-map xs g in ap (λ l. get_or l k d) (map-set g xs k x) ∙ get_or-set_same (map g xs) k (g x) d (omega (arith, n, h))

pub set-other : {X Y : Type 0} (g : X → Y) (d : Y) (xs : List X) (k : ℕ) (x : X) (i : ℕ) → (i ≡ k → ⊥) → get_or (map g (set xs k x)) i d ≡ get_or (map g xs) i d
set-other g d xs k x i n = ap (λ l. get_or l i d) (map-set g xs k x) ∙ get_or-set_other (map g xs) k i (g x) d n

-- ray k of t is q, and that of s is r
module _ (op : Op) (b t s : Star) (T : BeginsAnywhere t) (k : ℕ) (q r : Ray) (h : k < length t.rays.items) (at_k : q ≡ get_or t.rays.items k q) (normal : r.normal ≡ q.normal) (ahead : r.ahead ≡ q.ahead)
    (e : s.axis ≡ t.axis) (f : s.mark ≡ t.mark) (p l : Label) (rays : s.rays.items ≡ set t.rays.items k r) (sectors : s.sectors.items ≡ set t.sectors.items k p) where
  pub changed-count : length s.rays.items ≡ length t.rays.items
  changed-count = ap length rays ∙ length-set t.rays.items k r

  old-left : left_at t.rays.items k ≡ left_of q
  old-left = at-item left_of zero_vector t.rays.items k q h ∙ ap left_of (sym at_k)

  old-mark : mark_at t.rays.items k ≡ q.mark
  old-mark = at-item mark_of Out t.rays.items k q h ∙ ap mark_of (sym at_k)

  pub same-lefts : (i : ℕ) → left_at s.rays.items i ≡ left_at t.rays.items i
  same-lefts i = ap (λ (l : List Ray). left_at l i) rays ∙ by (cases_eq i k)
    where
      by : (i ≡ k) ⊎ (i ≡ k → ⊥) → left_at (set t.rays.items k r) i ≡ left_at t.rays.items i
      by (inl z) = subst (λ (j : ℕ). left_at (set t.rays.items k r) j ≡ left_at t.rays.items j) (sym z) (set-here left_of zero_vector t.rays.items k r h ∙ marked-left q r normal ahead ∙ sym old-left)
      by (inr n) = set-other left_of zero_vector t.rays.items k r i n

  pub changed-turned : BeginsAnywhere s
  changed-turned =
      let m = ap length sectors ∙ length-set t.sectors.items k p in let some : 0 < length s.rays.items = omega (arith, changed-count, h) in
      turned-by t s T e f
      (subst (All (IsRay (vector_of t.axis))) (sym rays) (All-set (IsRay (vector_of t.axis)) t.rays.items k r (marked-ray (vector_of t.axis) q r normal (subst (IsRay (vector_of t.axis)) (sym at_k) (T.rays k q h))) T.rays))
      (length t.rays.items) changed-count
      (turning-same (vector_of t.axis) (length t.rays.items) (left_at t.rays.items) (left_at s.rays.items) (λ i x. same-lefts i) T.counterclockwise)
      (m ∙ T.sectors ∙ count-some t.rays.items (omega (arith, h)) ∙ sym changed-count ∙ sym (count-some s.rays.items some))

  pub changed : (x y z : Label) → LeftGives b (left_of q) x → r.mark ≡ op_label op q.mark x → LeftAfter b (left_of q) y → z ≡ get_or t.sectors.items k z → p ≡ op_label op z y → IsCombinedAt op b k t s
  changed x y z g on w at_z after = record {
    turned = changed-turned;
    axis = e;
    mark = f;
    count = changed-count;
    lefts = same-lefts;
    on = (
      x,
      subst (λ (v : Vector). LeftGives b v x) (sym old-left) g,
      ap (λ (l : List Ray). mark_at l k) rays ∙ set-here mark_of Out t.rays.items k r h ∙ on ∙ ap (λ (l : Label). op_label op l x) (sym old-mark),
    );
    after = (
      y,
      subst (λ (v : Vector). LeftAfter b v y) (sym old-left) w,
      ap (λ (l : List Label). sector_at l k) sectors ∙ get_or-set_same t.sectors.items k p Out (sectors-fill t.rays.items (length t.sectors.items) k T.sectors h) ∙ after
          ∙ ap (λ (l : Label). op_label op l y) (sym (item-sector t T k z h at_z)),
    );
    other_marks = λ i n. ap (λ (l : List Ray). mark_at l i) rays ∙ set-other mark_of Out t.rays.items k r i n;
    other_sectors = λ i n. ap (λ (l : List Label). sector_at l i) sectors ∙ get_or-set_other t.sectors.items k i p Out n;
  }

-- ---- stars combined
-- t' is t with its mark combined
pub left-to_star : (op : Op) (b t t' s : Star) → BeginsAnywhere b → BeginsAnywhere t → b.axis ≡ t.axis → t'.axis ≡ t.axis → ((d : Vector) (k : Label) → LeftGives t d k → LeftGives t' d k) → t'.mark ≡ op_label op t.mark b.mark → IsLeftCombined op b t' s → IsCombined op t b s
left-to_star op b t t' s B T e e' same m h = record { axis = h.axis ∙ e'; mark = h.mark ∙ m; labels = labels }
  where
    labels : (v : Vector) (k l : Label) → IsDirection (cross (vector_of t.axis) v) → StarLabel (star_of t) v k → StarLabel (star_of b) v l → StarLabel (star_of s) v (op_label op k l)
    labels v k l off x y =
        let x' = to-left t T v off k x in
        let y' = subst (λ (n : Dir). LeftGives b (cross (vector_of n) v) l) e (to-left b B v (subst (λ (n : Dir). IsDirection (cross (vector_of n) v)) (sym e) off) l y) in
        let on = subst (λ (n : Dir). IsOnCircle (vector_of n) (cross (vector_of t.axis) v)) (sym e') (left-on t T v off) in
        let z = h.gives (cross (vector_of t.axis) v) k l on (same (cross (vector_of t.axis) v) k x') y' in
        let axis : s.axis ≡ t.axis = h.axis ∙ e' in
        to-star s h.turned v (subst (λ (n : Dir). IsDirection (cross (vector_of n) v)) (sym axis) off) (op_label op k l) (subst (λ (n : Dir). LeftGives s (cross (vector_of n) v) (op_label op k l)) (sym axis) z)

pub combined-kept : (op : Op) (a b c s t : Star) → KeepsLabels a c → IsCombined op c b s → KeepsLabels s t → IsCombined op a b t
combined-kept op a b c s t h k m = record {
  axis = m.axis ∙ k.axis ∙ h.axis;
  mark = m.mark ∙ k.mark ∙ ap (λ (l : Label). op_label op l b.mark) h.mark;
  labels = λ v x y off p q.
      let off' = subst (λ (n : Dir). IsDirection (cross (vector_of n) v)) (sym h.axis) off in
      let off'' = subst (λ (n : Dir). IsDirection (cross (vector_of n) v)) (sym k.axis) off' in
      m.labels v (op_label op x y) off'' (k.labels v x y off' (h.labels v x off p) q);
}

pub none-too : (t b : Star) → ((k : ℕ) → k < length b.rays.items → HasLeft t (left_at b.rays.items k)) → length t.rays.items ≡ 0 → length b.rays.items ≡ 0
none-too t b all none = elim (eq-zero-or-pos (length b.rays.items)) [ inl e ↦ e | inr h ↦ let w = all 0 h in let x = w.1 in absurd (omega (arith, x, none)) ]

-- stars without rays
module _ (op : Op) (b t s : Star) (B : BeginsAnywhere b) (T : BeginsAnywhere t) (none : length t.rays.items ≡ 0) (none' : length b.rays.items ≡ 0) (e : s.axis ≡ t.axis) (f : s.mark ≡ t.mark) (rays : s.rays.items ≡ t.rays.items)
    (x y z : Label) (at_t : x ≡ get_or t.sectors.items 0 x) (at_b : y ≡ get_or b.sectors.items 0 y) (combined : z ≡ op_label op x y) (sectors : s.sectors.items ≡ set t.sectors.items 0 z) where
  only-of : (r : Star) → BeginsAnywhere r → length r.rays.items ≡ 0 → (d : Vector) (k l : Label) → k ≡ get_or r.sectors.items 0 k → LeftGives r d l → k ≡ l
  only-of r R n d k l h g =
      let some = sectors-none r.rays.items (length r.sectors.items) R.sectors n in
      h ∙ one-value r.sectors.items 0 k Out some
      ∙ only-label (vector_of r.axis) (left_at r.rays.items) (mark_at r.rays.items) (sector_at r.sectors.items) d l (subst (λ (m : ℕ). Gives (vector_of r.axis) m (left_at r.rays.items) (mark_at r.rays.items) (sector_at r.sectors.items) d l) n g)

  pub only-turned : BeginsAnywhere s
  only-turned = turned-by t s T e f (subst (All (IsRay (vector_of t.axis))) (sym rays) T.rays) (length t.rays.items) (ap length rays)
      (subst (λ (l : List Ray). IsTurning (vector_of t.axis) (length t.rays.items) (left_at l)) (sym rays) T.counterclockwise)
      (ap length sectors ∙ length-set t.sectors.items 0 z ∙ T.sectors ∙ ap sector_count (sym rays))

  pub only-combined : IsLeftCombined op b t s
  only-combined = record {
    turned = only-turned;
    axis = e;
    mark = f;
    gives = λ d k l o g g'.
        let some = sectors-none t.rays.items (length t.sectors.items) T.sectors none in
        in_only_sector (ap length rays ∙ none)
        (ap (λ (l : List Label). sector_at l 0) sectors ∙ get_or-set_same t.sectors.items 0 z Out some ∙ combined ∙ ap (λ (v : Label). op_label op v y) (only-of t T none d x k at_t g) ∙ ap (op_label op k) (only-of b B none' d y l at_b g'));
  }
