-- Two stars combined ray by ray.
use Rattle.nef_star.proofs.Prelude.{◌≡◌, ℕ, ◌+◌, ◌<◌, ◌≤◌, length, arith, refl, sym, ap, subst, ◌∙◌, inl, inr, eq-or-lt_of_le, Vector, IsDirection, Label, vector_of, Dir, IsOnCircle, Op, Star, op_label, IsTurning, Gives, on_ray, in_sector, in_only_sector, IsLabelAfter, left_at, mark_at, sector_at, BeginsAnywhere, HasLeft, LeftGives, LeftAfter, IsLeftCombined, IsCombinedAt}
use Rattle.nef_star.proofs.Turns.{one_label}
use Rattle.nef_star.proofs.Rotated.{rotated-gives}
use Rattle.nef_star.proofs.Counted.{agreeing}
use Rattle.nef_star.proofs.Both.{gives-same, after-label}

-- the operation's label of equal labels
pub combined-equal : (op : Op) (x y x' y' z : Label) → z ≡ op_label op x y → x ≡ x' → y ≡ y' → z ≡ op_label op x' y'
combined-equal op x y x' y' z e p q = e ∙ ap (λ (v : Label). op_label op v y) p ∙ ap (op_label op x') q

-- ---- directions
-- M' and S' are M and S combined with what g gives at each f i and after it
module _ (op : Op) (a : Vector) (axis : IsDirection a) (n : ℕ) (some : 0 < n) (f : ℕ → Vector) (t : IsTurning a n f) (m : ℕ) (g : ℕ → Vector) (u : IsTurning a m g) (all : (p : ℕ) → p < m → (x : ℕ) × (x < n) × (f x ≡ g p))
    (M S N R M' S' : ℕ → Label)
    (on : (i : ℕ) → i < n → (l : Label) × Gives a m g N R (f i) l × (M' i ≡ op_label op (M i) l)) (after : (i : ℕ) → i < n → (l : Label) × IsLabelAfter a m g R (f i) l × (S' i ≡ op_label op (S i) l))
    (d : Vector) (o : IsOnCircle a d) (k l : Label) where
  pub combined-gives : Gives a n f M S d k → Gives a m g N R d l → Gives a n f M' S' d (op_label op k l)
  combined-gives (on_ray i h s e) v =
      let w = on i h in
      let same = one_label a axis m g u N R d w.0 l o (gives-same a axis m g u N R (f i) d (t.circle i h) o s w.0 w.1) v in
      on_ray i h s (combined-equal op (M i) w.0 k l (M' i) w.2 e same)
  combined-gives (in_sector i j h x p e) v =
      let w = after i h in
      let same = after-label a axis n f t m g u all d o i j h x p N R w.0 l w.1 v in
      in_sector i j h x p (combined-equal op (S i) w.0 k l (S' i) w.2 e same)
  combined-gives (in_only_sector z e) v = absurd (omega (arith, z, some))

-- ---- stars
-- the rays of s up to number k have the labels of t and b combined, and the others those of t
pub record IsCombinedTo (op : Op) (b : Star) (k : ℕ) (t s : Star) : Type 0 where
  pub turned : BeginsAnywhere s
  pub axis : s.axis ≡ t.axis
  pub mark : s.mark ≡ t.mark
  pub count : length s.rays.items ≡ length t.rays.items
  pub lefts : (i : ℕ) → left_at s.rays.items i ≡ left_at t.rays.items i
  pub on : (i : ℕ) → i < k → (l : Label) × LeftGives b (left_at t.rays.items i) l × (mark_at s.rays.items i ≡ op_label op (mark_at t.rays.items i) l)
  pub after : (i : ℕ) → i < k → (l : Label) × LeftAfter b (left_at t.rays.items i) l × (sector_at s.sectors.items i ≡ op_label op (sector_at t.sectors.items i) l)
  pub other_marks : (i : ℕ) → k ≤ i → mark_at s.rays.items i ≡ mark_at t.rays.items i
  pub other_sectors : (i : ℕ) → k ≤ i → sector_at s.sectors.items i ≡ sector_at t.sectors.items i

pub combined-more : (op : Op) (b : Star) (k : ℕ) (t s u : Star) → IsCombinedTo op b k t s → IsCombinedAt op b k s u → IsCombinedTo op b (k + 1) t u
combined-more op b k t s u h new = record {
  turned = new.turned;
  axis = new.axis ∙ h.axis;
  mark = new.mark ∙ h.mark;
  count = new.count ∙ h.count;
  lefts = λ i. new.lefts i ∙ h.lefts i;
  on = on;
  after = after;
  other_marks = λ i l. let other : i ≡ k → ⊥ = λ e. omega (arith, e, l) in let beyond : k ≤ i = omega (arith, l) in new.other_marks i other ∙ h.other_marks i beyond;
  other_sectors = λ i l. let other : i ≡ k → ⊥ = λ e. omega (arith, e, l) in let beyond : k ≤ i = omega (arith, l) in new.other_sectors i other ∙ h.other_sectors i beyond;
}
  where
    here : k ≤ k
    here = omega arith

    on : (i : ℕ) → i < k + 1 → (l : Label) × LeftGives b (left_at t.rays.items i) l × (mark_at u.rays.items i ≡ op_label op (mark_at t.rays.items i) l)
    on i l = elim (eq-or-lt_of_le {n = i} {m = k} (omega (arith, l))) [
      | inl z ↦
          let w = new.on in
          subst (λ (i : ℕ). (l : Label) × LeftGives b (left_at t.rays.items i) l × (mark_at u.rays.items i ≡ op_label op (mark_at t.rays.items i) l)) (sym z)
          (w.0, subst (λ (v : Vector). LeftGives b v w.0) (h.lefts k) w.1, w.2 ∙ ap (λ (x : Label). op_label op x w.0) (h.other_marks k here))
      | inr p ↦ let w = h.on i p in let other : i ≡ k → ⊥ = λ e. omega (arith, e, p) in (w.0, w.1, new.other_marks i other ∙ w.2)
    ]

    after : (i : ℕ) → i < k + 1 → (l : Label) × LeftAfter b (left_at t.rays.items i) l × (sector_at u.sectors.items i ≡ op_label op (sector_at t.sectors.items i) l)
    after i l = elim (eq-or-lt_of_le {n = i} {m = k} (omega (arith, l))) [
      | inl z ↦
          let w = new.after in
          subst (λ (i : ℕ). (l : Label) × LeftAfter b (left_at t.rays.items i) l × (sector_at u.sectors.items i ≡ op_label op (sector_at t.sectors.items i) l)) (sym z)
          (w.0, subst (λ (v : Vector). LeftAfter b v w.0) (h.lefts k) w.1, w.2 ∙ ap (λ (x : Label). op_label op x w.0) (h.other_sectors k here))
      | inr p ↦ let w = h.after i p in let other : i ≡ k → ⊥ = λ e. omega (arith, e, p) in (w.0, w.1, new.other_sectors i other ∙ w.2)
    ]

-- s is t with the labels on and after each ray combined with those that b gives there
module _ (op : Op) (b t s : Star) (B : BeginsAnywhere b) (T : BeginsAnywhere t) (e : b.axis ≡ t.axis) (some : 0 < length t.rays.items) (all : (p : ℕ) → p < length b.rays.items → HasLeft t (left_at b.rays.items p)) (h : IsCombinedTo op b (length t.rays.items) t s) where
  other-turning : IsTurning (vector_of t.axis) (length b.rays.items) (left_at b.rays.items)
  other-turning = subst (λ (x : Dir). IsTurning (vector_of x) (length b.rays.items) (left_at b.rays.items)) e B.counterclockwise

  new-turning : IsTurning (vector_of t.axis) (length t.rays.items) (left_at s.rays.items)
  new-turning = subst (λ (x : Dir). IsTurning (vector_of x) (length t.rays.items) (left_at s.rays.items)) h.axis (subst (λ (n : ℕ). IsTurning (vector_of s.axis) n (left_at s.rays.items)) h.count h.turned.counterclockwise)

  about : (d : Vector) (l : Label) → LeftGives b d l → Gives (vector_of t.axis) (length b.rays.items) (left_at b.rays.items) (mark_at b.rays.items) (sector_at b.sectors.items) d l
  about d l = subst (λ (x : Dir). Gives (vector_of x) (length b.rays.items) (left_at b.rays.items) (mark_at b.rays.items) (sector_at b.sectors.items) d l) e

  about-after : (d : Vector) (l : Label) → LeftAfter b d l → IsLabelAfter (vector_of t.axis) (length b.rays.items) (left_at b.rays.items) (sector_at b.sectors.items) d l
  about-after d l = subst (λ (x : Dir). IsLabelAfter (vector_of x) (length b.rays.items) (left_at b.rays.items) (sector_at b.sectors.items) d l) e

  on : (i : ℕ) → i < length t.rays.items → (l : Label) × Gives (vector_of t.axis) (length b.rays.items) (left_at b.rays.items) (mark_at b.rays.items) (sector_at b.sectors.items) (left_at s.rays.items i) l × (mark_at s.rays.items i ≡ op_label op (mark_at t.rays.items i) l)
  on i p = let w = h.on i p in (w.0, about (left_at s.rays.items i) w.0 (subst (λ (v : Vector). LeftGives b v w.0) (sym (h.lefts i)) w.1), w.2)

  after : (i : ℕ) → i < length t.rays.items → (l : Label) × IsLabelAfter (vector_of t.axis) (length b.rays.items) (left_at b.rays.items) (sector_at b.sectors.items) (left_at s.rays.items i) l × (sector_at s.sectors.items i ≡ op_label op (sector_at t.sectors.items i) l)
  after i p = let w = h.after i p in (w.0, about-after (left_at s.rays.items i) w.0 (subst (λ (v : Vector). LeftAfter b v w.0) (sym (h.lefts i)) w.1), w.2)

  has : (p : ℕ) → p < length b.rays.items → (x : ℕ) × (x < length t.rays.items) × (left_at s.rays.items x ≡ left_at b.rays.items p)
  has p q = let w = all p q in (w.0, w.1, h.lefts w.0 ∙ w.2)

  at-new : (d : Vector) (k : Label) → LeftGives t d k → Gives (vector_of t.axis) (length t.rays.items) (left_at s.rays.items) (mark_at t.rays.items) (sector_at t.sectors.items) d k
  at-new d k g = rotated-gives (vector_of t.axis) (length t.rays.items) 0 (left_at t.rays.items) (left_at s.rays.items) some
      (agreeing (length t.rays.items) (left_at t.rays.items) (left_at s.rays.items) (λ i p. h.lefts i))
      (mark_at t.rays.items) (mark_at t.rays.items) (sector_at t.sectors.items) (sector_at t.sectors.items)
      (agreeing (length t.rays.items) (mark_at t.rays.items) (mark_at t.rays.items) (λ i p. refl))
      (agreeing (length t.rays.items) (sector_at t.sectors.items) (sector_at t.sectors.items) (λ i p. refl)) d k g

  pub left-combined : IsLeftCombined op b t s
  left-combined = record {
    turned = h.turned;
    axis = h.axis;
    mark = h.mark;
    gives = λ d k l o g g'.
        subst (λ (x : Dir). Gives (vector_of x) (length s.rays.items) (left_at s.rays.items) (mark_at s.rays.items) (sector_at s.sectors.items) d (op_label op k l)) (sym h.axis)
        (subst (λ (n : ℕ). Gives (vector_of t.axis) n (left_at s.rays.items) (mark_at s.rays.items) (sector_at s.sectors.items) d (op_label op k l)) (sym h.count)
        (combined-gives op (vector_of t.axis) t.axis.some (length t.rays.items) some (left_at s.rays.items) new-turning (length b.rays.items) (left_at b.rays.items) other-turning has
        (mark_at t.rays.items) (sector_at t.sectors.items) (mark_at b.rays.items) (sector_at b.sectors.items) (mark_at s.rays.items) (sector_at s.sectors.items) on after d o k l (at-new d k g) (about d l g')));
  }
