-- The first axis after another on a circle, found star by star.
use Rattle.nef_spair.proofs.Prelude.{◌≡◌, ℕ, ◌+◌, ◌<◌, ◌≤◌, pos, List, length, map, arith, sym, subst, inl, inr, ◌⊎◌, eq-or-lt_of_le, dot, SameDirection, vector_of, Dir, IsStrictlyOn, AboutFour, order_is_transitive, IsAt, is-at_one, IsFirstAfter, Star, star_of, four, is-at_map, map-is_at, is-at_within, dir-self}
use Rattle.law_geometry.specs.sphere.Stars.{Star as PlainStar}
use Rattle.nef_star.proofs.Labelled.{strictly, passes}

-- the axis of the star with this number
abbrev pub IsAxisOf : List Star → ℕ → Dir → Type 0
IsAxisOf kept k d = (t : Star) → IsAt kept k t → t.axis ≡ d

-- of the first k axes none is strictly on the way from s to the axis of star j
pub record IsFirstStar (kept : List Star) (n s : Dir) (k j : ℕ) : Type 0 where
  pub within : j < length kept
  pub level : (t : Star) → IsAt kept j t → dot (vector_of n) (vector_of t.axis) ≡ pos 0
  pub none_before : (i : ℕ) (t u : Star) → i < k → IsAt kept j t → IsAt kept i u → IsStrictlyOn (vector_of n) (vector_of s) (vector_of t.axis) (vector_of u.axis) → ⊥

module _ (kept : List Star) (n s : Dir) (k j : ℕ) (t u : Star) (w : IsFirstStar kept n s k j) (a : IsAt kept j t) (b : IsAt kept k u) (kh : k < length kept) where
  -- star k isn't on the way
  pub first-stays : (IsStrictlyOn (vector_of n) (vector_of s) (vector_of t.axis) (vector_of u.axis) → ⊥) → IsFirstStar kept n s (k + 1) j
  first-stays off = record { within = w.within; level = w.level; none_before = λ i t' u' l a' b'. by i t' u' (eq-or-lt_of_le {n = i} {m = k} (omega (arith, l))) a' b' }
    where
      by : (i : ℕ) (t' u' : Star) → (i ≡ k) ⊎ (i < k) → IsAt kept j t' → IsAt kept i u' → IsStrictlyOn (vector_of n) (vector_of s) (vector_of t'.axis) (vector_of u'.axis) → ⊥
      by i t' u' (inl e) a' b' on =
          let t_is : t' ≡ t = is-at_one kept j t' t a' a in let u_is : u' ≡ u = is-at_one kept k u' u (subst (λ (m : ℕ). IsAt kept m u') e b') b in
          off (subst (λ (x : Star). IsStrictlyOn (vector_of n) (vector_of s) (vector_of t.axis) (vector_of x.axis)) u_is (subst (λ (x : Star). IsStrictlyOn (vector_of n) (vector_of s) (vector_of x.axis) (vector_of u'.axis)) t_is on))
      by i t' u' (inr l) a' b' on = w.none_before i t' u' l a' b' on

  -- star k is on the way: then it comes first
  pub first-changes : dot (vector_of n) (vector_of s) ≡ pos 0 → IsStrictlyOn (vector_of n) (vector_of s) (vector_of t.axis) (vector_of u.axis) → IsFirstStar kept n s (k + 1) k
  first-changes source on = record {
    within = kh;
    level = λ v c. let e : v ≡ u = is-at_one kept k v u c b in subst (λ (x : Star). dot (vector_of n) (vector_of x.axis) ≡ pos 0) (sym e) on.on_circle.level;
    none_before = λ i v x l c d o. by i v x (eq-or-lt_of_le {n = i} {m = k} (omega (arith, l))) c d o;
  }
    where
      by : (i : ℕ) (v x : Star) → (i ≡ k) ⊎ (i < k) → IsAt kept k v → IsAt kept i x → IsStrictlyOn (vector_of n) (vector_of s) (vector_of v.axis) (vector_of x.axis) → ⊥
      by i v x (inl e) c d o =
          let same : x ≡ v = is-at_one kept k x v (subst (λ (m : ℕ). IsAt kept m x) e d) c in
          o.not_target (subst (λ (y : Star). SameDirection (vector_of v.axis) (vector_of y.axis)) (sym same) (dir-self (vector_of v.axis) v.axis.some))
      by i v x (inr l) c d o =
          let e : v ≡ u = is-at_one kept k v u c b in
          let o' : IsStrictlyOn (vector_of n) (vector_of s) (vector_of u.axis) (vector_of x.axis) = subst (λ (y : Star). IsStrictlyOn (vector_of n) (vector_of s) (vector_of y.axis) (vector_of x.axis)) e o in
          let about : AboutFour (vector_of n) (vector_of s) (vector_of x.axis) (vector_of u.axis) (vector_of t.axis) = four (vector_of n) (vector_of s) (vector_of x.axis) (vector_of u.axis) (vector_of t.axis) n.some
          (record { direction = s.some; level = source }) o.on_circle on.on_circle (record { direction = t.axis.some; level = w.level t a }) in
          w.none_before i t x l a d (strictly _ _ _ _ (order_is_transitive (vector_of n) (vector_of s) (vector_of x.axis) (vector_of u.axis) (vector_of t.axis) about (passes _ _ _ _ o') (passes _ _ _ _ on)))

-- after all stars it is the first of all
pub first-all : (kept : List Star) (n s : Dir) (k j : ℕ) (f : Star) → length kept ≤ k → IsFirstStar kept n s k j → IsAt kept j f → (t : Star) → t.axis ≡ s → IsFirstAfter (map star_of kept) (vector_of n) (star_of t) j
first-all kept n s k j f h w a t e = record {
  first = star_of f;
  listed = map-is_at star_of kept j f a;
  level = w.level f a;
  none_before = λ i u b o.
      let v = is-at_map star_of kept i u b in
      w.none_before i f v.0 (omega (arith, h, is-at_within kept i v.0 v.1)) a v.1
      (subst (λ (x : Dir). IsStrictlyOn (vector_of n) (vector_of x) (vector_of f.axis) (vector_of v.0.axis)) e (subst (λ (x : PlainStar). IsStrictlyOn (vector_of n) (vector_of t.axis) (vector_of f.axis) x.axis) (sym v.2) o));
}

-- ---- the same directions under other names
module _ (n s t d n' s' t' d' : Dir) (en : n' ≡ n) (es : s' ≡ s) (et : t' ≡ t) (ed : d' ≡ d) where
  pub on-named : IsStrictlyOn (vector_of n') (vector_of s') (vector_of t') (vector_of d') → IsStrictlyOn (vector_of n) (vector_of s) (vector_of t) (vector_of d)
  on-named o =
      subst (λ (x : Dir). IsStrictlyOn (vector_of n) (vector_of s) (vector_of t) (vector_of x)) ed
      (subst (λ (x : Dir). IsStrictlyOn (vector_of n) (vector_of s) (vector_of x) (vector_of d')) et
      (subst (λ (x : Dir). IsStrictlyOn (vector_of n) (vector_of x) (vector_of t') (vector_of d')) es
      (subst (λ (x : Dir). IsStrictlyOn (vector_of x) (vector_of s') (vector_of t') (vector_of d')) en o)))
