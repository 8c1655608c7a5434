-- The first item that is met, item by item.
use Rattle.nef_smap.proofs.Prelude.{◌≡◌, ℕ, ◌+◌, pos, ◌-ℤ◌, ◌*ℤ◌, ◌≤ℤ◌, ◌<ℤ◌, arith, sym, ◌∙◌, ⊎_elim, length, [], ◌∷◌, subst, Option, Some, None, ints, ring, at, num, ◌⊕◌, ◌⊖◌, ◌⊗◌, fraction-le-trans, Vector, dot, IsAt, Map, Item, items, item_normal, is-at_one, rise, IsOver, IsFirst, IsFirstOf}
use Rattle.nef_smap.proofs.Rise.{rise-is, rise-level, rise_form-value}
use Rattle.nef_space.proofs.Lists.{is-at_within}
use Rattle.nef_space.proofs.Elementary.{less-or-last}

-- heights compare as fractions
height : (u n m d : Vector) → dot m (rise u n d) ≡ (pos 0 -ℤ dot n d) *ℤ dot m u -ℤ (pos 0 -ℤ dot m d) *ℤ dot n u
height u n m d = rise-is u n m d ∙ rise_form-value u n m d ∙ ring (dot n u ∷ dot m d ∷ dot m u ∷ dot n d ∷ []) (at 0 ⊗ at 1 ⊕ (num (pos 0) ⊖ at 2) ⊗ at 3) ((num (pos 0) ⊖ at 3) ⊗ at 2 ⊖ (num (pos 0) ⊖ at 1) ⊗ at 0) tt

rise-trans : (u d x b y : Vector) → pos 0 <ℤ dot x u → pos 0 <ℤ dot b u → pos 0 <ℤ dot y u → dot b (rise u x d) <ℤ pos 0 → pos 0 ≤ℤ dot b (rise u y d) → pos 0 ≤ℤ dot x (rise u y d)
rise-trans u d x b y hx hb hy p q =
    let e = height u x b d in
    let f = height u y b d in
    let g = height u y x d in
    let r = fraction-le-trans (pos 0 -ℤ dot x d) (dot x u) (pos 0 -ℤ dot b d) (dot b u) (pos 0 -ℤ dot y d) (dot y u) hx hb hy (omega (arith, ints)) (omega (arith, ints)) in
    omega (arith, ints)

module _ (M : Map) (u : Vector) (ahead : (k : ℕ) (x : Item) → IsAt (items M) k x → pos 0 <ℤ dot (item_normal x) u) (d : Vector) where
  pub all-first : (n : ℕ) → n ≡ length (items M) → (r : Option ℕ) → IsFirstOf M u d n r → IsFirst M u d r
  all-first n e None f = λ k x a o. f k x (let h = is-at_within (items M) k x a in omega arith) a o
  all-first n e (Some b) f = record { item = f.0; listed = f.1; over = f.2; first = λ l y a o. f.3 l y (let h = is-at_within (items M) l y a in omega arith) a o }

  module _ (n : ℕ) (x : Item) (a : IsAt (items M) n x) where
    -- the item isn't met
    pub pass-first : (IsOver M u x d → ⊥) → (r : Option ℕ) → IsFirstOf M u d n r → IsFirstOf M u d (n + 1) r
    pass-first off None f = λ k y h b o. ⊎_elim (λ l. f k y l b o) (λ e. off (subst (λ (z : Item). IsOver M u z d) (is-at_one (items M) n y x (subst (λ (j : ℕ). IsAt (items M) j y) e b) a) o)) (less-or-last k n h)
    pass-first off (Some m) f = (
      f.0,
      f.1,
      f.2,
      λ l y h b o. ⊎_elim (λ k. f.3 l y k b o)
          (λ e. absurd (off (subst (λ (z : Item). IsOver M u z d) (is-at_one (items M) n y x (subst (λ (j : ℕ). IsAt (items M) j y) e b) a) o))) (less-or-last l n h),
    )

    -- it is met, with a height of its own
    level : (l : ℕ) (y : Item) → IsAt (items M) l y → l ≡ n → pos 0 ≤ℤ dot (item_normal x) (rise u (item_normal y) d)
    level l y b e = subst (λ (z : Item). pos 0 ≤ℤ dot (item_normal x) (rise u (item_normal z) d)) (is-at_one (items M) n x y a (subst (λ (j : ℕ). IsAt (items M) j y) e b)) (let z = rise-level u (item_normal x) d in omega (arith, ints))

    pub only-first : IsOver M u x d → IsFirstOf M u d n None → IsFirstOf M u d (n + 1) (Some n)
    only-first o f = (x, a, o, λ l y h b p. ⊎_elim (λ k. absurd (f l y k b p)) (λ e. level l y b e) (less-or-last l n h))

    -- and lower than the first so far
    pub lower-first : (k : ℕ) (z : Item) → IsAt (items M) k z → dot (item_normal z) (rise u (item_normal x) d) <ℤ pos 0 → IsOver M u x d → IsFirstOf M u d n (Some k) → IsFirstOf M u d (n + 1) (Some n)
    lower-first k z c low o f =
        let e = is-at_one (items M) k f.0 z f.1 c in (
          x,
          a,
          o,
          λ l y h b p. ⊎_elim
              (λ q. rise-trans u d (item_normal x) (item_normal z) (item_normal y) (ahead n x a) (ahead k z c) (ahead l y b) low (subst (λ (w : Item). pos 0 ≤ℤ dot (item_normal w) (rise u (item_normal y) d)) e (f.3 l y q b p)))
              (λ q. level l y b q) (less-or-last l n h),
        )

    -- or not lower
    pub higher-first : (k : ℕ) (z : Item) → IsAt (items M) k z → pos 0 ≤ℤ dot (item_normal z) (rise u (item_normal x) d) → IsFirstOf M u d n (Some k) → IsFirstOf M u d (n + 1) (Some k)
    higher-first k z c high f =
        let e = is-at_one (items M) k f.0 z f.1 c in (
          f.0,
          f.1,
          f.2,
          λ l y h b p. ⊎_elim (λ q. f.3 l y q b p)
              (λ q. subst (λ (w : Item). pos 0 ≤ℤ dot (item_normal f.0) (rise u (item_normal w) d)) (is-at_one (items M) n x y a (subst (λ (j : ℕ). IsAt (items M) j y) q b))
              (subst (λ (w : Item). pos 0 ≤ℤ dot (item_normal w) (rise u (item_normal x) d)) (sym e) high)) (less-or-last l n h),
        )
