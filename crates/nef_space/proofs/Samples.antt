-- For finitely many linear forms, finitely many vectors show every list of signs that some vector has.
use Rattle.nef_space.proofs.Prelude.{◌≡◌, ℕ, zero, suc, ◌*◌, ◌<◌, ℤ, pos, negsuc, ◌+ℤ◌, ◌-ℤ◌, ◌*ℤ◌, neg_ℤ, ◌≤ℤ◌, ◌<ℤ◌, arith, refl, ap, sym, ◌∙◌, ◌⊎◌, inl, inr, ⊎_elim, List, [], ◌∷◌, ◌++◌, subst, length, ints, by_lt_z, mul-pos}
use lib.IntN.{*ℤ-zero, zero-*ℤ}
use Rattle.nef_space.proofs.Ring.{ring, at, num, ◌⊕◌, ◌⊖◌, ◌⊗◌}
pub use Rattle.nef_space.specs.Signs.{Lies}
pub use Rattle.nef_space.proofs.Lists.{each, pairs, lies-left, lies-right, lies-each, lies-pairs, lies-append}
pub use Rattle.nef_space.specs.Linear.{dot_list, IsPoint}
use Rattle.nef_space.proofs.Products.{neg-*ℤ}
use Rattle.nef_space.proofs.Order.{sign, sign_times, sign-plus, sign-minus, sign_of_product, mul_pos, mul_nonneg, mul_lt_right, by_order, sign-scaled, sign-turned}
use Rattle.nef_space.proofs.Fractions.{fraction-le-trans}

abbrev pub stretch : ℤ → List ℤ → List ℤ
stretch k [] = []
stretch k (x ∷ u) = (k *ℤ x) ∷ stretch k u

-- a f + b g
abbrev pub comb_lists : ℤ → List ℤ → ℤ → List ℤ → List ℤ
comb_lists a [] b g = stretch b g
comb_lists a (x ∷ f) b [] = stretch a (x ∷ f)
comb_lists a (x ∷ f) b (y ∷ g) = (a *ℤ x +ℤ b *ℤ y) ∷ comb_lists a f b g

pub dot-stretch_left : (k : ℤ) (f u : List ℤ) → dot_list (stretch k f) u ≡ k *ℤ dot_list f u
dot-stretch_left k [] u = sym (*ℤ-zero k)
dot-stretch_left k (a ∷ f) [] = sym (*ℤ-zero k)
dot-stretch_left k (a ∷ f) (x ∷ u) = ap (λ z. k *ℤ a *ℤ x +ℤ z) (dot-stretch_left k f u) ∙ ring (k ∷ a ∷ x ∷ dot_list f u ∷ []) (at 0 ⊗ at 1 ⊗ at 2 ⊕ at 0 ⊗ at 3) (at 0 ⊗ (at 1 ⊗ at 2 ⊕ at 3)) tt

pub dot-stretch_right : (k : ℤ) (f u : List ℤ) → dot_list f (stretch k u) ≡ k *ℤ dot_list f u
dot-stretch_right k [] u = sym (*ℤ-zero k)
dot-stretch_right k (a ∷ f) [] = sym (*ℤ-zero k)
dot-stretch_right k (a ∷ f) (x ∷ u) = ap (λ z. a *ℤ (k *ℤ x) +ℤ z) (dot-stretch_right k f u) ∙ ring (k ∷ a ∷ x ∷ dot_list f u ∷ []) (at 1 ⊗ (at 0 ⊗ at 2) ⊕ at 0 ⊗ at 3) (at 0 ⊗ (at 1 ⊗ at 2 ⊕ at 3)) tt

dot-nil : (k : List ℤ) → dot_list k [] ≡ pos 0
dot-nil [] = refl
dot-nil (a ∷ k) = refl

pub dot-comb : (a : ℤ) (f : List ℤ) (b : ℤ) (g u : List ℤ) → dot_list (comb_lists a f b g) u ≡ a *ℤ dot_list f u +ℤ b *ℤ dot_list g u
dot-comb a [] b g u = dot-stretch_left b g u ∙ ring (a ∷ b ∷ dot_list g u ∷ []) (at 1 ⊗ at 2) (at 0 ⊗ num (pos 0) ⊕ at 1 ⊗ at 2) tt
dot-comb a (x ∷ f) b [] u = dot-stretch_left a (x ∷ f) u ∙ ring (a ∷ b ∷ dot_list (x ∷ f) u ∷ []) (at 0 ⊗ at 2) (at 0 ⊗ at 2 ⊕ at 1 ⊗ num (pos 0)) tt
dot-comb a (x ∷ f) b (y ∷ g) [] = ring (a ∷ b ∷ []) (num (pos 0)) (at 0 ⊗ num (pos 0) ⊕ at 1 ⊗ num (pos 0)) tt
dot-comb a (x ∷ f) b (y ∷ g) (z ∷ u) = ap (λ r. (a *ℤ x +ℤ b *ℤ y) *ℤ z +ℤ r) (dot-comb a f b g u)
    ∙ ring (a ∷ b ∷ x ∷ y ∷ z ∷ dot_list f u ∷ dot_list g u ∷ []) ((at 0 ⊗ at 2 ⊕ at 1 ⊗ at 3) ⊗ at 4 ⊕ (at 0 ⊗ at 5 ⊕ at 1 ⊗ at 6)) (at 0 ⊗ (at 2 ⊗ at 4 ⊕ at 5) ⊕ at 1 ⊗ (at 3 ⊗ at 4 ⊕ at 6)) tt

-- ---- one variable: a place n/d for it, where the other variables give n
pub record Root : Type 0 where
  pub over : ℕ
  pub form : List ℤ

-- a root of a form c z + f in z, none where c is 0
abbrev pub head : List ℤ → ℤ
head [] = pos 0
head (c ∷ f) = c

abbrev pub tail : List ℤ → List ℤ
tail [] = []
tail (c ∷ f) = f

abbrev root_of : ℤ → List ℤ → List Root
root_of (pos zero) f = []
root_of (pos (suc c)) f = record { over = suc c; form = stretch (negsuc 0) f } ∷ []
root_of (negsuc c) f = record { over = suc c; form = f } ∷ []

abbrev pub roots : List (List ℤ) → List Root
roots [] = []
roots (k ∷ ks) = root_of (head k) (tail k) ++ roots ks

abbrev pub root_value : Root → List ℤ → ℤ
root_value s u = dot_list s.form u

-- in plain numbers: the root n/d lies below z, and is at most n1/d1; then n1/d1 + 1 lies above it
above-one : (d n d1 n1 w : ℤ) → pos 0 <ℤ d → pos 0 <ℤ d1 → pos 0 <ℤ w → (n *ℤ d1) ≤ℤ (n1 *ℤ d) → pos 0 <ℤ (d *ℤ (n1 +ℤ d1 *ℤ w) -ℤ d1 *ℤ n)
above-one d n d1 n1 w h k g l =
    let p = mul_pos (d *ℤ d1) w (mul_pos d d1 h k) g in
    let i = ring (d ∷ n ∷ d1 ∷ n1 ∷ w ∷ []) (at 0 ⊗ (at 3 ⊕ at 2 ⊗ at 4) ⊖ at 2 ⊗ at 1) (at 3 ⊗ at 0 ⊖ at 1 ⊗ at 2 ⊕ at 0 ⊗ at 2 ⊗ at 4) tt in
    omega (arith, ints)

below-one : (d n d1 n1 w : ℤ) → pos 0 <ℤ d → pos 0 <ℤ d1 → pos 0 <ℤ w → (n1 *ℤ d) ≤ℤ (n *ℤ d1) → (d *ℤ (n1 -ℤ d1 *ℤ w) -ℤ d1 *ℤ n) <ℤ pos 0
below-one d n d1 n1 w h k g l =
    let p = mul_pos (d *ℤ d1) w (mul_pos d d1 h k) g in
    let i = ring (d ∷ n ∷ d1 ∷ n1 ∷ w ∷ []) (at 0 ⊗ (at 3 ⊖ at 2 ⊗ at 4) ⊖ at 2 ⊗ at 1) (at 3 ⊗ at 0 ⊖ at 1 ⊗ at 2 ⊖ at 0 ⊗ at 2 ⊗ at 4) tt in
    omega (arith, ints)

-- n/d <= n1/d1 < z < n2/d2
above-middle : (d n d1 n1 d2 n2 z : ℤ) → pos 0 <ℤ d → pos 0 <ℤ d1 → pos 0 <ℤ d2 → (n *ℤ d1) ≤ℤ (n1 *ℤ d) → n <ℤ (d *ℤ z) → (d2 *ℤ z) <ℤ n2
    → pos 0 <ℤ (d *ℤ (n1 *ℤ d2 +ℤ n2 *ℤ d1) -ℤ pos 2 *ℤ d1 *ℤ d2 *ℤ n)
above-middle d n d1 n1 d2 n2 z h h1 h2 l b a =
    let xs = d ∷ n ∷ d1 ∷ n1 ∷ d2 ∷ n2 ∷ z ∷ [] in
    let p = mul_nonneg d2 (n1 *ℤ d -ℤ n *ℤ d1) (omega (arith, ints)) (omega (arith, ints)) in
    let q = mul_lt_right n (d *ℤ z) d2 h2 b in
    let r = mul_lt_right (d2 *ℤ z) n2 d h a in
    let e = ring xs (at 0 ⊗ at 6 ⊗ at 4) (at 4 ⊗ at 6 ⊗ at 0) tt in
    let s : pos 0 <ℤ (n2 *ℤ d -ℤ n *ℤ d2) = omega (arith, ints) in
    let t = mul_pos d1 (n2 *ℤ d -ℤ n *ℤ d2) h1 s in
    let i = ring xs (at 0 ⊗ (at 3 ⊗ at 4 ⊕ at 5 ⊗ at 2) ⊖ num (pos 2) ⊗ at 2 ⊗ at 4 ⊗ at 1) (at 4 ⊗ (at 3 ⊗ at 0 ⊖ at 1 ⊗ at 2) ⊕ at 2 ⊗ (at 5 ⊗ at 0 ⊖ at 1 ⊗ at 4)) tt in
    omega (arith, ints)

below-middle : (d n d1 n1 d2 n2 z : ℤ) → pos 0 <ℤ d → pos 0 <ℤ d1 → pos 0 <ℤ d2 → (n2 *ℤ d) ≤ℤ (n *ℤ d2) → (d *ℤ z) <ℤ n → n1 <ℤ (d1 *ℤ z)
    → (d *ℤ (n1 *ℤ d2 +ℤ n2 *ℤ d1) -ℤ pos 2 *ℤ d1 *ℤ d2 *ℤ n) <ℤ pos 0
below-middle d n d1 n1 d2 n2 z h h1 h2 l a b =
    let xs = d ∷ n ∷ d1 ∷ n1 ∷ d2 ∷ n2 ∷ z ∷ [] in
    let p = mul_nonneg d1 (n *ℤ d2 -ℤ n2 *ℤ d) (omega (arith, ints)) (omega (arith, ints)) in
    let q = mul_lt_right (d *ℤ z) n d1 h1 a in
    let r = mul_lt_right n1 (d1 *ℤ z) d h b in
    let e = ring xs (at 0 ⊗ at 6 ⊗ at 2) (at 2 ⊗ at 6 ⊗ at 0) tt in
    let s : pos 0 <ℤ (n *ℤ d1 -ℤ n1 *ℤ d) = omega (arith, ints) in
    let t = mul_pos d2 (n *ℤ d1 -ℤ n1 *ℤ d) h2 s in
    let i = ring xs (at 0 ⊗ (at 3 ⊗ at 4 ⊕ at 5 ⊗ at 2) ⊖ num (pos 2) ⊗ at 2 ⊗ at 4 ⊗ at 1) (num (pos 0) ⊖ at 2 ⊗ (at 1 ⊗ at 4 ⊖ at 5 ⊗ at 0) ⊖ at 4 ⊗ (at 1 ⊗ at 2 ⊖ at 3 ⊗ at 0)) tt in
    omega (arith, ints)

abbrev Proper : List Root → Type 0
Proper ss = (s : Root) → Lies ss s → 0 < s.over

module _ (u : List ℤ) (z : ℤ) where
  abbrev IsBelow : Root → Type 0
  IsBelow s = root_value s u <ℤ (pos s.over *ℤ z)

  abbrev IsAbove : Root → Type 0
  IsAbove s = (pos s.over *ℤ z) <ℤ root_value s u

  abbrev IsAt : Root → Type 0
  IsAt s = root_value s u ≡ pos s.over *ℤ z

  -- s is at most t
  abbrev AtMost : Root → Root → Type 0
  AtMost s t = (root_value s u *ℤ pos t.over) ≤ℤ (root_value t u *ℤ pos s.over)

  abbrev Apart : List Root → Type 0
  Apart ss = (s : Root) → Lies ss s → IsBelow s ⊎ IsAbove s

  find-at : (ss : List Root) → ((s : Root) × Lies ss s × IsAt s) ⊎ Apart ss
  find-at [] = inr (λ s l. absurd l)
  find-at (t ∷ ts) = by (find-at ts)
    where
      by : ((s : Root) × Lies ts s × IsAt s) ⊎ Apart ts → ((s : Root) × Lies (t ∷ ts) s × IsAt s) ⊎ Apart (t ∷ ts)
      by (inl (s, l, e)) = inl (s, inr l, e)
      by (inr f) = by_order (root_value t u) (pos t.over *ℤ z)
          (λ h. inr (λ s l. ⊎_elim (λ e. inl (subst IsBelow e h)) (f s) l))
          (λ h. inl (t, inl refl, h))
          (λ h. inr (λ s l. ⊎_elim (λ e. inr (subst IsAbove e h)) (f s) l))

  abbrev Greatest : List Root → Type 0
  Greatest ss = ((s : Root) → Lies ss s → IsBelow s → ⊥) ⊎ ((lo : Root) × Lies ss lo × IsBelow lo × ((s : Root) → Lies ss s → IsBelow s → AtMost s lo))

  greatest : (ss : List Root) → Proper ss → Greatest ss
  greatest [] p = inl (λ s l b. l)
  greatest (t ∷ ts) p = by_lt_z (root_value t u) (pos t.over *ℤ z) (λ b. below b (greatest ts (λ s l. p s (inr l)))) (λ n. not_below n (greatest ts (λ s l. p s (inr l))))
    where
      not_below : (pos t.over *ℤ z) ≤ℤ root_value t u → Greatest ts → Greatest (t ∷ ts)
      not_below n (inl f) = inl (λ s l b. ⊎_elim (λ (e : t ≡ s). let c = subst IsBelow (sym e) b in absurd (omega (arith, ints))) (λ m. f s m b) l)
      not_below n (inr (lo, l, b, g)) = inr (lo, inr l, b, λ s m c. ⊎_elim (λ (e : t ≡ s). let d = subst IsBelow (sym e) c in absurd (omega (arith, ints))) (λ m. g s m c) m)

      below : IsBelow t → Greatest ts → Greatest (t ∷ ts)
      below b (inl f) = inr (t, inl refl, b, λ s m c. ⊎_elim (λ (e : t ≡ s). subst (λ (x : Root). AtMost x t) e (omega (arith, ints))) (λ m. absurd (f s m c)) m)
      below b (inr (lo, l, bl, g)) = by_lt_z (root_value lo u *ℤ pos t.over) (root_value t u *ℤ pos lo.over)
          (λ k. inr (
            t,
            inl refl,
            b,
            λ s m c. ⊎_elim (λ (e : t ≡ s). subst (λ (x : Root). AtMost x t) e (omega (arith, ints)))
                (λ m. fraction-le-trans (root_value s u) (pos s.over) (root_value lo u) (pos lo.over) (root_value t u) (pos t.over)
                (let q = p s (inr m) in omega (arith, ints)) (let q = p lo (inr l) in omega (arith, ints)) (let q = p t (inl refl) in omega (arith, ints)) (g s m c) (omega (arith, ints))) m,
          ))
          (λ k. inr (lo, inr l, bl, λ s m c. ⊎_elim (λ (e : t ≡ s). subst (λ (x : Root). AtMost x lo) e k) (λ m. g s m c) m))

  abbrev Least : List Root → Type 0
  Least ss = ((s : Root) → Lies ss s → IsAbove s → ⊥) ⊎ ((hi : Root) × Lies ss hi × IsAbove hi × ((s : Root) → Lies ss s → IsAbove s → AtMost hi s))

  least : (ss : List Root) → Proper ss → Least ss
  least [] p = inl (λ s l b. l)
  least (t ∷ ts) p = by_lt_z (pos t.over *ℤ z) (root_value t u) (λ b. above b (least ts (λ s l. p s (inr l)))) (λ n. not_above n (least ts (λ s l. p s (inr l))))
    where
      not_above : root_value t u ≤ℤ (pos t.over *ℤ z) → Least ts → Least (t ∷ ts)
      not_above n (inl f) = inl (λ s l b. ⊎_elim (λ (e : t ≡ s). let c = subst IsAbove (sym e) b in absurd (omega (arith, ints))) (λ m. f s m b) l)
      not_above n (inr (hi, l, b, g)) = inr (hi, inr l, b, λ s m c. ⊎_elim (λ (e : t ≡ s). let d = subst IsAbove (sym e) c in absurd (omega (arith, ints))) (λ m. g s m c) m)

      above : IsAbove t → Least ts → Least (t ∷ ts)
      above b (inl f) = inr (t, inl refl, b, λ s m c. ⊎_elim (λ (e : t ≡ s). subst (λ (x : Root). AtMost t x) e (omega (arith, ints))) (λ m. absurd (f s m c)) m)
      above b (inr (hi, l, bl, g)) = by_lt_z (root_value t u *ℤ pos hi.over) (root_value hi u *ℤ pos t.over)
          (λ k. inr (
            t,
            inl refl,
            b,
            λ s m c. ⊎_elim (λ (e : t ≡ s). subst (λ (x : Root). AtMost t x) e (omega (arith, ints)))
                (λ m. fraction-le-trans (root_value t u) (pos t.over) (root_value hi u) (pos hi.over) (root_value s u) (pos s.over)
                (let q = p t (inl refl) in omega (arith, ints)) (let q = p hi (inr l) in omega (arith, ints)) (let q = p s (inr m) in omega (arith, ints)) (omega (arith, ints)) (g s m c)) m,
          ))
          (λ k. inr (hi, inr l, bl, λ s m c. ⊎_elim (λ (e : t ≡ s). subst (λ (x : Root). AtMost hi x) e k) (λ m. g s m c) m))

-- ---- candidates for the one variable
abbrev pub unit : ℕ → List ℤ
unit zero = pos 1 ∷ []
unit (suc n) = pos 0 ∷ unit n

unit-value : (n : ℕ) (u : List ℤ) → IsPoint n u → pos 0 <ℤ dot_list (unit n) u
unit-value n [] h = absurd h
unit-value zero (w ∷ []) h = omega (arith, ints)
unit-value zero (w ∷ x ∷ u) h = absurd h
unit-value (suc n) (x ∷ u) h = let k = unit-value n u h in let e = zero-*ℤ x in omega (arith, ints)

stretch-point : (n : ℕ) (k : ℤ) (u : List ℤ) → pos 0 <ℤ k → IsPoint n u → IsPoint n (stretch k u)
stretch-point n k [] p h = h
stretch-point zero k (w ∷ []) p h = mul_pos k w p h
stretch-point zero k (w ∷ x ∷ u) p h = h
stretch-point (suc n) k (x ∷ u) p h = stretch-point n k u p h

abbrev pub more : ℕ → Root → Root
more n s = record { over = s.over; form = comb_lists (pos 1) s.form (pos s.over) (unit n) }

abbrev pub fewer : ℕ → Root → Root
fewer n s = record { over = s.over; form = comb_lists (pos 1) s.form (neg_ℤ (pos s.over)) (unit n) }

abbrev pub middle : Root → Root → Root
middle s t = record { over = 2 * s.over * t.over; form = comb_lists (pos t.over) s.form (pos s.over) t.form }

abbrev pub candidates : ℕ → List Root → List Root
candidates n ss = record { over = 1; form = [] } ∷ (ss ++ (each (more n) ss ++ (each (fewer n) ss ++ pairs middle ss ss)))

-- m is on the same side of all spots as z
pub record SameSide (n : ℕ) (ss : List Root) (u : List ℤ) (z : ℤ) : Type 0 where
  pub spot : Root
  pub listed : Lies (candidates n ss) spot
  pub some : 0 < spot.over
  pub same : (s : Root) → Lies ss s → sign (pos s.over *ℤ z -ℤ root_value s u) ≡ sign (pos s.over *ℤ root_value spot u -ℤ pos spot.over *ℤ root_value s u)

pub same_side : (n : ℕ) (ss : List Root) (u : List ℤ) (z : ℤ) → Proper ss → IsPoint n u → SameSide n ss u z
same_side n ss u z p h = ⊎_elim
    (λ f. let s = f.0 in record { spot = s; listed = inr (lies-left ss (each (more n) ss ++ (each (fewer n) ss ++ pairs middle ss ss)) s f.1); some = p s f.1; same = λ t l. exact s t (p s f.1) f.2 })
    (λ apart. by apart (greatest u z ss p) (least u z ss p)) (find-at u z ss)
  where
    exact : (s t : Root) → 0 < s.over → root_value s u ≡ pos s.over *ℤ z → sign (pos t.over *ℤ z -ℤ root_value t u) ≡ sign (pos t.over *ℤ root_value s u -ℤ pos s.over *ℤ root_value t u)
    exact s t q e =
        let x = pos t.over *ℤ z -ℤ root_value t u in
        let i = ap (λ r. pos t.over *ℤ r -ℤ pos s.over *ℤ root_value t u) e ∙ ring (pos t.over ∷ pos s.over ∷ z ∷ root_value t u ∷ []) (at 0 ⊗ (at 1 ⊗ at 2) ⊖ at 1 ⊗ at 3) (at 1 ⊗ (at 0 ⊗ at 2 ⊖ at 3)) tt in
        sym (ap sign i ∙ sign_of_product (pos s.over) x ∙ ap (λ r. sign_times r (sign x)) (sign-plus (pos s.over) (omega (arith, ints))))

    wp : pos 0 <ℤ dot_list (unit n) u
    wp = unit-value n u h

    both-plus : (a c : ℤ) → pos 0 <ℤ a → pos 0 <ℤ c → sign a ≡ sign c
    both-plus a c f g = sign-plus a f ∙ sym (sign-plus c g)

    both-minus : (a c : ℤ) → a <ℤ pos 0 → c <ℤ pos 0 → sign a ≡ sign c
    both-minus a c f g = sign-minus a f ∙ sym (sign-minus c g)

    by : Apart u z ss → Greatest u z ss → Least u z ss → SameSide n ss u z
    by apart (inl f) (inl g) = record { spot = record { over = 1; form = [] }; listed = inl refl; some = omega arith; same = λ s l. absurd (⊎_elim (λ b. f s l b) (λ b. g s l b) (apart s l)) }
    by apart (inr (lo, l, b, f)) (inl g) = record {
      spot = more n lo;
      listed = inr (lies-right ss (each (more n) ss ++ (each (fewer n) ss ++ pairs middle ss ss)) (more n lo) (lies-left (each (more n) ss) (each (fewer n) ss ++ pairs middle ss ss) (more n lo) (lies-each (more n) ss lo l)));
      some = p lo l;
      same = λ s m. ⊎_elim
          (λ d. let a = above-one (pos s.over) (root_value s u) (pos lo.over) (root_value lo u) (dot_list (unit n) u) (let q = p s m in omega (arith, ints)) (let q = p lo l in omega (arith, ints)) wp (f s m d) in
          let e = dot-comb (pos 1) lo.form (pos lo.over) (unit n) u ∙ ring (root_value lo u ∷ pos lo.over ∷ dot_list (unit n) u ∷ []) (num (pos 1) ⊗ at 0 ⊕ at 1 ⊗ at 2) (at 0 ⊕ at 1 ⊗ at 2) tt in
          both-plus (pos s.over *ℤ z -ℤ root_value s u) (pos s.over *ℤ root_value (more n lo) u -ℤ pos lo.over *ℤ root_value s u) (omega (arith, ints))
          (subst (λ (r : ℤ). pos 0 <ℤ (pos s.over *ℤ r -ℤ pos lo.over *ℤ root_value s u)) (sym e) a))
          (λ d. absurd (g s m d)) (apart s m);
    }
    by apart (inl f) (inr (hi, l, b, g)) = record {
      spot = fewer n hi;
      listed = inr (lies-right ss (each (more n) ss ++ (each (fewer n) ss ++ pairs middle ss ss)) (fewer n hi) (lies-right (each (more n) ss) (each (fewer n) ss ++ pairs middle ss ss) (fewer n hi) (lies-left (each (fewer n) ss) (pairs middle ss ss) (fewer n hi) (lies-each (fewer n) ss hi l))));
      some = p hi l;
      same = λ s m. ⊎_elim
          (λ d. absurd (f s m d))
          (λ d. let a = below-one (pos s.over) (root_value s u) (pos hi.over) (root_value hi u) (dot_list (unit n) u) (let q = p s m in omega (arith, ints)) (let q = p hi l in omega (arith, ints)) wp (g s m d) in
          let e = dot-comb (pos 1) hi.form (neg_ℤ (pos hi.over)) (unit n) u ∙ negated (root_value hi u) (pos hi.over) (dot_list (unit n) u) in
          both-minus (pos s.over *ℤ z -ℤ root_value s u) (pos s.over *ℤ root_value (fewer n hi) u -ℤ pos hi.over *ℤ root_value s u) (omega (arith, ints))
          (subst (λ (r : ℤ). (pos s.over *ℤ r -ℤ pos hi.over *ℤ root_value s u) <ℤ pos 0) (sym e) a))
          (apart s m);
    }
      where
        negated : (x y v : ℤ) → pos 1 *ℤ x +ℤ neg_ℤ y *ℤ v ≡ x -ℤ y *ℤ v
        negated x y v = let e = neg-*ℤ y v in omega (arith, ints)
    by apart (inr (lo, l, b, f)) (inr (hi, k, c, g)) = record {
      spot = middle lo hi;
      listed = inr (lies-right ss (each (more n) ss ++ (each (fewer n) ss ++ pairs middle ss ss)) (middle lo hi) (lies-right (each (more n) ss) (each (fewer n) ss ++ pairs middle ss ss) (middle lo hi) (lies-right (each (fewer n) ss) (pairs middle ss ss) (middle lo hi) (lies-pairs middle ss ss lo hi l k))));
      some = mul-pos {m = 2 * lo.over} {n = hi.over} (let q = p lo l in omega arith) (p hi k);
      same = λ s m.
          let e = dot-comb (pos hi.over) lo.form (pos lo.over) hi.form u ∙ ring (pos hi.over ∷ root_value lo u ∷ pos lo.over ∷ root_value hi u ∷ []) (at 0 ⊗ at 1 ⊕ at 2 ⊗ at 3) (at 1 ⊗ at 0 ⊕ at 3 ⊗ at 2) tt in
          ⊎_elim
          (λ d. let a = above-middle (pos s.over) (root_value s u) (pos lo.over) (root_value lo u) (pos hi.over) (root_value hi u) z (let q = p s m in omega (arith, ints)) (let q = p lo l in omega (arith, ints)) (let q = p hi k in omega (arith, ints)) (f s m d) d c in
          both-plus (pos s.over *ℤ z -ℤ root_value s u) (pos s.over *ℤ root_value (middle lo hi) u -ℤ pos (2 * lo.over * hi.over) *ℤ root_value s u) (omega (arith, ints))
          (subst (λ (r : ℤ). pos 0 <ℤ (pos s.over *ℤ r -ℤ pos (2 * lo.over * hi.over) *ℤ root_value s u)) (sym e) a))
          (λ d. let a = below-middle (pos s.over) (root_value s u) (pos lo.over) (root_value lo u) (pos hi.over) (root_value hi u) z (let q = p s m in omega (arith, ints)) (let q = p lo l in omega (arith, ints)) (let q = p hi k in omega (arith, ints)) (g s m d) d b in
          both-minus (pos s.over *ℤ z -ℤ root_value s u) (pos s.over *ℤ root_value (middle lo hi) u -ℤ pos (2 * lo.over * hi.over) *ℤ root_value s u) (omega (arith, ints))
          (subst (λ (r : ℤ). (pos s.over *ℤ r -ℤ pos (2 * lo.over * hi.over) *ℤ root_value s u) <ℤ pos 0) (sym e) a))
          (apart s m);
    }

-- ---- a form at z and at the spot
-- c z + f u and c n + d (f u), with n the value of the spot m and d what it is over
head-sign : (c : ℤ) (f u : List ℤ) (z : ℤ) (m : Root) → 0 < m.over
    → ((s : Root) → Lies (root_of c f) s → sign (pos s.over *ℤ z -ℤ root_value s u) ≡ sign (pos s.over *ℤ root_value m u -ℤ pos m.over *ℤ root_value s u))
    → sign (c *ℤ z +ℤ dot_list f u) ≡ sign (c *ℤ root_value m u +ℤ pos m.over *ℤ dot_list f u)
head-sign (pos zero) f u z m p same =
    let e = ring (z ∷ dot_list f u ∷ []) (num (pos 0) ⊗ at 0 ⊕ at 1) (at 1) tt in
    let g = ring (root_value m u ∷ dot_list f u ∷ pos m.over ∷ []) (num (pos 0) ⊗ at 0 ⊕ at 2 ⊗ at 1) (at 2 ⊗ at 1) tt in
    ap sign e ∙ sym (ap sign g ∙ sign-scaled (pos m.over) (dot_list f u) (omega (arith, ints)))
head-sign (pos (suc c)) f u z m p same =
    let h = same (record { over = suc c; form = stretch (negsuc 0) f }) (inl refl) in
    let e = dot-stretch_left (negsuc 0) f u in
    let i = ap (λ r. pos (suc c) *ℤ z -ℤ r) e ∙ ring (pos (suc c) ∷ z ∷ dot_list f u ∷ []) (at 0 ⊗ at 1 ⊖ num (negsuc 0) ⊗ at 2) (at 0 ⊗ at 1 ⊕ at 2) tt in
    let j = ap (λ r. pos (suc c) *ℤ root_value m u -ℤ pos m.over *ℤ r) e ∙ ring (pos (suc c) ∷ root_value m u ∷ dot_list f u ∷ pos m.over ∷ []) (at 0 ⊗ at 1 ⊖ at 3 ⊗ (num (negsuc 0) ⊗ at 2)) (at 0 ⊗ at 1 ⊕ at 3 ⊗ at 2) tt in
    ap sign (sym i) ∙ h ∙ ap sign j
head-sign (negsuc c) f u z m p same =
    let h = sign-turned (pos (suc c) *ℤ z -ℤ dot_list f u) (pos (suc c) *ℤ root_value m u -ℤ pos m.over *ℤ dot_list f u) (same (record { over = suc c; form = f }) (inl refl)) in
    let n : negsuc c ≡ pos 0 -ℤ pos (suc c) = omega (arith, ints) in
    let i = ap (λ r. r *ℤ z +ℤ dot_list f u) n ∙ ring (pos (suc c) ∷ z ∷ dot_list f u ∷ []) ((num (pos 0) ⊖ at 0) ⊗ at 1 ⊕ at 2) (num (negsuc 0) ⊗ (at 0 ⊗ at 1 ⊖ at 2)) tt in
    let j = ap (λ r. r *ℤ root_value m u +ℤ pos m.over *ℤ dot_list f u) n ∙ ring (pos (suc c) ∷ root_value m u ∷ dot_list f u ∷ pos m.over ∷ []) ((num (pos 0) ⊖ at 0) ⊗ at 1 ⊕ at 3 ⊗ at 2) (num (negsuc 0) ⊗ (at 0 ⊗ at 1 ⊖ at 3 ⊗ at 2)) tt in
    ap sign i ∙ h ∙ sym (ap sign j)

dot-split : (k : List ℤ) (z : ℤ) (u : List ℤ) → dot_list k (z ∷ u) ≡ head k *ℤ z +ℤ dot_list (tail k) u
dot-split [] z u = ring (z ∷ []) (num (pos 0)) (num (pos 0) ⊗ at 0 ⊕ num (pos 0)) tt
dot-split (c ∷ f) z u = refl

lies-roots : (ks : List (List ℤ)) (k : List ℤ) (s : Root) → Lies ks k → Lies (root_of (head k) (tail k)) s → Lies (roots ks) s
lies-roots [] k s l m = absurd l
lies-roots (j ∷ ks) k s (inl e) m = lies-left (root_of (head j) (tail j)) (roots ks) s (subst (λ (x : List ℤ). Lies (root_of (head x) (tail x)) s) (sym e) m)
lies-roots (j ∷ ks) k s (inr l) m = lies-right (root_of (head j) (tail j)) (roots ks) s (lies-roots ks k s l m)

root-proper : (c : ℤ) (f : List ℤ) → Proper (root_of c f)
root-proper (pos zero) f s l = absurd l
root-proper (pos (suc c)) f s (inl e) = subst (λ (x : Root). 0 < x.over) e (omega arith)
root-proper (pos (suc c)) f s (inr l) = absurd l
root-proper (negsuc c) f s (inl e) = subst (λ (x : Root). 0 < x.over) e (omega arith)
root-proper (negsuc c) f s (inr l) = absurd l

roots-proper : (ks : List (List ℤ)) → Proper (roots ks)
roots-proper [] s l = absurd l
roots-proper (k ∷ ks) s l = ⊎_elim (root-proper (head k) (tail k) s) (roots-proper ks s) (lies-append (root_of (head k) (tail k)) (roots ks) s l)

-- ---- all variables
-- the form k where the first variable stands at the spot m
abbrev pub placed : Root → List ℤ → List ℤ
placed m k = comb_lists (head k) m.form (pos m.over) (tail k)

abbrev pub raised : Root → List ℤ → List ℤ
raised m u = root_value m u ∷ stretch (pos m.over) u

abbrev pub samples : ℕ → List (List ℤ) → List (List ℤ)
samples zero ks = (pos 1 ∷ []) ∷ []
samples (suc n) ks = let ms = candidates n (roots ks) in pairs raised ms (samples n (pairs placed ms ks))

placed-value : (m : Root) (k u : List ℤ) → dot_list (placed m k) u ≡ dot_list k (raised m u)
placed-value m k u = dot-comb (head k) m.form (pos m.over) (tail k) u ∙ ap (λ r. head k *ℤ dot_list m.form u +ℤ r) (sym (dot-stretch_right (pos m.over) (tail k) u)) ∙ sym (dot-split k (root_value m u) (stretch (pos m.over) u))

pub record Sample (n : ℕ) (ks : List (List ℤ)) (v : List ℤ) : Type 0 where
  pub vector : List ℤ
  pub listed : Lies (samples n ks) vector
  pub point : IsPoint n vector
  pub same : (k : List ℤ) → Lies ks k → sign (dot_list k v) ≡ sign (dot_list k vector)

-- EVERY VECTOR HAS A SAMPLE WITH ITS SIGNS
pub sample_of : (n : ℕ) (ks : List (List ℤ)) (v : List ℤ) → IsPoint n v → Sample n ks v
sample_of zero ks [] h = absurd h
sample_of zero ks (w ∷ []) h = record { vector = pos 1 ∷ []; listed = inl refl; point = omega (arith, ints); same = λ k l. one k }
  where
    one : (k : List ℤ) → sign (dot_list k (w ∷ [])) ≡ sign (dot_list k (pos 1 ∷ []))
    one [] = refl
    one (c ∷ f) =
        let e = ap (λ r. c *ℤ w +ℤ r) (dot-nil f) ∙ ring (c ∷ w ∷ []) (at 0 ⊗ at 1 ⊕ num (pos 0)) (at 1 ⊗ at 0) tt in
        let g = ap (λ r. c *ℤ pos 1 +ℤ r) (dot-nil f) ∙ ring (c ∷ []) (at 0 ⊗ num (pos 1) ⊕ num (pos 0)) (at 0) tt in
        ap sign e ∙ sign-scaled w c h ∙ sym (ap sign g)
sample_of zero ks (w ∷ x ∷ u) h = absurd h
sample_of (suc n) ks [] h = absurd h
sample_of (suc n) ks (z ∷ u) h =
    let ss = roots ks in
    let ms = candidates n ss in
    let m = same_side n ss u z (roots-proper ks) h in
    let r = sample_of n (pairs placed ms ks) u h in
    record {
      vector = raised m.spot r.vector;
      listed = lies-pairs raised ms (samples n (pairs placed ms ks)) m.spot r.vector m.listed r.listed;
      point = stretch-point n (pos m.spot.over) r.vector (let q = m.some in omega (arith, ints)) r.point;
      same = λ k l.
          let a = head-sign (head k) (tail k) u z m.spot m.some (λ s i. m.same s (lies-roots ks k s l i)) in
          let b = r.same (placed m.spot k) (lies-pairs placed ms ks m.spot k m.listed l) in
          ap sign (dot-split k z u) ∙ a ∙ ap sign (sym (dot-comb (head k) m.spot.form (pos m.spot.over) (tail k) u)) ∙ b ∙ ap sign (placed-value m.spot k r.vector);
    }

-- ---- vectors of n numbers, whatever their last: with a further number 1, at forms that pass over it
abbrev pub cut : ℕ → List ℤ → List ℤ
cut zero u = []
cut (suc n) [] = []
cut (suc n) (x ∷ u) = x ∷ cut n u

dot-cut : (n : ℕ) (k u : List ℤ) → dot_list (cut n k) u ≡ dot_list k (cut n u)
dot-cut zero k u = sym (dot-nil k)
dot-cut (suc n) [] u = refl
dot-cut (suc n) (a ∷ k) [] = refl
dot-cut (suc n) (a ∷ k) (x ∷ u) = ap (λ r. a *ℤ x +ℤ r) (dot-cut n k u)

cut-longer : (v : List ℤ) → cut (length v) (v ++ pos 1 ∷ []) ≡ v
cut-longer [] = refl
cut-longer (x ∷ v) = ap (λ r. x ∷ r) (cut-longer v)

longer-point : (v : List ℤ) → IsPoint (length v) (v ++ pos 1 ∷ [])
longer-point [] = omega (arith, ints)
longer-point (x ∷ v) = longer-point v

length-cut : (n : ℕ) (u : List ℤ) → IsPoint n u → length (cut n u) ≡ n
length-cut n [] h = absurd h
length-cut zero (w ∷ u) h = refl
length-cut (suc n) (x ∷ u) h = ap suc (length-cut n u h)

pub vectors : ℕ → List (List ℤ) → List (List ℤ)
vectors n ks = each (cut n) (samples n (each (cut n) ks))

pub record VectorSample (n : ℕ) (ks : List (List ℤ)) (v : List ℤ) : Type 0 where
  pub vector : List ℤ
  pub listed : Lies (vectors n ks) vector
  pub long : length vector ≡ n
  pub same : (k : List ℤ) → Lies ks k → sign (dot_list k v) ≡ sign (dot_list k vector)

pub vector_sample : (n : ℕ) (ks : List (List ℤ)) (v : List ℤ) → length v ≡ n → VectorSample n ks v
unfolding vectors
vector_sample n ks v e =
    let l = v ++ pos 1 ∷ [] in
    let s = sample_of n (each (cut n) ks) l (subst (λ (m : ℕ). IsPoint m l) e (longer-point v)) in
    let c : cut n l ≡ v = subst (λ (m : ℕ). cut m l ≡ v) e (cut-longer v) in
    record {
      vector = cut n s.vector;
      listed = lies-each (cut n) (samples n (each (cut n) ks)) s.vector s.listed;
      long = length-cut n s.vector s.point;
      same = λ k m. ap (λ (u : List ℤ). sign (dot_list k u)) (sym c) ∙ ap sign (sym (dot-cut n k l)) ∙ s.same (cut n k) (lies-each (cut n) ks k m) ∙ ap sign (dot-cut n k s.vector);
    }
