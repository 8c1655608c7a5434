-- Whether the way up from a direction passes an arc, by on which sides of its meridian the ends of the arc lie.
use Rattle.nef_smap.proofs.Prelude.{◌≡◌, pos, ◌-ℤ◌, ◌*ℤ◌, ◌<ℤ◌, arith, ap, sym, inl, inr, ⊎_elim, [], ◌∷◌, subst, ints, at, num, ◌⊕◌, ◌⊖◌, ◌⊗◌, follows, given, none, Sign, minus, plus, sign, sign-plus, sign-minus, plus-is, minus-is, by_order, mul_pos, mul_neg, Vector, IsDirection, cross, triple, dot, SameDirection, IsOpposite, Decided, IsStrictlyOn, product-off, Beside, same_way, other_way, beside, triple-turned, rise, ArcPasses, dot-zero, self-pos, cross-turned, parallel-in_plane}
use Rattle.nef_smap.proofs.Rise.{rise-level}

-- the turn from s to the meet of the planes
source-turn : (n s d u : Vector) → dot n s ≡ pos 0 → triple n s (rise u n d) ≡ dot n n *ℤ dot (cross u s) d
source-turn n s d u p =
    let nx = at 0 in let ny = at 1 in let nz = at 2 in
    let sx = at 3 in let sy = at 4 in let sz = at 5 in
    let dx = at 6 in let dy = at 7 in let dz = at 8 in
    let ux = at 9 in let uy = at 10 in let uz = at 11 in
    let o = num (pos 0) in
    let nu = nx ⊗ ux ⊕ ny ⊗ uy ⊕ nz ⊗ uz in
    let nd = nx ⊗ dx ⊕ ny ⊗ dy ⊕ nz ⊗ dz in
    let rx = nu ⊗ dx ⊕ (o ⊖ nd) ⊗ ux in
    let ry = nu ⊗ dy ⊕ (o ⊖ nd) ⊗ uy in
    let rz = nu ⊗ dz ⊕ (o ⊖ nd) ⊗ uz in
    -- the meet is n x (d x u)
    follows (n.x ∷ n.y ∷ n.z ∷ s.x ∷ s.y ∷ s.z ∷ d.x ∷ d.y ∷ d.z ∷ u.x ∷ u.y ∷ u.z ∷ [])
    (nx ⊗ (sy ⊗ rz ⊖ sz ⊗ ry) ⊕ ny ⊗ (sz ⊗ rx ⊖ sx ⊗ rz) ⊕ nz ⊗ (sx ⊗ ry ⊖ sy ⊗ rx))
    ((nx ⊗ nx ⊕ ny ⊗ ny ⊕ nz ⊗ nz) ⊗ ((uy ⊗ sz ⊖ uz ⊗ sy) ⊗ dx ⊕ (uz ⊗ sx ⊖ ux ⊗ sz) ⊗ dy ⊕ (ux ⊗ sy ⊖ uy ⊗ sx) ⊗ dz))
    (given (o ⊖ (nx ⊗ (dy ⊗ uz ⊖ dz ⊗ uy) ⊕ ny ⊗ (dz ⊗ ux ⊖ dx ⊗ uz) ⊕ nz ⊗ (dx ⊗ uy ⊖ dy ⊗ ux))) (nx ⊗ sx ⊕ ny ⊗ sy ⊕ nz ⊗ sz) o p none) tt

-- E says that the ends are the same
module _ (n s t d u : Vector) (hn : IsDirection n) (hs : IsDirection s) (ht : IsDirection t) (ls : dot n s ≡ pos 0) (lt : dot n t ≡ pos 0) (hy : IsDirection (rise u n d))
    (off_s : dot (cross u s) d ≡ pos 0 → ⊥) (off_t : dot (cross u t) d ≡ pos 0 → ⊥) (E : Type 0) (E? : Decided E) (one : E → s ≡ t) (two : (E → ⊥) → SameDirection s t → ⊥) where
  abbrev y : Vector
  y = rise u n d

  abbrev S : Type 0
  S = sign (dot (cross u s) d) ≡ plus

  abbrev T : Type 0
  T = sign (dot (cross u t) d) ≡ minus

  nn : pos 0 <ℤ dot n n
  nn = self-pos n hn

  s-turn : triple n s y ≡ dot n n *ℤ dot (cross u s) d
  s-turn = source-turn n s d u ls

  t-turn : triple n y t ≡ pos 0 -ℤ dot n n *ℤ dot (cross u t) d
  t-turn = let a = triple-turned n y t in let b = source-turn n t d u lt in omega (arith, ints)

  past : S → pos 0 <ℤ triple n s y
  past a = let b = mul_pos (dot n n) (dot (cross u s) d) nn (plus-is (dot (cross u s) d) a) in let e = s-turn in omega (arith, ints)

  before : T → pos 0 <ℤ triple n y t
  before a = let b = mul_neg (dot n n) (dot (cross u t) d) nn (minus-is (dot (cross u t) d) a) in let e = t-turn in omega (arith, ints)

  past-back : pos 0 <ℤ triple n s y → S
  past-back h = sign-plus (dot (cross u s) d) (by_order (dot (cross u s) d) (pos 0)
      (λ l. let b = mul_neg (dot n n) (dot (cross u s) d) nn l in let e = s-turn in absurd (omega (arith, ints)))
      (λ z. absurd (off_s z))
      (λ l. l))

  before-back : pos 0 <ℤ triple n y t → T
  before-back h = sign-minus (dot (cross u t) d) (by_order (dot (cross u t) d) (pos 0)
      (λ l. l)
      (λ z. absurd (off_t z))
      (λ l. let b = mul_pos (dot n n) (dot (cross u t) d) nn l in let e = t-turn in absurd (omega (arith, ints))))

  not-source : SameDirection s y → ⊥
  not-source w = let e = dot-zero n (cross s y) w.parallel in let f = s-turn in product-off (dot n n) (dot (cross u s) d) nn off_s (omega (arith, ints))

  not-target : SameDirection t y → ⊥
  not-target w = let e = dot-zero n (cross y t) (cross-turned t y w.parallel) in let f = t-turn in product-off (dot n n) (dot (cross u t) d) nn off_t (omega (arith, ints))

  -- where the ends aren't the same and don't turn, they are opposite
  opposite-ends : triple n s t ≡ pos 0 → (E → ⊥) → IsOpposite s t
  opposite-ends z e = by (beside s t hs ht (parallel-in_plane n s t hn ls lt z))
    where
      by : Beside s t → IsOpposite s t
      by (same_way w) = absurd (two e w)
      by (other_way w) = w

  same-not_opposite : E → IsOpposite s t → ⊥
  same-not_opposite e w = let h = subst (λ (r : Vector). dot s r <ℤ pos 0) (sym (one e)) w.backward in let p = self-pos s hs in omega (arith, ints)

  pub passes-on : ArcPasses (sign (triple n s t)) S T E → IsStrictlyOn n s t y
  passes-on p = record {
    on_circle = record { direction = hy; level = rise-level u n d };
    not_source = not-source;
    not_target = not-target;
    less_than_half = λ h. let q = subst (λ (r : Sign). ArcPasses r S T E) (sign-plus (triple n s t) h) p in (past q.0, before q.1);
    more_than_half = λ h. ⊎_elim (λ a. inl (past a)) (λ a. inr (before a)) (subst (λ (r : Sign). ArcPasses r S T E) (sign-minus (triple n s t) h) p);
    just_half = λ w. let z = dot-zero n (cross s t) w.parallel in ⊎_elim (λ a. absurd (same-not_opposite a w)) (λ a. past a) (subst (λ (r : Sign). ArcPasses r S T E) (ap sign z) p);
  }

  pub on-passes : IsStrictlyOn n s t y → ArcPasses (sign (triple n s t)) S T E
  on-passes o = by_order (triple n s t) (pos 0)
      (λ h. subst (λ (r : Sign). ArcPasses r S T E) (sym (sign-minus (triple n s t) h)) (⊎_elim (λ a. inl (past-back a)) (λ a. inr (before-back a)) (o.more_than_half h)))
      (λ h. subst (λ (r : Sign). ArcPasses r S T E) (sym (ap sign h)) (⊎_elim (λ a. inl a) (λ a. inr (past-back (o.just_half (opposite-ends h a)))) E?))
      (λ h. subst (λ (r : Sign). ArcPasses r S T E) (sym (sign-plus (triple n s t) h)) (let q = o.less_than_half h in (past-back q.0, before-back q.1)))
