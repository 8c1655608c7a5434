-- Turns about one axis: arcs with the same ends, and which of two arcs from one source ends first.
use Rattle.law_geometry.proofs.sphere.Prelude.{◌≡◌, ℤ, pos, ◌*ℤ◌, ◌<ℤ◌, arith, refl, ap, sym, ◌∙◌, ◌⊎◌, inl, inr, ⊎_elim, ◌∷◌, subst, [], ints, ring, at, num, ◌⊖◌, ◌⊗◌, sign, by_order, Vector, IsDirection, triple, cross, dot, SameDirection, IsOpposite, IsStrictlyOn, Keeps, arc_forms, Decided, same-nought, dot-comm, dot-zero, self-pos, triple-dot, cross-turned, triple-middle, triple-turned, opposites, SameDirection-turned, SameDirection-trans, dir-signs, direction-right, direction-left, IsOpposite-same, parallel-trans, parallel-in_plane}
use Rattle.law_geometry.proofs.sphere.Vectors.{same-plus, same-minus}
use Rattle.law_geometry.proofs.sphere.Places.{SameDirection-decided, kept-minus}
use Rattle.law_geometry.proofs.sphere.Around.{opposite-triple, turn-plus, turn-minus, Beside, same_way, other_way, beside, opposite-in_plane}

-- ---- the same ways make the same turns
turn-first : (n m a b : Vector) → SameDirection n m → sign (triple m a b) ≡ sign (triple n a b)
turn-first n m a b w = ap sign (dot-comm m (cross a b)) ∙ dir-signs n m (cross a b) (direction-left n m w) w ∙ ap sign (dot-comm (cross a b) n)

pub turn-last : (n a b c : Vector) → SameDirection b c → sign (triple n a c) ≡ sign (triple n a b)
turn-last n a b c w = ap sign (triple-dot n a c) ∙ dir-signs b c (cross n a) (direction-left b c w) w ∙ ap sign (sym (triple-dot n a b))

pub turn-middle : (n a b c : Vector) → SameDirection b c → sign (triple n c a) ≡ sign (triple n b a)
turn-middle n a b c w = ap sign (triple-middle n c a) ∙ dir-signs b c (cross a n) (direction-left b c w) w ∙ ap sign (sym (triple-middle n b a))

pub turn-same : (n m a b c d : Vector) → SameDirection n m → SameDirection a b → SameDirection c d → sign (triple m b d) ≡ sign (triple n a c)
turn-same n m a b c d u v w = turn-first n m b d u ∙ turn-last n b c d w ∙ turn-middle n c a b v

-- an arc with the same normal and ends has the same points
pub IsStrictlyOn-same : (n m s u t v d e : Vector) → SameDirection n m → SameDirection s u → SameDirection t v → SameDirection d e → IsStrictlyOn n s t d → IsStrictlyOn m u v e
IsStrictlyOn-same n m s u t v d e a b c w o = record {
  on_circle = record { direction = direction-right d e w; level = same-nought (dot n d) (dot m e) (ap sign (dot-comm m e) ∙ dir-signs n m e (direction-left n m a) a ∙ ap sign (dot-comm e n) ∙ dir-signs d e n (direction-left d e w) w) o.on_circle.level };
  not_source = λ x. o.not_source (SameDirection-trans s u d b (SameDirection-trans u e d x (SameDirection-turned d e w)));
  not_target = λ x. o.not_target (SameDirection-trans t v d c (SameDirection-trans v e d x (SameDirection-turned d e w)));
  less_than_half = λ h. let r = o.less_than_half (same-plus (triple m u v) (triple n s t) (sym (turn-same n m s u t v a b c)) h) in
      (same-plus (triple n s d) (triple m u e) (turn-same n m s u d e a b w) r.0, same-plus (triple n d t) (triple m e v) (turn-same n m d e t v a w c) r.1);
  more_than_half = λ h. ⊎_elim (λ r. inl (same-plus (triple n s d) (triple m u e) (turn-same n m s u d e a b w) r)) (λ r. inr (same-plus (triple n d t) (triple m e v) (turn-same n m d e t v a w c) r))
      (o.more_than_half (same-minus (triple m u v) (triple n s t) (sym (turn-same n m s u t v a b c)) h));
  just_half = λ h. same-plus (triple n s d) (triple m u e) (turn-same n m s u d e a b w) (o.just_half (IsOpposite-same s u t v b c h));
}

-- ---- close after its target an arc isn't met, unless it begins there too
module _ (n s t y : Vector) (hs : IsDirection s) (ht : IsDirection t) (ls : dot n s ≡ pos 0) (lt : dot n t ≡ pos 0) (hn : IsDirection n)
    (k : Keeps (arc_forms n s t) t y) (after : pos 0 <ℤ triple n t y) (o : IsStrictlyOn n s t y) where
  pub after-target : SameDirection s t
  after-target = by_order (triple n s t) (pos 0)
      (λ l. absurd (⊎_elim
      (λ r. let m = subst (λ (r : ℤ). r <ℤ pos 0) (sym (triple-dot n s y)) (kept-minus (cross n s) t y (k (cross n s) (inr (inl refl))) (subst (λ (r : ℤ). r <ℤ pos 0) (triple-dot n s t) l)) in omega (arith, ints))
      (λ r. let e = triple-turned n y t in let a = after in omega (arith, ints)) (o.more_than_half l)))
      (λ z. by (beside s t hs ht (parallel-in_plane n s t hn ls lt z)))
      (λ l. let r = (o.less_than_half l).1 in let e = triple-turned n y t in let a = after in absurd (omega (arith, ints)))
    where
      by : Beside s t → SameDirection s t
      by (same_way w) = w
      by (other_way w) =
          let b : dot t s <ℤ pos 0 = let e = dot-comm t s in let h = w.backward in omega (arith, ints) in
          let m = turn-minus (dot t t) (dot t s) (triple n s y) (triple n t y) (self-pos t ht) (opposite-triple n t y s ht (cross-turned s t w.parallel)) b after in
          let h = o.just_half w in absurd (omega (arith, ints))

-- ---- of two arcs from one source, each ends on the other or both end together
module _ (n s t u : Vector) (hn : IsDirection n) (hs : IsDirection s) (ht : IsDirection t) (hu : IsDirection u) (ls : dot n s ≡ pos 0) (lt : dot n t ≡ pos 0) (lu : dot n u ≡ pos 0) where
  -- u lies on the way from s to t, where the turns say so
  on-by : (SameDirection s u → ⊥) → (SameDirection t u → ⊥)
      → (pos 0 <ℤ triple n s t → (pos 0 <ℤ triple n s u) × (pos 0 <ℤ triple n u t)) → (triple n s t <ℤ pos 0 → (pos 0 <ℤ triple n s u) ⊎ (pos 0 <ℤ triple n u t)) → (IsOpposite s t → pos 0 <ℤ triple n s u) → IsStrictlyOn n s t u
  on-by a b e f g = record { on_circle = record { direction = hu; level = lu }; not_source = a; not_target = b; less_than_half = e; more_than_half = f; just_half = g }

  opposite-level : IsOpposite s t → triple n s t ≡ pos 0
  opposite-level o = dot-zero n (cross s t) o.parallel

  same-level : SameDirection s t → triple n s t ≡ pos 0
  same-level o = dot-zero n (cross s t) o.parallel

  -- the whole circle passes all but its end
  pub whole-passes : SameDirection s t → (SameDirection t u → ⊥) → IsStrictlyOn n s t u
  whole-passes w b = let z = same-level w in on-by (λ v. b (SameDirection-trans t s u (SameDirection-turned s t w) v)) b
      (λ h. absurd (omega (arith, ints))) (λ h. absurd (omega (arith, ints))) (λ o. let p = o.backward in let q = w.forward in absurd (omega (arith, ints)))

  -- u after t
  module _ (b : pos 0 <ℤ triple n t u) (off_t : SameDirection s t → ⊥) (off_u : SameDirection s u → ⊥) (off : SameDirection t u → ⊥) where
    turned : triple n u t <ℤ pos 0
    turned = let e = triple-turned n u t in omega (arith, ints)

    -- t on the way to u
    t-first : (pos 0 <ℤ triple n s t) ⊎ (triple n s u <ℤ pos 0) → (triple n s u ≡ pos 0 → pos 0 <ℤ triple n s t) → (pos 0 <ℤ triple n s u → pos 0 <ℤ triple n s t) → IsStrictlyOn n s u t
    t-first c d e = record {
      on_circle = record { direction = ht; level = lt };
      not_source = off_t;
      not_target = λ w. off (SameDirection-turned u t w);
      less_than_half = λ h. (e h, b);
      more_than_half = λ h. inr b;
      just_half = λ o. d (dot-zero n (cross s u) o.parallel);
    }

    -- beyond the source
    past-t : triple n s t ≡ pos 0 → IsOpposite s t
    past-t = opposite-in_plane n s t hn hs ht ls lt off_t

    past-u : triple n s u ≡ pos 0 → IsOpposite s u
    past-u = opposite-in_plane n s u hn hs hu ls lu off_u

    pub either-first : IsStrictlyOn n s t u ⊎ IsStrictlyOn n s u t
    either-first = by_order (triple n s t) (pos 0)
        (λ l. by_order (triple n s u) (pos 0)
        (λ m. inr (t-first (inr m) (λ z. absurd (omega (arith, ints))) (λ h. absurd (omega (arith, ints)))))
        -- u opposite to s: then the turn from t to u is that from s to t
        (λ z. let o = past-u z in
        let p = turn-plus (dot s s) (dot s u) (triple n u t) (triple n s t) (self-pos s hs) (opposite-triple n s t u hs o.parallel) o.backward l in
        let q = turned in absurd (omega (arith, ints)))
        (λ m. inl (on-by off_u off (λ h. absurd (omega (arith, ints))) (λ h. inl m) (λ o. let z = opposite-level o in absurd (omega (arith, ints))))))
        -- t opposite to s: then the turn from t to u is the other one than that from s to u
        (λ z. let o = past-t z in by_order (triple n s u) (pos 0)
        (λ m. inr (t-first (inr m) (λ y. absurd (omega (arith, ints))) (λ h. absurd (omega (arith, ints)))))
        (λ y. absurd (off (opposites s t u hs o (past-u y))))
        (λ m. let p = turn-minus (dot s s) (dot s t) (triple n t u) (triple n s u) (self-pos s hs) (opposite-triple n s u t hs o.parallel) o.backward m in absurd (omega (arith, ints))))
        (λ l. inr (t-first (inl l) (λ z. l) (λ h. l)))

-- where no one of two arcs from s ends on the other, they end together
pub ends-together : (n s t u : Vector) → IsDirection n → IsDirection s → IsDirection t → IsDirection u → dot n s ≡ pos 0 → dot n t ≡ pos 0 → dot n u ≡ pos 0
    → (IsStrictlyOn n s t u → ⊥) → (IsStrictlyOn n s u t → ⊥) → SameDirection t u
ends-together n s t u hn hs ht hu ls lt lu f g = by (SameDirection-decided t u) (SameDirection-decided s t) (SameDirection-decided s u)
  where
    by : Decided (SameDirection t u) → Decided (SameDirection s t) → Decided (SameDirection s u) → SameDirection t u
    by (inl w) b c = w
    by (inr n') (inl w) c = absurd (f (whole-passes n s t u hn hs ht hu ls lt lu w n'))
    by (inr n') (inr a) (inl w) = absurd (g (whole-passes n s u t hn hs hu ht ls lu lt w (λ v. n' (SameDirection-turned u t v))))
    by (inr n') (inr a) (inr b) = by_order (triple n t u) (pos 0)
        (λ l. let e = triple-turned n u t in ⊎_elim (λ x. absurd (g x)) (λ x. absurd (f x)) (either-first n s u t hn hs hu ht ls lu lt (omega (arith, ints)) b a (λ v. n' (SameDirection-turned u t v))))
        (λ z. absurd (level z (beside t u ht hu (parallel-in_plane n t u hn lt lu z))))
        (λ l. ⊎_elim (λ x. absurd (f x)) (λ x. absurd (g x)) (either-first n s t u hn hs ht hu ls lt lu l a b n'))
      where
        level : triple n t u ≡ pos 0 → Beside t u → ⊥
        level z (same_way w) = n' w
        level z (other_way o) = by_order (triple n s t) (pos 0)
            -- u opposite to t
            (λ l. let p = turn-plus (dot t t) (dot t u) (triple n s u) (triple n s t) (self-pos t ht) (last-eq o) o.backward l in
            f (on-by n s t u hn hs ht hu ls lt lu b n' (λ h. absurd (omega (arith, ints))) (λ h. inl p) (λ q. let y = opposite-level n s t u hn hs ht hu ls lt lu q in absurd (omega (arith, ints)))))
            (λ y. n' (both-past y))
            (λ l. let p = turn-minus (dot t t) (dot t u) (triple n s u) (triple n s t) (self-pos t ht) (last-eq o) o.backward l in
            g (on-by n s u t hn hs hu ht ls lu lt a (λ v. n' (SameDirection-turned u t v)) (λ h. absurd (omega (arith, ints))) (λ h. inl l) (λ q. l)))
          where
            last-eq : IsOpposite t u → dot t t *ℤ triple n s u ≡ dot t u *ℤ triple n s t
            last-eq w =
                let i = opposite-triple n t s u ht w.parallel in
                let e = ap (λ r. dot t t *ℤ r) (triple-turned n u s) in
                let h = ap (λ r. dot t u *ℤ r) (triple-turned n t s) in
                let j = ring (dot t t ∷ triple n s u ∷ []) (at 0 ⊗ (num (pos 0) ⊖ at 1)) (num (pos 0) ⊖ at 0 ⊗ at 1) tt in
                let k = ring (dot t u ∷ triple n s t ∷ []) (at 0 ⊗ (num (pos 0) ⊖ at 1)) (num (pos 0) ⊖ at 0 ⊗ at 1) tt in
                omega (arith, ints)

            both-past : triple n s t ≡ pos 0 → SameDirection t u
            both-past y = by2 (beside s t hs ht (parallel-in_plane n s t hn ls lt y)) (beside s u hs hu (parallel-trans s t u ht (parallel-in_plane n s t hn ls lt y) o.parallel))
              where
                by2 : Beside s t → Beside s u → SameDirection t u
                by2 (same_way w) v = absurd (a w)
                by2 (other_way w) (same_way v) = absurd (b v)
                by2 (other_way w) (other_way v) = opposites s t u hs w v
