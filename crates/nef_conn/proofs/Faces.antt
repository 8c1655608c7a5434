-- A direction of an arc's plane that lies neither on the arc nor at its ends leads away from the arc's side at one end.
use Rattle.nef_conn.proofs.Prelude.{◌≡◌, pos, ◌<ℤ◌, neg_ℤ, arith, ap, ◌∙◌, ◌⊎◌, inl, inr, ints, sign, by_order, Vector, opposite, dot, cross, triple, IsDirection, SameDirection, IsOpposite, IsStrictlyOn, same-plus, same-minus, Beside, same_way, other_way, beside, opposite-in_plane, turn-same, dot-zero, triple-turned, opposites, dir-self, parallel-in_plane, opposite-way, right-turn, back-triple}

module _ (n s t d : Vector) (hn : IsDirection n) (hs : IsDirection s) (ht : IsDirection t) (hd : IsDirection d) (ls : dot n s ≡ pos 0) (lt : dot n t ≡ pos 0) (ld : dot n d ≡ pos 0)
    (off-s : SameDirection s d → ⊥) (off-t : SameDirection t d → ⊥) where
  -- what is parallel to an end is opposite to it
  against-s : triple n s d ≡ pos 0 → IsOpposite s d
  against-s = opposite-in_plane n s d hn hs hd ls ld off-s

  against-t : triple n d t ≡ pos 0 → IsOpposite t d
  against-t z = opposite-in_plane n t d hn ht hd lt ld off-t (let e = triple-turned n d t in omega (arith, ints))

  not-half : (triple n s t ≡ pos 0 → ⊥) → IsOpposite s t → ⊥
  not-half f o = f (dot-zero n (cross s t) o.parallel)

  -- behind the source the turn to the target is the other one
  turn-behind_source : IsOpposite s d → sign (triple n d t) ≡ sign (neg_ℤ (triple n s t))
  turn-behind_source o = turn-same n n (opposite s) d t t (dir-self n hn) (opposite-way s d o) (dir-self t ht) ∙ ap sign (back-triple n s t)

  turn-behind_target : IsOpposite t d → sign (triple n s d) ≡ sign (neg_ℤ (triple n s t))
  turn-behind_target o = turn-same n n s s (opposite t) d (dir-self n hn) (dir-self s hs) (opposite-way t d o) ∙ ap sign (right-turn n s t)

  module _ (off : IsStrictlyOn n s t d → ⊥) where
    abbrev Away : Type 0
    Away = (triple n s d <ℤ pos 0) ⊎ (triple n d t <ℤ pos 0)

    on : ((pos 0 <ℤ triple n s t) → (pos 0 <ℤ triple n s d) × (pos 0 <ℤ triple n d t)) → (triple n s t <ℤ pos 0 → (pos 0 <ℤ triple n s d) ⊎ (pos 0 <ℤ triple n d t)) → (IsOpposite s t → pos 0 <ℤ triple n s d) → Away
    on a b c = absurd (off (record { on_circle = record { direction = hd; level = ld }; not_source = off-s; not_target = off-t; less_than_half = a; more_than_half = b; just_half = c }))

    -- opposite to the source
    behind-source : triple n s d ≡ pos 0 → Away
    behind-source z =
        let o = against-s z in
        let turn = turn-behind_source o in
        by_order (triple n s t) (pos 0)
        (λ h. on (λ g. absurd (omega (arith, ints))) (λ g. inr (same-plus (neg_ℤ (triple n s t)) (triple n d t) turn (omega (arith, ints)))) (λ g. absurd (not-half (λ e. omega (arith, ints)) g)))
        (λ e. level o (beside s t hs ht (parallel-in_plane n s t hn ls lt e)) e)
        (λ h. inr (same-minus (neg_ℤ (triple n s t)) (triple n d t) turn (omega (arith, ints))))
      where
        level : IsOpposite s d → Beside s t → triple n s t ≡ pos 0 → Away
        level o (other_way q) e = absurd (off-t (opposites s t d hs q o))
        level o (same_way w) e = on (λ g. absurd (omega (arith, ints))) (λ g. absurd (omega (arith, ints))) (λ q. absurd (let f = w.forward in let b = q.backward in omega (arith, ints)))

    -- past the source, opposite to the target
    behind-target : pos 0 <ℤ triple n s d → triple n d t ≡ pos 0 → Away
    behind-target h z =
        let turn = turn-behind_target (against-t z) in
        by_order (triple n s t) (pos 0)
        (λ l. on (λ g. absurd (omega (arith, ints))) (λ g. inl h) (λ g. h))
        (λ e. on (λ g. absurd (omega (arith, ints))) (λ g. absurd (omega (arith, ints))) (λ g. h))
        (λ l. let b = same-minus (neg_ℤ (triple n s t)) (triple n s d) turn (omega (arith, ints)) in inl b)

    pub leads-away : Away
    leads-away = by_order (triple n s d) (pos 0) (λ h. inl h) (λ z. behind-source z)
        (λ h. by_order (triple n d t) (pos 0) (λ l. inr l) (λ z. behind-target h z) (λ l. on (λ g. (h, l)) (λ g. inl h) (λ g. h)))
