-- Each claim of a pass is a job in its hand, a job that it deposited, or one that it gave back.
use Rattle.nef_core.proofs.Prelude.{◌≡◌, ◌≢◌, ℕ, zero, suc, ◌+◌, ◌<◌, ◌≤◌, ◌==◌, ◌&&◌, List, [], ◌∷◌, refl, ap, sym, ◌∙◌, Some, slice_get, slice_set, arith, set, ◌⊎◌, inl, inr, Bool, true, false, eq-eqb, ne_eqb, slice_get_within, State, start, after, replay, IsLegal, Slot, Open, InHand, Done, Event, Claim, Deposit, GiveBack}
use Rattle.nef_core.specs.Counts.{one_if, is_own_slot, is_done_by, total, at_most_one, claims, deposits, givings_back, claims_of, deposits_of, givings_back_of, handings_out}
use Rattle.nef_core.proofs.Places.{get_set_here, get_set_other, same_or_not}
use Rattle.nef_core.proofs.Schedules.{claimed, RestIsOpen, fresh_after, fresh_start}
use Rattle.std.proofs.lemmas.Option.{same_Some, none-some}

-- a count over all slots, where one is set
total_set : (count : Slot → ℕ) (slots : List Slot) (i : ℕ) (x y : Slot) → slice_get slots i ≡ Some x → total count (set slots i y) + count x ≡ total count slots + count y
total_set count [] i x y e = absurd (none-some x e)
total_set count (z ∷ zs) zero x y e = let q : count z ≡ count x = ap count (same_Some z x e) in omega arith
total_set count (z ∷ zs) (suc i) x y e = let k = total_set count zs i x y e in omega arith

total_start : (count : Slot → ℕ) (n : ℕ) → count Open ≡ 0 → total count (start n).slots ≡ 0
total_start count zero h = refl
total_start count (suc n) h = let k = total_start count n h in omega arith

counted : (w : ℕ) (s : State) (es : List Event) → IsLegal s es → RestIsOpen s → claims w es + total (is_own_slot w) s.slots ≡ total (is_own_slot w) (replay s es).slots + givings_back w es
counted w s [] h f = omega arith
counted w s (Claim v ∷ es) h f =
    let k = counted w (after s (Claim v)) es h.1 (fresh_after s (Claim v) h.0 f) in
    let there = f s.next (omega arith) h.0 in
    let o = total_set (is_own_slot w) s.slots s.next Open (InHand v) there in
    let a : total (is_own_slot w) (after s (Claim v)).slots ≡ total (is_own_slot w) (set s.slots s.next (InHand v)) = ap (λ (z : State). total (is_own_slot w) z.slots) (claimed s v h.0) in
    omega arith
counted w s (Deposit v job ∷ es) h f =
    let k = counted w (after s (Deposit v job)) es h.1 (fresh_after s (Deposit v job) h.0 f) in
    let o = total_set (is_own_slot w) s.slots job (InHand v) (Done v) h.0 in
    omega arith
counted w s (GiveBack v job ∷ es) h f =
    let k = counted w (after s (GiveBack v job)) es h.1 (fresh_after s (GiveBack v job) h.0 f) in
    let o = total_set (is_own_slot w) s.slots job (InHand v) Open h.0 in
    omega arith

done_counted : (w : ℕ) (s : State) (es : List Event) → IsLegal s es → RestIsOpen s → deposits w es + total (is_done_by w) s.slots ≡ total (is_done_by w) (replay s es).slots
done_counted w s [] h f = omega arith
done_counted w s (Claim v ∷ es) h f =
    let k = done_counted w (after s (Claim v)) es h.1 (fresh_after s (Claim v) h.0 f) in
    let there = f s.next (omega arith) h.0 in
    let o = total_set (is_done_by w) s.slots s.next Open (InHand v) there in
    let a : total (is_done_by w) (after s (Claim v)).slots ≡ total (is_done_by w) (set s.slots s.next (InHand v)) = ap (λ (z : State). total (is_done_by w) z.slots) (claimed s v h.0) in
    omega arith
done_counted w s (Deposit v job ∷ es) h f =
    let k = done_counted w (after s (Deposit v job)) es h.1 (fresh_after s (Deposit v job) h.0 f) in
    let o = total_set (is_done_by w) s.slots job (InHand v) (Done v) h.0 in
    omega arith
done_counted w s (GiveBack v job ∷ es) h f =
    let k = done_counted w (after s (GiveBack v job)) es h.1 (fresh_after s (GiveBack v job) h.0 f) in
    let o = total_set (is_done_by w) s.slots job (InHand v) Open h.0 in
    omega arith

pub claims_accounted : (n w : ℕ) (es : List Event) → IsLegal (start n) es → claims w es ≡ total (is_own_slot w) (replay (start n) es).slots + givings_back w es
claims_accounted n w es h = let k = counted w (start n) es h (fresh_start n) in let z = total_start (is_own_slot w) n refl in omega arith

pub deposits_done : (n w : ℕ) (es : List Event) → IsLegal (start n) es → deposits w es ≡ total (is_done_by w) (replay (start n) es).slots
deposits_done n w es h = let k = done_counted w (start n) es h (fresh_start n) in let z = total_start (is_done_by w) n refl in omega arith

-- a count at one place, where one is set
place_set : (count : Slot → ℕ) (slots : List Slot) (i job : ℕ) (x y : Slot) → slice_get slots i ≡ Some x
    → ((job ≡ i) × (at_most_one count (slice_get (slice_set slots i y) job) ≡ count y) × (at_most_one count (slice_get slots job) ≡ count x))
    ⊎ ((job ≢ i) × (at_most_one count (slice_get (slice_set slots i y) job) ≡ at_most_one count (slice_get slots job)))
place_set count slots i job x y e =
    elim (same_or_not job i) [
      | inl q ↦ inl (
        q,
        ap (λ j. at_most_one count (slice_get (slice_set slots i y) j)) q ∙ ap (at_most_one count) (get_set_here slots i y (slice_get_within slots i x e)),
        ap (λ j. at_most_one count (slice_get slots j)) q ∙ ap (at_most_one count) e,
      )
      | inr n ↦ inr (n, ap (at_most_one count) (get_set_other slots i job y n))
    ]

gains : (count : Slot → ℕ) (slots : List Slot) (i job : ℕ) (x y : Slot) (b : Bool) → slice_get slots i ≡ Some x → count x ≡ 0 → count y ≡ one_if b
    → one_if ((i == job) && b) + at_most_one count (slice_get slots job) ≡ at_most_one count (slice_get (slice_set slots i y) job)
gains count slots i job x y b e before behind =
    elim (place_set count slots i job x y e) [
      | inl q ↦ let t : one_if ((i == job) && b) ≡ one_if b = ap (λ c. one_if (c && b)) (eq-eqb i job (sym q.0)) in let a = q.1 in let c = q.2 in omega arith
      | inr q ↦ let t : one_if ((i == job) && b) ≡ 0 = ap (λ c. one_if (c && b)) (ne_eqb i job (λ z. q.0 (sym z))) in let a = q.1 in omega arith
    ]

loses : (count : Slot → ℕ) (slots : List Slot) (i job : ℕ) (x y : Slot) (b : Bool) → slice_get slots i ≡ Some x → count x ≡ one_if b → count y ≡ 0
    → at_most_one count (slice_get slots job) ≡ at_most_one count (slice_get (slice_set slots i y) job) + one_if ((i == job) && b)
loses count slots i job x y b e before behind =
    elim (place_set count slots i job x y e) [
      | inl q ↦ let t : one_if ((i == job) && b) ≡ one_if b = ap (λ c. one_if (c && b)) (eq-eqb i job (sym q.0)) in let a = q.1 in let c = q.2 in omega arith
      | inr q ↦ let t : one_if ((i == job) && b) ≡ 0 = ap (λ c. one_if (c && b)) (ne_eqb i job (λ z. q.0 (sym z))) in let a = q.1 in omega arith
    ]

leaves : (count : Slot → ℕ) (slots : List Slot) (i job : ℕ) (x y : Slot) → slice_get slots i ≡ Some x → count x ≡ count y
    → at_most_one count (slice_get slots job) ≡ at_most_one count (slice_get (slice_set slots i y) job)
leaves count slots i job x y e same =
    elim (place_set count slots i job x y e) [
      | inl q ↦ let a = q.1 in let c = q.2 in omega arith
      | inr q ↦ sym q.1
    ]

counted_of : (w job : ℕ) (s : State) (es : List Event) → IsLegal s es → RestIsOpen s
    → claims_of w job s es + at_most_one (is_own_slot w) (slice_get s.slots job) ≡ at_most_one (is_own_slot w) (slice_get (replay s es).slots job) + givings_back_of w job es
counted_of w job s [] h f = omega arith
counted_of w job s (Claim v ∷ es) h f =
    let k = counted_of w job (after s (Claim v)) es h.1 (fresh_after s (Claim v) h.0 f) in
    let o = gains (is_own_slot w) s.slots s.next job Open (InHand v) (v == w) (f s.next (omega arith) h.0) refl refl in
    let a : at_most_one (is_own_slot w) (slice_get (after s (Claim v)).slots job) ≡ at_most_one (is_own_slot w) (slice_get (slice_set s.slots s.next (InHand v)) job) = ap (λ (z : State). at_most_one (is_own_slot w) (slice_get z.slots job)) (claimed s v h.0) in
    omega arith
counted_of w job s (Deposit v i ∷ es) h f =
    let k = counted_of w job (after s (Deposit v i)) es h.1 (fresh_after s (Deposit v i) h.0 f) in
    let o = leaves (is_own_slot w) s.slots i job (InHand v) (Done v) h.0 refl in
    omega arith
counted_of w job s (GiveBack v i ∷ es) h f =
    let k = counted_of w job (after s (GiveBack v i)) es h.1 (fresh_after s (GiveBack v i) h.0 f) in
    let o = loses (is_own_slot w) s.slots i job (InHand v) Open (v == w) h.0 refl refl in
    omega arith

done_counted_of : (w job : ℕ) (s : State) (es : List Event) → IsLegal s es → RestIsOpen s
    → deposits_of w job es + at_most_one (is_done_by w) (slice_get s.slots job) ≡ at_most_one (is_done_by w) (slice_get (replay s es).slots job)
done_counted_of w job s [] h f = omega arith
done_counted_of w job s (Claim v ∷ es) h f =
    let k = done_counted_of w job (after s (Claim v)) es h.1 (fresh_after s (Claim v) h.0 f) in
    let o = leaves (is_done_by w) s.slots s.next job Open (InHand v) (f s.next (omega arith) h.0) refl in
    let a : at_most_one (is_done_by w) (slice_get (after s (Claim v)).slots job) ≡ at_most_one (is_done_by w) (slice_get (slice_set s.slots s.next (InHand v)) job) = ap (λ (z : State). at_most_one (is_done_by w) (slice_get z.slots job)) (claimed s v h.0) in
    omega arith
done_counted_of w job s (Deposit v i ∷ es) h f =
    let k = done_counted_of w job (after s (Deposit v i)) es h.1 (fresh_after s (Deposit v i) h.0 f) in
    let o = gains (is_done_by w) s.slots i job (InHand v) (Done v) (v == w) h.0 refl refl in
    omega arith
done_counted_of w job s (GiveBack v i ∷ es) h f =
    let k = done_counted_of w job (after s (GiveBack v i)) es h.1 (fresh_after s (GiveBack v i) h.0 f) in
    let o = leaves (is_done_by w) s.slots i job (InHand v) Open h.0 refl in
    omega arith

none_at_start : (count : Slot → ℕ) (n job : ℕ) → count Open ≡ 0 → at_most_one count (slice_get (start n).slots job) ≡ 0
none_at_start count zero job h = refl
none_at_start count (suc n) zero h = h
none_at_start count (suc n) (suc job) h = none_at_start count n job h

pub each_claim_accounted : (n w job : ℕ) (es : List Event) → IsLegal (start n) es → claims_of w job (start n) es ≡ at_most_one (is_own_slot w) (slice_get (replay (start n) es).slots job) + givings_back_of w job es
each_claim_accounted n w job es h = let k = counted_of w job (start n) es h (fresh_start n) in let z = none_at_start (is_own_slot w) n job refl in omega arith

pub each_deposit_done : (n w job : ℕ) (es : List Event) → IsLegal (start n) es → deposits_of w job es ≡ at_most_one (is_done_by w) (slice_get (replay (start n) es).slots job)
each_deposit_done n w job es h = let k = done_counted_of w job (start n) es h (fresh_start n) in let z = none_at_start (is_done_by w) n job refl in omega arith

-- a number that was handed out isn't handed out again
none_after : (job : ℕ) (s : State) (es : List Event) → IsLegal s es → job < s.next → handings_out job s es ≡ 0
none_after job s [] h past = refl
none_after job s (Claim v ∷ es) h past =
    let grown : (after s (Claim v)).next ≡ s.next + 1 = ap (λ (z : State). z.next) (claimed s v h.0) in
    let k = none_after job (after s (Claim v)) es h.1 (omega arith) in
    let t : one_if (s.next == job) ≡ 0 = ap one_if (ne_eqb s.next job (λ e. absurd (omega arith))) in
    omega arith
none_after job s (Deposit v i ∷ es) h past = none_after job (after s (Deposit v i)) es h.1 past
none_after job s (GiveBack v i ∷ es) h past = none_after job (after s (GiveBack v i)) es h.1 past

pub once_at_most : (job : ℕ) (s : State) (es : List Event) → IsLegal s es → handings_out job s es ≤ 1
once_at_most job s [] h = omega arith
once_at_most job s (Claim v ∷ es) h =
    elim (same_or_not s.next job) [
      | inl e ↦
          let grown : (after s (Claim v)).next ≡ s.next + 1 = ap (λ (z : State). z.next) (claimed s v h.0) in
          let k = none_after job (after s (Claim v)) es h.1 (omega arith) in
          let t : one_if (s.next == job) ≡ 1 = ap one_if (eq-eqb s.next job e) in
          omega arith
      | inr n ↦
          let k = once_at_most job (after s (Claim v)) es h.1 in
          let t : one_if (s.next == job) ≡ 0 = ap one_if (ne_eqb s.next job n) in
          omega arith
    ]
once_at_most job s (Deposit v i ∷ es) h = once_at_most job (after s (Deposit v i)) es h.1
once_at_most job s (GiveBack v i ∷ es) h = once_at_most job (after s (GiveBack v i)) es h.1

one_if_both : (a b : Bool) → one_if (a && b) ≤ one_if a
one_if_both true true = omega arith
one_if_both true false = omega arith
one_if_both false b = omega arith

-- the claims of one pass are among those of all
claims_among : (w job : ℕ) (s : State) (es : List Event) → claims_of w job s es ≤ handings_out job s es
claims_among w job s [] = omega arith
claims_among w job s (Claim v ∷ es) = let a = one_if_both (s.next == job) (v == w) in let k = claims_among w job (after s (Claim v)) es in omega arith
claims_among w job s (Deposit v i ∷ es) = claims_among w job (after s (Deposit v i)) es
claims_among w job s (GiveBack v i ∷ es) = claims_among w job (after s (GiveBack v i)) es

pub held_is_claimed : (n w job : ℕ) (es : List Event) → IsLegal (start n) es → slice_get (replay (start n) es).slots job ≡ Some (InHand w)
    → (claims_of w job (start n) es ≡ 1) × (deposits_of w job es ≡ 0) × (givings_back_of w job es ≡ 0)
held_is_claimed n w job es h at =
    let a = each_claim_accounted n w job es h in
    let b = each_deposit_done n w job es h in
    let own : at_most_one (is_own_slot w) (slice_get (replay (start n) es).slots job) ≡ 1 = ap (at_most_one (is_own_slot w)) at ∙ ap one_if (eq-eqb w w refl) in
    let done : at_most_one (is_done_by w) (slice_get (replay (start n) es).slots job) ≡ 0 = ap (at_most_one (is_done_by w)) at in
    let c = claims_among w job (start n) es in
    let d = once_at_most job (start n) es h in
    (omega arith, omega arith, omega arith)

pub done_is_claimed : (n w job : ℕ) (es : List Event) → IsLegal (start n) es → slice_get (replay (start n) es).slots job ≡ Some (Done w)
    → (claims_of w job (start n) es ≡ 1) × (deposits_of w job es ≡ 1) × (givings_back_of w job es ≡ 0)
done_is_claimed n w job es h at =
    let a = each_claim_accounted n w job es h in
    let b = each_deposit_done n w job es h in
    let own : at_most_one (is_own_slot w) (slice_get (replay (start n) es).slots job) ≡ 1 = ap (at_most_one (is_own_slot w)) at ∙ ap one_if (eq-eqb w w refl) in
    let done : at_most_one (is_done_by w) (slice_get (replay (start n) es).slots job) ≡ 1 = ap (at_most_one (is_done_by w)) at ∙ ap one_if (eq-eqb w w refl) in
    let c = claims_among w job (start n) es in
    let d = once_at_most job (start n) es h in
    (omega arith, omega arith, omega arith)
