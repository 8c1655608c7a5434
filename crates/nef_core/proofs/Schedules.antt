-- What holds over every legal list of events.
use Rattle.nef_core.proofs.Prelude.{◌≡◌, ℕ, zero, suc, ◌+◌, ◌<◌, ◌≤◌, List, [], ◌∷◌, ◌++◌, length, refl, ap, sym, ◌∙◌, Option, Some, slice_get, slice_set, arith, ◌⊎◌, inl, inr, Bool, true, false, nat_lt, if◌then◌else◌, lt-ltb, State, start, after, reply, IsLegalStep, replay, IsLegal, Slot, Open, InHand, Done, Event, Claim, Deposit, GiveBack}
use Rattle.std.proofs.lemmas.Bool.Decides.{nat_tests}
use Rattle.std.proofs.Math.ListN.{length-set, length-replicate}
use Rattle.nef_core.specs.declared.board.Claim.TheVariants.{Got, NoneLeft}
use Rattle.nef_core.proofs.Places.{get_set_other, same_or_not, get_replicate}
use Rattle.nef_core.proofs.Deposits.{done_not_held, open_not_done, open_not_held}

-- a claim that finds a number
pub claimed : (s : State) (w : ℕ) → s.next < length s.slots → after s (Claim w) ≡ record { next = s.next + 1; slots = slice_set s.slots s.next (InHand w) }
claimed s w h = rw (lt-ltb s.next (length s.slots) h) refl

pub replay_append : (s : State) (a b : List Event) → replay s (a ++ b) ≡ replay (replay s a) b
replay_append s [] b = refl
replay_append s (e ∷ es) b = replay_append (after s e) es b

pub legal_append : (s : State) (a b : List Event) → IsLegal s (a ++ b) → IsLegal s a × IsLegal (replay s a) b
legal_append s [] b h = (tt, h)
legal_append s (e ∷ es) b h = let r = legal_append (after s e) es b h.1 in ((h.0, r.0), r.1)

next_grows : (s : State) (e : Event) → IsLegalStep s e → s.next ≤ (after s e).next
next_grows s (Claim w) h = rw (claimed s w h) (omega arith)
next_grows s (Deposit w i) h = omega arith
next_grows s (GiveBack w i) h = omega arith

pub grows : (s : State) (es : List Event) → IsLegal s es → s.next ≤ (replay s es).next
grows s [] h = omega arith
grows s (e ∷ es) h = let a = next_grows s e h.0 in let b = grows (after s e) es h.1 in omega arith

-- what was not handed out is open
abbrev pub RestIsOpen : State → Type 0
RestIsOpen s = (j : ℕ) → s.next ≤ j → j < length s.slots → slice_get s.slots j ≡ Some Open

-- one place below `next` is set
fresh_set : (s : State) (i w : ℕ) (x : Slot) → slice_get s.slots i ≡ Some (InHand w) → RestIsOpen s → RestIsOpen (record { next = s.next; slots = slice_set s.slots i x })
fresh_set s i w x held f j a b =
    let b' : j < length s.slots = omega (arith, length-set s.slots i x) in
    let here = f j a b' in
    elim (same_or_not j i) [
      | inl e ↦ absurd (open_not_held w (sym here ∙ (ap (slice_get s.slots) e ∙ held)))
      | inr n ↦ get_set_other s.slots i j x n ∙ here
    ]

pub fresh_after : (s : State) (e : Event) → IsLegalStep s e → RestIsOpen s → RestIsOpen (after s e)
fresh_after s (Claim w) h f =
    rw (claimed s w h) (λ j a b.
    get_set_other s.slots s.next j (InHand w) (λ e. omega arith)
    ∙ f j (omega arith) (omega (arith, length-set s.slots s.next (InHand w))))
fresh_after s (Deposit w i) h f = fresh_set s i w (Done w) h f
fresh_after s (GiveBack w i) h f = fresh_set s i w Open h f

pub fresh : (s : State) (es : List Event) → IsLegal s es → RestIsOpen s → RestIsOpen (replay s es)
fresh s [] h f = f
fresh s (e ∷ es) h f = fresh (after s e) es h.1 (fresh_after s e h.0 f)

pub fresh_start : (n : ℕ) → RestIsOpen (start n)
fresh_start n j a b = get_replicate n j Open (omega (arith, length-replicate {A = Slot}))

-- a done slot stays
kept_set : (s : State) (i v job w : ℕ) (x : Slot) → slice_get s.slots i ≡ Some (InHand v) → slice_get s.slots job ≡ Some (Done w) → slice_get (slice_set s.slots i x) job ≡ Some (Done w)
kept_set s i v job w x held d =
    elim (same_or_not job i) [
      | inl e ↦ absurd (done_not_held w v (sym d ∙ (ap (slice_get s.slots) e ∙ held)))
      | inr n ↦ get_set_other s.slots i job x n ∙ d
    ]

done_after : (s : State) (e : Event) (job w : ℕ) → IsLegalStep s e → RestIsOpen s → slice_get s.slots job ≡ Some (Done w) → slice_get (after s e).slots job ≡ Some (Done w)
done_after s (Claim v) job w h f d =
    rw (claimed s v h) (elim (same_or_not job s.next) [
      | inl e ↦ absurd (open_not_done w (sym (f s.next (omega arith) h) ∙ (ap (slice_get s.slots) (sym e) ∙ d)))
      | inr n ↦ get_set_other s.slots s.next job (InHand v) n ∙ d
    ])
done_after s (Deposit v i) job w h f d = kept_set s i v job w (Done v) h d
done_after s (GiveBack v i) job w h f d = kept_set s i v job w Open h d

pub done_stays : (s : State) (es : List Event) (job w : ℕ) → IsLegal s es → RestIsOpen s → slice_get s.slots job ≡ Some (Done w) → slice_get (replay s es).slots job ≡ Some (Done w)
done_stays s [] job w h f d = d
done_stays s (e ∷ es) job w h f d = done_stays (after s e) es job w h.1 (fresh_after s e h.0 f) (done_after s e job w h.0 f d)

count_after : (s : State) (e : Event) → IsLegalStep s e → length (after s e).slots ≡ length s.slots
count_after s (Claim w) h = ap (λ (z : State). length z.slots) (claimed s w h) ∙ length-set s.slots s.next (InHand w)
count_after s (Deposit w i) h = length-set s.slots i (Done w)
count_after s (GiveBack w i) h = length-set s.slots i Open

count_kept : (s : State) (es : List Event) → IsLegal s es → length (replay s es).slots ≡ length s.slots
count_kept s [] h = refl
count_kept s (e ∷ es) h = count_kept (after s e) es h.1 ∙ count_after s e h.0

-- there are as many slots as jobs
pub count_stays : (n : ℕ) (es : List Event) → IsLegal (start n) es → length (replay (start n) es).slots ≡ n
count_stays n es h = count_kept (start n) es h ∙ length-replicate n Open

-- a legal list of events with one more
pub legal_more : (s : State) (log : List Event) (e : Event) → IsLegal s log → IsLegal (replay s log) (e ∷ []) → IsLegal s (log ++ e ∷ [])
legal_more s [] e h k = k
legal_more s (x ∷ xs) e h k = (h.0, legal_more (after s x) xs e h.1 k)

slot_there : (slots : List Slot) (job : ℕ) → job < length slots → (x : Slot) × (slice_get slots job ≡ Some x)
slot_there [] job h = absurd (omega arith)
slot_there (x ∷ xs) zero h = (x, refl)
slot_there (x ∷ xs) (suc job) h = slot_there xs job (omega arith)

kind_of : (o : Option Slot) (x : Slot) → o ≡ Some x → (o ≡ Some Open) ⊎ (((w : ℕ) × (o ≡ Some (InHand w))) ⊎ ((w : ℕ) × (o ≡ Some (Done w))))
kind_of o Open e = inl e
kind_of o (InHand w) e = inr (inl (w, e))
kind_of o (Done w) e = inr (inr (w, e))

pub one_of_three : (slots : List Slot) (job : ℕ) → job < length slots
    → (slice_get slots job ≡ Some Open) ⊎ (((w : ℕ) × (slice_get slots job ≡ Some (InHand w))) ⊎ ((w : ℕ) × (slice_get slots job ≡ Some (Done w))))
one_of_three slots job h = let t = slot_there slots job h in kind_of (slice_get slots job) t.0 t.1

none_not_got : (job : ℕ) → NoneLeft ≡ Got job → ⊥
none_not_got job e = cc

got_not_none : (a : ℕ) → Got a ≡ NoneLeft → ⊥
got_not_none a e = cc

got_same : (a b : ℕ) → Got a ≡ Got b → b ≡ a
got_same a b e = cc

found_free : (b : Bool) (next n job : ℕ) → nat_lt next n ≡ b → (if b then Got next else NoneLeft) ≡ Got job → next < n
found_free true next n job t e = grind (arith, nat_tests)
found_free false next n job t e = absurd (none_not_got job e)

found_next : (b : Bool) (next job : ℕ) → (if b then Got next else NoneLeft) ≡ Got job → job ≡ next
found_next true next job e = got_same next job e
found_next false next job e = absurd (none_not_got job e)

found_past : (b : Bool) (next n : ℕ) → nat_lt next n ≡ b → (if b then Got next else NoneLeft) ≡ NoneLeft → n ≤ next
found_past true next n t e = absurd (got_not_none next e)
found_past false next n t e = grind (arith, nat_tests)

-- a claim that finds a number hands it out, and one that finds none changes nothing
pub claim_answers : (s : State) (w : ℕ) → s.next < length s.slots → reply s (Claim w) ≡ Got s.next
claim_answers s w h = rw (lt-ltb s.next (length s.slots) h) refl

past_same : (b : Bool) (next n : ℕ) (x y : State) → nat_lt next n ≡ b → n ≤ next → (if b then x else y) ≡ y
past_same true next n x y t h = absurd (let k : next < n = grind (arith, nat_tests) in omega arith)
past_same false next n x y t h = refl

pub past_is_same : (s : State) (w : ℕ) → length s.slots ≤ s.next → after s (Claim w) ≡ s
past_is_same s w h = past_same (nat_lt s.next (length s.slots)) s.next (length s.slots) (record { next = s.next + 1; slots = slice_set s.slots s.next (InHand w) }) s refl h

past_none : (b : Bool) (next n : ℕ) → nat_lt next n ≡ b → n ≤ next → (if b then Got next else NoneLeft) ≡ NoneLeft
past_none true next n t h = absurd (let k : next < n = grind (arith, nat_tests) in omega arith)
past_none false next n t h = refl

pub past_answers : (s : State) (w : ℕ) → length s.slots ≤ s.next → reply s (Claim w) ≡ NoneLeft
past_answers s w h = past_none (nat_lt s.next (length s.slots)) s.next (length s.slots) refl h

-- a claim that got a job found one, and it is the next one; a claim that got none found none
pub got_free : (s : State) (w job : ℕ) → reply s (Claim w) ≡ Got job → s.next < length s.slots
got_free s w job e = found_free (nat_lt s.next (length s.slots)) s.next (length s.slots) job refl e

pub got_next : (s : State) (w job : ℕ) → reply s (Claim w) ≡ Got job → job ≡ s.next
got_next s w job e = found_next (nat_lt s.next (length s.slots)) s.next job e

pub got_none : (s : State) (w : ℕ) → reply s (Claim w) ≡ NoneLeft → length s.slots ≤ s.next
got_none s w e = found_past (nat_lt s.next (length s.slots)) s.next (length s.slots) refl e
