-- One event keeps the state sound.
use Rattle.nef_board.proofs.Prelude.{◌≡◌, ℕ, zero, suc, ◌+◌, ◌<◌, ◌≢◌, List, [], ◌∷◌, ◌++◌, length, refl, ap, sym, ◌∙◌, Option, Some, None, slice_get, slice_set, arith, inl, inr, subst, set, length-append, add-one, lt_of_not-le, length-set, slice_get_within, State as Machine, start, after, replay, IsLegal, Slot, Open, InHand, Done, Event, Claim, Deposit, GiveBack, get_set_here, get_set_other, same_or_not, claimed, replay_append, fresh, fresh_start, RestIsOpen, legal_more, open_not_held, HasResult, events_left, owed, Sound, same_Some}
use Rattle.std.proofs.lemmas.Option.{none-some}

owed_claim : (next w : ℕ) (slots : List Slot) → next < length slots → owed (suc next) (set slots next (InHand w)) + 1 ≡ owed next slots
owed_claim next w [] h = absurd (omega arith)
owed_claim zero w (x ∷ xs) h = omega arith
owed_claim (suc n) w (x ∷ xs) h = let k = owed_claim n w xs (omega arith) in omega arith

owed_settle : (next job w : ℕ) (x : Slot) (slots : List Slot) → slice_get slots job ≡ Some (InHand w) → job < next → events_left x ≡ 0 → owed next (set slots job x) + 1 ≡ owed next slots
owed_settle next job w x [] e h z = absurd (none-some (InHand w) e)
owed_settle zero job w x (y ∷ ys) e h z = absurd (omega arith)
owed_settle (suc n) zero w x (y ∷ ys) e h z = let q : events_left y ≡ 1 = ap events_left (same_Some y (InHand w) e) in omega arith
owed_settle (suc n) (suc job) w x (y ∷ ys) e h z = let k = owed_settle n job w x ys e (omega arith) z in omega arith

-- what was not handed out is open, since the machine is a replay
pub is_fresh : (m : Machine) (h : List Event) → m ≡ replay (start (length m.slots)) h → IsLegal (start (length m.slots)) h → RestIsOpen m
is_fresh m h e l = subst RestIsOpen (sym e) (fresh (start (length m.slots)) h l (fresh_start (length m.slots)))

-- a job in hand was handed out
pub below_next : (m : Machine) (job w : ℕ) → RestIsOpen m → slice_get m.slots job ≡ Some (InHand w) → job < m.next
below_next m job w f at = lt_of_not-le (λ le. open_not_held w (sym (f job le (slice_get_within m.slots job (InHand w) at)) ∙ at))

module _ {Out : Type 0} where
  pub sound_claim : (m : Machine) (h : List Event) (r : List (Option Out)) (c w : ℕ) → Sound m h r c → m.next < length m.slots → (length h < c) × Sound (after m (Claim w)) (h ++ Claim w ∷ []) r c
  sound_claim m h r c w s free =
      let owing = owed_claim m.next w m.slots free in
      let events = s.events in let room = s.room in
      let len : length (set m.slots m.next (InHand w)) ≡ length m.slots = length-set m.slots m.next (InHand w) in
      let open_there : slice_get m.slots m.next ≡ Some Open = is_fresh m h s.replayed s.legal m.next (omega arith) free in
      let more = length-append h (Claim w ∷ []) in (
        omega arith,
        rw (claimed m w free) (record {
          replayed = rw (len, replay_append (start (length m.slots)) h (Claim w ∷ []), ← s.replayed) (sym (claimed m w free));
          legal = rw len (legal_more (start (length m.slots)) h (Claim w) s.legal (subst (λ (z : Machine). IsLegal z (Claim w ∷ [])) s.replayed (free, tt)));
          count = s.count ∙ sym len;
          fits = λ job x at. elim (same_or_not job m.next) [
            | inl e ↦
                let o = s.fits m.next Open open_there in
                let is : x ≡ InHand w = same_Some x (InHand w) (sym at ∙ (ap (slice_get (set m.slots m.next (InHand w))) e ∙ get_set_here m.slots m.next (InHand w) free)) in
                (o.0, ap (slice_get r) e ∙ o.1, subst (λ (z : Slot). HasResult z o.0) (sym is) o.2)
            | inr n ↦ s.fits job x (sym (get_set_other m.slots m.next job (InHand w) n) ∙ at)
          ];
          events = rw (len, add-one) (omega arith);
          room = omega arith;
          low = rw len (omega arith);
        }),
      )

  -- a job in hand becomes x, with its result
  pub sound_settle : (m : Machine) (h : List Event) (r r' : List (Option Out)) (c job w : ℕ) (x : Slot) (y : Option Out) (e : Event) → Sound m h r c → slice_get m.slots job ≡ Some (InHand w) → events_left x ≡ 0 → HasResult x y
      → length r' ≡ length r → slice_get r' job ≡ Some y → ((i : ℕ) → i ≢ job → slice_get r' i ≡ slice_get r i)
      → after m e ≡ record { next = m.next; slots = slice_set m.slots job x } → IsLegal m (e ∷ [])
      → (length h < c) × Sound (record { next = m.next; slots = slice_set m.slots job x }) (h ++ e ∷ []) r' c
  sound_settle m h r r' c job w x y e s held light has count there same makes may =
      let drawn = below_next m job w (is_fresh m h s.replayed s.legal) held in
      let owing = owed_settle m.next job w x m.slots held drawn light in
      let events = s.events in let room = s.room in
      let len : length (set m.slots job x) ≡ length m.slots = length-set m.slots job x in
      let more = length-append h (e ∷ []) in (
        omega arith,
        record {
          replayed = rw (len, replay_append (start (length m.slots)) h (e ∷ []), ← s.replayed) (sym makes);
          legal = rw len (legal_more (start (length m.slots)) h e s.legal (subst (λ (z : Machine). IsLegal z (e ∷ [])) s.replayed may));
          count = count ∙ (s.count ∙ sym len);
          fits = λ i z at. elim (same_or_not i job) [
            | inl q ↦
                let is : z ≡ x = same_Some z x (sym at ∙ (ap (slice_get (set m.slots job x)) q ∙ get_set_here m.slots job x (slice_get_within m.slots job (InHand w) held))) in
                (y, ap (slice_get r') q ∙ there, subst (λ (k : Slot). HasResult k y) (sym is) has)
            | inr n ↦
                let o = s.fits i z (sym (get_set_other m.slots job i x n) ∙ at) in
                (o.0, same i n ∙ o.1, o.2)
          ];
          events = rw len (omega arith);
          room = omega arith;
          low = rw len s.low;
        },
      )

  pub sound_deposit : (m : Machine) (h : List Event) (r : List (Option Out)) (c job w : ℕ) (out : Out) → Sound m h r c → slice_get m.slots job ≡ Some (InHand w)
      → (length h < c) × (job < length r) × Sound (after m (Deposit w job)) (h ++ Deposit w job ∷ []) (slice_set r job (Some out)) c
  sound_deposit m h r c job w out s held =
      let low : job < length r = let a = slice_get_within m.slots job (InHand w) held in let b = s.count in omega arith in
      let k = sound_settle m h r (slice_set r job (Some out)) c job w (Done w) (Some out) (Deposit w job) s held refl (out, refl) (length-set r job (Some out)) (get_set_here r job (Some out) low) (λ i n. get_set_other r job i (Some out) n) refl (held, tt) in
      (k.0, low, k.1)

  pub sound_give_back : (m : Machine) (h : List Event) (r : List (Option Out)) (c job w : ℕ) → Sound m h r c → slice_get m.slots job ≡ Some (InHand w)
      → (length h < c) × Sound (after m (GiveBack w job)) (h ++ GiveBack w job ∷ []) r c
  sound_give_back m h r c job w s held =
      let o = s.fits job (InHand w) held in
      sound_settle m h r r c job w Open None (GiveBack w job) s held refl refl refl (o.1 ∙ ap Some o.2) (λ i n. refl) refl (held, tt)
