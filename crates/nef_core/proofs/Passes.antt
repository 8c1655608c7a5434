-- What a pass knows still fits the machine after each kind of step.
use Rattle.nef_core.proofs.Prelude.{◌≡◌, ◌≢◌, ℕ, ◌+◌, ◌<◌, [], ◌∷◌, length, refl, ap, sym, ◌∙◌, Option, Some, slice_get, slice_set, inl, inr, subst, IfSome, arith, false≢true, slice_get_within, State as Machine, Slot, Open, InHand, Done}
use Rattle.nef_core.specs.Passes.{first_view, cut, new_view, taken_in, holding, at_end, deposited, gave_back, Fits}
use Rattle.nef_core.specs.declared.board.View.{View}
use Rattle.nef_core.proofs.Places.{get_set_here, same_or_not}
use Rattle.nef_core.proofs.Deposits.{open_not_done, held_not_done, done_moved, done_append, keeps_done, hand_moved}

module _ (jobs seats : ℕ) (m : Machine) where
  pub fits_first : 0 < seats → Fits jobs seats m 1 0 (first_view jobs seats)
  fits_first some_seat = record {
    number = refl;
    jobs_are = refl;
    hand = tt;
    deposits = tt;
    ended = λ e. absurd (false≢true e);
    only_first = λ n. absurd (n refl);
    room = λ q. (refl, omega arith);
  }

  -- only the first pass makes others
  pub makes : (count place : ℕ) (v : View) → 0 < v.spare → Fits jobs seats m count place v → place ≡ 0
  makes count place v left f = elim (same_or_not place 0) [ inl e ↦ e | inr n ↦ absurd (let z = f.only_first n in omega arith) ]

  pub fits_cut : (count place : ℕ) (v : View) → 0 < v.spare → Fits jobs seats m count place v → Fits jobs seats m (count + 1) place (cut v)
  fits_cut count place v left f = let room = f.room left in record {
    number = f.number;
    jobs_are = f.jobs_are;
    hand = f.hand;
    deposits = f.deposits;
    ended = f.ended;
    only_first = λ n. absurd (n (makes count place v left f));
    room = λ q. (omega arith, omega arith);
  }

  pub fits_new : (count place : ℕ) (v : View) → 0 < v.spare → Fits jobs seats m count place v → Fits jobs seats m (count + 1) count (new_view v)
  fits_new count place v left f = record {
    number = (f.room left).0;
    jobs_are = f.jobs_are;
    hand = tt;
    deposits = tt;
    ended = λ e. absurd (false≢true e);
    only_first = λ n. refl;
    room = λ q. absurd (omega arith);
  }

  -- a pass beside the one that makes another
  pub fits_beside : (count place : ℕ) (v : View) (other : ℕ) (w : View) → 0 < v.spare → Fits jobs seats m count place v → other ≢ place → Fits jobs seats m count other w → Fits jobs seats m (count + 1) other w
  fits_beside count place v other w left f apart g = record {
    number = g.number;
    jobs_are = g.jobs_are;
    hand = g.hand;
    deposits = g.deposits;
    ended = g.ended;
    only_first = g.only_first;
    room = λ q. absurd (apart (makes count other w q g ∙ sym (makes count place v left f)));
  }

  pub fits_taken_in : (count place : ℕ) (v : View) (other : ℕ) (w : View) → Fits jobs seats m count place v → Fits jobs seats m count other w → Fits jobs seats m count place (taken_in v w)
  fits_taken_in count place v other w f g = record {
    number = f.number;
    jobs_are = f.jobs_are;
    hand = f.hand;
    deposits = done_append m.slots v.deposits w.deposits f.deposits g.deposits;
    ended = f.ended;
    only_first = f.only_first;
    room = f.room;
  }

  pub fits_at_end : (count place : ℕ) (v : View) → m.next ≡ jobs → Fits jobs seats m count place v → Fits jobs seats m count place (at_end v)
  fits_at_end count place v past f = record {
    number = f.number;
    jobs_are = f.jobs_are;
    hand = f.hand;
    deposits = f.deposits;
    ended = λ e. past;
    only_first = f.only_first;
    room = f.room;
  }

  -- the job in the hand of a pass
  pub held_in : (count place : ℕ) (v : View) (job : ℕ) → v.hand ≡ Some job → Fits jobs seats m count place v → slice_get m.slots job ≡ Some (InHand place)
  held_in count place v job hand f = subst (λ (h : Option ℕ). IfSome h (λ i. slice_get m.slots i ≡ Some (InHand place))) hand f.hand

  -- the next job is open and is claimed
  pub fits_holding : (count place : ℕ) (v : View) → length m.slots ≡ jobs → slice_get m.slots m.next ≡ Some Open → Fits jobs seats m count place v
      → Fits jobs seats (record { next = m.next + 1; slots = slice_set m.slots m.next (InHand place) }) count place (holding v m.next)
  fits_holding count place v all at f =
      let low : m.next < length m.slots = slice_get_within m.slots m.next Open at in record {
        number = f.number;
        jobs_are = f.jobs_are;
        hand = get_set_here m.slots m.next (InHand place) low;
        deposits = done_moved m.slots (slice_set m.slots m.next (InHand place)) v.deposits (keeps_done m.slots m.next (InHand place) Open at open_not_done) f.deposits;
        ended = λ e. absurd (let k = f.ended e in omega arith);
        only_first = f.only_first;
        room = f.room;
      }

  pub fits_deposited : (count place : ℕ) (v : View) (job : ℕ) → v.hand ≡ Some job → Fits jobs seats m count place v
      → Fits jobs seats (record { next = m.next; slots = slice_set m.slots job (Done place) }) count place (deposited v job)
  fits_deposited count place v job hand f =
      let held = held_in count place v job hand f in
      let now : slice_get (slice_set m.slots job (Done place)) job ≡ Some (Done place) = get_set_here m.slots job (Done place) (slice_get_within m.slots job (InHand place) held) in
      record {
        number = f.number;
        jobs_are = f.jobs_are;
        hand = tt;
        deposits = done_append (slice_set m.slots job (Done place)) v.deposits ((job, v.number) ∷ [])
            (done_moved m.slots (slice_set m.slots job (Done place)) v.deposits (keeps_done m.slots job (Done place) (InHand place) held (held_not_done place)) f.deposits)
            (now ∙ ap (λ (z : ℕ). Some (Done z)) (sym f.number), tt);
        ended = f.ended;
        only_first = f.only_first;
        room = f.room;
      }

  pub fits_gave_back : (count place : ℕ) (v : View) (job : ℕ) → v.hand ≡ Some job → Fits jobs seats m count place v
      → Fits jobs seats (record { next = m.next; slots = slice_set m.slots job Open }) count place (gave_back v)
  fits_gave_back count place v job hand f =
      let held = held_in count place v job hand f in
      record {
        number = f.number;
        jobs_are = f.jobs_are;
        hand = tt;
        deposits = done_moved m.slots (slice_set m.slots job Open) v.deposits (keeps_done m.slots job Open (InHand place) held (held_not_done place)) f.deposits;
        ended = f.ended;
        only_first = f.only_first;
        room = f.room;
      }

  -- a pass that takes no part
  pub fits_moved : (next i : ℕ) (x y : Slot) (count place : ℕ) (u : View) → slice_get m.slots i ≡ Some y → (Some y ≡ Some (InHand place) → ⊥) → ((w : ℕ) → Some y ≡ Some (Done w) → ⊥) → (m.next ≡ jobs → next ≡ jobs)
      → Fits jobs seats m count place u → Fits jobs seats (record { next = next; slots = slice_set m.slots i x }) count place u
  fits_moved next i x y count place u at n d end f = record {
    number = f.number;
    jobs_are = f.jobs_are;
    hand = hand_moved m.slots i place x y u.hand at n f.hand;
    deposits = done_moved m.slots (slice_set m.slots i x) u.deposits (keeps_done m.slots i x y at d) f.deposits;
    ended = λ e. end (f.ended e);
    only_first = f.only_first;
    room = f.room;
  }
