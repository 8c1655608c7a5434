-- The board when it is made.
use Rattle.nef_board.proofs.Prelude.{◌≡◌, ℕ, zero, suc, ◌*◌, ◌<◌, ◌≤◌, List, [], ◌∷◌, length, refl, ap, sym, ◌∙◌, Option, Some, None, slice_get, arith, subst, replicate, length-replicate, slice_get_within, opening, State as Machine, start, Slot, Open, InHand, Event, get_replicate, only_one, open_not_held, HasResult, BoardState, LockView, owed, Sound, IsSound, first_view, Fits, fits_first, SawIs, Kept, same_Some}

owed_start : (n : ℕ) → owed 0 (replicate n Open) ≡ 2 * n
owed_start zero = refl
owed_start (suc n) = let k = owed_start n in omega arith

none_not_out : {Out : Type 0} (out : Out) → Some None ≡ Some (Some out) → ⊥
none_not_out out e = cc

all_open : (n job : ℕ) (x : Slot) → slice_get (replicate n Open) job ≡ Some x → x ≡ Open
all_open n job x e = same_Some x Open (sym e ∙ get_replicate n job Open (let k = slice_get_within (replicate n Open) job x e in let l = length-replicate n Open in omega arith))

abbrev none_of : (Out : Type 0) → Option Out
none_of Out = None

module _ {Out : Type 0} where
  no_result : none_of Out ≡ none_of Out → HasResult {Out = Out} Open None
  no_result e = e

  sound_start : (jobs capacity : ℕ) (h : List Event) (r : List (Option Out)) (m : Machine) → m ≡ start jobs → h ≡ [] → r ≡ replicate jobs None → 2 * jobs ≤ capacity → Sound m h r capacity
  sound_start jobs capacity h r m a b c room =
      let len : length (replicate jobs Open) ≡ jobs = length-replicate jobs Open in
      let owing = owed_start jobs in
      rw (a, b, c) (record {
        replayed = ap start (sym len);
        legal = tt;
        count = length-replicate jobs None ∙ sym len;
        fits = λ job x e. (
          None,
          get_replicate jobs job None (let k = slice_get_within (replicate jobs Open) job x e in omega arith),
          subst (λ (z : Slot). HasResult {Out = Out} z None) (sym (all_open jobs job x e)) (no_result refl),
        );
        events = rw len (omega arith);
        room = rw len room;
        low = omega arith;
      })

  pub opens : (right : ℕ → Out → Type 0) (jobs seats : ℕ) (words : List ℕ) (slots : List (BoardState Out)) (b : BoardState Out) → words ≡ 0 ∷ [] → slots ≡ b ∷ [] → b.machine ≡ start jobs → b.results.items ≡ replicate jobs None → IsSound b → 0 < seats
      → Kept jobs seats right (opening words slots (first_view jobs seats))
  opens right jobs seats words slots b ws ss machine results sound some_seat =
      rw (ws, ss) (
        None,
        b,
        record {
          words = refl;
          homes = refl;
          placed = (refl, refl);
          sound = sound;
          jobs_are = ap (λ (z : Machine). length z.slots) machine ∙ length-replicate jobs Open;
          fit = λ job out e.
              let e' : slice_get (replicate jobs None) job ≡ Some (Some out) = ap (λ (z : List (Option Out)). slice_get z job) (sym results) ∙ e in
              let low = slice_get_within (replicate jobs None) job (Some out) e' in
              let l : length (replicate jobs (none_of Out)) ≡ jobs = length-replicate jobs (none_of Out) in
              absurd (none_not_out out (sym (get_replicate jobs job None (omega arith)) ∙ e'));
          held = λ job n e.
              let e' : slice_get (replicate jobs Open) job ≡ Some (InHand n) = ap (λ (z : Machine). slice_get z.slots job) (sym machine) ∙ e in
              absurd (open_not_held n (ap Some (sym (all_open jobs job (InHand n) e'))));
          views = λ place u h alive.
              let o = only_one place (first_view jobs seats) u h in
              let P : ℕ → LockView Out → Type 0 = λ p z. Fits jobs seats b.machine 1 p z.known × SawIs None b p z in
              subst (λ (z : LockView Out). P place z) o.1 (subst (λ (p : ℕ). P p (first_view jobs seats)) (sym o.0) (fits_first jobs seats b.machine some_seat, refl));
          there = tt;
          few = some_seat;
        },
      )

  pub sound_of : (jobs capacity : ℕ) (h : List Event) (r : List (Option Out)) (m : Machine) → m ≡ start jobs → h ≡ [] → r ≡ replicate jobs None → 2 * jobs ≤ capacity → Sound m h r capacity
  sound_of = sound_start
