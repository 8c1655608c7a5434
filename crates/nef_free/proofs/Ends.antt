-- The board when it is made and when it is closed.
use Rattle.nef_free.proofs.Prelude.{◌≡◌, ℕ, zero, suc, ◌+◌, ◌^◌, ◌<◌, List, [], ◌∷◌, map, length, refl, ap, sym, ◌∙◌, Option, Some, None, slice_get, slice_index, arith, ◌⊎◌, inl, inr, true, subst, replicate, if◌then◌else◌, ◌==◌, get_or-replicate, length-replicate, slice_get_within, State, opening, Final, Seen, start, replay, has_job, Slot, Open, InHand, Done, get_replicate, only_one, among, View, first_view, Fits, fits_first, SlotIs, ShowsMachine, Kept, same_Some}
use mathlib.Core.Option.{some}
use lib.ListN.{get_elem?}
use Rattle.nef_core.specs.Machine.{State as Machine}
use Rattle.nef_core.specs.Results.{HasResult, IsClosedWith}
use Rattle.nef_core.proofs.Facts.{some-some}

some_none : {X : Type 0} (x : X) → Some (Some x) ≡ Some None → ⊥
some_none x e = cc

home_empty : {X : Type 0} (n i : ℕ) (x : X) → i < n → get_elem? (map some (replicate n x)) i ≡ some (some x)
home_empty zero i x h = absurd (omega arith)
home_empty (suc n) zero x h = refl
home_empty (suc n) (suc i) x h = home_empty n i x (omega arith)

home_count : {X : Type 0} (n : ℕ) (x : X) → length (map some (replicate n x)) ≡ n
home_count zero x = refl
home_count (suc n) x = ap suc (home_count n x)

word_there : (l : List ℕ) (i : ℕ) → i < length l → get_elem? l i ≡ some (slice_index l i)
word_there [] i h = absurd (omega arith)
word_there (x ∷ xs) zero h = refl
word_there (x ∷ xs) (suc i) h = word_there xs i (omega arith)

there : {A : Type 0} (l : List A) (i : ℕ) → i < length l → (a : A) × (get_elem? l i ≡ some a)
there [] i h = absurd (omega arith)
there (x ∷ xs) zero h = (x, refl)
there (x ∷ xs) (suc i) h = there xs i (omega arith)

module _ {Out : Type 0} (right : ℕ → Out → Type 0) (jobs seats : ℕ) where
  pub opens : jobs + seats < 2 ^ 64 → 0 < seats → Kept jobs seats right (opening (replicate (jobs + 1) 0) (replicate jobs None) (first_view jobs seats))
  opens small some_seat =
      let word : (i : ℕ) → i < jobs + 1 → slice_index (replicate (jobs + 1) 0) i ≡ 0 = λ i h. get_or-replicate (jobs + 1) i 0 0 h in
      let first = word 0 (omega arith) in (
        [],
        tt,
        record {
          words = length-replicate (jobs + 1) 0;
          homes = home_count jobs None;
          small = small;
          next = omega arith;
          slots = length-replicate jobs Open;
          each = λ job h. (Open, get_replicate jobs job Open h, (home_empty jobs job None h, inr (word (job + 1) (omega arith), omega arith)));
          views = λ place u h alive.
              let o = only_one place (first_view jobs seats) u h in
              subst (λ (z : View). Fits jobs seats (start jobs) 1 place z) o.1 (subst (λ (p : ℕ). Fits jobs seats (start jobs) 1 p (first_view jobs seats)) (sym o.0) (fits_first jobs seats (start jobs) some_seat));
          few = some_seat;
          drawn = omega arith;
        },
      )

  -- what a slot has when the table is closed
  closed_slot : (s : State (Option Out) View) (xs : List (Option Out)) (rs : List (Option Out)) (job : ℕ) (x : Slot) → job < length xs → SlotIs right s job x
      → ((y : Option Out) → get_elem? s.homes job ≡ some (some y) → get_elem? xs job ≡ some y)
      → ((y : Option Out) → get_elem? xs job ≡ some y → slice_get rs job ≡ Some (if slice_index s.words (job + 1) == 1 then y else None))
      → (slice_get rs job ≡ Some None) ⊎ ((w : ℕ) × (out : Out) × (x ≡ Done w) × (slice_get rs job ≡ Some (Some out)) × right job out)
  closed_slot s xs rs job Open low p home each = elim p.1 [
    | inl q ↦ inl (rw q.0 at (each None (home None p.0)))
    | inr q ↦ inl (rw q.0 at (each None (home None p.0)))
  ]
  closed_slot s xs rs job (InHand w) low p home each = let y = there xs job low in inl (rw p.0 at (each y.0 y.1))
  closed_slot s xs rs job (Done w) low p home each = inr (w, p.2.0, refl, rw p.0 at (each (Some p.2.0) (home (Some p.2.0) p.2.1)), p.2.2)

  done_slot : (s : State (Option Out) View) (xs : List (Option Out)) (rs : List (Option Out)) (job : ℕ) (x : Slot) (w : ℕ) → x ≡ Done w → SlotIs right s job x
      → ((y : Option Out) → get_elem? s.homes job ≡ some (some y) → get_elem? xs job ≡ some y)
      → ((y : Option Out) → get_elem? xs job ≡ some y → slice_get rs job ≡ Some (if slice_index s.words (job + 1) == 1 then y else None))
      → (out : Out) × (slice_get rs job ≡ Some (Some out))
  done_slot s xs rs job x w is p home each =
      let q = subst (λ (z : Slot). SlotIs right s job z) is p in
      (q.2.0, rw q.0 at (each (Some q.2.0) (home (Some q.2.0) q.2.1)))

  fits_slot : (s : State (Option Out) View) (xs : List (Option Out)) (rs : List (Option Out)) (job : ℕ) (x : Slot) → job < length xs → SlotIs right s job x
      → ((y : Option Out) → get_elem? s.homes job ≡ some (some y) → get_elem? xs job ≡ some y)
      → ((y : Option Out) → get_elem? xs job ≡ some y → slice_get rs job ≡ Some (if slice_index s.words (job + 1) == 1 then y else None))
      → (r : Option Out) × (slice_get rs job ≡ Some r) × HasResult x r
  fits_slot s xs rs job Open low p home each = elim p.1 [
    | inl q ↦ (None, rw q.0 at (each None (home None p.0)), refl)
    | inr q ↦ (None, rw q.0 at (each None (home None p.0)), refl)
  ]
  fits_slot s xs rs job (InHand w) low p home each = let y = there xs job low in (None, rw p.0 at (each y.0 y.1), refl)
  fits_slot s xs rs job (Done w) low p home each = (Some p.2.0, rw p.0 at (each (Some p.2.0) (home (Some p.2.0) p.2.1)), (p.2.0, refl))

  -- what the slots have when the table is closed, by the word of each
  abbrev Gathered : List ℕ → List (Option Out) → List (Option Out) → Type 0
  Gathered ws xs rs = (i n : ℕ) (y : Option Out) → get_elem? ws (i + 1) ≡ some n → get_elem? xs i ≡ some y → slice_get rs i ≡ Some (if n == 1 then y else None)

  at_word : (m : Machine) (s : State (Option Out) View) (ws : List ℕ) (xs rs : List (Option Out)) → ShowsMachine right jobs seats m s → s.words ≡ ws → Gathered ws xs rs
      → (job : ℕ) → job < jobs → (y : Option Out) → get_elem? xs job ≡ some y → slice_get rs job ≡ Some (if slice_index s.words (job + 1) == 1 then y else None)
  at_word m s ws xs rs sh same each job h y q = each job (slice_index s.words (job + 1)) y (ap (λ (l : List ℕ). get_elem? l (job + 1)) (sym same) ∙ word_there s.words (job + 1) (let l = sh.words in omega arith)) q

  pub ends : (id : ℕ) (v : View) (ws : List ℕ) (xs rs : List (Option Out)) → Final (Seen (Kept jobs seats right) id v) ws xs → v.live ≡ true → Gathered ws xs rs → length rs ≡ jobs
      → ((job : ℕ) (out : Out) → slice_get rs job ≡ Some (Some out) → right job out)
      × ((job : ℕ) → has_job job v.deposits ≡ true → (out : Out) × (slice_get rs job ≡ Some (Some out)))
      × IsClosedWith jobs v.deposits rs
  ends id v ws xs rs final live each len =
      let s = final.0 in
      let kept = final.1.0 in
      let sh = kept.2 in
      let m : Machine = replay (start jobs) kept.0 in
      let fv = sh.views id v final.1.1 live in
      let word = at_word m s ws xs rs sh final.2 each in
      let low_of : (job : ℕ) (x : Slot) → slice_get m.slots job ≡ Some x → job < jobs = λ job x at. let k = slice_get_within m.slots job x at in let n = sh.slots in omega arith in
      let slot : (job : ℕ) (h : job < jobs) → (slice_get rs job ≡ Some None) ⊎ ((w : ℕ) × (out : Out) × ((sh.each job h).0 ≡ Done w) × (slice_get rs job ≡ Some (Some out)) × right job out) = λ job h.
      let o = sh.each job h in
      closed_slot s xs rs job o.0 (let a = final.3 in let b = sh.homes in omega arith) o.2 (λ y q. final.4 job y q) (word job h)
      in (
        (λ job out h.
            elim (slot job (let k = slice_get_within rs job (Some out) h in omega arith)) [
              | inl none_there ↦ absurd (some_none out (sym h ∙ none_there))
              | inr q ↦ subst (λ (o : Out). right job o) (some-some q.1 out (sym q.3 ∙ h)) q.4
            ]),
        (λ job h.
            let d = among m.slots job v.deposits h fv.deposits in
            let low = low_of job (Done d.0) d.1 in
            let o = sh.each job low in
            let done : o.0 ≡ Done d.0 = same_Some o.0 (Done d.0) (sym o.1 ∙ d.1) in
            done_slot s xs rs job o.0 d.0 done o.2 (λ y q. final.4 job y q) (word job low)),
        (
          kept.0,
          kept.1,
          fv.deposits,
          (λ job x at.
              let low = low_of job x at in
              let o = sh.each job low in
              let is : o.0 ≡ x = same_Some o.0 x (sym o.1 ∙ at) in
              fits_slot s xs rs job x (let a = final.3 in let b = sh.homes in omega arith) (subst (λ (z : Slot). SlotIs right s job z) is o.2) (λ y q. final.4 job y q) (word job low)),
        ),
      )
