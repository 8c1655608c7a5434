-- Taking the turn and freeing it keep the rule.
use Rattle.nef_board.proofs.Prelude.{◌≡◌, ℕ, ◌+◌, ◌<◌, ◌≤◌, ◌≢◌, List, [], ◌∷◌, ◌++◌, length, refl, ap, sym, ◌∙◌, Option, Some, None, slice_get, slice_set, slice_index, arith, ◌⊎◌, inl, inr, true, false, subst, set, IfSome, MatchBool, ◌==◌, length-set, get_or-set_same, set-get_or, slice_get_within, Me, rest, step, Act, keeps, takes, gives, stepped, Allows, Splits, Joins, Final, Seen, Valid, carried_after, at_set, set_here, set_else, set_again, State as Machine, after, Slot, Open, InHand, Done, Claim, Deposit, GiveBack, get_set_here, get_set_other, same_or_not, within, at_length, below_last, open_not_held, open_not_done, held_not_done, done_not_held, held_by, not_among, among, claimed, past_is_same, BoardState, deposited, Fits, fits_cut, fits_new, fits_beside, fits_taken_in, fits_at_end, fits_holding, fits_deposited, fits_gave_back, fits_moved, held_in, LockView, IsSound, seeing, claimed_view, ended_view, deposited_view, back_view, job_in, cut, new_view, taken_in, spent, IsStateAt, IsTurnHeld, SawIs, ShowsMachine, Kept, HasTurn, FoundState, TookTurn, Claimed, SawEnd, Deposited, GaveBack, AllDone, ResultsFit, IsClosedWith, length-append, at_longer}
use Rattle.std.proofs.lemmas.Bool.Decides.{nat_tests}
use mathlib.Core.Option.{some, none, some-injective}
use prog.Atomic.{either}
use lib.ListN.{get_elem?}
use Rattle.atomic_table.specs.Table.{State}
use Rattle.nef_core.specs.declared.board.View.{View}
use Rattle.nef_board.proofs.Sounds.{is_fresh}
use Rattle.nef_core.specs.Views.{has_job}
use Rattle.nef_core.proofs.Facts.{none-not_some, some-some}
use Rattle.std.proofs.lemmas.Option.{same_Some}
use Rattle.std.proofs.lemmas.Bool.{false≢true}

job_is : (h : Option ℕ) (job : ℕ) → h ≡ Some job → job_in h ≡ job
job_is None job e = absurd (none-not_some None job refl e)
job_is (Some i) job e = same_Some i job e

-- what the slot that was taken last has
abbrev first_slot : {S : Type 0} → S → List (ℕ × S) → S
first_slot d [] = d
first_slot d (x ∷ xs) = x.1

-- a pass that has the turn carries the slot
pub slot_held : {Out : Type 0} (v : LockView Out) (w : Me (BoardState Out) (LockView Out)) → HasTurn v w → (b : BoardState Out) × (w.1 ≡ (0, b) ∷ rest w.1)
slot_held {Out = Out} v w turn = (turn.0, turn.2 ∙ ap (λ (l : List (ℕ × BoardState Out)). (0, turn.0) ∷ l) (sym (ap rest turn.2)))

-- what is lent of the slot is the state that was found
pub state_held : {Out : Type 0} (v : LockView Out) (w : Me (BoardState Out) (LockView Out)) (b : BoardState Out) → HasTurn v w → w.1 ≡ (0, b) ∷ rest w.1 → (w.0 ≡ seeing v b) × (w.1 ≡ (0, b) ∷ []) × FoundState v.known b
state_held {Out = Out} v w b turn slot =
    let same : turn.0 ≡ b = ap (first_slot b) (sym turn.2 ∙ slot) in
    subst (λ (z : BoardState Out). (w.0 ≡ seeing v z) × (w.1 ≡ (0, z) ∷ []) × FoundState v.known z) same (turn.1, turn.2, turn.3)

-- the next job is not among the deposits that are done
pub not_among_next : (m : Machine) (ds : List (ℕ × ℕ)) → slice_get m.slots m.next ≡ Some Open → AllDone m.slots ds → has_job m.next ds ≡ false
not_among_next m ds at h = not_among m.slots m.next Open ds at open_not_done h

module _ {Out : Type 0} (right : ℕ → Out → Type 0) (jobs seats : ℕ) where
  -- a fact of each live pass but one, and of that one afterwards
  each_view : (P : ℕ → LockView Out → Type 0) (views : List (LockView Out)) (k : ℕ) (w : LockView Out) → P k w → ((place : ℕ) (u : LockView Out) → place ≢ k → get_elem? views place ≡ some u → u.known.live ≡ true → P place u)
      → (place : ℕ) (u : LockView Out) → get_elem? (set views k w) place ≡ some u → u.known.live ≡ true → P place u
  each_view P views k w mine others place u h live =
      elim (at_set views k place w u h) [
        | inl q ↦ subst (λ (z : LockView Out). P place z) q.1 (subst (λ (p : ℕ). P p w) (sym q.0) mine)
        | inr q ↦ others place u q.0 q.1 live
      ]

  -- the turn is taken
  pub takes_turn : (s : State (BoardState Out) (LockView Out)) (k : ℕ) (v : LockView Out) (b : BoardState Out) → ShowsMachine right jobs seats None b s → get_elem? s.views k ≡ some v → v.known.live ≡ true → ShowsMachine right jobs seats (Some k) b (stepped s 0 1 k [] (seeing v b) (takes 0 b))
  takes_turn s k v b sh at live =
      let fv = sh.views k v at live in
      let len : length (set s.views k (seeing v b)) ≡ length s.views = length-set s.views k (seeing v b) in
      record {
        words = length-set s.words 0 1 ∙ sh.words;
        homes = length-set s.homes 0 none ∙ sh.homes;
        placed = (get_or-set_same s.words 0 1 0 (let l = sh.words in omega arith), set_here s.homes 0 none (let l = sh.homes in omega arith));
        sound = sh.sound;
        jobs_are = sh.jobs_are;
        fit = sh.fit;
        held = λ job n at_job.
            let o = sh.held job n at_job in
            elim (same_or_not n k) [
              | inl e ↦
                  let same : v ≡ o.0 = some-injective v o.0 (sym at ∙ (ap (get_elem? s.views) (sym e) ∙ o.1)) in
                  (seeing v b, ap (get_elem? (set s.views k (seeing v b))) e ∙ set_here s.views k (seeing v b) (within s.views k v at), live, ap (λ (z : LockView Out). z.known.hand) same ∙ o.3)
              | inr ne ↦ (o.0, set_else s.views k n (seeing v b) ne ∙ o.1, o.2, o.3)
            ];
        views = λ place u h alive. rw len (each_view (λ p z. Fits jobs seats b.machine (length s.views) p z.known × SawIs (Some k) b p z) s.views k (seeing v b)
            (fv.0, ((λ e. refl), (λ n. absurd (n refl))))
            (λ p z n there up. let o = sh.views p z there up in (o.0, ((λ e. absurd (n e)), (λ m. o.1))))
            place u h alive);
        there = rw len (within s.views k v at);
        few = rw len sh.few;
      }

  -- a try at the turn, by what the word is
  tries : (s : State (BoardState Out) (LockView Out)) (k : ℕ) (v : LockView Out) (turn : Option ℕ) (b : BoardState Out) → ShowsMachine right jobs seats turn b s → get_elem? s.views k ≡ some v → v.known.live ≡ true
      → (w : LockView Out) × (a : Act (BoardState Out)) × Valid s.homes [] a × Kept jobs seats right (stepped s 0 (either (slice_index s.words 0 == 0) 1 (slice_index s.words 0)) k [] w a) × MatchBool (slice_index s.words 0 == 0) ((c : BoardState Out) × (w ≡ seeing v c) × (carried_after [] a ≡ (0, c) ∷ []) × FoundState v.known c) ((w ≡ v) × (carried_after [] a ≡ []))
  tries s k v None b sh at live =
      let is : (slice_index s.words 0 == 0) ≡ true = let z = sh.placed.0 in grind (arith, nat_tests) in
      let f = (sh.views k v at live).0 in (
        seeing v b,
        takes 0 b,
        sh.placed.1,
        rw is (Some k, b, takes_turn s k v b sh at live),
        rw is (
          b,
          refl,
          refl,
          record {
            sound = sh.sound;
            jobs_are = sh.jobs_are ∙ sym f.jobs_are;
            hand = subst (λ (n : ℕ). IfSome v.known.hand (λ job. slice_get b.machine.slots job ≡ Some (InHand n))) (sym f.number) f.hand;
            deposits = f.deposits;
          },
        ),
      )
  tries s k v (Some other) b sh at live =
      let is : (slice_index s.words 0 == 0) ≡ false = let z = sh.placed.0 in grind (arith, nat_tests) in
      let same_words : slice_set s.words 0 (slice_index s.words 0) ≡ s.words = set-get_or s.words 0 0 in
      let same_views : slice_set s.views k v ≡ s.views = set_again s.views k v at in
      (v, keeps, tt, rw (is, same_words, same_views) (Some other, b, sh), rw is (refl, refl))

  pub takes_at : (slots k : ℕ) (v : LockView Out) (l : List (ℕ × BoardState Out)) → l ≡ [] → v.known.live ≡ true → Allows (Kept jobs seats right) slots k (v, l) 0 (λ n. either (n == 0) 1 n) (TookTurn (step slots 0 0 1 none) (v, l))
  takes_at slots k v l e live = subst (λ c. Allows (Kept jobs seats right) slots k (v, c) 0 (λ n. either (n == 0) 1 n) (TookTurn (step slots 0 0 1 none) (v, c))) (sym e) (λ s kept len at small. tries s k v kept.0 kept.1 kept.2 at live)

  none_not_this : (b c : BoardState Out) (o : Option (BoardState Out)) → o ≡ None → o ≡ Some c → ⊥
  none_not_this b c o p q = cc

  this_state : (b c : BoardState Out) (o : Option (BoardState Out)) → o ≡ Some b → o ≡ Some c → b ≡ c
  this_state b c o p q = cc

  -- who has seen a state has the turn, and it is the state of the board
  mine_is : (turn : Option ℕ) (b c : BoardState Out) (k : ℕ) (v : LockView Out) → SawIs turn b k v → v.saw ≡ Some c → (b ≡ c) × ((place : ℕ) (u : LockView Out) → place ≢ k → SawIs turn b place u → u.saw ≡ None)
  mine_is None b c k v is saw = absurd (none_not_this b c v.saw is saw)
  mine_is (Some n) b c k v is saw =
      elim (same_or_not k n) [
        | inl e ↦ (this_state b c v.saw (is.0 e) saw, (λ place u apart o. o.1 (λ q. apart (q ∙ sym e))))
        | inr ne ↦ absurd (none_not_this b c v.saw (is.1 ne) saw)
      ]

  -- the turn is freed, with another state
  frees_turn : (s : State (BoardState Out) (LockView Out)) (turn : Option ℕ) (k : ℕ) (v w : LockView Out) (b b' : BoardState Out) → ShowsMachine right jobs seats turn b s → get_elem? s.views k ≡ some v → v.known.live ≡ true → v.saw ≡ Some b
      → w.known.live ≡ true → w.saw ≡ None → IsSound b' → length b'.machine.slots ≡ jobs
      → ((job : ℕ) (out : Out) → slice_get b'.results.items job ≡ Some (Some out) → right job out)
      → Fits jobs seats b'.machine (length s.views) k w.known
      → ((place : ℕ) (u : LockView Out) → place ≢ k → Fits jobs seats b.machine (length s.views) place u.known → Fits jobs seats b'.machine (length s.views) place u.known)
      → ((job n : ℕ) → slice_get b'.machine.slots job ≡ Some (InHand n) → ((n ≡ k) × (w.known.hand ≡ Some job)) ⊎ ((slice_get b.machine.slots job ≡ Some (InHand n)) × (v.known.hand ≡ Some job → w.known.hand ≡ Some job)))
      → ShowsMachine right jobs seats None b' (stepped s 0 0 k ((0, b') ∷ []) w gives)
  frees_turn s turn k v w b b' sh at live saw alive away sound count fit mine others held =
      let fv = sh.views k v at live in
      let alone = (mine_is turn b b k v fv.1 saw).1 in
      let len : length (set s.views k w) ≡ length s.views = length-set s.views k w in
      record {
        words = length-set s.words 0 0 ∙ sh.words;
        homes = length-set s.homes 0 (some b') ∙ sh.homes;
        placed = (get_or-set_same s.words 0 0 0 (let l = sh.words in omega arith), set_here s.homes 0 (some b') (let l = sh.homes in omega arith));
        sound = sound;
        jobs_are = count;
        fit = fit;
        held = λ job n at_job. elim (held job n at_job) [
          | inl q ↦ (w, ap (get_elem? (set s.views k w)) q.0 ∙ set_here s.views k w (within s.views k v at), alive, q.1)
          | inr q ↦
              let o = sh.held job n q.0 in
              elim (same_or_not n k) [
                | inl e ↦
                    let same : v ≡ o.0 = some-injective v o.0 (sym at ∙ (ap (get_elem? s.views) (sym e) ∙ o.1)) in
                    (w, ap (get_elem? (set s.views k w)) e ∙ set_here s.views k w (within s.views k v at), alive, q.1 (ap (λ (z : LockView Out). z.known.hand) same ∙ o.3))
                | inr ne ↦ (o.0, set_else s.views k n w ne ∙ o.1, o.2, o.3)
              ]
        ];
        views = λ place u h up. rw len (each_view (λ p z. Fits jobs seats b'.machine (length s.views) p z.known × (z.saw ≡ None)) s.views k w
            (mine, away)
            (λ p z n there z_up. let o = sh.views p z there z_up in (others p z n o.0, alone p z n o.1))
            place u h up);
        there = tt;
        few = rw len sh.few;
      }

  -- the turn is freed after a claim that got a job
  pub claim_freed : (s : State (BoardState Out) (LockView Out)) (turn : Option ℕ) (k : ℕ) (v : LockView Out) (b b' : BoardState Out) → ShowsMachine right jobs seats turn b s → get_elem? s.views k ≡ some (seeing v b) → v.known.live ≡ true → v.known.hand ≡ None
      → IsSound b' → b'.machine ≡ after b.machine (Claim v.known.number) → b'.results.items ≡ b.results.items → b.machine.next < length b.machine.slots
      → ShowsMachine right jobs seats None b' (stepped s 0 0 k ((0, b') ∷ []) (claimed_view (seeing v b)) gives)
  claim_freed s turn k v b b' sh at live hand sound machine results free =
      let m : Machine = b.machine in
      let f = (sh.views k (seeing v b) at live).0 in
      let is : b'.machine ≡ record { next = m.next + 1; slots = slice_set m.slots m.next (InHand k) } = machine ∙ (ap (λ (n : ℕ). after m (Claim n)) f.number ∙ claimed m k free) in
      let open_there : slice_get m.slots m.next ≡ Some Open = is_fresh m b.history.items sh.sound.replayed sh.sound.legal m.next (omega arith) free in
      let P : Machine → Type 0 = λ z. Fits jobs seats z (length s.views) k (claimed_view (seeing v b)).known in
      let low : (m.next ≡ jobs → m.next + 1 ≡ jobs) = λ e. let c = sh.jobs_are in absurd (omega arith) in
      frees_turn s turn k (seeing v b) (claimed_view (seeing v b)) b b' sh at live refl live refl sound
      (ap (λ (z : Machine). length z.slots) is ∙ (length-set m.slots m.next (InHand k) ∙ sh.jobs_are))
      (λ job out e. sh.fit job out (ap (λ (z : List (Option Out)). slice_get z job) (sym results) ∙ e))
      (subst P (sym is) (fits_holding jobs seats m (length s.views) k v.known sh.jobs_are open_there f))
      (λ place u apart o. subst (λ (z : Machine). Fits jobs seats z (length s.views) place u.known) (sym is) (fits_moved jobs seats m (m.next + 1) m.next (InHand k) Open (length s.views) place u.known open_there (open_not_held place) open_not_done low o))
      (λ job n e.
      let e' : slice_get (slice_set m.slots m.next (InHand k)) job ≡ Some (InHand n) = ap (λ (z : Machine). slice_get z.slots job) (sym is) ∙ e in
      elim (same_or_not job m.next) [
        | inl q ↦ inl (held_by n k (sym e' ∙ (ap (slice_get (slice_set m.slots m.next (InHand k))) q ∙ get_set_here m.slots m.next (InHand k) free)), ap Some (sym q))
        | inr q ↦ inr (sym (get_set_other m.slots m.next job (InHand k) q) ∙ e', (λ h. absurd (none-not_some v.known.hand job hand h)))
      ])

  pub claims_at : (slots k : ℕ) (v : LockView Out) (b b' : BoardState Out) → v.known.live ≡ true → v.known.hand ≡ None → IsSound b' → b'.machine ≡ after b.machine (Claim v.known.number) → b'.results.items ≡ b.results.items → b.machine.next < length b.machine.slots
      → Allows (Kept jobs seats right) slots k (seeing v b, (0, b') ∷ []) 0 (λ n. 0) (λ n. Claimed (step slots 0 0 0 none) (seeing v b, (0, b') ∷ []) 0)
  claims_at slots k v b b' live hand sound machine results free s kept len at small =
      let saw = (kept.2.views k (seeing v b) at live).1 in
      let same : kept.1 ≡ b = (mine_is kept.0 kept.1 b k (seeing v b) saw refl).0 in
      let sh : ShowsMachine right jobs seats kept.0 b s = subst (λ (z : BoardState Out). ShowsMachine right jobs seats kept.0 z s) same kept.2 in
      (claimed_view (seeing v b), gives, tt, (None, b', claim_freed s kept.0 k v b b' sh at live hand sound machine results free), (refl, refl))

  -- the same, with what the code knows as equations
  pub claims_of : (slots k : ℕ) (u : LockView Out) (l : List (ℕ × BoardState Out)) (v : LockView Out) (b b' : BoardState Out) → u ≡ seeing v b → l ≡ (0, b') ∷ [] → v.known.live ≡ true → v.known.hand ≡ None → IsSound b' → b'.machine ≡ after b.machine (Claim v.known.number) → b'.results.items ≡ b.results.items → b.machine.next < length b.machine.slots
      → Allows (Kept jobs seats right) slots k (u, l) 0 (λ n. 0) (λ n. Claimed (step slots 0 0 0 none) (u, l) 0)
  claims_of slots k u l v b b' e q live hand sound machine results free =
      let P : LockView Out → List (ℕ × BoardState Out) → Type 0 = λ z c. Allows (Kept jobs seats right) slots k (z, c) 0 (λ n. 0) (λ n. Claimed (step slots 0 0 0 none) (z, c) 0) in
      subst (λ z. P z l) (sym e) (subst (λ c. P (seeing v b) c) (sym q) (claims_at slots k v b b' live hand sound machine results free))

  -- the turn is freed after a claim that got none
  pub end_freed : (s : State (BoardState Out) (LockView Out)) (turn : Option ℕ) (k : ℕ) (v : LockView Out) (b b' : BoardState Out) → ShowsMachine right jobs seats turn b s → get_elem? s.views k ≡ some (seeing v b) → v.known.live ≡ true
      → IsSound b' → b'.machine ≡ b.machine → b'.results.items ≡ b.results.items → length b.machine.slots ≤ b.machine.next
      → ShowsMachine right jobs seats None b' (stepped s 0 0 k ((0, b') ∷ []) (ended_view (seeing v b)) gives)
  end_freed s turn k v b b' sh at live sound same results past =
      let f = (sh.views k (seeing v b) at live).0 in
      frees_turn s turn k (seeing v b) (ended_view (seeing v b)) b b' sh at live refl live refl sound
      (ap (λ (z : Machine). length z.slots) same ∙ sh.jobs_are)
      (λ job out e. sh.fit job out (ap (λ (z : List (Option Out)). slice_get z job) (sym results) ∙ e))
      (subst (λ (z : Machine). Fits jobs seats z (length s.views) k (ended_view (seeing v b)).known) (sym same) (fits_at_end jobs seats b.machine (length s.views) k v.known (let a = sh.jobs_are in let c = sh.sound.low in omega arith) f))
      (λ place u apart o. subst (λ (z : Machine). Fits jobs seats z (length s.views) place u.known) (sym same) o)
      (λ job n e. inr (ap (λ (z : Machine). slice_get z.slots job) (sym same) ∙ e, (λ h. h)))

  -- the turn is freed after a job in hand became x
  settle_freed : (s : State (BoardState Out) (LockView Out)) (turn : Option ℕ) (k : ℕ) (v w : LockView Out) (b b' : BoardState Out) (job : ℕ) (x : Slot) → ShowsMachine right jobs seats turn b s → get_elem? s.views k ≡ some (seeing v b) → v.known.live ≡ true → v.known.hand ≡ Some job
      → w.known.live ≡ true → w.saw ≡ None → IsSound b' → b'.machine ≡ record { next = b.machine.next; slots = slice_set b.machine.slots job x } → ((n : ℕ) → Some x ≡ Some (InHand n) → ⊥)
      → ((i : ℕ) (out : Out) → slice_get b'.results.items i ≡ Some (Some out) → right i out)
      → Fits jobs seats (record { next = b.machine.next; slots = slice_set b.machine.slots job x }) (length s.views) k w.known
      → ShowsMachine right jobs seats None b' (stepped s 0 0 k ((0, b') ∷ []) w gives)
  settle_freed s turn k v w b b' job x sh at live hand alive away sound is not_held fit mine =
      let m : Machine = b.machine in
      let f = (sh.views k (seeing v b) at live).0 in
      let held : slice_get m.slots job ≡ Some (InHand k) = held_in jobs seats m (length s.views) k v.known job hand f in
      frees_turn s turn k (seeing v b) w b b' sh at live refl alive away sound
      (ap (λ (z : Machine). length z.slots) is ∙ (length-set m.slots job x ∙ sh.jobs_are))
      fit
      (subst (λ (z : Machine). Fits jobs seats z (length s.views) k w.known) (sym is) mine)
      (λ place u apart o. subst (λ (z : Machine). Fits jobs seats z (length s.views) place u.known) (sym is) (fits_moved jobs seats m m.next job x (InHand k) (length s.views) place u.known held (λ z. apart (sym (held_by k place z))) (held_not_done k) (λ z. z) o))
      (λ i n e.
      let e' : slice_get (slice_set m.slots job x) i ≡ Some (InHand n) = ap (λ (z : Machine). slice_get z.slots i) (sym is) ∙ e in
      elim (same_or_not i job) [
        | inl q ↦ absurd (not_held n (sym (get_set_here m.slots job x (slice_get_within m.slots job (InHand k) held)) ∙ (ap (slice_get (slice_set m.slots job x)) (sym q) ∙ e')))
        | inr q ↦ inr (sym (get_set_other m.slots job i x q) ∙ e', (λ h. absurd (q (same_Some i job (sym h ∙ hand)))))
      ])

  pub deposit_freed : (s : State (BoardState Out) (LockView Out)) (turn : Option ℕ) (k : ℕ) (v : LockView Out) (b b' : BoardState Out) (job : ℕ) (out : Out) → ShowsMachine right jobs seats turn b s → get_elem? s.views k ≡ some (seeing v b) → v.known.live ≡ true → v.known.hand ≡ Some job → right job out
      → IsSound b' → b'.machine ≡ after b.machine (Deposit v.known.number job) → b'.results.items ≡ slice_set b.results.items job (Some out)
      → ShowsMachine right jobs seats None b' (stepped s 0 0 k ((0, b') ∷ []) (deposited_view (seeing v b)) gives)
  deposit_freed s turn k v b b' job out sh at live hand fits sound machine results =
      let m : Machine = b.machine in
      let f = (sh.views k (seeing v b) at live).0 in
      let held : slice_get m.slots job ≡ Some (InHand k) = held_in jobs seats m (length s.views) k v.known job hand f in
      let low : job < length m.slots = slice_get_within m.slots job (InHand k) held in
      let is : b'.machine ≡ record { next = m.next; slots = slice_set m.slots job (Done k) } = machine ∙ ap (λ (n : ℕ). after m (Deposit n job)) f.number in
      settle_freed s turn k v (deposited_view (seeing v b)) b b' job (Done k) sh at live hand live refl sound is (done_not_held k)
      (λ i o e.
      let e' : slice_get (slice_set b.results.items job (Some out)) i ≡ Some (Some o) = ap (λ (z : List (Option Out)). slice_get z i) (sym results) ∙ e in
      elim (same_or_not i job) [
        | inl q ↦
            let same : out ≡ o = some-some out o (sym (get_set_here b.results.items job (Some out) (let c = sh.sound.count in omega arith)) ∙ (ap (slice_get (slice_set b.results.items job (Some out))) (sym q) ∙ e')) in
            subst (λ (z : Out). right i z) same (subst (λ (j : ℕ). right j out) (sym q) fits)
        | inr q ↦ sh.fit i o (sym (get_set_other b.results.items job i (Some out) q) ∙ e')
      ])
      (subst (λ (n : ℕ). Fits jobs seats (record { next = m.next; slots = slice_set m.slots job (Done k) }) (length s.views) k (deposited v.known n)) (sym (job_is v.known.hand job hand)) (fits_deposited jobs seats m (length s.views) k v.known job hand f))

  pub back_freed : (s : State (BoardState Out) (LockView Out)) (turn : Option ℕ) (k : ℕ) (v : LockView Out) (b b' : BoardState Out) (job : ℕ) → ShowsMachine right jobs seats turn b s → get_elem? s.views k ≡ some (seeing v b) → v.known.live ≡ true → v.known.hand ≡ Some job
      → IsSound b' → b'.machine ≡ after b.machine (GiveBack v.known.number job) → b'.results.items ≡ b.results.items
      → ShowsMachine right jobs seats None b' (stepped s 0 0 k ((0, b') ∷ []) (back_view (seeing v b)) gives)
  back_freed s turn k v b b' job sh at live hand sound machine results =
      let m : Machine = b.machine in
      let f = (sh.views k (seeing v b) at live).0 in
      settle_freed s turn k v (back_view (seeing v b)) b b' job Open sh at live hand live refl sound machine open_not_held
      (λ i o e. sh.fit i o (ap (λ (z : List (Option Out)). slice_get z i) (sym results) ∙ e))
      (fits_gave_back jobs seats m (length s.views) k v.known job hand f)

  -- a store that frees the turn, from what holds of the state that was seen
  frees_at : (Done' : LockView Out → LockView Out) (slots k : ℕ) (u : LockView Out) (l : List (ℕ × BoardState Out)) (v : LockView Out) (b b' : BoardState Out) → u ≡ seeing v b → l ≡ (0, b') ∷ [] → v.known.live ≡ true
      → ((s : State (BoardState Out) (LockView Out)) (turn : Option ℕ) → ShowsMachine right jobs seats turn b s → get_elem? s.views k ≡ some (seeing v b) → ShowsMachine right jobs seats None b' (stepped s 0 0 k ((0, b') ∷ []) (Done' (seeing v b)) gives))
      → Allows (Kept jobs seats right) slots k (u, l) 0 (λ n. 0) (λ n w. (w.0 ≡ Done' u) × (w.1 ≡ []))
  frees_at Done' slots k u l v b b' e q live shows =
      let P : LockView Out → List (ℕ × BoardState Out) → Type 0 = λ z c. Allows (Kept jobs seats right) slots k (z, c) 0 (λ n. 0) (λ n w. (w.0 ≡ Done' z) × (w.1 ≡ [])) in
      subst (λ z. P z l) (sym e) (subst (λ c. P (seeing v b) c) (sym q) (λ s kept len at small.
      let saw = (kept.2.views k (seeing v b) at live).1 in
      let same : kept.1 ≡ b = (mine_is kept.0 kept.1 b k (seeing v b) saw refl).0 in
      let sh : ShowsMachine right jobs seats kept.0 b s = subst (λ (z : BoardState Out). ShowsMachine right jobs seats kept.0 z s) same kept.2 in
      (Done' (seeing v b), gives, tt, (None, b', shows s kept.0 sh at), (refl, refl))))

  pub ends_of : (slots k : ℕ) (u : LockView Out) (l : List (ℕ × BoardState Out)) (v : LockView Out) (b b' : BoardState Out) → u ≡ seeing v b → l ≡ (0, b') ∷ [] → v.known.live ≡ true → IsSound b' → b'.machine ≡ after b.machine (Claim v.known.number) → b'.results.items ≡ b.results.items → length b.machine.slots ≤ b.machine.next
      → Allows (Kept jobs seats right) slots k (u, l) 0 (λ n. 0) (λ n. SawEnd (step slots 0 0 0 none) (u, l) 0)
  ends_of slots k u l v b b' e q live sound machine results past = frees_at ended_view slots k u l v b b' e q live (λ s turn sh at. end_freed s turn k v b b' sh at live sound (machine ∙ past_is_same b.machine v.known.number past) results past)

  pub deposits_of : (slots k : ℕ) (u : LockView Out) (l : List (ℕ × BoardState Out)) (v : LockView Out) (b b' : BoardState Out) (job : ℕ) (out : Out) → u ≡ seeing v b → l ≡ (0, b') ∷ [] → v.known.live ≡ true → v.known.hand ≡ Some job → right job out → IsSound b' → b'.machine ≡ after b.machine (Deposit v.known.number job) → b'.results.items ≡ slice_set b.results.items job (Some out)
      → Allows (Kept jobs seats right) slots k (u, l) 0 (λ n. 0) (λ n. Deposited (step slots 0 0 0 none) (u, l) 0)
  deposits_of slots k u l v b b' job out e q live hand fits sound machine results = frees_at deposited_view slots k u l v b b' e q live (λ s turn sh at. deposit_freed s turn k v b b' job out sh at live hand fits sound machine results)

  pub backs_of : (slots k : ℕ) (u : LockView Out) (l : List (ℕ × BoardState Out)) (v : LockView Out) (b b' : BoardState Out) (job : ℕ) → u ≡ seeing v b → l ≡ (0, b') ∷ [] → v.known.live ≡ true → v.known.hand ≡ Some job → IsSound b' → b'.machine ≡ after b.machine (GiveBack v.known.number job) → b'.results.items ≡ b.results.items
      → Allows (Kept jobs seats right) slots k (u, l) 0 (λ n. 0) (λ n. GaveBack (step slots 0 0 0 none) (u, l) 0)
  backs_of slots k u l v b b' job e q live hand sound machine results = frees_at back_view slots k u l v b b' e q live (λ s turn sh at. back_freed s turn k v b b' job sh at live hand sound machine results)

  saw_moved : (turn : Option ℕ) (b : BoardState Out) (place : ℕ) (v w : LockView Out) → w.saw ≡ v.saw → SawIs turn b place v → SawIs turn b place w
  saw_moved None b place v w e h = e ∙ h
  saw_moved (Some k) b place v w e h = ((λ q. e ∙ h.0 q), (λ n. e ∙ h.1 n))

  -- a new pass, at the place behind all others
  saw_new : (turn : Option ℕ) (b : BoardState Out) (count : ℕ) (w : LockView Out) → w.saw ≡ None → IsTurnHeld turn count → SawIs turn b count w
  saw_new None b count w e n = e
  saw_new (Some k) b count w e n = ((λ q. absurd (omega arith)), (λ m. e))

  there_more : (turn : Option ℕ) (count : ℕ) → IsTurnHeld turn count → IsTurnHeld turn (count + 1)
  there_more None count h = tt
  there_more (Some k) count h = omega arith

  placed_same : (turn : Option ℕ) (b : BoardState Out) (s t : State (BoardState Out) (LockView Out)) → t.words ≡ s.words → t.homes ≡ s.homes → IsStateAt turn b s → IsStateAt turn b t
  placed_same None b s t e h p = (ap (λ (l : List ℕ). slice_index l 0) e ∙ p.0, ap (λ l. get_elem? l 0) h ∙ p.1)
  placed_same (Some k) b s t e h p = (ap (λ (l : List ℕ). slice_index l 0) e ∙ p.0, ap (λ l. get_elem? l 0) h ∙ p.1)

  -- a hand that was there is there
  still : (views : List (LockView Out)) (k : ℕ) (v w : LockView Out) (job : ℕ) → get_elem? views k ≡ some v → (v.known.hand ≡ Some job → (w.known.live ≡ true) × (w.known.hand ≡ Some job))
      → (place : ℕ) (u : LockView Out) → get_elem? views place ≡ some u → u.known.live ≡ true → u.known.hand ≡ Some job
      → (t : LockView Out) × (get_elem? (set views k w) place ≡ some t) × (t.known.live ≡ true) × (t.known.hand ≡ Some job)
  still views k v w job at keep place u h live hand =
      elim (same_or_not place k) [
        | inl e ↦
            let same : v ≡ u = some-injective v u (sym at ∙ (ap (get_elem? views) (sym e) ∙ h)) in
            let r = keep (ap (λ (z : LockView Out). z.known.hand) same ∙ hand) in
            (w, ap (get_elem? (set views k w)) e ∙ set_here views k w (within views k v at), r.0, r.1)
        | inr n ↦ (u, set_else views k place w n ∙ h, live, hand)
      ]

  pub split_shown : (turn : Option ℕ) (b : BoardState Out) (s : State (BoardState Out) (LockView Out)) (k : ℕ) (v : LockView Out) → ShowsMachine right jobs seats turn b s → get_elem? s.views k ≡ some v → v.known.live ≡ true → 0 < v.known.spare
      → ShowsMachine right jobs seats turn b (record { words = s.words; homes = s.homes; views = slice_set s.views k (cut v) ++ new_view v ∷ [] })
  split_shown turn b s k v sh at live left =
      let m : Machine = b.machine in
      let fv = sh.views k v at live in
      let f = fv.0 in
      let room = f.room left in
      let cutviews : List (LockView Out) = slice_set s.views k (cut v) in
      let all : List (LockView Out) = cutviews ++ new_view v ∷ [] in
      let len : length cutviews ≡ length s.views = length-set s.views k (cut v) in
      let longer : length all ≡ length s.views + 1 = length-append cutviews (new_view v ∷ []) ∙ omega arith in
      let P : ℕ → LockView Out → Type 0 = λ p z. Fits jobs seats m (length s.views + 1) p z.known × SawIs turn b p z in
      record {
        words = sh.words;
        homes = sh.homes;
        placed = placed_same turn b s (record { words = s.words; homes = s.homes; views = all }) refl refl sh.placed;
        sound = sh.sound;
        jobs_are = sh.jobs_are;
        fit = sh.fit;
        held = λ job n e.
            let o = sh.held job n e in
            let r = still s.views k v (cut v) job at (λ q. (live, q)) n o.0 o.1 o.2 o.3 in
            (r.0, at_longer cutviews (new_view v ∷ []) n r.0 r.1, r.2, r.3);
        views = λ place u h alive. rw longer (elim (same_or_not place (length s.views)) [
          | inl e ↦
              let last : new_view v ≡ u = some-injective (new_view v) u (sym (at_length cutviews (new_view v)) ∙ (ap (get_elem? all) (len ∙ sym e) ∙ h)) in
              subst (λ (z : LockView Out). P place z) last (subst (λ (p : ℕ). P p (new_view v)) (sym e) (fits_new jobs seats m (length s.views) k v.known left f, saw_new turn b (length s.views) (new_view v) refl sh.there))
          | inr n ↦
              let there : get_elem? cutviews place ≡ some u = below_last cutviews (new_view v) place u (λ q. n (q ∙ len)) h in
              each_view P s.views k (cut v)
              (fits_cut jobs seats m (length s.views) k v.known left f, saw_moved turn b k v (cut v) refl fv.1)
              (λ p z apart found z_up. let o = sh.views p z found z_up in (fits_beside jobs seats m (length s.views) k v.known p z.known left f apart o.0, o.1))
              place u there alive
        ]);
        there = rw longer (there_more turn (length s.views) sh.there);
        few = omega arith;
      }

  pub splits : (k : ℕ) (v : LockView Out) → v.known.live ≡ true → 0 < v.known.spare → Splits (Kept jobs seats right) k v (cut v) (new_view v)
  splits k v live left s kept at = (kept.0, kept.1, split_shown kept.0 kept.1 s k v kept.2 at live left)

  pub join_shown : (turn : Option ℕ) (b : BoardState Out) (s : State (BoardState Out) (LockView Out)) (k : ℕ) (v : LockView Out) (other : ℕ) (w : LockView Out) → ShowsMachine right jobs seats turn b s → get_elem? s.views k ≡ some v → v.known.live ≡ true → other ≢ k → get_elem? (slice_set s.views k (taken_in v w)) other ≡ some w → w.known.live ≡ true → w.known.hand ≡ None
      → ShowsMachine right jobs seats turn b (record { words = s.words; homes = s.homes; views = slice_set (slice_set s.views k (taken_in v w)) other spent })
  join_shown turn b s k v other w sh at live apart there awake empty =
      let m : Machine = b.machine in
      let fv = sh.views k v at live in
      let f = fv.0 in
      let one : List (LockView Out) = slice_set s.views k (taken_in v w) in
      let before : get_elem? s.views other ≡ some w = sym (set_else s.views k other (taken_in v w) apart) ∙ there in
      let fw = (sh.views other w before awake).0 in
      let len : length (set one other spent) ≡ length s.views = length-set one other spent ∙ length-set s.views k (taken_in v w) in
      let P : ℕ → LockView Out → Type 0 = λ p z. Fits jobs seats m (length s.views) p z.known × SawIs turn b p z in
      record {
        words = sh.words;
        homes = sh.homes;
        placed = placed_same turn b s (record { words = s.words; homes = s.homes; views = set one other spent }) refl refl sh.placed;
        sound = sh.sound;
        jobs_are = sh.jobs_are;
        fit = sh.fit;
        held = λ job n e.
            let o = sh.held job n e in
            let r = still s.views k v (taken_in v w) job at (λ q. (live, q)) n o.0 o.1 o.2 o.3 in
            still one other w spent job there (λ q. absurd (none-not_some w.known.hand job empty q)) n r.0 r.1 r.2 r.3;
        views = λ place u h alive. rw len (elim (at_set one other place spent u h) [
          | inl q ↦ absurd (false≢true (sym (ap (λ (z : LockView Out). z.known.live) (sym q.1)) ∙ alive))
          | inr q ↦ each_view P s.views k (taken_in v w)
              (fits_taken_in jobs seats m (length s.views) k v.known other w.known f fw, saw_moved turn b k v (taken_in v w) refl fv.1)
              (λ p z n found z_up. sh.views p z found z_up)
              place u q.1 alive
        ]);
        there = rw len sh.there;
        few = rw len sh.few;
      }

  pub joins : (k : ℕ) (v : LockView Out) (other : ℕ) (w : LockView Out) → v.known.live ≡ true → w.known.live ≡ true → w.known.hand ≡ None → Joins (Kept jobs seats right) k v other w (taken_in v w) spent
  joins k v other w live awake empty s kept at apart there = (kept.0, kept.1, join_shown kept.0 kept.1 s k v other w kept.2 at live apart there awake empty)

  -- when the table is closed, what was seen under the turn is the board's own state
  pub closed_right : (id : ℕ) (u v : LockView Out) (b : BoardState Out) (ws : List ℕ) (xs : List (BoardState Out)) → Final (Seen (Kept jobs seats right) id u) ws xs → u ≡ seeing v b → v.known.live ≡ true
      → (job : ℕ) (out : Out) → slice_get b.results.items job ≡ Some (Some out) → right job out
  closed_right id u v b ws xs final e live =
      let kept = final.1.0 in
      let at : get_elem? (final.0).views id ≡ some (seeing v b) = final.1.1 ∙ ap some e in
      let saw = (kept.2.views id (seeing v b) at live).1 in
      let same : kept.1 ≡ b = (mine_is kept.0 kept.1 b id (seeing v b) saw refl).0 in
      subst (λ (z : BoardState Out). (job : ℕ) (out : Out) → slice_get z.results.items job ≡ Some (Some out) → right job out) same kept.2.fit

pub closed_done : {Out : Type 0} (v : View) (b : BoardState Out) → FoundState v b → (job : ℕ) → has_job job v.deposits ≡ true → (out : Out) × (slice_get b.results.items job ≡ Some (Some out))
closed_done v b f job h =
    let d = among b.machine.slots job v.deposits h f.deposits in
    let o = f.sound.fits job (Done d.0) d.1 in
    (o.2.0, o.1 ∙ ap Some o.2.1)

-- the history that was seen under the turn accounts for the results
pub closed_with : {Out : Type 0} (jobs : ℕ) (v : View) (b : BoardState Out) → FoundState v b → v.jobs ≡ jobs → IsClosedWith jobs v.deposits b.results.items
closed_with jobs v b f count =
    let all : length b.machine.slots ≡ jobs = f.jobs_are ∙ count in
    subst (λ (n : ℕ). IsClosedWith n v.deposits b.results.items) all (
      b.history.items,
      f.sound.legal,
      subst (λ (z : Machine). AllDone z.slots v.deposits) f.sound.replayed f.deposits,
      subst (λ (z : Machine). ResultsFit z.slots b.results.items) f.sound.replayed f.sound.fits,
    )
