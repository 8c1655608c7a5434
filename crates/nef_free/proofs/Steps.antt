-- Each kind of step keeps the rule.
use Rattle.nef_free.proofs.Prelude.{◌≡◌, ℕ, ◌+◌, ◌^◌, ◌%◌, ◌<◌, ◌≤◌, ◌≢◌, List, [], ◌∷◌, ◌++◌, length, refl, ap, sym, ◌∙◌, Option, Some, None, slice_get, slice_set, slice_index, arith, inl, inr, Bool, true, false, subst, set, nat_lt, MatchBool, get_or-set_same, get_or-set_other, slice_get_within, length-append, State, step, Act, keeps, takes, gives, stepped, Allows, Splits, Joins, Valid, carried_after, at_set, set_here, set_else, at_longer, start, after, replay, IsLegal, has_job, Slot, Open, InHand, Done, get_set_here, get_set_other, same_or_not, within, at_length, below_last, open_not_held, open_not_done, held_not_done, held_by, not_among, claimed, replay_append, legal_more, View, holding, at_end, deposited, gave_back, cut, new_view, taken_in, spent, Fits, fits_cut, fits_new, fits_beside, fits_taken_in, fits_at_end, fits_holding, fits_deposited, fits_gave_back, fits_moved, held_in, is_below, drew_past, SlotIs, ShowsMachine, Kept, Claimed, Deposited, GaveBack, same_Some}
use Rattle.std.proofs.Math.ListN.{length-set}
use Rattle.std.proofs.lemmas.Bool.Decides.{nat_tests}
use Rattle.std.proofs.Math.Nat.{mod-eq_of_lt}
use mathlib.Core.Option.{some, none, some-injective}
use lib.ListN.{get_elem?}
use Rattle.nef_core.specs.Machine.{State as Machine}
use Rattle.nef_core.specs.declared.machine.Event.{Event}
use Rattle.nef_core.specs.declared.machine.Event.TheVariants.{Claim, Deposit, GiveBack}
use Rattle.nef_core.specs.Accounts.{IsAccounted}
use Rattle.nef_core.proofs.Accounts.{accounted}
use Rattle.nef_free.specs.Laws.{IsSeat}
use Rattle.nef_free.proofs.Views.{over_small, overs_set, overs_length, overs_snoc, still, moved, undrawn}
use Rattle.nef_core.proofs.Facts.{none-not_some}
use Rattle.std.proofs.lemmas.Bool.{false≢true}

-- a job in a hand is a job
pub below_of : (jobs : ℕ) (h : Option ℕ) (job : ℕ) → is_below jobs h ≡ true → h ≡ Some job → job < jobs
below_of jobs None job b e = absurd (none-not_some None job refl e)
below_of jobs (Some i) job b e = let same : i ≡ job = same_Some i job e in subst (λ (z : ℕ). z < jobs) same (grind (arith, nat_tests))

module _ {Out : Type 0} (right : ℕ → Out → Type 0) (jobs seats : ℕ) where
  -- a draw of a number that is a job is its claim
  pub drawn_is_claim : (m : Machine) (s : State (Option Out) View) (k : ℕ) (v : View) → ShowsMachine right jobs seats m s → get_elem? s.views k ≡ some v → v.live ≡ true → v.hand ≡ None → v.ended ≡ false → (f : ℕ) → f ≡ slice_index s.words 0 → f < jobs
      → (m.next < length m.slots) × (get_elem? s.homes f ≡ some (some None)) × (has_job f v.deposits ≡ false)
      × ShowsMachine right jobs seats (after m (Claim k)) (stepped s 0 (f + 1) k [] (holding v f) (takes f None))
  drawn_is_claim m s k v sh at live hand going f is small =
      let next : m.next ≡ f = let n = sh.next in omega arith in
      let free : m.next < length m.slots = let n = sh.slots in omega arith in
      let e = sh.each f small in
      let u = undrawn right s f e.0 (omega arith) e.2 in
      let opens : slice_get m.slots f ≡ Some Open = e.1 ∙ ap Some u.0 in
      let fv = sh.views k v at live in
      let t : State (Option Out) View = stepped s 0 (f + 1) k [] (holding v f) (takes f None) in
      let word0 : slice_index t.words 0 ≡ f + 1 = get_or-set_same s.words 0 (f + 1) 0 (let l = sh.words in omega arith) in
      let other_word : (job : ℕ) → slice_index t.words (job + 1) ≡ slice_index s.words (job + 1) = λ job. get_or-set_other s.words 0 (job + 1) (f + 1) 0 (λ q. omega arith) in
      let len : length (set s.views k (holding v f)) ≡ length s.views = length-set s.views k (holding v f) in
      let m' : Machine = record { next = f + 1; slots = slice_set m.slots f (InHand k) } in
      let held : slice_get m'.slots f ≡ Some (InHand k) = get_set_here m.slots f (InHand k) (let n = sh.slots in omega arith) in
      let mine : Fits jobs seats m' (length s.views) k (holding v f) = rw next at (fits_holding jobs seats m (length s.views) k v sh.slots (ap (slice_get m.slots) next ∙ opens) fv) in (
        free,
        u.2,
        not_among m.slots f Open v.deposits opens open_not_done fv.deposits,
        rw (claimed m k free, next) (record {
          words = length-set s.words 0 (f + 1) ∙ sh.words;
          homes = length-set s.homes f none ∙ sh.homes;
          small = sh.small;
          next = omega arith;
          slots = length-set m.slots f (InHand k) ∙ sh.slots;
          each = λ job h. elim (same_or_not job f) [
            | inl e ↦ (
              InHand k,
              ap (slice_get m'.slots) e ∙ held,
              (
                other_word job ∙ (ap (λ (j : ℕ). slice_index s.words (j + 1)) e ∙ u.1),
                omega arith,
                ap (get_elem? (set s.homes f none)) e ∙ set_here s.homes f none (let l = sh.homes in omega arith),
                (holding v f, set_here s.views k (holding v f) (within s.views k v at), live, ap Some (sym e)),
              ),
            )
            | inr n ↦
                let o = sh.each job h in (
                  o.0,
                  get_set_other m.slots f job (InHand k) n ∙ o.1,
                  moved right s t job o.0 (other_word job) (λ q. omega arith) (λ q. omega arith) (set_else s.homes f job none n)
                      (still s.views k v (holding v f) job at (λ q. absurd (none-not_some v.hand job hand q))) o.2,
                )
          ];
          views = λ place w h alive. rw len (elim (at_set s.views k place (holding v f) w h) [
            | inl q ↦ subst (λ (z : View). Fits jobs seats m' (length s.views) place z) q.1 (subst (λ (p : ℕ). Fits jobs seats m' (length s.views) p (holding v f)) (sym q.0) mine)
            | inr q ↦ fits_moved jobs seats m (f + 1) f (InHand k) Open (length s.views) place w opens (open_not_held place) open_not_done (λ e. absurd (omega arith)) (sh.views place w q.1 alive)
          ]);
          few = rw len sh.few;
          drawn = omega arith;
        }),
      )

  -- a draw past the last number changes nothing
  pub drawn_past : (m : Machine) (s : State (Option Out) View) (k : ℕ) (v : View) → ShowsMachine right jobs seats m s → get_elem? s.views k ≡ some v → v.live ≡ true → v.hand ≡ None → v.ended ≡ false → (f : ℕ) → f ≡ slice_index s.words 0 → jobs ≤ f
      → (f + 1 < 2 ^ 64) × ShowsMachine right jobs seats m (stepped s 0 (f + 1) k [] (at_end v) keeps)
  drawn_past m s k v sh at live hand going f is past =
      let next : m.next ≡ jobs = let n = sh.next in omega arith in
      let fv = sh.views k v at live in
      let t : State (Option Out) View = stepped s 0 (f + 1) k [] (at_end v) keeps in
      let word0 : slice_index t.words 0 ≡ f + 1 = get_or-set_same s.words 0 (f + 1) 0 (let l = sh.words in omega arith) in
      let other_word : (job : ℕ) → slice_index t.words (job + 1) ≡ slice_index s.words (job + 1) = λ job. get_or-set_other s.words 0 (job + 1) (f + 1) 0 (λ q. omega arith) in
      let len : length (set s.views k (at_end v)) ≡ length s.views = length-set s.views k (at_end v) in
      let before : drew_past v ≡ 0 = rw (live, going) refl in
      let behind : drew_past (at_end v) ≡ 1 = rw live refl in
      let total = overs_set s.views k v (at_end v) at in
      let most = overs_length (set s.views k (at_end v)) in
      let mine : Fits jobs seats m (length s.views) k (at_end v) = fits_at_end jobs seats m (length s.views) k v next fv in
      let drawn = sh.drawn in let few = sh.few in let small = sh.small in (
        omega arith,
        record {
          words = length-set s.words 0 (f + 1) ∙ sh.words;
          homes = sh.homes;
          small = sh.small;
          next = let n = sh.next in omega arith;
          slots = sh.slots;
          each = λ job h.
              let o = sh.each job h in (
                o.0,
                o.1,
                moved right s t job o.0 (other_word job) (λ q. omega arith) (λ q. absurd (omega arith)) refl
                    (still s.views k v (at_end v) job at (λ q. (live, q))) o.2,
              );
          views = λ place w h alive. rw len (elim (at_set s.views k place (at_end v) w h) [
            | inl q ↦ subst (λ (z : View). Fits jobs seats m (length s.views) place z) q.1 (subst (λ (p : ℕ). Fits jobs seats m (length s.views) p (at_end v)) (sym q.0) mine)
            | inr q ↦ sh.views place w q.1 alive
          ]);
          few = rw len sh.few;
          drawn = omega arith;
        },
      )

  -- a job in the hand of a pass is settled: x is what it is then, c its word and y its home
  settled : (m : Machine) (s : State (Option Out) View) (k : ℕ) (v w : View) (job c : ℕ) (x : Slot) (y : Option Out) → ShowsMachine right jobs seats m s → get_elem? s.views k ≡ some v → v.live ≡ true → v.hand ≡ Some job
      → (w.live ≡ true) → (w.ended ≡ v.ended) → (w.hand ≡ None) → (drew_past w ≡ drew_past v)
      → Fits jobs seats (record { next = m.next; slots = slice_set m.slots job x }) (length s.views) k w
      → ((t : State (Option Out) View) → slice_index t.words (job + 1) ≡ c → job < slice_index t.words 0 → get_elem? t.homes job ≡ some (some y) → SlotIs right t job x)
      → ShowsMachine right jobs seats (record { next = m.next; slots = slice_set m.slots job x }) (stepped s (job + 1) c k ((job, y) ∷ []) w gives)
  settled m s k v w job c x y sh at live hand alive ended free weight mine shows =
      let fv = sh.views k v at live in
      let held : slice_get m.slots job ≡ Some (InHand k) = held_in jobs seats m (length s.views) k v job hand fv in
      let low : job < jobs = let n = sh.slots in let i = slice_get_within m.slots job (InHand k) held in omega arith in
      let e = sh.each job low in
      let is : e.0 ≡ InHand k = same_Some e.0 (InHand k) (sym e.1 ∙ held) in
      let mineslot : SlotIs right s job (InHand k) = subst (λ (z : Slot). SlotIs right s job z) is e.2 in
      let t : State (Option Out) View = stepped s (job + 1) c k ((job, y) ∷ []) w gives in
      let word0 : slice_index t.words 0 ≡ slice_index s.words 0 = get_or-set_other s.words (job + 1) 0 c 0 (λ q. omega arith) in
      let here : slice_index t.words (job + 1) ≡ c = get_or-set_same s.words (job + 1) c 0 (let l = sh.words in omega arith) in
      let len : length (set s.views k w) ≡ length s.views = length-set s.views k w in
      let total = overs_set s.views k v w at in
      let m' : Machine = record { next = m.next; slots = slice_set m.slots job x } in
      record {
        words = length-set s.words (job + 1) c ∙ sh.words;
        homes = length-set s.homes job (some y) ∙ sh.homes;
        small = sh.small;
        next = let n = sh.next in omega arith;
        slots = length-set m.slots job x ∙ sh.slots;
        each = λ i h. elim (same_or_not i job) [
          | inl q ↦ subst (λ (z : ℕ). (o : Slot) × (slice_get m'.slots z ≡ Some o) × SlotIs right t z o) (sym q) (
            x,
            get_set_here m.slots job x (let n = sh.slots in omega arith),
            shows t here (let b = mineslot.1 in omega arith) (set_here s.homes job (some y) (let l = sh.homes in omega arith)),
          )
          | inr n ↦
              let o = sh.each i h in (
                o.0,
                get_set_other m.slots job i x n ∙ o.1,
                moved right s t i o.0 (get_or-set_other s.words (job + 1) (i + 1) c 0 (λ q. n (omega arith))) (λ q. omega arith) (λ q. omega arith) (set_else s.homes job i (some y) n)
                    (still s.views k v w i at (λ q. absurd (n (same_Some i job (sym q ∙ hand))))) o.2,
              )
        ];
        views = λ place u h up. rw len (elim (at_set s.views k place w u h) [
          | inl q ↦ subst (λ (z : View). Fits jobs seats m' (length s.views) place z) q.1 (subst (λ (p : ℕ). Fits jobs seats m' (length s.views) p w) (sym q.0) mine)
          | inr q ↦ fits_moved jobs seats m m.next job x (InHand k) (length s.views) place u held (λ z. q.0 (sym (held_by k place z))) (held_not_done k) (λ z. z) (sh.views place u q.1 up)
        ]);
        few = rw len sh.few;
        drawn = let d = sh.drawn in omega arith;
      }

  -- a store of 1 is the deposit
  pub stored_is_deposit : (m : Machine) (s : State (Option Out) View) (k : ℕ) (v : View) (job : ℕ) (out : Out) → ShowsMachine right jobs seats m s → get_elem? s.views k ≡ some v → v.live ≡ true → v.hand ≡ Some job → right job out
      → (slice_get m.slots job ≡ Some (InHand k)) × ShowsMachine right jobs seats (after m (Deposit k job)) (stepped s (job + 1) 1 k ((job, Some out) ∷ []) (deposited v job) gives)
  stored_is_deposit m s k v job out sh at live hand fits =
      let fv = sh.views k v at live in
      let held : slice_get m.slots job ≡ Some (InHand k) = held_in jobs seats m (length s.views) k v job hand fv in (
        held,
        settled m s k v (deposited v job) job 1 (Done k) (Some out) sh at live hand live refl refl refl
            (fits_deposited jobs seats m (length s.views) k v job hand fv)
            (λ t word low home. (word, low, (out, home, fits))),
      )

  -- a store of 2 is the giving back
  pub stored_is_giving_back : (m : Machine) (s : State (Option Out) View) (k : ℕ) (v : View) (job : ℕ) → ShowsMachine right jobs seats m s → get_elem? s.views k ≡ some v → v.live ≡ true → v.hand ≡ Some job
      → (slice_get m.slots job ≡ Some (InHand k)) × ShowsMachine right jobs seats (after m (GiveBack k job)) (stepped s (job + 1) 2 k ((job, None) ∷ []) (gave_back v) gives)
  stored_is_giving_back m s k v job sh at live hand =
      let fv = sh.views k v at live in
      let held : slice_get m.slots job ≡ Some (InHand k) = held_in jobs seats m (length s.views) k v job hand fv in (
        held,
        settled m s k v (gave_back v) job 2 Open None sh at live hand live refl refl refl
            (fits_gave_back jobs seats m (length s.views) k v job hand fv)
            (λ t word low home. (home, inl (word, low))),
      )

  -- a pass that is made
  pub made_is_nothing : (m : Machine) (s : State (Option Out) View) (k : ℕ) (v : View) → ShowsMachine right jobs seats m s → get_elem? s.views k ≡ some v → v.live ≡ true → 0 < v.spare
      → ShowsMachine right jobs seats m (record { words = s.words; homes = s.homes; views = slice_set s.views k (cut v) ++ new_view v ∷ [] })
  made_is_nothing m s k v sh at live some_left =
      let fv = sh.views k v at live in
      let room = fv.room some_left in
      let cutviews : List View = slice_set s.views k (cut v) in
      let all : List View = cutviews ++ new_view v ∷ [] in
      let t : State (Option Out) View = record { words = s.words; homes = s.homes; views = all } in
      let len : length cutviews ≡ length s.views = length-set s.views k (cut v) in
      let longer : length all ≡ length s.views + 1 = length-append cutviews (new_view v ∷ []) ∙ omega arith in
      let total = overs_set s.views k v (cut v) at in
      let more = overs_snoc cutviews (new_view v) in
      let mine : Fits jobs seats m (length s.views + 1) k (cut v) = fits_cut jobs seats m (length s.views) k v some_left fv in
      record {
        words = sh.words;
        homes = sh.homes;
        small = sh.small;
        next = sh.next;
        slots = sh.slots;
        each = λ job h.
            let o = sh.each job h in (
              o.0,
              o.1,
              moved right s t job o.0 refl (λ q. q) (λ q. q) refl
                  (λ place u here alive has.
                  let r = still s.views k v (cut v) job at (λ q. (live, q)) place u here alive has in
                  (r.0, at_longer cutviews (new_view v ∷ []) place r.0 r.1, r.2, r.3))
                  o.2,
            );
        views = λ place u h alive. rw longer (elim (same_or_not place (length s.views)) [
          | inl e ↦
              let last : new_view v ≡ u = some-injective (new_view v) u (sym (at_length cutviews (new_view v)) ∙ (ap (get_elem? all) (len ∙ sym e) ∙ h)) in
              subst (λ (z : View). Fits jobs seats m (length s.views + 1) place z) last (subst (λ (p : ℕ). Fits jobs seats m (length s.views + 1) p (new_view v)) (sym e) (fits_new jobs seats m (length s.views) k v some_left fv))
          | inr n ↦
              let there : get_elem? cutviews place ≡ some u = below_last cutviews (new_view v) place u (λ q. n (q ∙ len)) h in
              elim (at_set s.views k place (cut v) u there) [
                | inl q ↦ subst (λ (z : View). Fits jobs seats m (length s.views + 1) place z) q.1 (subst (λ (p : ℕ). Fits jobs seats m (length s.views + 1) p (cut v)) (sym q.0) mine)
                | inr q ↦ fits_beside jobs seats m (length s.views) k v place u some_left fv q.0 (sh.views place u q.1 alive)
              ]
        ]);
        few = omega arith;
        drawn = let d = sh.drawn in omega arith;
      }

  -- a pass that is taken in
  pub taken_is_nothing : (m : Machine) (s : State (Option Out) View) (k : ℕ) (v : View) (other : ℕ) (w : View) → ShowsMachine right jobs seats m s → get_elem? s.views k ≡ some v → v.live ≡ true → other ≢ k → get_elem? (slice_set s.views k (taken_in v w)) other ≡ some w → w.live ≡ true → w.hand ≡ None
      → ShowsMachine right jobs seats m (record { words = s.words; homes = s.homes; views = slice_set (slice_set s.views k (taken_in v w)) other spent })
  taken_is_nothing m s k v other w sh at live apart there awake empty =
      let fv = sh.views k v at live in
      let first : List View = slice_set s.views k (taken_in v w) in
      let all : List View = slice_set first other spent in
      let t : State (Option Out) View = record { words = s.words; homes = s.homes; views = all } in
      let before : get_elem? s.views other ≡ some w = sym (set_else s.views k other (taken_in v w) apart) ∙ there in
      let fw = sh.views other w before awake in
      let len : length all ≡ length s.views = length-set first other spent ∙ length-set s.views k (taken_in v w) in
      let one = overs_set s.views k v (taken_in v w) at in
      let two = overs_set first other w spent there in
      let most = over_small w in
      let mine : Fits jobs seats m (length s.views) k (taken_in v w) = fits_taken_in jobs seats m (length s.views) k v other w fv fw in
      record {
        words = sh.words;
        homes = sh.homes;
        small = sh.small;
        next = sh.next;
        slots = sh.slots;
        each = λ job h.
            let o = sh.each job h in (
              o.0,
              o.1,
              moved right s t job o.0 refl (λ q. q) (λ q. q) refl
                  (λ place u here alive has.
                  let r = still s.views k v (taken_in v w) job at (λ q. (live, q)) place u here alive has in
                  still first other w spent job there (λ q. absurd (none-not_some w.hand job empty q)) place r.0 r.1 r.2 r.3)
                  o.2,
            );
        views = λ place u h alive. rw len (elim (at_set first other place spent u h) [
          | inl q ↦ absurd (false≢true (sym (ap (λ (z : View). z.live) (sym q.1)) ∙ alive))
          | inr q ↦ elim (at_set s.views k place (taken_in v w) u q.1) [
            | inl p ↦ subst (λ (z : View). Fits jobs seats m (length s.views) place z) p.1 (subst (λ (i : ℕ). Fits jobs seats m (length s.views) i (taken_in v w)) (sym p.0) mine)
            | inr p ↦ sh.views place u p.1 alive
          ]
        ]);
        few = rw len sh.few;
        drawn = let d = sh.drawn in omega arith;
      }

  -- what a draw asks of the rule
  draws : (s : State (Option Out) View) (k : ℕ) (v : View) → Kept jobs seats right s → get_elem? s.views k ≡ some v → v.live ≡ true → v.hand ≡ None → v.ended ≡ false → v.jobs ≡ jobs
      → (b : Bool) → nat_lt (slice_index s.words 0) v.jobs ≡ b
      → (w : View) × (a : Act (Option Out)) × Valid s.homes [] a × Kept jobs seats right (stepped s 0 ((slice_index s.words 0 + 1) % 2 ^ 64) k [] w a) × MatchBool b ((w ≡ holding v (slice_index s.words 0)) × (carried_after [] a ≡ (slice_index s.words 0, None) ∷ []) × (has_job (slice_index s.words 0) v.deposits ≡ false)) ((w ≡ at_end v) × (carried_after [] a ≡ []))
  draws s k v kept at live hand going count true is =
      let f : ℕ = slice_index s.words 0 in
      let m : Machine = replay (start jobs) kept.0 in
      let below : f < jobs = subst (λ (z : ℕ). f < z) count (grind (arith, nat_tests)) in
      let d = drawn_is_claim m s k v kept.2 at live hand going f refl below in
      let small = kept.2.small in
      let wraps : (f + 1) % 2 ^ 64 ≡ f + 1 = mod-eq_of_lt {n = f + 1} {m = 2 ^ 64} (omega arith) in (
        holding v f,
        takes f None,
        d.1,
        rw wraps (kept.0 ++ Claim k ∷ [], legal_more (start jobs) kept.0 (Claim k) kept.1 (d.0, tt), subst (λ (z : Machine). ShowsMachine right jobs seats z (stepped s 0 (f + 1) k [] (holding v f) (takes f None))) (sym (replay_append (start jobs) kept.0 (Claim k ∷ []))) d.3),
        (refl, refl, d.2),
      )
  draws s k v kept at live hand going count false is =
      let f : ℕ = slice_index s.words 0 in
      let m : Machine = replay (start jobs) kept.0 in
      let past : jobs ≤ f = subst (λ (z : ℕ). z ≤ f) count (grind (arith, nat_tests)) in
      let d = drawn_past m s k v kept.2 at live hand going f refl past in
      let wraps : (f + 1) % 2 ^ 64 ≡ f + 1 = mod-eq_of_lt {n = f + 1} {m = 2 ^ 64} d.0 in
      (at_end v, keeps, tt, rw wraps (kept.0, kept.1, d.1), (refl, refl))

  pub claims : (k : ℕ) (v : View) → v.live ≡ true → v.hand ≡ None → v.ended ≡ false → v.jobs ≡ jobs → Allows (Kept jobs seats right) jobs k (v, []) 0 (λ n. (n + 1) % 2 ^ 64) (Claimed (step jobs 0 1 0 none) (v, []))
  claims k v live hand going count s kept len at small = draws s k v kept at live hand going count (nat_lt (slice_index s.words 0) v.jobs) refl

  pub deposits : (k : ℕ) (v : View) (job : ℕ) (out : Out) → v.live ≡ true → v.hand ≡ Some job → right job out → Allows (Kept jobs seats right) jobs k (v, (job, Some out) ∷ []) (job + 1) (λ n. 1) (λ n. Deposited (step jobs (job + 1) 1 0 none) (v, (job, Some out) ∷ []) 1)
  deposits k v job out live hand fits s kept len at small =
      let m : Machine = replay (start jobs) kept.0 in
      let d = stored_is_deposit m s k v job out kept.2 at live hand fits in (
        deposited v job,
        gives,
        tt,
        (kept.0 ++ Deposit k job ∷ [], legal_more (start jobs) kept.0 (Deposit k job) kept.1 (d.0, tt), rw (replay_append (start jobs) kept.0 (Deposit k job ∷ [])) d.1),
        (ap (deposited v) (omega arith), refl),
      )

  pub gives_back : (k : ℕ) (v : View) (job : ℕ) → v.live ≡ true → v.hand ≡ Some job → Allows (Kept jobs seats right) jobs k (v, (job, None) ∷ []) (job + 1) (λ n. 2) (λ n. GaveBack (step jobs (job + 1) 2 0 none) (v, (job, None) ∷ []) 2)
  gives_back k v job live hand s kept len at small =
      let m : Machine = replay (start jobs) kept.0 in
      let d = stored_is_giving_back m s k v job kept.2 at live hand in (
        gave_back v,
        gives,
        tt,
        (kept.0 ++ GiveBack k job ∷ [], legal_more (start jobs) kept.0 (GiveBack k job) kept.1 (d.0, tt), rw (replay_append (start jobs) kept.0 (GiveBack k job ∷ [])) d.1),
        (refl, refl),
      )

  pub splits : (k : ℕ) (v : View) → v.live ≡ true → 0 < v.spare → Splits (Kept jobs seats right) k v (cut v) (new_view v)
  splits k v live left s kept at = (kept.0, kept.1, made_is_nothing (replay (start jobs) kept.0) s k v kept.2 at live left)

  pub joins : (k : ℕ) (v : View) (other : ℕ) (w : View) → v.live ≡ true → w.live ≡ true → w.hand ≡ None → Joins (Kept jobs seats right) k v other w (taken_in v w) spent
  joins k v other w live awake empty s kept at apart there = (kept.0, kept.1, taken_is_nothing (replay (start jobs) kept.0) s k v other w kept.2 at live apart there awake empty)

  -- the same, with what the code knows as equations
  pub claims_at : (slots k : ℕ) (v : View) (l : List (ℕ × Option Out)) → slots ≡ jobs → l ≡ [] → v.live ≡ true → v.hand ≡ None → v.ended ≡ false → v.jobs ≡ jobs → Allows (Kept jobs seats right) slots k (v, l) 0 (λ n. (n + 1) % 2 ^ 64) (Claimed (step slots 0 1 0 none) (v, l))
  claims_at slots k v l a b live hand going count =
      let P : ℕ → List (ℕ × Option Out) → Type 0 = λ n c. Allows (Kept jobs seats right) n k (v, c) 0 (λ n. (n + 1) % 2 ^ 64) (Claimed (step n 0 1 0 none) (v, c)) in
      subst (λ n. P n l) (sym a) (subst (λ c. P jobs c) (sym b) (claims k v live hand going count))

  pub deposits_at : (slots k : ℕ) (v : View) (l : List (ℕ × Option Out)) (job : ℕ) (out : Out) → slots ≡ jobs → l ≡ (job, Some out) ∷ [] → v.live ≡ true → v.hand ≡ Some job → right job out → Allows (Kept jobs seats right) slots k (v, l) (job + 1) (λ n. 1) (λ n. Deposited (step slots (job + 1) 1 0 none) (v, l) 1)
  deposits_at slots k v l job out a b live hand fits =
      let P : ℕ → List (ℕ × Option Out) → Type 0 = λ n c. Allows (Kept jobs seats right) n k (v, c) (job + 1) (λ n. 1) (λ n. Deposited (step n (job + 1) 1 0 none) (v, c) 1) in
      subst (λ n. P n l) (sym a) (subst (λ c. P jobs c) (sym b) (deposits k v job out live hand fits))

  pub gives_back_at : (slots k : ℕ) (v : View) (l : List (ℕ × Option Out)) (job : ℕ) → slots ≡ jobs → l ≡ (job, None) ∷ [] → v.live ≡ true → v.hand ≡ Some job → Allows (Kept jobs seats right) slots k (v, l) (job + 1) (λ n. 2) (λ n. GaveBack (step slots (job + 1) 2 0 none) (v, l) 2)
  gives_back_at slots k v l job a b live hand =
      let P : ℕ → List (ℕ × Option Out) → Type 0 = λ n c. Allows (Kept jobs seats right) n k (v, c) (job + 1) (λ n. 2) (λ n. GaveBack (step n (job + 1) 2 0 none) (v, c) 2) in
      subst (λ n. P n l) (sym a) (subst (λ c. P jobs c) (sym b) (gives_back k v job live hand))

  -- a job in hand has its slot away
  pub held_is_away : (m : Machine) (s : State (Option Out) View) (k : ℕ) (v : View) (job : ℕ) → ShowsMachine right jobs seats m s → get_elem? s.views k ≡ some v → v.live ≡ true → v.hand ≡ Some job
      → (get_elem? s.homes job ≡ some none) × (slice_get m.slots job ≡ Some (InHand k))
  held_is_away m s k v job sh at live hand =
      let fv = sh.views k v at live in
      let held : slice_get m.slots job ≡ Some (InHand k) = held_in jobs seats m (length s.views) k v job hand fv in
      let e = sh.each job (let n = sh.slots in let i = slice_get_within m.slots job (InHand k) held in omega arith) in
      let is : e.0 ≡ InHand k = same_Some e.0 (InHand k) (sym e.1 ∙ held) in
      let mine : SlotIs right s job (InHand k) = subst (λ (z : Slot). SlotIs right s job z) is e.2 in
      (mine.2, held)

  -- who is in the slot of a job has it in hand
  held_is_mine : (m : Machine) (s : State (Option Out) View) (k : ℕ) (v : View) (job : ℕ) → ShowsMachine right jobs seats m s → get_elem? s.views k ≡ some v → slice_get m.slots job ≡ Some (InHand k) → v.hand ≡ Some job
  held_is_mine m s k v job sh at held =
      let e = sh.each job (let n = sh.slots in let i = slice_get_within m.slots job (InHand k) held in omega arith) in
      let is : e.0 ≡ InHand k = same_Some e.0 (InHand k) (sym e.1 ∙ held) in
      let mine : SlotIs right s job (InHand k) = subst (λ (z : Slot). SlotIs right s job z) is e.2 in
      let o = mine.3 in
      let same : v ≡ o.0 = some-injective v o.0 (sym at ∙ o.1) in
      ap (λ (z : View). z.hand) same ∙ o.3

  pub runs : (s : State (Option Out) View) → Kept jobs seats right s
      → (events : List Event) × IsLegal (start jobs) events × ShowsMachine right jobs seats (replay (start jobs) events) s
      × ((w : ℕ) (v : View) → IsSeat s w v → IsAccounted jobs events w v.hand v.ended v.deposits)
  runs s kept =
      let m : Machine = replay (start jobs) kept.0 in (
        kept.0,
        kept.1,
        kept.2,
        (λ w v seat.
            let fv = kept.2.views w v seat.0 seat.1 in
            accounted jobs kept.0 w v.hand v.ended v.deposits kept.1 fv.hand (λ job held. held_is_mine m s w v job kept.2 seat.0 held) fv.deposits fv.ended),
      )
