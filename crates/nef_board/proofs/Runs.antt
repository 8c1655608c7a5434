-- The board shows the replay of the history that it keeps.
use Rattle.nef_board.proofs.Prelude.{◌≡◌, ℕ, length, ap, sym, ◌∙◌, Option, Some, None, slice_get, slice_set, arith, subst, IfSome, set-get_or, set_else, set_again, State as Machine, start, after, replay, IsLegal, AllDone, ResultsFit, InHand, Claim, Deposit, GiveBack, claim_answers, past_answers, past_is_same, held_in, BoardState, LockView, IsStateAt, ShowsMachine, seeing, taken_in}
use mathlib.Core.Option.{some, none, some-injective, some-ne-none}
use lib.ListN.{get_elem?}
use Rattle.atomic_table.specs.Table.{State}
use Rattle.nef_core.specs.Accounts.{IsAccounted}
use Rattle.nef_core.proofs.Accounts.{accounted}
use Rattle.nef_board.specs.Laws.{IsSeat, SplitIsNothing, JoinIsNothing, TakingIsNothing, FailingIsNothing, TurnIsAway, FreeingIsClaim, FreeingIsNone, FreeingIsDeposit, FreeingIsGiveBack, BoardRuns}
use Rattle.nef_board.proofs.Turns.{split_shown, join_shown, takes_turn, claim_freed, end_freed, deposit_freed, back_freed}

-- a state that is home is the board's
home_is : {Out : Type 0} (turn : Option ℕ) (a b : BoardState Out) (s : State (BoardState Out) (LockView Out)) → IsStateAt turn a s → get_elem? s.homes 0 ≡ some (some b) → a ≡ b
home_is None a b s p home = some-injective a b (some-injective (some a) (some b) (sym p.1 ∙ home))
home_is (Some k) a b s p home = absurd (some-ne-none b (sym (some-injective none (some b) (sym p.1 ∙ home))))

module _ {Out : Type 0} (right : ℕ → Out → Type 0) where
  pub split_is_nothing : SplitIsNothing right
  split_is_nothing jobs seats turn b s k v sh seat left = split_shown right jobs seats turn b s k v sh seat.0 seat.1 left

  pub join_is_nothing : JoinIsNothing right
  join_is_nothing jobs seats turn b s k v other w sh seat there apart free =
      join_shown right jobs seats turn b s k v other w sh seat.0 seat.1 apart (set_else s.views k other (taken_in v w) apart ∙ there.0) there.1 free

  pub taking_is_nothing : TakingIsNothing right
  taking_is_nothing jobs seats b s k v sh seat = (sh.placed.0, takes_turn right jobs seats s k v b sh seat.0 seat.1)

  pub failing_is_nothing : FailingIsNothing right
  failing_is_nothing jobs seats other b s k v sh seat =
      let word = sh.placed.0 in
      let same_words : slice_set s.words 0 1 ≡ s.words = ap (λ (n : ℕ). slice_set s.words 0 n) (sym word) ∙ set-get_or s.words 0 0 in
      let same_views : slice_set s.views k v ≡ s.views = set_again s.views k v seat.0 in
      (word, rw (same_words, same_views) sh)

  pub turn_is_away : TurnIsAway right
  turn_is_away jobs seats k b s sh = sh.placed.1

  number_is : (jobs seats : ℕ) (turn : Option ℕ) (b : BoardState Out) (s : State (BoardState Out) (LockView Out)) (k : ℕ) (v : LockView Out) → ShowsMachine right jobs seats turn b s → IsSeat s k (seeing v b) → k ≡ v.known.number
  number_is jobs seats turn b s k v sh seat = sym (sh.views k (seeing v b) seat.0 seat.1).0.number

  in_hand : (jobs seats : ℕ) (turn : Option ℕ) (b : BoardState Out) (s : State (BoardState Out) (LockView Out)) (k : ℕ) (v : LockView Out) (job : ℕ) → ShowsMachine right jobs seats turn b s → IsSeat s k (seeing v b) → v.known.hand ≡ Some job → slice_get b.machine.slots job ≡ Some (InHand k)
  in_hand jobs seats turn b s k v job sh seat hand = held_in jobs seats b.machine (length s.views) k v.known job hand (sh.views k (seeing v b) seat.0 seat.1).0

  pub freeing_is_claim : FreeingIsClaim right
  freeing_is_claim jobs seats turn b b' s k v sh seat hand sound machine results free = (
    free,
    claim_answers b.machine k free,
    claim_freed right jobs seats s turn k v b b' sh seat.0 seat.1 hand sound (machine ∙ ap (λ (n : ℕ). after b.machine (Claim n)) (number_is jobs seats turn b s k v sh seat)) results free,
  )

  pub freeing_is_none : FreeingIsNone right
  freeing_is_none jobs seats turn b b' s k v sh seat sound machine results past =
      let same : b'.machine ≡ b.machine = machine ∙ past_is_same b.machine k past in (
        (let a = sh.jobs_are in let c = sh.sound.low in omega arith),
        past_answers b.machine k past,
        same,
        end_freed right jobs seats s turn k v b b' sh seat.0 seat.1 sound same results past,
      )

  pub freeing_is_deposit : FreeingIsDeposit right
  freeing_is_deposit jobs seats turn b b' s k v job out sh seat hand fits sound machine results = (
    in_hand jobs seats turn b s k v job sh seat hand,
    deposit_freed right jobs seats s turn k v b b' job out sh seat.0 seat.1 hand fits sound (machine ∙ ap (λ (n : ℕ). after b.machine (Deposit n job)) (number_is jobs seats turn b s k v sh seat)) results,
  )

  pub freeing_is_give_back : FreeingIsGiveBack right
  freeing_is_give_back jobs seats turn b b' s k v job sh seat hand sound machine results = (
    in_hand jobs seats turn b s k v job sh seat hand,
    back_freed right jobs seats s turn k v b b' job sh seat.0 seat.1 hand sound (machine ∙ ap (λ (n : ℕ). after b.machine (GiveBack n job)) (number_is jobs seats turn b s k v sh seat)) results,
  )

  -- the same for the state that the rule has
  runs_at : (jobs seats : ℕ) (turn : Option ℕ) (b : BoardState Out) (s : State (BoardState Out) (LockView Out)) → ShowsMachine right jobs seats turn b s
      → (b.machine ≡ replay (start jobs) b.history.items) × IsLegal (start jobs) b.history.items × ResultsFit b.machine.slots b.results.items
      × ((job : ℕ) (out : Out) → slice_get b.results.items job ≡ Some (Some out) → right job out)
      × ((w : ℕ) (v : LockView Out) → IsSeat s w v → IsAccounted jobs b.history.items w v.known.hand v.known.ended v.known.deposits)
  runs_at jobs seats turn b s sh =
      let replayed : b.machine ≡ replay (start jobs) b.history.items = sh.sound.replayed ∙ ap (λ (n : ℕ). replay (start n) b.history.items) sh.jobs_are in
      let legal : IsLegal (start jobs) b.history.items = subst (λ (n : ℕ). IsLegal (start n) b.history.items) sh.jobs_are sh.sound.legal in (
        replayed,
        legal,
        sh.sound.fits,
        sh.fit,
        (λ w v seat.
            let fv = (sh.views w v seat.0 seat.1).0 in
            let P : Machine → Type 0 = λ m. IfSome v.known.hand (λ job. slice_get m.slots job ≡ Some (InHand w)) in
            accounted jobs b.history.items w v.known.hand v.known.ended v.known.deposits legal
            (subst P replayed fv.hand)
            (λ job held.
            let o = sh.held job w (ap (λ (m : Machine). slice_get m.slots job) replayed ∙ held) in
            let same : v ≡ o.0 = some-injective v o.0 (sym seat.0 ∙ o.1) in
            ap (λ (z : LockView Out). z.known.hand) same ∙ o.3)
            (subst (λ (m : Machine). AllDone m.slots v.known.deposits) replayed fv.deposits)
            (λ e. sym (ap (λ (m : Machine). m.next) replayed) ∙ fv.ended e)),
      )

  pub runs : BoardRuns right
  runs jobs seats s b kept home =
      let same : kept.1 ≡ b = home_is kept.0 kept.1 b s kept.2.placed home in
      runs_at jobs seats kept.0 b s (subst (λ (z : BoardState Out). ShowsMachine right jobs seats kept.0 z s) same kept.2)
