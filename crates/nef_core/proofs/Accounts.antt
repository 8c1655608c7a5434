-- A history accounts for a pass whose view fits the machine.
use Rattle.nef_core.proofs.Prelude.{◌≡◌, ℕ, Bool, true, List, [], ◌∷◌, Option, Some, slice_get, IfSome, subst, start, replay, IsLegal, AllDone, InHand, Event}
use Rattle.nef_core.specs.Accounts.{AllCounted, IsAccounted}
use Rattle.nef_core.proofs.Counting.{claims_accounted, each_claim_accounted, held_is_claimed, done_is_claimed}

all_counted : (jobs : ℕ) (events : List Event) (ds : List (ℕ × ℕ)) → IsLegal (start jobs) events → AllDone (replay (start jobs) events).slots ds → AllCounted jobs events ds
all_counted jobs events [] h a = tt
all_counted jobs events (d ∷ ds) h a = let k = done_is_claimed jobs d.1 d.0 events h a.0 in (k.0, k.1, all_counted jobs events ds h a.1)

pub accounted : (jobs : ℕ) (events : List Event) (w : ℕ) (hand : Option ℕ) (ended : Bool) (ds : List (ℕ × ℕ)) → IsLegal (start jobs) events
    → IfSome hand (λ job. slice_get (replay (start jobs) events).slots job ≡ Some (InHand w))
    → ((job : ℕ) → slice_get (replay (start jobs) events).slots job ≡ Some (InHand w) → hand ≡ Some job)
    → AllDone (replay (start jobs) events).slots ds
    → (ended ≡ true → (replay (start jobs) events).next ≡ jobs)
    → IsAccounted jobs events w hand ended ds
accounted jobs events w hand ended ds h holds only a end =
    let back : (job : ℕ) → hand ≡ Some job → slice_get (replay (start jobs) events).slots job ≡ Some (InHand w) = λ job e. subst (λ (o : Option ℕ). IfSome o (λ i. slice_get (replay (start jobs) events).slots i ≡ Some (InHand w))) e holds in
    record {
      held = λ job. (only job, back job);
      claimed_once = λ job e. (held_is_claimed jobs w job events h (back job e)).0;
      deposited_once = all_counted jobs events ds h a;
      given_back = claims_accounted jobs w events h;
      each_given_back = λ job. each_claim_accounted jobs w job events h;
      all_handed_out = end;
    }
