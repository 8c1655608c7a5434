-- Deposits and hands beside the slots of a machine.
use Rattle.nef_core.proofs.Prelude.{◌≡◌, ◌≢◌, ℕ, List, [], ◌∷◌, ◌++◌, refl, ap, sym, ◌∙◌, Option, Some, None, slice_get, slice_set, inl, inr, true, false, IfSome, ne_eqb, false≢true, AllDone, Slot, Open, InHand, Done}
use Rattle.nef_core.specs.Views.{has_job}
use Rattle.nef_core.proofs.Places.{get_set_other, same_or_not}

-- the kinds of slot are told apart
pub open_not_held : (w : ℕ) → Some Open ≡ Some (InHand w) → ⊥
open_not_held w e = cc

pub open_not_done : (w : ℕ) → Some Open ≡ Some (Done w) → ⊥
open_not_done w e = cc

pub held_not_done : (v w : ℕ) → Some (InHand v) ≡ Some (Done w) → ⊥
held_not_done v w e = cc

pub done_not_held : (v w : ℕ) → Some (Done v) ≡ Some (InHand w) → ⊥
done_not_held v w e = cc

pub held_by : (v w : ℕ) → Some (InHand v) ≡ Some (InHand w) → v ≡ w
held_by v w e = cc

-- a list of deposits under slots that keep what is done
pub done_moved : (old new : List Slot) (ds : List (ℕ × ℕ)) → ((job w : ℕ) → slice_get old job ≡ Some (Done w) → slice_get new job ≡ Some (Done w)) → AllDone old ds → AllDone new ds
done_moved old new [] keep h = tt
done_moved old new (d ∷ ds) keep h = (keep d.0 d.1 h.0, done_moved old new ds keep h.1)

pub done_append : (slots : List Slot) (a b : List (ℕ × ℕ)) → AllDone slots a → AllDone slots b → AllDone slots (a ++ b)
done_append slots [] b h k = k
done_append slots (d ∷ ds) b h k = (h.0, done_append slots ds b h.1 k)

-- a job that isn't done is not among the deposits
pub not_among : (slots : List Slot) (job : ℕ) (y : Slot) (ds : List (ℕ × ℕ)) → slice_get slots job ≡ Some y → ((w : ℕ) → Some y ≡ Some (Done w) → ⊥) → AllDone slots ds → has_job job ds ≡ false
not_among slots job y [] at n h = refl
not_among slots job y (d ∷ ds) at n h =
    let differs : d.0 ≢ job = λ e. n d.1 (sym at ∙ (ap (slice_get slots) (sym e) ∙ h.0)) in
    rw (ne_eqb d.0 job differs) (not_among slots job y ds at n h.1)

-- and one that is among them is done
pub among : (slots : List Slot) (job : ℕ) (ds : List (ℕ × ℕ)) → has_job job ds ≡ true → AllDone slots ds → (w : ℕ) × (slice_get slots job ≡ Some (Done w))
among slots job [] h a = absurd (false≢true h)
among slots job (d ∷ ds) h a = elim (same_or_not d.0 job) [
  | inl e ↦ (d.1, ap (slice_get slots) (sym e) ∙ a.0)
  | inr n ↦ among slots job ds (rw (ne_eqb d.0 job n) at h) a.1
]

-- one slot that was not done is set
pub keeps_done : (slots : List Slot) (i : ℕ) (x y : Slot) → slice_get slots i ≡ Some y → ((w : ℕ) → Some y ≡ Some (Done w) → ⊥) → (job w : ℕ) → slice_get slots job ≡ Some (Done w) → slice_get (slice_set slots i x) job ≡ Some (Done w)
keeps_done slots i x y at n job w d =
    elim (same_or_not job i) [
      | inl e ↦ absurd (n w (sym at ∙ (ap (slice_get slots) (sym e) ∙ d)))
      | inr ne ↦ get_set_other slots i job x ne ∙ d
    ]

-- and it was not in the hand of this pass
pub hand_moved : (slots : List Slot) (i place : ℕ) (x y : Slot) (h : Option ℕ) → slice_get slots i ≡ Some y → (Some y ≡ Some (InHand place) → ⊥) → IfSome h (λ job. slice_get slots job ≡ Some (InHand place)) → IfSome h (λ job. slice_get (slice_set slots i x) job ≡ Some (InHand place))
hand_moved slots i place x y None at n h = tt
hand_moved slots i place x y (Some job) at n h =
    elim (same_or_not job i) [
      | inl e ↦ absurd (n (sym at ∙ (ap (slice_get slots) (sym e) ∙ h)))
      | inr ne ↦ get_set_other slots i job x ne ∙ h
    ]
