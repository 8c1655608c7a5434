-- Lists of views, and what a step leaves as it was.
use Rattle.nef_free.proofs.Prelude.{◌≡◌, ℕ, zero, suc, ◌+◌, ◌<◌, ◌≤◌, List, [], ◌∷◌, ◌++◌, length, refl, ap, sym, ◌∙◌, Option, Some, None, slice_index, arith, inl, inr, true, false, set, cond, not, ◌&&◌, State, set_here, set_else, Slot, Open, InHand, Done, same_or_not, within, View, drew_past, overs, SlotIs}
use mathlib.Core.Option.{some, some-injective, some-ne-none}
use lib.ListN.{get_elem?}

pub overs_set : (views : List View) (k : ℕ) (v w : View) → get_elem? views k ≡ some v → overs (set views k w) + drew_past v ≡ overs views + drew_past w
overs_set [] k v w e = absurd (some-ne-none v (sym e))
overs_set (x ∷ xs) zero v w e = let q : drew_past x ≡ drew_past v = ap drew_past (some-injective x v e) in omega arith
overs_set (x ∷ xs) (suc k) v w e = let h = overs_set xs k v w e in omega arith

pub over_small : (v : View) → drew_past v ≤ 1
over_small v = elim (v.live && not v.ended) as (λ b. cond b 0 1 ≤ 1) [ true ↦ omega arith | false ↦ omega arith ]

pub overs_length : (views : List View) → overs views ≤ length views
overs_length [] = omega arith
overs_length (x ∷ xs) = let a = over_small x in let b = overs_length xs in omega arith

pub overs_snoc : (views : List View) (w : View) → overs (views ++ w ∷ []) ≡ overs views + drew_past w
overs_snoc [] w = omega arith
overs_snoc (x ∷ xs) w = let h = overs_snoc xs w in omega arith

-- a hand that was there is there
pub still : (views : List View) (k : ℕ) (v w : View) (job : ℕ) → get_elem? views k ≡ some v → (v.hand ≡ Some job → (w.live ≡ true) × (w.hand ≡ Some job))
    → (place : ℕ) (u : View) → get_elem? views place ≡ some u → u.live ≡ true → u.hand ≡ Some job
    → (t : View) × (get_elem? (set views k w) place ≡ some t) × (t.live ≡ true) × (t.hand ≡ Some job)
still views k v w job at keep place u h live hand =
    elim (same_or_not place k) [
      | inl e ↦
          let same : v ≡ u = some-injective v u (sym at ∙ (ap (get_elem? views) (sym e) ∙ h)) in
          let r = keep (ap (λ (z : View). z.hand) same ∙ hand) in
          (w, ap (get_elem? (set views k w)) e ∙ set_here views k w (within views k v at), r.0, r.1)
      | inr n ↦ (u, set_else views k place w n ∙ h, live, hand)
    ]

module _ {Out : Type 0} (right : ℕ → Out → Type 0) where
  -- a job whose word, home and hand are as they were
  pub moved : (s t : State (Option Out) View) (job : ℕ) (x : Slot)
      → slice_index t.words (job + 1) ≡ slice_index s.words (job + 1)
      → (job < slice_index s.words 0 → job < slice_index t.words 0)
      → (slice_index s.words 0 ≤ job → slice_index t.words 0 ≤ job)
      → get_elem? t.homes job ≡ get_elem? s.homes job
      → ((place : ℕ) (u : View) → get_elem? s.views place ≡ some u → u.live ≡ true → u.hand ≡ Some job → (r : View) × (get_elem? t.views place ≡ some r) × (r.live ≡ true) × (r.hand ≡ Some job))
      → SlotIs right s job x → SlotIs right t job x
  moved s t job Open w b a h v p = (h ∙ p.0, elim p.1 [ inl q ↦ inl (w ∙ q.0, b q.1) | inr q ↦ inr (w ∙ q.0, a q.1) ])
  moved s t job (InHand n) w b a h v p = (w ∙ p.0, b p.1, h ∙ p.2, v n p.3.0 p.3.1 p.3.2 p.3.3)
  moved s t job (Done n) w b a h v p = (w ∙ p.0, b p.1, (p.2.0, h ∙ p.2.1, p.2.2))

  -- a job that was not drawn is open, and its home is empty
  pub undrawn : (s : State (Option Out) View) (job : ℕ) (x : Slot) → slice_index s.words 0 ≤ job → SlotIs right s job x → (x ≡ Open) × (slice_index s.words (job + 1) ≡ 0) × (get_elem? s.homes job ≡ some (some None))
  undrawn s job Open h p = elim p.1 [ inl q ↦ absurd (let k = q.1 in omega arith) | inr q ↦ (refl, q.0, p.0) ]
  undrawn s job (InHand n) h p = absurd (let k = p.1 in omega arith)
  undrawn s job (Done n) h p = absurd (let k = p.1 in omega arith)
