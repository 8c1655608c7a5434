-- How many steps there are at most: one for each node that is made, and one for each question.
use Rattle.nef_plan.proofs.Prelude.{◌≡◌, ◌∙◌, ℕ, zero, suc, ◌+◌, ◌<◌, ◌≤◌, ◌⊎◌, refl, ap, sym, arith, cases_eq, cases_lt, List, [], ◌∷◌, length, length-append, inl, inr, Option, None, Some, filter, Command, Step, Task, is_question, IsValue, MakesValue, asked_values, questions_of}
use Rattle.std.proofs.Common.{slice_get, not}
use Rattle.std.proofs.lemmas.List.Filters.{length-filter_both}
use Rattle.nef_plan.specs.declared.step.Task.TheVariants as task

-- ---- places
-- k, and the last one's place where k is n
abbrev moved_by : (n last k : ℕ) → (k ≡ n) ⊎ (k ≡ n → ⊥) → ℕ
moved_by n last k (inl e) = last
moved_by n last k (inr other) = k

abbrev moved : ℕ → ℕ → ℕ → ℕ
moved n last k = moved_by n last k (cases_eq k n)

moved-at : (n last k : ℕ) → k ≡ n → moved n last k ≡ last
moved-at n last k e = at (cases_eq k n)
  where
    at : (o : (k ≡ n) ⊎ (k ≡ n → ⊥)) → moved_by n last k o ≡ last
    at (inl f) = refl
    at (inr other) = absurd (other e)

moved-other : (n last k : ℕ) → (k ≡ n → ⊥) → moved n last k ≡ k
moved-other n last k other = at (cases_eq k n)
  where
    at : (o : (k ≡ n) ⊎ (k ≡ n → ⊥)) → moved_by n last k o ≡ k
    at (inl e) = absurd (other e)
    at (inr not_n) = refl

module _ (n m : ℕ) (f : ℕ → ℕ) (below : (i : ℕ) → i < suc m → f i < suc n) (once : (i j : ℕ) → i < suc m → j < suc m → f i ≡ f j → i ≡ j) where
  apart : (i : ℕ) → i < m → f i ≡ f m → ⊥
  apart i low e = let same = once i m (omega (arith, low)) (omega arith) e in omega (arith, low, same)

  moved-below : (i : ℕ) → i < m → moved n (f m) (f i) < n
  moved-below i low = elim (cases_eq (f i) n) [
    | inl e ↦ elim (cases_eq (f m) n) [
      | inl h ↦ absurd (apart i low (e ∙ sym h))
      | inr other ↦ (let is = moved-at n (f m) (f i) e in let b = below m (omega arith) in omega (arith, is, b, other))
    ]
    | inr other ↦ (let is = moved-other n (f m) (f i) other in let b = below i (omega (arith, low)) in omega (arith, is, b, other))
  ]

  moved-once : (i j : ℕ) → i < m → j < m → moved n (f m) (f i) ≡ moved n (f m) (f j) → i ≡ j
  moved-once i j low high e = elim (cases_eq (f i) n) [
    | inl a ↦ elim (cases_eq (f j) n) [
      | inl b ↦ once i j (omega (arith, low)) (omega (arith, high)) (a ∙ sym b)
      | inr b ↦ absurd (apart j high (sym (moved-other n (f m) (f j) b) ∙ sym e ∙ moved-at n (f m) (f i) a))
    ]
    | inr a ↦ elim (cases_eq (f j) n) [
      | inl b ↦ absurd (apart i low (sym (moved-other n (f m) (f i) a) ∙ e ∙ moved-at n (f m) (f j) b))
      | inr b ↦ once i j (omega (arith, low)) (omega (arith, high)) (sym (moved-other n (f m) (f i) a) ∙ e ∙ moved-other n (f m) (f j) b)
    ]
  ]

-- n places hold no more than n things, of which no two stand at one place
pigeonhole : (n m : ℕ) (f : ℕ → ℕ) → ((i : ℕ) → i < m → f i < n) → ((i j : ℕ) → i < m → j < m → f i ≡ f j → i ≡ j) → m ≤ n
pigeonhole n zero f below once = omega arith
pigeonhole zero (suc m) f below once = absurd (let b = below 0 (omega arith) in omega (arith, b))
pigeonhole (suc n) (suc m) f below once = let few = pigeonhole n m (λ i. moved n (f m) (f i)) (moved-below n m f below once) (moved-once n m f below once) in omega (arith, few)

-- ---- steps
-- how many of the first i steps ask a question
abbrev asked_before : List Step → ℕ → ℕ
asked_before [] i = 0
asked_before (s ∷ steps) zero = 0
asked_before (s ∷ steps) (suc i) = length (questions_of s.task) + asked_before steps i

asked-next : (steps : List Step) (i : ℕ) (s : Step) → slice_get steps i ≡ Some s → (j : ℕ) → i < j → asked_before steps i + length (questions_of s.task) ≤ asked_before steps j
asked-next [] i s at j low = absurd (let e : None ≡ Some s = at in cc)
asked-next (t ∷ steps) i s at zero low = absurd (omega (arith, low))
asked-next (t ∷ steps) zero s at (suc j) low = let e : Some t ≡ Some s = at in let same : t ≡ s = cc in let count = ap (λ (z : Step). length (questions_of z.task)) same in omega (arith, count)
asked-next (t ∷ steps) (suc i) s at (suc j) low = let h = asked-next steps i s at j (omega (arith, low)) in omega (arith, h)

asked-all : (steps : List Step) (i : ℕ) (s : Step) → slice_get steps i ≡ Some s → asked_before steps i + length (questions_of s.task) ≤ length (asked_values steps)
asked-all [] i s at = absurd (let e : None ≡ Some s = at in cc)
asked-all (t ∷ steps) zero s at =
    let e : Some t ≡ Some s = at in
    let same : t ≡ s = cc in
    let count = ap (λ (z : Step). length (questions_of z.task)) same in
    let parts = length-append (questions_of t.task) (asked_values steps) in
    omega (arith, count, parts)
asked-all (t ∷ steps) (suc i) s at = let h = asked-all steps i s at in let parts = length-append (questions_of t.task) (asked_values steps) in omega (arith, h, parts)

there : (steps : List Step) (i : ℕ) → i < length steps → (s : Step) × (slice_get steps i ≡ Some s)
there [] i low = absurd (omega (arith, low))
there (s ∷ steps) zero low = (s, refl)
there (s ∷ steps) (suc i) low = there steps i (omega (arith, low))

-- a value stands at the place of its node, and a question behind all nodes, where q are asked before
abbrev place : (named n q : ℕ) → Task → ℕ
place named n q (task.Make m) = named
place named n q (task.Turn j t) = named
place named n q (task.Ask c i second) = n + q

told : (named n q : ℕ) (t : Task) → (MakesValue t × (place named n q t ≡ named)) ⊎ ((place named n q t ≡ n + q) × (length (questions_of t) ≡ 1))
told named n q (task.Make m) = inl (tt, refl)
told named n q (task.Turn j t) = inl (tt, refl)
told named n q (task.Ask c i second) = inr (refl, refl)

abbrev place_at : (named n q : ℕ) → Option Step → ℕ
place_at named n q None = 0
place_at named n q (Some s) = place named n q s.task

module _ (steps : List Step) (n : ℕ) (named : ℕ → ℕ) (within : (k : ℕ) (s : Step) → slice_get steps k ≡ Some s → MakesValue s.task → named k < n) (once : (j k : ℕ) → IsValue steps j → IsValue steps k → named j ≡ named k → j ≡ k) where
  abbrev place_in : ℕ → ℕ
  place_in i = place_at (named i) n (asked_before steps i) (slice_get steps i)

  place-there : (i : ℕ) (s : Step) → slice_get steps i ≡ Some s → place_in i ≡ place (named i) n (asked_before steps i) s.task
  place-there i s at = ap (place_at (named i) n (asked_before steps i)) at

  place-below : (i : ℕ) → i < length steps → place_in i < n + length (asked_values steps)
  place-below i low =
      let (s, at) = there steps i low in
      let is = place-there i s at in
      elim (told (named i) n (asked_before steps i) s.task) [
        | inl value ↦ (let b = within i s at value.0 in let e = value.1 in omega (arith, is, b, e))
        | inr asks ↦ (let b = asked-all steps i s at in let e = asks.0 in let one = asks.1 in omega (arith, is, b, e, one))
      ]

  -- of two questions the later one stands behind the other
  place-apart : (i j : ℕ) (s t : Step) → slice_get steps i ≡ Some s → slice_get steps j ≡ Some t → length (questions_of s.task) ≡ 1 → length (questions_of t.task) ≡ 1 → asked_before steps i ≡ asked_before steps j → i ≡ j
  place-apart i j s t at also first second e = elim (cases_eq i j) [
    | inl same ↦ same
    | inr other ↦ elim (cases_lt i j) [
      | inl low ↦ absurd (let h = asked-next steps i s at j low in omega (arith, h, first, e))
      | inr past ↦ absurd (let h = asked-next steps j t also i (omega (arith, past, other)) in omega (arith, h, second, e))
    ]
  ]

  place-once : (i j : ℕ) → i < length steps → j < length steps → place_in i ≡ place_in j → i ≡ j
  place-once i j low high same =
      let (s, at) = there steps i low in
      let (t, also) = there steps j high in
      let first = place-there i s at in
      let second = place-there j t also in
      elim (told (named i) n (asked_before steps i) s.task) [
        | inl value ↦ elim (told (named j) n (asked_before steps j) t.task) [
          | inl other ↦ once i j (s, at, value.0) (t, also, other.0) (sym (first ∙ value.1) ∙ same ∙ second ∙ other.1)
          | inr asks ↦ absurd (let b = within i s at value.0 in let a = first ∙ value.1 in let c = second ∙ asks.0 in omega (arith, same, a, b, c))
        ]
        | inr asks ↦ elim (told (named j) n (asked_before steps j) t.task) [
          | inl value ↦ absurd (let b = within j t also value.0 in let a = second ∙ value.1 in let c = first ∙ asks.0 in omega (arith, same, a, b, c))
          | inr other ↦ (let a = first ∙ asks.0 in let c = second ∙ other.0 in place-apart i j s t at also asks.1 other.1 (omega (arith, same, a, c)))
        ]
      ]

  pub steps-few : length steps ≤ n + length (asked_values steps)
  steps-few = pigeonhole (n + length (asked_values steps)) (length steps) place_in place-below place-once

-- there are no more questions than commands
pub questions-few : (commands : List Command) → length (filter is_question commands) ≤ length commands
questions-few commands = let both = length-filter_both is_question (λ c. not (is_question c)) (λ c. refl) commands in omega (arith, both)
