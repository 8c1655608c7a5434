-- Values that are worked ahead, and what they need.
use Rattle.nef_shell.proofs.Prelude.{◌≡◌, ◌⊎◌, ◌∙◌, ℕ, zero, suc, ◌+◌, ◌<◌, ◌≤◌, arith, ap, refl, sym, subst, List, [], ◌∷◌, ◌++◌, length, Option, Some, None, IfSome, IsSomeAnd, slice_set, inl, inr, Box, is_some, option_and_then, length-set, slice_get_cases, slice_get_within, TextVersion, operand, kept, IsReady, Step, AreSteps, IsAwaited, IsEndedAt, MakesValue, first_value, task_set, second_value, value_set, values_after, Early, Held, IsEarlyAt, IsIndex, IsOperandKept, IsEarly, AreEarly, AreLate, first_need, second_need, needed_complex, ShowsItsSet, ArePut, IsHeld, IsNewlyHeld, IsThere, AreHeld, complex_at, complex_in, AreMore, IsShown, IsLent}
use Rattle.std.proofs.Common.{slice_get}
use Rattle.std.specs.Prelude.{true, false}
use Rattle.nef_shell.proofs.Kept.{new-held, put-only, there-shown}
use Rattle.nef_shell.proofs.Sets.{value-at}
use Rattle.nef_shell.proofs.Uses.{awaited-made}
use Rattle.nef_expr.proofs.Places.{slice_get-left}

-- what stands for a value behind a list of them
abbrev pub no-early : Early
no-early = record { value = 0; needs = record { first = None; second = None } }

-- ---- lists with one more at their ends
pub at-last : {X : Type 0} (xs : List X) (x : X) → slice_get (xs ++ x ∷ []) (length xs) ≡ Some x
at-last [] x = refl
at-last (y ∷ xs) x = at-last xs x

-- an element is one of the list or the last
old-or-last : {X : Type 0} (xs : List X) (y : X) (k : ℕ) (x : X) → slice_get (xs ++ y ∷ []) k ≡ Some x → (slice_get xs k ≡ Some x) ⊎ ((k ≡ length xs) × (x ≡ y))
old-or-last [] y zero x e = inr (refl, (let f : Some y ≡ Some x = e in cc))
old-or-last [] y (suc k) x e = let f : None ≡ Some x = e in cc
old-or-last (z ∷ xs) y zero x e = inl e
old-or-last (z ∷ xs) y (suc k) x e = elim (old-or-last xs y k x e) [ inl o ↦ inl o | inr l ↦ inr (ap suc l.0, l.1) ]

-- ---- one more value that is worked ahead
at-more : (old : List Early) (e : Early) (n k : ℕ) → IsEarlyAt old n k → IsEarlyAt (old ++ e ∷ []) n k
at-more old e n k (d, at, is) = (d, slice_get-left old (e ∷ []) n d at, is)

module _ {X : Type 0} (steps : List Step) (values : List (Option X)) where
  needed-more : (old : List Early) (e : Early) (n : ℕ) (operand need : Option ℕ) → IsOperandKept values old n operand need → IsOperandKept values (old ++ e ∷ []) n operand need
  needed-more old e n None need h = h
  needed-more old e n (Some i) None h = h
  needed-more old e n (Some i) (Some j) (low, at) = (low, at-more old e j i at)

  one-more : (old : List Early) (e : Early) (n : ℕ) (d : Early) → IsEarly steps values old n d → IsEarly steps values (old ++ e ∷ []) n d
  one-more old e n d h =
      record { step = h.step; at = h.at; makes = h.makes; awaited = h.awaited; first = needed-more old e n _ _ h.first; second = needed-more old e n _ _ h.second }

  pub early-more : (old : List Early) (e : Early) → AreEarly steps values old → IsEarly steps values old (length old) e → AreEarly steps values (old ++ e ∷ [])
  early-more old e are is n d at = elim (old-or-last old e n d at) [
    | inl o ↦ one-more old e n d (are n d o)
    | inr l ↦ subst (λ (z : ℕ × Early). IsEarly steps values (old ++ e ∷ []) z.0 z.1) (λ t. (sym l.0 t, sym l.1 t)) (one-more old e (length old) e is)
  ]

  -- an operand is needed where it has a number, or is kept
  pub needed-by : (now : ℕ) (index : List (Option ℕ)) (early : List Early) (operand need : Option ℕ) → IsIndex now index early → IfSome need (λ n. (k o : ℕ) × (operand ≡ Some k) × (k ≡ now + o) × (slice_get index o ≡ Some (Some n))) → (need ≡ None → IfSome operand (IsThere values))
      → IsOperandKept values early (length early) operand need
  needed-by now index early None None is named there = refl
  needed-by now index early None (Some j) is (k, o, e, place, at) there = let f : None ≡ Some k = e in cc
  needed-by now index early (Some i) None is named there = there refl
  needed-by now index early (Some i) (Some j) is (k, o, e, place, at) there = let (d, seen, value) = is o j at in (slice_get_within early j d seen, (d, seen, value ∙ sym place ∙ same))
    where
      same : k ≡ i
      same = cc

  -- the value of a step that doesn't end it is one
  pub is-early : (early : List Early) (s : Step) (e : Early) → AreSteps steps → slice_get steps e.value ≡ Some s → IsEndedAt steps e.value s → (s.ends_made ≡ true → ⊥) → IsOperandKept values early (length early) (first_value s.task) e.needs.first → IsOperandKept values early (length early) (second_value s.task) e.needs.second
      → IsEarly steps values early (length early) e
  is-early early s e right at ended not first second =
      let awaited = awaited-made steps e.value s ended not in
      let (j, d, late, found, looks) = awaited in
      let (c, below, seen, makes) = right.made_before j d found e.value looks in
      let both : Some c ≡ Some s = sym seen ∙ at in
      let same : c ≡ s = cc in
      record { step = s; at = at; makes = subst (λ (z : Step). MakesValue z.task) same makes; awaited = awaited; first = first; second = second }

pub index-more : (now : ℕ) (index : List (Option ℕ)) (old : List Early) (e : Early) → IsIndex now index old → e.value ≡ now + length index → IsIndex now (index ++ Some (length old) ∷ []) (old ++ e ∷ [])
index-more now index old e is place o n at = elim (old-or-last index (Some (length old)) o (Some n) at) [
  | inl was ↦ at-more old e n (now + o) (is o n was)
  | inr (here, last) ↦
      let number : length old ≡ n = cc in
      (e, subst (λ z. slice_get (old ++ e ∷ []) z ≡ Some e) number (at-last old e), place ∙ ap (λ z. now + z) (sym here))
]

-- ---- what is needed
need-below : {X : Type 0} (values : List (Option X)) (early : List Early) (n : ℕ) (operand need : Option ℕ) → IsOperandKept values early n operand need → IfSome need (λ k. k < n)
need-below values early n None None h = tt
need-below values early n None (Some m) h = let f : Some m ≡ None = h in cc
need-below values early n (Some i) None h = tt
need-below values early n (Some i) (Some m) (low, at) = low

pub needs-below : {X : Type 0} (steps : List Step) (values : List (Option X)) (early : List Early) (n : ℕ) (e : Early) → AreEarly steps values early → slice_get early n ≡ Some e → IfSome e.needs.first (λ k. k < n) × IfSome e.needs.second (λ k. k < n)
needs-below steps values early n e are at = let h = are n e at in (need-below values early n _ _ h.first, need-below values early n _ _ h.second)

module _ {Z : Type 0} (version : TextVersion) (steps : List Step) (values : List (Option (Box Held Z))) (early : List Early) (held : AreHeld version steps values) where
  -- what is needed is lent to the operation
  lent-of : (n : ℕ) (results : List (Option (Option (Box Held Z)))) (operand need : Option ℕ) → IsOperandKept values early n operand need → IfSome need (λ k. IsSomeAnd (kept results k) (ShowsItsSet steps early k)) → IsLent (values_after [] steps) operand (needed_complex values results operand need)
  lent-of n results None need h there = tt
  lent-of n results (Some i) None (b, at) there = there-shown _ values i b at (held i b at).shows
  lent-of n results (Some i) (Some m) (low, (e, at, is)) there = go (kept results m) there
    where
      inner : (o : Option (Box Held Z)) → IsSomeAnd o (λ b. IsNewlyHeld (value_set steps e.value) b.value) → IsShown (operand (values_after [] steps) i) (complex_in o)
      inner None h = absurd h
      inner (Some b) h = subst (λ k. IsShown (value_set steps k) (Some b.value.complex)) is h.0

      go : (o : Option (Option (Box Held Z))) → IsSomeAnd o (ShowsItsSet steps early m) → IsShown (operand (values_after [] steps) i) (option_and_then complex_in o)
      go None h = absurd h
      go (Some o) h = inner o (h e at)

  pub lent-both : (n : ℕ) (e : Early) (s : Step) (results : List (Option (Option (Box Held Z)))) → AreEarly steps values early → slice_get early n ≡ Some e → slice_get steps e.value ≡ Some s → IsReady (ShowsItsSet steps early) (first_need early n) (second_need early n) results
      → IsLent (values_after [] steps) (first_value s.task) (needed_complex values results (first_value s.task) e.needs.first) × IsLent (values_after [] steps) (second_value s.task) (needed_complex values results (second_value s.task) e.needs.second)
  lent-both n e s results are at seen there =
      let is = are n e at in
      let both : Some is.step ≡ Some s = sym is.at ∙ seen in
      let same : is.step ≡ s = cc in
      let here = subst (λ z. IsReady (ShowsItsSet steps early) (option_and_then (λ (d : Early). d.needs.first) z) (option_and_then (λ (d : Early). d.needs.second) z) results) at there in (
        lent-of n results _ _ (subst (λ (z : Step). IsOperandKept values early n (first_value z.task) e.needs.first) same is.first) here.0,
        lent-of n results _ _ (subst (λ (z : Step). IsOperandKept values early n (second_value z.task) e.needs.second) same is.second) here.1,
      )

  -- what the task of the n-th one makes fits it
  pub fits-of : (n : ℕ) (e : Early) (s : Step) (o : Option (Box Held Z)) → AreSteps steps → slice_get early n ≡ Some e → slice_get steps e.value ≡ Some s → IsSomeAnd o (λ b. IsNewlyHeld (task_set (values_after [] steps) s.task) b.value) → ShowsItsSet steps early n o
  fits-of n e s o right at seen is d at-d =
      let both : Some e ≡ Some d = sym at ∙ at-d in
      let same : e ≡ d = cc in
      subst (λ (z : Early). IsSomeAnd o (λ b. IsNewlyHeld (value_set steps z.value) b.value)) same (subst (λ s. IsSomeAnd o (λ b. IsNewlyHeld s b.value)) (sym (value-at steps e.value s right seen)) is)

-- ---- what is made comes to its places
pub put-none : {X : Type 0} (early : List Early) (things list : List (Option X)) → ArePut early things list list
put-none early things list = record { count = refl; only = λ k x at. inl at }

pub put-more : {X : Type 0} (early : List Early) (things old list : List (Option X)) (n : ℕ) (e : Early) (x : Option X) → slice_get early n ≡ Some e → slice_get things n ≡ Some x → e.value < length list → ArePut early things old list → ArePut early things old (slice_set list e.value x)
put-more early things old list n e x at seen within put = record {
  count = length-set list e.value x ∙ put.count;
  only = λ k y there. elim (put-only list e.value x k y within there) [
    | inl (here, same) ↦ inr (n, (e, at, sym here), subst (λ z. slice_get things n ≡ Some z) (sym same) seen)
    | inr (other, was) ↦ put.only k y was
  ];
}

module _ {Z : Type 0} (version : TextVersion) (steps : List Step) (now : ℕ) (early : List Early) (things old new : List (Option (Box Held Z))) (are : AreEarly steps old early)
    (fits : (n : ℕ) (o : Option (Box Held Z)) → slice_get things n ≡ Some o → ShowsItsSet steps early n o) (put : ArePut early things old new) where
  -- what is kept is right
  pub placed-held : AreHeld version steps old → AreHeld version steps new
  placed-held held k b at = elim (put.only k (Some b) at) [
    | inl was ↦ held k b was
    | inr (n, (e, seen, is), found) ↦ subst (λ z. IsHeld version (value_set steps z) b.value) is (new-held version _ b.value (fits n (Some b) found e seen))
  ]

  -- what was kept is kept still, and the rest is looked at by later steps
  pub placed-more : AreLate now early → AreMore steps now old new
  placed-more late = record {
    count = put.count;
    stays = λ k (b, at). of k (slice_get_within old k (Some b) at) (b, at);
    only = λ k (b, at). elim (put.only k (Some b) at) [
      | inl was ↦ inl (b, was)
      | inr (n, (e, seen, is), found) ↦
          let (j, d, after, at_j, looks) = (are n e seen).awaited in
          let low = late n e seen in
          inr (subst (λ z. IsAwaited steps now z) is (j, d, omega (arith, after, low), at_j, looks))
    ];
  }
    where
      of : (k : ℕ) → k < length old → IsThere old k → IsThere new k
      of k within (b, was) = elim (slice_get_cases new k).1 [
        | inl (o, below, at, is) ↦ elim (put.only k o at) [
          | inl same ↦
              let both : Some o ≡ Some (Some b) = sym same ∙ was in
              let is_b : o ≡ Some b = cc in
              (b, at ∙ ap Some is_b)
          | inr (n, (e, seen, here), found) ↦ made o _ (fits n o found e seen) at
        ]
        | inr (past, none) ↦ let count = put.count in absurd (omega (arith, within, past, count))
      ]
        where
          made : (o : Option (Box Held Z)) (P : Box Held Z → Type 0) → IsSomeAnd o P → slice_get new k ≡ Some o → IsThere new k
          made None P h at = absurd h
          made (Some c) P h at = (c, at)
