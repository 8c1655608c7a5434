-- What is kept of values, and what goes.
use Rattle.nef_shell.proofs.Prelude.{◌≡◌, ◌⊎◌, ◌∙◌, ℕ, zero, suc, ◌+◌, ◌<◌, Bool, true, false, arith, ap, refl, sym, subst, List, [], ◌∷◌, length, Option, Some, None, IsSomeAnd, slice_set, inl, inr, Box, is_some, option_and_then, cases_eq, length-set, slice_get_within, get_set_here, get_set_other, TextVersion, Set, ShowsSet, operand, Step, first_value, second_value, value_set, Held, IsHeld, IsHeldAt, IsNewlyHeld, IsThere, AreHeld, AreStill, complex_in, complex_at, IsShownAt, cleared, IsSpent, handed_complex, AreLess, IsLet, IsShown, IsLent}
use Rattle.std.proofs.Common.{slice_get}
use Rattle.std.proofs.lemmas.Option.{same_Some}

module _ {X : Type 0} where
  -- whether something is there tells it
  pub there-of : (o : Option (Option X)) (x : Option X) → o ≡ Some x → is_some x ≡ true → (c : X) × (o ≡ Some (Some c))
  there-of o None e is = absurd (let f : false ≡ true = is in cc)
  there-of o (Some c) e is = (c, e)

  -- a place that was emptied has nothing
  pub empty-not : (list : List (Option X)) (k : ℕ) (x : X) → slice_get (slice_set list k None) k ≡ Some (Some x) → ⊥
  empty-not [] k x e = let f : None ≡ Some (Some x) = e in cc
  empty-not (y ∷ list) zero x e = let f : Some None ≡ Some (Some x) = e in cc
  empty-not (y ∷ list) (suc k) x e = empty-not list k x e

  -- what stands at a place where something was put
  pub put-only : (list : List (Option X)) (n : ℕ) (o : Option X) (k : ℕ) (x : Option X) → n < length list → slice_get (slice_set list n o) k ≡ Some x → ((k ≡ n) × (x ≡ o)) ⊎ ((k ≡ n → ⊥) × (slice_get list k ≡ Some x))
  put-only list n o k x within at = elim (cases_eq k n) [
    | inl e ↦
        let here : slice_get (slice_set list n o) k ≡ Some o = subst (λ z. slice_get (slice_set list n o) z ≡ Some o) (sym e) (get_set_here list n o within) in
        inl (e, same_Some x o (sym at ∙ here))
    | inr other ↦ inr (other, sym (get_set_other list n k o other) ∙ at)
  ]

  -- nothing goes; some goes, and then more; and more may go
  pub less-none : (P : ℕ → Type 0) (list : List (Option X)) → AreLess P list list
  less-none P list = record { count = refl; only = λ k x at. at; stays = λ k x may at. at }

  pub less-both : (P : ℕ → Type 0) (a b c : List (Option X)) → AreLess P a b → AreLess P b c → AreLess P a c
  less-both P a b c p q = record {
    count = q.count ∙ p.count;
    only = λ k x at. p.only k x (q.only k x at);
    stays = λ k x may at. q.stays k x may (p.stays k x may at);
  }

  pub less-wider : (P Q : ℕ → Type 0) (a b : List (Option X)) → ((k : ℕ) → P k → Q k) → AreLess P a b → AreLess Q a b
  less-wider P Q a b wider p = record { count = p.count; only = p.only; stays = λ k x may at. p.stays k x (λ h. may (wider k h)) at }

  less-set : (P : ℕ → Type 0) (list : List (Option X)) (n : ℕ) → P n → AreLess P list (slice_set list n None)
  less-set P list n may = record {
    count = length-set list n None;
    only = λ k x at. elim (cases_eq k n) [
      | inl e ↦ absurd (empty-not list n x (subst (λ z. slice_get (slice_set list n None) z ≡ Some (Some x)) e at))
      | inr other ↦ sym (get_set_other list n k None other) ∙ at
    ];
    stays = λ k x may_not at. get_set_other list n k None (λ e. may_not (subst P (sym e) may)) ∙ at;
  }

  -- a value that ends is let go
  pub cleared-less : (ends : Bool) (value : Option ℕ) (list : List (Option X)) → AreLess (λ k. (ends ≡ true) × (value ≡ Some k)) list (cleared ends value list)
  cleared-less false value list = less-none _ list
  cleared-less true None list = less-none _ list
  cleared-less true (Some n) list = less-set _ list n (refl, refl)

  cleared-gone : (ends : Bool) (value : Option ℕ) (list : List (Option X)) (k : ℕ) → ends ≡ true → value ≡ Some k → IsThere (cleared ends value list) k → ⊥
  cleared-gone false value list k e is there = let f : false ≡ true = e in cc
  cleared-gone true None list k e is there = let f : None ≡ Some k = is in cc
  cleared-gone true (Some n) list k e is (x, at) = let same : n ≡ k = cc in empty-not list n x (subst (λ z. slice_get (slice_set list n None) z ≡ Some (Some x)) (sym same) at)

  pub cleared-length : (ends : Bool) (value : Option ℕ) (list new : List (Option X)) → new ≡ cleared ends value list → length new ≡ length list
  cleared-length ends value list new is = ap length is ∙ (cleared-less ends value list).count

  -- a step lets three go
  module _ (s : Step) (n : ℕ) (first second : Option ℕ) (list a b d : List (Option X)) (is_first : first ≡ first_value s.task) (is_second : second ≡ second_value s.task)
      (one : a ≡ cleared s.ends_first first list) (two : b ≡ cleared s.ends_second second a) (three : d ≡ cleared s.ends_made (Some n) b) where
    first-less : AreLess (IsLet s n) list a
    first-less = less-wider _ _ list a (λ k h. inl (inl (h.0, sym is_first ∙ h.1))) (subst (AreLess _ list) (sym one) (cleared-less s.ends_first first list))

    second-less : AreLess (IsLet s n) a b
    second-less = less-wider _ _ a b (λ k h. inl (inr (h.0, sym is_second ∙ h.1))) (subst (AreLess _ a) (sym two) (cleared-less s.ends_second second a))

    third-less : AreLess (IsLet s n) b d
    third-less = less-wider _ _ b d (λ k h. inr (h.0, (let e : Some n ≡ Some k = h.1 in cc))) (subst (AreLess _ b) (sym three) (cleared-less s.ends_made (Some n) b))

    pub let-less : AreLess (IsLet s n) list d
    let-less = less-both _ list b d (less-both _ list a b first-less second-less) third-less

    pub let-gone : (k : ℕ) → IsLet s n k → IsThere d k → ⊥
    let-gone k lets (x, at) = elim lets [
      | inl operands ↦
          let in_b = third-less.only k x at in
          elim operands [
            | inl (ends, is) ↦ cleared-gone s.ends_first first list k ends (is_first ∙ is) (x, subst (λ z. slice_get z k ≡ Some (Some x)) one (second-less.only k x in_b))
            | inr (ends, is) ↦ cleared-gone s.ends_second second a k ends (is_second ∙ is) (x, subst (λ z. slice_get z k ≡ Some (Some x)) two in_b)
          ]
      | inr (ends, is) ↦ cleared-gone s.ends_made (Some n) b k ends (ap Some (sym is)) (x, subst (λ z. slice_get z k ≡ Some (Some x)) three at)
    ]

  pub spent-less : (k other : ℕ) (ends : Bool) (old new : List (Option X)) (taken : Option X) → IsSpent k other ends old new taken → AreLess (λ n. (ends ≡ true) × (Some k ≡ Some n)) old new
  spent-less k other ends old new taken is = elim is [
    | inl (none, same) ↦ subst (AreLess _ old) (sym same) (less-none _ old)
    | inr (apart, does, found, set) ↦ subst (AreLess _ old) (sym set) (less-set _ old k (does, refl))
  ]

-- what is new is right
pub new-held : (version : TextVersion) (s : Set) (h : Held) → IsNewlyHeld s h → IsHeld version s h
new-held version s h (shows, parts, text) = record { shows = shows; parts = rw parts tt; text = rw text tt }

module _ {Z : Type 0} where
  -- ---- complexes that are there
  pub shown-there : (s : Set) (list : List (Option (Box Held Z))) (k : ℕ) → IsShownAt s list k → (b : Box Held Z) × (slice_get list k ≡ Some (Some b)) × ShowsSet s b.value.complex
  shown-there s list k h = of (slice_get list k) refl h
    where
      of : (o : Option (Option (Box Held Z))) → slice_get list k ≡ o → IsShown s (option_and_then complex_in o) → (b : Box Held Z) × (slice_get list k ≡ Some (Some b)) × ShowsSet s b.value.complex
      of None e h = absurd h
      of (Some None) e h = absurd h
      of (Some (Some b)) e h = (b, e, h)

  pub there-shown : (s : Set) (list : List (Option (Box Held Z))) (k : ℕ) (b : Box Held Z) → slice_get list k ≡ Some (Some b) → ShowsSet s b.value.complex → IsShownAt s list k
  there-shown s list k b at shows = subst (λ o. IsShown s (option_and_then complex_in o)) (sym at) shows

  pub shown-within : (s : Set) (list : List (Option (Box Held Z))) (k : ℕ) → IsShownAt s list k → k < length list
  shown-within s list k h = let (b, at, shows) = shown-there s list k h in slice_get_within list k (Some b) at

  -- so are those of operands
  pub lent-at : (ss : List Set) (list : List (Option (Box Held Z))) (value : Option ℕ) → ((k : ℕ) → value ≡ Some k → IsShownAt (operand ss k) list k) → IsLent ss value (complex_at list value)
  lent-at ss list None h = tt
  lent-at ss list (Some k) h = h k refl

  -- a value that was spent is handed on, and the other one stays
  pub spent-shown : (s : Set) (k other : ℕ) (ends : Bool) (old new : List (Option (Box Held Z))) (taken : Option (Box Held Z)) → IsSpent k other ends old new taken → IsShownAt s old k → IsShown s (handed_complex taken k new)
  spent-shown s k other ends old new taken is shown = elim is [
    | inl (none, same) ↦ subst (λ (z : Option (Box Held Z) × List (Option (Box Held Z))). IsShown s (handed_complex z.0 k z.1)) (λ t. (sym none t, sym same t)) shown
    | inr (apart, does, found, set) ↦
        let (b, at, shows) = shown-there s old k shown in
        let both : Some taken ≡ Some (Some b) = sym found ∙ at in
        let is_b : taken ≡ Some b = cc in
        subst (λ z. IsShown s (handed_complex z k new)) (sym is_b) shows
  ]

  pub spent-beside : (s : Set) (k other : ℕ) (ends : Bool) (old new : List (Option (Box Held Z))) (taken : Option (Box Held Z)) → IsSpent k other ends old new taken → IsShownAt s old other → IsShownAt s new other
  spent-beside s k other ends old new taken is shown = elim is [
    | inl (none, same) ↦ subst (λ z. IsShownAt s z other) (sym same) shown
    | inr (apart, does, found, set) ↦
        let (b, at, shows) = shown-there s old other shown in
        there-shown s new other b (ap (λ z. slice_get z other) set ∙ (get_set_other old k other None (λ e. apart (sym e)) ∙ at)) shows
  ]

  pub handed-beside : (s : Set) (o : Option (Box Held Z)) (k : ℕ) (old new : List (Option (Box Held Z))) → (IsShownAt s old k → IsShownAt s new k) → IsShown s (handed_complex o k old) → IsShown s (handed_complex o k new)
  handed-beside s None k old new then h = then h
  handed-beside s (Some b) k old new then h = h

  -- ---- what is kept of values is right
  pub held-less : (version : TextVersion) (steps : List Step) (P : ℕ → Type 0) (old new : List (Option (Box Held Z))) → AreLess P old new → AreHeld version steps old → AreHeld version steps new
  held-less version steps P old new less held k b at = held k b (less.only k b at)

  pub held-put : (version : TextVersion) (steps : List Step) (list : List (Option (Box Held Z))) (n : ℕ) (o : Option (Box Held Z)) → n < length list → IsSomeAnd o (λ b. IsNewlyHeld (value_set steps n) b.value) → AreHeld version steps list → AreHeld version steps (slice_set list n o)
  held-put version steps list n o within is held k b at = elim (put-only list n o k (Some b) within at) [
    | inl (here, same) ↦
        let new : IsNewlyHeld (value_set steps n) b.value = subst (λ z. IsSomeAnd z (λ c. IsNewlyHeld (value_set steps n) c.value)) (sym same) is in
        subst (λ z. IsHeld version (value_set steps z) b.value) (sym here) (new-held version _ b.value new)
    | inr (other, was) ↦ held k b was
  ]

  pub held-still : (version : TextVersion) (steps : List Step) (old new : List (Option (Box Held Z))) → AreStill version old new → AreHeld version steps old → AreHeld version steps new
  held-still version steps old new still held k b at = let (a, was, stays) = still.held k b at in stays (value_set steps k) (held k a was)

  -- something is worked of what is kept at one place
  pub still-put : (version : TextVersion) (list : List (Option (Box Held Z))) (n : ℕ) (a b : Box Held Z) → slice_get list n ≡ Some (Some a) → ((s : Set) → IsHeld version s a.value → IsHeld version s b.value) → AreStill version list (slice_set (slice_set list n None) n (Some b))
  still-put version list n a b at stays = record {
    count = length-set (slice_set list n None) n (Some b) ∙ length-set list n None;
    there = λ k h. elim (cases_eq k n) [
      | inl e ↦ (b, subst (λ z. slice_get (slice_set (slice_set list n None) n (Some b)) z ≡ Some (Some b)) (sym e) (get_set_here (slice_set list n None) n (Some b) within))
      | inr other ↦ (h.0, get_set_other (slice_set list n None) n k (Some b) other ∙ (get_set_other list n k None other ∙ h.1))
    ];
    held = λ k c found. elim (put-only (slice_set list n None) n (Some b) k (Some c) within found) [
      | inl (here, same) ↦
          let is : c ≡ b = cc in
          (a, subst (λ z. slice_get list z ≡ Some (Some a)) (sym here) at, λ s h. subst (λ (z : Box Held Z). IsHeld version s z.value) (sym is) (stays s h))
      | inr (other, was) ↦ (c, sym (get_set_other list n k None other) ∙ was, λ s h. h)
    ];
  }
    where
      within : n < length (slice_set list n None)
      within = let low = slice_get_within list n (Some a) at in let e = length-set list n None in omega (arith, low, e)

  -- a value that is kept shows its set
  pub held-shown : (version : TextVersion) (s : Set) (list : List (Option (Box Held Z))) (k : ℕ) → IsHeldAt version s list k → IsShownAt s list k
  held-shown version s list k (b, at, held) = there-shown s list k b at held.shows
