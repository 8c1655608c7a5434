-- Rounds of numbers, and which results are there before each.
use Rattle.nef_sched.proofs.Prelude.{◌≡◌, ◌≢◌, ℕ, zero, suc, ◌+◌, ◌<◌, ◌≤◌, inl, inr, max, cond, Bool, List, [], ◌∷◌, ◌++◌, length, refl, ap, sym, ◌∙◌, arith, subst, Option, Some, None, slice_get, slice_set, slice_index_or, All, IfSome, ne_eqb, slice_index, length-append, get_or_append_left, get_or_at, get_or-set_same, slice_get_read, get_or_from_slice_get, one, times, NeedsOf, IsKept, HasNeeds, AreSound, round_after, AreRounds, IsRoundList}
use Rattle.std.proofs.Math.Nat.{le-max_left, le-max_right, max-le, eq-zero-or-pos}
use Rattle.nef_sched.proofs.Totals.{weigh_append, counts_itself}
use Rattle.nef_sched.proofs.Outs.{all_in, all_next, ready_of, times_at}
use Rattle.nef_core.proofs.Places.{same_or_not}

one_other : (x y : ℕ) → y ≢ x → one x y ≡ 0
one_other x y n = ap (λ (b : Bool). cond b 1 0) (ne_eqb y x n)

some_of : (P : ℕ → Type 0) (need : Option ℕ) → ((k : ℕ) → need ≡ Some k → P k) → IfSome need P
some_of P None h = tt
some_of P (Some k) h = h k refl

-- the round of each number is one of so many
after_push : (rounds : List ℕ) (r : ℕ) (need : Option ℕ) → IfSome need (λ k. k < length rounds) → round_after (rounds ++ r ∷ []) need ≡ round_after rounds need
after_push rounds r None w = refl
after_push rounds r (Some k) w = ap (λ n. n + 1) (get_or_append_left rounds (r ∷ []) 0 k w)

after_low : (n : ℕ) (rounds : List ℕ) (need : Option ℕ) → ((k : ℕ) → k < n → slice_index rounds k ≤ k) → IfSome need (λ k. k < n) → round_after rounds need ≤ n
after_low n rounds None low w = omega arith
after_low n rounds (Some k) low w = let h = low k w in omega arith

pub rounds_next : (n : ℕ) (first second : ℕ → Option ℕ) (rounds : List ℕ) (r : ℕ) → AreRounds n first second rounds → IfSome (first n) (λ k. k < n) → IfSome (second n) (λ k. k < n) → r ≡ max (round_after rounds (first n)) (round_after rounds (second n)) → AreRounds (n + 1) first second (rounds ++ r ∷ [])
rounds_next n first second rounds r a one two e = record {
  len = let l = a.len in omega (arith, length-append rounds (r ∷ []));
  each = all_next (λ m. slice_index (rounds ++ r ∷ []) m ≡ max (round_after (rounds ++ r ∷ []) (first m)) (round_after (rounds ++ r ∷ []) (second m))) n
      (λ m low. here m low ∙ a.each m low ∙ same m (λ k f. within m k low (inl f)) (λ k s. within m k low (inr s)))
      (last ∙ e ∙ same n (λ k f. inside k (some_at (first n) k f one)) (λ k s. inside k (some_at (second n) k s two)));
  below = λ m k low needs. all_next (λ m. NeedsOf first second m k → k < m) n (λ j small. a.below j k small) (λ h. elim h [ inl f ↦ some_at (first n) k f one | inr s ↦ some_at (second n) k s two ]) m low needs;
  low = all_next (λ m. slice_index (rounds ++ r ∷ []) m ≤ m) n
      (λ m low. let h = a.low m low in let i = here m low in omega arith)
      (let h = max-le (after_low n rounds (first n) a.low one) (after_low n rounds (second n) a.low two) in let i = last in omega arith);
}
  where
    here : (m : ℕ) → m < n → slice_index (rounds ++ r ∷ []) m ≡ slice_index rounds m
    here m low = let l = a.len in get_or_append_left rounds (r ∷ []) 0 m (omega arith)

    last : slice_index (rounds ++ r ∷ []) n ≡ r
    last = get_or_at rounds r [] 0 n a.len

    some_at : (need : Option ℕ) (k : ℕ) → need ≡ Some k → IfSome need (λ j. j < n) → k < n
    some_at need k f w = subst (λ z. IfSome z (λ j. j < n)) f w

    inside : (k : ℕ) → k < n → k < length rounds
    inside k low = let l = a.len in omega arith

    within : (m k : ℕ) → m < n → NeedsOf first second m k → k < length rounds
    within m k low needs = let b = a.below m k low needs in inside k (omega arith)

    same : (m : ℕ) → ((k : ℕ) → first m ≡ Some k → k < length rounds) → ((k : ℕ) → second m ≡ Some k → k < length rounds) → max (round_after rounds (first m)) (round_after rounds (second m)) ≡ max (round_after (rounds ++ r ∷ []) (first m)) (round_after (rounds ++ r ∷ []) (second m))
    same m f s =
        let p = after_push rounds r (first m) (some_of _ _ f) in
        let q = after_push rounds r (second m) (some_of _ _ s) in
        λ t. max (sym p t) (sym q t)

-- what a number needs comes in an earlier round
pub needed_before : (size : ℕ) (first second : ℕ → Option ℕ) (rounds : List ℕ) (n k : ℕ) → AreRounds size first second rounds → n < size → NeedsOf first second n k → slice_index rounds k < slice_index rounds n
needed_before size first second rounds n k a low needs =
    let e = a.each n low in
    let l = le-max_left (round_after rounds (first n)) (round_after rounds (second n)) in
    let r = le-max_right (round_after rounds (first n)) (round_after rounds (second n)) in
    elim needs [
      | inl f ↦ let p : round_after rounds (first n) ≡ slice_index rounds k + 1 = ap (round_after rounds) f in omega arith
      | inr s ↦ let p : round_after rounds (second n) ≡ slice_index rounds k + 1 = ap (round_after rounds) s in omega arith
    ]

-- groups of numbers by their rounds
pub group_here : (n : ℕ) (rounds : List ℕ) (r : ℕ) (xs : List ℕ) → slice_index rounds n ≡ r → IsRoundList n rounds r xs → IsRoundList (n + 1) rounds r (xs ++ n ∷ [])
group_here n rounds r xs e g = (every, only)
  where
    longer : (k : ℕ) → times k (xs ++ n ∷ []) ≡ times k xs + (one k n + 0)
    longer k = weigh_append (one k) xs (n ∷ [])

    every : (k : ℕ) → k < n + 1 → slice_index rounds k ≡ r → times k (xs ++ n ∷ []) ≡ 1
    every k low is = elim (same_or_not k n) [
      | inl same ↦
          let new : times k xs ≡ 0 = elim (eq-zero-or-pos (times k xs)) [ inl z ↦ z | inr s ↦ absurd (let h = (g.1 k s).0 in omega arith) ] in
          let own : one k n ≡ 1 = subst (λ z. one k z ≡ 1) same (counts_itself k) in
          let l = longer k in
          omega arith
      | inr other ↦
          let old = g.0 k (omega arith) is in
          let no = one_other k n (λ q. other (sym q)) in
          let l = longer k in
          omega arith
    ]

    only : (k : ℕ) → 0 < times k (xs ++ n ∷ []) → (k < n + 1) × (slice_index rounds k ≡ r)
    only k some = elim (same_or_not k n) [
      | inl same ↦ (omega arith, ap (slice_index rounds) same ∙ e)
      | inr other ↦
          let no = one_other k n (λ q. other (sym q)) in
          let l = longer k in
          let h = g.1 k (omega arith) in
          let i = h.0 in
          (omega arith, h.1)
    ]

pub group_other : (n : ℕ) (rounds : List ℕ) (r : ℕ) (xs : List ℕ) → (slice_index rounds n ≡ r → ⊥) → IsRoundList n rounds r xs → IsRoundList (n + 1) rounds r xs
group_other n rounds r xs ne g = (
  (λ k low is. elim (same_or_not k n) [
    | inl same ↦ absurd (ne (sym (ap (slice_index rounds) same) ∙ is))
    | inr other ↦ g.0 k (omega arith) is
  ]),
  λ k some. let h = g.1 k some in let i = h.0 in (omega arith, h.1),
)

-- a group that is put into its place, and the others
pub set_here : {V : Type 0} (f : V → List ℕ) (xs : List V) (i : ℕ) (new group : V) → i < length xs → slice_get (slice_set xs i new) i ≡ Some group → f group ≡ f new
set_here f xs i new group low at = ap f (sym (get_or_from_slice_get (slice_set xs i new) i group new at) ∙ get_or-set_same xs i new new low)

pub set_elsewhere : {V : Type 0} (xs : List V) (i : ℕ) (new : V) (r : ℕ) → r ≢ i → slice_get (slice_set xs i new) r ≡ slice_get xs r
set_elsewhere [] i new r n = refl
set_elsewhere (x ∷ xs) zero new zero n = absurd (n refl)
set_elsewhere (x ∷ xs) zero new (suc r) n = refl
set_elsewhere (x ∷ xs) (suc i) new zero n = refl
set_elsewhere (x ∷ xs) (suc i) new (suc r) n = set_elsewhere xs i new r (λ e. n (ap suc e))

-- what is said of each group holds of the one that was read
pub group_at : {V : Type 0} (f : V → List ℕ) (P : ℕ → List ℕ → Type 0) (groups : List V) (r : ℕ) (x : V) (xs : List ℕ) → ((i : ℕ) (group : V) → slice_get groups i ≡ Some group → P i (f group)) → r < length groups → x ≡ slice_index_or groups r x → xs ≡ f x → P r xs
group_at f P groups r x xs each low is same = subst (P r) (sym same) (each r x (slice_get_read groups (length groups) r x refl low is))

-- what holds of each that stands in the list holds of all
pub all_listed : (P : ℕ → Type 0) (xs : List ℕ) → ((k : ℕ) → 0 < times k xs → P k) → All P xs
all_listed P xs h i d low = h (slice_index_or xs i d) (times_at xs i d low)

pub group_differs : (size : ℕ) (rounds : List ℕ) (r : ℕ) (xs : List ℕ) → IsRoundList size rounds r xs → (x : ℕ) → times x xs ≤ 1
group_differs size rounds r xs g x = elim (eq-zero-or-pos (times x xs)) [
  | inl z ↦ omega arith
  | inr s ↦ let h = g.1 x s in let e = g.0 x h.0 h.1 in omega arith
]

-- before this round the results of all earlier ones are there
abbrev pub EarlierAreKept : {X : Type 0} → ℕ → List ℕ → ℕ → List (Option X) → Type 0
EarlierAreKept size rounds round list = (k : ℕ) → k < size → slice_index rounds k < round → IsKept list k

module _ {X : Type 0} (size : ℕ) (fits : ℕ → X → Type 0) (first second : ℕ → Option ℕ) (rounds : List ℕ) (r : ℕ) where
  -- the numbers of a round have what they need
  pub round_ready : (group : List ℕ) (list : List (Option X)) → AreRounds size first second rounds → AreSound size fits list → EarlierAreKept size rounds r list → IsRoundList size rounds r group → All (HasNeeds size fits first second list) group
  round_ready group list a sound there g = all_listed (HasNeeds size fits first second list) group (λ k some.
      let h = g.1 k some in
      (h.0, ready_of size fits (first k) (second k) list sound (some_of (IsKept list) (first k) (λ j e. of k j h.0 h.1 (inl e))) (some_of (IsKept list) (second k) (λ j e. of k j h.0 h.1 (inr e)))))
    where
      of : (k j : ℕ) → k < size → slice_index rounds k ≡ r → NeedsOf first second k j → IsKept list j
      of k j low is needs =
          let b = a.below k j low needs in
          let e = needed_before size first second rounds k j a low needs in
          there j (omega arith) (omega arith)

  -- and after it the results of its numbers are there too
  pub there_next : (group : List ℕ) (list worked : List (Option X)) → IsRoundList size rounds r group → EarlierAreKept size rounds r list → ((k : ℕ) → IsKept list k → IsKept worked k) → All (IsKept worked) group → EarlierAreKept size rounds (r + 1) worked
  there_next group list worked g there still new k low early = elim (same_or_not (slice_index rounds k) r) [
    | inl same ↦ all_in (IsKept worked) group k (g.0 k low same) new
    | inr differs ↦ still k (there k low (omega arith))
  ]
