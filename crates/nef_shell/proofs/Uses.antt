-- At which values later steps look, and what is kept when a step is worked.
use Rattle.nef_shell.proofs.Prelude.{◌≡◌, ◌⊎◌, ◌∙◌, ℕ, zero, suc, ◌+◌, ◌<◌, ◌≤◌, true, arith, ap, refl, sym, subst, List, [], ◌∷◌, length, Option, Some, None, IsSomeAnd, slice_set, inl, inr, cases_eq, cases_lt, length-set, get_set_here, get_set_other, Shape, shape_of, Uses, Step, Task, Make, Turn, Ask, AreSteps, IsAwaited, IsEndedAt, LooksAtValue, MakesValue, first_value, second_value, IsThere, AreLess, AreMore, AreAwaitedKept, HasDone, IsLastUse, IsLean, IsLet}
use Rattle.std.proofs.Common.{slice_get}
use Rattle.nef_shell.proofs.Kept.{put-only}
use Rattle.nef_shell.proofs.Sets.{looks-some}

-- ---- whether a later step looks at a value
uses-or-not : (s : Shape) (k : ℕ) → Uses k s ⊎ (Uses k s → ⊥)
uses-or-not (Shape.leaf s) k = inr (λ h. h)
uses-or-not (Shape.unary make i) k = cases_eq k i
uses-or-not (Shape.binary make i j) k = elim (cases_eq k i) [ inl e ↦ inl (inl e) | inr n ↦ elim (cases_eq k j) [ inl e ↦ inl (inr e) | inr m ↦ inr (λ h. elim h [ inl e ↦ n e | inr e ↦ m e ]) ] ]

some-or-not : (o : Option ℕ) (k : ℕ) → (o ≡ Some k) ⊎ (o ≡ Some k → ⊥)
some-or-not None k = inr (λ e. let f : None ≡ Some k = e in cc)
some-or-not (Some i) k = elim (cases_eq i k) [ inl e ↦ inl (ap Some e) | inr n ↦ inr (λ e. n cc) ]

looks-or-not : (t : Task) (k : ℕ) → LooksAtValue t k ⊎ (LooksAtValue t k → ⊥)
looks-or-not (Make m) k = uses-or-not (shape_of m) k
looks-or-not (Turn j n) k = cases_eq k j
looks-or-not (Ask c i second) k = elim (cases_eq k i) [ inl e ↦ inl (inl e) | inr n ↦ elim (some-or-not second k) [ inl e ↦ inl (inr e) | inr m ↦ inr (λ h. elim h [ inl e ↦ n e | inr e ↦ m e ]) ] ]

awaited-or-not : (steps : List Step) (n k : ℕ) → IsAwaited steps n k ⊎ (IsAwaited steps n k → ⊥)
awaited-or-not [] n k = inr (λ (j, s, late, at, looks). let f : None ≡ Some s = at in cc)
awaited-or-not (s ∷ rest) (suc n) k = elim (awaited-or-not rest n k) [
  | inl (j, d, late, at, looks) ↦ inl (suc j, d, omega (arith, late), at, looks)
  | inr not ↦ inr (λ h. not (lower h))
]
  where
    lower : IsAwaited (s ∷ rest) (suc n) k → IsAwaited rest n k
    lower (zero, d, late, at, looks) = absurd (omega (arith, late))
    lower (suc j, d, late, at, looks) = (j, d, omega (arith, late), at, looks)
awaited-or-not (s ∷ rest) zero k = elim (looks-or-not s.task k) [
  | inl looks ↦ inl (0, s, omega arith, refl, looks)
  | inr blind ↦ elim (awaited-or-not rest 0 k) [
    | inl (j, d, late, at, looks) ↦ inl (suc j, d, omega arith, at, looks)
    | inr not ↦ inr (λ h. neither h blind not)
  ]
]
  where
    neither : IsAwaited (s ∷ rest) zero k → (LooksAtValue s.task k → ⊥) → (IsAwaited rest 0 k → ⊥) → ⊥
    neither (zero, d, late, at, looks) blind not = let same : s ≡ d = cc in blind (subst (λ (z : Step). LooksAtValue z.task k) (sym same) looks)
    neither (suc j, d, late, at, looks) blind not = not (j, d, omega arith, at, looks)

module _ (steps : List Step) (n : ℕ) (s : Step) (ended : IsEndedAt steps n s) where
  -- where a later step looks at a value, the step doesn't end it
  pub use-ends : (k : ℕ) → IsLastUse s (first_value s.task) (second_value s.task) k → IsAwaited steps (n + 1) k → ⊥
  use-ends k last awaited = elim last [ inl (ends, is) ↦ ended.first.0 ends k is awaited | inr (ends, is) ↦ ended.second.0 ends k is awaited ]

  pub let-ends : (k : ℕ) → IsLet s n k → IsAwaited steps (n + 1) k → ⊥
  let-ends k lets awaited = elim lets [ inl operands ↦ use-ends k operands awaited | inr (ends, is) ↦ ended.made.0 ends k (ap Some (sym is)) awaited ]

  one-value : (k : ℕ) (value : Option ℕ) → value ≡ Some k → (IsAwaited steps (n + 1) k → ⊥) → (j : ℕ) → value ≡ Some j → IsAwaited steps (n + 1) j → ⊥
  one-value k value is not j also awaited =
      let both : Some k ≡ Some j = sym is ∙ also in
      let same : k ≡ j = cc in
      not (subst (IsAwaited steps (n + 1)) (sym same) awaited)

  -- a value at which it looks, or which it makes, and at which no later one looks, it ends
  lets-looked : (k : ℕ) → LooksAtValue s.task k → (IsAwaited steps (n + 1) k → ⊥) → IsLet s n k
  lets-looked k looks not = elim (looks-some s.task k looks) [
    | inl is ↦ inl (inl (ended.first.1 (one-value k (first_value s.task) is not), is))
    | inr is ↦ inl (inr (ended.second.1 (one-value k (second_value s.task) is not), is))
  ]

  lets-made : (IsAwaited steps (n + 1) n → ⊥) → IsLet s n n
  lets-made not = inr (ended.made.1 (one-value n (Some n) refl not), refl)

  -- where it doesn't end what it makes, a later step looks at that
  pub awaited-made : (s.ends_made ≡ true → ⊥) → IsAwaited steps (n + 1) n
  awaited-made not = elim (awaited-or-not steps (n + 1) n) [ inl awaited ↦ awaited | inr none ↦ absurd (not (ended.made.1 (one-value n (Some n) refl none))) ]

  module _ {X : Type 0} (at : slice_get steps n ≡ Some s) (right : AreSteps steps) (old mid new : List (Option X)) (done : HasDone steps n old mid) (less : AreLess (IsLet s n) mid new) where
    pub ready-next : AreAwaitedKept steps n old → AreAwaitedKept steps (n + 1) new
    ready-next ready k low awaited = let (x, there) = before in (x, less.stays k x (λ lets. let-ends k lets awaited) there)
      where
        before : IsThere mid k
        before = elim (cases_lt k n) [
          | inl early ↦ let (j, d, late, found, looks) = awaited in done.stays k awaited (ready k early (j, d, omega (arith, late), found, looks))
          | inr past ↦
              let here : k ≡ n = omega (arith, low, past) in
              let (j, d, late, found, looks) = awaited in
              let (c, below, seen, makes) = right.made_before j d found k looks in
              let both : Some c ≡ Some s = sym seen ∙ (ap (slice_get steps) here ∙ at) in
              let same : c ≡ s = cc in
              subst (IsThere mid) (sym here) (done.made s at (subst (λ (z : Step). MakesValue z.task) same makes))
        ]

    pub lean-next : ((k : ℕ) → IsLet s n k → IsThere new k → ⊥) → IsLean steps n old → IsLean steps (n + 1) new
    lean-next gone lean k there = elim (awaited-or-not steps (n + 1) k) [
      | inl awaited ↦ awaited
      | inr not ↦ elim (done.only k (there.0, less.only k there.0 there.1)) [
        | inr made ↦ absurd (gone k (subst (IsLet s n) (sym made) (lets-made (λ h. not (subst (IsAwaited steps (n + 1)) (sym made) h)))) there)
        | inl was ↦
            let (j, d, late, found, looks) = lean k was in
            elim (cases_lt n j) [
              | inl after ↦ absurd (not (j, d, omega (arith, after), found, looks))
              | inr past ↦
                  let here : j ≡ n = omega (arith, late, past) in
                  let both : Some d ≡ Some s = sym found ∙ (ap (slice_get steps) here ∙ at) in
                  let same : d ≡ s = cc in
                  absurd (gone k (lets-looked k (subst (λ (z : Step). LooksAtValue z.task k) same looks) not) there)
            ]
      ]
    ]

-- a value is made, of which operands may go
pub done-put : {X : Type 0} (steps : List Step) (n : ℕ) (s : Step) (old mid : List (Option X)) (o : Option X) (P : X → Type 0) → IsEndedAt steps n s → n < length mid → AreLess (IsLastUse s (first_value s.task) (second_value s.task)) old mid → IsSomeAnd o P → HasDone steps n old (slice_set mid n o)
done-put steps n s old mid None P ended within less is = absurd is
done-put steps n s old mid (Some x) P ended within less is = record {
  count = length-set mid n (Some x) ∙ less.count;
  stays = λ k awaited (y, at). elim (cases_eq k n) [
    | inl e ↦ (x, subst (λ z. slice_get (slice_set mid n (Some x)) z ≡ Some (Some x)) (sym e) (get_set_here mid n (Some x) within))
    | inr other ↦ (y, get_set_other mid n k (Some x) other ∙ less.stays k y (λ last. use-ends steps n s ended k last awaited) at)
  ];
  only = λ k (y, at). elim (put-only mid n (Some x) k (Some y) within at) [ inl here ↦ inr here.0 | inr was ↦ inl (y, less.only k y was.1) ];
  made = λ d found makes. (x, get_set_here mid n (Some x) within);
}

-- ---- values that are worked ahead
pub ready-more : {X : Type 0} (steps : List Step) (n : ℕ) (old new : List (Option X)) → AreMore steps n old new → AreAwaitedKept steps n old → AreAwaitedKept steps n new
ready-more steps n old new more ready k low awaited = more.stays k (ready k low awaited)

pub lean-more : {X : Type 0} (steps : List Step) (n : ℕ) (old new : List (Option X)) → AreMore steps n old new → IsLean steps n old → IsLean steps n new
lean-more steps n old new more lean k there = elim (more.only k there) [ inl was ↦ lean k was | inr awaited ↦ awaited ]
