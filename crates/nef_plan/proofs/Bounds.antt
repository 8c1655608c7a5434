-- What is known of the nodes, while it's told of one and the plan grows.
use Rattle.nef_plan.proofs.Prelude.{◌≡◌, ◌∙◌, ℕ, ◌<◌, ap, refl, sym, subst, arith, ⊎_elim, List, ◌++◌, length, Option, None, Some, inl, inr, IfSome, slice_get, slice_set, cases_eq, slice_get_cases, slice_get_within, Set, node_set, Command, Drafts, Row, RowKind, Bound, No, Made, Deferred, ArePlanned, GoesOn, AddsOnly, HasGrown, IsBoundIn, IsFree, IsNodeKnown, Tells, combined, row_parts}
use Rattle.std.specs.Prelude.{◌⊎◌}
use Rattle.nef_core.proofs.Places.{get_set_here, get_set_other}
use Rattle.nef_plan.proofs.Growth.{grown-trans, ready-grown}
use Rattle.nef_plan.proofs.Added.{added-trans, added-wider, free-grown}
use Rattle.nef_plan.proofs.Rows.{row-grown}

tells-grown : (old new : Drafts) (l : List Command) (P : ℕ → Type 0) (k : ℕ) (b : Bound) → HasGrown old new l → AddsOnly old new P → (P k → ⊥) → Tells old k b → Tells new k b
tells-grown old new l P k No h adds not tells = free-grown old new l P k h adds not tells
tells-grown old new l P k Made h adds not tells = ready-grown old new l k h tells
tells-grown old new l P k (Deferred row) h adds not tells = (free-grown old new l P k h adds not tells.0, row-grown old new l row.kind (row_parts row) k h tells.1, tells.2)

-- a plan that has grown, with something told of one node
planned-set : (old new : Drafts) (l : List Command) (bounds : List Bound) (n : ℕ) (b : Bound) → ArePlanned old bounds → HasGrown old new l → AddsOnly old new (λ k. k ≡ n) → n < length bounds → Tells new n b → ArePlanned new (slice_set bounds n b)
planned-set old new l bounds n b are h adds within tells = record {
  steps = h.steps;
  told = λ k d at. elim (cases_eq k n) [
    | inl e ↦ (
        let there : slice_get (slice_set bounds n b) k ≡ Some b = subst (λ z. slice_get (slice_set bounds n b) z ≡ Some b) (sym e) (get_set_here bounds n b within) in
        let same : b ≡ d = let f : Some b ≡ Some d = sym there ∙ at in cc in
        subst (Tells new k) same (subst (λ z. Tells new z b) (sym e) tells))
    | inr other ↦ tells-grown old new l (λ j. j ≡ n) k d h adds other (are.told k d (sym (get_set_other bounds n k b other) ∙ at))
  ];
}

planned-grown : (old new : Drafts) (l : List Command) (bounds : List Bound) → ArePlanned old bounds → HasGrown old new l → AddsOnly old new (λ k. ⊥) → ArePlanned new bounds
planned-grown old new l bounds are h adds = record { steps = h.steps; told = λ k d at. tells-grown old new l (λ j. ⊥) k d h adds (λ none. none) (are.told k d at) }

pub bound-here : (bounds : List Bound) (n : ℕ) (b : Bound) → n < length bounds → IsNodeKnown b → IsBoundIn (slice_set bounds n b) n
bound-here bounds n b within there = (b, get_set_here bounds n b within, there)

pub bound-still : (bounds : List Bound) (n : ℕ) (b : Bound) → n < length bounds → IsNodeKnown b → (k : ℕ) → IsBoundIn bounds k → IsBoundIn (slice_set bounds n b) k
bound-still bounds n b within there k (d, at, is) = elim (cases_eq k n) [
  | inl e ↦ subst (IsBoundIn (slice_set bounds n b)) (sym e) (bound-here bounds n b within there)
  | inr other ↦ (d, get_set_other bounds n k b other ∙ at, is)
]

-- what is bound then was bound, or is told of
pub bound-before : (bounds : List Bound) (n : ℕ) (b : Bound) (k : ℕ) → IsBoundIn (slice_set bounds n b) k → IsBoundIn bounds k ⊎ (k ≡ n)
bound-before bounds n b k (d, at, is) = elim (cases_eq k n) [
  | inl e ↦ inr e
  | inr other ↦ inl (d, sym (get_set_other bounds n k b other) ∙ at, is)
]

pub bound-same : (bounds : List Bound) (n : ℕ) (b : Bound) → IsBoundIn bounds n → (k : ℕ) → IsBoundIn (slice_set bounds n b) k → IsBoundIn bounds k
bound-same bounds n b here k is = elim (bound-before bounds n b k is) [
  | inl before ↦ before
  | inr e ↦ subst (IsBoundIn bounds) (sym e) here
]

pub on-set : (old new : Drafts) (l : List Command) (bounds : List Bound) (n : ℕ) (b : Bound) → ArePlanned old bounds → HasGrown old new l → n < length bounds → IsNodeKnown b → Tells new n b → AddsOnly old new (λ k. k ≡ n) → GoesOn old bounds new (slice_set bounds n b) l
on-set old new l bounds n b are h within there tells adds = record {
  grown = h;
  still = bound-still bounds n b within there;
  planned = planned-set old new l bounds n b are h adds within tells;
  added = added-wider old new (λ k. k ≡ n) (IsBoundIn (slice_set bounds n b)) (λ k e. subst (IsBoundIn (slice_set bounds n b)) (sym e) (bound-here bounds n b within there)) adds;
}

pub on-grown : (old new : Drafts) (l : List Command) (bounds : List Bound) → ArePlanned old bounds → HasGrown old new l → AddsOnly old new (λ k. ⊥) → GoesOn old bounds new bounds l
on-grown old new l bounds are h adds = record { grown = h; still = λ k is. is; planned = planned-grown old new l bounds are h adds; added = added-wider old new (λ k. ⊥) (IsBoundIn bounds) (λ k none. absurd none) adds }

pub on-trans : (a b c : Drafts) (k l m : List Bound) (qs rs : List Command) → GoesOn a k b l qs → GoesOn b l c m rs → GoesOn a k c m (qs ++ rs)
on-trans a b c k l m qs rs f g = record { grown = grown-trans a b c qs rs f.grown g.grown; still = λ n is. g.still n (f.still n is); planned = g.planned; added = added-trans a b c (IsBoundIn l) (IsBoundIn m) f.grown.nodes g.still f.added g.added }

-- what holds of each node that there is
pub some-all : (o : Option ℕ) (P : ℕ → Type 0) → ((k : ℕ) → o ≡ Some k → P k) → IfSome o P
some-all None P all = tt
some-all (Some k) P all = all k refl

-- a node that is bound is there
pub bound-node : (plan : Drafts) (bounds : List Bound) (k : ℕ) → ArePlanned plan bounds → IsBoundIn bounds k → k < length plan.nodes
bound-node plan bounds k are (No, at, there) = absurd there
bound-node plan bounds k are (Made, at, there) = (are.told k Made at).within
bound-node plan bounds k are (Deferred row, at, there) = (are.told k (Deferred row) at).1.within

pub bound-place : (bounds : List Bound) (k : ℕ) → IsBoundIn bounds k → k < length bounds
bound-place bounds k (b, at, there) = slice_get_within bounds k b at

-- no step makes the set of a node that isn't bound
told-free : (plan : Drafts) (bounds : List Bound) (k : ℕ) (b : Bound) → ArePlanned plan bounds → slice_get bounds k ≡ Some b → (IsBoundIn bounds k → ⊥) → IsFree plan k
told-free plan bounds k No are at not = are.told k No at
told-free plan bounds k Made are at not = absurd (not (Made, at, tt))
told-free plan bounds k (Deferred row) are at not = absurd (not (Deferred row, at, tt))

pub unbound-free : (plan : Drafts) (bounds : List Bound) (k : ℕ) → ArePlanned plan bounds → k < length bounds → (IsBoundIn bounds k → ⊥) → IsFree plan k
unbound-free plan bounds k are below not = ⊎_elim
    (λ there. let (b, within, at, same) = there in told-free plan bounds k b are at not)
    (λ past. let out = past.0 in absurd (omega (arith, out, below)))
    ((slice_get_cases bounds k).1)

-- a node that is bound, and not to a row, is made
pub bound-made : (bounds : List Bound) (k : ℕ) (b : Bound) → IsBoundIn bounds k → slice_get bounds k ≡ Some b → ((row : Row) → b ≡ Deferred row → ⊥) → b ≡ Made
bound-made bounds k b (No, at, there) here other = absurd there
bound-made bounds k b (Made, at, there) here other = let e : Some b ≡ Some Made = sym here ∙ at in cc
bound-made bounds k b (Deferred row, at, there) here other = absurd (other row (let e : Some b ≡ Some (Deferred row) = sym here ∙ at in cc))

-- the set of a node is still made of those of two nodes that are bound
pub set-grown : (old new : Drafts) (l : List Command) (bounds : List Bound) (kind : RowKind) (i j k : ℕ) → HasGrown old new l → ArePlanned old bounds → IsBoundIn bounds i → IsBoundIn bounds j → k < length old.nodes
    → node_set old.nodes k ≡ combined kind (node_set old.nodes i) (node_set old.nodes j) → node_set new.nodes k ≡ combined kind (node_set new.nodes i) (node_set new.nodes j)
set-grown old new l bounds kind i j k h are first second within is =
    let e = h.nodes.sets i (bound-node old bounds i are first) in
    let f = h.nodes.sets j (bound-node old bounds j are second) in
    h.nodes.sets k within ∙ is ∙ ap (λ (z : Set). combined kind z (node_set old.nodes j)) (sym e) ∙ ap (combined kind (node_set new.nodes i)) (sym f)
