-- Which sets the steps make that are added to a plan, and that none of these is made too early.
use Rattle.nef_plan.proofs.Prelude.{◌≡◌, ◌∙◌, ℕ, None, ◌<◌, ◌≤◌, ◌+◌, ap, sym, subst, arith, List, [], ◌∷◌, ◌++◌, length, inl, inr, ◌⊎◌, ⊎_elim, length-append, append-nil, append_assoc, filter, take, drop, Some, All, slice_get, All-append, All-cons, All-head, All-nil, All-tail, All-weaker, filter-append, take-append-drop, take-take, Node, Command, Binds, Draft, Drafts, AddsOnly, HasGrown, IsMade, IsFree, MakesOnly, AreTimely, HasMore, asked, IsDue, is_question}
use Rattle.nef_plan.proofs.Growth.{asked-append, made-either, made-parts, parted}

-- ---- what is made
-- more nodes may be named, and fewer be counted
wider : (m n : ℕ) (P Q : ℕ → Type 0) → m ≤ n → ((k : ℕ) → P k → Q k) → (s : Draft) → MakesOnly n P s → MakesOnly m Q s
wider m n P Q few f s only k makes = ⊎_elim (λ p. inl (f k p)) (λ o. inr (let past = o.0 in omega arith, o.1)) (only k makes)

pub added-none : (plan : Drafts) (P : ℕ → Type 0) → AddsOnly plan plan P
added-none plan P = record { added = []; steps = sym (append-nil plan.steps.items); each = All-nil (MakesOnly (length plan.nodes) P) }

pub added-one : (old new : Drafts) (P : ℕ → Type 0) (s : Draft) → new.steps.items ≡ old.steps.items ++ s ∷ [] → MakesOnly (length old.nodes) P s → AddsOnly old new P
added-one old new P s is only = record { added = s ∷ []; steps = is; each = All-cons (MakesOnly (length old.nodes) P) s [] only (All-nil (MakesOnly (length old.nodes) P)) }

pub added-trans : (a b c : Drafts) (P Q : ℕ → Type 0) → HasMore a.nodes b.nodes → ((k : ℕ) → P k → Q k) → AddsOnly a b P → AddsOnly b c Q → AddsOnly a c Q
added-trans a b c P Q more f g h = record {
  added = g.added ++ h.added;
  steps = h.steps ∙ ap (λ z. z ++ h.added) g.steps ∙ append_assoc a.steps.items g.added h.added;
  each = All-append (MakesOnly (length a.nodes) Q) g.added h.added
      (All-weaker (MakesOnly (length a.nodes) P) (MakesOnly (length a.nodes) Q) (wider (length a.nodes) (length a.nodes) P Q (omega arith) f) g.added g.each)
      (All-weaker (MakesOnly (length b.nodes) Q) (MakesOnly (length a.nodes) Q) (wider (length a.nodes) (length b.nodes) Q Q more.as_many (λ k q. q)) h.added h.each);
}

pub added-wider : (a b : Drafts) (P Q : ℕ → Type 0) → ((k : ℕ) → P k → Q k) → AddsOnly a b P → AddsOnly a b Q
added-wider a b P Q f g = record { added = g.added; steps = g.steps; each = All-weaker (MakesOnly (length a.nodes) P) (MakesOnly (length a.nodes) Q) (wider (length a.nodes) (length a.nodes) P Q (omega arith) f) g.added g.each }

-- what is made of them is named, or isn't one of the first n
made-only : (n : ℕ) (P : ℕ → Type 0) (added : List Draft) (k : ℕ) → All (MakesOnly n P) added → IsMade added k → P k ⊎ (n ≤ k)
made-only n P [] k all (j, d, at, makes) = absurd (let e : None ≡ Some d = at in cc)
made-only n P (s ∷ added) k all made = ⊎_elim
    (λ now. ⊎_elim (λ p. inl p) (λ o. inr o.0) (All-head (MakesOnly n P) s added all k now))
    (λ later. made-only n P added k (All-tail (MakesOnly n P) s added all) later)
    (made-either s added k made)

-- a node whose set no step makes stays so, if it isn't named
pub free-grown : (old new : Drafts) (l : List Command) (P : ℕ → Type 0) (k : ℕ) → HasGrown old new l → AddsOnly old new P → (P k → ⊥) → IsFree old k → IsFree new k
free-grown old new l P k h adds not free = record {
  within = let m = h.nodes.as_many in let w = free.within in omega (arith, m, w);
  unmade = λ made. ⊎_elim free.unmade
      (λ now. ⊎_elim not (λ past. let w = free.within in omega (arith, past, w)) (made-only (length old.nodes) P adds.added k adds.each now))
      (made-parts old.steps.items adds.added k (subst (λ (z : List Draft). IsMade z k) adds.steps made));
}

-- ---- when it is made
pub all-at : {X : Type 0} (P : X → Type 0) (front rest : List X) (x : X) → All P (front ++ x ∷ rest) → P x
all-at P [] rest x all = All-head P x rest all
all-at P (a ∷ front) rest x all = all-at P front rest x (All-tail P a (front ++ x ∷ rest) all)

-- one of the first n lines binds node k
abbrev pub BindsBefore : List Command → ℕ → ℕ → Type 0
BindsBefore commands n k = (p : ℕ) × (c : Command) × (p < n) × (slice_get commands p ≡ Some c) × Binds c k

-- fewer lines ask no more questions
questions-fewer : (commands : List Command) (p n : ℕ) → p ≤ n → length (filter is_question (take p commands)) ≤ length (filter is_question (take n commands))
questions-fewer commands p n few =
    let first = take n commands in
    let parts : first ≡ take p commands ++ drop p first = sym (take-append-drop p first) ∙ ap (λ z. z ++ drop p first) (take-take p n commands few) in
    let count = ap length (ap (filter is_question) parts ∙ filter-append is_question (take p commands) (drop p first)) ∙ length-append (filter is_question (take p commands)) (filter is_question (drop p first)) in
    omega (arith, count)

-- a node that one of the first lines and the next binds is due where the questions of the first lines are asked
pub due-now : (commands : List Command) (steps : List Draft) (n k : ℕ) → asked steps ≡ filter is_question (take n commands) → BindsBefore commands (n + 1) k → IsDue commands (length (asked steps)) k
due-now commands steps n k is (p, c, below, at, binds) =
    let few = questions-fewer commands p n (omega (arith, below)) in
    let count = ap length is in
    (p, c, at, binds, omega (arith, few, count))

-- a node whose line has no more questions before it than are asked stays so
pub due-later : (commands : List Command) (q : ℕ) (front more steps : List Draft) (k : ℕ) → q ≤ length (asked front) → steps ≡ front ++ more → IsDue commands q k → IsDue commands (length (asked steps)) k
due-later commands q front more steps k asks is (p, c, at, binds, few) =
    let longer : length (asked steps) ≡ length (asked front) + length (asked more) = ap (λ z. length (asked z)) is ∙ ap length (asked-append front more) ∙ length-append (asked front) (asked more) in
    (p, c, at, binds, omega (arith, asks, few, longer))

pub timely-none : (nodes : List Node) (commands : List Command) (steps : List Draft) → steps ≡ [] → AreTimely nodes commands steps
timely-none nodes commands steps none = record { each = λ front rest s is. absurd (let n = ap length (sym none ∙ is) in let m = length-append front (s ∷ rest) in omega (arith, n, m)) }

pub timely-added : (nodes : List Node) (commands : List Command) (old new : Drafts) (P : ℕ → Type 0) → HasMore nodes old.nodes → ((k : ℕ) → P k → IsDue commands (length (asked old.steps.items)) k)
    → AreTimely nodes commands old.steps.items → AddsOnly old new P → AreTimely nodes commands new.steps.items
timely-added nodes commands old new P more due are h = record {
  each = λ front rest s is k makes. ⊎_elim
      (λ l. are.each front l.0 s l.1 k makes)
      (λ r. ⊎_elim
      (λ p. inl (due-later commands (length (asked old.steps.items)) old.steps.items r.0 front k (omega arith) r.1 (due k p)))
      (λ o. inr (let past = o.0 in let few = more.as_many in omega arith, o.1))
      (all-at (MakesOnly (length old.nodes) P) r.0 rest s (subst (All (MakesOnly (length old.nodes) P)) r.2 h.each) k makes))
      (parted old.steps.items h.added front rest s (sym h.steps ∙ is));
}
