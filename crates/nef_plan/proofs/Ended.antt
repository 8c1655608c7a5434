-- Which steps end values, by the last uses of these.
use Rattle.nef_plan.proofs.Prelude.{◌≡◌, ◌∙◌, ℕ, zero, suc, ◌+◌, ◌<◌, refl, ap, sym, subst, arith, List, [], ◌∷◌, ◌++◌, length, inl, inr, Option, None, Some, true, ◌↔◌, cases_lt, NamesBelow, SpeaksOfFirst, Node, Draft, Step, Task, IsRightDraft, AreLastUses, AreUses, IsDraftBelow, IsLastAt, IsUsedBy, Makes, put_value, put_values, task_over, tasks_in, tasks_over, AreEndedAt, NoneLooksFrom, LooksAtValue, first_value, second_value}
use Rattle.std.proofs.Common.{IfSome, slice_get, slice_index}
use Rattle.nef_plan.specs.declared.planner.Draft.TheVariants as draft

-- ---- the lists that loops make
pub put_values-push : (values : List ℕ) (n : ℕ) (drafts : List Draft) (d : Draft) → put_values values n (drafts ++ d ∷ []) ≡ put_value (put_values values n drafts) d (n + length drafts)
put_values-push values n [] d = ap (put_value values d) (let e : n ≡ n + 0 = omega arith in e)
put_values-push values n (e ∷ drafts) d = put_values-push (put_value values e n) (n + 1) drafts d ∙ ap (put_value (put_values (put_value values e n) (n + 1) drafts) d) (let e : n + 1 + length drafts ≡ n + suc (length drafts) = omega arith in e)

pub tasks-push : (values : List ℕ) (n : ℕ) (drafts : List Draft) (d : Draft) → tasks_over values n (drafts ++ d ∷ []) ≡ tasks_over values n drafts ++ task_over (put_values values n drafts) d ∷ []
tasks-push values n [] d = refl
tasks-push values n (e ∷ drafts) d = ap (λ z. task_over values e ∷ z) (tasks-push (put_value values e n) (n + 1) drafts d)

pub tasks_in-push : (steps : List Step) (s : Step) → tasks_in (steps ++ s ∷ []) ≡ tasks_in steps ++ s.task ∷ []
tasks_in-push [] s = refl
tasks_in-push (t ∷ steps) s = ap (λ z. t.task ∷ z) (tasks_in-push steps s)

pub among-right : (nodes : List Node) (n : ℕ) (d : Draft) → length nodes ≡ n → IsRightDraft nodes d → IsDraftBelow n d
among-right nodes n (draft.Make k m) e right = (let w = right.within in omega (arith, w, e), subst (λ z. NamesBelow z m) e right.operands)
among-right nodes n (draft.Turn k j t) e right = (let w = right.within in omega (arith, w, e), let w = right.operand in omega (arith, w, e))
among-right nodes n (draft.Ask c) e right = subst (λ z. SpeaksOfFirst z c.now) e right.1

pub makes-among : (n : ℕ) (d : Draft) (k : ℕ) → IsDraftBelow n d → Makes d k → k < n
makes-among n (draft.Make i m) k among is = subst (λ z. z < n) (sym is) among.0
makes-among n (draft.Turn i j t) k among is = subst (λ z. z < n) (sym is) among.0
makes-among n (draft.Ask c) k among is = absurd is

pub if-some : (o : Option ℕ) (m n : ℕ) → m ≡ n → ((k : ℕ) → o ≡ Some k → k < n) → IfSome o (λ k. k < m)
if-some None m n e h = tt
if-some (Some k) m n e h = let low = h k refl in omega (arith, low, e)

-- ---- tasks and steps
task-there : (steps : List Step) (i : ℕ) (s : Step) → slice_get steps i ≡ Some s → slice_get (tasks_in steps) i ≡ Some s.task
task-there [] i s at = absurd (let e : None ≡ Some s = at in cc)
task-there (t ∷ steps) zero s at = let e : Some t ≡ Some s = at in ap (λ z. Some z.task) (let f : t ≡ s = cc in f)
task-there (t ∷ steps) (suc i) s at = task-there steps i s at

pub step-there : (steps : List Step) (i : ℕ) (t : Task) → slice_get (tasks_in steps) i ≡ Some t → (s : Step) × (slice_get steps i ≡ Some s) × (s.task ≡ t)
step-there [] i t at = absurd (let e : None ≡ Some t = at in cc)
step-there (s ∷ steps) zero t at = let e : Some s.task ≡ Some t = at in (s, refl, cc)
step-there (s ∷ steps) (suc i) t at = step-there steps i t at

-- ---- ends
module _ (steps : List Step) (tasks : List Task) (uses : List ℕ) (same : tasks_in steps ≡ tasks) (last : AreLastUses tasks uses) (are : AreUses tasks uses) where
  used-ends : (i : ℕ) (o : Option ℕ) → IsUsedBy uses i o → NoneLooksFrom steps (i + 1) o
  used-ends i o used k e (j, d, past, at, looks) =
      let there : slice_get tasks j ≡ Some d.task = subst (λ z. slice_get z j ≡ Some d.task) same (task-there steps j d at) in
      let early = last j k d.task there looks in
      let late = used k e in
      omega (arith, past, early, late)

  ends-used : (i : ℕ) (o : Option ℕ) → NoneLooksFrom steps (i + 1) o → IsUsedBy uses i o
  ends-used i o ends k e = elim (cases_lt i (slice_index uses k)) [
    | inl low ↦ elim (are k) [
      | inl none ↦ absurd (omega (arith, low, none))
      | inr there ↦ (
          let (t, at, looks) = there in
          let (s, here, is) = step-there steps (slice_index uses k) t (subst (λ z. slice_get z (slice_index uses k) ≡ Some t) (sym same) at) in
          absurd (ends k e (slice_index uses k, s, omega (arith, low), here, subst (λ z. LooksAtValue z k) (sym is) looks)))
    ]
    | inr past ↦ omega (arith, past)
  ]

  both : (i : ℕ) (o : Option ℕ) (P : Type 0) → P ↔ IsUsedBy uses i o → P ↔ NoneLooksFrom steps (i + 1) o
  both i o P e = (λ p. used-ends i o (e.0 p), λ h. e.1 (ends-used i o h))

  pub ends-all : ((i : ℕ) (s : Step) → slice_get steps i ≡ Some s → IsLastAt uses i s) → AreEndedAt steps
  ends-all each i s at =
      let l = each i s at in
      record {
        first = both i (first_value s.task) (s.ends_first ≡ true) l.first;
        second = both i (second_value s.task) (s.ends_second ≡ true) l.second;
        made = both i (Some i) (s.ends_made ≡ true) l.made;
      }
