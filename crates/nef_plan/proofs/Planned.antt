-- The steps of a plan are those of its drafts.
use Rattle.nef_plan.proofs.Prelude.{◌≡◌, ◌∙◌, ℕ, ◌+◌, ◌*◌, ◌<◌, ◌≤◌, refl, ap, sym, subst, arith, cases_eq, cases_lt, List, ◌∷◌, ◌++◌, length, inl, inr, ⊎_elim, Option, None, Some, filter, All, IfSome, unwrap_or, All-filter, Node, node_set, Command, SpeaksOfFirst, Draft, Step, AreAlike, AreDrafts, AreNeeded, AreTimely, HasMore, IsRightDraft, DraftLooksAt, Makes, asked, task_over, tasks_in, tasks_over, value_of, AsksAbout, IsDue, first_asked, is_question, second_asked, AreEndedAt, AsksNamed, IsAnswered, IsPlanOf, IsTask, IsTimely, IsValue, IsValueOf, MakesValue, asked_values, joins_a_line, name_of, value_set}
use Rattle.std.proofs.Common.{slice_get, slice_index}
use Rattle.nef_script.specs.declared.script.Command.TheVariants as command
use Rattle.nef_plan.specs.declared.planner.Draft.TheVariants as draft
use Rattle.nef_plan.proofs.Added.{all-at}
use Rattle.nef_plan.proofs.Counted.{questions-few, steps-few}
use Rattle.nef_plan.proofs.Growth.{asked-append, makes-within}
use Rattle.nef_plan.proofs.Valued.{asks-some, task-is, value-makes}
use Rattle.nef_plan.proofs.Followed.{FollowsDrafts, FollowsAt, IsHeldByStep, asked-follows, asked-here, follows-each, follows-none, draft-there, looked-at, looks-held, looks-here, name-here, name_in, needed-names, new-here, right-here, set-here, task-here}

-- what a command asks about are nodes of the script
within-asked : (n : ℕ) (c : Command) → SpeaksOfFirst n c → IfSome (first_asked c) (λ k. k < n) × IfSome (second_asked c) (λ k. k < n)
within-asked n (command.Bind line i) h = (tt, tt)
within-asked n (command.Turn line i j t) h = (tt, tt)
within-asked n (command.Has line i p) h = (h, tt)
within-asked n (command.Joined line i p q) h = (h, tt)
within-asked n (command.Ray line i p d) h = (h.0, tt)
within-asked n (command.Same line i j) h = (h.0, h.1)
within-asked n (command.Count line i) h = (h, tt)
within-asked n (command.Print line i name) h = (h, tt)

some-holds : (o : Option ℕ) (P : ℕ → Type 0) (k : ℕ) → IfSome o P → o ≡ Some k → P k
some-holds o P k h e = subst (λ (z : Option ℕ). IfSome z P) e h

-- ---- questions
value-first : (given : List Node) (steps : List Step) (values : List ℕ) (o : Option ℕ) → ((k : ℕ) → o ≡ Some k → AreAlike (value_set steps (slice_index values k)) (node_set given k)) → (k : ℕ) × (o ≡ Some k) → IsValueOf given steps o (Some (unwrap_or (value_of values o) 0))
value-first given steps values None h some = absurd (let e : None ≡ Some some.0 = some.1 in cc)
value-first given steps values (Some k) h some = h k refl

value-second : (given : List Node) (steps : List Step) (values : List ℕ) (o : Option ℕ) → ((k : ℕ) → o ≡ Some k → AreAlike (value_set steps (slice_index values k)) (node_set given k)) → IsValueOf given steps o (value_of values o)
value-second given steps values None h = tt
value-second given steps values (Some k) h = h k refl

answered : (given nodes : List Node) (steps : List Step) (values : List ℕ) (n : ℕ) (drafts : List Draft) (d : Draft) (df dr : List Draft) → HasMore given nodes → IsRightDraft nodes d → ((k : ℕ) → DraftLooksAt d k → IsHeldByStep nodes drafts steps n (slice_index values k) k) → All (SpeaksOfFirst (length given)) (asked (df ++ d ∷ dr))
    → IsAnswered given steps (task_over values d)
answered given nodes steps values n drafts (draft.Make i m) df dr more right held within = tt
answered given nodes steps values n drafts (draft.Turn i j t) df dr more right held within = tt
answered given nodes steps values n drafts (draft.Ask c) df dr more right held within = record {
  first = value-first given steps values (first_asked c.now) (λ k e. about k (some-holds (first_asked c.now) (λ j. j < length given) k asked-in.0 e) (inl e)) (asks-some c.now right.0);
  second = value-second given steps values (second_asked c.now) (λ k e. about k (some-holds (second_asked c.now) (λ j. j < length given) k asked-in.1 e) (inr e));
}
  where
    asked-in : IfSome (first_asked c.now) (λ k. k < length given) × IfSome (second_asked c.now) (λ k. k < length given)
    asked-in = within-asked (length given) c.now (all-at (SpeaksOfFirst (length given)) (asked df) (asked dr) c.now (subst (All (SpeaksOfFirst (length given))) (asked-append df (draft.Ask c ∷ dr)) within))

    about : (k : ℕ) → k < length given → AsksAbout c.now k → AreAlike (value_set steps (slice_index values k)) (node_set given k)
    about k below asks = subst (AreAlike (value_set steps (slice_index values k))) (more.sets k below) (held k asks).set

-- ---- the names of what is asked about
name-first : (named : ℕ → ℕ) (values : List ℕ) (o : Option ℕ) → ((k : ℕ) → o ≡ Some k → named (slice_index values k) ≡ k) → (k : ℕ) × (o ≡ Some k) → o ≡ Some (named (unwrap_or (value_of values o) 0))
name-first named values None h some = absurd (let e : None ≡ Some some.0 = some.1 in cc)
name-first named values (Some k) h some = ap Some (sym (h k refl))

name-second : (named : ℕ → ℕ) (values : List ℕ) (o : Option ℕ) → ((k : ℕ) → o ≡ Some k → named (slice_index values k) ≡ k) → o ≡ name_of named (value_of values o)
name-second named values None h = refl
name-second named values (Some k) h = ap Some (sym (h k refl))

asks-named : (nodes : List Node) (named : ℕ → ℕ) (values : List ℕ) (d : Draft) → IsRightDraft nodes d → ((k : ℕ) → DraftLooksAt d k → named (slice_index values k) ≡ k) → AsksNamed named (task_over values d)
asks-named nodes named values (draft.Make i m) right h = tt
asks-named nodes named values (draft.Turn i j t) right h = tt
asks-named nodes named values (draft.Ask c) right h = (
  name-first named values (first_asked c.now) (λ k e. h k (inl e)) (asks-some c.now right.0),
  name-second named values (second_asked c.now) (λ k e. h k (inr e)),
)

-- ---- the plan
module _ (given nodes : List Node) (commands : List Command) (drafts : List Draft) (steps : List Step) (values : List ℕ) where
  pub planned : All (SpeaksOfFirst (length given)) commands → HasMore given nodes → AreDrafts nodes drafts → asked drafts ≡ filter is_question commands → AreTimely given commands drafts → AreNeeded drafts
      → length nodes ≤ length given + joins_a_line * length commands → length nodes ≤ length values → tasks_in steps ≡ tasks_over values 0 drafts → AreEndedAt steps → IsPlanOf given commands steps
  planned within more are asks timely needed joins table tasks ends = record {
    right = record {
      tasks = λ i s at. let o = each i s at in subst IsTask (sym (task-here nodes drafts steps are i s o)) (task-is nodes o.follows.values o.d (right-here nodes drafts steps are i s o));
      made_before = λ i s at k looks.
          let (n, h) = looked-at nodes drafts steps are i s (each i s at) k looks in
          (h.made.0, h.below, h.made.1, h.made.2);
    };
    ends = ends;
    answered = record {
      asked = asks-same;
      right = λ i s at. let o = each i s at in subst (IsAnswered given steps) (sym (task-here nodes drafts steps are i s o))
          (answered given nodes steps o.follows.values i drafts o.d o.follows.df o.dr more (right-here nodes drafts steps are i s o) (looks-held nodes drafts steps are i s o) (subst (λ z. All (SpeaksOfFirst (length given)) (asked z)) o.follows.drafts_are asked-within));
    };
    all = nodes;
    named = name_in drafts;
    more = more;
    within = named-within;
    sets = λ k s at makes.
        let o = each k s at in
        let (n, is) = made-by k s o makes in
        subst (λ z. AreAlike (value_set steps k) (node_set nodes z)) (sym (name-here nodes drafts steps are k s o n is)) (set-here nodes drafts steps are k s o n is);
    once = named-once;
    asks = λ i s at. let o = each i s at in subst (AsksNamed (name_in drafts)) (sym (task-here nodes drafts steps are i s o))
        (asks-named nodes (name_in drafts) o.follows.values o.d (right-here nodes drafts steps are i s o) (λ k looks. (looks-held nodes drafts steps are i s o k looks).name));
    timely = λ k s at makes.
        let o = each k s at in
        let (n, is) = made-by k s o makes in
        subst (IsTimely given commands steps k s.task) (sym (name-here nodes drafts steps are k s o n is)) (⊎_elim
        (λ due. inl (subst (λ z. IsDue commands (length z) n) (asked-here nodes drafts steps are k s o) due))
        (λ of. let (v, looks, name) = looks-here nodes drafts steps are k s o of.1.0 of.1.1 in inr (of.0, (v, looks)))
        (timely.each o.follows.df o.dr o.d o.follows.drafts_are n is));
    needed = needed-names nodes drafts steps are drafts steps 0 follows needed;
    few =
        let most = steps-few steps (length nodes) (name_in drafts) named-within named-once in
        let asked = ap length asks-same in
        let questions = questions-few commands in
        omega (arith, most, asked, questions, joins);
  }
    where
      follows : FollowsDrafts nodes drafts steps 0 drafts steps
      follows = follows-none nodes drafts steps are values table tasks

      each : (i : ℕ) (s : Step) → slice_get steps i ≡ Some s → FollowsAt nodes drafts steps i s
      each i s at = follows-each nodes drafts steps are values table tasks i s at

      made-by : (k : ℕ) (s : Step) (o : FollowsAt nodes drafts steps k s) → MakesValue s.task → (n : ℕ) × Makes o.d n
      made-by k s o makes = value-makes o.follows.values o.d (subst MakesValue (task-here nodes drafts steps are k s o) makes)

      twice-not : (j k : ℕ) → j < k → IsValue steps j → IsValue steps k → name_in drafts j ≡ name_in drafts k → ⊥
      twice-not j k low (s, at, makes) (t, there, also) same =
          let o = each j s at in
          let p = each k t there in
          let (m, first) = made-by j s o makes in
          let (n, second) = made-by k t p also in
          let e : m ≡ n = sym (name-here nodes drafts steps are j s o m first) ∙ same ∙ name-here nodes drafts steps are k t p n second in
          new-here nodes drafts steps are k t p n second j o.d low (draft-there nodes drafts steps are j s o) (subst (Makes o.d) e first)

      asks-same : asked_values steps ≡ filter is_question commands
      asks-same = asked-follows nodes drafts steps are drafts steps 0 follows ∙ asks

      named-within : (k : ℕ) (s : Step) → slice_get steps k ≡ Some s → MakesValue s.task → name_in drafts k < length nodes
      named-within k s at makes =
          let o = each k s at in
          let (n, is) = made-by k s o makes in
          subst (λ z. z < length nodes) (sym (name-here nodes drafts steps are k s o n is)) (makes-within nodes o.d n (right-here nodes drafts steps are k s o) is)

      named-once : (j k : ℕ) → IsValue steps j → IsValue steps k → name_in drafts j ≡ name_in drafts k → j ≡ k
      named-once j k first second same = elim (cases_eq j k) [
        | inl e ↦ e
        | inr other ↦ elim (cases_lt j k) [
          | inl low ↦ absurd (twice-not j k low first second same)
          | inr past ↦ absurd (twice-not k j (omega (arith, past, other)) second first (sym same))
        ]
      ]

      asked-within : All (SpeaksOfFirst (length given)) (asked drafts)
      asked-within = subst (All (SpeaksOfFirst (length given))) (sym asks) (All-filter is_question (SpeaksOfFirst (length given)) commands within)
