-- Steps that follow drafts, one by one.
use Rattle.nef_plan.proofs.Prelude.{◌≡◌, ◌∙◌, ℕ, zero, suc, ◌+◌, ◌<◌, ◌≤◌, refl, ap, sym, subst, arith, List, [], ◌∷◌, ◌++◌, length, inl, inr, ⊎_elim, Option, None, Some, false, take, append_assoc, append-nil, length-append, take-append_seam, slice_get_within, turned_set, Set, Node, node_set, operand, set_of, sets_after, slice_get-below, slice_get-seam, Draft, Step, Task, AreAlike, AreDrafts, AreNeeded, IsMade, IsNeeded, IsRightDraft, DraftLooksAt, Makes, asked, LookBelow, over, put_value, task_over, tasks_in, tasks_over, AreNamesNeeded, IsNameNeeded, IsNeededBy, LooksAtNamed, LooksAtValue, MakesValue, asked_values, task_set, questions_of, value_set, values_after}
use Rattle.std.proofs.Common.{slice_get, slice_index}
use Rattle.nef_plan.specs.declared.planner.Draft.TheVariants as draft
use Rattle.nef_plan.proofs.Alike.{alike-trans, turned-alike}
use Rattle.nef_plan.proofs.Ended.{step-there}
use Rattle.nef_plan.proofs.Growth.{asked-append, made-seam, makes-within}
use Rattle.nef_plan.proofs.Valued.{asked-over, asked_values-append, look-over, looked-over, makes-or-not, makes-value, over-alike, put-here, put-length, put-other, value-before, value-here, value-makes}

-- the node whose set the draft makes, and 0 where it makes none
abbrev node_of : Option Draft → ℕ
node_of None = 0
node_of (Some (draft.Make n m)) = n
node_of (Some (draft.Turn n j t)) = n
node_of (Some (draft.Ask c)) = 0

abbrev pub name_in : List Draft → ℕ → ℕ
name_in drafts k = node_of (slice_get drafts k)

node-made : (d : Draft) (k : ℕ) → Makes d k → node_of (Some d) ≡ k
node-made (draft.Make n m) k makes = sym makes
node-made (draft.Turn n j t) k makes = sym makes
node-made (draft.Ask c) k makes = absurd makes

-- a step before the one with the number n makes the value v, which has the name k, and is the set of that node with the same planes
pub record IsHeldByStep (nodes : List Node) (drafts : List Draft) (steps : List Step) (n v k : ℕ) : Type 0 where
  pub below : v < n
  pub made : (d : Step) × (slice_get steps v ≡ Some d) × MakesValue d.task
  pub name : name_in drafts v ≡ k
  pub set : AreAlike (value_set steps v) (node_set nodes k)

-- the first n steps follow the first drafts, the values hold the sets of the nodes that these make, and the other steps are to follow the other drafts
pub record FollowsDrafts (nodes : List Node) (drafts : List Draft) (steps : List Step) (n : ℕ) (dr : List Draft) (sr : List Step) : Type 0 where
  pub values : List ℕ
  pub df : List Draft
  pub sf : List Step
  pub drafts_are : drafts ≡ df ++ dr
  pub steps_are : steps ≡ sf ++ sr
  pub drafts_number : n ≡ length df
  pub number : n ≡ length sf
  pub tasks : tasks_in sr ≡ tasks_over values n dr
  pub held : (k : ℕ) → IsMade df k → IsHeldByStep nodes drafts steps n (slice_index values k) k
  pub table : length nodes ≤ length values
  pub asked_so : asked_values sf ≡ asked df

-- the step s with the number n follows a draft
pub record FollowsAt (nodes : List Node) (drafts : List Draft) (steps : List Step) (n : ℕ) (s : Step) : Type 0 where
  pub d : Draft
  pub dr : List Draft
  pub sr : List Step
  pub follows : FollowsDrafts nodes drafts steps n (d ∷ dr) (s ∷ sr)

module _ (nodes : List Node) (drafts : List Draft) (steps : List Step) (are : AreDrafts nodes drafts) where
  module _ (n : ℕ) (s : Step) (o : FollowsAt nodes drafts steps n s) where
    pub task-here : s.task ≡ task_over o.follows.values o.d
    task-here = let both : s.task ∷ tasks_in o.sr ≡ task_over o.follows.values o.d ∷ tasks_over (put_value o.follows.values o.d n) (n + 1) o.dr = o.follows.tasks in cc

    tasks-later : tasks_in o.sr ≡ tasks_over (put_value o.follows.values o.d n) (n + 1) o.dr
    tasks-later = let both : s.task ∷ tasks_in o.sr ≡ task_over o.follows.values o.d ∷ tasks_over (put_value o.follows.values o.d n) (n + 1) o.dr = o.follows.tasks in cc

    there : slice_get steps n ≡ Some s
    there = subst (λ z. slice_get z n ≡ Some s) (sym o.follows.steps_are) (subst (λ z. slice_get (o.follows.sf ++ s ∷ o.sr) z ≡ Some s) (sym o.follows.number) (slice_get-seam o.follows.sf s o.sr))

    pub draft-there : slice_get drafts n ≡ Some o.d
    draft-there = subst (λ z. slice_get z n ≡ Some o.d) (sym o.follows.drafts_are) (subst (λ z. slice_get (o.follows.df ++ o.d ∷ o.dr) z ≡ Some o.d) (sym o.follows.drafts_number) (slice_get-seam o.follows.df o.d o.dr))

    pub right-here : IsRightDraft nodes o.d
    right-here = are.right n o.d draft-there

    pub name-here : (k : ℕ) → Makes o.d k → name_in drafts n ≡ k
    name-here k makes = ap node_of draft-there ∙ node-made o.d k makes

    pub looks-held : (k : ℕ) → DraftLooksAt o.d k → IsHeldByStep nodes drafts steps n (slice_index o.follows.values k) k
    looks-held k looks = o.follows.held k ((are.follow o.follows.df o.dr o.d o.follows.drafts_are).looks k looks)

    -- no step before it makes the same set
    pub new-here : (k : ℕ) → Makes o.d k → (j : ℕ) (d : Draft) → j < n → slice_get drafts j ≡ Some d → Makes d k → ⊥
    new-here k makes j d low at also =
        let number = o.follows.drafts_number in
        let before : slice_get o.follows.df j ≡ Some d = sym (slice_get-below o.follows.df (o.d ∷ o.dr) j (omega (arith, low, number))) ∙ ap (λ z. slice_get z j) (sym o.follows.drafts_are) ∙ at in
        (are.follow o.follows.df o.dr o.d o.follows.drafts_are).new k makes (j, d, before, also)

    pub looked-at : (v : ℕ) → LooksAtValue s.task v → (k : ℕ) × IsHeldByStep nodes drafts steps n v k
    looked-at v looks =
        let (k, l, is) = looked-over nodes o.follows.values o.d v right-here (subst (λ z. LooksAtValue z v) task-here looks) in
        (k, subst (λ z. IsHeldByStep nodes drafts steps n z k) (sym is) (looks-held k l))

    pub looks-here : (k : ℕ) → DraftLooksAt o.d k → LooksAtNamed (name_in drafts) s.task k
    looks-here k looks = (
      slice_index o.follows.values k,
      subst (λ z. LooksAtValue z (slice_index o.follows.values k)) (sym task-here) (look-over o.follows.values o.d k looks),
      (looks-held k looks).name,
    )

    pub asked-here : asked o.follows.df ≡ asked_values (take n steps)
    asked-here =
        let e = o.follows.steps_are in
        sym o.follows.asked_so ∙ ap asked_values (sym (ap (λ z. take n z) e ∙ ap (λ z. take z (o.follows.sf ++ s ∷ o.sr)) o.follows.number ∙ take-append_seam o.follows.sf (s ∷ o.sr)))

    -- the value of a node that the draft looks at, among those before
    earlier : (k : ℕ) → DraftLooksAt o.d k → AreAlike (operand (values_after [] o.follows.sf) (slice_index o.follows.values k)) (node_set nodes k)
    earlier k looks =
        let h = looks-held k looks in
        let below = h.below in
        let at : slice_index o.follows.values k < length o.follows.sf = let m = o.follows.number in omega (arith, below, m) in
        let same : value_set steps (slice_index o.follows.values k) ≡ operand (values_after [] o.follows.sf) (slice_index o.follows.values k) = ap (λ z. value_set z (slice_index o.follows.values k)) o.follows.steps_are ∙ value-before o.follows.sf (s ∷ o.sr) (slice_index o.follows.values k) at in
        subst (λ (z : Set). AreAlike z (node_set nodes k)) same h.set

    made-here : value_set steps n ≡ task_set (values_after [] o.follows.sf) (task_over o.follows.values o.d)
    made-here = ap (λ z. value_set z n) o.follows.steps_are ∙ ap (value_set (o.follows.sf ++ s ∷ o.sr)) o.follows.number ∙ value-here o.follows.sf o.sr s ∙ ap (task_set (values_after [] o.follows.sf)) task-here

    set-made : (e : Draft) (k : ℕ) → IsRightDraft nodes e → Makes e k → ((j : ℕ) → DraftLooksAt e j → AreAlike (operand (values_after [] o.follows.sf) (slice_index o.follows.values j)) (node_set nodes j))
        → AreAlike (task_set (values_after [] o.follows.sf) (task_over o.follows.values e)) (node_set nodes k)
    set-made (draft.Make i m) k right makes alike = subst (λ (z : ℕ). AreAlike (set_of (values_after [] o.follows.sf) (over (slice_index o.follows.values) m)) (node_set nodes z)) (sym makes)
        (alike-trans _ _ _ (over-alike (slice_index o.follows.values) (sets_after [] nodes) (values_after [] o.follows.sf) m (λ j op. alike j op)) right.set)
    set-made (draft.Turn i j t) k right makes alike = subst (λ (z : ℕ). AreAlike (turned_set t (operand (values_after [] o.follows.sf) (slice_index o.follows.values j))) (node_set nodes z)) (sym makes)
        (subst (AreAlike (turned_set t (operand (values_after [] o.follows.sf) (slice_index o.follows.values j)))) (sym right.set)
        (turned-alike t (operand (values_after [] o.follows.sf) (slice_index o.follows.values j)) (node_set nodes j) (alike j refl)))
    set-made (draft.Ask c) k right makes alike = absurd makes

    pub set-here : (k : ℕ) → Makes o.d k → AreAlike (value_set steps n) (node_set nodes k)
    set-here k makes = subst (λ (z : Set). AreAlike z (node_set nodes k)) (sym made-here) (set-made o.d k right-here makes earlier)

    held-here : (k : ℕ) → Makes o.d k → IsHeldByStep nodes drafts steps (n + 1) n k
    held-here k makes = record {
      below = omega arith;
      made = (s, there, subst MakesValue (sym task-here) (makes-value o.follows.values o.d k makes));
      name = name-here k makes;
      set = set-here k makes;
    }

    still-held : (v k : ℕ) → IsHeldByStep nodes drafts steps n v k → IsHeldByStep nodes drafts steps (n + 1) v k
    still-held v k h = record { below = let b = h.below in omega (arith, b); made = h.made; name = h.name; set = h.set }

    held-later : (k : ℕ) → IsMade (o.follows.df ++ o.d ∷ []) k → IsHeldByStep nodes drafts steps (n + 1) (slice_index (put_value o.follows.values o.d n) k) k
    held-later k made = elim (makes-or-not o.d k) [
      | inl makes ↦ (
          let within = makes-within nodes o.d k right-here makes in
          let table = o.follows.table in
          subst (λ z. IsHeldByStep nodes drafts steps (n + 1) z k) (sym (put-here o.follows.values o.d n k (omega (arith, within, table)) makes)) (held-here k makes))
      | inr not ↦ subst (λ z. IsHeldByStep nodes drafts steps (n + 1) z k) (sym (put-other o.follows.values o.d n k not))
          (still-held (slice_index o.follows.values k) k (o.follows.held k (⊎_elim (λ m. m) (λ m. absurd (not m)) (made-seam o.follows.df o.d k made))))
    ]

    pub follows-next : FollowsDrafts nodes drafts steps (n + 1) o.dr o.sr
    follows-next = record {
      values = put_value o.follows.values o.d n;
      df = o.follows.df ++ o.d ∷ [];
      sf = o.follows.sf ++ s ∷ [];
      drafts_are = o.follows.drafts_are ∙ sym (append_assoc o.follows.df (o.d ∷ []) o.dr);
      steps_are = o.follows.steps_are ∙ sym (append_assoc o.follows.sf (s ∷ []) o.sr);
      drafts_number = (let m = o.follows.drafts_number in let more = length-append o.follows.df (o.d ∷ []) in omega (arith, m, more));
      number = (let m = o.follows.number in let more = length-append o.follows.sf (s ∷ []) in omega (arith, m, more));
      tasks = tasks-later;
      held = held-later;
      table = (let t = o.follows.table in let same = put-length o.follows.values o.d n in omega (arith, t, same));
      asked_so = asked_values-append o.follows.sf (s ∷ []) ∙ ap (λ z. z ++ (questions_of s.task ++ [])) o.follows.asked_so ∙ ap (λ z. asked o.follows.df ++ z) (append-nil (questions_of s.task) ∙ ap questions_of task-here ∙ asked-over o.follows.values o.d) ∙ sym (asked-append o.follows.df (o.d ∷ []));
    }

  -- ---- one step after the other
  abbrev here : (n : ℕ) (d : Draft) (dr : List Draft) (s : Step) (sr : List Step) → FollowsDrafts nodes drafts steps n (d ∷ dr) (s ∷ sr) → FollowsAt nodes drafts steps n s
  here n d dr s sr f = record { d = d; dr = dr; sr = sr; follows = f }

  abbrev next : (n : ℕ) (d : Draft) (dr : List Draft) (s : Step) (sr : List Step) → FollowsDrafts nodes drafts steps n (d ∷ dr) (s ∷ sr) → FollowsDrafts nodes drafts steps (n + 1) dr sr
  next n d dr s sr f = follows-next n s (here n d dr s sr f)

  needed-by : (values : List ℕ) (d : Draft) (k : ℕ) (rest : List Draft) (looks later made : Type 0) → IsNeeded (d ∷ rest) k
      → (DraftLooksAt d k → looks) → (IsNeeded rest k → later) → ((m : ℕ) → Makes d m → IsNeeded rest m → made) → IsNeededBy (task_over values d) looks later made
  needed-by values (draft.Make n m) k rest looks later made h f g i = ⊎_elim (λ l. inl (g l)) (λ r. inr (f r.0, i n refl r.1)) h
  needed-by values (draft.Turn n j t) k rest looks later made h f g i = ⊎_elim (λ l. inl (g l)) (λ r. inr (f r.0, i n refl r.1)) h
  needed-by values (draft.Ask c) k rest looks later made h f g i = f h

  needed-name : (dr : List Draft) (sr : List Step) (n : ℕ) → FollowsDrafts nodes drafts steps n dr sr → (k : ℕ) → IsNeeded dr k → IsNameNeeded (name_in drafts) n sr k
  needed-name dr [] n f k h = tt
  needed-name [] (s ∷ sr) n f k h = absurd (let t = ap length f.tasks in omega (arith, t))
  needed-name (d ∷ dr) (s ∷ sr) n f k h =
      let o = here n d dr s sr f in
      let later = needed-name dr sr (n + 1) (next n d dr s sr f) in
      let looks = LooksAtNamed (name_in drafts) s.task k in
      let itself = IsNameNeeded (name_in drafts) (n + 1) sr k in
      let made = IsNameNeeded (name_in drafts) (n + 1) sr (name_in drafts n) in
      subst (λ z. IsNeededBy z looks itself made) (sym (task-here n s o))
      (needed-by f.values d k dr looks itself made h (looks-here n s o k) (later k) (λ m makes l. subst (IsNameNeeded (name_in drafts) (n + 1) sr) (sym (name-here n s o m makes)) (later m l)))

  pub needed-names : (dr : List Draft) (sr : List Step) (n : ℕ) → FollowsDrafts nodes drafts steps n dr sr → AreNeeded dr → AreNamesNeeded (name_in drafts) n sr
  needed-names dr [] n f h = tt
  needed-names [] (s ∷ sr) n f h = absurd (let t = ap length f.tasks in omega (arith, t))
  needed-names (d ∷ dr) (s ∷ sr) n f h =
      let o = here n d dr s sr f in (
        λ makes.
            let (k, is) = value-makes f.values d (subst MakesValue (task-here n s o) makes) in
            subst (IsNameNeeded (name_in drafts) (n + 1) sr) (sym (name-here n s o k is)) (needed-name dr sr (n + 1) (next n d dr s sr f) k (h.0 k is)),
        needed-names dr sr (n + 1) (next n d dr s sr f) h.1,
      )

  -- the questions are those of the drafts
  pub asked-follows : (dr : List Draft) (sr : List Step) (n : ℕ) → FollowsDrafts nodes drafts steps n dr sr → asked_values steps ≡ asked drafts
  asked-follows [] [] n f = ap asked_values (f.steps_are ∙ append-nil f.sf) ∙ f.asked_so ∙ ap asked (sym (f.drafts_are ∙ append-nil f.df))
  asked-follows [] (s ∷ sr) n f = absurd (let t = ap length f.tasks in omega (arith, t))
  asked-follows (d ∷ dr) [] n f = absurd (let t = ap length f.tasks in omega (arith, t))
  asked-follows (d ∷ dr) (s ∷ sr) n f = asked-follows dr sr (n + 1) (next n d dr s sr f)

  follows-at : (dr : List Draft) (sr : List Step) (n : ℕ) → FollowsDrafts nodes drafts steps n dr sr → (i : ℕ) (s : Step) → slice_get sr i ≡ Some s → FollowsAt nodes drafts steps (n + i) s
  follows-at dr [] n f i s at = absurd (let e : None ≡ Some s = at in cc)
  follows-at [] (t ∷ sr) n f i s at = absurd (let e = ap length f.tasks in omega (arith, e))
  follows-at (d ∷ dr) (t ∷ sr) n f zero s at =
      let same : t ≡ s = (let e : Some t ≡ Some s = at in cc) in
      let number : n + 0 ≡ n = omega arith in
      subst (λ z. FollowsAt nodes drafts steps z s) (sym number) (subst (FollowsAt nodes drafts steps n) same (here n d dr t sr f))
  follows-at (d ∷ dr) (t ∷ sr) n f (suc i) s at =
      let number : n + suc i ≡ n + 1 + i = omega arith in
      subst (λ z. FollowsAt nodes drafts steps z s) (sym number) (follows-at dr sr (n + 1) (next n d dr t sr f) i s at)

  module _ (values : List ℕ) (table : length nodes ≤ length values) (tasks : tasks_in steps ≡ tasks_over values 0 drafts) where
    pub follows-none : FollowsDrafts nodes drafts steps 0 drafts steps
    follows-none = record {
      values = values;
      df = [];
      sf = [];
      drafts_are = refl;
      steps_are = refl;
      drafts_number = refl;
      number = refl;
      tasks = tasks;
      held = λ k made. let (j, d, at, makes) = made in absurd (let e : None ≡ Some d = at in cc);
      table = table;
      asked_so = refl;
    }

    pub follows-each : (i : ℕ) (s : Step) → slice_get steps i ≡ Some s → FollowsAt nodes drafts steps i s
    follows-each i s at =
        let number : 0 + i ≡ i = omega arith in
        subst (λ z. FollowsAt nodes drafts steps z s) number (follows-at drafts steps 0 follows-none i s at)

-- ---- tasks look at earlier values
steps-with : (tasks : List Task) → (steps : List Step) × (tasks_in steps ≡ tasks)
steps-with [] = ([], refl)
steps-with (t ∷ tasks) = let (steps, e) = steps-with tasks in (record { task = t; ends_first = false; ends_second = false; ends_made = false } ∷ steps, ap (λ z. t ∷ z) e)

pub look-below : (nodes : List Node) (drafts : List Draft) (tasks : List Task) (values : List ℕ) → AreDrafts nodes drafts → length nodes ≤ length values → tasks ≡ tasks_over values 0 drafts → LookBelow (length tasks) tasks
look-below nodes drafts tasks values are table is i t at v looks =
    let (steps, e) = steps-with tasks in
    let (s, there, same) = step-there steps i t (subst (λ z. slice_get z i ≡ Some t) (sym e) at) in
    let o = follows-each nodes drafts steps are values table (e ∙ is) i s there in
    let (k, h) = looked-at nodes drafts steps are i s o v (subst (λ z. LooksAtValue z v) (sym same) looks) in
    let below = h.below in
    let within = slice_get_within tasks i t at in
    omega (arith, below, within)
