-- The steps of drafts make the sets of their nodes, and have what is known of the drafts.
use Rattle.nef_plan.proofs.Prelude.{◌≡◌, ◌∙◌, ℕ, zero, suc, ◌+◌, ◌<◌, refl, ap, sym, subst, arith, List, [], ◌∷◌, ◌++◌, length, inl, inr, ⊎_elim, ◌⊎◌, Option, None, Some, true, false, append_assoc, length-append, unwrap_or, cases_eq, get_or-set_same, get_or-set_other, Set, Node, IsOperand, Shape, Uses, operand, set_of, shape_of, Command, Draft, Step, AreAlike, IsRightDraft, DraftLooksAt, Makes, asked, over, put_value, task_over, value_of, first_asked, is_question, second_asked, IsTask, LooksAtValue, MakesValue, asked_values, task_set, questions_of, value_set, values_after}
use Rattle.std.proofs.Common.{slice_set, slice_index}
use Rattle.nef_expr.specs.declared.nodes.Node.TheVariants as node
use Rattle.nef_script.specs.declared.script.Command.TheVariants as command
use Rattle.nef_plan.specs.declared.planner.Draft.TheVariants as draft
use Rattle.nef_plan.proofs.Alike.{alike-refl, both-alike, border-alike, closed-alike, either-alike, inside-alike, less-alike, one_of-alike, other-alike, regular-alike}
use Rattle.nef_expr.proofs.Sets.{operand-append, operand-last}

-- ---- values
values-append : (ss : List Set) (front rest : List Step) → values_after ss (front ++ rest) ≡ values_after (values_after ss front) rest
values-append ss [] rest = refl
values-append ss (s ∷ front) rest = values-append (ss ++ task_set ss s.task ∷ []) front rest

values-length : (ss : List Set) (steps : List Step) → length (values_after ss steps) ≡ length ss + length steps
values-length ss [] = omega arith
values-length ss (s ∷ steps) = let h = values-length (ss ++ task_set ss s.task ∷ []) steps in omega (arith, length-append {A = Set})

values-stay : (ss : List Set) (steps : List Step) (k : ℕ) → k < length ss → operand (values_after ss steps) k ≡ operand ss k
values-stay ss [] k below = refl
values-stay ss (s ∷ steps) k below =
    values-stay (ss ++ task_set ss s.task ∷ []) steps k (omega (arith, below, length-append {A = Set})) ∙ operand-append ss (task_set ss s.task ∷ []) k below

-- an earlier value is that of the steps before
pub value-before : (front rest : List Step) (k : ℕ) → k < length front → value_set (front ++ rest) k ≡ operand (values_after [] front) k
value-before front rest k below =
    let count = values-length [] front in
    ap (λ (ss : List Set). operand ss k) (values-append [] front rest) ∙ values-stay (values_after [] front) rest k (omega (arith, below, count))

pub value-here : (front rest : List Step) (s : Step) → value_set (front ++ s ∷ rest) (length front) ≡ task_set (values_after [] front) s.task
value-here front rest s =
    let ss = values_after [] front in
    let count : length front ≡ length ss = let c = values-length [] front in omega (arith, c) in
    let more = length-append ss (task_set ss s.task ∷ []) in
    ap (λ (z : List Set). operand z (length front)) (values-append [] front (s ∷ rest))
    ∙ values-stay (ss ++ task_set ss s.task ∷ []) rest (length front) (omega (arith, count, more))
    ∙ ap (operand (ss ++ task_set ss s.task ∷ [])) count
    ∙ operand-last ss (task_set ss s.task)

-- ---- expressions over values
pub over-alike : (f : ℕ → ℕ) (ss ts : List Set) (m : Node) → ((k : ℕ) → IsOperand k m → AreAlike (operand ts (f k)) (operand ss k)) → AreAlike (set_of ts (over f m)) (set_of ss m)
over-alike f ss ts (node.Half o c) h = alike-refl _
over-alike f ss ts node.Empty h = alike-refl _
over-alike f ss ts node.Full h = alike-refl _
over-alike f ss ts (node.And i j) h = both-alike (operand ts (f i)) (operand ss i) (operand ts (f j)) (operand ss j) (h i (inl refl)) (h j (inr refl))
over-alike f ss ts (node.Or i j) h = either-alike (operand ts (f i)) (operand ss i) (operand ts (f j)) (operand ss j) (h i (inl refl)) (h j (inr refl))
over-alike f ss ts (node.Diff i j) h = less-alike (operand ts (f i)) (operand ss i) (operand ts (f j)) (operand ss j) (h i (inl refl)) (h j (inr refl))
over-alike f ss ts (node.Xor i j) h = one_of-alike (operand ts (f i)) (operand ss i) (operand ts (f j)) (operand ss j) (h i (inl refl)) (h j (inr refl))
over-alike f ss ts (node.Not i) h = other-alike (operand ts (f i)) (operand ss i) (h i refl)
over-alike f ss ts (node.Int i) h = inside-alike (operand ts (f i)) (operand ss i) (h i refl)
over-alike f ss ts (node.Cl i) h = closed-alike (operand ts (f i)) (operand ss i) (h i refl)
over-alike f ss ts (node.Bd i) h = border-alike (operand ts (f i)) (operand ss i) (h i refl)
over-alike f ss ts (node.Reg i) h = regular-alike (operand ts (f i)) (operand ss i) (h i refl)

-- the shape with the number that f has for each operand
abbrev shape-with : (ℕ → ℕ) → Shape → Shape
shape-with f (Shape.leaf s) = Shape.leaf s
shape-with f (Shape.unary make i) = Shape.unary make (f i)
shape-with f (Shape.binary make i j) = Shape.binary make (f i) (f j)

shape-over : (f : ℕ → ℕ) (m : Node) → shape_of (over f m) ≡ shape-with f (shape_of m)
shape-over f (node.Half o c) = refl
shape-over f node.Empty = refl
shape-over f node.Full = refl
shape-over f (node.And i j) = refl
shape-over f (node.Or i j) = refl
shape-over f (node.Diff i j) = refl
shape-over f (node.Xor i j) = refl
shape-over f (node.Not i) = refl
shape-over f (node.Int i) = refl
shape-over f (node.Cl i) = refl
shape-over f (node.Bd i) = refl
shape-over f (node.Reg i) = refl

-- each operand there is the number of an operand, and the other way round
with-uses : (f : ℕ → ℕ) (s : Shape) (k : ℕ) → Uses k (shape-with f s) → (n : ℕ) × Uses n s × (k ≡ f n)
with-uses f (Shape.leaf s) k h = absurd h
with-uses f (Shape.unary make i) k h = (i, refl, h)
with-uses f (Shape.binary make i j) k h = ⊎_elim (λ e. (i, inl refl, e)) (λ e. (j, inr refl, e)) h

uses-with : (f : ℕ → ℕ) (s : Shape) (k : ℕ) → Uses k s → Uses (f k) (shape-with f s)
uses-with f (Shape.leaf s) k h = h
uses-with f (Shape.unary make i) k h = ap f h
uses-with f (Shape.binary make i j) k h = ⊎_elim (λ e. inl (ap f e)) (λ e. inr (ap f e)) h

-- ---- questions
-- a question asks about a first node
pub asks-some : (c : Command) → is_question c ≡ true → (k : ℕ) × (first_asked c ≡ Some k)
asks-some (command.Bind line n) e = absurd (let f : false ≡ true = e in cc)
asks-some (command.Turn line n j t) e = absurd (let f : false ≡ true = e in cc)
asks-some (command.Has line n p) e = (n, refl)
asks-some (command.Joined line n p q) e = (n, refl)
asks-some (command.Ray line n p d) e = (n, refl)
asks-some (command.Same line i j) e = (i, refl)
asks-some (command.Count line n) e = (n, refl)
asks-some (command.Print line n name) e = (n, refl)

pub value_of-some : (values : List ℕ) (o : Option ℕ) (v : ℕ) → value_of values o ≡ Some v → (k : ℕ) × (o ≡ Some k) × (v ≡ slice_index values k)
value_of-some values None v e = let f : None ≡ Some v = e in absurd (cc)
value_of-some values (Some k) v e = let f : Some (slice_index values k) ≡ Some v = e in (k, refl, cc)

-- ---- what a draft looks at has its value looked at, and nothing else
pub look-over : (values : List ℕ) (d : Draft) (k : ℕ) → DraftLooksAt d k → LooksAtValue (task_over values d) (slice_index values k)
look-over values (draft.Make n m) k h = subst (Uses (slice_index values k)) (sym (shape-over (slice_index values) m)) (uses-with (slice_index values) (shape_of m) k h)
look-over values (draft.Turn n j t) k h = ap (slice_index values) h
look-over values (draft.Ask c) k h = elim h [
  | inl e ↦ inl (sym (ap (λ z. unwrap_or (value_of values z) 0) e))
  | inr e ↦ inr (ap (value_of values) e)
]

pub looked-over : (nodes : List Node) (values : List ℕ) (d : Draft) (v : ℕ) → IsRightDraft nodes d → LooksAtValue (task_over values d) v → (k : ℕ) × DraftLooksAt d k × (v ≡ slice_index values k)
looked-over nodes values (draft.Make n m) v right h = with-uses (slice_index values) (shape_of m) v (subst (Uses v) (shape-over (slice_index values) m) h)
looked-over nodes values (draft.Turn n j t) v right h = (j, refl, h)
looked-over nodes values (draft.Ask c) v right (inl h) = let (k, e) = asks-some c.now right.0 in (k, inl e, h ∙ ap (λ z. unwrap_or (value_of values z) 0) e)
looked-over nodes values (draft.Ask c) v right (inr h) = let (k, e, is) = value_of-some values (second_asked c.now) v h in (k, inr e, is)

pub task-is : (nodes : List Node) (values : List ℕ) (d : Draft) → IsRightDraft nodes d → IsTask (task_over values d)
task-is nodes values (draft.Make n m) right = tt
task-is nodes values (draft.Turn n j t) right = right.turn
task-is nodes values (draft.Ask c) right = right.0

pub makes-value : (values : List ℕ) (d : Draft) (k : ℕ) → Makes d k → MakesValue (task_over values d)
makes-value values (draft.Make n m) k makes = tt
makes-value values (draft.Turn n j t) k makes = tt
makes-value values (draft.Ask c) k makes = absurd makes

pub value-makes : (values : List ℕ) (d : Draft) → MakesValue (task_over values d) → (k : ℕ) × Makes d k
value-makes values (draft.Make n m) makes = (n, refl)
value-makes values (draft.Turn n j t) makes = (n, refl)
value-makes values (draft.Ask c) makes = absurd makes

pub asked-over : (values : List ℕ) (d : Draft) → questions_of (task_over values d) ≡ asked (d ∷ [])
asked-over values (draft.Make n m) = refl
asked-over values (draft.Turn n j t) = refl
asked-over values (draft.Ask c) = refl

pub makes-or-not : (d : Draft) (k : ℕ) → Makes d k ⊎ (Makes d k → ⊥)
makes-or-not (draft.Make n m) k = cases_eq k n
makes-or-not (draft.Turn n j t) k = cases_eq k n
makes-or-not (draft.Ask c) k = inr (λ h. h)

pub put-here : (values : List ℕ) (d : Draft) (n k : ℕ) → k < length values → Makes d k → slice_index (put_value values d n) k ≡ n
put-here values (draft.Make i m) n k below makes = ap (slice_index (slice_set values i n)) makes ∙ get_or-set_same values i n 0 (omega (arith, below, makes))
put-here values (draft.Turn i j t) n k below makes = ap (slice_index (slice_set values i n)) makes ∙ get_or-set_same values i n 0 (omega (arith, below, makes))
put-here values (draft.Ask c) n k below makes = absurd makes

pub put-other : (values : List ℕ) (d : Draft) (n k : ℕ) → (Makes d k → ⊥) → slice_index (put_value values d n) k ≡ slice_index values k
put-other values (draft.Make i m) n k not = get_or-set_other values i k n 0 not
put-other values (draft.Turn i j t) n k not = get_or-set_other values i k n 0 not
put-other values (draft.Ask c) n k not = refl

set-length : (xs : List ℕ) (i x : ℕ) → length (slice_set xs i x) ≡ length xs
set-length [] i x = refl
set-length (y ∷ xs) zero x = refl
set-length (y ∷ xs) (suc i) x = ap suc (set-length xs i x)

pub put-length : (values : List ℕ) (d : Draft) (n : ℕ) → length (put_value values d n) ≡ length values
put-length values (draft.Make i m) n = set-length values i n
put-length values (draft.Turn i j t) n = set-length values i n
put-length values (draft.Ask c) n = refl

pub asked_values-append : (front rest : List Step) → asked_values (front ++ rest) ≡ asked_values front ++ asked_values rest
asked_values-append [] rest = refl
asked_values-append (s ∷ front) rest = ap (λ z. questions_of s.task ++ z) (asked_values-append front rest) ∙ sym (append_assoc (questions_of s.task) (asked_values front) (asked_values rest))
