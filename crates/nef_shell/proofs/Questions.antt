-- What is written of the questions among commands is what is written of all of them.
use Rattle.nef_shell.proofs.Prelude.{◌≡◌, ℕ, zero, suc, Bool, true, false, refl, sym, subst, List, [], ◌∷◌, ◌++◌, length, take, Option, None, Some, Result, Ok, Err, arith, All, cond, filter, slice_get, TextVersion, Node, Step, Task, Make, Ask, is_question, AreAnswered, IsAnswered, asked_values, questions_of, AreAsked, AsksOf, Command, Bind, Has, Joined, Ray, Same, Count, Print, SpeaksOfFirst, Status, IsPiece, IsOutput, WorkEnds}
use Rattle.nef_plan.specs.declared.step.Task.TheVariants as task
use Rattle.nef_script.specs.declared.script.Command.TheVariants.{Turn}

-- a command that isn't a question writes nothing
silent : (version : TextVersion) (nodes : List Node) (c : Command) → is_question c ≡ false → IsPiece version nodes c []
silent version nodes (Bind line n) not = refl
silent version nodes (Turn line n j t) not = refl
silent version nodes (Has line n p) not = absurd (let f : true ≡ false = not in cc)
silent version nodes (Joined line n p q) not = absurd (let f : true ≡ false = not in cc)
silent version nodes (Ray line n p d) not = absurd (let f : true ≡ false = not in cc)
silent version nodes (Same line i j) not = absurd (let f : true ≡ false = not in cc)
silent version nodes (Count line n) not = absurd (let f : true ≡ false = not in cc)
silent version nodes (Print line n name) not = absurd (let f : true ≡ false = not in cc)

module _ (version : TextVersion) (nodes : List Node) where
  output : (cs : List Command) (x : List ℕ) → IsOutput version nodes (filter is_question cs) x → IsOutput version nodes cs x
  output [] x is = is
  output (c ∷ cs) x is = by (is_question c) refl (output cs) is
    where
      by : (b : Bool) → is_question c ≡ b → ((y : List ℕ) → IsOutput version nodes (filter is_question cs) y → IsOutput version nodes cs y) → IsOutput version nodes (cond b (c ∷ filter is_question cs) (filter is_question cs)) x → IsOutput version nodes (c ∷ cs) x
      by true asks others (first, rest, is, later, whole) = (first, rest, is, others rest later, whole)
      by false asks others is = ([], x, silent version nodes c asks, others x is, refl)

  -- and so it is of the first questions
  none-output : (n : ℕ) (x : List ℕ) → IsOutput version nodes (take n []) x → IsOutput version nodes [] x
  none-output zero x is = is
  none-output (suc n) x is = is

  front : (cs : List Command) (n : ℕ) (x : List ℕ) → IsOutput version nodes (take n (filter is_question cs)) x → (m : ℕ) × IsOutput version nodes (take m cs) x
  front [] n x is = (0, none-output n x is)
  front (c ∷ cs) n x is = by (is_question c) refl n (front cs) is
    where
      by : (b : Bool) → is_question c ≡ b → (n : ℕ) → ((k : ℕ) (y : List ℕ) → IsOutput version nodes (take k (filter is_question cs)) y → (m : ℕ) × IsOutput version nodes (take m cs) y)
          → IsOutput version nodes (take n (cond b (c ∷ filter is_question cs) (filter is_question cs))) x → (m : ℕ) × IsOutput version nodes (take m (c ∷ cs)) x
      by true asks zero others is = (0, is)
      by true asks (suc n) others (first, rest, is, later, whole) = let (m, all) = others n rest later in (suc m, (first, rest, is, all, whole))
      by false asks n others is = let (m, all) = others n x is in (suc m, ([], x, silent version nodes c asks, all, refl))

-- how the work of all commands ends, from that of the questions among them
pub ends-all : {A : Type 0} (version : TextVersion) (nodes : List Node) (cs questions : List Command) (before after : Option (List ℕ)) (faults faults' : ℕ) (r : Result A Status) → questions ≡ filter is_question cs → WorkEnds version nodes questions before after faults faults' r → WorkEnds version nodes cs before after faults faults' r
ends-all version nodes cs questions before after faults faults' (Ok a) same ends =
    let (x, is, grown) = ends.done in
    record { done = (x, output version nodes cs x (subst (λ z. IsOutput version nodes z x) same is), grown); quiet = ends.quiet; stopped = tt; front = tt }
ends-all version nodes cs questions before after faults faults' (Err stop) same ends =
    let (n, x, is, part) = ends.front in
    let (m, all) = front version nodes cs n x (subst (λ z. IsOutput version nodes (take n z) x) same is) in
    record { done = tt; quiet = tt; stopped = ends.stopped; front = (m, x, all, part) }

-- ---- what the questions of steps ask about
all-head : (P : Command → Type 0) (c : Command) (cs : List Command) → All P (c ∷ cs) → P c
all-head P c cs all = all 0 c (omega arith)

all-tail : (P : Command → Type 0) (c : Command) (cs : List Command) → All P (c ∷ cs) → All P cs
all-tail P c cs all k d low = all (suc k) d (omega (arith, low))

all-next : (P : Command → Type 0) (c : Command) (cs : List Command) → P c → All P cs → All P (c ∷ cs)
all-next P c cs first rest zero d low = first
all-next P c cs first rest (suc k) d low = rest k d (omega (arith, low))

all-filter : (P : Command → Type 0) (cs : List Command) → All P cs → All P (filter is_question cs)
all-filter P [] all = all
all-filter P (c ∷ cs) all = by (is_question c) (all-filter P cs (all-tail P c cs all))
  where
    by : (b : Bool) → All P (filter is_question cs) → All P (cond b (c ∷ filter is_question cs) (filter is_question cs))
    by true rest = all-next P c _ (all-head P c cs all) rest
    by false rest = rest

abbrev HasEach : (Command → Type 0) → Task → Type 0
HasEach P (Make m) = Unit {0}
HasEach P (task.Turn j t) = Unit {0}
HasEach P (Ask c i second) = P c.now

each-asked : (P : Command → Type 0) (steps : List Step) → All P (asked_values steps) → (i : ℕ) (s : Step) → slice_get steps i ≡ Some s → HasEach P s.task
each-asked P [] all i s e = let f : None ≡ Some s = e in cc
each-asked P (d ∷ steps) all i s e = by d.task refl all i e (λ others j f. each-asked P steps others j s f)
  where
    by : (t : Task) → d.task ≡ t → All P (questions_of t ++ asked_values steps) → (i : ℕ) → slice_get (d ∷ steps) i ≡ Some s → (All P (asked_values steps) → (j : ℕ) → slice_get steps j ≡ Some s → HasEach P s.task) → HasEach P s.task
    by (Make m) is all zero e later = let same : d ≡ s = cc in subst (λ (z : Step). HasEach P z.task) same (subst (HasEach P) (sym is) tt)
    by (task.Turn j t) is all zero e later = let same : d ≡ s = cc in subst (λ (z : Step). HasEach P z.task) same (subst (HasEach P) (sym is) tt)
    by (Ask c j second) is all zero e later = let same : d ≡ s = cc in subst (λ (z : Step). HasEach P z.task) same (subst (HasEach P) (sym is) (all-head P c.now _ all))
    by (Make m) is all (suc i) e later = later all i e
    by (task.Turn j t) is all (suc i) e later = later all i e
    by (Ask c j second) is all (suc i) e later = later (all-tail P c.now _ all) i e

pub are-asked : (nodes : List Node) (commands : List Command) (steps : List Step) → All (SpeaksOfFirst (length nodes)) commands → AreAnswered nodes commands steps → AreAsked nodes steps
are-asked nodes commands steps within answered i s at = both s.task (answered.right i s at) (each-asked (SpeaksOfFirst (length nodes)) steps (subst (All (SpeaksOfFirst (length nodes))) (sym answered.asked) (all-filter (SpeaksOfFirst (length nodes)) commands within)) i s at)
  where
    both : (t : Task) → IsAnswered nodes steps t → HasEach (SpeaksOfFirst (length nodes)) t → AsksOf nodes steps t
    both (Make m) a b = tt
    both (task.Turn j t) a b = tt
    both (Ask c j second) a b = (a, b)
