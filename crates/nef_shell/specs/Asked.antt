-- What the questions of steps ask about.
use Rattle.std.specs.Prelude.{◌≡◌, ℕ, List, Option, Some, None, length, slice_get}
use Rattle.nef_plan.specs.Prelude.{Set, Node, node_set, Command, SpeaksOfFirst, first_asked, second_asked}
use Rattle.nef_plan.specs.declared.step.Step.{Step}
use Rattle.nef_plan.specs.declared.step.Task.{Task}
use Rattle.nef_plan.specs.declared.step.Task.TheVariants.{Make, Turn, Ask}
use Rattle.nef_plan.specs.Values.{AsksRight}

-- a question about values is the one of its command about nodes, of which there are as many as it names
abbrev pub AsksOf : List Node → List Step → Task → Type 0
AsksOf nodes steps (Make m) = Unit {0}
AsksOf nodes steps (Turn j t) = Unit {0}
AsksOf nodes steps (Ask c i second) = AsksRight nodes steps c.now i second × SpeaksOfFirst (length nodes) c.now

abbrev pub AreAsked : List Node → List Step → Type 0
AreAsked nodes steps = (i : ℕ) (s : Step) → slice_get steps i ≡ Some s → AsksOf nodes steps s.task

-- the command asks about a set, and that is so of the set of its node
abbrev pub IsAskedOf : List Node → Command → (Set → Type 0) → Type 0
IsAskedOf nodes c P = (n : ℕ) × (first_asked c ≡ Some n) × P (node_set nodes n)

-- where it asks about a second set, another value is named, and that is so of it and the set of its node
abbrev pub IsAskedOfOther : List Node → Command → Option ℕ → (ℕ → Set → Type 0) → Type 0
IsAskedOfOther nodes c None P = second_asked c ≡ None
IsAskedOfOther nodes c (Some j) P = (n : ℕ) × (second_asked c ≡ Some n) × P j (node_set nodes n)
