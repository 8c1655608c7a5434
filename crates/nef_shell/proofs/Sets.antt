-- The sets of values, of which tasks make others.
use Rattle.nef_shell.proofs.Prelude.{◌≡◌, ◌⊎◌, ◌∙◌, ℕ, zero, suc, ◌+◌, ◌<◌, arith, ap, refl, sym, subst, List, [], ◌∷◌, ◌++◌, length, Option, Some, None, inl, inr, Bor, turned_set, Set, Shape, shape_of, operand, Uses, set_of-same, Step, Task, Make, Turn, Ask, AreSteps, LooksAtValue, MakesValue, first_of, first_value, task_set, second_of, second_value, value_set, values_after, value-before, value-here, Command}
use Rattle.std.proofs.Common.{slice_get}
use Rattle.nef_expr.proofs.Operands.{uses-from}

-- ---- what a task looks at

uses-first : (s : Shape) (k : ℕ) → first_of s ≡ Some k → Uses k s
uses-first (Shape.leaf s) k e = let f : None ≡ Some k = e in cc
uses-first (Shape.unary make i) k e = cc
uses-first (Shape.binary make i j) k e = inl cc

uses-second : (s : Shape) (k : ℕ) → second_of s ≡ Some k → Uses k s
uses-second (Shape.leaf s) k e = let f : None ≡ Some k = e in cc
uses-second (Shape.unary make i) k e = let f : None ≡ Some k = e in cc
uses-second (Shape.binary make i j) k e = inr cc

uses-some : (s : Shape) (k : ℕ) → Uses k s → (first_of s ≡ Some k) ⊎ (second_of s ≡ Some k)
uses-some (Shape.leaf s) k h = absurd h
uses-some (Shape.unary make i) k h = inl (ap Some (sym h))
uses-some (Shape.binary make i j) k h = elim h [ inl e ↦ inl (ap Some (sym e)) | inr e ↦ inr (ap Some (sym e)) ]

pub looks-first : (t : Task) (k : ℕ) → first_value t ≡ Some k → LooksAtValue t k
looks-first (Make m) k e = uses-first (shape_of m) k e
looks-first (Turn j n) k e = cc
looks-first (Ask c i second) k e = inl cc

pub looks-second : (t : Task) (k : ℕ) → second_value t ≡ Some k → LooksAtValue t k
looks-second (Make m) k e = uses-second (shape_of m) k e
looks-second (Turn j n) k e = let f : None ≡ Some k = e in cc
looks-second (Ask c i second) k e = inr e

pub looks-some : (t : Task) (k : ℕ) → LooksAtValue t k → (first_value t ≡ Some k) ⊎ (second_value t ≡ Some k)
looks-some (Make m) k h = uses-some (shape_of m) k h
looks-some (Turn j n) k h = inl (ap Some (sym h))
looks-some (Ask c i second) k h = elim h [ inl e ↦ inl (ap Some (sym e)) | inr e ↦ inr e ]

-- a task that asks nothing makes a value
pub makes-unless : (t : Task) → ((c : Bor Command) (i : ℕ) (second : Option ℕ) → t ≡ Ask c i second → ⊥) → MakesValue t
makes-unless (Make m) h = tt
makes-unless (Turn j n) h = tt
makes-unless (Ask c i second) h = h c i second refl

-- ---- what it makes
same-made : (n : ℕ) (ss ts : List Set) (t : Task) → ((k : ℕ) → k < n → operand ss k ≡ operand ts k) → ((k : ℕ) → LooksAtValue t k → k < n) → task_set ss t ≡ task_set ts t
same-made n ss ts (Make m) same below = set_of-same n ss ts m same (uses-from n (shape_of m) below)
same-made n ss ts (Turn j k) same below = ap (turned_set k) (same j (below j refl))
same-made n ss ts (Ask c i second) same below = refl

split : (xs : List Step) (i : ℕ) (x : Step) → slice_get xs i ≡ Some x → (front : List Step) × (rest : List Step) × (xs ≡ front ++ x ∷ rest) × (length front ≡ i)
split [] i x e = let f : None ≡ Some x = e in cc
split (y ∷ xs) zero x e = ([], xs, (let same : y ≡ x = cc in ap (λ z. z ∷ xs) same), refl)
split (y ∷ xs) (suc i) x e = let (front, rest, whole, place) = split xs i x e in (y ∷ front, rest, ap (λ z. y ∷ z) whole, ap suc place)

-- the value of a step is what its task makes of the values of all
pub value-at : (steps : List Step) (i : ℕ) (s : Step) → AreSteps steps → slice_get steps i ≡ Some s → value_set steps i ≡ task_set (values_after [] steps) s.task
value-at steps i s right at =
    let (front, rest, whole, place) = split steps i s at in
    subst (λ (z : List Step × ℕ). value_set z.0 z.1 ≡ task_set (values_after [] z.0) s.task) (λ t. (sym whole t, place t))
    (value-here front rest s ∙ same-made (length front) _ _ s.task (λ k low. sym (value-before front (s ∷ rest) k low)) (λ k looks. let low = (right.made_before i s at k looks).1 in omega (arith, low, place)))
