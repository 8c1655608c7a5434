-- What the lines of a script say. Text s x stands for: x is the text of the set s.
use Rattle.std.specs.Prelude.{◌≡◌, ◌<ℤ◌, ◌∷◌, ◌++◌}
use Rattle.nef_geo.specs.Prelude.{ℕ, pos, List, [], Option, Some, HasLabel, SpacePoint, Set, vector, Label}
use Rattle.nef_geo.specs.Shapes.{point_at}
use Rattle.nef_script.specs.Prelude.{words_of, verb_of, number_or_zero}
use Rattle.nef_script.specs.declared.arguments.Verb.{Verb}
use Rattle.nef_script.specs.declared.arguments.Verb.TheVariants as verb
use Rattle.nef_statement.specs.Output.{answer_of, framed, IsSameAnswer, IsJoinedAnswer, IsRayAnswer}
use Rattle.nef_statement.specs.Written.{CountTells}
use Rattle.nef_statement.specs.Denotes.{Bindings, set_named, bound_set, bound_after}

-- P holds of the point (x/w, y/w, z/w), whose w is positive
abbrev pub AtPoint : List ℕ → List ℕ → List ℕ → List ℕ → (SpacePoint → Type 0) → Type 0
AtPoint x y z w P = (proper : pos 0 <ℤ number_or_zero w) × P (point_at (number_or_zero x) (number_or_zero y) (number_or_zero z) (number_or_zero w) proper)

-- P holds of the set of the name, which is bound
abbrev pub OfName : Bindings → List ℕ → (Set → Type 0) → Type 0
OfName sets name P = (s : Set) × (set_named sets name ≡ Some s) × P s

-- what a command says, by the words after it: the answer to its question, and nothing where it binds a name to a set.
-- With a wrong number of words, an unbound operand or a w that isn't positive nothing holds: no such line is said
abbrev pub IsSaid : (Set → List ℕ → Type 0) → Bindings → Option Verb → List (List ℕ) → List ℕ → Type 0
IsSaid Text sets (Some verb.Has) (name ∷ x ∷ y ∷ z ∷ w ∷ []) said = OfName sets name (λ s. AtPoint x y z w (λ p. (l : Label) × HasLabel s p l × (said ≡ answer_of l)))
IsSaid Text sets (Some verb.Joined) (name ∷ x ∷ y ∷ z ∷ w ∷ x2 ∷ y2 ∷ z2 ∷ w2 ∷ []) said = OfName sets name (λ s. AtPoint x y z w (λ p. AtPoint x2 y2 z2 w2 (λ q. IsJoinedAnswer s p q said)))
IsSaid Text sets (Some verb.Ray) (name ∷ x ∷ y ∷ z ∷ w ∷ dx ∷ dy ∷ dz ∷ []) said = OfName sets name (λ s. AtPoint x y z w (λ p. IsRayAnswer s p (vector (number_or_zero dx) (number_or_zero dy) (number_or_zero dz)) said))
IsSaid Text sets (Some verb.Same) (left ∷ right ∷ []) said = OfName sets left (λ s. OfName sets right (λ t. IsSameAnswer s t said))
IsSaid Text sets (Some verb.Count) (name ∷ []) said = OfName sets name (λ s. CountTells s said)
IsSaid Text sets (Some verb.Print) (name ∷ []) said = OfName sets name (λ s. (x : List ℕ) × Text s x × (said ≡ framed name x))
IsSaid Text sets command args said = (s : Set) × (bound_set sets command args ≡ Some s) × (said ≡ [])

-- what a line says, by its words: a line without words says nothing
abbrev pub IsSaidBy : (Set → List ℕ → Type 0) → Bindings → List (List ℕ) → List ℕ → Type 0
IsSaidBy Text sets [] said = said ≡ []
IsSaidBy Text sets (word ∷ args) said = IsSaid Text sets (verb_of word) args said

-- what lines say, one after the other
abbrev pub AreSaid : (Set → List ℕ → Type 0) → Bindings → List (List ℕ) → List ℕ → Type 0
AreSaid Text sets [] output = output ≡ []
AreSaid Text sets (line ∷ lines) output = (said : List ℕ) × (rest : List ℕ) × IsSaidBy Text sets (words_of line) said × AreSaid Text (bound_after sets (words_of line)) lines rest × (output ≡ said ++ rest)
