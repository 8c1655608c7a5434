-- The sets that the names of a script stand for.
use Rattle.std.specs.Prelude.{◌/◌, ◌%◌, ◌==◌, ◌∷◌, ◌++◌, if◌then◌else◌, ℕ, ℤ, neg_ℤ, List, [], Option, Some, None, option_map, option_to_list, codes, nat_abs, get_or, map}
use Rattle.nef_script.specs.Prelude.{bytes_eq, words_of, verb_of, number_or_zero}
use Rattle.nef_space.specs.Prelude.{Form, form, Set}
use Rattle.nef_script.specs.declared.arguments.Verb.{Verb}
use Rattle.nef_script.specs.declared.arguments.Verb.TheVariants as verb

-- the names that are bound so far, each with its set
abbrev pub Bindings : Type 0
Bindings = List (List ℕ × Set)

-- the set of a name, if the name is bound
abbrev pub set_named : Bindings → List ℕ → Option Set
set_named [] name = None
set_named (b ∷ bs) name = if bytes_eq name b.0 then Some b.1 else set_named bs name

-- the old coordinates that become the new x, y and z, for each of the six orders
abbrev pub orders : ℤ → ℤ → ℤ → List (ℤ × ℤ × ℤ)
orders x y z = (x, y, z) ∷ (x, z, y) ∷ (y, x, z) ∷ (y, z, x) ∷ (z, x, y) ∷ (z, y, x) ∷ []

-- the number a, negated where s has the bit, which is 1, 2 or 4
abbrev pub signed_by : ℕ → ℕ → ℤ → ℤ
signed_by bit s a = if s / bit % 2 == 1 then neg_ℤ a else a

-- the form under turn 8 P + s: its normal in the order P, with signs by the bits 1, 2 and 4 of s, and the same offset
abbrev pub turned_form : ℕ → Form → Form
turned_form k f = let n = get_or (orders f.a f.b f.c) (k / 8) (f.c, f.b, f.a) in form (signed_by 1 (k % 8) n.0) (signed_by 2 (k % 8) n.1) (signed_by 4 (k % 8) n.2) f.d

-- the set under the turn, made of the turned forms of its halves
abbrev pub turned_set : ℕ → Set → Set
turned_set k (Set.half f c) = Set.half (turned_form k f) c
turned_set k Set.empty = Set.empty
turned_set k Set.full = Set.full
turned_set k (Set.both a b) = Set.both (turned_set k a) (turned_set k b)
turned_set k (Set.either a b) = Set.either (turned_set k a) (turned_set k b)
turned_set k (Set.less a b) = Set.less (turned_set k a) (turned_set k b)
turned_set k (Set.one_of a b) = Set.one_of (turned_set k a) (turned_set k b)
turned_set k (Set.other a) = Set.other (turned_set k a)
turned_set k (Set.inside a) = Set.inside (turned_set k a)
turned_set k (Set.closed a) = Set.closed (turned_set k a)
turned_set k (Set.border a) = Set.border (turned_set k a)
turned_set k (Set.regular a) = Set.regular (turned_set k a)

-- the set that is made of two sets, if both are there
abbrev pub made_of_both : (Set → Set → Set) → Option Set → Option Set → Option Set
made_of_both make (Some s) (Some t) = Some (make s t)
made_of_both make s t = None

-- the set to which a command binds its name: none for a wrong number of words or an unbound operand
abbrev pub bound_set : Bindings → Option Verb → List (List ℕ) → Option Set
bound_set sets (Some verb.Half) (name ∷ a ∷ b ∷ c ∷ d ∷ mode ∷ []) = Some (Set.half (form (number_or_zero a) (number_or_zero b) (number_or_zero c) (number_or_zero d)) (bytes_eq mode (codes "closed")))
bound_set sets (Some verb.Empty) (name ∷ []) = Some Set.empty
bound_set sets (Some verb.Full) (name ∷ []) = Some Set.full
bound_set sets (Some verb.And) (name ∷ left ∷ right ∷ []) = made_of_both Set.both (set_named sets left) (set_named sets right)
bound_set sets (Some verb.Or) (name ∷ left ∷ right ∷ []) = made_of_both Set.either (set_named sets left) (set_named sets right)
bound_set sets (Some verb.Diff) (name ∷ left ∷ right ∷ []) = made_of_both Set.less (set_named sets left) (set_named sets right)
bound_set sets (Some verb.Xor) (name ∷ left ∷ right ∷ []) = made_of_both Set.one_of (set_named sets left) (set_named sets right)
bound_set sets (Some verb.Not) (name ∷ operand ∷ []) = option_map Set.other (set_named sets operand)
bound_set sets (Some verb.Int) (name ∷ operand ∷ []) = option_map Set.inside (set_named sets operand)
bound_set sets (Some verb.Cl) (name ∷ operand ∷ []) = option_map Set.closed (set_named sets operand)
bound_set sets (Some verb.Bd) (name ∷ operand ∷ []) = option_map Set.border (set_named sets operand)
bound_set sets (Some verb.Reg) (name ∷ operand ∷ []) = option_map Set.regular (set_named sets operand)
bound_set sets (Some verb.Turn) (name ∷ operand ∷ number ∷ []) = option_map (turned_set (nat_abs (number_or_zero number))) (set_named sets operand)
bound_set sets command args = None

-- the bindings after a line with these words: one more, if the command binds its first word to a set
abbrev pub bound_after : Bindings → List (List ℕ) → Bindings
bound_after sets (word ∷ name ∷ args) = sets ++ map (λ s. (name, s)) (option_to_list (bound_set sets (verb_of word) (name ∷ args)))
bound_after sets words = sets

-- the bindings after all lines of a script
abbrev pub denoted : Bindings → List (List ℕ) → Bindings
denoted sets [] = sets
denoted sets (line ∷ lines) = denoted (bound_after sets (words_of line)) lines
