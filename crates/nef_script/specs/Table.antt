-- The commands of the language, and the roles of the words after each command.
use Rattle.std.specs.Prelude.{ℕ, Bool, true, false, List, [], ◌∷◌, Option, codes, find}
use Rattle.std.specs.Str.{bytes_eq}
use Rattle.nef_space.specs.Limits.{normal_limit, offset_limit, query_limit, query_weight_limit, ray_direction_limit, ray_point_limit, ray_weight_limit}
use Rattle.nef_script.specs.declared.arguments.Verb.{Verb}
use Rattle.nef_script.specs.declared.arguments.Verb.TheVariants as verb

-- the role of a word: a name to be bound, a bound name, a whole number of at most this size, `open` or `closed`, a
-- whole number from 1 to this one, or from 0 to this one
pub data Role : Type 0 where
  NewName : Role
  Operand : Role
  Coefficient : ℕ → Role
  Mode : Role
  Weight : ℕ → Role
  Index : ℕ → Role

-- each command's word, and the roles of the words after it, in order
abbrev pub shape : Verb → List ℕ × List Role
shape verb.Half = (codes "half", NewName ∷ Coefficient normal_limit ∷ Coefficient normal_limit ∷ Coefficient normal_limit ∷ Coefficient offset_limit ∷ Mode ∷ [])
shape verb.Empty = (codes "empty", NewName ∷ [])
shape verb.Full = (codes "full", NewName ∷ [])
shape verb.And = (codes "and", NewName ∷ Operand ∷ Operand ∷ [])
shape verb.Or = (codes "or", NewName ∷ Operand ∷ Operand ∷ [])
shape verb.Diff = (codes "diff", NewName ∷ Operand ∷ Operand ∷ [])
shape verb.Xor = (codes "xor", NewName ∷ Operand ∷ Operand ∷ [])
shape verb.Not = (codes "not", NewName ∷ Operand ∷ [])
shape verb.Int = (codes "int", NewName ∷ Operand ∷ [])
shape verb.Cl = (codes "cl", NewName ∷ Operand ∷ [])
shape verb.Bd = (codes "bd", NewName ∷ Operand ∷ [])
shape verb.Reg = (codes "reg", NewName ∷ Operand ∷ [])
shape verb.Turn = (codes "turn", NewName ∷ Operand ∷ Index 47 ∷ [])
shape verb.Has = (codes "has", Operand ∷ Coefficient query_limit ∷ Coefficient query_limit ∷ Coefficient query_limit ∷ Weight query_weight_limit ∷ [])
shape verb.Joined = (codes "joined", Operand ∷ Coefficient query_limit ∷ Coefficient query_limit ∷ Coefficient query_limit ∷ Weight query_weight_limit ∷ Coefficient query_limit ∷ Coefficient query_limit ∷ Coefficient query_limit ∷ Weight query_weight_limit ∷ [])
shape verb.Ray = (codes "ray", Operand ∷ Coefficient ray_point_limit ∷ Coefficient ray_point_limit ∷ Coefficient ray_point_limit ∷ Weight ray_weight_limit ∷ Coefficient ray_direction_limit ∷ Coefficient ray_direction_limit ∷ Coefficient ray_direction_limit ∷ [])
shape verb.Same = (codes "same", Operand ∷ Operand ∷ [])
shape verb.Count = (codes "count", Operand ∷ [])
shape verb.Print = (codes "print", Operand ∷ [])

abbrev pub roles : Verb → List Role
roles v = (shape v).1

-- all commands; the command with this word
abbrev pub verbs : List Verb
verbs = verb.Half ∷ verb.Empty ∷ verb.Full ∷ verb.And ∷ verb.Or ∷ verb.Diff ∷ verb.Xor ∷ verb.Not ∷ verb.Int ∷ verb.Cl ∷ verb.Bd ∷ verb.Reg ∷ verb.Turn ∷ verb.Has ∷ verb.Joined ∷ verb.Ray ∷ verb.Same ∷ verb.Count ∷ verb.Print ∷ []

abbrev pub verb_of : List ℕ → Option Verb
verb_of word = find (λ v. bytes_eq word (shape v).0) verbs

-- the first word after the command is a name that the command binds
abbrev pub begins_new : List Role → Bool
begins_new (NewName ∷ roles) = true
begins_new roles = false

abbrev pub binds : Verb → Bool
binds v = begins_new (roles v)

-- the command binds its name to a node that it adds
abbrev pub is_own : Verb → Bool
is_own verb.Turn = false
is_own v = binds v
