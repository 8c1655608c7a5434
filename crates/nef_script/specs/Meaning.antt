-- What an accepted script means: its nodes and its commands.
use Rattle.std.specs.Prelude.{◌≡◌, ◌+◌, ◌<◌, ◌<ℤ◌, ◌∷◌, ℕ, Bool, true, false, ℤ, pos, List, [], Some, codes, length, take, filter, not, nat_eq, slice_get}
use Rattle.nef_geo.specs.Prelude.{position, bytes_eq, form, SamePoint, vector, SameDirection}
use Rattle.nef_geo.specs.Shapes.{given_form, point_at, point_of, vector_of}
use Rattle.nef_geo.specs.Reading.{IsPositiveMultiple}
use Rattle.nef_geo.specs.declared.plane.Oriented.{Oriented}
use Rattle.nef_geo.specs.declared.dir.Dir.{Dir}
use Rattle.nef_geo.specs.declared.point.Point.{Point}
use Rattle.nef_expr.specs.declared.nodes.Node.{Node}
use Rattle.nef_expr.specs.declared.nodes.Node.TheVariants as node
use Rattle.nef_expr.specs.declared.table.Origin.{Origin}
use Rattle.nef_expr.specs.Nodes.{IsOrdered}
use Rattle.nef_expr.specs.Turns.{TurnOf}
use Rattle.nef_expr.specs.Table.{origin, HasOrigin, AreOrigins, IsCopyOf}
use Rattle.nef_lex.specs.Prelude.{lines_of, words_of}
use Rattle.nef_script.specs.Limits.{IsRayWithin}
use Rattle.nef_script.specs.Table.{verb_of, binds, is_own}
use Rattle.nef_script.specs.Tests.{number_or_zero}
use Rattle.nef_script.specs.Checks.{on_command}
use Rattle.nef_script.specs.Refusal.{names_of}
use Rattle.nef_script.specs.declared.arguments.Verb.{Verb}
use Rattle.nef_script.specs.declared.arguments.Verb.TheVariants as verb
use Rattle.nef_script.specs.declared.script.Command.{Command}
use Rattle.nef_script.specs.declared.script.Command.TheVariants.{Bind, Turn, Has, Joined, Ray, Same, Count, Print}

-- up to a positive factor, the given form of the oriented plane has these numbers
abbrev pub IsGiven : Oriented → ℤ → ℤ → ℤ → ℤ → Type 0
IsGiven o a b c d = IsPositiveMultiple (form a b c d) (given_form o)

-- the point is (x/w, y/w, z/w)
abbrev pub IsQuotient : Point → ℤ → ℤ → ℤ → ℤ → Type 0
IsQuotient p x y z w = (positive : pos 0 <ℤ w) × SamePoint (point_at x y z w positive) (point_of p)

-- d is the direction of the vector (x, y, z)
abbrev pub IsToward : Dir → ℤ → ℤ → ℤ → Type 0
IsToward d x y z = SameDirection (vector x y z) (vector_of d)

-- the word names node k: it is name number i, and the node bound by name number i is k
abbrev pub NamesNode : List (List ℕ) → List ℕ → List ℕ → ℕ → Type 0
NamesNode names bound word k = (i : ℕ) × (position (bytes_eq word) names ≡ Some i) × (slice_get bound i ≡ Some k)

-- the node that a line adds and binds to its name, by its command and the words after it
abbrev pub IsNodeOfLine : List (List ℕ) → List ℕ → Verb → List (List ℕ) → Node → Type 0
IsNodeOfLine names bound verb.Half (name ∷ a ∷ b ∷ c ∷ d ∷ mode ∷ []) n = (o : Oriented) × (n ≡ node.Half o (bytes_eq mode (codes "closed"))) × IsGiven o (number_or_zero a) (number_or_zero b) (number_or_zero c) (number_or_zero d)
IsNodeOfLine names bound verb.Empty (name ∷ []) n = n ≡ node.Empty
IsNodeOfLine names bound verb.Full (name ∷ []) n = n ≡ node.Full
IsNodeOfLine names bound verb.And (name ∷ left ∷ right ∷ []) n = (i : ℕ) × (j : ℕ) × NamesNode names bound left i × NamesNode names bound right j × (n ≡ node.And i j)
IsNodeOfLine names bound verb.Or (name ∷ left ∷ right ∷ []) n = (i : ℕ) × (j : ℕ) × NamesNode names bound left i × NamesNode names bound right j × (n ≡ node.Or i j)
IsNodeOfLine names bound verb.Diff (name ∷ left ∷ right ∷ []) n = (i : ℕ) × (j : ℕ) × NamesNode names bound left i × NamesNode names bound right j × (n ≡ node.Diff i j)
IsNodeOfLine names bound verb.Xor (name ∷ left ∷ right ∷ []) n = (i : ℕ) × (j : ℕ) × NamesNode names bound left i × NamesNode names bound right j × (n ≡ node.Xor i j)
IsNodeOfLine names bound verb.Not (name ∷ operand ∷ []) n = (i : ℕ) × NamesNode names bound operand i × (n ≡ node.Not i)
IsNodeOfLine names bound verb.Int (name ∷ operand ∷ []) n = (i : ℕ) × NamesNode names bound operand i × (n ≡ node.Int i)
IsNodeOfLine names bound verb.Cl (name ∷ operand ∷ []) n = (i : ℕ) × NamesNode names bound operand i × (n ≡ node.Cl i)
IsNodeOfLine names bound verb.Bd (name ∷ operand ∷ []) n = (i : ℕ) × NamesNode names bound operand i × (n ≡ node.Bd i)
IsNodeOfLine names bound verb.Reg (name ∷ operand ∷ []) n = (i : ℕ) × NamesNode names bound operand i × (n ≡ node.Reg i)
IsNodeOfLine names bound _ args n = ⊥

-- the command of a line that binds no name
abbrev pub IsQuestion : List (List ℕ) → List ℕ → ℕ → Verb → List (List ℕ) → Command → Type 0
IsQuestion names bound line verb.Has (name ∷ x ∷ y ∷ z ∷ w ∷ []) c = (k : ℕ) × (p : Point) × NamesNode names bound name k × IsQuotient p (number_or_zero x) (number_or_zero y) (number_or_zero z) (number_or_zero w) × (c ≡ Has line k p)
IsQuestion names bound line verb.Joined (name ∷ x ∷ y ∷ z ∷ w ∷ x2 ∷ y2 ∷ z2 ∷ w2 ∷ []) c = (k : ℕ) × (p : Point) × (q : Point) × NamesNode names bound name k × IsQuotient p (number_or_zero x) (number_or_zero y) (number_or_zero z) (number_or_zero w) × IsQuotient q (number_or_zero x2) (number_or_zero y2) (number_or_zero z2) (number_or_zero w2) × (c ≡ Joined line k p q)
IsQuestion names bound line verb.Ray (name ∷ x ∷ y ∷ z ∷ w ∷ dx ∷ dy ∷ dz ∷ []) c = (k : ℕ) × (p : Point) × (d : Dir) × NamesNode names bound name k × IsQuotient p (number_or_zero x) (number_or_zero y) (number_or_zero z) (number_or_zero w) × IsToward d (number_or_zero dx) (number_or_zero dy) (number_or_zero dz) × (c ≡ Ray line k p d)
IsQuestion names bound line verb.Same (left ∷ right ∷ []) c = (i : ℕ) × (j : ℕ) × NamesNode names bound left i × NamesNode names bound right j × (c ≡ Same line i j)
IsQuestion names bound line verb.Count (name ∷ []) c = (k : ℕ) × NamesNode names bound name k × (c ≡ Count line k)
IsQuestion names bound line verb.Print (name ∷ []) c = (k : ℕ) × NamesNode names bound name k × (c ≡ Print line k name)
IsQuestion names bound line _ args c = ⊥

-- the nodes of a script, the origin of each node, and the node of each bound name, in order
pub record Sets : Type 0 where
  pub nodes : List Node
  pub origins : List Origin
  pub bound : List ℕ

-- the line adds node k, which is the next base
abbrev pub IsBind : List (List ℕ) → ℕ → ℕ → Verb → List (List ℕ) → Sets → ℕ → Command → Type 0
IsBind names bases line v args sets k c = (n : Node) × (slice_get sets.nodes k ≡ Some n) × IsNodeOfLine names sets.bound v args n × HasOrigin sets.origins k (origin bases 0) × (c ≡ Bind line k)

-- node k is the turned copy of the operand's node
abbrev pub IsTurn : List (List ℕ) → ℕ → List (List ℕ) → Sets → ℕ → Command → Type 0
IsTurn names line (name ∷ operand ∷ number ∷ []) sets k c = (from : ℕ) × (t : ℕ) × NamesNode names sets.bound operand from × (number_or_zero number ≡ pos t) × TurnOf sets.nodes t from k × IsCopyOf sets.origins t from k × (c ≡ Turn line k from t)
IsTurn names line args sets k c = ⊥

abbrev pub IsBinding : List (List ℕ) → ℕ → ℕ → Verb → List (List ℕ) → Sets → ℕ → Command → Type 0
IsBinding names bases line verb.Turn args sets k c = IsTurn names line args sets k c
IsBinding names bases line v args sets k c = IsBind names bases line v args sets k c

-- what a line means that has this number and comes after lines that bind these names and add this many bases; a line
-- that binds a name binds the next entry of the list
abbrev pub MeansCommand : List (List ℕ) → ℕ → ℕ → Verb → List (List ℕ) → Bool → Sets → Command → Type 0
MeansCommand names bases line v args true sets c = (k : ℕ) × (slice_get sets.bound (length names) ≡ Some k) × IsBinding names bases line v args sets k c
MeansCommand names bases line v args false sets c = IsQuestion names sets.bound line v args c

abbrev pub MeansWords : List (List ℕ) → ℕ → ℕ → List (List ℕ) → Sets → Command → Type 0
MeansWords names bases line [] sets c = ⊥
MeansWords names bases line (word ∷ args) sets c = (v : Verb) × (verb_of word ≡ Some v) × MeansCommand names bases line v args (binds v) sets c

-- the line has words
abbrev pub has_words : List ℕ → Bool
has_words line = not (nat_eq (length (words_of line)) 0)

-- the line binds its name to a node that it adds
abbrev pub adds_base : List ℕ → Bool
adds_base line = on_command (λ v args. is_own v) (words_of line)

abbrev pub bases_of : List (List ℕ) → ℕ
bases_of lines = length (filter adds_base lines)

-- the meaning of lines, in order: a command for each line with words, and a bound node for each line that binds a name
pub record MeansLines (lines : List (List ℕ)) (sets : Sets) (commands : List Command) : Type 0 where
  pub bound_count : length sets.bound ≡ length (names_of lines)
  pub command_count : length commands ≡ length (filter has_words lines)
  pub each : (n : ℕ) (line : List ℕ) → slice_get lines n ≡ Some line → has_words line ≡ true → (c : Command) × (slice_get commands (length (filter has_words (take n lines))) ≡ Some c) × MeansWords (names_of (take n lines)) (bases_of (take n lines)) (n + 1) (words_of line) sets c

-- the meaning of a script: its lines mean the commands; each node names earlier nodes, and is a base of the lines or a
-- turned copy of one; no two nodes have both base and turn in common
abbrev pub MeansScript : List ℕ → List Node → List Command → Type 0
MeansScript bytes nodes commands = (sets : Sets) × (sets.nodes ≡ nodes) × IsOrdered nodes × MeansLines (lines_of bytes) sets commands × AreOrigins sets.nodes sets.origins (bases_of (lines_of bytes))

-- the nodes of which the command speaks are among the first n, and a ray is within its limits
abbrev pub SpeaksOfFirst : ℕ → Command → Type 0
SpeaksOfFirst n (Bind line k) = k < n
SpeaksOfFirst n (Turn line k j t) = (k < n) × (j < n) × (t < 48)
SpeaksOfFirst n (Has line k p) = k < n
SpeaksOfFirst n (Joined line k p q) = k < n
SpeaksOfFirst n (Ray line k p d) = (k < n) × IsRayWithin p d
SpeaksOfFirst n (Same line i j) = (i < n) × (j < n)
SpeaksOfFirst n (Count line k) = k < n
SpeaksOfFirst n (Print line k name) = k < n
