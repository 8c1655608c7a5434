-- Rows of operations that are worked as trees, and what is known of a plan while it's made.
use Rattle.std.specs.Prelude.{◌≡◌, ◌⊎◌, ℕ, All, ◌<◌, ◌≤◌, List, [], ◌∷◌, ◌++◌, Some, length, slice_get}
use Rattle.nef_space.specs.Sets.{Set}
use Rattle.nef_expr.specs.declared.nodes.Node.{Node}
use Rattle.nef_expr.specs.Nodes.{node_set}
use Rattle.nef_script.specs.declared.script.Command.{Command}
use Rattle.nef_plan.specs.declared.planner.Drafts.{Drafts}
use Rattle.nef_plan.specs.declared.planner.Draft.{Draft}
use Rattle.nef_plan.specs.declared.row.TheConstants.{MOST_PARTS}
use Rattle.nef_plan.specs.declared.row.RowKind.{RowKind}
use Rattle.nef_plan.specs.declared.row.RowKind.TheVariants.{Union, Exclusive, Difference}
use Rattle.nef_plan.specs.declared.row.Row.{Row}
use Rattle.nef_plan.specs.declared.row.Bound.{Bound}
use Rattle.nef_plan.specs.declared.row.Bound.TheVariants.{No, Made, Deferred}
use Rattle.nef_plan.specs.Alike.{AreAlike}
use Rattle.nef_plan.specs.Drafts.{AreDrafts, HasMore, IsMade, IsOfOthers, Makes, asked}

-- both are of one kind, whatever they are differences from
abbrev pub AreOfOneKind : RowKind → RowKind → Type 0
AreOfOneKind Union Union = Unit {0}
AreOfOneKind Exclusive Exclusive = Unit {0}
AreOfOneKind (Difference i) (Difference j) = Unit {0}
AreOfOneKind _ _ = ⊥

-- the set that an operation of the kind makes of two
abbrev pub combined : RowKind → Set → Set → Set
combined Union s t = Set.either s t
combined Exclusive s t = Set.one_of s t
combined (Difference from) s t = Set.less s t

-- the set that stands for two parts of a row of the kind
abbrev pub joined : RowKind → Set → Set → Set
joined Union s t = Set.either s t
joined Exclusive s t = Set.one_of s t
joined (Difference from) s t = Set.either s t

-- how many parts beside the last the operation that ends a row of the kind takes
abbrev pub spare : RowKind → ℕ
spare Union = 1
spare Exclusive = 1
spare (Difference from) = 0

-- the set of the row whose parts are joined to this one
abbrev pub row_ended : List Node → RowKind → Set → Set
row_ended nodes Union s = s
row_ended nodes Exclusive s = s
row_ended nodes (Difference from) s = Set.less (node_set nodes from) s

-- the parts joined one after the other, behind the set s
abbrev pub joined_after : List Node → RowKind → Set → List ℕ → Set
joined_after nodes kind s [] = s
joined_after nodes kind s (p ∷ ps) = joined_after nodes kind (joined kind s (node_set nodes p)) ps

abbrev pub row_set : List Node → RowKind → List ℕ → Set
row_set nodes kind parts = row_ended nodes kind (joined_after nodes kind Set.empty parts)

-- the node is there, and a step makes its set
pub record IsNodeReady (plan : Drafts) (k : ℕ) : Type 0 where
  pub within : k < length plan.nodes
  pub made : IsMade plan.steps.items k

-- the node is there, and no step makes its set
pub record IsFree (plan : Drafts) (k : ℕ) : Type 0 where
  pub within : k < length plan.nodes
  pub unmade : IsMade plan.steps.items k → ⊥

-- a row of the kind that begins with node k has it as the node that it's a difference from, if it's one
abbrev pub BeginsWith : RowKind → ℕ → Type 0
BeginsWith Union k = Unit {0}
BeginsWith Exclusive k = Unit {0}
BeginsWith (Difference from) k = k ≡ from

-- the nodes of a row with these parts are ready
pub record PartsAreReady (plan : Drafts) (kind : RowKind) (parts : List ℕ) : Type 0 where
  pub from : (k : ℕ) → kind ≡ Difference k → IsNodeReady plan k
  pub each : (i : ℕ) (p : ℕ) → slice_get parts i ≡ Some p → IsNodeReady plan p

-- the row with these parts makes the set of node k, of sets that are ready
pub record RowMakesSet (plan : Drafts) (kind : RowKind) (parts : List ℕ) (k : ℕ) : Type 0 where
  pub within : k < length plan.nodes
  pub ready : PartsAreReady plan kind parts
  pub set : AreAlike (row_set plan.nodes kind parts) (node_set plan.nodes k)

abbrev pub row_parts : Row → List ℕ
row_parts row = row.others.items ++ row.last ∷ []

abbrev pub IsRowOf : Drafts → Row → ℕ → Type 0
IsRowOf plan row k = RowMakesSet plan row.kind (row_parts row) k

-- what is told of node k; a row that is put off has few parts
abbrev pub Tells : Drafts → ℕ → Bound → Type 0
Tells plan k No = IsFree plan k
Tells plan k Made = IsNodeReady plan k
Tells plan k (Deferred row) = IsFree plan k × IsRowOf plan row k × (length row.others.items ≤ MOST_PARTS)

-- the steps are right, and so is what is told of each node
pub record ArePlanned (plan : Drafts) (bounds : List Bound) : Type 0 where
  pub steps : AreDrafts plan.nodes plan.steps.items
  pub told : (k : ℕ) (b : Bound) → slice_get bounds k ≡ Some b → Tells plan k b

-- a name is bound to the node of which this is known
abbrev pub IsNodeKnown : Bound → Type 0
IsNodeKnown No = ⊥
IsNodeKnown Made = Unit {0}
IsNodeKnown (Deferred row) = Unit {0}

-- node k is bound
abbrev pub IsBoundIn : List Bound → ℕ → Type 0
IsBoundIn bounds k = (b : Bound) × (slice_get bounds k ≡ Some b) × IsNodeKnown b

-- the later plan has nodes and steps more, which are right, and of which these are questions
pub record HasGrown (old new : Drafts) (questions : List Command) : Type 0 where
  pub nodes : HasMore old.nodes new.nodes
  pub steps : AreDrafts new.nodes new.steps.items
  pub made : (k : ℕ) → IsMade old.steps.items k → IsMade new.steps.items k
  pub asked : asked new.steps.items ≡ asked old.steps.items ++ questions

-- the step makes nodes that are named, or nodes that aren't among the first n, of others
abbrev pub MakesOnly : ℕ → (ℕ → Type 0) → Draft → Type 0
MakesOnly n named s = (k : ℕ) → Makes s k → named k ⊎ IsOfOthers n s k

-- the later plan has steps more behind those of the earlier one, which make nodes that are named, or new nodes of others
pub record AddsOnly (old new : Drafts) (named : ℕ → Type 0) : Type 0 where
  pub added : List Draft
  pub steps : new.steps.items ≡ old.steps.items ++ added
  pub each : All (MakesOnly (length old.nodes) named) added

-- and what was bound is bound, what is told of each node is right, and the nodes that were made are bound, or new
pub record GoesOn (old : Drafts) (bounds : List Bound) (new : Drafts) (later : List Bound) (questions : List Command) : Type 0 where
  pub grown : HasGrown old new questions
  pub still : (k : ℕ) → IsBoundIn bounds k → IsBoundIn later k
  pub planned : ArePlanned new later
  pub added : AddsOnly old new (IsBoundIn later)
