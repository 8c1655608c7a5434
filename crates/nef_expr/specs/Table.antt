-- The nodes of a script's own lines and the turned copies of these nodes: the base and the turn of each node.
use Rattle.std.specs.Prelude.{◌≡◌, ℕ, ◌+◌, ◌*◌, ◌^◌, ◌<◌, ◌≤◌, List, Some, length, slice_get}
use Rattle.std.specs.Ordering.{nat_cmp}
use Rattle.std.specs.BTreeMap.{BTreeMap, get}
use Rattle.nef_case.specs.Turns.{IsComposition}
use Rattle.nef_expr.specs.declared.nodes.Node.{Node}
use Rattle.nef_expr.specs.declared.table.Origin.{Origin}
use Rattle.nef_expr.specs.Nodes.{IsOrdered}
use Rattle.nef_expr.specs.Turns.{TurnOf}

-- how many bases there are at most
abbrev pub most_bases : ℕ
most_bases = 2 ^ 32

abbrev pub origin : ℕ → ℕ → Origin
origin base turn = record { base = base; turn = turn }

-- node n has this base and this turn
abbrev pub HasOrigin : List Origin → ℕ → Origin → Type 0
HasOrigin origins n o = slice_get origins n ≡ Some o

-- node n is the image of its base under its turn. Bases are counted from 0; the base's own node has the turn 0
pub record IsOfOrigin (nodes : List Node) (origins : List Origin) (bases n : ℕ) (o : Origin) : Type 0 where
  pub base_below : o.base < bases
  pub turn_below : o.turn < 48
  pub own : ℕ
  pub is_own : HasOrigin origins own (origin o.base 0)
  pub image : TurnOf nodes o.turn own n

-- each node is the image of its base under its turn, and no two nodes have both base and turn in common
pub record AreOrigins (nodes : List Node) (origins : List Origin) (bases : ℕ) : Type 0 where
  pub count : length origins ≡ length nodes
  pub each : (n : ℕ) (o : Origin) → HasOrigin origins n o → IsOfOrigin nodes origins bases n o
  pub once : (m n : ℕ) (o : Origin) → HasOrigin origins m o → HasOrigin origins n o → m ≡ n

-- what contracts see of the nodes and their origins
pub record NodeTable : Type 0 where
  pub nodes : List Node
  pub origins : List Origin
  pub bases : ℕ

abbrev pub table : List Node → List Origin → ℕ → NodeTable
table nodes origins bases = record { nodes = nodes; origins = origins; bases = bases }

-- node l has the base of node k, and the turn that is k's turn and then t
pub record IsCopyOf (origins : List Origin) (t k l : ℕ) : Type 0 where
  pub of : Origin
  pub copy : Origin
  pub of_is : HasOrigin origins k of
  pub copy_is : HasOrigin origins l copy
  pub same_base : copy.base ≡ of.base
  pub composed : IsComposition copy.turn t of.turn

-- ---- the map that finds a node by its base and its turn
abbrev pub key_of : Origin → ℕ
key_of o = 48 * o.base + o.turn

pub record AreOriginsNumbered (origins : List Origin) (places : BTreeMap ℕ ℕ) : Type 0 where
  pub kept : (n : ℕ) (o : Origin) → HasOrigin origins n o → get nat_cmp places (key_of o) ≡ Some n
  pub only : (n : ℕ) (o : Origin) → o.turn < 48 → get nat_cmp places (key_of o) ≡ Some n → HasOrigin origins n o

-- the map finds the nodes, each of which names earlier nodes and is the image of its base
pub record IsTable (nodes : List Node) (origins : List Origin) (bases : ℕ) (places : BTreeMap ℕ ℕ) : Type 0 where
  pub few_bases : bases ≤ most_bases
  pub ordered : IsOrdered nodes
  pub are_origins : AreOrigins nodes origins bases
  pub have_places : AreOriginsNumbered origins places
