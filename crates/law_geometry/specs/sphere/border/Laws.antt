-- What is proved of topology on maps: each law is one statement that a function's contract cites.
use Rattle.std.specs.Prelude.{◌≡◌, ◌++◌, ◌&&◌, ◌||◌}
use Rattle.nef_space.specs.Prelude.{List, SpacePoint, Vector, IsDirection, Set}
use Rattle.nef_space.specs.declared.label.Label.{Label}
use Rattle.law_geometry.specs.sphere.Prelude.{Map, Valid, forms, Least, Ordered, Cone}
use Rattle.law_geometry.specs.sphere.Raw.{RawMap, IsLabelling, IsRawOf}
use Rattle.law_geometry.specs.sphere.border.Topology.{Topology, complement, set_by, TopologyLabel, MarkLabel, IsTopologyMap}
use Rattle.law_geometry.specs.sphere.border.Marks.{all_in, some_in, label_from, map_labels, IsTopologyRaw, exchanged_map}

-- a topological operation on a valid map gives the directions the labels of a labelling
abbrev pub TopologyLabelling : Type 0
TopologyLabelling = (k : Topology) (M : Map) → Valid M → (L : Vector → Label) × IsLabelling (forms M) L × ((d : Vector) → IsDirection d → TopologyLabel k M d (L d))

-- a topological operation on a valid map gives each direction one label only
abbrev pub TopologyOneLabel : Type 0
TopologyOneLabel = (k : Topology) (M : Map) (d : Vector) (l m : Label) → Valid M → TopologyLabel k M d l → TopologyLabel k M d m → l ≡ m

-- all labels of two appended lists are In where all of both lists are, and some are In where some of one list are
abbrev pub ListsAppended : Type 0
ListsAppended = (ks ls : List Label) → (all_in (ks ++ ls) ≡ (all_in ks && all_in ls)) × (some_in (ks ++ ls) ≡ (some_in ks || some_in ls))

-- the remarked stars of a map show the operation's labels
abbrev pub TopologyStars : Type 0
TopologyStars = (k : Topology) (M : Map) (R : RawMap) → Valid M → Ordered M → IsTopologyRaw k M R
    → (L : Vector → Label) × IsLabelling (forms M) L × IsRawOf R L × ((d : Vector) → IsDirection d → TopologyLabel k M d (L d))

-- the label that the operation makes of the map's mark and of all listed labels is the operation's mark
abbrev pub TopologyMark : Type 0
TopologyMark = (k : Topology) (M : Map) → Valid M → MarkLabel k M (label_from k M.mark (map_labels M))

-- where M shows s at p, a valid map with the operation's labels and mark on M shows the operation's set on s at p
abbrev pub TopologyCone : Type 0
TopologyCone = (k : Topology) (M N : Map) (s : Set) (p : SpacePoint) → Cone M s p → Valid N → IsTopologyMap k M N → Cone N (set_by k s) p

-- a map that shows the closure of the interior of a set shows the regularisation of this set
abbrev pub RegularCone : Type 0
RegularCone = (M : Map) (s : Set) (p : SpacePoint) → Cone M (Set.closed (Set.inside s)) p → Cone M (Set.regular s) p

-- a valid map with In and Not exchanged is valid, keeps order and leastness, and shows the complement
abbrev pub ExchangedMap : Type 0
ExchangedMap = (M : Map) → Valid M → Valid (exchanged_map M) × (Ordered M → Ordered (exchanged_map M)) × (Least M → Least (exchanged_map M)) × IsTopologyMap complement M (exchanged_map M)
