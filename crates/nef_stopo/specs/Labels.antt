-- The program's operations of topology as those of the theory, and what is known of a list of labels.
use Rattle.nef_geo.specs.Prelude.{List, Label}
use Rattle.law_geometry.specs.sphere.border.Topology.{Topology as SetTopology, interior, closure, boundary, complement}
use Rattle.law_geometry.specs.sphere.border.Marks.{all_in, some_in}
use Rattle.nef_stopo.specs.declared.topology.Topology.{Topology}
use Rattle.nef_stopo.specs.declared.topology.Topology.TheVariants.{Interior, Closure, Boundary, Complement}
use Rattle.nef_stopo.specs.declared.topology.Nearby.{Nearby}

abbrev pub topology_of : Topology → SetTopology
topology_of Interior = interior
topology_of Closure = closure
topology_of Boundary = boundary
topology_of Complement = complement

-- whether all and whether some of the labels are In
abbrev pub nearby_of : List Label → Nearby
nearby_of ls = record { all = all_in ls; some = some_in ls }
