-- The complexes that are given to an operation.
use Rattle.std.specs.Prelude.{Bool, true, false, List, []}
use Rattle.nef_complex.specs.declared.complex.Complex.{Complex}
use Rattle.nef_complex.specs.declared.complex.Vertex.{Vertex}
use Rattle.nef_result.specs.declared.given.Given.{Given}
use Rattle.nef_result.specs.declared.given.Given.TheVariants.{Lent, Own}

-- the complex, lent or not
abbrev pub given_of : Given → Complex
given_of (Lent c) = c.now
given_of (Own c) = c

-- the vertices whose maps may be moved, if those of the complex may be
abbrev pub moved_if : Bool → Complex → List Vertex
moved_if true c = c.vertices
moved_if false c = []

-- those of the complex that is given
abbrev pub moved_of : Given → List Vertex
moved_of (Lent c) = []
moved_of (Own c) = c.vertices
