-- The numbers of sides.
use Rattle.nef_smap.specs.Prelude.{ℕ, IsAt, IsSide}
use Rattle.nef_space.specs.declared.label.Label.{Label}
use Rattle.law_geometry.specs.complex.Prelude.{Vertex, Complex, VertexSide}

-- side x of a vertex has the number j among the vertex's sides
pub record IsSideNumber (C : Complex) (x : VertexSide) (j : ℕ) : Type 0 where
  pub vertex : Vertex
  pub is_vertex : IsAt C.vertices x.vertex vertex
  pub label : Label
  pub is_side : IsSide vertex.map j x.side label
