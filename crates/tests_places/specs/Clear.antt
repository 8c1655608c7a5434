-- Vertices from which no edge leads along a direction.
use Rattle.std.specs.Prelude.{◌≡◌}
use Rattle.nef_complex.specs.Prelude.{ℕ, SpacePoint, IsAt, IsVertexPoint, complex_of}
use Rattle.nef_geo.specs.declared.dir.Dir.{Dir}
use Rattle.nef_smap.specs.declared.map.SVertex.{SVertex}
use Rattle.nef_complex.specs.declared.complex.Vertex.{Vertex}
use Rattle.nef_complex.specs.declared.complex.Complex.{Complex}

-- vertex k doesn't lie at p, or no svertex of this vertex has the direction d
abbrev pub IsClearVertex : Complex → SpacePoint → Dir → ℕ → Type 0
IsClearVertex c p d k = (v : Vertex) → IsAt c.vertices k v → IsVertexPoint (complex_of c) k p → (j : ℕ) (u : SVertex) → IsAt v.map.svertices j u → u.dir ≡ d → ⊥
