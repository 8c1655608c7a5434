-- Triples of machine integers as vectors.
use Rattle.nef_space.specs.Prelude.{ℤ, Vector, vector}
use Rattle.nef_geo.specs.declared.sign.Wide.{Wide}

abbrev pub triple_vector : (ℤ × ℤ × ℤ) → Vector
triple_vector t = vector t.0 t.1 t.2

abbrev pub wide_vector : Wide → Vector
wide_vector t = vector t.x t.y t.z
