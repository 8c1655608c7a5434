-- The ends of a way, and the values of a form at these ends.
use Rattle.std.specs.Prelude.{◌≡◌, ℕ, ◌^◌}
use Rattle.nef_space.specs.Vectors.{Vector, dot, blend, IsAtMost}
use Rattle.nef_geo.specs.Triples.{wide_vector}
use Rattle.nef_smap.specs.declared.meets.Values.{Values}
use Rattle.nef_smap.specs.declared.meets.SpherePath.{SpherePath}

abbrev pub start_at : SpherePath → ℕ → Vector
start_at w j = blend j (wide_vector w.start) 1 (wide_vector w.upward)

abbrev pub end_at : SpherePath → ℕ → Vector
end_at w k = blend k (wide_vector w.end) 1 (wide_vector w.beside)

-- all numbers of the way are at most 2^37 in size
pub record IsWidePath (w : SpherePath) : Type 0 where
  pub start : IsAtMost (2 ^ 37) (wide_vector w.start)
  pub upward : IsAtMost (2 ^ 37) (wide_vector w.upward)
  pub end : IsAtMost (2 ^ 37) (wide_vector w.end)
  pub beside : IsAtMost (2 ^ 37) (wide_vector w.beside)

-- v has the products of g with the way's vectors
pub record AreValues (w : SpherePath) (g : Vector) (v : Values) : Type 0 where
  pub start_factor : v.start.factor ≡ dot g (wide_vector w.start)
  pub start_rest : v.start.rest ≡ dot g (wide_vector w.upward)
  pub end_factor : v.end.factor ≡ dot g (wide_vector w.end)
  pub end_rest : v.end.rest ≡ dot g (wide_vector w.beside)
