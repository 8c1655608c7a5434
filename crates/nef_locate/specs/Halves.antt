-- The half great circles at the points of an edge.
use Rattle.std.specs.Prelude.{◌≡◌, ◌<◌, ◌+◌, ◌*◌, ◌∷◌, ℕ, zero, suc, List, []}
use Rattle.nef_complex.specs.Prelude.{opposite, IsAt, MapVertex}
use Rattle.nef_smap.specs.declared.map.SArc.{SArc}
use Rattle.nef_spair.specs.Arcs.{AreApart}

-- the svertices at the points of an edge that leaves a vertex at svertex u
abbrev pub two_ends : MapVertex → List MapVertex
two_ends u = record { dir = opposite u.dir; mark = u.mark; around = u.around } ∷ u ∷ []

-- h leads from svertex `source` of the two to the other one, on the circle of the arc a and with its labels
pub record IsHalf (a : SArc) (source : ℕ) (h : SArc) : Type 0 where
  pub normal : h.normal ≡ a.normal
  pub source_is : h.source ≡ source
  pub target : h.target + source ≡ 1
  pub mark : h.mark ≡ a.mark
  pub pos : h.pos ≡ a.pos
  pub neg : h.neg ≡ a.neg

-- arc a ends at svertex k (for the half circle from svertex 0) or begins there (for that from svertex 1)
abbrev pub IsHalfEndAt : ℕ → SArc → ℕ → Type 0
IsHalfEndAt k a zero = a.target ≡ k
IsHalfEndAt k a (suc source) = a.source ≡ k

-- of two half circles for each arc, that of arc j from svertex `source` is one of the first n
abbrev pub IsHalfBefore : ℕ → ℕ → ℕ → Type 0
IsHalfBefore j source n = (source < 2) × (2 * j + source < n)

-- hs has the half circles of the arcs at svertex k, with the first n of two for each arc looked at
pub record AreHalves (as' : List SArc) (k n : ℕ) (hs : List SArc) : Type 0 where
  pub each : (i : ℕ) (h : SArc) → IsAt hs i h → (j : ℕ) × (source : ℕ) × (a : SArc) × IsHalfBefore j source n × IsAt as' j a × IsHalfEndAt k a source × IsHalf a source h
  pub all : (j source : ℕ) (a : SArc) → IsHalfBefore j source n → IsAt as' j a → IsHalfEndAt k a source → (i : ℕ) × (h : SArc) × IsAt hs i h × IsHalf a source h
  pub apart : AreApart hs
