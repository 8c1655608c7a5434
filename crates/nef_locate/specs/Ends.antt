-- The arcs at a svertex, and the last one before the upward direction.
use Rattle.std.specs.Prelude.{◌≡◌, ℕ, ◌<◌, pos, ◌<ℤ◌, Bool, cond, Option, Some, None}
use Rattle.nef_space.specs.Vectors.{Vector, triple}
use Rattle.nef_space.specs.Lists.{IsAt}
use Rattle.law_geometry.specs.sphere.Maps.{Arc, Map}

-- the svertex where the arc begins, or else ends
abbrev pub end_of : Arc → Bool → ℕ
end_of a begins = cond begins a.source a.target

-- arc k begins (or ends) at svertex s, and none of the first n such arcs lies counterclockwise of it, seen along w
pub record IsLastArc (M : Map) (w : Vector) (s : ℕ) (begins : Bool) (n k : ℕ) : Type 0 where
  pub arc : Arc
  pub listed : IsAt M.arcs k arc
  pub end : end_of arc begins ≡ s
  pub last : (j : ℕ) (b : Arc) → j < n → IsAt M.arcs j b → end_of b begins ≡ s → pos 0 <ℤ triple w arc.normal b.normal → ⊥

-- none of the first n arcs begins (or ends) at svertex s
abbrev pub IsNoArc : Map → ℕ → Bool → ℕ → Type 0
IsNoArc M s begins n = (j : ℕ) (b : Arc) → j < n → IsAt M.arcs j b → end_of b begins ≡ s → ⊥

abbrev pub IsLast : Map → Vector → ℕ → Bool → ℕ → Option ℕ → Type 0
IsLast M w s begins n None = IsNoArc M s begins n
IsLast M w s begins n (Some k) = IsLastArc M w s begins n k
