-- The names that are bound, and the map that finds the number of a name.
use Rattle.std.specs.Prelude.{◌≡◌}
use Rattle.nef_geo.specs.Prelude.{ℕ, List, map, position, bytes_eq}
use Rattle.std.specs.Ordering.{nat_cmp}
use Rattle.std.specs.Cmp.Lexicographic.{slice_cmp}
use Rattle.std.specs.BTreeMap.{BTreeMap, get_by}
use denote.Ref.{Bor}

-- the lists of bytes to which slices point
abbrev pub pointed : List (Bor (List ℕ)) → List (List ℕ)
pointed words = map (λ w. w.now) words

-- the map has the number of each name, and no other names
abbrev pub HasNumbers : BTreeMap (Bor (List ℕ)) ℕ → List (List ℕ) → Type 0
HasNumbers places names = (name : List ℕ) → get_by (λ k. slice_cmp nat_cmp name k.now) places ≡ position (bytes_eq name) names
