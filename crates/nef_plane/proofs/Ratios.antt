-- The products of two fractions' numbers crosswise, as the machine works them.
use Rattle.nef_plane.proofs.Prelude.{ℕ, ℤ, ◌≤◌, nat_abs, List, [], ◌∷◌, w64, point_limit, weight_limit, Code, load, wrap, ◌⊠◌, Limited, upright_limit, upright_weight_limit}
use mir.Syntax.{w128}

-- the bounds of x, w, y, v
abbrev pub sizes : List ℕ
sizes = point_limit ∷ weight_limit ∷ upright_limit ∷ upright_weight_limit ∷ []

abbrev pub first : Code
first = wrap w128 (wrap w64 (load 0)) ⊠ wrap w128 (load 3)

abbrev pub second : Code
second = wrap w128 (load 2) ⊠ wrap w128 (wrap w64 (load 1))

pub limits : (x w y v : ℤ) → nat_abs x ≤ point_limit → nat_abs w ≤ weight_limit → nat_abs y ≤ upright_limit → nat_abs v ≤ upright_weight_limit → Limited sizes (x ∷ w ∷ y ∷ v ∷ [])
limits x w y v a b e f = (a, (b, (e, (f, tt))))
