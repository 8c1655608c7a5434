-- How close to a point a form keeps its sign, and how far along a ray.
use Rattle.std.specs.Prelude.{◌+◌, ◌*◌, ◌∷◌}
use Rattle.nef_space.specs.Prelude.{ℕ, pos, nat_abs, List, [], Vector, SpacePoint, Form, slope, Ratio}
use Rattle.std.proofs.Math.Nat.{mul-pos}

-- a number n such that the form keeps its sign within 1/n of p
abbrev pub reach : Form → SpacePoint → ℕ
reach h p = (nat_abs h.a + nat_abs h.b + nat_abs h.c) * p.w + 1

-- a number n such that all forms of the list keep their signs within 1/n of p
abbrev pub reach_all : List Form → SpacePoint → ℕ
reach_all [] p = 1
reach_all (h ∷ hs) p = reach h p + reach_all hs p

-- a number n such that the form keeps its sign at p + t d for t below 1/n
abbrev pub span : Form → SpacePoint → Vector → ℕ
span h p d = p.w * nat_abs (slope h d) + 1

-- 1 over both weights: the step that leads from p to q along their difference
abbrev pub unit_ratio : SpacePoint → SpacePoint → Ratio
unit_ratio p q = record { a = pos 1; b = p.w * q.w; proper = mul-pos p.proper q.proper }
