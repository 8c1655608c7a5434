use Rattle.nef_geo.proofs.Prelude.{rules, ℕ, zero, suc, ◌<◌, ℤ, pos, [], w64, to_z, of_z, refl, arith, lit≤, Form, form, form_numbers, normal_of, IsNormal, IsLowest, IsInRange}
use native.Mathlib.Nat.{dvd-one}
use Rattle.std.specs.Prelude.{map, get_or}
use Rattle.nef_space.specs.Lists.{IsAt}
use Rattle.nef_geo.specs.Reading.{side_forms}
use Rattle.nef_geo.proofs.plane.Plane.frame.Goals as goal

-- number i of the frame's plane k, passed through the machine's type
abbrev entry : ℕ → ℕ → ℤ
entry k i = to_z w64 (of_z w64 (get_or (get_or (map form_numbers side_forms) k []) i (pos 0)))

abbrev side : ℕ → Form
side k = form (entry k 0) (entry k 1) (entry k 2) (entry k 3)

record IsSide (k : ℕ) : Type 0 where
  in_range : IsInRange (side k)
  lowest : IsLowest (form_numbers (side k))
  normal : IsNormal (normal_of (side k))
  frame : IsAt side_forms k (side k)

is_side : (k : ℕ) → k < 6 → IsSide k
is_side zero h = record { in_range = record { a_small = lit≤ tt; b_small = lit≤ tt; c_small = lit≤ tt; d_small = lit≤ tt }; lowest = λ m d. (dvd-one).0 d.0; normal = search rules; frame = refl }
is_side (suc zero) h = record { in_range = record { a_small = lit≤ tt; b_small = lit≤ tt; c_small = lit≤ tt; d_small = lit≤ tt }; lowest = λ m d. (dvd-one).0 d.0; normal = search rules; frame = refl }
is_side (suc (suc zero)) h = record { in_range = record { a_small = lit≤ tt; b_small = lit≤ tt; c_small = lit≤ tt; d_small = lit≤ tt }; lowest = λ m d. (dvd-one).0 d.1.0; normal = search rules; frame = refl }
is_side (suc (suc (suc zero))) h = record { in_range = record { a_small = lit≤ tt; b_small = lit≤ tt; c_small = lit≤ tt; d_small = lit≤ tt }; lowest = λ m d. (dvd-one).0 d.1.0; normal = search rules; frame = refl }
is_side (suc (suc (suc (suc zero)))) h = record { in_range = record { a_small = lit≤ tt; b_small = lit≤ tt; c_small = lit≤ tt; d_small = lit≤ tt }; lowest = λ m d. (dvd-one).0 d.1.1.0; normal = search rules; frame = refl }
is_side (suc (suc (suc (suc (suc zero))))) h = record { in_range = record { a_small = lit≤ tt; b_small = lit≤ tt; c_small = lit≤ tt; d_small = lit≤ tt }; lowest = λ m d. (dvd-one).0 d.1.1.0; normal = search rules; frame = refl }
is_side (suc (suc (suc (suc (suc (suc k)))))) h = absurd (omega (arith, h))

pub invariant_of-result : goal.invariant_of-result
invariant_of-result c =
    let s = is_side c.args.k c.requires.side in let r = s.in_range in
    record { a_small = r.a_small; b_small = r.b_small; c_small = r.c_small; d_small = r.d_small; lowest = s.lowest; normal = s.normal }

pub returns : goal.returns
returns c = record { frame = (is_side c.args.k c.requires.side).frame }
