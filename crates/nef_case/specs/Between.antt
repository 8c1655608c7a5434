-- Whether a direction d is strictly passed on the way counterclockwise about n from a source s to a target t, all three
-- perpendicular to n, by the signs of n.(s x t), s.t, n.(s x d), s.d and n.(d x t).
use Rattle.std.specs.Prelude.{ℕ, zero, suc, ℤ, pos, negsuc, List, Bool, true, false, if◌then◌else◌, nat_lt, ◌==◌, ◌&&◌, ◌||◌, Option, Some, None}
use Rattle.nef_case.specs.Keys.{key_number}

-- the class of d, by the signs of n.(s x d) and s.d: how many eighths of a turn d is ahead of s, where an odd class has
-- all directions strictly between two even ones
abbrev pub class_of : ℤ → ℤ → Option ℕ
class_of (pos zero) (pos zero) = None
class_of (pos zero) (pos (suc n)) = Some 0
class_of (pos (suc m)) (pos (suc n)) = Some 1
class_of (pos (suc m)) (pos zero) = Some 2
class_of (pos (suc m)) (negsuc n) = Some 3
class_of (pos zero) (negsuc n) = Some 4
class_of (negsuc m) (negsuc n) = Some 5
class_of (negsuc m) (pos zero) = Some 6
class_of (negsuc m) (pos (suc n)) = Some 7

abbrev pub is_positive : ℤ → Bool
is_positive (pos zero) = false
is_positive (pos (suc n)) = true
is_positive (negsuc n) = false

abbrev pub is_odd_key : ℕ → Bool
is_odd_key p = p == 1 || p == 3 || p == 5 || p == 7

-- the class of the target, where a target in the source's direction is a whole turn ahead
abbrev pub whole_turn : ℕ → ℕ
whole_turn q = if q == 0 then 8 else q

-- d of class p is passed before a target of class q; within one class, which then is odd, where t is ahead of d
abbrev pub passes : ℕ → ℕ → ℤ → Bool
passes q p last = (nat_lt 0 p && nat_lt p q) || (p == q && is_odd_key p && is_positive last)

abbrev pub passes_classes : Option ℕ → Option ℕ → ℤ → Bool
passes_classes None p last = false
passes_classes (Some q) None last = false
passes_classes (Some q) (Some p) last = passes (whole_turn q) p last

abbrev pub between_signs : ℤ → ℤ → ℤ → ℤ → ℤ → Bool
between_signs st_turn st_along sd_turn sd_along dt_turn = passes_classes (class_of st_turn st_along) (class_of sd_turn sd_along) dt_turn

-- whether the direction is passed, by a key of the five signs
abbrev pub between_of : List ℤ → Bool
between_of key = between_signs (key_number key 0) (key_number key 1) (key_number key 2) (key_number key 3) (key_number key 4)
