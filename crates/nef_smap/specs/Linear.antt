-- Expressions that are linear in a large number.
use Rattle.std.specs.Prelude.{ℕ, suc, ◌^◌, ◌*◌, ◌≤◌, ℤ, pos, ◌+ℤ◌, ◌-ℤ◌, ◌*ℤ◌, nat_abs, cond}
use Rattle.std.specs.Ordering.{int_eq}
use Rattle.nef_smap.specs.declared.meets.Linear.{Linear}
use Rattle.nef_smap.specs.declared.meets.Values.{Values}

abbrev pub linear_at : Linear → ℕ → ℤ
linear_at l k = pos k *ℤ l.factor +ℤ pos 1 *ℤ l.rest

-- a, or b where a is zero
abbrev pub leading_of : ℤ → ℤ → ℤ
leading_of a b = cond (int_eq a (pos 0)) b a

-- each of the four numbers is at most n in size
pub record AreAtMost (n : ℕ) (v : Values) : Type 0 where
  pub start_factor : nat_abs v.start.factor ≤ n
  pub start_rest : nat_abs v.start.rest ≤ n
  pub end_factor : nat_abs v.end.factor ≤ n
  pub end_rest : nat_abs v.end.rest ≤ n

-- j is larger than all numbers of the program, and k even than all their products with j
pub record IsLarge (j k : ℕ) : Type 0 where
  pub first : 2 ^ 128 ≤ j
  pub second : suc j * 2 ^ 128 ≤ k

-- (n.a)(g.b) - (n.b)(g.a), from the values of the forms n and g at a and b
abbrev pub turn_value : Values → Values → ℕ → ℕ → ℤ
turn_value n g j k = linear_at n.start j *ℤ linear_at g.end k -ℤ linear_at n.end k *ℤ linear_at g.start j
