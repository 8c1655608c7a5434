use Rattle.nef_smap.proofs.Prelude.{rules, ◌≡◌, ℕ, ◌*◌, ◌^◌, ◌≤◌, ℤ, nat_abs, FitsSigned, lit≤, to_z, of_z, arith, sym, ◌∙◌, subst, to_z-of_z, Vector, dot, IsAtMost, dot_size, IsAtMost-weaken, wide_vector}
use mir.Syntax.{w128}
use Rattle.nef_smap.proofs.meets.form_values.Goals as goal

size : (m : ℕ) (g v : Vector) (r : ℤ) → IsAtMost m g → IsAtMost (2 ^ 37) v → FitsSigned w128 r → r ≡ dot g v → nat_abs (to_z w128 (of_z w128 r)) ≤ m * 2 ^ 39
size m g v r h k f e =
    let s = dot_size m (2 ^ 37) g v h k in
    subst (λ (x : ℤ). nat_abs x ≤ m * 2 ^ 39) (sym (to_z-of_z w128 r f ∙ e)) (omega arith)

pub dot_wide-requires : goal.dot_wide-requires
dot_wide-requires c = record {
  left = IsAtMost-weaken (2 ^ 35) (2 ^ 75) (wide_vector c.args.g.now) (lit≤ tt) c.requires.form;
  right = IsAtMost-weaken (2 ^ 37) (2 ^ 47) (wide_vector c.args.way.now.start) (lit≤ tt) c.requires.way.start;
}

pub dot_wide-requires-2 : goal.dot_wide-requires-2
dot_wide-requires-2 c = record {
  left = IsAtMost-weaken (2 ^ 35) (2 ^ 75) (wide_vector c.args.g.now) (lit≤ tt) c.requires.form;
  right = IsAtMost-weaken (2 ^ 37) (2 ^ 47) (wide_vector c.args.way.now.upward) (lit≤ tt) c.requires.way.upward;
}

pub dot_wide-requires-3 : goal.dot_wide-requires-3
dot_wide-requires-3 c = record {
  left = IsAtMost-weaken (2 ^ 35) (2 ^ 75) (wide_vector c.args.g.now) (lit≤ tt) c.requires.form;
  right = IsAtMost-weaken (2 ^ 37) (2 ^ 47) (wide_vector c.args.way.now.end) (lit≤ tt) c.requires.way.end;
}

pub dot_wide-requires-4 : goal.dot_wide-requires-4
dot_wide-requires-4 c = record {
  left = IsAtMost-weaken (2 ^ 35) (2 ^ 75) (wide_vector c.args.g.now) (lit≤ tt) c.requires.form;
  right = IsAtMost-weaken (2 ^ 37) (2 ^ 47) (wide_vector c.args.way.now.beside) (lit≤ tt) c.requires.way.beside;
}

pub returns-clause-small : goal.returns-clause-small
returns-clause-small c m h =
    let g = wide_vector c.args.g.now in
    let w = c.args.way.now in
    record {
      start_factor = size m g (wide_vector w.start) c.dot_wide.result h c.requires.way.start (search rules) c.dot_wide.ensures.dot;
      start_rest = size m g (wide_vector w.upward) c.dot_wide-2.result h c.requires.way.upward (search rules) c.dot_wide-2.ensures.dot;
      end_factor = size m g (wide_vector w.end) c.dot_wide-3.result h c.requires.way.end (search rules) c.dot_wide-3.ensures.dot;
      end_rest = size m g (wide_vector w.beside) c.dot_wide-4.result h c.requires.way.beside (search rules) c.dot_wide-4.ensures.dot;
    }
