use Rattle.nef_script.proofs.Prelude.{◌∙◌, ℕ, ◌≤◌, List, [], ℤ, pos, ◌<ℤ◌, nat_abs, refl, sym, ap, subst, arith, point_limit, weight_limit, IsRead, both}
use Rattle.nef_script.proofs.Firsts.{IsRead-four, IsRead-made, IsRead-returned}
use Rattle.nef_script.proofs.Rays.{start_small}
use Rattle.nef_script.proofs.Values.{quotient, passed}
use Rattle.nef_script.proofs.arguments.point.Goals as goal

pub returns-in_err-x : goal.returns-in_err-x
returns-in_err-x c =
    let all = c.both-numbers.ensures.both ∙ ap (both c.coefficient.result) (c.both-2.ensures.both ∙ ap (both c.coefficient-2.result) c.both.ensures.both) in
    let read = λ (names : List (List ℕ)). subst (IsRead _ _) (sym all) (IsRead-four names _ _ _ _ _ _ _ _ _ _ _ _ c.coefficient.result c.coefficient-2.result c.coefficient-3.result c.weight.result (c.coefficient.ensures.read names) (c.coefficient-2.ensures.read names) (c.coefficient-3.ensures.read names) (c.weight.ensures.read names)) in
    record { read = λ names. IsRead-returned _ _ _ _ c.both-numbers.result (read names) (λ k. refl) _ c.from_residual.result c.in_err-x.was c.from_residual.ensures.1 }

pub of-requires : goal.of-requires
of-requires c =
    let all = c.both-numbers.ensures.both ∙ ap (both c.coefficient.result) (c.both-2.ensures.both ∙ ap (both c.coefficient-2.result) c.both.ensures.both) in
    let read = λ (names : List (List ℕ)). subst (IsRead _ _) (sym all) (IsRead-four names _ _ _ _ _ _ _ _ _ _ _ _ c.coefficient.result c.coefficient-2.result c.coefficient-3.result c.weight.result (c.coefficient.ensures.read names) (c.coefficient-2.ensures.read names) (c.coefficient-3.ensures.read names) (c.weight.ensures.read names)) in
    let h = (subst (IsRead _ _) c.in_ok-x.was (read [])).value in
    let place = c.requires.place in let weight = c.requires.weight in
    let is_x = passed c.in_ok-x.x c.args.limits.0 h.0.1 (omega (arith, place)) in
    let is_y = passed c.in_ok-x.y c.args.limits.0 h.1.0.1 (omega (arith, place)) in
    let is_z = passed c.in_ok-x.z c.args.limits.0 h.1.1.0.1 (omega (arith, place)) in
    let is_w = passed c.in_ok-x.w c.args.limits.1 h.1.1.1.2 (omega (arith, weight)) in
    record {
      x_small = subst (λ (n : ℤ). nat_abs n ≤ point_limit) (sym is_x) (let s = h.0.1 in omega (arith, s, place));
      y_small = subst (λ (n : ℤ). nat_abs n ≤ point_limit) (sym is_y) (let s = h.1.0.1 in omega (arith, s, place));
      z_small = subst (λ (n : ℤ). nat_abs n ≤ point_limit) (sym is_z) (let s = h.1.1.0.1 in omega (arith, s, place));
      w_small = subst (λ (n : ℤ). nat_abs n ≤ weight_limit) (sym is_w) (let s = h.1.1.1.2 in omega (arith, s, weight));
      positive = subst (λ (n : ℤ). pos 0 <ℤ n) (sym is_w) h.1.1.1.1;
    }

pub returns : goal.returns
returns c =
    let all = c.both-numbers.ensures.both ∙ ap (both c.coefficient.result) (c.both-2.ensures.both ∙ ap (both c.coefficient-2.result) c.both.ensures.both) in
    let read = λ (names : List (List ℕ)). subst (IsRead _ _) (sym all) (IsRead-four names _ _ _ _ _ _ _ _ _ _ _ _ c.coefficient.result c.coefficient-2.result c.coefficient-3.result c.weight.result (c.coefficient.ensures.read names) (c.coefficient-2.ensures.read names) (c.coefficient-3.ensures.read names) (c.weight.ensures.read names)) in
    let h = (subst (IsRead _ _) c.in_ok-x.was (read [])).value in
    let place = c.requires.place in let weight = c.requires.weight in
    let is_x = passed c.in_ok-x.x c.args.limits.0 h.0.1 (omega (arith, place)) in
    let is_y = passed c.in_ok-x.y c.args.limits.0 h.1.0.1 (omega (arith, place)) in
    let is_z = passed c.in_ok-x.z c.args.limits.0 h.1.1.0.1 (omega (arith, place)) in
    let is_w = passed c.in_ok-x.w c.args.limits.1 h.1.1.1.2 (omega (arith, weight)) in
    let positive = subst (λ (v : ℤ). pos 0 <ℤ v) h.1.1.1.0 h.1.1.1.1 in
    let same = quotient c.of.result _ _ _ _ _ _ _ _ (is_x ∙ h.0.0) (is_y ∙ h.1.0.0) (is_z ∙ h.1.1.0.0) (is_w ∙ h.1.1.1.0) positive c.of.ensures.same in
    let small = start_small c.of.result _ _ _ _ c.args.limits.0 c.args.limits.1 same (subst (λ (v : ℤ). nat_abs v ≤ c.args.limits.0) h.0.0 h.0.1) (subst (λ (v : ℤ). nat_abs v ≤ c.args.limits.0) h.1.0.0 h.1.0.1) (subst (λ (v : ℤ). nat_abs v ≤ c.args.limits.0) h.1.1.0.0 h.1.1.0.1) (subst (λ (v : ℤ). nat_abs v ≤ c.args.limits.1) h.1.1.1.0 h.1.1.1.2) in
    record { read = λ names. IsRead-made _ _ _ _ c.both-numbers.result (read names) (λ k. refl) (c.in_ok-x.x, (c.in_ok-x.y, (c.in_ok-x.z, c.in_ok-x.w))) c.of.result c.in_ok-x.was (λ g. (same, small)) }
