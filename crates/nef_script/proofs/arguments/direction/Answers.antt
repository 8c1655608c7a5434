use Rattle.nef_script.proofs.Prelude.{◌≡◌, ◌∙◌, ℕ, ℤ, nat_abs, ◌≤◌, w64, to_z, of_z, true, false, cond, ◌&&◌, List, [], ◌∷◌, Some, None, refl, sym, ap, subst, arith, rules, ray_direction_limit, vector, IsAtMost, IsZero, SameDirection, vector_of, IsRead, both, some_fails, is_direction, are_zero, Coefficient, number_or_zero}
use Rattle.nef_script.specs.declared.script.ScriptKind.TheVariants as kind
use Rattle.nef_script.proofs.Firsts.{IsRead-three, IsRead-unless, place-number, zeros-none}
use Rattle.nef_script.proofs.Values.{passed, same_vector, zero-are, not-zero}
use Rattle.nef_script.proofs.arguments.direction.Goals as goal

-- a number as the call takes it
abbrev took : ℤ → ℤ
took z = to_z w64 (of_z w64 z)

abbrev IsOf : ℤ → List ℕ → Type 0
IsOf z word = (z ≡ number_or_zero word) × (nat_abs z ≤ ray_direction_limit)

-- the three numbers that the call takes are those of the words, and small
taken-three : (a b d : List ℕ) (x y z : ℤ) → IsOf x a × (IsOf y b × IsOf z d)
    → (vector (took x) (took y) (took z) ≡ vector (number_or_zero a) (number_or_zero b) (number_or_zero d)) × IsAtMost ray_direction_limit (vector (took x) (took y) (took z))
taken-three a b d x y z h =
    let is_x = passed x ray_direction_limit h.0.1 (omega arith) in
    let is_y = passed y ray_direction_limit h.1.0.1 (omega arith) in
    let is_z = passed z ray_direction_limit h.1.1.1 (omega arith) in
    let small : IsAtMost ray_direction_limit (vector x y z) = record { of_x = h.0.1; of_y = h.1.0.1; of_z = h.1.1.1 } in
    (same_vector _ _ _ _ _ _ (is_x ∙ h.0.0) (is_y ∙ h.1.0.0) (is_z ∙ h.1.1.0), subst (IsAtMost ray_direction_limit) (sym (same_vector _ _ _ _ _ _ is_x is_y is_z)) small)

pub returns-in_err-x : goal.returns-in_err-x
returns-in_err-x c =
    let x = c.args.x.now in let y = c.args.y.now in let z = c.args.z.now in
    let roles = Coefficient ray_direction_limit ∷ Coefficient ray_direction_limit ∷ Coefficient ray_direction_limit ∷ [] in
    let all = c.both-numbers.ensures.both ∙ ap (both c.coefficient.result) c.both.ensures.both in
    let read = λ (names : List (List ℕ)). subst (IsRead _ _) (sym all) (IsRead-three names _ _ _ _ _ _ _ _ _ c.coefficient.result c.coefficient-2.result c.coefficient-3.result (c.coefficient.ensures.read names) (c.coefficient-2.ensures.read names) (c.coefficient-3.ensures.read names)) in
    record { read = λ names. IsRead-unless (some_fails names roles (x ∷ y ∷ z ∷ [])) (λ k. is_direction k && are_zero x y z) kind.ZeroDirection (are_zero x y z) refl _ _ c.both-numbers.result (read names) (λ k f. (let le = place-number (some_fails names roles (x ∷ y ∷ z ∷ []) kind.NotANumber) (some_fails names roles (x ∷ y ∷ z ∷ []) kind.OutOfRange) k f in omega (arith, le))) _ c.from_residual.result c.in_err-x.was c.from_residual.ensures.1 }

pub of-requires : goal.of-requires
of-requires c =
    let x = c.args.x.now in let y = c.args.y.now in let z = c.args.z.now in
    let roles = Coefficient ray_direction_limit ∷ Coefficient ray_direction_limit ∷ Coefficient ray_direction_limit ∷ [] in
    let all = c.both-numbers.ensures.both ∙ ap (both c.coefficient.result) c.both.ensures.both in
    let read = λ (names : List (List ℕ)). subst (IsRead _ _) (sym all) (IsRead-three names _ _ _ _ _ _ _ _ _ c.coefficient.result c.coefficient-2.result c.coefficient-3.result (c.coefficient.ensures.read names) (c.coefficient-2.ensures.read names) (c.coefficient-3.ensures.read names)) in
    let ok = λ (names : List (List ℕ)). subst (IsRead _ _) c.in_ok-x.was (read names) in
    let taken = taken-three x y z c.in_ok-x.x c.in_ok-x.y c.in_ok-x.z (ok []).value in
    let s = taken.1 in let of_x = s.of_x in let of_y = s.of_y in let of_z = s.of_z in
    record { small = record { of_x = omega (arith, of_x); of_y = omega (arith, of_y); of_z = omega (arith, of_z) } }

pub returns-in-Some : goal.returns-in-Some
returns-in-Some c =
    let x = c.args.x.now in let y = c.args.y.now in let z = c.args.z.now in
    let roles = Coefficient ray_direction_limit ∷ Coefficient ray_direction_limit ∷ Coefficient ray_direction_limit ∷ [] in
    let all = c.both-numbers.ensures.both ∙ ap (both c.coefficient.result) c.both.ensures.both in
    let read = λ (names : List (List ℕ)). subst (IsRead _ _) (sym all) (IsRead-three names _ _ _ _ _ _ _ _ _ c.coefficient.result c.coefficient-2.result c.coefficient-3.result (c.coefficient.ensures.read names) (c.coefficient-2.ensures.read names) (c.coefficient-3.ensures.read names)) in
    let ok = λ (names : List (List ℕ)). subst (IsRead _ _) c.in_ok-x.was (read names) in
    let taken = taken-three x y z c.in_ok-x.x c.in_ok-x.y c.in_ok-x.z (ok []).value in
    let some : are_zero x y z ≡ false = not-zero _ _ _ (λ none. (let odd = c.of.ensures.none.1 (subst IsZero (sym taken.0) none) in let is = c.in-Some.is in search rules)) in
    let bounded = c.in-Some.ensures.size ray_direction_limit taken.1 in
    record { read = λ names. record { refusal = ap (λ t. cond t (Some kind.ZeroDirection) None) (sym some) ∙ zeros-none (some_fails names roles (x ∷ y ∷ z ∷ [])) (λ k. is_direction k && are_zero x y z) kind.ZeroDirection (are_zero x y z) refl (ok names).refusal; value = (subst (λ v. SameDirection v (vector_of c.in-Some.dir)) taken.0 c.in-Some.ensures.same, bounded) } }

pub returns-in-None : goal.returns-in-None
returns-in-None c =
    let x = c.args.x.now in let y = c.args.y.now in let z = c.args.z.now in
    let roles = Coefficient ray_direction_limit ∷ Coefficient ray_direction_limit ∷ Coefficient ray_direction_limit ∷ [] in
    let all = c.both-numbers.ensures.both ∙ ap (both c.coefficient.result) c.both.ensures.both in
    let read = λ (names : List (List ℕ)). subst (IsRead _ _) (sym all) (IsRead-three names _ _ _ _ _ _ _ _ _ c.coefficient.result c.coefficient-2.result c.coefficient-3.result (c.coefficient.ensures.read names) (c.coefficient-2.ensures.read names) (c.coefficient-3.ensures.read names)) in
    let ok = λ (names : List (List ℕ)). subst (IsRead _ _) c.in_ok-x.was (read names) in
    let taken = taken-three x y z c.in_ok-x.x c.in_ok-x.y c.in_ok-x.z (ok []).value in
    let none : are_zero x y z ≡ true = zero-are _ _ _ (subst IsZero taken.0 (c.of.ensures.none.0 (search rules))) in
    record { read = λ names. record { refusal = ap (λ t. cond t (Some kind.ZeroDirection) None) (sym none) ∙ zeros-none (some_fails names roles (x ∷ y ∷ z ∷ [])) (λ k. is_direction k && are_zero x y z) kind.ZeroDirection (are_zero x y z) refl (ok names).refusal; value = tt } }
