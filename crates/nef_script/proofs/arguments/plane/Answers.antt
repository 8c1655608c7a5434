use Rattle.nef_script.proofs.Prelude.{◌≡◌, ◌∙◌, ℕ, ℤ, nat_abs, ◌≤◌, w64, to_z, of_z, true, false, cond, ◌&&◌, List, [], ◌∷◌, Err, Some, None, refl, sym, ap, subst, arith, normal_limit, offset_limit, form, vector, IsZero, IsInRange, IsPositiveMultiple, given_form, IsRead, both, some_fails, is_normal, are_zero, Coefficient, number_or_zero}
use Rattle.nef_script.specs.declared.script.ScriptKind.TheVariants as kind
use Rattle.nef_script.proofs.Firsts.{IsRead-four, IsRead-unless, place-number, zeros-none}
use Rattle.nef_script.proofs.Values.{passed, same_form, same_vector, zero-are, not-zero}
use Rattle.nef_script.proofs.arguments.plane.Goals as goal

-- a number as the call takes it
abbrev took : ℤ → ℤ
took z = to_z w64 (of_z w64 z)

abbrev IsOf : ℤ → List ℕ → ℕ → Type 0
IsOf z word m = (z ≡ number_or_zero word) × (nat_abs z ≤ m)

-- the four numbers that the call takes are those of the words, and in range
taken-four : (a b d e : List ℕ) (x y z w : ℤ) → IsOf x a normal_limit × (IsOf y b normal_limit × (IsOf z d normal_limit × IsOf w e offset_limit))
    → (form (took x) (took y) (took z) (took w) ≡ form (number_or_zero a) (number_or_zero b) (number_or_zero d) (number_or_zero e))
    × (vector (took x) (took y) (took z) ≡ vector (number_or_zero a) (number_or_zero b) (number_or_zero d)) × IsInRange (form (took x) (took y) (took z) (took w))
taken-four a b d e x y z w h =
    let is_a = passed x normal_limit h.0.1 (omega arith) in
    let is_b = passed y normal_limit h.1.0.1 (omega arith) in
    let is_c = passed z normal_limit h.1.1.0.1 (omega arith) in
    let is_d = passed w offset_limit h.1.1.1.1 (omega arith) in
    let inside : IsInRange (form x y z w) = record { a_small = h.0.1; b_small = h.1.0.1; c_small = h.1.1.0.1; d_small = h.1.1.1.1 } in (
      same_form _ _ _ _ _ _ _ _ (is_a ∙ h.0.0) (is_b ∙ h.1.0.0) (is_c ∙ h.1.1.0.0) (is_d ∙ h.1.1.1.0),
      same_vector _ _ _ _ _ _ (is_a ∙ h.0.0) (is_b ∙ h.1.0.0) (is_c ∙ h.1.1.0.0),
      subst IsInRange (sym (same_form _ _ _ _ _ _ _ _ is_a is_b is_c is_d)) inside,
    )

pub returns-in_err-a : goal.returns-in_err-a
returns-in_err-a c =
    let a = c.args.a.now in let b = c.args.b.now in let d = c.args.c.now in let e = c.args.d.now in
    let roles = Coefficient normal_limit ∷ Coefficient normal_limit ∷ Coefficient normal_limit ∷ Coefficient offset_limit ∷ [] in
    let all = c.both-numbers.ensures.both ∙ ap (both c.coefficient.result) (c.both-2.ensures.both ∙ ap (both c.coefficient-2.result) c.both.ensures.both) in
    let read = λ (names : List (List ℕ)). subst (IsRead _ _) (sym all) (IsRead-four names _ _ _ _ _ _ _ _ _ _ _ _ c.coefficient.result c.coefficient-2.result c.coefficient-3.result c.coefficient-4.result (c.coefficient.ensures.read names) (c.coefficient-2.ensures.read names) (c.coefficient-3.ensures.read names) (c.coefficient-4.ensures.read names)) in
    record { read = λ names. IsRead-unless (some_fails names roles (a ∷ b ∷ d ∷ e ∷ [])) (λ k. is_normal k && are_zero a b d) kind.ZeroNormal (are_zero a b d) refl _ _ c.both-numbers.result (read names) (λ k f. (let le = place-number (some_fails names roles (a ∷ b ∷ d ∷ e ∷ []) kind.NotANumber) (some_fails names roles (a ∷ b ∷ d ∷ e ∷ []) kind.OutOfRange) k f in omega (arith, le))) _ c.from_residual.result c.in_err-a.was c.from_residual.ensures.1 }

pub returns-in-Ok : goal.returns-in-Ok
returns-in-Ok c =
    let a = c.args.a.now in let b = c.args.b.now in let d = c.args.c.now in let e = c.args.d.now in
    let roles = Coefficient normal_limit ∷ Coefficient normal_limit ∷ Coefficient normal_limit ∷ Coefficient offset_limit ∷ [] in
    let all = c.both-numbers.ensures.both ∙ ap (both c.coefficient.result) (c.both-2.ensures.both ∙ ap (both c.coefficient-2.result) c.both.ensures.both) in
    let read = λ (names : List (List ℕ)). subst (IsRead _ _) (sym all) (IsRead-four names _ _ _ _ _ _ _ _ _ _ _ _ c.coefficient.result c.coefficient-2.result c.coefficient-3.result c.coefficient-4.result (c.coefficient.ensures.read names) (c.coefficient-2.ensures.read names) (c.coefficient-3.ensures.read names) (c.coefficient-4.ensures.read names)) in
    let ok = λ (names : List (List ℕ)). subst (IsRead _ _) c.in_ok-a.was (read names) in
    let taken = taken-four a b d e c.in_ok-a.a c.in_ok-a.b c.in_ok-a.c c.in_ok-a.d (ok []).value in
    let some : are_zero a b d ≡ false = not-zero _ _ _ (λ none. (let odd = sym c.in-Ok.is ∙ c.read.ensures.zero_normal.1 (taken.2, subst IsZero (sym taken.1) none) in cc)) in
    record { read = λ names. record { refusal = ap (λ t. cond t (Some kind.ZeroNormal) None) (sym some) ∙ zeros-none (some_fails names roles (a ∷ b ∷ d ∷ e ∷ [])) (λ k. is_normal k && are_zero a b d) kind.ZeroNormal (are_zero a b d) refl (ok names).refusal; value = subst (λ f. IsPositiveMultiple f (given_form c.in-Ok.oriented)) taken.0 c.in-Ok.ensures.multiple } }

pub returns-in-Err-OutOfRange : goal.returns-in-Err-OutOfRange
returns-in-Err-OutOfRange c =
    let a = c.args.a.now in let b = c.args.b.now in let d = c.args.c.now in let e = c.args.d.now in
    let roles = Coefficient normal_limit ∷ Coefficient normal_limit ∷ Coefficient normal_limit ∷ Coefficient offset_limit ∷ [] in
    let all = c.both-numbers.ensures.both ∙ ap (both c.coefficient.result) (c.both-2.ensures.both ∙ ap (both c.coefficient-2.result) c.both.ensures.both) in
    let read = λ (names : List (List ℕ)). subst (IsRead _ _) (sym all) (IsRead-four names _ _ _ _ _ _ _ _ _ _ _ _ c.coefficient.result c.coefficient-2.result c.coefficient-3.result c.coefficient-4.result (c.coefficient.ensures.read names) (c.coefficient-2.ensures.read names) (c.coefficient-3.ensures.read names) (c.coefficient-4.ensures.read names)) in
    let ok = λ (names : List (List ℕ)). subst (IsRead _ _) c.in_ok-a.was (read names) in
    let taken = taken-four a b d e c.in_ok-a.a c.in_ok-a.b c.in_ok-a.c c.in_ok-a.d (ok []).value in
    absurd (c.read.ensures.out_of_range.0 (c.in-Err-OutOfRange.is ∙ ap Err c.in-Err-OutOfRange.field-0-is) taken.2)

pub returns-in-Err-ZeroNormal : goal.returns-in-Err-ZeroNormal
returns-in-Err-ZeroNormal c =
    let a = c.args.a.now in let b = c.args.b.now in let d = c.args.c.now in let e = c.args.d.now in
    let roles = Coefficient normal_limit ∷ Coefficient normal_limit ∷ Coefficient normal_limit ∷ Coefficient offset_limit ∷ [] in
    let all = c.both-numbers.ensures.both ∙ ap (both c.coefficient.result) (c.both-2.ensures.both ∙ ap (both c.coefficient-2.result) c.both.ensures.both) in
    let read = λ (names : List (List ℕ)). subst (IsRead _ _) (sym all) (IsRead-four names _ _ _ _ _ _ _ _ _ _ _ _ c.coefficient.result c.coefficient-2.result c.coefficient-3.result c.coefficient-4.result (c.coefficient.ensures.read names) (c.coefficient-2.ensures.read names) (c.coefficient-3.ensures.read names) (c.coefficient-4.ensures.read names)) in
    let ok = λ (names : List (List ℕ)). subst (IsRead _ _) c.in_ok-a.was (read names) in
    let taken = taken-four a b d e c.in_ok-a.a c.in_ok-a.b c.in_ok-a.c c.in_ok-a.d (ok []).value in
    let none : are_zero a b d ≡ true = zero-are _ _ _ (subst IsZero taken.1 (c.read.ensures.zero_normal.0 (c.in-Err-ZeroNormal.is ∙ ap Err c.in-Err-ZeroNormal.field-0-is)).1) in
    record { read = λ names. record { refusal = ap (λ t. cond t (Some kind.ZeroNormal) None) (sym none) ∙ zeros-none (some_fails names roles (a ∷ b ∷ d ∷ e ∷ [])) (λ k. is_normal k && are_zero a b d) kind.ZeroNormal (are_zero a b d) refl (ok names).refusal; value = tt } }
