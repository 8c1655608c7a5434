use Rattle.nef_plan.proofs.Prelude.{◌≡◌, ℕ, refl, sym, ap, subst, inl, inr, ⊎_elim, Option, Some, None, Node}
use Rattle.std.specs.Prelude.{◌⊎◌, ◌↔◌}
use Rattle.std.proofs.lemmas.Option.{none-some, same_Some}
use Rattle.nef_plan.specs.Prelude.{IsOperand, shape_of}
use Rattle.nef_plan.specs.Values.{first_of, second_of}
use Rattle.nef_plan.proofs.step.operands.Goals as goal

-- an expression has these operands, or fewer
abbrev Has : Option ℕ → Option ℕ → Node → Type 0
Has a b m = (a ≡ first_of (shape_of m)) × (b ≡ second_of (shape_of m)) × ((k : ℕ) → IsOperand k m ↔ ((a ≡ Some k) ⊎ (b ≡ Some k)))

none : (k : ℕ) → ⊥ ↔ ((◌≡◌ {A = Option ℕ} None (Some k)) ⊎ (◌≡◌ {A = Option ℕ} None (Some k)))
none k = (λ f. absurd f, ⊎_elim (none-some k) (none-some k))

one : (i k : ℕ) → (k ≡ i) ↔ ((Some i ≡ Some k) ⊎ (None ≡ Some k))
one i k = (λ e. inl (ap Some (sym e)), ⊎_elim (λ e. sym (same_Some i k e)) (λ e. absurd (none-some k e)))

two : (i j k : ℕ) → ((k ≡ i) ⊎ (k ≡ j)) ↔ ((Some i ≡ Some k) ⊎ (Some j ≡ Some k))
two i j k = (⊎_elim (λ e. inl (ap Some (sym e))) (λ e. inr (ap Some (sym e))), ⊎_elim (λ e. inl (sym (same_Some i k e))) (λ e. inr (sym (same_Some j k e))))

pub returns-in-Half : goal.returns-in-Half
returns-in-Half c =
    let m = c.args.made.now in
    let h : Has None None m = ⊎_elim (λ x. subst (Has None None) (sym x.2) (refl, refl, none)) (⊎_elim (λ e. subst (Has None None) (sym e) (refl, refl, none)) (λ e. subst (Has None None) (sym e) (refl, refl, none))) c.in-Half.is in
    record { first = h.0; second = h.1; operands = h.2 }

pub returns-in-And : goal.returns-in-And
returns-in-And c =
    let m = c.args.made.now in
    let i = c.in-And.i in
    let j = c.in-And.j in
    let t : (n : Node) → m ≡ n → Has (Some i) (Some j) n → Has (Some i) (Some j) m = λ n e h. subst (Has (Some i) (Some j)) (sym e) h in
    let h : Has (Some i) (Some j) m = ⊎_elim (λ e. t _ e (refl, refl, two i j)) (⊎_elim (λ e. t _ e (refl, refl, two i j)) (⊎_elim (λ e. t _ e (refl, refl, two i j)) (λ e. t _ e (refl, refl, two i j)))) c.in-And.is in
    record { first = h.0; second = h.1; operands = h.2 }

pub returns-in-Not : goal.returns-in-Not
returns-in-Not c =
    let m = c.args.made.now in
    let i = c.in-Not.i in
    let t : (n : Node) → m ≡ n → Has (Some i) None n → Has (Some i) None m = λ n e h. subst (Has (Some i) None) (sym e) h in
    let h : Has (Some i) None m = ⊎_elim (λ e. t _ e (refl, refl, one i)) (⊎_elim (λ e. t _ e (refl, refl, one i)) (⊎_elim (λ e. t _ e (refl, refl, one i)) (⊎_elim (λ e. t _ e (refl, refl, one i)) (λ e. t _ e (refl, refl, one i))))) c.in-Not.is in
    record { first = h.0; second = h.1; operands = h.2 }
