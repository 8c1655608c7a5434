-- The nodes that a node is made of, marked from the last one on.
use Rattle.nef_expr.proofs.Prelude.{◌≡◌, ℕ, ◌+◌, ◌-◌, ◌≤◌, Bool, true, false, List, [], ◌∷◌, ◌++◌, length, Some, arith, sym, subst, ◌∙◌, inl, inr, get_or, slice_get, slice_index_or, get_or-append_seam, cases_lt, false≢true, Node, IsOrdered, IsOperand, IsMarked, MarksOperands, AreClosedFrom, AreWithOperands}
use Rattle.nef_expr.proofs.Operands.{operand-below}
use Rattle.nef_expr.proofs.Places.{one-there}

-- the marks before the node `k - back` is looked at
pub record MarksFrom (nodes : List Node) (k back : ℕ) (marks : List Bool) : Type 0 where
  pub count : length marks ≡ k + 1
  pub itself : IsMarked marks k
  pub closed : AreClosedFrom nodes (k + 1 - back) k marks

pub marks-start : (nodes : List Node) (k : ℕ) (marks : List Bool) → length marks ≡ k + 1 → IsMarked marks k → MarksFrom nodes k 0 marks
marks-start nodes k marks count itself = record { count = count; itself = itself; closed = λ m n low high marked is o operand. absurd (omega (arith, low, high)) }

pub marks-end : (nodes : List Node) (k back : ℕ) (marks : List Bool) → k + 1 ≤ back → MarksFrom nodes k back marks → AreWithOperands nodes k marks
marks-end nodes k back marks l M = record { count = M.count; itself = M.itself; closed = λ m n low high. M.closed m n (omega (arith, l)) high }

module _ (nodes : List Node) (ordered : IsOrdered nodes) (k back i : ℕ) (at : i + back ≡ k) (n : Node) (is : slice_get nodes i ≡ Some n) where
  -- the operands of the node are marked
  pub marks-more : (old new : List Bool) → MarksFrom nodes k back old → MarksOperands n old new → MarksFrom nodes k (back + 1) new
  marks-more old new M S = record {
    count = S.count ∙ M.count;
    itself = S.kept k M.itself;
    closed = λ m x low high marked there o operand. elim (cases_lt i m) [
      | inl later ↦ elim (S.only m marked) [
        | inl before ↦ S.kept o (M.closed m x (omega (arith, at, later)) high before there o operand)
        | inr named ↦ absurd (let b = operand-below i m n (ordered i n is) named in omega (arith, b, later))
      ]
      | inr past ↦ (
          let here : m ≡ i = omega (arith, at, low, past) in
          let same : n ≡ x = one-there nodes i n x is (subst (λ (j : ℕ). slice_get nodes j ≡ Some x) here there) in
          S.operands o (subst (IsOperand o) (sym same) operand))
    ];
  }

  -- the node isn't marked
  pub marks-passed : (marks : List Bool) → MarksFrom nodes k back marks → slice_index_or marks i false ≡ false → MarksFrom nodes k (back + 1) marks
  marks-passed marks M unmarked = record {
    count = M.count;
    itself = M.itself;
    closed = λ m x low high marked there o operand. elim (cases_lt i m) [
      | inl later ↦ M.closed m x (omega (arith, at, later)) high marked there o operand
      | inr past ↦ (
          let here : m ≡ i = omega (arith, at, low, past) in
          absurd (false≢true (sym unmarked ∙ subst (IsMarked marks) here marked)))
    ];
  }

-- a list of marks with one at its end
pub marked-last : (marks : List Bool) (k : ℕ) → length marks ≡ k → IsMarked (marks ++ true ∷ []) k
marked-last marks k e = subst (λ (j : ℕ). get_or (marks ++ true ∷ []) j false ≡ true) e (get_or-append_seam marks true [] false)
