-- The nodes that lines bind names to, by the command.
use Rattle.nef_script.proofs.Prelude.{◌≡◌, true, false, ℕ, List, [], ◌∷◌, length, Result, sym, subst, arith, Node, command_test, IsNodeOfLine, NamesNode, IsRead, IsStatement, BindsNew, roles_test, SecondIs, LastTwoAre, roles, is_own, Verb, ScriptKind, Statement}
use Rattle.nef_script.proofs.Firsts.{IsRead-binds, zero_test}

-- by the verb that the command is
pub of_verb : (names : List (List ℕ)) (bound : List ℕ) (line : ℕ) (ws : List (List ℕ)) (r : Result Statement ScriptKind) (v w : Verb) → v ≡ w → IsRead (λ k. command_test k names w ws) (IsStatement names bound line w ws) r → IsRead (λ k. command_test k names v ws) (IsStatement names bound line v ws) r
of_verb names bound line ws r v w same read = subst (λ u. IsRead (λ k. command_test k names u ws) (IsStatement names bound line u ws) r) (sym same) read

-- a command that binds a name to a node, of no operands, one or two
module _ (names : List (List ℕ)) (bound : List ℕ) (line : ℕ) (ws : List (List ℕ)) (r : Result Statement ScriptKind) (v w : Verb) (same : v ≡ w) (own : is_own w ≡ true) (plain : (k : ScriptKind) → zero_test w ws k ≡ false) where
  binds : (IsIt : Node → Type 0) → ((n : Node) → IsIt n → IsNodeOfLine names bound w ws n) → IsRead (roles_test names (roles w) ws) (BindsNew names ws IsIt) r → IsRead (λ k. command_test k names v ws) (IsStatement names bound line v ws) r
  binds IsIt made read = of_verb names bound line ws r v w same (IsRead-binds names bound line w ws IsIt own plain made r read)

  pub of_constant : (n : Node) (Alone : Type 0) → (Alone → length ws ≡ 1) → ((a : List ℕ) → IsNodeOfLine names bound w (a ∷ []) n)
      → IsRead (roles_test names (roles w) ws) (BindsNew names ws (λ m. Alone × (m ≡ n))) r → IsRead (λ k. command_test k names v ws) (IsStatement names bound line v ws) r
  of_constant n Alone count made = binds _ (λ m is. subst (IsNodeOfLine names bound w ws) (sym is.1) (by ws (count is.0)))
    where
      by : (us : List (List ℕ)) → length us ≡ 1 → IsNodeOfLine names bound w us n
      by [] one = absurd (omega arith)
      by (a ∷ []) one = made a
      by (a ∷ b ∷ us) one = absurd (omega arith)

  pub of_unary : (f : ℕ → Node) → ((a b : List ℕ) (i : ℕ) → NamesNode names bound b i → IsNodeOfLine names bound w (a ∷ b ∷ []) (f i))
      → IsRead (roles_test names (roles w) ws) (BindsNew names ws (λ m. (i : ℕ) × SecondIs names bound ws i × (m ≡ f i))) r → IsRead (λ k. command_test k names v ws) (IsStatement names bound line v ws) r
  of_unary f made = binds _ (λ m is. subst (IsNodeOfLine names bound w ws) (sym is.2) (by ws is.0 is.1))
    where
      by : (us : List (List ℕ)) (i : ℕ) → SecondIs names bound us i → IsNodeOfLine names bound w us (f i)
      by [] i is = absurd is
      by (a ∷ []) i is = absurd is
      by (a ∷ b ∷ []) i is = made a b i is
      by (a ∷ b ∷ c ∷ us) i is = absurd is

  pub of_binary : (f : ℕ → ℕ → Node) → ((a b c : List ℕ) (i j : ℕ) → NamesNode names bound b i → NamesNode names bound c j → IsNodeOfLine names bound w (a ∷ b ∷ c ∷ []) (f i j))
      → IsRead (roles_test names (roles w) ws) (BindsNew names ws (λ m. (i : ℕ) × (j : ℕ) × LastTwoAre names bound ws i j × (m ≡ f i j))) r → IsRead (λ k. command_test k names v ws) (IsStatement names bound line v ws) r
  of_binary f made = binds _ (λ m is. subst (IsNodeOfLine names bound w ws) (sym is.3) (by ws is.0 is.1 is.2))
    where
      by : (us : List (List ℕ)) (i j : ℕ) → LastTwoAre names bound us i j → IsNodeOfLine names bound w us (f i j)
      by [] i j are = absurd are
      by (a ∷ []) i j are = absurd are
      by (a ∷ b ∷ []) i j are = absurd are
      by (a ∷ b ∷ c ∷ []) i j are = made a b c i j are.0 are.1
      by (a ∷ b ∷ c ∷ d ∷ us) i j are = absurd are
