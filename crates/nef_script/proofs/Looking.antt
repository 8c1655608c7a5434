-- What the commands of lines look at, and what stays with more nodes.
use Rattle.nef_script.proofs.Prelude.{◌≡◌, ℕ, zero, suc, ◌<◌, ◌≤◌, List, [], ◌∷◌, length, Some, slice_get, ◌∙◌, ap, subst, arith, inl, inr, slice_index_or, All, get_or-append, All-head, All-tail, Node, IsOperand, Extends, extends-turn, KeepsRayLimits, NamesNode, IsNodeOfLine, IsQuestion, SpeaksOfFirst, LooksAt, TurnsRight, Verb, Command, Bind, Turn, Has, Joined, Ray, Same, Count}
use Rattle.nef_expr.specs.declared.nodes.Node.TheVariants as node
use Rattle.nef_script.specs.declared.arguments.Verb.TheVariants as verb
use Rattle.nef_script.specs.declared.script.Command.TheVariants.{Print}

pub all-at : {X : Type 0} (P : X → Type 0) (xs : List X) (i : ℕ) (x : X) → All P xs → slice_get xs i ≡ Some x → P x
all-at P [] i x all e = cc
all-at P (y ∷ xs) zero x all e = let same : y ≡ x = cc in subst P same (All-head P y xs all)
all-at P (y ∷ xs) (suc i) x all e = all-at P xs i x (All-tail P y xs all) e

-- some name's node
abbrev pub IsSomeNode : List ℕ → ℕ → Type 0
IsSomeNode bound k = (i : ℕ) × (slice_get bound i ≡ Some k)

there : (names : List (List ℕ)) (bound : List ℕ) (word : List ℕ) (k : ℕ) → NamesNode names bound word k → IsSomeNode bound k
there names bound word k (i, at, is) = (i, is)

-- the operands of a line's node are the nodes of names
pub node-operands : (names : List (List ℕ)) (bound : List ℕ) (v : Verb) (args : List (List ℕ)) (n : Node) → IsNodeOfLine names bound v args n → (k : ℕ) → IsOperand k n → IsSomeNode bound k
node-operands names bound verb.Half (name ∷ a ∷ b ∷ c ∷ d ∷ mode ∷ []) n (o, is, given) k operand = absurd (subst (IsOperand k) is operand)
node-operands names bound verb.Empty (name ∷ []) n is k operand = absurd (subst (IsOperand k) is operand)
node-operands names bound verb.Full (name ∷ []) n is k operand = absurd (subst (IsOperand k) is operand)
node-operands names bound verb.And (name ∷ left ∷ right ∷ []) n (i, j, p, q, is) k operand = elim (subst (IsOperand k) is operand) [ inl e ↦ rw e (there names bound left i p) | inr e ↦ rw e (there names bound right j q) ]
node-operands names bound verb.Or (name ∷ left ∷ right ∷ []) n (i, j, p, q, is) k operand = elim (subst (IsOperand k) is operand) [ inl e ↦ rw e (there names bound left i p) | inr e ↦ rw e (there names bound right j q) ]
node-operands names bound verb.Diff (name ∷ left ∷ right ∷ []) n (i, j, p, q, is) k operand = elim (subst (IsOperand k) is operand) [ inl e ↦ rw e (there names bound left i p) | inr e ↦ rw e (there names bound right j q) ]
node-operands names bound verb.Xor (name ∷ left ∷ right ∷ []) n (i, j, p, q, is) k operand = elim (subst (IsOperand k) is operand) [ inl e ↦ rw e (there names bound left i p) | inr e ↦ rw e (there names bound right j q) ]
node-operands names bound verb.Not (name ∷ operand ∷ []) n (i, p, is) k h = rw (subst (IsOperand k) is h) (there names bound operand i p)
node-operands names bound verb.Int (name ∷ operand ∷ []) n (i, p, is) k h = rw (subst (IsOperand k) is h) (there names bound operand i p)
node-operands names bound verb.Cl (name ∷ operand ∷ []) n (i, p, is) k h = rw (subst (IsOperand k) is h) (there names bound operand i p)
node-operands names bound verb.Bd (name ∷ operand ∷ []) n (i, p, is) k h = rw (subst (IsOperand k) is h) (there names bound operand i p)
node-operands names bound verb.Reg (name ∷ operand ∷ []) n (i, p, is) k h = rw (subst (IsOperand k) is h) (there names bound operand i p)
node-operands names bound v args n h k operand = absurd h

-- what a question says of its command
pub record Asks (nodes : List Node) (bound : List ℕ) (c : Command) : Type 0 where
  pub within : (n : ℕ) → ((i k : ℕ) → slice_get bound i ≡ Some k → k < n) → KeepsRayLimits c → SpeaksOfFirst n c
  pub turns : TurnsRight nodes c
  pub looks : (k : ℕ) → LooksAt nodes c k → IsSomeNode bound k

pub question-asks : (names : List (List ℕ)) (bound : List ℕ) (nodes : List Node) (line : ℕ) (v : Verb) (args : List (List ℕ)) (c : Command) → IsQuestion names bound line v args c → Asks nodes bound c
question-asks names bound nodes line verb.Has (name ∷ x ∷ y ∷ z ∷ w ∷ []) c (k, p, (i, at, is), quotient, e) = rw e (record { within = λ n below rays. below i k is; turns = tt; looks = λ j f. rw f (i, is) })
question-asks names bound nodes line verb.Joined (name ∷ x ∷ y ∷ z ∷ w ∷ x2 ∷ y2 ∷ z2 ∷ w2 ∷ []) c (k, p, q, (i, at, is), first, second, e) = rw e (record { within = λ n below rays. below i k is; turns = tt; looks = λ j f. rw f (i, is) })
question-asks names bound nodes line verb.Ray (name ∷ x ∷ y ∷ z ∷ w ∷ dx ∷ dy ∷ dz ∷ []) c (k, p, d, (i, at, is), quotient, toward, e) = rw e (record { within = λ n below rays. (below i k is, rays); turns = tt; looks = λ j f. rw f (i, is) })
question-asks names bound nodes line verb.Same (left ∷ right ∷ []) c (k, l, (i, at, is), (j, at', is'), e) = rw e (record { within = λ n below rays. (below i k is, below j l is'); turns = tt; looks = λ m s. elim s [ inl f ↦ rw f (i, is) | inr f ↦ rw f (j, is') ] })
question-asks names bound nodes line verb.Count (name ∷ []) c (k, (i, at, is), e) = rw e (record { within = λ n below rays. below i k is; turns = tt; looks = λ j f. rw f (i, is) })
question-asks names bound nodes line verb.Print (name ∷ []) c (k, (i, at, is), e) = rw e (record { within = λ n below rays. below i k is; turns = tt; looks = λ j f. rw f (i, is) })
question-asks names bound nodes line v args c h = absurd h

-- ---- more nodes
pub within-more : (m n : ℕ) (c : Command) → m ≤ n → SpeaksOfFirst m c → SpeaksOfFirst n c
within-more m n (Bind line k) le below = omega (arith, le, below)
within-more m n (Turn line k j t) le (first, second, turn) = (omega (arith, le, first), omega (arith, le, second), turn)
within-more m n (Has line k p) le below = omega (arith, le, below)
within-more m n (Joined line k p q) le below = omega (arith, le, below)
within-more m n (Ray line k p d) le (below, small) = (omega (arith, le, below), small)
within-more m n (Same line i j) le (first, second) = (omega (arith, le, first), omega (arith, le, second))
within-more m n (Count line k) le below = omega (arith, le, below)
within-more m n (Print line k name) le below = omega (arith, le, below)

pub turns-more : (ns ms : List Node) (c : Command) → Extends ns ms → TurnsRight ns c → TurnsRight ms c
turns-more ns ms (Bind line k) more right = tt
turns-more ns ms (Turn line k j t) more right = extends-turn ns ms t j k more right
turns-more ns ms (Has line k p) more right = tt
turns-more ns ms (Joined line k p q) more right = tt
turns-more ns ms (Ray line k p d) more right = tt
turns-more ns ms (Same line i j) more right = tt
turns-more ns ms (Count line k) more right = tt
turns-more ns ms (Print line k name) more right = tt

-- a command whose node was there looks at what it looked at
pub looks-before : (ns ms : List Node) (c : Command) → Extends ns ms → SpeaksOfFirst (length ns) c → (k : ℕ) → LooksAt ms c k → LooksAt ns c k
looks-before ns ms (Bind line n) (more, e) below k looks = subst (IsOperand k) (ap (λ xs. slice_index_or xs n node.Empty) e ∙ get_or-append ns more node.Empty n below) looks
looks-before ns ms (Turn line n j t) more below k looks = looks
looks-before ns ms (Has line n p) more below k looks = looks
looks-before ns ms (Joined line n p q) more below k looks = looks
looks-before ns ms (Ray line n p d) more below k looks = looks
looks-before ns ms (Same line i j) more below k looks = looks
looks-before ns ms (Count line n) more below k looks = looks
looks-before ns ms (Print line n name) more below k looks = looks
