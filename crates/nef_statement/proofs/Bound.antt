-- The set of each name is that of its node.
use Rattle.nef_statement.proofs.Prelude.{◌≡◌, ℕ, zero, suc, ◌+◌, ◌≤◌, nat_abs, Bool, true, false, cond, List, [], ◌∷◌, ◌++◌, length, map, Option, Some, None, slice_get, if◌then◌else◌, refl, sym, ap, ◌∙◌, subst, arith, inl, inr, append-nil, codes, option_map, option_to_list, position_from, bytes_eq, cases_Bool, length-map, Set, SameSet, Node, node_set, set_of, sets_after, IsOrdered, binds, number_or_zero, on_verb, bound_name, NamesNode, IsNodeOfLine, Sets, IsBind, IsTurn, IsBinding, MeansCommand, MeansWords, Verb, Command, Bindings, set_named, made_of_both, bound_set, turned_set, bound_after}
use Rattle.std.proofs.lemmas.Iterator.Adapters.{position_from-zero}
use Rattle.law_geometry.specs.turns.Turned.{turned_set as turned_image}
use Rattle.law_geometry.proofs.turns.Meaning.{same_set-turned}
use Rattle.nef_expr.specs.declared.nodes.Node.TheVariants as node
use Rattle.nef_expr.proofs.Sets.{each-set}
use Rattle.nef_expr.proofs.Turns.{node-turned}
use Rattle.nef_script.specs.declared.arguments.Verb.TheVariants as verb
use Rattle.nef_statement.proofs.Turning.{set-same}
use Rattle.nef_statement.proofs.Alike.{same-half}
use Rattle.law_geometry.proofs.near.SameSets.{same-self, same-other, same-inside, same-closed, same-border, same-regular, same-both, same-either, same-less, same-one_of}

abbrev pub names_in : Bindings → List (List ℕ)
names_in sets = map (λ (b : List ℕ × Set). b.0) sets

-- each set is that of the node in its place
abbrev pub Agree : List Node → Bindings → List ℕ → Type 0
Agree nodes [] bound = Unit {0}
Agree nodes (b ∷ bs) [] = ⊥
Agree nodes (b ∷ bs) (k ∷ ks) = SameSet b.1 (node_set nodes k) × Agree nodes bs ks

-- ---- the set of a name
from-least : {X : Type 0} (p : X → Bool) (n i : ℕ) (xs : List X) → position_from p n xs ≡ Some i → n ≤ i
from-least p n i [] e = cc
from-least p n i (x ∷ xs) e = elim (cases_Bool (p x)) [
  | inl passes ↦ (
      let found : Some n ≡ Some i = sym (ap (λ t. cond t (Some n) (position_from p (n + 1) xs)) passes) ∙ e in
      let here : n ≡ i = cc in
      omega arith)
  | inr fails ↦ (
      let later = from-least p (n + 1) i xs (sym (ap (λ t. cond t (Some n) (position_from p (n + 1) xs)) fails) ∙ e) in
      omega arith)
]

-- the name has a set, which is that of the node
abbrev pub IsFound : List Node → Bindings → List ℕ → ℕ → Type 0
IsFound nodes sets word k = (s : Set) × (set_named sets word ≡ Some s) × SameSet s (node_set nodes k)

named-from : (nodes : List Node) (word : List ℕ) (sets : Bindings) (bound : List ℕ) (n i j k : ℕ) → Agree nodes sets bound → position_from (bytes_eq word) n (names_in sets) ≡ Some i → n + j ≡ i → slice_get bound j ≡ Some k → IsFound nodes sets word k
named-from nodes word [] bound n i j k a e s g = cc
named-from nodes word (b ∷ bs) [] n i j k a e s g = absurd a
named-from nodes word (b ∷ bs) (m ∷ ms) n i j k a e s g = by (λ j f h g. named-from nodes word bs ms (n + 1) i j k a.1 f h g) (bytes_eq word b.0) refl j s g
  where
    by : ((j : ℕ) → position_from (bytes_eq word) (n + 1) (names_in bs) ≡ Some i → n + 1 + j ≡ i → slice_get ms j ≡ Some k → IsFound nodes bs word k)
        → (t : Bool) → bytes_eq word b.0 ≡ t → (j : ℕ) → n + j ≡ i → slice_get (m ∷ ms) j ≡ Some k → IsFound nodes (b ∷ bs) word k
    by more true f zero s g =
        let same : m ≡ k = cc in
        (b.1, ap (λ u. if u then Some b.1 else set_named bs word) f, subst (λ (u : ℕ). SameSet b.1 (node_set nodes u)) same a.0)
    by more true f (suc j) s g =
        let found : Some n ≡ Some i = sym (ap (λ t. cond t (Some n) (position_from (bytes_eq word) (n + 1) (names_in bs))) f) ∙ e in
        let here : n ≡ i = cc in
        absurd (omega (arith, here, s))
    by more false f zero s g =
        let later : position_from (bytes_eq word) (n + 1) (names_in bs) ≡ Some i = sym (ap (λ t. cond t (Some n) (position_from (bytes_eq word) (n + 1) (names_in bs))) f) ∙ e in
        let least = from-least (bytes_eq word) (n + 1) i (names_in bs) later in
        absurd (omega (arith, least, s))
    by more false f (suc j) s g =
        let later : position_from (bytes_eq word) (n + 1) (names_in bs) ≡ Some i = sym (ap (λ t. cond t (Some n) (position_from (bytes_eq word) (n + 1) (names_in bs))) f) ∙ e in
        let (u, is, h) = more j later (omega (arith, s)) g in
        (u, ap (λ u. if u then Some b.1 else set_named bs word) f ∙ is, h)

pub named : (nodes : List Node) (word : List ℕ) (sets : Bindings) (bound : List ℕ) (k : ℕ) → Agree nodes sets bound → NamesNode (names_in sets) bound word k → IsFound nodes sets word k
named nodes word sets bound k a (i, at, is) = named-from nodes word sets bound 0 i i k a (sym (position_from-zero (bytes_eq word) (names_in sets)) ∙ at) (omega arith) is

-- ---- one more name
agree-push : (nodes : List Node) (sets : Bindings) (bound : List ℕ) (name : List ℕ) (s : Set) (k : ℕ) → Agree nodes sets bound → slice_get bound (length sets) ≡ Some k → SameSet s (node_set nodes k) → Agree nodes (sets ++ (name, s) ∷ []) bound
agree-push nodes [] [] name s k a g h = cc
agree-push nodes [] (m ∷ ms) name s k a g h = let same : m ≡ k = cc in (subst (λ (u : ℕ). SameSet s (node_set nodes u)) (sym same) h, tt)
agree-push nodes (b ∷ bs) [] name s k a g h = absurd a
agree-push nodes (b ∷ bs) (m ∷ ms) name s k a g h = (a.0, agree-push nodes bs ms name s k a.1 g h)

pub names-push : (sets : Bindings) (name : List ℕ) (s : Set) → names_in (sets ++ (name, s) ∷ []) ≡ names_in sets ++ name ∷ []
names-push [] name s = refl
names-push (b ∷ bs) name s = ap (λ l. b.0 ∷ l) (names-push bs name s)

-- the bindings with one more, if there is a set for it
abbrev pub and_bound : Bindings → List ℕ → Option Set → Bindings
and_bound sets name o = sets ++ map (λ (s : Set). (name, s)) (option_to_list o)

-- the name, if a line binds it
abbrev pub name_if : Bool → List ℕ → List (List ℕ)
name_if t name = if t then name ∷ [] else []

-- ---- the set of a line
module _ (ss : Sets) (ordered : IsOrdered ss.nodes) (sets : Bindings) (agree : Agree ss.nodes sets ss.bound) where
  -- the set that a command makes is that of the node
  abbrev Makes : Verb → List (List ℕ) → Node → Type 0
  Makes v args n = (s : Set) × (bound_set sets (Some v) args ≡ Some s) × SameSet s (set_of (sets_after [] ss.nodes) n)

  abbrev Binds : Verb → List (List ℕ) → ℕ → Type 0
  Binds v args k = (s : Set) × (bound_set sets (Some v) args ≡ Some s) × SameSet s (node_set ss.nodes k)

  to : (s : Set) (n m : Node) → n ≡ m → SameSet s (set_of (sets_after [] ss.nodes) m) → SameSet s (set_of (sets_after [] ss.nodes) n)
  to s n m e h = subst (λ (z : Node). SameSet s (set_of (sets_after [] ss.nodes) z)) (sym e) h

  of : (word : List ℕ) (k : ℕ) → NamesNode (names_in sets) ss.bound word k → IsFound ss.nodes sets word k
  of word k h = named ss.nodes word sets ss.bound k agree h

  -- of two operands, and of one
  two : (make : Set → Set → Set) (n m : Node) (left right : List ℕ) (i j : ℕ) → NamesNode (names_in sets) ss.bound left i → NamesNode (names_in sets) ss.bound right j → n ≡ m
      → ((s t : Set) → SameSet s (node_set ss.nodes i) → SameSet t (node_set ss.nodes j) → SameSet (make s t) (set_of (sets_after [] ss.nodes) m))
      → (s : Set) × (made_of_both make (set_named sets left) (set_named sets right) ≡ Some s) × SameSet s (set_of (sets_after [] ss.nodes) n)
  two make n m left right i j p q is same =
      let (s, e, f) = of left i p in
      let (t, g, h) = of right j q in
      (make s t, ap (λ o. made_of_both make o (set_named sets right)) e ∙ ap (made_of_both make (Some s)) g, to (make s t) n m is (same s t f h))

  one : (make : Set → Set) (n m : Node) (operand : List ℕ) (i : ℕ) → NamesNode (names_in sets) ss.bound operand i → n ≡ m → ((s : Set) → SameSet s (node_set ss.nodes i) → SameSet (make s) (set_of (sets_after [] ss.nodes) m))
      → (s : Set) × (option_map make (set_named sets operand) ≡ Some s) × SameSet s (set_of (sets_after [] ss.nodes) n)
  one make n m operand i p is same =
      let (s, e, f) = of operand i p in
      (make s, ap (option_map make) e, to (make s) n m is (same s f))

  made : (v : Verb) (args : List (List ℕ)) (n : Node) → IsNodeOfLine (names_in sets) ss.bound v args n → Makes v args n
  made verb.Half (name ∷ a ∷ b ∷ c ∷ d ∷ mode ∷ []) n (o, is, given) = (Set.half _ (bytes_eq mode (codes "closed")), refl, to _ n (node.Half o (bytes_eq mode (codes "closed"))) is (same-half _ _ (bytes_eq mode (codes "closed")) given))
  made verb.Empty (name ∷ []) n is = (Set.empty, refl, to _ n node.Empty is (same-self Set.empty))
  made verb.Full (name ∷ []) n is = (Set.full, refl, to _ n node.Full is (same-self Set.full))
  made verb.And (name ∷ left ∷ right ∷ []) n (i, j, p, q, is) = two Set.both n (node.And i j) left right i j p q is (λ s t. same-both s t _ _)
  made verb.Or (name ∷ left ∷ right ∷ []) n (i, j, p, q, is) = two Set.either n (node.Or i j) left right i j p q is (λ s t. same-either s t _ _)
  made verb.Diff (name ∷ left ∷ right ∷ []) n (i, j, p, q, is) = two Set.less n (node.Diff i j) left right i j p q is (λ s t. same-less s t _ _)
  made verb.Xor (name ∷ left ∷ right ∷ []) n (i, j, p, q, is) = two Set.one_of n (node.Xor i j) left right i j p q is (λ s t. same-one_of s t _ _)
  made verb.Not (name ∷ operand ∷ []) n (i, p, is) = one Set.other n (node.Not i) operand i p is (λ s. same-other s _)
  made verb.Int (name ∷ operand ∷ []) n (i, p, is) = one Set.inside n (node.Int i) operand i p is (λ s. same-inside s _)
  made verb.Cl (name ∷ operand ∷ []) n (i, p, is) = one Set.closed n (node.Cl i) operand i p is (λ s. same-closed s _)
  made verb.Bd (name ∷ operand ∷ []) n (i, p, is) = one Set.border n (node.Bd i) operand i p is (λ s. same-border s _)
  made verb.Reg (name ∷ operand ∷ []) n (i, p, is) = one Set.regular n (node.Reg i) operand i p is (λ s. same-regular s _)
  made v args n h = absurd h

  own : (bases line : ℕ) (v : Verb) (args : List (List ℕ)) (k : ℕ) (c : Command) → IsBind (names_in sets) bases line v args ss k c → Binds v args k
  own bases line v args k c (n, at, is, origin_is, e) =
      let (s, has, same) = made v args n is in
      (s, has, subst (λ (z : Set). SameSet s z) (sym (each-set ss.nodes k n at (ordered k n at))) same)

  copied : (line : ℕ) (args : List (List ℕ)) (k : ℕ) (c : Command) → IsTurn (names_in sets) line args ss k c → Binds verb.Turn args k
  copied line (name ∷ operand ∷ number ∷ []) k c (from, t, is, number_is, turn, copy, e) =
      let (s, has, same) = of operand from is in (
        turned_set (nat_abs (number_or_zero number)) s,
        ap (option_map (turned_set (nat_abs (number_or_zero number)))) has,
        subst (λ (z : Set). SameSet z (node_set ss.nodes k)) (sym (set-same (nat_abs (number_or_zero number)) s))
            (subst (λ (z : Set). SameSet (turned_image (nat_abs (number_or_zero number)) s) z) (sym (node-turned ss.nodes ordered t from k turn))
            (subst (λ z. SameSet (turned_image (nat_abs z) s) (turned_image t (node_set ss.nodes from))) (sym number_is) ((same_set-turned t s (node_set ss.nodes from)).1 same))),
      )
  copied line args k c h = absurd h

  pub bound-same : (bases line : ℕ) (v : Verb) (args : List (List ℕ)) (k : ℕ) (c : Command) → IsBinding (names_in sets) bases line v args ss k c → Binds v args k
  bound-same bases line verb.Turn args k c h = copied line args k c h
  bound-same bases line verb.Half args k c h = own bases line verb.Half args k c h
  bound-same bases line verb.Empty args k c h = own bases line verb.Empty args k c h
  bound-same bases line verb.Full args k c h = own bases line verb.Full args k c h
  bound-same bases line verb.And args k c h = own bases line verb.And args k c h
  bound-same bases line verb.Or args k c h = own bases line verb.Or args k c h
  bound-same bases line verb.Diff args k c h = own bases line verb.Diff args k c h
  bound-same bases line verb.Xor args k c h = own bases line verb.Xor args k c h
  bound-same bases line verb.Not args k c h = own bases line verb.Not args k c h
  bound-same bases line verb.Int args k c h = own bases line verb.Int args k c h
  bound-same bases line verb.Cl args k c h = own bases line verb.Cl args k c h
  bound-same bases line verb.Bd args k c h = own bases line verb.Bd args k c h
  bound-same bases line verb.Reg args k c h = own bases line verb.Reg args k c h
  bound-same bases line verb.Has args k c h = own bases line verb.Has args k c h
  bound-same bases line verb.Joined args k c h = own bases line verb.Joined args k c h
  bound-same bases line verb.Ray args k c h = own bases line verb.Ray args k c h
  bound-same bases line verb.Same args k c h = own bases line verb.Same args k c h
  bound-same bases line verb.Count args k c h = own bases line verb.Count args k c h
  bound-same bases line verb.Print args k c h = own bases line verb.Print args k c h

  -- a question binds no set
  none-asked : (v : Verb) (args : List (List ℕ)) → binds v ≡ false → bound_set sets (Some v) args ≡ None
  none-asked verb.Has args e = refl
  none-asked verb.Joined args e = refl
  none-asked verb.Ray args e = refl
  none-asked verb.Same args e = refl
  none-asked verb.Count args e = refl
  none-asked verb.Print args e = refl
  none-asked verb.Half args e = cc
  none-asked verb.Empty args e = cc
  none-asked verb.Full args e = cc
  none-asked verb.And args e = cc
  none-asked verb.Or args e = cc
  none-asked verb.Diff args e = cc
  none-asked verb.Xor args e = cc
  none-asked verb.Not args e = cc
  none-asked verb.Int args e = cc
  none-asked verb.Cl args e = cc
  none-asked verb.Bd args e = cc
  none-asked verb.Reg args e = cc
  none-asked verb.Turn args e = cc

  -- the bindings after a line, and its name
  abbrev Follows : Bindings → List (List ℕ) → Type 0
  Follows after new = Agree ss.nodes after ss.bound × (names_in after ≡ names_in sets ++ new)

  stays : Follows sets []
  stays = (agree, sym (append-nil (names_in sets)))

  command-follows : (bases line : ℕ) (v : Verb) (name : List ℕ) (args : List (List ℕ)) (c : Command) (t : Bool) → binds v ≡ t → MeansCommand (names_in sets) bases line v (name ∷ args) t ss c
      → Follows (and_bound sets name (bound_set sets (Some v) (name ∷ args))) (name_if t name)
  command-follows bases line v name args c false e h = subst (λ o. Follows (and_bound sets name o) []) (sym (none-asked v (name ∷ args) e)) (subst (λ (z : Bindings). Follows z []) (sym (append-nil sets)) stays)
  command-follows bases line v name args c true e (k, at, h) =
      let (s, has, same) = bound-same bases line v (name ∷ args) k c h in
      let here : slice_get ss.bound (length sets) ≡ Some k = subst (λ n. slice_get ss.bound n ≡ Some k) (length-map sets (λ (b : List ℕ × Set). b.0)) at in
      subst (λ o. Follows (and_bound sets name o) (name ∷ [])) (sym has) (agree-push ss.nodes sets ss.bound name s k agree here same, names-push sets name s)

  pub words-follow : (bases line : ℕ) (words : List (List ℕ)) (c : Command) → MeansWords (names_in sets) bases line words ss c → Follows (bound_after sets words) (bound_name words)
  words-follow bases line [] c h = absurd h
  words-follow bases line (word ∷ []) c h = stays
  words-follow bases line (word ∷ name ∷ args) c (v, e, h) =
      subst (λ o. Follows (and_bound sets name (bound_set sets o (name ∷ args))) (name_if (on_verb binds o) name)) (sym e) (command-follows bases line v name args c (binds v) refl h)
