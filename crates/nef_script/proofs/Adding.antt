-- What one line adds.
use Rattle.nef_script.proofs.Prelude.{◌≡◌, ℕ, ◌+◌, ◌<◌, ◌≤◌, ◌⊎◌, pos, inl, inr, Bool, true, false, not, nat_eq, List, [], ◌∷◌, ◌++◌, length, take, get_or, Some, None, slice_get, if◌then◌else◌, refl, sym, ◌∙◌, ap, subst, arith, append-nil, length-append, get_or_from_slice_get, words_of, Node, IsOperand, TurnOf, NodeTable, origin, HasOrigin, IsCopyOf, Extends, Stays, slice_get-seam, place-push, extends-length, verb_of, binds, is_own, KeepsRayLimits, on_verb, line_refusal, bound_name, NamesNode, IsNodeOfLine, IsQuestion, IsTurn, MeansCommand, MeansWords, has_words, adds_base, on_command, ReadState, sets_of, IsSoundState, AddsWords, AddsLine, AddsCommand, number_at, Verb, Command, Bind, Turn}
use Rattle.std.proofs.Math.Dec.{eqb-suc-zero}
use Rattle.nef_expr.specs.declared.nodes.Node.TheVariants as node
use Rattle.nef_expr.proofs.Chains.{turn-within}
use Rattle.nef_script.specs.declared.arguments.Verb.TheVariants as verb
use Rattle.nef_script.proofs.Looking.{node-operands, question-asks}
use Rattle.nef_script.proofs.More.{names-more, node-more, own-binding, own-binds, ask-owns}

-- ---- a command and the words after it

three_words : (ws : List (List ℕ)) → length ws ≡ 3 → ws ≡ get_or ws 0 [] ∷ get_or ws 1 [] ∷ get_or ws 2 [] ∷ []
three_words [] e = absurd (omega arith)
three_words (a ∷ []) e = absurd (omega arith)
three_words (a ∷ b ∷ []) e = absurd (omega arith)
three_words (a ∷ b ∷ c ∷ []) e = refl
three_words (a ∷ b ∷ c ∷ d ∷ ws) e = absurd (omega arith)

take_one : (ws : List (List ℕ)) → 0 < length ws → get_or ws 0 [] ∷ [] ≡ take 1 ws
take_one [] some = absurd (omega arith)
take_one (w ∷ ws) some = refl

slice_get-end : {X : Type 0} (xs : List X) (x : X) (k : ℕ) → k ≡ length xs → slice_get (xs ++ x ∷ []) k ≡ Some x
slice_get-end xs x k e = subst (λ (j : ℕ). slice_get (xs ++ x ∷ []) j ≡ Some x) (sym e) (slice_get-seam xs x [])

-- a name more, and its node
module _ (old new : ReadState) (sound : IsSoundState old) (word : List ℕ) (k : ℕ) (names_are : new.names ≡ old.names ++ word ∷ []) (bound_are : new.bound ≡ old.bound ++ k ∷ []) where
  bound-stays : Extends old.bound new.bound
  bound-stays = (k ∷ [], bound_are)

  bound-next : slice_get new.bound (length old.names) ≡ Some k
  bound-next = subst (λ (xs : List ℕ). slice_get xs (length old.names) ≡ Some k) (sym bound_are) (slice_get-end old.bound k (length old.names) (sym sound.level))

  bound-is : (i l : ℕ) → slice_get new.bound i ≡ Some l → (slice_get old.bound i ≡ Some l) ⊎ (l ≡ k)
  bound-is i l at = elim (place-push old.bound k i l (subst (λ (xs : List ℕ). slice_get xs i ≡ Some l) bound_are at)) [
    | inl before ↦ inl before.1
    | inr here ↦ inr here.1
  ]

  sound-next : length old.table.nodes ≤ length new.table.nodes → k < length new.table.nodes → new.table.bases ≤ old.table.bases + 1 → IsSoundState new
  sound-next more within bases =
      let names = ap length names_are ∙ length-append old.names (word ∷ []) in
      let bound = ap length bound_are ∙ length-append old.bound (k ∷ []) in
      let level = sound.level in let few = sound.few in
      record {
        level = omega (arith, names, bound, level);
        within = λ i l at. elim (bound-is i l at) [
          | inl before ↦ (let b = sound.within i l before in omega (arith, more, b))
          | inr here ↦ rw here within
        ];
        few = omega (arith, names, few, bases);
      }

module _ (number : ℕ) (v : Verb) (ws : List (List ℕ)) (old new : ReadState) (sound : IsSoundState old) (some : 0 < length ws) (names_are : new.names ≡ old.names ++ get_or ws 0 [] ∷ []) where
  -- the node of a line
  pub AddsWords-node : (n : Node) (k : ℕ) → is_own v ≡ true → k ≡ length old.table.nodes → IsNodeOfLine old.names old.bound v ws n → new.bound ≡ old.bound ++ k ∷ [] → new.table.nodes ≡ old.table.nodes ++ n ∷ [] → new.table.origins ≡ old.table.origins ++ origin old.table.bases 0 ∷ [] → HasOrigin new.table.origins k (origin old.table.bases 0) → new.table.bases ≡ old.table.bases + 1 → new.commands ≡ old.commands ++ Bind number k ∷ [] → AddsWords number v ws old new
  AddsWords-node n k own is_k is_node bound_are nodes_are origins_are has_origin bases_are commands_are =
      let longer : length new.table.nodes ≡ length old.table.nodes + 1 = ap length nodes_are ∙ length-append old.table.nodes (n ∷ []) in
      let at : slice_get new.table.nodes k ≡ Some n = subst (λ (xs : List Node). slice_get xs k ≡ Some n) (sym nodes_are) (slice_get-end old.table.nodes n k is_k) in
      let e = own-binds v own in
      let stays = bound-stays old new sound (get_or ws 0 []) k names_are bound_are in
      record {
        command = Bind number k;
        names_are = names_are ∙ ap (λ l. old.names ++ l) (rw e (take_one ws some));
        bases_are = bases_are ∙ ap (λ l. old.table.bases + l) (rw own refl);
        sound = sound-next old new sound (get_or ws 0 []) k names_are bound_are (omega (arith, longer)) (omega (arith, longer, is_k)) (omega (arith, bases_are));
        step = record {
          nodes_stay = (n ∷ [], nodes_are);
          origins_stay = (origin old.table.bases 0 ∷ [], origins_are);
          bound_stay = stays;
          commands_are = commands_are;
          within = omega (arith, longer, is_k);
          turns = tt;
          looks = λ l looks. node-operands old.names old.bound v ws n is_node l (subst (IsOperand l) (get_or_from_slice_get new.table.nodes k n node.Empty at) looks);
          binds = bound-is old new sound (get_or ws 0 []) k names_are bound_are;
        };
        means = subst (λ t. MeansCommand old.names old.table.bases number v ws t (sets_of new) (Bind number k)) (sym e) (
          k,
          bound-next old new sound (get_or ws 0 []) k names_are bound_are,
          own-binding old.names old.table.bases number v ws (sets_of new) k (Bind number k) own (n, at, node-more old.names old.bound new.bound stays v ws n is_node, has_origin, refl),
        );
      }

plus-none : (n : ℕ) → n ≡ n + 0
plus-none n = omega arith

-- a question
pub AddsWords-ask : (number : ℕ) (v : Verb) (ws : List (List ℕ)) (old new : ReadState) (c : Command) → IsSoundState old → binds v ≡ false → IsQuestion old.names old.bound number v ws c → KeepsRayLimits c → new.names ≡ old.names → new.bound ≡ old.bound → new.table ≡ old.table → new.commands ≡ old.commands ++ c ∷ [] → AddsWords number v ws old new
AddsWords-ask number v ws old new c sound e is rays names_are bound_are table_is commands_are =
    let asks = question-asks old.names old.bound new.table.nodes number v ws c is in
    let nodes_are = ap (λ (t : NodeTable). t.nodes) table_is in
    let below : (i k : ℕ) → slice_get old.bound i ≡ Some k → k < length new.table.nodes = λ i k at. subst (λ (xs : List Node). k < length xs) (sym nodes_are) (sound.within i k at) in
    record {
      command = c;
      names_are = names_are ∙ sym (append-nil old.names) ∙ ap (λ l. old.names ++ l) (rw e refl);
      bases_are = ap (λ (t : NodeTable). t.bases) table_is ∙ sym (plus-none old.table.bases) ∙ ap (λ l. old.table.bases + l) (rw (ask-owns v e) refl);
      sound = record {
        level = ap length bound_are ∙ sound.level ∙ ap length (sym names_are);
        within = λ i k at. below i k (subst (λ (xs : List ℕ). slice_get xs i ≡ Some k) bound_are at);
        few = (let f = sound.few in let b = ap (λ (t : NodeTable). t.bases) table_is in let l = ap length names_are in omega (arith, f, b, l));
      };
      step = record {
        nodes_stay = ([], nodes_are ∙ sym (append-nil old.table.nodes));
        origins_stay = ([], ap (λ (t : NodeTable). t.origins) table_is ∙ sym (append-nil old.table.origins));
        bound_stay = ([], bound_are ∙ sym (append-nil old.bound));
        commands_are = commands_are;
        within = asks.within (length new.table.nodes) below rays;
        turns = asks.turns;
        looks = asks.looks;
        binds = λ i k at. inl (subst (λ (xs : List ℕ). slice_get xs i ≡ Some k) bound_are at);
      };
      means = subst (λ t. MeansCommand old.names old.table.bases number v ws t (sets_of new) c) (sym e) (subst (λ (xs : List ℕ). IsQuestion old.names xs number v ws c) (sym bound_are) is);
    }
  where
    plus-none : (n : ℕ) → n + 0 ≡ n
    plus-none n = omega arith

-- a turned copy
pub AddsWords-turn : (number : ℕ) (ws : List (List ℕ)) (old new : ReadState) (from t k : ℕ) → IsSoundState old → length ws ≡ 3 → NamesNode old.names old.bound (get_or ws 1 []) from → number_at ws 2 ≡ pos t → t < 48 → TurnOf new.table.nodes t from k → IsCopyOf new.table.origins t from k → Stays old.table new.table → new.names ≡ old.names ++ get_or ws 0 [] ∷ [] → new.bound ≡ old.bound ++ k ∷ [] → new.commands ≡ old.commands ++ Turn number k from t ∷ [] → AddsWords number verb.Turn ws old new
AddsWords-turn number ws old new from t k sound count named number_is below turn copy stay names_are bound_are commands_are =
    let stays = bound-stays old new sound (get_or ws 0 []) k names_are bound_are in
    let (within_from, within_k) = turn-within new.table.nodes t from k turn in
    let longer = extends-length old.table.nodes new.table.nodes stay.nodes in
    let bases = stay.bases in
    let some : 0 < length ws = omega (arith, count) in
    record {
      command = Turn number k from t;
      names_are = names_are ∙ ap (λ l. old.names ++ l) (take_one ws some);
      bases_are = bases ∙ plus-none old.table.bases;
      sound = sound-next old new sound (get_or ws 0 []) k names_are bound_are longer within_k (omega (arith, bases));
      step = record {
        nodes_stay = stay.nodes;
        origins_stay = stay.origins;
        bound_stay = stays;
        commands_are = commands_are;
        within = (within_k, within_from, below);
        turns = turn;
        looks = λ l same. rw same (named.0, named.2);
        binds = bound-is old new sound (get_or ws 0 []) k names_are bound_are;
      };
      means = (
        k,
        bound-next old new sound (get_or ws 0 []) k names_are bound_are,
        subst (λ l. IsTurn old.names number l (sets_of new) k (Turn number k from t)) (sym (three_words ws count))
            (from, t, names-more old.names old.bound new.bound stays (get_or ws 1 []) from named, number_is, turn, copy, refl),
      );
    }

-- ---- a line that isn't refused

bound_of : (word : List ℕ) (args : List (List ℕ)) (v : Verb) → verb_of word ≡ Some v → bound_name (word ∷ args) ≡ (if binds v then take 1 args else [])
bound_of word [] v e = none (binds v)
  where
    none : (t : Bool) → bound_name (word ∷ []) ≡ (if t then take 1 [] else [])
    none true = refl
    none false = refl
bound_of word (name ∷ rest) v e = ap (λ o. if on_verb binds o then name ∷ [] else []) e

pub AddsLine-words : (number : ℕ) (text word : List ℕ) (v : Verb) (args : List (List ℕ)) (old new : ReadState) → line_refusal old.names text ≡ None → words_of text ≡ word ∷ args → verb_of word ≡ Some v → AddsWords number v args old new → AddsLine number text old new
AddsLine-words number text word v args old new passes words verb adds =
    let bound : bound_name (words_of text) ≡ (if binds v then take 1 args else []) = ap bound_name words ∙ bound_of word args v verb in
    let bases : adds_base text ≡ is_own v = ap (on_command (λ u rest. is_own u)) words ∙ ap (on_verb (λ u. is_own u)) verb in
    let filled : has_words text ≡ true = ap (λ ws. not (nat_eq (length ws) 0)) words ∙ ap not (eqb-suc-zero (length args)) in
    record {
      passes = passes;
      names_are = adds.names_are ∙ ap (λ l. old.names ++ l) (sym bound);
      bases_are = adds.bases_are ∙ ap (λ b. old.table.bases + (if b then 1 else 0)) (sym bases);
      sound = adds.sound;
      command = subst (λ t. AddsCommand t number text old new) (sym filled)
          (adds.command, adds.step, subst (λ ws. MeansWords old.names old.table.bases number ws (sets_of new) adds.command) (sym words) (v, verb, adds.means));
    }

pub AddsLine-blank : (number : ℕ) (text : List ℕ) (old : ReadState) → IsSoundState old → line_refusal old.names text ≡ None → words_of text ≡ [] → AddsLine number text old old
AddsLine-blank number text old sound passes none =
    let blank : has_words text ≡ false = ap (λ ws. not (nat_eq (length ws) 0)) none in
    record {
      passes = passes;
      names_are = sym (ap (λ ws. old.names ++ bound_name ws) none ∙ append-nil old.names);
      bases_are = plus-none old.table.bases ∙ ap (λ b. old.table.bases + (if b then 1 else 0)) (sym (ap (on_command (λ u rest. is_own u)) none));
      sound = sound;
      command = subst (λ t. AddsCommand t number text old old) (sym blank) (refl, refl, refl);
    }
