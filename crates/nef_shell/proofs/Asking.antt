-- Questions about values are those of their commands about nodes.
use Rattle.nef_shell.proofs.Prelude.{◌≡◌, ◌∙◌, ℕ, ◌+◌, ◌<◌, ap, refl, sym, subst, arith, List, [], ◌∷◌, ◌++◌, length, Option, Some, None, IfSome, Ok, Result, inl, inr, Bor, Box, slice_get, TextVersion, Set, Node, node_set, Command, SpeaksOfFirst, Status, IsSameAnswer, Step, Task, Make, Turn, Ask, AreAlike, first_asked, second_asked, AreSteps, AsksRight, IsValueOf, LooksAtValue, MakesValue, asked_values, questions_of, value_set, Held, AreAsked, AsksOf, IsAskedOf, IsAskedOfOther, IsHeld, IsHeldAt, AreHeld, AreStill, AreAwaitedKept, HasDone, IsPiece, WorkEnds}
use Rattle.nef_script.specs.declared.script.Command.TheVariants as command
use Rattle.nef_shell.proofs.Outputs.{grows-none}
use Rattle.nef_shell.proofs.ShownAlike.{shown-alike}
use Rattle.std.proofs.lemmas.Option.{none-some}

-- what is right of a set is right of each that is alike
held-alike : (version : TextVersion) (s t : Set) (h : Held) → AreAlike s t → IsHeld version s h → IsHeld version t h
held-alike version s t h alike held = record { shows = shown-alike s t h.complex alike held.shows; parts = held.parts; text = held.text }

module _ {Z : Type 0} (version : TextVersion) (nodes : List Node) (steps : List Step) (list : List (Option (Box Held Z))) where
  asked-of : (c : Command) (i : ℕ) → IsValueOf nodes steps (first_asked c) (Some i) → IsHeldAt version (value_set steps i) list i → IsAskedOf nodes c (λ s. IsHeldAt version s list i)
  asked-of c i is (b, at, held) = of (first_asked c) refl is
    where
      of : (o : Option ℕ) → first_asked c ≡ o → IsValueOf nodes steps o (Some i) → IsAskedOf nodes c (λ s. IsHeldAt version s list i)
      of None e is = absurd is
      of (Some n) e is = (n, e, (b, at, held-alike version _ _ b.value is held))

  asked-other : (c : Command) (second : Option ℕ) → IsValueOf nodes steps (second_asked c) second → ((j : ℕ) → second ≡ Some j → IsHeldAt version (value_set steps j) list j) → IsAskedOfOther nodes c second (λ j s. IsHeldAt version s list j)
  asked-other c second is held = of (second_asked c) refl second is held
    where
      of : (o : Option ℕ) → second_asked c ≡ o → (second : Option ℕ) → IsValueOf nodes steps o second → ((j : ℕ) → second ≡ Some j → IsHeldAt version (value_set steps j) list j) → IsAskedOfOther nodes c second (λ j s. IsHeldAt version s list j)
      of None e None is held = e
      of None e (Some j) is held = absurd is
      of (Some n) e None is held = absurd is
      of (Some n) e (Some j) is held = let (b, at, right) = held j refl in (n, e, (b, at, held-alike version _ _ b.value is right))

  module _ (now : ℕ) (s : Step) (right : AreSteps steps) (at : slice_get steps now ≡ Some s) (ready : AreAwaitedKept steps now list) (held : AreHeld version steps list) where
    -- what the step looks at is kept
    pub looked-held : (k : ℕ) → LooksAtValue s.task k → IsHeldAt version (value_set steps k) list k
    looked-held k looks =
        let (d, below, seen, makes) = right.made_before now s at k looks in
        let (b, there) = ready k below (now, s, omega arith, at, looks) in
        (b, there, held k b there)

    module _ (c : Bor Command) (first : ℕ) (second : Option ℕ) (is : s.task ≡ Ask c first second) where
      pub first-held : IsHeldAt version (value_set steps first) list first
      first-held = looked-held first (subst (λ t. LooksAtValue t first) (sym is) (inl refl))

      second-at : (j : ℕ) → second ≡ Some j → IsHeldAt version (value_set steps j) list j
      second-at j e = looked-held j (subst (λ t. LooksAtValue t j) (sym is) (inr e))

      pub second-held : IfSome second (λ j. (t : Set) × IsHeldAt version t list j)
      second-held = of second (λ j e. second-at j e)
        where
          of : (o : Option ℕ) → ((j : ℕ) → o ≡ Some j → IsHeldAt version (value_set steps j) list j) → IfSome o (λ j. (t : Set) × IsHeldAt version t list j)
          of None h = tt
          of (Some j) h = (value_set steps j, h j refl)

      asks : AreAsked nodes steps → AsksRight nodes steps c.now first second × SpeaksOfFirst (length nodes) c.now
      asks asked = subst (AsksOf nodes steps) is (asked now s at)

      pub question-within : AreAsked nodes steps → (count : ℕ) × SpeaksOfFirst count c.now
      question-within asked = (length nodes, (asks asked).1)

      pub question-first : AreAsked nodes steps → IsAskedOf nodes c.now (λ s. IsHeldAt version s list first)
      question-first asked = asked-of c.now first (asks asked).0.first first-held

      pub question-second : AreAsked nodes steps → IsAskedOfOther nodes c.now second (λ j s. IsHeldAt version s list j)
      question-second asked = asked-other c.now second (asks asked).0.second second-at

-- what is asked of the node of the command
pub asked-node : (nodes : List Node) (c : Command) (P : Set → Type 0) (k : ℕ) → first_asked c ≡ Some k → IsAskedOf nodes c P → P (node_set nodes k)
asked-node nodes c P k is (n, e, h) =
    let both : Some n ≡ Some k = sym e ∙ is in
    let same : n ≡ k = cc in
    subst (λ z. P (node_set nodes z)) same h

-- a command that asks about two sets says whether they are one
pub same-written : (version : TextVersion) (nodes : List Node) (c : Command) (m n : ℕ) (piece : List ℕ) → first_asked c ≡ Some m → second_asked c ≡ Some n → IsSameAnswer (node_set nodes m) (node_set nodes n) piece → IsPiece version nodes c piece
same-written version nodes (command.Bind line k) m n piece first second is = absurd (none-some n second)
same-written version nodes (command.Turn line k j t) m n piece first second is = absurd (none-some n second)
same-written version nodes (command.Has line k p) m n piece first second is = absurd (none-some n second)
same-written version nodes (command.Joined line k p q) m n piece first second is = absurd (none-some n second)
same-written version nodes (command.Ray line k p d) m n piece first second is = absurd (none-some n second)
same-written version nodes (command.Count line k) m n piece first second is = absurd (none-some n second)
same-written version nodes (command.Print line k name) m n piece first second is = absurd (none-some n second)
same-written version nodes (command.Same line i j) m n piece first second is =
    let one : m ≡ i = cc in
    let two : n ≡ j = cc in
    subst (λ (z : ℕ × ℕ). IsSameAnswer (node_set nodes z.0) (node_set nodes z.1) piece) (λ t. (one t, two t)) is

-- an answer changes nothing that is kept
pub done-still : {Z : Type 0} (version : TextVersion) (steps : List Step) (now : ℕ) (s : Step) (c : Bor Command) (first : ℕ) (second : Option ℕ) (old new : List (Option (Box Held Z))) → slice_get steps now ≡ Some s → s.task ≡ Ask c first second → AreStill version old new → HasDone steps now old new
done-still version steps now s c first second old new at is still = record {
  count = still.count;
  stays = λ k awaited there. still.there k there;
  only = λ k (b, found). let (a, was, stays) = still.held k b found in inl (a, was);
  made = λ d found makes.
      let both : Some d ≡ Some s = sym found ∙ at in
      let same : d ≡ s = cc in
      absurd (subst MakesValue is (subst (λ (z : Step). MakesValue z.task) same makes));
}

-- the step asks the one question
pub one-asked : (s d : Step) (c : Bor Command) (first : ℕ) (second : Option ℕ) → Some s ≡ Some d → s.task ≡ Ask c first second → asked_values (d ∷ []) ≡ c.now ∷ []
one-asked s d c first second e is = let same : s ≡ d = cc in ap (λ t. questions_of t ++ []) (ap (λ (z : Step). z.task) (sym same) ∙ is)

-- a step that makes a value asks none, and writes nothing
none-asked : (t : Task) → MakesValue t → questions_of t ≡ []
none-asked (Make m) makes = refl
none-asked (Turn j n) makes = refl
none-asked (Ask c i second) makes = absurd makes

pub ends-silent : {A : Type 0} (version : TextVersion) (nodes : List Node) (s d : Step) (written : Option (List ℕ)) (faults : ℕ) (r : Result A Status) (a : A) → r ≡ Ok a → Some s ≡ Some d → MakesValue s.task → WorkEnds version nodes (asked_values (d ∷ [])) written written faults faults r
ends-silent version nodes s d written faults r a is e makes =
    let same : s ≡ d = cc in
    let none : asked_values (d ∷ []) ≡ [] = ap (λ z. z ++ []) (none-asked d.task (subst (λ (z : Step). MakesValue z.task) same makes)) in
    subst (λ (z : List Command). WorkEnds version nodes z written written faults faults r) (sym none) (rw is (record { done = ([], refl, grows-none written); quiet = refl; stopped = tt; front = tt }))
