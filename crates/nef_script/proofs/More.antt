-- What a line means stays with more names' nodes and more sets.
use Rattle.nef_script.proofs.Prelude.{◌≡◌, ℕ, Bool, true, false, List, [], ◌∷◌, Some, slice_get, refl, sym, subst, Node, IsCopyOf, Extends, slice_get-left, extends-turn, binds, is_own, NamesNode, IsNodeOfLine, IsQuestion, Sets, IsBind, IsTurn, IsBinding, MeansCommand, MeansWords, Verb, Command}
use Rattle.nef_script.specs.declared.arguments.Verb.TheVariants as verb

-- what is at a place stays there
pub extends-at : {A : Type 0} (xs ys : List A) (k : ℕ) (x : A) → Extends xs ys → slice_get xs k ≡ Some x → slice_get ys k ≡ Some x
extends-at xs ys k x (more, e) at = subst (λ zs. slice_get zs k ≡ Some x) (sym e) (slice_get-left xs more k x at)

module _ (names : List (List ℕ)) (old new : List ℕ) (more : Extends old new) where
  pub names-more : (word : List ℕ) (k : ℕ) → NamesNode names old word k → NamesNode names new word k
  names-more word k (i, at, is) = (i, at, extends-at old new i k more is)

  pub node-more : (v : Verb) (args : List (List ℕ)) (n : Node) → IsNodeOfLine names old v args n → IsNodeOfLine names new v args n
  node-more verb.Half (name ∷ a ∷ b ∷ c ∷ d ∷ mode ∷ []) n is = is
  node-more verb.Empty (name ∷ []) n is = is
  node-more verb.Full (name ∷ []) n is = is
  node-more verb.And (name ∷ left ∷ right ∷ []) n (i, j, p, q, is) = (i, j, names-more left i p, names-more right j q, is)
  node-more verb.Or (name ∷ left ∷ right ∷ []) n (i, j, p, q, is) = (i, j, names-more left i p, names-more right j q, is)
  node-more verb.Diff (name ∷ left ∷ right ∷ []) n (i, j, p, q, is) = (i, j, names-more left i p, names-more right j q, is)
  node-more verb.Xor (name ∷ left ∷ right ∷ []) n (i, j, p, q, is) = (i, j, names-more left i p, names-more right j q, is)
  node-more verb.Not (name ∷ operand ∷ []) n (i, p, is) = (i, names-more operand i p, is)
  node-more verb.Int (name ∷ operand ∷ []) n (i, p, is) = (i, names-more operand i p, is)
  node-more verb.Cl (name ∷ operand ∷ []) n (i, p, is) = (i, names-more operand i p, is)
  node-more verb.Bd (name ∷ operand ∷ []) n (i, p, is) = (i, names-more operand i p, is)
  node-more verb.Reg (name ∷ operand ∷ []) n (i, p, is) = (i, names-more operand i p, is)
  node-more v args n h = absurd h

  pub question-more : (line : ℕ) (v : Verb) (args : List (List ℕ)) (c : Command) → IsQuestion names old line v args c → IsQuestion names new line v args c
  question-more line verb.Has (name ∷ x ∷ y ∷ z ∷ w ∷ []) c (k, p, at, quotient, is) = (k, p, names-more name k at, quotient, is)
  question-more line verb.Joined (name ∷ x ∷ y ∷ z ∷ w ∷ x2 ∷ y2 ∷ z2 ∷ w2 ∷ []) c (k, p, q, at, first, second, is) = (k, p, q, names-more name k at, first, second, is)
  question-more line verb.Ray (name ∷ x ∷ y ∷ z ∷ w ∷ dx ∷ dy ∷ dz ∷ []) c (k, p, d, at, quotient, toward, is) = (k, p, d, names-more name k at, quotient, toward, is)
  question-more line verb.Same (left ∷ right ∷ []) c (i, j, p, q, is) = (i, j, names-more left i p, names-more right j q, is)
  question-more line verb.Count (name ∷ []) c (k, at, is) = (k, names-more name k at, is)
  question-more line verb.Print (name ∷ []) c (k, at, is) = (k, names-more name k at, is)
  question-more line v args c h = absurd h

-- a line of its own adds a node
pub own-binding : (names : List (List ℕ)) (bases line : ℕ) (v : Verb) (args : List (List ℕ)) (sets : Sets) (k : ℕ) (c : Command) → is_own v ≡ true → IsBind names bases line v args sets k c → IsBinding names bases line v args sets k c
own-binding names bases line verb.Half args sets k c own is = is
own-binding names bases line verb.Empty args sets k c own is = is
own-binding names bases line verb.Full args sets k c own is = is
own-binding names bases line verb.And args sets k c own is = is
own-binding names bases line verb.Or args sets k c own is = is
own-binding names bases line verb.Diff args sets k c own is = is
own-binding names bases line verb.Xor args sets k c own is = is
own-binding names bases line verb.Not args sets k c own is = is
own-binding names bases line verb.Int args sets k c own is = is
own-binding names bases line verb.Cl args sets k c own is = is
own-binding names bases line verb.Bd args sets k c own is = is
own-binding names bases line verb.Reg args sets k c own is = is
own-binding names bases line verb.Turn args sets k c own is = cc
own-binding names bases line verb.Has args sets k c own is = cc
own-binding names bases line verb.Joined args sets k c own is = cc
own-binding names bases line verb.Ray args sets k c own is = cc
own-binding names bases line verb.Same args sets k c own is = cc
own-binding names bases line verb.Count args sets k c own is = cc
own-binding names bases line verb.Print args sets k c own is = cc

pub own-binds : (v : Verb) → is_own v ≡ true → binds v ≡ true
own-binds verb.Half own = refl
own-binds verb.Empty own = refl
own-binds verb.Full own = refl
own-binds verb.And own = refl
own-binds verb.Or own = refl
own-binds verb.Diff own = refl
own-binds verb.Xor own = refl
own-binds verb.Not own = refl
own-binds verb.Int own = refl
own-binds verb.Cl own = refl
own-binds verb.Bd own = refl
own-binds verb.Reg own = refl
own-binds verb.Turn own = cc
own-binds verb.Has own = cc
own-binds verb.Joined own = cc
own-binds verb.Ray own = cc
own-binds verb.Same own = cc
own-binds verb.Count own = cc
own-binds verb.Print own = cc

pub ask-owns : (v : Verb) → binds v ≡ false → is_own v ≡ false
ask-owns verb.Half asks = cc
ask-owns verb.Empty asks = cc
ask-owns verb.Full asks = cc
ask-owns verb.And asks = cc
ask-owns verb.Or asks = cc
ask-owns verb.Diff asks = cc
ask-owns verb.Xor asks = cc
ask-owns verb.Not asks = cc
ask-owns verb.Int asks = cc
ask-owns verb.Cl asks = cc
ask-owns verb.Bd asks = cc
ask-owns verb.Reg asks = cc
ask-owns verb.Turn asks = cc
ask-owns verb.Has asks = refl
ask-owns verb.Joined asks = refl
ask-owns verb.Ray asks = refl
ask-owns verb.Same asks = refl
ask-owns verb.Count asks = refl
ask-owns verb.Print asks = refl

-- ---- more sets
pub record MoreSets (old new : Sets) : Type 0 where
  pub nodes : Extends old.nodes new.nodes
  pub origins : Extends old.origins new.origins
  pub bound : Extends old.bound new.bound

module _ (old new : Sets) (more : MoreSets old new) (names : List (List ℕ)) (bases line : ℕ) where
  copy-more : (t k l : ℕ) → IsCopyOf old.origins t k l → IsCopyOf new.origins t k l
  copy-more t k l h = record { of = h.of; copy = h.copy; of_is = extends-at old.origins new.origins k h.of more.origins h.of_is; copy_is = extends-at old.origins new.origins l h.copy more.origins h.copy_is; same_base = h.same_base; composed = h.composed }

  bind-more : (v : Verb) (args : List (List ℕ)) (k : ℕ) (c : Command) → IsBind names bases line v args old k c → IsBind names bases line v args new k c
  bind-more v args k c (n, at, is, origin, e) = (n, extends-at old.nodes new.nodes k n more.nodes at, node-more names old.bound new.bound more.bound v args n is, extends-at old.origins new.origins k _ more.origins origin, e)

  turn-more : (args : List (List ℕ)) (k : ℕ) (c : Command) → IsTurn names line args old k c → IsTurn names line args new k c
  turn-more [] k c h = absurd h
  turn-more (name ∷ []) k c h = absurd h
  turn-more (name ∷ operand ∷ []) k c h = absurd h
  turn-more (name ∷ operand ∷ number ∷ []) k c (from, t, at, number_is, turn, copy, e) = (from, t, names-more names old.bound new.bound more.bound operand from at, number_is, extends-turn old.nodes new.nodes t from k more.nodes turn, copy-more t from k copy, e)
  turn-more (name ∷ operand ∷ number ∷ other ∷ rest) k c h = absurd h

  binding-more : (v : Verb) (args : List (List ℕ)) (k : ℕ) (c : Command) → IsBinding names bases line v args old k c → IsBinding names bases line v args new k c
  binding-more verb.Turn args k c is = turn-more args k c is
  binding-more verb.Half args k c is = bind-more verb.Half args k c is
  binding-more verb.Empty args k c is = bind-more verb.Empty args k c is
  binding-more verb.Full args k c is = bind-more verb.Full args k c is
  binding-more verb.And args k c is = bind-more verb.And args k c is
  binding-more verb.Or args k c is = bind-more verb.Or args k c is
  binding-more verb.Diff args k c is = bind-more verb.Diff args k c is
  binding-more verb.Xor args k c is = bind-more verb.Xor args k c is
  binding-more verb.Not args k c is = bind-more verb.Not args k c is
  binding-more verb.Int args k c is = bind-more verb.Int args k c is
  binding-more verb.Cl args k c is = bind-more verb.Cl args k c is
  binding-more verb.Bd args k c is = bind-more verb.Bd args k c is
  binding-more verb.Reg args k c is = bind-more verb.Reg args k c is
  binding-more verb.Has args k c is = bind-more verb.Has args k c is
  binding-more verb.Joined args k c is = bind-more verb.Joined args k c is
  binding-more verb.Ray args k c is = bind-more verb.Ray args k c is
  binding-more verb.Same args k c is = bind-more verb.Same args k c is
  binding-more verb.Count args k c is = bind-more verb.Count args k c is
  binding-more verb.Print args k c is = bind-more verb.Print args k c is

  pub command-more : (v : Verb) (args : List (List ℕ)) (t : Bool) (c : Command) → MeansCommand names bases line v args t old c → MeansCommand names bases line v args t new c
  command-more v args true c (k, at, is) = (k, extends-at old.bound new.bound _ k more.bound at, binding-more v args k c is)
  command-more v args false c is = question-more names old.bound new.bound more.bound line v args c is

  pub words-more : (words : List (List ℕ)) (c : Command) → MeansWords names bases line words old c → MeansWords names bases line words new c
  words-more [] c means = means
  words-more (word ∷ args) c (v, is, means) = (v, is, command-more v args (binds v) c means)
