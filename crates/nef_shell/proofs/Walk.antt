-- What the commands of a script write is what its lines say.
use Rattle.nef_shell.proofs.Prelude.{◌≡◌, ℕ, zero, suc, ◌+◌, Bool, true, false, List, [], ◌∷◌, ◌++◌, length, take, Some, refl, sym, subst, Set, vector, point_at, point_of, vector_of, same-point_sym, lines_of, words_of, TextVersion, Node, node_set, IsOrdered, binds, NamesNode, Sets, IsBinding, MeansCommand, MeansWords, MeansLines, MeansScript, has_words, bases_of, Verb, Command, Bind, Has, Joined, Ray, Same, Count, Print, text, Bindings, bound_set, bound_after, IsSaid, IsSaidBy, AreSaid, IsText, count-tells, IsPiece, IsOutput, SameDirection-turned}
use Rattle.nef_script.specs.declared.arguments.Verb.TheVariants as verb
use Rattle.nef_script.specs.declared.script.Command.TheVariants.{Turn}
use Rattle.nef_statement.proofs.Bound.{names_in, Agree, IsFound, named, bound-same}
use Rattle.nef_statement.proofs.Counts.{count-same}
use Rattle.nef_statement.proofs.Moved.{joined-answer-moved, ray-answer-moved, same-answer, joined-answer, ray-answer}
use Rattle.nef_statement.proofs.Walk.{no-words, Walked, begun, next, after-empty, none-left}
use Rattle.nef_unique.proofs.Sets.{label-moved}

-- ---- one line
module _ (version : TextVersion) (ss : Sets) (ordered : IsOrdered ss.nodes) (sets : Bindings) (agree : Agree ss.nodes sets ss.bound) where
  of : (word : List ℕ) (k : ℕ) → NamesNode (names_in sets) ss.bound word k → IsFound ss.nodes sets word k
  of word k h = named ss.nodes word sets ss.bound k agree h

  like : (c d : Command) (x : List ℕ) → c ≡ d → IsPiece version ss.nodes c x → IsPiece version ss.nodes d x
  like c d x e h = subst (λ (z : Command). IsPiece version ss.nodes z x) e h

  -- a command that binds its name to a set says nothing
  silent : (bases line : ℕ) (v : Verb) (args : List (List ℕ)) (k : ℕ) (c : Command) (x : List ℕ) → IsBinding (names_in sets) bases line v args ss k c → x ≡ [] → (s : Set) × (bound_set sets (Some v) args ≡ Some s) × (x ≡ [])
  silent bases line v args k c x is none = let (s, has, same) = bound-same ss ordered sets agree bases line v args k c is in (s, has, none)

  says : (bases line : ℕ) (v : Verb) (args : List (List ℕ)) (c : Command) (x : List ℕ) → MeansCommand (names_in sets) bases line v args (binds v) ss c → IsPiece version ss.nodes c x → IsSaid (IsText version) sets (Some v) args x
  says bases line verb.Half args c x (k, at, (n, is, node, o, e)) h = silent bases line verb.Half args k c x (n, is, node, o, e) (like c (Bind line k) x e h)
  says bases line verb.Empty args c x (k, at, (n, is, node, o, e)) h = silent bases line verb.Empty args k c x (n, is, node, o, e) (like c (Bind line k) x e h)
  says bases line verb.Full args c x (k, at, (n, is, node, o, e)) h = silent bases line verb.Full args k c x (n, is, node, o, e) (like c (Bind line k) x e h)
  says bases line verb.And args c x (k, at, (n, is, node, o, e)) h = silent bases line verb.And args k c x (n, is, node, o, e) (like c (Bind line k) x e h)
  says bases line verb.Or args c x (k, at, (n, is, node, o, e)) h = silent bases line verb.Or args k c x (n, is, node, o, e) (like c (Bind line k) x e h)
  says bases line verb.Diff args c x (k, at, (n, is, node, o, e)) h = silent bases line verb.Diff args k c x (n, is, node, o, e) (like c (Bind line k) x e h)
  says bases line verb.Xor args c x (k, at, (n, is, node, o, e)) h = silent bases line verb.Xor args k c x (n, is, node, o, e) (like c (Bind line k) x e h)
  says bases line verb.Not args c x (k, at, (n, is, node, o, e)) h = silent bases line verb.Not args k c x (n, is, node, o, e) (like c (Bind line k) x e h)
  says bases line verb.Int args c x (k, at, (n, is, node, o, e)) h = silent bases line verb.Int args k c x (n, is, node, o, e) (like c (Bind line k) x e h)
  says bases line verb.Cl args c x (k, at, (n, is, node, o, e)) h = silent bases line verb.Cl args k c x (n, is, node, o, e) (like c (Bind line k) x e h)
  says bases line verb.Bd args c x (k, at, (n, is, node, o, e)) h = silent bases line verb.Bd args k c x (n, is, node, o, e) (like c (Bind line k) x e h)
  says bases line verb.Reg args c x (k, at, (n, is, node, o, e)) h = silent bases line verb.Reg args k c x (n, is, node, o, e) (like c (Bind line k) x e h)
  says bases line verb.Turn (name ∷ operand ∷ number ∷ []) c x (k, at, (from, t, is, number_is, turn, copy, e)) h =
      silent bases line verb.Turn (name ∷ operand ∷ number ∷ []) k c x (from, t, is, number_is, turn, copy, e) (like c (Turn line k from t) x e h)
  says bases line verb.Has (name ∷ x ∷ y ∷ z ∷ w ∷ []) c r (k, p, is, (proper, at), e) h =
      let (s, found, same) = of name k is in
      let (l, has, f) = like c (Has line k p) r e h in
      (s, found, (proper, (l, label-moved s (point_of p) (point_at _ _ _ _ proper) l (same-point_sym _ _ at) ((same (point_of p) l).1 has), f)))
  says bases line verb.Joined (name ∷ x ∷ y ∷ z ∷ w ∷ x2 ∷ y2 ∷ z2 ∷ w2 ∷ []) c r (k, p, q, is, (proper, at), (proper', at'), e) h =
      let (s, found, same) = of name k is in
      let answer = joined-answer s (node_set ss.nodes k) (point_of p) (point_of q) r same (like c (Joined line k p q) r e h) in
      (s, found, (proper, (proper', joined-answer-moved s (point_of p) (point_of q) (point_at _ _ _ _ proper) (point_at _ _ _ _ proper') r (same-point_sym _ _ at) (same-point_sym _ _ at') answer)))
  says bases line verb.Ray (name ∷ x ∷ y ∷ z ∷ w ∷ dx ∷ dy ∷ dz ∷ []) c r (k, p, d, is, (proper, at), toward, e) h =
      let (s, found, same) = of name k is in
      let answer = ray-answer s (node_set ss.nodes k) (point_of p) (vector_of d) r same (like c (Ray line k p d) r e h) in
      (s, found, (proper, ray-answer-moved s (point_of p) (point_at _ _ _ _ proper) (vector_of d) (vector _ _ _) r (same-point_sym _ _ at) (SameDirection-turned _ _ toward) answer))
  says bases line verb.Same (left ∷ right ∷ []) c r (i, j, is, also, e) h =
      let (s, found, same) = of left i is in
      let (t, there, one) = of right j also in
      (s, found, (t, there, same-answer s t (node_set ss.nodes i) (node_set ss.nodes j) r same one (like c (Same line i j) r e h)))
  says bases line verb.Count (name ∷ []) c r (k, is, e) h =
      let (s, found, same) = of name k is in
      (s, found, count-same s (node_set ss.nodes k) r same (count-tells (node_set ss.nodes k) r (like c (Count line k) r e h)))
  says bases line verb.Print (name ∷ []) c r (k, is, e) h =
      let (s, found, same) = of name k is in
      let (b, p, S, P, f) = like c (Print line k name) r e h in
      (s, found, (text version b p, (node_set ss.nodes k, same, (b, p, S, P, refl)), f))
  says bases line verb.Turn args c r means h = absurd means.2
  says bases line v args c r means h = absurd means

  words-say : (bases line : ℕ) (words : List (List ℕ)) (c : Command) (x : List ℕ) → MeansWords (names_in sets) bases line words ss c → IsPiece version ss.nodes c x → IsSaidBy (IsText version) sets words x
  words-say bases line [] c x h is = absurd h
  words-say bases line (word ∷ args) c x (v, e, h) is = subst (λ o. IsSaid (IsText version) sets o args x) (sym e) (says bases line v args c x h is)

  -- a line without words says nothing
  none-said : (words : List (List ℕ)) → words ≡ [] → IsSaidBy (IsText version) sets words []
  none-said words none = subst (λ w. IsSaidBy (IsText version) sets w []) (sym none) refl

-- ---- all lines
module _ (version : TextVersion) (lines : List (List ℕ)) (ss : Sets) (commands : List Command) (means : MeansLines lines ss commands) (ordered : IsOrdered ss.nodes) where
  abbrev At : List (List ℕ) → List (List ℕ) → Bindings → List Command → List Command → Type 0
  At done rest sets front back = Walked lines ss commands done rest sets front back

  walk : (rest done : List (List ℕ)) (sets : Bindings) (front back : List Command) (output : List ℕ) → At done rest sets front back → IsOutput version ss.nodes back output → AreSaid (IsText version) sets rest output
  walk [] done sets front back output d is = subst (λ z. IsOutput version ss.nodes z output) (none-left lines ss commands means ordered done sets front back d) is
  walk (line ∷ rest) done sets front back output d is = by (walk rest (done ++ line ∷ [])) (has_words line) refl
    where
      by : ((sets : Bindings) (front back : List Command) (output : List ℕ) → At (done ++ line ∷ []) rest sets front back → IsOutput version ss.nodes back output → AreSaid (IsText version) sets rest output)
          → (t : Bool) → has_words line ≡ t → AreSaid (IsText version) sets (line ∷ rest) output
      by more true filled =
          let n = next lines ss commands means ordered done rest line sets front back d filled in
          let (piece, tail, first, later, whole) = subst (λ z. IsOutput version ss.nodes z output) n.is is in
          let said = words-say version ss ordered sets d.agree (bases_of done) (length done + 1) (words_of line) n.command piece n.means first in
          (piece, tail, said, more (bound_after sets (words_of line)) (front ++ n.command ∷ []) n.others tail n.after later, whole)
      by more false empty = (
        [],
        output,
        none-said version ss ordered sets d.agree (words_of line) (no-words (words_of line) empty),
        more (bound_after sets (words_of line)) front back output (after-empty lines ss commands means ordered done rest line sets front back d empty) is,
        refl,
      )

  -- and what the first commands write is what the first lines say
  no-output : (n : ℕ) (output : List ℕ) → IsOutput version ss.nodes (take n []) output → output ≡ []
  no-output zero output is = is
  no-output (suc n) output is = is

  walk-front : (rest done : List (List ℕ)) (sets : Bindings) (front back : List Command) (n : ℕ) (output : List ℕ) → At done rest sets front back → IsOutput version ss.nodes (take n back) output → (m : ℕ) × AreSaid (IsText version) sets (take m rest) output
  walk-front rest done sets front back zero output d is = (0, is)
  walk-front [] done sets front back (suc n) output d is = (0, no-output (suc n) output (subst (λ z. IsOutput version ss.nodes (take (suc n) z) output) (none-left lines ss commands means ordered done sets front back d) is))
  walk-front (line ∷ rest) done sets front back (suc n) output d is = by (walk-front rest (done ++ line ∷ [])) (has_words line) refl
    where
      by : ((sets : Bindings) (front back : List Command) (n : ℕ) (output : List ℕ) → At (done ++ line ∷ []) rest sets front back → IsOutput version ss.nodes (take n back) output → (m : ℕ) × AreSaid (IsText version) sets (take m rest) output)
          → (t : Bool) → has_words line ≡ t → (m : ℕ) × AreSaid (IsText version) sets (take m (line ∷ rest)) output
      by more true filled =
          let s = next lines ss commands means ordered done rest line sets front back d filled in
          let (piece, tail, first, later, whole) = subst (λ z. IsOutput version ss.nodes (take (suc n) z) output) s.is is in
          let said = words-say version ss ordered sets d.agree (bases_of done) (length done + 1) (words_of line) s.command piece s.means first in
          let (m, rests) = more (bound_after sets (words_of line)) (front ++ s.command ∷ []) s.others n tail s.after later in
          (suc m, (piece, tail, said, rests, whole))
      by more false empty =
          let (m, rests) = more (bound_after sets (words_of line)) front back (suc n) output (after-empty lines ss commands means ordered done rest line sets front back d empty) is in
          (suc m, ([], output, none-said version ss ordered sets d.agree (words_of line) (no-words (words_of line) empty), rests, refl))

-- what a script's commands write is what its lines say
pub output-said : (version : TextVersion) (bytes : List ℕ) (nodes : List Node) (commands : List Command) (output : List ℕ) → MeansScript bytes nodes commands → IsOutput version nodes commands output → AreSaid (IsText version) [] (lines_of bytes) output
output-said version bytes nodes commands output (ss, same, ordered, means, origins) is =
    walk version (lines_of bytes) ss commands means (subst IsOrdered (sym same) ordered) (lines_of bytes) [] [] [] commands output (begun (lines_of bytes) ss commands) (subst (λ ns. IsOutput version ns commands output) (sym same) is)

-- what its first commands write is what its first lines say
pub front-said : (version : TextVersion) (bytes : List ℕ) (nodes : List Node) (commands : List Command) (n : ℕ) (output : List ℕ) → MeansScript bytes nodes commands → IsOutput version nodes (take n commands) output → (m : ℕ) × AreSaid (IsText version) [] (take m (lines_of bytes)) output
front-said version bytes nodes commands n output (ss, same, ordered, means, origins) is =
    walk-front version (lines_of bytes) ss commands means (subst IsOrdered (sym same) ordered) (lines_of bytes) [] [] [] commands n output (begun (lines_of bytes) ss commands) (subst (λ ns. IsOutput version ns (take n commands) output) (sym same) is)
