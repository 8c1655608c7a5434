-- What lines say is one.
use Rattle.nef_statement.proofs.Prelude.{◌≡◌, ℕ, ℤ, pos, ◌<ℤ◌, zero, suc, refl, sym, ap, ◌∙◌, subst, List, [], ◌∷◌, ◌++◌, take, Option, Some, append_assoc, props, HasLabel, SpacePoint, Set, vector, Label, label-one, point_at, words_of, verb_of, number_or_zero, Verb, IsSameAnswer, IsJoinedAnswer, IsRayAnswer, framed, answer_of, Bindings, set_named, bound_after, CountTells, IsSaid, IsSaidBy, AreSaid}
use Rattle.nef_script.specs.declared.arguments.Verb.TheVariants as verb
use Rattle.nef_statement.proofs.Answered.{answered-one, joined-one, ended-one}
use Rattle.nef_statement.proofs.Counts.{count-one}

-- ---- points
positive-prop : (w : ℤ) → IsProp (pos 0 <ℤ w)
positive-prop w = hlevel props

abbrev point : (a b c w : List ℕ) → pos 0 <ℤ number_or_zero w → SpacePoint
point a b c w h = point_at (number_or_zero a) (number_or_zero b) (number_or_zero c) (number_or_zero w) h

-- what is so of a point is so whatever shows that its w is positive
again : (P : SpacePoint → Type 0) (a b c w : List ℕ) (h k : pos 0 <ℤ number_or_zero w) → P (point a b c w k) → P (point a b c w h)
again P a b c w h k so = subst (λ (i : pos 0 <ℤ number_or_zero w). P (point a b c w i)) (positive-prop (number_or_zero w) k h) so

-- the answer to what the label of s is at p
abbrev IsLabelAnswer : Set → SpacePoint → List ℕ → Type 0
IsLabelAnswer s p said = (l : Label) × HasLabel s p l × (said ≡ answer_of l)

-- ---- lines
module _ (Text : Set → List ℕ → Type 0) (one : (s : Set) (x y : List ℕ) → Text s x → Text s y → x ≡ y) where
  -- a name has one set
  set-one : (o : Option Set) (s t : Set) → o ≡ Some s → o ≡ Some t → s ≡ t
  set-one o s t e f = let g : Some s ≡ Some t = sym e ∙ f in cc

  -- what is so of the set of a name is so of the set that is found
  named-again : (sets : Bindings) (name : List ℕ) (P : Set → Type 0) (s t : Set) → set_named sets name ≡ Some s → set_named sets name ≡ Some t → P t → P s
  named-again sets name P s t e f so = subst P (set-one (set_named sets name) t s f e) so

  command-one : (sets : Bindings) (o : Option Verb) (args : List (List ℕ)) (x y : List ℕ) → IsSaid Text sets o args x → IsSaid Text sets o args y → x ≡ y
  command-one sets (Some verb.Has) (name ∷ a ∷ b ∷ c ∷ w ∷ []) x y (s, is, (p, (l, h, e))) (t, also, (q, k)) =
      let (m, i, f) = again (λ r. IsLabelAnswer s r y) a b c w p q (named-again sets name (λ u. IsLabelAnswer u (point a b c w q) y) s t is also k) in
      e ∙ ap answer_of (label-one s (point a b c w p) l m h i) ∙ sym f
  command-one sets (Some verb.Joined) (name ∷ a ∷ b ∷ c ∷ w ∷ a2 ∷ b2 ∷ c2 ∷ w2 ∷ []) x y (s, is, (p, (q, h))) (t, also, (p', (q', k))) =
      joined-one s (point a b c w p) (point a2 b2 c2 w2 q) x y h
      (again (λ r. IsJoinedAnswer s r (point a2 b2 c2 w2 q) y) a b c w p p'
      (again (λ r. IsJoinedAnswer s (point a b c w p') r y) a2 b2 c2 w2 q q'
      (named-again sets name (λ u. IsJoinedAnswer u (point a b c w p') (point a2 b2 c2 w2 q') y) s t is also k)))
  command-one sets (Some verb.Ray) (name ∷ a ∷ b ∷ c ∷ w ∷ da ∷ db ∷ dc ∷ []) x y (s, is, (p, h)) (t, also, (p', k)) =
      let d = vector (number_or_zero da) (number_or_zero db) (number_or_zero dc) in
      ended-one s (point a b c w p) d x y h (again (λ r. IsRayAnswer s r d y) a b c w p p' (named-again sets name (λ u. IsRayAnswer u (point a b c w p') d y) s t is also k))
  command-one sets (Some verb.Same) (left ∷ right ∷ []) x y (s, is, (t, at, h)) (s', is', (t', at', k)) =
      answered-one s t x y h (named-again sets right (λ u. IsSameAnswer s u y) t t' at at' (named-again sets left (λ u. IsSameAnswer u t' y) s s' is is' k))
  command-one sets (Some verb.Count) (name ∷ []) x y (s, is, h) (t, also, k) = count-one s x y h (named-again sets name (λ u. CountTells u y) s t is also k)
  command-one sets (Some verb.Print) (name ∷ []) x y (s, is, (u, h, e)) (t, also, (v, k, f)) = e ∙ ap (framed name) (one s u v h (named-again sets name (λ z. Text z v) s t is also k)) ∙ sym f
  command-one sets o args x y h k = h.2 ∙ sym k.2

  line-one : (sets : Bindings) (words : List (List ℕ)) (x y : List ℕ) → IsSaidBy Text sets words x → IsSaidBy Text sets words y → x ≡ y
  line-one sets [] x y h k = h ∙ sym k
  line-one sets (word ∷ args) x y h k = command-one sets (verb_of word) args x y h k

  pub said-one : (sets : Bindings) (lines : List (List ℕ)) (x y : List ℕ) → AreSaid Text sets lines x → AreSaid Text sets lines y → x ≡ y
  said-one sets [] x y h k = h ∙ sym k
  said-one sets (line ∷ lines) x y (u, v, first, rest, whole) (u', v', first', rest', whole') =
      whole ∙ ap (λ z. z ++ v) (line-one sets (words_of line) u u' first first') ∙ ap (λ z. u' ++ z) (said-one (bound_after sets (words_of line)) lines v v' rest rest') ∙ sym whole'

-- the first of the lines of which all is said say something, which is a front of it
pub first-said : (Text : Set → List ℕ → Type 0) (sets : Bindings) (lines : List (List ℕ)) (n : ℕ) (x : List ℕ) → AreSaid Text sets lines x → (y : List ℕ) × (rest : List ℕ) × AreSaid Text sets (take n lines) y × (x ≡ y ++ rest)
first-said Text sets lines zero x h = ([], x, refl, refl)
first-said Text sets [] (suc n) x h = ([], x, refl, refl)
first-said Text sets (line ∷ lines) (suc n) x (u, v, first, more, whole) =
    let (y, rest, said, e) = first-said Text (bound_after sets (words_of line)) lines n v more in
    (u ++ y, rest, (u, y, first, said, refl), whole ∙ ap (λ z. u ++ z) e ∙ sym (append_assoc u y rest))
