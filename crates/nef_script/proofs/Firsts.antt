-- The first kinds that hold.
use Rattle.nef_script.proofs.Prelude.{◌≡◌, ℕ, ◌+◌, ◌<◌, ◌≤◌, Bool, true, false, ◌||◌, ◌&&◌, not, cond, nat_le, List, [], ◌∷◌, length, Option, Some, None, Result, Ok, Err, IfOk, refl, sym, ◌∙◌, ap, subst, arith, le-leb, leb-true, ltb-true, IsErrAnd, nat_lt, err_from_is_err_and, list_any, position, bytes_eq, kinds, command_test, roles, begins_new, is_own, name_count_limit, word_test, has_zero_normal, has_zero_direction, kind_number, first_kind_of, earlier, both, IsRead, is_normal, is_direction, some_fails, no_room, roles_test, IsNewName, BindsNew, IsStatement, Node, IsNodeOfLine, Statement, Ask, Print, Verb, Role, NewName, Operand, ScriptKind}
use Rattle.std.proofs.Common.{find}
use Rattle.nef_lex.specs.Names.{is_name}
use Rattle.nef_script.specs.declared.statement.Statement.TheVariants.{Bind, Turn}
use Rattle.nef_script.specs.declared.script.ScriptKind.TheVariants as kind

-- the earlier of two kinds that may be there
abbrev pub first_some : Option ScriptKind → Option ScriptKind → Option ScriptKind
first_some None o = o
first_some (Some j) None = Some j
first_some (Some j) (Some k) = Some (earlier j k)

-- the kinds stand in their order, from this place on
abbrev Ascend : ℕ → List ScriptKind → Type 0
Ascend n [] = Unit {0}
Ascend n (k ∷ ks) = (n ≤ kind_number k) × Ascend (kind_number k + 1) ks

found-after : (holds : ScriptKind → Bool) (n : ℕ) (ks : List ScriptKind) (k : ScriptKind) → Ascend n ks → find holds ks ≡ Some k → n ≤ kind_number k
found-after holds n [] k up e = cc
found-after holds n (j ∷ ks) k up e = by (holds j) e (found-after holds (kind_number j + 1) ks k up.1)
  where
    by : (t : Bool) → cond t (Some j) (find holds ks) ≡ Some k → (find holds ks ≡ Some k → kind_number j + 1 ≤ kind_number k) → n ≤ kind_number k
    by true same later = (let at : j ≡ k = cc in subst (λ i. n ≤ kind_number i) at up.0)
    by false found later =
        let after = later found in
        let first = up.0 in
        omega (arith, after, first)

earlier-left : (j k : ScriptKind) → kind_number j ≤ kind_number k → earlier j k ≡ j
earlier-left j k le = ap (λ t. cond t j k) (le-leb (kind_number j) (kind_number k) le)

pub above : (m n : ℕ) → n < m → nat_le m n ≡ false
above m n lt = by (nat_le m n) refl
  where
    by : (t : Bool) → nat_le m n ≡ t → t ≡ false
    by true is = (let le = leb-true m n is in absurd (omega (arith, le, lt)))
    by false is = refl

pub no-more : (m n : ℕ) → n ≤ m → nat_lt m n ≡ false
no-more m n le = by (nat_lt m n) refl
  where
    by : (t : Bool) → nat_lt m n ≡ t → t ≡ false
    by true is = (let lt = ltb-true m n is in absurd (omega (arith, le, lt)))
    by false is = refl

earlier-right : (j k : ScriptKind) → kind_number k < kind_number j → earlier j k ≡ k
earlier-right j k lt = ap (λ t. cond t j k) (above (kind_number j) (kind_number k) lt)

find-either : (s t : ScriptKind → Bool) (n : ℕ) (ks : List ScriptKind) → Ascend n ks → find (λ k. s k || t k) ks ≡ first_some (find s ks) (find t ks)
find-either s t n [] up = refl
find-either s t n (k ∷ ks) up = by (s k) (t k) (find s ks) (find t ks) (find-either s t (kind_number k + 1) ks up.1) (λ j e. found-after s (kind_number k + 1) ks j up.1 e) (λ j e. found-after t (kind_number k + 1) ks j up.1 e)
  where
    by : (a b : Bool) (o p : Option ScriptKind) → find (λ k. s k || t k) ks ≡ first_some o p → ((j : ScriptKind) → o ≡ Some j → kind_number k + 1 ≤ kind_number j) → ((j : ScriptKind) → p ≡ Some j → kind_number k + 1 ≤ kind_number j) → cond (a || b) (Some k) (find (λ k. s k || t k) ks) ≡ first_some (cond a (Some k) o) (cond b (Some k) p)
    by true true o p later above below = sym (ap Some (earlier-left k k (omega arith)))
    by true false o None later above below = refl
    by true false o (Some j) later above below = (let at = below j refl in sym (ap Some (earlier-left k j (omega (arith, at)))))
    by false true None p later above below = refl
    by false true (Some j) p later above below = (let at = above j refl in sym (ap Some (earlier-right j k (omega (arith, at)))))
    by false false o p later above below = later

all-ascend : Ascend 0 kinds
all-ascend = (omega arith, (omega arith, (omega arith, (omega arith, (omega arith, (omega arith, (omega arith, (omega arith, (omega arith, (omega arith, (omega arith, tt)))))))))))

pub first-either : (s t : ScriptKind → Bool) → first_kind_of (λ k. s k || t k) ≡ first_some (first_kind_of s) (first_kind_of t)
first-either s t = find-either s t 0 kinds all-ascend

find-same : (s t : ScriptKind → Bool) (ks : List ScriptKind) → ((k : ScriptKind) → s k ≡ t k) → find s ks ≡ find t ks
find-same s t [] same = refl
find-same s t (k ∷ ks) same = ap (λ b. cond b (Some k) (find s ks)) (same k) ∙ ap (cond (t k) (Some k)) (find-same s t ks same)

pub first-same : (s t : ScriptKind → Bool) → ((k : ScriptKind) → s k ≡ t k) → first_kind_of s ≡ first_kind_of t
first-same s t same = find-same s t kinds same

pub or_none : (a : Bool) → a ≡ (a || false)
or_none true = refl
or_none false = refl

-- ---- readings

-- by tests that say the same
pub IsRead-same : {X : Type 0} (s t : ScriptKind → Bool) (P : X → Type 0) (r : Result X ScriptKind) → ((k : ScriptKind) → s k ≡ t k) → IsRead s P r → IsRead t P r
IsRead-same s t P r same read = record { refusal = read.refusal ∙ first-same s t same; value = read.value }

-- what is made of a value that was read, or its refusal passed on, by tests that say the same
module _ {X Y : Type 0} (s t : ScriptKind → Bool) (P : X → Type 0) (Q : Y → Type 0) (r : Result X ScriptKind) (read : IsRead s P r) (same : (k : ScriptKind) → s k ≡ t k) where
  pub IsRead-made : (x : X) (y : Y) → r ≡ Ok x → (P x → Q y) → IsRead t Q (Ok y)
  IsRead-made x y e made = (let here = subst (IsRead t P) e (IsRead-same s t P r same read) in record { refusal = here.refusal; value = made here.value })

  pub IsRead-passed : (k : ScriptKind) → r ≡ Err k → IsRead t Q (Err k)
  IsRead-passed k e = (let here = subst (IsRead t P) e (IsRead-same s t P r same read) in record { refusal = here.refusal; value = tt })

  pub IsRead-returned : (k : ScriptKind) (f : Result Y ScriptKind) → r ≡ Err k → IsErrAnd f (λ j. j ≡ k) → IsRead t Q f
  IsRead-returned k f e is = (let gave = err_from_is_err_and f is in subst (IsRead t Q) (sym gave.1) (IsRead-passed gave.0 (e ∙ ap Err (sym gave.2))))

module _ {X Y : Type 0} (s t : ScriptKind → Bool) (P : X → Type 0) (Q : Y → Type 0) where
  pub IsRead-both : (a : Result X ScriptKind) (b : Result Y ScriptKind) → IsRead s P a → IsRead t Q b → IsRead (λ k. s k || t k) (λ (p : X × Y). P p.0 × Q p.1) (both a b)
  IsRead-both a b first second = by a b first second
    where
      firsts : (o p : Option ScriptKind) → o ≡ first_kind_of s → p ≡ first_kind_of t → first_some o p ≡ first_kind_of (λ k. s k || t k)
      firsts o p e f = ap (λ x. first_some x p) e ∙ ap (first_some (first_kind_of s)) f ∙ sym (first-either s t)

      by : (a : Result X ScriptKind) (b : Result Y ScriptKind) → IsRead s P a → IsRead t Q b → IsRead (λ k. s k || t k) (λ (p : X × Y). P p.0 × Q p.1) (both a b)
      by (Ok x) (Ok y) f g = record { refusal = firsts None None f.refusal g.refusal; value = (f.value, g.value) }
      by (Ok x) (Err k) f g = record { refusal = firsts None (Some k) f.refusal g.refusal; value = tt }
      by (Err j) (Ok y) f g = record { refusal = firsts (Some j) None f.refusal g.refusal; value = tt }
      by (Err j) (Err k) f g = record { refusal = firsts (Some j) (Some k) f.refusal g.refusal; value = tt }

-- words with their roles, one after the other
module _ {X Y Z : Type 0} (names : List (List ℕ)) (q r t : Role) (a b c : List ℕ) (P : X → Type 0) (Q : Y → Type 0) (R : Z → Type 0) where
  pub IsRead-three : (f : Result X ScriptKind) (g : Result Y ScriptKind) (h : Result Z ScriptKind) → IsRead (λ k. word_test k names (q, a)) P f → IsRead (λ k. word_test k names (r, b)) Q g → IsRead (λ k. word_test k names (t, c)) R h → IsRead (some_fails names (q ∷ r ∷ t ∷ []) (a ∷ b ∷ c ∷ [])) (λ (p : X × (Y × Z)). P p.0 × (Q p.1.0 × R p.1.1)) (both f (both g h))
  IsRead-three f g h x y z =
      let last = IsRead-both (λ k. word_test k names (r, b)) (λ k. word_test k names (t, c)) Q R g h y z in
      let all = IsRead-both (λ k. word_test k names (q, a)) (λ k. word_test k names (r, b) || word_test k names (t, c)) P (λ (p : Y × Z). Q p.0 × R p.1) f (both g h) x last in
      IsRead-same _ _ _ (both f (both g h)) (λ k. ap (λ o. word_test k names (q, a) || (word_test k names (r, b) || o)) (or_none (word_test k names (t, c)))) all

module _ {X Y Z W : Type 0} (names : List (List ℕ)) (q r t u : Role) (a b c d : List ℕ) (P : X → Type 0) (Q : Y → Type 0) (R : Z → Type 0) (S : W → Type 0) where
  pub IsRead-four : (f : Result X ScriptKind) (g : Result Y ScriptKind) (h : Result Z ScriptKind) (i : Result W ScriptKind) → IsRead (λ k. word_test k names (q, a)) P f → IsRead (λ k. word_test k names (r, b)) Q g → IsRead (λ k. word_test k names (t, c)) R h → IsRead (λ k. word_test k names (u, d)) S i → IsRead (some_fails names (q ∷ r ∷ t ∷ u ∷ []) (a ∷ b ∷ c ∷ d ∷ [])) (λ (p : X × (Y × (Z × W))). P p.0 × (Q p.1.0 × (R p.1.1.0 × S p.1.1.1))) (both f (both g (both h i)))
  IsRead-four f g h i x y z w = IsRead-both (λ k. word_test k names (q, a)) (some_fails names (r ∷ t ∷ u ∷ []) (b ∷ c ∷ d ∷ [])) P (λ (p : Y × (Z × W)). Q p.0 × (R p.1.0 × S p.1.1)) f (both g (both h i)) x (IsRead-three names r t u b c d Q R S g h i y z w)

-- a number that is refused is refused before zeros are
pub place-number : (a b : Bool) (k : ScriptKind) → Some k ≡ cond a (Some kind.NotANumber) (cond b (Some kind.OutOfRange) None) → kind_number k ≤ 8
place-number true b k e = (let is : k ≡ kind.NotANumber = cc in subst (λ j. kind_number j ≤ 8) (sym is) (omega arith))
place-number false true k e = (let is : k ≡ kind.OutOfRange = cc in subst (λ j. kind_number j ≤ 8) (sym is) (omega arith))
place-number false false k e = cc

module _ (s t : ScriptKind → Bool) (zero : ScriptKind) (b : Bool) (after : first_kind_of t ≡ cond b (Some zero) None) where
  pub zeros-none : None ≡ first_kind_of s → cond b (Some zero) None ≡ first_kind_of (λ k. s k || t k)
  zeros-none e = sym after ∙ ap (λ o. first_some o (first_kind_of t)) e ∙ sym (first-either s t)

  pub zeros-some : (k : ScriptKind) → Some k ≡ first_kind_of s → kind_number k ≤ kind_number zero → Some k ≡ first_kind_of (λ k. s k || t k)
  zeros-some k e le = by b ∙ ap (first_some (Some k)) (sym after) ∙ ap (λ o. first_some o (first_kind_of t)) e ∙ sym (first-either s t)
    where
      by : (b : Bool) → Some k ≡ first_some (Some k) (cond b (Some zero) None)
      by true = sym (ap Some (earlier-left k zero le))
      by false = refl

-- what is refused before zeros are looked at is refused with them too
pub IsRead-unless : {X Y : Type 0} (s t : ScriptKind → Bool) (zero : ScriptKind) (b : Bool) → first_kind_of t ≡ cond b (Some zero) None → (P : X → Type 0) (Q : Y → Type 0) (r : Result X ScriptKind) → IsRead s P r → ((k : ScriptKind) → Some k ≡ first_kind_of s → kind_number k ≤ kind_number zero) → (k : ScriptKind) (f : Result Y ScriptKind) → r ≡ Err k → IsErrAnd f (λ j. j ≡ k) → IsRead (λ k. s k || t k) Q f
IsRead-unless s t zero b after P Q r read early k f e is =
    let gave = err_from_is_err_and f is in
    let here = (subst (IsRead s P) (e ∙ ap Err (sym gave.2)) read).refusal in
    subst (IsRead (λ k. s k || t k) Q) (sym gave.1) (record { refusal = zeros-some s t zero b after gave.0 here (early gave.0 here); value = tt })

-- ---- the tests of a command, and those of its roles

pub swap : (a b c : Bool) → ((a || b) || c) ≡ ((a || c) || b)
swap true b c = refl
swap false true true = refl
swap false true false = refl
swap false false true = refl
swap false false false = refl

-- what of zeros is tested of a command
abbrev pub zero_test : Verb → List (List ℕ) → ScriptKind → Bool
zero_test v args k = (has_zero_normal v args && is_normal k) || (has_zero_direction v args && is_direction k)

and_none : (a : Bool) → (a && false) ≡ false
and_none true = refl
and_none false = refl

and_all : (a : Bool) → (a && true) ≡ a
and_all true = refl
and_all false = refl

or_all : (a b : Bool) → b ≡ false → (a || b) ≡ a
or_all a b e = ap (λ x. a || x) e ∙ sym (or_none a)

none-fails : (k : ScriptKind) (names : List (List ℕ)) → ((r : Role) (w : List ℕ) → word_test k names (r, w) ≡ false) → (rs : List Role) (ws : List (List ℕ)) → some_fails names rs ws k ≡ false
none-fails k names none [] ws = refl
none-fails k names none (r ∷ rs) [] = refl
none-fails k names none (r ∷ rs) (w ∷ ws) = ap (λ b. b || some_fails names rs ws k) (none r w) ∙ none-fails k names none rs ws

-- which of the tests a kind is for
module _ (x w b y z : Bool) where
  of_words : (((x && false) || (w || (b && false))) || ((y && false) || (z && false))) ≡ w
  of_words = rw (and_none x, and_none b, and_none y, and_none z) (sym (or_none (w || false)) ∙ sym (or_none w))

  of_count : w ≡ false → (((x && true) || (w || (b && false))) || ((y && false) || (z && false))) ≡ x
  of_count e = rw (e, and_all x, and_none b, and_none y, and_none z) (sym (or_none (x || false)) ∙ sym (or_none x))

  of_room : (n : Bool) → w ≡ false → (((x && false) || (w || (b && n))) || ((y && false) || (z && false))) ≡ (b && n)
  of_room n e = rw (e, and_none x, and_none y, and_none z) (sym (or_none (b && n)))

  of_normal : w ≡ false → (((x && false) || (w || (b && false))) || ((y && true) || (z && false))) ≡ y
  of_normal e = rw (e, and_none x, and_none b, and_all y, and_none z) (sym (or_none y))

  of_direction : w ≡ false → (((x && false) || (w || (b && false))) || ((y && false) || (z && true))) ≡ z
  of_direction e = rw (e, and_none x, and_none b, and_none y, and_all z) refl

-- the tests of a command are those of its roles, and of zeros
pub command-roles : (k : ScriptKind) (names : List (List ℕ)) (v : Verb) (args : List (List ℕ)) → (roles_test names (roles v) args k || zero_test v args k) ≡ command_test k names v args
command-roles kind.WordCount names v args = of_count _ _ _ _ _ (none-fails kind.WordCount names (λ r w. refl) (roles v) args)
command-roles kind.ZeroNormal names v args = of_normal _ _ _ _ _ (none-fails kind.ZeroNormal names (λ r w. refl) (roles v) args)
command-roles kind.ZeroDirection names v args = of_direction _ _ _ _ _ (none-fails kind.ZeroDirection names (λ r w. refl) (roles v) args)
command-roles kind.TooManyNames names v args = of_room _ _ (begins_new (roles v)) _ _ (nat_le name_count_limit (length names)) (none-fails kind.TooManyNames names (λ r w. refl) (roles v) args)
command-roles kind.LineTooLong names v args = of_words _ _ _ _ _
command-roles kind.BadByte names v args = of_words _ _ _ _ _
command-roles kind.UnknownCommand names v args = of_words _ _ _ _ _
command-roles kind.BadName names v args = of_words _ _ _ _ _
command-roles kind.NameTaken names v args = of_words _ _ _ _ _
command-roles kind.UnknownName names v args = of_words _ _ _ _ _
command-roles kind.NotANumber names v args = of_words _ _ _ _ _
command-roles kind.OutOfRange names v args = of_words _ _ _ _ _
command-roles kind.BadMode names v args = of_words _ _ _ _ _
command-roles kind.BadWeight names v args = of_words _ _ _ _ _
command-roles kind.ScriptTooLong names v args = of_words _ _ _ _ _

pub plain-roles : (k : ScriptKind) (names : List (List ℕ)) (v : Verb) (args : List (List ℕ)) → zero_test v args k ≡ false → roles_test names (roles v) args k ≡ command_test k names v args
plain-roles k names v args none = sym (or_all _ _ none) ∙ command-roles k names v args

-- ---- names

pub new-first : (names : List (List ℕ)) (w : List ℕ) (a b f : Bool) → is_name w ≡ a → list_any (bytes_eq w) names ≡ b → nat_le name_count_limit (length names) ≡ f → first_kind_of (λ k. word_test k names (NewName, w) || no_room names k) ≡ cond (not a || false) (Some kind.BadName) (cond (b || false) (Some kind.NameTaken) (cond f (Some kind.TooManyNames) None))
new-first names w a b f is among full = ap (λ x. cond (not x || false) (Some kind.BadName) (cond (list_any (bytes_eq w) names || false) (Some kind.NameTaken) (cond (nat_le name_count_limit (length names)) (Some kind.TooManyNames) None))) is ∙ ap (λ x. cond (not a || false) (Some kind.BadName) (cond (x || false) (Some kind.NameTaken) (cond (nat_le name_count_limit (length names)) (Some kind.TooManyNames) None))) among ∙ ap (λ x. cond (not a || false) (Some kind.BadName) (cond (b || false) (Some kind.NameTaken) (cond x (Some kind.TooManyNames) None))) full

pub known-first : (names : List (List ℕ)) (w : List ℕ) (a b : Bool) → is_name w ≡ a → list_any (bytes_eq w) names ≡ b → first_kind_of (λ k. word_test k names (Operand, w)) ≡ cond (not a) (Some kind.BadName) (cond (not b) (Some kind.UnknownName) None)
known-first names w a b is among = ap (λ x. cond (not x) (Some kind.BadName) (cond (not (list_any (bytes_eq w) names)) (Some kind.UnknownName) None)) is ∙ ap (λ x. cond (not a) (Some kind.BadName) (cond (not x) (Some kind.UnknownName) None)) among

pub is-new : (names : List (List ℕ)) (w : List ℕ) (rest : List (List ℕ)) (name : List ℕ) → name ≡ w → position (bytes_eq w) names ≡ None → length names < name_count_limit → IsNewName names (w ∷ rest) name
is-new names w rest name is free room = record { some = omega arith; first = is; free = subst (λ x. position (bytes_eq x) names ≡ None) (sym is) free; room = room }

-- a command that binds a name to a node of its own
pub IsRead-binds : (names : List (List ℕ)) (bound : List ℕ) (line : ℕ) (v : Verb) (ws : List (List ℕ)) (IsIt : Node → Type 0) → is_own v ≡ true → ((k : ScriptKind) → zero_test v ws k ≡ false) → ((n : Node) → IsIt n → IsNodeOfLine names bound v ws n) → (r : Result Statement ScriptKind) → IsRead (roles_test names (roles v) ws) (BindsNew names ws IsIt) r → IsRead (λ k. command_test k names v ws) (IsStatement names bound line v ws) r
IsRead-binds names bound line v ws IsIt own plain made r read = record { refusal = read.refusal ∙ first-same (roles_test names (roles v) ws) (λ k. command_test k names v ws) (λ k. plain-roles k names v ws (plain k)); value = by r read.value }
  where
    by : (r : Result Statement ScriptKind) → IfOk r (BindsNew names ws IsIt) → IfOk r (IsStatement names bound line v ws)
    by (Err k) h = tt
    by (Ok (Bind name n)) h = (own, h.0, made n h.1)
    by (Ok (Turn name from t)) h = absurd h
    by (Ok (Ask c)) h = absurd h
    by (Ok (Print k name)) h = absurd h
