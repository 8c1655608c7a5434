-- An accepted script has an output.
use Rattle.nef_statement.proofs.Prelude.{◌≡◌, ℕ, zero, suc, ◌+◌, ◌^◌, ◌<◌, ◌≤◌, ℤ, pos, negsuc, ◌<ℤ◌, nat_abs, arith, refl, sym, ap, ◌∙◌, inl, inr, ⊎_elim, List, [], ◌∷◌, ◌++◌, length, take, get_or, Bool, true, false, not, nat_eq, ◌||◌, Option, Some, None, find, slice_get, if◌then◌else◌, subst, append-nil, append_assoc, length-append, nat_lt, int_le, option_map, codes, list_any, zip, bytes_eq, or_parts, and_parts, eqb-true, leb-true, leb-false, ltb-false, ints, normal_limit, offset_limit, query_weight_limit, ray_direction_limit, ray_point_limit, ray_weight_limit, SpacePoint, Form, form, InFrame, Set, Lies, Vector, vector, IsDirection, IsAtMost, lies-append, Out, IsPointAtMost, point_at, Decided, label_of, InFrame-decided, IsAt, line, numbers, text, TextVersion, IsSmallForm, AreSmallForms, AreTurnsOf, lines_of, words_of, line_refusal, bound_name, names_of, IsAccepted, verb_of, roles, binds, name_count_limit, line_limit, is_bad_byte, number_or_zero, is_zero, is_from, on_verb, word_test, has_zero_normal, has_zero_direction, command_tests, words_tests, Verb, ScriptKind, Bindings, set_named, made_of_both, bound_set, turned_set, bound_after, answer_of, framed, line_end, IsSameAnswer, IsJoinedAnswer, IsRayAnswer, IsSaid, IsSaidBy, AreSaid, IsText, CountTells, eq-decided, is-at_none, is-at_first}
use Rattle.std.proofs.Common.{drop, nat_le, ◌&&◌}
use Rattle.nef_statement.proofs.text.existence.Connected.{joined-is_decided, components-are_counted}
use Rattle.nef_statement.proofs.text.existence.Parts.{parts-exist}
use Rattle.nef_statement.proofs.text.existence.Scripts.{turns-half, turns-both, turns-turned, turns-more, carried-by, scripted-shown}
use Rattle.nef_script.specs.declared.arguments.Verb.TheVariants as verb
use Rattle.nef_script.specs.declared.script.ScriptKind.TheVariants as kind
use Rattle.nef_script.proofs.Values.{zero-are}
use Rattle.nef_statement.proofs.Bound.{and_bound, name_if, names_in, names-push}
use Rattle.nef_statement.proofs.RayPoints.{ray-answer}
use Rattle.nef_statement.proofs.Texts.{one-text}
use Rattle.nef_statement.proofs.Turning.{set-same}
use Rattle.law_geometry.proofs.near.SameSets.{same-self}

-- ---- tests that don't hold
abbrev pub refusal_in : List (ScriptKind × Bool) → Option ScriptKind
refusal_in xs = option_map (λ (t : ScriptKind × Bool). t.0) (find (λ (t : ScriptKind × Bool). t.1) xs)

none-holds : (xs : List (ScriptKind × Bool)) → refusal_in xs ≡ None → (k : ℕ) (t : ScriptKind × Bool) → IsAt xs k t → t.1 ≡ false
none-holds [] e k t a = absurd (is-at_none a)
none-holds ((j, b) ∷ xs) e k t a = by b refl k a (λ f n u c. none-holds xs f n u c)
  where
    by : (d : Bool) → b ≡ d → (k : ℕ) → IsAt ((j, b) ∷ xs) k t → (refusal_in xs ≡ None → (n : ℕ) (u : ScriptKind × Bool) → IsAt xs n u → u.1 ≡ false) → t.1 ≡ false
    by true f k a more = absurd (let g : Some j ≡ None = sym (ap (λ c. refusal_in ((j, c) ∷ xs)) f) ∙ e in cc)
    by false f zero a more = ap (λ (u : ScriptKind × Bool). u.1) (sym (is-at_first a)) ∙ f
    by false f (suc n) a more = more (sym (ap (λ c. refusal_in ((j, c) ∷ xs)) f) ∙ e) n t a

abbrev pub Fails : List (List ℕ) → Verb → List (List ℕ) → ScriptKind → Type 0
Fails names v args k = list_any (word_test k names) (zip (roles v) args) ≡ false

pub record Passed (names : List (List ℕ)) (v : Verb) (args : List (List ℕ)) : Type 0 where
  pub count : not (nat_eq (length args) (length (roles v))) ≡ false
  pub unknown : Fails names v args kind.UnknownName
  pub range : Fails names v args kind.OutOfRange
  pub normal : has_zero_normal v args ≡ false
  pub weight : Fails names v args kind.BadWeight
  pub direction : has_zero_direction v args ≡ false
  pub room : (binds v && nat_le name_count_limit (length names)) ≡ false

pub passed : (names : List (List ℕ)) (v : Verb) (args : List (List ℕ)) → refusal_in (command_tests names (Some v) args) ≡ None → Passed names v args
passed names v args e = record {
  count = fails 0 (kind.WordCount, not (nat_eq (length args) (length (roles v)))) refl;
  unknown = fails 3 (some kind.UnknownName) refl;
  range = fails 5 (some kind.OutOfRange) refl;
  normal = fails 6 (kind.ZeroNormal, has_zero_normal v args) refl;
  weight = fails 8 (some kind.BadWeight) refl;
  direction = fails 9 (kind.ZeroDirection, has_zero_direction v args) refl;
  room = fails 10 (kind.TooManyNames, binds v && nat_le name_count_limit (length names)) refl;
}
  where
    some : ScriptKind → ScriptKind × Bool
    some k = (k, list_any (word_test k names) (zip (roles v) args))

    fails : (k : ℕ) (t : ScriptKind × Bool) → IsAt (command_tests names (Some v) args) k t → t.1 ≡ false
    fails = none-holds (command_tests names (Some v) args) e

-- a line that isn't refused passes the tests of its words
pub words-tested : (names : List (List ℕ)) (text : List ℕ) → line_refusal names text ≡ None → refusal_in (words_tests names (words_of text)) ≡ None
words-tested names text e = second (nat_lt line_limit (length text)) (list_any is_bad_byte text) (words_tests names (words_of text)) e
  where
    second : (a b : Bool) (xs : List (ScriptKind × Bool)) → refusal_in ((kind.LineTooLong, a) ∷ (kind.BadByte, b) ∷ xs) ≡ None → refusal_in xs ≡ None
    second true b xs e = cc
    second false true xs e = cc
    second false false xs e = e

pub is-so : (b : Bool) → not b ≡ false → b ≡ true
is-so true e = refl
is-so false e = cc

pub within : (m n : ℕ) → nat_lt m n ≡ false → n ≤ m
within m n e = ltb-false m n e

-- ---- the words of a command
abbrev pub firsts : ℕ → List (List ℕ) → List (List ℕ)
firsts zero args = []
firsts (suc n) args = get_or args 0 [] ∷ firsts n (drop 1 args)

pub all-words : (n : ℕ) (args : List (List ℕ)) → length args ≡ n → args ≡ firsts n args
all-words zero [] e = refl
all-words zero (w ∷ args) e = absurd (omega (arith, e))
all-words (suc n) [] e = absurd (omega (arith, e))
all-words (suc n) (w ∷ args) e = ap (λ (ws : List (List ℕ)). w ∷ ws) (all-words n args (omega (arith, e)))

-- ---- numbers
pub from-one : (most : ℕ) (z : ℤ) → not (is_from 1 most z) ≡ false → (pos 0 <ℤ z) × (nat_abs z ≤ most)
from-one most z e = by z (and_parts (int_le (pos 1) z) (int_le z (pos most)) (is-so (is_from 1 most z) e))
  where
    by : (z : ℤ) → (int_le (pos 1) z ≡ true) × (int_le z (pos most) ≡ true) → (pos 0 <ℤ z) × (nat_abs z ≤ most)
    by (pos zero) (a, b) = cc
    by (pos (suc n)) (a, b) = (omega (arith, ints), leb-true (suc n) most b)
    by (negsuc n) (a, b) = cc

pub from-none : (most : ℕ) (z : ℤ) → not (is_from 0 most z) ≡ false → nat_abs z ≤ most
from-none most z e = by z (and_parts (int_le (pos 0) z) (int_le z (pos most)) (is-so (is_from 0 most z) e))
  where
    by : (z : ℤ) → (int_le (pos 0) z ≡ true) × (int_le z (pos most) ≡ true) → nat_abs z ≤ most
    by (pos n) (a, b) = leb-true n most b
    by (negsuc n) (a, b) = cc

pub some-way : (a b c : ℤ) → (is_zero a && is_zero b && is_zero c) ≡ false → IsDirection (vector a b c)
some-way a b c e z = let f = zero-are a b c z in let g : true ≡ false = sym f ∙ e in cc

lists-decided : (xs ys : List ℕ) → Decided (xs ≡ ys)
lists-decided [] [] = inl refl
lists-decided [] (y ∷ ys) = inr (λ e. cc)
lists-decided (x ∷ xs) [] = inr (λ e. cc)
lists-decided (x ∷ xs) (y ∷ ys) = by (eq-decided x y) (lists-decided xs ys)
  where
    by : Decided (x ≡ y) → Decided (xs ≡ ys) → Decided (x ∷ xs ≡ y ∷ ys)
    by (inl e) (inl f) = inl (ap (λ n. n ∷ xs) e ∙ ap (λ (ns : List ℕ). y ∷ ns) f)
    by (inr n) o = inr (λ e. n (cc))
    by (inl e) (inr n) = inr (λ e. n (cc))

-- ---- bindings
-- the names are bound to sets whose halves are turns of the forms
record IsBound (names : List (List ℕ)) (sets : Bindings) (bs : List Form) : Type 0 where
  small : AreSmallForms bs
  few : length bs ≤ length names
  room : length names ≤ name_count_limit
  named : names_in sets ≡ names
  good : (b : List ℕ × Set) → Lies sets b → AreTurnsOf bs b.1

find-set : (sets : Bindings) (word : List ℕ) → list_any (bytes_eq word) (names_in sets) ≡ true → (b : List ℕ × Set) × Lies sets b × (set_named sets word ≡ Some b.1)
find-set [] word e = cc
find-set (c ∷ sets) word e = by (bytes_eq word c.0) refl (λ f. find-set sets word f)
  where
    by : (t : Bool) → bytes_eq word c.0 ≡ t → (list_any (bytes_eq word) (names_in sets) ≡ true → (b : List ℕ × Set) × Lies sets b × (set_named sets word ≡ Some b.1)) → (b : List ℕ × Set) × Lies (c ∷ sets) b × (set_named (c ∷ sets) word ≡ Some b.1)
    by true f more = (c, inl refl, ap (λ u. if u then Some c.1 else set_named sets word) f)
    by false f more =
        let (b, l, g) = more (sym (ap (λ u. u || list_any (bytes_eq word) (names_in sets)) f) ∙ e) in
        (b, inr l, ap (λ u. if u then Some c.1 else set_named sets word) f ∙ g)

step-none : (names : List (List ℕ)) (sets : Bindings) (bs : List Form) (name : List ℕ) (t : Bool) (o : Option Set) → t ≡ false → o ≡ None → IsBound names sets bs → IsBound (names ++ name_if t name) (and_bound sets name o) bs
step-none names sets bs name true o e f B = cc
step-none names sets bs name false None e f B = subst (λ (z : Bindings). IsBound (names ++ []) z bs) (sym (append-nil sets)) (subst (λ ns. IsBound ns sets bs) (sym (append-nil names)) B)
step-none names sets bs name false (Some s) e f B = cc

step-some : (names : List (List ℕ)) (sets : Bindings) (bs cs : List Form) (name : List ℕ) (s : Set) (t : Bool) (o : Option Set) → t ≡ true → o ≡ Some s → IsBound names sets bs
    → length names < name_count_limit → AreSmallForms cs → ((f : Form) → Lies bs f → Lies cs f) → length cs ≤ length names + 1 → AreTurnsOf cs s → IsBound (names ++ name_if t name) (and_bound sets name o) cs
step-some names sets bs cs name s false o e f B room S M few T = cc
step-some names sets bs cs name s true None e f B room S M few T = cc
step-some names sets bs cs name s true (Some u) e f B room S M few T = record {
  small = S;
  few = (let l = length-append names (name ∷ []) in omega (arith, l, few));
  room = (let l = length-append names (name ∷ []) in omega (arith, l, room));
  named = names-push sets name u ∙ ap (λ ns. ns ++ name ∷ []) B.named;
  good = λ b l. ⊎_elim (λ m. turns-more bs cs b.1 M (B.good b m)) (λ m. ⊎_elim (λ g. subst (λ (c : List ℕ × Set). AreTurnsOf cs c.1) g (subst (AreTurnsOf cs) (sym same) T)) (λ n. absurd n) m) (lies-append sets ((name, u) ∷ []) b l);
}
  where
    same : u ≡ s
    same = cc

module _ (version : TextVersion) where
  -- ---- what a line says, and the bindings after it
  record Says (names : List (List ℕ)) (sets : Bindings) (words : List (List ℕ)) : Type 0 where
    said : List ℕ
    is : IsSaidBy (IsText version) sets words said
    forms : List Form
    after : IsBound (names ++ bound_name words) (bound_after sets words) forms

  module _ (names : List (List ℕ)) (sets : Bindings) (bs : List Form) (B : IsBound names sets bs) where
    few-forms : length bs ≤ 2 ^ 20
    few-forms = let a = B.few in let b = B.room in omega (arith, a, b)

    found : (word : List ℕ) → not (list_any (bytes_eq word) names) ≡ false → (s : Set) × (set_named sets word ≡ Some s) × AreTurnsOf bs s
    found word e =
        let (b, l, f) = find-set sets word (ap (λ ns. list_any (bytes_eq word) ns) B.named ∙ is-so (list_any (bytes_eq word) names) e) in
        (b.1, f, B.good b l)

    asks : (word name : List ℕ) (args : List (List ℕ)) (v : Verb) → verb_of word ≡ Some v → binds v ≡ false → bound_set sets (Some v) (name ∷ args) ≡ None → (said : List ℕ) → IsSaid (IsText version) sets (Some v) (name ∷ args) said → Says names sets (word ∷ name ∷ args)
    asks word name args v e b n said S = record {
      said = said;
      is = subst (λ o. IsSaid (IsText version) sets o (name ∷ args) said) (sym e) S;
      forms = bs;
      after = subst (λ o. IsBound (names ++ name_if (on_verb binds o) name) (and_bound sets name (bound_set sets o (name ∷ args))) bs) (sym e) (step-none names sets bs name (binds v) (bound_set sets (Some v) (name ∷ args)) b n B);
    }

    makes : (word name : List ℕ) (args : List (List ℕ)) (v : Verb) → verb_of word ≡ Some v → binds v ≡ true → (s : Set) → bound_set sets (Some v) (name ∷ args) ≡ Some s → IsSaid (IsText version) sets (Some v) (name ∷ args) []
        → nat_le name_count_limit (length names) ≡ false → (cs : List Form) → AreSmallForms cs → ((f : Form) → Lies bs f → Lies cs f) → length cs ≤ length names + 1 → AreTurnsOf cs s → Says names sets (word ∷ name ∷ args)
    makes word name args v e b s n S room cs small more few T = record {
      said = [];
      is = subst (λ o. IsSaid (IsText version) sets o (name ∷ args) []) (sym e) S;
      forms = cs;
      after = subst (λ o. IsBound (names ++ name_if (on_verb binds o) name) (and_bound sets name (bound_set sets o (name ∷ args))) cs) (sym e)
          (step-some names sets bs cs name s (binds v) (bound_set sets (Some v) (name ∷ args)) b n B (leb-false name_count_limit (length names) room) small more few T);
    }

    -- ---- commands that make a set of others
    same-forms : (f : Form) → Lies bs f → Lies bs f
    same-forms f l = l

    two : (word name l r : List ℕ) (v : Verb) (make : Set → Set → Set) → verb_of word ≡ Some v → binds v ≡ true → bound_set sets (Some v) (name ∷ l ∷ r ∷ []) ≡ made_of_both make (set_named sets l) (set_named sets r)
        → ((s : Set) → bound_set sets (Some v) (name ∷ l ∷ r ∷ []) ≡ Some s → IsSaid (IsText version) sets (Some v) (name ∷ l ∷ r ∷ []) []) → nat_le name_count_limit (length names) ≡ false
        → (not (list_any (bytes_eq l) names) || (not (list_any (bytes_eq r) names) || false)) ≡ false → ((s t : Set) → AreTurnsOf bs s → AreTurnsOf bs t → AreTurnsOf bs (make s t)) → Says names sets (word ∷ name ∷ l ∷ r ∷ [])
    two word name l r v make e b is said room known T =
        let (p, k) = or_parts (not (list_any (bytes_eq l) names)) (not (list_any (bytes_eq r) names) || false) known in
        let (q, k2) = or_parts (not (list_any (bytes_eq r) names)) false k in
        let (s, f, S) = found l p in
        let (t, g, U) = found r q in
        let n : bound_set sets (Some v) (name ∷ l ∷ r ∷ []) ≡ Some (make s t) = is ∙ ap (λ o. made_of_both make o (set_named sets r)) f ∙ ap (made_of_both make (Some s)) g in
        makes word name (l ∷ r ∷ []) v e b (make s t) n (said (make s t) n) room bs B.small same-forms (let c = B.few in omega (arith, c)) (T s t S U)

    one : (word name l : List ℕ) (v : Verb) (make : Set → Set) → verb_of word ≡ Some v → binds v ≡ true → bound_set sets (Some v) (name ∷ l ∷ []) ≡ option_map make (set_named sets l)
        → ((s : Set) → bound_set sets (Some v) (name ∷ l ∷ []) ≡ Some s → IsSaid (IsText version) sets (Some v) (name ∷ l ∷ []) []) → nat_le name_count_limit (length names) ≡ false
        → (not (list_any (bytes_eq l) names) || false) ≡ false → ((s : Set) → AreTurnsOf bs s → AreTurnsOf bs (make s)) → Says names sets (word ∷ name ∷ l ∷ [])
    one word name l v make e b is said room known T =
        let (p, k) = or_parts (not (list_any (bytes_eq l) names)) false known in
        let (s, f, S) = found l p in
        let n : bound_set sets (Some v) (name ∷ l ∷ []) ≡ Some (make s) = is ∙ ap (option_map make) f in
        makes word name (l ∷ []) v e b (make s) n (said (make s) n) room bs B.small same-forms (let c = B.few in omega (arith, c)) (T s S)

    -- ---- answers
    text-of : (s : Set) → AreTurnsOf bs s → (x : List ℕ) × IsText version s x
    text-of s T =
        let (c, S) = scripted-shown bs B.small few-forms s T in
        let (p, P) = parts-exist s c S in
        (text version c p, (s, same-self s, (c, p, S, P, refl)))

    same-of : (s t : Set) → AreTurnsOf bs s → AreTurnsOf bs t → (x : List ℕ) × IsSameAnswer s t x
    same-of s t S T =
        let (x, X) = text-of s S in
        let (y, Y) = text-of t T in
        let r = one-text version s t x y X Y in
        ⊎_elim (λ e. (codes "same" ++ line_end, inl (r.0 e, refl))) (λ n. (codes "differs" ++ line_end, inr (λ e. n (r.1 e), refl))) (lists-decided x y)

    count-of : (s : Set) → (x : List ℕ) × CountTells s x
    count-of s =
        let n = λ (k : ℕ). (components-are_counted s k).0 in
        (line (numbers (n 0 ∷ n 1 ∷ n 2 ∷ n 3 ∷ [])), (n, λ k. (components-are_counted s k).1, refl))

    joined-of : (s : Set) (p q : SpacePoint) → (x : List ℕ) × IsJoinedAnswer s p q x
    joined-of s p q = by (InFrame-decided p) (InFrame-decided q)
      where
        by : Decided (InFrame p) → Decided (InFrame q) → (x : List ℕ) × IsJoinedAnswer s p q x
        by (inr n) o = (answer_of Out, IsJoinedAnswer.outside (λ i. n i.0) refl)
        by (inl P) (inr n) = (answer_of Out, IsJoinedAnswer.outside (λ i. n i.1) refl)
        by (inl P) (inl Q) = ⊎_elim (λ j. (codes "joined" ++ line_end, IsJoinedAnswer.joined P Q j refl)) (λ j. (codes "apart" ++ line_end, IsJoinedAnswer.apart P Q j refl)) (joined-is_decided s p q)

    ray-of : (s : Set) (p : SpacePoint) (d : Vector) → AreTurnsOf bs s → IsDirection d → IsPointAtMost ray_point_limit ray_weight_limit p → IsAtMost ray_direction_limit d → (x : List ℕ) × IsRayAnswer s p d x
    ray-of s p d T some ps ds =
        let (hs, few, A) = carried-by bs B.small few-forms in
        ray-answer s p d some ps ds (λ f l. let (h, i, e) = A s T f l in (h, e))

    -- ---- each command
    word-in : (limit : ℕ) (w : List ℕ) → nat_lt limit (nat_abs (number_or_zero w)) ≡ false → nat_abs (number_or_zero w) ≤ limit
    word-in limit w e = within limit (nat_abs (number_or_zero w)) e

    half-says : (word name a b c d mode : List ℕ) → verb_of word ≡ Some verb.Half → Passed names verb.Half (name ∷ a ∷ b ∷ c ∷ d ∷ mode ∷ []) → Says names sets (word ∷ name ∷ a ∷ b ∷ c ∷ d ∷ mode ∷ [])
    half-says word name a b c d mode e P =
        let f = form (number_or_zero a) (number_or_zero b) (number_or_zero c) (number_or_zero d) in
        let r1 = or_parts (nat_lt normal_limit (nat_abs (number_or_zero a))) _ P.range in
        let r2 = or_parts (nat_lt normal_limit (nat_abs (number_or_zero b))) _ r1.1 in
        let r3 = or_parts (nat_lt normal_limit (nat_abs (number_or_zero c))) _ r2.1 in
        let r4 = or_parts (nat_lt offset_limit (nat_abs (number_or_zero d))) _ r3.1 in
        let F : IsSmallForm f = record {
          normal = some-way (number_or_zero a) (number_or_zero b) (number_or_zero c) P.normal;
          normal_small = record { of_x = word-in normal_limit a r1.0; of_y = word-in normal_limit b r2.0; of_z = word-in normal_limit c r3.0 };
          offset_small = word-in offset_limit d r4.0;
        } in
        let s = Set.half f (bytes_eq mode (codes "closed")) in
        makes word name (a ∷ b ∷ c ∷ d ∷ mode ∷ []) verb.Half e refl s refl (s, refl, refl) P.room (f ∷ bs) (λ g l. ⊎_elim (λ q. subst IsSmallForm q F) (λ m. B.small g m) l) (λ g l. inr l) (let k = B.few in omega (arith, k)) (turns-half (f ∷ bs) f (bytes_eq mode (codes "closed")) (inl refl))

    none-says : (word name : List ℕ) (v : Verb) (s : Set) → verb_of word ≡ Some v → binds v ≡ true → bound_set sets (Some v) (name ∷ []) ≡ Some s → IsSaid (IsText version) sets (Some v) (name ∷ []) [] → nat_le name_count_limit (length names) ≡ false → AreTurnsOf bs s → Says names sets (word ∷ name ∷ [])
    none-says word name v s e b n S room T = makes word name [] v e b s n S room bs B.small same-forms (let c = B.few in omega (arith, c)) T

    turn-says : (word name l number : List ℕ) → verb_of word ≡ Some verb.Turn → Passed names verb.Turn (name ∷ l ∷ number ∷ []) → Says names sets (word ∷ name ∷ l ∷ number ∷ [])
    turn-says word name l number e P =
        let (p, k) = or_parts (not (list_any (bytes_eq l) names)) _ P.unknown in
        let (s, f, S) = found l p in
        let (r, k2) = or_parts (not (is_from 0 47 (number_or_zero number))) false P.range in
        let small = from-none 47 (number_or_zero number) r in
        let t = turned_set (nat_abs (number_or_zero number)) s in
        let n : bound_set sets (Some verb.Turn) (name ∷ l ∷ number ∷ []) ≡ Some t = ap (option_map (turned_set (nat_abs (number_or_zero number)))) f in
        makes word name (l ∷ number ∷ []) verb.Turn e refl t n (t, n, refl) P.room bs B.small same-forms (let c = B.few in omega (arith, c)) (subst (AreTurnsOf bs) (sym (set-same (nat_abs (number_or_zero number)) s)) (turns-turned bs (nat_abs (number_or_zero number)) s (omega (arith, small)) S))

    has-says : (word name x y z w : List ℕ) → verb_of word ≡ Some verb.Has → Passed names verb.Has (name ∷ x ∷ y ∷ z ∷ w ∷ []) → Says names sets (word ∷ name ∷ x ∷ y ∷ z ∷ w ∷ [])
    has-says word name x y z w e P =
        let (p, k) = or_parts (not (list_any (bytes_eq name) names)) _ P.unknown in
        let (s, f, S) = found name p in
        let (q, k2) = or_parts (not (is_from 1 query_weight_limit (number_or_zero w))) false P.weight in
        let proper = (from-one query_weight_limit (number_or_zero w) q).0 in
        let (l, h) = label_of s (point_at (number_or_zero x) (number_or_zero y) (number_or_zero z) (number_or_zero w) proper) in
        asks word name (x ∷ y ∷ z ∷ w ∷ []) verb.Has e refl refl (answer_of l) (s, f, (proper, (l, h, refl)))

    joined-says : (word name x y z w x2 y2 z2 w2 : List ℕ) → verb_of word ≡ Some verb.Joined → Passed names verb.Joined (name ∷ x ∷ y ∷ z ∷ w ∷ x2 ∷ y2 ∷ z2 ∷ w2 ∷ []) → Says names sets (word ∷ name ∷ x ∷ y ∷ z ∷ w ∷ x2 ∷ y2 ∷ z2 ∷ w2 ∷ [])
    joined-says word name x y z w x2 y2 z2 w2 e P =
        let (p, k) = or_parts (not (list_any (bytes_eq name) names)) _ P.unknown in
        let (s, f, S) = found name p in
        let (q, k2) = or_parts (not (is_from 1 query_weight_limit (number_or_zero w))) _ P.weight in
        let (q2, k3) = or_parts (not (is_from 1 query_weight_limit (number_or_zero w2))) false k2 in
        let proper = (from-one query_weight_limit (number_or_zero w) q).0 in
        let proper2 = (from-one query_weight_limit (number_or_zero w2) q2).0 in
        let (a, A) = joined-of s (point_at (number_or_zero x) (number_or_zero y) (number_or_zero z) (number_or_zero w) proper) (point_at (number_or_zero x2) (number_or_zero y2) (number_or_zero z2) (number_or_zero w2) proper2) in
        asks word name (x ∷ y ∷ z ∷ w ∷ x2 ∷ y2 ∷ z2 ∷ w2 ∷ []) verb.Joined e refl refl a (s, f, (proper, (proper2, A)))

    ray-says : (word name x y z w dx dy dz : List ℕ) → verb_of word ≡ Some verb.Ray → Passed names verb.Ray (name ∷ x ∷ y ∷ z ∷ w ∷ dx ∷ dy ∷ dz ∷ []) → Says names sets (word ∷ name ∷ x ∷ y ∷ z ∷ w ∷ dx ∷ dy ∷ dz ∷ [])
    ray-says word name x y z w dx dy dz e P =
        let (p, k) = or_parts (not (list_any (bytes_eq name) names)) _ P.unknown in
        let (s, f, S) = found name p in
        let (q, k2) = or_parts (not (is_from 1 ray_weight_limit (number_or_zero w))) _ P.weight in
        let (proper, heavy) = from-one ray_weight_limit (number_or_zero w) q in
        let r1 = or_parts (nat_lt ray_point_limit (nat_abs (number_or_zero x))) _ P.range in
        let r2 = or_parts (nat_lt ray_point_limit (nat_abs (number_or_zero y))) _ r1.1 in
        let r3 = or_parts (nat_lt ray_point_limit (nat_abs (number_or_zero z))) _ r2.1 in
        let r4 = or_parts (nat_lt ray_direction_limit (nat_abs (number_or_zero dx))) _ r3.1 in
        let r5 = or_parts (nat_lt ray_direction_limit (nat_abs (number_or_zero dy))) _ r4.1 in
        let r6 = or_parts (nat_lt ray_direction_limit (nat_abs (number_or_zero dz))) _ r5.1 in
        let (a, A) = ray-of s (point_at (number_or_zero x) (number_or_zero y) (number_or_zero z) (number_or_zero w) proper) (vector (number_or_zero dx) (number_or_zero dy) (number_or_zero dz)) S
        (some-way (number_or_zero dx) (number_or_zero dy) (number_or_zero dz) P.direction)
        (record { numbers = record { of_x = word-in ray_point_limit x r1.0; of_y = word-in ray_point_limit y r2.0; of_z = word-in ray_point_limit z r3.0 }; weight = heavy })
        (record { of_x = word-in ray_direction_limit dx r4.0; of_y = word-in ray_direction_limit dy r5.0; of_z = word-in ray_direction_limit dz r6.0 }) in
        asks word name (x ∷ y ∷ z ∷ w ∷ dx ∷ dy ∷ dz ∷ []) verb.Ray e refl refl a (s, f, (proper, A))

    same-says : (word l r : List ℕ) → verb_of word ≡ Some verb.Same → Passed names verb.Same (l ∷ r ∷ []) → Says names sets (word ∷ l ∷ r ∷ [])
    same-says word l r e P =
        let (p, k) = or_parts (not (list_any (bytes_eq l) names)) _ P.unknown in
        let (q, k2) = or_parts (not (list_any (bytes_eq r) names)) false k in
        let (s, f, S) = found l p in
        let (t, g, T) = found r q in
        let (a, A) = same-of s t S T in
        asks word l (r ∷ []) verb.Same e refl refl a (s, f, (t, g, A))

    count-says : (word name : List ℕ) → verb_of word ≡ Some verb.Count → Passed names verb.Count (name ∷ []) → Says names sets (word ∷ name ∷ [])
    count-says word name e P =
        let (p, k) = or_parts (not (list_any (bytes_eq name) names)) false P.unknown in
        let (s, f, S) = found name p in
        let (a, A) = count-of s in
        asks word name [] verb.Count e refl refl a (s, f, A)

    print-says : (word name : List ℕ) → verb_of word ≡ Some verb.Print → Passed names verb.Print (name ∷ []) → Says names sets (word ∷ name ∷ [])
    print-says word name e P =
        let (p, k) = or_parts (not (list_any (bytes_eq name) names)) false P.unknown in
        let (s, f, S) = found name p in
        let (x, X) = text-of s S in
        asks word name [] verb.Print e refl refl (framed name x) (s, f, (x, X, refl))

    -- ---- a command with as many words as it is to have
    module _ (word : List ℕ) (args : List (List ℕ)) where
      counted : (v : Verb) → verb_of word ≡ Some v → Passed names v args → args ≡ firsts (length (roles v)) args
      counted v e P = all-words (length (roles v)) args (eqb-true (length args) (length (roles v)) (is-so (nat_eq (length args) (length (roles v))) P.count))

      command-says : (v : Verb) → verb_of word ≡ Some v → Passed names v args → Says names sets (word ∷ args)
      command-says v e P = subst (λ ws. Says names sets (word ∷ ws)) (sym (counted v e P)) (by v e (subst (Passed names v) (counted v e P) P))
        where
          by : (v : Verb) → verb_of word ≡ Some v → Passed names v (firsts (length (roles v)) args) → Says names sets (word ∷ firsts (length (roles v)) args)
          by verb.Half e P = half-says word _ _ _ _ _ _ e P
          by verb.Empty e P = none-says word _ verb.Empty Set.empty e refl refl (Set.empty, refl, refl) P.room (λ f l. absurd l)
          by verb.Full e P = none-says word _ verb.Full Set.full e refl refl (Set.full, refl, refl) P.room (λ f l. absurd l)
          by verb.And e P = two word _ _ _ verb.And Set.both e refl refl (λ s n. (s, n, refl)) P.room P.unknown (λ s t S T. turns-both bs s t S T)
          by verb.Or e P = two word _ _ _ verb.Or Set.either e refl refl (λ s n. (s, n, refl)) P.room P.unknown (λ s t S T. turns-both bs s t S T)
          by verb.Diff e P = two word _ _ _ verb.Diff Set.less e refl refl (λ s n. (s, n, refl)) P.room P.unknown (λ s t S T. turns-both bs s t S T)
          by verb.Xor e P = two word _ _ _ verb.Xor Set.one_of e refl refl (λ s n. (s, n, refl)) P.room P.unknown (λ s t S T. turns-both bs s t S T)
          by verb.Not e P = one word _ _ verb.Not Set.other e refl refl (λ s n. (s, n, refl)) P.room P.unknown (λ s S. S)
          by verb.Int e P = one word _ _ verb.Int Set.inside e refl refl (λ s n. (s, n, refl)) P.room P.unknown (λ s S. S)
          by verb.Cl e P = one word _ _ verb.Cl Set.closed e refl refl (λ s n. (s, n, refl)) P.room P.unknown (λ s S. S)
          by verb.Bd e P = one word _ _ verb.Bd Set.border e refl refl (λ s n. (s, n, refl)) P.room P.unknown (λ s S. S)
          by verb.Reg e P = one word _ _ verb.Reg Set.regular e refl refl (λ s n. (s, n, refl)) P.room P.unknown (λ s S. S)
          by verb.Turn e P = turn-says word _ _ _ e P
          by verb.Has e P = has-says word _ _ _ _ _ e P
          by verb.Joined e P = joined-says word _ _ _ _ _ _ _ _ _ e P
          by verb.Ray e P = ray-says word _ _ _ _ _ _ _ _ e P
          by verb.Same e P = same-says word _ _ e P
          by verb.Count e P = count-says word _ e P
          by verb.Print e P = print-says word _ e P

    words-say : (words : List (List ℕ)) → refusal_in (words_tests names words) ≡ None → Says names sets words
    words-say [] e = record { said = []; is = refl; forms = bs; after = subst (λ ns. IsBound ns sets bs) (sym (append-nil names)) B }
    words-say (word ∷ args) e = by (verb_of word) refl e
      where
        by : (o : Option Verb) → verb_of word ≡ o → refusal_in (command_tests names o args) ≡ None → Says names sets (word ∷ args)
        by None f e = absurd (let g : Some kind.UnknownCommand ≡ None = e in cc)
        by (Some v) f e = command-says word args v f (passed names v args e)

    line-says : (text : List ℕ) → line_refusal names text ≡ None → Says names sets (words_of text)
    line-says text e = words-say (words_of text) (words-tested names text e)

  -- ---- all lines
  abbrev PassFrom : List (List ℕ) → List (List ℕ) → Type 0
  PassFrom names lines = (m : ℕ) → m < length lines → (text : List ℕ) × (slice_get lines m ≡ Some text) × (line_refusal (names ++ names_of (take m lines)) text ≡ None)

  lines-say : (lines names : List (List ℕ)) (sets : Bindings) (bs : List Form) → IsBound names sets bs → PassFrom names lines → (x : List ℕ) × AreSaid (IsText version) sets lines x
  lines-say [] names sets bs B P = ([], refl)
  lines-say (text ∷ lines) names sets bs B P =
      let (here, a, e) = P 0 (omega arith) in
      let same : here ≡ text = (let g : Some text ≡ Some here = a in cc) in
      let S = line-says names sets bs B text (subst (λ t. line_refusal names t ≡ None) same (subst (λ ns. line_refusal ns here ≡ None) (append-nil names) e)) in
      join S (lines-say lines (names ++ bound_name (words_of text)) (bound_after sets (words_of text)) S.forms S.after (λ m l.
      let (t, b, f) = P (suc m) (omega (arith, l)) in
      (t, b, subst (λ ns. line_refusal ns t ≡ None) (sym (append_assoc names (bound_name (words_of text)) (names_of (take m lines)))) f)))
    where
      join : Says names sets (words_of text) → ((x : List ℕ) × AreSaid (IsText version) (bound_after sets (words_of text)) lines x) → (x : List ℕ) × AreSaid (IsText version) sets (text ∷ lines) x
      join S (x, X) = (S.said ++ x, (S.said, x, S.is, X, refl))

-- EACH ACCEPTED SCRIPT HAS AN OUTPUT
pub some-output : (version : TextVersion) (bytes : List ℕ) → IsAccepted bytes → (x : List ℕ) × AreSaid (IsText version) [] (lines_of bytes) x
some-output version bytes A = lines-say version (lines_of bytes) [] [] [] (record { small = λ b l. absurd l; few = omega arith; room = omega arith; named = refl; good = λ b l. absurd l }) (λ m l. A.passes m l)
