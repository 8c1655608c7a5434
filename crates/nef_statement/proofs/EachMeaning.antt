-- Each accepted script has a meaning.
use Rattle.nef_statement.proofs.Prelude.{◌≡◌, ℕ, ◌+◌, ◌<◌, ℤ, pos, negsuc, nat_abs, true, false, not, nat_eq, ◌||◌, List, [], ◌∷◌, ◌++◌, length, get_or, Option, Some, None, is_some, slice_get, arith, refl, sym, ap, ◌∙◌, subst, nat_lt, int_le, codes, list_any, position, enumerate_from, bytes_eq, or_parts, and_parts, eqb-true, slice_get-get_or, normal_limit, offset_limit, query_limit, query_weight_limit, ray_direction_limit, ray_point_limit, ray_weight_limit, form, vector, IsAtMost, Point, Node, table, origin, HasOrigin, AreOrigins, names-from, slice_get-seam, ordered-push, origins-push, base-new, base-image, lines_of, words_of, KeepsRayLimits, NamesNode, IsNodeOfLine, IsQuestion, IsQuotient, MeansScript, HasRead, ReadState, state, IsSoundState, AddsWords, AddsLine, sets_of, line_refusal, IsAccepted, verb_of, roles, binds, is_own, number_or_zero, is_from, command_tests, words_tests, Verb, Command, ScriptKind, HasRead-start, HasRead-next, HasRead-refused, HasRead-end, first_state, never_both, EachMeans}
use Rattle.nef_expr.specs.declared.nodes.Node.TheVariants as node
use Rattle.nef_script.specs.declared.arguments.Verb.TheVariants as verb
use Rattle.nef_script.specs.declared.script.Command.TheVariants as command
use Rattle.nef_script.specs.declared.script.ScriptKind.TheVariants as kind
use Rattle.nef_script.proofs.Adding.{AddsWords-node, AddsWords-ask, AddsWords-turn, AddsLine-words, AddsLine-blank}
use Rattle.nef_script.proofs.Looking.{node-operands}
use Rattle.nef_script.proofs.Positions.{position-any, position-below}
use Rattle.nef_statement.proofs.Copies.{IsGood, Copy, copy-of, plane-of, point-at, direction-of}
use Rattle.nef_statement.proofs.SomeOutput.{refusal_in, Passed, passed, words-tested, is-so, within, firsts, all-words, from-one, from-none, some-way}

-- a whole number from 0 on is the number of its size
whole : (most : ℕ) (z : ℤ) → not (is_from 0 most z) ≡ false → z ≡ pos (nat_abs z)
whole most z e = by z (and_parts (int_le (pos 0) z) (int_le z (pos most)) (is-so (is_from 0 most z) e))
  where
    by : (z : ℤ) → (int_le (pos 0) z ≡ true) × (int_le z (pos most) ≡ true) → z ≡ pos (nat_abs z)
    by (pos n) (a, b) = refl
    by (negsuc n) (a, b) = cc

-- three numbers of words, one after the other
three-in : (limit : ℕ) (x y z : List ℕ) → nat_lt limit (nat_abs (number_or_zero x)) ≡ false → nat_lt limit (nat_abs (number_or_zero y)) ≡ false → nat_lt limit (nat_abs (number_or_zero z)) ≡ false → IsAtMost limit (vector (number_or_zero x) (number_or_zero y) (number_or_zero z))
three-in limit x y z a b c = record { of_x = within limit (nat_abs (number_or_zero x)) a; of_y = within limit (nat_abs (number_or_zero y)) b; of_z = within limit (nat_abs (number_or_zero z)) c }

-- ---- one line more
-- what is read with a command and the words after it
record WordsAdd (number : ℕ) (v : Verb) (args : List (List ℕ)) (old : ReadState) : Type 0 where
  new : ReadState
  good : IsGood new.table
  adds : AddsWords number v args old new

-- what is read with a line
record LineAdds (number : ℕ) (text : List ℕ) (old : ReadState) : Type 0 where
  new : ReadState
  good : IsGood new.table
  adds : AddsLine number text old new

module _ (number : ℕ) (old : ReadState) (sound : IsSoundState old) (good : IsGood old.table) where
  abbrev Known : List ℕ → Type 0
  Known word = not (list_any (bytes_eq word) old.names) ≡ false

  -- the node of a name
  record Found (word : List ℕ) : Type 0 where
    node : ℕ
    named : NamesNode old.names old.bound word node
    there : node < length old.table.nodes

  found : (word : List ℕ) → Known word → Found word
  found word e = by (position (bytes_eq word) old.names) refl
    where
      by : (o : Option ℕ) → position (bytes_eq word) old.names ≡ o → Found word
      by None f = absurd (let g : false ≡ true = sym (ap is_some f) ∙ position-any (bytes_eq word) old.names ∙ is-so (list_any (bytes_eq word) old.names) e in cc)
      by (Some i) f =
          let level = sound.level in
          let below = position-below (bytes_eq word) old.names i f in
          let k = get_or old.bound i 0 in
          let at : slice_get old.bound i ≡ Some k = slice_get-get_or old.bound i 0 (omega (arith, level, below)) in
          record { node = k; named = (i, f, at); there = sound.within i k at }

  -- a node of the line's own
  binds-node : (v : Verb) (name : List ℕ) (args : List (List ℕ)) (n : Node) → is_own v ≡ true → IsNodeOfLine old.names old.bound v (name ∷ args) n → WordsAdd number v (name ∷ args) old
  binds-node v name args n own is =
      let T = old.table in
      let O = good.origins in
      let k = length T.nodes in
      let o = origin T.bases 0 in
      let below = names-from k n (λ i operand. (let (j, at) = node-operands old.names old.bound v (name ∷ args) n is i operand in sound.within j i at)) in
      let new : ReadState = state (old.names ++ name ∷ []) (old.bound ++ k ∷ []) (table (T.nodes ++ n ∷ []) (T.origins ++ o ∷ []) (T.bases + 1)) (old.commands ++ command.Bind number k ∷ []) in
      record {
        new = new;
        good = record {
          ordered = ordered-push T.nodes n good.ordered below;
          origins = origins-push T.nodes T.origins T.bases (T.bases + 1) n o O (omega arith) (base-image T.nodes T.origins T.bases O n good.ordered below) (base-new T.nodes T.origins T.bases O);
        };
        adds = AddsWords-node number v (name ∷ args) old new sound (omega arith) refl n k own refl is refl refl refl
            (subst (λ (j : ℕ). HasOrigin (T.origins ++ o ∷ []) j o) O.count (slice_get-seam T.origins o [])) refl refl;
      }

  binds-one : (v : Verb) (name l : List ℕ) (make : ℕ → Node) → is_own v ≡ true → ((i : ℕ) → NamesNode old.names old.bound l i → IsNodeOfLine old.names old.bound v (name ∷ l ∷ []) (make i)) → (not (list_any (bytes_eq l) old.names) || false) ≡ false → WordsAdd number v (name ∷ l ∷ []) old
  binds-one v name l make own is known =
      let (p, k) = or_parts (not (list_any (bytes_eq l) old.names)) false known in
      let f = found l p in
      binds-node v name (l ∷ []) (make f.node) own (is f.node f.named)

  binds-two : (v : Verb) (name l r : List ℕ) (make : ℕ → ℕ → Node) → is_own v ≡ true → ((i j : ℕ) → NamesNode old.names old.bound l i → NamesNode old.names old.bound r j → IsNodeOfLine old.names old.bound v (name ∷ l ∷ r ∷ []) (make i j)) → (not (list_any (bytes_eq l) old.names) || (not (list_any (bytes_eq r) old.names) || false)) ≡ false → WordsAdd number v (name ∷ l ∷ r ∷ []) old
  binds-two v name l r make own is known =
      let (p, k) = or_parts (not (list_any (bytes_eq l) old.names)) _ known in
      let (q, k2) = or_parts (not (list_any (bytes_eq r) old.names)) false k in
      let f = found l p in
      let g = found r q in
      binds-node v name (l ∷ r ∷ []) (make f.node g.node) own (is f.node g.node f.named g.named)

  binds-half : (name a b c d mode : List ℕ) → Passed old.names verb.Half (name ∷ a ∷ b ∷ c ∷ d ∷ mode ∷ []) → WordsAdd number verb.Half (name ∷ a ∷ b ∷ c ∷ d ∷ mode ∷ []) old
  binds-half name a b c d mode P =
      let f = form (number_or_zero a) (number_or_zero b) (number_or_zero c) (number_or_zero d) in
      let r1 = or_parts (nat_lt normal_limit (nat_abs (number_or_zero a))) _ P.range in
      let r2 = or_parts (nat_lt normal_limit (nat_abs (number_or_zero b))) _ r1.1 in
      let r3 = or_parts (nat_lt normal_limit (nat_abs (number_or_zero c))) _ r2.1 in
      let r4 = or_parts (nat_lt offset_limit (nat_abs (number_or_zero d))) _ r3.1 in
      let (o, m) = plane-of f (record { normal = some-way (number_or_zero a) (number_or_zero b) (number_or_zero c) P.normal; normal_small = three-in normal_limit a b c r1.0 r2.0 r3.0; offset_small = within offset_limit (nat_abs (number_or_zero d)) r4.0 }) in
      binds-node verb.Half name (a ∷ b ∷ c ∷ d ∷ mode ∷ []) (node.Half o (bytes_eq mode (codes "closed"))) refl (o, refl, m)

  -- a turned copy
  binds-turn : (name l index : List ℕ) → Passed old.names verb.Turn (name ∷ l ∷ index ∷ []) → WordsAdd number verb.Turn (name ∷ l ∷ index ∷ []) old
  binds-turn name l index P =
      let (p, k) = or_parts (not (list_any (bytes_eq l) old.names)) _ P.unknown in
      let f = found l p in
      let (r, k2) = or_parts (not (is_from 0 47 (number_or_zero index))) false P.range in
      let small = from-none 47 (number_or_zero index) r in
      let t = nat_abs (number_or_zero index) in
      let few : t < 48 = omega (arith, small) in
      by f.node f.named t few (whole 47 (number_or_zero index) r) (copy-of old.table good t f.node few f.there)
    where
      by : (from : ℕ) → NamesNode old.names old.bound l from → (t : ℕ) → t < 48 → number_or_zero index ≡ pos t → Copy old.table t from → WordsAdd number verb.Turn (name ∷ l ∷ index ∷ []) old
      by from named t few e c =
          let new : ReadState = state (old.names ++ name ∷ []) (old.bound ++ c.number ∷ []) c.now (old.commands ++ command.Turn number c.number from t ∷ []) in
          record { new = new; good = c.good; adds = AddsWords-turn number (name ∷ l ∷ index ∷ []) old new from t c.number sound refl named e few c.turned c.copy c.stays refl refl refl }

  -- a question
  asks : (v : Verb) (args : List (List ℕ)) (c : Command) → binds v ≡ false → IsQuestion old.names old.bound number v args c → KeepsRayLimits c → WordsAdd number v args old
  asks v args c e is rays =
      let new : ReadState = state old.names old.bound old.table (old.commands ++ c ∷ []) in
      record { new = new; good = good; adds = AddsWords-ask number v args old new c sound e is rays refl refl refl refl }

  -- the point that is asked for
  asked-point : (x y z w : List ℕ) → IsAtMost query_limit (vector (number_or_zero x) (number_or_zero y) (number_or_zero z)) → not (is_from 1 query_weight_limit (number_or_zero w)) ≡ false → (p : Point) × IsQuotient p (number_or_zero x) (number_or_zero y) (number_or_zero z) (number_or_zero w)
  asked-point x y z w small q =
      let (proper, heavy) = from-one query_weight_limit (number_or_zero w) q in
      let (p, s, l) = point-at query_limit query_weight_limit (number_or_zero x) (number_or_zero y) (number_or_zero z) (number_or_zero w) (omega arith) (omega arith) small heavy proper in
      (p, (proper, s))

  asks-has : (name x y z w : List ℕ) → Passed old.names verb.Has (name ∷ x ∷ y ∷ z ∷ w ∷ []) → WordsAdd number verb.Has (name ∷ x ∷ y ∷ z ∷ w ∷ []) old
  asks-has name x y z w P =
      let (p, k) = or_parts (not (list_any (bytes_eq name) old.names)) _ P.unknown in
      let f = found name p in
      let r1 = or_parts (nat_lt query_limit (nat_abs (number_or_zero x))) _ P.range in
      let r2 = or_parts (nat_lt query_limit (nat_abs (number_or_zero y))) _ r1.1 in
      let r3 = or_parts (nat_lt query_limit (nat_abs (number_or_zero z))) _ r2.1 in
      let (q, k2) = or_parts (not (is_from 1 query_weight_limit (number_or_zero w))) false P.weight in
      let (point, quotient) = asked-point x y z w (three-in query_limit x y z r1.0 r2.0 r3.0) q in
      asks verb.Has (name ∷ x ∷ y ∷ z ∷ w ∷ []) (command.Has number f.node point) refl (f.node, point, f.named, quotient, refl) tt

  asks-joined : (name x y z w x2 y2 z2 w2 : List ℕ) → Passed old.names verb.Joined (name ∷ x ∷ y ∷ z ∷ w ∷ x2 ∷ y2 ∷ z2 ∷ w2 ∷ []) → WordsAdd number verb.Joined (name ∷ x ∷ y ∷ z ∷ w ∷ x2 ∷ y2 ∷ z2 ∷ w2 ∷ []) old
  asks-joined name x y z w x2 y2 z2 w2 P =
      let (p, k) = or_parts (not (list_any (bytes_eq name) old.names)) _ P.unknown in
      let f = found name p in
      let r1 = or_parts (nat_lt query_limit (nat_abs (number_or_zero x))) _ P.range in
      let r2 = or_parts (nat_lt query_limit (nat_abs (number_or_zero y))) _ r1.1 in
      let r3 = or_parts (nat_lt query_limit (nat_abs (number_or_zero z))) _ r2.1 in
      let r4 = or_parts (nat_lt query_limit (nat_abs (number_or_zero x2))) _ r3.1 in
      let r5 = or_parts (nat_lt query_limit (nat_abs (number_or_zero y2))) _ r4.1 in
      let r6 = or_parts (nat_lt query_limit (nat_abs (number_or_zero z2))) _ r5.1 in
      let (q, k2) = or_parts (not (is_from 1 query_weight_limit (number_or_zero w))) _ P.weight in
      let (q2, k3) = or_parts (not (is_from 1 query_weight_limit (number_or_zero w2))) false k2 in
      let (first, one) = asked-point x y z w (three-in query_limit x y z r1.0 r2.0 r3.0) q in
      let (second, two) = asked-point x2 y2 z2 w2 (three-in query_limit x2 y2 z2 r4.0 r5.0 r6.0) q2 in
      asks verb.Joined (name ∷ x ∷ y ∷ z ∷ w ∷ x2 ∷ y2 ∷ z2 ∷ w2 ∷ []) (command.Joined number f.node first second) refl (f.node, first, second, f.named, one, two, refl) tt

  asks-ray : (name x y z w dx dy dz : List ℕ) → Passed old.names verb.Ray (name ∷ x ∷ y ∷ z ∷ w ∷ dx ∷ dy ∷ dz ∷ []) → WordsAdd number verb.Ray (name ∷ x ∷ y ∷ z ∷ w ∷ dx ∷ dy ∷ dz ∷ []) old
  asks-ray name x y z w dx dy dz P =
      let (p, k) = or_parts (not (list_any (bytes_eq name) old.names)) _ P.unknown in
      let f = found name p in
      let (q, k2) = or_parts (not (is_from 1 ray_weight_limit (number_or_zero w))) _ P.weight in
      let (proper, heavy) = from-one ray_weight_limit (number_or_zero w) q in
      let r1 = or_parts (nat_lt ray_point_limit (nat_abs (number_or_zero x))) _ P.range in
      let r2 = or_parts (nat_lt ray_point_limit (nat_abs (number_or_zero y))) _ r1.1 in
      let r3 = or_parts (nat_lt ray_point_limit (nat_abs (number_or_zero z))) _ r2.1 in
      let r4 = or_parts (nat_lt ray_direction_limit (nat_abs (number_or_zero dx))) _ r3.1 in
      let r5 = or_parts (nat_lt ray_direction_limit (nat_abs (number_or_zero dy))) _ r4.1 in
      let r6 = or_parts (nat_lt ray_direction_limit (nat_abs (number_or_zero dz))) _ r5.1 in
      let (point, same, start) = point-at ray_point_limit ray_weight_limit (number_or_zero x) (number_or_zero y) (number_or_zero z) (number_or_zero w) (omega arith) (omega arith) (three-in ray_point_limit x y z r1.0 r2.0 r3.0) heavy proper in
      let (d, toward, short) = direction-of (number_or_zero dx) (number_or_zero dy) (number_or_zero dz) (three-in ray_direction_limit dx dy dz r4.0 r5.0 r6.0) (some-way (number_or_zero dx) (number_or_zero dy) (number_or_zero dz) P.direction) in
      asks verb.Ray (name ∷ x ∷ y ∷ z ∷ w ∷ dx ∷ dy ∷ dz ∷ []) (command.Ray number f.node point d) refl (f.node, point, d, f.named, (proper, same), toward, refl) (record { start = start; direction = short })

  asks-same : (l r : List ℕ) → Passed old.names verb.Same (l ∷ r ∷ []) → WordsAdd number verb.Same (l ∷ r ∷ []) old
  asks-same l r P =
      let (p, k) = or_parts (not (list_any (bytes_eq l) old.names)) _ P.unknown in
      let (q, k2) = or_parts (not (list_any (bytes_eq r) old.names)) false k in
      let f = found l p in
      let g = found r q in
      asks verb.Same (l ∷ r ∷ []) (command.Same number f.node g.node) refl (f.node, g.node, f.named, g.named, refl) tt

  asks-count : (name : List ℕ) → Passed old.names verb.Count (name ∷ []) → WordsAdd number verb.Count (name ∷ []) old
  asks-count name P =
      let (p, k) = or_parts (not (list_any (bytes_eq name) old.names)) false P.unknown in
      let f = found name p in
      asks verb.Count (name ∷ []) (command.Count number f.node) refl (f.node, f.named, refl) tt

  asks-print : (name : List ℕ) → Passed old.names verb.Print (name ∷ []) → WordsAdd number verb.Print (name ∷ []) old
  asks-print name P =
      let (p, k) = or_parts (not (list_any (bytes_eq name) old.names)) false P.unknown in
      let f = found name p in
      asks verb.Print (name ∷ []) (command.Print number f.node name) refl (f.node, f.named, refl) tt

  -- ---- a command with as many words as it is to have
  words-add : (v : Verb) (args : List (List ℕ)) → Passed old.names v args → WordsAdd number v args old
  words-add v args P = subst (λ ws. WordsAdd number v ws old) (sym counted) (by v (subst (Passed old.names v) counted P))
    where
      counted : args ≡ firsts (length (roles v)) args
      counted = all-words (length (roles v)) args (eqb-true (length args) (length (roles v)) (is-so (nat_eq (length args) (length (roles v))) P.count))

      by : (v : Verb) → Passed old.names v (firsts (length (roles v)) args) → WordsAdd number v (firsts (length (roles v)) args) old
      by verb.Half P = binds-half _ _ _ _ _ _ P
      by verb.Empty P = binds-node verb.Empty _ [] node.Empty refl refl
      by verb.Full P = binds-node verb.Full _ [] node.Full refl refl
      by verb.And P = binds-two verb.And _ _ _ node.And refl (λ i j a b. (i, j, a, b, refl)) P.unknown
      by verb.Or P = binds-two verb.Or _ _ _ node.Or refl (λ i j a b. (i, j, a, b, refl)) P.unknown
      by verb.Diff P = binds-two verb.Diff _ _ _ node.Diff refl (λ i j a b. (i, j, a, b, refl)) P.unknown
      by verb.Xor P = binds-two verb.Xor _ _ _ node.Xor refl (λ i j a b. (i, j, a, b, refl)) P.unknown
      by verb.Not P = binds-one verb.Not _ _ node.Not refl (λ i a. (i, a, refl)) P.unknown
      by verb.Int P = binds-one verb.Int _ _ node.Int refl (λ i a. (i, a, refl)) P.unknown
      by verb.Cl P = binds-one verb.Cl _ _ node.Cl refl (λ i a. (i, a, refl)) P.unknown
      by verb.Bd P = binds-one verb.Bd _ _ node.Bd refl (λ i a. (i, a, refl)) P.unknown
      by verb.Reg P = binds-one verb.Reg _ _ node.Reg refl (λ i a. (i, a, refl)) P.unknown
      by verb.Turn P = binds-turn _ _ _ P
      by verb.Has P = asks-has _ _ _ _ _ P
      by verb.Joined P = asks-joined _ _ _ _ _ _ _ _ _ P
      by verb.Ray P = asks-ray _ _ _ _ _ _ _ _ P
      by verb.Same P = asks-same _ _ P
      by verb.Count P = asks-count _ P
      by verb.Print P = asks-print _ P

  line-adds : (text : List ℕ) → line_refusal old.names text ≡ None → LineAdds number text old
  line-adds text e = by (words_of text) refl (words-tested old.names text e)
    where
      by : (words : List (List ℕ)) → words_of text ≡ words → refusal_in (words_tests old.names (words_of text)) ≡ None → LineAdds number text old
      by [] is tested = record { new = old; good = good; adds = AddsLine-blank number text old sound e is }
      by (word ∷ args) is tested = then (verb_of word) refl (subst (λ ws. refusal_in (words_tests old.names ws) ≡ None) is tested)
        where
          then : (o : Option Verb) → verb_of word ≡ o → refusal_in (command_tests old.names (verb_of word) args) ≡ None → LineAdds number text old
          then None f tested = absurd (let g : Some kind.UnknownCommand ≡ None = subst (λ o. refusal_in (command_tests old.names o args) ≡ None) f tested in cc)
          then (Some v) f tested =
              let W = words-add v args (passed old.names v args (subst (λ o. refusal_in (command_tests old.names o args) ≡ None) f tested)) in
              record { new = W.new; good = W.good; adds = AddsLine-words number text word v args old W.new e is f W.adds }

-- ---- all lines
module _ (bytes : List ℕ) (accepted : IsAccepted bytes) where
  record ReadAll : Type 0 where
    reached : ReadState
    good : IsGood reached.table
    read : HasRead (lines_of bytes) [] reached

  read-all : (left : List (ℕ × List ℕ)) (s : ReadState) → HasRead (lines_of bytes) left s → IsGood s.table → ReadAll
  read-all [] s read good = record { reached = s; good = good; read = read }
  read-all ((number, text) ∷ left) s read good = by (line_refusal s.names text) refl (λ t r g. read-all left t r g)
    where
      by : (o : Option ScriptKind) → line_refusal s.names text ≡ o → ((t : ReadState) → HasRead (lines_of bytes) left t → IsGood t.table → ReadAll) → ReadAll
      by None e more =
          let L = line-adds number s read.sound good text e in
          more L.new (HasRead-next (lines_of bytes) number text left s L.new read L.adds) L.good
      by (Some k) e more = absurd (never_both bytes number k (HasRead-refused bytes number text left s k accepted.short read e) accepted)

  script-means : (nodes : List Node) × (commands : List Command) × MeansScript bytes nodes commands
  script-means = by (read-all (enumerate_from 1 (lines_of bytes)) first_state (HasRead-start (lines_of bytes)) (record { ordered = λ k n at. cc; origins = record { count = refl; each = λ n o at. cc; once = λ m n o at. cc } }))
    where
      by : ReadAll → (nodes : List Node) × (commands : List Command) × MeansScript bytes nodes commands
      by R =
          let s = R.reached in
          let T = s.table in
          let G = R.good in
          let (passes, means, bases) = HasRead-end (lines_of bytes) s R.read in
          (T.nodes, s.commands, (sets_of s, refl, G.ordered, means, subst (λ (b : ℕ). AreOrigins T.nodes T.origins b) bases G.origins))

-- EACH ACCEPTED SCRIPT HAS A MEANING
pub each-means : EachMeans
each-means bytes accepted = script-means bytes accepted
