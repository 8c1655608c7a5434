-- A script line by line.
use Rattle.nef_script.proofs.Prelude.{◌≡◌, ℕ, ◌+◌, ◌<◌, ◌≤◌, Bool, true, false, List, [], ◌∷◌, ◌++◌, length, take, Option, Some, None, slice_get, cond, if◌then◌else◌, inl, inr, refl, sym, ◌∙◌, ap, subst, arith, append-nil, append_assoc, length-append, All, filter, enumerate_from, take-append_seam, cases_lt, take-append-le, All-nil, All-push, All-weaker, filter-append, slice_get_within, lines_of, words_of, Node, script_limit, line_refusal, bound_name, names_of, RefusalAt, NoneRefused, FirstRefusal, Sets, SpeaksOfFirst, MeansWords, MeansLines, has_words, adds_base, bases_of, LooksAt, AreBoundBefore, IsBound, TurnsRight, ReadState, state, sets_of, IsSoundState, ReadStep, AddsLine, AddsCommand, NodeTable, table, slice_get-left, slice_get-seam, place-push, extends-length, HasRead, Command, ScriptKind}
use Rattle.nef_script.proofs.Looking.{all-at, within-more, turns-more, looks-before}
use Rattle.nef_script.proofs.More.{MoreSets, words-more}

-- ---- the names

pub names_of-append : (xs ys : List (List ℕ)) → names_of (xs ++ ys) ≡ names_of xs ++ names_of ys
names_of-append [] ys = refl
names_of-append (x ∷ xs) ys = ap (λ l. bound_name (words_of x) ++ l) (names_of-append xs ys) ∙ sym (append_assoc (bound_name (words_of x)) (names_of xs) (names_of ys))

pub names_of-push : (xs : List (List ℕ)) (x : List ℕ) → names_of (xs ++ x ∷ []) ≡ names_of xs ++ bound_name (words_of x)
names_of-push xs x = names_of-append xs (x ∷ []) ∙ ap (λ l. names_of xs ++ l) (append-nil (bound_name (words_of x)))

-- ---- one more line

-- what a place among the lines means
abbrev LineMeans : List (List ℕ) → Sets → List Command → ℕ → List ℕ → Type 0
LineMeans lines sets commands n line = (c : Command) × (slice_get commands (length (filter has_words (take n lines))) ≡ Some c) × MeansWords (names_of (take n lines)) (bases_of (take n lines)) (n + 1) (words_of line) sets c

count_push : (test : List ℕ → Bool) (done : List (List ℕ)) (text : List ℕ) (t : Bool) → test text ≡ t → length (filter test (done ++ text ∷ [])) ≡ length (filter test done) + (if t then 1 else 0)
count_push test done text t e =
    ap length (filter-append test done (text ∷ []))
    ∙ length-append (filter test done) (filter test (text ∷ []))
    ∙ ap (λ n. length (filter test done) + n) (one t e)
  where
    one : (t : Bool) → test text ≡ t → length (filter test (text ∷ [])) ≡ (if t then 1 else 0)
    one true e = ap (λ b. length (cond b (text ∷ []) [])) e
    one false e = ap (λ b. length (cond b (text ∷ []) [])) e

-- the command of an earlier line stays
earlier : (done : List (List ℕ)) (text : List ℕ) (old new : Sets) (more : MoreSets old new) (commands extra : List Command) (n : ℕ) (line : List ℕ) → n < length done → LineMeans done old commands n line → LineMeans (done ++ text ∷ []) new (commands ++ extra) n line
earlier done text old new more commands extra n line below (c, at, means) =
    let le : n ≤ length done = omega arith in
    let same : take n (done ++ text ∷ []) ≡ take n done = rw take-append-le refl in
    subst (λ l. (c : Command) × (slice_get (commands ++ extra) (length (filter has_words l)) ≡ Some c) × MeansWords (names_of l) (bases_of l) (n + 1) (words_of line) new c) (sym same)
    (c, slice_get-left commands extra _ c at, words-more old new more (names_of (take n done)) (bases_of (take n done)) (n + 1) (words_of line) c means)

-- the command of the new line
last : (done : List (List ℕ)) (text : List ℕ) (sets : Sets) (commands : List Command) (c : Command) → length commands ≡ length (filter has_words done) → MeansWords (names_of done) (bases_of done) (length done + 1) (words_of text) sets c → LineMeans (done ++ text ∷ []) sets (commands ++ c ∷ []) (length done) text
last done text sets commands c count means =
    subst (λ l. (d : Command) × (slice_get (commands ++ c ∷ []) (length (filter has_words l)) ≡ Some d) × MeansWords (names_of l) (bases_of l) (length done + 1) (words_of text) sets d) (sym (take-append_seam done (text ∷ [])))
    (c, subst (λ k. slice_get (commands ++ c ∷ []) k ≡ Some c) count (slice_get-seam commands c []), means)

names-next : (done : List (List ℕ)) (number : ℕ) (text : List ℕ) (old new : ReadState) → old.names ≡ names_of done → AddsLine number text old new → new.names ≡ names_of (done ++ text ∷ [])
names-next done number text old new names_are adds = adds.names_are ∙ ap (λ l. l ++ bound_name (words_of text)) names_are ∙ sym (names_of-push done text)

bases-next : (done : List (List ℕ)) (number : ℕ) (text : List ℕ) (old new : ReadState) → old.table.bases ≡ bases_of done → AddsLine number text old new → new.table.bases ≡ bases_of (done ++ text ∷ [])
bases-next done number text old new bases_are adds = adds.bases_are ∙ ap (λ n. n + (if adds_base text then 1 else 0)) bases_are ∙ sym (count_push adds_base done text (adds_base text) refl)

MeansLines-words : (done : List (List ℕ)) (text : List ℕ) (old new : Sets) → MoreSets old new → (commands : List Command) (c : Command) → has_words text ≡ true → MeansLines done old commands → length new.bound ≡ length (names_of (done ++ text ∷ [])) → MeansWords (names_of done) (bases_of done) (length done + 1) (words_of text) new c → MeansLines (done ++ text ∷ []) new (commands ++ c ∷ [])
MeansLines-words done text old new more commands c filled means count is =
    let counted = count_push has_words done text true filled in
    let longer = length-append commands (c ∷ []) in
    let before = means.command_count in
    record {
      bound_count = count;
      command_count = omega arith;
      each = λ n line at some. elim (place-push done text n line at) [
        | inl below ↦ earlier done text old new more commands (c ∷ []) n line below.0 (means.each n line below.1 some)
        | inr here ↦ subst (λ m. LineMeans (done ++ text ∷ []) new (commands ++ c ∷ []) m line) (sym here.0)
            (subst (λ l. LineMeans (done ++ text ∷ []) new (commands ++ c ∷ []) (length done) l) (sym here.1)
            (last done text new commands c means.command_count is))
      ];
    }

MeansLines-blank : (done : List (List ℕ)) (text : List ℕ) (old new : Sets) → MoreSets old new → (commands : List Command) → has_words text ≡ false → MeansLines done old commands → length new.bound ≡ length (names_of (done ++ text ∷ [])) → MeansLines (done ++ text ∷ []) new commands
MeansLines-blank done text old new more commands blank means count =
    let counted = count_push has_words done text false blank in
    let before = means.command_count in
    record {
      bound_count = count;
      command_count = omega arith;
      each = λ n line at some. elim (place-push done text n line at) [
        | inl below ↦ subst (λ cs. LineMeans (done ++ text ∷ []) new cs n line) (append-nil commands) (earlier done text old new more commands [] n line below.0 (means.each n line below.1 some))
        | inr here ↦ (let odd = ap has_words (sym here.1) in cc)
      ];
    }

-- ---- no refusal so far

pub here_at : (lines done rest : List (List ℕ)) (text : List ℕ) (r : Option ScriptKind) → lines ≡ done ++ text ∷ rest → line_refusal (names_of done) text ≡ r → RefusalAt lines (length done) r
here_at lines done rest text r split is = subst (λ l. RefusalAt l (length done) r) (sym split)
    (text, slice_get-seam done text rest, subst (λ l. line_refusal (names_of l) text ≡ r) (sym (take-append_seam done (text ∷ rest))) is)

pub passes_more : (lines : List (List ℕ)) (n : ℕ) → NoneRefused lines n → RefusalAt lines n None → NoneRefused lines (n + 1)
passes_more lines n before here m below = elim (cases_lt m n) [
  | inl earlier ↦ before m earlier
  | inr past ↦ (let same : n ≡ m = omega arith in subst (λ k. RefusalAt lines k None) same here)
]

-- ---- progress

abbrev pub first_state : ReadState
first_state = state [] [] (table [] [] 0) []

pub sound-start : IsSoundState first_state
sound-start = record { level = refl; within = λ i k at. cc; few = omega arith }

pub HasRead-start : (lines : List (List ℕ)) → HasRead lines (enumerate_from 1 lines) first_state
HasRead-start lines = record {
  done = [];
  rest = lines;
  split = refl;
  left_are = refl;
  names_are = refl;
  bases_are = refl;
  sound = sound-start;
  passes = λ m below. absurd (omega arith);
  means = record { bound_count = refl; command_count = refl; each = λ n line at some. cc };
  within = All-nil (SpeaksOfFirst 0);
  turns = All-nil (TurnsRight []);
  before = λ i c at. cc;
  bound = λ i k at. cc;
}

abbrev numbered : ℕ → List ℕ → ℕ × List ℕ
numbered n text = (n, text)

-- the next line that is left
next_of : (number : ℕ) (text : List ℕ) (left : List (ℕ × List ℕ)) (m : ℕ) (rest : List (List ℕ)) → numbered number text ∷ left ≡ enumerate_from m rest → (more : List (List ℕ)) × (rest ≡ text ∷ more) × (number ≡ m) × (left ≡ enumerate_from (m + 1) more)
next_of number text left m [] e = cc
next_of number text left m (r ∷ rest) e =
    let head : numbered number text ≡ numbered m r = cons_head (numbered number text) (numbered m r) left (enumerate_from (m + 1) rest) e in
    (rest, ap (λ (p : ℕ × List ℕ). p.1 ∷ rest) (sym head), ap (λ (p : ℕ × List ℕ). p.0) head, cons_tail (numbered number text) (numbered m r) left (enumerate_from (m + 1) rest) e)
  where
    cons_head : (p q : ℕ × List ℕ) (ps qs : List (ℕ × List ℕ)) → p ∷ ps ≡ q ∷ qs → p ≡ q
    cons_head p q ps qs f = cc

    cons_tail : (p q : ℕ × List ℕ) (ps qs : List (ℕ × List ℕ)) → p ∷ ps ≡ q ∷ qs → ps ≡ qs
    cons_tail p q ps qs f = cc

pub HasRead-refused : (bytes : List ℕ) (number : ℕ) (text : List ℕ) (left : List (ℕ × List ℕ)) (s : ReadState) (k : ScriptKind) → length bytes ≤ script_limit → HasRead (lines_of bytes) ((number, text) ∷ left) s → line_refusal s.names text ≡ Some k → FirstRefusal bytes number k
HasRead-refused bytes number text left s k short read refused =
    let next = next_of number text left (length read.done + 1) read.rest read.left_are in
    let split : lines_of bytes ≡ read.done ++ text ∷ next.0 = read.split ∙ ap (λ l. read.done ++ l) next.1 in
    let is = ap (λ l. line_refusal l text) (sym read.names_are) ∙ refused in
    subst (λ n. FirstRefusal bytes n k) (sym next.2) (FirstRefusal.at_line (length read.done) k short (here_at (lines_of bytes) read.done next.0 text (Some k) split is) read.passes)

-- ---- one more line, of all that is read
module _ (done : List (List ℕ)) (text : List ℕ) (old new : ReadState) (means : MeansLines done (sets_of old) old.commands) (within : All (SpeaksOfFirst (length old.table.nodes)) old.commands) (turns : All (TurnsRight old.table.nodes) old.commands) (before : AreBoundBefore old.table.nodes old.commands) (bound : (i k : ℕ) → slice_get old.bound i ≡ Some k → IsBound old.commands k) (level : length new.bound ≡ length (names_of (done ++ text ∷ []))) where
  -- what is read with it
  pub record Read : Type 0 where
    pub meaning : MeansLines (done ++ text ∷ []) (sets_of new) new.commands
    pub in_range : All (SpeaksOfFirst (length new.table.nodes)) new.commands
    pub turned : All (TurnsRight new.table.nodes) new.commands
    pub looked : AreBoundBefore new.table.nodes new.commands
    pub named : (i k : ℕ) → slice_get new.bound i ≡ Some k → IsBound new.commands k

  module _ (c : Command) (filled : has_words text ≡ true) (step : ReadStep old new c) (is : MeansWords (names_of done) (bases_of done) (length done + 1) (words_of text) (sets_of new) c) where
    abbrev commands : List Command
    commands = old.commands ++ c ∷ []

    longer : length old.table.nodes ≤ length new.table.nodes
    longer = extends-length old.table.nodes new.table.nodes step.nodes_stay

    -- a command at a place is an earlier one or the new one
    bound-more : (k : ℕ) → IsBound old.commands k → IsBound commands k
    bound-more k (i, d, at, binds) = (i, d, slice_get-left old.commands (c ∷ []) i d at, binds)

    all-before : AreBoundBefore new.table.nodes commands
    all-before i d at k looks = elim (place-push old.commands c i d at) [
      | inl there ↦ (
          let w : SpeaksOfFirst (length old.table.nodes) d = all-at (SpeaksOfFirst (length old.table.nodes)) old.commands i d within there.1 in
          let b = before i d there.1 k (looks-before old.table.nodes new.table.nodes d step.nodes_stay w k looks) in
          (b.0, b.1, b.2, slice_get-left old.commands (c ∷ []) b.0 b.1 b.3, b.4))
      | inr here ↦ (
          let found = step.looks k (subst (λ (x : Command). LooksAt new.table.nodes x k) here.1 looks) in
          let b = bound found.0 k found.1 in
          let l = slice_get_within old.commands b.0 b.1 b.2 in
          (b.0, b.1, omega (arith, l, here.0), slice_get-left old.commands (c ∷ []) b.0 b.1 b.2, b.3))
    ]

    all-bound : (i k : ℕ) → slice_get new.bound i ≡ Some k → IsBound commands k
    all-bound i k at = elim (step.binds i k at) [
      | inl there ↦ bound-more k (bound i k there)
      | inr binds ↦ (length old.commands, c, slice_get-seam old.commands c [], binds)
    ]

    pub read-words : Read
    read-words = record {
      meaning = subst (λ (cs : List Command). MeansLines (done ++ text ∷ []) (sets_of new) cs) (sym step.commands_are)
          (MeansLines-words done text (sets_of old) (sets_of new) (record { nodes = step.nodes_stay; origins = step.origins_stay; bound = step.bound_stay }) old.commands c filled means level is);
      in_range = subst (All (SpeaksOfFirst (length new.table.nodes))) (sym step.commands_are)
          (All-push (SpeaksOfFirst (length new.table.nodes)) old.commands c (All-weaker (SpeaksOfFirst (length old.table.nodes)) (SpeaksOfFirst (length new.table.nodes)) (λ d w. within-more (length old.table.nodes) (length new.table.nodes) d longer w) old.commands within) step.within);
      turned = subst (All (TurnsRight new.table.nodes)) (sym step.commands_are)
          (All-push (TurnsRight new.table.nodes) old.commands c (All-weaker (TurnsRight old.table.nodes) (TurnsRight new.table.nodes) (λ d w. turns-more old.table.nodes new.table.nodes d step.nodes_stay w) old.commands turns) step.turns);
      looked = subst (AreBoundBefore new.table.nodes) (sym step.commands_are) all-before;
      named = λ i k at. subst (λ (cs : List Command). IsBound cs k) (sym step.commands_are) (all-bound i k at);
    }

  pub read-blank : has_words text ≡ false → new.bound ≡ old.bound → new.table ≡ old.table → new.commands ≡ old.commands → Read
  read-blank blank bound_is table_is commands_are =
      let nodes_are = ap (λ (t : NodeTable). t.nodes) table_is in
      record {
        meaning = subst (λ (cs : List Command). MeansLines (done ++ text ∷ []) (sets_of new) cs) (sym commands_are)
            (MeansLines-blank done text (sets_of old) (sets_of new)
            (record { nodes = ([], nodes_are ∙ sym (append-nil old.table.nodes)); origins = ([], ap (λ (t : NodeTable). t.origins) table_is ∙ sym (append-nil old.table.origins)); bound = ([], bound_is ∙ sym (append-nil old.bound)) })
            old.commands blank means level);
        in_range = subst (All (SpeaksOfFirst (length new.table.nodes))) (sym commands_are) (subst (λ (ns : List Node). All (SpeaksOfFirst (length ns)) old.commands) (sym nodes_are) within);
        turned = subst (All (TurnsRight new.table.nodes)) (sym commands_are) (subst (λ (ns : List Node). All (TurnsRight ns) old.commands) (sym nodes_are) turns);
        looked = subst (AreBoundBefore new.table.nodes) (sym commands_are) (subst (λ (ns : List Node). AreBoundBefore ns old.commands) (sym nodes_are) before);
        named = λ i k at. subst (λ (cs : List Command). IsBound cs k) (sym commands_are) (bound i k (subst (λ (xs : List ℕ). slice_get xs i ≡ Some k) bound_is at));
      }

read-next : (done : List (List ℕ)) (text : List ℕ) (number : ℕ) (old new : ReadState) (means : MeansLines done (sets_of old) old.commands) (within : All (SpeaksOfFirst (length old.table.nodes)) old.commands) (turns : All (TurnsRight old.table.nodes) old.commands) (before : AreBoundBefore old.table.nodes old.commands) (bound : (i k : ℕ) → slice_get old.bound i ≡ Some k → IsBound old.commands k) (level : length new.bound ≡ length (names_of (done ++ text ∷ []))) → old.names ≡ names_of done → old.table.bases ≡ bases_of done → number ≡ length done + 1 → (t : Bool) → has_words text ≡ t → AddsCommand t number text old new → Read done text old new means within turns before bound level
read-next done text number old new means within turns before bound level names_are bases_are number_is true filled (c, step, is) =
    read-words done text old new means within turns before bound level c filled step
    (subst (λ (n : ℕ). MeansWords (names_of done) (bases_of done) n (words_of text) (sets_of new) c) number_is
    (subst (λ (n : ℕ). MeansWords (names_of done) n number (words_of text) (sets_of new) c) bases_are
    (subst (λ (l : List (List ℕ)). MeansWords l old.table.bases number (words_of text) (sets_of new) c) names_are is)))
read-next done text number old new means within turns before bound level names_are bases_are number_is false blank (bound_is, table_is, commands_are) = read-blank done text old new means within turns before bound level blank bound_is table_is commands_are

pub HasRead-next : (lines : List (List ℕ)) (number : ℕ) (text : List ℕ) (left : List (ℕ × List ℕ)) (old new : ReadState) → HasRead lines ((number, text) ∷ left) old → AddsLine number text old new → HasRead lines left new
HasRead-next lines number text left old new read adds =
    let done = read.done in
    let next = next_of number text left (length done + 1) read.rest read.left_are in
    let split : lines ≡ done ++ text ∷ next.0 = read.split ∙ ap (λ l. done ++ l) next.1 in
    let longer : length (done ++ text ∷ []) ≡ length done + 1 = length-append done (text ∷ []) in
    let names_are : new.names ≡ names_of (done ++ text ∷ []) = names-next done number text old new read.names_are adds in
    let is = ap (λ l. line_refusal l text) (sym read.names_are) ∙ adds.passes in
    let sound = adds.sound in
    let level : length new.bound ≡ length (names_of (done ++ text ∷ [])) = sound.level ∙ ap length names_are in
    let made = read-next done text number old new read.means read.within read.turns read.before read.bound level read.names_are read.bases_are next.2 (has_words text) refl adds.command in
    record {
      done = done ++ text ∷ [];
      rest = next.0;
      split = split ∙ sym (append_assoc done (text ∷ []) next.0);
      left_are = next.3 ∙ ap (λ n. enumerate_from (n + 1) next.0) (sym longer);
      names_are = names_are;
      bases_are = bases-next done number text old new read.bases_are adds;
      sound = adds.sound;
      passes = subst (NoneRefused lines) (sym longer) (passes_more lines (length done) read.passes (here_at lines done next.0 text None split is));
      means = made.meaning;
      within = made.in_range;
      turns = made.turned;
      before = made.looked;
      bound = made.named;
    }

pub HasRead-end : (lines : List (List ℕ)) (s : ReadState) → HasRead lines [] s → NoneRefused lines (length lines) × MeansLines lines (sets_of s) s.commands × (s.table.bases ≡ bases_of lines)
HasRead-end lines s read =
    let none : read.rest ≡ [] = empty _ read.rest read.left_are in
    let all : lines ≡ read.done = read.split ∙ ap (λ l. read.done ++ l) none ∙ append-nil read.done in
    (subst (λ n. NoneRefused lines n) (ap length (sym all)) read.passes, subst (λ l. MeansLines l (sets_of s) s.commands) (sym all) read.means, read.bases_are ∙ ap bases_of (sym all))
  where
    empty : (m : ℕ) (rest : List (List ℕ)) → [] ≡ enumerate_from m rest → rest ≡ []
    empty m [] e = refl
    empty m (r ∷ rest) e = cc
