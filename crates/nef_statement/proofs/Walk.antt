-- The lines of a script, one after the other, with the names that they bind.
use Rattle.nef_statement.proofs.Prelude.{◌≡◌, ℕ, ◌+◌, Bool, true, false, cond, List, [], ◌∷◌, ◌++◌, length, take, Some, slice_get, if◌then◌else◌, refl, sym, ap, ◌∙◌, subst, arith, append-nil, append_assoc, length-append, nat_eq, not, filter, take-append_seam, ne_eqb, filter-append, slice_get_within, words_of, IsOrdered, slice_get-seam, names_of, bound_name, NamesNode, Sets, MeansWords, MeansLines, has_words, bases_of, names_of-push, Command, Bindings, bound_after, denoted, NodesDenote}
use Rattle.nef_statement.proofs.Bound.{names_in, Agree, named, words-follow}

pub no-words : (words : List (List ℕ)) → not (nat_eq (length words) 0) ≡ false → words ≡ []
no-words [] e = refl
no-words (w ∷ ws) e =
    let some : nat_eq (length (w ∷ ws)) 0 ≡ false = ne_eqb (length (w ∷ ws)) 0 (λ z. omega (arith, z)) in
    let odd : true ≡ false = sym (ap not some) ∙ e in
    cc

counted : (done : List (List ℕ)) (line : List ℕ) (t : Bool) → has_words line ≡ t → length (filter has_words (done ++ line ∷ [])) ≡ length (filter has_words done) + (if t then 1 else 0)
counted done line t e =
    ap length (filter-append has_words done (line ∷ []))
    ∙ length-append (filter has_words done) (filter has_words (line ∷ []))
    ∙ ap (λ n. length (filter has_words done) + n) (one t e)
  where
    one : (t : Bool) → has_words line ≡ t → length (filter has_words (line ∷ [])) ≡ (if t then 1 else 0)
    one true e = ap (λ b. length (cond b (line ∷ []) [])) e
    one false e = ap (λ b. length (cond b (line ∷ []) [])) e

-- how far the lines are read: these lines are done, by these commands, and their names have these sets
pub record Walked (lines : List (List ℕ)) (ss : Sets) (commands : List Command) (done rest : List (List ℕ)) (sets : Bindings) (front back : List Command) : Type 0 where
  pub split : lines ≡ done ++ rest
  pub cut : commands ≡ front ++ back
  pub count : length front ≡ length (filter has_words done)
  pub names : names_in sets ≡ names_of done
  pub agree : Agree ss.nodes sets ss.bound

-- before the first line
pub begun : (lines : List (List ℕ)) (ss : Sets) (commands : List Command) → Walked lines ss commands [] lines [] [] commands
begun lines ss commands = record { split = refl; cut = refl; count = refl; names = refl; agree = tt }

-- the next line, if it has words: its command, and how far the lines are read then
pub record Next (lines : List (List ℕ)) (ss : Sets) (commands : List Command) (done rest : List (List ℕ)) (line : List ℕ) (sets : Bindings) (front back : List Command) : Type 0 where
  pub command : Command
  pub others : List Command
  pub is : back ≡ command ∷ others
  pub means : MeansWords (names_in sets) (bases_of done) (length done + 1) (words_of line) ss command
  pub after : Walked lines ss commands (done ++ line ∷ []) rest (bound_after sets (words_of line)) (front ++ command ∷ []) others

module _ (lines : List (List ℕ)) (ss : Sets) (commands : List Command) (means : MeansLines lines ss commands) (ordered : IsOrdered ss.nodes) where
  after-filled : (done rest : List (List ℕ)) (line : List ℕ) (sets : Bindings) (front back : List Command) (c : Command) (cs : List Command) → Walked lines ss commands done (line ∷ rest) sets front back → has_words line ≡ true → back ≡ c ∷ cs
      → MeansWords (names_in sets) (bases_of done) (length done + 1) (words_of line) ss c → Walked lines ss commands (done ++ line ∷ []) rest (bound_after sets (words_of line)) (front ++ c ∷ []) cs
  after-filled done rest line sets front back c cs d filled e words =
      let (agree, names) = words-follow ss ordered sets d.agree (bases_of done) (length done + 1) (words_of line) c words in
      record {
        split = d.split ∙ sym (append_assoc done (line ∷ []) rest);
        cut = d.cut ∙ ap (λ l. front ++ l) e ∙ sym (append_assoc front (c ∷ []) cs);
        count = (let a = counted done line true filled in let b = length-append front (c ∷ []) in let n = d.count in omega (arith, a, b, n));
        names = names ∙ ap (λ l. l ++ bound_name (words_of line)) d.names ∙ sym (names_of-push done line);
        agree = agree;
      }

  pub next : (done rest : List (List ℕ)) (line : List ℕ) (sets : Bindings) (front back : List Command) → Walked lines ss commands done (line ∷ rest) sets front back → has_words line ≡ true → Next lines ss commands done rest line sets front back
  next done rest line sets front back d filled =
      let same : take (length done) lines ≡ done = ap (take (length done)) d.split ∙ take-append_seam done (line ∷ rest) in
      let here : slice_get lines (length done) ≡ Some line = ap (λ l. slice_get l (length done)) d.split ∙ slice_get-seam done line rest in
      let (c, at, words) = means.each (length done) line here filled in
      let at' : slice_get (front ++ back) (length front) ≡ Some c =
      ap (λ n. slice_get (front ++ back) n) (d.count ∙ ap (λ l. length (filter has_words l)) (sym same)) ∙ ap (λ l. slice_get l (length (filter has_words (take (length done) lines)))) (sym d.cut) ∙ at in
      let words' = subst (λ n. MeansWords n (bases_of done) (length done + 1) (words_of line) ss c) (sym d.names) (subst (λ l. MeansWords (names_of l) (bases_of l) (length done + 1) (words_of line) ss c) same words) in
      by c words' back d at'
    where
      by : (c : Command) → MeansWords (names_in sets) (bases_of done) (length done + 1) (words_of line) ss c → (back : List Command) → Walked lines ss commands done (line ∷ rest) sets front back → slice_get (front ++ back) (length front) ≡ Some c
          → Next lines ss commands done rest line sets front back
      by c words [] d at = let within = slice_get_within (front ++ []) (length front) c at in let e = ap (λ (l : List Command). length l) (append-nil front) in absurd (omega (arith, within, e))
      by c words (f ∷ cs) d at =
          let same : f ≡ c = (let e : Some f ≡ Some c = sym (slice_get-seam front f cs) ∙ at in cc) in
          let words' = subst (λ z. MeansWords (names_in sets) (bases_of done) (length done + 1) (words_of line) ss z) (sym same) words in
          record { command = f; others = cs; is = refl; means = words'; after = after-filled done rest line sets front (f ∷ cs) f cs d filled refl words' }

  pub after-empty : (done rest : List (List ℕ)) (line : List ℕ) (sets : Bindings) (front back : List Command) → Walked lines ss commands done (line ∷ rest) sets front back → has_words line ≡ false
      → Walked lines ss commands (done ++ line ∷ []) rest (bound_after sets (words_of line)) front back
  after-empty done rest line sets front back d empty =
      let none = no-words (words_of line) empty in
      record {
        split = d.split ∙ sym (append_assoc done (line ∷ []) rest);
        cut = d.cut;
        count = (let a = counted done line false empty in let n = d.count in omega (arith, a, n));
        names = ap (λ w. names_in (bound_after sets w)) none ∙ d.names ∙ sym (append-nil (names_of done)) ∙ ap (λ w. names_of done ++ bound_name w) (sym none) ∙ sym (names_of-push done line);
        agree = subst (λ w. Agree ss.nodes (bound_after sets w) ss.bound) (sym none) d.agree;
      }

  -- no command is left where no line is
  pub none-left : (done : List (List ℕ)) (sets : Bindings) (front back : List Command) → Walked lines ss commands done [] sets front back → back ≡ []
  none-left done sets front [] d = refl
  none-left done sets front (c ∷ cs) d =
      let a = ap (λ (l : List Command). length l) d.cut in
      let b = length-append front (c ∷ cs) in
      let e = ap (λ l. length (filter has_words l)) (d.split ∙ append-nil done) in
      let n = d.count in
      let m = means.command_count in
      absurd (omega (arith, a, b, e, n, m))

  -- the bindings after all lines
  walk-denoted : (rest done : List (List ℕ)) (sets : Bindings) (front back : List Command) → Walked lines ss commands done rest sets front back → Agree ss.nodes (denoted sets rest) ss.bound × (names_in (denoted sets rest) ≡ names_of lines)
  walk-denoted [] done sets front back d = (d.agree, d.names ∙ ap names_of (sym (d.split ∙ append-nil done)))
  walk-denoted (line ∷ rest) done sets front back d = by (walk-denoted rest (done ++ line ∷ [])) (has_words line) refl
    where
      by : ((sets : Bindings) (front back : List Command) → Walked lines ss commands (done ++ line ∷ []) rest sets front back → Agree ss.nodes (denoted sets rest) ss.bound × (names_in (denoted sets rest) ≡ names_of lines))
          → (t : Bool) → has_words line ≡ t → Agree ss.nodes (denoted sets (line ∷ rest)) ss.bound × (names_in (denoted sets (line ∷ rest)) ≡ names_of lines)
      by more true filled = let n = next done rest line sets front back d filled in more (bound_after sets (words_of line)) (front ++ n.command ∷ []) n.others n.after
      by more false empty = more (bound_after sets (words_of line)) front back (after-empty done rest line sets front back d empty)

-- the node of each name has the set that the lines give it
pub nodes-denote : NodesDenote
nodes-denote lines ss commands means ordered name k is =
    let (agree, names) = walk-denoted lines ss commands means ordered lines [] [] [] commands (begun lines ss commands) in
    named ss.nodes name (denoted [] lines) ss.bound k agree (subst (λ n. NamesNode n ss.bound name k) (sym names) is)
