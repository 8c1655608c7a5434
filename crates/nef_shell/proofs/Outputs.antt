-- Output that grows by one piece after another.
use Rattle.nef_shell.proofs.Prelude.{◌≡◌, ◌↔◌, ℕ, zero, suc, ◌+◌, ◌<◌, Bool, true, false, refl, sym, ap, ◌∙◌, List, [], ◌∷◌, ◌++◌, length, take, Option, Some, None, Result, Err, append_assoc, append-nil, subst, get_or, inl, inr, take_more, take-append-drop, IsTrue, SameSet, SpacePoint, InFrame, Set, Grows, GrowsWithin, TextVersion, Node, Step, asked_values, asked_values-append, Command, Status, OutOfMemory, FrontOf, WorkEnds, IsSameAnswer, IsJoinedAnswer, grows_within-none, IsPiece, IsOutput, same_answer, joined_answer}
use Rattle.std.proofs.Common.{drop}
use Rattle.std.proofs.Math.Seq.{take-append-add}
use Rattle.nef_space.specs.Local.{Joined}
use Rattle.nef_io.proofs.Told.{Grows-trans}

-- the output of commands, and of more
pub output-append : (version : TextVersion) (nodes : List Node) (cs ds : List Command) (x y : List ℕ) → IsOutput version nodes cs x → IsOutput version nodes ds y → IsOutput version nodes (cs ++ ds) (x ++ y)
output-append version nodes [] ds x y none is = subst (λ z. IsOutput version nodes ds (z ++ y)) (sym none) is
output-append version nodes (c ∷ cs) ds x y (first, rest, first_is, rest_is, whole) is =
    (first, rest ++ y, first_is, output-append version nodes cs ds rest y rest_is is, ap (λ z. z ++ y) whole ∙ append_assoc first rest y)

pub grows-none : (a : Option (List ℕ)) → Grows a a []
grows-none None = tt
grows-none (Some bs) = sym (append-nil bs)

-- what grew by all of xs and then by a front of ys grew by a front of both
pub grows_within-more : (a b c : Option (List ℕ)) (xs ys : List ℕ) → Grows a b xs → GrowsWithin b c ys → GrowsWithin a c (xs ++ ys)
grows_within-more a b c xs ys h (n, k) =
    (length xs + n, subst (λ z. Grows a c z) (sym (take-append-add xs ys n)) (Grows-trans a b c xs (take n ys) h k))

-- the questions of the steps so far, and of one more
asked-next : (steps : List Step) (i : ℕ) (s : Step) → i < length steps → s ≡ get_or steps i s → asked_values (take (i + 1) steps) ≡ asked_values (take i steps) ++ asked_values (s ∷ [])
asked-next steps i s within at = ap asked_values (take_more steps i s within ∙ ap (λ z. take i steps ++ z ∷ []) (sym at)) ∙ asked_values-append (take i steps) (s ∷ [])

pub output-next : (version : TextVersion) (nodes : List Node) (steps : List Step) (i : ℕ) (s : Step) (x y : List ℕ) → i < length steps → s ≡ get_or steps i s → IsOutput version nodes (asked_values (take i steps)) x → IsOutput version nodes (asked_values (s ∷ [])) y
    → IsOutput version nodes (asked_values (take (i + 1) steps)) (x ++ y)
output-next version nodes steps i s x y within at so_far is =
    subst (λ z. IsOutput version nodes z (x ++ y)) (sym (asked-next steps i s within at)) (output-append version nodes (asked_values (take i steps)) (asked_values (s ∷ [])) x y so_far is)

-- the first of some commands are the first of more
first-of-more : (cs ds : List Command) (n : ℕ) → (m : ℕ) × (take m (cs ++ ds) ≡ take n cs)
first-of-more [] ds zero = (0, refl)
first-of-more [] ds (suc n) = (0, refl)
first-of-more (c ∷ cs) ds zero = (0, refl)
first-of-more (c ∷ cs) ds (suc n) = let (m, same) = first-of-more cs ds n in (suc m, ap (λ z. c ∷ z) same)

-- what was written where the work stopped at a step
pub front-at : (version : TextVersion) (nodes : List Node) (steps : List Step) (i : ℕ) (s : Step) (first before after : Option (List ℕ)) (output : List ℕ) → i < length steps → s ≡ get_or steps i s → IsOutput version nodes (asked_values (take i steps)) output → Grows first before output
    → FrontOf version nodes (asked_values (s ∷ [])) before after → FrontOf version nodes (asked_values steps) first after
front-at version nodes steps i s first before after output within at so_far grown (count, piece, is, part) =
    let done = asked_values (take i steps) in
    let now = asked_values (s ∷ []) in
    let (m, same) = first-of-more (done ++ now) (asked_values (drop (i + 1) steps)) (length done + count) in
    let whole : (done ++ now) ++ asked_values (drop (i + 1) steps) ≡ asked_values steps =
    ap (λ z. z ++ asked_values (drop (i + 1) steps)) (sym (asked-next steps i s within at)) ∙ (sym (asked_values-append (take (i + 1) steps) (drop (i + 1) steps)) ∙ ap asked_values (take-append-drop (i + 1) steps)) in
    let these : take m (asked_values steps) ≡ done ++ take count now = ap (take m) (sym whole) ∙ (same ∙ take-append-add done now count) in (
      m,
      output ++ piece,
      subst (λ z. IsOutput version nodes z (output ++ piece)) (sym these) (output-append version nodes done (take count now) output piece so_far is),
      grows_within-more first before after output piece grown part,
    )

-- the work ended before its first command, for want of memory
pub ends-before : {A : Type 0} (version : TextVersion) (nodes : List Node) (cs : List Command) (before : Option (List ℕ)) (faults : ℕ) (r : Result A Status) → r ≡ Err OutOfMemory → WorkEnds version nodes cs before before faults faults r
ends-before version nodes cs before faults r is = rw is (record { done = tt; quiet = tt; stopped = refl; front = (0, [], refl, grows_within-none before []) })

-- the output of one command
pub one-output : (version : TextVersion) (nodes : List Node) (c : Command) (piece : List ℕ) → IsPiece version nodes c piece → IsOutput version nodes (c ∷ []) piece
one-output version nodes c piece is = (piece, [], is, refl, sym (append-nil piece))

-- the answer says whether the two sets are one
pub same-piece : (s t : Set) (same : Bool) → IsTrue same ↔ SameSet s t → IsSameAnswer s t (same_answer same)
same-piece s t true e = inl (e.0 refl, refl)
same-piece s t false e = inr (λ h. (let f : false ≡ true = e.1 h in cc), refl)

-- the answer says whether the two points are joined
pub joined-piece : (s : Set) (p q : SpacePoint) (joined : Bool) → InFrame p → InFrame q → IsTrue joined ↔ Joined s p q → IsJoinedAnswer s p q (joined_answer joined)
joined-piece s p q true P Q e = IsJoinedAnswer.joined P Q (e.0 refl) refl
joined-piece s p q false P Q e = IsJoinedAnswer.apart P Q (λ h. (let f : false ≡ true = e.1 h in cc)) refl
