use Rattle.nef_complex.proofs.Prelude.{◌≡◌, ℕ, List, length, true, refl, sym, subst, ◌∙◌, MatchOrdering, is_eq, false≢true, ltb-true, slice_get_read, IsAt, Plane, plane-ordered}
use Rattle.std.proofs.Common.{Ordering, Less, Equal, Greater}
use Rattle.nef_complex.proofs.taken_rows.stands_at.Goals as goal

if-equal : (A B C : Type 0) (o : Ordering) → MatchOrdering o A B C → is_eq o ≡ true → B
if-equal A B C Less m e = absurd (false≢true e)
if-equal A B C Equal m e = m
if-equal A B C Greater m e = absurd (false≢true e)

pub returns-in-Some : goal.returns-in-Some
returns-in-Some c =
    let hs : List Plane = c.args.planes.now in
    let k : ℕ = c.args.place in
    let g : Plane = c.in-Some.g.now in
    let here = slice_get_read hs (length hs) k g refl (ltb-true k (length hs) (sym c.in-Some.ensures.lookup.0)) c.in-Some.ensures.lookup.1 in
    record { stands = λ t. subst (λ (r : Plane). IsAt hs k r) (if-equal _ _ _ c.cmp.result (plane-ordered g c.args.h.now c.cmp.result c.cmp.ensures) (sym c.is_eq.ensures ∙ t)) here }
