use Rattle.nef_shell.proofs.Prelude.{◌∙◌, ap, subst, sym, None, Some, length-set, slice_get_within, IsHeld}
use Rattle.nef_shell.proofs.Asking.{same-written}
use Rattle.nef_shell.proofs.Kept.{held-shown, still-put}
use Rattle.nef_shell.proofs.piece.piece_of.Goals as goal

pub returns-in-Some-clause-piece : goal.returns-in-Some-clause-piece
returns-in-Some-clause-piece g c nodes asked other =
    let version = c.args.options.now.text in
    let values = c.args.values.now in
    let (m, one, first) = asked in
    let (n, two, second) = rw c.in-Some.is at other in
    same-written version nodes c.args.command.now m n _ one two (c.same_piece.ensures.piece _ _ (held-shown version _ values c.args.first first) (held-shown version _ values c.in-Some.second second))

pub taken_from-requires : goal.taken_from-requires
taken_from-requires g c = let (s, (b, at, held)) = c.requires.first in record { within = slice_get_within c.args.values.now c.args.first _ at }

pub put_at-requires : goal.put_at-requires
put_at-requires g c =
    let (s, (b, at, held)) = c.requires.first in
    let low = slice_get_within c.args.values.now c.args.first _ at in
    record { within = rw (c.taken_from.ensures.put, length-set c.args.values.now c.args.first None) low }

pub returns-in_ok-piece-in-Some-taken_from-clause-still : goal.returns-in_ok-piece-in-Some-taken_from-clause-still
returns-in_ok-piece-in-Some-taken_from-clause-still g c =
    let version = c.args.options.now.text in
    let at = c.taken_from.ensures.taken ∙ ap Some c.in-Some-taken_from.is in
    rw (c.put_at.ensures.put, c.taken_from.ensures.put) (still-put version c.args.values.now c.args.first c.in-Some-taken_from.held _ at (λ s h. c.in_ok-piece-in-Some-taken_from.ensures.held s (subst (IsHeld version s) (sym c.deref_mut.ensures.value) h)))
