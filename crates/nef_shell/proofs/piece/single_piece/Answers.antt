use Rattle.nef_shell.proofs.Prelude.{◌≡◌, ◌∙◌, ap, refl, sym, None, Some, first_asked, second_asked, IsHeld}
use Rattle.nef_shell.proofs.Asking.{asked-node}
use Rattle.nef_shell.proofs.piece.single_piece.Goals as goal

pub label_at-requires : goal.label_at-requires
label_at-requires g c = record { shows = (c.requires.held.0, c.requires.held.1.shows) }

pub returns-in-Has-clause-piece : goal.returns-in-Has-clause-piece
returns-in-Has-clause-piece g c nodes asked other =
    let h = asked-node nodes c.args.command.now (λ s. IsHeld c.args.options.now.text s c.args.held.now) _ (ap first_asked c.in-Has.is) asked in
    rw c.in-Has.is (c.label_at.result, c.label_at.ensures.label _ h.shows, c.answer.ensures.bytes)

pub returns-in_ok-line-in-Joined-clause-piece : goal.returns-in_ok-line-in-Joined-clause-piece
returns-in_ok-line-in-Joined-clause-piece g c nodes asked other =
    let h = asked-node nodes c.args.command.now (λ s. IsHeld c.args.options.now.text s c.args.held.now) _ (ap first_asked c.in-Joined.is) asked in
    rw c.in-Joined.is (c.in_ok-line-in-Joined.ensures.piece _ h)

pub ray_piece-requires : goal.ray_piece-requires
ray_piece-requires g c =
    let within = rw c.in-Ray.is at c.requires.within.1 in
    record { shows = (c.requires.held.0, c.requires.held.1.shows); within = within.1 }

pub returns-in_ok-text-in-Ray-clause-piece : goal.returns-in_ok-text-in-Ray-clause-piece
returns-in_ok-text-in-Ray-clause-piece g c nodes asked other =
    let h = asked-node nodes c.args.command.now (λ s. IsHeld c.args.options.now.text s c.args.held.now) _ (ap first_asked c.in-Ray.is) asked in
    rw c.in-Ray.is (c.in_ok-text-in-Ray.ensures.piece _ h.shows)

pub returns-in_ok-text-in-Count-clause-piece : goal.returns-in_ok-text-in-Count-clause-piece
returns-in_ok-text-in-Count-clause-piece g c nodes asked other =
    let h = asked-node nodes c.args.command.now (λ s. IsHeld c.args.options.now.text s c.args.held.now) _ (ap first_asked c.in-Count.is) asked in
    rw c.in-Count.is (c.in_ok-text-in-Count.ensures.piece _ h)

pub returns-in_ok-text-in-Print-clause-piece : goal.returns-in_ok-text-in-Print-clause-piece
returns-in_ok-text-in-Print-clause-piece g c nodes asked other =
    let h = asked-node nodes c.args.command.now (λ s. IsHeld c.args.options.now.text s c.args.held.now) _ (ap first_asked c.in-Print.is) asked in
    rw c.in-Print.is (c.in_ok-text-in-Print.ensures.piece _ h)

pub returns-in-Bind-clause-piece : goal.returns-in-Bind-clause-piece
returns-in-Bind-clause-piece g c nodes asked other = rw c.in-Bind.is refl

pub returns-in-Turn-clause-piece : goal.returns-in-Turn-clause-piece
returns-in-Turn-clause-piece g c nodes asked other = rw c.in-Turn.is refl

pub returns-in-Same-clause-piece : goal.returns-in-Same-clause-piece
returns-in-Same-clause-piece g c nodes asked other = absurd (let f : Some _ ≡ None = sym (ap second_asked c.in-Same.is) ∙ other in cc)
