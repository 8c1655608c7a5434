use Rattle.nef_shell.proofs.Prelude.{◌≡◌, ◌∙◌, ◌<◌, arith, sym, subst, inl, refl, [], IsSomeAnd, slice_get_read, values_after, IsNewlyHeld}
use Rattle.nef_shell.proofs.Kept.{held-less, held-put, there-shown}
use Rattle.nef_shell.proofs.Sets.{value-at}
use Rattle.nef_shell.proofs.Uses.{done-put}
use Rattle.nef_shell.proofs.values.make_value.Goals as goal

pub returns-then-is_there-clause-made : goal.returns-then-is_there-clause-made
returns-then-is_there-clause-made g c = record { count = refl; stays = λ k awaited there. there; only = λ k there. inl there; made = λ s at makes. c.is_there.ensures.there c.if-is_there.true }

pub worked-requires-clause-task : goal.worked-requires-clause-task
worked-requires-clause-task g c κs within =
    let at = slice_get_read c.args.steps.now _ c.args.now c.index-steps-now.result refl c.requires.now c.index-steps-now.is in
    (c.requires.stand.placed.right.tasks c.args.now _ at, c.requires.makes _ at)

pub worked-requires-clause-operands : goal.worked-requires-clause-operands
worked-requires-clause-operands g c κs within =
    let steps = c.args.steps.now in
    let now = c.args.now in
    let at = slice_get_read steps _ now c.index-steps-now.result refl c.requires.now c.index-steps-now.is in (
      values_after [] steps,
      λ k looks.
          let (d, below, seen, makes) = c.requires.stand.placed.right.made_before now _ at k looks in
          let (b, there) = c.requires.stand.ready k below (now, c.index-steps-now.result, omega arith, at, looks) in
          there-shown _ _ k b there (c.requires.stand.placed.held k b there).shows,
    )

pub put_at-requires : goal.put_at-requires
put_at-requires g c = let less = c.in_ok-made.ensures.less in record { within = omega (arith, less.count, c.requires.stand.placed.count, c.requires.now) }

pub returns-clause-held : goal.returns-clause-held
returns-clause-held g c =
    let steps = c.args.steps.now in
    let now = c.args.now in
    let version = c.args.means.now.options.text in
    let at = slice_get_read steps _ now c.index-steps-now.result refl c.requires.now c.index-steps-now.is in
    let less = c.in_ok-made.ensures.less in
    let new = c.in_ok-made.ensures.new (values_after [] steps) (λ k looks.
    let (d, below, seen, makes) = c.requires.stand.placed.right.made_before now _ at k looks in
    let (b, there) = c.requires.stand.ready k below (now, c.index-steps-now.result, omega arith, at, looks) in
    there-shown _ _ k b there (c.requires.stand.placed.held k b there).shows) in
    rw c.put_at.ensures.put (held-put version steps c.worked.new.values now c.in_ok-made.made (omega (arith, less.count, c.requires.stand.placed.count, c.requires.now)) (subst (λ s. IsSomeAnd c.in_ok-made.made (λ b. IsNewlyHeld s b.value)) (sym (value-at steps now _ c.requires.stand.placed.right at)) new) (held-less version steps _ _ _ less c.requires.stand.placed.held))

pub returns-clause-made : goal.returns-clause-made
returns-clause-made g c =
    let steps = c.args.steps.now in
    let now = c.args.now in
    let at = slice_get_read steps _ now c.index-steps-now.result refl c.requires.now c.index-steps-now.is in
    let less = c.in_ok-made.ensures.less in
    let new = c.in_ok-made.ensures.new (values_after [] steps) (λ k looks.
    let (d, below, seen, makes) = c.requires.stand.placed.right.made_before now _ at k looks in
    let (b, there) = c.requires.stand.ready k below (now, c.index-steps-now.result, omega arith, at, looks) in
    there-shown _ _ k b there (c.requires.stand.placed.held k b there).shows) in
    rw c.put_at.ensures.put (done-put steps now c.index-steps-now.result c.args.values.now c.worked.new.values c.in_ok-made.made _ (c.requires.stand.placed.ends now _ at) (omega (arith, less.count, c.requires.stand.placed.count, c.requires.now)) less new)
