-- A turned plane has one normal form.
use Rattle.nef_turn.proofs.Prelude.{ap, sym, subst, ◌∙◌, Form, normal_of, IsDirection, IsInRange, IsPositiveMultiple, form_of, given_form}
use Rattle.nef_turn.proofs.Exact.{plane-words, plane-in_range, plane-some, plane-one}
use Rattle.nef_turn.proofs.turning.turned_carrier.Goals as goal

pub of-requires : goal.of-requires
of-requires c =
    let k = c.args.turn.now.number in let h = c.args.h.now in
    let e = plane-words k h c.turned-a.result c.a.result c.b.result c.c.result c.d.result c.turned-a.ensures.turned c.a.ensures.a c.b.ensures.b c.c.ensures.c c.d.ensures.d in
    record { in_range = subst IsInRange (sym e) (plane-in_range k h); some = subst (λ (f : Form). IsDirection (normal_of f)) (sym e) (plane-some k h) }

pub returns : goal.returns
returns c =
    let k = c.args.turn.now.number in let h = c.args.h.now in let o = c.of.result in
    let e = plane-words k h c.turned-a.result c.a.result c.b.result c.c.result c.d.result c.turned-a.ensures.turned c.a.ensures.a c.b.ensures.b c.c.ensures.c c.d.ensures.d in
    let r = plane-one k h o (subst (λ (f : Form). IsPositiveMultiple f (given_form o)) e c.of.ensures.multiple) in
    record { turned = (r.0, ap form_of c.plane.ensures.plane ∙ r.1) }
