use Rattle.nef_shell.proofs.Prelude.{◌≡◌, inl, inr, IfOk-weaker}
use Rattle.nef_shell.proofs.Kept.{less-both, less-wider, shown-within, spent-less, spent-shown, spent-beside, handed-beside}
use Rattle.nef_shell.proofs.values.combined.Goals as goal

pub spend-first-requires : goal.spend-first-requires
spend-first-requires g c = record { within = shown-within c.requires.first.0 _ c.args.i c.requires.first.1 }

pub spend-second-requires : goal.spend-second-requires
spend-second-requires g c = record { within = shown-within c.requires.second.0 _ c.args.j (spent-beside _ c.args.i c.args.j _ _ _ _ c.spend-first.ensures.spent c.requires.second.1) }

pub joined-requires-clause-first : goal.joined-requires-clause-first
joined-requires-clause-first g c κs within =
    let (s, shown) = c.requires.first in
    (s, rw c.handed-a.ensures.complex (handed-beside s c.spend-first.result c.args.i _ _ (spent-beside s c.args.j c.args.i _ _ _ _ c.spend-second.ensures.spent) (spent-shown s c.args.i c.args.j _ _ _ _ c.spend-first.ensures.spent shown)))

pub joined-requires-clause-second : goal.joined-requires-clause-second
joined-requires-clause-second g c κs within =
    let (t, shown) = c.requires.second in
    (t, rw c.handed-b.ensures.complex (spent-shown t c.args.j c.args.i _ _ _ _ c.spend-second.ensures.spent (spent-beside t c.args.i c.args.j _ _ _ _ c.spend-first.ensures.spent shown)))

pub returns-clause-new : goal.returns-clause-new
returns-clause-new g c = IfOk-weaker c.joined.result _ _ (λ o new s t first second.
    new s t
    (rw c.handed-a.ensures.complex (handed-beside s c.spend-first.result c.args.i _ _ (spent-beside s c.args.j c.args.i _ _ _ _ c.spend-second.ensures.spent) (spent-shown s c.args.i c.args.j _ _ _ _ c.spend-first.ensures.spent first)))
    (rw c.handed-b.ensures.complex (spent-shown t c.args.j c.args.i _ _ _ _ c.spend-second.ensures.spent (spent-beside t c.args.i c.args.j _ _ _ _ c.spend-first.ensures.spent second)))) c.joined.ensures.new

pub returns-clause-less : goal.returns-clause-less
returns-clause-less g c =
    less-both _ _ c.spend-first.new.values _ (less-wider _ _ _ _ (λ k h. inl h) (spent-less c.args.i c.args.j _ _ _ _ c.spend-first.ensures.spent))
    (less-wider _ _ _ _ (λ k h. inr h) (spent-less c.args.j c.args.i _ _ _ _ c.spend-second.ensures.spent))
