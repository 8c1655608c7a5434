use Rattle.nef_spair.proofs.Prelude.{List, get_or, refl, ap, Label, Out}
use Rattle.nef_spair.proofs.Parting.{circle-is}
use Rattle.nef_spair.proofs.making.circle_of.Goals as goal

pub returns-clause-circle : goal.returns-clause-circle
returns-clause-circle c =
    let s = c.requires.straight in let e = c.as_slice-sectors.ensures.value in
    (s, circle-is c.args.star.now s c.index.result.now _ c.index.ensures refl refl (ap (λ (l : List Label). get_or l 0 Out) e) (ap (λ (l : List Label). get_or l 1 Out) e))
