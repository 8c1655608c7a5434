use Rattle.nef_shell.proofs.Prelude.{◌∙◌, sym, IfOk-weaker}
use Rattle.nef_result.specs.Givens.{given_of}
use Rattle.nef_shell.proofs.Operands.{zip-some, zip-none}
use Rattle.nef_shell.proofs.values.joined.Goals as goal

pub binary_given-requires-clause-first : goal.binary_given-requires-clause-first
binary_given-requires-clause-first g c κs within =
    let (e, f) = zip-some _ _ _ _ (sym c.zip.ensures ∙ c.in-Some.is) in
    let (s, shown) = c.requires.first in
    (s, rw e at shown)

pub binary_given-requires-clause-second : goal.binary_given-requires-clause-second
binary_given-requires-clause-second g c κs within =
    let (e, f) = zip-some _ _ _ _ (sym c.zip.ensures ∙ c.in-Some.is) in
    let (t, shown) = c.requires.second in
    (t, rw f at shown)

pub returns-in_ok-complex-in-Some : goal.returns-in_ok-complex-in-Some
returns-in_ok-complex-in-Some g c =
    let (e, f) = zip-some _ _ _ _ (sym c.zip.ensures ∙ c.in-Some.is) in
    record {
      new = IfOk-weaker c.kept.result _ _ (λ o new s t first second. new _ (c.in_ok-complex-in-Some.ensures.shows s t (rw e at first) (rw f at second))) c.kept.ensures.new;
    }

pub returns-in-None : goal.returns-in-None
returns-in-None g c = record { new = λ s t first second. absurd (zip-none given_of given_of _ _ s t (sym c.zip.ensures ∙ c.in-None.is) first second) }
