use Rattle.nef_volumes.proofs.Prelude.{IfOk-weaker}
use Rattle.nef_volumes.proofs.Components.{facets-are_components, volumes-are_components, are-counted}
use Rattle.nef_volumes.proofs.by_threads.parts_by_threads.Goals as goal

pub returns : goal.returns
returns g c =
    let d = c.args.c.now in let r = c.parts_by.result in let P = c.parts_by.ensures.parts in
    record {
      parts = P;
      items_joined = IfOk-weaker r _ _ (λ p I. facets-are_components d p I) P;
      sides_joined = IfOk-weaker r _ _ (λ p I. volumes-are_components d p I) P;
      counted = IfOk-weaker r _ _ (λ p I. are-counted d p I) P;
    }
