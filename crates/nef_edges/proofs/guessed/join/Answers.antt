use Rattle.nef_edges.proofs.Prelude.{List, subst, IsAt, Edge}
use Rattle.nef_edges.proofs.guessed.join.Goals as goal

pub returns-in-Some : goal.returns-in-Some
returns-in-Some c =
    let o = c.in-Some.ensures.old in
    record {
      joined = λ t. record {
        old = o.0;
        new = c.in-Some.edge;
        is_old = subst (λ (xs : List Edge). IsAt xs c.args.number o.0) c.as_slice.ensures.value o.1;
        changed = c.put.ensures.put t;
        matched = c.in-Some.ensures.matched;
        low = o.2;
        low_svertex = o.3;
      };
    }
