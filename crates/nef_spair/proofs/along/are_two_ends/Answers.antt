use Rattle.nef_spair.proofs.Prelude.{get_or, sym, ap, ◌∙◌, vector_of}
use Rattle.nef_spair.proofs.TwoEnds.{two-of}
use Rattle.nef_spair.proofs.along.are_two_ends.Goals as goal

pub returns-then-kept-eq2 : goal.returns-then-kept-eq2
returns-then-kept-eq2 c =
    let kept = c.args.kept.now in let a = get_or kept 0 c.index-kept-0.result in let b = get_or kept 1 c.index-kept-1.result in
    record {
      ends = λ h. record {
        first = a;
        second = b;
        two = two-of kept a b c.if-kept-eq2.true (ap (get_or kept 0) c.index-kept-0.is) (ap (get_or kept 1) c.index-kept-1.is);
        opposite = ap vector_of (sym (c.is_same.ensures.same.0 h)) ∙ c.back.ensures.back;
      };
    }
