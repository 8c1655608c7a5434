use Rattle.nef_index.proofs.Prelude.{IsTrue, rules, coordinate_x, coordinate_y, coordinate_z}
use Rattle.nef_index.proofs.Spanning.{within-both}
use Rattle.nef_index.proofs.spans.may_meet.Goals as goal

pub returns-then-not-overlap : goal.returns-then-not-overlap
returns-then-not-overlap c =
    let off : IsTrue c.overlap.result → ⊥ = search rules in
    record {
      overlap = (λ t. absurd (search (rules, t)), λ o. absurd (off (c.overlap.ensures.overlap.1 o.2)));
      meets = λ y i j. absurd (off (c.overlap.ensures.overlap.1 (within-both coordinate_z c.args.span.now.z c.args.other.now.z y i.2 j.2)));
    }

pub returns-then-not-overlap-2 : goal.returns-then-not-overlap-2
returns-then-not-overlap-2 c =
    let off : IsTrue c.overlap-2.result → ⊥ = search rules in
    record {
      overlap = (λ t. absurd (search (rules, t)), λ o. absurd (off (c.overlap-2.ensures.overlap.1 o.1)));
      meets = λ y i j. absurd (off (c.overlap-2.ensures.overlap.1 (within-both coordinate_y c.args.span.now.y c.args.other.now.y y i.1 j.1)));
    }

pub returns : goal.returns
returns c =
    let on : IsTrue c.overlap.result = search rules in let also : IsTrue c.overlap-2.result = search rules in
    record {
      overlap = (λ t. (c.overlap-3.ensures.overlap.0 t, c.overlap-2.ensures.overlap.0 also, c.overlap.ensures.overlap.0 on), λ o. c.overlap-3.ensures.overlap.1 o.0);
      meets = λ y i j. c.overlap-3.ensures.overlap.1 (within-both coordinate_x c.args.span.now.x c.args.other.now.x y i.0 j.0);
    }
