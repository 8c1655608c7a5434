use Rattle.nef_cand.proofs.Prelude.{nat_abs, ap, sym, ◌∙◌, lit≤, leb-true, le-leb, half_side, normal_of, form_of, normal-direction}
use Rattle.nef_geo.proofs.Products.{kept}
use Rattle.nef_cand.proofs.Missing.{misses, outweighs, number-fits, lengthened}
use Rattle.nef_cand.proofs.MissedFrame.{missing}
use Rattle.nef_cand.proofs.listing.misses_frame.Goals as goal

pub returns : goal.returns
returns c =
    let h = c.args.h.now in
    let a = c.unsigned_abs.ensures.value ∙ ap nat_abs (kept c.a.result (number-fits _ _ _ c.a.ensures.a h.a_small (lit≤ tt)) ∙ c.a.ensures.a) in
    let b = c.unsigned_abs-2.ensures.value ∙ ap nat_abs (kept c.b.result (number-fits _ _ _ c.b.ensures.b h.b_small (lit≤ tt)) ∙ c.b.ensures.b) in
    let e = c.unsigned_abs-3.ensures.value ∙ ap nat_abs (kept c.c.result (number-fits _ _ _ c.c.ensures.c h.c_small (lit≤ tt)) ∙ c.c.ensures.c) in
    let side = c.unsigned_abs-4.ensures.value in
    let d = c.unsigned_abs-5.ensures.value ∙ ap nat_abs (kept c.d.result (number-fits _ _ _ c.d.ensures.d h.d_small (lit≤ tt)) ∙ c.d.ensures.d) in
    let n = half_side in let k = nat_abs h.a in let l = nat_abs h.b in let m = nat_abs h.c in let o = nat_abs h.d in
    let A = c.unsigned_abs.result in let B = c.unsigned_abs-2.result in let E = c.unsigned_abs-3.result in let N = c.unsigned_abs-4.result in let D = c.unsigned_abs-5.result in
    record {
      misses = (
        λ t. misses (form_of h) (lengthened A B E N D k l m n o a b e side d (leb-true _ _ t)),
        λ f. le-leb _ _ (lengthened k l m n o A B E N D (sym a) (sym b) (sym e) (sym side) (sym d) (outweighs (form_of h) f)),
      );
      apart = λ t y i on. missing (form_of h) (lengthened A B E N D k l m n o a b e side d (leb-true _ _ t)) (normal-direction (normal_of (form_of h)) h.normal) y i on;
    }
