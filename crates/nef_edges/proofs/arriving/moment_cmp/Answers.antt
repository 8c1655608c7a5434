use Rattle.nef_edges.proofs.Prelude.{ap, ◌∙◌, Ordering, ordering_then, moment_of, ratio_order}
use Rattle.nef_edges.proofs.Products.{handed-small, ratio-is}
use Rattle.nef_edges.proofs.arriving.moment_cmp.Goals as goal

pub ratio_cmp-requires : goal.ratio_cmp-requires
ratio_cmp-requires c = record { n_small = handed-small c.product-n.result.0 c.product-n.ensures.x_small; m_small = handed-small c.product-m.result.0 c.product-m.ensures.x_small }

pub ratio_cmp-requires-2 : goal.ratio_cmp-requires-2
ratio_cmp-requires-2 c = record { n_small = handed-small c.product-n.result.1 c.product-n.ensures.y_small; m_small = handed-small c.product-m.result.1 c.product-m.ensures.y_small }

pub ratio_cmp-requires-3 : goal.ratio_cmp-requires-3
ratio_cmp-requires-3 c = record { n_small = handed-small c.product-n.result.2 c.product-n.ensures.z_small; m_small = handed-small c.product-m.result.2 c.product-m.ensures.z_small }

pub returns : goal.returns
returns c =
    let a = c.args.a.now in let b = c.args.b.now in let n = c.product-n.result in let m = c.product-m.result in
    let en = c.product-n.ensures in let em = c.product-m.ensures in
    let x = ratio-is a b (λ h. (moment_of h).x) n.0 m.0 c.ratio_cmp.result en.x em.x en.x_small em.x_small c.ratio_cmp.ensures.order in
    let y = ratio-is a b (λ h. (moment_of h).y) n.1 m.1 c.ratio_cmp-2.result en.y em.y en.y_small em.y_small c.ratio_cmp-2.ensures.order in
    let z = ratio-is a b (λ h. (moment_of h).z) n.2 m.2 c.ratio_cmp-3.result en.z em.z en.z_small em.z_small c.ratio_cmp-3.ensures.order in
    let k = ratio_order (λ h. (moment_of h).x) a b in
    let l = ordering_then k (ratio_order (λ h. (moment_of h).y) a b) in
    record {
      order = c.then-2.ensures ∙ ap (λ (o : Ordering). ordering_then o c.ratio_cmp-3.result) (c.then.ensures ∙ ap (λ (o : Ordering). ordering_then o c.ratio_cmp-2.result) x ∙ ap (ordering_then k) y)
          ∙ ap (ordering_then l) z;
    }
