use Rattle.nef_edges.proofs.Prelude.{◌*ℤ◌, ap, ◌∙◌, int_cmp}
use Rattle.nef_edges.proofs.Products.{cmp-exact, scaled-fits, weight-small}
use Rattle.nef_edges.proofs.arriving.ratio_cmp.Goals as goal

pub overflow_mul-n : goal.overflow_mul-n
overflow_mul-n c = scaled-fits c.args.n c.w-v.result c.requires.n_small (weight-small c.args.b.now.point c.w-v.result c.w-v.ensures.w)

pub overflow_mul-m : goal.overflow_mul-m
overflow_mul-m c = scaled-fits c.args.m c.w-w.result c.requires.m_small (weight-small c.args.a.now.point c.w-w.result c.w-w.ensures.w)

pub returns : goal.returns
returns c =
    let a = c.args.a.now.point in let b = c.args.b.now.point in
    record {
      order = cmp-exact c.args.n c.w-w.result c.args.m c.w-v.result c.cmp.result c.requires.n_small c.requires.m_small (weight-small a c.w-w.result c.w-w.ensures.w) (weight-small b c.w-v.result c.w-v.ensures.w) c.cmp.ensures
          ∙ ap (λ v. int_cmp (c.args.n *ℤ v) (c.args.m *ℤ c.w-w.result)) c.w-v.ensures.w ∙ ap (λ w. int_cmp (c.args.n *ℤ b.w) (c.args.m *ℤ w)) c.w-w.ensures.w;
    }
