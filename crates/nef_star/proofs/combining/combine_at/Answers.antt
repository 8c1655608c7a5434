use Rattle.nef_star.proofs.Prelude.{refl, sym, subst, ◌∙◌, Vector, vector_of, Dir, IsOnCircle, LeftGives, LeftAfter}
use Rattle.nef_star.proofs.Joined.{item-on, changed}
use Rattle.nef_star.proofs.combining.combine_at.Goals as goal

pub labels_at-on-requires-clause-circle : goal.labels_at-on-requires-clause-circle
labels_at-on-requires-clause-circle c =
    let t = c.args.star.now in
    subst (λ (x : Dir). IsOnCircle (vector_of x) (vector_of c.left.result)) (sym c.requires.one_axis)
    (subst (IsOnCircle (vector_of t.axis)) (sym c.left.ensures.left) (item-on (vector_of t.axis) t.rays.items c.requires.turned.rays c.args.k c.index.result.now c.requires.within c.index.ensures))

pub returns : goal.returns
returns c =
    let t = c.args.star.now in let b = c.args.other.now in let q = c.index.result.now in let r = c.with_mark.ensures in let labels = c.labels_at-on.ensures in
    record {
      combined = changed c.args.op b t _ c.requires.turned c.args.k q c.with_mark.result c.requires.within c.index.ensures r.normal r.ahead refl refl c.label-2.result q.mark refl refl
          c.labels_at-on.result.0 c.labels_at-on.result.1 c.index-2.result.now
          (subst (λ (v : Vector). LeftGives b v c.labels_at-on.result.0) c.left.ensures.left labels.on) (r.mark ∙ c.label.ensures.label)
          (subst (λ (v : Vector). LeftAfter b v c.labels_at-on.result.1) c.left.ensures.left labels.after) c.index-2.ensures c.label-2.ensures.label;
    }
