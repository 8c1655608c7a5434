use Rattle.nef_locate.proofs.Prelude.{inl, inr, sym, Less, Equal, Greater, point_of, hit_point}
use Rattle.nef_locate.proofs.HitOrder.{ranks-x, ranks-y, ranks-z, order-from_last}
use Rattle.nef_locate.proofs.carrier.hit_cmp.Goals as goal

pub returns-in-Equal-ratio_cmp : goal.returns-in-Equal-ratio_cmp
returns-in-Equal-ratio_cmp c =
    let p = c.args.p.now in let q = c.args.q.now in
    record {
      order = order-from_last (point_of p) (hit_point q) c.ratio_cmp-in-Equal-ratio_cmp.result
          (ranks-x p q Equal c.x.result c.w.result c.x-2.result c.w-2.result c.w.ensures.w c.w-2.ensures.w c.in-Equal.ensures.order c.x.ensures.x c.x-2.ensures.x)
          (ranks-y p q Equal c.y.result c.w-in-Equal.result c.y-in-Equal.result c.w-in-Equal-2.result c.w-in-Equal.ensures.w c.w-in-Equal-2.ensures.w c.in-Equal-ratio_cmp.ensures.order c.y.ensures.y c.y-in-Equal.ensures.y)
          (ranks-z p q c.ratio_cmp-in-Equal-ratio_cmp.result c.z.result c.w-in-Equal-ratio_cmp.result c.z-in-Equal-ratio_cmp.result c.w-in-Equal-ratio_cmp-2.result c.w-in-Equal-ratio_cmp.ensures.w c.w-in-Equal-ratio_cmp-2.ensures.w
          c.ratio_cmp-in-Equal-ratio_cmp.ensures.order c.z.ensures.z c.z-in-Equal-ratio_cmp.ensures.z);
    }

pub returns-in-Less-ratio_cmp : goal.returns-in-Less-ratio_cmp
returns-in-Less-ratio_cmp c =
    let p = c.args.p.now in let q = c.args.q.now in
    record {
      order = inr (
        ranks-x p q Equal c.x.result c.w.result c.x-2.result c.w-2.result c.w.ensures.w c.w-2.ensures.w c.in-Equal.ensures.order c.x.ensures.x c.x-2.ensures.x,
        inl (ranks-y p q Less c.y.result c.w-in-Equal.result c.y-in-Equal.result c.w-in-Equal-2.result c.w-in-Equal.ensures.w c.w-in-Equal-2.ensures.w c.in-Less-ratio_cmp.ensures.order c.y.ensures.y c.y-in-Equal.ensures.y),
      );
    }

pub returns-in-Greater-ratio_cmp : goal.returns-in-Greater-ratio_cmp
returns-in-Greater-ratio_cmp c =
    let p = c.args.p.now in let q = c.args.q.now in
    record {
      order = inr (
        sym (ranks-x p q Equal c.x.result c.w.result c.x-2.result c.w-2.result c.w.ensures.w c.w-2.ensures.w c.in-Equal.ensures.order c.x.ensures.x c.x-2.ensures.x),
        inl (ranks-y p q Greater c.y.result c.w-in-Equal.result c.y-in-Equal.result c.w-in-Equal-2.result c.w-in-Equal.ensures.w c.w-in-Equal-2.ensures.w c.in-Greater-ratio_cmp.ensures.order c.y.ensures.y c.y-in-Equal.ensures.y),
      );
    }

pub returns-in-Less : goal.returns-in-Less
returns-in-Less c =
    let p = c.args.p.now in let q = c.args.q.now in
    record { order = inl (ranks-x p q Less c.x.result c.w.result c.x-2.result c.w-2.result c.w.ensures.w c.w-2.ensures.w c.in-Less.ensures.order c.x.ensures.x c.x-2.ensures.x) }

pub returns-in-Greater : goal.returns-in-Greater
returns-in-Greater c =
    let p = c.args.p.now in let q = c.args.q.now in
    record { order = inl (ranks-x p q Greater c.x.result c.w.result c.x-2.result c.w-2.result c.w.ensures.w c.w-2.ensures.w c.in-Greater.ensures.order c.x.ensures.x c.x-2.ensures.x) }
