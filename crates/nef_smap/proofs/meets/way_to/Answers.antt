use Rattle.nef_smap.proofs.Prelude.{◌*◌, ◌^◌, lit≤, sym, subst, normal_limit, svertex_limit, direction_limit, IsAtMost, wide_vector, IsAtMost-weaken, dir_within}
use Rattle.nef_smap.proofs.meets.way_to.Goals as goal

pub cross_wide-requires : goal.cross_wide-requires
cross_wide-requires c = record {
  left = subst (IsAtMost direction_limit) (sym c.wide-3.ensures.wide) (dir_within c.args.normal.now);
  right = subst (IsAtMost direction_limit) (sym c.wide-end.ensures.wide) (dir_within c.args.svertex.now);
}

pub returns-clause-within : goal.returns-clause-within
returns-clause-within c = record {
  start = subst (IsAtMost (2 ^ 37)) (sym c.wide.ensures.wide) (dir_within c.args.d.now);
  upward = subst (IsAtMost (2 ^ 37)) (sym c.wide-2.ensures.wide) (dir_within c.up.result);
  end = subst (IsAtMost (2 ^ 37)) (sym c.wide-end.ensures.wide) (dir_within c.args.svertex.now);
  beside = IsAtMost-weaken (2 * (normal_limit * svertex_limit)) (2 ^ 37) (wide_vector c.cross_wide.result) (lit≤ tt)
      (c.cross_wide.ensures.small normal_limit svertex_limit (subst (IsAtMost normal_limit) (sym c.wide-3.ensures.wide) c.requires.normal_small) (subst (IsAtMost svertex_limit) (sym c.wide-end.ensures.wide) c.requires.svertex_small));
}
