use Rattle.nef_locate.proofs.Prelude.{ℤ, pos, ◌<ℤ◌, sym, subst, rules, vector_of}
use Rattle.nef_locate.proofs.Windows.{points-up, up-positive}
use Rattle.nef_locate.proofs.beam.is_up.Goals as goal

pub returns : goal.returns
returns c = record {
  upward = (
    λ t. points-up (vector_of c.args.d.now) c.requires.upright (let p : pos 0 <ℤ c.x.result = search (rules, t) in subst (λ (r : ℤ). pos 0 <ℤ r) c.x.ensures.x p),
    λ e. let p : pos 0 <ℤ c.x.result = subst (λ (r : ℤ). pos 0 <ℤ r) (sym c.x.ensures.x) (up-positive (vector_of c.args.d.now) e) in search (rules, p),
  );
}
