use Rattle.nef_ops.proofs.Prelude.{◌≡◌, rules, true, sym, subst, Set, point_of, Complex, ShowsSet, Operand, One, Input, Share, Part, AreTold, IsOutcomeOf, either_of, HasShare, IsRightChoice}
use Rattle.nef_ops.proofs.Kept.{told}
use Rattle.nef_ops.proofs.local.BinaryJob.told_outcome.Goals as goal

pub returns-then-eq : goal.returns-then-eq
returns-then-eq c =
    let j = c.args.self.now in let o = c.args.operand in let p = point_of c.args.point.now in let h = c.far_share-share.result in
    let own : c.either_of.result.now.is_own ≡ true = search rules in
    let e : c.in-One.chosen ≡ o = search rules in
    let first = subst (λ (f : Share). IsRightChoice (One c.in-One.chosen c.in-One.turned) j.op f c.either_of-second.result.now) c.either_of-first.ensures.either c.in-One.ensures.leads in
    let both = subst (λ (f : Share). IsRightChoice (One c.in-One.chosen c.in-One.turned) j.op (either_of o Part h) f) c.either_of-second.ensures.either first in
    record {
      outcome = subst (IsOutcomeOf j.op j.first j.second p) (sym c.kept.ensures.kept)
          (told j.op o c.in-One.turned j.first j.second c.args.number p h c.requires.first c.requires.second (subst (λ (x : Input). x.is_own ≡ true) c.either_of.ensures.either own) c.requires.vertex
          (subst (λ (x : Input). (d : Complex) (s : Set) → AreTold d x.far.now → ShowsSet s d → HasShare h s p) c.either_of-2.ensures.either c.far_share-share.ensures.share)
          (subst (λ (d : Operand). IsRightChoice (One d c.in-One.turned) j.op (either_of o Part h) (either_of o h Part)) e both));
    }
