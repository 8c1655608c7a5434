use Rattle.nef_ops.proofs.Prelude.{subst, IsFindingIn, IsFoundAt}
use Rattle.nef_ops.proofs.PlaceShares.{flat-share}
use Rattle.nef_ops.proofs.local.found_share.Goals as goal

pub share_at-requires-clause-place : goal.share_at-requires-clause-place
share_at-requires-clause-place c = subst (IsFindingIn c.args.c.now) c.in-At.is c.requires.has

pub returns-in-At : goal.returns-in-At
returns-in-At c = record { share = λ s y S a. c.share_at.ensures.share s y S (subst (IsFoundAt c.args.c.now y) c.in-At.is a) }

pub returns-in-Far : goal.returns-in-Far
returns-in-Far c = record {
  share = λ s y S a.
      let u = subst (IsFoundAt c.args.c.now y) c.in-Far.is a s S in
      flat-share c.face_share.result s y c.in-Far.label u.0 u.1 c.face_share.ensures.share;
}
