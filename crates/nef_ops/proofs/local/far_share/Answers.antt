use Rattle.nef_ops.proofs.Prelude.{point_of}
use Rattle.nef_ops.proofs.ByShare.{share-part}
use Rattle.nef_ops.proofs.PlaceShares.{flat-share}
use Rattle.nef_ops.proofs.local.far_share.Goals as goal

pub returns-in-Some : goal.returns-in-Some
returns-in-Some c = record {
  share = λ d s T S.
      let u = c.in-Some.ensures.told d T s S in
      flat-share c.face_share.result s (point_of c.args.point.now) c.in-Some.label u.0 u.1 c.face_share.ensures.share;
}

pub returns-in-None : goal.returns-in-None
returns-in-None c = record { share = λ d s T S. share-part s (point_of c.args.point.now) }
