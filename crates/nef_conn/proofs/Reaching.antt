-- A point in a facet is joined to a point at the item of its corner, and a point in a volume to one at the side that it has.
use Rattle.nef_conn.proofs.Prelude.{inl, inr, opposite, up, between-turned, ahead, same-point_sym, ahead-back, facet-of, free-flat, IsEvenAfter, corner-across, above-tied, facet-at, at-item, tied-both, tied-ray, CornersReached, SidesReached}
use Rattle.law_geometry.proofs.near.Same.{dim-same}

pub corners-reached : CornersReached
corners-reached s C p k S H =
    let A = corner-across s C S p k H in
    (ahead s A.vertex.point A.dir, at-item s C S k A.vertex A.item A.corner A.dir A.on, A.tied.0)

pub sides-reached : SidesReached
sides-reached s C p x S u (off, R) =
    let z = R.place in
    let P = above-tied s C S u x R.label R.has z R.spot R.is_spot R.above in
    let t = tied-ray s 3 z p up (ahead-back p z (opposite up) R.ahead) even in
    (P.0, P.1, (tied-both s p (ahead s z up) P.0 t P.2).0)
  where
    even : IsEvenAfter s 3 R.place p
    even r (inl b) = free-flat s C S (facet-at s C S) (facet-of s C S) r (R.first r (between-turned R.place p r b))
    even r (inr e) = dim-same s p r 3 (same-point_sym r p e) (free-flat s C S (facet-at s C S) (facet-of s C S) p off)
