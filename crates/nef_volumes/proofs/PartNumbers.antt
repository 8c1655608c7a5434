-- The numbers of the part in which a point lies are those of its place in the complex.
use Rattle.nef_volumes.proofs.Prelude.{ℕ, arith, IsInTable, SpacePoint, is-at_within, is-at_some, sides_of, Complex as PlainComplex, Corner, IsPlaceIn, IsPlaceAt, IsParts, IsFacetOf, Parts, IsPartAt, HasItem, Volume}
use Rattle.nef_locate.specs.declared.point.Place.TheVariants as place
use Rattle.nef_volumes.proofs.Components.{item-numbered}

module _ (C : PlainComplex) (p : Parts) (I : IsParts C p) where
  pub item-facet : (k : Corner) → HasItem C k → (n : ℕ) × IsFacetOf p.facet_of k n
  item-facet k (v, x, K) = item-numbered C p.facet_of I.facet_numbers k v x K

  pub side-volume : (i j : ℕ) → IsPlaceIn C (place.InVolume i j) → (n : ℕ) × IsInTable p.volume_of i j n
  side-volume i j (o, l, (v, a, s)) =
      let N = I.volume_numbers in
      let S = N.shape in
      let w = is-at_within C.vertices i v a in
      let r = is-at_some p.volume_of i (let e = S.as_many in omega (arith, w, e)) in
      let h = is-at_within (sides_of v.map) j (o, l) s in
      let e = S.row i v r.0 a r.1 in
      let q = is-at_some r.0 j (omega (arith, h, e)) in
      (q.0, (r.0, r.1, q.1))

  pub volume-part : (y : SpacePoint) (i j n : ℕ) → IsPlaceAt C y (place.InVolume i j) → IsInTable p.volume_of i j n → IsPartAt C p y (Volume n)
  volume-part y i j n (o, l, (v, a, s), H) X = (record { vertex = i; side = o }, H, (j, record { vertex = v; is_vertex = a; label = l; is_side = s }, X))
