-- Near a svertex without arcs there is the label round it; near labels go over to the same ways.
use Rattle.law_geometry.proofs.sphere.Prelude.{◌≡◌, ℕ, ◌≤◌, arith, sym, ◌∙◌, ⊎_elim, List, Some, Vector, IsDirection, cross, dot, SameDirection, blend, Label, IsAt, MapVertex, Map, IsFree, around_svertex, IsClear, Sees, directly, seen, NearLabel, HasArc, Shaped, Valid, SameSigns, forms, same-nought, same-off, nought-or, dir-self, dir-signs, direction-left}
use Rattle.law_geometry.proofs.sphere.Generic.{amount, far-keeps, far-level}
use Rattle.law_geometry.proofs.sphere.Direct.{cross-between}
use Rattle.law_geometry.proofs.sphere.Labels.{label-by_signs, near-from_far, far-from_near}
use Rattle.law_geometry.proofs.sphere.NearSvertex.{near-clear}

-- ---- near labels of the same way
pub near-same_signs : (gs : List Vector) (d c e : Vector) (k : ℕ) → amount gs e ≤ k → SameDirection d c → SameSigns gs (blend k d 1 e) (blend k c 1 e)
near-same_signs gs d c e k l w g m = ⊎_elim
    (λ z. far-level gs c e k l g (same-nought (dot g d) (dot g c) (dir-signs d c g (direction-left d c w) w) z) ∙ sym (far-level gs d e k l g z))
    (λ f. let s = dir-signs d c g (direction-left d c w) w in far-keeps gs c e k l g m (same-off (dot g d) (dot g c) s f) ∙ s ∙ sym (far-keeps gs d e k l g m f))
    (nought-or (dot g d))

pub near-same_way : (M : Map) → Valid M → (d c e : Vector) → SameDirection d c → (m : Label) → NearLabel M d e m → NearLabel M c e m
near-same_way M V d c e w m a =
    let k = amount (forms M) e in
    near-from_far M V c e k (omega arith) m (label-by_signs M V (blend k d 1 e) (blend k c 1 e) (near-same_signs (forms M) d c e k (omega arith) w) m (far-from_near M V d e k (omega arith) m a))

-- ---- a svertex without arcs
module _ (M : Map) (V : Shaped M) (k : ℕ) (v : MapVertex) (a : IsAt M.svertices k v) (lone : HasArc M k → ⊥) where
  -- all that is close to it but not along it is free, and seen by the side round it
  module _ (e : Vector) (n : ℕ) (large : amount (forms M) e ≤ n) (off : IsDirection (cross v.dir e)) where
    home : IsClear M (blend n v.dir 1 e) v.dir
    home = near-clear M V k v a (blend n v.dir 1 e) (far-keeps (forms M) v.dir e n large) (cross-between v.dir e n 1 (omega arith) off) (λ r. absurd (lone (r.number, r.arc, r.listed, r.end)))

    pub free-close : IsFree M (blend n v.dir 1 e)
    free-close = home.start

    pub sees-around : Sees M (around_svertex k) (blend n v.dir 1 e)
    sees-around = directly v.dir home (v, a, dir-self v.dir (V.svertex_dirs k v a))

pub near-lone : (M : Map) (V : Valid M) (k : ℕ) (v : MapVertex) (a : IsAt M.svertices k v) → (HasArc M k → ⊥) → (m : Label) → v.around ≡ Some m → (e : Vector) → IsDirection (cross v.dir e) → NearLabel M v.dir e m
near-lone M V k v a lone m r e f =
    let n = amount (forms M) e in
    near-from_far M V v.dir e n (omega arith) m (seen (record { side = around_svertex k; has = (v, a, r); sees = sees-around M V.shaped k v a lone e n (omega arith) f }))
