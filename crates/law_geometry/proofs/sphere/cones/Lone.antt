-- Where no circle through a direction is needed close to it, there is one label all around it.
use Rattle.law_geometry.proofs.sphere.cones.Prelude.{◌≡◌, ℕ, ◌+◌, ◌<◌, pos, ◌*ℤ◌, arith, ap, sym, ◌∙◌, ⊎_elim, List, ◌∷◌, subst, [], ints, ring, at, num, ◌⊕◌, ◌⊖◌, ◌⊗◌, follows, given, none, sign, sign-scaled, nought-or, Lies, Vector, IsDirection, cross, triple, dot, IsZero, blend, Label, Labelling, Near, Plain, StraightAfter, amount, past_source, carried, cross-direction_right, Axial, dot-zero, zero-dot, self-pos, triple-dot, square-cross, nought-if, triple-turned}
use Rattle.law_geometry.proofs.sphere.Direct.{cross-self, between-off}
use Rattle.law_geometry.proofs.sphere.cones.Signs.{leading, leading-joined, leading-same, far-leading, near-of, near-at, near-back, near-by_signs, near-one}
use Rattle.law_geometry.proofs.sphere.cones.Smooth.{even-side}
use Rattle.law_geometry.proofs.sphere.cones.After.{After, after-of}
use Rattle.law_geometry.proofs.sphere.Flips.{far_directed-by}

module _ (gs : List Vector) (F : Vector → Label → Type 0) (L : Labelling gs F) (axial : Axial gs) (d : Vector) (hd : IsDirection d)
    (even : (n : Vector) (a m b : Label) → IsDirection n → dot n d ≡ pos 0 → StraightAfter F n a m b d → (a ≡ m) × (b ≡ m)) where
  abbrev G : Vector → Label → Type 0
  G e m = Near F d e m

  -- the labels near d are a labelling of their own
  near-labelling : Labelling gs G
  near-labelling = record {
    exists = λ e h. near-of gs F L axial d e hd;
    one = λ e m n h f g. near-one gs F L axial d e m n hd f g;
    cells = λ e u m h k s f. near-by_signs gs F L axial d e d u m hd hd (λ g l. ap (leading (sign (dot g d))) (s g l)) f;
  }

  module _ (y : Vector) (off : IsDirection (cross d y)) where
    abbrev n : Vector
    n = cross d y

    level : dot n d ≡ pos 0
    level = cross-self d y

    after : After gs F L axial n d
    after = after-of gs F L axial n d off hd level

    -- where g is nought at d, it has the sign at (d x y) x d that it has at y
    across : (g : Vector) → dot g d ≡ pos 0 → sign (dot g (cross n d)) ≡ sign (dot g y)
    across g w = ap sign eq ∙ sign-scaled (dot d d) (dot g y) (self-pos d hd)
      where
        eq : dot g (cross (cross d y) d) ≡ dot d d *ℤ dot g y
        eq =
            let dx = at 0 in let dy = at 1 in let dz = at 2 in
            let yx = at 3 in let yy = at 4 in let yz = at 5 in
            let gx = at 6 in let gy = at 7 in let gz = at 8 in
            let nx = dy ⊗ yz ⊖ dz ⊗ yy in let ny = dz ⊗ yx ⊖ dx ⊗ yz in let nz = dx ⊗ yy ⊖ dy ⊗ yx in
            let o = num (pos 0) in
            follows (d.x ∷ d.y ∷ d.z ∷ y.x ∷ y.y ∷ y.z ∷ g.x ∷ g.y ∷ g.z ∷ [])
            (gx ⊗ (ny ⊗ dz ⊖ nz ⊗ dy) ⊕ gy ⊗ (nz ⊗ dx ⊖ nx ⊗ dz) ⊕ gz ⊗ (nx ⊗ dy ⊖ ny ⊗ dx))
            ((dx ⊗ dx ⊕ dy ⊗ dy ⊕ dz ⊗ dz) ⊗ (gx ⊗ yx ⊕ gy ⊗ yy ⊕ gz ⊗ yz))
            (given (o ⊖ (dx ⊗ yx ⊕ dy ⊗ yy ⊕ dz ⊗ yz)) (gx ⊗ dx ⊕ gy ⊗ dy ⊕ gz ⊗ dz) o w none) tt

    plain-near : Plain G y
    plain-near m f e out = by after
      where
        by : After gs F L axial n d → Near G y e m
        by r =
            let ev = even n r.pos r.mark r.neg off level r.labels in
            let i = r.labels.0 + amount gs (cross n d) in
            let z = past_source n d i in
            let hz = far_directed-by gs axial d (cross n d) i (omega arith) hd in
            let p = r.labels.1 i (omega arith) in
            let sz = λ (g : Vector) (l : Lies gs g). far-leading gs d (cross n d) i (omega arith) g l ∙ leading-same (dot g d) (sign (dot g (cross n d))) (sign (dot g y)) (λ w. across g w) in
            let mm = near-one gs F L axial d y r.mark m hd (near-at gs F L axial d y z r.mark hd hz sz p.at_d) f in
            let k = amount gs e in
            let u = blend k z 1 e in
            let hu = far_directed-by gs axial z e k (omega arith) hz in
            let su = λ (g : Vector) (l : Lies gs g). far-leading gs z e k (omega arith) g l in
            let at_u = subst (F u) (even-side r.pos r.mark r.neg (sign (dot n e)) ev.0 ev.1 ∙ mm) (near-back gs F L axial z e u _ hz hu su (p.near e)) in (
              k,
              λ j l. near-at gs F L axial d (blend j y 1 e) u m hd hu
                  (λ g q. su g q ∙ ap (λ s. leading s (sign (dot g e))) (sz g q) ∙ leading-joined (sign (dot g d)) (sign (dot g y)) (sign (dot g e)) ∙ ap (leading (sign (dot g d))) (sym (far-leading gs y e j l g q))) at_u,
            )

  -- from e to u, which don't lie in one plane with d
  step : (e u : Vector) → IsDirection (cross d e) → IsDirection (cross d u) → (triple d e u ≡ pos 0 → ⊥) → (m : Label) → G e m → G u m
  step e u oe ou f m a = carried gs G near-labelling e u (cross-direction_right d e oe) (cross-direction_right d u ou) (λ o. f (dot-zero d (cross e u) o.parallel))
      (plain-near e oe) (plain-near u ou) (λ i j si sj. plain-near (blend i e j u) (between i j sj)) m a
    where
      last : dot (cross d e) e ≡ pos 0
      last = ring (d.x ∷ d.y ∷ d.z ∷ e.x ∷ e.y ∷ e.z ∷ []) ((at 1 ⊗ at 5 ⊖ at 2 ⊗ at 4) ⊗ at 3 ⊕ (at 2 ⊗ at 3 ⊖ at 0 ⊗ at 5) ⊗ at 4 ⊕ (at 0 ⊗ at 4 ⊖ at 1 ⊗ at 3) ⊗ at 5) (num (pos 0)) tt

      between : (i j : ℕ) → 0 < j → IsDirection (cross d (blend i e j u))
      between i j sj z =
          let b = blend i e j u in
          let x = triple-turned d e b in
          let y = triple-dot d b e ∙ zero-dot (cross d b) e z in
          between-off (cross d e) e u i j sj last (λ w. f (triple-dot d e u ∙ w)) (sym (triple-dot d e b) ∙ (let r : triple d e b ≡ pos 0 = omega (arith, ints) in r))

  -- all around d there is one label
  pub lone-near : (e u : Vector) → IsDirection (cross d e) → IsDirection (cross d u) → (m : Label) → Near F d e m → Near F d u m
  lone-near e u oe ou m a = ⊎_elim (λ z. flat z) (λ f. step e u oe ou f m a) (nought-or (triple d e u))
    where
      c : Vector
      c = cross d e

      oc : IsDirection (cross d (cross d e))
      oc z = oe (nought-if d (cross d e) hd z (square-cross d e))

      -- (d x u) x (d x e) = - d (d.(e x u))
      parallel : triple d e u ≡ pos 0 → IsZero (cross (cross d u) (cross d e))
      parallel z =
          let xs = d.x ∷ d.y ∷ d.z ∷ e.x ∷ e.y ∷ e.z ∷ u.x ∷ u.y ∷ u.z ∷ [] in
          let o = num (pos 0) in
          let dx = at 0 in let dy = at 1 in let dz = at 2 in
          let ex = at 3 in let ey = at 4 in let ez = at 5 in
          let ux = at 6 in let uy = at 7 in let uz = at 8 in
          let nx = dy ⊗ ez ⊖ dz ⊗ ey in let ny = dz ⊗ ex ⊖ dx ⊗ ez in let nz = dx ⊗ ey ⊖ dy ⊗ ex in
          let wx = dy ⊗ uz ⊖ dz ⊗ uy in let wy = dz ⊗ ux ⊖ dx ⊗ uz in let wz = dx ⊗ uy ⊖ dy ⊗ ux in
          let t = dx ⊗ (ey ⊗ uz ⊖ ez ⊗ uy) ⊕ dy ⊗ (ez ⊗ ux ⊖ ex ⊗ uz) ⊕ dz ⊗ (ex ⊗ uy ⊖ ey ⊗ ux) in (
            follows xs (wy ⊗ nz ⊖ wz ⊗ ny) o (given (o ⊖ dx) t o z none) tt,
            follows xs (wz ⊗ nx ⊖ wx ⊗ nz) o (given (o ⊖ dy) t o z none) tt,
            follows xs (wx ⊗ ny ⊖ wy ⊗ nx) o (given (o ⊖ dz) t o z none) tt,
          )

      flat : triple d e u ≡ pos 0 → Near F d u m
      flat z =
          let first = step e (cross d e) oe oc (λ w. let h = self-pos (cross d e) oe in let x = triple-dot d e (cross d e) in omega (arith, ints)) m a in
          step (cross d e) u oc ou (λ w.
          let x = triple-turned d (cross d e) u in
          let y = triple-dot d u (cross d e) in
          oe (nought-if (cross d u) (cross d e) ou (parallel z) (let r : dot (cross d u) (cross d e) ≡ pos 0 = omega (arith, ints) in r))) m first
