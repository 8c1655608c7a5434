-- A ray from a point of the frame has an end, since the label is another where the ray has left the frame.
use Rattle.nef_ray.proofs.Prelude.{◌⊎◌, inl, inr, ⊎_elim, Bool, true, false, subst, HasLabel, Germ, SpacePoint, InFrame, toward, IsAhead, IsBetween, Set, Vector, IsDirection, Label, between-same, reach_all, carriers, FirstChange, between-turned, between-inner, label-along_ray, label_of, germ_of, label-decided, start, start-close, start-between, beyond, halfway, halfway-between, halfway-outside, leads-somewhere, first-change, label-toward, no-germ_out, Label-cells, signs-same, same-point_sym, Germ-same, between-rest, between-outer, between-start, between-cases, between-ahead, IsRayEnd, RayHasEnd, SameDirection-turned, SameDirection-trans}
use Rattle.nef_ray.proofs.Along.{label-outside}
use Rattle.law_geometry.proofs.complex.Skeletons.{beyond-ahead}
use Rattle.nef_space.proofs.Elementary.{same-itself}

module _ (s : Set) (p : SpacePoint) (d : Vector) (inside : InFrame p) (some : IsDirection d) where
  abbrev End : Type 0
  End = (q : SpacePoint) × (after : Bool) × (l : Label) × IsRayEnd s p d q after l

  -- the label just after p
  abbrev before : Label
  before = (germ_of s p d).0

  abbrev germ : Germ s p d before
  germ = (germ_of s p d).1

  -- a point of the ray that lies beyond the frame, and one close to p
  abbrev far : SpacePoint
  far = beyond p d

  abbrev close : SpacePoint
  close = start (reach_all (carriers s) p) p far

  far-ahead : IsAhead p d far
  far-ahead = beyond-ahead p d some

  close-between : IsBetween p close far
  close-between = start-between (reach_all (carriers s) p) p far (leads-somewhere p d some)

  -- what lies on the way is ahead of p, and the rest of the way goes on along d
  ahead : (x : SpacePoint) → IsBetween p x far → IsAhead p d x
  ahead x b = between-ahead p x far d b far-ahead

  onward : (x : SpacePoint) → IsBetween p x far → IsAhead x d far
  onward x b = SameDirection-trans (toward x far) (toward p x) d (SameDirection-turned (toward p x) (toward x far) b) (ahead x b)

  close-label : HasLabel s close before
  close-label = label-toward s before p close (start-close (reach_all (carriers s) p) p far)
      (Germ-same s p p d (toward p close) before (same-itself p) (SameDirection-turned (toward p close) d (ahead close close-between)) germ)

  -- a point of the way has the label where it has it on the way from the close point
  label-before : (r : SpacePoint) → IsBetween p r far → (IsBetween close r far → HasLabel s r before) → HasLabel s r before
  label-before r b f = ⊎_elim
      (λ c. (label-along_ray s p close r (start-close (reach_all (carriers s) p) p far) c before).0 close-label)
      (λ o. ⊎_elim (λ e. Label-cells s before close r (signs-same (carriers s) close r (same-point_sym r close e)) close-label) (λ c. f c) o)
      (between-cases p close far r close-between b)

  -- it doesn't stay all the way
  leaves : ((r : SpacePoint) → IsBetween close r far → HasLabel s r before) → End
  leaves all =
      let h = label-before (halfway p d) (halfway-between p d (leads-somewhere p d some)) (all (halfway p d)) in
      absurd (no-germ_out s p d inside (subst (Germ s p d) (label-outside s (halfway p d) before (halfway-outside p d some) h) germ))

  -- so it changes first at some point
  changed : FirstChange (λ r. HasLabel s r before) close far → End
  changed c = by c.change
    where
      between : IsBetween p c.at_place far
      between = ⊎_elim
          (λ e. between-same p close far p c.at_place far (same-itself p) (same-point_sym c.at_place close e) (same-itself far) close-between)
          (λ b. between-outer p close c.at_place far close-between b) c.on_segment

      same : (r : SpacePoint) → IsBetween p r c.at_place → HasLabel s r before
      same r b = label-before r (between-inner p c.at_place far r between b)
          (λ k. c.stands_before r (between-rest p close r c.at_place (between-turned r p close (between-rest far r close p (between-turned close far r k) (between-turned p far close close-between))) b))

      by : ((HasLabel s c.at_place before → ⊥) × IsBetween close c.at_place far) ⊎ (HasLabel s c.at_place before × ((y : SpacePoint) × IsBetween c.at_place y far × ((r : SpacePoint) → IsBetween c.at_place r y → HasLabel s r before → ⊥))) → End
      by (inl (n, b)) =
          let l = label_of s c.at_place in (
            c.at_place,
            false,
            l.0,
            record {
              before = before;
              germ = germ;
              ahead = ahead c.at_place between;
              same = same;
              other = λ e. n (subst (HasLabel s c.at_place) e l.1);
              changes = l.1;
            },
          )
      by (inr (h, (y, b, fails))) =
          let g = germ_of s c.at_place d in
          let n = reach_all (carriers s) c.at_place in
          let r = start n c.at_place y in
          let k = start-between n c.at_place y (between-start c.at_place y far b) in
          let way = between-ahead c.at_place r y d k (between-ahead c.at_place y far d b (onward c.at_place between)) in (
            c.at_place,
            true,
            g.0,
            record {
              before = before;
              germ = germ;
              ahead = ahead c.at_place between;
              same = same;
              other = λ e.
                  fails r k (label-toward s before c.at_place r (start-close n c.at_place y)
                  (Germ-same s c.at_place c.at_place d (toward c.at_place r) before (same-itself c.at_place) (SameDirection-turned (toward c.at_place r) d way) (subst (Germ s c.at_place d) e g.1)));
              changes = (h, g.1);
            },
          )

  end-there : End
  end-there = ⊎_elim (λ all. leaves all) (λ c. changed c)
      (first-change (carriers s) (λ r. HasLabel s r before) (Label-cells s before) (λ r. label-decided s r before) close far close-label)

pub some-end : RayHasEnd
some-end s p d inside some = end-there s p d inside some
