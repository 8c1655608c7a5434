use Rattle.nef_plane.proofs.Prelude.{ℤ, w64, inl, inr, refl, rules, subst, to_z-of_z, form_of, point_of, shifted_form, AreShortBelow, AreFarFrom}
use Rattle.nef_plane.proofs.Close.{shifted-swept}
use Rattle.nef_plane.proofs.course.number_beside.Goals as goal

pub first_far-requires-clause-swept : goal.first_far-requires-clause-swept
first_far-requires-clause-swept c = shifted-swept (form_of c.args.ray.now.plane.now) (point_of c.args.ray.now.start.now) c.args.by

pub returns-then-not-stays_close : goal.returns-then-not-stays_close
returns-then-not-stays_close c = record { beside = inr refl }

pub returns : goal.returns
returns c =
    let vs = c.args.c.now.vertices in let h = form_of c.args.ray.now.plane.now in let p = point_of c.args.ray.now.start.now in let n = c.first_far.result in
    let same = to_z-of_z w64 c.args.by c.ranges.by in
    record {
      beside = inl (record {
        close = c.stays_close.ensures.close (search rules);
        short = subst (λ (z : ℤ). AreShortBelow vs h (shifted_form h p z) c.args.on_counts n) same c.first_far.ensures.short;
        far = subst (λ (z : ℤ). AreFarFrom vs h (shifted_form h p z) c.args.on_counts n) same c.first_far.ensures.far;
      });
    }
