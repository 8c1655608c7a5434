use Rattle.nef_geo.proofs.Prelude.{rules, ◌≡◌, ◌≢◌, ◌≤◌, ℤ, pos, neg_ℤ, nat_abs, to_z, of_z, w64, arith, ints, refl, sym, ap, subst, ◌∙◌, lit≤, normal_limit, offset_limit, svertex_limit, point_limit, weight_limit, Form, normal_of, Vector, vector, dot, cross, IsAtMost, form_of, triple_vector, Plane}
use Rattle.nef_geo.proofs.Products.{kept, passed_within, dot_kept, dot_size, cross_is, IsAtMost-weaken}
use Rattle.nef_geo.proofs.Cramer.{constants, meet_w, exchanged_w, Steps, steps_x, steps_y, steps_z, IsOnlyCommon-from_ratios}
use Rattle.nef_geo.proofs.sides.meet.Goals as goal

constants_within : (p q r : Plane) → IsAtMost offset_limit (constants (form_of p) (form_of q) (form_of r))
constants_within p q r = record { of_x = p.d_small; of_y = q.d_small; of_z = r.d_small }

-- a dot product whose numbers passed through the machine's type
plain : (n : ℤ) (a b : Vector) → IsAtMost offset_limit a → IsAtMost svertex_limit b
    → n ≡ dot (vector (to_z w64 (of_z w64 a.x)) (to_z w64 (of_z w64 a.y)) (to_z w64 (of_z w64 a.z))) (vector (to_z w64 (of_z w64 b.x)) (to_z w64 (of_z w64 b.y)) (to_z w64 (of_z w64 b.z)))
    → n ≡ dot a b
plain n a b h k e = e ∙ dot_kept a b (IsAtMost-weaken offset_limit point_limit a (lit≤ tt) h) (IsAtMost-weaken svertex_limit point_limit b (lit≤ tt) k)

size : (n : ℤ) (a b : Vector) → IsAtMost offset_limit a → IsAtMost svertex_limit b → n ≡ dot a b → nat_abs n ≤ point_limit
size n a b h k e = subst (λ (m : ℤ). nat_abs m ≤ point_limit) (sym e) (let s = dot_size offset_limit svertex_limit a b h k in omega (arith, s))

kept_size : (n : ℤ) → nat_abs n ≤ point_limit → nat_abs (to_z w64 (of_z w64 n)) ≤ point_limit
kept_size n h = rw (kept n h) h

-- the first dot product is the negative triple product of the normals
triple_is : (p q r : Form) (np nq nr k : Vector) (w : ℤ) → np ≡ normal_of p → nq ≡ normal_of q → nr ≡ normal_of r → k ≡ cross nr nq → w ≡ dot np k → neg_ℤ w ≡ meet_w p q r
triple_is p q r np nq nr k w ep eq er ek e =
    ap neg_ℤ (e ∙ ap (λ (v : Vector). dot v k) ep ∙ ap (dot (normal_of p)) (cross_is (normal_of r) (normal_of q) _ _ _ er eq ek)) ∙ exchanged_w p q r

not_zero : (n : ℤ) → n ≢ pos 0 → neg_ℤ n ≢ pos 0
not_zero n h e = h (omega (arith, ints, e))

pub dot_narrow-w-requires : goal.dot_narrow-w-requires
dot_narrow-w-requires c = record {
  left = IsAtMost-weaken normal_limit offset_limit (triple_vector c.normal-np.result) (lit≤ tt) c.normal-np.ensures.small;
  right = c.cross_narrow-rq.ensures.small;
}

pub returns-then-w-eq0-clause-none : goal.returns-then-w-eq0-clause-none
returns-then-w-eq0-clause-none c =
    let e = triple_is (form_of c.args.p.now) (form_of c.args.q.now) (form_of c.args.r.now) _ _ _ _ _ c.normal-np.ensures.normal c.normal-nq.ensures.normal c.normal-nr.ensures.normal c.cross_narrow-rq.ensures.cross c.dot_narrow-w.ensures.dot in
    let zero : c.dot_narrow-w.result ≡ pos 0 = search rules in
    (λ none. sym e ∙ ap neg_ℤ zero, λ h. refl)

pub dot_narrow-x-requires : goal.dot_narrow-x-requires
dot_narrow-x-requires c =
    let i = c.cross_narrow-rq.ensures.small in let j = c.cross_narrow-pr.ensures.small in let k = c.cross_narrow-qp.ensures.small in
    record {
      left = passed_within offset_limit (constants (form_of c.args.p.now) (form_of c.args.q.now) (form_of c.args.r.now)) (lit≤ tt) (constants_within c.args.p.now c.args.q.now c.args.r.now);
      right = passed_within svertex_limit (vector c.cross_narrow-rq.result.0 c.cross_narrow-pr.result.0 c.cross_narrow-qp.result.0) (lit≤ tt) (record { of_x = i.of_x; of_y = j.of_x; of_z = k.of_x });
    }

pub dot_narrow-y-requires : goal.dot_narrow-y-requires
dot_narrow-y-requires c =
    let i = c.cross_narrow-rq.ensures.small in let j = c.cross_narrow-pr.ensures.small in let k = c.cross_narrow-qp.ensures.small in
    record {
      left = passed_within offset_limit (constants (form_of c.args.p.now) (form_of c.args.q.now) (form_of c.args.r.now)) (lit≤ tt) (constants_within c.args.p.now c.args.q.now c.args.r.now);
      right = passed_within svertex_limit (vector c.cross_narrow-rq.result.1 c.cross_narrow-pr.result.1 c.cross_narrow-qp.result.1) (lit≤ tt) (record { of_x = i.of_y; of_y = j.of_y; of_z = k.of_y });
    }

pub dot_narrow-z-requires : goal.dot_narrow-z-requires
dot_narrow-z-requires c =
    let i = c.cross_narrow-rq.ensures.small in let j = c.cross_narrow-pr.ensures.small in let k = c.cross_narrow-qp.ensures.small in
    record {
      left = passed_within offset_limit (constants (form_of c.args.p.now) (form_of c.args.q.now) (form_of c.args.r.now)) (lit≤ tt) (constants_within c.args.p.now c.args.q.now c.args.r.now);
      right = passed_within svertex_limit (vector c.cross_narrow-rq.result.2 c.cross_narrow-pr.result.2 c.cross_narrow-qp.result.2) (lit≤ tt) (record { of_x = i.of_z; of_y = j.of_z; of_z = k.of_z });
    }

pub turned-requires-clause-small : goal.turned-requires-clause-small
turned-requires-clause-small c =
    let d = constants (form_of c.args.p.now) (form_of c.args.q.now) (form_of c.args.r.now) in
    let h = constants_within c.args.p.now c.args.q.now c.args.r.now in
    let rq = c.cross_narrow-rq.result in let pr = c.cross_narrow-pr.result in let qp = c.cross_narrow-qp.result in
    let i = c.cross_narrow-rq.ensures.small in let j = c.cross_narrow-pr.ensures.small in let k = c.cross_narrow-qp.ensures.small in
    let kx : IsAtMost svertex_limit (vector rq.0 pr.0 qp.0) = record { of_x = i.of_x; of_y = j.of_x; of_z = k.of_x } in
    let ky : IsAtMost svertex_limit (vector rq.1 pr.1 qp.1) = record { of_x = i.of_y; of_y = j.of_y; of_z = k.of_y } in
    let kz : IsAtMost svertex_limit (vector rq.2 pr.2 qp.2) = record { of_x = i.of_z; of_y = j.of_z; of_z = k.of_z } in
    record {
      of_x = kept_size c.dot_narrow-x.result (size c.dot_narrow-x.result d _ h kx (plain c.dot_narrow-x.result d (vector rq.0 pr.0 qp.0) h kx c.dot_narrow-x.ensures.dot));
      of_y = kept_size c.dot_narrow-y.result (size c.dot_narrow-y.result d _ h ky (plain c.dot_narrow-y.result d (vector rq.1 pr.1 qp.1) h ky c.dot_narrow-y.ensures.dot));
      of_z = kept_size c.dot_narrow-z.result (size c.dot_narrow-z.result d _ h kz (plain c.dot_narrow-z.result d (vector rq.2 pr.2 qp.2) h kz c.dot_narrow-z.ensures.dot));
    }

w_size : (n : ℤ) (a b : Vector) → IsAtMost normal_limit a → IsAtMost svertex_limit b → n ≡ dot a b → nat_abs n ≤ weight_limit
w_size n a b h k e = subst (λ (m : ℤ). nat_abs m ≤ weight_limit) (sym e) (let s = dot_size normal_limit svertex_limit a b h k in omega (arith, s))

pub turned-requires-clause-w_small : goal.turned-requires-clause-w_small
turned-requires-clause-w_small c =
    let s : nat_abs c.dot_narrow-w.result ≤ weight_limit = w_size c.dot_narrow-w.result (triple_vector c.normal-np.result) (triple_vector c.cross_narrow-rq.result) c.normal-np.ensures.small c.cross_narrow-rq.ensures.small c.dot_narrow-w.ensures.dot in
    rw (kept c.dot_narrow-w.result (omega (arith, s))) s

pub returns-clause-met : goal.returns-clause-met
returns-clause-met c =
    let p = form_of c.args.p.now in let q = form_of c.args.q.now in let r = form_of c.args.r.now in
    let d = constants p q r in
    let h = constants_within c.args.p.now c.args.q.now c.args.r.now in
    let rq = c.cross_narrow-rq.result in let pr = c.cross_narrow-pr.result in let qp = c.cross_narrow-qp.result in
    let i = c.cross_narrow-rq.ensures.small in let j = c.cross_narrow-pr.ensures.small in let k = c.cross_narrow-qp.ensures.small in
    let kx : IsAtMost svertex_limit (vector rq.0 pr.0 qp.0) = record { of_x = i.of_x; of_y = j.of_x; of_z = k.of_x } in
    let ky : IsAtMost svertex_limit (vector rq.1 pr.1 qp.1) = record { of_x = i.of_y; of_y = j.of_y; of_z = k.of_y } in
    let kz : IsAtMost svertex_limit (vector rq.2 pr.2 qp.2) = record { of_x = i.of_z; of_y = j.of_z; of_z = k.of_z } in
    let np = c.normal-np.ensures.normal in let nq = c.normal-nq.ensures.normal in let nr = c.normal-nr.ensures.normal in
    let steps : Steps p q r (triple_vector rq) (triple_vector pr) (triple_vector qp) = record {
      rq_is = cross_is (normal_of r) (normal_of q) _ _ _ nr nq c.cross_narrow-rq.ensures.cross;
      pr_is = cross_is (normal_of p) (normal_of r) _ _ _ np nr c.cross_narrow-pr.ensures.cross;
      qp_is = cross_is (normal_of q) (normal_of p) _ _ _ nq np c.cross_narrow-qp.ensures.cross;
    } in
    let ex : c.dot_narrow-x.result ≡ dot d (vector rq.0 pr.0 qp.0) = plain c.dot_narrow-x.result d (vector rq.0 pr.0 qp.0) h kx c.dot_narrow-x.ensures.dot in
    let ey : c.dot_narrow-y.result ≡ dot d (vector rq.1 pr.1 qp.1) = plain c.dot_narrow-y.result d (vector rq.1 pr.1 qp.1) h ky c.dot_narrow-y.ensures.dot in
    let ez : c.dot_narrow-z.result ≡ dot d (vector rq.2 pr.2 qp.2) = plain c.dot_narrow-z.result d (vector rq.2 pr.2 qp.2) h kz c.dot_narrow-z.ensures.dot in
    let sw : nat_abs c.dot_narrow-w.result ≤ weight_limit = w_size c.dot_narrow-w.result (triple_vector c.normal-np.result) (triple_vector c.cross_narrow-rq.result) c.normal-np.ensures.small c.cross_narrow-rq.ensures.small c.dot_narrow-w.ensures.dot in
    let w_is : neg_ℤ c.dot_narrow-w.result ≡ meet_w p q r = triple_is p q r _ _ _ _ _ np nq nr c.cross_narrow-rq.ensures.cross c.dot_narrow-w.ensures.dot in
    let some : meet_w p q r ≢ pos 0 = subst (λ (n : ℤ). n ≢ pos 0) w_is (not_zero c.dot_narrow-w.result (search rules)) in
    IsOnlyCommon-from_ratios p q r c.turned.result.x c.turned.result.y c.turned.result.z c.turned.result.w c.turned.result.proper some
    (rw (
      kept c.dot_narrow-x.result (size c.dot_narrow-x.result d _ h kx ex) ∙ ex ∙ steps_x p q r _ _ _ steps,
      kept c.dot_narrow-y.result (size c.dot_narrow-y.result d _ h ky ey) ∙ ey ∙ steps_y p q r _ _ _ steps,
      kept c.dot_narrow-z.result (size c.dot_narrow-z.result d _ h kz ez) ∙ ez ∙ steps_z p q r _ _ _ steps,
      kept c.dot_narrow-w.result (omega (arith, sw)),
      w_is,
    ) at c.turned.ensures.same)

pub returns-clause-none : goal.returns-clause-none
returns-clause-none c =
    let e = triple_is (form_of c.args.p.now) (form_of c.args.q.now) (form_of c.args.r.now) _ _ _ _ _ c.normal-np.ensures.normal c.normal-nq.ensures.normal c.normal-nr.ensures.normal c.cross_narrow-rq.ensures.cross c.dot_narrow-w.ensures.dot in
    let some : c.dot_narrow-w.result ≢ pos 0 = search rules in
    (λ none. absurd (cc), λ h. absurd (not_zero c.dot_narrow-w.result some (e ∙ h)))
