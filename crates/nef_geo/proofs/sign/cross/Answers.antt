use Rattle.nef_geo.proofs.Prelude.{ℕ, refl, sym, ◌∙◌, subst, ◌↔◌, IsNone, Option, Some, None, svertex_limit, Vector, cross, IsAtMost, IsZero, SameDirection, Dir, vector_of, triple_vector}
use Rattle.std.proofs.Common.{IfSome}
use Rattle.nef_geo.proofs.Products.{passed}
use Rattle.nef_geo.proofs.sign.cross.Goals as goal

small_some : (r : Option Dir) (v : Vector) → IsAtMost svertex_limit v → IfSome r (λ d. (k : ℕ) → IsAtMost k v → IsAtMost k (vector_of d)) → IfSome r (λ d. IsAtMost svertex_limit (vector_of d))
small_some None v s h = h
small_some (Some d) v s h = h svertex_limit s

pub returns-clause-none : goal.returns-clause-none
returns-clause-none c =
    let p = c.cross_narrow-product in
    let e = passed (vector_of c.args.a.now) (vector_of c.args.b.now) (triple_vector c.narrow.result) (triple_vector c.narrow-2.result) p.result.0 p.result.1 p.result.2 c.narrow.ensures.narrow c.narrow-2.ensures.narrow p.ensures.cross p.ensures.small in
    subst (λ (v : Vector). IsNone c.of.result ↔ IsZero v) e c.of.ensures.none

pub returns-clause-cross : goal.returns-clause-cross
returns-clause-cross c =
    let p = c.cross_narrow-product in
    let e = passed (vector_of c.args.a.now) (vector_of c.args.b.now) (triple_vector c.narrow.result) (triple_vector c.narrow-2.result) p.result.0 p.result.1 p.result.2 c.narrow.ensures.narrow c.narrow-2.ensures.narrow p.ensures.cross p.ensures.small in
    subst (λ (v : Vector). IfSome c.of.result (λ d. SameDirection v (vector_of d))) e c.of.ensures.same

pub returns-clause-small : goal.returns-clause-small
returns-clause-small c =
    let p = c.cross_narrow-product in
    let f = passed _ _ (triple_vector c.narrow.result) (triple_vector c.narrow-2.result) p.result.0 p.result.1 p.result.2 refl refl p.ensures.cross p.ensures.small in
    small_some c.of.result _ (subst (IsAtMost svertex_limit) (p.ensures.cross ∙ sym f) p.ensures.small) c.of.ensures.size
