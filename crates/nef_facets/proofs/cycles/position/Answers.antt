use Rattle.nef_facets.proofs.Prelude.{ℕ, ◌+◌, List, arith, sym, ap, ◌∙◌, subst, IsAt, is-at_within, is-at_is, Corner}
use Rattle.nef_facets.proofs.CornerLists.{corner}
use Rattle.nef_facets.proofs.cycles.position.Goals as goal

pub bounds-starts-vertex : goal.bounds-starts-vertex
bounds-starts-vertex c =
    let k = corner c.args.vertex c.args.item in
    let L = c.requires.listed in let s = c.requires.starts L.0 k L.1 in let l = is-at_within c.args.starts.now k.vertex s.0 s.1 in
    omega (arith, l)

pub returns : goal.returns
returns c =
    let ks : List Corner = c.args.corners.now in let k = corner c.args.vertex c.args.item in let starts : List ℕ = c.args.starts.now in
    let L = c.requires.listed in let s = c.requires.starts L.0 k L.1 in
    record { position = subst (λ (n : ℕ). IsAt ks n k) (sym (ap (λ (f : ℕ). f + k.item) (is-at_is starts k.vertex s.0 0 s.1) ∙ s.2)) L.1 }
