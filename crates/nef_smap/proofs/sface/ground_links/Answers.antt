use Rattle.nef_smap.proofs.Prelude.{◌≡◌, ◌-◌, List, [], ◌∷◌, arith, sym, subst, IfOk-weaker, Link, map_of, AreGrounds}
use Rattle.nef_smap.proofs.LinkLists.{grounds-some, whole-last}
use Rattle.nef_smap.proofs.sface.ground_links.Goals as goal
use Rattle.nef_space.proofs.Elementary.{some-told}

pub returns : goal.returns
returns c =
    let M = map_of c.args.map.now in
    let m = some-told c.args.map.now.ground c.if-is_none.ensures in
    let count = c.sides-count.result in
    let l : Link = record { first = count - 1; second = count } in
    let w = whole-last M m.0 m.1 in
    let j = grounds-some M l (m.0, m.1, omega (arith, w, c.sides-count.ensures.count), c.sides-count.ensures.count) in
    record { links = IfOk-weaker c.from_slice.result (λ v. v.items ≡ l ∷ []) _ (λ v e. subst (AreGrounds M) (sym {A = List Link} e) j) c.from_slice.ensures.items }
