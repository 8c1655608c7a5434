use Rattle.nef_smap.proofs.Prelude.{◌≡◌, [], ◌∷◌, sym, subst, ◌∙◌, pos, svertex_limit, dot, IsAtMost, vector_of, Dir, item_normal, on-level, IsStar, map_of, item_of}
use Rattle.nef_smap.proofs.Neighbourhood.{rays-along, star-along, along-here, on-listed}
use Rattle.nef_smap.proofs.locate.star_on_item.Goals as goal
use Rattle.nef_space.proofs.Lists.{is-at_within}

pub item_at-item-requires : goal.item_at-item-requires
item_at-item-requires c = let o = c.requires.on in record { within = is-at_within _ c.args.number o.0 o.1 }

pub returns : goal.returns
returns c =
    let M = map_of c.args.map.now in
    let d = c.args.d.now in
    let x = item_of c.item_at-item.result in
    let a = c.item_at-item.ensures.item in
    let on = on-listed M c.args.number x (vector_of d) c.requires.on a in
    let t = c.of.result in
    let q = c.of-ahead.result in
    let r = c.of-back.result in
    let rays : t.rays.items ≡ q ∷ r ∷ [] = c.of.ensures.rays ∙ c.in_ok-rays.ensures.items in
    let sectors : t.sectors.items ≡ c.label-above.result ∷ c.label-below.result ∷ [] = c.of.ensures.sectors ∙ c.in_ok-sectors.ensures.items in
    let axis = sym {A = Dir} c.of.ensures.axis in
    let star : IsStar t = star-along x t q r c.normal.result.now c.mark-mark.result c.label-above.result c.label-below.result rays sectors c.of.ensures.mark
    c.of-ahead.ensures.normal c.of-ahead.ensures.ahead c.of-ahead.ensures.mark c.of-back.ensures.normal c.of-back.ensures.ahead c.of-back.ensures.mark c.normal.ensures.normal
    (subst (λ (e : Dir). IsAtMost svertex_limit (vector_of e)) axis c.requires.small) (subst (λ (e : Dir). dot (item_normal x) (vector_of e) ≡ pos 0) axis (on-level M x (vector_of d) on))
    (c.requires.map.valid.shaped.normals c.args.number x a) (c.requires.map.small.normals c.args.number x a) in
    let along = rays-along x t q r c.normal.result.now c.mark-mark.result c.label-above.result c.label-below.result rays sectors c.of.ensures.mark
    c.of-ahead.ensures.normal c.of-ahead.ensures.ahead c.of-ahead.ensures.mark c.of-back.ensures.normal c.of-back.ensures.ahead c.of-back.ensures.mark c.normal.ensures.normal
    c.mark-mark.ensures.mark c.label-above.ensures.label c.label-below.ensures.label in
    record { star = star; axis = c.of.ensures.axis; shows = along-here t M c.args.number x d c.requires.map.valid a on star c.of.ensures.axis along }
