use Rattle.nef_index.proofs.Prelude.{ℕ, ◌+◌, List, length, refl, sym, ltb-true, slice_get_read, Plane}
use Rattle.nef_index.proofs.sorted_carriers.goes_on.Goals as goal

pub returns-in-Some : goal.returns-in-Some
returns-in-Some c =
    let hs : List Plane = c.args.carriers.now in
    let k : ℕ = c.args.number in
    let g : Plane = c.index-carriers-number.result in
    let h : Plane = c.in-Some.next.now in
    let next = slice_get_read hs (length hs) (k + 1) h refl (ltb-true (k + 1) (length hs) (sym c.in-Some.ensures.lookup.0)) c.in-Some.ensures.lookup.1 in
    record { on = λ t. (g, h, slice_get_read hs (length hs) k g refl c.requires.within c.index-carriers-number.is, next, c.same_normal.ensures.same t) }
