use Rattle.nef_volumes.proofs.Prelude.{List, ◌+◌, get_or, sym, subst, IsCellNumber, Link, Tie, is-at_get, HasOneForEach, each-more}
use Rattle.nef_volumes.proofs.numbers.number_links.Goals as goal

pub number_at-requires : goal.number_at-requires
number_at-requires c = record { some = (c.requires.numbered c.loop-tie.tie-index _ (is-at_get c.args.ties.now c.loop-tie.tie-index _ c.loop-tie-test.true)).0 }

pub number_at-requires-in-loop-tie : goal.number_at-requires-in-loop-tie
number_at-requires-in-loop-tie c = record { some = (c.requires.numbered c.loop-tie.tie-index _ (is-at_get c.args.ties.now c.loop-tie.tie-index _ c.loop-tie-test.true)).1 }

pub loop-tie-preserved : goal.loop-tie-preserved
loop-tie-preserved c =
    let rows = c.args.rows.now in
    let ts = c.args.ties.now in
    let i = c.loop-tie.tie-index in
    let t : Tie = get_or ts i _ in
    let now : List Link = c.loop-tie.links.items in
    let l : Link = record { first = c.number_at.result; second = c.number_at-in-loop-tie.result } in
    subst (λ (ls : List Link). HasOneForEach (λ (k : Link) (u : Tie). IsCellNumber rows u.first k.first × IsCellNumber rows u.second k.second) (i + 1) ls ts) (sym c.in_ok-push.ensures.items)
    (each-more (λ (k : Link) (u : Tie). IsCellNumber rows u.first k.first × IsCellNumber rows u.second k.second) i now ts l t c.loop-tie.invariant (is-at_get ts i _ c.loop-tie-test.true)
    (c.number_at.ensures.number, c.number_at-in-loop-tie.ensures.number))
