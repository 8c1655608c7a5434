use Rattle.nef_shell.proofs.Prelude.{◌≡◌, ◌∙◌, ◌+◌, ◌<◌, ◌∷◌, ◌++◌, [], ap, arith, subst, sym, length, slice_index_or, Some, slice_get, length-append, slice_get-get_or}
use Rattle.std.specs.Prelude.{slice_set}
use Rattle.nef_shell.proofs.Needs.{at-last, no-early, put-more, put-none}
use Rattle.nef_shell.proofs.ahead.put_each.Goals as goal
use Rattle.nef_expr.proofs.Places.{slice_get-left}

pub loop-thing-init : goal.loop-thing-init
loop-thing-init g c = record { put = put-none _ _ _; count = omega arith; front = λ n x at. at }

pub loop-thing-preserved : goal.loop-thing-preserved
loop-thing-preserved g c =
    let early = c.args.early.now in
    let places = c.loop-thing.places in
    let left = c.pop.new.self.items in
    let thing = c.in-Some.thing in
    let so_far = c.loop-thing.invariant in
    let e = slice_index_or early (length left) no-early in
    let before : c.loop-thing.things.items ≡ left ++ thing ∷ [] = c.in-Some.ensures.items in
    let longer = ap length before ∙ length-append left (thing ∷ []) in
    let ok = c.pop.new.self.ok in
    let number : c.len.result ≡ length left = omega (arith, ok, c.len.ensures) in
    let below : length left < length early = let most = so_far.count in omega (arith, longer, most) in
    let at : slice_get early (length left) ≡ Some e = slice_get-get_or early (length left) no-early below in
    let seen = so_far.front (length left) thing (subst (λ z. slice_get z (length left) ≡ Some thing) (sym before) (at-last left thing)) in
    let within : e.value < length places = let low = c.requires.within (length left) e at in let same = so_far.put.count in omega (arith, low, same) in
    let put : c.put_at.new.places ≡ slice_set places e.value thing = c.put_at.ensures.put ∙ ap (λ n. slice_set places (slice_index_or early n no-early).value thing) number in
    record {
      put = rw put (put-more early c.args.things.items c.args.places.now places (length left) e thing at seen within so_far.put);
      count = omega (arith, below);
      front = λ m x at-m. so_far.front m x (subst (λ z. slice_get z m ≡ Some x) (sym before) (slice_get-left left (thing ∷ []) m x at-m));
    }
