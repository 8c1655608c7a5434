use Rattle.nef_volumes.proofs.Prelude.{◌≡◌, ◌<◌, List, [], ◌∷◌, ◌++◌, length, set, arith, refl, sym, ◌∙◌, subst, rules, length-set, YieldsList-from_vec, YieldsList-turn, IsAt, IsInTable, is-at_one, is-at_get, read, Shell, AreShellsOf}
use Rattle.nef_complex.specs.declared.parts.Side.{Side}
use Rattle.nef_volumes.proofs.Joining.{cell-one_number}
use Rattle.nef_volumes.proofs.VolumeShells.{shells-more}
use Rattle.nef_volumes.proofs.numbers.volume_shells.Goals as goal

pub number_at-number-requires : goal.number_at-number-requires
number_at-number-requires c =
    let all : List (List Side) = c.args.lists.items in
    let own : List Side = c.in-Some.sides in
    let k = length c.loop-sides.yielded in
    let t = YieldsList-turn (YieldsList-from_vec {s = c.into_iter-sides-iterator.result} all (search rules) (search rules)) c.loop-sides.yielded c.loop-sides.sides-iterator c.loop-sides.yielded_by c.next.result c.next.new.self own c.in-Some.is c.next.ensures.steps in
    let (s, n, b, v, l) = c.requires.volumes k own (subst (λ (xs : List Side). IsAt all k xs) (sym t.1) (is-at_get all k own t.0)) in
    let e = is-at_one own 0 s c.at-first.result.now b c.at-first.ensures.element in
    record { some = (n, subst (λ (x : Side). IsInTable c.args.volume_of.now x.vertex x.side n) e v) }

pub index_mut-requires : goal.index_mut-requires
index_mut-requires c =
    let all : List (List Side) = c.args.lists.items in
    let own : List Side = c.in-Some.sides in
    let k = length c.loop-sides.yielded in
    let t = YieldsList-turn (YieldsList-from_vec {s = c.into_iter-sides-iterator.result} all (search rules) (search rules)) c.loop-sides.yielded c.loop-sides.sides-iterator c.loop-sides.yielded_by c.next.result c.next.new.self own c.in-Some.is c.next.ensures.steps in
    let (s, n, b, v, l) = c.requires.volumes k own (subst (λ (xs : List Side). IsAt all k xs) (sym t.1) (is-at_get all k own t.0)) in
    let x : Side = c.at-first.result.now in
    let e = is-at_one own 0 s x b c.at-first.ensures.element in
    let m = c.number_at-number.result in
    let one : m ≡ n = cell-one_number c.args.volume_of.now (record { row = x.vertex; column = x.side }) m n c.number_at-number.ensures.number (subst (λ (y : Side). IsInTable c.args.volume_of.now y.vertex y.side n) e v) in
    let many = c.loop-sides.invariant.as_many in
    omega arith

pub loop-sides-preserved : goal.loop-sides-preserved
loop-sides-preserved c =
    let all : List (List Side) = c.args.lists.items in
    let own : List Side = c.in-Some.sides in
    let k = length c.loop-sides.yielded in
    let t = YieldsList-turn (YieldsList-from_vec {s = c.into_iter-sides-iterator.result} all (search rules) (search rules)) c.loop-sides.yielded c.loop-sides.sides-iterator c.loop-sides.yielded_by c.next.result c.next.new.self own c.in-Some.is c.next.ensures.steps in
    let (s, n, b, v, l) = c.requires.volumes k own (subst (λ (xs : List Side). IsAt all k xs) (sym t.1) (is-at_get all k own t.0)) in
    let x : Side = c.at-first.result.now in
    let e = is-at_one own 0 s x b c.at-first.ensures.element in
    let m = c.number_at-number.result in
    let one : m ≡ n = cell-one_number c.args.volume_of.now (record { row = x.vertex; column = x.side }) m n c.number_at-number.ensures.number (subst (λ (y : Side). IsInTable c.args.volume_of.now y.vertex y.side n) e v) in
    let many = c.loop-sides.invariant.as_many in
    let within : m < length c.loop-sides.shells.items = omega (arith, l, one, many) in
    let rows : List (List Shell) = c.loop-sides.shells.items in
    let row : List Shell = c.index_mut.result.now in
    let volume_of = c.args.volume_of.now in
    let ys : List (List Side) = c.loop-sides.yielded in
    record {
      as_many = length-set rows m c.push.new.self ∙ c.loop-sides.invariant.as_many;
      held = subst (λ (r : List Shell). AreShellsOf volume_of (ys ++ own ∷ []) (set rows m r)) (sym c.in_ok-push.ensures.ok)
          (shells-more volume_of ys rows c.loop-sides.invariant.held own m row (read rows rows m row refl within c.index_mut.ensures.value) c.at-first.result.now c.at-first.ensures.element c.number_at-number.ensures.number);
    }
