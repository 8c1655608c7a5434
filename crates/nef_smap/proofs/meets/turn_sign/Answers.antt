use Rattle.nef_smap.proofs.Prelude.{◌^◌, FitsSigned, lit≤, arith, kept_small}
use mir.Syntax.{w128}
use Rattle.nef_smap.proofs.LargeNumbers.{Fitting, fitting, turn-read}
use Rattle.nef_smap.proofs.meets.turn_sign.Goals as goal

pub returns : goal.returns
returns c =
    let n = c.args.n.now in
    let g = c.args.g.now in
    let nf : Fitting n = fitting (2 ^ 50) n (omega arith) c.requires.n_small in
    let gf : Fitting g = fitting (2 ^ 74) g (omega arith) c.requires.g_small in
    let fl : FitsSigned w128 c.leading.result = record { sfits = c.leading.type_inv } in
    let fb : FitsSigned w128 c.leading-with_end.result = record { sfits = c.leading-with_end.type_inv } in
    let fo : FitsSigned w128 c.leading-without.result = record { sfits = c.leading-without.type_inv } in
    let f1 : FitsSigned w128 c.minor.result = record { sfits = c.minor.type_inv } in
    let f2 : FitsSigned w128 c.minor-2.result = record { sfits = c.minor-2.type_inv } in
    let f3 : FitsSigned w128 c.minor-3.result = record { sfits = c.minor-3.type_inv } in
    let f4 : FitsSigned w128 c.minor-4.result = record { sfits = c.minor-4.type_inv } in
    record {
      sign = turn-read n g nf gf c.of.result c.leading.result c.leading-with_end.result c.leading-without.result c.minor.result c.minor-2.result c.minor-3.result c.minor-4.result fl fb fo f1 f2 f3 f4
          c.of.ensures.sign c.leading.ensures.leading c.leading-with_end.ensures.leading c.leading-without.ensures.leading
          c.minor.ensures.minor c.minor-2.ensures.minor c.minor-3.ensures.minor c.minor-4.ensures.minor;
    }

pub minor-requires : goal.minor-requires
minor-requires c =
    let n = c.args.n.now in
    let g = c.args.g.now in
    let few_n = c.requires.n_small in
    let few_g = c.requires.g_small in
    record { a_small = kept_small n.start.factor (2 ^ 50) few_n.start_factor (lit≤ tt); b_small = kept_small g.end.factor (2 ^ 74) few_g.end_factor (lit≤ tt); c_small = kept_small n.end.factor (2 ^ 50) few_n.end_factor (lit≤ tt); d_small = kept_small g.start.factor (2 ^ 74) few_g.start_factor (lit≤ tt) }

pub minor-requires-2 : goal.minor-requires-2
minor-requires-2 c =
    let n = c.args.n.now in
    let g = c.args.g.now in
    let few_n = c.requires.n_small in
    let few_g = c.requires.g_small in
    record { a_small = kept_small n.start.rest (2 ^ 50) few_n.start_rest (lit≤ tt); b_small = kept_small g.end.factor (2 ^ 74) few_g.end_factor (lit≤ tt); c_small = kept_small n.end.factor (2 ^ 50) few_n.end_factor (lit≤ tt); d_small = kept_small g.start.rest (2 ^ 74) few_g.start_rest (lit≤ tt) }

pub minor-requires-3 : goal.minor-requires-3
minor-requires-3 c =
    let n = c.args.n.now in
    let g = c.args.g.now in
    let few_n = c.requires.n_small in
    let few_g = c.requires.g_small in
    record { a_small = kept_small n.start.factor (2 ^ 50) few_n.start_factor (lit≤ tt); b_small = kept_small g.end.rest (2 ^ 74) few_g.end_rest (lit≤ tt); c_small = kept_small n.end.rest (2 ^ 50) few_n.end_rest (lit≤ tt); d_small = kept_small g.start.factor (2 ^ 74) few_g.start_factor (lit≤ tt) }

pub minor-requires-4 : goal.minor-requires-4
minor-requires-4 c =
    let n = c.args.n.now in
    let g = c.args.g.now in
    let few_n = c.requires.n_small in
    let few_g = c.requires.g_small in
    record { a_small = kept_small n.start.rest (2 ^ 50) few_n.start_rest (lit≤ tt); b_small = kept_small g.end.rest (2 ^ 74) few_g.end_rest (lit≤ tt); c_small = kept_small n.end.rest (2 ^ 50) few_n.end_rest (lit≤ tt); d_small = kept_small g.start.rest (2 ^ 74) few_g.start_rest (lit≤ tt) }
