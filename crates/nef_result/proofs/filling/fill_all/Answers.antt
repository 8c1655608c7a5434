use Rattle.nef_result.proofs.Prelude.{◌≡◌, ◌<◌, ℕ, length, arith, sym, subst, First, Second, at-read, MapSource, HasNamed, NamesVertex, IsFilledAt, AreFilledTo}
use Rattle.nef_smap.proofs.SideLists.{is-at_some as element-at}
use Rattle.nef_result.proofs.Filled.{filled-none, left-none, has-named, filled-more, left-first, left-second}
use Rattle.nef_result.proofs.filling.fill_all.Goals as goal

pub loop-number-init : goal.loop-number-init
loop-number-init c = record {
  filled = filled-none c.args.first.now.items c.args.second.now.items c.args.vertices.now.items c.args.sources.now;
  left = left-none c.args.vertices.now.items c.args.first.now.items;
  other = left-none c.args.vertices.now.items c.args.second.now.items;
}

pub fill-requires : goal.fill-requires
fill-requires c =
    let us = c.args.first.now.items in let vs = c.args.second.now.items in let ys = c.args.vertices.now.items in let fs = c.args.sources.now in
    let n = c.loop-number.number in let ws = c.loop-number.first.items in let zs = c.loop-number.second.items in
    let T = c.requires.there in let I = c.loop-number.invariant in
    let l : n < length fs = (let t = c.loop-number-test.true in omega arith) in
    let alike = T.alike in
    let y = element-at ys n (omega (arith, l, alike)) in let f = element-at fs n l in
    record {
      within = let a = I.filled.alike in omega (arith, l, alike, a);
      named = subst (HasNamed ws zs) (sym (at-read fs n _ f.0 f.1)) (has-named us vs ys fs T n y.0 f.0 y.1 f.1 ws zs I.left I.other);
    }

pub loop-number-preserved : goal.loop-number-preserved
loop-number-preserved c =
    let us = c.args.first.now.items in let vs = c.args.second.now.items in let ys = c.args.vertices.now.items in let fs = c.args.sources.now in
    let n = c.loop-number.number in let ws = c.loop-number.first.items in let zs = c.loop-number.second.items in let new = c.fill.new.vertices.items in
    let T = c.requires.there in let I = c.loop-number.invariant in
    let l : n < length fs = (let t = c.loop-number-test.true in omega arith) in
    let alike = T.alike in
    let y = element-at ys n (omega (arith, l, alike)) in let f = element-at fs n l in
    record {
      filled = filled-more us vs ys fs T n y.0 f.0 y.1 f.1 ws zs I.left I.other c.loop-number.vertices.items new I.filled c.fill.ensures.len
          (λ v a. subst (λ (g : MapSource). IsFilledAt ws zs g n v new) (at-read fs n _ f.0 f.1) (c.fill.ensures.filled v a)) c.fill.ensures.others;
      left = left-first us vs ys fs T n y.0 f.0 y.1 f.1 ws c.fill.new.first.items I.left
          (λ k v h. c.fill.ensures.first k v (λ m. h (subst (λ (g : MapSource). NamesVertex g First k) (at-read fs n _ f.0 f.1) m)));
      other = left-second us vs ys fs T n y.0 f.0 y.1 f.1 zs c.fill.new.second.items I.other
          (λ k v h. c.fill.ensures.second k v (λ m. h (subst (λ (g : MapSource). NamesVertex g Second k) (at-read fs n _ f.0 f.1) m)));
    }

pub returns : goal.returns
returns c =
    let all : c.loop-number.number ≡ length c.args.sources.now = (let f = c.loop-number-test.false in let e = c.loop-number.auto in omega arith) in
    record {
      filled = subst (λ (n : ℕ). AreFilledTo c.args.first.now.items c.args.second.now.items c.args.vertices.now.items c.args.sources.now n c.loop-number.vertices.items) all c.loop-number.invariant.filled;
    }
