use Rattle.nef_complex.proofs.Prelude.{◌≡◌, ◌≤◌, ℕ, ◌+◌, List, [], length, arith, refl, sym, ap, subst, ◌∙◌, Vec, Global, slice_get_read, IsAt, Plane, AreTaken}
use Rattle.nef_complex.proofs.Walking.{walked-none, walked-same, walked-taken, walked-other, taken-all}
use Rattle.nef_complex.proofs.taken_rows.source_of.Goals.{then-stands_at+in_ok-push, else-stands_at+in_ok-push-2+in_ok-push-3}
use Rattle.nef_complex.proofs.taken_rows.source_of.Goals as goal

pub loop-number-init : goal.loop-number-init
loop-number-init c =
    walked-same c.as_slice-carriers.result.now c.args.all.now 0 [] _ [] _ [] _ c.in_ok-numbers.ensures.items c.new-others.ensures.empty c.new-other_numbers.ensures.items (walked-none c.as_slice-carriers.result.now c.args.all.now)

pub loop-number-preserved : goal.loop-number-preserved
loop-number-preserved c =
    let gs : List Plane = c.as_slice-carriers.result.now in
    let hs : List Plane = c.args.all.now in
    let n : ℕ = c.loop-number.number in
    let h : Plane = c.index-all-number.result in
    let ns : List ℕ = c.loop-number.numbers.items in
    let others : List Plane = c.loop-number.others in
    let ks : List ℕ = c.loop-number.other_numbers.items in
    let W = c.loop-number.invariant in
    let here = slice_get_read hs (length hs) n h refl (let t = c.loop-number-test.true in omega arith) c.index-all-number.is in
    elim c.if-stands_at.branch [
      | then-stands_at+in_ok-push w ↦
          let next : c.len.result ≡ length ns = omega (arith, c.len.ensures, c.loop-number.numbers.ok.0) in
          let there : IsAt gs (length ns) h = subst (λ (k : ℕ). IsAt gs k h) next (c.stands_at.ensures.stands w.if-stands_at.true) in
          walked-same gs hs (n + 1) _ _ _ _ _ _ (ap (λ (v : Vec ℕ Global). v.items) w.numbers-is ∙ w.in_ok-push.ensures.items) w.others-is (ap (λ (v : Vec ℕ Global). v.items) w.other_numbers-is)
          (walked-taken gs hs n ns others ks W h here there)
      | else-stands_at+in_ok-push-2+in_ok-push-3 w ↦
          walked-same gs hs (n + 1) _ _ _ _ _ _ (ap (λ (v : Vec ℕ Global). v.items) w.numbers-is) (w.others-is ∙ w.in_ok-push-2.ensures.ok) (ap (λ (v : Vec ℕ Global). v.items) w.other_numbers-is ∙ w.in_ok-push-3.ensures.items)
          (walked-other gs hs n ns others ks W h here c.requires.ordered)
    ]

pub returns : goal.returns
returns c =
    let gs : List Plane = c.as_slice-carriers.result.now in
    let hs : List Plane = c.args.all.now in
    let ns : List ℕ = c.loop-number.numbers.items in
    let others : List Plane = c.loop-number.others in
    let ks : List ℕ = c.loop-number.other_numbers.items in
    let count : c.len-found.result ≡ length ns = omega (arith, c.len-found.ensures, c.loop-number.numbers.ok.0) in
    let enough : length gs ≤ length ns = let f = c.if-found-carriers.false in omega (arith, f, count) in
    record {
      source = (
        c.requires.shows,
        subst (λ (planes : List Plane). AreTaken planes hs ns c.in_ok-others.others ks) c.as_slice-carriers.ensures.all
            (subst (λ (planes : List Plane). AreTaken gs hs ns planes ks) (sym c.in_ok-others.ensures.kept)
            (taken-all gs hs c.loop-number.number ns others ks c.loop-number.invariant (let f = c.loop-number-test.false in let e = c.loop-number.auto in omega arith) enough)),
      );
    }
