use Rattle.nef_canon.proofs.Prelude.{◌≡◌, List, ℕ, [], ◌∷◌, ◌+◌, ◌++◌, get_or, take, decimal, ap, sym, ◌∙◌, append-nil, take_more, take_all, map-append, numbers, blanked}
use Rattle.nef_canon.proofs.Lines.{one-word, more-words}
use Rattle.nef_canon.proofs.words.add_counts.Goals as goal

pub loop-n-init : goal.loop-n-init
loop-n-init c = sym (append-nil c.args.text.now.items)

pub loop-n-preserved : goal.loop-n-preserved
loop-n-preserved c =
    let o : List ℕ = c.args.text.now.items in
    let ns : List ℕ = c.args.counts.now in let i = c.loop-n.n-index in
    let n : ℕ = get_or ns i 0 in
    let s : List ℕ = c.loop-n.text.items in
    let t : List ℕ = c.extend_from_slice.new.self.items in
    let bytes : List ℕ = c.as_bytes.result.now in
    let written : bytes ≡ decimal n = c.as_bytes.ensures.value ∙ c.format.ensures.text in
    let own : t ≡ s ++ blanked (decimal n ∷ []) = one-word s _ t bytes (decimal n) c.in_ok-push.ensures.items c.in_ok-extend_from_slice.ensures.items written in
    let more : numbers (take (i + 1) ns) ≡ numbers (take i ns) ++ decimal n ∷ [] = ap numbers (take_more ns i 0 c.loop-n-test.true) ∙ map-append decimal (take i ns) (n ∷ []) in
    more-words o [] s t (numbers (take i ns)) (decimal n ∷ []) c.loop-n.invariant own ∙ ap (λ ws. o ++ blanked ws) (sym more)

pub returns : goal.returns
returns c = record { added = c.loop-n.invariant ∙ ap (λ (ms : List ℕ). c.args.text.now.items ++ blanked (numbers ms)) (take_all c.loop-n.n-index c.args.counts.now c.loop-n-test.false) }
