use Rattle.nef_canon.proofs.Prelude.{◌≡◌, List, ℕ, ℤ, [], ◌∷◌, ◌+◌, ◌++◌, get_or, take, signed_decimal, rules, ap, sym, ◌∙◌, append-nil, take_more, take_all, map-append, blanked}
use Rattle.std.specs.Prelude.{pos}
use Rattle.nef_complex.specs.Text.{signed_numbers}
use Rattle.nef_canon.proofs.Lines.{one-word, more-words}
use Rattle.nef_canon.proofs.words.add_signed.Goals as goal

pub loop-n-init : goal.loop-n-init
loop-n-init c = sym (append-nil c.args.text.now.items)

pub loop-n-preserved : goal.loop-n-preserved
loop-n-preserved c =
    let o : List ℕ = c.args.text.now.items in
    let ns : List ℤ = c.args.list.now in let i = c.loop-n.n-index in
    let n : ℤ = get_or ns i (pos 0) in
    let s : List ℕ = c.loop-n.text.items in
    let t : List ℕ = c.extend_from_slice.new.self.items in
    let bytes : List ℕ = c.as_bytes.result.now in
    let written : bytes ≡ signed_decimal n = search rules in
    let own : t ≡ s ++ blanked (signed_decimal n ∷ []) = one-word s _ t bytes (signed_decimal n) c.in_ok-push.ensures.items c.in_ok-extend_from_slice.ensures.items written in
    let more : signed_numbers (take (i + 1) ns) ≡ signed_numbers (take i ns) ++ signed_decimal n ∷ [] = ap signed_numbers (take_more ns i (pos 0) c.loop-n-test.true) ∙ map-append signed_decimal (take i ns) (n ∷ []) in
    more-words o [] s t (signed_numbers (take i ns)) (signed_decimal n ∷ []) c.loop-n.invariant own ∙ ap (λ ws. o ++ blanked ws) (sym more)

pub returns : goal.returns
returns c = record { added = c.loop-n.invariant ∙ ap (λ (ms : List ℤ). c.args.text.now.items ++ blanked (signed_numbers ms)) (take_all c.loop-n.n-index c.args.list.now c.loop-n-test.false) }
