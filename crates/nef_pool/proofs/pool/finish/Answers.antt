use Rattle.nef_pool.proofs.Prelude.{◌≡◌, ◌≤◌, List, [], ◌∷◌, ◌++◌, None, All, length, length-append, arith, ap, sym, ◌∙◌, subst}
use Rattle.std.proofs.lemmas.List.Elements.{All-append, All-cons, All-nil}
use Rattle.nef_pool.proofs.pool.finish.Goals as goal

all-more : {X : Type 0} (P : X → Type 0) (xs ys : List X) (x : X) → ys ≡ xs ++ x ∷ [] → All P xs → P x → All P ys
all-more P xs ys x e A p = subst (All P) (sym e) (All-append P xs (x ∷ []) A (All-cons P x [] p (All-nil P)))

pub loop-preserved : goal.loop-preserved
loop-preserved g c =
    let I = c.loop.invariant in
    let S = c.split.ensures in
    let fewer = S.fewer in let spare = I.3 in let count = I.4 in
    let items = ap length c.push_reserved.ensures.items in let more = length-append c.loop.others.items (c.split.result ∷ []) in
    let before = c.loop.others.ok.0 in let after = c.push_reserved.new.self.ok.0 in (
      S.of.0,
      S.same.1 ∙ I.1,
      all-more (λ p. g.B.Board.belongs c.args.board p × (g.B.Board.hand p ≡ None)) c.loop.others.items c.push_reserved.new.self.items c.split.result c.push_reserved.ensures.items I.2 (S.of.1, S.new.1),
      omega (arith, fewer, spare),
      omega (arith, items, more, before, after, count),
      subst (λ n. c.saturating_sub-count.result ≤ n) (sym c.push_reserved.ensures.capacity) I.5,
    )
