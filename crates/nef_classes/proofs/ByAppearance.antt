-- Where equal numbers stand for one class, their numbers by first appearance number the classes.
use Rattle.nef_classes.proofs.Prelude.{◌≡◌, ℕ, ◌<◌, List, arith, ◌↔◌, IsAt, Chained, NumbersClasses, AreNumbered}
use Rattle.nef_space.proofs.Lists.{is-at_within, is-at_some}

pub numbers-classes : (Link : ℕ → ℕ → Type 0) (cs ns : List ℕ) → AreNumbered cs ns → ((s t c d : ℕ) → IsAt cs s c → IsAt cs t d → (c ≡ d) ↔ Chained Link s t)
    → NumbersClasses Link (λ s t. s < t) 0 (λ s n. IsAt ns s n)
numbers-classes Link cs ns N same = record {
  by_class = λ s t m n hs ht.
      let i = stands s m hs in
      let j = stands t n ht in
      let q = N.same s t i.0 j.0 m n i.1 j.1 hs ht in
      let r = same s t i.0 j.0 i.1 j.1 in
      (λ e. r.0 (q.0 e), λ h. q.1 (r.1 h));
  by_appearance = λ s m n hs low h. let r = N.by_appearance s m n hs h in (r.0, r.1, r.2);
}
  where
    stands : (s n : ℕ) → IsAt ns s n → (c : ℕ) × IsAt cs s c
    stands s n h = is-at_some cs s (let i = is-at_within ns s n h in let e = N.as_many in omega arith)
