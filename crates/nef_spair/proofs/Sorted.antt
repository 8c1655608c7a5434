-- Arcs that have been put in order are the same arcs.
use Rattle.nef_spair.proofs.Prelude.{ℕ, List, IsPermutation, Star, SArc, AreArcs}
use Rattle.nef_spair.proofs.Apart.{was-listed, still-listed}
use Rattle.nef_spair.proofs.ArcOrder.{still-apart}

pub sorted-arcs : (kept : List Star) (i n : ℕ) (xs ys : List SArc) → IsPermutation xs ys → AreArcs kept i n xs → AreArcs kept i n ys
sorted-arcs kept i n xs ys moved w = record {
  from = λ k a h. let o = was-listed xs ys moved k a h in w.from o.0 a o.1;
  small = λ k a h. let o = was-listed xs ys moved k a h in w.small o.0 a o.1;
  apart = still-apart xs ys moved w.apart;
  along = λ k a h. let o = was-listed xs ys moved k a h in w.along o.0 a o.1;
  all = λ j m t r h b f e. let o = w.all j m t r h b f e in let p = still-listed xs ys moved o.0 o.1 o.2 in (p.0, o.1, p.1, o.3, o.4);
}
