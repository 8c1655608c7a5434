-- Classes of numbers that links join, each with a number that stands for it, and the numbers of classes.
use Rattle.std.specs.Prelude.{◌≡◌, ℕ, ◌<◌, List, length, ◌↔◌}
use Rattle.nef_space.specs.Lists.{IsAt, Chained}
use Rattle.nef_classes.specs.declared.forest.Link.{Link}

-- some link of the list leads from s to t
abbrev pub AreLinked : List Link → ℕ → ℕ → Type 0
AreLinked ls s t = (k : ℕ) × (l : Link) × IsAt ls k l × (l.first ≡ s) × (l.second ≡ t)

-- all links are between numbers below count
abbrev pub LinksAreBelow : ℕ → List Link → Type 0
LinksAreBelow count ls = (k : ℕ) (l : Link) → IsAt ls k l → (l.first < count) × (l.second < count)

-- cs has for each number below count what stands for its class: the same where a chain of links joins two numbers
pub record AreClasses (count : ℕ) (ls : List Link) (cs : List ℕ) : Type 0 where
  pub as_many : length cs ≡ count
  pub same : (s t c d : ℕ) → IsAt cs s c → IsAt cs t d → (c ≡ d) ↔ Chained (AreLinked ls) s t

-- ns has for each element the number of its class, by first appearance
pub record AreNumbered (cs ns : List ℕ) : Type 0 where
  pub as_many : length ns ≡ length cs
  pub same : (s t c d m n : ℕ) → IsAt cs s c → IsAt cs t d → IsAt ns s m → IsAt ns t n → (m ≡ n) ↔ (c ≡ d)
  pub by_appearance : (s m n : ℕ) → IsAt ns s n → m < n → (t : ℕ) × (t < s) × IsAt ns t m
