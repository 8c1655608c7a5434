-- Numbers of the classes that joins make are the numbers of sfaces.
use Rattle.nef_smap.proofs.Prelude.{◌≡◌, ℕ, zero, suc, ◌+◌, ◌<◌, pos, ◌<ℤ◌, List, [], ◌∷◌, length, take, arith, refl, sym, ◌∙◌, ◌↔◌, length-take-le, IsAt, Chained, Vector, IsDirection, cross, dot, MapVertex, Map, Item, items, item_normal, Shaped, Link, sides_of, SeeOneWay, AreSfaces, AreJoins, AreLinked, LinksAreBelow, AreClasses, AreNumbered, is-at_within}
use Rattle.nef_classes.proofs.ByAppearance.{numbers-classes}
use Rattle.nef_smap.proofs.SameSface.{join-within, sface-class}

-- what stands at a place, or zero
abbrev at : List ℕ → ℕ → ℕ
at [] k = 0
at (x ∷ xs) zero = x
at (x ∷ xs) (suc k) = at xs k

at-is : (xs : List ℕ) (k : ℕ) → k < length xs → IsAt xs k (at xs k)
at-is [] k h = absurd (omega arith)
at-is (x ∷ xs) zero h = refl
at-is (x ∷ xs) (suc k) h = at-is xs k (omega arith)

at-taken : (n : ℕ) (xs : List ℕ) (k c : ℕ) → IsAt (take n xs) k c → c ≡ at xs k
at-taken zero xs k c h = cc
at-taken (suc n) [] k c h = cc
at-taken (suc n) (x ∷ xs) zero c h = cc
at-taken (suc n) (x ∷ xs) (suc k) c h = at-taken n xs k c h

module _ (M : Map) (V : Shaped M) (u : Vector) (ahead : (k : ℕ) (x : Item) → IsAt (items M) k x → pos 0 <ℤ dot (item_normal x) u)
    (across : (k : ℕ) (v : MapVertex) → IsAt M.svertices k v → IsDirection (cross u v.dir)) (hu : IsDirection u)
    (links : List Link) (A : AreJoins M u (AreLinked links)) where
  -- LINKS ARE BETWEEN SIDES AND u
  pub links-within : LinksAreBelow (length (sides_of M) + 1) links
  links-within k l h = join-within M V u ahead across hu l.first l.second (A.only l.first l.second (k, l, h, refl, refl))

  module _ (classes : List ℕ) (C : AreClasses (length (sides_of M) + 1) links classes) where
    abbrev count : ℕ
    count = length (sides_of M)

    same : (s t : ℕ) → s < count + 1 → t < count + 1 → (at classes s ≡ at classes t) ↔ Chained (AreLinked links) s t
    same s t hs ht = C.same s t (at classes s) (at classes t) (at-is classes s (let e = C.as_many in omega arith)) (at-is classes t (let e = C.as_many in omega arith))

    of-sides : length (take count classes) ≡ count
    of-sides = let e = C.as_many in length-take-le count classes (omega arith)

    same-sface : (s t c d : ℕ) → IsAt (take count classes) s c → IsAt (take count classes) t d → (c ≡ d) ↔ Chained (SeeOneWay M) s t
    same-sface s t c d hs ht =
        let n = of-sides in
        let i = is-at_within (take count classes) s c hs in
        let j = is-at_within (take count classes) t d ht in
        let e = at-taken count classes s c hs in
        let f = at-taken count classes t d ht in
        let r = sface-class M V u ahead across hu (AreLinked links) A (at classes) same s t (omega arith) (omega arith) in
        (λ g. r.0 (sym e ∙ g ∙ f), λ h. e ∙ r.1 h ∙ sym f)

    -- NUMBERS OF CLASSES ARE NUMBERS OF SFACES
    pub sface-numbers : (ns : List ℕ) → AreNumbered (take count classes) ns → AreSfaces M ns
    sface-numbers ns N = record { as_many = N.as_many ∙ of-sides; numbered = numbers-classes (SeeOneWay M) (take count classes) ns N same-sface }
