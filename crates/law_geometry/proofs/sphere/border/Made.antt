-- The label that the tables give, from a list of the labels close by; there is one only, and it goes over to what has the same labels.
use Rattle.law_geometry.proofs.sphere.border.Prelude.{◌≡◌, refl, sym, ◌∙◌, ◌⊎◌, inl, inr, ⊎_elim, List, ◌∷◌, ◌++◌, subst, Bool, true, false, cond, not, ◌&&◌, ◌||◌, [], Lies, Label, Out, Not, In, Topology, interior, closure, boundary, complement, IsInside, IsClosed, IsInBy, ByTopology, is_in, all_in, some_in, in_by, label_by, label_from, face_label}
use Rattle.law_geometry.proofs.sphere.border.Said.{Says, says-and, says-or, says-not, says-same}

-- ---- the tables
pub says-all : (ls : List Label) → Says (all_in ls) ((l : Label) → Lies ls l → l ≡ In)
says-all [] = λ l a. absurd a
says-all (Out ∷ ls) = λ f. let e = f Out (inl refl) in cc
says-all (Not ∷ ls) = λ f. let e = f Not (inl refl) in cc
says-all (In ∷ ls) = says-same (all_in ls) _ _ (λ f l a. ⊎_elim (λ e. sym e) (λ b. f l b) a) (λ f l a. f l (inr a)) (says-all ls)

pub says-some : (ls : List Label) → Says (some_in ls) (Lies ls In)
says-some [] = λ a. a
says-some (Out ∷ ls) = says-same (some_in ls) _ _ (λ a. inr a) (λ a. ⊎_elim (λ e. cc) (λ b. b) a) (says-some ls)
says-some (Not ∷ ls) = says-same (some_in ls) _ _ (λ a. inr a) (λ a. ⊎_elim (λ e. cc) (λ b. b) a) (says-some ls)
says-some (In ∷ ls) = inl refl

pub lists-appended : (ks ls : List Label) → (all_in (ks ++ ls) ≡ (all_in ks && all_in ls)) × (some_in (ks ++ ls) ≡ (some_in ks || some_in ls))
lists-appended [] ls = (refl, refl)
lists-appended (Out ∷ ks) ls = (refl, (lists-appended ks ls).1)
lists-appended (Not ∷ ks) ls = (refl, (lists-appended ks ls).1)
lists-appended (In ∷ ks) ls = ((lists-appended ks ls).0, refl)

-- a face has no other label close by
pub face-table : (k : Topology) (l : Label) → label_from k l [] ≡ face_label k l
face-table interior Out = refl
face-table interior Not = refl
face-table interior In = refl
face-table closure Out = refl
face-table closure Not = refl
face-table closure In = refl
face-table boundary Out = refl
face-table boundary Not = refl
face-table boundary In = refl
face-table complement Out = refl
face-table complement Not = refl
face-table complement In = refl

-- ---- labels
module _ {X : Type 0} (own : Label → Type 0) (near : X → Label → Type 0) (one : (k l : Label) → own k → own l → k ≡ l) where
  -- there is one label only
  pub by-one : (k : Topology) (l m : Label) → ByTopology k own near l → ByTopology k own near m → l ≡ m
  by-one k Out Out x y = refl
  by-one k Out Not x y = absurd (y.0 x)
  by-one k Out In x y = absurd (y.0 x)
  by-one k Not Out x y = absurd (x.0 y)
  by-one k Not Not x y = refl
  by-one k Not In x y = absurd (x.1 y.1)
  by-one k In Out x y = absurd (x.0 y)
  by-one k In Not x y = absurd (y.1 x.1)
  by-one k In In x y = refl

  -- in the complement, whatever lies close by
  pub exchange-made : (m : Label) → own m → ByTopology complement own near (face_label complement m)
  exchange-made Out h = h
  exchange-made Not h = (λ x. let e = one Not Out h x in cc, h)
  exchange-made In h = (λ x. let e = one In Out h x in cc, λ x. let e = one In Not h x in cc)

  own-says : (m : Label) → own m → Says (is_in m) (own In)
  own-says Out h = λ x. let e = one Out In h x in cc
  own-says Not h = λ x. let e = one Not In h x in cc
  own-says In h = h

  not-says : (m : Label) → own m → (own Out → ⊥) → Says (not (is_in m)) (own Not)
  not-says Out h n = absurd (n h)
  not-says Not h n = h
  not-says In h n = λ x. let e = one In Not h x in cc

  module _ (near_one : (x : X) (k l : Label) → near x k → near x l → k ≡ l) (m : Label) (ls : List Label) (here : own m)
      (exists : (x : X) → (l : Label) × near x l × ((m ≡ l) ⊎ Lies ls l)) (found : (l : Label) → Lies ls l → (x : X) × near x l) where
    says-inside : Says (is_in m && all_in ls) (IsInside own near)
    says-inside = says-same (is_in m && all_in ls) _ _ there back (says-and (is_in m) (all_in ls) _ _ (own-says m here) (says-all ls))
      where
        there : own In × ((l : Label) → Lies ls l → l ≡ In) → IsInside own near
        there (o, f) = (o, λ x. let e = exists x in subst (near x) (⊎_elim (λ q. sym q ∙ one m In here o) (λ a. f e.0 a) e.2) e.1)

        back : IsInside own near → own In × ((l : Label) → Lies ls l → l ≡ In)
        back (o, f) = (o, λ l a. let x = found l a in near_one x.0 l In x.1 (f x.0))

    says-closed : Says (is_in m || some_in ls) (IsClosed own near)
    says-closed = says-same (is_in m || some_in ls) _ _ there back (says-or (is_in m) (some_in ls) _ _ (own-says m here) (says-some ls))
      where
        there : own In ⊎ Lies ls In → IsClosed own near
        there (inl o) = inl o
        there (inr a) = inr (found In a)

        back : IsClosed own near → own In ⊎ Lies ls In
        back (inl o) = inl o
        back (inr (x, n)) = let e = exists x in let q = near_one x e.0 In e.1 n in ⊎_elim (λ r. inl (subst own (r ∙ q) here)) (λ a. inr (subst (Lies ls) q a)) e.2

    says-in : (k : Topology) → (own Out → ⊥) → Says (in_by k m (all_in ls) (some_in ls)) (IsInBy k own near)
    says-in interior n = says-inside
    says-in closure n = says-closed
    says-in boundary n = says-and (is_in m || some_in ls) (not (is_in m && all_in ls)) _ _ says-closed (says-not (is_in m && all_in ls) _ says-inside)
    says-in complement n = not-says m here n

    pick : (k : Topology) (b : Bool) → Says b (IsInBy k own near) → (own Out → ⊥) → ByTopology k own near (cond b In Not)
    pick k true s n = (n, s)
    pick k false s n = (n, s)

    pub made : (k : Topology) → ByTopology k own near (label_from k m ls)
    made k = by m refl
      where
        table : (c : Label) → m ≡ c → ByTopology k own near (label_by k c (all_in ls) (some_in ls)) → ByTopology k own near (label_from k m ls)
        table c e h = subst (λ (r : Label). ByTopology k own near (label_by k r (all_in ls) (some_in ls))) (sym e) h

        by : (c : Label) → m ≡ c → ByTopology k own near (label_from k m ls)
        by Out e = table Out e (subst own e here)
        by Not e =
            let n : own Out → ⊥ = λ x. let q = sym e ∙ one m Out here x in cc in
            table Not e (pick k (in_by k Not (all_in ls) (some_in ls)) (subst (λ (r : Label). Says (in_by k r (all_in ls) (some_in ls)) (IsInBy k own near)) e (says-in k n)) n)
        by In e =
            let n : own Out → ⊥ = λ x. let q = sym e ∙ one m Out here x in cc in
            table In e (pick k (in_by k In (all_in ls) (some_in ls)) (subst (λ (r : Label). Says (in_by k r (all_in ls) (some_in ls)) (IsInBy k own near)) e (says-in k n)) n)

-- the same labels
module _ {X : Type 0} (own : Label → Type 0) (near : X → Label → Type 0) (own' : Label → Type 0) (near' : X → Label → Type 0)
    (there : (l : Label) → own l → own' l) (back : (l : Label) → own' l → own l) (near_there : (x : X) (l : Label) → near x l → near' x l) (near_back : (x : X) (l : Label) → near' x l → near x l) where
  inside-carried : IsInside own near → IsInside own' near'
  inside-carried (o, f) = (there In o, λ x. near_there x In (f x))

  inside-back : IsInside own' near' → IsInside own near
  inside-back (o, f) = (back In o, λ x. near_back x In (f x))

  closed-carried : IsClosed own near → IsClosed own' near'
  closed-carried (inl o) = inl (there In o)
  closed-carried (inr (x, n)) = inr (x, near_there x In n)

  closed-back : IsClosed own' near' → IsClosed own near
  closed-back (inl o) = inl (back In o)
  closed-back (inr (x, n)) = inr (x, near_back x In n)

  in-carried : (k : Topology) → IsInBy k own near → IsInBy k own' near'
  in-carried interior h = inside-carried h
  in-carried closure h = closed-carried h
  in-carried boundary (c, n) = (closed-carried c, λ i. n (inside-back i))
  in-carried complement h = there Not h

  in-back : (k : Topology) → IsInBy k own' near' → IsInBy k own near
  in-back interior h = inside-back h
  in-back closure h = closed-back h
  in-back boundary (c, n) = (closed-back c, λ i. n (inside-carried i))
  in-back complement h = back Not h

  pub by-carried : (k : Topology) (l : Label) → ByTopology k own near l → ByTopology k own' near' l
  by-carried k Out h = there Out h
  by-carried k Not h = (λ x. h.0 (back Out x), λ x. h.1 (in-back k x))
  by-carried k In h = (λ x. h.0 (back Out x), in-carried k h.1)
