-- What is known of the labels of two lists is known of the two together.
use Rattle.nef_stopo.proofs.Prelude.{◌≡◌, ℕ, ◌+◌, ◌<◌, ◌≤◌, List, [], ◌∷◌, ◌++◌, map, length, get_or, take, Bool, true, false, ◌&&◌, ◌||◌, refl, sym, ap, ◌∙◌, add-one, append_assoc, take_all, map-append, append-nil, Label, gather, Topology, is_in, all_in, some_in, label_by, label_from, ray_mark, Ray, ray_of, nearby_of}
use Rattle.std.proofs.Math.Seq.{take-suc}
use Rattle.law_geometry.specs.sphere.Stars.{Ray as PlainRay}
use Rattle.nef_stopo.specs.declared.topology.Nearby.{Nearby}

and-append : (a : Bool) (xs ys : List Label) → a && (all_in xs && all_in ys) ≡ (a && all_in xs) && all_in ys
and-append true xs ys = refl
and-append false xs ys = refl

or-append : (a : Bool) (xs ys : List Label) → a || (some_in xs || some_in ys) ≡ (a || some_in xs) || some_in ys
or-append true xs ys = refl
or-append false xs ys = refl

pub all-append : (xs ys : List Label) → all_in (xs ++ ys) ≡ all_in xs && all_in ys
all-append [] ys = refl
all-append (x ∷ xs) ys = ap (λ (b : Bool). is_in x && b) (all-append xs ys) ∙ and-append (is_in x) xs ys

pub some-append : (xs ys : List Label) → some_in (xs ++ ys) ≡ some_in xs || some_in ys
some-append [] ys = refl
some-append (x ∷ xs) ys = ap (λ (b : Bool). is_in x || b) (some-append xs ys) ∙ or-append (is_in x) xs ys

abbrev pub both : Nearby → Nearby → Nearby
both m n = record { all = m.all && n.all; some = m.some || n.some }

pub both-append : (m n : Nearby) (xs ys : List Label) → m ≡ nearby_of xs → n ≡ nearby_of ys → both m n ≡ nearby_of (xs ++ ys)
both-append m n xs ys e f =
    ap (λ (x : Nearby). both x n) e ∙ ap (both (nearby_of xs)) f
    ∙ ap (λ (b : Bool). record { all = b; some = some_in xs || some_in ys }) (sym (all-append xs ys))
    ∙ ap (λ (b : Bool). record { all = all_in (xs ++ ys); some = b }) (sym (some-append xs ys))

pub both-as : (m n : Nearby) (a b : Bool) → a ≡ (m.all && n.all) → b ≡ (m.some || n.some) → (xs ys : List Label) → m ≡ nearby_of xs → n ≡ nearby_of ys → record { all = a; some = b } ≡ nearby_of (xs ++ ys)
both-as m n a b p q xs ys e f = ap (λ (x : Bool). record { all = x; some = b }) p ∙ ap (λ (x : Bool). record { all = m.all && n.all; some = x }) q ∙ both-append m n xs ys e f

-- a label by what is known of the labels close by is one by these labels
pub label-near : (k : Topology) (own l : Label) (n : Nearby) (ls : List Label) → l ≡ label_by k own n.all n.some → n ≡ nearby_of ls → l ≡ label_from k own ls
label-near k own l n ls e f = e ∙ ap (λ (x : Nearby). label_by k own x.all x.some) f

-- ---- one more element
pub gather-append : {A B : Type 0} (f : A → List B) (xs ys : List A) → gather f (xs ++ ys) ≡ gather f xs ++ gather f ys
gather-append f [] ys = refl
gather-append {A} {B} f (x ∷ xs) ys = ap (λ (l : List B). f x ++ l) (gather-append f xs ys) ∙ sym (append_assoc (f x) (gather f xs) (gather f ys))

pub gather-parts : {A B C : Type 0} (f : B → List C) (g : A → B) (xs ys : List A) → gather f (map g (xs ++ ys)) ≡ gather f (map g xs) ++ gather f (map g ys)
gather-parts {A} {B} {C} f g xs ys = ap (λ (l : List B). gather f l) (map-append g xs ys) ∙ gather-append f (map g xs) (map g ys)

pub marks-append : (xs ys : List Ray) → map ray_mark (map ray_of (xs ++ ys)) ≡ map ray_mark (map ray_of xs) ++ map ray_mark (map ray_of ys)
marks-append xs ys = ap (λ (l : List PlainRay). map ray_mark l) (map-append ray_of xs ys) ∙ map-append ray_mark (map ray_of xs) (map ray_of ys)

pub nearby-nil : (ls : List Label) → nearby_of ls ≡ nearby_of (ls ++ [])
nearby-nil ls = ap nearby_of (sym (append-nil ls))

-- h gives the labels of a list, part by part
module _ {A : Type 0} (h : List A → List Label) (parts : (xs ys : List A) → h (xs ++ ys) ≡ h xs ++ h ys) where
  pub labels-more : (xs : List A) (i : ℕ) (x : A) → i < length xs → x ≡ get_or xs i x → h (take (i + 1) xs) ≡ h (take i xs) ++ h (x ∷ [])
  labels-more xs i x within e =
      ap (λ (n : ℕ). h (take n xs)) (add-one i) ∙ ap h (take-suc xs i x within) ∙ ap (λ (y : A). h (take i xs ++ y ∷ [])) (sym e) ∙ parts (take i xs) (x ∷ [])

  pub nearby-more : (xs : List A) (i : ℕ) (x : A) (n : Nearby) → i < length xs → x ≡ get_or xs i x → n ≡ nearby_of (h (take i xs) ++ h (x ∷ [])) → n ≡ nearby_of (h (take (i + 1) xs))
  nearby-more xs i x n within e f = f ∙ ap nearby_of (sym (labels-more xs i x within e))

  pub nearby-all : (xs : List A) (i : ℕ) (n : Nearby) → length xs ≤ i → n ≡ nearby_of (h (take i xs)) → n ≡ nearby_of (h xs)
  nearby-all xs i n past f = f ∙ ap (λ (l : List A). nearby_of (h l)) (take_all i xs past)
