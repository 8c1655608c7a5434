-- A list whose elements are written over one after another, as seen through their views.
use Rattle.nef_stopo.proofs.Prelude.{◌≡◌, ℕ, ◌+◌, ◌<◌, ◌≤◌, List, ◌++◌, map, take, drop, length, get_or, slice_set, length-set, sym, ap, subst, ◌∙◌, get_or-map, map-set, length-map, take_all, drop_all, append-nil}
use Rattle.std.proofs.lemmas.List.Edits.{map_over_more}

-- the first n of the views are f of what they were, and the others are as they were
pub record AreWritten {A B : Type 0} (view : A → B) (f : B → B) (n : ℕ) (xs ys : List A) : Type 0 where
  pub as_many : length ys ≡ length xs
  pub views : map view ys ≡ map f (take n (map view xs)) ++ drop n (map view xs)

pub written-none : {A B : Type 0} (view : A → B) (f : B → B) (xs ys : List A) → ys ≡ xs → AreWritten view f 0 xs ys
written-none view f xs ys e = record { as_many = ap length e; views = ap (map view) e }

pub written-more : {A B : Type 0} (view : A → B) (f : B → B) (n : ℕ) (xs ys : List A) (y d : A) → n < length ys → AreWritten view f n xs ys → view y ≡ f (view (get_or ys n d)) → AreWritten view f (n + 1) xs (slice_set ys n y)
written-more {A} {B} view f n xs ys y d within w e =
    let x : B = view (get_or ys n d) in
    let ws : List B = map view xs in
    record {
      as_many = length-set ys n y ∙ w.as_many;
      views =
          map-set view ys n y
          ∙ ap (λ (b : B). slice_set (map view ys) n b) e
          ∙ map_over_more f ws (map view ys) n x (subst (λ (k : ℕ). n < k) (w.as_many ∙ sym (length-map xs view)) within) w.views (sym (get_or-map view ys n d x within));
    }

pub written-all : {A B : Type 0} (view : A → B) (f : B → B) (n : ℕ) (xs ys : List A) → length ys ≤ n → AreWritten view f n xs ys → map view ys ≡ map f (map view xs)
written-all {A} {B} view f n xs ys past w =
    let ws : List B = map view xs in
    let all : length ws ≤ n = subst (λ (k : ℕ). k ≤ n) (w.as_many ∙ sym (length-map xs view)) past in
    w.views ∙ ap (λ (l : List B). map f l ++ drop n ws) (take_all n ws all) ∙ ap (λ (l : List B). map f ws ++ l) (drop_all n ws all) ∙ append-nil (map f ws)
