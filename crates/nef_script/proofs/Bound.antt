-- The map of the bound names.
use Rattle.nef_script.proofs.Prelude.{◌≡◌, ℕ, cond, List, [], ◌∷◌, ◌++◌, length, Some, None, ap, sym, ◌∙◌, subst, inl, inr, position, nat_cmp, bytes_eq, BTreeMap, cases_Bool, HasNumbers}
use Rattle.std.specs.Bool.{Decides, one_answer}
use Rattle.std.specs.Cmp.Lexicographic.{slice_cmp}
use Rattle.std.specs.BTreeMap as tree
use Rattle.std.specs.BTreeMap.{get_by}
use Rattle.std.proofs.lemmas.Map.Text.{btree_map_updates_str}
use Rattle.std.proofs.lemmas.Slice.Eq.{bytes_eq-Decides}
use denote.Ref.{Bor}
use Rattle.nef_script.proofs.Positions.{position-push_new, position-push_other}

pub bytes_eq-flip : (a b : List ℕ) → bytes_eq a b ≡ bytes_eq b a
bytes_eq-flip a b = one_answer (bytes_eq a b) (bytes_eq b a) (bytes_eq-Decides a b) (flipped (bytes_eq-Decides b a))
  where
    flipped : Decides (bytes_eq b a) (b ≡ a) → Decides (bytes_eq b a) (a ≡ b)
    flipped d = (λ t. sym (d.0 t), λ e. d.1 (sym e))

-- one more name, at the next place
pub HasNumbers-push : (m n : BTreeMap (Bor (List ℕ)) ℕ) (names : List (List ℕ)) (name : List ℕ) (place : ℕ) → tree.UpdatesBy (λ x y. slice_cmp nat_cmp x.now y.now) (λ k. slice_cmp nat_cmp name k.now) m n (Some place) → place ≡ length names → HasNumbers m names → position (bytes_eq name) names ≡ None → HasNumbers n (names ++ name ∷ [])
HasNumbers-push m n names name place changed is places new q = btree_map_updates_str name m n (Some place) changed q ∙ elim (cases_Bool (bytes_eq name q)) [
  | inl same ↦ (
      let equal : name ≡ q = (bytes_eq-Decides name q).0 same in
      let unknown : position (bytes_eq q) names ≡ None = subst (λ x. position (bytes_eq x) names ≡ None) equal new in
      ap (λ t. cond t (Some place) (get_by (λ k. slice_cmp nat_cmp q k.now) m)) same
      ∙ ap Some is
      ∙ sym (position-push_new (bytes_eq q) names name unknown ∙ ap (λ t. cond t (Some (length names)) None) (bytes_eq-flip q name ∙ same)))
  | inr other ↦
      ap (λ t. cond t (Some place) (get_by (λ k. slice_cmp nat_cmp q k.now) m)) other
      ∙ places q
      ∙ sym (position-push_other (bytes_eq q) names name (bytes_eq-flip q name ∙ other))
]
