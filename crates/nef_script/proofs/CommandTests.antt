-- The tests of each command and its words, as they are read.
use Rattle.nef_script.proofs.Prelude.{◌≡◌, ℕ, Bool, true, false, ◌||◌, ◌&&◌, List, [], ◌∷◌, refl, sym, ◌∙◌, ap, normal_limit, offset_limit, query_limit, query_weight_limit, ray_direction_limit, ray_point_limit, ray_weight_limit, word_test, command_test, some_fails, no_room, roles_test, are_zero, is_normal, is_direction, ScriptKind, NewName, Operand, Coefficient, Mode, Weight, Index}
use Rattle.nef_script.specs.declared.arguments.Verb.TheVariants as verb
use Rattle.nef_script.proofs.Firsts.{or_none, swap, plain-roles, command-roles}
use Rattle.std.proofs.Math.Bool.{or_assoc}

and_comm : (a b : Bool) → (a && b) ≡ (b && a)
and_comm true true = refl
and_comm true false = refl
and_comm false true = refl
and_comm false false = refl

-- four and more
four_or : (a b c d r : Bool) → ((a || (b || (c || (d || false)))) || r) ≡ (a || (b || (c || (d || r))))
four_or true b c d r = refl
four_or false true c d r = refl
four_or false false true d r = refl
four_or false false false true r = refl
four_or false false false false r = refl

module _ (k : ScriptKind) (names : List (List ℕ)) where
  abbrev new : List ℕ → Bool
  new w = word_test k names (NewName, w)

  abbrev known : List ℕ → Bool
  known w = word_test k names (Operand, w)

  abbrev small : ℕ → List ℕ → Bool
  small m w = word_test k names (Coefficient m, w)

  abbrev weighs : ℕ → List ℕ → Bool
  weighs n w = word_test k names (Weight n, w)

  abbrev full : Bool
  full = no_room names k

  abbrev point : ℕ → ℕ → List ℕ → List ℕ → List ℕ → List ℕ → Bool
  point m n x y z w = some_fails names (Coefficient m ∷ Coefficient m ∷ Coefficient m ∷ Weight n ∷ []) (x ∷ y ∷ z ∷ w ∷ []) k

  pub of-alone : (w : List ℕ) → (new w || full) ≡ roles_test names (NewName ∷ []) (w ∷ []) k
  of-alone w = ap (λ o. o || full) (or_none (new w))

  pub of-unary : (w a : List ℕ) → ((new w || full) || known a) ≡ roles_test names (NewName ∷ Operand ∷ []) (w ∷ a ∷ []) k
  of-unary w a = swap (new w) full (known a) ∙ ap (λ o. (new w || o) || full) (or_none (known a))

  pub of-binary : (w a b : List ℕ) → ((new w || full) || (known a || known b)) ≡ roles_test names (NewName ∷ Operand ∷ Operand ∷ []) (w ∷ a ∷ b ∷ []) k
  of-binary w a b = swap (new w) full (known a || known b) ∙ ap (λ o. (new w || (known a || o)) || full) (or_none (known b))

  pub of-Turn : (w a t : List ℕ) → ((new w || full) || (known a || word_test k names (Index 47, t))) ≡ command_test k names verb.Turn (w ∷ a ∷ t ∷ [])
  of-Turn w a t = swap (new w) full (known a || word_test k names (Index 47, t)) ∙ ap (λ o. (new w || (known a || o)) || full) (or_none (word_test k names (Index 47, t))) ∙ plain-roles k names verb.Turn (w ∷ a ∷ t ∷ []) refl

  pub of-Half : (w a b c d m : List ℕ) → ((new w || full) || ((some_fails names (Coefficient normal_limit ∷ Coefficient normal_limit ∷ Coefficient normal_limit ∷ Coefficient offset_limit ∷ []) (a ∷ b ∷ c ∷ d ∷ []) k || (is_normal k && are_zero a b c)) || word_test k names (Mode, m))) ≡ command_test k names verb.Half (w ∷ a ∷ b ∷ c ∷ d ∷ m ∷ [])
  of-Half w a b c d m =
      let four = some_fails names (Coefficient normal_limit ∷ Coefficient normal_limit ∷ Coefficient normal_limit ∷ Coefficient offset_limit ∷ []) (a ∷ b ∷ c ∷ d ∷ []) k in
      let zeros = are_zero a b c && is_normal k in
      let mode = word_test k names (Mode, m) in
      let five = some_fails names (Coefficient normal_limit ∷ Coefficient normal_limit ∷ Coefficient normal_limit ∷ Coefficient offset_limit ∷ Mode ∷ []) (a ∷ b ∷ c ∷ d ∷ m ∷ []) k in
      ap (λ o. (new w || full) || ((four || o) || mode)) (and_comm (is_normal k) (are_zero a b c))
      ∙ ap (λ o. (new w || full) || o) (swap four zeros mode)
      ∙ ap (λ o. (new w || full) || (o || zeros)) (ap (λ o. four || o) (or_none mode) ∙ four_or (small normal_limit a) (small normal_limit b) (small normal_limit c) (small offset_limit d) (mode || false))
      ∙ swap (new w) full (five || zeros)
      ∙ ap (λ o. o || full) (sym (or_assoc (new w) five zeros))
      ∙ swap (new w || five) zeros full
      ∙ ap (λ o. ((new w || five) || full) || o) (or_none zeros)
      ∙ command-roles k names verb.Half (w ∷ a ∷ b ∷ c ∷ d ∷ m ∷ [])

  pub of-Has : (w x y z v : List ℕ) → (known w || point query_limit query_weight_limit x y z v) ≡ command_test k names verb.Has (w ∷ x ∷ y ∷ z ∷ v ∷ [])
  of-Has w x y z v = or_none (known w || point query_limit query_weight_limit x y z v) ∙ plain-roles k names verb.Has (w ∷ x ∷ y ∷ z ∷ v ∷ []) refl

  pub of-Joined : (w x y z v x2 y2 z2 v2 : List ℕ) → (known w || (point query_limit query_weight_limit x y z v || point query_limit query_weight_limit x2 y2 z2 v2)) ≡ command_test k names verb.Joined (w ∷ x ∷ y ∷ z ∷ v ∷ x2 ∷ y2 ∷ z2 ∷ v2 ∷ [])
  of-Joined w x y z v x2 y2 z2 v2 = ap (λ o. known w || o) (four_or (small query_limit x) (small query_limit y) (small query_limit z) (weighs query_weight_limit v) (point query_limit query_weight_limit x2 y2 z2 v2)) ∙ or_none _ ∙ plain-roles k names verb.Joined (w ∷ x ∷ y ∷ z ∷ v ∷ x2 ∷ y2 ∷ z2 ∷ v2 ∷ []) refl

  pub of-Ray : (w x y z v dx dy dz : List ℕ) → (known w || (point ray_point_limit ray_weight_limit x y z v || (some_fails names (Coefficient ray_direction_limit ∷ Coefficient ray_direction_limit ∷ Coefficient ray_direction_limit ∷ []) (dx ∷ dy ∷ dz ∷ []) k || (is_direction k && are_zero dx dy dz)))) ≡ command_test k names verb.Ray (w ∷ x ∷ y ∷ z ∷ v ∷ dx ∷ dy ∷ dz ∷ [])
  of-Ray w x y z v dx dy dz =
      let start = point ray_point_limit ray_weight_limit x y z v in
      let three = some_fails names (Coefficient ray_direction_limit ∷ Coefficient ray_direction_limit ∷ Coefficient ray_direction_limit ∷ []) (dx ∷ dy ∷ dz ∷ []) k in
      let zeros = are_zero dx dy dz && is_direction k in
      ap (λ o. known w || (start || (three || o))) (and_comm (is_direction k) (are_zero dx dy dz))
      ∙ ap (λ o. known w || o) (sym (or_assoc start three zeros) ∙ ap (λ o. o || zeros) (four_or (small ray_point_limit x) (small ray_point_limit y) (small ray_point_limit z) (weighs ray_weight_limit v) three))
      ∙ sym (or_assoc (known w) _ zeros)
      ∙ ap (λ o. o || zeros) (or_none _)
      ∙ command-roles k names verb.Ray (w ∷ x ∷ y ∷ z ∷ v ∷ dx ∷ dy ∷ dz ∷ [])

  pub of-Same : (a b : List ℕ) → (known a || known b) ≡ command_test k names verb.Same (a ∷ b ∷ [])
  of-Same a b = ap (λ o. known a || o) (or_none (known b)) ∙ or_none _ ∙ plain-roles k names verb.Same (a ∷ b ∷ []) refl

  pub of-Count : (a : List ℕ) → known a ≡ command_test k names verb.Count (a ∷ [])
  of-Count a = or_none (known a) ∙ or_none _ ∙ plain-roles k names verb.Count (a ∷ []) refl

  pub of-Print : (a : List ℕ) → known a ≡ command_test k names verb.Print (a ∷ [])
  of-Print a = or_none (known a) ∙ or_none _ ∙ plain-roles k names verb.Print (a ∷ []) refl
