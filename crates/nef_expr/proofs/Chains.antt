-- Turned images of turned images: nodes that are added leave them, and the turns compose.
use Rattle.nef_expr.proofs.Prelude.{◌≡◌, ℕ, zero, suc, ◌<◌, List, ◌++◌, length, get_or, refl, ap, sym, ◌∙◌, subst, arith, slice_get_within, slice_get-get_or, Set, IsComposition, turned_set, Node, Shape, shape_of, UsesBelow, IsOrdered, IsNode, HasShape, TurnOf, of_leaf, of_unary, of_binary}
use Rattle.nef_expr.specs.declared.nodes.Node.TheVariants as node
use Rattle.nef_expr.proofs.Places.{slice_get-left, one-there}
use Rattle.nef_expr.proofs.Turns.{shape-turnable}

-- ---- more nodes
module _ (ns ms : List Node) (t : ℕ) where
  stays : (k : ℕ) (s : Shape) → HasShape ns k s → HasShape (ns ++ ms) k s
  stays k s (n, at, e) = (n, slice_get-left ns ms k n at, e)

  pub turn_of-more : (k l : ℕ) → TurnOf ns t k l → TurnOf (ns ++ ms) t k l
  turn_of-more _ _ (of_leaf k l s is is') = of_leaf k l s (stays k _ is) (stays l _ is')
  turn_of-more _ _ (of_unary k l i i' make is is' a) = of_unary k l i i' make (stays k _ is) (stays l _ is') (turn_of-more i i' a)
  turn_of-more _ _ (of_binary k l i j i' j' make is is' a b) = of_binary k l i j i' j' make (stays k _ is) (stays l _ is') (turn_of-more i i' a) (turn_of-more j j' b)

module _ (ns : List Node) where
  -- ---- images of nodes
  -- the shape u is the turned image of the shape s
  abbrev pub Image : ℕ → Shape → Shape → Type 0
  Image t (Shape.leaf s) u = u ≡ Shape.leaf (turned_set t s)
  Image t (Shape.unary make i) u = (i' : ℕ) × (u ≡ Shape.unary make i') × TurnOf ns t i i'
  Image t (Shape.binary make i j) u = (i' : ℕ) × (j' : ℕ) × (u ≡ Shape.binary make i' j') × TurnOf ns t i i' × TurnOf ns t j j'

  pub image-turn : (t k l : ℕ) (s u : Shape) → HasShape ns k s → HasShape ns l u → Image t s u → TurnOf ns t k l
  image-turn t k l (Shape.leaf s) u is at e = of_leaf k l s is (subst (HasShape ns l) e at)
  image-turn t k l (Shape.unary make i) u is at (i', e, a) = of_unary k l i i' make is (subst (HasShape ns l) e at) a
  image-turn t k l (Shape.binary make i j) u is at (i', j', e, a, b) = of_binary k l i j i' j' make is (subst (HasShape ns l) e at) a b

  -- at both numbers stand nodes, and the second is the first one's image
  pub record Pair (t k l : ℕ) : Type 0 where
    pub s : Shape
    pub u : Shape
    pub s_is : HasShape ns k s
    pub u_is : HasShape ns l u
    pub image : Image t s u

  pub pair-of : (t k l : ℕ) → TurnOf ns t k l → Pair t k l
  pair-of t _ _ (of_leaf k l s is is') = record { s = Shape.leaf s; u = Shape.leaf (turned_set t s); s_is = is; u_is = is'; image = refl }
  pair-of t _ _ (of_unary k l i i' make is is' a) = record { s = Shape.unary make i; u = Shape.unary make i'; s_is = is; u_is = is'; image = (i', refl, a) }
  pair-of t _ _ (of_binary k l i j i' j' make is is' a b) = record { s = Shape.binary make i j; u = Shape.binary make i' j'; s_is = is; u_is = is'; image = (i', j', refl, a, b) }

  -- both numbers are those of nodes
  pub turn-within : (t k l : ℕ) → TurnOf ns t k l → (k < length ns) × (l < length ns)
  turn-within t k l turn = let p = pair-of t k l turn in let (n, at, e) = p.s_is in let (m, here, f) = p.u_is in (slice_get_within ns k n at, slice_get_within ns l m here)

  one-shape : (s u : Shape) (k : ℕ) → HasShape ns k s → HasShape ns k u → s ≡ u
  one-shape s u k (n, a, e) (m, b, f) = sym e ∙ ap shape_of (one-there ns k n m a b) ∙ f

  -- the image of the node that stands at the first number
  image-at : (t k l : ℕ) (s : Shape) → HasShape ns k s → TurnOf ns t k l → (u : Shape) × HasShape ns l u × Image t s u
  image-at t k l s is turn = let p = pair-of t k l turn in (p.u, p.u_is, subst (λ (x : Shape). Image t x p.u) (one-shape p.s s k p.s_is is) p.image)

  -- ---- first j, then t is i
  module _ (i j t : ℕ) (composed : IsComposition i t j) where
    leaf-twice : (k : ℕ) (s : Set) → HasShape ns k (Shape.leaf s) → Shape.leaf (turned_set i s) ≡ Shape.leaf (turned_set t (turned_set j s))
    leaf-twice k s is = ap Shape.leaf ((shape-turnable ns k (Shape.leaf s) is).1 i j t composed)

    pub turn-twice : (b k n : ℕ) → TurnOf ns j b k → TurnOf ns t k n → TurnOf ns i b n
    turn-twice _ _ n (of_leaf b k s is is') turn = let (u, at, f) = image-at t k n (Shape.leaf (turned_set j s)) is' turn in image-turn i b n (Shape.leaf s) u is at (f ∙ sym (leaf-twice b s is))
    turn-twice _ _ n (of_unary b k x x' make is is' p) turn = let (u, at, (v, f, r)) = image-at t k n (Shape.unary make x') is' turn in image-turn i b n (Shape.unary make x) u is at (v, f, turn-twice x x' v p r)
    turn-twice _ _ n (of_binary b k x y x' y' make is is' p q) turn = let (u, at, (v, w, f, r, s)) = image-at t k n (Shape.binary make x' y') is' turn in image-turn i b n (Shape.binary make x y) u is at (v, w, f, turn-twice x x' v p r, turn-twice y y' w q s)

    -- two images of one node: the second is the first one's image
    pub turn-between : (b k n : ℕ) → TurnOf ns j b k → TurnOf ns i b n → TurnOf ns t k n
    turn-between _ _ n (of_leaf b k s is is') turn = let (u, at, f) = image-at i b n (Shape.leaf s) is turn in image-turn t k n (Shape.leaf (turned_set j s)) u is' at (f ∙ leaf-twice b s is)
    turn-between _ _ n (of_unary b k x x' make is is' p) turn = let (u, at, (v, f, r)) = image-at i b n (Shape.unary make x) is turn in image-turn t k n (Shape.unary make x') u is' at (v, f, turn-between x x' v p r)
    turn-between _ _ n (of_binary b k x y x' y' make is is' p q) turn = let (u, at, (v, w, f, r, s)) = image-at i b n (Shape.binary make x y) is turn in image-turn t k n (Shape.binary make x' y') u is' at (v, w, f, turn-between x x' v p r, turn-between y y' w q s)

-- ---- the turn 0
module _ (ns : List Node) (ordered : IsOrdered ns) where
  -- a node is its own image under it
  below : (f : ℕ) → ((i : ℕ) (s : Shape) → i < f → HasShape ns i s → TurnOf ns 0 i i) → (i k : ℕ) (s : Shape) → k < suc f → i < k → HasShape ns k s → TurnOf ns 0 i i
  below f own i k s l b (n, at, e) =
      let m = get_or ns i node.Empty in
      own i (shape_of m) (omega (arith, l, b)) (m, slice_get-get_or ns i node.Empty (omega (arith, b, slice_get_within ns k n at)), refl)

  uses : (k : ℕ) (s : Shape) → HasShape ns k s → UsesBelow k s
  uses k s (n, at, e) = subst (UsesBelow k) e (ordered k n at)

  own-within : (f k : ℕ) (s : Shape) → k < f → HasShape ns k s → TurnOf ns 0 k k
  own-within zero k s l is = absurd (omega (arith, l))
  own-within (suc f) k (Shape.leaf s) l is = of_leaf k k s is (subst (HasShape ns k) (ap Shape.leaf (sym (shape-turnable ns k (Shape.leaf s) is).0)) is)
  own-within (suc f) k (Shape.unary make i) l is = of_unary k k i i make is is (below f (own-within f) i k (Shape.unary make i) l (uses k (Shape.unary make i) is) is)
  own-within (suc f) k (Shape.binary make i j) l is = let b = uses k (Shape.binary make i j) is in of_binary k k i j i j make is is (below f (own-within f) i k (Shape.binary make i j) l b.0 is) (below f (own-within f) j k (Shape.binary make i j) l b.1 is)

  pub own-image : (k : ℕ) (n : Node) → IsNode ns k n → TurnOf ns 0 k k
  own-image k n is = own-within (suc k) k (shape_of n) (omega arith) (n, is, refl)
