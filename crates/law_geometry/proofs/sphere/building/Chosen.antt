-- A label for each direction, chosen from a labelling.
use Rattle.law_geometry.proofs.sphere.building.Prelude.{inl, inr, List, ◌++◌, Vector, IsDirection, IsZero, Label, Decided, Map, MapLabel, Valid, forms, Labelling, ByOp, label-exists, label-unique, label-by_signs, op-labelling, IsLabelling, MapLabelling, OpLabelling, zero-decided}

module _ (gs : List Vector) (F : Vector → Label → Type 0) (N : Labelling gs F) where
  -- for a vector that is no direction any label
  abbrev pub choose : (d : Vector) → Decided (IsZero d) → Label
  choose d (inl z) = Label.Not
  choose d (inr h) = (N.exists d h).0

  abbrev pub chosen : Vector → Label
  chosen d = choose d (zero-decided d)

  pub chosen-is : (d : Vector) → IsDirection d → F d (chosen d)
  chosen-is d h = by (zero-decided d)
    where
      by : (z : Decided (IsZero d)) → F d (choose d z)
      by (inl z) = absurd (h z)
      by (inr f) = (N.exists d f).1

  pub chosen-labelling : IsLabelling gs chosen
  chosen-labelling d e hd he s = N.one e (chosen d) (chosen e) he (N.cells d e (chosen d) hd he s (chosen-is d hd)) (chosen-is e he)

-- the labels of a valid map are a labelling
pub map-labels : (M : Map) → Valid M → Labelling (forms M) (MapLabel M)
map-labels M V = record {
  exists = λ d h. label-exists M V d h;
  one = λ d m n h a b. label-unique M V d m n a b;
  cells = λ d e m hd he s a. label-by_signs M V d e s m a;
}

pub map-labelling : MapLabelling
map-labelling M V = let N = map-labels M V in (chosen (forms M) (MapLabel M) N, chosen-labelling (forms M) (MapLabel M) N, chosen-is (forms M) (MapLabel M) N)

pub op-labels : OpLabelling
op-labels A B op V W =
    let N = op-labelling A B op V W in
    let gs = forms A ++ forms B in
    (chosen gs (ByOp A B op) N, chosen-labelling gs (ByOp A B op) N, chosen-is gs (ByOp A B op) N)
