-- What is proved of overlays and of building: each law is one statement that a function's contract cites.
use Rattle.std.specs.Prelude.{◌++◌}
use Rattle.nef_space.specs.Prelude.{List, Vector, IsDirection}
use Rattle.nef_space.specs.declared.label.Label.{Label}
use Rattle.law_geometry.specs.sphere.Prelude.{Map, MapLabel, Valid, forms, Least, Ordered, ByOp}
use Rattle.law_geometry.specs.sphere.Builds.{IsBuilt, NoneSmooth}
use Rattle.law_geometry.specs.sphere.Raw.{RawMap, Of, IsLabelling, IsRawOf}
use Rattle.law_geometry.specs.sphere.building.Overlays.{Raw}
use Rattle.law_geometry.specs.sphere.building.From.{IsKeptRaw, AreSimplified, IsBuiltFrom}

-- a map that is built of a labelling is valid and least, and has the labelling's labels
abbrev pub LabelsBuild : Type 0
LabelsBuild = (gs : List Vector) (L : Vector → Label) (M : Map) → IsLabelling gs L → IsBuilt M (Of L) → NoneSmooth M (Of L)
    → Valid M × Least M × ((d : Vector) → IsDirection d → MapLabel M d (L d))

-- stars that kept their labels show the labels that they showed before
abbrev pub KeptShow : Type 0
KeptShow = (R Q : RawMap) (L : Vector → Label) → IsRawOf R L → IsKeptRaw R Q → IsRawOf Q L

-- a map made of the simplified stars of a labelling is the ordered least map with the labelling's labels
abbrev pub FromStars : Type 0
FromStars = (gs : List Vector) (L : Vector → Label) (R : RawMap) (M : Map) → IsLabelling gs L → IsRawOf R L → AreSimplified R.stars → IsBuiltFrom R M
    → Valid M × Least M × Ordered M × ((d : Vector) → IsDirection d → MapLabel M d (L d))

-- the labels of a valid map are a labelling, and so is op of the labels of two valid maps
abbrev pub MapLabelling : Type 0
MapLabelling = (M : Map) → Valid M → (L : Vector → Label) × IsLabelling (forms M) L × ((d : Vector) → IsDirection d → MapLabel M d (L d))

abbrev pub OpLabelling : Type 0
OpLabelling = (A B : Map) (op : Label → Label → Label) → Valid A → Valid B
    → (L : Vector → Label) × IsLabelling (forms A ++ forms B) L × ((d : Vector) → IsDirection d → ByOp A B op d (L d))

-- the overlaid stars of two maps show op of the two maps' labels
abbrev pub RawShowsOp : Type 0
RawShowsOp = (A B : Map) (op : Label → Label → Label) (R : RawMap) (L : Vector → Label) → Valid A → Valid B → Raw R A B op
    → ((d : Vector) → IsDirection d → ByOp A B op d (L d)) → IsRawOf R L
