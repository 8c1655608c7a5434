-- The program's items as items of any size, and items by their normals.
use Rattle.nef_space.specs.Prelude.{ℕ, Vector, SameDirection, IsAt}
use Rattle.law_geometry.specs.sphere.Maps.{Item as PlainItem, arc_item, sloop_item, Map, items, item_normal, OnItem}
use Rattle.nef_smap.specs.declared.item.Item.{Item}
use Rattle.nef_smap.specs.declared.item.Item.TheVariants as item
use Rattle.nef_smap.specs.Maps.{arc_of, sloop_of}

abbrev pub item_of : Item → PlainItem
item_of (item.Arc a) = arc_item (arc_of a)
item_of (item.Loop l) = sloop_item (sloop_of l)

-- d lies on item k, which has the normal n
abbrev pub IsItemThrough : Map → Vector → Vector → ℕ → Type 0
IsItemThrough M n d k = (x : PlainItem) × IsAt (items M) k x × SameDirection (item_normal x) n × OnItem M x d
