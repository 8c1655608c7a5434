-- The item that a way meets first, of the first n items of the program's map.
use Rattle.nef_smap.proofs.Prelude.{◌≡◌, ℕ, ◌+◌, ◌^◌, ℤ, pos, ◌*ℤ◌, ◌<ℤ◌, sym, ap, ◌∙◌, subst, Bool, ◌↔◌, dot, IsAt, Item, items, item_normal, Values, SphereMap, SpherePath, linear_at, turn_value, AreAtMost, IsLarge, map_of, start_at, end_at, AreValues, way_meet, IsMetOnWay, IsFair, IsFirstMet}
use Rattle.std.specs.Bool.{IsTrue}
use Rattle.nef_smap.proofs.MeetSigns.{start-value, meet-value}
use Rattle.nef_smap.proofs.MeetTests.{first-begins, first-stays, first-changes}

-- item k, with the values v, is met first
pub record FirstSoFar (m : SphereMap) (w : SpherePath) (n k : ℕ) (v : Values) : Type 0 where
  pub item : Item
  pub listed : IsAt (items (map_of m)) k item
  pub values : AreValues w (item_normal item) v
  pub small : AreAtMost (2 ^ 50) v
  pub first : (i j : ℕ) → IsLarge i j → IsFair (map_of m) (start_at w i) (end_at w j) → IsFirstMet (map_of m) (start_at w i) (end_at w j) n item

pub so_far-begins : (m : SphereMap) (w : SpherePath) (x : Item) (v : Values) → IsAt (items (map_of m)) 0 x → AreValues w (item_normal x) v → AreAtMost (2 ^ 50) v → FirstSoFar m w 1 0 v
so_far-begins m w x v h a s = record { item = x; listed = h; values = a; small = s; first = λ i j large fair. first-begins (map_of m) (start_at w i) (end_at w j) fair x h }

module _ (m : SphereMap) (w : SpherePath) (n k : ℕ) (v u : Values) (f : FirstSoFar m w n k v) (y : Item) (h : IsAt (items (map_of m)) n y) (a : AreValues w (item_normal y) u) where
  -- the test whether y is met before
  before-is : (i j : ℕ) → linear_at v.start i *ℤ (linear_at u.start i *ℤ turn_value u v i j) ≡ dot (item_normal f.item) (start_at w i) *ℤ dot (item_normal f.item) (way_meet (item_normal y) (start_at w i) (end_at w j))
  before-is i j =
      ap (λ (x : ℤ). x *ℤ (linear_at u.start i *ℤ turn_value u v i j)) (start-value w (item_normal f.item) v i f.values)
      ∙ ap (λ (x : ℤ). dot (item_normal f.item) (start_at w i) *ℤ x) (meet-value w (item_normal y) (item_normal f.item) u v i j a f.values)

  pub so_far-stays : (p q : Bool) → ((i j : ℕ) → IsLarge i j → IsTrue p ↔ (pos 0 <ℤ (linear_at v.start i *ℤ (linear_at u.start i *ℤ turn_value u v i j))))
      → (IsTrue p → (i j : ℕ) → IsLarge i j → IsFair (map_of m) (start_at w i) (end_at w j) → IsTrue q ↔ IsMetOnWay (map_of m) (start_at w i) (end_at w j) y)
      → (IsTrue p → IsTrue q → ⊥) → FirstSoFar m w (n + 1) k v
  so_far-stays p q before met none = record {
    item = f.item;
    listed = f.listed;
    values = f.values;
    small = f.small;
    first = λ i j large fair. first-stays (map_of m) (start_at w i) (end_at w j) fair n f.item y (f.first i j large fair) h
        (λ t s. let e = (before i j large).1 (subst (λ (x : ℤ). pos 0 <ℤ x) (sym (before-is i j)) s) in none e ((met e i j large fair).1 t));
  }

  pub so_far-changes : AreAtMost (2 ^ 50) u → ((i j : ℕ) → IsLarge i j → pos 0 <ℤ (linear_at v.start i *ℤ (linear_at u.start i *ℤ turn_value u v i j)))
      → ((i j : ℕ) → IsLarge i j → IsFair (map_of m) (start_at w i) (end_at w j) → IsMetOnWay (map_of m) (start_at w i) (end_at w j) y) → FirstSoFar m w (n + 1) n u
  so_far-changes s before met = record {
    item = y;
    listed = h;
    values = a;
    small = s;
    first = λ i j large fair. first-changes (map_of m) (start_at w i) (end_at w j) fair n f.item y (f.first i j large fair) h (met i j large fair) (subst (λ (x : ℤ). pos 0 <ℤ x) (before-is i j) (before i j large));
  }
