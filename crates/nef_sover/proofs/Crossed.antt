-- The axes of an overlay are the svertices and the meets of items.
use Rattle.nef_sover.proofs.Prelude.{List, [], Some, None, arith, refl, sym, subst, inl, inr, ◌⊎◌, Contains, Vector, IsDirection, SameDirection, cross, vector_of, Dir, Map, items, item_normal, IsItemCrossing, IsAxis, Axis, Track, track_normal, track_number, IsTrackOf, AreTracks, CrossedItems, AddsAxes, HasDirection, HasEachOf, AxesAreInOrder, AreAxes, IsOnSvertex, CrossesAt, MeetsSome}
use Rattle.nef_sover.proofs.Places.{zip-first, zip-second}
use Rattle.nef_sover.proofs.Adding.{IsNewAxis, adds-both}

module _ (A B : Map) (xs ys : List Track) (I : AreTracks A xs) (J : AreTracks B ys) where
  meet-crossing : (c : CrossedItems) (d : Vector) → MeetsSome xs ys c d → IsItemCrossing A B d
  meet-crossing c d (i, x, a, m) =
      let p = zip-second (IsTrackOf A) xs (items A) i x I a in
      let q = zip-second (IsTrackOf B) ys (items B) m.0 m.1 J m.2 in
      let b = m.3 in let o = b.0 in record {
        i = i;
        k = m.0;
        x = p.0;
        y = q.0;
        of_a = p.1;
        of_b = q.1;
        apart = subst (λ (v : Vector). IsDirection (cross (item_normal p.0) v)) q.2.normal (subst (λ (v : Vector). IsDirection (cross v (track_normal m.1))) p.2.normal b.1);
        on_x = (p.2.on d).0 o.0;
        on_y = (q.2.on d).0 o.1;
      }

  -- the items that are named cross there
  meet-placed : (c : CrossedItems) (d : Vector) → MeetsSome xs ys c d → CrossesAt A B c d
  meet-placed c d (i, x, a, m) =
      let p = zip-second (IsTrackOf A) xs (items A) i x I a in
      let q = zip-second (IsTrackOf B) ys (items B) m.0 m.1 J m.2 in
      let b = m.3 in let o = b.0 in
      subst (λ (e : CrossedItems). CrossesAt A B e d) (sym b.2) (record {
        x = p.0;
        y = q.0;
        of_a = p.2.number;
        of_b = q.2.number;
        apart = subst (λ (v : Vector). IsDirection (cross (item_normal p.0) v)) q.2.normal (subst (λ (v : Vector). IsDirection (cross v (track_normal m.1))) p.2.normal b.1);
        on_x = (p.2.on d).0 o.0;
        on_y = (q.2.on d).0 o.1;
      })

  crossing-meet : (d : Vector) → IsItemCrossing A B d → (c : CrossedItems) × MeetsSome xs ys c d
  crossing-meet d c =
      let p = zip-first (IsTrackOf A) xs (items A) c.i c.x I c.of_a in
      let q = zip-first (IsTrackOf B) ys (items B) c.k c.y J c.of_b in
      let apart = subst (λ (v : Vector). IsDirection (cross (track_normal p.0) v)) (sym q.2.normal) (subst (λ (v : Vector). IsDirection (cross v (item_normal c.y))) (sym p.2.normal) c.apart) in
      (Some (track_number p.0, track_number q.0), (c.i, p.0, p.1, (c.k, q.0, q.1, (((p.2.on d).1 c.on_x, (q.2.on d).1 c.on_y), apart, refl))))

  -- a svertex, or a direction in which two items meet, which are named
  abbrev pub IsFound : CrossedItems → Vector → Type 0
  IsFound c d = (IsOnSvertex A c d ⊎ IsOnSvertex B c d) ⊎ MeetsSome xs ys c d

  pub all-found : (ds es fs gs : List Axis) → AddsAxes (IsOnSvertex A) ds es → AddsAxes (IsOnSvertex B) es fs → AddsAxes (MeetsSome xs ys) fs gs → AddsAxes IsFound ds gs
  all-found ds es fs gs a b m =
      let OnEither : CrossedItems → Vector → Type 0 = λ c d. IsOnSvertex A c d ⊎ IsOnSvertex B c d in
      adds-both OnEither (MeetsSome xs ys) IsFound ds fs gs (adds-both (IsOnSvertex A) (IsOnSvertex B) OnEither ds es fs a b (λ c d h. h) (λ c d h. h)) m (λ c d h. h) (λ c d h. h)

  found-axis : (c : CrossedItems) (d : Vector) → IsFound c d → IsAxis A B d
  found-axis c d (inl (inl h)) = inl h.0
  found-axis c d (inl (inr h)) = inr (inl h.0)
  found-axis c d (inr h) = inr (inr (meet-crossing c d h))

  found-placed : (c : CrossedItems) (d : Vector) → IsFound c d → CrossesAt A B c d
  found-placed c d (inl (inl h)) = subst (λ (e : CrossedItems). CrossesAt A B e d) (sym h.1) tt
  found-placed c d (inl (inr h)) = subst (λ (e : CrossedItems). CrossesAt A B e d) (sym h.1) tt
  found-placed c d (inr h) = meet-placed c d h

  axis-found : (d : Vector) → IsAxis A B d → (c : CrossedItems) × IsFound c d
  axis-found d (inl h) = (None, inl (inl (h, refl)))
  axis-found d (inr (inl h)) = (None, inl (inr (h, refl)))
  axis-found d (inr (inr h)) = let m = crossing-meet d h in (m.0, inr m.1)

  pub axes-are : (gs hs : List Axis) → AddsAxes IsFound [] gs → AxesAreInOrder hs → HasEachOf gs hs → AreAxes A B hs
  axes-are gs hs a o s = record {
    ordered = o;
    small = λ e h. let p = new e (a.added e (s.among e h)) in p.1;
    axis = λ e h. let p = new e (a.added e (s.among e h)) in found-axis e.crossed (vector_of e.dir) p.0;
    all = λ d x. let f = axis-found d x in still d (a.all f.0 d f.1);
    placed = λ e h. let p = new e (a.added e (s.among e h)) in found-placed e.crossed (vector_of e.dir) p.0;
  }
    where
      new : (e : Axis) → Contains [] e ⊎ IsNewAxis IsFound e → IsNewAxis IsFound e
      new e (inl (k, h, q)) = absurd (omega (arith, h))
      new e (inr p) = p

      still : (d : Vector) → HasDirection gs d → HasDirection hs d
      still d (e, h, w) = let f = s.each e h in (f.0, f.1, subst (λ (v : Dir). SameDirection (vector_of v) d) (sym f.2) w)
