-- The arcs that leave stars, one ray after another.
use Rattle.nef_spair.proofs.Prelude.{◌≡◌, ℕ, zero, suc, ◌+◌, ◌<◌, ◌≤◌, List, [], ◌∷◌, ◌++◌, length, map, get_or, true, Bool, cond, arith, sym, ap, subst, ◌∙◌, inl, inr, ◌⊎◌, eq-or-lt_of_le, length-map, normal_limit, opposite, IsAtMost, SameDirection, Label, Out, vector_of, Dir, IsAt, Arc as PlainArc, Follows, is-at_one, IsArcFrom, IsFirstAfter, Ray, Star, ray_of, star_of, left_of, left_at, IsRay, BeginsAnywhere, IsNext, three-ways, count-some, SArc, arc_of, map-is_at, is-at_within, is-at_get, IsEarlierRay, LeavesAlong, IsTwin, AreApart, AreArcs, SameDirection-turned, dir-self}
use Rattle.nef_smap.proofs.WellFormed.{left-at}
use Rattle.nef_spair.proofs.Places.{all-at}
use Rattle.nef_space.proofs.Lists.{is-at_last, is-at_left, is-at_more}

-- ---- one arc
pub as-many-sectors : (t : Star) → BeginsAnywhere t → (k : ℕ) (r : Ray) → IsAt t.rays.items k r → length t.sectors.items ≡ length t.rays.items
as-many-sectors t T k r h = T.sectors ∙ count-some t.rays.items (let w = is-at_within t.rays.items k r h in omega (arith, w))

pub ray-leaves : (t : Star) → BeginsAnywhere t → (k : ℕ) (r : Ray) → IsAt t.rays.items k r → IsRay (vector_of t.axis) r
ray-leaves t T k r h = all-at (IsRay (vector_of t.axis)) t.rays.items T.rays k r h

module _ (kept : List Star) (a : PlainArc) (t : Star) (r : Ray) (number before : ℕ) (T : BeginsAnywhere t) (star : IsAt kept a.source t) (ray : IsAt t.rays.items number r) (ahead : r.ahead ≡ true)
    (normal : a.normal ≡ vector_of r.normal) (mark : a.mark ≡ r.mark) (above : a.pos ≡ get_or t.sectors.items number Out) (below : a.neg ≡ get_or t.sectors.items before Out)
    (follows : IsNext (length t.sectors.items) before number) (target : IsFirstAfter (map star_of kept) a.normal (star_of t) a.target) where
  sectors : length t.sectors.items ≡ length t.rays.items
  sectors = as-many-sectors t T number r ray

  within : number < length t.rays.items
  within = is-at_within t.rays.items number r ray

  label : (k : ℕ) (l : Label) → k < length t.sectors.items → l ≡ get_or t.sectors.items k Out → IsAt t.sectors.items k l
  label k l h e = subst (IsAt t.sectors.items k) (sym e) (is-at_get t.sectors.items k Out h)

  before_within : before < length t.sectors.items
  before_within = elim follows [ inl e ↦ omega (arith, e.0, within, sectors) | inr e ↦ omega (arith, e.0) ]

  follow : Follows (map ray_of t.rays.items) before number
  follow = elim follows [
    | inl e ↦ inl (omega (arith, e.0))
    | inr e ↦ let n = length-map t.rays.items ray_of in inr (omega (arith, e.0, n, sectors), e.1)
  ]

  pub arc-from : IsArcFrom (map star_of kept) a
  arc-from = record {
    star = star_of t;
    ray = ray_of r;
    before = before;
    number = number;
    has_star = map-is_at star_of kept a.source t star;
    has_ray = map-is_at ray_of t.rays.items number r ray;
    ahead = ahead;
    normal = normal;
    mark = mark;
    pos = label number a.pos (omega (arith, within, sectors)) above;
    follows = follow;
    neg = label before a.neg before_within below;
    target = target;
  }

-- ---- two rays of a star leave in different directions
module _ (t : Star) (T : BeginsAnywhere t) where
  later-differs : (i k : ℕ) → i < k → k < length t.rays.items → SameDirection (left_at t.rays.items k) (left_at t.rays.items i) → ⊥
  later-differs zero k h l s = T.counterclockwise.apart k h l (SameDirection-turned (left_at t.rays.items k) (left_at t.rays.items 0) s)
  later-differs (suc i) k h l s = let p = T.counterclockwise.rising (suc i) k (omega arith) h l in p.not_target s

  left-ahead : (r : Ray) → r.ahead ≡ true → left_of r ≡ vector_of r.normal
  left-ahead r e = ap (λ (b : Bool). cond b (vector_of r.normal) (opposite (vector_of r.normal))) e

  same-left : (i k : ℕ) (q r : Ray) → IsAt t.rays.items i q → IsAt t.rays.items k r → q.ahead ≡ true → r.ahead ≡ true → q.normal ≡ r.normal → SameDirection (left_at t.rays.items k) (left_at t.rays.items i)
  same-left i k q r a b qa ra e =
      let li = left-at t.rays.items i q a ∙ left-ahead q qa ∙ ap vector_of e in let lk = left-at t.rays.items k r b ∙ left-ahead r ra in
      rw (li, lk) (dir-self (vector_of r.normal) r.normal.some)

  pub one-ray : (i k : ℕ) (q r : Ray) → IsAt t.rays.items i q → IsAt t.rays.items k r → q.ahead ≡ true → r.ahead ≡ true → q.normal ≡ r.normal → i ≡ k
  one-ray i k q r a b qa ra e =
      elim (three-ways i k) [
        | inl l ↦ absurd (later-differs i k l (is-at_within t.rays.items k r b) (same-left i k q r a b qa ra e))
        | inr o ↦ elim o [ inl s ↦ s | inr l ↦ absurd (later-differs k i l (is-at_within t.rays.items i q a) (same-left k i r q b a ra qa (sym e))) ]
      ]

-- ---- arcs of more rays
module _ (kept : List Star) (i n : ℕ) (arcs : List SArc) (w : AreArcs kept i n arcs) where
  earlier : (j m : ℕ) → IsEarlierRay i n j m → IsEarlierRay i (n + 1) j m
  earlier j m (inl h) = inl h
  earlier j m (inr (e, h)) = inr (e, omega (arith, h))

  latest : (j m : ℕ) → IsEarlierRay i (n + 1) j m → IsEarlierRay i n j m ⊎ ((j ≡ i) × (m ≡ n))
  latest j m (inl h) = inl (inl h)
  latest j m (inr (e, h)) = elim (eq-or-lt_of_le {n = m} {m = n} (omega (arith, h))) [ inl z ↦ inr (e, z) | inr l ↦ inl (inr (e, l)) ]

  -- ray n of star i doesn't go ahead
  pub arcs-past : (t : Star) (r : Ray) → IsAt kept i t → IsAt t.rays.items n r → (r.ahead ≡ true → ⊥) → AreArcs kept i (n + 1) arcs
  arcs-past t r st ra back = record {
    from = w.from;
    small = w.small;
    apart = w.apart;
    along = λ k a h. let s = w.along k a h in (s.0, s.1, earlier a.source s.0 s.2);
    all = λ j m u q h b f e. elim (latest j m e) [ inl x ↦ w.all j m u q h b f x | inr x ↦ absurd (back (same j m u q h b f x.0 x.1)) ];
  }
    where
      same : (j m : ℕ) (u : Star) (q : Ray) → IsAt kept j u → IsAt u.rays.items m q → q.ahead ≡ true → j ≡ i → m ≡ n → r.ahead ≡ true
      same j m u q h b f e z =
          let us : u ≡ t = is-at_one kept i u t (subst (λ (x : ℕ). IsAt kept x u) e h) st in
          let qs : q ≡ r = is-at_one t.rays.items n q r (subst (λ (x : Star). IsAt x.rays.items n q) us (subst (λ (x : ℕ). IsAt u.rays.items x q) z b)) ra in
          subst (λ (x : Ray). x.ahead ≡ true) qs f

  -- the arc along ray n of star i
  module _ (c : SArc) (from : IsArcFrom (map star_of kept) (arc_of c)) (source : c.source ≡ i) (along : LeavesAlong kept c n) (turned : BeginsAnywhere along.star) where
    small : IsAtMost normal_limit (vector_of c.normal)
    small = let l = ray-leaves along.star turned n along.ray along.has_ray in subst (λ (d : Dir). IsAtMost normal_limit (vector_of d)) (sym along.normal) l.small

    -- no earlier arc is its twin
    twin : (k : ℕ) (a : SArc) → IsAt arcs k a → IsTwin a c → ⊥
    twin k a h (e, s) =
        let p = w.along k a h in let u = p.1 in
        let same : u.star ≡ along.star = is-at_one kept i u.star along.star (subst (λ (x : ℕ). IsAt kept x u.star) (s ∙ source) u.has_star) (subst (λ (x : ℕ). IsAt kept x along.star) source along.has_star) in
        let one : p.0 ≡ n = one-ray along.star turned p.0 n u.ray along.ray (subst (λ (x : Star). IsAt x.rays.items p.0 u.ray) same u.has_ray) along.has_ray u.ahead along.ahead (sym u.normal ∙ e ∙ along.normal) in
        elim p.2 [ inl l ↦ omega (arith, l, s, source) | inr l ↦ omega (arith, l.1, one) ]

    old-or-new : (k : ℕ) (a : SArc) → IsAt (arcs ++ c ∷ []) k a → IsAt arcs k a ⊎ ((k ≡ length arcs) × (c ≡ a))
    old-or-new k a h = is-at_more arcs c k a h

    twins : AreApart (arcs ++ c ∷ [])
    twins j k a b h l z =
        elim (old-or-new j a h) [
          | inl x ↦ elim (old-or-new k b l) [ inl y ↦ w.apart j k a b x y z | inr y ↦ absurd (twin j a x (subst (IsTwin a) (sym y.1) z)) ]
          | inr x ↦ elim (old-or-new k b l) [
            | inl y ↦ absurd (twin k b y (let q = subst (λ (d : SArc). IsTwin d b) (sym x.1) z in (sym q.0, sym q.1)))
            | inr y ↦ x.0 ∙ sym y.0
          ]
        ]

    pub arcs-more : AreArcs kept i (n + 1) (arcs ++ c ∷ [])
    arcs-more = record {
      from = λ k a h. elim (old-or-new k a h) [ inl x ↦ w.from k a x | inr x ↦ subst (λ (d : SArc). IsArcFrom (map star_of kept) (arc_of d)) x.1 from ];
      small = λ k a h. elim (old-or-new k a h) [ inl x ↦ w.small k a x | inr x ↦ subst (λ (d : SArc). IsAtMost normal_limit (vector_of d.normal)) x.1 small ];
      apart = twins;
      along = λ k a h.
          elim (old-or-new k a h) [
            | inl x ↦ let s = w.along k a x in (s.0, s.1, earlier a.source s.0 s.2)
            | inr x ↦ subst (λ (d : SArc). (m : ℕ) × LeavesAlong kept d m × IsEarlierRay i (n + 1) d.source m) x.1 (n, along, inr (source, omega arith))
          ];
      all = λ j m u q h b f e.
          elim (latest j m e) [
            | inl x ↦ let o = w.all j m u q h b f x in (o.0, o.1, is-at_left arcs (c ∷ []) o.0 o.1 o.2, o.3, o.4)
            | inr x ↦ (length arcs, c, is-at_last arcs c, source ∙ sym x.0, along.normal ∙ same j m u q h b x.0 x.1)
          ];
    }
      where
        same : (j m : ℕ) (u : Star) (q : Ray) → IsAt kept j u → IsAt u.rays.items m q → j ≡ i → m ≡ n → along.ray.normal ≡ q.normal
        same j m u q h b e z =
            let us : u ≡ along.star = is-at_one kept i u along.star (subst (λ (x : ℕ). IsAt kept x u) e h) (subst (λ (x : ℕ). IsAt kept x along.star) source along.has_star) in
            ap (λ (r : Ray). r.normal) (is-at_one along.star.rays.items n along.ray q along.has_ray (subst (λ (x : Star). IsAt x.rays.items n q) us (subst (λ (x : ℕ). IsAt u.rays.items x q) z b)))

-- all rays of star i are done
pub arcs-next : (kept : List Star) (i n : ℕ) (arcs : List SArc) (t : Star) → IsAt kept i t → length t.rays.items ≤ n → AreArcs kept i n arcs → AreArcs kept (i + 1) 0 arcs
arcs-next kept i n arcs t st h w = record {
  from = w.from;
  small = w.small;
  apart = w.apart;
  along = λ k a x. let s = w.along k a x in (s.0, s.1, inl (elim s.2 [ inl l ↦ omega (arith, l) | inr l ↦ omega (arith, l.0) ]));
  all = λ j m u q x b f e. w.all j m u q x b f (before j m u q x b e);
}
  where
    before : (j m : ℕ) (u : Star) (q : Ray) → IsAt kept j u → IsAt u.rays.items m q → IsEarlierRay (i + 1) 0 j m → IsEarlierRay i n j m
    before j m u q x b (inl l) =
        elim (eq-or-lt_of_le {n = j} {m = i} (omega (arith, l))) [
          | inl z ↦ inr (z, let us : u ≡ t = is-at_one kept i u t (subst (λ (y : ℕ). IsAt kept y u) z x) st in omega (arith, h, is-at_within t.rays.items m q (subst (λ (y : Star). IsAt y.rays.items m q) us b)))
          | inr y ↦ inl y
        ]
    before j m u q x b (inr l) = absurd (omega (arith, l.1))
