-- Finitely many vectors show all germs, so what is said of all directions is decided.
use Rattle.law_geometry.proofs.near.Prelude.{◌≡◌, refl, sym, ◌∙◌, ◌⊎◌, inl, inr, ⊎_elim, ◌↔◌, List, ◌++◌, subst, Lies, SpacePoint, Form, step, Vector, IsDirection, Set, Holds, halves, HasLabel, Germ, Label, Out, Not, In, frame, carriers, SameSlopes, NearGerm, SameCone, lies-left, lies-right, zero-decided}
use Rattle.law_geometry.proofs.near.Germs.{Germ-unique, label-one, sample, sample-short}
use Rattle.law_geometry.proofs.near.Flats.{Germ-by_signs}
use Rattle.law_geometry.proofs.near.Decided.{Decided, Holds-decided, label_of, germ_of, every, decided-not, decided-to, ways, way_of, same-slopes}
use Rattle.law_geometry.proofs.near.NearGerms.{near-from_there, there-from_near}

-- ---- representatives
pub representatives : (hs : List Form) → (vs : List Vector) × ((d : Vector) → (v : Vector) × Lies vs v × SameSlopes hs d v)
representatives hs = (ways hs, λ d. let w = way_of hs d in (w.direction, w.listed, same-slopes hs d))

-- ---- labels
pub same-label_or : (l m : Label) → (l ≡ m) ⊎ (l ≡ m → ⊥)
same-label_or Out Out = inl refl
same-label_or Out Not = inr (λ e. cc)
same-label_or Out In = inr (λ e. cc)
same-label_or Not Out = inr (λ e. cc)
same-label_or Not Not = inl refl
same-label_or Not In = inr (λ e. cc)
same-label_or In Out = inr (λ e. cc)
same-label_or In Not = inr (λ e. cc)
same-label_or In In = inl refl

pub holds-decided : (s : Set) (p : SpacePoint) → Decided (Holds s p)
holds-decided s p = Holds-decided (carriers s) (λ h l. lies-left frame (halves s) h l) s (λ h l. lies-right frame (halves s) h l) p

pub label-decided : (s : Set) (p : SpacePoint) (l : Label) → Decided (HasLabel s p l)
label-decided s p l =
    let m = label_of s p in
    ⊎_elim (λ e. inl (subst (HasLabel s p) e m.1)) (λ n. inr (λ h. n (label-one s p m.0 l m.1 h))) (same-label_or m.0 l)

pub germ-decided : (s : Set) (p : SpacePoint) (d : Vector) (l : Label) → Decided (Germ s p d l)
germ-decided s p d l =
    let m = germ_of s p d in
    ⊎_elim (λ e. inl (subst (Germ s p d) e m.1)) (λ n. inr (λ h. n (Germ-unique s p d m.0 l m.1 h))) (same-label_or m.0 l)

-- ---- all directions
pub germ-representatives : (s : Set) (p : SpacePoint) → (vs : List Vector) × ((d : Vector) → (v : Vector) × Lies vs v × ((l : Label) → Germ s p d l ↔ Germ s p v l))
germ-representatives s p =
    let r = representatives (carriers s) in (
      r.0,
      λ d.
          let v = r.1 d in (
            v.0,
            v.1,
            λ l. (Germ-by_signs s p d v.0 (λ h i o. v.2 h i) l, Germ-by_signs s p v.0 d (λ h i o. sym (v.2 h i)) l),
          ),
    )

pub all-germs : (s : Set) (p : SpacePoint) (l : Label) → ((d : Vector) → Germ s p d l) ⊎ ((d : Vector) × (Germ s p d l → ⊥))
all-germs s p l = by (germ-representatives s p)
  where
    by : ((vs : List Vector) × ((d : Vector) → (v : Vector) × Lies vs v × ((l : Label) → Germ s p d l ↔ Germ s p v l))) → ((d : Vector) → Germ s p d l) ⊎ ((d : Vector) × (Germ s p d l → ⊥))
    by (vs, f) = ⊎_elim (λ c. inr (c.0, c.2)) (λ g. inl (λ d. let v = f d in (v.2 l).1 (g v.0 v.1))) (every vs (λ v. Germ s p v l) (λ v. germ-decided s p v l))

pub all-directions : (s : Set) (p : SpacePoint) (l : Label) → ((d : Vector) → IsDirection d → Germ s p d l) ⊎ ((d : Vector) × IsDirection d × (Germ s p d l → ⊥))
all-directions s p l = ⊎_elim
    (λ c. inr (found c.0 c.2))
    (λ g. inl (λ d i.
    let w = way_of (carriers s) d in
    Germ-by_signs s p w.direction d (λ h m o. sym (same-slopes (carriers s) d h m)) l (g w.direction w.listed (w.directed i))))
    (every (ways (carriers s)) (λ v. IsDirection v → Germ s p v l) (λ v. decided-to (decided-not (zero-decided v)) (germ-decided s p v l)))
  where
    found : (v : Vector) → ((IsDirection v → Germ s p v l) → ⊥) → (d : Vector) × IsDirection d × (Germ s p d l → ⊥)
    found v n = (v, ⊎_elim (λ z. absurd (n (λ i. absurd (i z)))) (λ i. i) (zero-decided v), λ g. n (λ i. g))

-- ---- near directions
-- a short step along d, at which the germs are the germs near d
abbrev pub ahead : Set → SpacePoint → Vector → SpacePoint
ahead s p d = step p (sample s p d) d

pub near-ahead : (s : Set) (p : SpacePoint) (d e : Vector) (l : Label) → Germ s (ahead s p d) e l ↔ NearGerm s p d e l
near-ahead s p d e l = (near-from_there s p d e (sample s p d) (sample-short s p d) l, there-from_near s p d e (sample s p d) (sample-short s p d) l)

pub near-germ_of : (s : Set) (p : SpacePoint) (d e : Vector) → (l : Label) × NearGerm s p d e l
near-germ_of s p d e = let g = germ_of s (ahead s p d) e in (g.0, (near-ahead s p d e g.0).0 g.1)

pub near-germ_one : (s : Set) (p : SpacePoint) (d e : Vector) (l m : Label) → NearGerm s p d e l → NearGerm s p d e m → l ≡ m
near-germ_one s p d e l m f g = Germ-unique s (ahead s p d) e l m ((near-ahead s p d e l).1 f) ((near-ahead s p d e m).1 g)

pub near-germ_decided : (s : Set) (p : SpacePoint) (d e : Vector) (l : Label) → Decided (NearGerm s p d e l)
near-germ_decided s p d e l = ⊎_elim (λ g. inl ((near-ahead s p d e l).0 g)) (λ n. inr (λ g. n ((near-ahead s p d e l).1 g))) (germ-decided s (ahead s p d) e l)

pub all-near_germs : (s : Set) (p : SpacePoint) (d : Vector) (l : Label) → ((e : Vector) → NearGerm s p d e l) ⊎ ((e : Vector) × (NearGerm s p d e l → ⊥))
all-near_germs s p d l = ⊎_elim (λ f. inl (λ e. (near-ahead s p d e l).0 (f e))) (λ c. inr (c.0, λ g. c.1 ((near-ahead s p d c.0 l).1 g))) (all-germs s (ahead s p d) l)

-- ---- equal cones
one-germ : (s : Set) (p : SpacePoint) (v : Vector) (l m : Label) → l ≡ m → Germ s p v l → Germ s p v m
one-germ s p v l m e g = subst (Germ s p v) e g

pub same-cone_decided : (s t : Set) (p : SpacePoint) → Decided (SameCone s t p)
same-cone_decided s t p = by (representatives (carriers s ++ carriers t)) (same-label_or (label_of s p).0 (label_of t p).0)
  where
    by : ((vs : List Vector) × ((d : Vector) → (v : Vector) × Lies vs v × SameSlopes (carriers s ++ carriers t) d v)) → Decided ((label_of s p).0 ≡ (label_of t p).0) → Decided (SameCone s t p)
    by (vs, f) (inr n) = inr (λ c. n (label-one t p (label_of s p).0 (label_of t p).0 ((c.label (label_of s p).0).0 (label_of s p).1) (label_of t p).1))
    by (vs, f) (inl e) = ⊎_elim
        (λ c. inr (λ k. let v = c.0 in let g = germ_of s p v in let h = germ_of t p v in c.2 (Germ-unique t p v g.0 h.0 ((k.germs v g.0).0 g.1) h.1)))
        (λ all. inl (record {
          label = λ l. (
            λ h. subst (HasLabel t p) (sym e ∙ label-one s p (label_of s p).0 l (label_of s p).1 h) (label_of t p).1,
            λ h. subst (HasLabel s p) (e ∙ label-one t p (label_of t p).0 l (label_of t p).1 h) (label_of s p).1,
          );
          germs = λ d l.
              let v = f d in
              let g = germ_of s p v.0 in
              let h = germ_of t p v.0 in
              let same = all v.0 v.1 in (
                λ i.
                    let a = Germ-by_signs s p d v.0 (λ k m o. v.2 k (lies-left (carriers s) (carriers t) k m)) l i in
                    Germ-by_signs t p v.0 d (λ k m o. sym (v.2 k (lies-right (carriers s) (carriers t) k m))) l (one-germ t p v.0 h.0 l (sym same ∙ Germ-unique s p v.0 g.0 l g.1 a) h.1),
                λ i.
                    let a = Germ-by_signs t p d v.0 (λ k m o. v.2 k (lies-right (carriers s) (carriers t) k m)) l i in
                    Germ-by_signs s p v.0 d (λ k m o. sym (v.2 k (lies-left (carriers s) (carriers t) k m))) l (one-germ s p v.0 g.0 l (same ∙ Germ-unique t p v.0 h.0 l h.1 a) g.1),
              );
        }))
        (every vs (λ v. (germ_of s p v).0 ≡ (germ_of t p v).0) (λ v. same-label_or (germ_of s p v).0 (germ_of t p v).0))
