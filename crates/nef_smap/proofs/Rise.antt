-- Where a way to u meets a plane, and the signs of the forms that are nought at u.
use Rattle.nef_smap.proofs.Prelude.{◌≡◌, ℕ, zero, suc, pos, ◌+ℤ◌, ◌-ℤ◌, ◌*ℤ◌, refl, ap, sym, ◌∙◌, inl, inr, ⊎_elim, List, [], ◌∷◌, ◌++◌, subst, ring, at, num, ◌⊕◌, ◌⊖◌, ◌⊗◌, follows, given, none, sign, sign_times, sign_of_product, sign-scaled, nought-or, lies-left, lies-right, Lies, Vector, IsDirection, cross, dot, IsAt, MapVertex, Map, Item, items, item_normal, SameSigns, Keeps, gather, forms, dot-comb, comb-dot, gather-has, cross-self, same-off, rise, rise_form, rise_forms, meridians, over_forms, self-pos}

-- ---- the meet
pub rise-is : (u n g d : Vector) → dot g (rise u n d) ≡ dot (rise_form u n g) d
rise-is u n g d = dot-comb g (dot n u) d (pos 0 -ℤ dot n d) u
    ∙ ring (dot n u ∷ dot g d ∷ dot n d ∷ dot g u ∷ []) (at 0 ⊗ at 1 ⊕ (num (pos 0) ⊖ at 2) ⊗ at 3) (at 0 ⊗ at 1 ⊕ (num (pos 0) ⊖ at 3) ⊗ at 2) tt
    ∙ sym (comb-dot (dot n u) g (pos 0 -ℤ dot g u) n d)

pub rise-level : (u n d : Vector) → dot n (rise u n d) ≡ pos 0
rise-level u n d = dot-comb n (dot n u) d (pos 0 -ℤ dot n d) u ∙ ring (dot n u ∷ dot n d ∷ []) (at 0 ⊗ at 1 ⊕ (num (pos 0) ⊖ at 1) ⊗ at 0) (num (pos 0)) tt

pub rise_form-level : (u n g : Vector) → dot (rise_form u n g) u ≡ pos 0
rise_form-level u n g = comb-dot (dot n u) g (pos 0 -ℤ dot g u) n u ∙ ring (dot n u ∷ dot g u ∷ []) (at 0 ⊗ at 1 ⊕ (num (pos 0) ⊖ at 1) ⊗ at 0) (num (pos 0)) tt

pub rise_form-value : (u n g d : Vector) → dot (rise_form u n g) d ≡ dot n u *ℤ dot g d +ℤ (pos 0 -ℤ dot g u) *ℤ dot n d
rise_form-value u n g d = comb-dot (dot n u) g (pos 0 -ℤ dot g u) n d

-- ---- the forms
pub append-each : {B : Type 0} (P : B → Type 0) (xs ys : List B) → ((b : B) → Lies xs b → P b) → ((b : B) → Lies ys b → P b) → (b : B) → Lies (xs ++ ys) b → P b
append-each P [] ys f g b l = g b l
append-each P (x ∷ xs) ys f g b (inl e) = f b (inl e)
append-each P (x ∷ xs) ys f g b (inr l) = append-each P xs ys (λ c i. f c (inr i)) g b l

pub gather-each : {A B : Type 0} (f : A → List B) (P : B → Type 0) (xs : List A) → ((k : ℕ) (x : A) (b : B) → IsAt xs k x → Lies (f x) b → P b) → (b : B) → Lies (gather f xs) b → P b
gather-each f P [] each b l = absurd l
gather-each f P (x ∷ xs) each b l = append-each P (f x) (gather f xs) (λ c i. each zero x c refl i) (λ c i. gather-each f P xs (λ k y e a j. each (suc k) y e a j) c i) b l

pub meridian-level : (M : Map) (u m : Vector) → Lies (meridians M u) m → dot m u ≡ pos 0
meridian-level M u m l = append-each (λ (m : Vector). dot m u ≡ pos 0) (gather (λ (v : MapVertex). cross u v.dir ∷ []) M.svertices) (rise_forms M u)
    (gather-each (λ (v : MapVertex). cross u v.dir ∷ []) (λ (m : Vector). dot m u ≡ pos 0) M.svertices (λ k v m a i. one (cross u v.dir) (cross-self u v.dir) m i))
    (gather-each (λ (x : Item). gather (λ (g : Vector). rise_form u (item_normal x) g ∷ []) (forms M)) (λ (m : Vector). dot m u ≡ pos 0) (items M)
    (λ k x m a i. gather-each (λ (g : Vector). rise_form u (item_normal x) g ∷ []) (λ (m : Vector). dot m u ≡ pos 0) (forms M) (λ j g m b l. one (rise_form u (item_normal x) g) (rise_form-level u (item_normal x) g) m l) m i)) m l
  where
    one : (n : Vector) → dot n u ≡ pos 0 → (m : Vector) → Lies (n ∷ []) m → dot m u ≡ pos 0
    one n z m (inl e) = subst (λ (m : Vector). dot m u ≡ pos 0) e z
    one n z m (inr l) = absurd l

pub lies-at : {A B : Type 0} (f : A → B) (xs : List A) (x : A) → Lies xs x → Lies (gather (λ (y : A). f y ∷ []) xs) (f x)
lies-at f [] x l = absurd l
lies-at f (y ∷ xs) x (inl e) = inl (ap f e)
lies-at f (y ∷ xs) x (inr l) = inr (lies-at f xs x l)

pub svertex-meridian : (M : Map) (u : Vector) (k : ℕ) (v : MapVertex) → IsAt M.svertices k v → Lies (meridians M u) (cross u v.dir)
svertex-meridian M u k v a = lies-left (gather (λ (v : MapVertex). cross u v.dir ∷ []) M.svertices) (rise_forms M u) (cross u v.dir)
    (gather-has (λ (v : MapVertex). cross u v.dir ∷ []) M.svertices k v (cross u v.dir) a (inl refl))

pub rise-meridian : (M : Map) (u : Vector) (k : ℕ) (x : Item) (g : Vector) → IsAt (items M) k x → Lies (forms M) g → Lies (meridians M u) (rise_form u (item_normal x) g)
rise-meridian M u k x g a l = lies-right (gather (λ (v : MapVertex). cross u v.dir ∷ []) M.svertices) (rise_forms M u) (rise_form u (item_normal x) g)
    (gather-has (λ (x : Item). gather (λ (g : Vector). rise_form u (item_normal x) g ∷ []) (forms M)) (items M) k x (rise_form u (item_normal x) g) a (lies-at (rise_form u (item_normal x)) (forms M) g l))

pub form-over : (M : Map) (u g : Vector) → Lies (forms M) g → Lies (over_forms M u) g
form-over M u g l = lies-left (forms M) (meridians M u) g l

-- what keeps the forms over u keeps the map's own
pub forms-kept : (M : Map) (u d z : Vector) → Keeps (over_forms M u) d z → Keeps (forms M) d z
forms-kept M u d z k g l f = k g (form-over M u g l) f

pub meridian-over : (M : Map) (u g : Vector) → Lies (meridians M u) g → Lies (over_forms M u) g
meridian-over M u g l = lies-right (forms M) (meridians M u) g l

-- ---- a form that is nought at u and at d says on which side of the meridian of d a direction lies
pub meridian-turn : (u d m e : Vector) → dot m u ≡ pos 0 → dot m d ≡ pos 0 → dot (cross u d) (cross u d) *ℤ dot m e ≡ dot m (cross u d) *ℤ dot (cross u d) e
meridian-turn u d m e p q =
    let ux = at 0 in let uy = at 1 in let uz = at 2 in
    let dx = at 3 in let dy = at 4 in let dz = at 5 in
    let mx = at 6 in let my = at 7 in let mz = at 8 in
    let ex = at 9 in let ey = at 10 in let ez = at 11 in
    let lx = uy ⊗ dz ⊖ uz ⊗ dy in
    let ly = uz ⊗ dx ⊖ ux ⊗ dz in
    let lz = ux ⊗ dy ⊖ uy ⊗ dx in
    let o = num (pos 0) in
    -- l x (m x l) = (m.d) l x u - (m.u) l x d
    follows (u.x ∷ u.y ∷ u.z ∷ d.x ∷ d.y ∷ d.z ∷ m.x ∷ m.y ∷ m.z ∷ e.x ∷ e.y ∷ e.z ∷ [])
    ((lx ⊗ lx ⊕ ly ⊗ ly ⊕ lz ⊗ lz) ⊗ (mx ⊗ ex ⊕ my ⊗ ey ⊕ mz ⊗ ez)) ((mx ⊗ lx ⊕ my ⊗ ly ⊕ mz ⊗ lz) ⊗ (lx ⊗ ex ⊕ ly ⊗ ey ⊕ lz ⊗ ez))
    (given ((ly ⊗ uz ⊖ lz ⊗ uy) ⊗ ex ⊕ (lz ⊗ ux ⊖ lx ⊗ uz) ⊗ ey ⊕ (lx ⊗ uy ⊖ ly ⊗ ux) ⊗ ez) (mx ⊗ dx ⊕ my ⊗ dy ⊕ mz ⊗ dz) o q
    (given (o ⊖ ((ly ⊗ dz ⊖ lz ⊗ dy) ⊗ ex ⊕ (lz ⊗ dx ⊖ lx ⊗ dz) ⊗ ey ⊕ (lx ⊗ dy ⊖ ly ⊗ dx) ⊗ ez)) (mx ⊗ ux ⊕ my ⊗ uy ⊕ mz ⊗ uz) o p none)) tt

pub meridian-sign : (u d m e : Vector) → IsDirection (cross u d) → dot m u ≡ pos 0 → dot m d ≡ pos 0 → sign (dot m e) ≡ sign_times (sign (dot m (cross u d))) (sign (dot (cross u d) e))
meridian-sign u d m e f p q =
    sym (sign-scaled (dot (cross u d) (cross u d)) (dot m e) (self-pos (cross u d) f)) ∙ ap sign (meridian-turn u d m e p q) ∙ sign_of_product (dot m (cross u d)) (dot (cross u d) e)

-- two directions close to d, or to what lies over d, on one side of its meridian
pub meridians-same : (ms : List Vector) (u d e f : Vector) → IsDirection (cross u d) → ((m : Vector) → Lies ms m → dot m u ≡ pos 0) → Keeps ms d e → Keeps ms d f
    → sign (dot (cross u d) e) ≡ sign (dot (cross u d) f) → SameSigns ms e f
meridians-same ms u d e f h level k l s m i = ⊎_elim
    (λ z. meridian-sign u d m f h (level m i) z ∙ ap (sign_times (sign (dot m (cross u d)))) (sym s) ∙ sym (meridian-sign u d m e h (level m i) z))
    (λ g. l m i g ∙ sym (k m i g))
    (nought-or (dot m d))

pub keeps-then : (gs : List Vector) (c d e : Vector) → Keeps gs c d → Keeps gs d e → Keeps gs c e
keeps-then gs c d e f g h l z = let s = f h l z in g h l (same-off (dot h c) (dot h d) s z) ∙ s

-- the meet keeps the signs of the meet at d
pub rise-keeps : (M : Map) (u d e : Vector) (k : ℕ) (x : Item) → IsAt (items M) k x → Keeps (meridians M u) d e → Keeps (forms M) (rise u (item_normal x) d) (rise u (item_normal x) e)
rise-keeps M u d e k x a h g l f =
    let n = item_normal x in
    ap sign (rise-is u n g e) ∙ h (rise_form u n g) (rise-meridian M u k x g a l) (λ z. f (rise-is u n g d ∙ z)) ∙ ap sign (sym (rise-is u n g d))

pub rise-same : (M : Map) (u d e : Vector) (k : ℕ) (x : Item) → IsAt (items M) k x → SameSigns (meridians M u) d e → SameSigns (forms M) (rise u (item_normal x) d) (rise u (item_normal x) e)
rise-same M u d e k x a h g l =
    let n = item_normal x in
    ap sign (rise-is u n g e) ∙ h (rise_form u n g) (rise-meridian M u k x g a l) ∙ ap sign (sym (rise-is u n g d))
