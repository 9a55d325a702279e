-- Where bytes of a class end, a text is cut in one way.
use Rattle.std.proofs.Common.{◌≡◌, ℕ, List, [], ◌∷◌, ◌++◌, refl, subst}
use Rattle.std.specs.List.{AllByRecursion}

-- the text does not begin with a byte of the class
abbrev pub Stops : (ℕ → Type 0) → List ℕ → Type 0
Stops P [] = Unit {0}
Stops P (b ∷ x) = P b → ⊥

-- the text begins with a byte of the class
abbrev pub Begins : (ℕ → Type 0) → List ℕ → Type 0
Begins P [] = ⊥
Begins P (b ∷ x) = P b

pub same_cut :
    (P : ℕ → Type 0) (u v x y : List ℕ) → AllByRecursion P u → AllByRecursion P v → Stops P x → Stops P y →
    u ++ x ≡ v ++ y → (u ≡ v) × (x ≡ y)
same_cut P [] [] x y in_u in_v at_x at_y e = (refl, e)
same_cut P [] (c ∷ v) [] y in_u in_v at_x at_y e = absurd (cc)
same_cut P [] (c ∷ v) (b ∷ x) y in_u in_v at_x at_y e = let same : c ≡ b = cc in absurd (at_x (subst P same in_v.0))
same_cut P (c ∷ u) [] x [] in_u in_v at_x at_y e = absurd (cc)
same_cut P (c ∷ u) [] x (b ∷ y) in_u in_v at_x at_y e = let same : c ≡ b = cc in absurd (at_y (subst P same in_u.0))
same_cut P (c ∷ u) (d ∷ v) x y in_u in_v at_x at_y e =
    let rest : u ++ x ≡ v ++ y = cc in
    let cut = same_cut P u v x y in_u.1 in_v.1 at_x at_y rest in
    let front : u ≡ v = cut.0 in
    (cc, cut.1)

module _ (P : ℕ → Type 0) where
  pub each-append : (u v : List ℕ) → AllByRecursion P u → AllByRecursion P v → AllByRecursion P (u ++ v)
  each-append [] v in_u in_v = in_v
  each-append (b ∷ u) v in_u in_v = (in_u.0, each-append u v in_u.1 in_v)

  pub begins-append : (u v : List ℕ) → Begins P u → Begins P (u ++ v)
  begins-append [] v h = absurd h
  begins-append (b ∷ u) v h = h

pub each_weaker :
    (P Q : ℕ → Type 0) → ((b : ℕ) → P b → Q b) → (u : List ℕ) → AllByRecursion P u → AllByRecursion Q u
each_weaker P Q weaker [] in_u = tt
each_weaker P Q weaker (b ∷ u) in_u = (weaker b in_u.0, each_weaker P Q weaker u in_u.1)

pub begins_weaker : (P Q : ℕ → Type 0) → ((b : ℕ) → P b → Q b) → (u : List ℕ) → Begins P u → Begins Q u
begins_weaker P Q weaker [] h = absurd h
begins_weaker P Q weaker (b ∷ u) h = weaker b h
