-- What a parser makes of a text, by its language, at one depth of nesting and at the next.
use Rattle.std.proofs.Common.{◌≡◌, true, false, [], ◌∷◌, ◌++◌, ◌⊎◌, inr, refl, sym, ap, ◌∙◌, subst, append-nil}
use Rattle.pc_grammar.specs.declared.symbol.Symbol.{Symbol}
use Rattle.pc_grammar.specs.Combinators.{Text, Fault, Syntax, Out, Got, Stops, Parser, Lang, Class, starts}

-- the next symbol is the same, or there is none
abbrev pub Same : Text → Text → Type 0
Same [] [] = Unit {0}
Same [] (y ∷ ys) = ⊥
Same (x ∷ xs) [] = ⊥
Same (x ∷ xs) (y ∷ ys) = x ≡ y

-- no symbol of the class comes next
abbrev pub Ends : Class → Text → Type 0
Ends c i = starts c i ≡ false

abbrev pub Begins : Class → Text → Type 0
Begins c i = starts c i ≡ true

pub record Read {A : Type 0} (c : Class) (L : Lang A) (p p' : Parser A) (i : Text) (a : A) (r : Text) : Type 0 where
  pub word : Text
  pub split : i ≡ word ++ r
  pub says : L a word
  pub stable : (r' : Text) → Same r r' ⊎ Ends c r' → (p (word ++ r') ≡ Got a r') × (p' (word ++ r') ≡ Got a r')

pub record Refused {A : Type 0} (L' : Lang A) (p p' : Parser A) (i : Text) (k : Fault) (r : Text) : Type 0 where
  pub word : Text
  pub split : i ≡ word ++ r
  pub rest : Text
  pub tree : A
  pub completes : L' tree (word ++ rest)
  pub local : (r' : Text) → k ≡ Syntax → Same r r' → (p (word ++ r') ≡ Stops Syntax r') × (p' (word ++ r') ≡ Stops Syntax r')

abbrev pub Outcome : {A : Type 0} → Class → Lang A → Lang A → Parser A → Parser A → Text → Out A → Type 0
Outcome c L L' p p' i (Got a r) = Read c L p p' i a r
Outcome c L L' p p' i (Stops k r) = Refused L' p p' i k r

pub record Laws {A : Type 0} (c : Class) (L L' : Lang A) (p p' : Parser A) : Type 0 where
  pub run : (i : Text) → Outcome c L L' p p' i (p i)
  pub complete : (a : A) (w : Text) → L a w → p w ≡ Got a []
  pub grows : (a : A) (w : Text) → L a w → L' a w
  pub example : (a : A) × (w : Text) × L' a w

pub same-refl : (r : Text) → Same r r
same-refl [] = tt
same-refl (x ∷ xs) = refl

-- what a whole word gives, before a rest
read_of : {A : Type 0} (c : Class) (L L' : Lang A) (p p' : Parser A) → Laws c L L' p p' → (a : A) (u : Text) → L a u → Read c L p p' u a []
read_of c L L' p p' laws a u l = subst (λ o. Outcome c L L' p p' u o) (laws.complete a u l) (laws.run u)

pub ahead : {A : Type 0} (c : Class) (L L' : Lang A) (p p' : Parser A) → Laws c L L' p p' → (a : A) (u v : Text) → L a u → Ends c v
    → (p (u ++ v) ≡ Got a v) × (p' (u ++ v) ≡ Got a v)
ahead c L L' p p' laws a u v l h =
    let x = read_of c L L' p p' laws a u l in
    let same : u ≡ x.word = x.split ∙ append-nil x.word in
    subst (λ w. (p (w ++ v) ≡ Got a v) × (p' (w ++ v) ≡ Got a v)) (sym same) (x.stable v (inr h))

pub starts_same : (f : Class) (a b : Text) → Same a b → starts f a ≡ starts f b
starts_same f [] [] s = refl
starts_same f [] (y ∷ b) s = absurd s
starts_same f (x ∷ a) [] s = absurd s
starts_same f (x ∷ a) (y ∷ b) s = ap f s

pub begins_more : (f : Class) (w r : Text) → Begins f w → Begins f (w ++ r)
begins_more f [] r h = absurd (cc)
begins_more f (t ∷ w) r h = h

-- a parser that refuses a token refuses it before any rest
pub refusing : {A : Type 0} (q : Parser A) (r r' : Text) → Same r r' → (q [] ≡ Stops Syntax []) → ((t : Symbol) (x y : Text) → r ≡ t ∷ x → q (t ∷ y) ≡ Stops Syntax (t ∷ y)) → q r' ≡ Stops Syntax r'
refusing q [] [] s e h = e
refusing q [] (y ∷ r') s e h = absurd s
refusing q (x ∷ r) [] s e h = absurd s
refusing q (x ∷ r) (y ∷ r') s e h = h y r r' (ap (λ z. z ∷ r) s)

-- the same token comes next behind the same word
pub same_behind : (v r r' : Text) → Same r r' → Same (v ++ r) (v ++ r')
same_behind [] r r' s = s
same_behind (t ∷ v) r r' s = refl

pub starts_alike : (f : Class) (i w r r' : Text) → i ≡ w ++ r → Same r r' → starts f (w ++ r') ≡ starts f i
starts_alike f i w r r' s h = sym (starts_same f (w ++ r) (w ++ r') (same_behind w r r' h)) ∙ ap (starts f) (sym s)
