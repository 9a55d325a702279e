-- Symbols have one answer at most, for each start symbol.
use Rattle.std.proofs.Common.{◌≡◌, ◌≤◌, [], ◌∷◌, ◌++◌, length, Result, Ok, Err, refl, sym, ap, ◌∙◌, subst, append_assoc, ◌⊎◌, inl, inr, arith, length-append, append-nil}
use Rattle.std.proofs.lemmas.Bool.{cases_lt}
use Rattle.pc_text.specs.declared.place.Place.{Place}
use Rattle.pc_grammar.specs.declared.symbol.Symbol.{Symbol}
use Rattle.pc_grammar.specs.declared.fault.ParseFault.{ParseFault}
use Rattle.pc_grammar.specs.declared.fault.ParseFault.TheVariants as fault
use Rattle.pc_grammar.specs.Combinators.{Text}
use Rattle.pc_grammar.specs.Starts.{Start, Derives}
use Rattle.pc_grammar.specs.Limits.{start, counts, counted, Within}
use Rattle.pc_grammar.specs.Parsing.{Begins, Breaks, place_at, IsSyntax, IsPast, Means, parsed, Gives, MeansUnless}
use Rattle.pc_grammar.proofs.Starts.{Lawful}
use Rattle.pc_grammar.proofs.Whole.{one_tree}
use Rattle.pc_grammar.proofs.Scans.{cut, before_past}
use Rattle.pc_grammar.proofs.Sound.{sound}

module _ (S : Start) (lawful : Lawful S) where
  -- a front of what begins a program begins one
  begins_less : (a b : Text) → Begins S (a ++ b) → Begins S a
  begins_less a b (rest, t, (n, l)) = (b ++ rest, t, (n, subst (λ z. S.language n t z) (append_assoc a b rest) l))

  begins_one : (a b : Text) (s : Symbol) → Begins S (a ++ s ∷ b) → Begins S (a ++ s ∷ [])
  begins_one a b s h = begins_less (a ++ s ∷ []) b (subst (λ z. Begins S z) (sym (append_assoc a (s ∷ []) b)) h)

  begins_all : (t : S.Tree) (w : Text) → Derives S t w → Begins S w
  begins_all t w (n, l) = ([], t, (n, subst (λ z. S.language n t z) (sym (append-nil w)) l))

  -- ---- a tree and a fault

  tree_syntax : (i : Text) (end p : Place) (t : S.Tree) → Derives S t i → IsSyntax S i end p → ⊥
  tree_syntax i end p t d x = at x.rest x.split x.breaks
    where
      at : (r : Text) → i ≡ x.before ++ r → Breaks S x.before r → ⊥
      at [] e b = b t (subst (λ z. Derives S t z) (e ∙ append-nil x.before) d)
      at (s ∷ r) e b = b (begins_one x.before r s (subst (λ z. Begins S z) e (begins_all t i d)))

  tree_past : (i : Text) (f : ParseFault) → Within S.most i [] → IsPast S i f → ⊥
  tree_past i f w x =
      let l = before_past S.most i [] x.before x.rest x.symbol f x.past w (append-nil i ∙ x.split) in
      let n = length-append x.before (x.symbol ∷ x.rest) in
      absurd (omega (arith, ap length x.split))

  -- ---- two faults

  -- a fault of syntax does not stand before what begins a program
  syntax_first : (i b r c q : Text) (m : Begins S c) → Breaks S b r → (w : Text) → c ≡ b ++ w → r ≡ w ++ q → (w ≡ [])
  syntax_first i b r c q m h [] e g = refl
  syntax_first i b [] c q m h (s ∷ w) e g = absurd (cc)
  syntax_first i b (x ∷ r) c q m h (s ∷ w) e g =
      let same : x ≡ s = cc in
      absurd (h (subst (λ z. Begins S (b ++ z ∷ [])) (sym same) (begins_one b w s (subst (λ z. Begins S z) e m))))

  syntax_order : (i : Text) (end p q : Place) (x : IsSyntax S i end p) (y : IsSyntax S i end q) → length x.before ≤ length y.before → p ≡ q
  syntax_order i end p q x y l =
      let c = cut x.before y.before x.rest y.rest (sym x.split ∙ y.split) l in
      let none = syntax_first i x.before x.rest y.before y.rest y.begins x.breaks c.0 c.1 c.2 in
      let rests : x.rest ≡ y.rest = c.2 ∙ ap (λ z. z ++ y.rest) none in
      x.at ∙ ap (λ z. place_at z end) rests ∙ sym y.at

  syntax_syntax : (i : Text) (end p q : Place) (x : IsSyntax S i end p) (y : IsSyntax S i end q) → p ≡ q
  syntax_syntax i end p q x y = elim (cases_lt (length y.before) (length x.before)) [
    | inr l ↦ syntax_order i end p q x y l
    | inl l ↦ sym (syntax_order i end q p y x (omega arith))
  ]

  syntax_past : (i : Text) (end p : Place) (f : ParseFault) → IsSyntax S i end p → IsPast S i f → ⊥
  syntax_past i end p f x y =
      let l = before_past S.most x.before x.rest y.before y.rest y.symbol f y.past x.within (sym x.split ∙ y.split) in
      let c = cut x.before y.before x.rest (y.symbol ∷ y.rest) (sym x.split ∙ y.split) l in
      let none = syntax_first i x.before x.rest (y.before ++ y.symbol ∷ []) y.rest y.begins x.breaks (c.0 ++ y.symbol ∷ []) (ap (λ z. z ++ y.symbol ∷ []) c.1 ∙ append_assoc x.before c.0 (y.symbol ∷ [])) (c.2 ∙ sym (append_assoc c.0 (y.symbol ∷ []) y.rest)) in
      let n = length-append c.0 (y.symbol ∷ []) in
      absurd (omega (arith, ap length none))

  past_past : (i : Text) (f g : ParseFault) → IsPast S i f → IsPast S i g → f ≡ g
  past_past i f g x y =
      let e : x.before ++ x.symbol ∷ x.rest ≡ y.before ++ y.symbol ∷ y.rest = sym x.split ∙ y.split in
      let l = before_past S.most x.before (x.symbol ∷ x.rest) y.before y.rest y.symbol g y.past (x.past.0, x.past.1) e in
      let m = before_past S.most y.before (y.symbol ∷ y.rest) x.before x.rest x.symbol f x.past (y.past.0, y.past.1) (sym e) in
      same_place (cut x.before y.before (x.symbol ∷ x.rest) (y.symbol ∷ y.rest) e l) m
    where
      same_place : ((w : Text) × (y.before ≡ x.before ++ w) × (x.symbol ∷ x.rest ≡ w ++ y.symbol ∷ y.rest)) → length y.before ≤ length x.before → f ≡ g
      same_place (t ∷ w, a, b) m = let n = length-append x.before (t ∷ w) in absurd (omega (arith, ap length a))
      same_place ([], a, b) m =
          let front : x.before ≡ y.before = sym (a ∙ append-nil x.before) in
          let symbols : x.symbol ≡ y.symbol = cc in
          let rests : x.rest ≡ y.rest = cc in
          let counts_here : counts S.most start y.before (y.symbol ∷ y.rest) ≡ Ok x.past.0 = subst (λ z. counts S.most start z (y.symbol ∷ y.rest) ≡ Ok x.past.0) front (subst (λ z. counts S.most start x.before z ≡ Ok x.past.0) b x.past.1) in
          let same : x.past.0 ≡ y.past.0 = cc (y.past.1) in
          let past : counted S.most y.past.0 y.symbol y.rest ≡ Err f = subst (λ c. counted S.most c y.symbol y.rest ≡ Err f) same (subst (λ r. counted S.most x.past.0 y.symbol r ≡ Err f) rests (subst (λ s. counted S.most x.past.0 s x.rest ≡ Err f) symbols x.past.2)) in
          cc (y.past.2)

  -- ---- one answer

  pub unambiguous : (w : Text) (t u : S.Tree) → Derives S t w → Derives S u w → t ≡ u
  unambiguous w t u (n, l) (m, k) = one_tree S.language S.parser lawful.reads n m t u w l k

  -- a fault is one of syntax, or one of a limit
  abbrev Fault : Text → Place → ParseFault → Type 0
  Fault i end f = ((p : Place) × (f ≡ fault.Syntax p) × IsSyntax S i end p) ⊎ IsPast S i f

  fault_is : (i : Text) (end : Place) (f : ParseFault) → Means S i end (Err f) → Fault i end f
  fault_is i end (fault.Syntax p) x = inl (p, refl, x)
  fault_is i end (fault.TooDeep p) x = inr x
  fault_is i end (fault.TooLong p) x = inr x
  fault_is i end (fault.TooManyProcesses p) x = inr x
  fault_is i end fault.NoMemory x = absurd x

  tree_fault : (i : Text) (end : Place) (t : S.Tree) (f : ParseFault) → Means S i end (Ok t) → Fault i end f → ⊥
  tree_fault i end t f x (inl (p, e, y)) = tree_syntax i end p t x.0 y
  tree_fault i end t f x (inr y) = tree_past i f x.1 y

  one_fault : (i : Text) (end : Place) (f g : ParseFault) → Fault i end f → Fault i end g → f ≡ g
  one_fault i end f g (inl (p, e, x)) (inl (q, d, y)) = e ∙ ap (λ z. fault.Syntax z) (syntax_syntax i end p q x y) ∙ sym d
  one_fault i end f g (inl (p, e, x)) (inr y) = absurd (syntax_past i end p g x y)
  one_fault i end f g (inr x) (inl (q, d, y)) = absurd (syntax_past i end q f y x)
  one_fault i end f g (inr x) (inr y) = past_past i f g x y

  pub unique : (i : Text) (end : Place) (a b : Result S.Tree ParseFault) → Means S i end a → Means S i end b → a ≡ b
  unique i end (Ok t) (Ok u) x y = ap Ok (unambiguous i t u x.0 y.0)
  unique i end (Ok t) (Err f) x y = absurd (tree_fault i end t f x (fault_is i end f y))
  unique i end (Err f) (Ok t) x y = absurd (tree_fault i end t f y (fault_is i end f x))
  unique i end (Err f) (Err g) x y = ap Err (one_fault i end f g (fault_is i end f x) (fault_is i end g y))

  pub exists : (i : Text) (end : Place) → (a : Result S.Tree ParseFault) × Means S i end a
  exists i end = (parsed S i end, sound S lawful i end)

  pub only : (i : Text) (end : Place) (a : Result S.Tree ParseFault) → Means S i end a → parsed S i end ≡ a
  only i end a x = unique i end (parsed S i end) a (sound S lawful i end) x

  -- ---- unless memory fails

  pub gives_means : (r : Result S.Tree ParseFault) (i : Text) (end : Place) → Gives r (parsed S i end) → MeansUnless S r i end
  gives_means (Ok t) i end g = subst (λ o. Means S i end o) g (sound S lawful i end)
  gives_means (Err e) i end g = λ h. subst (λ o. Means S i end o) (g h) (sound S lawful i end)

  pub gives_only : (r : Result S.Tree ParseFault) (i : Text) (end : Place) → Gives r (parsed S i end) → (a : Result S.Tree ParseFault) → Means S i end a → Gives r a
  gives_only r i end g a x = subst (λ o. Gives r o) (only i end a x) g
