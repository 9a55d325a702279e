-- What a parser that keeps the laws at every depth says of whole texts.
use Rattle.std.proofs.Common.{◌≡◌, ℕ, zero, suc, ◌+◌, [], ◌∷◌, ◌++◌, refl, sym, ◌∙◌, subst, inr, arith, append-nil}
use Rattle.std.proofs.lemmas.List.{append_cancel_right}
use Rattle.pc_grammar.specs.declared.symbol.Symbol.{Symbol}
use Rattle.pc_grammar.specs.Combinators.{Text, Parser, Lang, Out, Got, Stops, Syntax, Deep, none, whole}
use Rattle.pc_grammar.proofs.Outcomes.{Laws, Same, Read, Refused, Outcome, same-refl}
use Rattle.pc_grammar.proofs.Sets.{none_ends}

-- what is before a syntax fault begins a text of the language, and goes on to none with the same next symbol, at any depth
pub record IsRefusal {A : Type 0} (L : ℕ → Lang A) (i r : Text) : Type 0 where
  pub before : Text
  pub split : i ≡ before ++ r
  pub depth : ℕ
  pub tree : A
  pub rest : Text
  pub begins : L depth tree (before ++ rest)
  pub ends : (n : ℕ) (a : A) (r' : Text) → Same r r' → L n a (before ++ r') → ⊥

module _ {A : Type 0} (L : ℕ → Lang A) (p : ℕ → Parser A) (laws : (n : ℕ) → Laws none (L n) (L (suc n)) (p n) (p (suc n))) where
  abbrev At : ℕ → Text → Out A → Type 0
  At n i o = Outcome none (L n) (L (suc n)) (p n) (p (suc n)) i o

  refused_step : (n : ℕ) (w r r' : Text) → p n (w ++ r) ≡ Stops Syntax r → Same r r' → (p n (w ++ r') ≡ Stops Syntax r') × (p (suc n) (w ++ r') ≡ Stops Syntax r')
  refused_step n w r r' e s =
      let x : Refused (L (suc n)) (p n) (p (suc n)) (w ++ r) Syntax r = subst (λ o. At n (w ++ r) o) e ((laws n).run (w ++ r)) in
      let same : x.word ≡ w = sym (append_cancel_right w x.word r x.split) in
      subst (λ z. (p n (z ++ r') ≡ Stops Syntax r') × (p (suc n) (z ++ r') ≡ Stops Syntax r')) same (x.local r' refl s)

  got_step : (n : ℕ) (w r r' : Text) (a : A) → p n (w ++ r) ≡ Got a r → (p n (w ++ r') ≡ Got a r') × (p (suc n) (w ++ r') ≡ Got a r')
  got_step n w r r' a e =
      let x : Read none (L n) (p n) (p (suc n)) (w ++ r) a r = subst (λ o. At n (w ++ r) o) e ((laws n).run (w ++ r)) in
      let same : x.word ≡ w = sym (append_cancel_right w x.word r x.split) in
      subst (λ z. (p n (z ++ r') ≡ Got a r') × (p (suc n) (z ++ r') ≡ Got a r')) same (x.stable r' (inr (none_ends r')))

  refused_up : (d n : ℕ) (w r r' : Text) → p n (w ++ r) ≡ Stops Syntax r → Same r r' → p (n + d) (w ++ r') ≡ Stops Syntax r'
  refused_up zero n w r r' e s = let z : n + zero ≡ n = omega arith in rw z (refused_step n w r r' e s).0
  refused_up (suc d) n w r r' e s = let z : n + suc d ≡ suc (n + d) = omega arith in rw z (refused_step (n + d) w r' r' (refused_up d n w r r' e s) (same-refl r')).1

  got_up : (d n : ℕ) (w r r' : Text) (a : A) → p n (w ++ r) ≡ Got a r → p (n + d) (w ++ r') ≡ Got a r'
  got_up zero n w r r' a e = let z : n + zero ≡ n = omega arith in rw z (got_step n w r r' a e).0
  got_up (suc d) n w r r' a e = let z : n + suc d ≡ suc (n + d) = omega arith in rw z (got_step (n + d) w r' r' a (got_up d n w r r' a e)).1

  grows_up : (d n : ℕ) (a : A) (w : Text) → L n a w → L (d + n) a w
  grows_up zero n a w l = let z : zero + n ≡ n = omega arith in subst (λ k. L k a w) (sym z) l
  grows_up (suc d) n a w l = let z : suc d + n ≡ suc (d + n) = omega arith in subst (λ k. L k a w) (sym z) ((laws (d + n)).grows a w (grows_up d n a w l))

  -- a text of the language is read at each greater depth
  read_up : (d n : ℕ) (a : A) (w : Text) → L n a w → p (d + n) w ≡ Got a []
  read_up d n a w l = (laws (d + n)).complete a w (grows_up d n a w l)

  -- a text has one tree
  pub one_tree : (n m : ℕ) (a b : A) (w : Text) → L n a w → L m b w → a ≡ b
  one_tree n m a b w l k =
      let e = read_up m n a w l in
      let f = read_up n m b w k in
      let z : n + m ≡ m + n = omega arith in
      let g : p (m + n) w ≡ Got b [] = subst (λ j. p j w ≡ Got b []) z f in
      cc

  behind : (n m : ℕ) (w r r' : Text) (t : Symbol) (x : Text) (a b : A) → p n (w ++ r) ≡ Got a r → r ≡ t ∷ x → Same r r' → L m b (w ++ r') → ⊥
  behind n m w r [] t x a b e j s l = absurd (subst (λ z. Same z []) j s)
  behind n m w r (y ∷ r') t x a b e j s l = let g = got_up m n w r (y ∷ r') a e in let h = read_up n m b (w ++ y ∷ r') l in absurd (cc)

  -- what the outcome for a whole text says
  abbrev pub Says : ℕ → Text → Out A → Type 0
  Says n i (Got a []) = L n a i
  Says n i (Got a (s ∷ r)) = ⊥
  Says n i (Stops Syntax r) = IsRefusal L i r
  Says n i (Stops Deep r) = p n i ≡ Stops Deep r

  says_at : (n : ℕ) (i : Text) (o : Out A) → p n i ≡ o → At n i o → Says n i (whole o)
  says_at n i (Got a []) e x = subst (λ z. L n a z) (sym (x.split ∙ append-nil x.word)) x.says
  says_at n i (Got a (t ∷ r)) e x = record {
    before = x.word;
    split = x.split;
    depth = n;
    tree = a;
    rest = [];
    begins = subst (λ z. L n a z) (sym (append-nil x.word)) x.says;
    ends = λ m b r' s l. let h : p n (x.word ++ t ∷ r) ≡ Got a (t ∷ r) = subst (λ z. p n z ≡ Got a (t ∷ r)) x.split e in behind n m x.word (t ∷ r) r' t r a b h refl s l;
  }
  says_at n i (Stops Syntax r) e x = record {
    before = x.word;
    split = x.split;
    depth = suc n;
    tree = x.tree;
    rest = x.rest;
    begins = x.completes;
    ends = λ m b r' s l.
        let h : p n (x.word ++ r) ≡ Stops Syntax r = subst (λ z. p n z ≡ Stops Syntax r) x.split e in
        let g = refused_up m n x.word r r' h s in let k = read_up n m b (x.word ++ r') l in absurd (cc);
  }
  says_at n i (Stops Deep r) e x = e

  pub says : (n : ℕ) (i : Text) → Says n i (whole (p n i))
  says n i = says_at n i (p n i) refl ((laws n).run i)
