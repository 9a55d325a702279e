-- One turn of `many` and of `series`, as a loop of the descent makes it.
use Rattle.std.proofs.Common.{◌≡◌, ℕ, zero, suc, ◌≤◌, ◌<◌, Bool, true, false, cond, List, [], ◌∷◌, ◌++◌, length, Option, Some, None, refl, ap, subst, arith, length-append}
use Rattle.pc_grammar.specs.Combinators.{Text, Parser, Lang, Class, Out, Got, Stops, Fault, starts, and_then, map_out, many_from, many, Part, More, Last, goes_on, series_from, series}
use Rattle.pc_grammar.proofs.Outcomes.{Laws, Begins, Outcome, Read}

-- what is read of a word that begins with the class is shorter
pub progress_of : {A : Type 0} (f c : Class) (L L' : Lang A) (p p' : Parser A) → Laws c L L' p p' → ((a : A) (w : Text) → L a w → Begins f w)
    → (i r : Text) (a : A) → p i ≡ Got a r → length r < length i
progress_of f c L L' p p' laws here i r a e = at (subst (λ o. Outcome c L L' p p' i o) e (laws.run i))
  where
    longer : (w : Text) → Begins f w → length r < length (w ++ r)
    longer [] h = absurd (cc)
    longer (t ∷ w) h = omega (arith, length-append w r)

    at : Read c L p p' i a r → length r < length i
    at x = let l = longer x.word (here a x.word x.says) in omega (arith, ap length x.split)

pub map_twice : {A B C : Type 0} (g : B → C) (h : A → B) (k : A → C) → ((a : A) → g (h a) ≡ k a) → (o : Out A) → map_out g (map_out h o) ≡ map_out k o
map_twice g h k e (Got a r) = ap (λ c. Got c r) (e a)
map_twice g h k e (Stops q r) = refl

-- ---- many, with what a loop has gathered so far: `gather b xs` is what `b` becomes by the items `xs`

module _ {A : Type 0} (f : Class) (p : Parser A) (progress : (i r : Text) (a : A) → p i ≡ Got a r → length r < length i) where
  abbrev turn : ℕ → Text → Bool → Out A → Out (List A)
  turn k i b o = cond b (and_then o (λ a r. map_out (λ xs. a ∷ xs) (many_from k f p r))) (Got [] i)

  same_turn : (k j : ℕ) (i : Text) (b : Bool) (o : Out A) → p i ≡ o → length i ≤ suc k → length i ≤ suc j
      → ((r : Text) → length r ≤ k → length r ≤ j → many_from k f p r ≡ many_from j f p r) → turn k i b o ≡ turn j i b o
  same_turn k j i false o g n m again = refl
  same_turn k j i true (Stops q r) g n m again = refl
  same_turn k j i true (Got a r) g n m again = let l = progress i r a g in ap (map_out (λ xs. a ∷ xs)) (again r (omega arith) (omega arith))

  -- more turns than symbols change nothing
  same_fuel : (k j : ℕ) (i : Text) → length i ≤ k → length i ≤ j → many_from k f p i ≡ many_from j f p i
  same_fuel zero zero i n m = refl
  same_fuel zero (suc j) [] n m = refl
  same_fuel zero (suc j) (t ∷ i) n m = absurd (omega arith)
  same_fuel (suc k) zero [] n m = refl
  same_fuel (suc k) zero (t ∷ i) n m = absurd (omega arith)
  same_fuel (suc k) (suc j) i n m = same_turn k j i (starts f i) (p i) refl n m (same_fuel k j)

  many_stop : (i : Text) → starts f i ≡ false → many f p i ≡ Got [] i
  many_stop [] h = refl
  many_stop (t ∷ i) h = rw h refl

  many_refused : (i r : Text) (q : Fault) → starts f i ≡ true → p i ≡ Stops q r → many f p i ≡ Stops q r
  many_refused [] r q h g = absurd (cc)
  many_refused (t ∷ i) r q h g = rw (h, g) refl

  many_got : (i r : Text) (a : A) → starts f i ≡ true → p i ≡ Got a r → many f p i ≡ map_out (λ xs. a ∷ xs) (many f p r)
  many_got [] r a h g = absurd (cc)
  many_got (t ∷ i) r a h g =
      let l = progress (t ∷ i) r a g in
      let n : length r ≤ length i = omega arith in
      rw (h, g) (ap (map_out (λ xs. a ∷ xs)) (same_fuel (length i) (length r) r n (omega arith)))

module _ {A B : Type 0} (gather : B → List A → B) (f : Class) (p : Parser A) where
  abbrev pub gathered : B → Text → Out B
  gathered b i = map_out (gather b) (many f p i)

module _ {A B : Type 0} (gather : B → List A → B) (step : B → A → B) (base : (b : B) → gather b [] ≡ b) (more : (b : B) (a : A) (xs : List A) → gather b (a ∷ xs) ≡ gather (step b a) xs)
    (f : Class) (p : Parser A) (progress : (i r : Text) (a : A) → p i ≡ Got a r → length r < length i) where
  pub gathered_stop : (b : B) (i : Text) → starts f i ≡ false → gathered gather f p b i ≡ Got b i
  gathered_stop b i h = rw (many_stop f p progress i h) (ap (λ z. Got z i) (base b))

  pub gathered_refused : (b : B) (i r : Text) (q : Fault) → starts f i ≡ true → p i ≡ Stops q r → gathered gather f p b i ≡ Stops q r
  gathered_refused b i r q h g = rw (many_refused f p progress i r q h g) refl

  pub gathered_got : (b : B) (i r : Text) (a : A) → starts f i ≡ true → p i ≡ Got a r → gathered gather f p b i ≡ gathered gather f p (step b a) r
  gathered_got b i r a h g = rw (many_got f p progress i r a h g) (map_twice (gather b) (λ xs. a ∷ xs) (gather (step b a)) (more b a) (many f p r))

-- ---- series, likewise

module _ {A Z : Type 0} (f : Class) (p : Parser (Part A Z)) (progress : (i r : Text) (a : Part A Z) → p i ≡ Got a r → length r < length i) where
  abbrev series_turn : ℕ → Text → Bool → Out (Part A Z) → Out (List A × Option Z)
  series_turn k i b o = cond b (and_then o (goes_on (series_from k f p))) (Got ([], None) i)

  series_same_turn : (k j : ℕ) (i : Text) (b : Bool) (o : Out (Part A Z)) → p i ≡ o → length i ≤ suc k → length i ≤ suc j
      → ((r : Text) → length r ≤ k → length r ≤ j → series_from k f p r ≡ series_from j f p r) → series_turn k i b o ≡ series_turn j i b o
  series_same_turn k j i false o g n m again = refl
  series_same_turn k j i true (Stops q r) g n m again = refl
  series_same_turn k j i true (Got (Last z) r) g n m again = refl
  series_same_turn k j i true (Got (More a) r) g n m again = let l = progress i r (More a) g in ap (map_out (λ x. (a ∷ x.0, x.1))) (again r (omega arith) (omega arith))

  series_same_fuel : (k j : ℕ) (i : Text) → length i ≤ k → length i ≤ j → series_from k f p i ≡ series_from j f p i
  series_same_fuel zero zero i n m = refl
  series_same_fuel zero (suc j) [] n m = refl
  series_same_fuel zero (suc j) (t ∷ i) n m = absurd (omega arith)
  series_same_fuel (suc k) zero [] n m = refl
  series_same_fuel (suc k) zero (t ∷ i) n m = absurd (omega arith)
  series_same_fuel (suc k) (suc j) i n m = series_same_turn k j i (starts f i) (p i) refl n m (series_same_fuel k j)

  pub series_stop : (i : Text) → starts f i ≡ false → series f p i ≡ Got ([], None) i
  series_stop [] h = refl
  series_stop (t ∷ i) h = rw h refl

  pub series_refused : (i r : Text) (q : Fault) → starts f i ≡ true → p i ≡ Stops q r → series f p i ≡ Stops q r
  series_refused [] r q h g = absurd (cc)
  series_refused (t ∷ i) r q h g = rw (h, g) refl

  pub series_ended : (i r : Text) (z : Z) → starts f i ≡ true → p i ≡ Got (Last z) r → series f p i ≡ Got ([], Some z) r
  series_ended [] r z h g = absurd (cc)
  series_ended (t ∷ i) r z h g = rw (h, g) refl

  pub series_got : (i r : Text) (a : A) → starts f i ≡ true → p i ≡ Got (More a) r → series f p i ≡ map_out (λ x. (a ∷ x.0, x.1)) (series f p r)
  series_got [] r a h g = absurd (cc)
  series_got (t ∷ i) r a h g =
      let l = progress (t ∷ i) r (More a) g in
      let n : length r ≤ length i = omega arith in
      rw (h, g) (ap (map_out (λ x. (a ∷ x.0, x.1))) (series_same_fuel (length i) (length r) r n (omega arith)))
