-- The laws of a parser that is repeated as often as it can be.
use Rattle.std.proofs.Common.{◌≡◌, ℕ, zero, suc, Bool, true, false, cond, List, [], ◌∷◌, ◌++◌, length, ◌⊎◌, inl, inr, refl, sym, ap, ◌∙◌, subst, append_assoc, append-nil, arith, ◌≤◌, ◌<◌, length-append}
use Rattle.pc_grammar.specs.Combinators.{Text, Fault, Syntax, Out, Got, Stops, Parser, Lang, Class, starts, and_then, map_out, many_from, many, is_many}
use Rattle.pc_grammar.proofs.Outcomes.{Same, Ends, Begins, Read, Refused, Outcome, Laws, ahead, starts_same, begins_more, same_behind, starts_alike}

module _ {A : Type 0} (f : Class) (c e : Class) (L L' : Lang A) (p p' : Parser A) (laws : Laws c L L' p p')
    (here : (a : A) (w : Text) → L a w → Begins f w) (apart : (v : Text) → Begins f v → Ends c v)
    (free : (r : Text) → Ends e r → Ends f r) (last : (r : Text) → Ends e r → Ends c r) where
  record ManyRead (i : Text) (xs : List A) (r : Text) : Type 0 where
    word : Text
    split : i ≡ word ++ r
    says : is_many L xs word
    stable : (r' : Text) → Same r r' ⊎ Ends e r' → (k : ℕ) → length (word ++ r') ≤ k → (many_from k f p (word ++ r') ≡ Got xs r') × (many_from k f p' (word ++ r') ≡ Got xs r')

  record ManyRefused (i : Text) (m : Fault) (r : Text) : Type 0 where
    word : Text
    split : i ≡ word ++ r
    rest : Text
    tree : List A
    completes : is_many L' tree (word ++ rest)
    local : (r' : Text) → m ≡ Syntax → Same r r' → (k : ℕ) → length (word ++ r') ≤ k
        → (many_from k f p (word ++ r') ≡ Stops Syntax r') × (many_from k f p' (word ++ r') ≡ Stops Syntax r')

  abbrev ManyOutcome : Text → Out (List A) → Type 0
  ManyOutcome i (Got xs r) = ManyRead i xs r
  ManyOutcome i (Stops m r) = ManyRefused i m r

  many_grows : (xs : List A) (w : Text) → is_many L xs w → is_many L' xs w
  many_grows [] w l = l
  many_grows (a ∷ xs) w (u, v, s, l, m) = (u, v, s, laws.grows a u l, many_grows xs v m)

  many_opens : (xs : List A) (v r : Text) → is_many L xs v → Ends e r → Ends c (v ++ r)
  many_opens [] v r l h = rw l (last r h)
  many_opens (a ∷ xs) v r (u, w, s, l, m) h = rw s (apart ((u ++ w) ++ r) (begins_more f (u ++ w) r (begins_more f u w (here a u l))))

  -- one turn, with enough fuel
  turn : (q : Parser A) (k : ℕ) (i r s : Text) (a : A) (xs : List A) → Begins f i → length i ≤ k → length r < length i → q i ≡ Got a r
      → ((j : ℕ) → length r ≤ j → many_from j f q r ≡ Got xs s) → many_from k f q i ≡ Got (a ∷ xs) s
  turn q zero i r s a xs b n m g h = absurd (omega arith)
  turn q (suc k) i r s a xs b n m g h = rw (b, g, h k (omega arith)) refl

  turn_refused : (q : Parser A) (k : ℕ) (i r s : Text) (a : A) → Begins f i → length i ≤ k → length r < length i → q i ≡ Got a r
      → ((j : ℕ) → length r ≤ j → many_from j f q r ≡ Stops Syntax s) → many_from k f q i ≡ Stops Syntax s
  turn_refused q zero i r s a b n m g h = absurd (omega arith)
  turn_refused q (suc k) i r s a b n m g h = rw (b, g, h k (omega arith)) refl

  turn_stops : (q : Parser A) (k : ℕ) (i s : Text) → Begins f i → length i ≤ k → q i ≡ Stops Syntax s → many_from k f q i ≡ Stops Syntax s
  turn_stops q zero [] s b n g = absurd (cc)
  turn_stops q zero (t ∷ i) s b n g = absurd (omega arith)
  turn_stops q (suc k) i s b n g = rw (b, g) refl

  stop : (q : Parser A) (k : ℕ) (i : Text) → starts f i ≡ false → many_from k f q i ≡ Got [] i
  stop q zero i b = refl
  stop q (suc k) i b = rw b refl

  many_none : (i : Text) → starts f i ≡ false → ManyRead i [] i
  many_none i b = record { word = []; split = refl; says = refl; stable = λ r' h k n. (stop p k r' (avoids r' h), stop p' k r' (avoids r' h)) }
    where
      avoids : (r' : Text) → Same i r' ⊎ Ends e r' → starts f r' ≡ false
      avoids r' (inl s) = sym (starts_same f i r' s) ∙ b
      avoids r' (inr s) = free r' s

  longer : (w r : Text) → Begins f w → length r < length (w ++ r)
  longer [] r h = absurd (cc)
  longer (t ∷ w) r h = omega (arith, length-append w r)

  many_more : (i r : Text) (a : A) → Read c L p p' i a r → (o : Out (List A)) → ManyOutcome r o → ManyOutcome i (map_out (λ xs. a ∷ xs) o)
  many_more i r a x (Got xs s) y = record {
    word = x.word ++ y.word;
    split = x.split ∙ ap (λ z. x.word ++ z) y.split ∙ sym (append_assoc x.word y.word s);
    says = (x.word, y.word, refl, x.says, y.says);
    stable = more_stable;
  }
    where
      goes : (s' : Text) → Same s s' ⊎ Ends e s' → Same r (y.word ++ s') ⊎ Ends c (y.word ++ s')
      goes s' (inl h) = inl (subst (λ z. Same z (y.word ++ s')) (sym y.split) (same_behind y.word s s' h))
      goes s' (inr h) = inr (many_opens xs y.word s' y.says h)

      more_stable : (s' : Text) → Same s s' ⊎ Ends e s' → (k : ℕ) → length ((x.word ++ y.word) ++ s') ≤ k
          → (many_from k f p ((x.word ++ y.word) ++ s') ≡ Got (a ∷ xs) s') × (many_from k f p' ((x.word ++ y.word) ++ s') ≡ Got (a ∷ xs) s')
      more_stable s' h k n =
          let g = x.stable (y.word ++ s') (goes s' h) in
          let b = here a x.word x.says in
          let m : length (x.word ++ (y.word ++ s')) ≤ k = rw append_assoc at n in
          let b' = begins_more f x.word (y.word ++ s') b in
          let l = longer x.word (y.word ++ s') b in
          rw append_assoc (turn p k _ _ s' a xs b' m l g.0 (λ j o. (y.stable s' h j o).0), turn p' k _ _ s' a xs b' m l g.1 (λ j o. (y.stable s' h j o).1))
  many_more i r a x (Stops m s) y = record {
    word = x.word ++ y.word;
    split = x.split ∙ ap (λ z. x.word ++ z) y.split ∙ sym (append_assoc x.word y.word s);
    rest = y.rest;
    tree = a ∷ y.tree;
    completes = (x.word, y.word ++ y.rest, append_assoc x.word y.word y.rest, laws.grows a x.word x.says, y.completes);
    local = more_local;
  }
    where
      more_local : (r' : Text) → m ≡ Syntax → Same s r' → (k : ℕ) → length ((x.word ++ y.word) ++ r') ≤ k
          → (many_from k f p ((x.word ++ y.word) ++ r') ≡ Stops Syntax r') × (many_from k f p' ((x.word ++ y.word) ++ r') ≡ Stops Syntax r')
      more_local r' h j k n =
          let same : Same r (y.word ++ r') = subst (λ z. Same z (y.word ++ r')) (sym y.split) (same_behind y.word s r' j) in
          let g = x.stable (y.word ++ r') (inl same) in
          let b = here a x.word x.says in
          let n' : length (x.word ++ (y.word ++ r')) ≤ k = rw append_assoc at n in
          let b' = begins_more f x.word (y.word ++ r') b in
          let l = longer x.word (y.word ++ r') b in
          rw append_assoc (turn_refused p k _ _ r' a b' n' l g.0 (λ i' o. (y.local r' h j i' o).0), turn_refused p' k _ _ r' a b' n' l g.1 (λ i' o. (y.local r' h j i' o).1))

  many_refused : (i : Text) (m : Fault) (r : Text) → starts f i ≡ true → Refused L' p p' i m r → ManyRefused i m r
  many_refused i m r b x = record {
    word = x.word;
    split = x.split;
    rest = x.rest;
    tree = x.tree ∷ [];
    completes = (x.word ++ x.rest, [], sym (append-nil (x.word ++ x.rest)), x.completes, refl);
    local = λ r' h j k n.
        let g = x.local r' h j in
        let b' = starts_alike f i x.word r r' x.split j ∙ b in
        (turn_stops p k (x.word ++ r') r' b' n g.0, turn_stops p' k (x.word ++ r') r' b' n g.1);
  }

  many_after : (k : ℕ) (again : (j : Text) → length j ≤ k → ManyOutcome j (many_from k f p j)) (i : Text) → length i ≤ suc k → starts f i ≡ true → (o : Out A)
      → Outcome c L L' p p' i o → ManyOutcome i (and_then o (λ a r. map_out (λ xs. a ∷ xs) (many_from k f p r)))
  many_after k again i n b (Got a r) x =
      let l = longer x.word r (here a x.word x.says) in
      let n' : length r ≤ k = omega (arith, ap length x.split) in
      many_more i r a x (many_from k f p r) (again r n')
  many_after k again i n b (Stops m r) x = many_refused i m r b x

  many_by : (k : ℕ) (again : (j : Text) → length j ≤ k → ManyOutcome j (many_from k f p j)) (i : Text) → length i ≤ suc k → (b : Bool) → starts f i ≡ b
      → ManyOutcome i (cond b (and_then (p i) (λ a r. map_out (λ xs. a ∷ xs) (many_from k f p r))) (Got [] i))
  many_by k again i n true b = many_after k again i n b (p i) (laws.run i)
  many_by k again i n false b = many_none i b

  many_run : (k : ℕ) (i : Text) → length i ≤ k → ManyOutcome i (many_from k f p i)
  many_run zero [] n = many_none [] refl
  many_run zero (t ∷ i) n = absurd (omega arith)
  many_run (suc k) i n = many_by k (many_run k) i n (starts f i) refl

  many_whole : (i : Text) (o : Out (List A)) → ManyOutcome i o → Outcome e (is_many L) (is_many L') (many f p) (many f p') i o
  many_whole i (Got xs r) x = record { word = x.word; split = x.split; says = x.says; stable = λ r' h. x.stable r' h (length (x.word ++ r')) (omega arith) }
  many_whole i (Stops m r) x = record {
    word = x.word;
    split = x.split;
    rest = x.rest;
    tree = x.tree;
    completes = x.completes;
    local = λ r' h j. x.local r' h j (length (x.word ++ r')) (omega arith);
  }

  many_complete : (xs : List A) (w : Text) → is_many L xs w → (k : ℕ) → length w ≤ k → many_from k f p w ≡ Got xs []
  many_complete [] w l k n = rw l (stop p k [] refl)
  many_complete (a ∷ xs) w (u, v, s, l, m) k n =
      let b = here a u l in
      let ends : Ends c v = subst (λ z. Ends c z) (append-nil v) (many_opens xs v [] m refl) in
      let n' : length (u ++ v) ≤ k = rw s at n in
      rw s (turn p k (u ++ v) v [] a xs (begins_more f u v b) n' (longer u v b) (ahead c L L' p p' laws a u v l ends).0 (λ j o. many_complete xs v m j o))

  pub many_laws : Laws e (is_many L) (is_many L') (many f p) (many f p')
  many_laws = record {
    run = λ i. many_whole i (many f p i) (many_run (length i) i (omega arith));
    complete = λ xs w l. many_complete xs w l (length w) (omega arith);
    grows = many_grows;
    example = ([], [], refl);
  }
