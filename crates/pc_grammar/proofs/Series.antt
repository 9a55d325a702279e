-- Laws of a series.
use Rattle.std.proofs.Common.{◌≡◌, ℕ, zero, suc, Bool, true, false, cond, List, [], ◌∷◌, ◌++◌, length, Option, Some, None, ◌⊎◌, inl, inr, refl, sym, ap, ◌∙◌, subst, append_assoc, arith, ◌≤◌, ◌<◌, length-append, append-nil}
use Rattle.pc_grammar.specs.Combinators.{Text, Fault, Syntax, Out, Got, Stops, Parser, Lang, Class, starts, and_then, map_out, Part, More, Last, goes_on, series_from, series, in_series, is_series}
use Rattle.pc_grammar.proofs.Outcomes.{Same, Ends, Begins, Read, Refused, Outcome, Laws, begins_more, starts_same, starts_alike, same_behind, ahead}

module _ {A Z : Type 0} (f : Class) (c e : Class) (L L' : Lang (Part A Z)) (p p' : Parser (Part A Z)) (laws : Laws c L L' p p')
    (here : (a : Part A Z) (w : Text) → L a w → Begins f w) (apart : (v : Text) → Begins f v → Ends c v)
    (free : (r : Text) → Ends e r → Ends f r) (last : (r : Text) → Ends e r → Ends c r) where
  abbrev Whole : Type 0
  Whole = List A × Option Z

  abbrev put : A → Whole → Whole
  put a x = (a ∷ x.0, x.1)

  record SeriesRead (i : Text) (xs : Whole) (r : Text) : Type 0 where
    word : Text
    split : i ≡ word ++ r
    says : is_series L xs word
    stable : (r' : Text) → Same r r' ⊎ Ends e r' → (k : ℕ) → length (word ++ r') ≤ k → (series_from k f p (word ++ r') ≡ Got xs r') × (series_from k f p' (word ++ r') ≡ Got xs r')

  record SeriesRefused (i : Text) (m : Fault) (r : Text) : Type 0 where
    word : Text
    split : i ≡ word ++ r
    rest : Text
    tree : Whole
    completes : is_series L' tree (word ++ rest)
    local : (r' : Text) → m ≡ Syntax → Same r r' → (k : ℕ) → length (word ++ r') ≤ k
        → (series_from k f p (word ++ r') ≡ Stops Syntax r') × (series_from k f p' (word ++ r') ≡ Stops Syntax r')

  abbrev SeriesOutcome : Text → Out Whole → Type 0
  SeriesOutcome i (Got xs r) = SeriesRead i xs r
  SeriesOutcome i (Stops m r) = SeriesRefused i m r

  series_grows : (xs : List A) (o : Option Z) (w : Text) → in_series L xs o w → in_series L' xs o w
  series_grows [] None w l = l
  series_grows [] (Some z) w l = laws.grows (Last z) w l
  series_grows (a ∷ xs) o w (u, v, s, l, m) = (u, v, s, laws.grows (More a) u l, series_grows xs o v m)

  pub series_opens : (xs : List A) (o : Option Z) (v r : Text) → in_series L xs o v → Ends e r → Ends c (v ++ r)
  series_opens [] None v r l h = rw l (last r h)
  series_opens [] (Some z) v r l h = apart (v ++ r) (begins_more f v r (here (Last z) v l))
  series_opens (a ∷ xs) o v r (u, w, s, l, m) h = rw s (apart ((u ++ w) ++ r) (begins_more f (u ++ w) r (begins_more f u w (here (More a) u l))))

  turn : (q : Parser (Part A Z)) (k : ℕ) (i r s : Text) (a : A) (xs : Whole) → Begins f i → length i ≤ k → length r < length i → q i ≡ Got (More a) r
      → ((j : ℕ) → length r ≤ j → series_from j f q r ≡ Got xs s) → series_from k f q i ≡ Got (put a xs) s
  turn q zero i r s a xs b n m g h = absurd (omega arith)
  turn q (suc k) i r s a xs b n m g h = rw (b, g, h k (omega arith)) refl

  turn_last : (q : Parser (Part A Z)) (k : ℕ) (i r : Text) (z : Z) → Begins f i → length i ≤ k → q i ≡ Got (Last z) r → series_from k f q i ≡ Got ([], Some z) r
  turn_last q zero [] r z b n g = absurd (cc)
  turn_last q zero (t ∷ i) r z b n g = absurd (omega arith)
  turn_last q (suc k) i r z b n g = rw (b, g) refl

  turn_refused : (q : Parser (Part A Z)) (k : ℕ) (i r s : Text) (a : A) → Begins f i → length i ≤ k → length r < length i → q i ≡ Got (More a) r
      → ((j : ℕ) → length r ≤ j → series_from j f q r ≡ Stops Syntax s) → series_from k f q i ≡ Stops Syntax s
  turn_refused q zero i r s a b n m g h = absurd (omega arith)
  turn_refused q (suc k) i r s a b n m g h = rw (b, g, h k (omega arith)) refl

  turn_stops : (q : Parser (Part A Z)) (k : ℕ) (i s : Text) → Begins f i → length i ≤ k → q i ≡ Stops Syntax s → series_from k f q i ≡ Stops Syntax s
  turn_stops q zero [] s b n g = absurd (cc)
  turn_stops q zero (t ∷ i) s b n g = absurd (omega arith)
  turn_stops q (suc k) i s b n g = rw (b, g) refl

  stop : (q : Parser (Part A Z)) (k : ℕ) (i : Text) → starts f i ≡ false → series_from k f q i ≡ Got ([], None) i
  stop q zero i b = refl
  stop q (suc k) i b = rw b refl

  series_none : (i : Text) → starts f i ≡ false → SeriesRead i ([], None) i
  series_none i b = record { word = []; split = refl; says = refl; stable = λ r' h k n. (stop p k r' (avoids r' h), stop p' k r' (avoids r' h)) }
    where
      avoids : (r' : Text) → Same i r' ⊎ Ends e r' → starts f r' ≡ false
      avoids r' (inl s) = sym (starts_same f i r' s) ∙ b
      avoids r' (inr s) = free r' s

  longer : (w r : Text) → Begins f w → length r < length (w ++ r)
  longer [] r h = absurd (cc)
  longer (t ∷ w) r h = omega (arith, length-append w r)

  item_ends : (r r' : Text) → Same r r' ⊎ Ends e r' → Same r r' ⊎ Ends c r'
  item_ends r r' (inl h) = inl h
  item_ends r r' (inr h) = inr (last r' h)

  series_last : (i r : Text) (z : Z) → Read c L p p' i (Last z) r → SeriesRead i ([], Some z) r
  series_last i r z x = record {
    word = x.word;
    split = x.split;
    says = x.says;
    stable = λ r' h k n. let g = x.stable r' (item_ends r r' h) in let b = begins_more f x.word r' (here (Last z) x.word x.says) in
        (turn_last p k (x.word ++ r') r' z b n g.0, turn_last p' k (x.word ++ r') r' z b n g.1);
  }

  series_more : (i r : Text) (a : A) → Read c L p p' i (More a) r → (o : Out Whole) → SeriesOutcome r o → SeriesOutcome i (map_out (put a) o)
  series_more i r a x (Got xs s) y = record {
    word = x.word ++ y.word;
    split = x.split ∙ ap (λ z. x.word ++ z) y.split ∙ sym (append_assoc x.word y.word s);
    says = (x.word, y.word, refl, x.says, y.says);
    stable = more_stable;
  }
    where
      goes : (s' : Text) → Same s s' ⊎ Ends e s' → Same r (y.word ++ s') ⊎ Ends c (y.word ++ s')
      goes s' (inl h) = inl (subst (λ z. Same z (y.word ++ s')) (sym y.split) (same_behind y.word s s' h))
      goes s' (inr h) = inr (series_opens xs.0 xs.1 y.word s' y.says h)

      more_stable : (s' : Text) → Same s s' ⊎ Ends e s' → (k : ℕ) → length ((x.word ++ y.word) ++ s') ≤ k
          → (series_from k f p ((x.word ++ y.word) ++ s') ≡ Got (put a xs) s') × (series_from k f p' ((x.word ++ y.word) ++ s') ≡ Got (put a xs) s')
      more_stable s' h k n =
          let g = x.stable (y.word ++ s') (goes s' h) in
          let b = here (More a) x.word x.says in
          let m : length (x.word ++ (y.word ++ s')) ≤ k = rw append_assoc at n in
          let b' = begins_more f x.word (y.word ++ s') b in
          let l = longer x.word (y.word ++ s') b in
          rw append_assoc (turn p k _ _ s' a xs b' m l g.0 (λ j o. (y.stable s' h j o).0), turn p' k _ _ s' a xs b' m l g.1 (λ j o. (y.stable s' h j o).1))
  series_more i r a x (Stops m s) y = record {
    word = x.word ++ y.word;
    split = x.split ∙ ap (λ z. x.word ++ z) y.split ∙ sym (append_assoc x.word y.word s);
    rest = y.rest;
    tree = put a y.tree;
    completes = (x.word, y.word ++ y.rest, append_assoc x.word y.word y.rest, laws.grows (More a) x.word x.says, y.completes);
    local = more_local;
  }
    where
      more_local : (r' : Text) → m ≡ Syntax → Same s r' → (k : ℕ) → length ((x.word ++ y.word) ++ r') ≤ k
          → (series_from k f p ((x.word ++ y.word) ++ r') ≡ Stops Syntax r') × (series_from k f p' ((x.word ++ y.word) ++ r') ≡ Stops Syntax r')
      more_local r' h j k n =
          let same : Same r (y.word ++ r') = subst (λ z. Same z (y.word ++ r')) (sym y.split) (same_behind y.word s r' j) in
          let g = x.stable (y.word ++ r') (inl same) in
          let b = here (More a) x.word x.says in
          let n' : length (x.word ++ (y.word ++ r')) ≤ k = rw append_assoc at n in
          let b' = begins_more f x.word (y.word ++ r') b in
          let l = longer x.word (y.word ++ r') b in
          rw append_assoc (turn_refused p k _ _ r' a b' n' l g.0 (λ i' o. (y.local r' h j i' o).0), turn_refused p' k _ _ r' a b' n' l g.1 (λ i' o. (y.local r' h j i' o).1))

  single : (x : Part A Z) (w : Text) → L' x w → (xs : Whole) × is_series L' xs w
  single (More a) w l = ((a ∷ [], None), (w, [], sym (append-nil w), l, refl))
  single (Last z) w l = (([], Some z), l)

  series_refused : (i : Text) (m : Fault) (r : Text) → starts f i ≡ true → Refused L' p p' i m r → SeriesRefused i m r
  series_refused i m r b x = let o = single x.tree (x.word ++ x.rest) x.completes in record {
    word = x.word;
    split = x.split;
    rest = x.rest;
    tree = o.0;
    completes = o.1;
    local = λ r' h j k n.
        let g = x.local r' h j in
        let b' = starts_alike f i x.word r r' x.split j ∙ b in
        (turn_stops p k (x.word ++ r') r' b' n g.0, turn_stops p' k (x.word ++ r') r' b' n g.1);
  }

  series_after : (k : ℕ) (again : (j : Text) → length j ≤ k → SeriesOutcome j (series_from k f p j)) (i : Text) → length i ≤ suc k → starts f i ≡ true → (o : Out (Part A Z))
      → Outcome c L L' p p' i o → SeriesOutcome i (and_then o (goes_on (series_from k f p)))
  series_after k again i n b (Got (More a) r) x =
      let l = longer x.word r (here (More a) x.word x.says) in
      let n' : length r ≤ k = omega (arith, ap length x.split) in
      series_more i r a x (series_from k f p r) (again r n')
  series_after k again i n b (Got (Last z) r) x = series_last i r z x
  series_after k again i n b (Stops m r) x = series_refused i m r b x

  series_by : (k : ℕ) (again : (j : Text) → length j ≤ k → SeriesOutcome j (series_from k f p j)) (i : Text) → length i ≤ suc k → (b : Bool) → starts f i ≡ b
      → SeriesOutcome i (cond b (and_then (p i) (goes_on (series_from k f p))) (Got ([], None) i))
  series_by k again i n true b = series_after k again i n b (p i) (laws.run i)
  series_by k again i n false b = series_none i b

  series_run : (k : ℕ) (i : Text) → length i ≤ k → SeriesOutcome i (series_from k f p i)
  series_run zero [] n = series_none [] refl
  series_run zero (t ∷ i) n = absurd (omega arith)
  series_run (suc k) i n = series_by k (series_run k) i n (starts f i) refl

  series_whole : (i : Text) (o : Out Whole) → SeriesOutcome i o → Outcome e (is_series L) (is_series L') (series f p) (series f p') i o
  series_whole i (Got xs r) x = record { word = x.word; split = x.split; says = x.says; stable = λ r' h. x.stable r' h (length (x.word ++ r')) (omega arith) }
  series_whole i (Stops m r) x = record {
    word = x.word;
    split = x.split;
    rest = x.rest;
    tree = x.tree;
    completes = x.completes;
    local = λ r' h j. x.local r' h j (length (x.word ++ r')) (omega arith);
  }

  series_complete : (xs : List A) (o : Option Z) (w : Text) → in_series L xs o w → (k : ℕ) → length w ≤ k → series_from k f p w ≡ Got (xs, o) []
  series_complete [] None w l k n = rw l (stop p k [] refl)
  series_complete [] (Some z) w l k n = turn_last p k w [] z (here (Last z) w l) n (laws.complete (Last z) w l)
  series_complete (a ∷ xs) o w (u, v, s, l, m) k n =
      let b = here (More a) u l in
      let ends : Ends c v = subst (λ z. Ends c z) (append-nil v) (series_opens xs o v [] m refl) in
      let n' : length (u ++ v) ≤ k = rw s at n in
      rw s (turn p k (u ++ v) v [] a (xs, o) (begins_more f u v b) n' (longer u v b) (ahead c L L' p p' laws (More a) u v l ends).0 (λ j h. series_complete xs o v m j h))

  pub series_laws : Laws e (is_series L) (is_series L') (series f p) (series f p')
  series_laws = record {
    run = λ i. series_whole i (series f p i) (series_run (length i) i (omega arith));
    complete = λ x w l. series_complete x.0 x.1 w l (length w) (omega arith);
    grows = λ x w l. series_grows x.0 x.1 w l;
    example = (([], None), [], refl);
  }
