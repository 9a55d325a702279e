-- The laws of parsers that are put together.
use Rattle.std.proofs.Common.{◌≡◌, Bool, true, false, cond, [], ◌∷◌, ◌++◌, Option, Some, None, ◌⊎◌, inl, inr, refl, sym, ap, ◌∙◌, subst, append_assoc, append-nil}
use Rattle.pc_grammar.specs.declared.symbol.Symbol.{Symbol}
use Rattle.pc_grammar.specs.Combinators.{Text, Syntax, Out, Got, Stops, Parser, Lang, Class, starts, token_if, token, is_token, and_then, map_out, both, is_both, map_parser, is_map, either, is_either, maybe, is_maybe, shut_if, shut, none, is_dead}
use Rattle.pc_grammar.proofs.Outcomes.{Same, Ends, Begins, Read, Outcome, Laws, ahead, starts_same, begins_more, refusing, same_behind, starts_alike}

-- ---- one token

token_run : (f : Class) (t₀ : Symbol) → f t₀ ≡ true → (i : Text) → Outcome none (is_token f) (is_token f) (token f) (token f) i (token f i)
token_run f t₀ h [] = record {
  word = [];
  split = refl;
  rest = t₀ ∷ [];
  tree = t₀;
  completes = (h, refl);
  local = λ r' k s. let g = refusing (token f) [] r' s refl (λ t x y e. absurd (cc)) in (g, g);
}
token_run f t₀ h (t ∷ r) = by (f t) refl
  where
    by : (b : Bool) → f t ≡ b → Outcome none (is_token f) (is_token f) (token f) (token f) (t ∷ r) (token_if b t r)
    by true e = record { word = t ∷ []; split = refl; says = (e, refl); stable = λ r' _. (rw e refl, rw e refl) }
    by false e = record {
      word = [];
      split = refl;
      rest = t₀ ∷ [];
      tree = t₀;
      completes = (h, refl);
      local = λ r' k s. let g = refusing (token f) (t ∷ r) r' s refl (λ u x y q. let same : t ≡ u = cc in let no : f u ≡ false = cc in rw no refl) in (g, g);
    }

pub token_laws : (f : Class) (t₀ : Symbol) → f t₀ ≡ true → Laws none (is_token f) (is_token f) (token f) (token f)
token_laws f t₀ h = record {
  run = token_run f t₀ h;
  complete = λ a w l. rw (l.1, l.0) refl;
  grows = λ a w l. l;
  example = (t₀, t₀ ∷ [], (h, refl));
}

-- ---- a tree made of what was read

module _ {A B : Type 0} (g : A → B) (c : Class) (L L' : Lang A) (p p' : Parser A) (laws : Laws c L L' p p') where
  map_run : (i : Text) (o : Out A) → Outcome c L L' p p' i o → Outcome c (is_map g L) (is_map g L') (map_parser g p) (map_parser g p') i (map_out g o)
  map_run i (Got a r) x = record {
    word = x.word;
    split = x.split;
    says = (a, refl, x.says);
    stable = λ r' s. let e = x.stable r' s in (rw (e.0) refl, rw (e.1) refl);
  }
  map_run i (Stops k r) x = record {
    word = x.word;
    split = x.split;
    rest = x.rest;
    tree = g x.tree;
    completes = (x.tree, refl, x.completes);
    local = λ r' h s. let q = x.local r' h s in (rw (q.0) refl, rw (q.1) refl);
  }

  map_complete : (b : B) (w : Text) → is_map g L b w → map_parser g p w ≡ Got b []
  map_complete b w l = rw (laws.complete l.0 w l.2, l.1) refl

  pub map_laws : Laws c (is_map g L) (is_map g L') (map_parser g p) (map_parser g p')
  map_laws = record {
    run = λ i. map_run i (p i) (laws.run i);
    complete = map_complete;
    grows = λ b w l. (l.0, l.1, laws.grows l.0 w l.2);
    example = let e = laws.example in (g e.0, e.1, (e.0, refl, e.2));
  }

-- ---- one after the other

module _ {A B : Type 0} (c d e : Class) (L L' : Lang A) (M M' : Lang B) (p p' : Parser A) (q q' : Parser B)
    (first : Laws c L L' p p') (second : Laws d M M' q q')
    (apart : (b : B) (v r : Text) → M b v → Ends e r → Ends c (v ++ r)) (last : (r : Text) → Ends e r → Ends d r) where
  both_got : (i r : Text) (a : A) → Read c L p p' i a r → (o : Out B) → Outcome d M M' q q' r o
      → Outcome e (is_both L M) (is_both L' M') (both p q) (both p' q') i (map_out (λ b. (a, b)) o)
  both_got i r a x (Got b s) y = record {
    word = x.word ++ y.word;
    split = x.split ∙ ap (λ z. x.word ++ z) y.split ∙ sym (append_assoc x.word y.word s);
    says = (x.word, y.word, refl, x.says, y.says);
    stable = both_stable;
  }
    where
      goes : (s' : Text) → Same s s' ⊎ Ends e s' → Same r (y.word ++ s') ⊎ Ends c (y.word ++ s')
      goes s' (inl h) = inl (subst (λ z. Same z (y.word ++ s')) (sym y.split) (same_behind y.word s s' h))
      goes s' (inr h) = inr (apart b y.word s' y.says h)

      ends : (s' : Text) → Same s s' ⊎ Ends e s' → Same s s' ⊎ Ends d s'
      ends s' (inl h) = inl h
      ends s' (inr h) = inr (last s' h)

      both_stable : (s' : Text) → Same s s' ⊎ Ends e s' → (both p q ((x.word ++ y.word) ++ s') ≡ Got (a, b) s') × (both p' q' ((x.word ++ y.word) ++ s') ≡ Got (a, b) s')
      both_stable s' h =
          let f = x.stable (y.word ++ s') (goes s' h) in
          let g = y.stable s' (ends s' h) in
          (rw (append_assoc x.word y.word s', f.0, g.0) refl, rw (append_assoc x.word y.word s', f.1, g.1) refl)
  both_got i r a x (Stops k s) y = record {
    word = x.word ++ y.word;
    split = x.split ∙ ap (λ z. x.word ++ z) y.split ∙ sym (append_assoc x.word y.word s);
    rest = y.rest;
    tree = (a, y.tree);
    completes = (x.word, y.word ++ y.rest, append_assoc x.word y.word y.rest, first.grows a x.word x.says, y.completes);
    local = both_local;
  }
    where
      both_local : (r' : Text) → k ≡ Syntax → Same s r' → (both p q ((x.word ++ y.word) ++ r') ≡ Stops Syntax r') × (both p' q' ((x.word ++ y.word) ++ r') ≡ Stops Syntax r')
      both_local r' h j =
          let same : Same r (y.word ++ r') = subst (λ z. Same z (y.word ++ r')) (sym y.split) (same_behind y.word s r' j) in
          let f = x.stable (y.word ++ r') (inl same) in
          let g = y.local r' h j in
          (rw (append_assoc x.word y.word r', f.0, g.0) refl, rw (append_assoc x.word y.word r', f.1, g.1) refl)

  both_run : (i : Text) (o : Out A) → Outcome c L L' p p' i o → Outcome e (is_both L M) (is_both L' M') (both p q) (both p' q') i (and_then o (λ a r. map_out (λ b. (a, b)) (q r)))
  both_run i (Got a r) x = both_got i r a x (q r) (second.run r)
  both_run i (Stops k r) x = let w = second.example in record {
    word = x.word;
    split = x.split;
    rest = x.rest ++ w.1;
    tree = (x.tree, w.0);
    completes = (x.word ++ x.rest, w.1, sym (append_assoc x.word x.rest w.1), x.completes, w.2);
    local = λ r' h j. let g = x.local r' h j in (rw (g.0) refl, rw (g.1) refl);
  }

  both_complete : (x : A × B) (w : Text) → is_both L M x w → both p q w ≡ Got x []
  both_complete x w (u, v, e₀, l, m) =
      let stop : Ends c v = subst (λ z. Ends c z) (append-nil v) (apart x.1 v [] m refl) in
      rw (e₀, (ahead c L L' p p' first x.0 u v l stop).0, second.complete x.1 v m) refl

  pub both_laws : Laws e (is_both L M) (is_both L' M') (both p q) (both p' q')
  both_laws = record {
    run = λ i. both_run i (p i) (first.run i);
    complete = both_complete;
    grows = λ x w l. (l.0, l.1, l.2, first.grows x.0 l.0 l.3, second.grows x.1 l.1 l.4);
    example = let f = first.example in let s = second.example in ((f.0, s.0), f.1 ++ s.1, (f.1, s.1, refl, f.2, s.2));
  }

-- ---- a choice by the next token

module _ {A : Type 0} (f : Class) (c : Class) (L L' M M' : Lang A) (p p' q q' : Parser A)
    (first : Laws c L L' p p') (second : Laws c M M' q q')
    (here : (a : A) (w : Text) → L a w → Begins f w) (there : (a : A) (w : Text) → M a w → (r : Text) → Ends c r → Ends f (w ++ r)) where
  either_first : (i : Text) → starts f i ≡ true → (o : Out A) → Outcome c L L' p p' i o → Outcome c (is_either L M) (is_either L' M') (either f p q) (either f p' q') i o
  either_first i b (Got a r) x = record {
    word = x.word;
    split = x.split;
    says = inl x.says;
    stable = λ r' h. let e = x.stable r' h in let g = begins_more f x.word r' (here a x.word x.says) in (rw (g, e.0) refl, rw (g, e.1) refl);
  }
  either_first i b (Stops k r) x = record {
    word = x.word;
    split = x.split;
    rest = x.rest;
    tree = x.tree;
    completes = inl x.completes;
    local = λ r' h j. let e = x.local r' h j in let g = starts_alike f i x.word r r' x.split j ∙ b in (rw (g, e.0) refl, rw (g, e.1) refl);
  }

  either_second : (i : Text) → starts f i ≡ false → (o : Out A) → Outcome c M M' q q' i o → Outcome c (is_either L M) (is_either L' M') (either f p q) (either f p' q') i o
  either_second i b (Got a r) x = record {
    word = x.word;
    split = x.split;
    says = inr x.says;
    stable = λ r' h. let e = x.stable r' h in let g = not_first a x.word r' x.says (avoids r' h) in (rw (g, e.0) refl, rw (g, e.1) refl);
  }
    where
      avoids : (r' : Text) → Same r r' ⊎ Ends c r' → (starts f (x.word ++ r') ≡ false) ⊎ Ends c r'
      avoids r' (inl s) = inl (sym (starts_same f (x.word ++ r) (x.word ++ r') (same_behind x.word r r' s)) ∙ sym (ap (starts f) x.split) ∙ b)
      avoids r' (inr s) = inr s

      not_first : (a : A) (w r' : Text) → M a w → (starts f (w ++ r') ≡ false) ⊎ Ends c r' → starts f (w ++ r') ≡ false
      not_first a w r' m (inl s) = s
      not_first a w r' m (inr s) = there a w m r' s
  either_second i b (Stops k r) x = record {
    word = x.word;
    split = x.split;
    rest = x.rest;
    tree = x.tree;
    completes = inr x.completes;
    local = λ r' h j. let e = x.local r' h j in let g = starts_alike f i x.word r r' x.split j ∙ b in (rw (g, e.0) refl, rw (g, e.1) refl);
  }

  either_run : (i : Text) (b : Bool) → starts f i ≡ b → Outcome c (is_either L M) (is_either L' M') (either f p q) (either f p' q') i (cond b (p i) (q i))
  either_run i true e = either_first i e (p i) (first.run i)
  either_run i false e = either_second i e (q i) (second.run i)

  either_complete : (a : A) (w : Text) → is_either L M a w → either f p q w ≡ Got a []
  either_complete a w (inl l) = rw (here a w l, first.complete a w l) refl
  either_complete a w (inr m) = let g : starts f w ≡ false = subst (λ z. starts f z ≡ false) (append-nil w) (there a w m [] refl) in rw (g, second.complete a w m) refl

  pub either_laws : Laws c (is_either L M) (is_either L' M') (either f p q) (either f p' q')
  either_laws = record {
    run = λ i. either_run i (starts f i) refl;
    complete = either_complete;
    grows = λ a w l. elim l [ inl x ↦ inl (first.grows a w x) | inr x ↦ inr (second.grows a w x) ];
    example = let e = first.example in (e.0, e.1, inl e.2);
  }

-- ---- what may be left out

module _ {A : Type 0} (f : Class) (c e : Class) (L L' : Lang A) (p p' : Parser A) (laws : Laws c L L' p p')
    (here : (a : A) (w : Text) → L a w → Begins f w) (free : (r : Text) → Ends e r → Ends f r) (last : (r : Text) → Ends e r → Ends c r) where
  maybe_some : (i : Text) → starts f i ≡ true → (o : Out A) → Outcome c L L' p p' i o → Outcome e (is_maybe L) (is_maybe L') (maybe f p) (maybe f p') i (map_out Some o)
  maybe_some i b (Got a r) x = record {
    word = x.word;
    split = x.split;
    says = x.says;
    stable = λ r' h. let g = begins_more f x.word r' (here a x.word x.says) in let s = x.stable r' (ends r' h) in (rw (g, s.0) refl, rw (g, s.1) refl);
  }
    where
      ends : (r' : Text) → Same r r' ⊎ Ends e r' → Same r r' ⊎ Ends c r'
      ends r' (inl h) = inl h
      ends r' (inr h) = inr (last r' h)
  maybe_some i b (Stops k r) x = record {
    word = x.word;
    split = x.split;
    rest = x.rest;
    tree = Some x.tree;
    completes = x.completes;
    local = λ r' h j. let s = x.local r' h j in let g = starts_alike f i x.word r r' x.split j ∙ b in (rw (g, s.0) refl, rw (g, s.1) refl);
  }

  maybe_none : (i : Text) → starts f i ≡ false → Read e (is_maybe L) (maybe f p) (maybe f p') i None i
  maybe_none i b = record {
    word = [];
    split = refl;
    says = refl;
    stable = λ r' h. let g = avoids r' h in (rw g refl, rw g refl);
  }
    where
      avoids : (r' : Text) → Same i r' ⊎ Ends e r' → starts f r' ≡ false
      avoids r' (inl s) = sym (starts_same f i r' s) ∙ b
      avoids r' (inr s) = free r' s

  maybe_run : (i : Text) (b : Bool) → starts f i ≡ b → Outcome e (is_maybe L) (is_maybe L') (maybe f p) (maybe f p') i (cond b (map_out Some (p i)) (Got None i))
  maybe_run i true g = maybe_some i g (p i) (laws.run i)
  maybe_run i false g = maybe_none i g

  maybe_complete : (a : Option A) (w : Text) → is_maybe L a w → maybe f p w ≡ Got a []
  maybe_complete None w l = rw l refl
  maybe_complete (Some a) w l = rw (here a w l, laws.complete a w l) refl

  pub maybe_laws : Laws e (is_maybe L) (is_maybe L') (maybe f p) (maybe f p')
  maybe_laws = record {
    run = λ i. maybe_run i (starts f i) refl;
    complete = maybe_complete;
    grows = λ a w l. maybe_grows a w l;
    example = (None, [], refl);
  }
    where
      maybe_grows : (a : Option A) (w : Text) → is_maybe L a w → is_maybe L' a w
      maybe_grows None w l = l
      maybe_grows (Some a) w l = laws.grows a w l

-- ---- no more nesting

module _ {A : Type 0} (f : Class) (L' : Lang A) (p' : Parser A) (t₀ : Symbol) (h₀ : f t₀ ≡ true)
    (end : p' [] ≡ Stops Syntax []) (refuses : (t : Symbol) (r : Text) → f t ≡ false → p' (t ∷ r) ≡ Stops Syntax (t ∷ r)) (example : (t : Symbol) → f t ≡ true → (a : A) × (w : Text) × L' a (t ∷ w)) where
  shut_run : (i : Text) (b : Bool) → starts f i ≡ b → Outcome none is_dead L' (shut f) p' i (shut_if b i)
  shut_run [] true b = absurd (cc)
  shut_run (t ∷ i) true b = let e = example t b in record {
    word = [];
    split = refl;
    rest = t ∷ e.1;
    tree = e.0;
    completes = e.2;
    local = λ r' k s. absurd (cc);
  }
  shut_run i false b = let e = example t₀ h₀ in record {
    word = [];
    split = refl;
    rest = t₀ ∷ e.1;
    tree = e.0;
    completes = e.2;
    local = λ r' k s. (refusing (shut f) i r' s refl (λ t x y e. rw (no t x e) refl), refusing p' i r' s end (λ t x y e. refuses t y (no t x e)));
  }
    where
      no : (t : Symbol) (x : Text) → i ≡ t ∷ x → f t ≡ false
      no t x e = sym (ap (starts f) e) ∙ b

  pub shut_laws : Laws none is_dead L' (shut f) p'
  shut_laws = record {
    run = λ i. shut_run i (starts f i) refl;
    complete = λ a w l. absurd l;
    grows = λ a w l. absurd l;
    example = let e = example t₀ h₀ in (e.0, t₀ ∷ e.1, e.2);
  }

-- ---- the same language in other words, and fewer tokens that end a word

module _ {A : Type 0} (c e : Class) (L L' K K' : Lang A) (p p' : Parser A) (laws : Laws c L L' p p') (last : (r : Text) → Ends e r → Ends c r)
    (to : (a : A) (w : Text) → L a w → K a w) (to' : (a : A) (w : Text) → L' a w → K' a w) (back : (a : A) (w : Text) → K a w → L a w) where
  alike_run : (i : Text) (o : Out A) → Outcome c L L' p p' i o → Outcome e K K' p p' i o
  alike_run i (Got a r) x = record { word = x.word; split = x.split; says = to a x.word x.says; stable = λ r' h. x.stable r' (ends r' h) }
    where
      ends : (r' : Text) → Same r r' ⊎ Ends e r' → Same r r' ⊎ Ends c r'
      ends r' (inl h) = inl h
      ends r' (inr h) = inr (last r' h)
  alike_run i (Stops k r) x = record { word = x.word; split = x.split; rest = x.rest; tree = x.tree; completes = to' x.tree (x.word ++ x.rest) x.completes; local = x.local }

  pub alike_laws : Laws e K K' p p'
  alike_laws = record {
    run = λ i. alike_run i (p i) (laws.run i);
    complete = λ a w k. laws.complete a w (back a w k);
    grows = λ a w k. to' a w (laws.grows a w (back a w k));
    example = (laws.example.0, laws.example.1, to' laws.example.0 laws.example.1 laws.example.2);
  }
