-- The computed answer is what the symbols mean, for each start symbol.
use Rattle.std.proofs.Common.{◌≡◌, ◌+◌, ℕ, [], ◌∷◌, ◌++◌, length, take, Option, Some, None, Ok, Err, refl, sym, ap, ◌∙◌, subst, append_assoc, arith, length-append, append-nil}
use Rattle.std.proofs.lemmas.List.{append_cancel_left, take_at}
use Rattle.pc_text.specs.declared.place.Place.{Place}
use Rattle.pc_grammar.specs.declared.symbol.Symbol.{Symbol}
use Rattle.pc_grammar.specs.declared.fault.ParseFault.{ParseFault}
use Rattle.pc_grammar.specs.declared.fault.ParseFault.TheVariants as fault
use Rattle.pc_grammar.specs.declared.limits.Past.{Past}
use Rattle.pc_grammar.specs.Combinators.{Text, Out, Got, Stops, Syntax, Deep}
use Rattle.pc_grammar.specs.Starts.{Start, Derives}
use Rattle.pc_grammar.specs.Limits.{start, counts, first_past, Within, FirstPast}
use Rattle.pc_grammar.specs.Parsing.{Begins, Breaks, place_at, IsSyntax, IsPast, Means, front, read_whole, answer, parsed}
use Rattle.pc_grammar.proofs.Depths.{never_deep}
use Rattle.pc_grammar.proofs.Starts.{Lawful}
use Rattle.pc_grammar.proofs.Whole.{IsRefusal, Says, says}
use Rattle.pc_grammar.proofs.Scans.{OfLimit, within_front, fault_of, Scanned, scanned}

-- a text that ends with one symbol, and a front of it that ends before
front_of : (u b r : Text) (s x : Symbol) → u ++ s ∷ [] ≡ b ++ x ∷ r → (q : Text) × (u ≡ b ++ q)
front_of u [] r s x e = (u, refl)
front_of [] (y ∷ []) r s x e = absurd (cc)
front_of [] (y ∷ z ∷ b) r s x e = absurd (cc)
front_of (z ∷ u) (y ∷ b) r s x e =
    let same : z ≡ y = cc in
    let rest : u ++ s ∷ [] ≡ b ++ x ∷ r = cc in
    let q = front_of u b r s x rest in
    (q.0, ap (λ w. z ∷ w) q.1 ∙ ap (λ w. w ∷ (b ++ q.0)) same)

front_is : (i u v : Text) (s : Symbol) (n : ℕ) → i ≡ u ++ s ∷ v → length u ≡ n → take (n + 1) i ≡ u ++ s ∷ []
front_is i u v s n e l =
    let long : length (u ++ s ∷ []) ≡ n + 1 = omega (arith, length-append u (s ∷ [])) in
    ap (take (n + 1)) (e ∙ sym (append_assoc u (s ∷ []) v)) ∙ take_at (u ++ s ∷ []) v (n + 1) long

module _ (S : Start) (lawful : Lawful S) where
  abbrev Refusal : Text → Text → Type 0
  Refusal i r = IsRefusal S.language i r

  -- what the outcome says of the text
  abbrev pub Reading : Text → Out S.Tree → Type 0
  Reading i (Got t []) = Derives S t i
  Reading i (Got t (s ∷ r)) = ⊥
  Reading i (Stops Syntax r) = Refusal i r
  Reading i (Stops Deep r) = ⊥

  reading_at : (i : Text) (o : Out S.Tree) → Says S.language S.parser lawful.reads (length i + 1) i o → Reading i o
  reading_at i (Got t []) x = (length i + 1, x)
  reading_at i (Got t (s ∷ r)) x = x
  reading_at i (Stops Syntax r) x = x
  reading_at i (Stops Deep r) x = never_deep S.parser lawful.bounded i r x

  pub reading : (i : Text) → Reading i (read_whole S i)
  reading i = reading_at i (read_whole S i) (says S.language S.parser lawful.reads (length i + 1) i)

  -- ---- a refusal, of derivations alone

  refusal_begins : (i r : Text) (x : Refusal i r) → Begins S x.before
  refusal_begins i r x = (x.rest, x.tree, (x.depth, x.begins))

  -- whatever follows the symbol at the fault
  refusal_breaks : (i : Text) (s : Symbol) (r r' : Text) (x : Refusal i (s ∷ r)) → Breaks S x.before (s ∷ r')
  refusal_breaks i s r r' x (rest, t, (n, l)) = x.ends n t (s ∷ rest) refl (subst (λ z. S.language n t z) (append_assoc x.before (s ∷ []) rest) l)

  refusal_ends : (i : Text) (x : Refusal i []) → Breaks S x.before []
  refusal_ends i x t (n, l) = x.ends n t [] tt (subst (λ z. S.language n t z) (sym (append-nil x.before)) l)

  -- ---- with no symbol past a limit

  syntax_at : (i : Text) (end : Place) (r : Text) (x : Refusal i r) → Breaks S x.before r → Within S.most i [] → IsSyntax S i end (place_at r end)
  syntax_at i end r x b w = record {
    before = x.before;
    rest = r;
    split = x.split;
    begins = refusal_begins i r x;
    breaks = b;
    within =
        let h : counts S.most start (x.before ++ r) [] ≡ Ok w.0 = subst (λ z. counts S.most start z [] ≡ Ok w.0) x.split w.1 in
        let g = within_front S.most start w.0 x.before r [] h in
        (g.0, subst (λ z. counts S.most start x.before z ≡ Ok g.0) (append-nil r) g.1);
    at = refl;
  }

  within_means : (i : Text) (end : Place) (o : Out S.Tree) → Within S.most i [] → Reading i o → Means S i end (answer None end o)
  within_means i end (Got t []) w x = (x, w)
  within_means i end (Got t (s ∷ r)) w x = absurd x
  within_means i end (Stops Syntax []) w x = syntax_at i end [] x (refusal_ends i x) w
  within_means i end (Stops Syntax (s ∷ r)) w x = syntax_at i end (s ∷ r) x (refusal_breaks i s r r x) w
  within_means i end (Stops Deep r) w x = absurd x

  -- ---- with a symbol past a limit

  -- a fault of a limit
  limit_means : (i : Text) (end : Place) (f : ParseFault) → OfLimit f → IsPast S i f → Means S i end (Err f)
  limit_means i end (fault.TooDeep p) h x = x
  limit_means i end (fault.TooLong p) h x = x
  limit_means i end (fault.TooManyProcesses p) h x = x
  limit_means i end (fault.Syntax p) h x = absurd h
  limit_means i end fault.NoMemory h x = absurd h

  module _ (i : Text) (end : Place) (u v : Text) (s : Symbol) (f : ParseFault) (split : i ≡ u ++ s ∷ v) (past : FirstPast S.most u s v f) where
    is_past : Begins S (u ++ s ∷ []) → IsPast S i f
    is_past b = record { before = u; symbol = s; rest = v; split = split; begins = b; past = past }

    past_means : Begins S (u ++ s ∷ []) → Means S i end (Err f)
    past_means b = limit_means i end f (fault_of S.most past.0 s v f past.2) (is_past b)

    syntax_before : (x : Symbol) (r : Text) → Refusal (u ++ s ∷ []) (x ∷ r) → IsSyntax S i end x.place
    syntax_before x r h = at_front (front_of u h.before r s x h.split)
      where
        at_front : ((q : Text) × (u ≡ h.before ++ q)) → IsSyntax S i end x.place
        at_front (q, e) =
            let tail : q ++ s ∷ [] ≡ x ∷ r = append_cancel_left h.before (q ++ s ∷ []) (x ∷ r) (sym (append_assoc h.before q (s ∷ [])) ∙ ap (λ z. z ++ s ∷ []) (sym e) ∙ h.split) in
            let behind : q ++ s ∷ v ≡ x ∷ (r ++ v) = sym (append_assoc q (s ∷ []) v) ∙ ap (λ z. z ++ v) tail in
            let w = within_front S.most start past.0 h.before q (s ∷ v) (subst (λ z. counts S.most start z (s ∷ v) ≡ Ok past.0) e past.1) in
            record {
              before = h.before;
              rest = x ∷ (r ++ v);
              split = split ∙ ap (λ z. z ++ s ∷ v) e ∙ append_assoc h.before q (s ∷ v) ∙ ap (λ z. h.before ++ z) behind;
              begins = refusal_begins (u ++ s ∷ []) (x ∷ r) h;
              breaks = refusal_breaks (u ++ s ∷ []) x r (r ++ v) h;
              within = (w.0, subst (λ z. counts S.most start h.before z ≡ Ok w.0) behind w.1);
              at = refl;
            }

    past_front_means : (n : ℕ) (o : Out S.Tree) → Reading (u ++ s ∷ []) o → Means S i end (answer (Some (record { at = n; fault = f })) end o)
    past_front_means n (Got t []) x = past_means ([], t, (x.0, subst (λ z. S.language x.0 t z) (sym (append-nil (u ++ s ∷ []))) x.1))
    past_front_means n (Got t (y ∷ r)) x = absurd x
    past_front_means n (Stops Syntax []) x =
        past_means (subst (λ z. Begins S z) (sym (x.split ∙ append-nil x.before)) (refusal_begins (u ++ s ∷ []) [] x))
    past_front_means n (Stops Syntax (y ∷ r)) x = syntax_before y r x
    past_front_means n (Stops Deep r) x = absurd x

  -- ---- both

  means_at : (i : Text) (end : Place) (o : Option Past) → Scanned S.most start i o → Means S i end (answer o end (read_whole S (front o i)))
  means_at i end None w = within_means i end (read_whole S i) w (reading i)
  means_at i end (Some p) x =
      let e = front_is i x.before x.rest x.symbol p.at x.split x.here in
      let r : Reading (x.before ++ x.symbol ∷ []) (read_whole S (take (p.at + 1) i)) = subst (λ z. Reading z (read_whole S (take (p.at + 1) i))) e (reading (take (p.at + 1) i)) in
      past_front_means i end x.before x.rest x.symbol p.fault x.split (x.counts_here, x.within, x.past) p.at (read_whole S (take (p.at + 1) i)) r

  pub sound : (i : Text) (end : Place) → Means S i end (parsed S i end)
  sound i end = means_at i end (first_past S.most start i) (scanned S.most start i)
