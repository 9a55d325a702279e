-- The symbols of the pieces of names derive them, and the walk declares them again.
use Rattle.std.proofs.Common.{◌≡◌, ◌+◌, ◌≤◌, refl, sym, ◌∙◌, ap, subst, arith, List, [], ◌∷◌, ◌++◌, append_assoc, length, length-append, map, true, Option, Some, None, Ok, append-nil}
use Rattle.std.specs.Prelude.{not, is_some}
use Rattle.std.proofs.lemmas.Bool.{lt-ltb}
use Rattle.pc_text.specs.Bytes.{Bytes}
use Rattle.pc_text.specs.Named.{number_of, AreDistinct}
use Rattle.pc_text.proofs.NameLemmas.{distinct_more, distinct_none}
use Rattle.pc_rows.specs.declared.row.TheConstants.{VARIABLES}
use Rattle.pc_grammar.specs.declared.symbol.Symbol.{Symbol}
use Rattle.pc_language.specs.declared.terminal.Terminal.TheVariants as terminal
use Rattle.pc_grammar.specs.Combinators.{is_both, is_many, is_maybe, is_map}
use Rattle.pc_grammar.specs.Terminals.{is_one}
use Rattle.pc_grammar.specs.Statements.{seconds, all_items}
use Rattle.pc_grammar.specs.Programs as grammar
use Rattle.pc_show.specs.Pieces.{Blank, LineEnd, Mark, Name}
use Rattle.pc_show.specs.Canonical.{further_names, names_pieces, locals_pieces}
use Rattle.pc_syntax.specs.Context.{word, declared_after}
use Rattle.pc_readback.specs.Showable.{differ_after, all_differ}
use Rattle.pc_program.proofs.Results.{and_is}
use Rattle.pc_readback.proofs.Derived.{Derive, Front, Given, derive_as, derive_map, derive_both, derive_one, derive_name, derive_none, derive_some, derive_nil, derive_cons}

-- ---- names that differ

not_some : {A : Type 0} (o : Option A) → not (is_some o) ≡ true → o ≡ None
not_some None h = refl
not_some (Some a) h = absurd (cc)

-- names behind names that differ
distinct_after : (before ws : List Bytes) → AreDistinct before → differ_after before ws ≡ true → AreDistinct (before ++ ws)
distinct_after before [] d h = rw (append-nil before) d
distinct_after before (w ∷ ws) d h =
    let p = and_is (not (is_some (number_of before w))) (differ_after (before ++ w ∷ []) ws) h in
    rw (← append_assoc before (w ∷ []) ws) (distinct_after (before ++ w ∷ []) ws (distinct_more before w d (not_some (number_of before w) p.0)) p.1)

pub all_distinct : (ws : List Bytes) → all_differ ws ≡ true → AreDistinct ws
all_distinct ws h = distinct_after [] ws distinct_none h

-- names in two parts
pub differ_parts : (before us vs : List Bytes) → differ_after before (us ++ vs) ≡ true → (differ_after before us ≡ true) × (differ_after (before ++ us) vs ≡ true)
differ_parts before [] vs h = (refl, rw (append-nil before) h)
differ_parts before (w ∷ us) vs h =
    let p = and_is (not (is_some (number_of before w))) (differ_after (before ++ w ∷ []) (us ++ vs)) h in
    let q = differ_parts (before ++ w ∷ []) us vs p.1 in
    (rw (p.0) (q.0), rw (← append_assoc before (w ∷ []) us) (q.1))

-- ---- their declaration

module _ (src : Bytes) where
  pub declared_again : (before ws : List Bytes) (xs : List Symbol) → map (word src) xs ≡ ws → differ_after before ws ≡ true → length before + length ws ≤ VARIABLES →
      declared_after src before xs ≡ Ok (before ++ ws)
  declared_again before [] [] e h few = ap Ok (sym (append-nil before))
  declared_again before [] (x ∷ xs) e h few = absurd (cc)
  declared_again before (w ∷ ws) [] e h few = absurd (cc)
  declared_again before (w ∷ ws) (x ∷ xs) e h few =
      let p = and_is (not (is_some (number_of before w))) (differ_after (before ++ w ∷ []) ws) h in
      let first : word src x ≡ w = cc in
      let others : map (word src) xs ≡ ws = cc in
      let fresh = not_some (number_of before w) p.0 in
      let n = length-append before (w ∷ []) in
      rw (first, fresh, lt-ltb (length before) VARIABLES (omega arith)) (declared_again (before ++ w ∷ []) ws xs others p.1 (omega arith) ∙ ap Ok (append_assoc before (w ∷ []) ws))

  -- ---- their symbols

  abbrev pub AreNames : List Bytes → List Symbol → Type 0
  AreNames ws xs = map (word src) xs ≡ ws

  abbrev AreBehind : List Bytes → List (Symbol × Symbol) → Type 0
  AreBehind ws ys = AreNames ws (seconds ys)

  abbrev IsBehind : Bytes → Symbol × Symbol → Type 0
  IsBehind w y = (y.0.terminal ≡ terminal.Comma) × (word src y.1 ≡ w)

  behind_more : (w : Bytes) (ws : List Bytes) (ys : List (Symbol × Symbol)) → Front src (IsBehind w) (AreBehind ws) ys → AreBehind (w ∷ ws) ys
  behind_more w ws [] h = absurd h
  behind_more w ws (y ∷ ys) h = rw (h.0.1, h.1) refl

  further_derive : (ws : List Bytes) → Derive src (further_names ws) (is_many (is_both (is_one terminal.Comma) (is_one terminal.Name))) (AreBehind ws)
  further_derive [] = derive_as src _ (λ ys. ys ≡ []) (AreBehind []) [] (λ ys e. rw e refl) (derive_nil src (is_both (is_one terminal.Comma) (is_one terminal.Name)))
  further_derive (w ∷ ws) = derive_as src _ (Front src (IsBehind w) (AreBehind ws)) (AreBehind (w ∷ ws)) (further_names (w ∷ ws)) (behind_more w ws)
      (derive_cons src _ (IsBehind w) (AreBehind ws) (Mark terminal.Comma ∷ Blank 1 ∷ Name w ∷ []) (further_names ws)
      (derive_both src _ _ _ _ (Mark terminal.Comma ∷ Blank 1 ∷ []) (Name w ∷ []) (derive_one src terminal.Comma refl) (derive_name src w)) (further_derive ws))

  names_derive : (w : Bytes) (ws : List Bytes) → Derive src (names_pieces (w ∷ ws)) grammar.is_names (AreNames (w ∷ ws))
  names_derive w ws = derive_map src all_items _ _ (AreNames (w ∷ ws)) (names_pieces (w ∷ ws)) (λ x h. rw (h.0, h.1) refl) (derive_both src _ _ _ (AreBehind ws) (Name w ∷ []) (further_names ws) (derive_name src w) (further_derive ws))

  given_names : (ws : List Bytes) (o : Option (List Symbol)) → Given src (AreNames ws) o → AreNames ws (grammar.given o)
  given_names ws None h = absurd h
  given_names ws (Some xs) h = h

  pub params_derive : (ws : List Bytes) → Derive src (names_pieces ws) (is_map grammar.given (is_maybe grammar.is_names)) (AreNames ws)
  params_derive [] = derive_map src grammar.given _ _ (AreNames []) [] (λ o e. rw e refl) (derive_none src grammar.is_names)
  params_derive (w ∷ ws) = derive_map src grammar.given _ _ (AreNames (w ∷ ws)) (names_pieces (w ∷ ws)) (given_names (w ∷ ws)) (derive_some src grammar.is_names _ (names_pieces (w ∷ ws)) (names_derive w ws))

  line_derives : (w : Bytes) (ws : List Bytes) → Derive src (locals_pieces (w ∷ ws)) grammar.is_var_line (AreNames (w ∷ ws))
  line_derives w ws = derive_map src grammar.var_names _ _ (AreNames (w ∷ ws)) (locals_pieces (w ∷ ws)) (λ x h. h.1.0)
      (derive_both src _ _ _ _ (Blank 2 ∷ Mark terminal.Var ∷ Blank 1 ∷ []) (names_pieces (w ∷ ws) ++ Mark terminal.Semicolon ∷ LineEnd ∷ [])
      (derive_one src terminal.Var refl) (derive_both src grammar.is_names _ (AreNames (w ∷ ws)) _ (names_pieces (w ∷ ws)) (Mark terminal.Semicolon ∷ LineEnd ∷ []) (names_derive w ws) (derive_one src terminal.Semicolon refl)))

  pub locals_derive : (ws : List Bytes) → Derive src (locals_pieces ws) grammar.is_locals (AreNames ws)
  locals_derive [] = derive_map src grammar.flat _ _ (AreNames []) [] (λ xss e. rw e refl) (derive_nil src grammar.is_var_line)
  locals_derive (w ∷ ws) = derive_map src grammar.flat _ (Front src (AreNames (w ∷ ws)) (λ xss. xss ≡ [])) (AreNames (w ∷ ws)) (locals_pieces (w ∷ ws)) by
      (subst (λ ps. Derive src ps (is_many grammar.is_var_line) (Front src (AreNames (w ∷ ws)) (λ xss. xss ≡ []))) (append-nil (locals_pieces (w ∷ ws)))
      (derive_cons src grammar.is_var_line (AreNames (w ∷ ws)) (λ xss. xss ≡ []) (locals_pieces (w ∷ ws)) [] (line_derives w ws) (derive_nil src grammar.is_var_line)))
    where
      by : (xss : List (List Symbol)) → Front src (AreNames (w ∷ ws)) (λ xss. xss ≡ []) xss → AreNames (w ∷ ws) (grammar.flat xss)
      by [] h = absurd h
      by (xs ∷ xss) h = rw (h.1, append-nil xs) (h.0)
