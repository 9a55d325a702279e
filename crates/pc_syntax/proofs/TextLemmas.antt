-- What texts are, by the function that reads them, for each reading.
use Rattle.std.proofs.Common.{◌≡◌, refl, sym, ◌∙◌, ap, subst, List, length, inl, inr, Result, Ok, Err}
use Rattle.std.specs.Prelude.{IfErr, IfOk, ◌≢◌, ◌⊎◌}
use Rattle.pc_text.specs.Bytes.{Bytes}
use Rattle.pc_text.specs.Places.{place_of}
use Rattle.pc_text.specs.Answers as tokens
use Rattle.pc_text.specs.Lex.{lex}
use Rattle.pc_text.specs.declared.place.Place.{Place}
use Rattle.pc_text.specs.declared.token.Token.{Token}
use Rattle.pc_text.specs.declared.token.LexFault.{LexFault}
use Rattle.pc_text.proofs.LexMeans.{means}
use Rattle.pc_text.proofs.LexOnly as lex_only
use Rattle.pc_grammar.specs.Symbols.{symbols_of}
use Rattle.pc_grammar.specs.Starts.{Start}
use Rattle.pc_grammar.specs.Parsing as grammar
use Rattle.pc_grammar.specs.declared.symbol.Symbol.{Symbol}
use Rattle.pc_grammar.specs.declared.fault.ParseFault.{ParseFault}
use Rattle.pc_grammar.proofs.Starts.{Lawful}
use Rattle.pc_grammar.proofs.Sound.{sound}
use Rattle.pc_grammar.proofs.Unique as unique
use Rattle.pc_program.specs.Forms.{bind}
use Rattle.pc_syntax.specs.declared.fault.SourceFault.{SourceFault}
use Rattle.pc_syntax.specs.declared.fault.SourceFault.TheVariants.{NoMemory}
use Rattle.pc_syntax.specs.Faults.{of_tokens, of_tree, Gives}
use Rattle.pc_syntax.specs.Texts.{Reading, Spells, HasTree, IsParsed, NoTokens, NoTree, Faulty, Means, Alike, AlikeUnless, EachTextHasOne, EachTextHasNoMore, with_fault, tree_of, content_at, GivesMeaning}

-- ---- tokens

tokens_mean : (src : Bytes) → tokens.Means src (lex src)
unfolding lex
tokens_mean src = means src src 0 0

tokens_only : (src : Bytes) (o : Result (List Token) LexFault) → tokens.Means src o → lex src ≡ o
unfolding lex
tokens_only src o h = lex_only.only src src 0 o h

-- ---- trees

module _ (S : Start) (lawful : Lawful S) where
  TreeMeans : Bytes → Result S.Tree SourceFault → Type 0
  TreeMeans src (Ok t) = IsParsed S src t
  TreeMeans src (Err f) = NoTokens src f ⊎ NoTree S src f

  tree_means : (src : Bytes) → TreeMeans src (tree_of S src)
  unfolding TreeMeans
  tree_means src = by (lex src) (tokens_mean src)
    where
      behind : (found : List Token) → tokens.Means src (Ok found) → (o : Result S.Tree ParseFault) → HasTree S src found o → TreeMeans src (with_fault of_tree o)
      behind found h (Ok t) k = record { found = found; tokens = h; derives = k }
      behind found h (Err e) k = inr (record { found = found; tokens = h; cause = e; means = k; is = refl })

      by : (o : Result (List Token) LexFault) → tokens.Means src o → TreeMeans src (bind (with_fault of_tokens o) (λ found. with_fault of_tree (grammar.parsed S (symbols_of src found) (place_of src (length src)))))
      by (Ok found) h = behind found h (grammar.parsed S (symbols_of src found) (place_of src (length src))) (sound S lawful (symbols_of src found) (place_of src (length src)))
      by (Err e) h = inl (record { cause = e; means = h; is = refl })

  -- what a text with a tree is parsed to
  pub tree_parsed : (src : Bytes) (t : S.Tree) → tree_of S src ≡ Ok t → IsParsed S src t
  unfolding TreeMeans
  tree_parsed src t e = subst (TreeMeans src) e (tree_means src)

  pub parsed_is : (src : Bytes) (t : S.Tree) → IsParsed S src t → tree_of S src ≡ Ok t
  parsed_is src t h = rw (tokens_only src (Ok h.found) h.tokens, unique.only S lawful (symbols_of src h.found) (place_of src (length src)) (Ok t) h.derives) refl

  no_tokens_is : (src : Bytes) (f : SourceFault) → NoTokens src f → tree_of S src ≡ Err f
  no_tokens_is src f h = rw (tokens_only src (Err h.cause) h.means) (ap (λ (g : SourceFault). Err g) (sym h.is))

  no_tree_is : (src : Bytes) (f : SourceFault) → NoTree S src f → tree_of S src ≡ Err f
  no_tree_is src f h =
      rw (tokens_only src (Ok h.found) h.tokens, unique.only S lawful (symbols_of src h.found) (place_of src (length src)) (Err h.cause) h.means) (ap (λ (g : SourceFault). Err g) (sym h.is))

  -- the steps of the code
  pub tree_by : (src : Bytes) (found found' : List Token) (symbols symbols' : List Symbol) (end : Place) (r : Result S.Tree SourceFault) →
      lex src ≡ Ok found → found' ≡ found → symbols ≡ symbols_of src found' → symbols' ≡ symbols → end ≡ place_of src (length src) →
      Gives r (with_fault of_tree (grammar.parsed S symbols' end)) → Gives r (tree_of S src)
  tree_by src found found' symbols symbols' end r h a b d e g =
      let same : symbols' ≡ symbols_of src found = d ∙ b ∙ ap (symbols_of src) a in
      let is : tree_of S src ≡ with_fault of_tree (grammar.parsed S symbols' end) =
      ap (λ o. bind (with_fault of_tokens o) (λ found. with_fault of_tree (grammar.parsed S (symbols_of src found) (place_of src (length src))))) h ∙
      ap (λ ss. with_fault of_tree (grammar.parsed S ss (place_of src (length src)))) (sym same) ∙ ap (λ p. with_fault of_tree (grammar.parsed S symbols' p)) (sym e) in
      subst (Gives r) (sym is) g

-- ---- meanings and faults

-- each content that the context rules make is that of a meaning
pub record LawfulReading (R : Reading) : Type 0 where
  pub grammar : Lawful R.start
  pub made : (src : Bytes) (t : R.start.Tree) (c : R.Content) → IsParsed R.start src t → R.checked src t ≡ Ok c → (p : R.Meaning) × (R.content_of p ≡ c)

module _ (R : Reading) (lawful : LawfulReading R) where
  Answered : Bytes → Result R.Content SourceFault → Type 0
  Answered src (Ok c) = (t : R.start.Tree) × IsParsed R.start src t × (R.checked src t ≡ Ok c)
  Answered src (Err f) = Faulty R src f

  answered : (src : Bytes) → Answered src (content_at R src)
  unfolding TreeMeans Answered
  answered src = by (tree_of R.start src) (tree_means R.start lawful.grammar src)
    where
      walked : (t : R.start.Tree) → IsParsed R.start src t → (o : Result R.Content SourceFault) → R.checked src t ≡ o → Answered src o
      walked t h (Ok c) e = (t, h, e)
      walked t h (Err f) e = inr (inr (record { tree = t; parsed = h; broken = e }))

      by : (o : Result R.start.Tree SourceFault) → TreeMeans R.start lawful.grammar src o → Answered src (bind o (R.checked src))
      by (Ok t) h = walked t h (R.checked src t) refl
      by (Err f) (inl h) = inl h
      by (Err f) (inr h) = inr (inl h)

  pub gives_meaning : (src : Bytes) (r : Result R.Meaning SourceFault) → GivesMeaning R r (content_at R src) → IfOk r (λ p. Spells R src p)
  unfolding Answered
  gives_meaning src (Ok p) h = let a = subst (Answered src) h (answered src) in record { tree = a.0; parsed = a.1; kept = a.2 }
  gives_meaning src (Err f) h = tt

  pub gives_fault : (src : Bytes) (r : Result R.Meaning SourceFault) → GivesMeaning R r (content_at R src) → IfErr r (λ f. f ≢ NoMemory → Faulty R src f)
  unfolding Answered
  gives_fault src (Ok p) h = tt
  gives_fault src (Err f) h = λ n. subst (Answered src) (h n) (answered src)

  content_is : Bytes → Result R.Meaning SourceFault → Type 0
  content_is src (Ok p) = content_at R src ≡ Ok (R.content_of p)
  content_is src (Err f) = content_at R src ≡ Err f

  meant_is : (src : Bytes) (a : Result R.Meaning SourceFault) → Means R src a → content_is src a
  unfolding content_is
  meant_is src (Ok p) h = rw (parsed_is R.start lawful.grammar src h.tree h.parsed) h.kept
  meant_is src (Err f) (inl h) = rw (no_tokens_is R.start lawful.grammar src f h) refl
  meant_is src (Err f) (inr (inl h)) = rw (no_tree_is R.start lawful.grammar src f h) refl
  meant_is src (Err f) (inr (inr h)) = rw (parsed_is R.start lawful.grammar src h.tree h.parsed) h.broken

  alike : (src : Bytes) (a b : Result R.Meaning SourceFault) → content_is src a → content_is src b → Alike R a b
  unfolding content_is
  alike src (Ok p) (Ok q) h k = let e : R.content_of p ≡ R.content_of q = cc in e
  alike src (Ok p) (Err g) h k = absurd (cc)
  alike src (Err f) (Ok q) h k = absurd (cc)
  alike src (Err f) (Err g) h k = let e : f ≡ g = cc in e

  pub gives_only : (src : Bytes) (r : Result R.Meaning SourceFault) → GivesMeaning R r (content_at R src) → (answer : Result R.Meaning SourceFault) → Means R src answer → AlikeUnless R r answer
  unfolding content_is
  gives_only src (Ok p) h a m = alike src (Ok p) a h (meant_is src a m)
  gives_only src (Err f) h a m = λ n. alike src (Err f) a (h n) (meant_is src a m)

  pub each_text_has_no_more : EachTextHasNoMore R
  each_text_has_no_more src a b h k = alike src a b (meant_is src a h) (meant_is src b k)

  pub each_text_has_one : EachTextHasOne R
  unfolding Answered
  each_text_has_one src = by (content_at R src) (answered src)
    where
      by : (o : Result R.Content SourceFault) → Answered src o → (answer : Result R.Meaning SourceFault) × Means R src answer
      by (Ok c) (t, h, e) = let m = lawful.made src t c h e in (Ok m.0, record { tree = t; parsed = h; kept = e ∙ ap (λ (c : R.Content). Ok c) (sym m.1) })
      by (Err f) h = (Err f, h)
