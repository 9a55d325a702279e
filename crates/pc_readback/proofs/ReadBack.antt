-- The canonical text of a program spells this program, apart from places, and no other.
use Rattle.std.proofs.Common.{◌≡◌, true, sym, ◌∙◌, ap, subst, List, length, inl, inr, Result, Ok, Err}
use Rattle.std.specs.List.{list_all}
use Rattle.pc_text.specs.Bytes.{Bytes}
use Rattle.pc_text.specs.Places.{place_of}
use Rattle.pc_text.specs.Answers as tokens
use Rattle.pc_text.specs.Lex.{lex}
use Rattle.pc_text.specs.declared.token.Token.{Token}
use Rattle.pc_text.specs.declared.token.LexFault.{LexFault}
use Rattle.pc_text.proofs.LexOnly as lex_only
use Rattle.pc_grammar.specs.Symbols.{symbols_of}
use Rattle.pc_grammar.specs.Programs.{programs}
use Rattle.pc_grammar.specs.declared.tree.ProgramTree.{ProgramTree}
use Rattle.pc_grammar.specs.declared.fault.ParseFault.{ParseFault}
use Rattle.pc_grammar.proofs.Starts.{programs_lawful}
use Rattle.pc_grammar.proofs.Unique as unique
use Rattle.pc_program.specs.declared.program.Program.{Program}
use Rattle.pc_syntax.specs.declared.fault.SourceFault.{SourceFault}
use Rattle.pc_show.specs.Canonical.{program_pieces, program_text}
use Rattle.pc_readback.specs.Matched.{AreOf}
use Rattle.pc_readback.specs.Showable.{is_name, all_differ, is_showable}
use Rattle.pc_syntax.specs.Context.{Content, checked, content_of}
use Rattle.pc_syntax.specs.Texts.{HasTree, IsParsed}
use Rattle.pc_syntax.specs.Spelling.{Spells, Means}
use Rattle.pc_readback.specs.Bare.{bare, SamePrograms}
use Rattle.pc_readback.specs.ReadsBack.{ShowReadsBack, NothingElseReadsBack}
use Rattle.pc_program.proofs.Results.{and_is}
use Rattle.pc_syntax.proofs.Readings.{each_text_has_one, each_text_has_no_more}
use Rattle.pc_readback.proofs.DerivedPrograms.{shown_program}
use Rattle.pc_readback.proofs.CountedPrograms.{shown_within}
use Rattle.pc_readback.proofs.CanonicalTexts.{canonical_texts_are_cut}

-- ---- one parse tree at most

same_tokens : (src : Bytes) (a b : Result (List Token) LexFault) → tokens.Means src a → tokens.Means src b → a ≡ b
unfolding lex
same_tokens src a b h k = sym (lex_only.only src src 0 a h) ∙ lex_only.only src src 0 b k

same_answer : (src : Bytes) (found : List Token) (a b : Result ProgramTree ParseFault) → HasTree programs src found a → HasTree programs src found b → a ≡ b
same_answer src found a b h k = unique.unique programs programs_lawful (symbols_of src found) (place_of src (length src)) a b h k

module _ (src : Bytes) (found : List Token) (t : ProgramTree) (h : tokens.Means src (Ok found)) (d : HasTree programs src found (Ok t)) where
  same_tree : (t' : ProgramTree) → IsParsed programs src t' → t' ≡ t
  same_tree t' x =
      let f : x.found ≡ found = cc (same_tokens src (Ok x.found) (Ok found) x.tokens h) in
      cc (same_answer src found (Ok t') (Ok t) (subst (λ ts. HasTree programs src ts (Ok t')) f x.derives) d)

  -- where the context rules make something of the tree, the text has no fault
  never_faulty : (c : Content) → checked src t ≡ Ok c → (f : SourceFault) → Means src (Err f) → ⊥
  never_faulty c k f (inl x) = let e = same_tokens src (Err x.cause) (Ok found) x.means h in absurd (cc)
  never_faulty c k f (inr (inl x)) =
      let e : x.found ≡ found = cc (same_tokens src (Ok x.found) (Ok found) x.tokens h) in
      let g = same_answer src found (Err x.cause) (Ok t) (subst (λ ts. HasTree programs src ts (Err x.cause)) e x.means) d in
      absurd (cc)
  never_faulty c k f (inr (inr x)) = let e = sym (ap (checked src) (same_tree x.tree x.parsed)) ∙ x.broken in absurd (cc)

  -- it spells the program that they make
  spelled : (c : Content) → checked src t ≡ Ok c → (q : Program) × Spells src q × (content_of q ≡ c)
  spelled c k = let one = each_text_has_one src in by one.0 one.1
    where
      by : (a : Result Program SourceFault) → Means src a → (q : Program) × Spells src q × (content_of q ≡ c)
      by (Ok q) x = let e = sym (ap (checked src) (same_tree x.tree x.parsed)) ∙ x.kept in (q, x, cc)
      by (Err f) x = absurd (never_faulty c k f x)

-- ---- the canonical text

same_of : (p q : Program) (c : Content) → content_of q ≡ c → c.names ≡ p.names → bare c.body ≡ bare p.body → SamePrograms p q
same_of p q c e n b = record { names = sym (ap (λ (c : Content). c.names) e ∙ n); body = sym (ap (λ (c : Content). bare c.body) e ∙ b) }

read_back : (p : Program) (found : List Token) → is_showable p.names p.body ≡ true → tokens.Means (program_text p.names p.body) (Ok found) →
    AreOf (program_text p.names p.body) (program_pieces p.names p.body) (symbols_of (program_text p.names p.body) found) → (q : Program) × Spells (program_text p.names p.body) q × SamePrograms p q
read_back p found shown h are =
    let src = program_text p.names p.body in
    let differ = (and_is (all_differ p.names.names) _ (and_is (list_all is_name p.names.names) _ shown).1).0 in
    let d = shown_program src p.names p.body p.sane differ (symbols_of src found) are in
    let within = shown_within src p.names p.body p.sane shown (symbols_of src found) are in
    let x = spelled src found d.tree h (d.derives, within) d.again.content d.again.walked in
    (x.0, x.1, same_of p x.0 d.again.content x.2 d.again.named d.again.same)

-- two programs that one text spells have the same content
nothing_else : (p q r : Program) (src : Bytes) → Spells src q → SamePrograms p q → Spells src r → SamePrograms p r
nothing_else p q r src h s k =
    let e = each_text_has_no_more src (Ok q) (Ok r) h k in
    record { names = s.names ∙ ap (λ (c : Content). c.names) e; body = s.body ∙ ap (λ (c : Content). bare c.body) e }

pub show_reads_back : ShowReadsBack
show_reads_back p shown = let cut = canonical_texts_are_cut p shown in read_back p cut.found shown cut.means cut.are

pub nothing_else_reads_back : NothingElseReadsBack
nothing_else_reads_back p r shown k = let q = show_reads_back p shown in nothing_else p q.0 r (program_text p.names p.body) q.1 q.2 k
