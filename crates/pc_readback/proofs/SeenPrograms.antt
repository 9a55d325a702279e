-- The parse tree of a text within the limits passes its test.
use Rattle.std.proofs.Common.{◌≡◌, ℕ, ◌+◌, ◌≤◌, refl, ap, ◌∙◌, arith, List, [], ◌∷◌, Bool, true, false, None}
use Rattle.std.specs.Prelude.{◌&&◌, ◌||◌, not, nat_le}
use Rattle.std.specs.List.{list_all}
use Rattle.pc_text.specs.Bytes.{Bytes}
use Rattle.pc_grammar.specs.declared.symbol.Symbol.{Symbol}
use Rattle.pc_language.specs.declared.terminal.Terminal.TheVariants as terminal
use Rattle.pc_grammar.specs.declared.limits.Counts.{Counts}
use Rattle.pc_language.specs.declared.limits.TheConstants.{BRACES}
use Rattle.pc_grammar.specs.declared.tree.StmtTree.{StmtTree}
use Rattle.pc_grammar.specs.declared.tree.ProgramTree.{ProgramTree}
use Rattle.pc_grammar.specs.Combinators.{Text, is_map, is_both, is_maybe, is_many}
use Rattle.pc_grammar.specs.Terminals.{the, is_one}
use Rattle.pc_grammar.specs.Statements as stmts
use Rattle.pc_grammar.specs.Starts.{Derives}
use Rattle.pc_grammar.specs.Programs as programs
use Rattle.pc_grammar.specs.Limits.{start, Within}
use Rattle.pc_readback.specs.Showable.{is_literal}
use Rattle.pc_readback.specs.ShownTrees as short
use Rattle.pc_program.proofs.Results.{and_is, and_of, at_most}
use Rattle.pc_syntax.proofs.Phrases.{all_join, IsOne, Sees, one_sees, map_sees, both_sees, maybe_sees, many_sees}
use Rattle.pc_readback.proofs.Seen.{level_behind}
use Rattle.pc_readback.proofs.SeenExprs.{spelled, Passes}
use Rattle.pc_readback.proofs.SeenTests.{Holds, seconds_are, enclosed_sees}
use Rattle.pc_readback.proofs.Nesting.{Nests, opening}
use Rattle.pc_readback.proofs.SeenStmts.{stmts_see, block_sees}

-- ---- names

name_by : (a b c : Bool) → (a && (not b || c)) ≡ true → b ≡ true → c ≡ true
name_by true true c h e = h
name_by true false c h e = absurd (cc)
name_by false b c h e = absurd (cc)

module _ (src : Bytes) where
  -- symbols that are spelled by names
  Named : List Symbol → Bool
  Named xs = list_all (short.spells_name src) xs

  flat_named : (xss : List (List Symbol)) → list_all Named xss ≡ true → Named (programs.flat xss) ≡ true
  unfolding Named
  flat_named [] h = refl
  flat_named (xs ∷ xss) h = let p = and_is (Named xs) (list_all Named xss) h in all_join (short.spells_name src) xs (programs.flat xss) p.0 (flat_named xss p.1)

  name_holds : Sees (spelled src) (is_one terminal.Name) (λ s. Holds (short.spells_name src s))
  name_holds s w v l h most c d k =
      let i = one_sees (spelled src) (terminal.Name ∷ []) s w v l h most c d k in
      record { passed = name_by (is_literal s.number) (the terminal.Name s) (short.spells_name src s) i.fits i.is; level = level_behind (spelled src) (terminal.Name ∷ []) s c d refl i }

  -- a name, and further ones behind commas, whatever stands before it
  names_see : Sees (spelled src) programs.is_names (λ xs. Holds (Named xs))
  unfolding Named
  names_see = map_sees (spelled src) stmts.all_items _ (λ x. Holds (short.spells_name src x.0 && list_all (λ y. short.spells_name src y.1) x.1)) (λ xs. Holds (Named xs))
      (λ x c d i. record { passed = ap (λ b. short.spells_name src x.0 && b) (seconds_are (short.spells_name src) x.1) ∙ i.passed; level = i.level })
      (both_sees (spelled src) _ _ (λ s. Holds (short.spells_name src s)) (λ ys. Holds (list_all (λ y. short.spells_name src y.1) ys)) (λ x. Holds (short.spells_name src x.0 && list_all (λ y. short.spells_name src y.1) x.1))
      (λ x c e d i j. record { passed = and_of (short.spells_name src x.0) (list_all (λ y. short.spells_name src y.1) x.1) i.passed j.passed; level = j.level ∙ i.level }) name_holds
      (many_sees (spelled src) _ (λ y. Holds (short.spells_name src y.1)) (λ ys. Holds (list_all (λ y. short.spells_name src y.1) ys)) (λ c. record { passed = refl; level = refl })
      (λ y ys c e d i j. record { passed = and_of (short.spells_name src y.1) (list_all (λ y. short.spells_name src y.1) ys) i.passed j.passed; level = j.level ∙ i.level })
      (both_sees (spelled src) _ _ (IsOne (spelled src) (terminal.Comma ∷ [])) (λ s. Holds (short.spells_name src s)) (λ y. Holds (short.spells_name src y.1))
      (λ y c e d i j. record { passed = j.passed; level = j.level ∙ level_behind (spelled src) (terminal.Comma ∷ []) y.0 c e refl i }) (one_sees (spelled src) (terminal.Comma ∷ [])) name_holds)))

  params_see : Sees (spelled src) programs.is_params (λ xs. Holds (Named xs))
  unfolding Named
  params_see = enclosed_sees src (is_map programs.given (is_maybe programs.is_names)) Named (map_sees (spelled src) programs.given _ (λ o. Passes (Named (programs.given o))) (λ xs. Passes (Named xs)) (λ o c d i. i)
      (maybe_sees (spelled src) programs.is_names (λ xs. Holds (Named xs)) (λ o. Passes (Named (programs.given o))) (λ c. record { passed = λ b. refl; level = refl }) (λ xs c d i. record { passed = λ b. i.passed; level = i.level }) names_see))

  line_sees : Sees (spelled src) programs.is_var_line (λ xs. Holds (Named xs))
  line_sees = map_sees (spelled src) programs.var_names _ (λ x. Holds (Named x.1.0)) (λ xs. Holds (Named xs)) (λ x c d i. i) (both_sees (spelled src) _ _ (IsOne (spelled src) (terminal.Var ∷ [])) (λ y. Holds (Named y.0)) (λ x. Holds (Named x.1.0))
      (λ x c e d i j. record { passed = j.passed; level = j.level ∙ level_behind (spelled src) (terminal.Var ∷ []) x.0 c e refl i }) (one_sees (spelled src) (terminal.Var ∷ []))
      (both_sees (spelled src) programs.is_names _ (λ xs. Holds (Named xs)) (IsOne (spelled src) (terminal.Semicolon ∷ [])) (λ y. Holds (Named y.0))
      (λ y c e d i j. record { passed = i.passed; level = level_behind (spelled src) (terminal.Semicolon ∷ []) y.1 e d refl j ∙ i.level }) names_see (one_sees (spelled src) (terminal.Semicolon ∷ []))))

  locals_see : Sees (spelled src) programs.is_locals (λ xs. Holds (Named xs))
  unfolding Named
  locals_see = map_sees (spelled src) programs.flat _ (λ xss. Holds (list_all Named xss)) (λ xs. Holds (Named xs)) (λ xss c d i. record { passed = flat_named xss i.passed; level = i.level })
      (many_sees (spelled src) programs.is_var_line (λ xs. Holds (Named xs)) (λ xss. Holds (list_all Named xss)) (λ c. record { passed = refl; level = refl })
      (λ xs xss c e d i j. record { passed = and_of (Named xs) (list_all Named xss) i.passed j.passed; level = j.level ∙ i.level }) line_sees)

  -- ---- programs

  -- the parts of a program, from its brace on
  abbrev Bodied : List Symbol × (List StmtTree × Symbol) → Counts → Counts → Type 0
  Bodied z c d = (Named z.0 ≡ true) × (short.short_stmts z.1.0 ≡ true) × (c.braces ≤ BRACES → c.braces + short.nesting_of z.1.0 ≤ BRACES)

  abbrev Whole : Symbol × (List Symbol × (Symbol × (List Symbol × (List StmtTree × Symbol)))) → Counts → Counts → Type 0
  Whole x c d = c.braces ≡ 0 → short.short_tree src (programs.program_of x) ≡ true

  body_sees : (n : ℕ) → Sees (spelled src) (is_both programs.is_locals (is_both (stmts.is_stmts n) (is_one terminal.CloseBrace))) Bodied
  body_sees n = both_sees (spelled src) programs.is_locals _ (λ xs. Holds (Named xs)) (λ y c d. (short.short_stmts y.0 ≡ true) × (c.braces ≤ BRACES → c.braces + short.nesting_of y.0 ≤ BRACES)) Bodied
      (λ z c e d i j. let l = i.level in let r = j.1 in (i.passed, j.0, λ h. let q = r (omega arith) in omega arith)) locals_see
      (both_sees (spelled src) _ _ (λ xs. Nests (short.short_stmts xs) (short.nesting_of xs)) (IsOne (spelled src) (terminal.CloseBrace ∷ [])) (λ y c d. (short.short_stmts y.0 ≡ true) × (c.braces ≤ BRACES → c.braces + short.nesting_of y.0 ≤ BRACES))
      (λ y c e d i j. (i.passed, i.room)) (stmts_see src n (stmts.is_block n) (block_sees src n)) (one_sees (spelled src) (terminal.CloseBrace ∷ [])))

  -- a program's tree, by its parts
  abbrev tree_passes : List Symbol → List Symbol → List StmtTree → Bool
  tree_passes params locals body = Named params && (Named locals && (short.short_stmts body && nat_le (1 + short.nesting_of body) BRACES))

  within : (c e : Counts) (s : Symbol) (n : ℕ) → c.braces ≡ 0 → IsOne (spelled src) (terminal.OpenBrace ∷ []) s c e → (e.braces ≤ BRACES → e.braces + n ≤ BRACES) → 1 + n ≤ BRACES
  within c e s n z i r =
      let o = opening c.braces e.braces s.terminal i.is i.braces in
      let sum = o.sum in
      let more = o.room in
      let q = r (omega arith) in
      omega arith

  program_sees : (n : ℕ) → Sees (spelled src) (programs.is_program n) (λ t c d. c.braces ≡ 0 → short.short_tree src t ≡ true)
  unfolding Named
  program_sees n = map_sees (spelled src) programs.program_of _ Whole (λ t c d. c.braces ≡ 0 → short.short_tree src t ≡ true) (λ x c d i. i) (both_sees (spelled src) _ _
      (IsOne (spelled src) (terminal.Entry ∷ [])) (λ y c d. c.braces ≡ 0 → tree_passes y.0 y.1.1.0 y.1.1.1.0 ≡ true) Whole
      (λ x c e d i j z. j (level_behind (spelled src) (terminal.Entry ∷ []) x.0 c e refl i ∙ z)) (one_sees (spelled src) (terminal.Entry ∷ [])) (both_sees (spelled src) programs.is_params _ (λ xs. Holds (Named xs))
      (λ y c d. c.braces ≡ 0 → (Named y.1.0 && (short.short_stmts y.1.1.0 && nat_le (1 + short.nesting_of y.1.1.0) BRACES)) ≡ true) (λ y c d. c.braces ≡ 0 → tree_passes y.0 y.1.1.0 y.1.1.1.0 ≡ true)
      (λ y c e d i j z. and_of (Named y.0) (Named y.1.1.0 && (short.short_stmts y.1.1.1.0 && nat_le (1 + short.nesting_of y.1.1.1.0) BRACES)) i.passed (j (i.level ∙ z))) params_see
      (both_sees (spelled src) _ _ (IsOne (spelled src) (terminal.OpenBrace ∷ [])) Bodied (λ y c d. c.braces ≡ 0 → (Named y.1.0 && (short.short_stmts y.1.1.0 && nat_le (1 + short.nesting_of y.1.1.0) BRACES)) ≡ true)
      (λ y c e d i j z. and_of (Named y.1.0) (short.short_stmts y.1.1.0 && nat_le (1 + short.nesting_of y.1.1.0) BRACES) j.0
      (and_of (short.short_stmts y.1.1.0) (nat_le (1 + short.nesting_of y.1.1.0) BRACES) j.1 (at_most (1 + short.nesting_of y.1.1.0) BRACES (within c e y.0 (short.nesting_of y.1.1.0) z i j.2))))
      (one_sees (spelled src) (terminal.OpenBrace ∷ [])) (body_sees n))))

-- the tree of symbols that are spelled and within the limits
pub derived_short : (src : Bytes) (t : ProgramTree) (w : Text) → Derives programs.programs t w → Within None w [] → list_all (spelled src) w ≡ true → short.short_tree src t ≡ true
derived_short src t w (n, l) (d, k) h = program_sees src n t w [] l h None start d k refl
