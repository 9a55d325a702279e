-- What a text within the limits says of its statements: their expressions are short, and no more braces are open than may be.
use Rattle.std.proofs.Common.{◌≡◌, ℕ, zero, suc, ◌+◌, ◌-◌, refl, ap, ◌∙◌, arith, List, [], ◌∷◌, Bool}
use Rattle.std.specs.Prelude.{◌&&◌, max}
use Rattle.std.specs.List.{list_all}
use Rattle.pc_text.specs.Bytes.{Bytes}
use Rattle.pc_grammar.specs.declared.symbol.Symbol.{Symbol}
use Rattle.pc_language.specs.declared.terminal.Terminal.{Terminal}
use Rattle.pc_language.specs.declared.terminal.Terminal.TheVariants as terminal
use Rattle.pc_grammar.specs.declared.limits.Counts.{Counts}
use Rattle.pc_grammar.specs.declared.tree.StmtTree.{StmtTree}
use Rattle.pc_grammar.specs.Combinators.{Lang, is_both, is_either, is_maybe}
use Rattle.pc_grammar.specs.Terminals.{is_one}
use Rattle.pc_grammar.specs.Expressions as grammar
use Rattle.pc_grammar.specs.Rights as rights
use Rattle.pc_grammar.specs.Statements as stmts
use Rattle.pc_readback.specs.ShownTrees as short
use Rattle.pc_program.proofs.Results.{and_of}
use Rattle.pc_readback.proofs.Nesting.{Nests, MayNest, Closes, closing, flat_nests, renamed, moved, tested_too, two_blocks, block_nests}
use Rattle.pc_syntax.proofs.Phrases.{IsOne, Sees, one_sees, map_sees, both_sees, either_sees, maybe_sees, many_sees, dead_sees}
use Rattle.pc_syntax.proofs.Trees.{at-set, at-if, at-while, at-assert, at-assume}
use Rattle.pc_readback.proofs.Seen.{level_behind}
use Rattle.pc_readback.proofs.SeenExprs.{spelled}
use Rattle.pc_readback.proofs.SeenTests.{Holds, behind, closed, enclosed_sees, all_sees, test_sees, right_sees}

module _ (src : Bytes) (n : ℕ) where
  -- a phrase, then one that holds behind a keyword
  after_keyword : {A : Type 0} (k : Terminal) (L : Lang A) (Q : A → Counts → Counts → Type 0) (R : Symbol × A → Counts → Counts → Type 0) →
      ((x : Symbol × A) (c e d : Counts) → IsOne (spelled src) (k ∷ []) x.0 c e → Q x.1 e d → R x c d) → Sees (spelled src) L Q → Sees (spelled src) (is_both (is_one k) L) R
  after_keyword k L Q R t l = both_sees (spelled src) _ L (IsOne (spelled src) (k ∷ [])) Q R t (one_sees (spelled src) (k ∷ [])) l

  set_sees : Sees (spelled src) (stmts.is_set_stmt (grammar.is_paren n)) (λ t. Nests (short.short_stmt t) (short.nesting t))
  set_sees = map_sees (spelled src) stmts.set_of _ (λ x. Holds (short.short_expr x.1.1.0.expr)) (λ t. Nests (short.short_stmt t) (short.nesting t))
      (λ x c d i. flat_nests (short.short_expr x.1.1.0.expr) (short.short_stmt (stmts.set_of x)) (short.nesting (stmts.set_of x)) c d (at-set Bool short.short_step x.0 x.1.1.0) (at-set ℕ short.nesting_step x.0 x.1.1.0) i)
      (after_keyword terminal.Name (is_both (is_one terminal.Assign) (is_both (rights.is_right (grammar.is_paren n)) (is_one terminal.Semicolon))) (λ y. Holds (short.short_expr y.1.0.expr)) (λ x. Holds (short.short_expr x.1.1.0.expr))
      (λ x c e d i j. record { passed = j.passed; level = j.level ∙ level_behind (spelled src) (terminal.Name ∷ []) x.0 c e refl i })
      (behind src (terminal.Assign ∷ []) refl refl (is_both (rights.is_right (grammar.is_paren n)) (is_one terminal.Semicolon)) (λ y. short.short_expr y.0.expr)
      (closed src (terminal.Semicolon ∷ []) refl (rights.is_right (grammar.is_paren n)) (λ r. short.short_expr r.expr) (right_sees src n))))

  -- a keyword and a conjunction
  claim_sees : (k : Terminal) → Sees (spelled src) (is_one k) (λ s c d. d.braces ≡ c.braces) →
      Sees (spelled src) (is_both (is_one k) (is_both (stmts.is_enclosed (stmts.is_all (grammar.is_paren n))) (is_one terminal.Semicolon))) (λ x. Holds (list_all short.short_compare x.1.0))
  claim_sees k o = both_sees (spelled src) _ _ (λ s c d. d.braces ≡ c.braces) (λ y. Holds (list_all short.short_compare y.0)) (λ x. Holds (list_all short.short_compare x.1.0)) (λ x c e d i j. record { passed = j.passed; level = j.level ∙ i }) o
      (both_sees (spelled src) _ _ (λ cs. Holds (list_all short.short_compare cs)) (IsOne (spelled src) (terminal.Semicolon ∷ []))
      (λ y. Holds (list_all short.short_compare y.0)) (λ y c e d i j. record { passed = i.passed; level = level_behind (spelled src) (terminal.Semicolon ∷ []) y.1 e d refl j ∙ i.level })
      (enclosed_sees src (stmts.is_all (grammar.is_paren n)) (λ cs. list_all short.short_compare cs) (all_sees src n)) (one_sees (spelled src) (terminal.Semicolon ∷ [])))

  assert_sees : Sees (spelled src) (stmts.is_assert_stmt (grammar.is_paren n)) (λ t. Nests (short.short_stmt t) (short.nesting t))
  assert_sees = map_sees (spelled src) stmts.assert_of _ (λ x. Holds (list_all short.short_compare x.1.0)) (λ t. Nests (short.short_stmt t) (short.nesting t))
      (λ x c d i. flat_nests (list_all short.short_compare x.1.0) (short.short_stmt (stmts.assert_of x)) (short.nesting (stmts.assert_of x)) c d (at-assert Bool short.short_step x.0.place x.1.0) (at-assert ℕ short.nesting_step x.0.place x.1.0) i)
      (claim_sees terminal.Assert (λ s w v l h most c d k. level_behind (spelled src) (terminal.Assert ∷ []) s c d refl (one_sees (spelled src) (terminal.Assert ∷ []) s w v l h most c d k)))

  assume_sees : Sees (spelled src) (stmts.is_assume_stmt (grammar.is_paren n)) (λ t. Nests (short.short_stmt t) (short.nesting t))
  assume_sees = map_sees (spelled src) stmts.assume_of _ (λ x. Holds (list_all short.short_compare x.1.0)) (λ t. Nests (short.short_stmt t) (short.nesting t))
      (λ x c d i. flat_nests (list_all short.short_compare x.1.0) (short.short_stmt (stmts.assume_of x)) (short.nesting (stmts.assume_of x)) c d (at-assume Bool short.short_step x.0.place x.1.0) (at-assume ℕ short.nesting_step x.0.place x.1.0) i)
      (claim_sees terminal.Assume (λ s w v l h most c d k. level_behind (spelled src) (terminal.Assume ∷ []) s c d refl (one_sees (spelled src) (terminal.Assume ∷ []) s w v l h most c d k)))

  tried_sees : Sees (spelled src) (stmts.is_tried (grammar.is_paren n)) (λ cs. Holds (list_all short.short_compare cs))
  tried_sees = map_sees (spelled src) stmts.optional _ (λ o. Holds (list_all short.short_compare (stmts.optional o))) (λ cs. Holds (list_all short.short_compare cs)) (λ o c d i. i)
      (maybe_sees (spelled src) _ (λ x. Holds (list_all short.short_compare x.1)) (λ o. Holds (list_all short.short_compare (stmts.optional o))) (λ c. record { passed = refl; level = refl }) (λ x c d i. i)
      (after_keyword terminal.Try (stmts.is_enclosed (stmts.is_all (grammar.is_paren n))) (λ cs. Holds (list_all short.short_compare cs)) (λ x. Holds (list_all short.short_compare x.1))
      (λ x c e d i j. record { passed = j.passed; level = j.level ∙ level_behind (spelled src) (terminal.Try ∷ []) x.0 c e refl i }) (enclosed_sees src (stmts.is_all (grammar.is_paren n)) (λ cs. list_all short.short_compare cs) (all_sees src n))))

  tested : Sees (spelled src) (stmts.is_enclosed (stmts.is_test (grammar.is_paren n))) (λ t. Holds (short.short_test t))
  tested = enclosed_sees src (stmts.is_test (grammar.is_paren n)) short.short_test (test_sees src n)

  -- a block, with its own braces
  abbrev pub NestsBlock : List StmtTree → Counts → Counts → Type 0
  NestsBlock xs = Nests (short.short_stmts xs) (1 + short.nesting_of xs)

  module _ (B : Lang (List StmtTree)) (b : Sees (spelled src) B NestsBlock) where
    else_sees : Sees (spelled src) (stmts.is_after terminal.Else B) (λ ys. MayNest (short.short_stmts ys) (short.nesting_of ys))
    else_sees = map_sees (spelled src) stmts.optional _ (λ o. MayNest (short.short_stmts (stmts.optional o)) (short.nesting_of (stmts.optional o)))
        (λ ys. MayNest (short.short_stmts ys) (short.nesting_of ys)) (λ o c d i. i)
        (maybe_sees (spelled src) _ (λ x. MayNest (short.short_stmts x.1) (short.nesting_of x.1)) (λ o. MayNest (short.short_stmts (stmts.optional o)) (short.nesting_of (stmts.optional o)))
        (λ c. record { passed = refl; level = refl; room = λ h z. absurd (omega arith) }) (λ x c d i. i)
        (after_keyword terminal.Else B NestsBlock (λ x. MayNest (short.short_stmts x.1) (short.nesting_of x.1))
        (λ x c e d i j.
        let l = level_behind (spelled src) (terminal.Else ∷ []) x.0 c e refl i in
        let r = j.room in
        record { passed = j.passed; level = j.level ∙ l; room = λ h z. let q = r (omega arith) in omega arith }) b))

    if_sees : Sees (spelled src) (stmts.is_if_stmt (grammar.is_paren n) B) (λ t. Nests (short.short_stmt t) (short.nesting t))
    if_sees = map_sees (spelled src) stmts.if_of _
        (λ x. Nests (short.short_test x.1.0 && (short.short_stmts x.1.1.0 && short.short_stmts x.1.1.1)) (1 + max (short.nesting_of x.1.1.0) (short.nesting_of x.1.1.1))) (λ t. Nests (short.short_stmt t) (short.nesting t))
        (λ x c d i. renamed _ (short.short_stmt (stmts.if_of x)) _ (short.nesting (stmts.if_of x)) c d (at-if Bool short.short_step x.0.place x.1.0 x.1.1.0 x.1.1.1) (at-if ℕ short.nesting_step x.0.place x.1.0 x.1.1.0 x.1.1.1) i)
        (after_keyword terminal.If (is_both (stmts.is_enclosed (stmts.is_test (grammar.is_paren n))) (is_both B (stmts.is_after terminal.Else B)))
        (λ y. Nests (short.short_test y.0 && (short.short_stmts y.1.0 && short.short_stmts y.1.1)) (1 + max (short.nesting_of y.1.0) (short.nesting_of y.1.1)))
        (λ x. Nests (short.short_test x.1.0 && (short.short_stmts x.1.1.0 && short.short_stmts x.1.1.1)) (1 + max (short.nesting_of x.1.1.0) (short.nesting_of x.1.1.1)))
        (λ x c e d i j. moved _ _ c e d (level_behind (spelled src) (terminal.If ∷ []) x.0 c e refl i) j) (both_sees (spelled src) _ _ (λ t. Holds (short.short_test t))
        (λ z. Nests (short.short_stmts z.0 && short.short_stmts z.1) (1 + max (short.nesting_of z.0) (short.nesting_of z.1)))
        (λ y. Nests (short.short_test y.0 && (short.short_stmts y.1.0 && short.short_stmts y.1.1)) (1 + max (short.nesting_of y.1.0) (short.nesting_of y.1.1))) (λ y c e d i j. tested_too (short.short_test y.0) _ _ c e d i j) tested
        (both_sees (spelled src) B _ NestsBlock (λ ys. MayNest (short.short_stmts ys) (short.nesting_of ys)) (λ z. Nests (short.short_stmts z.0 && short.short_stmts z.1) (1 + max (short.nesting_of z.0) (short.nesting_of z.1)))
        (λ z c e d i j. two_blocks (short.short_stmts z.0) (short.short_stmts z.1) (short.nesting_of z.0) (short.nesting_of z.1) c e d i j) b else_sees)))

    while_sees : Sees (spelled src) (stmts.is_while_stmt (grammar.is_paren n) B) (λ t. Nests (short.short_stmt t) (short.nesting t))
    while_sees = map_sees (spelled src) stmts.while_of _ (λ x. Nests (short.short_test x.1.0 && (list_all short.short_compare x.1.1.0 && short.short_stmts x.1.1.1)) (1 + short.nesting_of x.1.1.1)) (λ t. Nests (short.short_stmt t) (short.nesting t))
        (λ x c d i. renamed _ (short.short_stmt (stmts.while_of x)) _ (short.nesting (stmts.while_of x)) c d (at-while Bool short.short_step x.0.place x.1.0 x.1.1.0 x.1.1.1) (at-while ℕ short.nesting_step x.0.place x.1.0 x.1.1.0 x.1.1.1) i)
        (after_keyword terminal.While (is_both (stmts.is_enclosed (stmts.is_test (grammar.is_paren n))) (is_both (stmts.is_tried (grammar.is_paren n)) B))
        (λ y. Nests (short.short_test y.0 && (list_all short.short_compare y.1.0 && short.short_stmts y.1.1)) (1 + short.nesting_of y.1.1))
        (λ x. Nests (short.short_test x.1.0 && (list_all short.short_compare x.1.1.0 && short.short_stmts x.1.1.1)) (1 + short.nesting_of x.1.1.1)) (λ x c e d i j. moved _ _ c e d (level_behind (spelled src) (terminal.While ∷ []) x.0 c e refl i) j)
        (both_sees (spelled src) _ _ (λ t. Holds (short.short_test t)) (λ z. Nests (list_all short.short_compare z.0 && short.short_stmts z.1) (1 + short.nesting_of z.1))
        (λ y. Nests (short.short_test y.0 && (list_all short.short_compare y.1.0 && short.short_stmts y.1.1)) (1 + short.nesting_of y.1.1)) (λ y c e d i j. tested_too (short.short_test y.0) _ _ c e d i j) tested
        (both_sees (spelled src) _ B (λ cs. Holds (list_all short.short_compare cs)) NestsBlock (λ z. Nests (list_all short.short_compare z.0 && short.short_stmts z.1) (1 + short.nesting_of z.1))
        (λ z c e d i j. tested_too (list_all short.short_compare z.0) _ _ c e d i j) tried_sees b)))

    stmt_sees : Sees (spelled src) (stmts.is_stmt (grammar.is_paren n) B) (λ t. Nests (short.short_stmt t) (short.nesting t))
    stmt_sees = either_sees (spelled src) _ _ (λ t. Nests (short.short_stmt t) (short.nesting t)) set_sees (either_sees (spelled src) _ _ (λ t. Nests (short.short_stmt t) (short.nesting t)) if_sees (either_sees (spelled src) _ _
        (λ t. Nests (short.short_stmt t) (short.nesting t)) while_sees (either_sees (spelled src) _ _ (λ t. Nests (short.short_stmt t) (short.nesting t)) assert_sees assume_sees)))

    pub stmts_see : Sees (spelled src) (stmts.is_stmts_in (grammar.is_paren n) B) (λ xs. Nests (short.short_stmts xs) (short.nesting_of xs))
    stmts_see = many_sees (spelled src) _ (λ t. Nests (short.short_stmt t) (short.nesting t)) (λ xs. Nests (short.short_stmts xs) (short.nesting_of xs))
        (λ c. record { passed = refl; level = refl; room = λ h. omega arith })
        (λ t xs c e d i j.
        let l = i.level in
        record {
          passed = and_of (short.short_stmt t) (short.short_stmts xs) i.passed j.passed;
          level = j.level ∙ l;
          room = λ h. let r = i.room h in let q = j.room (omega arith) in omega arith;
        })
        stmt_sees

    braced : Sees (spelled src) (stmts.is_block_in (grammar.is_paren n) B) NestsBlock
    braced = map_sees (spelled src) grammar.inner _ (λ x. NestsBlock x.1.0) NestsBlock (λ x c d i. i) (both_sees (spelled src) _ _ (IsOne (spelled src) (terminal.OpenBrace ∷ [])) (λ y. Closes (short.short_stmts y.0) (short.nesting_of y.0))
        (λ x. NestsBlock x.1.0) (λ x c e d i j. block_nests (spelled src) _ _ x.0 c e d i j) (one_sees (spelled src) (terminal.OpenBrace ∷ []))
        (both_sees (spelled src) _ _ (λ xs. Nests (short.short_stmts xs) (short.nesting_of xs)) (IsOne (spelled src) (terminal.CloseBrace ∷ [])) (λ y. Closes (short.short_stmts y.0) (short.nesting_of y.0))
        (λ y c e d i j. let l = i.level in let k = closing e.braces d.braces y.1.terminal j.is j.braces in record { passed = i.passed; level = k ∙ ap (λ (z : ℕ). z - 1) l; room = i.room })
        stmts_see (one_sees (spelled src) (terminal.CloseBrace ∷ []))))

pub block_sees : (src : Bytes) (n : ℕ) → Sees (spelled src) (stmts.is_block n) (NestsBlock src n)
block_sees src zero = dead_sees (spelled src) (NestsBlock src zero)
block_sees src (suc n) = braced src n (stmts.is_block n) (block_sees src n)
