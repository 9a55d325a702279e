-- No symbol of a program's pieces is past a limit.
use Rattle.std.proofs.Common.{◌≡◌, ℕ, ◌+◌, refl, arith, List, [], ◌∷◌, ◌++◌, length, take, drop, true, None}
use Rattle.std.specs.Prelude.{nat_le}
use Rattle.std.specs.List.{list_all}
use Rattle.std.proofs.lemmas.Bool.{leb-true}
use Rattle.pc_text.specs.Bytes.{Bytes}
use Rattle.pc_text.specs.Named.{Named}
use Rattle.pc_rows.specs.declared.row.TheConstants.{VARIABLES}
use Rattle.pc_language.specs.declared.terminal.Terminal.TheVariants as terminal
use Rattle.pc_language.specs.declared.limits.TheConstants.{BRACES}
use Rattle.pc_grammar.specs.Combinators.{Text}
use Rattle.pc_grammar.specs.Limits as limits
use Rattle.pc_program.specs.declared.tree.Stmt.{Stmt}
use Rattle.pc_show.specs.Pieces.{Blank, LineEnd, Mark, Name}
use Rattle.pc_show.specs.Canonical.{opened, further_names, names_pieces, locals_pieces, stmts_pieces, program_pieces}
use Rattle.pc_readback.specs.Matched.{AreOf}
use Rattle.pc_program.specs.Sane.{sane_stmts, is_sane}
use Rattle.pc_readback.specs.Showable.{is_name, all_differ, shown_stmts, nesting_of, is_showable}
use Rattle.pc_program.proofs.Results.{and_is}
use Rattle.pc_readback.proofs.CountedPieces.{Anything, Count, count_none, count_then, count_as}
use Rattle.pc_readback.proofs.CountedMarks.{Braces, Keyword, closed, keyword, name_closed, open_brace, close_brace}
use Rattle.pc_readback.proofs.CountedStmts.{opened_counted, semicolon, stmts_counted}

module _ (src : Bytes) where
  further_counted : (b : ℕ) (ws : List Bytes) → Count src (further_names ws) (Braces b) (Braces b) Anything
  further_counted b [] = count_none src (Braces b) Anything
  further_counted b (w ∷ ws) = count_then src (Braces b) (Braces b) (Braces b) Anything (Mark terminal.Comma ∷ Blank 1 ∷ Name w ∷ []) (further_names ws)
      (count_then src (Braces b) (Braces b) (Braces b) Anything (Mark terminal.Comma ∷ Blank 1 ∷ []) (Name w ∷ []) (closed src b terminal.Comma (λ c s r e. rw e refl)) (name_closed src b w)) (further_counted b ws)

  names_counted : (b : ℕ) (ws : List Bytes) → Count src (names_pieces ws) (Braces b) (Braces b) Anything
  names_counted b [] = count_none src (Braces b) Anything
  names_counted b (w ∷ ws) = count_then src (Braces b) (Braces b) (Braces b) Anything (Name w ∷ []) (further_names ws) (name_closed src b w) (further_counted b ws)

  locals_counted : (b : ℕ) (ws : List Bytes) → Count src (locals_pieces ws) (Braces b) (Braces b) Anything
  locals_counted b [] = count_none src (Braces b) Anything
  locals_counted b (w ∷ ws) = count_then src (Braces b) (Braces b) (Braces b) Anything (Blank 2 ∷ Mark terminal.Var ∷ Blank 1 ∷ []) (names_pieces (w ∷ ws) ++ Mark terminal.Semicolon ∷ LineEnd ∷ [])
      (count_as src (Braces b) (Braces b) (Keyword b) (Braces b) Anything (Blank 2 ∷ Mark terminal.Var ∷ Blank 1 ∷ []) (λ c p. p) (λ c p. p.braces_are) (keyword src b terminal.Var (λ c s r e. rw e refl)))
      (count_then src (Braces b) (Braces b) (Braces b) Anything (names_pieces (w ∷ ws)) (Mark terminal.Semicolon ∷ LineEnd ∷ []) (names_counted b (w ∷ ws)) (semicolon src [] b))

  program_counted : (names : Named) (body : List Stmt) → Count src (stmts_pieces names.names body 2) (Braces 1) (Braces 1) Anything → Count src (program_pieces names body) (Braces 0) (Braces 0) Anything
  program_counted names body d =
      let us = names_pieces (take names.params names.names) in
      let vs = locals_pieces (drop names.params names.names) in
      let ps = stmts_pieces names.names body 2 in
      let tail = Mark terminal.CloseBrace ∷ LineEnd ∷ [] in
      count_then src (Braces 0) (Braces 0) (Braces 0) Anything (opened terminal.Entry us) (Blank 1 ∷ Mark terminal.OpenBrace ∷ LineEnd ∷ vs ++ (ps ++ tail))
      (opened_counted src [] 0 terminal.Entry (λ c s r e. rw e refl) us (λ c p u v h k. names_counted 0 (take names.params names.names) c p.braces_are u v h tt))
      (count_then src (Braces 0) (Braces 1) (Braces 0) Anything (Blank 1 ∷ Mark terminal.OpenBrace ∷ LineEnd ∷ []) (vs ++ (ps ++ tail)) (open_brace src 0 (omega arith))
      (count_then src (Braces 1) (Braces 1) (Braces 0) Anything vs (ps ++ tail) (locals_counted 1 (drop names.params names.names))
      (count_then src (Braces 1) (Braces 1) (Braces 0) Anything ps tail d (close_brace src 0))))

pub shown_within : (src : Bytes) (names : Named) (body : List Stmt) → is_sane names body ≡ true → is_showable names body ≡ true → (u : Text) → AreOf src (program_pieces names body) u → limits.Within None u []
shown_within src names body sane shown u h =
    let p = and_is (nat_le names.params (length names.names)) _ sane in
    let q = and_is (nat_le (length names.names) VARIABLES) _ p.1 in
    let r = and_is (sane_stmts (length names.names) body) _ q.1 in
    let a = and_is (list_all is_name names.names) _ shown in
    let b = and_is (all_differ names.names) _ a.1 in
    let c = and_is (shown_stmts names.names body) (nat_le (1 + nesting_of body) BRACES) b.1 in
    let d = stmts_counted src names.names body r.0 c.0 1 (leb-true (1 + nesting_of body) BRACES c.1) 2 in
    let x = program_counted src names body d limits.start refl u [] h tt in
    (x.after, x.runs)
