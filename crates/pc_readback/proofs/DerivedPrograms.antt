-- The symbols of a program's pieces derive a tree, of which the walk makes the program again.
use Rattle.std.proofs.Common.{◌≡◌, ℕ, ◌≤◌, refl, sym, ◌∙◌, ap, arith, List, [], ◌∷◌, ◌++◌, length, length-append, length-take-le, take-append-drop, map, sum, take, drop, true, Ok}
use Rattle.std.specs.Prelude.{nat_le}
use Rattle.std.proofs.lemmas.Bool.{leb-true}
use Rattle.std.proofs.lemmas.List.{length-map}
use Rattle.pc_text.specs.Bytes.{Bytes}
use Rattle.pc_text.specs.Named.{Named}
use Rattle.pc_rows.specs.declared.row.TheConstants.{VARIABLES}
use Rattle.pc_language.specs.declared.terminal.Terminal.TheVariants as terminal
use Rattle.pc_grammar.specs.declared.tree.ProgramTree.{ProgramTree}
use Rattle.pc_grammar.specs.Combinators.{Text, is_map, is_both, is_maybe}
use Rattle.pc_grammar.specs.Terminals.{is_one}
use Rattle.pc_grammar.specs.Statements.{is_stmts}
use Rattle.pc_grammar.specs.Starts.{Derives}
use Rattle.pc_grammar.specs.Programs as grammar
use Rattle.pc_language.specs.declared.limits.TheConstants.{EDGES}
use Rattle.pc_program.specs.declared.tree.Stmt.{Stmt}
use Rattle.pc_show.specs.Pieces.{Piece, Blank, LineEnd, Mark}
use Rattle.pc_show.specs.Canonical.{names_pieces, locals_pieces, stmts_pieces, program_pieces}
use Rattle.pc_readback.specs.Matched.{AreOf}
use Rattle.pc_program.specs.Sane.{sane_stmts, edges, edges_of, is_sane}
use Rattle.pc_readback.specs.Showable.{all_differ}
use Rattle.pc_syntax.specs.Context.{Content, word, checked_names, checked}
use Rattle.pc_readback.specs.Bare.{bare}
use Rattle.pc_program.proofs.Results.{and_is}
use Rattle.pc_readback.proofs.Derived.{Derive, derive_map, derive_both, derive_one, derive_between}
use Rattle.pc_readback.proofs.StmtsAgain.{AreStmts}
use Rattle.pc_readback.proofs.DerivedStmts.{shown_stmts}
use Rattle.pc_readback.proofs.NamesAgain.{AreNames, all_distinct, differ_parts, declared_again, params_derive, locals_derive}

-- the walk makes of the tree these names, and this body apart from places
pub record IsProgram (src : Bytes) (names : Named) (body : List Stmt) (t : ProgramTree) : Type 0 where
  pub content : Content
  pub walked : checked src t ≡ Ok content
  pub named : content.names ≡ names
  pub same : bare content.body ≡ bare body

-- what holds of the parts of a tree
record Parts (src : Bytes) (names : Named) (body : List Stmt) (t : ProgramTree) : Type 0 where
  params : AreNames src (take names.params names.names) t.params
  locals : AreNames src (drop names.params names.names) t.locals
  stmts : AreStmts src names.names (bare body) (sum (map edges body)) t.body

names_again : (src : Bytes) (names : Named) (body : List Stmt) (t : ProgramTree) → length names.names ≤ VARIABLES → all_differ names.names ≡ true → Parts src names body t → checked_names src t ≡ Ok names.names
names_again src names body t few differ x =
    let us = take names.params names.names in
    let vs = drop names.params names.names in
    let whole : us ++ vs ≡ names.names = take-append-drop names.params names.names in
    let d = differ_parts [] us vs (ap all_differ whole ∙ differ) in
    let n = length-append us vs in
    let m = ap length whole in
    rw (declared_again src [] us t.params x.params d.0 (omega arith)) (declared_again src us vs t.locals x.locals d.1 (omega arith) ∙ ap Ok whole)

program_again : (src : Bytes) (names : Named) (body : List Stmt) (t : ProgramTree) → names.params ≤ length names.names → length names.names ≤ VARIABLES → all_differ names.names ≡ true → edges_of body ≤ EDGES →
    Parts src names body t → IsProgram src names body t
program_again src names body t within few differ short x =
    let b = x.stmts 1 short in
    let params : length t.params ≡ names.params = sym (length-map t.params (word src)) ∙ ap length x.params ∙ length-take-le names.params names.names within in
    record {
      content = record { place = t.place; names = record { names = names.names; params = length t.params }; body = b.stmts };
      walked = rw (names_again src names body t few differ x, b.walked) refl;
      named = ap (λ (n : ℕ). record { names = names.names; params = n }) params;
      same = b.same;
    }

module _ (src : Bytes) (names : Named) (body : List Stmt) where
  abbrev us : List Piece
  us = names_pieces (take names.params names.names)

  abbrev vs : List Piece
  vs = locals_pieces (drop names.params names.names)

  program_derives : (n : ℕ) → Derive src (stmts_pieces names.names body 2) (is_stmts n) (AreStmts src names.names (bare body) (sum (map edges body))) →
      Derive src (program_pieces names body) (grammar.is_program n) (Parts src names body)
  program_derives n d =
      let behind = derive_both src _ _ (AreStmts src names.names (bare body) (sum (map edges body))) _ (stmts_pieces names.names body 2) (Mark terminal.CloseBrace ∷ LineEnd ∷ []) d (derive_one src terminal.CloseBrace refl) in
      let inside = derive_both src grammar.is_locals _ (AreNames src (drop names.params names.names)) _ vs (stmts_pieces names.names body 2 ++ Mark terminal.CloseBrace ∷ LineEnd ∷ [])
      (locals_derive src (drop names.params names.names)) behind in
      let braces = derive_both src _ _ _ _ (Blank 1 ∷ Mark terminal.OpenBrace ∷ LineEnd ∷ [])
      (vs ++ (stmts_pieces names.names body 2 ++ Mark terminal.CloseBrace ∷ LineEnd ∷ [])) (derive_one src terminal.OpenBrace refl) inside in
      let params = derive_between src terminal.OpenParen terminal.CloseParen (is_map grammar.given (is_maybe grammar.is_names)) _ _ (AreNames src (take names.params names.names)) (Mark terminal.OpenParen ∷ []) us (Mark terminal.CloseParen ∷ [])
      (derive_one src terminal.OpenParen refl) (params_derive src (take names.params names.names)) (derive_one src terminal.CloseParen refl) in
      derive_map src grammar.program_of (is_both (is_one terminal.Entry) (is_both grammar.is_params (is_both (is_one terminal.OpenBrace) (is_both grammar.is_locals (is_both (is_stmts n) (is_one terminal.CloseBrace)))))) _ (Parts src names body) (program_pieces names body)
      (λ x h. record { params = h.1.0; locals = h.1.1.1.0; stmts = h.1.1.1.1.0 })
      (derive_both src _ _ _ _ (Mark terminal.Entry ∷ Blank 1 ∷ [])
      ((Mark terminal.OpenParen ∷ us ++ Mark terminal.CloseParen ∷ []) ++ (Blank 1 ∷ Mark terminal.OpenBrace ∷ LineEnd ∷ vs ++ (stmts_pieces names.names body 2 ++ Mark terminal.CloseBrace ∷ LineEnd ∷ []))) (derive_one src terminal.Entry refl)
      (derive_both src grammar.is_params _ (AreNames src (take names.params names.names)) _
      (Mark terminal.OpenParen ∷ us ++ Mark terminal.CloseParen ∷ []) (Blank 1 ∷ Mark terminal.OpenBrace ∷ LineEnd ∷ vs ++ (stmts_pieces names.names body 2 ++ Mark terminal.CloseBrace ∷ LineEnd ∷ [])) params braces))

-- the symbols of the pieces of a program derive a tree, of which the walk makes this program apart from places
pub record Derived (src : Bytes) (names : Named) (body : List Stmt) (u : Text) : Type 0 where
  pub tree : ProgramTree
  pub derives : Derives grammar.programs tree u
  pub again : IsProgram src names body tree

pub shown_program : (src : Bytes) (names : Named) (body : List Stmt) → is_sane names body ≡ true → all_differ names.names ≡ true → (u : Text) → AreOf src (program_pieces names body) u → Derived src names body u
shown_program src names body sane differ u h =
    let p = and_is (nat_le names.params (length names.names)) _ sane in
    let q = and_is (nat_le (length names.names) VARIABLES) _ p.1 in
    let r = and_is (sane_stmts (length names.names) body) _ q.1 in
    let d = shown_stmts src names.names (all_distinct names.names differ) body r.0 2 in
    let t = program_derives src names body d.0 (d.1 d.0 (omega arith)) u h in
    record {
      tree = t.tree;
      derives = (d.0, t.derives);
      again = program_again src names body t.tree (leb-true names.params (length names.names) p.0) (leb-true (length names.names) VARIABLES q.0) differ (leb-true (edges_of body) EDGES r.1) t.holds;
    }
