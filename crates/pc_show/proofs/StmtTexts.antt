-- The text of a statement, a push at a time.
use Rattle.std.proofs.Common.{◌≡◌, ℕ, zero, suc, ◌+◌, ◌<◌, refl, ap, sym, ◌∙◌, arith, List, [], ◌∷◌, ◌++◌, append_assoc, length, get_or, map, true, codes}
use Rattle.std.proofs.lemmas.Grind.{flat_map-append}
use Rattle.pc_text.specs.Bytes.{Bytes}
use Rattle.pc_text.specs.declared.place.Place.{Place}
use Rattle.pc_language.specs.declared.terminal.Terminal.{Terminal}
use Rattle.pc_language.specs.declared.terminal.Terminal.TheVariants as terminal
use Rattle.pc_program.specs.declared.tree.Compare.{Compare}
use Rattle.pc_program.specs.declared.tree.Test.{Test}
use Rattle.pc_program.specs.declared.tree.Stmt.{Stmt}
use Rattle.pc_program.specs.declared.tree.Stmt.TheVariants as s
use Rattle.pc_show.specs.Pieces.{Piece, Blank, LineEnd, Mark, spelling, spelled, blanks, bytes_of}
use Rattle.pc_show.specs.Canonical.{opened, block, else_part, test_pieces, all_pieces, tried_pieces, stmt_pieces, stmts_pieces}
use Rattle.pc_program.specs.Naming.{named_stmt, named_stmts}
use Rattle.pc_program.proofs.Results.{and_is}
use Rattle.pc_show.proofs.Laid.{if_laid, while_laid, assert_laid, assume_laid}

-- ---- each statement of a list is named

named_from : (n : ℕ) (xs : List Stmt) (i : ℕ) (x : Stmt) → named_stmts n xs ≡ true → i < length xs → named_stmt n (get_or xs i x) ≡ true
named_from n [] i x h l = absurd (omega arith)
named_from n (y ∷ ys) zero x h l = (and_is (named_stmt n y) (named_stmts n ys) h).0
named_from n (y ∷ ys) (suc i) x h l = named_from n ys i x (and_is (named_stmt n y) (named_stmts n ys) h).1 (omega arith)

pub item_named : (n : ℕ) (xs : List Stmt) (i : ℕ) (x : Stmt) → named_stmts n xs ≡ true → i < length xs → x ≡ get_or xs i x → named_stmt n x ≡ true
item_named n xs i x h l e = ap (named_stmt n) e ∙ named_from n xs i x h l

-- ---- the texts of pieces

opened_text : (k : Terminal) (ps qs : List Piece) → bytes_of (opened k ps ++ qs) ≡ spelling k ++ (codes " (" ++ (bytes_of ps ++ (codes ")" ++ bytes_of qs)))
opened_text k ps qs =
    let e : bytes_of ((ps ++ Mark terminal.CloseParen ∷ []) ++ qs) ≡ bytes_of ps ++ (codes ")" ++ bytes_of qs) =
    ap bytes_of (append_assoc ps (Mark terminal.CloseParen ∷ []) qs) ∙ flat_map-append spelled ps (Mark terminal.CloseParen ∷ qs) in
    ap (λ z. spelling k ++ (codes " (" ++ z)) e

block_text : (ls : List Piece) (n : ℕ) → bytes_of (Blank 1 ∷ Mark terminal.OpenBrace ∷ LineEnd ∷ ls ++ Blank n ∷ Mark terminal.CloseBrace ∷ []) ≡ codes " {\n" ++ (bytes_of ls ++ (blanks n ++ codes "}"))
block_text ls n = ap (λ z. codes " {\n" ++ z) (flat_map-append spelled ls (Blank n ∷ Mark terminal.CloseBrace ∷ []))

-- a keyword with what it encloses, and two parts behind it
tested_text : (n : ℕ) (k : Terminal) (ps qs rs : List Piece) →
    bytes_of (Blank n ∷ opened k ps ++ (qs ++ (rs ++ LineEnd ∷ []))) ≡ blanks n ++ (spelling k ++ (codes " (" ++ (bytes_of ps ++ (codes ")" ++ (bytes_of qs ++ (bytes_of rs ++ codes "\n"))))))
tested_text n k ps qs rs =
    ap (λ z. blanks n ++ z) (opened_text k ps (qs ++ (rs ++ LineEnd ∷ [])) ∙
    ap (λ z. spelling k ++ (codes " (" ++ (bytes_of ps ++ (codes ")" ++ z)))) (flat_map-append spelled qs (rs ++ LineEnd ∷ []) ∙ ap (λ z. bytes_of qs ++ z) (flat_map-append spelled rs (LineEnd ∷ []))))

-- ---- statements

-- a text to which one that begins with the margin is added
margin_added : (margin t0 t1 u v : Bytes) (n : ℕ) → margin ≡ blanks n → v ≡ blanks n ++ u → t1 ≡ t0 ++ (margin ++ u) → t1 ≡ t0 ++ v
margin_added margin t0 t1 u v n e f h = rw (h, e, f) refl

-- pushes one after the other
three_added : (t0 t1 t2 t3 t4 a b c d : Bytes) → t1 ≡ t0 ++ a → t2 ≡ t1 ++ b → t3 ≡ t2 ++ c → t4 ≡ t3 ++ d → t4 ≡ t0 ++ (a ++ (b ++ (c ++ d)))
three_added t0 t1 t2 t3 t4 a b c d e f g h = rw (h, g, f, e) (simp append_assoc)

regroup : (margin word test b b' c : Bytes) → b' ≡ b → (margin ++ (word ++ (codes " (" ++ (test ++ codes ")")))) ++ (b ++ c) ≡ margin ++ (word ++ (codes " (" ++ (test ++ (codes ")" ++ (b' ++ c)))))
regroup margin word test b b' c e = rw e (simp append_assoc)

module _ (names : List Bytes) (x : Stmt) (p : Place) (margin t0 t1 : Bytes) (spaces : margin ≡ blanks (length margin)) where
  pub assert_done : (cs cs' : List Compare) → x ≡ s.Assert p cs → cs' ≡ cs → t1 ≡ t0 ++ (margin ++ (codes "assert" ++ (codes " (" ++ (bytes_of (all_pieces names cs') ++ codes ");\n")))) →
      t1 ≡ t0 ++ bytes_of (stmt_pieces names x (length margin))
  assert_done cs cs' is same h =
      let laid : stmt_pieces names x (length margin) ≡ Blank (length margin) ∷ opened terminal.Assert (all_pieces names cs') ++ Mark terminal.Semicolon ∷ LineEnd ∷ [] = rw (is, same) (assert_laid names p cs (length margin)) in
      margin_added margin t0 t1 _ _ (length margin) spaces (ap bytes_of laid ∙ ap (λ z. blanks (length margin) ++ z) (opened_text terminal.Assert (all_pieces names cs') (Mark terminal.Semicolon ∷ LineEnd ∷ []))) h

  pub assume_done : (cs cs' : List Compare) → x ≡ s.Assume p cs → cs' ≡ cs → t1 ≡ t0 ++ (margin ++ (codes "assume" ++ (codes " (" ++ (bytes_of (all_pieces names cs') ++ codes ");\n")))) →
      t1 ≡ t0 ++ bytes_of (stmt_pieces names x (length margin))
  assume_done cs cs' is same h =
      let laid : stmt_pieces names x (length margin) ≡ Blank (length margin) ∷ opened terminal.Assume (all_pieces names cs') ++ Mark terminal.Semicolon ∷ LineEnd ∷ [] = rw (is, same) (assume_laid names p cs (length margin)) in
      margin_added margin t0 t1 _ _ (length margin) spaces (ap bytes_of laid ∙ ap (λ z. blanks (length margin) ++ z) (opened_text terminal.Assume (all_pieces names cs') (Mark terminal.Semicolon ∷ LineEnd ∷ []))) h

  module _ (t2 t3 t4 : Bytes) (t : Test) (xs xs' : List Stmt) (same : xs' ≡ xs) where
    body_text : bytes_of (block (map (stmt_pieces names) xs') (length margin)) ≡ codes " {\n" ++ (bytes_of (stmts_pieces names xs' (length margin + 2)) ++ (margin ++ codes "}"))
    body_text = block_text (stmts_pieces names xs' (length margin + 2)) (length margin) ∙ ap (λ z. codes " {\n" ++ (bytes_of (stmts_pieces names xs' (length margin + 2)) ++ (z ++ codes "}"))) (sym spaces)

    pub if_done : (ys ys' : List Stmt) → x ≡ s.If p t xs ys → ys' ≡ ys →
        t1 ≡ t0 ++ (margin ++ (codes "if" ++ (codes " (" ++ (bytes_of (test_pieces names t) ++ codes ")")))) →
        t2 ≡ t1 ++ (codes " {\n" ++ (bytes_of (stmts_pieces names xs' (length margin + 2)) ++ (margin ++ codes "}"))) →
        t3 ≡ t2 ++ bytes_of (else_part (map (stmt_pieces names) ys') (length margin)) → t4 ≡ t3 ++ codes "\n" →
        t4 ≡ t0 ++ bytes_of (stmt_pieces names x (length margin))
    if_done ys ys' is alike a b c d =
        let laid : stmt_pieces names x (length margin) ≡
        Blank (length margin) ∷ opened terminal.If (test_pieces names t) ++ (block (map (stmt_pieces names) xs') (length margin) ++ (else_part (map (stmt_pieces names) ys') (length margin) ++ LineEnd ∷ [])) =
        rw (is, same, alike) (if_laid names p t xs ys (length margin)) in
        let text = ap bytes_of laid ∙ tested_text (length margin) terminal.If (test_pieces names t) (block (map (stmt_pieces names) xs') (length margin)) (else_part (map (stmt_pieces names) ys') (length margin)) in
        margin_added margin t0 t4 _ _ (length margin) spaces text (three_added t0 t1 t2 t3 t4 _ _ _ _ a b c d ∙ ap (λ z. t0 ++ z) (regroup margin (codes "if") (bytes_of (test_pieces names t)) _ _
        (bytes_of (else_part (map (stmt_pieces names) ys') (length margin)) ++ codes "\n") body_text))

    pub while_done : (tried tried' : List Compare) → x ≡ s.While p t tried xs → tried' ≡ tried →
        t1 ≡ t0 ++ (margin ++ (codes "while" ++ (codes " (" ++ (bytes_of (test_pieces names t) ++ codes ")")))) →
        t2 ≡ t1 ++ bytes_of (tried_pieces names tried') →
        t3 ≡ t2 ++ (codes " {\n" ++ (bytes_of (stmts_pieces names xs' (length margin + 2)) ++ (margin ++ codes "}"))) → t4 ≡ t3 ++ codes "\n" →
        t4 ≡ t0 ++ bytes_of (stmt_pieces names x (length margin))
    while_done tried tried' is alike a b c d =
        let laid : stmt_pieces names x (length margin) ≡
        Blank (length margin) ∷ opened terminal.While (test_pieces names t) ++ (tried_pieces names tried' ++ (block (map (stmt_pieces names) xs') (length margin) ++ LineEnd ∷ [])) =
        rw (is, same, alike) (while_laid names p t tried xs (length margin)) in
        let text = ap bytes_of laid ∙ tested_text (length margin) terminal.While (test_pieces names t) (tried_pieces names tried') (block (map (stmt_pieces names) xs') (length margin)) in
        let pushed = three_added t0 t1 t2 t3 t4 _ _ _ _ a b c d ∙ ap (λ z. t0 ++ ((margin ++ (codes "while" ++ (codes " (" ++ (bytes_of (test_pieces names t) ++ codes ")")))) ++ (bytes_of (tried_pieces names tried') ++ (z ++ codes "\n")))) (sym body_text) in
        margin_added margin t0 t4 _ _ (length margin) spaces text (pushed ∙ ap (λ z. t0 ++ z) (regroup margin (codes "while") (bytes_of (test_pieces names t)) _ _
        (bytes_of (block (map (stmt_pieces names) xs') (length margin)) ++ codes "\n") refl))
