-- A made source is the canonical text of its program.
use Rattle.std.proofs.Common.{◌≡◌, ℕ, zero, suc, pos, refl, ap, ap₂, ◌∙◌, List, [], ◌∷◌, ◌++◌, map, codes}
use Rattle.std.proofs.lemmas.List.{map-append}
use Rattle.std.proofs.lemmas.Grind.{flat_map-append}
use Rattle.pc_text.specs.Bytes.{Bytes}
use Rattle.pc_text.specs.Numerals.{numeral}
use Rattle.pc_language.specs.declared.terminal.Terminal.TheVariants as terminal
use Rattle.pc_program.specs.declared.tree.Stmt.{Stmt}
use Rattle.pc_show.specs.Pieces.{Piece, LineEnd, Mark, spelled, bytes_of}
use Rattle.pc_show.specs.Canonical.{lines, stmt_pieces, stmts_pieces, program_text}
use Rattle.pc_show.proofs.Laid.{num_laid, name_laid, add_laid, set_laid, while_laid, assert_laid}
use Rattle.pc_gen.specs.Pieces.{counted}
use Rattle.pc_gen.specs.Made.{loop_text, loops_text, made}
use Rattle.pc_readback.specs.MadeTrees.{names, loop, loops}

-- ---- the numbers that stand in every loop

zero_text : numeral (pos 0) ≡ codes "0"
unfolding numeral
zero_text = refl

one_text : numeral (pos 1) ≡ codes "1"
unfolding numeral
one_text = refl

ten_text : numeral (pos 10) ≡ codes "10"
unfolding numeral
ten_text = refl

-- ---- statements of the program's own block

abbrev body_text : List Stmt → Bytes
body_text ss = bytes_of (stmts_pieces names.names ss 2)

one_written : (k : ℕ) → body_text (loop k) ≡ loop_text k
unfolding counted
one_written k = simp (num_laid, name_laid, add_laid, set_laid, while_laid, assert_laid, zero_text, one_text, ten_text)

both_written : (xs ys : List Stmt) → body_text (xs ++ ys) ≡ body_text xs ++ body_text ys
both_written xs ys =
    ap (λ (fs : List (ℕ → List Piece)). bytes_of (lines fs 2)) (map-append (stmt_pieces names.names) xs ys) ∙
    ap bytes_of (flat_map-append (λ (f : ℕ → List Piece). f 2) (map (stmt_pieces names.names) xs) (map (stmt_pieces names.names) ys)) ∙
    flat_map-append spelled (stmts_pieces names.names xs 2) (stmts_pieces names.names ys 2)

all_written : (n : ℕ) → body_text (loops n) ≡ loops_text n
all_written zero = refl
all_written (suc n) = both_written (loops n) (loop (suc n)) ∙ ap₂ (λ x y. x ++ y) (all_written n) (one_written (suc n))

pub made_written : (n : ℕ) → program_text names (loops n) ≡ made n
made_written n =
    ap (λ z. codes "entry (a) {\n  var i;\n" ++ z)
    (flat_map-append spelled (stmts_pieces names.names (loops n) 2) (Mark terminal.CloseBrace ∷ LineEnd ∷ []) ∙ ap (λ z. z ++ codes "}\n") (all_written n))
