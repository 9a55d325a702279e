-- The loops of the descent, each with what it has gathered so far.
use Rattle.std.proofs.Common.{◌≡◌, ℕ, zero, suc, ◌<◌, ◌-◌, true, false, List, [], ◌∷◌, ◌++◌, length, Some, None, refl, sym, append_assoc, append-nil, arith}
use Rattle.pc_grammar.specs.declared.symbol.Symbol.{Symbol}
use Rattle.pc_language.specs.declared.terminal.Terminal.TheVariants as terminal
use Rattle.pc_grammar.specs.declared.tree.ExprTree.{ExprTree}
use Rattle.pc_grammar.specs.declared.tree.StmtTree.{StmtTree}
use Rattle.pc_grammar.specs.declared.tree.CompareTree.{CompareTree}
use Rattle.pc_language.specs.declared.choice.Choice.{Choice}
use Rattle.pc_grammar.specs.declared.tree.RightTree.{RightTree}
use Rattle.pc_grammar.specs.declared.right.Next.TheVariants as next_is
use Rattle.pc_grammar.specs.Next.{next_of}
use Rattle.pc_grammar.specs.Rights.{part, joined}
use Rattle.pc_grammar.specs.Combinators.{Text, Parser, Out, Got, Stops, Fault, starts, map_out, both, Part, More, Last, series}
use Rattle.pc_grammar.specs.Terminals.{among, the, one}
use Rattle.pc_grammar.specs.Expressions.{signs, product, products, sum, sums, star_factor, sign_addend, paren_in, paren, is_paren}
use Rattle.pc_grammar.specs.Statements.{begins_stmt, seconds, compare, stmt, block_in, block, is_block}
use Rattle.pc_grammar.specs.Programs.{flat, var_line}
use Rattle.pc_grammar.proofs.Sets.{both_begins, one_begins}
use Rattle.pc_grammar.proofs.Loops.{progress_of, gathered, gathered_got, map_twice, series_stop, series_refused, series_ended, series_got}
use Rattle.pc_grammar.proofs.Expressions.{only, paren_laws, paren_begins, star_factor_laws, sign_addend_laws}
use Rattle.pc_grammar.proofs.Rights.{part_laws, part_begins}
use Rattle.pc_grammar.proofs.Statements.{and_compare_laws, stmt_laws, stmt_begins, block_laws, block_begins}
use Rattle.pc_grammar.proofs.Programs.{comma_name_laws, var_line_laws, var_line_begins}

-- ---- products and sums

abbrev pub products_from : Parser ExprTree → ExprTree → Text → Out ExprTree
products_from p = gathered products (the terminal.Star) (star_factor p)

star_progress : (n : ℕ) (i r : Text) (a : Symbol × ExprTree) → star_factor (paren n) i ≡ Got a r → length r < length i
star_progress n = progress_of (the terminal.Star) _ _ _ _ _ (star_factor_laws _ _ _ _ (paren_laws n) (paren_begins n)) (both_begins _ _ _ (one_begins (only terminal.Star)))

pub products_got : (n : ℕ) (x : ExprTree) (i r : Text) (y : Symbol × ExprTree) → starts (the terminal.Star) i ≡ true → star_factor (paren n) i ≡ Got y r
    → products_from (paren n) x i ≡ products_from (paren n) (product x y) r
products_got n = gathered_got products product (λ b. refl) (λ b a xs. refl) (the terminal.Star) (star_factor (paren n)) (star_progress n)

abbrev pub sums_from : Parser ExprTree → ExprTree → Text → Out ExprTree
sums_from p = gathered sums (among signs) (sign_addend p)

sign_progress : (n : ℕ) (i r : Text) (a : Symbol × ExprTree) → sign_addend (paren n) i ≡ Got a r → length r < length i
sign_progress n = progress_of (among signs) _ _ _ _ _ (sign_addend_laws _ _ _ _ (paren_laws n) (paren_begins n)) (both_begins _ _ _ (one_begins signs))

pub sums_got : (n : ℕ) (x : ExprTree) (i r : Text) (y : Symbol × ExprTree) → starts (among signs) i ≡ true → sign_addend (paren n) i ≡ Got y r
    → sums_from (paren n) x i ≡ sums_from (paren n) (sum x y) r
sums_got n = gathered_got sums sum (λ b. refl) (λ b a xs. refl) (among signs) (sign_addend (paren n)) (sign_progress n)

-- ---- lists with separators

abbrev pub put_seconds : {A : Type 0} → List A → List (Symbol × A) → List A
put_seconds found ys = found ++ seconds ys

put_more : {A : Type 0} (found : List A) (y : Symbol × A) (ys : List (Symbol × A)) → put_seconds found (y ∷ ys) ≡ put_seconds (found ++ y.1 ∷ []) ys
put_more found y ys = sym (append_assoc found (y.1 ∷ []) (seconds ys))

abbrev pub put_second : {A : Type 0} → List A → Symbol × A → List A
put_second found y = found ++ y.1 ∷ []

abbrev pub compares_from : Parser ExprTree → List CompareTree → Text → Out (List CompareTree)
compares_from p = gathered put_seconds (the terminal.And) (both (one terminal.And) (compare p))

compare_progress : (n : ℕ) (i r : Text) (a : Symbol × CompareTree) → both (one terminal.And) (compare (paren n)) i ≡ Got a r → length r < length i
compare_progress n = progress_of (the terminal.And) _ _ _ _ _ (and_compare_laws _ _ _ _ (paren_laws n) (paren_begins n)) (both_begins _ _ _ (one_begins (only terminal.And)))

pub compares_got : (n : ℕ) (found : List CompareTree) (i r : Text) (y : Symbol × CompareTree) → starts (the terminal.And) i ≡ true → both (one terminal.And) (compare (paren n)) i ≡ Got y r
    → compares_from (paren n) found i ≡ compares_from (paren n) (put_second found y) r
compares_got n = gathered_got put_seconds put_second append-nil put_more (the terminal.And) (both (one terminal.And) (compare (paren n))) (compare_progress n)

abbrev pub names_from : List Symbol → Text → Out (List Symbol)
names_from = gathered put_seconds (the terminal.Comma) (both (one terminal.Comma) (one terminal.Name))

pub names_got : (found : List Symbol) (i r : Text) (y : Symbol × Symbol) → starts (the terminal.Comma) i ≡ true → both (one terminal.Comma) (one terminal.Name) i ≡ Got y r
    → names_from found i ≡ names_from (put_second found y) r
names_got = gathered_got put_seconds put_second append-nil put_more (the terminal.Comma) (both (one terminal.Comma) (one terminal.Name))
    (progress_of (the terminal.Comma) _ _ _ _ _ comma_name_laws (both_begins _ _ _ (one_begins (only terminal.Comma))))

-- ---- locals

abbrev pub put_flat : List Symbol → List (List Symbol) → List Symbol
put_flat found xss = found ++ flat xss

abbrev put_line : List Symbol → List Symbol → List Symbol
put_line found xs = found ++ xs

abbrev pub locals_from : List Symbol → Text → Out (List Symbol)
locals_from = gathered put_flat (the terminal.Var) var_line

pub locals_got : (found : List Symbol) (i r : Text) (xs : List Symbol) → starts (the terminal.Var) i ≡ true → var_line i ≡ Got xs r → locals_from found i ≡ locals_from (found ++ xs) r
locals_got = gathered_got put_flat put_line append-nil (λ found xs xss. sym (append_assoc found xs (flat xss))) (the terminal.Var) var_line (progress_of (the terminal.Var) _ _ _ _ _ var_line_laws var_line_begins)

-- ---- statements

abbrev pub put_all : List StmtTree → List StmtTree → List StmtTree
put_all found xs = found ++ xs

abbrev put_one : List StmtTree → StmtTree → List StmtTree
put_one found x = found ++ x ∷ []

abbrev pub stmts_from : ℕ → List StmtTree → Text → Out (List StmtTree)
stmts_from n = gathered put_all (among begins_stmt) (stmt (paren n) (block n))

stmt_progress : (n : ℕ) (i r : Text) (a : StmtTree) → stmt (paren n) (block n) i ≡ Got a r → length r < length i
stmt_progress n = progress_of (among begins_stmt) _ _ _ _ _ (stmt_laws _ _ _ _ (paren_laws n) (paren_begins n) _ _ _ _ (block_laws n) (block_begins n)) (stmt_begins (is_paren n) (is_block n))

pub stmts_got : (n : ℕ) (found : List StmtTree) (i r : Text) (x : StmtTree) → starts (among begins_stmt) i ≡ true → stmt (paren n) (block n) i ≡ Got x r
    → stmts_from n found i ≡ stmts_from n (found ++ x ∷ []) r
stmts_got n = gathered_got put_all put_one append-nil (λ found x xs. sym (append_assoc found (x ∷ []) xs)) (among begins_stmt) (stmt (paren n) (block n)) (stmt_progress n)

-- ---- processes

abbrev put_blocks : List (List StmtTree) → List (List StmtTree) → List (List StmtTree)
put_blocks found xss = found ++ xss

abbrev put_block : List (List StmtTree) → List StmtTree → List (List StmtTree)
put_block found xs = found ++ xs ∷ []

abbrev pub blocks_from : ℕ → List (List StmtTree) → Text → Out (List (List StmtTree))
blocks_from n = gathered put_blocks (the terminal.OpenBrace) (block n)

block_progress : (n : ℕ) (i r : Text) (a : List StmtTree) → block n i ≡ Got a r → length r < length i
block_progress n = progress_of (the terminal.OpenBrace) _ _ _ _ _ (block_laws n) (block_begins n)

pub blocks_got : (n : ℕ) (found : List (List StmtTree)) (i r : Text) (xs : List StmtTree) → starts (the terminal.OpenBrace) i ≡ true → block n i ≡ Got xs r
    → blocks_from n found i ≡ blocks_from n (found ++ xs ∷ []) r
blocks_got n = gathered_got put_blocks put_block append-nil (λ found xs xss. sym (append_assoc found (xs ∷ []) xss)) (the terminal.OpenBrace) (block n) (block_progress n)

-- ---- one level of nesting

pub paren_down : (d : ℕ) → 0 < d → paren d ≡ paren_in (paren (d - 1))
paren_down zero h = absurd (omega arith)
paren_down (suc n) h = let z : suc n - 1 ≡ n = omega arith in rw z refl

pub block_down : (d : ℕ) → 0 < d → block d ≡ block_in (paren (d - 1)) (block (d - 1))
block_down zero h = absurd (omega arith)
block_down (suc n) h = let z : suc n - 1 ≡ n = omega arith in rw z refl

-- ---- right sides

abbrev pub joined_from : Parser ExprTree → ExprTree → Text → Out RightTree
joined_from p x i = map_out (λ y. joined (x, y)) (series (among signs) (part p) i)

part_progress : (n : ℕ) (i r : Text) (a : Part (Symbol × ExprTree) Choice) → part (paren n) i ≡ Got a r → length r < length i
part_progress n = progress_of (among signs) _ _ _ _ _ (part_laws _ _ _ _ (paren_laws n) (paren_begins n)) (part_begins (is_paren n))

next_more : (o : Out (Part (Symbol × ExprTree) Choice)) (s : Symbol) (x : ExprTree) (r : Text) → map_out next_of o ≡ Got (next_is.More s x) r → o ≡ Got (More (s, x)) r
next_more (Stops k r') s x r e = absurd (cc)
next_more (Got (Last z) r') s x r e = absurd (cc)
next_more (Got (More (u, y)) r') s x r e = cc

next_last : (o : Out (Part (Symbol × ExprTree) Choice)) (z : Choice) (r : Text) → map_out next_of o ≡ Got (next_is.Last z) r → o ≡ Got (Last z) r
next_last (Stops k r') z r e = absurd (cc)
next_last (Got (Last y) r') z r e = cc
next_last (Got (More (u, y)) r') z r e = absurd (cc)

next_stops : (o : Out (Part (Symbol × ExprTree) Choice)) (k : Fault) (r : Text) → map_out next_of o ≡ Stops k r → o ≡ Stops k r
next_stops (Stops k' r') k r e = cc
next_stops (Got x r') k r e = absurd (cc)

pub joined_stop : (n : ℕ) (x : ExprTree) (i : Text) → starts (among signs) i ≡ false → joined_from (paren n) x i ≡ Got (joined (x, ([], None))) i
joined_stop n x i h = rw (series_stop (among signs) (part (paren n)) (part_progress n) i h) refl

pub joined_refused : (n : ℕ) (x : ExprTree) (i r : Text) (q : Fault) → starts (among signs) i ≡ true → map_out next_of (part (paren n) i) ≡ Stops q r → joined_from (paren n) x i ≡ Stops q r
joined_refused n x i r q h g = rw (series_refused (among signs) (part (paren n)) (part_progress n) i r q h (next_stops (part (paren n) i) q r g)) refl

pub joined_ended : (n : ℕ) (x : ExprTree) (z : Choice) (i r : Text) → starts (among signs) i ≡ true → map_out next_of (part (paren n) i) ≡ Got (next_is.Last z) r
    → joined_from (paren n) x i ≡ Got (joined (x, ([], Some z))) r
joined_ended n x z i r h g = rw (series_ended (among signs) (part (paren n)) (part_progress n) i r z h (next_last (part (paren n) i) z r g)) refl

pub joined_got : (n : ℕ) (x y : ExprTree) (s : Symbol) (i r : Text) → starts (among signs) i ≡ true → map_out next_of (part (paren n) i) ≡ Got (next_is.More s y) r
    → joined_from (paren n) x i ≡ joined_from (paren n) (sum x (s, y)) r
joined_got n x y s i r h g = rw (series_got (among signs) (part (paren n)) (part_progress n) i r (s, y) h (next_more (part (paren n) i) s y r g)) (map_twice _ _ _ (λ a. refl) (series (among signs) (part (paren n)) r))
