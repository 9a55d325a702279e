-- That each variable of a part of a program has a name.
use Rattle.std.specs.Prelude.{ℕ, nat_lt, List, map, Bool, true, ◌&&◌}
use Rattle.std.specs.List.{list_all}
use Rattle.pc_program.specs.declared.tree.Compare.{Compare}
use Rattle.pc_program.specs.declared.tree.Test.{Test}
use Rattle.pc_program.specs.declared.tree.Test.TheVariants as test
use Rattle.pc_program.specs.declared.tree.Stmt.{Stmt, Stmt-F, fold-Stmt}
use Rattle.pc_program.specs.declared.tree.Stmt.TheOpen as stmt
use Rattle.pc_program.specs.Sane.{names_below, all_true}

-- each variable of a comparison is one of n
abbrev pub named_compare : ℕ → Compare → Bool
named_compare n c = names_below n c.left && names_below n c.right

abbrev pub named_all : ℕ → List Compare → Bool
named_all n cs = list_all (named_compare n) cs

abbrev pub named_test : ℕ → Test → Bool
named_test n test.Any = true
named_test n (test.All cs) = named_all n cs

abbrev pub named_step : ℕ → Stmt-F Bool → Bool
named_step n (stmt.Set p v r) = nat_lt v n && names_below n r.expr
named_step n (stmt.If p t xs ys) = named_test n t && (all_true xs && all_true ys)
named_step n (stmt.While p t tried xs) = named_test n t && (named_all n tried && all_true xs)
named_step n (stmt.Assert p cs) = named_all n cs
named_step n (stmt.Assume p cs) = named_all n cs

abbrev pub named_stmt : ℕ → Stmt → Bool
named_stmt n s = fold-Stmt Bool (named_step n) s

abbrev pub named_stmts : ℕ → List Stmt → Bool
named_stmts n ss = all_true (map (named_stmt n) ss)
