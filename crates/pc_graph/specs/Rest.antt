-- The statements that are still to be run at each point of a program's graph.
use Rattle.std.specs.Prelude.{ℕ, List, [], ◌∷◌, ◌++◌, map, slice_index_or}
use Rattle.pc_program.specs.declared.program.Program.{Program}
use Rattle.pc_program.specs.declared.tree.Stmt.{Stmt, Stmt-F, roll-Stmt, para-Stmt}
use Rattle.pc_program.specs.declared.tree.Stmt.TheOpen as stmt

-- from what follows a statement: the lists at the points that its rule makes, in the order in which it makes them
abbrev pub Rests : Type 0
Rests = List Stmt → List (List Stmt)

abbrev pub firsts : List (Stmt × Rests) → List Stmt
firsts xs = map (λ x. x.0) xs

abbrev pub rests_in_order : List (Stmt × Rests) → Rests
rests_in_order [] k = []
rests_in_order (x ∷ xs) k = x.1 (firsts xs ++ k) ++ rests_in_order xs k

-- the last point of a block of an `if` has what follows the `if`; that of a loop's body has the loop and what follows it
abbrev pub rests_step : Stmt-F (Stmt × Rests) → Rests
rests_step (stmt.Set p v r) k = k ∷ []
rests_step (stmt.Assert p cs) k = k ∷ []
rests_step (stmt.Assume p cs) k = k ∷ []
rests_step (stmt.If p t xs ys) k = (firsts xs ++ k) ∷ (rests_in_order xs k ++ ((firsts ys ++ k) ∷ (rests_in_order ys k ++ (k ∷ []))))
rests_step (stmt.While p t tried xs) k =
    (firsts xs ++ (roll-Stmt (stmt.While p t tried (firsts xs)) ∷ k)) ∷
    (rests_in_order xs (roll-Stmt (stmt.While p t tried (firsts xs)) ∷ k) ++ (k ∷ []))

abbrev pub rests : Stmt → Rests
rests x = para-Stmt Rests rests_step x

abbrev pub rests_of : List Stmt → Rests
rests_of [] k = []
rests_of (x ∷ xs) k = rests x (xs ++ k) ++ rests_of xs k

-- the list at a point of a program's graph; the entry and the start have the whole body
abbrev pub rest : Program → ℕ → List Stmt
rest p n = slice_index_or (p.body ∷ p.body ∷ rests_of p.body []) n []
