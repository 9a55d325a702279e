-- The walk in the middle of a list: what is made already, and what the rest gives.
use Rattle.std.specs.Prelude.{List, ◌++◌, Result, Ok}
use Rattle.pc_program.specs.Forms.{bind}
use Rattle.pc_syntax.specs.declared.fault.SourceFault.{SourceFault}
use Rattle.pc_syntax.specs.declared.walk.CountedList.{CountedList}
use Rattle.pc_program.specs.declared.tree.Stmt.{Stmt}

-- items, and behind them those of an answer
abbrev pub behind : {A : Type 0} → List A → Result (List A) SourceFault → Result (List A) SourceFault
behind done r = bind r (λ more. Ok (done ++ more))

-- the same for statements with their count
abbrev pub counted_behind : List Stmt → Result CountedList SourceFault → Result CountedList SourceFault
counted_behind done r = bind r (λ more. Ok (record { stmts = done ++ more.stmts; edges = more.edges }))
