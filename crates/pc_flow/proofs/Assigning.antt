-- What an edge assigns to is among the variables of a state.
use Rattle.std.proofs.Common.{◌≡◌, ℕ, length, arith}
use Rattle.pc_rows.specs.Linear.{State}
use Rattle.pc_flow.specs.declared.what.What.{What}
use Rattle.pc_flow.specs.declared.what.What.TheVariants.{Enter, Test, Set, Check}
use Rattle.pc_flow.specs.Carry.{HasVariable}
use Rattle.pc_flow.specs.Shape.{WhatIsOver}

-- a state with a value for each variable has one for that which an edge assigns
pub has_variable : (v : ℕ) (w : What) (s : State) → WhatIsOver v w → length s ≡ v → HasVariable w s
has_variable v (Enter params) s over long = tt
has_variable v (Test rows) s over long = tt
has_variable v (Set x form lo hi) s over long = let lt = over.0 in omega arith
has_variable v (Check rows) s over long = tt
