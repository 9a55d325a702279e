-- What a function of the descent ensures: its parser's outcome, unless memory fails. At a fault the cursor stands at the symbol at fault.
use Rattle.std.specs.Prelude.{◌≡◌, Result, Ok, Err}
use Rattle.pc_grammar.specs.declared.cursor.Stop.{Stop}
use Rattle.pc_grammar.specs.declared.cursor.Stop.TheVariants as stop
use Rattle.pc_grammar.specs.Combinators.{Text, Out, Got, Stops, Syntax}

abbrev pub Fails : {A : Type 0} → Stop → Out A → Text → Type 0
Fails stop.NoMemory o new = Unit {0}
Fails stop.Syntax o new = o ≡ Stops Syntax new

abbrev pub Reads : {A : Type 0} → Out A → Result A Stop → Text → Type 0
Reads o (Ok a) new = o ≡ Got a new
Reads o (Err e) new = Fails e o new
