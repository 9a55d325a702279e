-- Answers that may want memory.
use Rattle.std.specs.Prelude.{◌≡◌, Result, Ok, Err}
use Rattle.pc_runner.specs.declared.fault.ScriptFault.{ScriptFault}
use Rattle.pc_runner.specs.declared.fault.ScriptFault.TheVariants as fault
use Rattle.pc_runner.specs.declared.script.Script.{Script}
use Rattle.pc_runner.specs.Scripts.{Choosing}

-- what holds of a fault other than want of memory
abbrev pub Unless : ScriptFault → Type 0 → Type 0
Unless fault.NoMemory P = Unit {0}
Unless (fault.Form n) P = P
Unless (fault.Number n) P = P
Unless (fault.Values m n) P = P
Unless (fault.Many n) P = P

-- the call gives this answer, unless memory is wanting
abbrev pub Gives : {A : Type 0} → Result A ScriptFault → Result A ScriptFault → Type 0
Gives (Ok x) answer = answer ≡ Ok x
Gives (Err e) answer = Unless e (answer ≡ Err e)

-- the call reads this script, or finds this fault, unless memory is wanting
abbrev pub Reads : Result Choosing ScriptFault → Result Script ScriptFault → Type 0
Reads answer (Ok script) = answer ≡ Ok (record { entry = script.entry; choices = script.choices })
Reads answer (Err e) = Unless e (answer ≡ Err e)
