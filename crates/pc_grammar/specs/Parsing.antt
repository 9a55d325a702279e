-- What a list of symbols means, read as a start symbol: its parse tree, or its fault and the place.
use Rattle.std.specs.Prelude.{◌≡◌, ◌≢◌, ◌+◌, [], ◌∷◌, ◌++◌, length, take, Option, Some, None, Result, Ok, Err}
use Rattle.pc_text.specs.declared.place.Place.{Place}
use Rattle.pc_grammar.specs.declared.symbol.Symbol.{Symbol}
use Rattle.pc_grammar.specs.declared.fault.ParseFault.{ParseFault}
use Rattle.pc_grammar.specs.declared.fault.ParseFault.TheVariants as fault
use Rattle.pc_grammar.specs.declared.limits.Past.{Past}
use Rattle.pc_grammar.specs.Combinators.{Text, Out, Got, Stops, whole}
use Rattle.pc_grammar.specs.Starts.{Start, Derives}
use Rattle.pc_grammar.specs.Limits.{start, first_past, Within, FirstPast}

-- ---- the definition, by derivations and limits alone

-- some tree begins with these symbols
abbrev pub Begins : Start → Text → Type 0
Begins S w = (rest : Text) × (t : S.Tree) × Derives S t (w ++ rest)

-- with the first symbol of the text behind `before` no tree begins; at the end of the text, `before` has none
abbrev pub Breaks : Start → Text → Text → Type 0
Breaks S before [] = (t : S.Tree) → Derives S t before → ⊥
Breaks S before (s ∷ rest) = Begins S (before ++ s ∷ []) → ⊥

abbrev pub place_at : Text → Place → Place
place_at [] end = end
place_at (s ∷ rest) end = s.place

-- what stands before the fault begins a tree and is within the limits, and goes on to none
pub record IsSyntax (S : Start) (i : Text) (end p : Place) : Type 0 where
  pub before : Text
  pub rest : Text
  pub split : i ≡ before ++ rest
  pub begins : Begins S before
  pub breaks : Breaks S before rest
  pub within : Within S.most before rest
  pub at : p ≡ place_at rest end

-- the symbols up to and with the first that is past a limit begin a tree
pub record IsPast (S : Start) (i : Text) (f : ParseFault) : Type 0 where
  pub before : Text
  pub symbol : Symbol
  pub rest : Text
  pub split : i ≡ before ++ symbol ∷ rest
  pub begins : Begins S (before ++ symbol ∷ [])
  pub past : FirstPast S.most before symbol rest f

-- the answer for the symbols of a text that ends at `end`
abbrev pub Means : (S : Start) → Text → Place → Result S.Tree ParseFault → Type 0
Means S i end (Ok t) = Derives S t i × Within S.most i []
Means S i end (Err (fault.Syntax p)) = IsSyntax S i end p
Means S i end (Err (fault.TooDeep p)) = IsPast S i (fault.TooDeep p)
Means S i end (Err (fault.TooLong p)) = IsPast S i (fault.TooLong p)
Means S i end (Err (fault.TooManyProcesses p)) = IsPast S i (fault.TooManyProcesses p)
Means S i end (Err fault.NoMemory) = ⊥

-- ---- the same as a function

-- the symbols up to and with the first that is past a limit
abbrev pub front : Option Past → Text → Text
front None i = i
front (Some p) i = take (p.at + 1) i

-- the depth is above the number of symbols, so it outlasts all nesting
abbrev pub read_whole : (S : Start) → Text → Out S.Tree
read_whole S i = whole (S.parser (length i + 1) i)

abbrev pub fault_at : Option Past → Place → Text → ParseFault
fault_at past end (s ∷ r) = fault.Syntax s.place
fault_at None end [] = fault.Syntax end
fault_at (Some p) end [] = p.fault

-- a symbol past a limit is the fault where nothing is wrong up to and with it
abbrev pub answer : {A : Type 0} → Option Past → Place → Out A → Result A ParseFault
answer past end (Stops k r) = Err (fault_at past end r)
answer None end (Got t r) = Ok t
answer (Some p) end (Got t r) = Err p.fault

abbrev pub parsed_by : (S : Start) → Option Past → Text → Place → Result S.Tree ParseFault
parsed_by S past i end = answer past end (read_whole S (front past i))

abbrev pub parsed : (S : Start) → Text → Place → Result S.Tree ParseFault
parsed S i end = parsed_by S (first_past S.most start i) i end

-- ---- unless memory fails

-- the call gives this answer
abbrev pub Gives : {A : Type 0} → Result A ParseFault → Result A ParseFault → Type 0
Gives (Ok t) o = o ≡ Ok t
Gives (Err e) o = e ≢ fault.NoMemory → o ≡ Err e

-- the call's answer is what the symbols mean
abbrev pub MeansUnless : (S : Start) → Result S.Tree ParseFault → Text → Place → Type 0
MeansUnless S (Ok t) i end = Means S i end (Ok t)
MeansUnless S (Err e) i end = e ≢ fault.NoMemory → Means S i end (Err e)
