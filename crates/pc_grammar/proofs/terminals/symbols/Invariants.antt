use Rattle.std.proofs.Common.{◌≡◌, length, take, drop}
use Rattle.pc_text.specs.Lexemes.{AreSpans}
use Rattle.pc_text.specs.Places.{place_of}
use Rattle.pc_grammar.specs.Symbols.{symbols_of}
use Rattle.pc_grammar.proofs.terminals.symbols.Given as goal

abbrev pub invariant-loop-token : goal.invariant-loop-token
invariant-loop-token l = record {
  found : l.found ≡ symbols_of l.src (take l.token-index l.tokens);
  place : l.place ≡ place_of l.src l.at;
  ahead : AreSpans l.at (length l.src) (drop l.token-index l.tokens);
}
