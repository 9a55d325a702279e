use Rattle.std.proofs.Common.{◌-◌, ◌∙◌, ap, take, drop, arith}
use Rattle.std.proofs.lemmas.List.{length-take}
use Rattle.pc_text.specs.Places.{behind}
use Rattle.pc_text.proofs.PlaceLemmas.{place_on, place_line, place_column, place_some}
use Rattle.pc_text.proofs.place.place_from.Goals as goal

pub behind-requires-clause-lines : goal.behind-requires-clause-lines
behind-requires-clause-lines c =
    omega (arith, place_line c.args.src.now c.args.«from», ap (λ p. p.line) c.requires.known, length-take (c.args.to - c.args.«from») (drop c.args.«from» c.args.src.now))

pub behind-requires-clause-columns : goal.behind-requires-clause-columns
behind-requires-clause-columns c =
    omega (arith, place_column c.args.src.now c.args.«from», ap (λ p. p.column) c.requires.known, length-take (c.args.to - c.args.«from») (drop c.args.«from» c.args.src.now))

pub behind-requires-clause-some : goal.behind-requires-clause-some
behind-requires-clause-some c = omega (arith, place_some c.args.src.now c.args.«from», ap (λ p. p.column) c.requires.known)

pub returns : goal.returns
returns c =
    c.behind.ensures ∙ ap (λ p. behind p (take (c.args.to - c.args.«from») (drop c.args.«from» c.args.src.now))) c.requires.known
    ∙ place_on c.args.src.now c.args.«from» c.args.to c.requires.ordered
