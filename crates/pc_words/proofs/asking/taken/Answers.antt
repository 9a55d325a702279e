use Rattle.std.proofs.Common.{◌≡◌, ◌∙◌, map, rules, string_bytes, sym}
use Rattle.pc_words.specs.CommandLine.{Accepts, written}
use Rattle.pc_words.proofs.Plainness.{taken_as}
use Rattle.pc_words.proofs.asking.taken.Goals as goal

pub returns-in-Some : goal.returns-in-Some
returns-in-Some c =
    let accepted : Accepts (map string_bytes c.args.words.now) × (map string_bytes c.in-Some.list.items ≡ written (map string_bytes c.args.words.now)) = search rules in
    taken_as (map string_bytes c.args.words.now) (map string_bytes c.in-Some.list.items) c.command_of.result accepted
    (rw c.as_slice.ensures.value at c.command_of.ensures) (sym c.is_some.ensures ∙ c.if-is_some.true)
