use Rattle.std.proofs.Common.{◌≡◌, ◌∙◌, ap, sym, Err}
use Rattle.pc_lines.specs.LineReaders.{next_part, part_of, broken}
use Rattle.pc_lines.proofs.LineSteps.{part_found, part_broken}
use Rattle.pc_lines.proofs.Told.{told}
use Rattle.pc_lines.proofs.proof_lines.next_part.Goals as goal

pub returns-in-Some-part_of : goal.returns-in-Some-part_of
returns-in-Some-part_of c =
    let word = c.of-multiplier.ensures.value in
    let least = c.args.least in
    part_found c.args.premises c.requires c.args.number least c.in-Some-count_of.index c.in-Some.index.now c.in-Some-next.multiplier.now c.args.words.now c.next.new.self c.next-2.new.self
    c.in-Some.ensures c.in-Some-next.ensures (sym c.in-Some-count_of.is ∙ c.count_of.ensures) (λ e. c.in_default-multiplier.not-Other (word ∙ e))
    c.in-Some-part_of.part (ap (part_of c.args.premises least c.in-Some-count_of.index) (sym word) ∙ sym c.part_of.ensures ∙ c.in-Some-part_of.is)

pub returns-in-None : goal.returns-in-None
returns-in-None c =
    let word = c.of-multiplier.ensures.value in
    let least = c.args.least in
    told c.broken.result (next_part c.args.premises c.args.number least c.args.words.now ≡ Err c.broken.result)
    (part_broken c.args.premises c.requires c.args.number least c.in-Some-count_of.index c.in-Some.index.now c.in-Some-next.multiplier.now c.args.words.now c.next.new.self c.next-2.new.self
    c.in-Some.ensures c.in-Some-next.ensures (sym c.in-Some-count_of.is ∙ c.count_of.ensures) (λ e. c.in_default-multiplier.not-Other (word ∙ e))
    (ap (part_of c.args.premises least c.in-Some-count_of.index) (sym word) ∙ sym c.part_of.ensures ∙ c.in-None.is)
    ∙ ap Err (ap (λ b. broken b c.args.number) (sym c.are_pairs.ensures) ∙ sym c.broken.ensures))
