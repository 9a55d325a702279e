use Rattle.std.proofs.Common.{◌∙◌, ap}
use Rattle.pc_text.specs.Named.{number_of}
use Rattle.pc_text.proofs.NameLemmas.{place_is}
use Rattle.pc_text.proofs.names.Names.position.Goals as goal

pub returns-in-Some-clause-number : goal.returns-in-Some-clause-number
returns-in-Some-clause-number c =
    c.in-Some.ensures.index ∙ place_is c.args.name.now c.self.inside.names.keys ∙ ap (λ n. number_of n.names c.args.name.now) c.self.view_is

pub returns-in-None-clause-number : goal.returns-in-None-clause-number
returns-in-None-clause-number c =
    c.in-None.ensures.index ∙ place_is c.args.name.now c.self.inside.names.keys ∙ ap (λ n. number_of n.names c.args.name.now) c.self.view_is
