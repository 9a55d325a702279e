use Rattle.std.proofs.Common.{◌∙◌, ap, ◌∷◌, [], length, length-append}
use Rattle.pc_text.specs.Named.{texts}
use Rattle.pc_text.proofs.NameLemmas.{added_is, texts_more}
use Rattle.pc_text.proofs.names.add.Goals as goal

pub returns-clause-added : goal.returns-clause-added
returns-clause-added c =
    ap texts (added_is c.args.names.now.keys c.args.name c.insert.new.self.keys c.requires c.in-Ok.ensures.keys) ∙ texts_more c.args.names.now.keys c.args.name

pub returns-clause-longer : goal.returns-clause-longer
returns-clause-longer c =
    ap length (added_is c.args.names.now.keys c.args.name c.insert.new.self.keys c.requires c.in-Ok.ensures.keys) ∙ length-append c.args.names.now.keys (c.args.name ∷ [])
