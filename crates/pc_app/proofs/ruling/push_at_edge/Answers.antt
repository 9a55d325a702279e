use Rattle.std.proofs.Common.{codes}
use Rattle.pc_app.specs.Replay.{numbered}
use Rattle.pc_app.proofs.TextLemmas.{piece_and_two}
use Rattle.pc_app.proofs.ruling.push_at_edge.Goals as goal

pub returns : goal.returns
returns c =
    piece_and_two c.push_numbered-2.result c.args.text.now c.args.word.now (numbered (codes "alternative") c.args.alternative) (numbered (codes "edge") c.args.edge)
    c.push_all.new.self c.push_numbered.new.text c.push_numbered-2.new.text c.in_ok-push_all.ensures.added c.in_ok-push_numbered.ensures c.push_numbered-2.ensures
