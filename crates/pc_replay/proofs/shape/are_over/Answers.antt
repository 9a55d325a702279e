use Rattle.std.proofs.Common.{sym, ap, ◌∙◌}
use Rattle.std.specs.Option.{is_some}
use Rattle.pc_replay.proofs.Shaped.{none_beyond}
use Rattle.pc_replay.proofs.shape.are_over.Goals as goal

pub returns : goal.returns
returns c = none_beyond c.is_none.result c.args.n c.args.rows.now (sym c.is_none.ensures ∙ ap is_some c.first_beyond.ensures)
