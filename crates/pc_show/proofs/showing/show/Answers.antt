use Rattle.std.proofs.Common.{length, ap, ◌∙◌}
use Rattle.pc_program.specs.Naming.{named_stmts}
use Rattle.pc_show.proofs.SaneNames.{program_named}
use Rattle.pc_show.proofs.showing.show.Goals as goal

pub push_stmts-requires-clause-named : goal.push_stmts-requires-clause-named
push_stmts-requires-clause-named c =
    let p = c.args.p.now in
    ap (named_stmts (length p.names.names)) c.as_slice.ensures ∙ program_named p.names p.body p.sane
