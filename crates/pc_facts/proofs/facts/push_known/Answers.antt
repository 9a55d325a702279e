use Rattle.std.proofs.Common.{◌≡◌, length, sym, subst, rules}
use Rattle.std.specs.Prelude.{All}
use Rattle.pc_rows.specs.Linear.{IsOver}
use Rattle.pc_facts.specs.Lines.{shown}
use Rattle.pc_facts.proofs.Over.{shown_are_over}
use Rattle.pc_facts.proofs.facts.push_known.Goals as goal

pub push_rows-requires : goal.push_rows-requires
push_rows-requires c =
    let n = length c.args.names.now.names in
    let is : c.in_ok-known.known ≡ shown n c.args.rows.now = search rules in
    subst (All (IsOver n)) (sym is) (shown_are_over n c.args.rows.now)
