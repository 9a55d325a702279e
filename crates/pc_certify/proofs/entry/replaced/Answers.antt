use Rattle.std.proofs.Common.{List, set, refl, sym, subst, arith}
use Rattle.pc_rows.specs.Evidence.{Proof}
use Rattle.pc_certify.specs.Lists.{Pairwise}
use Rattle.pc_certify.specs.Proving.{EdgeDone}
use Rattle.pc_certify.proofs.Renewing.{renewed_edges, replaced_proved}
use Rattle.pc_certify.proofs.entry.replaced.Goals as goal

pub returns-clause-proved : goal.returns-clause-proved
returns-clause-proved c =
    let g = c.args.g.now in
    let kept = c.entry_edge-start.ensures.kept in
    let start = c.entry_edge-start.ensures.start in
    let a = c.args.a.rows in
    let rows = c.args.rows in
    replaced_proved g kept a rows (record { rows = c.set.new.self; proofs = c.set-2.new.self }) c.args.a c.set.ensures refl c.requires.proved c.requires.over (omega arith)
    (subst (λ (z : List (List Proof)). Pairwise (EdgeDone (set a 0 rows)) g.edges z) (sym c.set-2.ensures)
    (renewed_edges g kept a rows c.args.a.proofs c.args.proofs c.requires.done c.requires.proved.edges))
