use Rattle.std.proofs.Common.{◌≡◌, ◌∙◌, sym, ap, subst, List, []}
use Rattle.pc_rows.specs.Linear.{Linear, MeetsAll}
use Rattle.pc_poly.specs.Rows.{gathered}
use Rattle.pc_poly.proofs.Keeping.{kept_hull}
use Rattle.pc_poly.proofs.showing.hull_from.Goals as goal

pub returns : goal.returns
returns c s h =
    let others = c.in_ok-shown.field-0 in
    let first : c.gather.new.rows ≡ gathered [] c.args.kept.now = rw c.new-out.ensures at c.in_ok-gather.ensures in
    let all : c.gather-2.new.rows ≡ gathered c.gather.new.rows others = c.in_ok-gather-2.ensures in
    subst (MeetsAll s) (sym (all ∙ ap (λ (z : List Linear). gathered z others) first))
    (kept_hull c.args.a.now c.args.b.now c.args.kept.now others s c.requires c.in_ok-shown.ensures h)
