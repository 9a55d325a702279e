use Rattle.std.proofs.Common.{◌≡◌, ◌∙◌, ap, subst, sym, arith, None, length}
use Rattle.std.proofs.lemmas.List.{length-map}
use Rattle.pc_text.specs.Named.{AreDistinct, number_of, texts}
use Rattle.pc_text.proofs.NameLemmas.{distinct_more}
use Rattle.pc_text.proofs.names.Names.push_local.Goals as goal

pub invariant_of-self-2 : goal.invariant_of-self-2
invariant_of-self-2 c =
    let names = c.self.inside.names.keys in
    let same : c.in-Ok.copy.items ≡ c.args.name.now = c.in-Ok.ensures.items in
    let fresh : number_of (texts names) c.in-Ok.copy.items ≡ None = ap (number_of (texts names)) same ∙ ap (λ n. number_of n.names c.args.name.now) c.self.view_is ∙ c.requires.fresh in
    let count : length c.args.self.now.names ≡ length names = sym (ap (λ n. length n.names) c.self.view_is) ∙ length-map names (λ k. k.items) in
    (omega (arith, c.in_ok-add.ensures.longer, c.requires.room), omega (arith, c.in_ok-add.ensures.longer, c.self.invariant.1), subst AreDistinct (sym c.in_ok-add.ensures.added) (distinct_more (texts names) c.in-Ok.copy.items c.self.invariant.2 fresh))
