-- The laws of choices and right sides.
use Rattle.std.proofs.Common.{List, [], ◌∷◌, refl}
use Rattle.pc_grammar.specs.declared.symbol.Symbol.{Symbol}
use Rattle.pc_language.specs.declared.terminal.Terminal.{Terminal}
use Rattle.pc_language.specs.declared.terminal.Terminal.TheVariants as terminal
use Rattle.pc_grammar.specs.declared.tree.ExprTree.{ExprTree}
use Rattle.pc_language.specs.declared.choice.Bound.{Bound}
use Rattle.pc_language.specs.declared.choice.Choice.{Choice}
use Rattle.pc_grammar.specs.declared.tree.RightTree.{RightTree}
use Rattle.pc_grammar.specs.Combinators.{Text, Parser, Lang, none, both, map_parser, Part, More, Last, series}
use Rattle.pc_grammar.specs.Terminals.{among, the}
use Rattle.pc_grammar.specs.Expressions.{signs, addend}
use Rattle.pc_grammar.specs.Rights.{bound_of, open_bound, choice_of, alone, closed_bound, bound, choice, is_closed_bound, is_bound, is_choice, is_right, more, more_or_last, joined, last_or_more, part, right}
use Rattle.pc_grammar.proofs.Combinators.{map_laws, both_laws, either_laws, maybe_laws, alike_laws}
use Rattle.pc_grammar.proofs.Outcomes.{Laws, Begins}
use Rattle.pc_grammar.proofs.Series.{series_laws, series_opens}
use Rattle.pc_grammar.proofs.Sets.{parted, parts, fewer, none_ends, one_begins, map_begins, both_begins, either_begins, maybe_begins}
use Rattle.pc_grammar.proofs.Expressions.{only, after_addend, after_expr, begins_expr, Opens, then_laws, closed_laws, one_laws, addend_begins, expr_begins, addend_laws}
use Rattle.pc_grammar.proofs.Chains.{is_last_or_more, is_part, is_chain, is_joined, chain_joined, joined_chain}

abbrev begins_closed : List Terminal
begins_closed = terminal.Minus ∷ terminal.Number ∷ []

closed_bound_begins : (a : Bound) (w : Text) → is_closed_bound a w → Begins (among begins_closed) w
closed_bound_begins = map_begins bound_of _ _ (maybe_begins (only terminal.Minus) (only terminal.Number) begins_closed _ _ refl refl (one_begins (only terminal.Minus)) (one_begins (only terminal.Number)))

closed_bound_laws : Laws none is_closed_bound is_closed_bound closed_bound closed_bound
closed_bound_laws = map_laws bound_of none _ _ _ _ (both_laws (the terminal.Minus) none none _ _ _ _ _ _ _ _
    (maybe_laws (the terminal.Minus) none (the terminal.Minus) _ _ _ _ (one_laws terminal.Minus refl) (one_begins (only terminal.Minus)) (λ r e. e) (λ r e. none_ends r))
    (one_laws terminal.Number refl)
    (λ b v r m e. parts (only terminal.Number) (only terminal.Minus) refl v r (one_begins (only terminal.Number) b v m))
    (λ r e. e))

bound_laws : Laws none is_bound is_bound bound bound
bound_laws = either_laws (the terminal.Star) none _ _ _ _ _ _ _ _
    (map_laws open_bound none _ _ _ _ (one_laws terminal.Star refl))
    closed_bound_laws
    (map_begins _ _ _ (one_begins (only terminal.Star)))
    (λ a w l r e. parts begins_closed (only terminal.Star) refl w r (closed_bound_begins a w l))

pub choice_laws : Laws none is_choice is_choice choice choice
choice_laws = map_laws choice_of none _ _ _ _
    (then_laws none _ _ _ _ _ _ _ _ (one_laws terminal.OpenBracket refl)
    (then_laws none _ _ _ _ _ _ _ _ bound_laws
    (then_laws none _ _ _ _ _ _ _ _ (one_laws terminal.Comma refl)
    (then_laws none _ _ _ _ _ _ _ _ bound_laws (one_laws terminal.CloseBracket refl)))))

choice_begins : (a : Choice) (w : Text) → is_choice a w → Begins (the terminal.OpenBracket) w
choice_begins = map_begins _ _ _ (both_begins _ _ _ (one_begins (only terminal.OpenBracket)))

pub part_begins : (P : Lang ExprTree) (x : Part (Symbol × ExprTree) Choice) (w : Text) → is_part P x w → Begins (among signs) w
part_begins P = either_begins (only terminal.Minus) (only terminal.Plus) signs _ _ refl refl (map_begins _ _ _ (both_begins _ _ _ (one_begins (only terminal.Minus)))) (map_begins _ _ _ (both_begins _ _ _ (one_begins (only terminal.Plus))))

module _ (P P' : Lang ExprTree) (p p' : Parser ExprTree) (laws : Laws none P P' p p') (opens : Opens P) where
  last_or_more_laws : Laws (among after_addend) (is_last_or_more P) (is_last_or_more P') (last_or_more p) (last_or_more p')
  last_or_more_laws = either_laws (the terminal.OpenBracket) (among after_addend) _ _ _ _ _ _ _ _
      (closed_laws (among after_addend) _ _ _ _ (map_laws Last none _ _ _ _ choice_laws))
      (map_laws More _ _ _ _ _ (addend_laws _ _ _ _ laws opens))
      (map_begins _ _ _ choice_begins)
      (λ a w l r e. parts begins_expr (only terminal.OpenBracket) refl w r (map_begins More _ _ (addend_begins P opens) a w l))

  pub part_laws : Laws (among after_addend) (is_part P) (is_part P') (part p) (part p')
  part_laws = either_laws (the terminal.Minus) (among after_addend) _ _ _ _ _ _ _ _
      (map_laws more _ _ _ _ _ (then_laws (among after_addend) _ _ _ _ _ _ _ _ (one_laws terminal.Minus refl) (addend_laws _ _ _ _ laws opens)))
      (map_laws more_or_last _ _ _ _ _ (then_laws (among after_addend) _ _ _ _ _ _ _ _ (one_laws terminal.Plus refl) last_or_more_laws))
      (map_begins _ _ _ (both_begins _ _ _ (one_begins (only terminal.Minus))))
      (λ a w l r e. parts (only terminal.Plus) (only terminal.Minus) refl w r (map_begins more_or_last _ _ (both_begins _ _ _ (one_begins (only terminal.Plus))) a w l))

  chain_laws : Laws (among after_expr) (is_chain P) (is_chain P') (map_parser joined (both (addend p) (series (among signs) (part p)))) (map_parser joined (both (addend p') (series (among signs) (part p'))))
  chain_laws = map_laws joined _ _ _ _ _
      (both_laws (among after_addend) (among after_expr) (among after_expr) _ _ _ _ _ _ _ _ (addend_laws _ _ _ _ laws opens)
      (series_laws (among signs) (among after_addend) (among after_expr) _ _ _ _ part_laws (part_begins P) (parted signs after_addend refl) (fewer signs after_expr refl) (fewer after_addend after_expr refl))
      (λ b v r m e. series_opens (among signs) (among after_addend) (among after_expr) _ _ _ _ part_laws (part_begins P) (parted signs after_addend refl) (fewer signs after_expr refl) (fewer after_addend after_expr refl) b.0 b.1 v r m e) (λ r e. e))

joined_begins : (P : Lang ExprTree) → Opens P → (a : RightTree) (w : Text) → is_joined P a w → Begins (among begins_expr) w
joined_begins P h = map_begins _ _ _ (both_begins _ _ _ (expr_begins P h))

pub right_laws : (P P' : Lang ExprTree) (p p' : Parser ExprTree) → Laws none P P' p p' → Opens P
    → Laws (among after_expr) (is_right P) (is_right P') (right p) (right p')
right_laws P P' p p' laws opens = either_laws (the terminal.OpenBracket) (among after_expr) _ _ _ _ _ _ _ _
    (closed_laws (among after_expr) _ _ _ _ (map_laws alone none _ _ _ _ choice_laws))
    (alike_laws (among after_expr) (among after_expr) _ _ _ _ _ _ (chain_laws P P' p p' laws opens) (λ r e. e) (chain_joined P) (chain_joined P') (joined_chain P))
    (map_begins _ _ _ choice_begins)
    (λ a w l r e. parts begins_expr (only terminal.OpenBracket) refl w r (joined_begins P opens a w l))
