use Rattle.std.proofs.Common.{◌++◌, ◌∷◌, [], ◌∙◌, ap, sym, arith, refl, take}
use Rattle.pc_text.specs.declared.token.Kind.TheVariants as kind
use Rattle.pc_text.specs.Places.{place_of}
use Rattle.pc_grammar.specs.Symbols.{symbols_of}
use Rattle.pc_grammar.proofs.Spans.{first_at, one_more}
use Rattle.pc_grammar.proofs.terminals.symbols.Goals as goal

pub loop-token-init : goal.loop-token-init
unfolding place_of
loop-token-init c = record { found = c.new-found.ensures; place = refl; ahead = c.requires.spans }

pub place_from-place-requires-clause-within : goal.place_from-place-requires-clause-within
place_from-place-requires-clause-within c = (first_at _ _ _ c.args.tokens.now _ (omega arith) c.loop-token.invariant.ahead).inside

pub symbol_at-requires-clause-within : goal.symbol_at-requires-clause-within
symbol_at-requires-clause-within c = (first_at _ _ _ c.args.tokens.now _ (omega arith) c.loop-token.invariant.ahead).within

pub loop-token-preserved : goal.loop-token-preserved
loop-token-preserved c = record {
  found =
      c.in-Ok.ensures.ok ∙ ap (λ z. z ++ c.symbol_at.result ∷ []) c.loop-token.invariant.found ∙ ap (λ z. symbols_of c.args.src.now (take c.loop-token.token-index c.args.tokens.now) ++ z ∷ []) c.symbol_at.ensures
      ∙ sym (one_more c.args.src.now c.loop-token.token-index c.args.tokens.now (record { kind = kind.Keyword; «from» = 0; to = 0 }) (omega arith));
  place = c.place_from-place.ensures;
  ahead = (first_at _ _ _ c.args.tokens.now _ (omega arith) c.loop-token.invariant.ahead).rest;
}
