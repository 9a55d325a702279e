use Rattle.std.proofs.Common.{◌+◌, ◌∙◌, ap, sym, arith}
use Rattle.pc_text.proofs.Steps.{from, turn, begin}
use Rattle.pc_text.proofs.lex.lex.Goals as goal

pub pieces-init : goal.pieces-init
pieces-init c = (begin c.args.src.now ∙ ap (λ z. from c.args.src.now z 0) (sym c.new-found.ensures), omega arith)

pub pieces-preserved : goal.pieces-preserved
pieces-preserved c = (
  c.pieces.invariant.0 ∙ turn c.args.src.now c.pieces.found c.pieces.at (c.in_ok-kind.kind, c.in_ok-kind.length) (omega arith) (sym c.piece_at.ensures.value ∙ c.in_ok-kind.was) c.in_ok-kind.ensures.within.0 c.in_ok-kind.ensures.within.1
      ∙ ap (λ z. from c.args.src.now z (c.pieces.at + c.in_ok-kind.length)) (sym c.in_ok-keep.ensures.ok),
  c.in_ok-kind.ensures.within.1,
)
