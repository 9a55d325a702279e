use Rattle.std.proofs.Common.{sym}
use Rattle.pc_text.proofs.PlaceLemmas.{place_start}
use Rattle.pc_text.proofs.place.place_of.Goals as goal

pub place_from-requires-clause-known : goal.place_from-requires-clause-known
place_from-requires-clause-known c = sym (place_start c.args.src.now)
