use Rattle.pc_words.proofs.SpellingLemmas.{one_thing}
use Rattle.pc_words.proofs.laws.words_order_one_thing.Goals as goal

pub returns : goal.returns
returns c = one_thing
