-- The definitions at the least and the greatest source.
use Rattle.std.proofs.Common.{◌≡◌, codes, length, refl}
use Rattle.pc_text.specs.Numerals.{numeral}
use Rattle.pc_gen.specs.Pieces.{counted}
use Rattle.pc_gen.specs.Made.{made}
use Rattle.pc_gen.specs.Summary.{summary_text}

one_loop : made 1 ≡ codes "entry (a) {\n  var i;\n  i = 0;\n  while (i < 10) {\n    assert (i <= a + 1);\n    i = i + 1;\n  }\n}\n"
unfolding counted numeral
one_loop = refl

least : length (made 1) ≡ 95
unfolding counted numeral
least = refl

greatest : length (made 64) ≡ 4686
unfolding counted numeral
greatest = refl

told : summary_text (record { loops = 1; bytes = 95; points = 7; edges = 7; alternatives = 1 }) ≡ codes "trial 1: 95 bytes, 7 points, 7 edges, 1 alternatives\n"
unfolding counted numeral
told = refl
