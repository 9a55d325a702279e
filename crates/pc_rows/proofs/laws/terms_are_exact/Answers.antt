use Rattle.pc_rows.proofs.Same as same
use Rattle.pc_rows.proofs.Walking as walking
use Rattle.pc_rows.proofs.laws.terms_are_exact.Goals as goal

pub returns : goal.returns
returns c = record { coefficients = same.terms_are_coefficients; same = same.same_terms_same_row; walk = walking.walks_agree }
