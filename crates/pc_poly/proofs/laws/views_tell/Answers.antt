use Rattle.pc_poly.proofs.Viewing as proof
use Rattle.pc_poly.proofs.laws.views_tell.Goals as goal

pub returns : goal.returns
returns c = record { view = proof.views_tell; list = proof.list_is_meant }
