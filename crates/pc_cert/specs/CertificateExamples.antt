-- Texts of certificates worked by hand.
use Rattle.std.specs.Prelude.{◌≡◌, ℕ, ℤ, pos, negsuc, List, [], ◌∷◌, codes, refl}
use Rattle.pc_text.specs.Numerals.{numeral}
use Rattle.pc_rows.specs.declared.proof.Part.{Part}
use Rattle.pc_rows.specs.Linear.{Linear}
use Rattle.pc_rows.specs.Evidence.{Proof}
use Rattle.pc_certificate.specs.Certificate.{Certificate, condition_of}
use Rattle.pc_lines.specs.Texts.{lines_text}
use Rattle.pc_cert.specs.CertificateTexts.{point_lines, edge_lines, certificate_text}

abbrev row : ℤ → List ℤ → Linear
row constant coefficients = record { constant = constant; coefficients = coefficients }

abbrev proof : ℤ → List Part → Proof
proof goal parts = record { goal = goal; parts = parts }

abbrev part : ℕ → ℤ → Part
part index multiplier = record { index = index; multiplier = multiplier }

-- of a program without statements over one variable
abbrev bare : Certificate
bare = record { points = 2; edges = 1; variables = 1; alternatives = record { rows = [] ∷ [] ∷ []; proofs = [] ∷ [] } ∷ [] }

bare_certificate : certificate_text bare ≡ codes "precond 1\ngraph 2 1 1\nalternative\npoint 0 0\npoint 1 0\nedge 0 0\nend\n"
unfolding numeral
bare_certificate = refl

-- where no alternative is found
no_alternative : certificate_text (record { points = 3; edges = 2; variables = 0; alternatives = [] }) ≡ codes "precond 1\ngraph 3 2 0\nend\n"
unfolding numeral
no_alternative = refl

-- what the variables lack is left out
point_with_two_rows : lines_text (point_lines 2 3 (row (pos 104) (negsuc 0 ∷ pos 0 ∷ pos 0 ∷ []) ∷ row (pos 2) (negsuc 0 ∷ pos 1 ∷ pos 0 ∷ []) ∷ [])) ≡ codes "point 3 2\n104 -1 0\n2 -1 1\n"
unfolding numeral
point_with_two_rows = refl

edge_with_two_proofs : lines_text (edge_lines 2 (proof (pos 1) (part 0 (pos 1) ∷ part 1 (pos 1) ∷ []) ∷ proof (pos 1) (part 0 (pos 1) ∷ []) ∷ [])) ≡ codes "edge 2 2\n1 0 1 1 1\n1 0 1\n"
unfolding numeral
edge_with_two_proofs = refl

-- a proof may name no premise
goal_alone : lines_text (edge_lines 0 (proof (negsuc 6) [] ∷ [])) ≡ codes "edge 0 1\n-7\n"
unfolding numeral
goal_alone = refl

condition_at_point_0 :
    condition_of (record {
      points = 2;
      edges = 0;
      variables = 1;
      alternatives =
          record { rows = (row (pos 3) (negsuc 0 ∷ []) ∷ []) ∷ [] ∷ []; proofs = [] }
          ∷ record { rows = [] ∷ (row (pos 1) (pos 1 ∷ []) ∷ []) ∷ []; proofs = [] } ∷ [];
    })
    ≡ (row (pos 3) (negsuc 0 ∷ []) ∷ []) ∷ [] ∷ []
condition_at_point_0 = refl
