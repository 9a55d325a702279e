-- The JSON value of a certificate, and its text.
use Rattle.std.specs.Prelude.{◌≡◌, ℕ, ℤ, List, [], ◌∷◌, ◌++◌, map, take, codes}
use Rattle.std.specs.List.{flat_map}
use Rattle.serde_json.specs.Data.{Data, number, unsigned, string, array, object, member, no_members}
use Rattle.serde_json.specs.View.{items_of}
use Rattle.serde_json.specs.Written.{compact_text}
use Rattle.pc_text.specs.Bytes.{Bytes}
use Rattle.pc_text.specs.Numerals.{numeral}
use Rattle.pc_rows.specs.declared.proof.Part.{Part}
use Rattle.pc_rows.specs.Linear.{Linear}
use Rattle.pc_rows.specs.Evidence.{Proof}
use Rattle.pc_certificate.specs.declared.certificate.Annotated.{Annotated}
use Rattle.pc_certificate.specs.Certificate.{Certificate, IsShowable, IsCertificate}

-- a number of any size, as the string of its numeral
abbrev pub of_numeral : ℤ → Data
of_numeral z = string (numeral z)

-- a count or an index, as a number
abbrev pub of_count : ℕ → Data
of_count n = number (unsigned n)

-- the array of the values of some items, in order
abbrev pub of_all : {X : Type 0} → (X → Data) → List X → Data
of_all f xs = array (items_of (map f xs))

-- the numbers of a row: the constant, and the coefficients of the variables that there are
abbrev pub row_numbers : ℕ → Linear → List ℤ
row_numbers variables r = r.constant ∷ take variables r.coefficients

abbrev pub of_row : ℕ → Linear → Data
of_row variables r = of_all of_numeral (row_numbers variables r)

abbrev pub of_rows : ℕ → List Linear → Data
of_rows variables rows = of_all (of_row variables) rows

-- the rows of each point
abbrev pub of_points : ℕ → List (List Linear) → Data
of_points variables points = of_all (of_rows variables) points

-- the index of a part, and its multiplier
abbrev pub of_part : Part → List Data
of_part p = of_count p.index ∷ of_numeral p.multiplier ∷ []

-- parts, one behind another
abbrev pub of_parts : List Part → Data
of_parts ps = array (items_of (flat_map of_part ps))

-- the multiplier of the goal, and then each part
abbrev pub of_proof : Proof → Data
of_proof p = array (items_of (of_numeral p.goal ∷ flat_map of_part p.parts))

abbrev pub of_proofs : List Proof → Data
of_proofs proofs = of_all of_proof proofs

-- the proofs of each edge
abbrev pub of_edges : List (List Proof) → Data
of_edges edges = of_all of_proofs edges

-- the object with these values at its two keys
abbrev pub of_two : Data → Data → Data
of_two proofs rows = object (member (codes "proofs") proofs (member (codes "rows") rows no_members))

abbrev pub of_alternative : ℕ → Annotated → Data
of_alternative variables a = of_two (of_edges a.proofs) (of_points variables a.rows)

-- the object with these values at its five keys
abbrev pub of_five : Data → Data → Data → Data → Data → Data
of_five alternatives edges points variables version =
    object (member (codes "alternatives") alternatives
    (member (codes "edges") edges
    (member (codes "points") points
    (member (codes "variables") variables
    (member (codes "version") version no_members)))))

-- the version of the format
abbrev pub version : ℕ
version = 2

abbrev pub of_certificate : Certificate → Data
of_certificate c =
    of_five (of_all (of_alternative c.variables) c.alternatives) (of_count c.edges) (of_count c.points) (of_count c.variables) (of_count version)

-- the text of a certificate: the compact text of its value, and a line feed
abbrev pub json_text : Certificate → Bytes
json_text c = compact_text (of_certificate c) ++ codes "\n"

-- the bytes are the text of this certificate, which is one that the code may hold
pub record IsJsonTextOf (b : Bytes) (c : Certificate) : Type 0 where
  pub kept : IsCertificate c
  pub showable : IsShowable c
  pub text : b ≡ json_text c
