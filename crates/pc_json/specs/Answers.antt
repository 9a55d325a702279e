-- What bytes mean as a certificate in JSON.
use Rattle.std.specs.Prelude.{◌≡◌, Some, Result, Ok, Err, IsUtf8}
use Rattle.serde_json.specs.Data.{Data}
use Rattle.serde_json.specs.Read.{read}
use Rattle.pc_text.specs.Bytes.{Bytes}
use Rattle.pc_certificate.specs.Certificate.{Certificate, IsShowable, IsCertificate}
use Rattle.pc_json.specs.declared.fault.JsonFault.{JsonFault}
use Rattle.pc_json.specs.declared.fault.JsonFault.TheVariants as fault
use Rattle.pc_json.specs.Values.{of_certificate}

-- the bytes are read by `serde_json` as one value, which is this one
abbrev pub IsJson : Bytes → Data → Type 0
IsJson b d = IsUtf8 b × (read b ≡ Some d)

-- the bytes are read as the value of this certificate, which is one that the code may hold and has a text
pub record SaysInJson (b : Bytes) (c : Certificate) : Type 0 where
  pub kept : IsCertificate c
  pub showable : IsShowable c
  pub value : IsJson b (of_certificate c)

-- the answer is right: the bytes say this certificate; or they are read as no value; or they are read as one that is that of no certificate;
-- want of memory is free
abbrev pub Means : Bytes → Result Certificate JsonFault → Type 0
Means b (Ok c) = SaysInJson b c
Means b (Err fault.Json) = (d : Data) → IsJson b d → ⊥
Means b (Err fault.Value) = (d : Data) × IsJson b d × ((c : Certificate) → IsCertificate c → IsShowable c → d ≡ of_certificate c → ⊥)
Means b (Err fault.NoMemory) = Unit {0}

-- the certificate, unless memory is wanting
abbrev pub Gives : Certificate → Result Certificate JsonFault → Type 0
Gives c (Ok x) = x ≡ c
Gives c (Err e) = e ≡ fault.NoMemory

-- no two certificates have one value
abbrev pub ValueDeterminesCertificate : Type 0
ValueDeterminesCertificate =
    (c e : Certificate) → IsCertificate c → IsShowable c → IsCertificate e → IsShowable e → of_certificate c ≡ of_certificate e → c ≡ e

-- of bytes that say a certificate each right answer is this certificate, want of memory aside
abbrev pub ShownIsReadBack : Type 0
ShownIsReadBack = (b : Bytes) (c : Certificate) (r : Result Certificate JsonFault) → SaysInJson b c → Means b r → Gives c r
