-- The lines that tell what kept a command from its output.
use Rattle.std.specs.Prelude.{◌++◌, ℕ, ℤ, pos, [], codes}
use Rattle.pc_text.specs.declared.place.Place.{Place}
use Rattle.pc_text.specs.Numerals.{numeral}
use Rattle.pc_text.specs.Bytes.{Bytes}
use Rattle.pc_syntax.specs.declared.fault.SourceFault.{SourceFault}
use Rattle.pc_syntax.specs.declared.fault.SourceFault.TheVariants as fault
use Rattle.pc_runner.specs.declared.fault.ScriptFault.{ScriptFault}
use Rattle.pc_runner.specs.declared.fault.ScriptFault.TheVariants as script
use Rattle.pc_lines.specs.declared.fault.CertFault.{CertFault}
use Rattle.pc_lines.specs.declared.fault.CertFault.TheVariants as certificate

abbrev pub source_too_long : Bytes
source_too_long = codes "too long: source\n"

abbrev pub script_too_long : Bytes
script_too_long = codes "too long: script\n"

abbrev pub certificate_too_long : Bytes
certificate_too_long = codes "too long: certificate\n"

-- a place as line and column
abbrev pub place_text : Place → Bytes
place_text p = numeral (pos p.line) ++ codes ":" ++ numeral (pos p.column)

-- a further number
abbrev pub also : ℤ → Bytes
also n = codes " " ++ numeral n

-- what is told of a faulty source: a code and a place, and a number or two where the fault has them (want of memory is no fault of it)
abbrev pub fault_text : SourceFault → Bytes
fault_text (fault.BadByte p b) = codes "bad-byte " ++ place_text p ++ also (pos b)
fault_text (fault.LiteralTooBig p) = codes "literal-too-big " ++ place_text p
fault_text (fault.NameTooLong p) = codes "name-too-long " ++ place_text p
fault_text (fault.Syntax p) = codes "syntax " ++ place_text p
fault_text (fault.TooDeep p) = codes "too-deep " ++ place_text p
fault_text (fault.TooLong p) = codes "too-long " ++ place_text p
fault_text (fault.DuplicateName p) = codes "duplicate-name " ++ place_text p
fault_text (fault.TooManyNames p) = codes "too-many-names " ++ place_text p
fault_text (fault.UnknownName p) = codes "unknown-name " ++ place_text p
fault_text (fault.NotAffine p) = codes "not-affine " ++ place_text p
fault_text (fault.FormPast p) = codes "form-past " ++ place_text p
fault_text (fault.Unequal p) = codes "unequal " ++ place_text p
fault_text (fault.EmptyInterval p lo hi) = codes "empty-interval " ++ place_text p ++ also lo ++ also hi
fault_text (fault.TooManyEdges p) = codes "too-many-edges " ++ place_text p
fault_text fault.NoMemory = []

-- the line of a refused source
abbrev pub refused : Bytes → Bytes
refused why = codes "source: " ++ why ++ codes "\n"

abbrev pub line_text : ℕ → Bytes
line_text n = codes "line " ++ numeral (pos n)

-- what is told of a faulty script (want of memory is no fault of it)
abbrev pub script_fault_text : ScriptFault → Bytes
script_fault_text (script.Form n) = codes "form " ++ line_text n
script_fault_text (script.Number n) = codes "number " ++ line_text n
script_fault_text (script.Values given wanted) = codes "values" ++ also (pos given) ++ codes " wanted" ++ also (pos wanted)
script_fault_text (script.Many n) = codes "many " ++ line_text n
script_fault_text script.NoMemory = []

-- the line of a faulty script
abbrev pub malformed_script : ScriptFault → Bytes
malformed_script f = codes "script: " ++ script_fault_text f ++ codes "\n"

-- what is told of a faulty certificate (want of memory is no fault of it)
abbrev pub certificate_fault_text : CertFault → Bytes
certificate_fault_text (certificate.Form n) = codes "form " ++ line_text n
certificate_fault_text (certificate.Number n) = codes "number " ++ line_text n
certificate_fault_text (certificate.Trailing n) = codes "trailing " ++ line_text n
certificate_fault_text certificate.NoMemory = []

-- the line of a faulty certificate
abbrev pub malformed_certificate : CertFault → Bytes
malformed_certificate f = codes "certificate: " ++ certificate_fault_text f ++ codes "\n"
