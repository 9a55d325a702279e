-- The words of a command line, each a list of bytes, and the plain forms that they can have.
use Rattle.std.specs.Prelude.{◌≡◌, ◌≢◌, ℕ, pos, List, [], ◌∷◌, codes}
use Rattle.std.specs.List.{AllByRecursion}
use Rattle.pc_text.specs.Bytes.{Bytes}
use Rattle.pc_text.specs.Numerals.{numeral}
use Rattle.pc_gen.specs.Made.{IsLoops}
use Rattle.pc_words.specs.declared.domains.FactsDomain.{FactsDomain}
use Rattle.pc_words.specs.declared.domains.FactsDomain.TheVariants as facts
use Rattle.pc_words.specs.declared.domains.QuickDomain.{QuickDomain}
use Rattle.pc_words.specs.declared.domains.QuickDomain.TheVariants as quick
use Rattle.pc_words.specs.declared.words.Command.{Command}
use Rattle.pc_words.specs.declared.words.Command.TheVariants as command

-- a word that names a file: it is not empty, and does not begin with `-`
abbrev pub IsFile : Bytes → Type 0
IsFile [] = ⊥
IsFile (first ∷ rest) = first ≢ 45

-- what is ordered: the condition of a source; its certificate; the ruling on a certificate for a source; the run of a source on a
-- script; the choices that break an assertion of a source from the entry of a script; what a domain knows at the points of a source; the
-- condition that a domain finds going backwards; the canonical text of a source; the condition of the made source with so many loops
pub data Order : Type 0 where
  Infer : Bytes → Order
  Certify : Bytes → Order
  Replay : Bytes → Bytes → Order
  Run : Bytes → Bytes → Order
  Breach : Bytes → Bytes → Order
  Facts : FactsDomain → Bytes → Order
  Quick : QuickDomain → Bytes → Order
  Show : Bytes → Order
  Trial : ℕ → Order

-- the word that names a domain for facts
abbrev pub facts_word : FactsDomain → Bytes
facts_word facts.Boxes = codes "--domain=boxes"
facts_word facts.Polyhedra = codes "--domain=polyhedra"

-- the word that names a domain for a quick condition
abbrev pub quick_word : QuickDomain → Bytes
quick_word quick.Rows = codes "--domain=rows"
quick_word quick.Boxes = codes "--domain=boxes"

-- the words of an order
abbrev pub words_of : Order → List Bytes
words_of (Infer source) = codes "infer" ∷ source ∷ []
words_of (Certify source) = codes "infer" ∷ source ∷ codes "--certificate" ∷ []
words_of (Replay source certificate) = codes "replay" ∷ source ∷ certificate ∷ []
words_of (Run source script) = codes "run" ∷ source ∷ script ∷ []
words_of (Breach source script) = codes "breach" ∷ source ∷ script ∷ []
words_of (Facts domain source) = codes "facts" ∷ source ∷ facts_word domain ∷ []
words_of (Quick domain source) = codes "quick" ∷ source ∷ quick_word domain ∷ []
words_of (Show source) = codes "show" ∷ source ∷ []
words_of (Trial loops) = codes "trial" ∷ numeral (pos loops) ∷ []

-- what is read for an order: a source alone, or a certificate or a script behind it, from files; or the made source with so many loops
pub data Inputs : Type 0 where
  Source : Bytes → Inputs
  WithCertificate : Bytes → Bytes → Inputs
  WithScript : Bytes → Bytes → Inputs
  Made : ℕ → Inputs

abbrev pub inputs_of : Order → Inputs
inputs_of (Infer source) = Source source
inputs_of (Certify source) = Source source
inputs_of (Replay source certificate) = WithCertificate source certificate
inputs_of (Run source script) = WithScript source script
inputs_of (Breach source script) = WithScript source script
inputs_of (Facts domain source) = Source source
inputs_of (Quick domain source) = Source source
inputs_of (Show source) = Source source
inputs_of (Trial loops) = Made loops

-- the files that are named, one after the other
abbrev pub names_of : Inputs → List Bytes
names_of (Source source) = source ∷ []
names_of (WithCertificate source certificate) = source ∷ certificate ∷ []
names_of (WithScript source script) = source ∷ script ∷ []
names_of (Made loops) = []

-- the numbers of loops that are named
abbrev pub loops_in : Inputs → List ℕ
loops_in (Source source) = []
loops_in (WithCertificate source certificate) = []
loops_in (WithScript source script) = []
loops_in (Made loops) = loops ∷ []

-- the files that an order names
abbrev pub files_of : Order → List Bytes
files_of order = names_of (inputs_of order)

-- the words order this, of files, or of as many loops as a made source may have
pub record IsOrder (words : List Bytes) (order : Order) : Type 0 where
  pub spelled : words ≡ words_of order
  pub files : AllByRecursion IsFile (files_of order)
  pub loops : AllByRecursion IsLoops (loops_in (inputs_of order))

-- words in a plain form
abbrev pub IsPlain : List Bytes → Type 0
IsPlain words = (order : Order) × IsOrder words order

-- the order of a command
abbrev pub ordered : Command → Order
ordered (command.Infer source) = Infer source.now
ordered (command.Certify source) = Certify source.now
ordered (command.Replay source certificate) = Replay source.now certificate.now
ordered (command.Run source script) = Run source.now script.now
ordered (command.Breach source script) = Breach source.now script.now
ordered (command.Facts domain source) = Facts domain source.now
ordered (command.Quick domain source) = Quick domain source.now
ordered (command.Show source) = Show source.now
ordered (command.Trial loops) = Trial loops
