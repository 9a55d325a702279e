-- Parsers on lists of symbols, and beside each the language that it reads.
use Rattle.std.specs.Prelude.{◌≡◌, ℕ, zero, suc, Bool, true, false, cond, List, [], ◌∷◌, ◌++◌, length, Option, Some, None, ◌⊎◌}
use Rattle.pc_grammar.specs.declared.symbol.Symbol.{Symbol}

abbrev pub Text : Type 0
Text = List Symbol

-- why a parser stops: the symbol may not stand here, or it opens one level of nesting more than the parser was given
pub data Fault : Type 0 where
  Syntax : Fault
  Deep : Fault

-- what was read and the text that is left, or the fault and the text from it on
pub data Out (A : Type 0) : Type 0 where
  Got : A → Text → Out A
  Stops : Fault → Text → Out A

abbrev pub Parser : Type 0 → Type 0
Parser A = Text → Out A

-- which trees a text has
abbrev pub Lang : Type 0 → Type 1
Lang A = A → Text → Type 0

abbrev pub Class : Type 0
Class = Symbol → Bool

-- the text begins with a symbol of the class
abbrev pub starts : Class → Text → Bool
starts f [] = false
starts f (s ∷ r) = f s

abbrev pub none : Class
none s = false

-- ---- one symbol of a class

abbrev pub token_if : Bool → Symbol → Text → Out Symbol
token_if true s r = Got s r
token_if false s r = Stops Syntax (s ∷ r)

abbrev pub token : Class → Parser Symbol
token f [] = Stops Syntax []
token f (s ∷ r) = token_if (f s) s r

abbrev pub is_token : Class → Lang Symbol
is_token f s w = (f s ≡ true) × (w ≡ s ∷ [])

-- ---- a tree made of what was read

abbrev pub map_out : {A B : Type 0} → (A → B) → Out A → Out B
map_out g (Got a r) = Got (g a) r
map_out g (Stops k r) = Stops k r

abbrev pub map_parser : {A B : Type 0} → (A → B) → Parser A → Parser B
map_parser g p i = map_out g (p i)

abbrev pub is_map : {A B : Type 0} → (A → B) → Lang A → Lang B
is_map {A} g L b w = (a : A) × (b ≡ g a) × L a w

-- ---- one after the other

abbrev pub and_then : {A B : Type 0} → Out A → (A → Text → Out B) → Out B
and_then (Got a r) f = f a r
and_then (Stops k r) f = Stops k r

abbrev pub both : {A B : Type 0} → Parser A → Parser B → Parser (A × B)
both p q i = and_then (p i) (λ a r. map_out (λ b. (a, b)) (q r))

abbrev pub is_both : {A B : Type 0} → Lang A → Lang B → Lang (A × B)
is_both L M x w = (u : Text) × (v : Text) × (w ≡ u ++ v) × L x.0 u × M x.1 v

-- ---- the first where a symbol of the class comes next, and else the second

abbrev pub either : {A : Type 0} → Class → Parser A → Parser A → Parser A
either f p q i = cond (starts f i) (p i) (q i)

abbrev pub is_either : {A : Type 0} → Lang A → Lang A → Lang A
is_either L M a w = L a w ⊎ M a w

-- ---- what may be left out

abbrev pub maybe : {A : Type 0} → Class → Parser A → Parser (Option A)
maybe f p i = cond (starts f i) (map_out Some (p i)) (Got None i)

abbrev pub is_maybe : {A : Type 0} → Lang A → Lang (Option A)
is_maybe L None w = w ≡ []
is_maybe L (Some a) w = L a w

-- ---- as many as there are; each takes a symbol, so the length of the text bounds the turns

abbrev pub many_from : {A : Type 0} → ℕ → Class → Parser A → Parser (List A)
many_from zero f p i = Got [] i
many_from (suc k) f p i = cond (starts f i) (and_then (p i) (λ a r. map_out (λ xs. a ∷ xs) (many_from k f p r))) (Got [] i)

abbrev pub many : {A : Type 0} → Class → Parser A → Parser (List A)
many f p i = many_from (length i) f p i

abbrev pub is_many : {A : Type 0} → Lang A → Lang (List A)
is_many L [] w = w ≡ []
is_many L (a ∷ xs) w = (u : Text) × (v : Text) × (w ≡ u ++ v) × L a u × is_many L xs v

-- ---- as many as there are, until one that ends the series

pub data Part (A Z : Type 0) : Type 0 where
  More : A → Part A Z
  Last : Z → Part A Z

abbrev pub goes_on : {A Z : Type 0} → Parser (List A × Option Z) → Part A Z → Parser (List A × Option Z)
goes_on q (More a) r = map_out (λ x. (a ∷ x.0, x.1)) (q r)
goes_on q (Last z) r = Got ([], Some z) r

abbrev pub series_from : {A Z : Type 0} → ℕ → Class → Parser (Part A Z) → Parser (List A × Option Z)
series_from zero f p i = Got ([], None) i
series_from (suc k) f p i = cond (starts f i) (and_then (p i) (goes_on (series_from k f p))) (Got ([], None) i)

abbrev pub series : {A Z : Type 0} → Class → Parser (Part A Z) → Parser (List A × Option Z)
series f p i = series_from (length i) f p i

abbrev pub in_series : {A Z : Type 0} → Lang (Part A Z) → List A → Option Z → Text → Type 0
in_series L [] None w = w ≡ []
in_series L [] (Some z) w = L (Last z) w
in_series L (a ∷ xs) o w = (u : Text) × (v : Text) × (w ≡ u ++ v) × L (More a) u × in_series L xs o v

abbrev pub is_series : {A Z : Type 0} → Lang (Part A Z) → Lang (List A × Option Z)
is_series L x w = in_series L x.0 x.1 w

-- ---- no level of nesting is left: nothing is read, and where one would begin it is too deep

abbrev pub shut_if : {A : Type 0} → Bool → Text → Out A
shut_if true i = Stops Deep i
shut_if false i = Stops Syntax i

abbrev pub shut : {A : Type 0} → Class → Parser A
shut f i = shut_if (starts f i) i

abbrev pub is_dead : {A : Type 0} → Lang A
is_dead a w = ⊥

-- ---- the whole text: nothing may stand behind it

abbrev pub whole : {A : Type 0} → Out A → Out A
whole (Got a []) = Got a []
whole (Got a (s ∷ r)) = Stops Syntax (s ∷ r)
whole (Stops k r) = Stops k r
