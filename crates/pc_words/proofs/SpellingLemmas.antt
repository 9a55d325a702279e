-- Words order one thing: an order is read back from them.
use Rattle.std.proofs.Common.{◌≡◌, ◌∙◌, ap, sym, refl, Option, Some, None, List, [], ◌∷◌, inl, inr}
use Rattle.std.specs.Prelude.{bytes_eq, codes, if◌then◌else◌}
use Rattle.pc_text.specs.Bytes.{Bytes}
use Rattle.pc_text.specs.Digits.{natural_of}
use Rattle.pc_text.proofs.NumeralWords.{natural_integer}
use Rattle.pc_words.specs.declared.domains.FactsDomain.{FactsDomain}
use Rattle.pc_words.specs.declared.domains.FactsDomain.TheVariants as facts
use Rattle.pc_words.specs.declared.domains.QuickDomain.{QuickDomain}
use Rattle.pc_words.specs.declared.domains.QuickDomain.TheVariants as quick
use Rattle.pc_words.specs.Words.{Order, Infer, Certify, Replay, Run, Breach, Facts, Quick, Show, Trial, words_of, IsOrder}
use Rattle.pc_words.specs.Taken.{WordsOrderOneThing}

-- what words order that are those of some order
of_two : Bytes → Bytes → Order
of_two verb word =
    if bytes_eq verb (codes "infer") then Infer word
    else if bytes_eq verb (codes "show") then Show word
    else Trial (natural_of word)

facts_domain : Bytes → FactsDomain
facts_domain word = if bytes_eq word (codes "--domain=boxes") then facts.Boxes else facts.Polyhedra

quick_domain : Bytes → QuickDomain
quick_domain word = if bytes_eq word (codes "--domain=boxes") then quick.Boxes else quick.Rows

of_three : Bytes → Bytes → Bytes → Order
of_three verb source third =
    if bytes_eq verb (codes "infer") then Certify source
    else if bytes_eq verb (codes "replay") then Replay source third
    else if bytes_eq verb (codes "run") then Run source third
    else if bytes_eq verb (codes "breach") then Breach source third
    else if bytes_eq verb (codes "facts") then Facts (facts_domain third) source
    else Quick (quick_domain third) source

read_back : List Bytes → Option Order
read_back [] = None
read_back (verb ∷ []) = None
read_back (verb ∷ word ∷ []) = Some (of_two verb word)
read_back (verb ∷ source ∷ third ∷ []) = Some (of_three verb source third)
read_back (verb ∷ source ∷ third ∷ fourth ∷ more) = None

reads_back : (order : Order) → read_back (words_of order) ≡ Some order
unfolding read_back of_two of_three facts_domain quick_domain
reads_back (Infer source) = refl
reads_back (Certify source) = refl
reads_back (Replay source certificate) = refl
reads_back (Run source script) = refl
reads_back (Breach source script) = refl
reads_back (Facts facts.Boxes source) = refl
reads_back (Facts facts.Polyhedra source) = refl
reads_back (Quick quick.Rows source) = refl
reads_back (Quick quick.Boxes source) = refl
reads_back (Show source) = refl
reads_back (Trial loops) = ap (λ n. Some (Trial n)) (natural_integer loops)

-- in a plain form
pub same_order : (words : List Bytes) (a b : Order) → IsOrder words a → IsOrder words b → b ≡ a
same_order words a b p q = let same = sym (reads_back b) ∙ ap read_back (sym q.spelled ∙ p.spelled) ∙ reads_back a in cc

-- and in none
pub one_thing : WordsOrderOneThing
one_thing words a b (inl p) (inl q) = same_order words a b p q
one_thing words a b (inl p) (inr q) = absurd (q.0 (a, p))
one_thing words a b (inr p) (inl q) = absurd (p.0 (b, q))
one_thing words a b (inr p) (inr q) = same_order _ a b p.1.spelled q.1.spelled
