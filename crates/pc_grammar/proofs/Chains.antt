-- The two forms of a right side are one language: addends until a choice, and an expression and then perhaps a choice.
use Rattle.std.proofs.Common.{◌≡◌, Bool, true, false, ◌||◌, nat_eq, List, [], ◌∷◌, ◌++◌, Option, Some, None, refl, sym, ap, ◌∙◌, subst, append_assoc, inl, inr, ◌⊎◌}
use Rattle.pc_grammar.specs.declared.symbol.Symbol.{Symbol}
use Rattle.pc_language.specs.declared.terminal.Terminal.{Terminal}
use Rattle.pc_language.specs.declared.terminal.Terminal.TheVariants as terminal
use Rattle.pc_grammar.specs.declared.tree.ExprTree.{ExprTree}
use Rattle.pc_language.specs.declared.choice.Choice.{Choice}
use Rattle.pc_grammar.specs.declared.tree.RightTree.{RightTree}
use Rattle.pc_grammar.specs.Combinators.{Text, Lang, is_both, is_map, is_either, is_maybe, is_many, Part, More, Last, is_series, in_series}
use Rattle.pc_grammar.specs.Terminals.{code, is_one, is_one_of}
use Rattle.pc_grammar.specs.Expressions.{signs, sums, is_addend, is_expr_in}
use Rattle.pc_grammar.specs.Rights.{is_choice, right_of, more, more_or_last, joined}
use Rattle.pc_grammar.proofs.Sets.{within, wider}
use Rattle.pc_grammar.proofs.Expressions.{only}

-- ---- the language of addends until a choice

module _ (P : Lang ExprTree) where
  abbrev pub is_last_or_more : Lang (Part ExprTree Choice)
  is_last_or_more = is_either (is_map Last is_choice) (is_map More (is_addend P))

  abbrev pub is_minus_part : Lang (Part (Symbol × ExprTree) Choice)
  is_minus_part = is_map more (is_both (is_one terminal.Minus) (is_addend P))

  abbrev pub is_plus_part : Lang (Part (Symbol × ExprTree) Choice)
  is_plus_part = is_map more_or_last (is_both (is_one terminal.Plus) is_last_or_more)

  abbrev pub is_part : Lang (Part (Symbol × ExprTree) Choice)
  is_part = is_either is_minus_part is_plus_part

  abbrev pub is_chain : Lang RightTree
  is_chain = is_map joined (is_both (is_addend P) (is_series is_part))

abbrev Tail : Option Choice → Text → Type 0
Tail None v = v ≡ []
Tail (Some z) v = (t : Symbol) × is_both (is_one terminal.Plus) is_choice (t, z) v

is_sign : (ks : List Terminal) → within ks signs ≡ true → (t : Symbol) (u : Text) → is_one_of ks t u → is_one_of signs t u
is_sign ks d t u l = (wider ks signs d (t ∷ []) l.0, l.1)

part_more : (P : Lang ExprTree) (y : Symbol × ExprTree) (u : Text) → is_part P (More y) u → is_both (is_one_of signs) (is_addend P) y u
part_more P y u (inl (x, e, (u1, u2, s, l, m))) = let same : x ≡ y = cc in subst (λ z. is_both (is_one_of signs) (is_addend P) z u) same (u1, u2, s, is_sign (only terminal.Minus) refl x.0 u1 l, m)
part_more P y u (inr ((t, Last z), e, m)) = absurd (cc)
part_more P y u (inr ((t, More x), e, (u1, u2, s, l, inl (z, e', m)))) = absurd (cc)
part_more P y u (inr ((t, More x), e, (u1, u2, s, l, inr (x', e', m)))) =
    let same : x' ≡ x = cc in let pair : (t, x) ≡ y = cc in
    subst (λ z. is_both (is_one_of signs) (is_addend P) z u) pair (u1, u2, s, is_sign (only terminal.Plus) refl t u1 l, subst (λ z. is_addend P z u2) same m)

part_last : (P : Lang ExprTree) (z : Choice) (v : Text) → is_part P (Last z) v → Tail (Some z) v
part_last P z v (inl (x, e, m)) = absurd (cc)
part_last P z v (inr ((t, More x), e, m)) = absurd (cc)
part_last P z v (inr ((t, Last z'), e, (u1, u2, s, l, inr (x, e', m)))) = absurd (cc)
part_last P z v (inr ((t, Last z'), e, (u1, u2, s, l, inl (z'', e', m)))) =
    let same : z'' ≡ z = cc in (t, (u1, u2, s, l, subst (λ y. is_choice y u2) same m))

read_off : (P : Lang ExprTree) (ys : List (Symbol × ExprTree)) (o : Option Choice) (v : Text) → in_series (is_part P) ys o v
    → (v1 : Text) × (v2 : Text) × (v ≡ v1 ++ v2) × is_many (is_both (is_one_of signs) (is_addend P)) ys v1 × Tail o v2
read_off P [] None v l = ([], [], l, refl, refl)
read_off P [] (Some z) v l = ([], v, refl, refl, part_last P z v l)
read_off P (y ∷ ys) o v (u, w, s, l, m) =
    let r = read_off P ys o w m in
    (u ++ r.0, r.1, s ∙ ap (λ z. u ++ z) r.2 ∙ sym (append_assoc u r.0 r.1), (u, r.0, refl, part_more P y u l, r.3), r.4)

plus_or_minus : (a b : Bool) → a || (b || false) ≡ true → (a || false ≡ true) ⊎ (b || false ≡ true)
plus_or_minus true b h = inl refl
plus_or_minus false b h = inr h

part_of : (P : Lang ExprTree) (y : Symbol × ExprTree) (u : Text) → is_both (is_one_of signs) (is_addend P) y u → is_part P (More y) u
part_of P (t, x) u (u1, u2, s, l, m) = elim (plus_or_minus (nat_eq (code t.terminal) (code terminal.Plus)) (nat_eq (code t.terminal) (code terminal.Minus)) l.0) [
  | inl h ↦ inr ((t, More x), refl, (u1, u2, s, (h, l.1), inr (x, refl, m)))
  | inr h ↦ inl ((t, x), refl, (u1, u2, s, (h, l.1), m))
]

put_on : (P : Lang ExprTree) (ys : List (Symbol × ExprTree)) (o : Option Choice) (v1 v2 : Text) → is_many (is_both (is_one_of signs) (is_addend P)) ys v1 → Tail o v2 → in_series (is_part P) ys o (v1 ++ v2)
put_on P [] None v1 v2 l t = rw (l, t) refl
put_on P [] (Some z) v1 v2 l (t, (u1, u2, s, k, m)) = rw l (inr ((t, Last z), refl, (u1, u2, s, k, inl (z, refl, m))))
put_on P (y ∷ ys) o v1 v2 (u, w, s, l, m) t = (u, w ++ v2, ap (λ z. z ++ v2) s ∙ append_assoc u w v2, part_of P y u l, put_on P ys o w v2 m t)

abbrev pub is_joined : Lang ExprTree → Lang RightTree
is_joined P = is_map right_of (is_both (is_expr_in P) (is_maybe (is_both (is_one terminal.Plus) is_choice)))

pub chain_joined : (P : Lang ExprTree) (a : RightTree) (w : Text) → is_chain P a w → is_joined P a w
chain_joined P a w ((x, (ys, o)), e, (u, v, s, l, m)) = by o (read_off P ys o v m) e
  where
    by : (o : Option Choice) → ((v1 : Text) × (v2 : Text) × (v ≡ v1 ++ v2) × is_many (is_both (is_one_of signs) (is_addend P)) ys v1 × Tail o v2) → a ≡ joined (x, (ys, o)) → is_joined P a w
    by None (v1, v2, q, k, t) e = ((sums x ys, None), e, (u ++ v1, v2, s ∙ ap (λ z. u ++ z) q ∙ sym (append_assoc u v1 v2), ((x, ys), refl, (u, v1, refl, l, k)), t))
    by (Some z) (v1, v2, q, k, t) e = ((sums x ys, Some (t.0, z)), e, (u ++ v1, v2, s ∙ ap (λ z. u ++ z) q ∙ sym (append_assoc u v1 v2), ((x, ys), refl, (u, v1, refl, l, k)), t.1))

pub joined_chain : (P : Lang ExprTree) (a : RightTree) (w : Text) → is_joined P a w → is_chain P a w
joined_chain P a w ((x, None), e, (u, v, s, ((y, ys), q, (u1, u2, d, l, k)), m)) =
    ((y, (ys, None)), e ∙ ap (λ z. right_of (z, None)) q, (u1, u2 ++ v, s ∙ ap (λ z. z ++ v) d ∙ append_assoc u1 u2 v, l, put_on P ys None u2 v k m))
joined_chain P a w ((x, Some (t, c)), e, (u, v, s, ((y, ys), q, (u1, u2, d, l, k)), m)) =
    ((y, (ys, Some c)), e ∙ ap (λ z. right_of (z, Some (t, c))) q, (u1, u2 ++ v, s ∙ ap (λ z. z ++ v) d ∙ append_assoc u1 u2 v, l, put_on P ys (Some c) u2 v k (t, m)))
