-- Lists of a few words, and the orders that they may be.
use Rattle.std.proofs.Common.{◌≡◌, ℕ, ◌<◌, ◌≤◌, ◌⊎◌, inl, inr, List, [], ◌∷◌, length, map, get_or, arith, ap, sym, ◌∙◌, refl}
use Rattle.std.proofs.lemmas.List.{length-map}
use Rattle.pc_words.specs.Words.{Order, Infer, Certify, Replay, Run, Breach, Facts, Quick, Show, Trial, words_of, IsPlain}

pub two_of : {W : Type 0} (f : W → List ℕ) (ws : List W) (a b : W) → 2 ≤ length ws → length ws < 3 → a ≡ get_or ws 0 a → b ≡ get_or ws 1 b → map f ws ≡ f a ∷ f b ∷ []
two_of f [] a b l m p q = absurd (omega arith)
two_of f (x ∷ []) a b l m p q = absurd (omega arith)
two_of f (x ∷ y ∷ []) a b l m p q = cc
two_of f (x ∷ y ∷ z ∷ ws) a b l m p q = absurd (omega arith)

pub three_of : {W : Type 0} (f : W → List ℕ) (ws : List W) (a b c : W) → 3 ≤ length ws → length ws < 4 → a ≡ get_or ws 0 a → b ≡ get_or ws 1 b → c ≡ get_or ws 2 c →
    map f ws ≡ f a ∷ f b ∷ f c ∷ []
three_of f [] a b c l m p q r = absurd (omega arith)
three_of f (x ∷ []) a b c l m p q r = absurd (omega arith)
three_of f (x ∷ y ∷ []) a b c l m p q r = absurd (omega arith)
three_of f (x ∷ y ∷ z ∷ []) a b c l m p q r = cc
three_of f (x ∷ y ∷ z ∷ w ∷ ws) a b c l m p q r = absurd (omega arith)

order_length : (order : Order) → (length (words_of order) ≡ 2) ⊎ (length (words_of order) ≡ 3)
order_length (Infer source) = inl refl
order_length (Certify source) = inr refl
order_length (Replay source certificate) = inr refl
order_length (Run source script) = inr refl
order_length (Breach source script) = inr refl
order_length (Facts domain source) = inr refl
order_length (Quick domain source) = inr refl
order_length (Show source) = inl refl
order_length (Trial loops) = inl refl

-- an order has two words or three
pub not_plain : {W : Type 0} (f : W → List ℕ) (ws : List W) → (length ws < 2) ⊎ (3 < length ws) → IsPlain (map f ws) → ⊥
not_plain f ws h plain =
    let e = sym (length-map ws f) ∙ ap length plain.1.spelled in
    let n = order_length plain.0 in
    omega arith
