-- Bytes that were fetched are those of the file.
use Rattle.std.proofs.Common.{◌≡◌, ℕ, ◌+◌, ◌≤◌, ◌<◌, ◌∙◌, length, take, arith, ap, length-take, refl}
use Rattle.std.proofs.lemmas.List.{take_all}
use Rattle.pc_ports.specs.Outside.{Holding, Untold, Nothing, Held, TakenFrom}
use Rattle.pc_text.specs.Bytes.{Bytes}
use Rattle.pc_app.specs.declared.status.TheConstants.{TOO_LONG}
use Rattle.pc_app.specs.Files.{HasBytes, IsTooLong}

-- a front that is short enough is all of the bytes
whole : (limit : ℕ) (bytes taken : Bytes) → taken ≡ take (limit + 1) bytes → length taken ≤ limit → taken ≡ bytes
whole limit bytes taken e short =
    let size = ap length e ∙ length-take (limit + 1) bytes in
    let most : length bytes ≤ limit + 1 = omega arith in
    e ∙ take_all (limit + 1) bytes most

pub has_bytes : (limit : ℕ) (held : Holding) (taken : Bytes) → TakenFrom held limit taken → length taken ≤ limit → HasBytes limit held taken
has_bytes limit Untold taken from short = record { holds = tt; short = short }
has_bytes limit Nothing taken from short = absurd from
has_bytes limit (Held bytes) taken from short = record { holds = whole limit bytes taken from short; short = short }

-- a front that is too long is that of a file that is too long
pub is_too_long :
    (limit : ℕ) (long : Bytes) (held : Holding) (taken : Bytes) (status : ℕ) (text : Bytes) →
    TakenFrom held limit taken → limit < length taken → status ≡ TOO_LONG → text ≡ long → IsTooLong (λ bytes. limit) long held status text
is_too_long limit long Untold taken status text from more s t = record { bytes = taken; holds = tt; more = more; status_is = s; text_is = t }
is_too_long limit long Nothing taken status text from more s t = absurd from
is_too_long limit long (Held bytes) taken status text from more s t =
    let size = ap length from ∙ length-take (limit + 1) bytes in
    record { bytes = bytes; holds = refl; more = omega arith; status_is = s; text_is = t }
