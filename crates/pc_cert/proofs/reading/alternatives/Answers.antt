use Rattle.std.proofs.Common.{◌≡◌, ◌<◌, ◌∙◌, ◌+◌, ◌-◌, suc, ap, sym, arith, true, false, length, length-append, [], ◌∷◌, Ok, Err}
use Rattle.std.proofs.lemmas.Result.{err_from_is_err_and}
use Rattle.std.proofs.lemmas.List.{append-nil}
use Rattle.pc_certificate.specs.declared.certificate.TheConstants.{ALTERNATIVES}
use Rattle.pc_cert.specs.Readers.{begins, annotated_reader, alternatives_reader}
use Rattle.pc_lines.proofs.Repeats.{behind}
use Rattle.pc_cert.proofs.Rounds.{begins_fault, ends, annotated_fault, one_more}
use Rattle.pc_lines.proofs.Told.{reads_on}
use Rattle.pc_cert.proofs.reading.alternatives.Goals as goal

pub returns-in_err-begins-clause-reads : goal.returns-in_err-begins-clause-reads
returns-in_err-begins-clause-reads c =
    let z = c.args.sizes in
    let s = c.alternatives.lines in
    let found = c.alternatives.all in
    let p = err_from_is_err_and c.from_residual.result c.from_residual.ensures.1 in
    let f = c.in_err-begins.field-0.0 in
    reads_on c.from_residual.result (alternatives_reader z 0 ALTERNATIVES c.args.lines.now) c.begins.new.lines (begins c.len.result s ≡ Err f) p.0 f p.1 p.2
    (λ h. sym c.alternatives.invariant.gives ∙ ap (behind found) (begins_fault z (length found) s (ALTERNATIVES - length found) f (ap (λ n. begins n s) (sym c.len.ensures) ∙ h)))
    (c.in_err-begins.ensures.reads)

pub returns-in_err-annotated-clause-reads : goal.returns-in_err-annotated-clause-reads
returns-in_err-annotated-clause-reads c =
    let z = c.args.sizes in
    let s = c.alternatives.lines in
    let found = c.alternatives.all in
    let left = c.begins.new.lines in
    let begun : begins (length found) s ≡ Ok (true, left) = ap (λ n. begins n s) (sym c.len.ensures) ∙ c.in_ok-begins.ensures.reads ∙ ap (λ b. Ok (b, left)) c.if-branch.true in
    let room : c.len.result < ALTERNATIVES = c.in_ok-begins.ensures.room c.if-branch.true in
    let one_less : ALTERNATIVES - length found ≡ suc (ALTERNATIVES - (length found + 1)) = omega (arith, c.len.ensures) in
    let p = err_from_is_err_and c.from_residual-in_err-annotated.result c.from_residual-in_err-annotated.ensures.1 in
    let f = c.in_err-annotated.field-0.0 in
    reads_on c.from_residual-in_err-annotated.result (alternatives_reader z 0 ALTERNATIVES c.args.lines.now) c.annotated.new.lines (annotated_reader z left ≡ Err f) p.0 f p.1 p.2
    (λ h. sym c.alternatives.invariant.gives
    ∙ ap (λ k. behind found (alternatives_reader z (length found) k s)) one_less
    ∙ ap (behind found) (annotated_fault z (length found) s (ALTERNATIVES - (length found + 1)) left f begun h))
    c.in_err-annotated.ensures

pub alternatives-preserved : goal.alternatives-preserved
alternatives-preserved c =
    let z = c.args.sizes in
    let s = c.alternatives.lines in
    let found = c.alternatives.all in
    let left = c.begins.new.lines in
    let a = c.in_ok-annotated.field-0 in
    let begun : begins (length found) s ≡ Ok (true, left) = ap (λ n. begins n s) (sym c.len.ensures) ∙ c.in_ok-begins.ensures.reads ∙ ap (λ b. Ok (b, left)) c.if-branch.true in
    let room : c.len.result < ALTERNATIVES = c.in_ok-begins.ensures.room c.if-branch.true in
    let one_less : ALTERNATIVES - length found ≡ suc (ALTERNATIVES - (length found + 1)) = omega (arith, c.len.ensures) in
    let longer : length c.push.new.self ≡ length found + 1 = ap length c.in_ok-push.ensures.ok ∙ length-append found (a ∷ []) in
    record {
      few = omega (arith, longer, c.len.ensures);
      gives =
          ap (λ n. behind c.push.new.self (alternatives_reader z n (ALTERNATIVES - n) c.annotated.new.lines)) longer
          ∙ one_more z (length found) s (ALTERNATIVES - (length found + 1)) left c.annotated.new.lines a found c.push.new.self begun c.in_ok-annotated.ensures c.in_ok-push.ensures.ok
          ∙ ap (λ k. behind found (alternatives_reader z (length found) k s)) (sym one_less)
          ∙ c.alternatives.invariant.gives;
    }

pub returns-clause-reads : goal.returns-clause-reads
returns-clause-reads c =
    let z = c.args.sizes in
    let s = c.alternatives.lines in
    let found = c.alternatives.all in
    let left = c.begins.new.lines in
    let begun : begins (length found) s ≡ Ok (false, left) = ap (λ n. begins n s) (sym c.len.ensures) ∙ c.in_ok-begins.ensures.reads ∙ ap (λ b. Ok (b, left)) c.if-branch.false in
    sym c.alternatives.invariant.gives
    ∙ ap (behind found) (ends z (length found) s (ALTERNATIVES - length found) left begun)
    ∙ ap (λ all. Ok (all, left)) (append-nil found)
