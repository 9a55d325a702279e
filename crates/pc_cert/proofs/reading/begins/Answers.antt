use Rattle.pc_text.specs.Words.{words}
use Rattle.pc_lines.specs.Readers.{line_value}
use Rattle.pc_lines.proofs.Told.{line_read, gives_same}
use Rattle.pc_cert.specs.Faults.{next}
use Rattle.pc_cert.specs.Readers.{goes_on}
use Rattle.pc_cert.proofs.reading.begins.Goals as goal

pub returns-clause-reads : goal.returns-clause-reads
returns-clause-reads c =
    let n = c.in_ok-number.number in
    let line = c.in_ok-number.line.now in
    line_read (next c.args.others) goes_on c.args.lines.now c.line.new.self n line c.begins_at.result c.in_ok-number.ensures
    (gives_same c.begins_at.result (line_value (next c.args.others) goes_on n (words line)) c.begins_at.ensures.value)
