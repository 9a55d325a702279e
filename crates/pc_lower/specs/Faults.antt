-- What is told of a list of rows that has no further row.
use Rattle.pc_rows.specs.declared.rows.RowsFault.{RowsFault}
use Rattle.pc_rows.specs.declared.rows.RowsFault.TheVariants as rows
use Rattle.pc_lower.specs.declared.fault.CandidateFault.{CandidateFault}
use Rattle.pc_lower.specs.declared.fault.CandidateFault.TheVariants.{Full, NoMemory}

abbrev pub told : RowsFault → CandidateFault
told rows.Full = Full
told rows.NoMemory = NoMemory
