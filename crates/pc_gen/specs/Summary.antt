-- The line that tells how large a made source is, and what came out.
use Rattle.std.specs.Prelude.{◌++◌, codes}
use Rattle.pc_text.specs.Bytes.{Bytes}
use Rattle.pc_gen.specs.declared.summary.Summary.{Summary}
use Rattle.pc_gen.specs.Pieces.{counted}

-- how large the source is
abbrev pub size_text : Summary → Bytes
size_text s = counted (codes "") s.bytes (codes " bytes, ") ++ counted (codes "") s.points (codes " points, ") ++ counted (codes "") s.edges (codes " edges, ")

-- the line of a summary
abbrev pub summary_text : Summary → Bytes
summary_text s = counted (codes "trial ") s.loops (codes ": ") ++ size_text s ++ counted (codes "") s.alternatives (codes " alternatives\n")
