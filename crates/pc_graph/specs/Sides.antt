-- The sides of tests.
use Rattle.std.specs.Prelude.{Bool, true, false}
use Rattle.pc_graph.specs.declared.side.Side.{Side}
use Rattle.pc_graph.specs.declared.side.Side.TheVariants as side

-- the test holds on this side
abbrev pub holds : Side → Bool
holds side.Then = true
holds side.Else = false
holds side.Body = true
holds side.Exit = false

abbrev pub is_body : Side → Bool
is_body side.Then = false
is_body side.Else = false
is_body side.Body = true
is_body side.Exit = false
