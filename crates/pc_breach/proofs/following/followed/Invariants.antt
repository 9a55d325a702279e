use Rattle.std.proofs.Common.{◌≡◌, ◌<◌, ◌-◌, ◌++◌, length}
use Rattle.pc_flow.specs.Annotation.{rows_at}
use Rattle.pc_breach.specs.Following.{followed}
use Rattle.pc_breach.proofs.following.followed.Given as goal

-- the choices so far and those of the steps that are left are all
abbrev pub invariant-loop-k : goal.invariant-loop-k
invariant-loop-k l = record {
  within : l.p < length l.g.points;
  all : l.choices ++ followed l.g.edges (rows_at l.rows) (length l.g.points - l._k) l.p l.row ≡ followed l.g.edges (rows_at l.rows) (length l.g.points) 0 l.fn.r;
}
