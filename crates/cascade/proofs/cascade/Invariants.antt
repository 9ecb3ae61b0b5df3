-- those before `head` are withdrawn from all their neighbors
use Rattle.std.proofs.Common.{◌≡◌, [], ◌-◌, ◌≤◌}
use Rattle.table.specs.Table.{vertices}
use Rattle.cascade.specs.Cascade.{withdrawn, Falling}
use Rattle.cascade.proofs.cascade.Given as goal

abbrev pub invariant-loop-head : goal.invariant-loop-head
invariant-loop-head l = record {
  same_reference : l.fallen.support.ghost_name ≡ l.initial.fallen.support.ghost_name;
  in_list : l.head ≤ l.fallen.end;
  falling : Falling l.starts l.links l.anchored l.levels l.x (withdrawn l.fallen.list l.head []) l.fallen.support.now l.fallen.list l.fallen.end;
}

abbrev pub decreases-loop-head : goal.decreases-loop-head
decreases-loop-head l = vertices l.starts - l.head
