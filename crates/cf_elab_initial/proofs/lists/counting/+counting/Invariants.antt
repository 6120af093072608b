use Rattle.std.proofs.Common.{◌+◌, ◌-◌, ◌*◌}
use Rattle.cf_elab_initial.specs.Lists.Seen.{trees_seen}
use Rattle.cf_elab_initial.proofs.ListsLaws.CountLaws.{Left}
use Rattle.cf_elab_initial.proofs.lists.counting.+counting.Given as goal

-- the functions go from an array to its elements, whose type stands before it
abbrev pub decreases-behind_one : goal.decreases-behind_one
decreases-behind_one l = 3 * l.ty

abbrev pub decreases-some_of : goal.decreases-some_of
decreases-some_of l = 3 * l.ty + 1

abbrev pub decreases-behind_array : goal.decreases-behind_array
decreases-behind_array l = 3 * l.row.element + 2

abbrev pub invariant-some_of-loop-count : goal.invariant-some_of-loop-count
invariant-some_of-loop-count l = Left l.env.types l.ty l.most (trees_seen l.trees) l.count (trees_seen l.left)

abbrev pub decreases-some_of-loop-count : goal.decreases-some_of-loop-count
decreases-some_of-loop-count l = l.most - l.count
