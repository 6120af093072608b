use Rattle.std.proofs.Common.{◌≡◌, ◌+◌, ◌*◌}
use Rattle.cf_elab_initial.specs.Lists.Seen.{plans_seen, trees_seen}
use Rattle.cf_elab_initial.specs.Lists.Shut as shut
use Rattle.cf_elab_initial.proofs.ListsLaws.PlanLaws.{infront}
use Rattle.cf_elab_initial.proofs.lists.planning.+planning.Given as goal

-- the functions go from an array to its elements, whose type stands before it
abbrev pub decreases-from_front : goal.decreases-from_front
decreases-from_front l = 8 * l.ty

abbrev pub decreases-elements : goal.decreases-elements
decreases-elements l = 8 * l.ty + 1

abbrev pub decreases-full_list : goal.decreases-full_list
decreases-full_list l = 8 * l.row.element + 2

abbrev pub decreases-braced : goal.decreases-braced
decreases-braced l = 8 * l.row.element + 3

abbrev pub decreases-array_by_one : goal.decreases-array_by_one
decreases-array_by_one l = 8 * l.row.element + 4

abbrev pub decreases-parts_front : goal.decreases-parts_front
decreases-parts_front l = 8 * l.row.element + 5

abbrev pub decreases-whole_front : goal.decreases-whole_front
decreases-whole_front l = 8 * l.row.element + 6

abbrev pub decreases-array_front : goal.decreases-array_front
decreases-array_front l = 8 * l.row.element + 7

abbrev pub invariant-elements-loop-wanted : goal.invariant-elements-loop-wanted
invariant-elements-loop-wanted l =
    infront (plans_seen l.plans) (shut.elements l.env.types l.ty l.wanted (trees_seen l.left.items)) ≡ shut.elements l.env.types l.ty l.fn.count (trees_seen l.fn.left.items)

abbrev pub decreases-elements-loop-wanted : goal.decreases-elements-loop-wanted
decreases-elements-loop-wanted l = l.wanted
