use Rattle.cc_whole_tried.proofs.reader.expressions.+expression.Given as goal

-- each step takes one from the depth that is left
abbrev pub decreases-operation : goal.decreases-operation
decreases-operation l = l.depth

abbrev pub decreases-operand : goal.decreases-operand
decreases-operand l = l.depth

abbrev pub decreases-behind_bracket : goal.decreases-behind_bracket
decreases-behind_bracket l = l.depth

abbrev pub decreases-cast : goal.decreases-cast
decreases-cast l = l.depth

abbrev pub decreases-place_within : goal.decreases-place_within
decreases-place_within l = l.depth
