use Rattle.cc_whole_tried.proofs.reader.statements.+body.Given as goal

-- each step takes one from the depth that is left
abbrev pub decreases-statement : goal.decreases-statement
decreases-statement l = l.depth

abbrev pub decreases-conditional : goal.decreases-conditional
decreases-conditional l = l.depth

abbrev pub decreases-forever : goal.decreases-forever
decreases-forever l = l.depth

abbrev pub decreases-switch_item : goal.decreases-switch_item
decreases-switch_item l = l.depth

abbrev pub decreases-switch : goal.decreases-switch
decreases-switch l = l.depth

abbrev pub decreases-boxed_body : goal.decreases-boxed_body
decreases-boxed_body l = l.depth

abbrev pub decreases-body_within : goal.decreases-body_within
decreases-body_within l = l.depth
