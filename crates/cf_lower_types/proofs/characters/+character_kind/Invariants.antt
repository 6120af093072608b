use Rattle.cf_lower_types.proofs.characters.+character_kind.Given as goal

abbrev pub decreases-character_kind : goal.decreases-character_kind
decreases-character_kind l = l.id
