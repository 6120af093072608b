use Rattle.std.proofs.Common.{◌≡◌, ℕ, List, ◌||◌, drop}
use Rattle.cf_name_list.specs.Names.{is_in}
use Rattle.cf_sound.specs.Named.{object_names}
use Rattle.cf_sound.proofs.names.add_objects.Given as goal

abbrev pub invariant-loop-object : goal.invariant-loop-object
invariant-loop-object l =
    (q : List ℕ) → (is_in (object_names (drop l.object-index l.objects)) q || is_in l.names q) ≡ (is_in (object_names l.objects) q || is_in l.initial.names q)
