use Rattle.std.proofs.Common.{◌≡◌, map, drop}
use Rattle.cf_elab_valid.specs.Constants.{all_of}
use Rattle.cf_elab_valid_files.specs.Bodies.Trees.{Told, is_whole, statement_told}
use Rattle.cf_elab_fits.proofs.statements.+statements.Given as goal

abbrev pub invariant-statements-loop-s : goal.invariant-statements-loop-s
invariant-statements-loop-s l = all_of (map is_whole (map statement_told (drop l.s-index l.initial.all))) ≡ all_of (map is_whole (map statement_told l.initial.all))

abbrev pub invariant-entries-loop-s : goal.invariant-entries-loop-s
invariant-entries-loop-s l =
    all_of (map (λ (t : Told). t.well) (map statement_told (drop l.s-index l.initial.all))) ≡ all_of (map (λ (t : Told). t.well) (map statement_told l.initial.all))
