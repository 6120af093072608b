-- What the core of an end is by the two looks; that it is valid; that a file has one end; and that its core is that of `First`.
use Rattle.std.proofs.Common.{◌≡◌, ◌∙◌, Bool, true, false, ◌&&◌, if◌then◌else◌, Option, None, Some, unwrap_or, refl, sym, ap}
use Rattle.cf_types.specs.Table.{IsTable}
use Rattle.cf_unit.specs.declared.file.Unit.{Unit as FileTree}
use Rattle.cf_core.specs.FromUnit.{Unit as CoreUnit, IsValid}
use Rattle.cf_elab.specs.Answer.{Answer, Made}
use Rattle.cf_elab.specs.Built.{first_built, first_of_file, not_built, built_so_far}
use Rattle.cf_elab.specs.Env.{Env}
use Rattle.cf_elab.specs.File.{Core, answer, core_unit}
use Rattle.cf_elab_unit.specs.Unit.First.{EndsAs}
use Rattle.cf_elab_unit.specs.Unit.Shut as file
use Rattle.cf_elab_valid_files.specs.File.Ends as look
use Rattle.cf_elab_valid_files.specs.File.Laws as tree
use Rattle.cf_elab_valid_files.specs.Files.Laws.{FinishedFilesAreValid}
use Rattle.cf_elab_finished.specs.Finished.{Ended, finished}
use Rattle.cf_elab_finished.specs.Laws.{OneCore, CoreOfFirst}
use Rattle.cf_elab_finished.specs.Shut as shut

-- ---- by the looks

pub look_is : (u : FileTree) (end : Env) (fits well_formed right : Bool) → fits ≡ tree.file_fits u → well_formed ≡ look.is_finished end → right ≡ (fits && well_formed) → right ≡ shut.looks_right u end
unfolding shut.looks_right
look_is u end fits well_formed right f w r = r ∙ ap (λ b. b && well_formed) f ∙ ap (λ b. tree.file_fits u && b) w

pub ruleset look_laws = (look_is)

pub right_end : (u : FileTree) (end : Env) → shut.looks_right u end ≡ true → Some (core_unit end) ≡ shut.finished u end
unfolding shut.looks_right shut.finished
right_end u end h = ap (λ b. if b then Some (core_unit end) else None) (sym h)

pub wrong_end : (u : FileTree) (end : Env) → shut.looks_right u end ≡ false → None ≡ shut.finished u end
unfolding shut.looks_right shut.finished
wrong_end u end h = ap (λ b. if b then Some (core_unit end) else None) (sym h)

pub ended : (u : FileTree) (end : Env) (core : Option CoreUnit) → EndsAs u end → core ≡ shut.finished u end → Ended u core
unfolding shut.finished
ended u end core e h = record { end = end; ends = e; core_is = h }

pub ruleset end_laws = (right_end, wrong_end, ended)

-- ---- valid

left : (a b : Bool) → (a && b) ≡ true → a ≡ true
left true b h = refl
left false b h = h

right : (a b : Bool) → (a && b) ≡ true → b ≡ true
right true b h = h
right false b h = let e : false ≡ true = h in absurd cc

pub valid_is : FinishedFilesAreValid → (u : FileTree) (end : Env) → EndsAs u end → IsTable end.types → shut.looks_right u end ≡ true → IsValid (core_unit end)
unfolding file.AreBuilt file.in_turn shut.looks_right
valid_is law u end e table h =
    law built_so_far u e.built (left (tree.file_fits u) (look.is_finished end) h) end e.made table (right (tree.file_fits u) (look.is_finished end) h)

-- ---- one end

abbrev end_in : Env → Answer (Unit {0}) → Env
end_in d (Made u end) = end
end_in d other = d

one_end : (u : FileTree) (d e : Env) → EndsAs u d → EndsAs u e → d ≡ e
one_end u d e p q = ap (end_in d) (sym p.made ∙ q.made)

pub one_core : OneCore
one_core u a b p q = p.core_is ∙ ap (finished u) (one_end u p.end q.end p.ends q.ends) ∙ sym q.core_is

-- ---- the core of `First`

chosen_is : (b : Bool) (core made : CoreUnit) → Some core ≡ (if b then Some made else None) → core ≡ made
chosen_is true core made h = ap (λ o. unwrap_or o core) h
chosen_is false core made h = let e : Some core ≡ None = h in absurd cc

built_is : (u : FileTree) → file.AreBuilt u.items → not_built u ≡ None
unfolding file.AreBuilt
built_is u h = h

by_turn : (u : FileTree) → first_built None u ≡ answer (file.in_turn u)
unfolding file.in_turn
by_turn u = refl

-- by the end, whether the looks find it well formed or not
pub end_of_first : (u : FileTree) (core : Option CoreUnit) → (p : Ended u core) → first_of_file u ≡ Core (core_unit p.end)
end_of_first u core p = ap (λ place. first_built place u) (built_is u p.ends.built) ∙ by_turn u ∙ ap answer p.ends.made

pub core_of_first : CoreOfFirst
core_of_first u core p =
    end_of_first u (Some core) p
    ∙ ap Core (sym (chosen_is (tree.file_fits u && look.is_finished p.end) core (core_unit p.end) p.core_is))
