-- The program of one file of constant objects: its functions and objects by their own names, and what sets the objects.
use Rattle.std.proofs.Common.{◌≡◌, true, cond, ◌&&◌, not, List, [], ◌∷◌, map, filter, ap, refl, ◌∙◌}
use Rattle.std.specs.Prelude.{is_some, codes}
use Rattle.std.specs.List.{list_all}
use Rattle.cf_base.proofs.Tests.{both}
use Rattle.cf_core.specs.Types.{Name}
use Rattle.cf_core.specs.Core.{Function, Static, CoreFile}
use Rattle.cf_core.specs.Calls.{Program, Setting}
use Rattle.cf_core.specs.Joined.{local_names, in_file, name_in, function_in_file, static_in_file, new_functions, new_statics, file_initialiser, sets_constant, needs_initialiser, constant_setting, program_of}
use Rattle.cf_core_sound.specs.Calls.{classless}

-- a file without classes
abbrev pub of_parts : List Function → List Static → CoreFile
of_parts functions statics = record { classes = []; functions = functions; statics = statics }

-- the name of the function that sets its objects
abbrev pub starter : Name
starter = in_file 1 (codes "__sti")

all-functions : (fs : List Function) → new_functions [] fs ≡ fs
all-functions [] = refl
all-functions (f ∷ fs) = ap (λ (gs : List Function). f ∷ gs) (all-functions fs)

all-statics : (xs : List Static) → new_statics [] xs ≡ xs
all-statics [] = refl
all-statics (x ∷ xs) = ap (λ (ys : List Static). x ∷ ys) (all-statics xs)

module _ (r : Name → Name) where
  none-needed : (xs : List Static) → list_all (λ (x : Static). x.is_constant) xs ≡ true → filter needs_initialiser (map (static_in_file r) xs) ≡ []
  none-needed [] ok = refl
  none-needed (x ∷ xs) ok =
      let p = both x.is_constant (list_all (λ (x : Static). x.is_constant) xs) ok in
      let others = filter needs_initialiser (map (static_in_file r) xs) in
      ap (λ b. cond (not b && not (is_some (static_in_file r x).owner)) (static_in_file r x ∷ others) others) p.0 ∙ none-needed xs p.1

  -- what sets each object
  abbrev pub settings_of : List Static → List Setting
  settings_of xs = map (constant_setting starter) (filter sets_constant (map (static_in_file r) xs))

  -- the file's own things by other names
  abbrev pub joined_by : List Function → List Static → Program
  joined_by functions statics = classless (map (function_in_file r) functions) (map (static_in_file r) statics) (settings_of statics) []

module _ (functions : List Function) (statics : List Static) where
  -- the names that it has where it is joined alone
  abbrev pub own : Name → Name
  own = name_in 1 (local_names (of_parts functions statics))

  pub joined-is : list_all (λ (x : Static). x.is_constant) statics ≡ true → program_of (of_parts functions statics ∷ []) ≡ joined_by own functions statics
  joined-is ok =
      let fs = map (function_in_file own) functions in
      let xs = map (static_in_file own) statics in
      let with_statics : List Static → List Function → Program = λ ys gs. record {
        classes = [];
        functions = gs;
        statics = ys;
        constants = map (constant_setting starter) (filter sets_constant ys);
        initialisers = file_initialiser starter (filter needs_initialiser ys);
      } in
      ap (with_statics (new_statics [] xs)) (all-functions fs) ∙ ap (λ ys. with_statics ys fs) (all-statics xs)
      ∙ ap (λ zs. classless fs xs (settings_of own statics) (file_initialiser starter zs)) (none-needed own statics ok)
