-- The search for `main`, one function after the other.
use Rattle.std.proofs.Common.{◌≡◌, ◌∙◌, ℕ, ◌+◌, ◌<◌, ◌≤◌, Bool, true, false, cond, List, ◌∷◌, map, length, drop, get_or, ap, refl, sym, drop_of_length-le}
use Rattle.std.specs.Prelude.{Some, find}
use Rattle.cf_name_list.proofs.ListLaws.{left_is}
use Rattle.cf_core.specs.declared.unit.CoreFn.{CoreFn}
use Rattle.cf_core.specs.Core.{Function}
use Rattle.cf_core.specs.FromTypes.{Tables}
use Rattle.cf_core.specs.FromUnit.{function_of}
use Rattle.cf_core_sound.specs.Programs.{is_main}
use Rattle.cf_file_sound.specs.Files.{stands_for_main}

module _ (tables : Tables) (fs : List CoreFn) (i : ℕ) where
  abbrev from : ℕ → Bool
  from n = is_main (find stands_for_main (map (function_of tables) (drop n fs)))

  abbrev all : Bool
  all = is_main (find stands_for_main (map (function_of tables) fs))

  module _ (f : CoreFn) (within : i < length fs) (is : f ≡ get_or fs i f) where
    here : from i ≡ is_main (cond (stands_for_main (function_of tables f)) (Some (function_of tables f)) (find stands_for_main (map (function_of tables) (drop (i + 1) fs))))
    here = ap (λ (l : List CoreFn). is_main (find stands_for_main (map (function_of tables) l))) (left_is fs i f within is)

    pub main_here : (b : Bool) → stands_for_main (function_of tables f) ≡ true → b ≡ is_main (Some (function_of tables f)) → from i ≡ all → b ≡ all
    main_here b stands told so_far =
        told ∙ ap (λ c. is_main (cond c (Some (function_of tables f)) (find stands_for_main (map (function_of tables) (drop (i + 1) fs))))) (sym stands) ∙ sym here ∙ so_far

    pub main_later : stands_for_main (function_of tables f) ≡ false → from i ≡ all → from (i + 1) ≡ all
    main_later stands so_far =
        ap (λ c. is_main (cond c (Some (function_of tables f)) (find stands_for_main (map (function_of tables) (drop (i + 1) fs))))) (sym stands) ∙ sym here ∙ so_far

  pub main_nowhere : length fs ≤ i → from i ≡ all → false ≡ all
  main_nowhere past so_far =
      ap (λ (l : List CoreFn). is_main (find stands_for_main (map (function_of tables) l))) (sym (drop_of_length-le fs past)) ∙ so_far
