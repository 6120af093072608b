-- The functions of a file, one after the other.
use Rattle.std.proofs.Common.{◌≡◌, ℕ, ◌+◌, ◌<◌, ◌≤◌, Bool, true, false, ◌&&◌, List, length, map, drop, get_or, sym, ap, ◌∙◌}
use Rattle.std.proofs.lemmas.List.{at_drop_all}
use Rattle.std.specs.List.{list_all}
use Rattle.cf_classes.specs.ClassTable.{ClassTable}
use Rattle.cf_core.specs.FromTypes.{Tables}
use Rattle.cf_lower_held.proofs.Forgotten.{drop_item}
use Rattle.cf_lower_kept.specs.Ready.{function_ready, functions_ready}
use Rattle.cf_plain.specs.View.{Unit, file_of, function_of}
use Rattle.cf_plain.specs.declared.unit.PlainFn.{PlainFn}
use Rattle.cf_types.specs.Table.{Table}

module _ (tables : Tables) (all : List PlainFn) where
  -- those from a number on
  abbrev pub From : ℕ → Bool
  From n = list_all function_ready (map (function_of tables) (drop n all))

  module _ (i : ℕ) where
    module _ (f : PlainFn) (good whole : Bool) (within : i < length all) (is : f ≡ get_or all i f) (told : good ≡ function_ready (function_of tables f))
        (so_far : From i ≡ whole) where
      next : whole ≡ (good && From (i + 1))
      next =
          sym so_far ∙ ap (λ l. list_all function_ready (map (function_of tables) l)) (drop_item all i f within is)
          ∙ ap (λ b. b && From (i + 1)) (sym told)

      pub function_more : good ≡ true → From (i + 1) ≡ whole
      function_more sure = sym (next ∙ ap (λ b. b && From (i + 1)) sure)

      pub function_fails : good ≡ false → false ≡ whole
      function_fails not_so = sym (next ∙ ap (λ b. b && From (i + 1)) not_so)

    pub functions_ended : (whole : Bool) → length all ≤ i → From i ≡ whole → true ≡ whole
    functions_ended whole past so_far =
        sym (at_drop_all (λ (l : List PlainFn). list_all function_ready (map (function_of tables) l)) all i past) ∙ so_far

-- of a unit
pub unit_ready : (unit : Unit) (tables : Tables) (types : Table) (classes : ClassTable) (functions : List PlainFn) (good : Bool) → functions ≡ unit.functions → types ≡ unit.types
    → classes ≡ unit.classes → tables ≡ record { types = types; classes = classes }
    → good ≡ list_all function_ready (map (function_of tables) functions) → good ≡ functions_ready (file_of unit)
unit_ready unit tables types classes functions good same of in_classes at is =
    let all : Tables → List PlainFn → Bool = λ ts fs. list_all function_ready (map (function_of ts) fs) in
    is ∙ ap (all tables) same ∙ ap (λ ts. all ts unit.functions) at ∙ ap (λ (t : Table). all (record { types = t; classes = classes }) unit.functions) of
    ∙ ap (λ (k : ClassTable). all (record { types = unit.types; classes = k }) unit.functions) in_classes
