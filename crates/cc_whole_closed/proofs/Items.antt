-- Items as linking places them: renamed, with the new names of what they use.
use Rattle.std.proofs.Common.{◌≡◌, ℕ, suc, Bool, true, false, not, ◌&&◌, List, [], ◌∷◌, ◌++◌, Option, Some, None, option_map, map, refl, ap, sym, subst, ◌∙◌}
use Rattle.std.specs.List.{list_all}
use Rattle.cc_whole.specs.declared.unit.CFunction.{CFunction}
use Rattle.cc_whole.specs.declared.unit.CPair.{CPair}
use Rattle.cc_whole.specs.declared.unit.CInitialiser.{CInitialiser}
use Rattle.cc_whole.specs.declared.unit.CInitialiser.TheVariants as initialiser
use Rattle.cc_whole.specs.declared.unit.CItem.{CItem}
use Rattle.cc_whole.specs.declared.unit.CItem.TheVariants as item
use Rattle.cc_whole.specs.declared.unit.CUnit.{CUnit}
use Rattle.cc_whole.specs.Plain.{item_of, items_of, body_of}
use Rattle.cc_whole.specs.Uses.{parameter_names, use_of_function, uses_of_pairs, uses_of_start, uses_of_body, uses_of_item}
use Rattle.cc_whole.specs.ValidUnit.{is_static}
use Rattle.cc_whole_link.specs.Rename.{Renaming, hiding, pair_renamed, start_renamed, body_renamed, item_renamed}
use Rattle.cc_whole_link.specs.Placed.{Placed, placed, placed_items, placed_units, statics, static_renaming}
use Rattle.cc_whole_closed.proofs.Plains.{body_with}
use Rattle.cc_whole_closed.proofs.Renamed.{body_as}
use Rattle.cc_whole_closed.proofs.Uses.{Names, first_hidden, body_kept, split, join}

-- ---- a renamed item is not static

pub never_static : (i : CItem) (r : Renaming) → is_static (item_of (item_renamed i r)) ≡ false
never_static (item.Prototype p) r = refl
never_static (item.Extern t name) r = refl
never_static (item.Function f) r = refl
never_static (item.Variable v) r = refl

-- ---- what it uses

module _ (good : List ℕ → Bool) (r : Renaming) where
  abbrev pub Keeping : Names → Names → Type 0
  Keeping old new = list_all (λ name. good (r name)) old ≡ true → list_all good new ≡ true

  function_keeps : (f : Option (List ℕ)) → Keeping (use_of_function f) (use_of_function (option_map r f))
  function_keeps None h = refl
  function_keeps (Some name) h = h

  pairs_keep : (ps : List CPair) → Keeping (uses_of_pairs ps) (uses_of_pairs (map (λ p. pair_renamed p r) ps))
  pairs_keep [] h = refl
  pairs_keep (p ∷ ps) h =
      let parts = split (λ name. good (r name)) (use_of_function p.function) (uses_of_pairs ps) h in
      join good (use_of_function (option_map r p.function)) (uses_of_pairs (map (λ p. pair_renamed p r) ps)) (function_keeps p.function parts.0) (pairs_keep ps parts.1)

  start_keeps : (s : Option CInitialiser) → Keeping (uses_of_start s) (uses_of_start (option_map (λ x. start_renamed x r) s))
  start_keeps None h = refl
  start_keeps (Some (initialiser.Text bytes)) h = refl
  start_keeps (Some (initialiser.Pairs ps)) h = pairs_keep ps h

  function_body : (f : CFunction) → Keeping (uses_of_body (body_of f.body) (parameter_names f.prototype.parameters))
      (uses_of_body (body_of (body_renamed f.body (hiding (parameter_names f.prototype.parameters) r))) (parameter_names f.prototype.parameters))
  function_body f h =
      let hidden = parameter_names f.prototype.parameters in
      subst (λ b. list_all good (uses_of_body b hidden) ≡ true) (sym (body_as f.body (hiding hidden r)))
      (body_kept good r (hiding hidden r) hidden (first_hidden r hidden) (body_of f.body) h)

  pub item_keeps : (i : CItem) → list_all (λ name. good (r name)) (uses_of_item (item_of i)) ≡ true → list_all good (uses_of_item (item_of (item_renamed i r))) ≡ true
  item_keeps (item.Prototype p) h = refl
  item_keeps (item.Extern t name) h = refl
  item_keeps (item.Function f) h = function_body f h
  item_keeps (item.Variable v) h = start_keeps v.initialiser h

-- ---- placed items

pub record IsRenamed (p : Placed) : Type 0 where
  pub renaming : Renaming
  pub now : p.now ≡ item_renamed p.was renaming
  pub uses : p.uses ≡ map renaming (uses_of_item (item_of p.was))

pub data AllRenamed : List Placed → Type 0 where
  none : AllRenamed []
  more : (p : Placed) (ps : List Placed) → IsRenamed p → AllRenamed ps → AllRenamed (p ∷ ps)

renamed_items : (unit : ℕ) (names : Names) (items : List CItem) → AllRenamed (map (placed unit names) items)
renamed_items unit names [] = none
renamed_items unit names (i ∷ items) =
    more (placed unit names i) (map (placed unit names) items) (record { renaming = static_renaming unit names; now = refl; uses = refl }) (renamed_items unit names items)

both_renamed : (ps qs : List Placed) → AllRenamed ps → AllRenamed qs → AllRenamed (ps ++ qs)
both_renamed _ qs none b = b
both_renamed _ qs (more p ps i a) b = more p (ps ++ qs) i (both_renamed ps qs a b)

pub units_renamed : (n : ℕ) (units : List CUnit) → AllRenamed (placed_units n units)
units_renamed n [] = none
units_renamed n (u ∷ rest) =
    both_renamed (placed_items n u.items) (placed_units (suc n) rest) (renamed_items n (statics (items_of u.items)) u.items) (units_renamed (suc n) rest)
