-- Reading items with some constants, and with all, is alike.
use Rattle.std.proofs.Common.{◌≡◌, ℕ, Bool, true, false, List, [], Option, Some, None, refl, ap, ◌∙◌}
use Rattle.cc_whole_tokens.specs.declared.mark.Mark.TheVariants as mark
use Rattle.cc_whole.specs.declared.types.CConstant.{CConstant}
use Rattle.cc_whole.specs.declared.statement.CBody.{CBody}
use Rattle.cc_whole.specs.declared.unit.CPrototype.{CPrototype}
use Rattle.cc_whole.specs.declared.unit.CPair.{CPair}
use Rattle.cc_whole.specs.declared.unit.CInitialiser.{CInitialiser}
use Rattle.cc_whole.specs.declared.unit.CInitialiser.TheVariants as initialiser
use Rattle.cc_whole.specs.declared.unit.CItem.{CItem}
use Rattle.cc_whole.specs.declared.unit.CItem.TheVariants as item
use Rattle.cc_whole_reading.specs.declared.constants.Constants.{Constants}
use Rattle.cc_whole_reading.specs.Parse.{◌>>=◌, pure, past, sees_a, is_text, is_shared, goes_on, expect, end}
use Rattle.cc_whole_reading.specs.Constants.{keeps, constant}
use Rattle.cc_whole_reading.proofs.ConstantLaws.{all_kept}
use Rattle.cc_whole_reading.proofs.Alike.{Alike, AsTheyStand, alike_pure, alike_itself, alike_then, alike_next, alike_made, alike_if, alike_past, alike_sight, alike_either, alike_all, alike_separated, alike_constant}
use Rattle.cc_whole_read_types.specs.ReadTypes.{one_variable}
use Rattle.cc_whole_read_types.specs.declared.variable.Declared.{Declared}
use Rattle.cc_whole_read_types.proofs.VariableLaws.{alike_variable}
use Rattle.cc_whole_read_body.specs.ReadBody.{body}
use Rattle.cc_whole_read_body.proofs.AlikeBodies.{alike_body}
use Rattle.cc_whole_read_items.specs.ReadItems.{static_word, prototype, pair_function, pair_of, pair, some_pairs, string, pairs, values, start, prototype_line, extern_line, function_of, function, variable_of, variable_behind, variable, definition, declaration, unmarked, marked, one_item, items, whole}

abbrev pair_made : CConstant → Option (List ℕ) → CPair
pair_made c f = record { number = c; function = f }

abbrev function_made : Bool → CPrototype → CBody → CItem
function_made s p d = item.Function (record { is_shared = s; prototype = p; body = d })

abbrev variable_made : Bool → Bool → Declared → Option CInitialiser → CItem
variable_made s t d i = item.Variable (record { is_shared = s; is_static = t; ty = d.ty; name = d.name; initialiser = i })

module _ (wanted : Constants) where
  abbrev E : Type 0
  E = AsTheyStand wanted

  alike_pair : Alike E (pair (keeps wanted)) (pair all_kept)
  unfolding pair pair_of
  alike_pair =
      alike_next E (expect mark.LeftBrace) _ _ (λ u. alike_then E (constant (keeps wanted)) (constant all_kept) pair_of pair_of (alike_constant wanted) (λ c d e.
      alike_next E (expect mark.Comma) _ _ (λ v. alike_next E pair_function _ _ (λ f. alike_next E (expect mark.RightBrace) (λ w. pure (pair_made c f)) (λ w. pure (pair_made d f))
      (λ w. alike_pure E (pair_made c f) (pair_made d f) (λ x. ap (λ y. pair_made y f) (e x)))))))

  alike_pairs : Alike E (pairs (keeps wanted)) (pairs all_kept)
  unfolding pairs some_pairs
  alike_pairs =
      alike_next E (expect mark.LeftBrace) _ _ (λ u. alike_then E (some_pairs (keeps wanted)) (some_pairs all_kept) _ _
      (alike_separated E (pair (keeps wanted)) (pair all_kept) alike_pair) (λ ps qs e.
      alike_next E (expect mark.RightBrace) (λ v. pure (Some (initialiser.Pairs ps))) (λ v. pure (Some (initialiser.Pairs qs)))
      (λ v. alike_pure E (Some (initialiser.Pairs ps)) (Some (initialiser.Pairs qs)) (λ x. ap (λ y. Some (initialiser.Pairs y)) (e x)))))

  alike_start : Alike E (start (keeps wanted)) (start all_kept)
  unfolding start values
  alike_start =
      alike_sight E mark.Assign (values (keeps wanted)) (values all_kept) (pure None) (pure None)
      (alike_if E (sees_a is_text) string string (pairs (keeps wanted)) (pairs all_kept) (alike_itself E string) alike_pairs) (alike_itself E (pure None))

  alike_variable_of : (s t : Bool) (d f : Declared) → (E → f ≡ d) → Alike E (variable_of (keeps wanted) s t d) (variable_of all_kept s t f)
  unfolding variable_of
  alike_variable_of s t d f e =
      alike_then E (start (keeps wanted)) (start all_kept) (λ i. expect mark.Semicolon >>= (λ u. pure (variable_made s t d i))) (λ i. expect mark.Semicolon >>= (λ u. pure (variable_made s t f i)))
      alike_start (λ i j h. alike_next E (expect mark.Semicolon) (λ u. pure (variable_made s t d i)) (λ u. pure (variable_made s t f j))
      (λ u. alike_pure E (variable_made s t d i) (variable_made s t f j) (λ x. ap (λ y. variable_made s t y j) (e x) ∙ ap (variable_made s t d) (h x))))

  alike_variable_item : (s : Bool) → Alike E (variable (keeps wanted) s) (variable all_kept s)
  unfolding variable variable_behind
  alike_variable_item s =
      alike_next E static_word _ _ (λ t. alike_then E (one_variable (keeps wanted)) (one_variable all_kept) (λ d. variable_of (keeps wanted) s t d) (λ d. variable_of all_kept s t d)
      (alike_variable wanted) (alike_variable_of s t))

  alike_function : (n : ℕ) (s : Bool) → Alike E (function (keeps wanted) n s) (function all_kept n s)
  unfolding function function_of
  alike_function n s = alike_next E prototype _ _ (λ p. alike_made E (function_made s p) (body (keeps wanted) n) (body all_kept n) (alike_body wanted n))

  alike_definition : (n : ℕ) (s : Bool) → Alike E (definition (keeps wanted) n s) (definition all_kept n s)
  unfolding definition
  alike_definition n s =
      alike_either E (function (keeps wanted) n s) (function all_kept n s) (variable (keeps wanted) s) (variable all_kept s) (alike_function n s) (alike_variable_item s)

  alike_extern : Alike E (extern_line (keeps wanted)) (extern_line all_kept)
  unfolding extern_line
  alike_extern =
      alike_then E (one_variable (keeps wanted)) (one_variable all_kept) _ _ (alike_variable wanted) (λ d f e.
      alike_next E (expect mark.Semicolon) (λ u. pure (item.Extern d.ty d.name)) (λ u. pure (item.Extern f.ty f.name))
      (λ u. alike_pure E (item.Extern d.ty d.name) (item.Extern f.ty f.name) (λ x. ap (λ (y : Declared). item.Extern y.ty y.name) (e x))))

  alike_item : (n : ℕ) → Alike E (one_item (keeps wanted) n) (one_item all_kept n)
  unfolding one_item declaration marked unmarked
  alike_item n =
      alike_sight E mark.Extern (declaration (keeps wanted)) (declaration all_kept) (marked (keeps wanted) n) (marked all_kept n)
      (alike_either E prototype_line prototype_line (extern_line (keeps wanted)) (extern_line all_kept) (alike_itself E prototype_line) alike_extern)
      (alike_if E (sees_a is_shared) (past (definition (keeps wanted) n true)) (past (definition all_kept n true)) (unmarked (keeps wanted) n) (unmarked all_kept n)
      (alike_past E (definition (keeps wanted) n true) (definition all_kept n true) (alike_definition n true))
      (alike_either E (definition (keeps wanted) n false) (definition all_kept n false) prototype_line prototype_line (alike_definition n false) (alike_itself E prototype_line)))

  pub alike_whole : (n : ℕ) → Alike E (whole (keeps wanted) n) (whole all_kept n)
  unfolding whole
  alike_whole n =
      alike_then E (items (keeps wanted) n) (items all_kept n) (λ xs. end >>= (λ u. pure xs)) (λ xs. end >>= (λ u. pure xs))
      (alike_all E goes_on (one_item (keeps wanted) n) (one_item all_kept n) (alike_item n) [] [] (λ e. refl)) (λ xs ys e.
      alike_next E end (λ u. pure xs) (λ u. pure ys) (λ u. alike_pure E xs ys e))
