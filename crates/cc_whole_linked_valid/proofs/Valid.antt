-- What linking makes of valid units is valid.
use Rattle.std.proofs.Common.{◌≡◌, Bool, true, false, not, cond, List, [], ◌∷◌, ◌++◌, None, Result, Ok, Err, refl, ap, subst, append-nil}
use Rattle.std.specs.Prelude.{codes}
use Rattle.std.specs.List.{list_any, list_all}
use Rattle.std.proofs.lemmas.Bool.{and_from}
use Rattle.cc_whole.specs.declared.unit.CItem.{CItem}
use Rattle.cc_whole.specs.declared.unit.CUnit.{CUnit}
use Rattle.cc_whole.specs.declared.unit.CProgram.{CProgram}
use Rattle.cc_whole.specs.Plain.{items_of}
use Rattle.cc_whole.specs.Fault.{fine}
use Rattle.cc_whole.specs.Spellable.{spellable_items}
use Rattle.cc_whole.specs.Valid.{first_fault}
use Rattle.cc_whole.specs.ValidUnit.{is_static, keeps, defined_in, uses_defined, valid_items, valid_unit, valid_program}
use Rattle.cc_whole_link.specs.Placed.{Placed, placed_units, defines_named}
use Rattle.cc_whole_link.specs.Link.{Refusal, FirstBroken, is_the_main, kept_items, added_main, with_main, Links, version, broken, linked}
use Rattle.cc_whole_closed.specs.Closed.{Closed}
use Rattle.cc_whole_linked_valid.proofs.Main.{added_fine}
use Rattle.cc_whole_linked_valid.proofs.Walk.{rules_kept}
use Rattle.cc_whole_linked_valid.proofs.Spelled.{spelled, added_spelled}

both_valid : (items : List CItem) → spellable_items (items_of items) ≡ true → first_fault (items_of items) ≡ fine → valid_items (items_of items) ≡ true
both_valid items s e = and_from (spellable_items (items_of items)) (keeps (first_fault (items_of items))) s (ap keeps e)

module _ (units : List CUnit) (valid : list_all valid_unit units ≡ true) (f : FirstBroken (placed_units 1 units) [] (placed_units 1 units) None) where
  abbrev all : List Placed
  all = placed_units 1 units

  own_valid : valid_items (items_of (kept_items [] all)) ≡ true
  own_valid =
      subst (λ l. valid_items (items_of l) ≡ true) (append-nil (kept_items [] all))
      (both_valid (kept_items [] all ++ []) (spelled units [] valid refl) (rules_kept units [] valid f (λ names defined h p. refl)))

  added_valid : list_any is_the_main all ≡ false → list_any (defines_named (codes "__main")) all ≡ true → valid_items (items_of (kept_items [] all ++ added_main all ∷ [])) ≡ true
  added_valid none there =
      both_valid (kept_items [] all ++ added_main all ∷ []) (spelled units (added_main all ∷ []) valid (added_spelled all))
      (rules_kept units (added_main all ∷ []) valid f (λ names defined h p. added_fine all names defined h p none there))

  items_same : (p q : CProgram) → ◌≡◌ {A = Result CProgram Refusal} (Ok p) (Ok q) → p.items ≡ q.items
  items_same p q e = let same : p ≡ q = cc in ap (λ (x : CProgram). x.items) same

  made_valid : (program : CProgram) → with_main all ≡ Ok program → valid_items (items_of program.items) ≡ true
  made_valid program e = go (list_any is_the_main all) refl (list_any (defines_named (codes "__main")) all) refl e
    where
      go : (a : Bool) → list_any is_the_main all ≡ a → (b : Bool) → list_any (defines_named (codes "__main")) all ≡ b
          → ◌≡◌ {A = Result CProgram Refusal} (cond a (Ok (record { items = kept_items [] all })) (cond b (Ok (record { items = kept_items [] all ++ added_main all ∷ [] })) (Err (record { rule = 4; name = codes "__main" })))) (Ok program)
          → valid_items (items_of program.items) ≡ true
      go true is b there g = subst (λ l. valid_items (items_of l) ≡ true) (items_same (record { items = kept_items [] all }) program g) own_valid
      go false is true there g =
          subst (λ l. valid_items (items_of l) ≡ true) (items_same (record { items = kept_items [] all ++ added_main all ∷ [] }) program g) (added_valid is there)
      go false is false there g = absurd (cc)

links_valid : (units : List CUnit) (r : Result CProgram Refusal) → list_all valid_unit units ≡ true → Links units r → (program : CProgram) → r ≡ Ok program
    → valid_items (items_of program.items) ≡ true
links_valid units _ valid (version name v) program e = absurd (cc)
links_valid units _ valid (broken r v b) program e = absurd (cc)
links_valid units _ valid (linked v b) program e = made_valid units valid b program e

pub program_valid : (units : List CUnit) (program : CProgram) → list_all valid_unit units ≡ true → Links units (Ok program) → Closed (items_of program.items)
    → valid_program program ≡ true
program_valid units program valid l c =
    let items = items_of program.items in
    and_from (valid_items items) _ (links_valid units (Ok program) valid l program refl)
    (and_from (list_all (λ i. not (is_static i)) items) _ c.no_static (and_from (defined_in items (codes "main")) (list_all (uses_defined items) items) c.main c.uses))
