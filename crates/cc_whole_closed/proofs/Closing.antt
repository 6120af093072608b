-- What linking makes is closed.
use Rattle.std.proofs.Common.{◌≡◌, ℕ, Bool, true, false, not, ◌&&◌, ◌||◌, cond, List, [], ◌∷◌, ◌++◌, Option, Some, None, map, Result, Ok, Err, refl, ap, sym, subst, ◌∙◌}
use Rattle.std.specs.Prelude.{bytes_eq, codes}
use Rattle.std.specs.List.{list_any, list_all}
use Rattle.std.proofs.lemmas.Bool.{and_parts, and_from, true≢false}
use Rattle.std.proofs.lemmas.List.Folds.{list_any-append, list_all-append}
use Rattle.std.proofs.lemmas.Slice.Eq.{bytes_eq-Decides}
use Rattle.cc_whole.specs.declared.types.CType.TheVariants as ty
use Rattle.cc_whole.specs.declared.types.CLocalType.TheVariants as «local»
use Rattle.cc_whole.specs.declared.expression.CPlace.TheVariants as place
use Rattle.cc_whole.specs.declared.expression.CExpression.TheVariants as tree
use Rattle.cc_whole.specs.declared.statement.CLocal.{CLocal}
use Rattle.cc_whole.specs.declared.statement.CStatement.{CStatement}
use Rattle.cc_whole.specs.declared.statement.CStatement.TheVariants as statement
use Rattle.cc_whole.specs.declared.statement.CCallee.TheVariants as callee
use Rattle.cc_whole.specs.declared.unit.CItem.{CItem}
use Rattle.cc_whole.specs.declared.unit.CProgram.{CProgram}
use Rattle.cc_whole.specs.declared.unit.CUnit.{CUnit}
use Rattle.cc_whole.specs.Build.{made_body}
use Rattle.cc_whole.specs.Plain.{Item, load, by_name, call, give, item_of, items_of, statement_of, in_order, body_of}
use Rattle.cc_whole.specs.Known.{is_in, is_library}
use Rattle.cc_whole.specs.Uses.{use_of, uses_of_statement, uses_of_statements, uses_of_body, uses_of_item}
use Rattle.cc_whole.specs.ValidUnit.{is_static, defines_name, defined_in, uses_defined}
use Rattle.cc_whole_laws.proofs.Views.{of-Name, of-Load, of-Call, of-Return, of-made}
use Rattle.cc_whole_link.specs.Placed.{Placed, placed_units, its_name, old_name, defines_it, defines_named}
use Rattle.cc_whole_link.specs.Link.{Refusal, FirstBroken, is_the_main, kept_items, calls_of, added_main, with_main, Links, version, broken, linked}
use Rattle.cc_whole_closed.specs.Closed.{Closed}
use Rattle.cc_whole_closed.proofs.Items.{units_renamed}
use Rattle.cc_whole_closed.proofs.Uses.{Names, split, join}
use Rattle.cc_whole_closed.proofs.Kept.{or_left, or_right, all_defined, AllSound, all_sound, none_static, known_name, name_there, kept_uses}

abbrev main : List ℕ
main = codes "main"

abbrev inner_main : List ℕ
inner_main = codes "__main"

abbrev status : List ℕ
status = codes "status"

-- ---- with a `main` of its own

own_main : (all : List Placed) → AllSound all all → list_any is_the_main all ≡ true → Closed (items_of (kept_items [] all))
own_main all sound is = record {
  no_static = none_static all [] all sound;
  main = all_defined main all is;
  uses = kept_uses all (items_of (kept_items [] all)) (λ name d. all_defined name all d) [] all sound;
}

-- ---- with the added one

-- what is defined is defined among more
defined_more : (items more : List CItem) (name : List ℕ) → defined_in (items_of items) name ≡ true → defined_in (items_of (items ++ more)) name ≡ true
defined_more [] more name e = absurd (true≢false (sym e))
defined_more (i ∷ items) more name e = go (defined_more items more name) (defines_name name (item_of i)) e
  where
    go : (defined_in (items_of items) name ≡ true → defined_in (items_of (items ++ more)) name ≡ true) → (b : Bool) → (b || defined_in (items_of items) name) ≡ true
        → (b || defined_in (items_of (items ++ more)) name) ≡ true
    go again true f = refl
    go again false f = again f

defined_last : (items : List CItem) (i : CItem) (name : List ℕ) → defines_name name (item_of i) ≡ true → defined_in (items_of (items ++ i ∷ [])) name ≡ true
defined_last [] i name e = or_left (defines_name name (item_of i)) false e
defined_last (x ∷ items) i name e = or_right (defines_name name (item_of x)) (defined_in (items_of (items ++ i ∷ [])) name) (defined_last items i name e)

all_more : (p : Item → Bool) (items : List CItem) (i : CItem) → list_all p (items_of items) ≡ true → p (item_of i) ≡ true → list_all p (items_of (items ++ i ∷ [])) ≡ true
all_more p [] i e f = and_from (p (item_of i)) true f refl
all_more p (x ∷ items) i e f =
    let parts = and_parts (p (item_of x)) (list_all p (items_of items)) e in and_from (p (item_of x)) (list_all p (items_of (items ++ i ∷ []))) parts.0 (all_more p items i parts.1 f)

-- the test of what statements use
module _ (good : List ℕ → Bool) (hidden : Names) where
  abbrev uses_good : CStatement → Bool
  uses_good s = list_all good (uses_of_statement (statement_of s) hidden)

  statements_good : (ss : List CStatement) → list_all uses_good ss ≡ true → list_all good (uses_of_statements (in_order (map statement_of ss)) hidden) ≡ true
  statements_good [] e = refl
  statements_good (s ∷ ss) e =
      let parts = and_parts (uses_good s) (list_all uses_good ss) e in
      join good (uses_of_statement (statement_of s) hidden) (uses_of_statements (in_order (map statement_of ss)) hidden) parts.0 (statements_good ss parts.1)

  use_good : (name : List ℕ) → good name ≡ true → list_all good (use_of name hidden) ≡ true
  use_good name e = go (is_in hidden name)
    where
      go : (b : Bool) → list_all good (cond b [] (name ∷ [])) ≡ true
      go true = refl
      go false = and_from (good name) true e refl

  plain_call : (name : List ℕ) → good name ≡ true → uses_good (statement.Call None (callee.Name name) []) ≡ true
  plain_call name e =
      ap (λ s. list_all good (uses_of_statement s hidden)) (of-Call None (callee.Name name) [])
      ∙ join good (use_of name hidden) [] (use_good name e) refl

  call_good : (name : List ℕ) (p : Placed) (ps : List Placed) → (defines_it p ≡ true → good (its_name p) ≡ true) → list_all uses_good (calls_of name ps) ≡ true
      → (d : Bool) → defines_it p ≡ d → (b : Bool) → list_all uses_good (cond (d && b) (statement.Call None (callee.Name (its_name p)) [] ∷ calls_of name ps) (calls_of name ps)) ≡ true
  call_good name p ps own rest false is b = rest
  call_good name p ps own rest true is false = rest
  call_good name p ps own rest true is true =
      and_from (uses_good (statement.Call None (callee.Name (its_name p)) [])) (list_all uses_good (calls_of name ps)) (plain_call (its_name p) (own is)) rest

  calls_good : (name : List ℕ) (ps : List Placed) → ((n : List ℕ) → list_any (defines_named n) ps ≡ true → good n ≡ true) → list_all uses_good (calls_of name ps) ≡ true
  calls_good name [] h = refl
  calls_good name (p ∷ ps) h =
      call_good name p ps
      (λ d. h (its_name p) (or_left (defines_named (its_name p) p) (list_any (defines_named (its_name p)) ps)
      (and_from (defines_it p) (bytes_eq (its_name p) (its_name p)) d ((bytes_eq-Decides (its_name p) (its_name p)).1 refl))))
      (calls_good name ps (λ n e. h n (or_right (defines_named n p) (list_any (defines_named n) ps) e))) (defines_it p) refl (p.is_static && bytes_eq (old_name p) name)

  both_good : (ss ts : List CStatement) → list_all uses_good ss ≡ true → list_all uses_good ts ≡ true → list_all uses_good (ss ++ ts) ≡ true
  both_good ss ts e f = list_all-append uses_good ss ts ∙ and_from (list_all uses_good ss) (list_all uses_good ts) e f

-- `status = __main(); return status;`, where `status` is hidden
ending : (good : List ℕ → Bool) → good inner_main ≡ true
    → list_all (uses_good good (status ∷ []))
    (statement.Call (Some (place.Name status)) (callee.Name inner_main) [] ∷ statement.Return (Some (tree.Load (place.Name status))) ∷ []) ≡ true
ending good e =
    and_from (uses_good good (status ∷ []) (statement.Call (Some (place.Name status)) (callee.Name inner_main) [])) _
    (ap (λ s. list_all good (uses_of_statement s (status ∷ []))) (of-Call (Some (place.Name status)) (callee.Name inner_main) [])
    ∙ ap (λ p. list_all good (uses_of_statement (call (Some p) (by_name inner_main) []) (status ∷ []))) (of-Name status)
    ∙ and_from (good inner_main) true e refl)
    (and_from (uses_good good (status ∷ []) (statement.Return (Some (tree.Load (place.Name status))))) true
    (ap (λ s. list_all good (uses_of_statement s (status ∷ []))) (of-Return (Some (tree.Load (place.Name status))))
    ∙ ap (λ x. list_all good (uses_of_statement (give (Some x)) (status ∷ []))) (of-Load (place.Name status))
    ∙ ap (λ p. list_all good (uses_of_statement (give (Some (load p))) (status ∷ []))) (of-Name status))
    refl)

module _ (all : List Placed) (sound : AllSound all all) (there : list_any (defines_named inner_main) all ≡ true) where
  abbrev program : List CItem
  program = kept_items [] all ++ added_main all ∷ []

  holds : (name : List ℕ) → list_any (defines_named name) all ≡ true → defined_in (items_of program) name ≡ true
  holds name d = defined_more (kept_items [] all) (added_main all ∷ []) name (all_defined name all d)

  abbrev good : List ℕ → Bool
  good name = is_library name || defined_in (items_of program) name

  defined_good : (name : List ℕ) → list_any (defines_named name) all ≡ true → good name ≡ true
  defined_good name d = or_right (is_library name) (defined_in (items_of program) name) (holds name d)

  main_uses : uses_defined (items_of program) (item_of (added_main all)) ≡ true
  main_uses =
      let own : list_all (uses_good good (status ∷ []))
      (calls_of (codes "__hci") all ++ (calls_of (codes "__sti") all
      ++ (statement.Call (Some (place.Name status)) (callee.Name inner_main) [] ∷ statement.Return (Some (tree.Load (place.Name status))) ∷ []))) ≡ true =
      both_good good (status ∷ []) (calls_of (codes "__hci") all) _ (calls_good good (status ∷ []) (codes "__hci") all defined_good)
      (both_good good (status ∷ []) (calls_of (codes "__sti") all) _ (calls_good good (status ∷ []) (codes "__sti") all defined_good)
      (ending good (defined_good inner_main there))) in
      ap (λ b. list_all good (uses_of_body b [])) (of-made (record { ty = «local».Scalar ty.Int; name = status } ∷ []) _)
      ∙ statements_good good (status ∷ []) _ own

  added : Closed (items_of program)
  added = record {
    no_static = all_more (λ i. not (is_static i)) (kept_items [] all) (added_main all) (none_static all [] all sound) refl;
    main = defined_last (kept_items [] all) (added_main all) main refl;
    uses = all_more (uses_defined (items_of program)) (kept_items [] all) (added_main all) (kept_uses all (items_of program) holds [] all sound) main_uses;
  }

-- ---- programs

items_same : (p q : CProgram) → ◌≡◌ {A = Result CProgram Refusal} (Ok p) (Ok q) → q.items ≡ p.items
items_same p q e = let same : q ≡ p = cc in ap (λ (x : CProgram). x.items) same

made_closed : (all : List Placed) (program : CProgram) → AllSound all all → with_main all ≡ Ok program → Closed (items_of program.items)
made_closed all program sound e = go (list_any is_the_main all) refl (list_any (defines_named inner_main) all) refl e
  where
    go : (a : Bool) → list_any is_the_main all ≡ a → (b : Bool) → list_any (defines_named inner_main) all ≡ b
        → ◌≡◌ {A = Result CProgram Refusal} (cond a (Ok (record { items = kept_items [] all })) (cond b (Ok (record { items = kept_items [] all ++ added_main all ∷ [] })) (Err (record { rule = 4; name = inner_main })))) (Ok program)
        → Closed (items_of program.items)
    go true is b there f = subst (λ l. Closed (items_of l)) (sym (items_same (record { items = kept_items [] all }) program f)) (own_main all sound is)
    go false is true there f =
        subst (λ l. Closed (items_of l)) (sym (items_same (record { items = kept_items [] all ++ added_main all ∷ [] }) program f)) (added all sound there)
    go false is false there f = absurd (cc)

links_closed : (units : List CUnit) (r : Result CProgram Refusal) → Links units r → (program : CProgram) → r ≡ Ok program → Closed (items_of program.items)
links_closed units _ (version name v) program e = absurd (cc)
links_closed units _ (broken r v b) program e = absurd (cc)
links_closed units _ (linked v b) program e =
    let all = placed_units 1 units in made_closed all program (all_sound all [] all None b refl (units_renamed 1 units)) e

pub closed : (units : List CUnit) (program : CProgram) → Links units (Ok program) → Closed (items_of program.items)
closed units program l = links_closed units (Ok program) l program refl
