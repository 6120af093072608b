-- The program that the unit of a lowered file is linked to alone has its functions and variables, by their names there.
use Rattle.std.proofs.Common.{◌≡◌, Bool, true, false, not, ◌&&◌, ◌||◌, ◌==◌, cond, List, [], ◌∷◌, ◌++◌, map, Ok, refl, ap, sym, subst, ◌∙◌, inl, inr, append_assoc, append-nil}
use Rattle.std.specs.Prelude.{None, bytes_eq, codes}
use Rattle.std.specs.List.{flat_map, list_any}
use Rattle.std.proofs.lemmas.Bool.{true≢false}
use Rattle.std.proofs.lemmas.List.{map-append}
use Rattle.std.proofs.lemmas.List.Folds.{list_any-append}
use Rattle.cf_base.proofs.Tests.{both, all_of}
use Rattle.cf_core.specs.Types.{Name}
use Rattle.cf_core.specs.Classes.{Class}
use Rattle.cf_core.specs.Valid.{all_differ}
use Rattle.cf_plain.specs.Plain.{PlainFunction, PlainStatic, PlainFile}
use Rattle.cf_plain.specs.Named.{all_actions}
use Rattle.cc_whole.specs.declared.unit.CItem.{CItem}
use Rattle.cc_whole.specs.declared.unit.CProgram.{CProgram}
use Rattle.cc_whole.specs.declared.unit.CUnit.{CUnit}
use Rattle.cc_whole.specs.declared.unit.CVariable.{CVariable}
use Rattle.cc_whole.specs.Known.{is_in, is_helper, is_main}
use Rattle.cc_whole.specs.Plain.{Function, Statement, followed, body, in_order, Item, declares, defines, defines_variable, item_of, items_of, name_of, functions_of, variables_of}
use Rattle.cc_whole.specs.Valid.{is_definition}
use Rattle.cc_whole_link.specs.Rename.{Renaming, variable_renamed, item_renamed}
use Rattle.cc_whole_link.specs.Placed.{Placed, placed, placed_units, statics, static_renaming, longer, its_name, defines_it, is_shared_item}
use Rattle.cc_whole_link.specs.Link.{is_the_main, added_main, Links}
use Rattle.cc_whole_closed.proofs.Plains.{statement_with, statements_with}
use Rattle.cc_whole_registered.specs.Registered.{declares_atexit}
use Rattle.cf_lower.specs.Functions.{prototype, lowered_function, lowered_static, literals, owner_of, start_literals, library, constants_function}
use Rattle.cf_lower_program.specs.Lowerable.{is_none, Lowerable}
use Rattle.cf_lower_program.specs.Agrees.{IsLowered}
use Rattle.cc_whole_sections.specs.Sections.{In, Every, DefinedOnce}
use Rattle.cf_lower_valid.proofs.Inner.{mapped-in, every-mapped, every-append}
use Rattle.cf_lower_valid.proofs.Others.{mapped-from}
use Rattle.cf_lower_valid.proofs.Once.{Differ, differ-append, any-none, no-not, either-way, once-none, from-flat}
use Rattle.cf_lower_valid.proofs.Tests.{file_of, function-told, static-told}
use Rattle.cf_lower_valid.proofs.Definitions.{definitions-once}
use Rattle.cf_lower_valid.proofs.Starts.{stores}
use Rattle.cf_lower_calls.specs.Entered.Linked.{linked_function}
use Rattle.cf_lower_alone.specs.Linked.{named_file, linked_static, linked_literals, linked_starts, main_function, helpers_of, LinkedAlone}
use Rattle.cf_lower_alone.proofs.AloneLaws.Items.{items_with, items-as, name-as, definition-as, function_with, functions-append, variables-append, functions-with, variables-with, no-functions, no-variables, functions-only, variables-only, functions-without, variables-without}
use Rattle.cf_lower_alone.proofs.AloneLaws.Placed.{Stays as CStays, one-linked, OneLinked}
use Rattle.cf_lower_alone.proofs.AloneLaws.Once.{ItemsOnce, function-in, variable-in, functions-once, variables-once, across-once, one-once}
use Rattle.cf_lower_alone.proofs.AloneLaws.Statics.{Declared, library-declared, elsewhere-declared, own, other, variables, vars, functions, helper, lowered_items, every-item, static_names, function-foreign-name, object-foreign-name, function-literal, start-literal, literals-of, LiteralNamed}
use Rattle.cf_lower_alone.proofs.AloneLaws.Names.{in_C, foreign-plain, static-local, function-keeps, object-keeps, literal-shown, start-shown}
use Rattle.cf_lower_alone.proofs.AloneLaws.Functions.{function-there}
use Rattle.cf_lower_alone.proofs.AloneLaws.Main.{main-there}
use Rattle.cf_lower_alone.proofs.AloneLaws.Exits.{none-exits}
use Rattle.cf_lower_alone.proofs.AloneLaws.Variables.{map-both, function_there, variables-there}

-- ---- `main`

and-false : (a b : Bool) → b ≡ false → (a && b) ≡ false
and-false true b e = e
and-false false b e = refl

pub longer-no-main : (n : Name) → bytes_eq (longer 1 n) (codes "main") ≡ false
longer-no-main [] = refl
longer-no-main (a ∷ []) = and-false (a == 109) _ refl
longer-no-main (a ∷ b ∷ []) = and-false (a == 109) _ (and-false (b == 97) _ refl)
longer-no-main (a ∷ b ∷ c ∷ []) = and-false (a == 109) _ (and-false (b == 97) _ (and-false (c == 105) _ refl))
longer-no-main (a ∷ b ∷ c ∷ d ∷ []) = and-false (a == 109) _ (and-false (b == 97) _ (and-false (c == 105) _ (and-false (d == 110) _ refl)))
longer-no-main (a ∷ b ∷ c ∷ d ∷ e ∷ n) = and-false (a == 109) _ (and-false (b == 97) _ (and-false (c == 105) _ (and-false (d == 110) _ refl)))

renamed-no-main : (names : List Name) (n : Name) → is_main n ≡ false → bytes_eq (static_renaming 1 names n) (codes "main") ≡ false
renamed-no-main names n e = go (is_in names n)
  where
    go : (b : Bool) → bytes_eq (cond b (longer 1 n) n) (codes "main") ≡ false
    go true = longer-no-main n
    go false = e

abbrev NoMain : Item → Type 0
NoMain k = is_definition k ≡ true → is_main (name_of k) ≡ false

none-main : (names : List Name) (is : List CItem) → Every (λ i. NoMain (item_of i)) is → list_any is_the_main (map (placed 1 names) is) ≡ false
none-main names [] h = refl
none-main names (i ∷ is) h =
    ap (λ b. b || list_any is_the_main (map (placed 1 names) is)) (go (defines_it (placed 1 names i)) refl) ∙ none-main names is (λ y k. h y (inr k))
  where
    go : (d : Bool) → defines_it (placed 1 names i) ≡ d → (d && bytes_eq (its_name (placed 1 names i)) (codes "main")) ≡ false
    go false e = refl
    go true e =
        ap (λ n. bytes_eq n (codes "main")) (name-as i (static_renaming 1 names))
        ∙ renamed-no-main names (name_of (item_of i)) (h i (inl refl) (sym (definition-as i (static_renaming 1 names)) ∙ e))

map-twice : {A B C : Type 0} (g : B → C) (f : A → B) (xs : List A) → map g (map f xs) ≡ map (λ x. g (f x)) xs
map-twice g f [] = refl
map-twice g f (x ∷ xs) = ap (λ l. g (f x) ∷ l) (map-twice g f xs)

differ-tests : {A : Type 0} (n : A → Name) (xs : List A) → Differ n xs → all_differ (map n xs) ≡ true
differ-tests n [] d = refl
differ-tests n (x ∷ xs) d =
    all_of (not (list_any (bytes_eq (n x)) (map n xs))) (all_differ (map n xs))
    (ap not (any-none (bytes_eq (n x)) (map n xs) (every-mapped (λ y. bytes_eq (n x) y ≡ false) n xs d.0))) (differ-tests n xs d.1)

every-last : {A : Type 0} (P : A → Type 0) (x : A) → P x → Every P (x ∷ [])
every-last P x h y (inl e) = subst P e h
every-last P x h y (inr k) = absurd k

both-differ : (xs ys : List Name) → all_differ xs ≡ true → all_differ ys ≡ true → Every (λ x. Every (λ y. bytes_eq x y ≡ false) ys) xs → all_differ (xs ++ ys) ≡ true
both-differ [] ys d e h = e
both-differ (x ∷ xs) ys d e h =
    let two = both (not (list_any (bytes_eq x) xs)) (all_differ xs) d in
    all_of (not (list_any (bytes_eq x) (xs ++ ys))) (all_differ (xs ++ ys))
    (ap not (list_any-append (bytes_eq x) xs ys ∙ ap (λ b. b || list_any (bytes_eq x) ys) (no-not (list_any (bytes_eq x) xs) two.0) ∙ any-none (bytes_eq x) ys (h x (inl refl))))
    (both-differ xs ys two.1 e (λ y k. h y (inr k)))

-- the function that an item defines
abbrev function_in : Item → Function
function_in (defines f) = f
function_in i = main_function []

every-unmapped : {A B : Type 0} (P : B → Type 0) (f : A → B) (xs : List A) → Every P (map f xs) → Every (λ x. P (f x)) xs
every-unmapped P f xs h x k = h (f x) (mapped-in f x xs k)

module _ (fs : List PlainFunction) (xs : List PlainStatic) (low : Lowerable (file_of fs xs)) where
  abbrev file : PlainFile
  file = file_of fs xs

  abbrev S : List Name
  S = static_names fs xs low

  abbrev r : Renaming
  r = in_C fs xs low

  -- ---- what is asked of the items

  declared-no-main : (i : Item) → Declared i → NoMain i
  declared-no-main i d e = absurd (true≢false (sym e ∙ d.no_definition))

  literal-no-main : (v : CVariable) → LiteralNamed v → NoMain (defines_variable v)
  literal-no-main v l e = ap is_main l.is ∙ refl

  helper-no-main : (ss : List Statement) → Every NoMain (constants_function ss)
  helper-no-main [] i h = absurd h
  helper-no-main (s ∷ ss) i (inl e) = subst NoMain e (λ k. refl)
  helper-no-main (s ∷ ss) i (inr k) = absurd k

  items-no-main : Every NoMain (lowered_items fs xs low)
  items-no-main =
      every-item fs xs low NoMain (λ i h. declared-no-main i (library-declared i h))
      (every-mapped NoMain (λ (f : PlainFunction). declares (prototype f)) fs (λ f h e. (function-foreign-name fs xs low f h).no_main))
      (λ i h. declared-no-main i (elsewhere-declared fs xs low i h))
      (every-mapped NoMain defines_variable (variables fs xs low)
      (every-append (λ v. NoMain (defines_variable v)) (map (lowered_static []) xs ++ flat_map literals fs) (flat_map start_literals xs)
      (every-append (λ v. NoMain (defines_variable v)) (map (lowered_static []) xs) (flat_map literals fs)
      (every-mapped (λ v. NoMain (defines_variable v)) (lowered_static []) xs (λ x h e. (object-foreign-name fs xs low x h).no_main))
      (λ v h. literal-no-main v (function-literal fs xs low v h)))
      (λ v h. literal-no-main v (start-literal fs xs low v h))))
      (every-mapped NoMain (λ (f : PlainFunction). defines (lowered_function [] f)) fs (λ f h e. (function-foreign-name fs xs low f h).no_main))
      (helper-no-main (stores fs xs low))

  -- what is shared is not static
  abbrev Stays : Item → Type 0
  Stays k = is_shared_item k ≡ true → is_in S (name_of k) ≡ false

  declared-stays : (i : Item) → Declared i → Stays i
  declared-stays i d e = absurd (true≢false (sym e ∙ not-shared i d.no_definition))
    where
      not-shared : (i : Item) → is_definition i ≡ false → is_shared_item i ≡ false
      not-shared (Item.declares p) e = refl
      not-shared (Item.declares_variable t name) e = refl
      not-shared (Item.defines f) e = absurd (true≢false e)
      not-shared (Item.defines_variable v) e = absurd (true≢false e)

  apart : (s l : Bool) → (s && l) ≡ false → s ≡ true → l ≡ false
  apart true l e h = e
  apart false l e h = absurd (true≢false (sym h))

  function-stays : (f : PlainFunction) → In f fs → f.is_shared ≡ true → is_in S f.name ≡ false
  function-stays f h e =
      static-local fs xs low f.name (foreign-plain f.name (function-foreign-name fs xs low f h))
      ∙ function-keeps fs xs low f h (apart f.is_shared f.is_local (function-told fs xs low f h).shared e)

  object-stays : (x : PlainStatic) → In x xs → x.is_shared ≡ true → is_in S x.name ≡ false
  object-stays x h e =
      static-local fs xs low x.name (foreign-plain x.name (object-foreign-name fs xs low x h))
      ∙ object-keeps fs xs low x h (apart x.is_shared x.is_local (static-told fs xs low x h).shared e)

  text-stays : (v : CVariable) → In v (flat_map literals fs) → v.is_shared ≡ true → is_in S v.name ≡ false
  text-stays v h e =
      let f = from-flat literals fs v h in
      let l = literals-of f.one.name f.one.is_shared f.one.is_local (all_actions f.one.body) v f.gives in
      let hidden = apart f.one.is_shared f.one.is_local (function-told fs xs low f.one f.there).shared (sym l.shared ∙ e) in
      ap (is_in S) l.named ∙ literal-shown fs xs low f.one l.number v f.there f.gives l.named (l.static ∙ hidden)

  start-stays : (v : CVariable) → In v (flat_map start_literals xs) → v.is_shared ≡ true → is_in S v.name ≡ false
  start-stays v h e =
      let x = from-flat start_literals xs v h in
      let l = literals-of (owner_of x.one) x.one.is_shared (x.one.is_local || not x.one.is_shared) (all_actions x.one.start) v x.gives in
      let shared : x.one.is_shared ≡ true = sym l.shared ∙ e in
      let hidden : x.one.is_local ≡ false = apart x.one.is_shared x.one.is_local (static-told fs xs low x.one x.there).shared shared in
      start-shown fs xs low v h (l.static ∙ ap (λ b. b || not x.one.is_shared) hidden ∙ ap not shared)

  helper-stays : (ss : List Statement) → Every Stays (constants_function ss)
  helper-stays [] i h = absurd h
  helper-stays (s ∷ ss) i (inl e) = subst Stays e (λ k. absurd (true≢false (sym k)))
  helper-stays (s ∷ ss) i (inr k) = absurd k

  items-stay : Every Stays (lowered_items fs xs low)
  items-stay =
      every-item fs xs low Stays (λ i h. declared-stays i (library-declared i h))
      (every-mapped Stays (λ (f : PlainFunction). declares (prototype f)) fs (λ f h e. absurd (true≢false (sym e))))
      (λ i h. declared-stays i (elsewhere-declared fs xs low i h))
      (every-mapped Stays defines_variable (variables fs xs low)
      (every-append (λ v. Stays (defines_variable v)) (map (lowered_static []) xs ++ flat_map literals fs) (flat_map start_literals xs)
      (every-append (λ v. Stays (defines_variable v)) (map (lowered_static []) xs) (flat_map literals fs)
      (every-mapped (λ v. Stays (defines_variable v)) (lowered_static []) xs object-stays) text-stays) start-stays))
      (every-mapped Stays (λ (f : PlainFunction). defines (lowered_function [] f)) fs function-stays) (helper-stays (stores fs xs low))

  -- ---- each name is defined once

  abbrev declared : List Item
  declared = library ++ own fs xs low ++ other fs xs low

  none-defined : Every (λ i. is_definition i ≡ false) declared
  none-defined =
      every-append (λ i. is_definition i ≡ false) (library ++ own fs xs low) (other fs xs low)
      (every-append (λ i. is_definition i ≡ false) library (own fs xs low) (λ i h. (library-declared i h).no_definition)
      (every-mapped (λ i. is_definition i ≡ false) (λ (f : PlainFunction). declares (prototype f)) fs (λ f h. refl)))
      (λ i h. (elsewhere-declared fs xs low i h).no_definition)

  items-once : DefinedOnce (lowered_items fs xs low) []
  items-once =
      let V : List Item = vars fs xs low in
      let F : List Item = functions fs xs low in
      let H : List Item = helper fs xs low in
      subst (λ is. DefinedOnce is []) (sym (append_assoc (declared ++ V) F H ∙ append_assoc declared V (F ++ H)))
      (once-none declared (V ++ (F ++ H)) [] none-defined (definitions-once fs xs low (stores fs xs low)))

  -- ---- the functions and variables of the unit

  abbrev helpers_of_unit : List Function
  helpers_of_unit = functions_of (helper fs xs low)

  functions-there : functions_of (lowered_items fs xs low) ≡ map (lowered_function []) fs ++ helpers_of_unit
  functions-there =
      let V : List Item = vars fs xs low in
      let F : List Item = functions fs xs low in
      let H : List Item = helper fs xs low in
      functions-append (declared ++ V ++ F) H
      ∙ ap (λ l. l ++ functions_of H)
      (functions-append (declared ++ V) F ∙ ap (λ l. l ++ functions_of F) (functions-append declared V)
      ∙ ap (λ l. l ++ functions_of V ++ functions_of F) (no-functions declared none-defined)
      ∙ ap (λ l. l ++ functions_of F) (functions-without (variables fs xs low)) ∙ functions-only (lowered_function []) fs)

  helper-variables : (ss : List Statement) → variables_of (constants_function ss) ≡ []
  helper-variables [] = refl
  helper-variables (s ∷ ss) = refl

  variables-of-unit : variables_of (lowered_items fs xs low) ≡ variables fs xs low
  variables-of-unit =
      let V : List Item = vars fs xs low in
      let F : List Item = functions fs xs low in
      let H : List Item = helper fs xs low in
      variables-append (declared ++ V ++ F) H
      ∙ ap (λ l. variables_of (declared ++ V ++ F) ++ l) (helper-variables (stores fs xs low)) ∙ append-nil (variables_of (declared ++ V ++ F))
      ∙ variables-append (declared ++ V) F ∙ ap (λ l. variables_of (declared ++ V) ++ l) (variables-without (lowered_function []) fs)
      ∙ append-nil (variables_of (declared ++ V)) ∙ variables-append declared V ∙ ap (λ l. l ++ variables_of V) (no-variables declared none-defined)
      ∙ variables-only (variables fs xs low)

  -- ---- in the program

  abbrev with_names : Function → Function
  with_names f = function_with f r

  helpers-named : (ss : List Statement) → Every (λ (f : Function). is_helper f.prototype.name ≡ true) (map with_names (functions_of (constants_function ss)))
  helpers-named [] f h = absurd h
  helpers-named (s ∷ ss) f (inl e) = subst (λ (f : Function). is_helper f.prototype.name ≡ true) e (go (is_in S (codes "__hci")))
    where
      go : (b : Bool) → is_helper (cond b (longer 1 (codes "__hci")) (codes "__hci")) ≡ true
      go true = refl
      go false = refl
  helpers-named (s ∷ ss) f (inr k) = absurd k

  in-order-stored : (ss : List Statement) → statements_with (in_order ss) r ≡ in_order (map (λ (x : Statement). statement_with x r) ss)
  in-order-stored [] = refl
  in-order-stored (s ∷ ss) = ap (followed (statement_with s r)) (in-order-stored ss)

  helpers-stored : (ss : List Statement) → map with_names (functions_of (constants_function ss)) ≡ helpers_of r ss
  helpers-stored [] = refl
  helpers-stored (s ∷ ss) =
      ap (λ b. record {
        is_shared = false;
        prototype = record { is_static = false; result = None; name = r (codes "__hci"); parameters = [] };
        body = body [] b;
      } ∷ []) (in-order-stored (s ∷ ss))

  abbrev placed_all : CUnit → List Placed
  placed_all u = placed_units 1 (u ∷ [])

  -- the items of the program
  items-there : (u : CUnit) (program : CProgram) → items_of u.items ≡ lowered_items fs xs low → OneLinked u program
      → items_of program.items ≡ items_with r (lowered_items fs xs low) ++ item_of (added_main (placed_all u)) ∷ []
  items-there u program e w =
      ap items_of w.items
      ∙ map-append item_of (map (λ i. item_renamed i (static_renaming 1 (statics (items_of u.items)))) u.items) (added_main (placed_all u) ∷ [])
      ∙ ap (λ l. l ++ item_of (added_main (placed_all u)) ∷ [])
      (items-as u.items (static_renaming 1 (statics (items_of u.items))) ∙ ap (λ is. items_with (static_renaming 1 (statics is)) is) e)

  module _ (u : CUnit) (program : CProgram) (e : items_of u.items ≡ lowered_items fs xs low) (w : OneLinked u program) where
    abbrev main : Function
    main = function_in (item_of (added_main (placed_all u)))

    all-functions : functions_of (items_of program.items) ≡ map (linked_function []) (named_file file).functions ++ map with_names helpers_of_unit ++ main ∷ []
    all-functions =
        ap functions_of (items-there u program e w) ∙ functions-append (items_with r (lowered_items fs xs low)) (item_of (added_main (placed_all u)) ∷ [])
        ∙ ap (λ l. l ++ main ∷ [])
        (functions-with r (lowered_items fs xs low) ∙ ap (map with_names) functions-there ∙ map-append with_names (map (lowered_function []) fs) helpers_of_unit
        ∙ ap (λ l. l ++ map with_names helpers_of_unit)
        (map-both with_names (lowered_function []) (linked_function []) (function_there fs xs low) fs (λ f h. function-there fs xs low f h)))

    all-variables : variables_of (items_of program.items)
        ≡ map linked_static (named_file file).statics ++ flat_map linked_literals (named_file file).functions ++ linked_starts file
    all-variables =
        ap variables_of (items-there u program e w) ∙ variables-append (items_with r (lowered_items fs xs low)) (item_of (added_main (placed_all u)) ∷ [])
        ∙ append-nil (variables_of (items_with r (lowered_items fs xs low))) ∙ variables-with r (lowered_items fs xs low)
        ∙ ap (map (λ v. variable_renamed v r)) variables-of-unit ∙ variables-there fs xs low

  -- ---- each name is defined once in the program

  module _ (u : CUnit) (program : CProgram) (w : OneLinked u program) (stay : Every (CStays (statics (items_of u.items))) u.items)
      (once : DefinedOnce (items_of u.items) []) (no : Every (λ i. NoMain (item_of i)) u.items) (links : Links (u ∷ []) (Ok program)) where
    abbrev r1 : Renaming
    r1 = static_renaming 1 (statics (items_of u.items))

    abbrev now : CItem → Item
    now i = item_of (item_renamed i r1)

    abbrev X : List Item
    X = map now u.items

    abbrev last : Function
    last = function_in (item_of (added_main (placed_all u)))

    items-now : items_of program.items ≡ X ++ defines last ∷ []
    items-now =
        ap items_of w.items ∙ map-append item_of (map (λ i. item_renamed i r1) u.items) (added_main (placed_all u) ∷ [])
        ∙ ap (λ l. l ++ defines last ∷ []) (map-twice item_of (λ i. item_renamed i r1) u.items)

    each-once : ItemsOnce X
    each-once = one-once u program stay once links

    none-last : (i : Item) → In i X → is_definition i ≡ true → bytes_eq (name_of i) (codes "main") ≡ false
    none-last i h d =
        let m = mapped-from now u.items i h in
        ap (λ i. bytes_eq (name_of i) (codes "main")) (sym m.is) ∙ ap (λ n. bytes_eq n (codes "main")) (name-as m.one r1)
        ∙ renamed-no-main (statics (items_of u.items)) (name_of (item_of m.one)) (no m.one m.there (sym (definition-as m.one r1) ∙ ap is_definition m.is ∙ d))

    names-once : all_differ
        (map (λ (f : Function). f.prototype.name) (functions_of (items_of program.items)) ++ map (λ (v : CVariable). v.name) (variables_of (items_of program.items))) ≡ true
    names-once =
        let fs : List Function = functions_of X in
        let vs : List CVariable = variables_of X in
        let name : Function → Name = λ f. f.prototype.name in
        let own : CVariable → Name = λ v. v.name in
        ap (λ is. all_differ (map name (functions_of is) ++ map own (variables_of is))) items-now
        ∙ ap (λ l. all_differ (map name l ++ map own (variables_of (X ++ defines last ∷ [])))) (functions-append X (defines last ∷ []))
        ∙ ap (λ l. all_differ (map name (fs ++ last ∷ []) ++ map own l)) (variables-append X (defines last ∷ []) ∙ append-nil vs)
        ∙ both-differ (map name (fs ++ last ∷ [])) (map own vs)
        (differ-tests name (fs ++ last ∷ [])
        (differ-append name fs (last ∷ []) (functions-once X each-once) (λ g k. absurd k, tt)
        (λ f h. every-last (λ g. bytes_eq (name f) (name g) ≡ false) last (none-last (defines f) (function-in X f h) refl))))
        (differ-tests own vs (variables-once X each-once))
        (every-mapped (λ a. Every (λ b. bytes_eq a b ≡ false) (map own vs)) name (fs ++ last ∷ [])
        (every-append (λ f. Every (λ b. bytes_eq (name f) b ≡ false) (map own vs)) fs (last ∷ [])
        (λ f h. every-mapped (λ b. bytes_eq (name f) b ≡ false) own vs (λ v k. across-once X each-once f h v k))
        (every-last (λ f. Every (λ b. bytes_eq (name f) b ≡ false) (map own vs)) last
        (every-mapped (λ b. bytes_eq (codes "main") b ≡ false) own vs
        (λ v k. either-way v.name (codes "main") (none-last (defines_variable v) (variable-in X v k) refl))))))

  abbrev StaysIn : List Name → Item → Type 0
  StaysIn names k = is_shared_item k ≡ true → is_in names (name_of k) ≡ false

  pub unit-alone : (u : CUnit) (program : CProgram) → IsLowered file u → Links (u ∷ []) (Ok program) → LinkedAlone file program
  unit-alone u program low-unit links =
      let e : items_of u.items ≡ lowered_items fs xs low = low-unit.items in
      let stay : Every (StaysIn (statics (items_of u.items))) (items_of u.items) = subst (λ is. Every (StaysIn (statics is)) is) (sym e) items-stay in
      let no : Every NoMain (items_of u.items) = subst (Every NoMain) (sym e) items-no-main in
      let once : DefinedOnce (items_of u.items) [] = subst (λ is. DefinedOnce is []) (sym e) items-once in
      let w : OneLinked u program = one-linked u program (every-unmapped (StaysIn (statics (items_of u.items))) item_of u.items stay) once
      (none-main (statics (items_of u.items)) u.items (every-unmapped NoMain item_of u.items no)) links in
      record {
        helpers = map with_names helpers_of_unit;
        functions = all-functions u program e w
            ∙ ap (λ m. map (linked_function []) (named_file file).functions ++ map with_names helpers_of_unit ++ m ∷ []) (ap function_in (main-there fs xs low u e));
        variables = all-variables u program e w;
        helpers_named = helpers-named (stores fs xs low);
        once = names-once u program w (every-unmapped (StaysIn (statics (items_of u.items))) item_of u.items stay) once (every-unmapped NoMain item_of u.items no) links;
        stored = helpers-stored (stores fs xs low);
        no_exit = ap declares_atexit (items-there u program e w)
            ∙ none-exits fs xs low (item_of (added_main (placed_all u))) (ap (λ i. bytes_eq (name_of i) (codes "atexit")) (main-there fs xs low u e));
      }

-- ---- of any file, which has no classes

no-classes : (cs : List Class) → is_none cs ≡ true → [] ≡ cs
no-classes [] e = refl
no-classes (c ∷ cs) e = absurd (true≢false (sym e))

pub linked-alone : (file : PlainFile) (u : CUnit) (program : CProgram) → Lowerable file → IsLowered file u → Links (u ∷ []) (Ok program) → LinkedAlone file program
linked-alone file u program low =
    let with_classes : List Class → PlainFile = λ cs. record { classes = cs; functions = file.functions; statics = file.statics } in
    subst (λ cs. Lowerable (with_classes cs) → IsLowered (with_classes cs) u → Links (u ∷ []) (Ok program) → LinkedAlone (with_classes cs) program)
    (no-classes file.classes low.no_classes)
    (λ low is links. unit-alone file.functions file.statics low u program is links) low
