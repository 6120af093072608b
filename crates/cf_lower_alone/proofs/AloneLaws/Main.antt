-- The `main` that linking adds to one lowered file calls what is before it, and `__main`.
use Rattle.std.proofs.Common.{◌≡◌, ℕ, Bool, true, false, ◌&&◌, cond, List, [], ◌∷◌, ◌++◌, map, refl, ap, sym, ◌∙◌, inl, inr, append-nil}
use Rattle.std.specs.Prelude.{Some, None, bytes_eq, codes}
use Rattle.std.specs.List.{flat_map}
use Rattle.std.proofs.lemmas.Bool.{true≢false}
use Rattle.std.proofs.lemmas.List.{map-append}
use Rattle.cf_base.proofs.Tests.{both}
use Rattle.cf_core.specs.Types.{Name}
use Rattle.cf_plain.specs.Plain.{PlainFunction, PlainStatic}
use Rattle.cc_whole.specs.declared.types.CType.TheVariants as ty
use Rattle.cc_whole.specs.declared.types.CLocalType.TheVariants as «local»
use Rattle.cc_whole.specs.declared.expression.CPlace.TheVariants as place
use Rattle.cc_whole.specs.declared.expression.CExpression.TheVariants as tree
use Rattle.cc_whole.specs.declared.statement.CLocal.{CLocal}
use Rattle.cc_whole.specs.declared.statement.CStatement.{CStatement}
use Rattle.cc_whole.specs.declared.statement.CStatement.TheVariants as statement
use Rattle.cc_whole.specs.declared.statement.CCallee.TheVariants as callee
use Rattle.cc_whole.specs.declared.unit.CItem.{CItem}
use Rattle.cc_whole.specs.declared.unit.CUnit.{CUnit}
use Rattle.cc_whole.specs.declared.unit.CVariable.{CVariable}
use Rattle.cc_whole.specs.Known.{is_in, is_helper}
use Rattle.cc_whole.specs.Plain.{Function, Statement, Item, declares, defines, defines_variable, item_of, items_of, name_of, functions_of, by_name, named, load, call, give, statement_of, Body, body, in_order}
use Rattle.cc_whole.specs.Valid.{is_definition}
use Rattle.cc_whole_laws.proofs.Views.{of-Name, of-Load, of-Call, of-Return, of-made}
use Rattle.cc_whole_link.specs.Rename.{Renaming}
use Rattle.cc_whole_link.specs.Placed.{Placed, placed, placed_units, statics, static_renaming, its_name}
use Rattle.cc_whole_link.specs.Link.{calls_of, added_main}
use Rattle.cf_lower.specs.Written.{literal_name}
use Rattle.cf_lower.specs.Functions.{prototype, lowered_function, lowered_static, literals, start_literals, library, constants_function}
use Rattle.cf_lower_program.specs.Names.{is_own_name, is_foreign, is_function_name, is_object_name}
use Rattle.cf_lower_program.specs.Lowerable.{Lowerable}
use Rattle.cc_whole_sections.specs.Sections.{In, Every}
use Rattle.cc_whole_sections.proofs.Names.{in-right}
use Rattle.cf_lower_valid.proofs.Inner.{every-mapped, every-append}
use Rattle.cf_lower_valid.proofs.Once.{told-apart, either-way, no-not}
use Rattle.cf_lower_valid.proofs.Tests.{file_of, names-told}
use Rattle.cf_lower_valid.proofs.Naming.{foreign-parts, literal-own}
use Rattle.cf_lower_valid.proofs.Starts.{stores}
use Rattle.cf_lower_alone.specs.Linked.{calls_of_helpers, main_function}
use Rattle.cf_lower_alone.proofs.AloneLaws.Items.{name-as, definition-as, function_with, static-there}
use Rattle.cf_lower_alone.proofs.AloneLaws.Statics.{LiteralNamed, own, other, variables, vars, functions, helper, lowered_items, static_names, library-declared, elsewhere-declared, function-foreign-name, object-foreign-name, function-literal, start-literal}

-- ---- calls of placed items

module _ (names : List Name) (name : Name) where
  abbrev r : Renaming
  r = static_renaming 1 names

  abbrev IsCalled : Item → Bool
  IsCalled i = is_definition i && (is_in names (name_of i) && bytes_eq (name_of i) name)

  abbrev pub plain_calls : List Item → List Statement
  plain_calls [] = []
  plain_calls (i ∷ is) = cond (IsCalled i) (call None (by_name (r (name_of i))) [] ∷ plain_calls is) (plain_calls is)

  calls-as : (is : List CItem) → map statement_of (calls_of name (map (placed 1 names) is)) ≡ plain_calls (items_of is)
  calls-as [] = refl
  calls-as (i ∷ is) =
      ap (λ d. map statement_of (cond (d && (is_in names (name_of (item_of i)) && bytes_eq (name_of (item_of i)) name))
      (statement.Call None (callee.Name (its_name (placed 1 names i))) [] ∷ calls_of name (map (placed 1 names) is)) (calls_of name (map (placed 1 names) is)))) (definition-as i r)
      ∙ go (IsCalled (item_of i)) (calls-as is)
    where
      go : (b : Bool) → map statement_of (calls_of name (map (placed 1 names) is)) ≡ plain_calls (items_of is)
          → map statement_of (cond b (statement.Call None (callee.Name (its_name (placed 1 names i))) [] ∷ calls_of name (map (placed 1 names) is)) (calls_of name (map (placed 1 names) is)))
          ≡ cond b (call None (by_name (r (name_of (item_of i)))) [] ∷ plain_calls (items_of is)) (plain_calls (items_of is))
      go false e = e
      go true e =
          ap (λ s. s ∷ map statement_of (calls_of name (map (placed 1 names) is))) (of-Call None (callee.Name (its_name (placed 1 names i))) [])
          ∙ ap (λ n. call None (by_name n) [] ∷ map statement_of (calls_of name (map (placed 1 names) is))) (name-as i r)
          ∙ ap (λ l. call None (by_name (r (name_of (item_of i)))) [] ∷ l) e

  calls-append : (xs ys : List Item) → plain_calls (xs ++ ys) ≡ plain_calls xs ++ plain_calls ys
  calls-append [] ys = refl
  calls-append (i ∷ xs) ys = go (IsCalled i) (calls-append xs ys)
    where
      go : (b : Bool) → plain_calls (xs ++ ys) ≡ plain_calls xs ++ plain_calls ys
          → cond b (call None (by_name (r (name_of i))) [] ∷ plain_calls (xs ++ ys)) (plain_calls (xs ++ ys))
          ≡ cond b (call None (by_name (r (name_of i))) [] ∷ plain_calls xs) (plain_calls xs) ++ plain_calls ys
      go true e = ap (λ l. call None (by_name (r (name_of i))) [] ∷ l) e
      go false e = e

  abbrev NotCalled : Item → Type 0
  NotCalled i = is_definition i ≡ true → bytes_eq (name_of i) name ≡ false

  not-called : (is : List Item) → Every NotCalled is → plain_calls is ≡ []
  not-called [] h = refl
  not-called (i ∷ is) h =
      ap (λ b. cond b (call None (by_name (r (name_of i))) [] ∷ plain_calls is) (plain_calls is)) (go (is_definition i) (is_in names (name_of i)) (h i (inl refl)))
      ∙ not-called is (λ j k. h j (inr k))
    where
      and-false : (a : Bool) → (a && false) ≡ false
      and-false true = refl
      and-false false = refl

      go : (d s : Bool) → (d ≡ true → bytes_eq (name_of i) name ≡ false) → (d && (s && bytes_eq (name_of i) name)) ≡ false
      go false s e = refl
      go true s e = ap (λ b. s && b) (e refl) ∙ and-false s

-- ---- of a lowered file

module _ (fs : List PlainFunction) (xs : List PlainStatic) (low : Lowerable (file_of fs xs)) where
  abbrev S : List Name
  S = static_names fs xs low

  abbrev declared : List Item
  declared = library ++ own fs xs low ++ other fs xs low

  -- what is called by this name, which no function and object of the source has
  module _ (name : Name) (function : Every (λ (f : PlainFunction). bytes_eq f.name name ≡ false) fs) (object : Every (λ (x : PlainStatic). bytes_eq x.name name ≡ false) xs)
      (text : (f : Name) (j : ℕ) → bytes_eq (literal_name f j) name ≡ false) where
    abbrev calls : List Item → List Statement
    calls is = plain_calls S name is

    declared-none : calls declared ≡ []
    declared-none =
        not-called S name declared
        (every-append (NotCalled S name) (library ++ own fs xs low) (other fs xs low)
        (every-append (NotCalled S name) library (own fs xs low) (λ i h d. absurd (true≢false (sym d ∙ (library-declared i h).no_definition)))
        (every-mapped (NotCalled S name) (λ (f : PlainFunction). declares (prototype f)) fs (λ f h d. absurd (true≢false (sym d)))))
        (λ i h d. absurd (true≢false (sym d ∙ (elsewhere-declared fs xs low i h).no_definition))))

    literal-none : (v : CVariable) → LiteralNamed v → bytes_eq v.name name ≡ false
    literal-none v l = ap (λ n. bytes_eq n name) l.is ∙ text l.owner l.number

    variables-none : calls (vars fs xs low) ≡ []
    variables-none =
        not-called S name (vars fs xs low)
        (every-mapped (NotCalled S name) defines_variable (variables fs xs low)
        (every-append (λ v. NotCalled S name (defines_variable v)) (map (lowered_static []) xs ++ flat_map literals fs) (flat_map start_literals xs)
        (every-append (λ v. NotCalled S name (defines_variable v)) (map (lowered_static []) xs) (flat_map literals fs)
        (every-mapped (λ v. NotCalled S name (defines_variable v)) (lowered_static []) xs (λ x h d. object x h))
        (λ v h d. literal-none v (function-literal fs xs low v h)))
        (λ v h d. literal-none v (start-literal fs xs low v h))))

    functions-none : calls (functions fs xs low) ≡ []
    functions-none =
        not-called S name (functions fs xs low)
        (every-mapped (NotCalled S name) (λ (f : PlainFunction). defines (lowered_function [] f)) fs (λ f h d. function f h))

    -- what is left is the helper's
    calls-left : calls (lowered_items fs xs low) ≡ calls (helper fs xs low)
    calls-left =
        calls-append S name (declared ++ vars fs xs low ++ functions fs xs low) (helper fs xs low)
        ∙ ap (λ l. l ++ calls (helper fs xs low))
        (calls-append S name (declared ++ vars fs xs low) (functions fs xs low) ∙ ap (λ l. l ++ calls (functions fs xs low)) (calls-append S name declared (vars fs xs low))
        ∙ ap (λ l. l ++ calls (vars fs xs low) ++ calls (functions fs xs low)) declared-none ∙ ap (λ l. l ++ calls (functions fs xs low)) variables-none ∙ functions-none)

  -- ---- `__hci` and `__sti`

  abbrev hci : Name
  hci = codes "__hci"

  abbrev sti : Name
  sti = codes "__sti"

  no-hci : (y : Name) → is_helper y ≡ false → bytes_eq y hci ≡ false
  no-hci y e = either-way hci y (told-apart is_helper hci y refl e)

  no-sti : (y : Name) → is_foreign y ≡ true → bytes_eq y sti ≡ false
  no-sti y e = no-not (bytes_eq y sti) (foreign-parts y e).2

  literal-hci : (f : Name) (j : ℕ) → bytes_eq (literal_name f j) hci ≡ false
  literal-hci f j = refl

  -- after `__s` a literal's name has a digit
  literal-sti : (f : Name) (j : ℕ) → bytes_eq (literal_name f j) sti ≡ false
  literal-sti f j = told-apart (is_own_name (codes "__s")) (literal_name f j) sti (literal-own f j) refl

  abbrev pub before_main : List Function
  before_main = map (λ f. function_with f (static_renaming 1 S)) (functions_of (helper fs xs low))

  helper-called : (ss : List Statement) → Every (λ i. In i (lowered_items fs xs low)) (constants_function ss)
      → plain_calls S hci (constants_function ss) ≡ calls_of_helpers (map (λ f. function_with f (static_renaming 1 S)) (functions_of (constants_function ss)))
  helper-called [] h = refl
  helper-called (s ∷ ss) h =
      let i : Item = defines (record {
        is_shared = false;
        prototype = record { is_static = true; result = None; name = hci; parameters = [] };
        body = body [] (in_order (s ∷ ss));
      }) in
      ap (λ b. cond (b && true) (call None (by_name (static_renaming 1 S hci)) [] ∷ []) []) (static-there (lowered_items fs xs low) i (h i (inl refl)) refl)

  no-start : (ss : List Statement) → plain_calls S sti (constants_function ss) ≡ []
  no-start [] = refl
  no-start (s ∷ ss) = go (is_in S hci)
    where
      go : (b : Bool) → cond (b && false) (call None (by_name (static_renaming 1 S hci)) [] ∷ []) [] ≡ []
      go true = refl
      go false = refl

  hci-calls : plain_calls S hci (lowered_items fs xs low) ≡ calls_of_helpers before_main
  hci-calls =
      calls-left hci (λ f h. no-hci f.name (function-foreign-name fs xs low f h).no_helper) (λ x h. no-hci x.name (object-foreign-name fs xs low x h).no_helper) literal-hci
      ∙ helper-called (stores fs xs low)
      (λ i h. in-right i (declared ++ vars fs xs low ++ functions fs xs low) (helper fs xs low) h)

  sti-calls : plain_calls S sti (lowered_items fs xs low) ≡ []
  sti-calls =
      calls-left sti
      (λ f h. no-sti f.name (both (is_foreign f.name) (is_function_name f.name) ((names-told fs xs low).functions f h)).0)
      (λ x h. no-sti x.name (both (is_foreign x.name) (is_object_name x.name) ((names-told fs xs low).statics x h)).0) literal-sti
      ∙ no-start (stores fs xs low)

  -- ---- `main`

  abbrev status : Name
  status = codes "status"

  abbrev last_two : List CStatement
  last_two = statement.Call (Some (place.Name status)) (callee.Name (codes "__main")) [] ∷ statement.Return (Some (tree.Load (place.Name status))) ∷ []

  last-as : map statement_of last_two ≡ call (Some (named status)) (by_name (codes "__main")) [] ∷ give (Some (load (named status))) ∷ []
  last-as =
      ap (λ s. s ∷ statement_of (statement.Return (Some (tree.Load (place.Name status)))) ∷ [])
      (of-Call (Some (place.Name status)) (callee.Name (codes "__main")) [] ∙ ap (λ p. call (Some p) (by_name (codes "__main")) []) (of-Name status))
      ∙ ap (λ s. call (Some (named status)) (by_name (codes "__main")) [] ∷ s ∷ [])
      (of-Return (Some (tree.Load (place.Name status))) ∙ ap (λ e. give (Some e)) (of-Load (place.Name status) ∙ ap load (of-Name status)))

  calls-of-unit : (u : CUnit) → items_of u.items ≡ lowered_items fs xs low → (name : Name)
      → map statement_of (calls_of name (placed_units 1 (u ∷ []))) ≡ plain_calls S name (lowered_items fs xs low)
  calls-of-unit u e name =
      ap (λ l. map statement_of (calls_of name l)) (append-nil (map (placed 1 (statics (items_of u.items))) u.items))
      ∙ calls-as (statics (items_of u.items)) name u.items ∙ ap (λ is. plain_calls (statics is) name is) e

  pub main-there : (u : CUnit) → items_of u.items ≡ lowered_items fs xs low → item_of (added_main (placed_units 1 (u ∷ []))) ≡ defines (main_function before_main)
  main-there u e =
      let all : List Placed = placed_units 1 (u ∷ []) in
      let A : List CStatement = calls_of hci all in
      let E : List CStatement = calls_of sti all in
      let locals : List CLocal = record { ty = «local».Scalar ty.Int; name = status } ∷ [] in
      let with_body : Body → Item = λ b. defines (record {
        is_shared = false;
        prototype = record { is_static = false; result = Some ty.Int; name = codes "main"; parameters = [] };
        body = b;
      }) in
      ap with_body
      (of-made locals (A ++ (E ++ last_two))
      ∙ ap (λ l. body locals (in_order l))
      (map-append statement_of A (E ++ last_two)
      ∙ ap (λ l. l ++ map statement_of (E ++ last_two)) (calls-of-unit u e hci ∙ hci-calls)
      ∙ ap (λ l. calls_of_helpers before_main ++ l)
      (map-append statement_of E last_two ∙ ap (λ l. l ++ map statement_of last_two) (calls-of-unit u e sti ∙ sti-calls) ∙ last-as)))
