-- The items of a lowered file have a text, and no fault.
use Rattle.std.proofs.Common.{◌≡◌, ℕ, suc, ◌^◌, ◌≤◌, ◌<◌, nat_lt, nat_le, Bool, true, false, not, ◌&&◌, ◌||◌, List, [], ◌∷◌, ◌++◌, length, map, refl, ap, sym, subst, ◌∙◌, inl, inr, ◌⊎◌, arith, append_assoc}
use Rattle.std.specs.Prelude.{bytes_eq}
use Rattle.std.specs.List.{flat_map}
use Rattle.std.proofs.lemmas.Bool.{or_cases, le-ltb}
use Rattle.cf_base.proofs.Tests.{both, all_of, same_bytes, bytes_same}
use Rattle.cf_core.specs.Types.{Name, SourceType, parameters}
use Rattle.cf_plain.specs.Plain as plain
use Rattle.cf_plain.specs.Plain.{Action, PlainFunction, PlainStatic, PlainFile}
use Rattle.cf_plain.specs.Named.{all_actions}
use Rattle.cc_whole.specs.declared.unit.CVariable.{CVariable}
use Rattle.cc_whole.specs.Plain.{Statement, Item, declares, defines, defines_variable, name_of}
use Rattle.cc_whole.specs.Numbers.{is_size}
use Rattle.cc_whole.specs.Known.{Named, is_in}
use Rattle.cc_whole.specs.Fault.{fine}
use Rattle.cc_whole.specs.Valid.{named_by, is_definition, checked_parameters, first_fault}
use Rattle.cf_lower.specs.Written.{int_constant}
use Rattle.cf_lower.specs.Functions.{prototype, lowered_parameters, lowered_function, but_last, literal_at, literals, lowered_static, owner_of, start_literals, library, constants_function, own_prototypes, own_variables, declared_at, named_in, defined_elsewhere, lowered_file}
use Rattle.cf_lower_program.specs.Types.{is_laid, is_callable, is_well_typed}
use Rattle.cf_lower_kept.specs.Ready.{is_code}
use Rattle.cf_lower_program.specs.Starts.{is_text, text_fits}
use Rattle.cf_lower_program.specs.Lowerable.{Lowerable}
use Rattle.cc_whole_sections.specs.Sections.{In, Every, item_name, item_names, IsVariable, Declares, Uses, DefinedOnce, Sections}
use Rattle.cc_whole_sections.proofs.Names.{in-left, in-right}
use Rattle.cc_whole_sections.proofs.Items.{sections-fine}
use Rattle.cf_lower_valid.proofs.Differ.{parameters-fine}
use Rattle.cf_lower_valid.proofs.Inner.{mapped-in, every-mapped, every-append}
use Rattle.cf_lower_valid.proofs.Spans.{parameters-distinct}
use Rattle.cf_lower_valid.proofs.Own.{any-in}
use Rattle.cf_lower_valid.proofs.Sizes.{count-size, laid-variable}
use Rattle.cf_lower_valid.proofs.Tests.{file_of, small, callable-few, tested, function-told, static-told, action-of-function, action-of-static, action-typed, action-text}
use Rattle.cf_lower_valid.proofs.Known.{constants_prototype, known, one-type, own-known, tested-known, wanted}
use Rattle.cf_lower_valid.proofs.Naming.{object-foreign}
use Rattle.cf_lower_valid.proofs.Functions.{parameters-differ, function-right}
use Rattle.cf_lower_valid.proofs.Starts.{stores, helper-right}
use Rattle.cf_lower_valid.proofs.Definitions.{definitions-once}
use Rattle.cf_lower_valid.proofs.Once.{once-none, from-flat}
use Rattle.cf_lower_valid.proofs.Others.{named-name, mapped-from, other-from, other-there}

-- ---- variables

but-last-short : (b : List ℕ) → length (but_last b) ≤ length b
but-last-short [] = let l : 0 ≤ 0 = omega arith in l
but-last-short (x ∷ []) = let l : 0 ≤ 1 = omega arith in l
but-last-short (x ∷ y ∷ b) = let l : length (but_last (y ∷ b)) ≤ length (y ∷ b) = but-last-short (y ∷ b) in
    let more : suc (length (but_last (y ∷ b))) ≤ suc (length (y ∷ b)) = omega (arith, l) in
    more

text-some : (b : List ℕ) → is_text b ≡ true → 0 < length b
text-some [] e = absurd (cc)
text-some (x ∷ b) e = let l : 0 < suc (length b) = omega arith in l

pub literal-right : (f : Name) (s l : Bool) (a : Action) → (s && l) ≡ false → text_fits a ≡ true → Every IsVariable (literal_at f s l a)
literal-right f s l (plain.text j b) apart fit v (inl e) =
    let two = both (is_text b) (nat_le (length b) (2 ^ 22)) fit in
    let short = but-last-short b in
    subst IsVariable e (record {
      shared = apart;
      no_library = refl;
      size = all_of (is_size (int_constant (length b))) (not true || not (nat_lt (length b) (length (but_last b))))
          (count-size (length b) (text-some b two.0) (small (length b) (2 ^ 22) two.1)) (ap not (le-ltb (length b) (length (but_last b)) short));
      start = λ names. refl;
    })
literal-right f s l (plain.text j b) apart fit v (inr k) = absurd k
literal-right f s l a apart fit v h = absurd h

literals-right : (f : Name) (s l : Bool) (actions : List Action) → (s && l) ≡ false → Every (λ a. text_fits a ≡ true) actions
    → Every IsVariable (flat_map (literal_at f s l) actions)
literals-right f s l actions apart fit v h =
    let x = from-flat (literal_at f s l) actions v h in literal-right f s l x.one apart (fit x.one x.there) v x.gives

-- what is local to no other file, where it is not shared
start-apart : (s l : Bool) → (s && l) ≡ false → (s && (l || not s)) ≡ false
start-apart true l e = go l e
  where
    go : (l : Bool) → l ≡ false → (l || false) ≡ false
    go true e = e
    go false e = refl
start-apart false l e = refl

module _ (fs : List PlainFunction) (xs : List PlainStatic) (low : Lowerable (file_of fs xs)) where
  abbrev file : PlainFile
  file = file_of fs xs

  static-right : (x : PlainStatic) → In x xs → IsVariable (lowered_static [] x)
  static-right x h =
      let t = static-told fs xs low x h in
      record {
        shared = t.shared;
        no_library = (object-foreign x.name t.name).no_library;
        size = all_of _ true (laid-variable x.type t.laid) refl;
        start = λ names. refl;
      }

  abbrev variables : List CVariable
  variables = map (lowered_static []) xs ++ flat_map literals fs ++ flat_map start_literals xs

  variables-right : Every IsVariable variables
  variables-right =
      every-append IsVariable (map (lowered_static []) xs ++ flat_map literals fs) (flat_map start_literals xs)
      (every-append IsVariable (map (lowered_static []) xs) (flat_map literals fs) (every-mapped IsVariable (lowered_static []) xs static-right)
      (λ v h.
      let f = from-flat literals fs v h in
      literals-right f.one.name f.one.is_shared f.one.is_local (all_actions f.one.body) (function-told fs xs low f.one f.there).shared
      (λ a k. action-text fs xs low a (action-of-function fs xs low f.one a f.there k)) v f.gives))
      (λ v h.
      let x = from-flat start_literals xs v h in
      literals-right (owner_of x.one) x.one.is_shared (x.one.is_local || not x.one.is_shared) (all_actions x.one.start)
      (start-apart x.one.is_shared x.one.is_local (static-told fs xs low x.one x.there).shared)
      (λ a k. action-text fs xs low a (action-of-static fs xs low x.one a x.there k)) v x.gives)

  -- ---- what is declared

  library-right : Every Declares library
  library-right i (inl e) = subst Declares e refl
  library-right i (inr (inl e)) = subst Declares e refl
  library-right i (inr (inr (inl e))) = subst Declares e refl
  library-right i (inr (inr (inr h))) = absurd h

  own-right : Every Declares (own_prototypes file)
  own-right = every-mapped Declares (λ (f : PlainFunction). declares (prototype f)) fs (λ f h. parameters-differ fs xs low f h)

  callable-right : (t : SourceType) → is_callable t ≡ true → checked_parameters (lowered_parameters 0 (parameters t)) [] ≡ fine
  callable-right t e = parameters-fine (lowered_parameters 0 (parameters t)) (parameters-distinct (parameters t) (callable-few t e))

  declared-right : (a : Action) → is_well_typed a ≡ true → Every Declares (declared_at [] a)
  declared-right (plain.static_object name t) e i (inl k) = subst Declares k (laid-variable t (both (is_laid t) (not (is_code t)) e).0)
  declared-right (plain.static_object name t) e i (inr k) = absurd k
  declared-right (plain.function name t) e i (inl k) = subst Declares k (callable-right t e)
  declared-right (plain.function name t) e i (inr k) = absurd k
  declared-right (plain.call name t on is into) e i (inl k) = subst Declares k (callable-right t e)
  declared-right (plain.call name t on is into) e i (inr k) = absurd k
  declared-right a e i h = absurd h

  abbrev of_functions : List Item
  of_functions = flat_map (λ (f : PlainFunction). flat_map (declared_at []) (all_actions f.body)) fs

  abbrev of_statics : List Item
  of_statics = flat_map (λ (x : PlainStatic). flat_map (declared_at []) (all_actions x.start)) xs

  -- what is so of what each action names
  every-named : (P : Item → Type 0) → ((a : Action) → is_well_typed a ≡ true → Every P (declared_at [] a)) → Every P (named_in file)
  every-named P one =
      every-append P of_functions of_statics
      (λ i h.
      let f = from-flat (λ (f : PlainFunction). flat_map (declared_at []) (all_actions f.body)) fs i h in
      let a = from-flat (declared_at []) (all_actions f.one.body) i f.gives in
      one a.one (action-typed fs xs low a.one (action-of-function fs xs low f.one a.one f.there a.there)) i a.gives)
      (λ i h.
      let x = from-flat (λ (x : PlainStatic). flat_map (declared_at []) (all_actions x.start)) xs i h in
      let a = from-flat (declared_at []) (all_actions x.one.start) i x.gives in
      one a.one (action-typed fs xs low a.one (action-of-static fs xs low x.one a.one x.there a.there)) i a.gives)

  declares-only : (a : Action) → is_well_typed a ≡ true → Every (λ i. is_definition i ≡ false) (declared_at [] a)
  declares-only (plain.static_object name t) e i (inl k) = subst (λ i. is_definition i ≡ false) k refl
  declares-only (plain.static_object name t) e i (inr k) = absurd k
  declares-only (plain.function name t) e i (inl k) = subst (λ i. is_definition i ≡ false) k refl
  declares-only (plain.function name t) e i (inr k) = absurd k
  declares-only (plain.call name t on is into) e i (inl k) = subst (λ i. is_definition i ≡ false) k refl
  declares-only (plain.call name t on is into) e i (inr k) = absurd k
  declares-only a e i h = absurd h

  abbrev taken : List (List ℕ)
  taken = map name_of (library ++ own_prototypes file ++ own_variables file)

  pub elsewhere-from : (i : Item) → In i (defined_elsewhere file) → In i (named_in file)
  elsewhere-from i h = other-from taken (named_in file) i h

  -- ---- sections

  abbrev first : List Item
  first = library ++ own_prototypes file ++ defined_elsewhere file ++ own_variables file

  abbrev functions : List Item
  functions = map (λ (f : PlainFunction). defines (lowered_function [] f)) fs

  abbrev second : List Item
  second = functions ++ constants_function (stores fs xs low)

  abbrev own : List Item
  own = own_prototypes file

  abbrev other : List Item
  other = defined_elsewhere file

  abbrev vars : List Item
  vars = own_variables file

  named-tested : (i : Item) → In i (named_in file) → In i (tested fs xs low)
  named-tested i h = in-right i (own ++ vars) (named_in file) h

  own-tested : (i : Item) → In i own → In i (tested fs xs low)
  own-tested i h = in-left i (own ++ vars) (named_in file) (in-left i own vars h)

  vars-tested : (i : Item) → In i vars → In i (tested fs xs low)
  vars-tested i h = in-left i (own ++ vars) (named_in file) (in-right i own vars h)

  -- what is so of each part of the first section
  every-first : (P : Item → Type 0) → Every P library → Every P own → Every P other → Every P vars → Every P first
  every-first P a b c d =
      every-append P (library ++ own ++ other) vars (every-append P (library ++ own) other (every-append P library own a b) c) d

  first-known : Every (λ i. In (named_by i) (known fs xs low)) first
  first-known =
      every-first (λ i. In (named_by i) (known fs xs low))
      (λ i h. own-known fs xs low i (in-left i library (declares constants_prototype ∷ []) h))
      (λ i h. tested-known fs xs low i (own-tested i h))
      (λ i h. tested-known fs xs low i (named-tested i (elsewhere-from i h)))
      (λ i h. tested-known fs xs low i (vars-tested i h))

  helper-known : (ss : List Statement) → Every (λ i. In (named_by i) (known fs xs low)) (constants_function ss)
  helper-known [] i h = absurd h
  helper-known (s ∷ ss) i (inl e) =
      subst (λ i. In (named_by i) (known fs xs low)) e
      (own-known fs xs low (declares constants_prototype) (in-right (declares constants_prototype) library (declares constants_prototype ∷ []) (inl refl)))
  helper-known (s ∷ ss) i (inr k) = absurd k

  second-known : Every (λ i. In (named_by i) (known fs xs low)) second
  second-known =
      every-append (λ i. In (named_by i) (known fs xs low)) functions (constants_function (stores fs xs low))
      (every-mapped (λ i. In (named_by i) (known fs xs low)) (λ (f : PlainFunction). defines (lowered_function [] f)) fs
      (λ f h. tested-known fs xs low (declares (prototype f))
      (own-tested (declares (prototype f)) (mapped-in (λ (f : PlainFunction). declares (prototype f)) f fs h))))
      (helper-known (stores fs xs low))

  first-declares : Every Declares first
  first-declares =
      every-first Declares library-right own-right (λ i h. every-named Declares declared-right i (elsewhere-from i h))
      (every-mapped Declares defines_variable variables variables-right)

  second-uses : Every (Uses (wanted fs xs low)) second
  second-uses =
      every-append (Uses (wanted fs xs low)) functions (constants_function (stores fs xs low))
      (every-mapped (Uses (wanted fs xs low)) (λ (f : PlainFunction). defines (lowered_function [] f)) fs (λ f h. function-right fs xs low f h))
      (helper-right fs xs low)

  -- ---- each name that bodies want is declared

  name-there : (is : List Item) (i : Item) → In i is → is_in (item_names is) (item_name i) ≡ true
  name-there [] i h = absurd h
  name-there (j ∷ is) i (inl e) = ap (λ b. b || is_in (item_names is) (item_name i)) (bytes_same (item_name j) (item_name i) (ap item_name e))
  name-there (j ∷ is) i (inr h) = go (bytes_eq (item_name j) (item_name i)) (name-there is i h)
    where
      go : (b : Bool) → is_in (item_names is) (item_name i) ≡ true → (b || is_in (item_names is) (item_name i)) ≡ true
      go true e = refl
      go false e = e

  -- an item of this name stands in the first section
  name-first : (is : List Item) (y : Name) → Every (λ i. In i first) is → is_in (map name_of is) y ≡ true → is_in (item_names first) y ≡ true
  name-first is y h e =
      let n = any-in (λ other. bytes_eq other y) (map name_of is) e in
      let i = mapped-from name_of is n.one n.there in
      subst (λ z. is_in (item_names first) z ≡ true) (named-name i.one ∙ i.is ∙ same_bytes n.one y n.passes) (name-there first i.one (h i.one i.there))

  library-first : Every (λ i. In i first) library
  library-first i h = in-left i (library ++ own ++ other) vars (in-left i (library ++ own) other (in-left i library own h))

  own-first : Every (λ i. In i first) own
  own-first i h = in-left i (library ++ own ++ other) vars (in-left i (library ++ own) other (in-right i library own h))

  other-first : Every (λ i. In i first) other
  other-first i h = in-left i (library ++ own ++ other) vars (in-right i (library ++ own) other h)

  vars-first : Every (λ i. In i first) vars
  vars-first i h = in-right i (library ++ own ++ other) vars h

  taken-first : Every (λ i. In i first) (library ++ own ++ vars)
  taken-first = every-append (λ i. In i first) (library ++ own) vars (every-append (λ i. In i first) library own library-first own-first) vars-first

  named-first : (i : Item) → In i (named_in file) → is_in (item_names first) (item_name i) ≡ true
  named-first i h =
      subst (λ y. is_in (item_names first) y ≡ true) (sym (named-name i))
      (go (or_cases (is_in taken (name_of i)) (is_in (map name_of other) (name_of i)) (other-there taken (named_in file) i h)))
    where
      go : (is_in taken (name_of i) ≡ true) ⊎ (is_in (map name_of other) (name_of i) ≡ true) → is_in (item_names first) (name_of i) ≡ true
      go (inl e) = name-first (library ++ own ++ vars) (name_of i) taken-first e
      go (inr e) = name-first other (name_of i) other-first e

  tested-first : Every (λ i. is_in (item_names first) (item_name i) ≡ true) (tested fs xs low)
  tested-first =
      every-append (λ i. is_in (item_names first) (item_name i) ≡ true) (own ++ vars) (named_in file)
      (every-append (λ i. is_in (item_names first) (item_name i) ≡ true) own vars (λ i h. name-there first i (own-first i h)) (λ i h. name-there first i (vars-first i h)))
      named-first

  -- ---- one section behind the other

  in-one : lowered_file file ≡ first ++ second
  in-one = append_assoc first functions (constants_function (stores fs xs low))

  no-definition : Every (λ i. is_definition i ≡ false) library
  no-definition i (inl e) = subst (λ i. is_definition i ≡ false) e refl
  no-definition i (inr (inl e)) = subst (λ i. is_definition i ≡ false) e refl
  no-definition i (inr (inr (inl e))) = subst (λ i. is_definition i ≡ false) e refl
  no-definition i (inr (inr (inr h))) = absurd h

  none-defined : Every (λ i. is_definition i ≡ false) (library ++ own ++ other)
  none-defined =
      every-append (λ i. is_definition i ≡ false) (library ++ own) other
      (every-append (λ i. is_definition i ≡ false) library own no-definition
      (every-mapped (λ i. is_definition i ≡ false) (λ (f : PlainFunction). declares (prototype f)) fs (λ f h. refl)))
      (λ i h. every-named (λ i. is_definition i ≡ false) declares-only i (elsewhere-from i h))

  first-once : DefinedOnce (first ++ second) []
  first-once =
      subst (λ is. DefinedOnce is []) (sym (append_assoc (library ++ own ++ other) vars second))
      (once-none (library ++ own ++ other) (vars ++ second) [] none-defined (definitions-once fs xs low (stores fs xs low)))

  sections : Sections (known fs xs low) (wanted fs xs low) first second
  sections = record {
    one_type = one-type fs xs low;
    first_known = first-known;
    second_known = second-known;
    wanted_known = every-mapped (λ x. In x (known fs xs low)) named_by (tested fs xs low) (λ i h. tested-known fs xs low i h);
    wanted_first = every-mapped (λ (x : Named). is_in (item_names first) x.name ≡ true) named_by (tested fs xs low) tested-first;
    declares = first-declares;
    uses = second-uses;
    once = first-once;
  }

  pub no-fault : first_fault (lowered_file file) ≡ fine
  no-fault = ap first_fault in-one ∙ sections-fine (known fs xs low) (wanted fs xs low) first second sections
