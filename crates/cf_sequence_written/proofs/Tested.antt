-- A file is built where the test finds no construct that is not.
use Rattle.std.proofs.Common.{◌≡◌, ℕ, Bool, true, false, not, ◌&&◌, ◌||◌, List, [], ◌∷◌, ◌++◌, map, Option, Some, None, option_map, refl, ap, sym, subst, ◌∙◌}
use Rattle.std.specs.Prelude.{suc, nat_le, nat_lt, if◌then◌else◌}
use Rattle.cf_core.specs.Places.{is_reference}
use Rattle.std.specs.Option.{option_or}
use Rattle.cf_classes.specs.declared.class.MemberRef.{MemberRef}
use Rattle.cf_core.specs.declared.node.Core.{Core as Node, roll-Core, ind-Core}
use Rattle.cf_core.specs.declared.node.Core.TheOpen.{Core-F}
use Rattle.cf_core.specs.declared.node.Core.TheFolds.{fold-roll-Core, map-Core}
use Rattle.cf_core.specs.declared.node.PartStart.{PartStart, fold-PartStart}
use Rattle.cf_core.specs.declared.node.Holder.TheVariants as holder
use Rattle.cf_core.specs.Types.{Name, SourceType, array, const, takes, result, is_class, plain, element}
use Rattle.cf_core.specs.Core.{Core, Cores, MaybeCore}
use Rattle.cf_core.specs.Joined.{is_nothing}
use Rattle.cf_core.specs.Valid.{is_label, has_label}
use Rattle.cf_core.specs.FromTypes.{Tables, type_of}
use Rattle.cf_core.specs.View.{Started, core_step, started_step, core_of, listed, maybe}
use Rattle.cf_sequence.specs.Built.{is_value, is_start, is_filling, is_initial, is_row, is_list, is_element, are_elements, is_held, behind_declared, is_condition, is_statement, is_statement_or, are_values, are_arguments, are_statements, are_cases, is_none, arms_declare, any_arms_declare, arms_fit, or_arms_fit, all_arms_fit, none_passed, next_local, next_local_or, next_locals, is_chain}
use Rattle.cf_sequence.specs.Made.{declared, declared_maybe, declared_all}
use Rattle.cf_sequence_built.specs.Unbuilt.{Temporary, Test, test, test_step, start, initial, by_temporary, by_list, element_start, each_element, filler, in_list, local, behind_both, given, each_value, some_values, each_statement, statement_or, case, passed, each_unfit, or_unfit, each_case, next_or, next_of_all, called, is_function_type, is_called}
use Rattle.cf_sequence_built.specs.Unbuilt as unbuilt

-- whether nothing was found
abbrev pub clear : Option ℕ → Bool
clear None = true
clear (Some at) = false

pub and-is : (p q : Option ℕ) (a b : Bool) → clear p ≡ a → clear q ≡ b → clear (option_or p q) ≡ a && b
and-is None q a b e f = f ∙ ap (λ c. c && b) e
and-is (Some at) q a b e f = ap (λ c. c && b) e

and-all : (a : Bool) → a && true ≡ a
and-all true = refl
and-all false = refl

-- by a test

where-not : (b : Bool) (v : Option ℕ) (w : Bool) → clear v ≡ w → clear (if b then None else v) ≡ b || w
where-not true v w e = refl
where-not false v w e = e

where-false : (at : ℕ) (b : Bool) (v : Option ℕ) (w : Bool) → clear v ≡ w → clear (if b then Some at else v) ≡ not b && w
where-false at true v w e = refl
where-false at false v w e = e

pub where-true : (at : ℕ) (b : Bool) (v : Option ℕ) (w : Bool) → clear v ≡ w → clear (if b then v else Some at) ≡ b && w
where-true at true v w e = e
where-true at false v w e = refl

both-tests : (at : ℕ) (a b : Bool) (v : Option ℕ) (w : Bool) → clear v ≡ w → clear (if a && b then v else Some at) ≡ a && (b && w)
both-tests at true true v w e = e
both-tests at true false v w e = refl
both-tests at false b v w e = refl

or-false : (b : Bool) → b ≡ (b || false)
or-false true = refl
or-false false = refl

-- of two lists one has something
some-joined : {A : Type 0} (xs ys : List A) → not (is_none (xs ++ ys)) ≡ (not (is_none ys) || not (is_none xs))
some-joined [] ys = or-false (not (is_none ys))
some-joined (x ∷ xs) ys = or-true (not (is_none ys))
  where
    or-true : (b : Bool) → true ≡ (b || true)
    or-true true = refl
    or-true false = refl

and-none : (b : Bool) → b && false ≡ false
and-none true = refl
and-none false = refl

-- one statement of a switch: `b` tells of one that declares in an arm before it
one-passed : (at : ℕ) (b l a more none : Bool) (v : Option ℕ) → clear v ≡ not ((b || a) && more) && none
    → clear (if b && l then Some at else v) ≡ not (b && (l || more)) && (not (a && more) && none)
one-passed at true true a more none v e = refl
one-passed at true false a true none v e = e
one-passed at true false true false none v e = e
one-passed at true false false false none v e = e
one-passed at false l a more none v e = e

pub chain-is : (t : SourceType) → is_function_type t ≡ is_chain t
chain-is (takes p t) = chain-is t
chain-is t = refl

-- what is told of the temporary that a local reference binds
abbrev pub Binds : Option Temporary → Core → Type 0
Binds None c = ((i : ℕ) → is_held i c ≡ false) × ((i : ℕ) → behind_declared i c ≡ suc i)
Binds (Some x) c = ((i : ℕ) → is_held i c ≡ nat_lt i x.number && clear x.value) × ((i : ℕ) → behind_declared i c ≡ suc x.number) × ((t : SourceType) → is_element t c ≡ false)

-- what is told of a list, as the initialiser of an object
abbrev pub Lists : Option (SourceType → Option ℕ) → Core → Type 0
Lists None c = (t : SourceType) → is_list t c ≡ false
Lists (Some f) c = ((t : SourceType) → clear (f t) ≡ is_list t c) × (is_initial c ≡ false)

local-by : (o : Option Temporary) (c : Core) → Binds o c → (t : SourceType) (other : Option ℕ) → clear other ≡ is_element t c → (at i : ℕ)
    → clear (by_temporary o at i other) ≡ (is_element t c || is_held i c)
local-by None c binds t other e at i = e ∙ or-false (is_element t c) ∙ ap (λ b. is_element t c || b) (sym (binds.0 i))
local-by (Some x) c binds t other e at i =
    where-true at (nat_lt i x.number) x.value (clear x.value) refl ∙ sym (binds.0 i) ∙ ap (λ b. b || is_held i c) (sym (binds.2 t))

list-by : (o : Option (SourceType → Option ℕ)) (c : Core) → Lists o c → (t : SourceType) (other : Option ℕ) → clear other ≡ is_initial c → clear (by_list o t other) ≡ is_element t c
list-by None c lists t other e = e ∙ or-false (is_initial c) ∙ ap (λ b. is_initial c || b) (sym (lists t))
list-by (Some f) c lists t other e = lists.0 t ∙ ap (λ b. b || is_list t c) (sym lists.1)

pub row-is : (t : SourceType) → unbuilt.is_row t ≡ is_row t
row-is (array t n) = refl
row-is (const (array t n)) = refl
row-is (const t) = refl
row-is t = refl

behind-by : (o : Option Temporary) (c : Core) → Binds o c → (i : ℕ) → behind_both o i ≡ behind_declared i c
behind-by None c binds i = sym (binds.1 i)
behind-by (Some x) c binds i = sym (binds.1 i)

module _ (tables : Tables) (signature : MemberRef → Name) where
  pub record Tests (t : Test) (c : Core) : Type 0 where
    pub value : clear t.value ≡ is_value c
    pub statement : (m : ℕ) → clear (t.statement m) ≡ is_statement m c
    pub next : (m : ℕ) → t.next m ≡ next_local m c
    pub blank : t.is_blank ≡ is_nothing c
    pub filling : t.is_filling ≡ is_filling c
    pub declares : t.declares ≡ not (is_none (declared c))
    pub arms : t.arms ≡ arms_declare c
    pub unfit : (n : ℕ) → clear (t.unfit n) ≡ arms_fit n c
    pub label : t.is_label ≡ is_label c
    pub temporary : Binds t.temporary c
    pub list : Lists t.list c

  abbrev of_node : Node → Core
  of_node = core_of tables signature

  abbrev IsTested : Node → Type 0
  IsTested n = Tests (test tables n) (of_node n)

  abbrev Child : Type 0
  Child = (n : Node) × IsTested n

  abbrev PartChild : Type 0
  PartChild = (p : PartStart) × Unit {0}

  abbrev node_of : Child → Node
  node_of c = c.0

  abbrev part_of : PartChild → PartStart
  part_of c = c.0

  abbrev started_of : PartStart → Started
  started_of = fold-PartStart Core Started (core_step tables signature) (started_step tables signature)

  abbrev part_test : PartStart → Test
  part_test = fold-PartStart Test Test (test_step tables) (unbuilt.part_step tables)

  abbrev shape : Core-F Child PartChild → Core-F Node PartStart
  shape y = map-Core _ _ _ _ node_of part_of y

  abbrev of : Child → Core
  of c = of_node c.0

  abbrev test_of : Child → Test
  test_of c = test tables c.0

  abbrev tests_of : List Child → List Test
  tests_of es = map (test tables) (map node_of es)

  abbrev cores_of : List Child → Cores
  cores_of es = listed (map of_node (map node_of es))

  abbrev maybe_test : Option Child → Option Test
  maybe_test o = option_map (test tables) (option_map node_of o)

  abbrev maybe_core : Option Child → MaybeCore
  maybe_core o = maybe (option_map of_node (option_map node_of o))

  two : (a b : Child) → clear (option_or (test_of a).value (test_of b).value) ≡ is_value (of a) && is_value (of b)
  two a b = and-is (test_of a).value (test_of b).value _ _ a.1.value b.1.value

  three : (c a b : Child) → clear (option_or (test_of c).value (option_or (test_of a).value (test_of b).value)) ≡ is_value (of c) && (is_value (of a) && is_value (of b))
  three c a b = and-is (test_of c).value _ _ _ c.1.value (two a b)

  start-is : (e : Child) → clear (start (test_of e)) ≡ is_start (of e)
  start-is e = ap (λ b. clear (if b then None else (test_of e).value)) e.1.blank ∙ where-not (is_nothing (of e)) (test_of e).value _ e.1.value

  initial-is : (e : Child) → clear (initial (test_of e)) ≡ is_initial (of e)
  initial-is e = ap (λ b. clear (if b then None else start (test_of e))) e.1.filling ∙ where-not (is_filling (of e)) (start (test_of e)) _ (start-is e)

  element-is : (t : SourceType) (e : Child) → clear (element_start t (test_of e)) ≡ is_element t (of e)
  element-is t e = list-by (test_of e).list (of e) e.1.list t (initial (test_of e)) (initial-is e)

  in_elements : (t : SourceType) (es : List Child) → clear (each_element t (tests_of es)) ≡ are_elements t (cores_of es)
  in_elements t [] = refl
  in_elements t (e ∷ es) = and-is (element_start t (test_of e)) (each_element t (tests_of es)) _ _ (element-is t e) (in_elements t es)

  filler-is : (at : ℕ) (e : Child) → clear (filler at (test_of e)) ≡ is_filling (of e)
  filler-is at e = ap (λ b. clear (if b then None else Some at)) e.1.filling ∙ by (is_filling (of e))
    where
      by : (b : Bool) → clear (if b then None else Some at) ≡ b
      by true = refl
      by false = refl

  list-is : (at : ℕ) (es : List Child) (last : Child) (t : SourceType)
      → clear (in_list at (tests_of es) (test_of last) t) ≡ is_row t && (are_elements (element (plain t)) (cores_of es) && is_filling (of last))
  list-is at es last t =
      where-true at (unbuilt.is_row t) (option_or (each_element (element (plain t)) (tests_of es)) (filler at (test_of last))) _
      (and-is (each_element (element (plain t)) (tests_of es)) (filler at (test_of last)) _ _ (in_elements (element (plain t)) es) (filler-is at last))
      ∙ ap (λ b. b && (are_elements (element (plain t)) (cores_of es) && is_filling (of last))) (row-is t)

  local-is : (at i : ℕ) (t : SourceType) (e : Child) → clear (local at i t (test_of e)) ≡ (is_element t (of e) || is_held i (of e))
  local-is at i t e = local-by (test_of e).temporary (of e) e.1.temporary t (element_start t (test_of e)) (element-is t e) at i

  behind-is : (i : ℕ) (e : Child) → unbuilt.behind i (test_of e) ≡ behind_declared i (of e)
  behind-is i e = behind-by (test_of e).temporary (of e) e.1.temporary i

  statement_or-is : (m : ℕ) (o : Option Child) → clear (statement_or m (maybe_test o)) ≡ is_statement_or m (maybe_core o)
  statement_or-is m None = refl
  statement_or-is m (Some s) = s.1.statement m

  next_or-is : (m : ℕ) (o : Option Child) → next_or m (maybe_test o) ≡ next_local_or m (maybe_core o)
  next_or-is m None = refl
  next_or-is m (Some s) = s.1.next m

  -- the arms of an `if`, the second one where the locals of the first are there

  arms-next : (m : ℕ) (a : Child) (o : Option Child) → next_or ((test_of a).next m) (maybe_test o) ≡ next_local_or (next_local m (of a)) (maybe_core o)
  arms-next m a o = ap (λ k. next_or k (maybe_test o)) (a.1.next m) ∙ next_or-is (next_local m (of a)) o

  arms-stated : (m : ℕ) (a : Child) (o : Option Child) → clear (option_or ((test_of a).statement m) (statement_or ((test_of a).next m) (maybe_test o)))
      ≡ is_statement m (of a) && is_statement_or (next_local m (of a)) (maybe_core o)
  arms-stated m a o =
      and-is ((test_of a).statement m) (statement_or ((test_of a).next m) (maybe_test o)) _ _ (a.1.statement m)
      (ap (λ k. clear (statement_or k (maybe_test o))) (a.1.next m) ∙ statement_or-is (next_local m (of a)) o)

  or_declares-is : (o : Option Child) → unbuilt.or_declares (maybe_test o) ≡ not (is_none (declared_maybe (maybe_core o)))
  or_declares-is None = refl
  or_declares-is (Some s) = s.1.declares

  arms-declare : (a : Child) (o : Option Child) → ((test_of a).declares || unbuilt.or_declares (maybe_test o)) ≡ not (is_none (declared_maybe (maybe_core o) ++ declared (of a)))
  arms-declare a o =
      ap (λ b. b || unbuilt.or_declares (maybe_test o)) a.1.declares ∙ ap (λ b. not (is_none (declared (of a))) || b) (or_declares-is o)
      ∙ sym (some-joined (declared_maybe (maybe_core o)) (declared (of a)))

  or_unfit-is : (n : ℕ) (o : Option Child) → clear (or_unfit n (maybe_test o)) ≡ or_arms_fit n (maybe_core o)
  or_unfit-is n None = refl
  or_unfit-is n (Some s) = s.1.unfit n

  arms-fit : (at n : ℕ) (a : Child) (o : Option Child)
      → clear (if nat_le (next_or ((test_of a).next 0) (maybe_test o)) n then option_or ((test_of a).unfit n) (or_unfit n (maybe_test o)) else Some at)
      ≡ nat_le (next_local_or (next_local 0 (of a)) (maybe_core o)) n && (arms_fit n (of a) && or_arms_fit n (maybe_core o))
  arms-fit at n a o =
      where-true at (nat_le (next_or ((test_of a).next 0) (maybe_test o)) n) (option_or ((test_of a).unfit n) (or_unfit n (maybe_test o))) _
      (and-is ((test_of a).unfit n) (or_unfit n (maybe_test o)) _ _ (a.1.unfit n) (or_unfit-is n o))
      ∙ ap (λ k. nat_le k n && (arms_fit n (of a) && or_arms_fit n (maybe_core o))) (arms-next 0 a o)

  given-is : (o : Option Child) → clear (given (maybe_test o)) ≡ is_condition (maybe_core o)
  given-is None = refl
  given-is (Some e) = e.1.value

  case-is : (m : ℕ) (s : Child) → clear (case m (test_of s)) ≡ is_label (of s) || is_statement m (of s)
  case-is m s =
      ap (λ b. clear (if b then None else (test_of s).statement m)) s.1.label ∙ where-not (is_label (of s)) ((test_of s).statement m) _ (s.1.statement m)

  in_arguments : (es : List Child) → clear (each_value (tests_of es)) ≡ are_arguments (cores_of es)
  in_arguments [] = refl
  in_arguments (e ∷ es) = and-is (test_of e).value _ _ _ e.1.value (in_arguments es)

  in_values : (e : Child) (es : List Child) → clear (each_value (tests_of (e ∷ es))) ≡ are_values (cores_of (e ∷ es))
  in_values e [] = and-is (test_of e).value None _ true e.1.value refl ∙ and-all (is_value (of e))
  in_values e (f ∷ es) = and-is (test_of e).value _ _ _ e.1.value (in_values f es)

  in_comma : (at : ℕ) (es : List Child) → clear (some_values at (tests_of es)) ≡ are_values (cores_of es)
  unfolding some_values
  in_comma at [] = refl
  in_comma at (e ∷ es) = in_values e es

  in_order : (m : ℕ) (es : List Child) → clear (each_statement m (tests_of es)) ≡ are_statements m (cores_of es)
  in_order m [] = refl
  in_order m (s ∷ ss) =
      and-is ((test_of s).statement m) _ _ _ (s.1.statement m)
      (ap (λ k. clear (each_statement k (tests_of ss))) (s.1.next m) ∙ in_order (next_local m (of s)) ss)

  nexts : (m : ℕ) (es : List Child) → next_of_all m (tests_of es) ≡ next_locals m (cores_of es)
  nexts m [] = refl
  nexts m (s ∷ ss) = ap (λ k. next_of_all k (tests_of ss)) (s.1.next m) ∙ nexts (next_local m (of s)) ss

  in_declares : (es : List Child) → unbuilt.any_declares (tests_of es) ≡ not (is_none (declared_all (cores_of es)))
  in_declares [] = refl
  in_declares (s ∷ ss) =
      ap (λ b. b || unbuilt.any_declares (tests_of ss)) s.1.declares ∙ ap (λ b. not (is_none (declared (of s))) || b) (in_declares ss)
      ∙ sym (some-joined (declared_all (cores_of ss)) (declared (of s)))

  in_arms : (es : List Child) → unbuilt.any_arms (tests_of es) ≡ any_arms_declare (cores_of es)
  in_arms [] = refl
  in_arms (s ∷ ss) = ap (λ b. b || unbuilt.any_arms (tests_of ss)) s.1.arms ∙ ap (λ b. arms_declare (of s) || b) (in_arms ss)

  in_unfit : (n : ℕ) (es : List Child) → clear (each_unfit n (tests_of es)) ≡ all_arms_fit n (cores_of es)
  in_unfit n [] = refl
  in_unfit n (s ∷ ss) = and-is ((test_of s).unfit n) (each_unfit n (tests_of ss)) _ _ (s.1.unfit n) (in_unfit n ss)

  in_passed : (at : ℕ) (b : Bool) (es : List Child) → clear (passed at b (tests_of es)) ≡ not (b && has_label (cores_of es)) && none_passed (cores_of es)
  in_passed at b [] = ap (λ c. not c && true) (sym (and-none b))
  in_passed at b (s ∷ ss) =
      let more = cores_of ss in
      one-passed at b (test_of s).is_label (test_of s).arms (has_label more) (none_passed more) (passed at (b || (test_of s).arms) (tests_of ss))
      (in_passed at (b || (test_of s).arms) ss)
      ∙ ap (λ l. not (b && (l || has_label more)) && (not ((test_of s).arms && has_label more) && none_passed more)) s.1.label
      ∙ ap (λ a. not (b && (is_label (of s) || has_label more)) && (not (a && has_label more) && none_passed more)) s.1.arms

  in_switch : (at n : ℕ) (es : List Child) → clear (option_or (passed at false (tests_of es)) (each_unfit n (tests_of es))) ≡ none_passed (cores_of es) && all_arms_fit n (cores_of es)
  in_switch at n es = and-is (passed at false (tests_of es)) (each_unfit n (tests_of es)) _ _ (in_passed at false es) (in_unfit n es)

  in_cases : (m : ℕ) (es : List Child) → clear (each_case m (tests_of es)) ≡ are_cases m (cores_of es)
  in_cases m [] = refl
  in_cases m (s ∷ ss) =
      and-is (case m (test_of s)) _ _ _ (case-is m s) (ap (λ k. clear (each_case k (tests_of ss))) (s.1.next m) ∙ in_cases (next_local m (of s)) ss)

  in_call : (at t : ℕ) (es : List Child) → clear (called at (is_called tables t) None (tests_of es))
      ≡ not (is_class (result (type_of tables t))) && (is_chain (type_of tables t) && are_arguments (cores_of es))
  in_call at t es =
      both-tests at (not (is_class (result (type_of tables t)))) (is_function_type (type_of tables t)) (each_value (tests_of es)) _ (in_arguments es)
      ∙ ap (λ b. not (is_class (result (type_of tables t))) && (b && are_arguments (cores_of es))) (chain-is (type_of tables t))

  in_loop : (c e : Option Child) (s : Child) (m : ℕ) → clear (option_or (given (maybe_test c)) (option_or (given (maybe_test e)) ((test_of s).statement m)))
      ≡ is_condition (maybe_core c) && (is_condition (maybe_core e) && is_statement m (of s))
  in_loop c e s m =
      and-is (given (maybe_test c)) (option_or (given (maybe_test e)) ((test_of s).statement m)) (is_condition (maybe_core c)) (is_condition (maybe_core e) && is_statement m (of s)) (given-is c)
      (and-is (given (maybe_test e)) ((test_of s).statement m) (is_condition (maybe_core e)) (is_statement m (of s)) (given-is e) (s.1.statement m))

  abbrev IsLayer : Core-F Node PartStart → Type 0
  IsLayer x = Tests (test_step tables (map-Core _ _ _ _ (test tables) part_test x)) (core_step tables signature (map-Core _ _ _ _ of_node started_of x))

  layer : (y : Core-F Child PartChild) → IsLayer (shape y)
  layer (Core-F.Number at z) = record { value = refl; statement = λ m. refl; next = λ m. refl; blank = refl; filling = refl; declares = refl; arms = refl; unfit = λ n. refl; label = refl; list = λ t. refl; temporary = (λ i. refl, λ i. refl) }
  layer (Core-F.Text at j bytes) = record { value = refl; statement = λ m. refl; next = λ m. refl; blank = refl; filling = refl; declares = refl; arms = refl; unfit = λ n. refl; label = refl; list = λ t. refl; temporary = (λ i. refl, λ i. refl) }
  layer (Core-F.This at) = record { value = refl; statement = λ m. refl; next = λ m. refl; blank = refl; filling = refl; declares = refl; arms = refl; unfit = λ n. refl; label = refl; list = λ t. refl; temporary = (λ i. refl, λ i. refl) }
  layer (Core-F.Local at i) = record { value = refl; statement = λ m. refl; next = λ m. refl; blank = refl; filling = refl; declares = refl; arms = refl; unfit = λ n. refl; label = refl; list = λ t. refl; temporary = (λ i. refl, λ i. refl) }
  layer (Core-F.Static at n t) = record { value = refl; statement = λ m. refl; next = λ m. refl; blank = refl; filling = refl; declares = refl; arms = refl; unfit = λ n. refl; label = refl; list = λ t. refl; temporary = (λ i. refl, λ i. refl) }
  layer (Core-F.Function at n t) = record { value = refl; statement = λ m. refl; next = λ m. refl; blank = refl; filling = refl; declares = refl; arms = refl; unfit = λ n. refl; label = refl; list = λ t. refl; temporary = (λ i. refl, λ i. refl) }
  layer (Core-F.Member at e i) = record { value = refl; statement = λ m. refl; next = λ m. refl; blank = refl; filling = refl; declares = refl; arms = refl; unfit = λ n. refl; label = refl; list = λ t. refl; temporary = (λ i. refl, λ i. refl) }
  layer (Core-F.Read at e) = record { value = e.1.value; statement = λ m. refl; next = λ m. refl; blank = refl; filling = refl; declares = refl; arms = refl; unfit = λ n. refl; label = refl; list = λ t. refl; temporary = (λ i. refl, λ i. refl) }
  layer (Core-F.Address at e) = record { value = e.1.value; statement = λ m. refl; next = λ m. refl; blank = refl; filling = refl; declares = refl; arms = refl; unfit = λ n. refl; label = refl; list = λ t. refl; temporary = (λ i. refl, λ i. refl) }
  layer (Core-F.Dereference at e) = record { value = e.1.value; statement = λ m. refl; next = λ m. refl; blank = refl; filling = refl; declares = refl; arms = refl; unfit = λ n. refl; label = refl; list = λ t. refl; temporary = (λ i. refl, λ i. refl) }
  layer (Core-F.Decay at e) = record { value = e.1.value; statement = λ m. refl; next = λ m. refl; blank = refl; filling = refl; declares = refl; arms = refl; unfit = λ n. refl; label = refl; list = λ t. refl; temporary = (λ i. refl, λ i. refl) }
  layer (Core-F.Index at a b) = record { value = two a b; statement = λ m. refl; next = λ m. refl; blank = refl; filling = refl; declares = refl; arms = refl; unfit = λ n. refl; label = refl; list = λ t. refl; temporary = (λ i. refl, λ i. refl) }
  layer (Core-F.Convert at t e) = record { value = e.1.value; statement = λ m. refl; next = λ m. refl; blank = refl; filling = refl; declares = refl; arms = refl; unfit = λ n. refl; label = refl; list = λ t. refl; temporary = (λ i. refl, λ i. refl) }
  layer (Core-F.Up at path e) = record { value = refl; statement = λ m. refl; next = λ m. refl; blank = refl; filling = refl; declares = refl; arms = refl; unfit = λ n. refl; label = refl; list = λ t. refl; temporary = (λ i. refl, λ i. refl) }
  layer (Core-F.Down at c path e) = record { value = refl; statement = λ m. refl; next = λ m. refl; blank = refl; filling = refl; declares = refl; arms = refl; unfit = λ n. refl; label = refl; list = λ t. refl; temporary = (λ i. refl, λ i. refl) }
  layer (Core-F.FromVoid at t e) = record { value = e.1.value; statement = λ m. refl; next = λ m. refl; blank = refl; filling = refl; declares = refl; arms = refl; unfit = λ n. refl; label = refl; list = λ t. refl; temporary = (λ i. refl, λ i. refl) }
  layer (Core-F.ToMember at path e) = record { value = refl; statement = λ m. refl; next = λ m. refl; blank = refl; filling = refl; declares = refl; arms = refl; unfit = λ n. refl; label = refl; list = λ t. refl; temporary = (λ i. refl, λ i. refl) }
  layer (Core-F.DataPointer at i) = record { value = refl; statement = λ m. refl; next = λ m. refl; blank = refl; filling = refl; declares = refl; arms = refl; unfit = λ n. refl; label = refl; list = λ t. refl; temporary = (λ i. refl, λ i. refl) }
  layer (Core-F.FunctionPointer at t) = record { value = refl; statement = λ m. refl; next = λ m. refl; blank = refl; filling = refl; declares = refl; arms = refl; unfit = λ n. refl; label = refl; list = λ t. refl; temporary = (λ i. refl, λ i. refl) }
  layer (Core-F.Through at a b) = record { value = refl; statement = λ m. refl; next = λ m. refl; blank = refl; filling = refl; declares = refl; arms = refl; unfit = λ n. refl; label = refl; list = λ t. refl; temporary = (λ i. refl, λ i. refl) }
  layer (Core-F.Operate at op k a b) = record { value = two a b; statement = λ m. refl; next = λ m. refl; blank = refl; filling = refl; declares = refl; arms = refl; unfit = λ n. refl; label = refl; list = λ t. refl; temporary = (λ i. refl, λ i. refl) }
  layer (Core-F.Unary at op k e) = record { value = e.1.value; statement = λ m. refl; next = λ m. refl; blank = refl; filling = refl; declares = refl; arms = refl; unfit = λ n. refl; label = refl; list = λ t. refl; temporary = (λ i. refl, λ i. refl) }
  layer (Core-F.Not at e) = record { value = e.1.value; statement = λ m. refl; next = λ m. refl; blank = refl; filling = refl; declares = refl; arms = refl; unfit = λ n. refl; label = refl; list = λ t. refl; temporary = (λ i. refl, λ i. refl) }
  layer (Core-F.And at a b) = record { value = two a b; statement = λ m. refl; next = λ m. refl; blank = refl; filling = refl; declares = refl; arms = refl; unfit = λ n. refl; label = refl; list = λ t. refl; temporary = (λ i. refl, λ i. refl) }
  layer (Core-F.Or at a b) = record { value = two a b; statement = λ m. refl; next = λ m. refl; blank = refl; filling = refl; declares = refl; arms = refl; unfit = λ n. refl; label = refl; list = λ t. refl; temporary = (λ i. refl, λ i. refl) }
  layer (Core-F.PointerOperate at op a b) = record { value = two a b; statement = λ m. refl; next = λ m. refl; blank = refl; filling = refl; declares = refl; arms = refl; unfit = λ n. refl; label = refl; list = λ t. refl; temporary = (λ i. refl, λ i. refl) }
  layer (Core-F.Conditional at c a b) = record { value = three c a b; statement = λ m. refl; next = λ m. refl; blank = refl; filling = refl; declares = refl; arms = refl; unfit = λ n. refl; label = refl; list = λ t. refl; temporary = (λ i. refl, λ i. refl) }
  layer (Core-F.Comma at es) = record { value = in_comma at es; statement = λ m. refl; next = λ m. refl; blank = refl; filling = refl; declares = refl; arms = refl; unfit = λ n. refl; label = refl; list = λ t. refl; temporary = (λ i. refl, λ i. refl) }
  layer (Core-F.Store at a b) = record { value = two a b; statement = λ m. refl; next = λ m. refl; blank = refl; filling = refl; declares = refl; arms = refl; unfit = λ n. refl; label = refl; list = λ t. refl; temporary = (λ i. refl, λ i. refl) }
  layer (Core-F.Update at a c b) = record { value = two a b; statement = λ m. refl; next = λ m. refl; blank = refl; filling = refl; declares = refl; arms = refl; unfit = λ n. refl; label = refl; list = λ t. refl; temporary = (λ i. refl, λ i. refl) }
  layer (Core-F.Increment at is_postfix c e) = record { value = e.1.value; statement = λ m. refl; next = λ m. refl; blank = refl; filling = refl; declares = refl; arms = refl; unfit = λ n. refl; label = refl; list = λ t. refl; temporary = (λ i. refl, λ i. refl) }
  layer (Core-F.Assign at t a b es) = record { value = refl; statement = λ m. refl; next = λ m. refl; blank = refl; filling = refl; declares = refl; arms = refl; unfit = λ n. refl; label = refl; list = λ t. refl; temporary = (λ i. refl, λ i. refl) }
  layer (Core-F.Temporary at t e) = record { value = where-false at (is_reference (type_of tables t)) (test_of e).value _ e.1.value; statement = λ m. refl; next = λ m. refl; blank = refl; filling = refl; declares = refl; arms = refl; unfit = λ n. refl; label = refl; list = λ t. refl; temporary = (λ i. refl, λ i. refl) }
  layer (Core-F.Call at f t None es) = record { value = in_call at t es; statement = λ m. refl; next = λ m. refl; blank = refl; filling = refl; declares = refl; arms = refl; unfit = λ n. refl; label = refl; list = λ t. refl; temporary = (λ i. refl, λ i. refl) }
  layer (Core-F.Call at f t (Some object) es) = record { value = refl; statement = λ m. refl; next = λ m. refl; blank = refl; filling = refl; declares = refl; arms = refl; unfit = λ n. refl; label = refl; list = λ t. refl; temporary = (λ i. refl, λ i. refl) }
  layer (Core-F.VirtualCall at m t e es) = record { value = refl; statement = λ m. refl; next = λ m. refl; blank = refl; filling = refl; declares = refl; arms = refl; unfit = λ n. refl; label = refl; list = λ t. refl; temporary = (λ i. refl, λ i. refl) }
  layer (Core-F.PointerCall at None e t es) = record { value = in_call at t (e ∷ es); statement = λ m. refl; next = λ m. refl; blank = refl; filling = refl; declares = refl; arms = refl; unfit = λ n. refl; label = refl; list = λ t. refl; temporary = (λ i. refl, λ i. refl) }
  layer (Core-F.PointerCall at (Some object) e t es) = record { value = refl; statement = λ m. refl; next = λ m. refl; blank = refl; filling = refl; declares = refl; arms = refl; unfit = λ n. refl; label = refl; list = λ t. refl; temporary = (λ i. refl, λ i. refl) }
  layer (Core-F.New at t e) = record { value = refl; statement = λ m. refl; next = λ m. refl; blank = refl; filling = refl; declares = refl; arms = refl; unfit = λ n. refl; label = refl; list = λ t. refl; temporary = (λ i. refl, λ i. refl) }
  layer (Core-F.NewArray at t n e) = record { value = refl; statement = λ m. refl; next = λ m. refl; blank = refl; filling = refl; declares = refl; arms = refl; unfit = λ n. refl; label = refl; list = λ t. refl; temporary = (λ i. refl, λ i. refl) }
  layer (Core-F.Delete at t e) = record { value = refl; statement = λ m. refl; next = λ m. refl; blank = refl; filling = refl; declares = refl; arms = refl; unfit = λ n. refl; label = refl; list = λ t. refl; temporary = (λ i. refl, λ i. refl) }
  layer (Core-F.DeleteArray at t e) = record { value = refl; statement = λ m. refl; next = λ m. refl; blank = refl; filling = refl; declares = refl; arms = refl; unfit = λ n. refl; label = refl; list = λ t. refl; temporary = (λ i. refl, λ i. refl) }
  layer (Core-F.Build at f t es) = record { value = refl; statement = λ m. refl; next = λ m. refl; blank = refl; filling = refl; declares = refl; arms = refl; unfit = λ n. refl; label = refl; list = λ t. refl; temporary = (λ i. refl, λ i. refl) }
  layer (Core-F.Copy at t e es) = record { value = refl; statement = λ m. refl; next = λ m. refl; blank = refl; filling = refl; declares = refl; arms = refl; unfit = λ n. refl; label = refl; list = λ t. refl; temporary = (λ i. refl, λ i. refl) }
  layer (Core-F.Each at e) = record { value = refl; statement = λ m. refl; next = λ m. refl; blank = refl; filling = refl; declares = refl; arms = refl; unfit = λ n. refl; label = refl; list = λ t. refl; temporary = (λ i. refl, λ i. refl) }
  layer (Core-F.List at es rest) = record { value = refl; statement = λ m. refl; next = λ m. refl; blank = refl; filling = refl; declares = refl; arms = refl; unfit = λ n. refl; label = refl; list = (λ t. list-is at es rest t, refl); temporary = (λ i. refl, λ i. refl) }
  layer (Core-F.Characters at bytes) = record { value = refl; statement = λ m. refl; next = λ m. refl; blank = refl; filling = refl; declares = refl; arms = refl; unfit = λ n. refl; label = refl; list = λ t. refl; temporary = (λ i. refl, λ i. refl) }
  layer (Core-F.Bind at holder.NoTemporary e) = record { value = e.1.value; statement = λ m. refl; next = λ m. refl; blank = refl; filling = refl; declares = refl; arms = refl; unfit = λ n. refl; label = refl; list = λ t. refl; temporary = (λ i. refl, λ i. refl) }
  layer (Core-F.Bind at (holder.LocalTemporary j t) e) = record {
    value = refl;
    statement = λ m. refl;
    next = λ m. refl;
    blank = refl;
    filling = refl;
    declares = refl;
    arms = refl;
    unfit = λ n. refl;
    label = refl;
    list = λ t. refl;
    temporary = (
      λ i. ap (λ b. nat_lt i j && b) (sym (where-false at (is_reference (type_of tables t)) (test_of e).value _ e.1.value)),
      λ i. refl,
      λ t. refl,
    );
  }
  layer (Core-F.Bind at (holder.StaticTemporary name) e) = record { value = refl; statement = λ m. refl; next = λ m. refl; blank = refl; filling = refl; declares = refl; arms = refl; unfit = λ n. refl; label = refl; list = λ t. refl; temporary = (λ i. refl, λ i. refl) }
  layer (Core-F.Zeros at) = record { value = refl; statement = λ m. refl; next = λ m. refl; blank = refl; filling = refl; declares = refl; arms = refl; unfit = λ n. refl; label = refl; list = λ t. refl; temporary = (λ i. refl, λ i. refl) }
  layer (Core-F.Blank at) = record { value = refl; statement = λ m. refl; next = λ m. refl; blank = refl; filling = refl; declares = refl; arms = refl; unfit = λ n. refl; label = refl; list = λ t. refl; temporary = (λ i. refl, λ i. refl) }
  layer (Core-F.Full at e) = record { value = refl; statement = λ m. start-is e; next = λ m. refl; blank = refl; filling = refl; declares = refl; arms = refl; unfit = λ n. refl; label = refl; list = λ t. refl; temporary = (λ i. refl, λ i. refl) }
  layer (Core-F.Block at es) = record { value = refl; statement = λ m. in_order m es; next = λ m. refl; blank = refl; filling = refl; declares = refl; arms = refl; unfit = λ n. in_unfit n es; label = refl; list = λ t. refl; temporary = (λ i. refl, λ i. refl) }
  layer (Core-F.Sequence at es) = record { value = refl; statement = λ m. in_order m es; next = λ m. nexts m es; blank = refl; filling = refl; declares = in_declares es; arms = in_arms es; unfit = λ n. in_unfit n es; label = refl; list = λ t. refl; temporary = (λ i. refl, λ i. refl) }
  layer (Core-F.Declare at i t e) = record { value = refl; statement = λ m. where-true at (nat_le m i) _ _ (local-is at i (type_of tables t) e); next = λ m. behind-is i e; blank = refl; filling = refl; declares = refl; arms = refl; unfit = λ n. refl; label = refl; list = λ t. refl; temporary = (λ i. refl, λ i. refl) }
  layer (Core-F.Once at n e) = record { value = refl; statement = λ m. refl; next = λ m. refl; blank = refl; filling = refl; declares = refl; arms = refl; unfit = λ n. refl; label = refl; list = λ t. refl; temporary = (λ i. refl, λ i. refl) }
  layer (Core-F.If at c a None) = record { value = refl; statement = λ m. and-is _ _ _ _ c.1.value (arms-stated m a None); next = λ m. arms-next m a None; blank = refl; filling = refl; declares = arms-declare a None; arms = arms-declare a None; unfit = λ n. arms-fit at n a None; label = refl; list = λ t. refl; temporary = (λ i. refl, λ i. refl) }
  layer (Core-F.If at c a (Some b)) = record { value = refl; statement = λ m. and-is _ _ _ _ c.1.value (arms-stated m a (Some b)); next = λ m. arms-next m a (Some b); blank = refl; filling = refl; declares = arms-declare a (Some b); arms = arms-declare a (Some b); unfit = λ n. arms-fit at n a (Some b); label = refl; list = λ t. refl; temporary = (λ i. refl, λ i. refl) }
  layer (Core-F.Loop at f None None s) = record { value = refl; statement = in_loop None None s; next = λ m. refl; blank = refl; filling = refl; declares = refl; arms = refl; unfit = s.1.unfit; label = refl; list = λ t. refl; temporary = (λ i. refl, λ i. refl) }
  layer (Core-F.Loop at f None (Some e) s) = record { value = refl; statement = in_loop None (Some e) s; next = λ m. refl; blank = refl; filling = refl; declares = refl; arms = refl; unfit = s.1.unfit; label = refl; list = λ t. refl; temporary = (λ i. refl, λ i. refl) }
  layer (Core-F.Loop at f (Some c) None s) = record { value = refl; statement = in_loop (Some c) None s; next = λ m. refl; blank = refl; filling = refl; declares = refl; arms = refl; unfit = s.1.unfit; label = refl; list = λ t. refl; temporary = (λ i. refl, λ i. refl) }
  layer (Core-F.Loop at f (Some c) (Some e) s) = record { value = refl; statement = in_loop (Some c) (Some e) s; next = λ m. refl; blank = refl; filling = refl; declares = refl; arms = refl; unfit = s.1.unfit; label = refl; list = λ t. refl; temporary = (λ i. refl, λ i. refl) }
  layer (Core-F.Switch at e es) = record { value = refl; statement = λ m. and-is _ _ _ _ e.1.value (in_cases m es); next = λ m. refl; blank = refl; filling = refl; declares = refl; arms = refl; unfit = λ n. in_switch at n es; label = refl; list = λ t. refl; temporary = (λ i. refl, λ i. refl) }
  layer (Core-F.Case at z) = record { value = refl; statement = λ m. refl; next = λ m. refl; blank = refl; filling = refl; declares = refl; arms = refl; unfit = λ n. refl; label = refl; list = λ t. refl; temporary = (λ i. refl, λ i. refl) }
  layer (Core-F.Default at) = record { value = refl; statement = λ m. refl; next = λ m. refl; blank = refl; filling = refl; declares = refl; arms = refl; unfit = λ n. refl; label = refl; list = λ t. refl; temporary = (λ i. refl, λ i. refl) }
  layer (Core-F.Break at) = record { value = refl; statement = λ m. refl; next = λ m. refl; blank = refl; filling = refl; declares = refl; arms = refl; unfit = λ n. refl; label = refl; list = λ t. refl; temporary = (λ i. refl, λ i. refl) }
  layer (Core-F.Continue at) = record { value = refl; statement = λ m. refl; next = λ m. refl; blank = refl; filling = refl; declares = refl; arms = refl; unfit = λ n. refl; label = refl; list = λ t. refl; temporary = (λ i. refl, λ i. refl) }
  layer (Core-F.Return at None) = record { value = refl; statement = λ m. refl; next = λ m. refl; blank = refl; filling = refl; declares = refl; arms = refl; unfit = λ n. refl; label = refl; list = λ t. refl; temporary = (λ i. refl, λ i. refl) }
  layer (Core-F.Return at (Some e)) = record { value = refl; statement = λ m. e.1.value; next = λ m. refl; blank = refl; filling = refl; declares = refl; arms = refl; unfit = λ n. refl; label = refl; list = λ t. refl; temporary = (λ i. refl, λ i. refl) }
  layer (Core-F.Parts at ps s) = record { value = refl; statement = λ m. refl; next = λ m. refl; blank = refl; filling = refl; declares = refl; arms = refl; unfit = λ n. refl; label = refl; list = λ t. refl; temporary = (λ i. refl, λ i. refl) }

  rolled : (x : Core-F Node PartStart) → IsLayer x → IsTested (roll-Core x)
  rolled x p =
      subst (λ t. Tests t (of_node (roll-Core x))) (sym (fold-roll-Core Test Test (test_step tables) (unbuilt.part_step tables) x))
      (subst (λ c. Tests (test_step tables (map-Core _ _ _ _ (test tables) part_test x)) c) (sym (fold-roll-Core Core Started (core_step tables signature) (started_step tables signature) x)) p)

  pub tested : (n : Node) → Tests (test tables n) (of_node n)
  tested = ind-Core IsTested (λ p. Unit {0}) (λ x y is. subst (λ z. IsTested (roll-Core z)) is (rolled (shape y) (layer y))) (λ x y is. tt)
