-- An item with the new names of its unit keeps the rules that it kept, among the items of a program.
use Rattle.std.proofs.Common.{◌≡◌, ℕ, suc, ◌+◌, Bool, true, false, not, ◌&&◌, nat_lt, List, [], ◌∷◌, ◌++◌, Option, Some, None, option_map, map, length, refl, ap, sym, subst, ◌∙◌}
use Rattle.std.proofs.lemmas.Bool.{and_parts, and_from, true≢false}
use Rattle.cc_whole.specs.declared.types.CSignature.{CSignature}
use Rattle.cc_whole.specs.declared.types.CVariableType.{CVariableType}
use Rattle.cc_whole.specs.declared.types.CVariableType.TheVariants as variable
use Rattle.cc_whole.specs.declared.statement.CBody.{CBody}
use Rattle.cc_whole.specs.declared.unit.CPrototype.{CPrototype}
use Rattle.cc_whole.specs.declared.unit.CPair.{CPair}
use Rattle.cc_whole.specs.declared.unit.CInitialiser.{CInitialiser}
use Rattle.cc_whole.specs.declared.unit.CInitialiser.TheVariants as initialiser
use Rattle.cc_whole.specs.declared.unit.CItem.{CItem}
use Rattle.cc_whole.specs.declared.unit.CItem.TheVariants as item
use Rattle.cc_whole.specs.Plain.{Item, declares, declares_variable, defines, defines_variable, item_of, name_of, body_of}
use Rattle.cc_whole.specs.Numbers.{fits_constant}
use Rattle.cc_whole.specs.Types.{same_signature}
use Rattle.cc_whole.specs.Landmarks.{marks_before_name, marks_before, variable_marks, static_marks, prototype_marks}
use Rattle.cc_whole.specs.Fault.{fine, holds, moved, ◌before◌}
use Rattle.cc_whole.specs.Known.{Meant, function, object, Named, lookup, is_in, is_main, is_library, parameters_named}
use Rattle.cc_whole.specs.Statements.{has_size, checked_body}
use Rattle.cc_whole.specs.Uses.{parameter_names}
use Rattle.cc_whole.specs.Valid.{agrees, own_type, has_type, checked_name, checked_parameters, checked_prototype, inside, may_be_shared, checked_function, paired, checked_pairs, may_start, elements_of, holds_start, checked_start, checked_variable, named_by, is_definition, checked_item}
use Rattle.cc_whole_link.specs.Rename.{Renaming, hiding, prototype_renamed, pair_renamed, start_renamed, body_renamed, function_renamed, variable_renamed, item_renamed}
use Rattle.cc_whole_link.specs.Placed.{longer, static_renaming, locals_of_body, inner_names}
use Rattle.cc_whole_closed.proofs.Plains.{body_with}
use Rattle.cc_whole_closed.proofs.Renamed.{body_as}
use Rattle.cc_whole_linked_valid.proofs.Checks.{Good, same, never, good_moved, good_before, good_holds, holds_true, true_holds, both_fine, first_fine, second_fine, moved_fine, fine_moved}
use Rattle.cc_whole_linked_valid.proofs.Same.{Same, functions, objects, same_self, Meets, nothing, both}
use Rattle.cc_whole_linked_valid.proofs.Names.{Names, Fits, Clear, under_parameters}
use Rattle.cc_whole_linked_valid.proofs.Statements.{among, body_kept, clear_parts}
use Rattle.cc_whole_linked_valid.proofs.Words.{unit_mild, unit_type, unit_library}

-- ---- names

-- what an item declares has the name of the item
pub named_name : (i : Item) → (named_by i).name ≡ name_of i
named_name (declares p) = refl
named_name (declares_variable t name) = refl
named_name (defines f) = refl
named_name (defines_variable v) = refl

-- a name of its own has one type, whatever the rest of the meaning is
pub same_type_has : (o : Option CSignature) {m n : Meant} → Same m n → has_type o m ≡ has_type o n
same_type_has None s = refl
same_type_has (Some t) (functions p q e) = ap (same_signature t) e
same_type_has (Some t) (objects u v e f) = refl

-- the program has no other type for the name of an item, and no other definition of it
pub record NameFine (names : List Named) (defined : Names) (i : Item) : Type 0 where
  pub agrees_there : agrees (lookup names (name_of i)) (named_by i).meant ≡ true
  pub once : (is_definition i && is_in defined (name_of i)) ≡ false

definition_stays : (d a b : Bool) → (a ≡ false → b ≡ false) → not (d && a) ≡ true → not (d && b) ≡ true
definition_stays false a b h e = refl
definition_stays true false b h e = ap not (h refl)
definition_stays true true b h e = absurd (true≢false (sym e))

module _ (unit : ℕ) (statics : Names) where
  abbrev r : Renaming
  r = static_renaming unit statics

  -- rules V2 and V10 of the name that an item declares
  name_kept : (old new : List Named) (olds news : Names) (d : Bool) (x : List ℕ) (m n : Meant) (p q : ℕ) → Same m n → agrees (lookup new (r x)) n ≡ true → (d && is_in news (r x)) ≡ false
      → checked_name old olds d x m p ≡ fine → checked_name new news d (r x) n q ≡ fine
  name_kept old new olds news d x m n p q s a o e =
      let second = holds_true _ 10 p (second_fine (holds (agrees (lookup old x) m && not (d && is_in olds x)) 2 p) _ tt e) in
      let parts = and_parts (has_type (own_type x) m) (not (d && is_library x)) second in
      both_fine (holds (agrees (lookup new (r x)) n && not (d && is_in news (r x))) 2 q) _
      (true_holds _ 2 q (and_from (agrees (lookup new (r x)) n) (not (d && is_in news (r x))) a (ap not o)))
      (true_holds _ 10 q (and_from (has_type (own_type (r x)) n) (not (d && is_library (r x)))
      (sym (same_type_has (own_type (r x)) s) ∙ unit_type unit statics x m parts.0)
      (definition_stays d (is_library x) (is_library (r x)) (unit_library unit statics x) parts.1)))

  prototype_kept : (old new : List Named) (olds news : Names) (d : Bool) (p : CPrototype) → agrees (lookup new (r p.name)) (function (prototype_renamed p r)) ≡ true
      → (d && is_in news (r p.name)) ≡ false → checked_prototype old olds d p ≡ fine → checked_prototype new news d (prototype_renamed p r) ≡ fine
  prototype_kept old new olds news d p a o e =
      let own = first_fine (checked_name old olds d p.name (function p) (marks_before_name p)) _ tt e in
      let rest = second_fine (checked_name old olds d p.name (function p) (marks_before_name p)) (moved (marks_before_name p + 1) (checked_parameters p.parameters [])) tt e in
      let q = prototype_renamed p r in
      both_fine (checked_name new news d (r p.name) (function q) (marks_before_name q)) (moved (marks_before_name q + 1) (checked_parameters p.parameters []))
      (name_kept old new olds news d p.name (function p) (function q) (marks_before_name p) (marks_before_name q) (functions p q refl) a o own)
      (moved_fine (marks_before_name q + 1) (checked_parameters p.parameters []) (fine_moved (marks_before_name p + 1) (checked_parameters p.parameters []) rest))

  -- ---- initialisers

  module _ (old new : List Named) (f : Fits (map (longer unit) statics) old new r) where
    function_kept : (x y : List ℕ) → (not (is_main x) ≡ true → not (is_main y) ≡ true) → {m n : Option Meant} → Meets m n → Good (checked_function x m) (checked_function y n)
    function_kept x y h (nothing o) = never 1 1 (checked_function y o)
    function_kept x y h (both _ _ (functions p q e)) = good_holds 10 1 1 h
    function_kept x y h (both _ _ (objects s t v k)) = never 3 1 (checked_function y (Some (object t)))

    paired_kept : (o : Option (List ℕ)) → Good (paired old o) (paired new (option_map r o))
    paired_kept None = same fine
    paired_kept (Some x) = function_kept x (r x) (f.mild x).main (f.meets x)

    pairs_kept : (ps : List CPair) → Good (checked_pairs ps old) (checked_pairs (map (λ p. pair_renamed p r) ps) new)
    pairs_kept [] = same fine
    pairs_kept (p ∷ ps) = good_before (same (holds (fits_constant p.number) 11 0)) (good_before (paired_kept p.function) (good_moved 2 2 (pairs_kept ps)))

    start_kept : (t : CVariableType) (s : Option CInitialiser) → Good (checked_start t old s) (checked_start t new (option_map (λ x. start_renamed x r) s))
    start_kept t None = same fine
    start_kept t (Some (initialiser.Text bytes)) = same (holds (may_start t (initialiser.Text bytes)) 3 0)
    start_kept t (Some (initialiser.Pairs ps)) = good_before (pairs_start t ps (map (λ p. pair_renamed p r) ps)) (pairs_kept ps)
      where
        pairs_start : (t : CVariableType) (ps qs : List CPair) → Good (holds (may_start t (initialiser.Pairs ps)) 3 0) (holds (may_start t (initialiser.Pairs qs)) 3 0)
        pairs_start (variable.Scalar s) ps qs = same (holds false 3 0)
        pairs_start (variable.Ints c) ps qs = same (holds false 3 0)
        pairs_start (variable.Chars c) ps qs = same (holds false 3 0)
        pairs_start (variable.Pairs c) ps qs = same fine

  -- an array holds as many elements as before
  same_pairs : (ps : List CPair) → length (map (λ p. pair_renamed p r) ps) ≡ length ps
  same_pairs [] = refl
  same_pairs (p ∷ ps) = ap suc (same_pairs ps)

  started : (t : CVariableType) (s : Option CInitialiser) → holds_start t (option_map (λ x. start_renamed x r) s) ≡ holds_start t s
  started t None = refl
  started t (Some (initialiser.Text bytes)) = refl
  started (variable.Scalar s) (Some (initialiser.Pairs ps)) = refl
  started (variable.Ints c) (Some (initialiser.Pairs ps)) = refl
  started (variable.Chars c) (Some (initialiser.Pairs ps)) = refl
  started (variable.Pairs c) (Some (initialiser.Pairs ps)) = ap (λ n. not (nat_lt (elements_of (variable.Pairs c)) n)) (same_pairs ps)

  variable_kept : (old new : List Named) (olds news : Names) (d : Bool) (t : CVariableType) (x : List ℕ) (s : Option CInitialiser) → agrees (lookup new (r x)) (object t) ≡ true
      → (d && is_in news (r x)) ≡ false → checked_variable old olds d t x s ≡ fine → checked_variable new news d t (r x) (option_map (λ y. start_renamed y r) s) ≡ fine
  variable_kept old new olds news d t x s a o e =
      let own = first_fine (checked_name old olds d x (object t) (marks_before t)) _ tt e in
      let rest = holds_true (has_size t && holds_start t s) 11 (marks_before t + 1) (second_fine (checked_name old olds d x (object t) (marks_before t)) _ tt e) in
      both_fine (checked_name new news d (r x) (object t) (marks_before t)) _
      (name_kept old new olds news d x (object t) (object t) (marks_before t) (marks_before t) (same_self (object t)) a o own)
      (true_holds _ 11 (marks_before t + 1) (ap (λ b. has_size t && b) (started t s) ∙ rest))

  -- ---- items

  shared_fine : (b : Bool) → may_be_shared b false ≡ fine
  shared_fine true = refl
  shared_fine false = refl

  -- the body of a function whose name is changed too
  module _ (p : CPrototype) (b : CBody) (old new : List Named) (f : Fits (map (longer unit) statics) old new r) where
    abbrev hidden : Renaming
    hidden = hiding (parameter_names p.parameters) r

    body_fine : Clear (map (longer unit) statics) (parameter_names p.parameters) → Clear (map (longer unit) statics) (locals_of_body (body_of b))
        → checked_body (body_of b) (inside p old) ≡ fine → checked_body (body_of (body_renamed b hidden)) (inside (prototype_renamed p r) new) ≡ fine
    body_fine c d e =
        let k = inside p old in
        let all = parameters_named p.parameters ++ new in
        let kept : checked_body (body_with (body_of b) hidden) (among k all) ≡ fine =
        (body_kept (map (longer unit) statics) (body_of b) k all hidden (under_parameters (map (longer unit) statics) old new r f p.parameters c) d).finds tt e in
        let helped : checked_body (body_with (body_of b) hidden) (inside (prototype_renamed p r) new) ≡ fine =
        subst (λ (h : Bool). checked_body (body_with (body_of b) hidden) (record { names = all; in_helper = h; result = p.result; in_loop = false; may_break = false }) ≡ fine)
        (sym (unit_mild unit statics p.name).helper) kept in
        subst (λ x. checked_body x (inside (prototype_renamed p r) new) ≡ fine) (sym (body_as b hidden)) helped

  pub item_kept : (i : CItem) (old new : List Named) (olds news : Names) → Fits (map (longer unit) statics) (named_by (item_of i) ∷ old) (named_by (item_of (item_renamed i r)) ∷ new) r
      → NameFine new news (item_of (item_renamed i r)) → Clear (map (longer unit) statics) (inner_names (item_of i))
      → checked_item (item_of i) old olds ≡ fine → checked_item (item_of (item_renamed i r)) new news ≡ fine
  item_kept (item.Prototype p) old new olds news f n c e = prototype_kept old new olds news false p n.agrees_there n.once e
  item_kept (item.Extern t x) old new olds news f n c e = variable_kept old new olds news false t x None n.agrees_there n.once e
  item_kept (item.Function g) old new olds news f n c e =
      let p = g.prototype in
      let q = prototype_renamed p r in
      let rest = second_fine (may_be_shared g.is_shared p.is_static) (checked_prototype old olds true p before moved (prototype_marks p) (checked_body (body_of g.body) (inside p (named_by (item_of (item.Function g)) ∷ old)))) tt e in
      let head = first_fine (checked_prototype old olds true p) (moved (prototype_marks p) (checked_body (body_of g.body) (inside p (named_by (item_of (item.Function g)) ∷ old)))) tt rest in
      let inner = fine_moved (prototype_marks p) (checked_body (body_of g.body) (inside p (named_by (item_of (item.Function g)) ∷ old))) (second_fine (checked_prototype old olds true p) _ tt rest) in
      let clear = clear_parts (map (longer unit) statics) (parameter_names p.parameters) (locals_of_body (body_of g.body)) c in
      both_fine (may_be_shared g.is_shared false) _ (shared_fine g.is_shared)
      (both_fine (checked_prototype new news true q) _ (prototype_kept old new olds news true p n.agrees_there n.once head)
      (moved_fine (prototype_marks q) _ (body_fine p g.body (named_by (item_of (item.Function g)) ∷ old) (named_by (item_of (item.Function (function_renamed g r))) ∷ new) f clear.0 clear.1 inner)))
  item_kept (item.Variable v) old new olds news f n c e =
      let w = variable_renamed v r in
      let start = checked_start v.ty (named_by (item_of (item.Variable v)) ∷ old) v.initialiser in
      let all = checked_variable old olds true v.ty v.name v.initialiser before moved (variable_marks v.ty) start in
      let rest = fine_moved (static_marks v.is_static) all (second_fine (may_be_shared v.is_shared v.is_static) (moved (static_marks v.is_static) all) tt e) in
      let head = first_fine (checked_variable old olds true v.ty v.name v.initialiser) (moved (variable_marks v.ty) start) tt rest in
      let inner = fine_moved (variable_marks v.ty) start (second_fine (checked_variable old olds true v.ty v.name v.initialiser) (moved (variable_marks v.ty) start) tt rest) in
      both_fine (may_be_shared v.is_shared false) _ (shared_fine v.is_shared)
      (moved_fine (static_marks false) _ (both_fine (checked_variable new news true v.ty (r v.name) w.initialiser) _
      (variable_kept old new olds news true v.ty v.name v.initialiser n.agrees_there n.once head)
      (moved_fine (variable_marks v.ty) _
      ((start_kept (named_by (item_of (item.Variable v)) ∷ old) (named_by (item_of (item.Variable w)) ∷ new) f v.ty v.initialiser).finds tt inner))))
