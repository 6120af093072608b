-- Static objects of a core whose initialisers are known before the run (8.4): their values are found by the rules by which lowering finds those of
-- plain statements, node by node.
use Rattle.std.specs.Prelude.{zero, suc, Bool, true, false, ◌&&◌, ◌||◌, not, [], length, pos, Option, Some, None}
use Rattle.std.specs.List.{list_all}
use Rattle.cf_base.specs.declared.kind.Kind.TheVariants.{Char}
use Rattle.cf_core.specs.Types.{Name, SourceType, integer, array, plain as unqualified, element}
use Rattle.cf_core.specs.Core.{Core, Cores, none, more, number, text, static_object, function, address, dereference, decay, index, pointer_operate, convert, operate, unary, logical_not, logical_and, logical_or, conditional, list, bind, Static, CoreFile}
use Rattle.cf_core.specs.Joined.{is_nothing}
use Rattle.cf_lower_layout.specs.Sorts.{sort_of}
use Rattle.cf_plain.specs.Plain.{Register}
use Rattle.cf_plain.specs.Plain as plain
use Rattle.cf_sequence.specs.Built.{is_filling}
use Rattle.cf_sequence.specs.Statements.{type_of_static}
use Rattle.cf_lower.specs.Constants.{Known, unknown, a_number, at, a_function, holds_truth, truth_known, inverted, decayed, sum, pointer_known, converted_known, known_by}
use Rattle.cf_lower.specs.Written.{literal_name}
use Rattle.cf_lower_program.specs.Starts.{is_known, is_value_of}
use Rattle.cf_sequence_lowered.specs.Literals.{owner_name}

-- what two operands are
abbrev pub operands : Known → Known → Register → Known
operands x y zero = x
operands x y (suc r) = y

-- by a test, if it is known
abbrev pub chosen : {A : Type 0} → Option Bool → A → A → A → A
chosen None x y z = x
chosen (Some true) x y z = y
chosen (Some false) x y z = z

-- f is the function in which literals are numbered
module _ (f : Name) where
  -- what is known of the value of a node
  abbrev pub core_known : Core → Known
  core_known (number z) = a_number z
  core_known (text j bytes) = at (literal_name f j) 0 (array (integer Char) (length bytes))
  core_known (static_object name t) = at name 0 t
  core_known (function name t) = a_function name
  core_known (address e) = core_known e
  core_known (dereference e) = core_known e
  core_known (decay e) = decayed (core_known e)
  core_known (index a b) = sum [] (core_known a) (core_known b)
  core_known (pointer_operate op a b) = pointer_known [] op (core_known a) (core_known b)
  core_known (convert t e) = converted_known [] (sort_of t) (core_known e)
  core_known (operate op k a b) = known_by [] f (operands (core_known a) (core_known b)) (plain.operate op k 0 1)
  core_known (unary op k e) = known_by [] f (operands (core_known e) unknown) (plain.unary op k 0)
  core_known (logical_not e) = truth_known (inverted (holds_truth (core_known e)))
  core_known (logical_and a b) = chosen (holds_truth (core_known a)) unknown (truth_known (holds_truth (core_known b))) (a_number (pos 0))
  core_known (logical_or a b) = chosen (holds_truth (core_known a)) unknown (a_number (pos 1)) (truth_known (holds_truth (core_known b)))
  core_known (conditional c a b) = chosen (holds_truth (core_known c)) unknown (core_known a) (core_known b)
  core_known e = unknown

  -- whether that of each node is known that is evaluated; a list is none of these, and what a static reference is bound to is not lowered yet
  abbrev pub all_known : Core → Bool
  all_known (address e) = all_known e
  all_known (dereference e) = all_known e
  all_known (decay e) = all_known e
  all_known (index a b) = all_known a && (all_known b && is_known (core_known (index a b)))
  all_known (pointer_operate op a b) = all_known a && (all_known b && is_known (core_known (pointer_operate op a b)))
  all_known (convert t e) = all_known e && is_known (core_known (convert t e))
  all_known (operate op k a b) = all_known a && (all_known b && is_known (core_known (operate op k a b)))
  all_known (unary op k e) = all_known e && is_known (core_known (unary op k e))
  all_known (logical_not e) = all_known e
  all_known (logical_and a b) = all_known a && chosen (holds_truth (core_known a)) false (all_known b) true
  all_known (logical_or a b) = all_known a && chosen (holds_truth (core_known a)) false true (all_known b)
  all_known (conditional c a b) = all_known c && chosen (holds_truth (core_known c)) false (all_known a) (all_known b)
  all_known (list es last) = false
  all_known (bind h e) = false
  all_known e = true

  -- Whether what begins an object of this type is known: a value is what a scalar of the type holds, and an element of a list is begun as an object is (8.4.1).
  abbrev mutual
    pub listed_known : SourceType → Core → Bool
    listed_known t (list es last) = items_known (element (unqualified t)) es
    listed_known t e = false

    pub items_known : SourceType → Cores → Bool
    items_known t none = true
    items_known t (more e es) = (listed_known t e || (is_filling e || (all_known e && is_value_of (sort_of t) (core_known e)))) && items_known t es

  abbrev pub item_known : SourceType → Core → Bool
  item_known t e = listed_known t e || (is_filling e || (all_known e && is_value_of (sort_of t) (core_known e)))

abbrev pub start_is_known : SourceType → Static → Bool
start_is_known t x = is_nothing x.start || item_known (owner_name x) t x.start

-- what is local to no function is shared by no files
abbrev pub owner_is_plain : Static → Bool
owner_is_plain x = elim x.owner [ None ↦ not x.is_shared | Some f ↦ true ]

abbrev pub core_statics_known : CoreFile → Bool
core_statics_known file = list_all (λ (x : Static). start_is_known (type_of_static file.statics x.name) x && owner_is_plain x) file.statics
