-- What a statement stands in, and what is written of it.
use Rattle.std.specs.Prelude.{ℕ, Bool, true, false, List, [], ◌∷◌, map, Option, Some, None}
use Rattle.cc_whole.specs.declared.statement.CStatement.{CStatement}
use Rattle.cc_whole.specs.declared.statement.CSwitchItem.{CSwitchItem}
use Rattle.cc_whole.specs.Plain as c
use Rattle.cc_whole.specs.Plain.{Body, Expression, Statement, SwitchItem, SwitchItems}
use Rattle.cf_core.specs.FromTypes.{type_of}
use Rattle.cf_lower.specs.Statements.{Inside, all_lowered, flag_set, if_flag, in_loop, in_stepped, put, behind, put_in, set_register, stated_all}
use Rattle.cf_lower.specs.Expressions.{as_stored, integer_in, value, zero as nought}
use Rattle.cf_lower.specs.Kept.{Keeping, kept_by, local_kept}
use Rattle.cf_plain.specs.Plain.{Action, Plain, Plains, case_label, default_label}
use Rattle.cc_whole.specs.declared.types.CConstant.TheVariants as constants
use Rattle.cf_base.specs.declared.kind.Kind.TheVariants.{Int}
use Rattle.cf_base.specs.Integers.{convert}
use Rattle.cf_lower.specs.Written.{if_scalar, local_name}
use Rattle.cf_lower_layout.specs.Sorts.{Sort}
use Rattle.cf_lower_held.specs.declared.scene.Scene.{Scene}
use Rattle.cf_lower_held.specs.Scenes.{locals_in}
use Rattle.cf_lower_types.specs.Bare.{classes_of}
use Rattle.cf_lower_stmt.specs.declared.around.Around.{Around}
use Rattle.cf_lower_stmt.specs.declared.around.Way.{Way}
use Rattle.cf_lower_stmt.specs.declared.around.Way.TheVariants as way

-- the statements that are written
abbrev pub written : List CStatement → List Statement
written all = map c.statement_of all

abbrev pub written_items : List CSwitchItem → List SwitchItem
written_items all = map c.switch_item_of all

abbrev pub way_of : Way → List Statement
way_of way.Nowhere = []
way_of way.Break = c.leave ∷ []
way_of way.Continue = c.next ∷ []
way_of (way.Flagged d) = flag_set d 1 ∷ c.leave ∷ []

-- what a statement stands in
abbrev pub inside : Scene → Around → Inside
inside x around = record {
  classes = classes_of x.tables.now;
  function = x.function.now;
  result = type_of x.tables.now x.result;
  locals = locals_in x;
  depth = around.depth;
  leaving = way_of around.leaving;
  going_on = way_of around.going_on;
}

-- a value, stored in the C local of this number, if it is a scalar
abbrev pub local_stored : Option Sort → ℕ → Expression → List Statement
local_stored s i e = if_scalar s [] (λ t. c.assign (c.named (local_name i)) (as_stored t e) ∷ [])

-- zero, stored so many bytes behind an address, if there is a scalar
abbrev pub zero_if : Option Sort → Expression → ℕ → List Statement
zero_if s p at = if_scalar s [] (λ t. put t (behind p at) nought ∷ [])

-- what a function gives whose result is this scalar
abbrev pub given_as : Option Sort → Expression → List Statement
given_as s e = if_scalar s (c.give None ∷ []) (λ t. c.give (Some (as_stored t e)) ∷ [])

-- a value, kept in a register that holds this
abbrev pub set_if : Option Sort → ℕ → Expression → List Statement
set_if None r e = []
set_if (Some s) r e = set_register s r e ∷ []

-- what an action gives that is no call, kept in a register
abbrev pub value_kept : Inside → Keeping → ℕ → Action → List Statement
value_kept x g r a = put_in x (local_kept (kept_by x.locals g a)) r (value x.classes x.function x.locals g a)

-- labels and statements of a switch, in front of others
abbrev pub in_front : List SwitchItem → SwitchItems → SwitchItems
in_front [] rest = rest
in_front (c.label k ∷ xs) rest = c.labelled k (in_front xs rest)
in_front (c.default_label ∷ xs) rest = c.otherwise (in_front xs rest)
in_front (c.inner s ∷ xs) rest = c.stated s (in_front xs rest)

-- the label that a statement of a switch is
abbrev pub label_in : Plain → Option SwitchItem
label_in (case_label z) = Some (c.label (constants.Signed (convert Int z)))
label_in default_label = Some c.default_label
label_in s = None

-- a branch by the number in a register
abbrev pub branched : ℕ → Body → Body → Statement
branched r first second = c.choose (integer_in r) first second

-- what a turn begins with that a step follows, with its statements in a switch
abbrev pub head : ℕ → SwitchItems → List Statement
head d items = flag_set d 0 ∷ c.select nought items ∷ if_flag d (c.leave ∷ []) ∷ []

-- the statements of a turn before its step; alone where there is none
abbrev pub begun : Bool → Plains → Inside → Keeping → List Statement
begun true ss x g = all_lowered ss (in_loop x) g
begun false ss x g = head x.depth (c.otherwise (stated_all (all_lowered ss (in_stepped x) g) c.closed))
