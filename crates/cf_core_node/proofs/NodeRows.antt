-- The forms of some nodes.
use Rattle.std.proofs.Common.{◌≡◌, [], ◌∷◌, None, Ok, Err, ℕ, false}
use Rattle.std.specs.Prelude.{pos, codes}
use Rattle.cf_base.specs.declared.kind.Kind.TheVariants.{Int}
use Rattle.cf_types.specs.Table.{Table}
use Rattle.cf_types.specs.declared.ty.Ty.TheVariants as ty
use Rattle.cf_core.specs.declared.node.Core.{Core, roll-Core}
use Rattle.cf_core.specs.declared.node.Core.TheOpen.{Core-F}
use Rattle.cf_core.specs.declared.node.Core.TheFolds.{fold-roll-Core}
use Rattle.cf_core.specs.Joined.{in_file}
use Rattle.cf_run_tree.specs.declared.shape.Form.TheVariants as form
use Rattle.cf_run_tree.specs.declared.node.Node.{Node}
use Rattle.cf_run_tree.specs.declared.node.Node.TheVariants as node
use Rattle.cf_core_node.specs.declared.defined.Defined.{Defined}
use Rattle.cf_core_node.specs.Formed.{Formed}
use Rattle.cf_core_node.specs.Nodes.{node_of, step, no_part}

-- int, and int()
abbrev types : Table
types = record { types = ty.Int Int ∷ (ty.Fun 0 ∷ []); funs = record { result = 0; params = []; is_const = false } ∷ [] }

-- in a file with a name `f` of its own, whose function `h` takes an int
abbrev file : Defined
file = record {
  own = codes "f" ∷ [];
  functions = record { name = codes "h"; params = 0 ∷ []; result = 0 } ∷ [];
  statics = [];
}

abbrev form_of : Core → Formed Node
form_of = node_of types file

abbrev number : ℕ → Core
number n = roll-Core (Core-F.Number 0 (pos n))

-- 1,2
operands_in_order : form_of (roll-Core (Core-F.Comma 0 (number 1 ∷ (number 2 ∷ [])))) ≡ Ok (node.Comma (node.Number (pos 1) ∷ (node.Number (pos 2) ∷ [])))
operands_in_order = simp (fold-roll-Core (Formed Node) (Unit {0}) (step types file) no_part)

-- f() and g()
own_function : form_of (roll-Core (Core-F.Call 4 (codes "f") 1 None []))
    ≡ Ok (node.Call (in_file 1 (codes "f")) (record { params = []; result = record { is_const = false; form = form.Integer Int } }) [])
own_function = simp (fold-roll-Core (Formed Node) (Unit {0}) (step types file) no_part)

other_function : form_of (roll-Core (Core-F.Call 4 (codes "g") 1 None []))
    ≡ Ok (node.Call (codes "g") (record { params = []; result = record { is_const = false; form = form.Integer Int } }) [])
other_function = simp (fold-roll-Core (Formed Node) (Unit {0}) (step types file) no_part)

-- h(), as if it took nothing
other_type : form_of (roll-Core (Core-F.Call 4 (codes "h") 1 None [])) ≡ Err 4
other_type = simp (fold-roll-Core (Formed Node) (Unit {0}) (step types file) no_part)

-- 1&&this||this: the first construct without a form
first_of_two : form_of (roll-Core (Core-F.Or 3 (roll-Core (Core-F.And 1 (number 1) (roll-Core (Core-F.This 2)))) (roll-Core (Core-F.This 4)))) ≡ Err 2
first_of_two = simp (fold-roll-Core (Formed Node) (Unit {0}) (step types file) no_part)
