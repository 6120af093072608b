-- The parts of the `main` that the linker adds.
use Rattle.std.specs.Prelude.{ℕ, Bool, false, ◌&&◌, List, [], ◌∷◌, ◌++◌, Some, None, codes, bytes_eq}
use Rattle.cc_whole.specs.declared.types.CType.TheVariants as ty
use Rattle.cc_whole.specs.declared.types.CLocalType.TheVariants as «local»
use Rattle.cc_whole.specs.declared.expression.CPlace.TheVariants as place
use Rattle.cc_whole.specs.declared.expression.CExpression.TheVariants as tree
use Rattle.cc_whole.specs.declared.statement.CLocal.{CLocal}
use Rattle.cc_whole.specs.declared.statement.CStatement.{CStatement}
use Rattle.cc_whole.specs.declared.statement.CStatement.TheVariants as statement
use Rattle.cc_whole.specs.declared.statement.CCallee.TheVariants as callee
use Rattle.cc_whole.specs.declared.unit.CPrototype.{CPrototype}
use Rattle.cc_whole_link.specs.Link.{calls_of}
use Rattle.cc_whole_link.specs.Placed.{Placed, old_name, defines_it}
use Rattle.cc_whole_placed.specs.declared.placed.PlacedItem.{PlacedItem}
use Rattle.cc_whole_placed.specs.Seen.{placed_of}

-- `name();`
abbrev pub plain_call : List ℕ → CStatement
plain_call name = statement.Call None (callee.Name name) []

-- a static function that has this name in its unit
abbrev pub is_static_one : List ℕ → PlacedItem → Bool
is_static_one name p = defines_it (placed_of p) && (p.is_static && bytes_eq (old_name (placed_of p)) name)

-- `status = __main();`
abbrev pub status_call : CStatement
status_call = statement.Call (Some (place.Name (codes "status"))) (callee.Name (codes "__main")) []

-- `return status;`
abbrev pub status_return : CStatement
status_return = statement.Return (Some (tree.Load (place.Name (codes "status"))))

abbrev pub main_statements : List Placed → List CStatement
main_statements all = calls_of (codes "__hci") all ++ (calls_of (codes "__sti") all ++ (status_call ∷ status_return ∷ []))

-- `int status;`
abbrev pub status_local : List CLocal
status_local = record { ty = «local».Scalar ty.Int; name = codes "status" } ∷ []

-- `int main(void)`
abbrev pub main_head : CPrototype
main_head = record { is_static = false; result = Some ty.Int; name = codes "main"; parameters = [] }
