-- What is written of a call, by what its result is.
use Rattle.std.specs.Prelude.{ℕ, List, [], ◌∷◌, Option, Some, None}
use Rattle.cc_whole.specs.declared.types.CType.{CType}
use Rattle.cc_whole.specs.Plain as c
use Rattle.cc_whole.specs.Plain.{Callee, Statement, named, load}
use Rattle.cf_lower.specs.Expressions.{as_value}
use Rattle.cf_lower.specs.Statements.{passed, set_register}
use Rattle.cf_lower.specs.Written.{c_type, if_scalar, result_name}
use Rattle.cf_lower_layout.specs.Sorts.{Sort}

-- the C type of a scalar, if there is one
abbrev pub type_or_none : Option Sort → Option CType
type_or_none s = if_scalar s None (λ t. Some (c_type t))

-- the same as a list
abbrev pub one_type : Option Sort → List CType
one_type s = if_scalar s [] (λ t. c_type t ∷ [])

-- a call whose result, which is this scalar, is kept in a register
abbrev pub result_kept : Callee → List ℕ → ℕ → Sort → List Statement
result_kept f is r s =
    c.call (Some (named (result_name (c_type s)))) f (passed is) ∷ set_register s r (as_value s (load (named (result_name (c_type s))))) ∷ []

-- a call whose result is kept in a register, if it is a scalar
abbrev pub called_as : Callee → List ℕ → ℕ → Option Sort → List Statement
called_as f is r s = if_scalar s (c.call None f (passed is) ∷ []) (result_kept f is r)
