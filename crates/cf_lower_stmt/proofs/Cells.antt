-- What is written for a scalar is what is written for its cell.
use Rattle.std.proofs.Common.{◌≡◌, ℕ, List, [], ◌∷◌, ◌++◌, Option, Some, None, refl, ap, ◌∙◌, append_assoc}
use Rattle.std.specs.Option.{option_map}
use Rattle.cc_whole.specs.Plain as c
use Rattle.cc_whole.specs.Plain.{Callee, Expression, Statement, load, named}
use Rattle.cc_whole.specs.declared.types.CType.{CType}
use Rattle.cf_core.specs.Types.{Name}
use Rattle.cf_lower.specs.Expressions.{as_value}
use Rattle.cf_lower.specs.Written.{c_type, result_name}
use Rattle.cf_lower.specs.Statements.{passed, set_register, stored}
use Rattle.cf_lower_layout.specs.Sorts.{Sort, number, address, code}
use Rattle.cf_lower_names.specs.declared.cell.Cell.{Cell}
use Rattle.cf_lower_names.specs.Cells.{sort_for, cell_of}
use Rattle.cf_lower_stmt.specs.Calls.{called_as, result_kept, type_or_none}
use Rattle.cf_lower_stmt.specs.Steps.{given_as, local_stored, set_if}

-- the scalar of a cell
abbrev pub as_cell : Option Sort → Option Sort
as_cell o = option_map sort_for (option_map cell_of o)

-- ---- of each scalar

pub stored_cell : (o : Option Sort) (r : ℕ) (e : Expression) → stored (as_cell o) r e ≡ stored o r e
stored_cell None r e = refl
stored_cell (Some (number k)) r e = refl
stored_cell (Some (address t)) r e = refl
stored_cell (Some (code t)) r e = refl

local_cell : (o : Option Sort) (i : ℕ) (e : Expression) → local_stored (as_cell o) i e ≡ local_stored o i e
local_cell None i e = refl
local_cell (Some (number k)) i e = refl
local_cell (Some (address t)) i e = refl
local_cell (Some (code t)) i e = refl

given_cell : (o : Option Sort) (e : Expression) → given_as (as_cell o) e ≡ given_as o e
given_cell None e = refl
given_cell (Some (number k)) e = refl
given_cell (Some (address t)) e = refl
given_cell (Some (code t)) e = refl

called_cell : (f : Callee) (is : List ℕ) (r : ℕ) (o : Option Sort) → called_as f is r (as_cell o) ≡ called_as f is r o
called_cell f is r None = refl
called_cell f is r (Some (number k)) = refl
called_cell f is r (Some (address t)) = refl
called_cell f is r (Some (code t)) = refl

type_cell : (o : Option Sort) → type_or_none (as_cell o) ≡ type_or_none o
type_cell None = refl
type_cell (Some (number k)) = refl
type_cell (Some (address t)) = refl
type_cell (Some (code t)) = refl

pub set_cell : (o : Option Sort) (r : ℕ) (e : Expression) → set_if (as_cell o) r e ≡ set_if o r e
set_cell None r e = refl
set_cell (Some (number k)) r e = refl
set_cell (Some (address t)) r e = refl
set_cell (Some (code t)) r e = refl

-- ---- what is written, by a cell

module _ (o p : Option Sort) (q : Option Cell) (same : p ≡ o) (is : q ≡ option_map cell_of p) where
  pub cell_is : option_map sort_for q ≡ as_cell o
  cell_is = ap (option_map sort_for) (is ∙ ap (option_map cell_of) same)

  pub type_is : (t : Option CType) → t ≡ type_or_none (option_map sort_for q) → t ≡ type_or_none o
  type_is t made = made ∙ ap type_or_none cell_is ∙ type_cell o

  module _ (w v : List Statement) where
    pub given_by_cell : (e : Expression) → v ≡ w ++ given_as (option_map sort_for q) e → v ≡ w ++ given_as o e
    given_by_cell e made = made ∙ ap (λ s. w ++ given_as s e) cell_is ∙ ap (λ l. w ++ l) (given_cell o e)

    pub local_by_cell : (i : ℕ) (e : Expression) → v ≡ w ++ local_stored (option_map sort_for q) i e → v ≡ w ++ local_stored o i e
    local_by_cell i e made = made ∙ ap (λ s. w ++ local_stored s i e) cell_is ∙ ap (λ l. w ++ l) (local_cell o i e)

    pub called_by_cell : (f : Callee) (is : List ℕ) (r : ℕ) → v ≡ w ++ called_as f is r (option_map sort_for q) → v ≡ w ++ called_as f is r o
    called_by_cell f is r made = made ∙ ap (λ s. w ++ called_as f is r s) cell_is ∙ ap (λ l. w ++ l) (called_cell f is r o)

-- a call whose result is kept, step by step
pub call_kept : (f : Callee) (is : List ℕ) (r : ℕ) (k : Cell) (t : CType) (n m : Name) (es : List Expression) (e h : Expression) (w v u : List Statement)
    → t ≡ c_type (sort_for k) → es ≡ passed is → n ≡ result_name t → v ≡ w ++ c.call (Some (named n)) f es ∷ [] → m ≡ result_name t
    → h ≡ load (named m) → e ≡ as_value (sort_for k) h → u ≡ v ++ set_register (sort_for k) r e ∷ [] → u ≡ w ++ result_kept f is r (sort_for k)
call_kept f is r k t n m es e h w v u type values into called name held value set =
    set ∙ ap (λ l. l ++ set_register (sort_for k) r e ∷ []) called ∙ append_assoc w (c.call (Some (named n)) f es ∷ []) (set_register (sort_for k) r e ∷ [])
    ∙ ap (λ x. w ++ c.call (Some (named n)) f x ∷ set_register (sort_for k) r e ∷ []) values
    ∙ ap (λ x. w ++ c.call (Some (named x)) f (passed is) ∷ set_register (sort_for k) r e ∷ []) (into ∙ ap result_name type)
    ∙ ap (λ x. w ++ c.call (Some (named (result_name (c_type (sort_for k))))) f (passed is) ∷ set_register (sort_for k) r x ∷ [])
    (value ∙ ap (as_value (sort_for k)) (held ∙ ap (λ y. load (named y)) (name ∙ ap result_name type)))
