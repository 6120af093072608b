-- The stores of a known value in a scalar, by its cell, and of the bytes of a literal.
use Rattle.std.proofs.Common.{◌≡◌, ℕ, List, ◌++◌, Option, Some, None, refl, sym, ap, ◌∙◌}
use Rattle.std.specs.Option.{option_map}
use Rattle.cc_whole.specs.Plain.{Expression, Statement}
use Rattle.cf_base.specs.declared.kind.Kind.{Kind}
use Rattle.cf_core.specs.FromTypes.{Tables, type_of}
use Rattle.cf_core.specs.Objects.{character_kind}
use Rattle.cf_lower_layout.proofs.Characters.{kind_by_bare}
use Rattle.cf_lower_layout.specs.Sorts.{Sort, number, address, code, sort_of}
use Rattle.cf_lower_names.specs.declared.cell.Cell.{Cell}
use Rattle.cf_lower_names.specs.Cells.{sort_for, cell_of}
use Rattle.cf_lower_types.specs.declared.scalar.Scalar.{Scalar}
use Rattle.cf_lower_types.specs.Bare.{sort_in}
use Rattle.cf_lower_types.proofs.Scalars.{sort_by_bare}
use Rattle.cf_lower_stmt.proofs.Cells.{as_cell, cell_is}
use Rattle.cf_core.specs.Classes.{Class}
use Rattle.cf_core.specs.Types.{Name}
use Rattle.cf_lower.specs.Constants.{Known, at_byte, stored, stored_bytes, written as value_of}
use Rattle.cf_lower.specs.Statements.{put_bytes}
use Rattle.cf_lower_constants.specs.declared.known.Target.{Target}
use Rattle.cf_lower_constants.specs.declared.known.Target.TheVariants as target
use Rattle.cf_lower_constants.specs.declared.known.Fact.{Fact}
use Rattle.cf_lower_constants.specs.declared.known.Fact.TheVariants as fact
use Rattle.cf_lower_constants.specs.Knowing.{fact_in, target_in}
use Rattle.cf_lower_constants.specs.Stored.{put_if}

put_cell : (o : Option Sort) (a e : Expression) → put_if (as_cell o) a e ≡ put_if o a e
put_cell None a e = refl
put_cell (Some (number k)) a e = refl
put_cell (Some (address t)) a e = refl
put_cell (Some (code t)) a e = refl

pub stored_at : (tables : Tables) (cs : List Class) (f : Fact) (t : Target) (n : Name) (o : ℕ) (v : Known) (w u : List Statement) (p : Option Sort) (q : Option Cell)
    → f ≡ fact.Place o → p ≡ sort_of (target_in tables t) → q ≡ option_map cell_of p → u ≡ w ++ put_if (option_map sort_for q) (at_byte n o) (value_of cs v)
    → u ≡ w ++ stored cs (fact_in tables f t n) v
stored_at tables cs f t n o v w u p q is same cell made =
    made ∙ ap (λ s. w ++ put_if s (at_byte n o) (value_of cs v)) (cell_is (sort_of (target_in tables t)) p q same cell)
    ∙ ap (λ l. w ++ l) (put_cell (sort_of (target_in tables t)) (at_byte n o) (value_of cs v))
    ∙ sym (ap (λ g. w ++ stored cs (fact_in tables g t n) v) is)

-- of a place of one of the unit's types without const
pub bare_sort : (tables : Tables) (k : Target) (t : ℕ) (s : Option Scalar) → k ≡ target.Bare t → option_map (sort_in tables) s ≡ sort_of (type_of tables t)
    → option_map (sort_in tables) s ≡ sort_of (target_in tables k)
bare_sort tables k t s e is = is ∙ sym (sort_by_bare tables t) ∙ sym (ap (λ u. sort_of (target_in tables u)) e)

-- ---- the bytes of a literal

pub bare_kind : (tables : Tables) (k : Target) (t : ℕ) (l : Kind) → k ≡ target.Bare t → l ≡ character_kind (type_of tables t) → l ≡ character_kind (target_in tables k)
bare_kind tables k t l e is = is ∙ sym (kind_by_bare (type_of tables t)) ∙ sym (ap (λ u. character_kind (target_in tables u)) e)

pub filled_at : (tables : Tables) (cs : List Class) (f : Fact) (t : Target) (n : Name) (o : ℕ) (bytes : List ℕ) (k : Kind) (w u : List Statement)
    → f ≡ fact.Place o → k ≡ character_kind (target_in tables t) → u ≡ w ++ put_bytes k (at_byte n o) 0 bytes → u ≡ w ++ stored_bytes cs (fact_in tables f t n) bytes
filled_at tables cs f t n o bytes k w u is same made =
    made ∙ ap (λ k. w ++ put_bytes k (at_byte n o) 0 bytes) same ∙ sym (ap (λ g. w ++ stored_bytes cs (fact_in tables g t n) bytes) is)
