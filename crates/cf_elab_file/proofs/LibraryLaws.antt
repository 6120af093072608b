-- The functions of the library, as they are declared at the begin of a file.
use Rattle.std.proofs.Common.{◌≡◌, ℕ, ◌<◌, false, List, [], ◌∷◌, ◌++◌, length, Some, slice_get, All, IsTrue, codes, refl, ap, ◌∙◌, arith, length-append}
use Rattle.std.proofs.lemmas.List.Elements.{All-cons}
use Rattle.cf_base.specs.declared.kind.Kind.TheVariants as kind
use Rattle.cf_types.specs.declared.ty.Ty.TheVariants as ty
use Rattle.cf_types.specs.Table.{Table, AreParameters, passes, passing, is_parameter}
use Rattle.cf_types.proofs.Places.{get-front}
use Rattle.cf_elab.specs.Answer.{onward}
use Rattle.cf_elab.specs.Env.{Env, Name, FunctionEntry, functions}
use Rattle.cf_elab.specs.File.{library_entry}
use Rattle.cf_elab.specs.Operand.{sort_of}
use Rattle.cf_elab_env.specs.Holds.{Grows, IsType, IsEntry, IsEntity, IsFunctionSort}
use Rattle.cf_elab_env.specs.Shut as made
use Rattle.cf_elab_env.proofs.Growth.{grown_laws}
use Rattle.cf_elab_file.specs.Shut as shut

-- ---- one function

pub library_is : (name : Name) (r : ℕ) (ps : List ℕ) (env : Env)
    → shut.library name r ps env ≡ onward (made.function_type r ps false env) (λ t e. made.declare name (functions (length e.entries ∷ []))
    (record e { entries = e.entries ++ library_entry name t ∷ [] }))
unfolding shut.library made.function_type made.declare
library_is name r ps env = refl

pub library_known : (types : Table) (name : Name) (t : ℕ) → IsType types t → IsFunctionSort (sort_of types t) → IsEntry types (library_entry name t)
library_known types name t typed function = record { typed = typed; no_defaults = refl; function = function }

pub last_known : (types : Table) (fs : List FunctionEntry) (f : FunctionEntry) → IsEntity types (length (fs ++ f ∷ [])) (functions (length fs ∷ []))
last_known types fs f = All-cons (λ n. n < length (fs ++ f ∷ [])) (length fs) [] (omega (arith, length-append fs (f ∷ []))) (λ i d w. absurd (omega arith))

pub ruleset library_laws = (library_is, library_known, last_known, grown_laws)

-- ---- their parameters

pub none_known : (types : Table) → All (λ t. IsType types t) []
none_known types = λ i d w. absurd (omega arith)

pub none_parameter : (types : Table) → AreParameters types.types []
none_parameter types = λ i d w. absurd (omega arith)

pub one_known : (types : Table) (t : ℕ) → IsType types t → All (λ t. IsType types t) (t ∷ [])
one_known types t h = All-cons (λ t. IsType types t) t [] h (none_known types)

pub one_parameter : (types : Table) (t : ℕ) → slice_get types.types t ≡ Some (ty.Int kind.Int) → AreParameters types.types (t ∷ [])
one_parameter types t h = All-cons (λ p. IsTrue (passes is_parameter types.types p)) t [] (ap (passing is_parameter) h) (none_parameter types)

pub int_grown : (a b : Table) (t : ℕ) → Grows a b → IsType a t → slice_get a.types t ≡ Some (ty.Int kind.Int) → slice_get b.types t ≡ Some (ty.Int kind.Int)
int_grown a b t g known h = ap (λ l. slice_get l t) g.types ∙ get-front a.types g.more_types t known ∙ h

-- ---- the three

pub library_all_is : (i : ℕ) (env : Env)
    → shut.library_all i env ≡ onward (made.void env) (λ v e. onward (shut.library (codes "putchar") i (i ∷ []) e) (λ _ e. onward (shut.library (codes "getchar") i [] e) (λ _ e.
    shut.library (codes "exit") v (i ∷ []) e)))
unfolding shut.library_all shut.library made.void
library_all_is i env = refl

pub beginning_is : (env : Env) → shut.beginning env ≡ onward (made.int env) (λ i e. shut.library_all i e)
unfolding shut.beginning shut.library_all made.int
beginning_is env = refl

pub ruleset all_laws = (library_all_is, none_known, none_parameter, one_known, one_parameter, int_grown, grown_laws)

pub ruleset beginning_laws = (beginning_is)
