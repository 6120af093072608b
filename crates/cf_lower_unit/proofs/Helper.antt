-- The helper that stores what constant initialisers do, by whether there is anything.
use Rattle.std.proofs.Common.{◌≡◌, List, [], ◌∷◌, ◌++◌, refl, sym, ap, ◌∙◌, append-nil}
use Rattle.std.specs.Prelude.{true, false, None, codes}
use Rattle.cc_whole.specs.declared.statement.CLocal.{CLocal}
use Rattle.cc_whole.specs.declared.statement.CStatement.{CStatement}
use Rattle.cc_whole.specs.declared.unit.CParameter.{CParameter}
use Rattle.cc_whole.specs.declared.unit.CPrototype.{CPrototype}
use Rattle.cc_whole.specs.Plain.{Function, Item, Statement, defines}
use Rattle.cf_core.specs.Types.{Name}
use Rattle.cf_lower.specs.Functions.{constants_function}
use Rattle.cf_lower_fn.specs.Parts.{function_with}
use Rattle.cf_lower_stmt.specs.Steps.{written}
use Rattle.cf_lower_unit.specs.Pieces.{helper}

abbrev helper_head : Name → List CParameter → CPrototype
helper_head name parameters = record {
  is_static = true;
  result = None;
  name = name;
  parameters = parameters;
}

-- the helper by its parts
pub helper_is : (name : Name) (ps : List CParameter) (ls : List CLocal) (ss : List Statement) (f : Function) → name ≡ codes "__hci" → ps ≡ [] → ls ≡ []
    → f ≡ function_with false (helper_head name ps) ls ss → f ≡ helper ss
helper_is name ps ls ss f named no_parameters no_locals is =
    is ∙ ap (λ n. function_with false (helper_head n ps) ls ss) named ∙ ap (λ l. function_with false (helper_head (codes "__hci") l) ls ss) no_parameters
    ∙ ap (λ l. function_with false (helper_head (codes "__hci") []) l ss) no_locals

pub none_stored : (code : List CStatement) (w : List Item) → code ≡ [] → w ≡ w ++ constants_function (written code)
none_stored code w none = sym (append-nil w) ∙ sym (ap (λ l. w ++ constants_function (written l)) none)

pub some_stored : (code : List CStatement) (w v : List Item) (f : Function) → (code ≡ [] → ⊥) → f ≡ helper (written code) → v ≡ w ++ defines f ∷ []
    → v ≡ w ++ constants_function (written code)
some_stored [] w v f some is pushed = absurd (some refl)
some_stored (s ∷ ss) w v f some is pushed = pushed ∙ ap (λ g. w ++ defines g ∷ []) is
