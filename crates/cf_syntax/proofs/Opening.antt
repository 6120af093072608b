-- Scopes of classes that are opened one after another.
use Rattle.std.proofs.Common.{◌≡◌, ℕ, List, [], ◌∷◌, ◌++◌, map, sym, ◌∙◌, ap, append_assoc}
use Rattle.std.proofs.lemmas.List.{map-append}
use Rattle.cf_syntax.specs.declared.type_names.Scope.{Scope}
use Rattle.cf_syntax.specs.declared.type_names.Scope.TheVariants.{Class}
use Rattle.cf_syntax.specs.NamesData.{Names}
use Rattle.cf_syntax.specs.Names.{with_scope}
use Rattle.cf_syntax.specs.Named.{opened}

pub opened_push : (names : Names) (classes : List ℕ) (class : ℕ) → with_scope (opened names classes) (Class class) ≡ opened names (classes ++ class ∷ [])
opened_push names classes class = ap with_inner (append_assoc names.inner (map Class classes) (Class class ∷ []) ∙ ap (λ s. names.inner ++ s) (sym (map-append Class classes (class ∷ []))))
  where
    with_inner : List Scope → Names
    with_inner scopes = record { classes = names.classes; file = names.file; inner = scopes }
