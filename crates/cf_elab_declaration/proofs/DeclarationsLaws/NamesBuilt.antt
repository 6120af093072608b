-- The name in a declarator that is built is an identifier that nothing qualifies.
use Rattle.std.proofs.Common.{◌≡◌, ℕ, Bool, true, false, if◌then◌else◌, List, [], ◌∷◌, Option, None, Some, refl, sym, ap, subst, ◌∙◌}
use Rattle.cf_syntax.specs.declared.declarator.DeclTree.{DeclTree, roll-DeclTree, ind-DeclTree}
use Rattle.cf_syntax.specs.declared.declarator.DeclTree.TheFolds.{fold-roll-DeclTree, map-DeclTree}
use Rattle.cf_syntax.specs.declared.declarator.DeclTree.TheOpen.{DeclTree-F}
use Rattle.cf_syntax.specs.declared.declarator.Param.{Param}
use Rattle.cf_syntax.specs.declared.declarator.TypeId.{TypeId}
use Rattle.cf_syntax.specs.declared.expression.Expr.{Expr}
use Rattle.cf_syntax.specs.declared.name.Name.{Name as WrittenName}
use Rattle.cf_elab.specs.Answer.{Elab}
use Rattle.cf_elab.specs.Built as built
use Rattle.cf_elab.specs.Built.{Place, of_name, of_last, is_qualified}
use Rattle.cf_elab.specs.Declarator.{Declared, declared_step, parameter_step, type_id_step}
use Rattle.cf_elab.specs.Expression.{elaborated, declared, expression_step}
use Rattle.cf_elab.specs.Operand.{Part}
use Rattle.cf_elab.specs.Shape.{Parameter}
use Rattle.cf_elab_declaration.specs.Enums.ExprShut as shut
use Rattle.cf_elab_declaration.specs.Enums.ExprShut.{parameter_place, type_place}
use Rattle.cf_elab_declaration.proofs.EnumsLaws.ExprBuiltForms.{left, right}
use Rattle.cf_elab_declaration.proofs.EnumsLaws.ExprParts.{parameter, type_of}

abbrev Layer : Type 0
Layer = DeclTree-F DeclTree Expr Param TypeId

-- the place in a declarator and its name, by its parts
abbrev place_in : Layer → Place
place_in x = built.tree_step (map-DeclTree DeclTree Expr Param TypeId Place Place Place Place built.declarator built.expression parameter_place type_place x)

abbrev declared_in : Layer → Declared
declared_in x = declared_step (map-DeclTree DeclTree Expr Param TypeId Declared Part (Elab Parameter) (Elab ℕ) declared elaborated parameter type_of x)

seen : (x : Layer) → built.declarator (roll-DeclTree x) ≡ place_in x
seen x = fold-roll-DeclTree Place Place Place Place built.tree_step built.expression_step built.param_step built.type_step x

made_of : (x : Layer) → declared (roll-DeclTree x) ≡ declared_in x
made_of x = fold-roll-DeclTree Declared Part (Elab Parameter) (Elab ℕ) declared_step expression_step parameter_step type_id_step x

-- where all is built, the name is a plain one
abbrev IsPlain : Place → Option WrittenName → Type 0
IsPlain place name = place ≡ None → (n : WrittenName) → name ≡ Some n → of_name n ≡ None

abbrev TreeIsPlain : DeclTree → Type 0
TreeIsPlain d = IsPlain (built.declarator d) (declared d).name

module _ {A B C D : Type 0} (f : A → DeclTree) (g : B → Expr) (h : C → Param) (k : D → TypeId) (plain : (a : A) → TreeIsPlain (f a)) where
  abbrev layer : DeclTree-F A B C D → Layer
  layer = map-DeclTree A B C D DeclTree Expr Param TypeId f g h k

  by_form : (y : DeclTree-F A B C D) → IsPlain (place_in (layer y)) (declared_in (layer y)).name
  by_form DeclTree-F.Unnamed built n is = cc
  by_form (DeclTree-F.Declared m) built n is = let same : m ≡ n = cc in subst (λ n. of_name n ≡ None) same built
  by_form (DeclTree-F.Pointed p a) built n is = plain a (right _ _ built) n is
  by_form (DeclTree-F.Bracketed at a) built n is = plain a built n is
  by_form (DeclTree-F.Function at a ps c) built n is = plain a (left _ _ built) n is
  by_form (DeclTree-F.Array at a b) built n is = plain a (left _ _ built) n is

  by_layer : (y : DeclTree-F A B C D) → TreeIsPlain (roll-DeclTree (layer y))
  by_layer y built n is = by_form y (sym (seen (layer y)) ∙ built) n (sym (ap (λ (d : Declared). d.name) (made_of (layer y))) ∙ is)

tree_is_plain : (d : DeclTree) → TreeIsPlain d
tree_is_plain =
    ind-DeclTree TreeIsPlain (λ _. Unit {0}) (λ _. Unit {0}) (λ _. Unit {0})
    (λ x y is. subst (λ x. TreeIsPlain (roll-DeclTree x)) is (by_layer (λ e. e.0) (λ e. e.0) (λ e. e.0) (λ e. e.0) (λ e. e.1) y))
    (λ _ _ _. tt) (λ _ _ _. tt) (λ _ _ _. tt)

pub name_plain : (d : DeclTree) (n : WrittenName) → shut.TreeIsBuilt d → Some n ≡ shut.name_of d → of_name n ≡ None
unfolding shut.TreeIsBuilt shut.name_of
name_plain d n built is = tree_is_plain d built n (sym is)

-- no scope stands before a plain name
pub no_scopes : (n : WrittenName) → of_name n ≡ None → n.scopes ≡ []
no_scopes n built = by n.from_file n.scopes built
  where
    by : (from_file : Bool) (scopes : List (List ℕ)) → (if is_qualified from_file scopes then Some n.at else of_last n.at n.last) ≡ None → scopes ≡ []
    by true scopes h = cc
    by false [] h = refl
    by false (s ∷ rest) h = cc
