-- Expressions, statements and bodies: what stands for their tokens is spelled, and stands beside them.
use Rattle.std.proofs.Common.{◌≡◌, ℕ, List, [], ◌∷◌, ◌++◌, Option, Some, None, refl, ap, sym, ◌∙◌, subst, arith, pos}
use Rattle.cc_whole_tokens.specs.declared.mark.Mark.TheVariants as mark
use Rattle.cc_whole_tokens.specs.declared.token.Token.{Token}
use Rattle.cc_whole_tokens.specs.declared.token.Token.TheVariants as token
use Rattle.cc_whole.specs.declared.types.CType.TheVariants as ty
use Rattle.cc_whole.specs.declared.types.CConstant.{CConstant}
use Rattle.cc_whole.specs.declared.types.CConstant.TheVariants as int
use Rattle.cc_whole.specs.declared.expression.CPlace.{CPlace}
use Rattle.cc_whole.specs.declared.expression.CPlace.TheVariants as place
use Rattle.cc_whole.specs.declared.expression.CExpression.{CExpression}
use Rattle.cc_whole.specs.declared.expression.CExpression.TheVariants as tree
use Rattle.cc_whole.specs.SpellsTypes as types
use Rattle.cc_whole.specs.SpellsTypes.{sign, SpellsConstant, type_tokens, signature_tokens}
use Rattle.cc_whole.specs.Spells as g
use Rattle.cc_whole.specs.Spells.{bracketed, SpellsPlace, SpellsExpression, SpellsSome, SpellsArguments, SpellsCallee, SpellsTarget}
use Rattle.cc_whole.specs.Plain.{Expression, cast, place_of, expression_of}
use Rattle.cc_whole.specs.Landmarks.{type_marks, marks}
use Rattle.cc_whole.specs.Typed.{typed}
use Rattle.cc_whole_laws.proofs.Counts.{count-append, count-bracketed, count-type, joins-sign}
use Rattle.cc_whole_laws.proofs.TreeMarks.{count-expression}
use Rattle.cc_whole_laws.proofs.Views.{of-At, of-Constant, of-Load, of-Unary, of-Cast, of-Binary}
use Rattle.cc_whole_fitting.specs.declared.before.Before.{Before}
use Rattle.cc_whole_fitting.specs.declared.before.Before.TheVariants as before
use Rattle.cc_whole_fitting.specs.Numbers.{behind_star}
use Rattle.cc_whole_wide.specs.declared.role.Role.{Role}
use Rattle.cc_whole_wide.specs.declared.role.Role.TheVariants as role
use Rattle.cc_whole_wide.specs.Others.{later, breaking_tokens}
use Rattle.cc_whole_wide.proofs.Stopping.{first_of, Beside, same}
use Rattle.cc_whole_wide.proofs.ExpressionSides.{breaking, beside_constant, beside_unary, beside_cast, beside_binary, PlaceBeside, itself, beside_pointed, beside_load}
use Rattle.cc_whole_wide.proofs.Turns.{Turned, Calm, nothing, told, later_zero, both, silent, worded, value_calm, in_brackets}
use Rattle.cc_whole_wide.proofs.TypeTurns.{Constant, fits, wide, constant_turned, joins_stays, prefix_stays, prefix_none, cast_stays, pointed_stays}

-- what stands for a part, which is spelled, and beside it
pub record Other {X Y : Type 0} (S : X → List Token → Type 0) (view : X → Y) (sides : Option ℕ → Y → Y → Type 0) (b : Before) (r : Role) (c : Before) (q : Role) (x : X)
    (xs : List Token) : Type 0 where
  pub tree : X
  pub tokens : List Token
  pub found : Option ℕ
  pub spells : S tree tokens
  pub turned : Turned b r xs tokens found c q
  pub beside : sides found (view x) (view tree)

-- the same trees by other names
pub seen : {Y : Type 0} (sides : Option ℕ → Y → Y → Type 0) {o : Option ℕ} {x y u v : Y} → x ≡ u → y ≡ v → sides o u v → sides o x y
seen sides {o} {x} {y} {u} {v} e f h = subst (λ z. sides o z y) (sym e) (subst (λ z. sides o u z) (sym f) h)

abbrev pub Besides : Option ℕ → Expression → Expression → Type 0
Besides = Beside typed

abbrev pub OtherExpression : ℕ → CExpression → List Token → Type 0
OtherExpression level e xs = Other (SpellsExpression level) expression_of Besides before.Other role.Value before.Operand role.Value e xs

abbrev pub OtherPlace : Before → Role → CPlace → List Token → Type 0
OtherPlace b r p xs = Other SpellsPlace place_of PlaceBeside b r before.Operand role.Value p xs

-- `(__f)1`
pub broken_tree : CExpression
broken_tree = tree.Cast ty.FunctionPointer (tree.Constant (int.Signed (pos 1)))

pub broken_spells : SpellsExpression 0 broken_tree breaking_tokens
unfolding broken_tree
broken_spells =
    g.SpellsExpression.cast ty.FunctionPointer (tree.Constant (int.Signed (pos 1))) (token.Signed (49 ∷ []) ∷ [])
    (g.SpellsExpression.number (int.Signed (pos 1)) (token.Signed (49 ∷ []) ∷ []) (types.SpellsConstant.signed (49 ∷ [])))

pub broken_is : expression_of broken_tree ≡ breaking
unfolding broken_tree
broken_is = of-Cast ty.FunctionPointer (tree.Constant (int.Signed (pos 1))) ∙ ap (λ e. cast ty.FunctionPointer e) (of-Constant (int.Signed (pos 1)))

other_number : (c : CConstant) (xs : List Token) → SpellsConstant c xs → Constant role.Value c xs → OtherExpression 0 (tree.Constant c) xs
other_number c xs d (fits f t) = record {
  tree = tree.Constant c;
  tokens = xs;
  found = None;
  spells = g.SpellsExpression.number c xs d;
  turned = t;
  beside = same (expression_of (tree.Constant c));
}
other_number c xs d (wide f t) = record {
  tree = broken_tree;
  tokens = breaking_tokens;
  found = Some 0;
  spells = broken_spells;
  turned = t;
  beside = seen Besides (of-Constant c) broken_is (beside_constant c f);
}

mutual
  pub other_place : {p : CPlace} {xs : List Token} (b : Before) (r : Role) → Calm r → SpellsPlace p xs → OtherPlace b r p xs
  other_place b r calm (g.SpellsPlace.name name) = record {
    tree = place.Name name;
    tokens = token.Name name ∷ [];
    found = None;
    spells = g.SpellsPlace.name name;
    turned = worded name calm (nothing before.Operand role.Value);
    beside = itself (place_of (place.Name name));
  }
  other_place b r calm (g.SpellsPlace.pointed t e xs d) =
      let x = other_expression d in
      record {
        tree = place.At t x.tree;
        tokens = token.Mark mark.Star ∷ (bracketed (type_tokens t ++ sign mark.Star) ++ bracketed x.tokens);
        found = later (type_marks t) x.found;
        spells = g.SpellsPlace.pointed t x.tree x.tokens x.spells;
        turned = told (ap (λ n. later n x.found) (omega (arith, count-bracketed (type_tokens t ++ sign mark.Star), count-append (type_tokens t) (sign mark.Star), count-type t)))
            (silent mark.Star refl (both (pointed_stays t (behind_star b) role.Value) (in_brackets before.Other role.Value x.turned)));
        beside = seen PlaceBeside (of-At t e) (of-At t x.tree) (beside_pointed t x.beside);
      }

  pub other_expression : {level : ℕ} {e : CExpression} {xs : List Token} → SpellsExpression level e xs → OtherExpression level e xs
  other_expression (g.SpellsExpression.number c xs d) = other_number c xs d (constant_turned role.Value value_calm d)
  other_expression (g.SpellsExpression.load p ps d) =
      let x = other_place before.Other role.Value value_calm d in
      record {
        tree = tree.Load x.tree;
        tokens = x.tokens;
        found = x.found;
        spells = g.SpellsExpression.load x.tree x.tokens x.spells;
        turned = x.turned;
        beside = seen Besides (of-Load p) (of-Load x.tree) (beside_load x.beside);
      }
  other_expression (g.SpellsExpression.prefixed o e xs d) =
      let x = other_expression d in
      record {
        tree = tree.Unary o x.tree;
        tokens = _;
        found = x.found;
        spells = g.SpellsExpression.prefixed o x.tree x.tokens x.spells;
        turned = told (ap (λ n. later n x.found) (prefix_none o) ∙ later_zero x.found) (both (prefix_stays o before.Other role.Value) x.turned);
        beside = seen Besides (of-Unary o e) (of-Unary o x.tree) (beside_unary o x.beside);
      }
  other_expression (g.SpellsExpression.cast t e xs d) =
      let x = other_expression d in
      record {
        tree = tree.Cast t x.tree;
        tokens = _;
        found = later (type_marks t) x.found;
        spells = g.SpellsExpression.cast t x.tree x.tokens x.spells;
        turned = told (ap (λ n. later n x.found) (omega (arith, count-bracketed (type_tokens t), count-type t))) (both (cast_stays t before.Other role.Value) x.turned);
        beside = seen Besides (of-Cast t e) (of-Cast t x.tree) (beside_cast t x.beside);
      }
  other_expression (g.SpellsExpression.address name) = record {
    tree = tree.AddressOf name;
    tokens = _;
    found = None;
    spells = g.SpellsExpression.address name;
    turned = record { puts = refl; after = refl; serves = refl; wide = refl; fit = refl; ends = refl };
    beside = same (expression_of (tree.AddressOf name));
  }
  other_expression (g.SpellsExpression.brackets e xs d) =
      let x = other_expression d in
      record {
        tree = x.tree;
        tokens = bracketed x.tokens;
        found = x.found;
        spells = g.SpellsExpression.brackets x.tree x.tokens x.spells;
        turned = in_brackets before.Other role.Value x.turned;
        beside = x.beside;
      }
  other_expression (g.SpellsExpression.tighter level e xs d) =
      let x = other_expression d in
      record { tree = x.tree; tokens = x.tokens; found = x.found; spells = g.SpellsExpression.tighter level x.tree x.tokens x.spells; turned = x.turned; beside = x.beside }
  other_expression (g.SpellsExpression.joined level t o a b xs ys j c d) =
      let x = other_expression c in
      let y = other_expression d in
      record {
        tree = tree.Binary o x.tree y.tree;
        tokens = x.tokens ++ (t ∷ y.tokens);
        found = first_of x.found (marks (expression_of a)) y.found;
        spells = g.SpellsExpression.joined level t o x.tree y.tree x.tokens y.tokens j x.spells y.spells;
        turned = told (ap (λ n. first_of x.found n y.found) (count-expression c))
            (both x.turned (told (ap (λ n. later n y.found) (omega (arith, joins-sign t _ j)) ∙ later_zero y.found) (both (joins_stays t _ j) y.turned)));
        beside = seen Besides (of-Binary o a b) (of-Binary o x.tree y.tree) (beside_binary o x.beside y.beside);
      }
