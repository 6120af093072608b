-- The forms of expressions that are built are made of parts that are built.
use Rattle.std.proofs.Common.{◌≡◌, ℕ, zero, suc, ◌<◌, Bool, true, false, List, [], ◌∷◌, map, length, get_or, None, Some, refl, sym, ap, ◌∙◌, if◌then◌else◌, nat_le, arith}
use Rattle.cf_syntax.specs.declared.declarator.DeclTree.{DeclTree}
use Rattle.cf_syntax.specs.declared.declarator.DeclTree.TheOpen.{Expr-F}
use Rattle.cf_syntax.specs.declared.declarator.DeclTree.TheFolds.{fold-roll-Expr, map-Expr}
use Rattle.cf_syntax.specs.declared.declarator.Param.{Param}
use Rattle.cf_syntax.specs.declared.declarator.TypeId.{TypeId}
use Rattle.cf_syntax.specs.declared.expression.Expr.{Expr, roll-Expr}
use Rattle.cf_syntax.specs.declared.expression.Expr.TheVariants as form
use Rattle.cf_syntax.specs.declared.name.Name.{Name as WrittenName}
use Rattle.cf_syntax.specs.declared.name.Path.{Path}
use Rattle.cf_syntax.specs.declared.operator.AssignOp.{AssignOp}
use Rattle.cf_syntax.specs.declared.operator.BinaryOp.{BinaryOp}
use Rattle.cf_syntax.specs.declared.operator.PrefixOp.{PrefixOp}
use Rattle.cf_syntax.specs.declared.operator.StepOp.{StepOp}
use Rattle.cf_syntax.specs.declared.specifier.BasicType.{BasicType}
use Rattle.cf_syntax.specs.declared.specifier.Pointer.{Pointer}
use Rattle.cf_syntax.specs.declared.specifier.TypeSpecifier.{TypeSpecifier}
use Rattle.cf_elab.specs.Built as built
use Rattle.cf_elab.specs.Built.{Place, first, first_of}
use Rattle.cf_elab_expr.specs.Shut.{IsBuilt, AreBuilt, TypeIsBuilt, parameter_place, type_place}

abbrev place : Expr → Place
place = built.expression

seen : (x : Expr-F DeclTree Expr Param TypeId)
    → place (roll-Expr x) ≡ built.expression_step (map-Expr DeclTree Expr Param TypeId Place Place Place Place built.declarator place parameter_place type_place x)
seen x = fold-roll-Expr Place Place Place Place built.tree_step built.expression_step built.param_step built.type_step x

pub left : (a b : Place) → first a b ≡ None → a ≡ None
left None b h = refl
left (Some n) None h = h
left (Some n) (Some m) h = by (nat_le n m) h
  where
    by : (t : Bool) → (if t then Some n else Some m) ≡ None → Some n ≡ None
    by true h = h
    by false h = cc

pub right : (a b : Place) → first a b ≡ None → b ≡ None
right None b h = h
right (Some n) None h = refl
right (Some n) (Some m) h = by (nat_le n m) h
  where
    by : (t : Bool) → (if t then Some n else Some m) ≡ None → Some m ≡ None
    by true h = cc
    by false h = h

module _ (at : ℕ) where
  pub paren_inside : (a : Expr) → IsBuilt (form.Paren at a) → IsBuilt a
  unfolding IsBuilt roll-Expr denote.Hole.Carrier.roll
  paren_inside a h = sym (seen (Expr-F.Paren at a)) ∙ h

  pub before_inside : (op : StepOp) (a : Expr) → IsBuilt (form.StepBefore at op a) → IsBuilt a
  unfolding IsBuilt roll-Expr denote.Hole.Carrier.roll
  before_inside op a h = sym (seen (Expr-F.StepBefore at op a)) ∙ h

  pub behind_inside : (op : StepOp) (a : Expr) → IsBuilt (form.StepAfter at op a) → IsBuilt a
  unfolding IsBuilt roll-Expr denote.Hole.Carrier.roll
  behind_inside op a h = sym (seen (Expr-F.StepAfter at op a)) ∙ h

  pub prefix_inside : (op : PrefixOp) (a : Expr) → IsBuilt (form.Prefix at op a) → IsBuilt a
  unfolding IsBuilt roll-Expr denote.Hole.Carrier.roll
  prefix_inside op a h = sym (seen (Expr-F.Prefix at op a)) ∙ h

  pub size_inside : (a : Expr) → IsBuilt (form.SizeofExpr at a) → IsBuilt a
  unfolding IsBuilt roll-Expr denote.Hole.Carrier.roll
  size_inside a h = sym (seen (Expr-F.SizeofExpr at a)) ∙ h

  pub index_left : (a b : Expr) → IsBuilt (form.Index at a b) → IsBuilt a
  unfolding IsBuilt roll-Expr denote.Hole.Carrier.roll
  index_left a b h = left (place a) (place b) (sym (seen (Expr-F.Index at a b)) ∙ h)

  pub index_right : (a b : Expr) → IsBuilt (form.Index at a b) → IsBuilt b
  unfolding IsBuilt roll-Expr denote.Hole.Carrier.roll
  index_right a b h = right (place a) (place b) (sym (seen (Expr-F.Index at a b)) ∙ h)

  pub assign_left : (op : AssignOp) (a b : Expr) → IsBuilt (form.Assign at op a b) → IsBuilt a
  unfolding IsBuilt roll-Expr denote.Hole.Carrier.roll
  assign_left op a b h = left (place a) (place b) (sym (seen (Expr-F.Assign at op a b)) ∙ h)

  pub assign_right : (op : AssignOp) (a b : Expr) → IsBuilt (form.Assign at op a b) → IsBuilt b
  unfolding IsBuilt roll-Expr denote.Hole.Carrier.roll
  assign_right op a b h = right (place a) (place b) (sym (seen (Expr-F.Assign at op a b)) ∙ h)

  module _ (op : BinaryOp) (a b : Expr) (h : IsBuilt (form.Binary at op a b)) where
    abbrev both : Place
    both = first (place a) (place b)

    all_three : first (built.of_binary at op) both ≡ None
    unfolding IsBuilt roll-Expr denote.Hole.Carrier.roll
    all_three = sym (seen (Expr-F.Binary at op a b)) ∙ h

    pub binary_op : built.of_binary at op ≡ None
    binary_op = left (built.of_binary at op) both all_three

    pub binary_left : IsBuilt a
    unfolding IsBuilt
    binary_left = left (place a) (place b) (right (built.of_binary at op) both all_three)

    pub binary_right : IsBuilt b
    unfolding IsBuilt
    binary_right = right (place a) (place b) (right (built.of_binary at op) both all_three)

  module _ (c a b : Expr) (h : IsBuilt (form.Conditional at c a b)) where
    abbrev pair : Place
    pair = first (place a) (place b)

    of_three : first (place c) pair ≡ None
    unfolding IsBuilt roll-Expr denote.Hole.Carrier.roll
    of_three = sym (seen (Expr-F.Conditional at c a b)) ∙ h

    pub conditional_first : IsBuilt c
    unfolding IsBuilt
    conditional_first = left (place c) pair of_three

    pub conditional_second : IsBuilt a
    unfolding IsBuilt
    conditional_second = left (place a) (place b) (right (place c) pair of_three)

    pub conditional_third : IsBuilt b
    unfolding IsBuilt
    conditional_third = right (place a) (place b) (right (place c) pair of_three)

  pub comma_inside : (es : List Expr) → IsBuilt (form.Comma at es) → AreBuilt es
  unfolding IsBuilt AreBuilt roll-Expr denote.Hole.Carrier.roll
  comma_inside es h = sym (seen (Expr-F.Comma at es)) ∙ h

  pub call_called : (f : Expr) (es : List Expr) → IsBuilt (form.Call at f es) → IsBuilt f
  unfolding IsBuilt roll-Expr denote.Hole.Carrier.roll
  call_called f es h = left (place f) (first_of (map place es)) (sym (seen (Expr-F.Call at f es)) ∙ h)

  pub call_arguments : (f : Expr) (es : List Expr) → IsBuilt (form.Call at f es) → AreBuilt es
  unfolding IsBuilt AreBuilt roll-Expr denote.Hole.Carrier.roll
  call_arguments f es h = right (place f) (first_of (map place es)) (sym (seen (Expr-F.Call at f es)) ∙ h)

  pub basic_arguments : (b : BasicType) (es : List Expr) → IsBuilt (form.BasicCall at b es) → AreBuilt es
  unfolding IsBuilt AreBuilt roll-Expr denote.Hole.Carrier.roll
  basic_arguments b es h = sym (seen (Expr-F.BasicCall at b es)) ∙ h

  pub typed_path : (p : Path) (es : List Expr) → IsBuilt (form.TypeCall at p es) → built.of_path p ≡ None
  unfolding IsBuilt roll-Expr denote.Hole.Carrier.roll
  typed_path p es h = left (built.of_path p) (first_of (map place es)) (sym (seen (Expr-F.TypeCall at p es)) ∙ h)

  pub typed_arguments : (p : Path) (es : List Expr) → IsBuilt (form.TypeCall at p es) → AreBuilt es
  unfolding IsBuilt AreBuilt roll-Expr denote.Hole.Carrier.roll
  typed_arguments p es h = right (built.of_path p) (first_of (map place es)) (sym (seen (Expr-F.TypeCall at p es)) ∙ h)

  pub size_of_type : (t : TypeId) → IsBuilt (form.SizeofType at t) → TypeIsBuilt t
  unfolding IsBuilt TypeIsBuilt roll-Expr denote.Hole.Carrier.roll
  size_of_type t h = sym (seen (Expr-F.SizeofType at t)) ∙ h

  pub cast_type : (t : TypeId) (a : Expr) → IsBuilt (form.Cast at t a) → TypeIsBuilt t
  unfolding IsBuilt TypeIsBuilt roll-Expr denote.Hole.Carrier.roll
  cast_type t a h = left (type_place t) (place a) (sym (seen (Expr-F.Cast at t a)) ∙ h)

  pub cast_value : (t : TypeId) (a : Expr) → IsBuilt (form.Cast at t a) → IsBuilt a
  unfolding IsBuilt roll-Expr denote.Hole.Carrier.roll
  cast_value t a h = right (type_place t) (place a) (sym (seen (Expr-F.Cast at t a)) ∙ h)

  -- ---- forms that are not built

  pub no_this : IsBuilt (form.This at) → ⊥
  unfolding IsBuilt roll-Expr denote.Hole.Carrier.roll
  no_this h = let e : Some at ≡ None = sym (seen (Expr-F.This at)) ∙ h in absurd cc

  no_first : (a : Place) → first (Some at) a ≡ None → ⊥
  no_first a h = let e : Some at ≡ None = left (Some at) a h in absurd cc

  pub no_dot : (a : Expr) (n : WrittenName) → IsBuilt (form.Dot at a n) → ⊥
  unfolding IsBuilt roll-Expr denote.Hole.Carrier.roll
  no_dot a n h = no_first (place a) (sym (seen (Expr-F.Dot at a n)) ∙ h)

  pub no_arrow : (a : Expr) (n : WrittenName) → IsBuilt (form.Arrow at a n) → ⊥
  unfolding IsBuilt roll-Expr denote.Hole.Carrier.roll
  no_arrow a n h = no_first (place a) (sym (seen (Expr-F.Arrow at a n)) ∙ h)

  pub no_delete : (file is_array : Bool) (a : Expr) → IsBuilt (form.Delete at file is_array a) → ⊥
  unfolding IsBuilt roll-Expr denote.Hole.Carrier.roll
  no_delete file is_array a h = let e : Some at ≡ None = sym (seen (Expr-F.Delete at file is_array a)) ∙ h in absurd cc

  pub no_new : (file : Bool) (ss : List TypeSpecifier) (ps : List Pointer) (bs : List Expr) (has : Bool) (es : List Expr) → IsBuilt (form.New at file ss ps bs has es) → ⊥
  unfolding IsBuilt roll-Expr denote.Hole.Carrier.roll
  no_new file ss ps bs has es h = let e : Some at ≡ None = sym (seen (Expr-F.New at file ss ps bs has es)) ∙ h in absurd cc

  pub no_bracketed : (file : Bool) (t : TypeId) (has : Bool) (es : List Expr) → IsBuilt (form.NewBracketed at file t has es) → ⊥
  unfolding IsBuilt roll-Expr denote.Hole.Carrier.roll
  no_bracketed file t has es h = let e : Some at ≡ None = sym (seen (Expr-F.NewBracketed at file t has es)) ∙ h in absurd cc

pub name_built : (n : WrittenName) → IsBuilt (form.Named n) → built.of_name n ≡ None
unfolding IsBuilt roll-Expr denote.Hole.Carrier.roll
name_built n h = sym (seen (Expr-F.Named n)) ∙ h

-- each of several
pub one_built : (es : List Expr) (i : ℕ) (e : Expr) → AreBuilt es → i < length es → e ≡ get_or es i e → IsBuilt e
unfolding AreBuilt IsBuilt
one_built [] i e h lt is = absurd (omega arith)
one_built (x ∷ es) zero e h lt is = ap place is ∙ left (place x) (first_of (map place es)) h
one_built (x ∷ es) (suc i) e h lt is = one_built es i e (right (place x) (first_of (map place es)) h) (omega arith) is

pub ruleset unbuilt_laws = (no_this, no_dot, no_arrow, no_delete, no_new, no_bracketed)

-- as `built.expression` says it
pub is_built : (e : Expr) → built.expression e ≡ None → IsBuilt e
unfolding IsBuilt
is_built e h = h

pub are_built : (es : List Expr) → first_of (map built.expression es) ≡ None → AreBuilt es
unfolding AreBuilt
are_built es h = h
