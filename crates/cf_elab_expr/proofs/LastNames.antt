-- The last name of an expression, by its form.
use Rattle.std.proofs.Common.{◌≡◌, ℕ, Option, None, Some, List, Bool, ℤ, ap}
use Rattle.cf_base.specs.declared.kind.Kind.{Kind}
use Rattle.cf_syntax.specs.declared.declarator.DeclTree.TheOpen.{Expr-F}
use Rattle.cf_syntax.specs.declared.declarator.TypeId.{TypeId}
use Rattle.cf_syntax.specs.declared.expression.Expr.{Expr, roll-Expr}
use Rattle.cf_syntax.specs.declared.expression.Expr.TheVariants as form
use Rattle.cf_syntax.specs.declared.name.Name.{Name as WrittenName}
use Rattle.cf_syntax.specs.declared.name.Path.{Path}
use Rattle.cf_syntax.specs.declared.operator.AssignOp.{AssignOp}
use Rattle.cf_syntax.specs.declared.operator.BinaryOp.{BinaryOp}
use Rattle.cf_syntax.specs.declared.operator.PrefixOp.{PrefixOp}
use Rattle.cf_syntax.specs.declared.operator.StepOp.{StepOp}
use Rattle.cf_syntax.specs.declared.specifier.BasicType.{BasicType}
use Rattle.cf_syntax.specs.declared.specifier.Pointer.{Pointer}
use Rattle.cf_syntax.specs.declared.specifier.TypeSpecifier.{TypeSpecifier}
use Rattle.cf_elab.specs.Operand.{Part}
use Rattle.cf_elab_expr.specs.Shut as shut
use Rattle.cf_elab_expr.proofs.Parts.{made_of}

pub of_name : (n : WrittenName) → shut.last_name (form.Named n) ≡ Some n.last_at
unfolding shut.last_name roll-Expr denote.Hole.Carrier.roll
of_name n = ap (λ (p : Part). p.last_name) (made_of (Expr-F.Named n))

pub of_paren : (at : ℕ) (a : Expr) → shut.last_name (form.Paren at a) ≡ shut.last_name a
unfolding shut.last_name roll-Expr denote.Hole.Carrier.roll
of_paren at a = ap (λ (p : Part). p.last_name) (made_of (Expr-F.Paren at a))

pub of_dot : (at : ℕ) (a : Expr) (n : WrittenName) → shut.last_name (form.Dot at a n) ≡ Some n.last_at
unfolding shut.last_name roll-Expr denote.Hole.Carrier.roll
of_dot at a n = ap (λ (p : Part). p.last_name) (made_of (Expr-F.Dot at a n))

pub of_arrow : (at : ℕ) (a : Expr) (n : WrittenName) → shut.last_name (form.Arrow at a n) ≡ Some n.last_at
unfolding shut.last_name roll-Expr denote.Hole.Carrier.roll
of_arrow at a n = ap (λ (p : Part). p.last_name) (made_of (Expr-F.Arrow at a n))

pub none_int : (at n : ℕ) (k : Kind) → shut.last_name (form.Int at n k) ≡ None
unfolding shut.last_name roll-Expr denote.Hole.Carrier.roll
none_int at n k = ap (λ (p : Part). p.last_name) (made_of (Expr-F.Int at n k))

pub none_char : (at : ℕ) (z : ℤ) → shut.last_name (form.Char at z) ≡ None
unfolding shut.last_name roll-Expr denote.Hole.Carrier.roll
none_char at z = ap (λ (p : Part). p.last_name) (made_of (Expr-F.Char at z))

pub none_text : (at : ℕ) (bytes : List ℕ) → shut.last_name (form.Text at bytes) ≡ None
unfolding shut.last_name roll-Expr denote.Hole.Carrier.roll
none_text at bytes = ap (λ (p : Part). p.last_name) (made_of (Expr-F.Text at bytes))

pub none_this : (at : ℕ) → shut.last_name (form.This at) ≡ None
unfolding shut.last_name roll-Expr denote.Hole.Carrier.roll
none_this at = ap (λ (p : Part). p.last_name) (made_of (Expr-F.This at))

pub none_basiccall : (at : ℕ) (b : BasicType) (es : List Expr) → shut.last_name (form.BasicCall at b es) ≡ None
unfolding shut.last_name roll-Expr denote.Hole.Carrier.roll
none_basiccall at b es = ap (λ (p : Part). p.last_name) (made_of (Expr-F.BasicCall at b es))

pub none_typecall : (at : ℕ) (p : Path) (es : List Expr) → shut.last_name (form.TypeCall at p es) ≡ None
unfolding shut.last_name roll-Expr denote.Hole.Carrier.roll
none_typecall at p es = ap (λ (p : Part). p.last_name) (made_of (Expr-F.TypeCall at p es))

pub none_index : (at : ℕ) (a b : Expr) → shut.last_name (form.Index at a b) ≡ None
unfolding shut.last_name roll-Expr denote.Hole.Carrier.roll
none_index at a b = ap (λ (p : Part). p.last_name) (made_of (Expr-F.Index at a b))

pub none_call : (at : ℕ) (f : Expr) (es : List Expr) → shut.last_name (form.Call at f es) ≡ None
unfolding shut.last_name roll-Expr denote.Hole.Carrier.roll
none_call at f es = ap (λ (p : Part). p.last_name) (made_of (Expr-F.Call at f es))

pub none_stepafter : (at : ℕ) (op : StepOp) (a : Expr) → shut.last_name (form.StepAfter at op a) ≡ None
unfolding shut.last_name roll-Expr denote.Hole.Carrier.roll
none_stepafter at op a = ap (λ (p : Part). p.last_name) (made_of (Expr-F.StepAfter at op a))

pub none_stepbefore : (at : ℕ) (op : StepOp) (a : Expr) → shut.last_name (form.StepBefore at op a) ≡ None
unfolding shut.last_name roll-Expr denote.Hole.Carrier.roll
none_stepbefore at op a = ap (λ (p : Part). p.last_name) (made_of (Expr-F.StepBefore at op a))

pub none_prefix : (at : ℕ) (op : PrefixOp) (a : Expr) → shut.last_name (form.Prefix at op a) ≡ None
unfolding shut.last_name roll-Expr denote.Hole.Carrier.roll
none_prefix at op a = ap (λ (p : Part). p.last_name) (made_of (Expr-F.Prefix at op a))

pub none_sizeofexpr : (at : ℕ) (a : Expr) → shut.last_name (form.SizeofExpr at a) ≡ None
unfolding shut.last_name roll-Expr denote.Hole.Carrier.roll
none_sizeofexpr at a = ap (λ (p : Part). p.last_name) (made_of (Expr-F.SizeofExpr at a))

pub none_sizeoftype : (at : ℕ) (t : TypeId) → shut.last_name (form.SizeofType at t) ≡ None
unfolding shut.last_name roll-Expr denote.Hole.Carrier.roll
none_sizeoftype at t = ap (λ (p : Part). p.last_name) (made_of (Expr-F.SizeofType at t))

pub none_delete : (at : ℕ) (file many : Bool) (a : Expr) → shut.last_name (form.Delete at file many a) ≡ None
unfolding shut.last_name roll-Expr denote.Hole.Carrier.roll
none_delete at file many a = ap (λ (p : Part). p.last_name) (made_of (Expr-F.Delete at file many a))

pub none_new : (at : ℕ) (file : Bool) (ss : List TypeSpecifier) (ps : List Pointer) (bs : List Expr) (has : Bool) (es : List Expr) → shut.last_name (form.New at file ss ps bs has es) ≡ None
unfolding shut.last_name roll-Expr denote.Hole.Carrier.roll
none_new at file ss ps bs has es = ap (λ (p : Part). p.last_name) (made_of (Expr-F.New at file ss ps bs has es))

pub none_newbracketed : (at : ℕ) (file : Bool) (t : TypeId) (has : Bool) (es : List Expr) → shut.last_name (form.NewBracketed at file t has es) ≡ None
unfolding shut.last_name roll-Expr denote.Hole.Carrier.roll
none_newbracketed at file t has es = ap (λ (p : Part). p.last_name) (made_of (Expr-F.NewBracketed at file t has es))

pub none_cast : (at : ℕ) (t : TypeId) (a : Expr) → shut.last_name (form.Cast at t a) ≡ None
unfolding shut.last_name roll-Expr denote.Hole.Carrier.roll
none_cast at t a = ap (λ (p : Part). p.last_name) (made_of (Expr-F.Cast at t a))

pub none_binary : (at : ℕ) (op : BinaryOp) (a b : Expr) → shut.last_name (form.Binary at op a b) ≡ None
unfolding shut.last_name roll-Expr denote.Hole.Carrier.roll
none_binary at op a b = ap (λ (p : Part). p.last_name) (made_of (Expr-F.Binary at op a b))

pub none_conditional : (at : ℕ) (c a b : Expr) → shut.last_name (form.Conditional at c a b) ≡ None
unfolding shut.last_name roll-Expr denote.Hole.Carrier.roll
none_conditional at c a b = ap (λ (p : Part). p.last_name) (made_of (Expr-F.Conditional at c a b))

pub none_assign : (at : ℕ) (op : AssignOp) (a b : Expr) → shut.last_name (form.Assign at op a b) ≡ None
unfolding shut.last_name roll-Expr denote.Hole.Carrier.roll
none_assign at op a b = ap (λ (p : Part). p.last_name) (made_of (Expr-F.Assign at op a b))

pub none_comma : (at : ℕ) (es : List Expr) → shut.last_name (form.Comma at es) ≡ None
unfolding shut.last_name roll-Expr denote.Hole.Carrier.roll
none_comma at es = ap (λ (p : Part). p.last_name) (made_of (Expr-F.Comma at es))

pub ruleset last_laws = (of_name, of_paren, of_dot, of_arrow, none_int, none_char, none_text, none_this, none_basiccall, none_typecall, none_index, none_call, none_stepafter, none_stepbefore, none_prefix, none_sizeofexpr, none_sizeoftype, none_delete, none_new, none_newbracketed, none_cast, none_binary, none_conditional, none_assign, none_comma)
