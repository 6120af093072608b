-- Nodes whose parts are typed alike without the locals are so too.
use Rattle.std.proofs.Common.{◌≡◌, ℕ, ◌&&◌, List, [], ◌∷◌, map, ℤ, refl, sym, ap, ◌∙◌}
use Rattle.cf_base.specs.declared.kind.Kind.{Kind}
use Rattle.cf_base.specs.declared.kind.Kind.TheVariants.{Int}
use Rattle.cf_base.specs.declared.arith.Arith.{Arith}
use Rattle.cf_classes.specs.declared.path.Step.{Step}
use Rattle.cf_core.specs.declared.operators.PointerOperator.{PointerOperator}
use Rattle.cf_core.specs.declared.operators.UnaryOperator.{UnaryOperator}
use Rattle.cf_core.specs.declared.node.Core.{Core as Node}
use Rattle.cf_core.specs.declared.node.Core.TheFolds.{fold-roll-Core}
use Rattle.cf_core.specs.declared.node.Core.TheOpen.{Core-F}
use Rattle.cf_core.specs.declared.node.Core.TheVariants as node
use Rattle.cf_core.specs.declared.node.Core.TheVariants.{rolls-Up, rolls-ToMember}
use Rattle.cf_core.specs.declared.node.Holder.TheVariants as holder
use Rattle.cf_core.specs.Core.{Core, number, text, static_object, function, address, dereference, decay, index, convert, up, to_member, operate, unary, logical_not, logical_and, logical_or, pointer_operate, conditional, list, string, bind, zeros, blank, no_temporary, static_temporary}
use Rattle.cf_core.specs.FromClasses.{signature_of}
use Rattle.cf_core.specs.FromTypes.{Tables, type_of, path_of}
use Rattle.cf_core.specs.Subobjects.{class_at}
use Rattle.cf_core.specs.Typed.{typing, typings, address_type, pointed_place, decayed_type, indexed_type, list_starts, binds, moved_to, of_derived}
use Rattle.cf_core.specs.Types.{Name, integer, plain}
use Rattle.cf_core.specs.Typing.{Typing, allowed, is_condition, either, of_start, of_value, is_right_operand, operated_type, pointed, pointer_operated, converts, null_if, is_zero}
use Rattle.cf_core.specs.View.{Started, core_step, started_step, listed}
use Rattle.cf_elab_apart.specs.Apart.{Alike}
use Rattle.cf_elab_valid.specs.Scene.{Scene, core, typed, file_scope, scope_of}
use Rattle.cf_elab_valid.proofs.Nodes.{core-Number, core-Text, core-Static, core-Function, core-Address, core-Dereference, core-Decay, core-Index, core-Convert, core-Operate, core-Unary, core-Not, core-And, core-Or, core-PointerOperate, core-Conditional, core-List, core-Characters, core-Bind, core-Zeros, core-Blank}

module _ (s : Scene) where
  abbrev T : Tables
  T = s.tables

  -- a node that is this as plain data
  told : (n : Node) (c : Core) → core s n ≡ c → typing (file_scope s) c ≡ typing (scope_of s) c → Alike s n
  told n c is h = ap (typing (file_scope s)) is ∙ h ∙ sym (ap (typing (scope_of s)) is)

  -- ---- names and constants

  pub alike-Number : (at : ℕ) (z : ℤ) → Alike s (node.Number at z)
  alike-Number at z = told (node.Number at z) (number z) (core-Number s.tables (signature_of s.tables) at z) refl

  pub alike-Text : (at j : ℕ) (bytes : List ℕ) → Alike s (node.Text at j bytes)
  alike-Text at j bytes = told (node.Text at j bytes) (text j bytes) (core-Text s.tables (signature_of s.tables) at j bytes) refl

  pub alike-Static : (at : ℕ) (n : Name) (t : ℕ) → Alike s (node.Static at n t)
  alike-Static at n t = told (node.Static at n t) (static_object n (type_of s.tables t)) (core-Static s.tables (signature_of s.tables) at n t) refl

  pub alike-Function : (at : ℕ) (n : Name) (t : ℕ) → Alike s (node.Function at n t)
  alike-Function at n t = told (node.Function at n t) (function n (type_of s.tables t)) (core-Function s.tables (signature_of s.tables) at n t) refl

  -- ---- places and pointers

  pub alike-Address : (at : ℕ) (e : Node) → Alike s e → Alike s (node.Address at e)
  alike-Address at e h = told (node.Address at e) (address (core s e)) (core-Address s.tables (signature_of s.tables) at e) (ap (λ (x : Typing). address_type (scope_of s) x.place) h)

  pub alike-Dereference : (at : ℕ) (e : Node) → Alike s e → Alike s (node.Dereference at e)
  alike-Dereference at e h = told (node.Dereference at e) (dereference (core s e)) (core-Dereference s.tables (signature_of s.tables) at e) (ap (λ (x : Typing). pointed_place (scope_of s) (pointed x.type)) h)

  pub alike-Decay : (at : ℕ) (e : Node) → Alike s e → Alike s (node.Decay at e)
  alike-Decay at e h = told (node.Decay at e) (decay (core s e)) (core-Decay s.tables (signature_of s.tables) at e) (ap (λ (x : Typing). decayed_type (scope_of s) x.place) h)

  pub alike-Index : (at : ℕ) (a b : Node) → Alike s a → Alike s b → Alike s (node.Index at a b)
  alike-Index at a b h k =
      told (node.Index at a b) (index (core s a) (core s b)) (core-Index s.tables (signature_of s.tables) at a b)
      (ap (λ (x : Typing). indexed_type (scope_of s) x (typing (file_scope s) (core s b))) h ∙ ap (λ (y : Typing). indexed_type (scope_of s) (typed s a) y) k)

  pub alike-PointerOperate : (at : ℕ) (op : PointerOperator) (a b : Node) → Alike s a → Alike s b → Alike s (node.PointerOperate at op a b)
  alike-PointerOperate at op a b h k =
      told (node.PointerOperate at op a b) (pointer_operate op (core s a) (core s b)) (core-PointerOperate s.tables (signature_of s.tables) at op a b)
      (ap (λ (x : Typing). pointer_operated op x (typing (file_scope s) (core s b))) h ∙ ap (λ (y : Typing). pointer_operated op (typed s a) y) k)

  -- ---- conversions

  pub alike-Convert : (at t : ℕ) (e : Node) → Alike s e → Alike s (node.Convert at t e)
  alike-Convert at t e h =
      told (node.Convert at t e) (convert (type_of s.tables t) (core s e)) (core-Convert s.tables (signature_of s.tables) at t e)
      (ap (λ (x : Typing). allowed (converts (plain (type_of s.tables t)) x) (null_if (is_zero x.number) (of_value (plain (type_of s.tables t))))) h)

  core-Up : (at : ℕ) (p : List Step) (e : Node) → core s (node.Up at p e) ≡ up (path_of s.tables p) (core s e)
  core-Up at p e = ap (core s) (sym (rolls-Up at p e)) ∙ fold-roll-Core Core Started (core_step s.tables (signature_of s.tables)) (started_step s.tables (signature_of s.tables)) (Core-F.Up at p e)

  core-ToMember : (at : ℕ) (p : List Step) (e : Node) → core s (node.ToMember at p e) ≡ to_member (path_of s.tables p) (core s e)
  core-ToMember at p e = ap (core s) (sym (rolls-ToMember at p e)) ∙ fold-roll-Core Core Started (core_step s.tables (signature_of s.tables)) (started_step s.tables (signature_of s.tables)) (Core-F.ToMember at p e)

  pub alike-Up : (at : ℕ) (p : List Step) (e : Node) → Alike s e → Alike s (node.Up at p e)
  alike-Up at p e h = told (node.Up at p e) (up (path_of s.tables p) (core s e)) (core-Up at p e) (ap (λ (x : Typing). moved_to (scope_of s) x (λ c. class_at [] c (path_of s.tables p))) h)

  pub alike-ToMember : (at : ℕ) (p : List Step) (e : Node) → Alike s e → Alike s (node.ToMember at p e)
  alike-ToMember at p e h = told (node.ToMember at p e) (to_member (path_of s.tables p) (core s e)) (core-ToMember at p e) (ap (λ (x : Typing). of_derived (scope_of s) (path_of s.tables p) x) h)

  -- ---- operators

  pub alike-Operate : (at : ℕ) (op : Arith) (k : Kind) (a b : Node) → Alike s a → Alike s b → Alike s (node.Operate at op k a b)
  alike-Operate at op k a b h g =
      told (node.Operate at op k a b) (operate op k (core s a) (core s b)) (core-Operate s.tables (signature_of s.tables) at op k a b)
      (ap (λ (x : Typing). allowed (x.value (integer k) && is_right_operand op k (typing (file_scope s) (core s b))) (of_value (operated_type op k))) h
      ∙ ap (λ (y : Typing). allowed ((typed s a).value (integer k) && is_right_operand op k y) (of_value (operated_type op k))) g)

  pub alike-Unary : (at : ℕ) (op : UnaryOperator) (k : Kind) (e : Node) → Alike s e → Alike s (node.Unary at op k e)
  alike-Unary at op k e h =
      told (node.Unary at op k e) (unary op k (core s e)) (core-Unary s.tables (signature_of s.tables) at op k e) (ap (λ (x : Typing). allowed (x.value (integer k)) (of_value (integer k))) h)

  pub alike-Not : (at : ℕ) (e : Node) → Alike s e → Alike s (node.Not at e)
  alike-Not at e h = told (node.Not at e) (logical_not (core s e)) (core-Not s.tables (signature_of s.tables) at e) (ap (λ (x : Typing). allowed (is_condition x) (of_value (integer Int))) h)

  both_conditions : (a b : Node) → Alike s a → Alike s b
      → allowed (is_condition (typing (file_scope s) (core s a)) && is_condition (typing (file_scope s) (core s b))) (of_value (integer Int)) ≡ allowed (is_condition (typed s a) && is_condition (typed s b)) (of_value (integer Int))
  both_conditions a b h k =
      ap (λ (x : Typing). allowed (is_condition x && is_condition (typing (file_scope s) (core s b))) (of_value (integer Int))) h ∙ ap (λ (y : Typing). allowed (is_condition (typed s a) && is_condition y) (of_value (integer Int))) k

  pub alike-And : (at : ℕ) (a b : Node) → Alike s a → Alike s b → Alike s (node.And at a b)
  alike-And at a b h k = told (node.And at a b) (logical_and (core s a) (core s b)) (core-And s.tables (signature_of s.tables) at a b) (both_conditions a b h k)

  pub alike-Or : (at : ℕ) (a b : Node) → Alike s a → Alike s b → Alike s (node.Or at a b)
  alike-Or at a b h k = told (node.Or at a b) (logical_or (core s a) (core s b)) (core-Or s.tables (signature_of s.tables) at a b) (both_conditions a b h k)

  pub alike-Conditional : (at : ℕ) (c a b : Node) → Alike s c → Alike s a → Alike s b → Alike s (node.Conditional at c a b)
  alike-Conditional at c a b h k l =
      told (node.Conditional at c a b) (conditional (core s c) (core s a) (core s b)) (core-Conditional s.tables (signature_of s.tables) at c a b)
      (ap (λ (x : Typing). allowed (is_condition x) (either (typing (file_scope s) (core s a)) (typing (file_scope s) (core s b)))) h
      ∙ ap (λ (x : Typing). allowed (is_condition (typed s c)) (either x (typing (file_scope s) (core s b)))) k
      ∙ ap (λ (x : Typing). allowed (is_condition (typed s c)) (either (typed s a) x)) l)

  -- ---- initialisers

  pub alike-Blank : (at : ℕ) → Alike s (node.Blank at)
  alike-Blank at = told (node.Blank at) blank (core-Blank s.tables (signature_of s.tables) at) refl

  pub alike-Characters : (at : ℕ) (bytes : List ℕ) → Alike s (node.Characters at bytes)
  alike-Characters at bytes = told (node.Characters at bytes) (string bytes) (core-Characters s.tables (signature_of s.tables) at bytes) refl

  pub alike-Bind : (at : ℕ) (e : Node) → Alike s e → Alike s (node.Bind at holder.NoTemporary e)
  alike-Bind at e h =
      told (node.Bind at holder.NoTemporary e) (bind no_temporary (core s e)) (core-Bind s.tables (signature_of s.tables) at holder.NoTemporary e) (ap (λ (x : Typing). of_start (binds (scope_of s) no_temporary x)) h)

  pub alike-BindStatic : (at : ℕ) (n : Name) (e : Node) → Alike s e → Alike s (node.Bind at (holder.StaticTemporary n) e)
  alike-BindStatic at n e h =
      told (node.Bind at (holder.StaticTemporary n) e) (bind (static_temporary n) (core s e)) (core-Bind s.tables (signature_of s.tables) at (holder.StaticTemporary n) e)
      (ap (λ (x : Typing). of_start (binds (scope_of s) (static_temporary n) x)) h)

  abbrev pub AllAlike : List Node → Type 0
  AllAlike [] = Unit {0}
  AllAlike (n ∷ ns) = Alike s n × AllAlike ns

  all_typed : (ns : List Node) → AllAlike ns → typings (file_scope s) (listed (map (core s) ns)) ≡ typings (scope_of s) (listed (map (core s) ns))
  all_typed [] h = refl
  all_typed (n ∷ ns) h = ap (λ (x : Typing). x ∷ typings (file_scope s) (listed (map (core s) ns))) h.0 ∙ ap (λ (xs : List Typing). typed s n ∷ xs) (all_typed ns h.1)

  pub alike-List : (at place : ℕ) (ns : List Node) → AllAlike ns → Alike s (node.List at ns (node.Zeros place))
  alike-List at place ns h =
      told (node.List at ns (node.Zeros place)) (list (listed (map (core s) ns)) zeros) (core-List s.tables (signature_of s.tables) at ns (node.Zeros place) ∙ ap (list (listed (map (core s) ns))) (core-Zeros s.tables (signature_of s.tables) place))
      (ap (λ (xs : List Typing). of_start (list_starts (scope_of s) xs (typing (scope_of s) zeros))) (all_typed ns h))
