-- Where reading items stops at a constant, that constant stands in the tokens with its sign; and what is read is left where it stops.
use Rattle.std.proofs.Common.{◌≡◌, ℕ, zero, suc, Bool, true, false, ◌&&◌, List, [], ◌∷◌, length, Option, Some, None, Ok, refl, subst}
use Rattle.std.proofs.lemmas.Bool.{and_parts}
use Rattle.cf_base.specs.declared.arith.Arith.{Arith}
use Rattle.cc_whole_tokens.specs.declared.mark.Mark.{Mark}
use Rattle.cc_whole_tokens.specs.declared.mark.Mark.TheVariants as mark
use Rattle.cc_whole_tokens.specs.declared.token.Token.{Token}
use Rattle.cc_whole_tokens.specs.declared.token.Token.TheVariants as token
use Rattle.cc_whole.specs.declared.types.CType.{CType}
use Rattle.cc_whole.specs.declared.expression.Prefix.{Prefix}
use Rattle.cc_whole.specs.declared.expression.CExpression.{CExpression}
use Rattle.cc_whole.specs.declared.expression.CExpression.TheVariants as tree
use Rattle.cc_whole.specs.declared.statement.CBody.{CBody}
use Rattle.cc_whole.specs.declared.statement.CStatement.{CStatement}
use Rattle.cc_whole.specs.Operators.{operator_of, joins, loosest}
use Rattle.cc_whole.specs.Types.{is_pointer}
use Rattle.cc_whole_fitting.specs.declared.before.Before.{Before}
use Rattle.cc_whole_fitting.specs.declared.before.Before.TheVariants as before
use Rattle.cc_whole_fitting.specs.Numbers.{behind_mark, behind as follows, token_fits}
use Rattle.cc_whole_reading.specs.Parse.{Parse, and_then, ◌>>=◌, if_test, past, behind, sees, sees_a, is_shared, sees_not, goes_on, expect, name, text, nought, end}
use Rattle.cc_whole_reading.specs.Constants.{Keep, constant}
use Rattle.cc_whole_reading.proofs.Shapes.{sees_is}
use Rattle.cc_whole_read_types.specs.ReadTypes as types
use Rattle.cc_whole_read_types.specs.ReadTypes.{char_type, unsigned_type, function_pointer, other_type, type_name, some_type, result_type, pointed_char, pointed_other, pointed_type, some_types, parameters_of, signature, size, is_int, is_char, ints, local_of, local_named, one_local, array, variable_named, variable_typed, one_variable}
use Rattle.cc_whole_read_expr.specs.ReadExpr as expr
use Rattle.cc_whole_read_expr.specs.ReadExpr.{prefixed, casted, address, typed_operand, cast, enclosed, brackets, place_at, pointed, loaded, number, leaf, signed, operand_by, above, operator_above, if_some, more_operands, binary, operand, expression, named_place, one_place, some_arguments, arguments, called_name, called_with, called_pointer, callee}
use Rattle.cc_whole_read_body.specs.ReadBody as bodies
use Rattle.cc_whole_read_body.specs.ReadBody.{local_line, called_of, right_call, value, right_side, store_to, store, call, effect, block, leaves, continues, condition, some_body, otherwise, branches, conditional, forever, label, default_label, inner, switch_item, cases, switch, gives, returned, plain, leaving, statement_by, body_by, one_statement, body}
use Rattle.cc_whole_read_items.specs.ReadItems.{static_word, parameter_named, parameter, some_parameters, parameters, prototype_of, prototype_named, prototype_behind, prototype, some_function, no_function, pair_function, pair_of, pair, some_pairs, string, pairs, values, start, prototype_line, extern_line, function_of, function, variable_of, variable_behind, variable, definition, declaration, unmarked, marked, one_item, items, whole}
use Rattle.cc_whole_read_items.proofs.Honest.{Runs, End, exactly, anything, Honest, Honestly, stays, taken, moved_on, then_exact, loose, honest_pure, honest_any, honest_then, honest_after, honest_made, honest_if, honest_seen, honest_next, honest_either, honest_all, honest_separated, honest_expect, honest_name, honest_text, honest_nought, honest_end, honest_constant}

-- ---- operators behind an operand

operator_behind : (level : ℕ) (m : Mark) (op : Arith) → above level (operator_of m) ≡ Some op → behind_mark m before.Operand ≡ before.Other
operator_behind level mark.RightParen op e = absurd (cc)
operator_behind level mark.Char op e = absurd (cc)
operator_behind level mark.Short op e = absurd (cc)
operator_behind level mark.Int op e = absurd (cc)
operator_behind level mark.Unsigned op e = absurd (cc)
operator_behind level mark.FunctionPointer op e = absurd (cc)
operator_behind level mark.Star op e = refl
operator_behind level m op e = refl

joins_behind : (level : ℕ) (t : Token) (op : Arith) → above level (joins t) ≡ Some op → follows t before.Operand ≡ before.Other
joins_behind level (token.Mark m) op e = operator_behind level m op e
joins_behind level token.Dash op e = refl
joins_behind level (token.Name name) op e = absurd (cc)
joins_behind level (token.Signed digits) op e = absurd (cc)
joins_behind level (token.Unsigned digits) op e = absurd (cc)
joins_behind level (token.Text bytes) op e = absurd (cc)
joins_behind level token.Shared op e = absurd (cc)

joins_fits : (level : ℕ) (t : Token) (op : Arith) → above level (joins t) ≡ Some op → token_fits t before.Operand ≡ true
joins_fits level (token.Mark m) op e = refl
joins_fits level token.Dash op e = refl
joins_fits level (token.Name name) op e = absurd (cc)
joins_fits level (token.Signed digits) op e = absurd (cc)
joins_fits level (token.Unsigned digits) op e = absurd (cc)
joins_fits level (token.Text bytes) op e = absurd (cc)
joins_fits level token.Shared op e = absurd (cc)

shared_is : (ts : List Token) → sees_a is_shared ts ≡ true → ts ≡ token.Shared ∷ behind ts
shared_is [] e = absurd (cc)
shared_is (token.Mark m ∷ ts) e = absurd (cc)
shared_is (token.Dash ∷ ts) e = absurd (cc)
shared_is (token.Name word ∷ ts) e = absurd (cc)
shared_is (token.Signed ds ∷ ts) e = absurd (cc)
shared_is (token.Unsigned ds ∷ ts) e = absurd (cc)
shared_is (token.Text bytes ∷ ts) e = absurd (cc)
shared_is (token.Shared ∷ ts) e = refl

module _ (keep : Keep) where
  -- a sign, and then
  sign_then : {A : Type 0} {b : Before} {e : End} (m : Mark) (f : Unit {0} → Parse A) → Honest keep (behind_mark m b) e (f tt) → Honest keep b e (expect m >>= f)
  sign_then m f next = honest_then keep (expect m) f (honest_expect keep m) (λ u. next)

  word_then : {A : Type 0} {b : Before} {e : End} (f : List ℕ → Parse A) → ((word : List ℕ) → Honest keep before.Operand e (f word)) → Honest keep b e (name >>= f)
  word_then f next = honest_then keep name f (honest_name keep) next

  -- a `[` where another test holds too
  bracket_then : {A : Type 0} {b : Before} {e : End} (c : Bool) (p q : Parse A) → Honest keep before.Other e p → Honest keep b e q
      → Honest keep b e (if_test (λ ts. c && sees mark.LeftBracket ts) (past p) q)
  bracket_then c p q first second =
      honest_seen keep (token.Mark mark.LeftBracket) (λ ts. c && sees mark.LeftBracket ts) p q refl
      (λ ts is. sees_is mark.LeftBracket ts (and_parts c (sees mark.LeftBracket ts) is).1) first second

  -- ---- types

  honest_char : Honest keep before.Word (exactly before.Word) char_type
  unfolding char_type
  honest_char = honest_next keep mark.Star _ _ (honest_pure keep _) (honest_pure keep _)

  honest_other : {b : Before} → Honest keep b (exactly before.Word) other_type
  unfolding other_type unsigned_type function_pointer
  honest_other =
      honest_next keep mark.Unsigned unsigned_type _
      (honest_next keep mark.Char _ _ (honest_pure keep _) (honest_next keep mark.Short _ _ (honest_pure keep _) (honest_pure keep _)))
      (honest_next keep mark.Short _ _ (honest_pure keep _) (honest_next keep mark.Int _ function_pointer (honest_pure keep _)
      (sign_then mark.FunctionPointer _ (honest_pure keep _))))

  honest_type : {b : Before} → Honest keep b (exactly before.Word) type_name
  unfolding type_name
  honest_type = honest_next keep mark.Char char_type other_type honest_char honest_other

  honest_result : {b : Before} → Honest keep b anything result_type
  unfolding result_type some_type
  honest_result = honest_next keep mark.Void _ some_type (honest_any keep _) (honest_made keep Some type_name (loose keep honest_type))

  honest_pointed_type : {b : Before} → Honest keep b anything pointed_type
  unfolding pointed_type pointed_char pointed_other
  honest_pointed_type =
      honest_next keep mark.Char pointed_char pointed_other
      (sign_then mark.Star _ (honest_next keep mark.Star _ _ (honest_any keep _) (honest_any keep _)))
      (honest_then keep other_type _ honest_other (λ t. sign_then mark.Star _ (honest_any keep t)))

  honest_types : Honest keep before.Other anything types.types
  unfolding types.types some_types
  honest_types = honest_next keep mark.Void _ some_types (honest_any keep _) (loose keep (honest_separated keep type_name honest_type))

  honest_signature : {b : Before} → Honest keep b anything signature
  unfolding signature parameters_of
  honest_signature =
      sign_then mark.LeftParen _ (honest_after keep result_type _ honest_result (λ r s. sign_then mark.LeftParen _ (sign_then mark.Star _ (sign_then mark.RightParen _ (sign_then mark.LeftParen _
      (honest_after keep types.types _ honest_types (λ ts t. sign_then mark.RightParen _ (sign_then mark.RightParen _ (honest_any keep _)))))))))

  -- behind `[`
  honest_size : Honest keep before.Other anything (size keep)
  unfolding size
  honest_size = honest_then keep (constant keep) _ (honest_constant keep) (λ c. sign_then mark.RightBracket _ (honest_any keep c))

  honest_local : {b : Before} → Honest keep b anything (one_local keep)
  unfolding one_local local_named local_of ints
  honest_local =
      honest_then keep type_name _ honest_type (λ t. word_then _ (λ word. bracket_then (is_int t) (ints keep word) _
      (honest_made keep _ (size keep) honest_size) (honest_any keep _)))

  honest_variable : {b : Before} → Honest keep b anything (one_variable keep)
  unfolding one_variable types.pairs variable_typed variable_named types.variable_of array
  honest_variable =
      honest_next keep mark.Struct (types.pairs keep) (variable_typed keep)
      (sign_then mark.Pair _ (word_then _ (λ word. sign_then mark.LeftBracket _ (honest_made keep _ (size keep) honest_size))))
      (honest_then keep type_name _ honest_type (λ t. word_then _ (λ word. bracket_then _ (array keep t word) _
      (honest_made keep _ (size keep) honest_size) (honest_any keep _))))

  -- ---- expressions: no operand stands before them, and one behind

  abbrev Operates : Parse CExpression → Type 0
  Operates p = Honest keep before.Other (exactly before.Operand) p

  honest_leaf : Operates (leaf keep)
  unfolding leaf expr.variable number
  honest_leaf =
      honest_if keep _ expr.variable (number keep) (word_then _ (λ word. honest_pure keep _)) (honest_made keep tree.Constant (constant keep) (honest_constant keep))

  -- behind `*`
  honest_pointed : {b : Before} (ex : Parse CExpression) → Operates ex → Honest keep b (exactly before.Operand) (pointed ex)
  unfolding pointed place_at
  honest_pointed ex dx =
      sign_then mark.LeftParen _ (honest_after keep pointed_type _ honest_pointed_type (λ t s. sign_then mark.RightParen _ (sign_then mark.LeftParen _
      (honest_then keep ex _ dx (λ e. sign_then mark.RightParen _ (honest_pure keep _))))))

  module _ (ex un : Parse CExpression) (dx : Operates ex) (du : Operates un) where
    honest_prefixed : (o : Prefix) → Operates (prefixed un o)
    unfolding prefixed
    honest_prefixed o = honest_made keep (tree.Unary o) un du

    honest_typed : (t : CType) → Operates (typed_operand un t)
    unfolding typed_operand address casted
    honest_typed t =
        honest_seen keep (token.Mark mark.And) (λ ts. is_pointer t && sees mark.And ts) address (casted un t) refl
        (λ ts is. sees_is mark.And ts (and_parts (is_pointer t) (sees mark.And ts) is).1) (word_then _ (λ word. honest_pure keep _)) (honest_made keep (tree.Cast t) un du)

    honest_brackets : Operates (brackets ex un)
    unfolding brackets cast enclosed
    honest_brackets =
        honest_if keep _ (cast un) (enclosed ex) (honest_then keep type_name _ honest_type (λ t. sign_then mark.RightParen _ (honest_typed t)))
        (honest_then keep ex _ dx (λ e. sign_then mark.RightParen _ (honest_pure keep e)))

    honest_operand_by : Operates (operand_by keep ex un)
    unfolding operand_by signed loaded
    honest_operand_by =
        honest_next keep mark.LeftParen (brackets ex un) _ honest_brackets
        (honest_next keep mark.Star (loaded ex) (signed keep un) (honest_made keep tree.Load (pointed ex) (honest_pointed ex dx))
        (honest_next keep mark.Minus (prefixed un _) _ (honest_prefixed _) (honest_next keep mark.Complement (prefixed un _) _ (honest_prefixed _)
        (honest_next keep mark.Not (prefixed un _) (leaf keep) (honest_prefixed _) honest_leaf))))

  -- an operator is taken
  operator_taken : (level : ℕ) (ts : List Token) (op : Arith) → operator_above level ts ≡ Some op → Runs keep before.Operand ts (behind ts) before.Other
  operator_taken level [] op e = absurd (cc)
  operator_taken level (t ∷ ts) op e =
      subst (λ s. Runs keep before.Operand (t ∷ ts) ts s) (joins_behind level t op e) (taken keep t before.Operand (t ∷ ts) (λ strict. joins_fits level t op e) refl)

  operands_on : (p : Parse CExpression) → Operates p → (level n : ℕ) (a : CExpression) (ts : List Token)
      → Honestly keep before.Operand (exactly before.Operand) ts (more_operands p level n a ts)
  unfolding more_operands
  operands_on p each level zero a ts = stays keep before.Operand ts
  operands_on p each level (suc n) a ts = go (operands_on p each level n) (operator_above level ts) refl
    where
      go : ((c : CExpression) (us : List Token) → Honestly keep before.Operand (exactly before.Operand) us (more_operands p level n c us)) → (o : Option Arith) → operator_above level ts ≡ o
          → Honestly keep before.Operand (exactly before.Operand) ts
          (if_some o (λ op. and_then (p (behind ts)) (λ c. more_operands p level n (tree.Binary op a c))) (Ok (a, ts)))
      go again None is = stays keep before.Operand ts
      go again (Some op) is =
          moved_on keep before.Operand before.Other (exactly before.Operand) ts (behind ts) (and_then (p (behind ts)) (λ c. more_operands p level n (tree.Binary op a c)))
          (operator_taken level ts op is)
          (then_exact keep before.Other before.Operand (exactly before.Operand) (λ c. more_operands p level n (tree.Binary op a c)) (λ c. record { holds = again (tree.Binary op a c) }) (behind ts)
          (p (behind ts)) (each.holds (behind ts)))

  honest_binary : (p : Parse CExpression) → Operates p → (level : ℕ) → Operates (binary p level)
  unfolding binary
  honest_binary p each zero = each
  honest_binary p each (suc level) =
      let inside = honest_binary p each level in
      honest_then keep (binary p level) (λ a us. more_operands (binary p level) level (length us) a us) inside
      (λ a. record { holds = λ us. operands_on (binary p level) inside level (length us) a us })

  honest_operand : (n : ℕ) → Operates (operand keep n)
  unfolding operand
  honest_operand zero = record { holds = λ ts. tt }
  honest_operand (suc n) =
      let inside = honest_operand n in honest_operand_by (expression keep n) (operand keep n) (honest_binary (operand keep n) inside loosest) inside

  honest_expression : (n : ℕ) → Operates (expression keep n)
  honest_expression n = honest_binary (operand keep n) (honest_operand n) loosest

  -- ---- statements

  honest_label : Honest keep before.Other (exactly before.Other) (label keep)
  unfolding label
  honest_label = honest_then keep (constant keep) _ (honest_constant keep) (λ c. sign_then mark.Colon _ (honest_pure keep _))

  module _ (ex : Parse CExpression) (dx : Operates ex) where
    honest_place : {b : Before} → Honest keep b (exactly before.Operand) (one_place ex)
    unfolding one_place named_place
    honest_place = honest_next keep mark.Star (pointed ex) named_place (honest_pointed ex dx) (word_then _ (λ word. honest_pure keep _))

    honest_arguments : Honest keep before.Other anything (arguments ex)
    unfolding arguments some_arguments
    honest_arguments = honest_if keep _ _ (some_arguments ex) (honest_any keep _) (loose keep (honest_separated keep ex dx))

    honest_callee : {b : Before} → Honest keep b anything (callee ex)
    unfolding callee called_pointer called_with called_name
    honest_callee =
        honest_next keep mark.LeftParen (called_pointer ex) called_name
        (honest_after keep signature _ honest_signature (λ s t. sign_then mark.LeftParen _ (honest_then keep ex _ dx (λ e. sign_then mark.RightParen _ (sign_then mark.RightParen _ (honest_any keep _))))))
        (word_then _ (λ word. honest_any keep _))

    honest_called : {b : Before} → Honest keep b (exactly before.Other) (bodies.called ex)
    unfolding bodies.called called_of
    honest_called =
        honest_after keep (callee ex) _ honest_callee (λ c s. sign_then mark.LeftParen _ (honest_after keep (arguments ex) _ honest_arguments
        (λ es t. sign_then mark.RightParen _ (sign_then mark.Semicolon _ (honest_pure keep _)))))

    honest_right : Honest keep before.Other (exactly before.Other) (right_side ex)
    unfolding right_side value right_call
    honest_right =
        honest_either keep (value ex) (right_call ex) (honest_then keep ex _ dx (λ e. sign_then mark.Semicolon _ (honest_pure keep _))) (honest_made keep _ (bodies.called ex) honest_called)

    honest_effect : {b : Before} → Honest keep b (exactly before.Other) (effect ex)
    unfolding effect store store_to call
    honest_effect =
        honest_either keep (store ex) (call ex)
        (honest_then keep (one_place ex) _ honest_place (λ p. sign_then mark.Assign _ (honest_made keep (bodies.stored p) (right_side ex) honest_right)))
        (honest_made keep bodies.unstored (bodies.called ex) honest_called)

    honest_condition : {b : Before} → Honest keep b (exactly before.Operand) (condition ex)
    unfolding condition
    honest_condition = sign_then mark.LeftParen _ (honest_then keep ex _ dx (λ e. sign_then mark.RightParen _ (honest_pure keep e)))

    honest_returned : Honest keep before.Other (exactly before.Other) (returned ex)
    unfolding returned gives
    honest_returned = honest_next keep mark.Semicolon _ (gives ex) (honest_pure keep _) (honest_then keep ex _ dx (λ e. sign_then mark.Semicolon _ (honest_pure keep _)))

  -- statements follow one another, and bodies follow anything
  module _ (ex : Parse CExpression) (dx : Operates ex) (bo : Parse CBody) (db : (b : Before) → Honest keep b (exactly before.Other) bo)
      (st : Parse CStatement) (ds : Honest keep before.Other (exactly before.Other) st) where
    honest_leaving : Honest keep before.Other (exactly before.Other) (leaving ex bo)
    unfolding leaving leaves continues plain block
    honest_leaving =
        honest_next keep mark.Break leaves _ (sign_then mark.Semicolon _ (honest_pure keep _)) (honest_next keep mark.Continue continues _ (sign_then mark.Semicolon _ (honest_pure keep _))
        (honest_next keep mark.Return (returned ex) (plain ex bo) (honest_returned ex dx)
        (honest_if keep _ (block bo) (effect ex) (honest_made keep _ bo (db before.Other)) (honest_effect ex dx))))

    honest_item_of : Honest keep before.Other (exactly before.Other) (switch_item keep st)
    unfolding switch_item default_label inner
    honest_item_of =
        honest_next keep mark.Case (label keep) _ honest_label (honest_next keep mark.Default default_label (inner st) (sign_then mark.Colon _ (honest_pure keep _)) (honest_made keep _ st ds))

    honest_by : Honest keep before.Other (exactly before.Other) (statement_by keep ex bo st)
    unfolding statement_by conditional branches otherwise some_body forever switch cases
    honest_by =
        honest_next keep mark.If (conditional ex bo) _
        (honest_then keep (condition ex) _ (honest_condition ex dx) (λ e. honest_then keep bo _ (db before.Operand) (λ b. honest_then keep (otherwise bo) _
        (honest_next keep mark.Else (some_body bo) _ (honest_made keep Some bo (db before.Other)) (honest_pure keep _)) (λ o. honest_pure keep _))))
        (honest_next keep mark.For (forever bo) _
        (sign_then mark.LeftParen _ (sign_then mark.Semicolon _ (sign_then mark.Semicolon _ (sign_then mark.RightParen _ (honest_made keep _ bo (db before.Operand))))))
        (honest_next keep mark.Switch (switch keep ex st) (leaving ex bo)
        (honest_then keep (condition ex) _ (honest_condition ex dx) (λ e. sign_then mark.LeftBrace _ (honest_then keep (bodies.switch_items keep st) _
        (honest_all keep (sees_not mark.RightBrace) (switch_item keep st) honest_item_of []) (λ all. sign_then mark.RightBrace _ (honest_pure keep _)))))
        honest_leaving))

  honest_body_by : {b : Before} (st : Parse CStatement) → Honest keep before.Other (exactly before.Other) st → Honest keep b (exactly before.Other) (body_by keep st)
  unfolding body_by local_line
  honest_body_by st ds =
      sign_then mark.LeftBrace _ (honest_then keep (bodies.locals keep) _
      (honest_all keep _ (local_line keep) (honest_after keep (one_local keep) _ honest_local (λ x s. sign_then mark.Semicolon _ (honest_pure keep x))) [])
      (λ ls. honest_then keep (bodies.statements st) _ (honest_all keep (sees_not mark.RightBrace) st ds []) (λ all. sign_then mark.RightBrace _ (honest_pure keep _))))

  honest_statement : (n : ℕ) → Honest keep before.Other (exactly before.Other) (one_statement keep n)
  unfolding one_statement
  honest_statement zero = record { holds = λ ts. tt }
  honest_statement (suc n) =
      let inside = honest_statement n in
      honest_by (expression keep n) (honest_expression n) (body keep n) (λ b. honest_body_by (one_statement keep n) inside) (one_statement keep n) inside

  -- ---- items

  honest_static : {b : Before} → Honest keep b anything static_word
  unfolding static_word
  honest_static = honest_next keep mark.Static _ _ (honest_any keep _) (honest_any keep _)

  honest_parameters : Honest keep before.Other anything parameters
  unfolding parameters some_parameters parameter parameter_named
  honest_parameters =
      honest_next keep mark.Void _ some_parameters (honest_any keep _)
      (loose keep (honest_separated keep parameter (honest_then keep type_name _ honest_type (λ t. word_then _ (λ word. honest_pure keep _)))))

  honest_prototype : {b : Before} → Honest keep b anything prototype
  unfolding prototype prototype_behind prototype_named prototype_of
  honest_prototype =
      honest_after keep static_word _ honest_static (λ s t. honest_after keep result_type _ honest_result (λ r u. word_then _ (λ word. sign_then mark.LeftParen _
      (honest_after keep parameters _ honest_parameters (λ ps v. sign_then mark.RightParen _ (honest_any keep _))))))

  honest_pair : Honest keep before.Other (exactly before.Other) (pair keep)
  unfolding pair pair_of pair_function some_function no_function
  honest_pair =
      sign_then mark.LeftBrace _ (honest_then keep (constant keep) _ (honest_constant keep) (λ c. sign_then mark.Comma _ (honest_then keep pair_function _
      (honest_if keep _ some_function no_function (word_then _ (λ word. honest_pure keep _)) (honest_then keep nought _ (honest_nought keep) (λ u. honest_pure keep _)))
      (λ f. sign_then mark.RightBrace _ (honest_pure keep _)))))

  honest_start : {b : Before} → Honest keep b anything (start keep)
  unfolding start values string pairs some_pairs
  honest_start =
      honest_next keep mark.Assign (values keep) _
      (honest_if keep _ string (pairs keep) (honest_then keep text _ (honest_text keep) (λ bytes. honest_any keep _))
      (sign_then mark.LeftBrace _ (honest_then keep (some_pairs keep) _ (honest_separated keep (pair keep) honest_pair) (λ all. sign_then mark.RightBrace _ (honest_any keep _)))))
      (honest_any keep _)

  honest_line : {b : Before} → Honest keep b (exactly before.Other) prototype_line
  unfolding prototype_line
  honest_line = honest_after keep prototype _ honest_prototype (λ p s. sign_then mark.Semicolon _ (honest_pure keep _))

  honest_definition : {b : Before} (n : ℕ) (s : Bool) → Honest keep b (exactly before.Other) (definition keep n s)
  unfolding definition function function_of variable variable_behind variable_of
  honest_definition n s =
      honest_either keep (function keep n s) (variable keep s)
      (honest_after keep prototype _ honest_prototype (λ p t. honest_made keep _ (body keep n) (honest_body_by (one_statement keep n) (honest_statement n))))
      (honest_after keep static_word _ honest_static (λ t u. honest_after keep (one_variable keep) _ honest_variable (λ d v. honest_after keep (start keep) _ honest_start
      (λ i w. sign_then mark.Semicolon _ (honest_pure keep _)))))

  honest_item : (n : ℕ) → Honest keep before.Other (exactly before.Other) (one_item keep n)
  unfolding one_item declaration extern_line marked unmarked
  honest_item n =
      honest_next keep mark.Extern (declaration keep) (marked keep n)
      (honest_either keep prototype_line (extern_line keep) honest_line
      (honest_after keep (one_variable keep) _ honest_variable (λ d s. sign_then mark.Semicolon _ (honest_pure keep _))))
      (honest_seen keep token.Shared (sees_a is_shared) (definition keep n true) (unmarked keep n) refl shared_is (honest_definition n true)
      (honest_either keep (definition keep n false) prototype_line (honest_definition n false) honest_line))

  pub honest_whole : (n : ℕ) → Honest keep before.Other (exactly before.Other) (whole keep n)
  unfolding whole
  honest_whole n =
      honest_then keep (items keep n) _ (honest_all keep goes_on (one_item keep n) (honest_item n) []) (λ is. honest_then keep end _ (honest_end keep) (λ u. honest_pure keep is))
