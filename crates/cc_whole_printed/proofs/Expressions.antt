-- What is printed for an expression is a text of it.
use Rattle.std.proofs.Common.{◌≡◌, ℕ, zero, suc, ◌+◌, ◌-◌, ◌≤◌, nat_lt, Bool, true, false, List, [], ◌∷◌, ◌++◌, Some, map, refl, ap, sym, subst, ◌∙◌, append-nil, append_assoc, arith}
use Rattle.std.proofs.lemmas.Bool.{and_parts}
use Rattle.std.proofs.lemmas.Bool.Decides.{nat_tests}
use Rattle.cf_base.specs.declared.arith.Arith.{Arith}
use Rattle.cf_base.specs.declared.arith.Arith.TheVariants as op
use Rattle.cc_whole_tokens.specs.declared.mark.Mark.TheVariants as mark
use Rattle.cc_whole_tokens.specs.declared.token.Token.{Token}
use Rattle.cc_whole_tokens.specs.declared.token.Token.TheVariants as token
use Rattle.cc_whole_tokens.specs.Token.{is_name}
use Rattle.cc_whole.specs.declared.types.CType.{CType}
use Rattle.cc_whole.specs.declared.types.CType.TheVariants as ty
use Rattle.cc_whole.specs.declared.types.CConstant.{CConstant}
use Rattle.cc_whole.specs.declared.expression.Prefix.{Prefix}
use Rattle.cc_whole.specs.declared.expression.CPlace.{CPlace, roll-CPlace, ind-CPlace}
use Rattle.cc_whole.specs.declared.expression.CPlace.TheVariants as place
use Rattle.cc_whole.specs.declared.expression.CPlace.TheVariants.{rolls-Name, rolls-At}
use Rattle.cc_whole.specs.declared.expression.CExpression.{CExpression, roll-CExpression, ind-CExpression}
use Rattle.cc_whole.specs.declared.expression.CExpression.TheFolds.{map-CExpression, map-CPlace}
use Rattle.cc_whole.specs.declared.expression.CExpression.TheOpen.{CExpression-F, CPlace-F}
use Rattle.cc_whole.specs.declared.expression.CExpression.TheVariants as tree
use Rattle.cc_whole.specs.declared.expression.CExpression.TheVariants.{rolls-Constant, rolls-Load, rolls-Unary, rolls-Cast, rolls-AddressOf, rolls-Binary}
use Rattle.cc_whole.specs.Numbers.{fits_constant}
use Rattle.cc_whole.specs.Operators.{joins, loosest, prefix_mark}
use Rattle.cc_whole.specs.SpellsTypes.{sign, type_tokens}
use Rattle.cc_whole.specs.Plain.{expression_of, place_of}
use Rattle.cc_whole.specs.Spells as g
use Rattle.cc_whole.specs.Spells.{bracketed, SpellsPlace, SpellsExpression, SpellsSome, SpellsArguments}
use Rattle.cc_whole_laws.proofs.Views.{of-Name, of-At, of-Constant, of-Load, of-Unary, of-Cast, of-AddressOf, of-Binary}
use Rattle.cc_whole_print.specs.Lines.{printed_mark, printed_if, spaced, constant_text, after_commas}
use Rattle.cc_whole_print.specs.Types.{type_text}
use Rattle.cc_whole_print.specs.Expressions.{sign_of, level_of, cast_text, pointed_text, bracketed_text, joined_text, place_text, expression_text, whole_text, listed_text, arguments_text}
use Rattle.cc_whole_printed.specs.Written.{written, written_place, all_written}
use Rattle.cc_whole_printed.proofs.Texts.{text-Name, text-At, text-Constant, text-Load, text-Unary, text-Cast, text-AddressOf, text-Binary}
use Rattle.cc_whole_printed.proofs.Cuts.{Cuts, cuts-none, cuts-append, cuts-mark, cuts-name}
use Rattle.cc_whole_printed.proofs.TextOf.{TextOf, text_of_same}
use Rattle.cc_whole_printed.proofs.Types.{printed_constant, cuts-type}

pub cuts-brackets : {bs : List ℕ} {xs : List Token} → Cuts bs xs → Cuts (bracketed_text bs) (bracketed xs)
cuts-brackets c = cuts-append (cuts-mark mark.LeftParen) (cuts-append c (cuts-mark mark.RightParen))

cuts-pointed : (t : CType) → Cuts (pointed_text t) (token.Mark mark.Star ∷ bracketed (type_tokens t ++ sign mark.Star))
cuts-pointed t = cuts-append (cuts-mark mark.Star) (cuts-brackets (cuts-append (cuts-type t) (cuts-mark mark.Star)))

-- ---- levels

-- what is spelled at a level is spelled at each looser one
looser : (e : CExpression) (xs : List Token) (m n l : ℕ) → l ≡ m + n → SpellsExpression m e xs → SpellsExpression l e xs
looser e xs m zero l is s = subst (λ k. SpellsExpression k e xs) (omega arith) s
looser e xs m (suc n) l is s =
    let next : suc (m + n) ≡ l = omega arith in
    subst (λ k. SpellsExpression k e xs) next (g.SpellsExpression.tighter (m + n) e xs (looser e xs m n (m + n) refl s))

printed_looser : (e : CExpression) (m l : ℕ) (bytes : List ℕ) → m ≤ l → TextOf (SpellsExpression m e) bytes → TextOf (SpellsExpression l e) bytes
printed_looser e m l bytes le w = record { tokens = w.tokens; cut = w.cut; spells = looser e w.tokens m (l - m) l (omega arith) w.spells }

-- an operand stands at every level
operand : (e : CExpression) (l : ℕ) (bytes : List ℕ) → TextOf (SpellsExpression 0 e) bytes → TextOf (SpellsExpression l e) bytes
operand e l bytes w = printed_looser e 0 l bytes (omega arith) w

-- ---- operators

joined_at : (l : ℕ) (o : Arith) (a b : CExpression) (ls rs : List ℕ) → joins (token.Mark (sign_of o)) ≡ Some (suc l, o)
    → TextOf (SpellsExpression (suc l) a) ls → TextOf (SpellsExpression l b) rs
    → TextOf (SpellsExpression (suc l) (tree.Binary o a b)) (ls ++ (printed_mark (sign_of o) ++ rs))
joined_at l o a b ls rs is wa wb = record {
  tokens = wa.tokens ++ (token.Mark (sign_of o) ∷ wb.tokens);
  cut = cuts-append wa.cut (cuts-append (cuts-mark (sign_of o)) wb.cut);
  spells = g.SpellsExpression.joined l (token.Mark (sign_of o)) o a b wa.tokens wb.tokens is wa.spells wb.spells;
}

-- at the operator's own level no brackets are needed
joined : (o : Arith) (a b : CExpression) (ls rs : List ℕ) → TextOf (SpellsExpression (level_of o) a) ls → TextOf (SpellsExpression (level_of o - 1) b) rs
    → TextOf (SpellsExpression (level_of o) (tree.Binary o a b)) (ls ++ (printed_mark (sign_of o) ++ rs))
joined op.Multiply a b ls rs wa wb = joined_at 0 op.Multiply a b ls rs refl wa wb
joined op.Divide a b ls rs wa wb = joined_at 0 op.Divide a b ls rs refl wa wb
joined op.Remainder a b ls rs wa wb = joined_at 0 op.Remainder a b ls rs refl wa wb
joined op.Add a b ls rs wa wb = joined_at 1 op.Add a b ls rs refl wa wb
joined op.Subtract a b ls rs wa wb = joined_at 1 op.Subtract a b ls rs refl wa wb
joined op.ShiftLeft a b ls rs wa wb = joined_at 2 op.ShiftLeft a b ls rs refl wa wb
joined op.ShiftRight a b ls rs wa wb = joined_at 2 op.ShiftRight a b ls rs refl wa wb
joined op.Less a b ls rs wa wb = joined_at 3 op.Less a b ls rs refl wa wb
joined op.Greater a b ls rs wa wb = joined_at 3 op.Greater a b ls rs refl wa wb
joined op.LessEqual a b ls rs wa wb = joined_at 3 op.LessEqual a b ls rs refl wa wb
joined op.GreaterEqual a b ls rs wa wb = joined_at 3 op.GreaterEqual a b ls rs refl wa wb
joined op.Equal a b ls rs wa wb = joined_at 4 op.Equal a b ls rs refl wa wb
joined op.NotEqual a b ls rs wa wb = joined_at 4 op.NotEqual a b ls rs refl wa wb
joined op.And a b ls rs wa wb = joined_at 5 op.And a b ls rs refl wa wb
joined op.Xor a b ls rs wa wb = joined_at 6 op.Xor a b ls rs refl wa wb
joined op.Or a b ls rs wa wb = joined_at 7 op.Or a b ls rs refl wa wb

level_within : (o : Arith) → level_of o ≤ loosest
level_within op.Multiply = omega arith
level_within o = omega arith

-- two operands and the operator between them, in brackets or not
abbrev joined_in : Bool → List ℕ → List ℕ → List ℕ → List ℕ
joined_in needed ls s rs = printed_if needed mark.LeftParen ++ (ls ++ (s ++ (rs ++ printed_if needed mark.RightParen)))

-- an expression in brackets is an operand
in_brackets : (e : CExpression) (bytes : List ℕ) → TextOf (SpellsExpression loosest e) bytes → TextOf (SpellsExpression 0 e) (bracketed_text bytes)
in_brackets e bytes w = record { tokens = bracketed w.tokens; cut = cuts-brackets w.cut; spells = g.SpellsExpression.brackets e w.tokens w.spells }

inner_joined : (ls s rs : List ℕ) → ls ++ (s ++ (rs ++ printed_mark mark.RightParen)) ≡ (ls ++ (s ++ rs)) ++ printed_mark mark.RightParen
inner_joined ls s rs = sym (append_assoc ls (s ++ rs) (printed_mark mark.RightParen) ∙ ap (λ r. ls ++ r) (append_assoc s rs (printed_mark mark.RightParen)))

-- at any level, with the brackets that are needed there
printed_operation : (o : Arith) (e : CExpression) (ls s rs : List ℕ) (l : ℕ) (needed : Bool) → nat_lt l (level_of o) ≡ needed
    → TextOf (SpellsExpression (level_of o) e) (ls ++ (s ++ rs)) → TextOf (SpellsExpression l e) (joined_in needed ls s rs)
printed_operation o e ls s rs l true is w =
    operand e l (joined_in true ls s rs) (text_of_same _ _ (ap (λ r. printed_mark mark.LeftParen ++ r) (inner_joined ls s rs))
    (in_brackets e (ls ++ (s ++ rs)) (printed_looser e (level_of o) loosest (ls ++ (s ++ rs)) (level_within o) w)))
printed_operation o e ls s rs l false is w =
    let le : level_of o ≤ l = grind (arith, nat_tests) in
    text_of_same _ _ (ap (λ r. ls ++ (s ++ r)) (append-nil rs)) (printed_looser e (level_of o) l (ls ++ (s ++ rs)) le w)

-- ---- places and expressions

-- at every level, what is printed for it is a text of it
abbrev IsPrinted : CExpression → Type 0
IsPrinted e = written (expression_of e) ≡ true → (l : ℕ) → TextOf (SpellsExpression l e) (expression_text e l)

abbrev IsPlaced : CPlace → Type 0
IsPlaced p = written_place (place_of p) ≡ true → TextOf (SpellsPlace p) (place_text p)

printed-Name : (name : List ℕ) → IsPlaced (place.Name name)
printed-Name name good = text_of_same _ _ (text-Name name) (record {
  tokens = token.Name name ∷ [];
  cut = cuts-name name (ap written_place (sym (of-Name name)) ∙ good);
  spells = g.SpellsPlace.name name;
})

printed-At : (t : CType) (e : CExpression) → IsPrinted e → IsPlaced (place.At t e)
printed-At t e he good =
    let w = he (ap written_place (sym (of-At t e)) ∙ good) loosest in
    text_of_same _ _ (text-At t e) (record {
      tokens = token.Mark mark.Star ∷ (bracketed (type_tokens t ++ sign mark.Star) ++ bracketed w.tokens);
      cut = cuts-append (cuts-pointed t) (cuts-brackets w.cut);
      spells = g.SpellsPlace.pointed t e w.tokens w.spells;
    })

printed-Constant : (c : CConstant) → IsPrinted (tree.Constant c)
printed-Constant c good l =
    let w = printed_constant c (ap written (sym (of-Constant c)) ∙ good) in
    text_of_same _ _ (text-Constant c l) (operand (tree.Constant c) l (constant_text c) (record {
      tokens = w.tokens;
      cut = w.cut;
      spells = g.SpellsExpression.number c w.tokens w.spells;
    }))

printed-Load : (p : CPlace) → IsPlaced p → IsPrinted (tree.Load p)
printed-Load p hp good l =
    let w = hp (ap written (sym (of-Load p)) ∙ good) in
    text_of_same _ _ (text-Load p l) (operand (tree.Load p) l (place_text p) (record {
      tokens = w.tokens;
      cut = w.cut;
      spells = g.SpellsExpression.load p w.tokens w.spells;
    }))

printed-Unary : (o : Prefix) (e : CExpression) → IsPrinted e → IsPrinted (tree.Unary o e)
printed-Unary o e he good l =
    let w = he (ap written (sym (of-Unary o e)) ∙ good) 0 in
    text_of_same _ _ (text-Unary o e l) (operand (tree.Unary o e) l (printed_mark (prefix_mark o) ++ expression_text e 0) (record {
      tokens = token.Mark (prefix_mark o) ∷ w.tokens;
      cut = cuts-append (cuts-mark (prefix_mark o)) w.cut;
      spells = g.SpellsExpression.prefixed o e w.tokens w.spells;
    }))

printed-Cast : (t : CType) (e : CExpression) → IsPrinted e → IsPrinted (tree.Cast t e)
printed-Cast t e he good l =
    let w = he (ap written (sym (of-Cast t e)) ∙ good) 0 in
    text_of_same _ _ (text-Cast t e l) (operand (tree.Cast t e) l (cast_text t ++ expression_text e 0) (record {
      tokens = bracketed (type_tokens t) ++ w.tokens;
      cut = cuts-append (cuts-brackets (cuts-type t)) w.cut;
      spells = g.SpellsExpression.cast t e w.tokens w.spells;
    }))

printed-AddressOf : (name : List ℕ) → IsPrinted (tree.AddressOf name)
printed-AddressOf name good l =
    let is : is_name name ≡ true = ap written (sym (of-AddressOf name)) ∙ good in
    text_of_same _ _ (text-AddressOf name l) (operand (tree.AddressOf name) l (cast_text ty.Pointer ++ (printed_mark mark.And ++ spaced name)) (record {
      tokens = bracketed (token.Mark mark.Char ∷ sign mark.Star) ++ (token.Mark mark.And ∷ token.Name name ∷ []);
      cut = cuts-append (cuts-brackets (cuts-type ty.Pointer)) (cuts-append (cuts-mark mark.And) (cuts-name name is));
      spells = g.SpellsExpression.address name;
    }))

printed-Binary : (o : Arith) (a b : CExpression) → IsPrinted a → IsPrinted b → IsPrinted (tree.Binary o a b)
printed-Binary o a b ha hb good l =
    let parts = and_parts (written (expression_of a)) (written (expression_of b)) (ap written (sym (of-Binary o a b)) ∙ good) in
    text_of_same _ _ (text-Binary o a b l)
    (printed_operation o (tree.Binary o a b) (expression_text a (level_of o)) (printed_mark (sign_of o)) (expression_text b (level_of o - 1)) l (nat_lt l (level_of o)) refl
    (joined o a b _ _ (ha parts.0 (level_of o)) (hb parts.1 (level_of o - 1))))

-- an expression, once its operands are printed so
layer : (y : CExpression-F ((e : CExpression) × IsPrinted e) ((p : CPlace) × IsPlaced p))
    → IsPrinted (roll-CExpression (map-CExpression _ _ _ _ (λ c. c.0) (λ c. c.0) y))
layer (CExpression-F.Constant c) = subst IsPrinted (sym (rolls-Constant c)) (printed-Constant c)
layer (CExpression-F.Load p) = subst IsPrinted (sym (rolls-Load p.0)) (printed-Load p.0 p.1)
layer (CExpression-F.Unary o e) = subst IsPrinted (sym (rolls-Unary o e.0)) (printed-Unary o e.0 e.1)
layer (CExpression-F.Cast t e) = subst IsPrinted (sym (rolls-Cast t e.0)) (printed-Cast t e.0 e.1)
layer (CExpression-F.AddressOf name) = subst IsPrinted (sym (rolls-AddressOf name)) (printed-AddressOf name)
layer (CExpression-F.Binary o a b) = subst IsPrinted (sym (rolls-Binary o a.0 b.0)) (printed-Binary o a.0 b.0 a.1 b.1)

place_layer : (y : CPlace-F ((e : CExpression) × IsPrinted e) ((p : CPlace) × IsPlaced p))
    → IsPlaced (roll-CPlace (map-CPlace _ _ _ _ (λ c. c.0) (λ c. c.0) y))
place_layer (CPlace-F.Name name) = subst IsPlaced (sym (rolls-Name name)) (printed-Name name)
place_layer (CPlace-F.At t e) = subst IsPlaced (sym (rolls-At t e.0)) (printed-At t e.0 e.1)

pub printed_expression : (e : CExpression) → IsPrinted e
printed_expression = ind-CExpression IsPrinted IsPlaced
    (λ x y is. subst (λ z. IsPrinted (roll-CExpression z)) is (layer y))
    (λ x y is. subst (λ z. IsPlaced (roll-CPlace z)) is (place_layer y))

pub printed_place : (p : CPlace) → IsPlaced p
printed_place = ind-CPlace IsPrinted IsPlaced
    (λ x y is. subst (λ z. IsPrinted (roll-CExpression z)) is (layer y))
    (λ x y is. subst (λ z. IsPlaced (roll-CPlace z)) is (place_layer y))

pub printed_whole : (e : CExpression) → written (expression_of e) ≡ true → TextOf (SpellsExpression loosest e) (whole_text e)
printed_whole e good = printed_expression e good loosest

-- ---- arguments

printed_some : (e : CExpression) (es : List CExpression) → all_written (map expression_of (e ∷ es)) ≡ true
    → TextOf (SpellsSome (e ∷ es)) (whole_text e ++ after_commas (map whole_text es))
printed_some e [] good =
    let parts = and_parts (written (expression_of e)) true good in
    let w = printed_whole e parts.0 in
    text_of_same _ _ (append-nil (whole_text e)) (record { tokens = w.tokens; cut = w.cut; spells = g.SpellsSome.last e w.tokens w.spells })
printed_some e (f ∷ es) good =
    let parts = and_parts (written (expression_of e)) (all_written (map expression_of (f ∷ es))) good in
    let w = printed_whole e parts.0 in
    let others = printed_some f es parts.1 in
    record {
      tokens = w.tokens ++ (token.Mark mark.Comma ∷ others.tokens);
      cut = cuts-append w.cut (cuts-append (cuts-mark mark.Comma) others.cut);
      spells = g.SpellsSome.more e w.tokens (f ∷ es) others.tokens w.spells others.spells;
    }

pub printed_listed : (es : List CExpression) → all_written (map expression_of es) ≡ true → TextOf (SpellsArguments es) (listed_text es)
printed_listed [] good = record { tokens = []; cut = cuts-none; spells = g.SpellsArguments.none }
printed_listed (e ∷ es) good =
    let w = printed_some e es good in
    record { tokens = w.tokens; cut = w.cut; spells = g.SpellsArguments.some (e ∷ es) w.tokens w.spells }
