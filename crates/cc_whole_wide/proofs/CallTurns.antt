-- Arguments, what is called, and locals: what stands for their tokens is spelled, and stands beside them.
use Rattle.std.proofs.Common.{◌≡◌, ℕ, List, [], ◌∷◌, ◌++◌, Option, Some, None, option_map, map, refl, ap, sym, arith}
use Rattle.cc_whole_tokens.specs.declared.mark.Mark.TheVariants as mark
use Rattle.cc_whole_tokens.specs.declared.token.Token.{Token}
use Rattle.cc_whole_tokens.specs.declared.token.Token.TheVariants as token
use Rattle.cc_whole.specs.declared.types.CType.{CType}
use Rattle.cc_whole.specs.declared.types.CConstant.{CConstant}
use Rattle.cc_whole.specs.declared.types.CLocalType.{CLocalType}
use Rattle.cc_whole.specs.declared.types.CLocalType.TheVariants as «local»
use Rattle.cc_whole.specs.declared.expression.CPlace.{CPlace}
use Rattle.cc_whole.specs.declared.expression.CExpression.{CExpression}
use Rattle.cc_whole.specs.declared.statement.CLocal.{CLocal}
use Rattle.cc_whole.specs.declared.statement.CCallee.{CCallee}
use Rattle.cc_whole.specs.declared.statement.CCallee.TheVariants as callee
use Rattle.cc_whole.specs.SpellsTypes as types
use Rattle.cc_whole.specs.SpellsTypes.{sign, SpellsConstant, SpellsLocal, type_tokens, signature_tokens, array_tokens}
use Rattle.cc_whole.specs.Spells as g
use Rattle.cc_whole.specs.Spells.{bracketed, SpellsPlace, SpellsExpression, SpellsSome, SpellsArguments, SpellsCallee, SpellsTarget, SpellsLocals, SpellsBody, SpellsStatements, SpellsStatement, SpellsSwitch}
use Rattle.cc_whole.specs.Plain.{Expression, place_of, expression_of, callee_of}
use Rattle.cc_whole.specs.Landmarks.{marks, target_marks, callee_marks, signature_marks, variable_marks, local_marks, locals_marks}
use Rattle.cc_whole.specs.Types.{local_type}
use Rattle.cc_whole.specs.Statements.{checked_locals}
use Rattle.cc_whole_laws.specs.Landmark.{landmarks_in}
use Rattle.cc_whole_laws.proofs.Counts.{count-append, count-bracketed, count-signature, count-local}
use Rattle.cc_whole_laws.proofs.TreeMarks.{count-place, count-expression}
use Rattle.cc_whole_fitting.specs.declared.before.Before.{Before}
use Rattle.cc_whole_fitting.specs.declared.before.Before.TheVariants as before
use Rattle.cc_whole_wide.specs.declared.role.Role.{Role}
use Rattle.cc_whole_wide.specs.declared.role.Role.TheVariants as role
use Rattle.cc_whole_wide.specs.Others.{later, zero_token}
use Rattle.cc_whole_wide.proofs.Stopping.{first_of, Beside, same}
use Rattle.cc_whole_wide.proofs.ExpressionSides.{AllBeside, all_same, beside_more, CalleeBeside, callee_same, beside_pointer, beside_target}
use Rattle.cc_whole_wide.proofs.StatementSides.{nought, TargetBeside, nowhere, somewhere, wide_local, next_local}
use Rattle.cc_whole_wide.proofs.Turns.{Turned, Stays, Calm, nothing, told, first_alone, both, closed, marked, silent, worded, one, value_calm, in_brackets}
use Rattle.cc_whole_wide.proofs.TypeTurns.{Constant, fits, wide, constant_turned, type_stays, signature_stays}
use Rattle.cc_whole_wide.proofs.TreeTurns.{Other, other_place, other_expression}

-- ---- arguments and what is called

abbrev pub all_of : List CExpression → List Expression
all_of es = map expression_of es

pub other_some : {es : List CExpression} {xs : List Token} → SpellsSome es xs → Other SpellsSome all_of AllBeside before.Other role.Value before.Operand role.Value es xs
other_some (g.SpellsSome.last e xs d) =
    let x = other_expression d in
    record {
      tree = x.tree ∷ [];
      tokens = x.tokens;
      found = first_of x.found (marks (expression_of e)) None;
      spells = g.SpellsSome.last x.tree x.tokens x.spells;
      turned = told (sym (first_alone x.found (marks (expression_of e)))) x.turned;
      beside = beside_more x.beside (all_same []);
    }
other_some (g.SpellsSome.more e xs es ys d r) =
    let x = other_expression d in
    let y = other_some r in
    record {
      tree = x.tree ∷ y.tree;
      tokens = x.tokens ++ (token.Mark mark.Comma ∷ y.tokens);
      found = first_of x.found (marks (expression_of e)) y.found;
      spells = g.SpellsSome.more x.tree x.tokens y.tree y.tokens x.spells y.spells;
      turned = told (ap (λ n. first_of x.found n y.found) (count-expression d)) (both x.turned (silent mark.Comma refl y.turned));
      beside = beside_more x.beside y.beside;
    }

-- arguments in their brackets
pub record OtherArguments (b : Before) (r : Role) (es : List CExpression) (xs : List Token) : Type 0 where
  pub tree : List CExpression
  pub tokens : List Token
  pub found : Option ℕ
  pub spells : SpellsArguments tree tokens
  pub turned : Turned b r (bracketed xs) (bracketed tokens) found before.Operand role.Value
  pub beside : AllBeside found (all_of es) (all_of tree)

pub other_arguments : {es : List CExpression} {xs : List Token} (b : Before) (r : Role) → SpellsArguments es xs → OtherArguments b r es xs
other_arguments b r g.SpellsArguments.none = record {
  tree = [];
  tokens = [];
  found = None;
  spells = g.SpellsArguments.none;
  turned = record { puts = refl; after = refl; serves = refl; wide = refl; fit = refl; ends = refl };
  beside = all_same [];
}
other_arguments b r (g.SpellsArguments.some es xs d) =
    let x = other_some d in
    record { tree = x.tree; tokens = x.tokens; found = x.found; spells = g.SpellsArguments.some x.tree x.tokens x.spells; turned = in_brackets b r x.turned; beside = x.beside }

pub other_callee : {c : CCallee} {xs : List Token} (b : Before) (r : Role) → Calm r → SpellsCallee c xs → Other SpellsCallee callee_of CalleeBeside b r before.Operand role.Value c xs
other_callee b r calm (g.SpellsCallee.name name) = record {
  tree = callee.Name name;
  tokens = token.Name name ∷ [];
  found = None;
  spells = g.SpellsCallee.name name;
  turned = worded name calm (nothing before.Operand role.Value);
  beside = callee_same (callee_of (callee.Name name));
}
other_callee b r calm (g.SpellsCallee.pointer s e xs d) =
    let x = other_expression d in
    record {
      tree = callee.Pointer s x.tree;
      tokens = bracketed (signature_tokens s ++ bracketed x.tokens);
      found = later (signature_marks s) x.found;
      spells = g.SpellsCallee.pointer s x.tree x.tokens x.spells;
      turned = told (ap (λ n. later n x.found) (count-signature s))
          (in_brackets b r (both (signature_stays s before.Other role.Value) (in_brackets before.Operand role.Value x.turned)));
      beside = beside_pointer s x.beside;
    }

pub count_callee : {c : CCallee} {xs : List Token} → SpellsCallee c xs → landmarks_in xs ≡ callee_marks (callee_of c)
count_callee (g.SpellsCallee.name name) = refl
count_callee (g.SpellsCallee.pointer s e xs d) =
    omega (arith, count-bracketed (signature_tokens s ++ bracketed xs), count-append (signature_tokens s) (bracketed xs), count-signature s, count-bracketed xs, count-expression d)

-- a place and `=`, or nothing; what follows is calm
pub record OtherTarget (r : Role) (p : Option CPlace) (xs : List Token) : Type 0 where
  pub ends : Role
  pub calm : Calm ends
  pub other : Other SpellsTarget (option_map place_of) TargetBeside before.Other r before.Other ends p xs
  pub count : landmarks_in xs ≡ target_marks (option_map place_of p)

pub other_target : {p : Option CPlace} {xs : List Token} (r : Role) → Calm r → SpellsTarget p xs → OtherTarget r p xs
other_target r calm g.SpellsTarget.none = record {
  ends = r;
  calm = calm;
  other = record { tree = None; tokens = []; found = None; spells = g.SpellsTarget.none; turned = nothing before.Other r; beside = nowhere };
  count = refl;
}
other_target r calm (g.SpellsTarget.some p ps d) =
    let x = other_place before.Other r calm d in
    record {
      ends = role.Value;
      calm = value_calm;
      other = record {
        tree = Some x.tree;
        tokens = x.tokens ++ sign mark.Assign;
        found = x.found;
        spells = g.SpellsTarget.some x.tree x.tokens x.spells;
        turned = closed x.turned (one mark.Assign before.Operand role.Value);
        beside = somewhere (beside_target x.beside);
      };
      count = omega (arith, count-append ps (sign mark.Assign), count-place d);
    }

-- ---- locals

pub record OtherLocals (r : Role) (ls : List CLocal) (xs : List Token) : Type 0 where
  pub ends : Role
  pub calm : Calm ends
  pub other : Other SpellsLocals (λ (l : List CLocal). l) (Beside checked_locals) before.Other r before.Other ends ls xs
  pub count : landmarks_in xs ≡ locals_marks ls

-- the tokens of a variable or local with its name and `;`
pub array_stays : (name : List ℕ) {cs vs : List Token} {o : Option ℕ} {q : Role} (b : Before) (r : Role) → Calm r → Turned before.Other role.Size cs vs o before.Operand q
    → Turned b r (array_tokens name cs) (array_tokens name vs) (later 1 o) before.Other role.Value
array_stays name b r calm t = worded name calm (silent mark.LeftBracket refl (closed t (one mark.RightBracket before.Operand _)))

pub size_calm : Calm role.Size
size_calm own = refl

pub scalar_stays : (t : CType) (name : List ℕ) (b : Before) (r : Role) → Stays b r (type_tokens t ++ (token.Name name ∷ [])) before.Operand role.Value
scalar_stays t name b r = both (type_stays t b r) (worded name value_calm (nothing before.Operand role.Value))

next_locals : (r : Role) (x : CLocal) (ts : List Token) {s : Before} {q : Role} → SpellsLocal x.ty x.name ts → Stays before.Other r ts s q
    → {ls : List CLocal} {xs : List Token} → OtherLocals role.Value ls xs → OtherLocals r (x ∷ ls) (ts ++ (token.Mark mark.Semicolon ∷ xs))
next_locals r x ts d t {ls} {xs} rest =
    let y = rest.other in
    let l : landmarks_in ts ≡ local_marks x = count-local d in
    record {
      ends = rest.ends;
      calm = rest.calm;
      other = record {
        tree = x ∷ y.tree;
        tokens = ts ++ (token.Mark mark.Semicolon ∷ y.tokens);
        found = later (local_marks x) y.found;
        spells = g.SpellsLocals.more x.ty x.name ts y.tree y.tokens d y.spells;
        turned = told (ap (λ n. later n y.found) l)
            (both t (silent mark.Semicolon refl y.turned));
        beside = next_local x y.beside;
      };
      count = let c = rest.count in omega (arith, count-append ts (token.Mark mark.Semicolon ∷ xs), l, c);
    }

array_local : (r : Role) (c : CConstant) (cs : List Token) (name : List ℕ) → SpellsConstant c cs → Constant role.Size c cs → {ls : List CLocal} {xs : List Token} → OtherLocals role.Value ls xs
    → OtherLocals r (record { ty = «local».Ints c; name = name } ∷ ls) ((token.Mark mark.Int ∷ array_tokens name cs) ++ (token.Mark mark.Semicolon ∷ xs))
array_local r c cs name d (fits f t) rest =
    next_locals r (record { ty = «local».Ints c; name = name }) (token.Mark mark.Int ∷ array_tokens name cs) (types.SpellsLocal.ints c cs name d)
    (marked mark.Int (array_stays name before.Word role.Value value_calm t)) rest
array_local r c cs name d (wide f t) {ls} {xs} rest =
    let y = rest.other in
    record {
      ends = rest.ends;
      calm = rest.calm;
      other = record {
        tree = record { ty = «local».Ints nought; name = name } ∷ y.tree;
        tokens = (token.Mark mark.Int ∷ array_tokens name (zero_token ∷ [])) ++ (token.Mark mark.Semicolon ∷ y.tokens);
        found = Some 2;
        spells = g.SpellsLocals.more («local».Ints nought) name (token.Mark mark.Int ∷ array_tokens name (zero_token ∷ [])) y.tree y.tokens
            (types.SpellsLocal.ints nought (zero_token ∷ []) name (types.SpellsConstant.signed (48 ∷ []))) y.spells;
        turned = both (marked mark.Int (array_stays name before.Word role.Value value_calm t)) (silent mark.Semicolon refl y.turned);
        beside = wide_local name c ls y.tree f;
      };
      count =
          let k = rest.count in
          let l : landmarks_in (token.Mark mark.Int ∷ array_tokens name cs) ≡ variable_marks (local_type («local».Ints c)) = count-local (types.SpellsLocal.ints c cs name d) in
          omega (arith, count-append (token.Mark mark.Int ∷ array_tokens name cs) (token.Mark mark.Semicolon ∷ xs), l, k);
    }

other_local : (r : Role) {t : CLocalType} {name : List ℕ} {ts : List Token} → SpellsLocal t name ts → {ls : List CLocal} {xs : List Token} → OtherLocals role.Value ls xs
    → OtherLocals r (record { ty = t; name = name } ∷ ls) (ts ++ (token.Mark mark.Semicolon ∷ xs))
other_local r (types.SpellsLocal.scalar t name) rest =
    next_locals r (record { ty = «local».Scalar t; name = name }) _ (types.SpellsLocal.scalar t name) (scalar_stays t name before.Other r) rest
other_local r (types.SpellsLocal.ints c cs name d) rest = array_local r c cs name d (constant_turned role.Size size_calm d) rest

pub other_locals : (r : Role) → Calm r → {ls : List CLocal} {xs : List Token} → SpellsLocals ls xs → OtherLocals r ls xs
other_locals r calm g.SpellsLocals.none = record {
  ends = r;
  calm = calm;
  other = record { tree = []; tokens = []; found = None; spells = g.SpellsLocals.none; turned = nothing before.Other r; beside = same [] };
  count = refl;
}
other_locals r calm (g.SpellsLocals.more t name ts locals xs d rest) = other_local r d (other_locals role.Value value_calm rest)
