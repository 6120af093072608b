-- An identifier with a bracket behind it is a declarator: with parameters where these can stand there, and else the name alone.
use Rattle.std.proofs.Common.{◌≡◌, ℕ, zero, suc, Bool, true, false, cond, List, [], ◌∷◌, length, drop, Option, Some, None, is_some, nat_eq, refl, sym, ◌∙◌, ap, arith}
use Rattle.std.proofs.lemmas.Bool.Decides.{nat_tests}
use Rattle.cf_tokens.specs.declared.token.Token.{Token}
use Rattle.cf_tokens.specs.declared.token.Word.{Word}
use Rattle.cf_tokens.specs.declared.token.Word.TheVariants as words
use Rattle.cf_syntax.specs.declared.declarator.DeclTree.{DeclTree}
use Rattle.cf_syntax.specs.declared.declarator.DeclTree.TheFolds.{fold-roll-DeclTree}
use Rattle.cf_syntax.specs.declared.declarator.DeclTree.TheOpen.{DeclTree-F}
use Rattle.cf_syntax.specs.declared.declarator.DeclTree.TheVariants as decl
use Rattle.cf_syntax.specs.declared.declarator.DeclTree.TheVariants.{rolls-Declared, rolls-Array, rolls-Function}
use Rattle.cf_syntax.specs.declared.declarator.Param.{Param}
use Rattle.cf_syntax.specs.declared.expression.Expr.{Expr}
use Rattle.cf_syntax.specs.declared.name.Last.TheVariants as last
use Rattle.cf_syntax.specs.declared.name.Name.{Name}
use Rattle.cf_syntax.specs.declared.reading.DeclaratorKind.TheVariants as kind
use Rattle.cf_syntax.specs.declared.reading.Qualifiers.{Qualifiers}
use Rattle.cf_syntax.specs.declared.specifier.Pointer.{Pointer}
use Rattle.cf_syntax.specs.declared.specifier.Pointer.TheVariants as pointer
use Rattle.cf_syntax.specs.NamesData.{Names}
use Rattle.cf_syntax.specs.Grammar.{sees}
use Rattle.cf_syntax.specs.Named.{opened, qualifier, qualifiers, unqualified, one_pointer, to_member, const_behind, no_names}
use Rattle.cf_syntax.specs.Parse.{Parse, pure, with_rest, then, turn, loop, word}
use Rattle.cf_syntax.specs.Reading.{Readers, readers, params_in_brackets, bracketed_head, pointed, declarator, declarator_behind, array_behind, function_behind, direct}
use Rattle.cf_syntax.specs.Specified.{name, name_of, last_part, some_ident, operator_name}
use Rattle.cf_syntax.specs.Words.{code, front, place, ident_of, ident_at, scope, tilde, operator_word, left_paren, right_paren, left_bracket, star, ampersand, const_word}
use Rattle.cf_parse_expr.proofs.Opened.{opened_none}
use Rattle.cf_parse_expr.proofs.Qualifying.{qualifier-none}
use Rattle.cf_parse_expr.specs.Named.{ahead, typed}
use Rattle.cf_parse_expr.specs.Whole.{declarator_at}
use Rattle.cf_parse_simple.proofs.Commas.{no-word}
use Rattle.cf_parse_simple.specs.Constructors.{turned, is_more, params_behind}
use Rattle.cf_unit.specs.Declares.{Shape, shape, called, covered, tree_step, expr_step, param_step, type_step}

-- ---- the name

ident-code : (w : Word) (n : List ℕ) → ident_of w ≡ Some n → code w ≡ 128
ident-code (words.Ident m) n e = refl
ident-code (words.Keyword k) n e = absurd (cc)
ident-code (words.Int v k) n e = absurd (cc)
ident-code (words.Char v) n e = absurd (cc)
ident-code (words.Text b) n e = absurd (cc)
ident-code (words.Sign s) n e = absurd (cc)

is-bracket : (k : ℕ) → nat_eq k left_paren ≡ true → k ≡ 0
is-bracket k e = grind (arith, nat_tests)

none-at-once : {A : Type 0} (step : A → Parse A) (n : ℕ) (a : A) (ts : List Token) → step a ts ≡ None → loop step n a ts ≡ Some (a, ts)
none-at-once step zero a ts e = refl
none-at-once step (suc n) a ts e = ap (λ o. turn o a ts (loop step n)) e

-- no qualifier stands before an identifier with a bracket behind it
unqualified-here : (names : Names) (ts : List Token) → front ts ≡ 128 → front (drop 1 ts) ≡ 0 → qualifiers names ts ≡ Some (unqualified false, ts)
unfolding ahead
unqualified-here names ts f b =
    ap (λ k. cond (nat_eq k scope) (loop (qualifier names) (length (drop 1 ts)) (unqualified true) (drop 1 ts)) (loop (qualifier names) (length ts) (unqualified false) ts)) f
    ∙ none-at-once (qualifier names) (length ts) (unqualified false) ts (qualifier-none names (unqualified false) ts (sym (ap (λ k. cond (nat_eq k scope) (typed names (unqualified false).asked ts) None) b)))

last-here : (names : Names) (ts : List Token) (n : List ℕ) → front ts ≡ 128 → front (drop 1 ts) ≡ 0 → ident_at ts ≡ Some n → last_part names ts ≡ Some (last.Ident n, drop 1 ts)
last-here names ts n f b i =
    ap (λ k. cond (nat_eq k tilde) (some_ident last.Destructor (ident_at (drop 1 ts)) (drop 2 ts)) (cond (nat_eq k operator_word) (operator_name names (drop 1 ts))
    (cond (nat_eq (front (drop 1 ts)) scope) None (some_ident last.Ident (ident_at ts) (drop 1 ts))))) f
    ∙ ap (λ k. cond (nat_eq k scope) None (some_ident last.Ident (ident_at ts) (drop 1 ts))) b
    ∙ ap (λ o. some_ident last.Ident o (drop 1 ts)) i

abbrev name-of : List Token → List ℕ → Name
name-of ts n = name_of (place ts) (unqualified false) (place ts) (last.Ident n)

name-here : (names : Names) (ts : List Token) (n : List ℕ) → front ts ≡ 128 → front (drop 1 ts) ≡ 0 → ident_at ts ≡ Some n → name names ts ≡ Some ((name-of ts n, []), drop 1 ts)
name-here names ts n f b i =
    ap (λ o. with_rest o (λ q us. with_rest (last_part names us) (λ part. pure (name_of (place ts) q (place us) part, q.classes)))) (unqualified-here names ts f b)
    ∙ ap (λ o. with_rest o (λ part. pure (name_of (place ts) (unqualified false) (place ts) part, []))) (last-here names ts n f b i)

abbrev member-from : Names → ℕ → Qualifiers → Parse Pointer
member-from names at q us = cond (no_names q.names) None
    (then (word star) (λ _. const_behind (λ is_const. pointer.ToMember at (record { at = at; from_file = q.from_file; names = q.names }) is_const)) us)

no-member : (names : Names) (ts : List Token) → front ts ≡ 128 → front (drop 1 ts) ≡ 0 → to_member names ts ≡ None
no-member names ts f b = ap (λ o. with_rest o (member-from names (place ts))) (unqualified-here names ts f b)

no-pointer : (names : Names) (ts : List Token) → front ts ≡ 128 → front (drop 1 ts) ≡ 0 → one_pointer names ts ≡ None
no-pointer names ts f b = ap (λ k. cond (nat_eq k star) (const_behind (λ is_const. pointer.To (place ts) is_const) (drop 1 ts))
    (cond (nat_eq k ampersand) (Some (pointer.Reference (place ts), drop 1 ts)) (to_member names ts))) f ∙ no-member names ts f b

-- ---- what declarators tell

bare-of : (b : Bool) (d : Shape) (all : List (List ℕ)) → (cond b (called d all) (covered d)).is_bare ≡ false
bare-of true d all = refl
bare-of false d all = refl

abbrev is-bare : DeclTree → Bool
is-bare d = (shape d).is_bare

declared-is-bare : (n : Name) → is-bare (decl.Declared n) ≡ true
declared-is-bare n = ap is-bare (sym (rolls-Declared n))
    ∙ ap (λ (s : Shape). s.is_bare) (fold-roll-DeclTree Shape (Unit {0}) (List (List ℕ)) (Unit {0}) tree_step expr_step param_step type_step (DeclTree-F.Declared n))

array-is-not : (at : ℕ) (d : DeclTree) (bound : Option Expr) → is-bare (decl.Array at d bound) ≡ false
array-is-not at d bound = ap is-bare (sym (rolls-Array at d bound))
    ∙ ap (λ (s : Shape). s.is_bare) (fold-roll-DeclTree Shape (Unit {0}) (List (List ℕ)) (Unit {0}) tree_step expr_step param_step type_step (DeclTree-F.Array at d bound))

function-is-not : (at : ℕ) (d : DeclTree) (all : List Param) (is_const : Bool) → is-bare (decl.Function at d all is_const) ≡ false
function-is-not at d all is_const = ap is-bare (sym (rolls-Function at d all is_const))
    ∙ ap (λ (s : Shape). s.is_bare) (fold-roll-DeclTree Shape (Unit {0}) (List (List ℕ)) (Unit {0}) tree_step expr_step param_step type_step (DeclTree-F.Function at d all is_const))
    ∙ bare-of (is-bare d) (shape d) _

module _ (r : Readers) (names : Names) where
  direct-here : (ts : List Token) (n : List ℕ) → front ts ≡ 128 → front (drop 1 ts) ≡ 0 → ident_at ts ≡ Some n
      → direct r kind.Named names ts ≡ loop (declarator_behind r names) (length (drop 1 ts)) (decl.Declared (name-of ts n), []) (drop 1 ts)
  direct-here ts n f b i =
      ap (λ k. with_rest (cond (nat_eq k left_paren) (bracketed_head r kind.Named names ts) (with_rest (name names ts) (λ m. pure (decl.Declared m.0, m.1)))) (λ d us. loop (declarator_behind r names) (length us) d us)) f
      ∙ ap (λ o. with_rest (with_rest o (λ m. pure (decl.Declared m.0, m.1))) (λ d us. loop (declarator_behind r names) (length us) d us)) (name-here names ts n f b i)

  declarator-here : (ts : List Token) (n : List ℕ) → front ts ≡ 128 → front (drop 1 ts) ≡ 0 → ident_at ts ≡ Some n
      → declarator r kind.Named names ts ≡ loop (declarator_behind r names) (length (drop 1 ts)) (decl.Declared (name-of ts n), []) (drop 1 ts)
  declarator-here ts n f b i = ap (λ o. cond (is_some o) (pointed r kind.Named names ts) (direct r kind.Named names ts)) (no-pointer names ts f b) ∙ direct-here ts n f b i

  -- ---- what stands behind it

  abbrev More : Option ((DeclTree × List ℕ) × List Token) → Type 0
  More None = Unit {0}
  More (Some q) = is-bare q.0.0 ≡ false

  more-cond : (b : Bool) (x y : Option ((DeclTree × List ℕ) × List Token)) → More x → More y → More (cond b x y)
  more-cond true x y l m = l
  more-cond false x y l m = m

  more-made : {A : Type 0} (d : DeclTree × List ℕ) (o : Option (A × List Token)) (make : A → DeclTree)
      → ((s : A) → is-bare (make s) ≡ false) → More (with_rest o (λ s. pure (make s, d.1)))
  more-made d None make h = tt
  more-made d (Some q) make h = h q.0

  more-behind : (d : DeclTree × List ℕ) (ts : List Token) → More (declarator_behind r names d ts)
  more-behind d ts = more-cond (sees left_bracket ts) _ _
      (more-made {A = ℕ × Option Expr} d _ (λ s. decl.Array s.0 d.0 s.1) (λ s. array-is-not s.0 d.0 s.1))
      (more-made {A = ℕ × List Param × Bool} d _ (λ s. decl.Function s.0 d.0 s.1 s.2) (λ s. function-is-not s.0 d.0 s.1 s.2))

  loop-more : (n : ℕ) (d : DeclTree × List ℕ) (ts : List Token) → is-bare d.0 ≡ false → is_more (loop (declarator_behind r names) n d ts) ≡ true
  loop-more zero d ts e = ap turned e
  loop-more (suc n) d ts e = by-turn (declarator_behind r names d ts) (more-behind d ts) (λ b us h. loop-more n b us h)
    where
      by-turn : (o : Option ((DeclTree × List ℕ) × List Token)) → More o
          → ((b : DeclTree × List ℕ) (us : List Token) → is-bare b.0 ≡ false → is_more (loop (declarator_behind r names) n b us) ≡ true)
          → is_more (turn o d ts (loop (declarator_behind r names) n)) ≡ true
      by-turn None l h = ap turned e
      by-turn (Some q) l h = h q.0 q.1 l

  -- parameters are read behind a name, where they can be
  abbrev with-const : ℕ × List Param → Bool → ℕ × List Param × Bool
  with-const all c = (all.0, all.1, c)

  abbrev function-of : Name → ℕ × List Param × Bool → DeclTree × List ℕ
  function-of n s = (decl.Function s.0 (decl.Declared n) s.1 s.2, [])

  abbrev function-behind : Name → Option ((ℕ × List Param) × List Token) → Option ((DeclTree × List ℕ) × List Token)
  function-behind n o = with_rest (with_rest o (λ all. const_behind (with-const all))) (λ s. pure (function-of n s))

  by-params : (n : Name) (m : ℕ) (us : List Token) (o : Option ((ℕ × List Param) × List Token))
      → is_more (turn (function-behind n o) (decl.Declared n, []) us (loop (declarator_behind r names) m)) ≡ is_some o
  by-params n m us None = ap turned (declared-is-bare n)
  by-params n m us (Some q) = by-const (nat_eq (front q.1) const_word)
    where
      by-const : (b : Bool) → is_more (turn (with_rest (cond b (Some (with-const q.0 true, drop 1 q.1)) (Some (with-const q.0 false, q.1))) (λ s. pure (function-of n s)))
          (decl.Declared n, []) us (loop (declarator_behind r names) m)) ≡ true
      by-const true = loop-more m (function-of n (with-const q.0 true)) (drop 1 q.1) (function-is-not q.0.0 (decl.Declared n) q.0.1 true)
      by-const false = loop-more m (function-of n (with-const q.0 false)) q.1 (function-is-not q.0.0 (decl.Declared n) q.0.1 false)

  behind-name : (n : Name) (us : List Token) → front us ≡ 0
      → is_more (loop (declarator_behind r names) (length us) (decl.Declared n, []) us) ≡ is_some (params_in_brackets r names us)
  behind-name n [] b = absurd (cc)
  behind-name n (u ∷ us) b =
      ap (λ k. is_more (turn (cond (nat_eq k left_bracket) (array_behind r names (decl.Declared n, []) (u ∷ us)) (function_behind r names (decl.Declared n, []) (u ∷ us))) (decl.Declared n, []) (u ∷ us) (loop (declarator_behind r names) (length us)))) b
      ∙ by-params n (length us) (u ∷ us) (params_in_brackets r (opened names []) (u ∷ us))
      ∙ ap (λ v. is_some (params_in_brackets r v (u ∷ us))) (opened_none names)

-- ---- the test

not-empty : (ts : List Token) (n : List ℕ) → ident_at ts ≡ Some n → (front ts ≡ 128) × (length ts ≡ suc (length (drop 1 ts)))
not-empty [] n e = absurd (cc)
not-empty (t ∷ ts) n e = (ident-code t.word n e, refl)

declares : (names : Names) (ts : List Token) (n : List ℕ) → ident_at ts ≡ Some n → front (drop 1 ts) ≡ 0
    → is_more (declarator_at names ts) ≡ is_some (params_in_brackets (readers (suc (length (drop 1 ts)))) names (drop 1 ts))
unfolding declarator_at
declares names ts n i b =
    let some = not-empty ts n i in
    ap is_more (declarator-here (readers (length ts)) names ts n some.0 b i) ∙ behind-name (readers (length ts)) names (name-of ts n) (drop 1 ts) b
    ∙ ap (λ m. is_some (params_in_brackets (readers m) names (drop 1 ts))) some.1

-- whether parameters in brackets stand at the bracket
abbrev pub held : Names → List Token → Bool
held names us = is_some (params_in_brackets (readers (suc (length us))) names us)

abbrev behind-bracket : Names → ℕ → ℕ → Parse (ℕ × List Param)
behind-bracket names depth at = then ((readers depth).params names) (λ all. then (word right_paren) (λ _. pure (at, all)))

no-bracket : (names : Names) (us : List Token) → sees left_paren us ≡ false → held names us ≡ false
no-bracket names us e = ap (λ o. is_some (with_rest o (behind-bracket names (suc (length us))))) (no-word left_paren us e)

pub params-held : (names : Names) (ts : List Token) (n : List ℕ) → ident_at ts ≡ Some n → params_behind names ts ≡ held names (drop 1 ts)
unfolding params_behind
params-held names ts n i = ap (λ o. cond (is_some o) (cond (sees left_paren (drop 1 ts)) (is_more (declarator_at names ts)) false) false) i ∙ by-bracket (sees left_paren (drop 1 ts)) refl
  where
    by-bracket : (b : Bool) → sees left_paren (drop 1 ts) ≡ b → cond b (is_more (declarator_at names ts)) false ≡ held names (drop 1 ts)
    by-bracket true e = declares names ts n i (is-bracket (front (drop 1 ts)) e)
    by-bracket false e = sym (no-bracket names (drop 1 ts) e)
