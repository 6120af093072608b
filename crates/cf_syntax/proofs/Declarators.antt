-- Declarators, parameters and types in brackets are read as their longest phrases.
use Rattle.std.proofs.Common.{◌≡◌, ℕ, true, false, ◌⊎◌, inl, inr, List, [], ◌∷◌, ◌++◌, ◌<◌, subst, append-nil, length, Option, Some, None, refl, sym, ◌∙◌, ap, arith, cond, nat_eq}
use Rattle.std.specs.Prelude.{is_some}
use Rattle.cf_tokens.specs.declared.token.Token.{Token}
use Rattle.cf_syntax.specs.declared.declarator.DeclTree.{DeclTree}
use Rattle.cf_syntax.specs.declared.declarator.DeclTree.TheVariants as decl
use Rattle.cf_syntax.specs.declared.declarator.Param.{Param}
use Rattle.cf_syntax.specs.declared.expression.Expr.{Expr}
use Rattle.cf_syntax.specs.declared.reading.DeclaratorKind.{DeclaratorKind}
use Rattle.cf_syntax.specs.declared.reading.DeclaratorKind.TheVariants as kind
use Rattle.cf_syntax.specs.declared.type_names.Scope.{Scope}
use Rattle.cf_syntax.specs.NamesData.{Names}
use Rattle.cf_syntax.specs.Words.{front, left_paren, right_paren, left_bracket, right_bracket, comma, equals}
use Rattle.cf_syntax.specs.Named.{opened, one_pointer}
use Rattle.cf_syntax.specs.Specified.{specifiers, name}
use Rattle.cf_syntax.specs.Parse.{Parse, none, with_rest, choose, or_stop, option, repeat, word}
use Rattle.cf_syntax.specs.Language.{Language, Never, Exactly, Word, Then, Made, Maybe, Many, By, ended, again}
use Rattle.cf_syntax.specs.Grammar.{Inside, sees, begins, name_words, specifier_words, here, param_of, with_default, ParamsInBrackets, HoldsParams, NamedHead, BracketedHead, BracketedUnless, SomeHead, ArrayBound, ArrayBehind, ParametersBehind, FunctionBehind, DeclaratorBehind, Declarator, PlainParam, DefaultBehind, OneParam, NextParam, SomeParams, Params, TypeInside}
use Rattle.cf_syntax.specs.Reading.{Readers, params_in_brackets, holds_params, named_head, bracketed_head, bracketed_unless, some_head, array_bound, array_behind, parameters_behind, function_behind, declarator_behind, direct, declarator, plain_param, default_behind, one_param, next_param, some_params, params, type_inside}
use Rattle.cf_syntax.proofs.Good.{among, within, Exceeds, Meets, both-ways, apart-at, split-rest, Good, Starts, Eats, good-wider, good-then, good-made, good-exactly, starts-word, within-at}
use Rattle.cf_syntax.proofs.Tails.{Tail, tail-option, good-by, good-only, good-never, good-close}
use Rattle.cf_syntax.proofs.Repeats.{tail-repeat, good-tail}
use Rattle.cf_syntax.proofs.Keeps.{Keeps, keeps-never, keeps-exactly, keeps-then, keeps-made, keeps-by, keeps-maybe, keeps-many, keeps-eats, eats-word, eats-then, starts-then, eats-made, starts-made, starts-by, eats-by}
use Rattle.cf_syntax.proofs.Under.{under-some, under-name, under-one_pointer, under-const_behind, under-specifiers, name-strict, specifiers-strict}
use Rattle.cf_syntax.proofs.Inner.{Inner, behind_assign, behind_condition, behind_declarator, behind_params}
use Rattle.cf_syntax.proofs.Operands.{good-after, good-behind, is-some-has}

module _ («in» : Inside) (r : Readers) (ok : Inner «in» r) where
  keeps-closing : {B : Type 0} (n : ℕ) (b : B) → Keeps (Made (λ _. b) (Word n))
  keeps-closing n b = keeps-made _ (Word n) (keeps-eats _ (eats-word n))

  begins-among : (ns : List ℕ) (ts : List Token) → begins ns ts ≡ among ns (front ts)
  begins-among [] ts = refl
  begins-among (n ∷ ns) ts = ap (λ b. cond (nat_eq (front ts) n) true b) (begins-among ns ts)

  -- ---- "(" params ")"

  pub good-params_in_brackets : (names : Names) → Good [] (params_in_brackets r names) (ParamsInBrackets «in» names)
  good-params_in_brackets names = good-after «in» r ok [] left_paren _ _ (λ at. good-close behind_params right_paren (λ all. (at, all)) (r.params names) («in».params names) (ok.params names) refl)

  eats-params_in_brackets : (names : Names) → Eats (ParamsInBrackets «in» names)
  eats-params_in_brackets names = eats-then (Word left_paren) _ (eats-word left_paren) (λ at. keeps-then _ _ (ok.keeps_params names) (λ all. keeps-closing right_paren (at, all)))

  params-held : (names : Names) (ts : List Token) → holds_params r names ts ≡ true → HoldsParams «in» names ts
  params-held names ts e = let s = is-some-has «in» r ok (params_in_brackets r names ts) e in (s.0.0, s.0.1, (good-params_in_brackets names).sound ts s.0.0 s.0.1 s.1)

  params-decide : (names : Names) (ts : List Token) → HoldsParams «in» names ts → holds_params r names ts ≡ true
  params-decide names ts (x, rest, l) = by_meets ((good-params_in_brackets names).meets ts x rest l)
    where
      by_meets : (params_in_brackets r names ts ≡ Some (x, rest)) ⊎ Exceeds [] (params_in_brackets r names ts) rest → holds_params r names ts ≡ true
      by_meets (inl e) = ap (λ o. is_some o) e
      by_meets (inr y) = ap (λ o. is_some o) y.is

  -- ---- heads

  good-named_head : (names : Names) → Good [] (named_head r names) (NamedHead «in» names)
  good-named_head names = good-made [] (λ n. (decl.Declared n.0, n.1)) (name names) (Exactly (name names)) (good-exactly (name names))

  keeps-named_head : (names : Names) → Keeps (NamedHead «in» names)
  keeps-named_head names = keeps-made _ _ (keeps-exactly (name names) (λ ts. under-name names (length ts) ts (omega arith)))

  good-bracketed_head : (k : DeclaratorKind) (names : Names) → Good [] (bracketed_head r k names) (BracketedHead «in» k names)
  good-bracketed_head k names = good-after «in» r ok [] left_paren _ _ (λ at. good-close behind_declarator right_paren (λ d. (decl.Bracketed at d.0, d.1)) (r.declarator k names) («in».declarator k names) (ok.declarator k names) refl)

  eats-bracketed_head : (k : DeclaratorKind) (names : Names) → Eats (BracketedHead «in» k names)
  eats-bracketed_head k names = eats-then (Word left_paren) _ (eats-word left_paren) (λ at. keeps-then _ _ (ok.keeps_declarator k names) (λ d. keeps-closing right_paren (decl.Bracketed at d.0, d.1)))

  good-bracketed_unless : (k : DeclaratorKind) (names : Names) → Good [] (bracketed_unless r k names) (BracketedUnless «in» k names)
  good-bracketed_unless k names = good-only [] (HoldsParams «in» names) (holds_params r names) (bracketed_head r k names) (BracketedHead «in» k names)
      (good-bracketed_head k names) (params-held names) (params-decide names)

  abbrev head_words : List ℕ
  head_words = 0 ∷ name_words

  abbrev AbstractStep : Names → Language (DeclTree × List ℕ)
  AbstractStep names = By (sees left_paren) (BracketedUnless «in» kind.Abstract names) Never

  abbrev EitherStep : Names → Language (DeclTree × List ℕ)
  EitherStep names = By (sees left_paren) (BracketedUnless «in» kind.Either names) (By (begins name_words) (NamedHead «in» names) Never)

  starts-bracketed_unless : (k : DeclaratorKind) (names : Names) → Starts head_words (BracketedUnless «in» k names)
  starts-bracketed_unless k names ts x rest (held, (at, mid, w, m)) = within-at (left_paren ∷ []) head_words (front ts) refl (starts-word left_paren ts at mid w)

  eats-bracketed_unless : (k : DeclaratorKind) (names : Names) → Eats (BracketedUnless «in» k names)
  eats-bracketed_unless k names ts x rest l = eats-bracketed_head k names ts x rest l.1

  starts-never : {A : Type 0} (ks : List ℕ) → Starts {A = A} ks Never
  starts-never ks ts x rest l = absurd l

  eats-never : {A : Type 0} → Eats {A = A} Never
  eats-never ts x rest l = absurd l

  -- a name where one of its first words stands
  starts-guarded : {A : Type 0} (ns : List ℕ) (L M : Language A) → Starts ns M → Starts ns (By (begins ns) L M)
  starts-guarded ns L M h ts x rest (inl l) = sym (begins-among ns ts) ∙ l.0
  starts-guarded ns L M h ts x rest (inr m) = h ts x rest m.1

  eats-named_head : (names : Names) → Eats (NamedHead «in» names)
  eats-named_head names = eats-made _ _ (name-strict names)

  starts-wider : {A : Type 0} (ks js : List ℕ) (L : Language A) → within ks js ≡ true → Starts ks L → Starts js L
  starts-wider ks js L w h ts x rest l = within-at ks js (front ts) w (h ts x rest l)

  good-abstract_step : (names : Names) → Good [] (choose (sees left_paren) (bracketed_unless r kind.Abstract names) none) (AbstractStep names)
  good-abstract_step names = good-by [] (sees left_paren) _ _ _ _ (good-bracketed_unless kind.Abstract names) good-never

  good-either_step : (names : Names) → Good [] (choose (sees left_paren) (bracketed_unless r kind.Either names) (choose (begins name_words) (named_head r names) none)) (EitherStep names)
  good-either_step names = good-by [] (sees left_paren) _ _ _ _ (good-bracketed_unless kind.Either names) (good-by [] (begins name_words) _ _ _ _ (good-named_head names) good-never)

  good-some_head : (k : DeclaratorKind) (names : Names) → Good head_words (some_head r k names) (SomeHead «in» k names)
  good-some_head kind.Named names = good-wider [] head_words _ _ refl (good-by [] (sees left_paren) _ _ _ _ (good-bracketed_head kind.Named names) (good-named_head names))
  good-some_head kind.Abstract names = good-wider (head_words ++ []) head_words _ _ refl
      ((tail-option head_words [] _ (λ _. AbstractStep names) (λ _. good-abstract_step names)
      (λ _. starts-by head_words _ _ _ (starts-bracketed_unless kind.Abstract names) (starts-never head_words))
      (λ _. eats-by _ _ _ (eats-bracketed_unless kind.Abstract names) eats-never)).good (decl.Unnamed, []))
  good-some_head kind.Either names = good-wider (head_words ++ []) head_words _ _ refl
      ((tail-option head_words [] _ (λ _. EitherStep names) (λ _. good-either_step names)
      (λ _. starts-by head_words _ _ _ (starts-bracketed_unless kind.Either names)
      (starts-wider name_words head_words _ refl (starts-guarded name_words _ _ (starts-never name_words))))
      (λ _. eats-by _ _ _ (eats-bracketed_unless kind.Either names) (eats-by _ _ _ (eats-named_head names) eats-never))).good (decl.Unnamed, []))

  keeps-some_head : (k : DeclaratorKind) (names : Names) → Keeps (SomeHead «in» k names)
  keeps-some_head kind.Named names = keeps-by _ _ _ (keeps-eats _ (eats-bracketed_head kind.Named names)) (keeps-named_head names)
  keeps-some_head kind.Abstract names = keeps-maybe (λ _. AbstractStep names) (decl.Unnamed, []) (λ _. keeps-by _ _ _ (keeps-eats _ (eats-bracketed_unless kind.Abstract names)) keeps-never)
  keeps-some_head kind.Either names = keeps-maybe (λ _. EitherStep names) (decl.Unnamed, []) (λ _. keeps-by _ _ _ (keeps-eats _ (eats-bracketed_unless kind.Either names)) (keeps-by _ _ _ (keeps-named_head names) keeps-never))

  -- ---- what stands behind

  good-array_bound : (names : Names) → Good [] (array_bound r names) (ArrayBound «in» names)
  good-array_bound names = good-by [] (sees right_bracket) _ _ _ _ (good-made [] (λ _. None) (word right_bracket) (Word right_bracket) (good-exactly (word right_bracket)))
      (good-close behind_condition right_bracket (λ x. Some x) (r.condition names) («in».condition names) (ok.condition names) refl)

  keeps-array_bound : (names : Names) → Keeps (ArrayBound «in» names)
  keeps-array_bound names = keeps-by _ _ _ (keeps-closing right_bracket None) (keeps-then _ _ (ok.keeps_condition names) (λ x. keeps-closing right_bracket (Some x)))

  abbrev ArrayParts : Names → Language (ℕ × Option Expr)
  ArrayParts names = Then (Word left_bracket) (λ at. Made (λ b. (at, b)) (ArrayBound «in» names))

  good-array_behind : (names : Names) (d : DeclTree × List ℕ) → Good [] (array_behind r names d) (ArrayBehind «in» names d)
  good-array_behind names d = good-made [] (λ s. (decl.Array s.0 d.0 s.1, d.1)) _ (ArrayParts (opened names d.1))
      (good-after «in» r ok [] left_bracket _ _ (λ at. good-made [] (λ b. (at, b)) (array_bound r (opened names d.1)) (ArrayBound «in» (opened names d.1)) (good-array_bound (opened names d.1))))

  good-parameters_behind : (names : Names) → Good [] (parameters_behind r names) (ParametersBehind «in» names)
  good-parameters_behind names = good-then [] [] (params_in_brackets r names) _ (ParamsInBrackets «in» names) _ (good-params_in_brackets names) (λ all. good-exactly _) (λ a ts b rest m. refl)

  good-function_behind : (names : Names) (d : DeclTree × List ℕ) → Good [] (function_behind r names d) (FunctionBehind «in» names d)
  good-function_behind names d = good-made [] (λ s. (decl.Function s.0 d.0 s.1 s.2, d.1)) (parameters_behind r (opened names d.1)) (ParametersBehind «in» (opened names d.1)) (good-parameters_behind (opened names d.1))

  abbrev behind_words : List ℕ
  behind_words = 2 ∷ 0 ∷ []

  eats-parameters_behind : (names : Names) → Eats (ParametersBehind «in» names)
  eats-parameters_behind names = eats-then _ _ (eats-params_in_brackets names)
      (λ all. keeps-exactly _ (λ ts. under-const_behind (λ is_const. (all.0, all.1, is_const)) (length ts) ts (omega arith)))

  tail-behind : (names : Names) → Tail (λ a. a) behind_words [] (repeat (declarator_behind r names)) (Many (DeclaratorBehind «in» names))
  tail-behind names = tail-repeat behind_words [] _ _
      (λ d. good-by [] (sees left_bracket) _ _ _ _ (good-array_behind names d) (good-function_behind names d))
      (λ d. starts-by behind_words _ _ _
      (starts-wider (left_bracket ∷ []) behind_words _ refl (starts-made (left_bracket ∷ []) _ (ArrayParts (opened names d.1)) (starts-then (left_bracket ∷ []) (Word left_bracket) _ (starts-word left_bracket))))
      (starts-wider (left_paren ∷ []) behind_words _ refl (starts-made (left_paren ∷ []) _ (ParametersBehind «in» (opened names d.1))
      (starts-then (left_paren ∷ []) _ _ (starts-then (left_paren ∷ []) (Word left_paren) _ (starts-word left_paren))))))
      (λ d. eats-by _ _ _ (eats-made _ (ArrayParts (opened names d.1)) (eats-then (Word left_bracket) _ (eats-word left_bracket) (λ at. keeps-made _ _ (keeps-array_bound (opened names d.1)))))
      (eats-made _ (ParametersBehind «in» (opened names d.1)) (eats-parameters_behind (opened names d.1))))
      refl

  -- the reading of a head went past a phrase of it, where no params stand in brackets
  record HeadExceeds (names : Names) (q : Option ((DeclTree × List ℕ) × List Token)) (d : DeclTree × List ℕ) (mid : List Token) : Type 0 where
    value : DeclTree × List ℕ
    after : List Token
    is : q ≡ Some (value, after)
    less : length after < length mid
    on : among head_words (front mid) ≡ true
    not_params : HoldsParams «in» (opened names d.1) mid → ⊥

  opened-none : (names : Names) → opened names [] ≡ names
  opened-none names = ap (λ (inner : List Scope). record { classes = names.classes; file = names.file; inner = inner }) (append-nil names.inner)

  -- a head that may be left out
  head-maybe : (names : Names) (step : Parse (DeclTree × List ℕ)) (S : Language (DeclTree × List ℕ)) → Good [] step S → Starts head_words S → Eats S
      → ((ts : List Token) (x : DeclTree × List ℕ) (rest : List Token) → S ts x rest → HoldsParams «in» names ts → ⊥)
      → (ts : List Token) (d : DeclTree × List ℕ) (mid : List Token) → Maybe (λ _. S) (decl.Unnamed, []) ts d mid
      → (option (λ _. step) (decl.Unnamed, []) ts ≡ Some (d, mid)) ⊎ HeadExceeds names (option (λ _. step) (decl.Unnamed, []) ts) d mid
  head-maybe names step S good starts eats guard ts d mid (inl e) = by_step (step ts) refl
    where
      moved : (DeclTree × List ℕ) × List Token
      moved = (d, mid)

      bare : (DeclTree × List ℕ) × List Token
      bare = ((decl.Unnamed, []), ts)

      same : Some bare ≡ Some moved
      same = ap (λ (z : DeclTree × List ℕ). Some (z, ts)) (sym e.0) ∙ ap (λ (us : List Token). Some (d, us)) (sym e.1)

      by_step : (q : Option ((DeclTree × List ℕ) × List Token)) → step ts ≡ q
          → (option (λ _. step) (decl.Unnamed, []) ts ≡ Some (d, mid)) ⊎ HeadExceeds names (option (λ _. step) (decl.Unnamed, []) ts) d mid
      by_step None is = inl (ap (or_stop (decl.Unnamed, []) ts) is ∙ same)
      by_step (Some q) is =
          let there = good.sound ts q.0 q.1 is in
          let less = eats ts q.0 q.1 there in
          let at : length mid ≡ length ts = ap length e.1 in
          inr (record {
            value = q.0;
            after = q.1;
            is = ap (or_stop (decl.Unnamed, []) ts) is;
            less = omega (arith, less, at);
            on = ap (λ us. among head_words (front us)) e.1 ∙ starts ts q.0 q.1 there;
            not_params = λ held. guard ts q.0 q.1 there
                (subst (λ ns. HoldsParams «in» ns ts) (opened-none names)
                (subst (λ us. HoldsParams «in» (opened names []) us) e.1 (subst (λ (z : DeclTree × List ℕ). HoldsParams «in» (opened names z.1) mid) e.0 held)));
          })
  head-maybe names step S good starts eats guard ts d mid (inr m) = by_meets (good.meets ts d mid m)
    where
      by_meets : (step ts ≡ Some (d, mid)) ⊎ Exceeds [] (step ts) mid
          → (option (λ _. step) (decl.Unnamed, []) ts ≡ Some (d, mid)) ⊎ HeadExceeds names (option (λ _. step) (decl.Unnamed, []) ts) d mid
      by_meets (inl e) = inl (ap (or_stop (decl.Unnamed, []) ts) e)
      by_meets (inr y) = both-ways false y.on refl

  abstract-guard : (names : Names) (ts : List Token) (x : DeclTree × List ℕ) (rest : List Token) → AbstractStep names ts x rest → HoldsParams «in» names ts → ⊥
  abstract-guard names ts x rest (inl l) = l.1.0
  abstract-guard names ts x rest (inr m) = absurd m.1

  sees-bracket : (names : Names) (ts : List Token) → HoldsParams «in» names ts → sees left_paren ts ≡ false → ⊥
  sees-bracket names ts (x, rest, (at, mid, w, m)) f = both-ways (among (left_paren ∷ []) (front ts)) (starts-word left_paren ts at mid w) (ap (λ b. cond b true false) f)

  either-guard : (names : Names) (ts : List Token) (x : DeclTree × List ℕ) (rest : List Token) → EitherStep names ts x rest → HoldsParams «in» names ts → ⊥
  either-guard names ts x rest (inl l) held = l.1.0 held
  either-guard names ts x rest (inr m) held = sees-bracket names ts held m.0

  head-meets : (k : DeclaratorKind) (names : Names) (ts : List Token) (d : DeclTree × List ℕ) (mid : List Token) → SomeHead «in» k names ts d mid
      → (some_head r k names ts ≡ Some (d, mid)) ⊎ HeadExceeds names (some_head r k names ts) d mid
  head-meets kind.Named names ts d mid h = by_meets ((good-by [] (sees left_paren) _ _ _ _ (good-bracketed_head kind.Named names) (good-named_head names)).meets ts d mid h)
    where
      by_meets : (some_head r kind.Named names ts ≡ Some (d, mid)) ⊎ Exceeds [] (some_head r kind.Named names ts) mid
          → (some_head r kind.Named names ts ≡ Some (d, mid)) ⊎ HeadExceeds names (some_head r kind.Named names ts) d mid
      by_meets (inl e) = inl e
      by_meets (inr y) = both-ways false y.on refl
  head-meets kind.Abstract names ts d mid h = head-maybe names _ (AbstractStep names) (good-abstract_step names)
      (starts-by head_words _ _ _ (starts-bracketed_unless kind.Abstract names) (starts-never head_words))
      (eats-by _ _ _ (eats-bracketed_unless kind.Abstract names) eats-never) (abstract-guard names) ts d mid h
  head-meets kind.Either names ts d mid h = head-maybe names _ (EitherStep names) (good-either_step names)
      (starts-by head_words _ _ _ (starts-bracketed_unless kind.Either names)
      (starts-wider name_words head_words _ refl (starts-guarded name_words _ _ (starts-never name_words))))
      (eats-by _ _ _ (eats-bracketed_unless kind.Either names) (eats-by _ _ _ (eats-named_head names) eats-never)) (either-guard names) ts d mid h

  -- what stands behind a head at a word of heads holds params in brackets
  behind-params : (names : Names) (d : DeclTree × List ℕ) (ts : List Token) (b : DeclTree × List ℕ) (rest : List Token) → among head_words (front ts) ≡ true
      → Many (DeclaratorBehind «in» names) d ts b rest → ((b ≡ d) × (rest ≡ ts)) ⊎ HoldsParams «in» (opened names d.1) ts
  behind-params names _ _ _ _ on (ended d ts) = inl (refl, refl)
  behind-params names _ _ _ _ on (again d e b ts mid rest step more) = by_kind step
    where
      by_kind : DeclaratorBehind «in» names d ts e mid → ((b ≡ d) × (rest ≡ ts)) ⊎ HoldsParams «in» (opened names d.1) ts
      by_kind (inl l) = both-ways (among head_words (front ts)) on (apart-at (left_bracket ∷ []) head_words (front ts) refl (ap (λ v. cond v true false) l.0))
      by_kind (inr (f, (s, (all, us, held, c), same))) = inr (all, us, held)

  good-direct : (k : DeclaratorKind) (names : Names) → Good behind_declarator (direct r k names) (Then (SomeHead «in» k names) (Many (DeclaratorBehind «in» names)))
  good-direct k names = record {
    sound = λ ts b rest e. let s = split-rest (some_head r k names ts) (repeat (declarator_behind r names)) (b, rest) e in
        (s.value, s.mid, (good-some_head k names).sound ts s.value s.mid s.first, ((tail-behind names).good s.value).sound s.mid b rest s.second);
    meets = λ ts b rest (d, mid, h, m). go ts b rest d mid m (head-meets k names ts d mid h);
  }
    where
      raised : (q : Option ((DeclTree × List ℕ) × List Token)) (b : DeclTree × List ℕ) (rest : List Token) → Meets (behind_words ++ []) q b rest → Meets behind_declarator q b rest
      raised q b rest (inl e) = inl e
      raised q b rest (inr y) = inr (record { value = y.value; after = y.after; is = y.is; less = y.less; on = within-at (behind_words ++ []) behind_declarator (front rest) refl y.on })

      past : (ts : List Token) (b : DeclTree × List ℕ) (rest : List Token) (d : DeclTree × List ℕ) (mid : List Token) → HeadExceeds names (some_head r k names ts) d mid
          → ((b ≡ d) × (rest ≡ mid)) ⊎ HoldsParams «in» (opened names d.1) mid → Meets behind_declarator (direct r k names ts) b rest
      past ts b rest d mid x (inr held) = absurd (x.not_params held)
      past ts b rest d mid x (inl (_, same)) =
          let t = (tail-behind names).total x.value x.after in
          let at : length rest ≡ length mid = ap length same in
          let back = t.2 in
          let less = x.less in
          inr (record {
            value = t.0.0;
            after = t.0.1;
            is = ap (λ q. with_rest q (repeat (declarator_behind r names))) x.is ∙ t.1;
            less = omega (arith, at, back, less);
            on = within-at head_words behind_declarator (front rest) refl (ap (λ us. among head_words (front us)) same ∙ x.on);
          })

      go : (ts : List Token) (b : DeclTree × List ℕ) (rest : List Token) (d : DeclTree × List ℕ) (mid : List Token) → Many (DeclaratorBehind «in» names) d mid b rest
          → (some_head r k names ts ≡ Some (d, mid)) ⊎ HeadExceeds names (some_head r k names ts) d mid → Meets behind_declarator (direct r k names ts) b rest
      go ts b rest d mid m (inl e) = subst (λ q. Meets behind_declarator (with_rest q (repeat (declarator_behind r names))) b rest) (sym e)
          (raised _ b rest (((tail-behind names).good d).meets mid b rest m))
      go ts b rest d mid m (inr x) = past ts b rest d mid x (behind-params names d mid b rest x.on m)

  pub good-declarator : (k : DeclaratorKind) (names : Names) → Good behind_declarator (declarator r k names) (Declarator «in» k names)
  good-declarator k names = good-by behind_declarator _ _ _ _ _
      (good-behind «in» r ok behind_declarator (one_pointer names) _ _ (λ p. good-made behind_declarator (λ d. (decl.Pointed p d.0, d.1)) (r.declarator k names) («in».declarator k names) (ok.declarator k names)))
      (good-direct k names)

  keeps-behind : (names : Names) (d : DeclTree × List ℕ) → Keeps (DeclaratorBehind «in» names d)
  keeps-behind names d = keeps-by _ _ _ (keeps-made _ (ArrayParts (opened names d.1)) (keeps-then _ _ (keeps-eats _ (eats-word left_bracket)) (λ at. keeps-made _ _ (keeps-array_bound (opened names d.1)))))
      (keeps-made _ (ParametersBehind «in» (opened names d.1)) (keeps-eats _ (eats-parameters_behind (opened names d.1))))

  pub keeps-declarator : (k : DeclaratorKind) (names : Names) → Keeps (Declarator «in» k names)
  keeps-declarator k names = keeps-by _ _ _
      (keeps-then _ _ (keeps-exactly (one_pointer names) (λ ts. under-one_pointer names (length ts) ts (omega arith))) (λ p. keeps-made _ _ (ok.keeps_declarator k names)))
      (keeps-then _ _ (keeps-some_head k names) (keeps-many _ (keeps-behind names)))

  -- ---- params and typeid

  good-plain_param : (names : Names) → Good behind_declarator (plain_param r names) (PlainParam «in» names)
  good-plain_param names = good-behind «in» r ok behind_declarator here _ _ (λ at. good-behind «in» r ok behind_declarator (specifiers names) _ _ (λ list.
      good-made behind_declarator (λ d. param_of at list d.0) (r.declarator kind.Either names) («in».declarator kind.Either names) (ok.declarator kind.Either names)))

  keeps-here : Keeps (Exactly here)
  keeps-here = keeps-exactly here (λ ts. under-some (length ts) _ ts (omega arith))

  eats-plain_param : (names : Names) → Eats (PlainParam «in» names)
  eats-plain_param names ts x rest (at, mid, h, m) =
      let one = keeps-here ts at mid h in
      let two = eats-then (Exactly (specifiers names)) _ (specifiers-strict names) (λ list. keeps-made _ _ (ok.keeps_declarator kind.Either names)) mid x rest m in
      omega (arith, one, two)

  good-default_behind : (names : Names) → Good behind_assign (default_behind r names) (DefaultBehind «in» names)
  good-default_behind names = good-after «in» r ok behind_assign equals _ _ (λ at. good-made behind_assign (λ x. (at, x)) (r.assign names) («in».assign names) (ok.assign names))

  eats-default_behind : (names : Names) → Eats (DefaultBehind «in» names)
  eats-default_behind names = eats-then _ _ (eats-word equals) (λ at. keeps-made _ _ (ok.keeps_assign names))

  abbrev WithDefault : Names → Param → Language Param
  WithDefault names p = Made {A = ℕ × Expr} (λ s. with_default p s.0 s.1) (DefaultBehind «in» names)

  abbrev behind_param : List ℕ
  behind_param = equals ∷ (behind_declarator ++ behind_assign)

  good-one_param : (names : Names) → Good behind_param (one_param r names) (OneParam «in» names)
  good-one_param names = good-wider (behind_declarator ++ (equals ∷ [] ++ behind_assign)) behind_param _ _ refl
      (good-tail (λ a. a) behind_declarator (equals ∷ []) behind_assign (plain_param r names) (PlainParam «in» names) _ _ (good-plain_param names)
      (tail-option (equals ∷ []) behind_assign _ (WithDefault names)
      (λ p. good-made behind_assign (λ s. with_default p s.0 s.1) (default_behind r names) (DefaultBehind «in» names) (good-default_behind names))
      (λ p. starts-made (equals ∷ []) _ (DefaultBehind «in» names) (starts-then (equals ∷ []) (Word equals) _ (starts-word equals)))
      (λ p. eats-made _ (DefaultBehind «in» names) (eats-default_behind names)))
      refl)

  eats-one_param : (names : Names) → Eats (OneParam «in» names)
  eats-one_param names = eats-then _ _ (eats-plain_param names) (λ p. keeps-maybe (WithDefault names) p (λ q. keeps-made _ _ (keeps-eats _ (eats-default_behind names))))

  good-next_param : (names : Names) → Good behind_param (next_param r names) (NextParam «in» names)
  good-next_param names = good-after «in» r ok behind_param comma _ _ (λ _. good-one_param names)

  eats-next_param : (names : Names) → Eats (NextParam «in» names)
  eats-next_param names = eats-then _ _ (eats-word comma) (λ _. keeps-eats _ (eats-one_param names))

  abbrev MoreParams : Names → List Param → Language (List Param)
  MoreParams names = Many (λ all. Made (λ p. all ++ p ∷ []) (NextParam «in» names))

  good-some_params : (names : Names) → Good behind_params (some_params r names) (SomeParams «in» names)
  good-some_params names = good-wider (behind_param ++ (comma ∷ [] ++ behind_param)) behind_params _ _ refl
      (good-tail (λ a. a) behind_param (comma ∷ []) behind_param _ _ _ (MoreParams names)
      (good-made behind_param (λ p. p ∷ []) (one_param r names) (OneParam «in» names) (good-one_param names))
      (tail-repeat (comma ∷ []) behind_param _ _
      (λ all. good-made behind_param (λ p. all ++ p ∷ []) (next_param r names) (NextParam «in» names) (good-next_param names))
      (λ all. starts-made (comma ∷ []) _ (NextParam «in» names) (starts-then (comma ∷ []) (Word comma) _ (starts-word comma)))
      (λ all. eats-made _ (NextParam «in» names) (eats-next_param names)) refl)
      refl)

  eats-some_params : (names : Names) → Eats (SomeParams «in» names)
  eats-some_params names = eats-then _ _ (eats-made _ (OneParam «in» names) (eats-one_param names)) (keeps-many _ (λ all. keeps-made _ _ (keeps-eats _ (eats-next_param names))))

  abbrev ParamsStep : Names → Language (List Param)
  ParamsStep names = By (begins specifier_words) (SomeParams «in» names) Never

  pub good-params : (names : Names) → Good behind_params (params r names) (Params «in» names)
  good-params names = good-wider (specifier_words ++ behind_params) behind_params _ _ refl
      ((tail-option specifier_words behind_params _ (λ _. ParamsStep names)
      (λ _. good-by behind_params (begins specifier_words) _ _ _ _ (good-some_params names) (good-wider [] behind_params _ _ refl good-never))
      (λ _. starts-guarded specifier_words _ _ (starts-never specifier_words))
      (λ _. eats-by _ _ _ (eats-some_params names) eats-never)).good [])

  pub keeps-params : (names : Names) → Keeps (Params «in» names)
  keeps-params names = keeps-maybe (λ _. ParamsStep names) [] (λ _. keeps-by _ _ _ (keeps-eats _ (eats-some_params names)) keeps-never)

  pub good-type_inside : (names : Names) → Good behind_declarator (type_inside r names) (TypeInside «in» names)
  good-type_inside names = good-behind «in» r ok behind_declarator here _ _ (λ at. good-behind «in» r ok behind_declarator (specifiers names) _ _ (λ list.
      good-made behind_declarator (λ d. record { at = at; specifiers = list; declarator = d.0 }) (r.declarator kind.Abstract names) («in».declarator kind.Abstract names) (ok.declarator kind.Abstract names)))

  pub keeps-type_inside : (names : Names) → Keeps (TypeInside «in» names)
  keeps-type_inside names = keeps-then _ _ keeps-here (λ at. keeps-then _ _ (keeps-exactly (specifiers names) (λ ts. under-specifiers names (length ts) ts (omega arith)))
      (λ list. keeps-made _ _ (ok.keeps_declarator kind.Abstract names)))
