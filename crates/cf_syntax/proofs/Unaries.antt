-- Unary expressions and casts are read as their longest phrases.
use Rattle.std.proofs.Common.{ℕ, Bool, true, false, List, [], ◌∷◌, ◌++◌, length, refl, arith}
use Rattle.cf_syntax.specs.declared.expression.Expr.{Expr}
use Rattle.cf_syntax.specs.declared.expression.Expr.TheVariants as tree
use Rattle.cf_syntax.specs.NamesData.{Names}
use Rattle.cf_syntax.specs.Words.{left_paren, left_bracket, right_bracket, new_word, delete_word, sizeof_word}
use Rattle.cf_syntax.specs.Named.{pointers}
use Rattle.cf_syntax.specs.Specified.{specifiers}
use Rattle.cf_syntax.specs.Operators.{prefixing, stepping, operator}
use Rattle.cf_syntax.specs.Language.{Language, Word, Then, Made}
use Rattle.cf_syntax.specs.Grammar.{Inside, from_file, array_brackets, Arguments, TypeInBrackets, HoldsType, Sizeof, Bound, Bounds, Initialised, NewType, Allocation, Unary, Cast}
use Rattle.cf_syntax.specs.Reading.{Readers, arguments, type_in_brackets, holds_type, size_of, bound, bounds, initialised, new_type, allocation, unary, cast_only, cast}
use Rattle.cf_syntax.proofs.Good.{Good, Eats, good-wider, good-then, good-made}
use Rattle.cf_syntax.proofs.Tails.{Tail, tail-option, tail-made, good-where, good-by, good-close}
use Rattle.cf_syntax.proofs.Repeats.{tail-repeat, good-tail}
use Rattle.cf_syntax.proofs.Keeps.{Keeps, keeps-exactly, keeps-then, keeps-made, keeps-by, keeps-rather, keeps-maybe, keeps-many, keeps-eats, eats-word, eats-then, starts-then, eats-made, starts-made}
use Rattle.cf_syntax.proofs.Good.{starts-word}
use Rattle.cf_syntax.proofs.Under.{under-pointers, under-specifiers, under-from_file, under-array_brackets, under-operator}
use Rattle.cf_syntax.proofs.Inner.{Inner, suffixes, behind_commas}
use Rattle.cf_syntax.proofs.Operands.{good-after, good-behind, good-arguments, eats-arguments, starts-arguments, good-type_in_brackets, eats-type_in_brackets, type-held, type-decides, good-post, keeps-post}

module _ («in» : Inside) (r : Readers) (ok : Inner «in» r) where
  good-sizeof : (names : Names) (at : ℕ) → Good suffixes (size_of r names at) (Sizeof «in» names at)
  good-sizeof names at = good-where suffixes (HoldsType «in» names) (holds_type r names) _ _ _ _
      (good-wider [] suffixes _ _ refl (good-made [] (λ t. tree.SizeofType at t.1) (type_in_brackets r names) (TypeInBrackets «in» names) (good-type_in_brackets «in» r ok names)))
      (good-made suffixes (tree.SizeofExpr at) (r.unary names) («in».unary names) (ok.unary names))
      (type-held «in» r ok names) (type-decides «in» r ok names)

  good-bound : (names : Names) → Good [] (bound r names) (Bound «in» names)
  good-bound names = good-after «in» r ok [] left_bracket _ _ (λ at. good-close behind_commas right_bracket (λ x. x) (r.commas names) («in».commas names) (ok.commas names) refl)

  eats-bound : (names : Names) → Eats (Bound «in» names)
  eats-bound names = eats-then (Word left_bracket) _ (eats-word left_bracket) (λ at. keeps-then _ _ (ok.keeps_commas names) (λ x. keeps-made _ (Word right_bracket) (keeps-eats _ (eats-word right_bracket))))

  tail-bounds : (names : Names) → Tail (λ a. a) (left_bracket ∷ []) [] (bounds r names) (Bounds «in» names)
  tail-bounds names = tail-repeat (left_bracket ∷ []) [] _ _
      (λ all. good-made [] (λ x. all ++ x ∷ []) (bound r names) (Bound «in» names) (good-bound names))
      (λ all. starts-made (left_bracket ∷ []) _ (Bound «in» names) (starts-then (left_bracket ∷ []) (Word left_bracket) _ (starts-word left_bracket)))
      (λ all. eats-made _ (Bound «in» names) (eats-bound names)) refl

  keeps-bounds : (names : Names) (all : List Expr) → Keeps (Bounds «in» names all)
  keeps-bounds names all = keeps-many _ (λ before. keeps-made _ _ (keeps-eats _ (eats-bound names))) all

  tail-initialised : (names : Names) → Tail (λ a. a) (left_paren ∷ []) [] (initialised r names) (Initialised «in» names)
  tail-initialised names = tail-option (left_paren ∷ []) [] _ _
      (λ _. good-made [] (λ all. (true, all.1)) (arguments r names) (Arguments «in» names) (good-arguments «in» r ok names))
      (λ _. starts-made (left_paren ∷ []) _ (Arguments «in» names) (starts-arguments «in» r ok names))
      (λ _. eats-made _ (Arguments «in» names) (eats-arguments «in» r ok names))

  keeps-initialised : (names : Names) (i : Bool × List Expr) → Keeps (Initialised «in» names i)
  keeps-initialised names i = keeps-maybe (λ _. Made (λ all. (true, all.1)) (Arguments «in» names)) i (λ _. keeps-made (λ all. (true, all.1)) (Arguments «in» names) (keeps-eats _ (eats-arguments «in» r ok names)))

  good-new_type : (names : Names) (file : Bool) (at : ℕ) → Good suffixes (new_type r names file at) (NewType «in» names at file)
  good-new_type names file at = good-by suffixes _ _ _ _ _
      (good-wider ([] ++ (left_paren ∷ [] ++ [])) suffixes _ _ refl
      (good-tail _ [] (left_paren ∷ []) [] (type_in_brackets r names) (TypeInBrackets «in» names) _ _ (good-type_in_brackets «in» r ok names)
      (tail-made (λ a. a) (left_paren ∷ []) [] (λ _. (false, [])) (λ t i. tree.NewBracketed at file t.1 i.0 i.1) _ _ (tail-initialised names)) refl))
      (good-behind «in» r ok suffixes (specifiers names) _ _ (λ list. good-behind «in» r ok suffixes (pointers names) _ _ (λ ps.
      good-wider ((left_bracket ∷ [] ++ []) ++ (left_paren ∷ [] ++ [])) suffixes _ _ refl
      (good-tail _ (left_bracket ∷ [] ++ []) (left_paren ∷ []) [] (bounds r names []) (Bounds «in» names []) _ _ ((tail-bounds names).good [])
      (tail-made (λ a. a) (left_paren ∷ []) [] (λ _. (false, [])) (λ all i. tree.New at file list ps all i.0 i.1) _ _ (tail-initialised names)) refl))))

  keeps-new_type : (names : Names) (file : Bool) (at : ℕ) → Keeps (NewType «in» names at file)
  keeps-new_type names file at = keeps-by _ _ _
      (keeps-then _ _ (keeps-eats _ (eats-type_in_brackets «in» r ok names)) (λ t. keeps-made _ _ (keeps-initialised names (false, []))))
      (keeps-then _ _ (keeps-exactly (specifiers names) (λ ts. under-specifiers names (length ts) ts (omega arith))) (λ list.
      keeps-then _ _ (keeps-exactly (pointers names) (λ ts. under-pointers names (length ts) ts (omega arith))) (λ ps.
      keeps-then _ _ (keeps-bounds names []) (λ all. keeps-made _ _ (keeps-initialised names (false, []))))))

  good-allocation : (names : Names) (file : Bool) → Good suffixes (allocation r names file) (Allocation «in» names file)
  good-allocation names file = good-by suffixes _ _ _ _ _ (good-after «in» r ok suffixes new_word _ _ (λ at. good-new_type names file at))
      (good-after «in» r ok suffixes delete_word _ _ (λ at. good-behind «in» r ok suffixes array_brackets _ _ (λ array.
      good-made suffixes (tree.Delete at file array) (r.cast names) («in».cast names) (ok.cast names))))

  keeps-allocation : (names : Names) (file : Bool) → Keeps (Allocation «in» names file)
  keeps-allocation names file = keeps-by _ _ _ (keeps-then _ _ (keeps-eats _ (eats-word new_word)) (λ at. keeps-new_type names file at))
      (keeps-then _ _ (keeps-eats _ (eats-word delete_word)) (λ at. keeps-then _ _ (keeps-exactly array_brackets (λ ts. under-array_brackets (length ts) ts (omega arith)))
      (λ array. keeps-made _ _ (ok.keeps_cast names))))

  pub good-unary : (names : Names) → Good suffixes (unary r names) (Unary «in» names)
  good-unary names = good-by suffixes _ _ _ _ _
      (good-behind «in» r ok suffixes (operator stepping) _ _ (λ op. good-made suffixes (tree.StepBefore op.0 op.1) (r.unary names) («in».unary names) (ok.unary names)))
      (good-by suffixes _ _ _ _ _
      (good-behind «in» r ok suffixes (operator prefixing) _ _ (λ op. good-made suffixes (tree.Prefix op.0 op.1) (r.cast names) («in».cast names) (ok.cast names)))
      (good-by suffixes _ _ _ _ _ (good-after «in» r ok suffixes sizeof_word _ _ (good-sizeof names))
      (good-by suffixes _ _ _ _ _ (good-behind «in» r ok suffixes from_file _ _ (good-allocation names)) (good-post «in» r ok names))))

  pub keeps-unary : (names : Names) → Keeps (Unary «in» names)
  keeps-unary names = keeps-by _ _ _ (keeps-then _ _ (keeps-exactly (operator stepping) (λ ts. under-operator stepping (length ts) ts (omega arith))) (λ op. keeps-made _ _ (ok.keeps_unary names)))
      (keeps-by _ _ _ (keeps-then _ _ (keeps-exactly (operator prefixing) (λ ts. under-operator prefixing (length ts) ts (omega arith))) (λ op. keeps-made _ _ (ok.keeps_cast names)))
      (keeps-by _ _ _ (keeps-then _ _ (keeps-eats _ (eats-word sizeof_word)) (λ at. keeps-rather _ _ _
      (keeps-made _ _ (keeps-eats _ (eats-type_in_brackets «in» r ok names))) (keeps-made _ _ (ok.keeps_unary names))))
      (keeps-by _ _ _ (keeps-then _ _ (keeps-exactly from_file (λ ts. under-from_file (length ts) ts (omega arith))) (keeps-allocation names))
      (keeps-post «in» r ok names))))

  abbrev pub CastOnly : Names → Language Expr
  CastOnly names = Then (TypeInBrackets «in» names) (λ t. Made (tree.Cast t.0 t.1) («in».cast names))

  pub good-cast_only : (names : Names) → Good suffixes (cast_only r names) (CastOnly names)
  good-cast_only names = good-then [] suffixes (type_in_brackets r names) _ (TypeInBrackets «in» names) _ (good-type_in_brackets «in» r ok names)
      (λ t. good-made suffixes (tree.Cast t.0 t.1) (r.cast names) («in».cast names) (ok.cast names)) (λ a ts b rest m. refl)

  pub good-cast : (names : Names) → Good suffixes (cast r names) (Cast «in» names)
  good-cast names = good-where suffixes (HoldsType «in» names) (holds_type r names) (cast_only r names) (unary r names) (CastOnly names) (Unary «in» names)
      (good-cast_only names) (good-unary names) (type-held «in» r ok names) (type-decides «in» r ok names)

  pub keeps-cast : (names : Names) → Keeps (Cast «in» names)
  keeps-cast names = keeps-rather _ _ _ (keeps-then _ _ (keeps-eats _ (eats-type_in_brackets «in» r ok names)) (λ t. keeps-made _ _ (ok.keeps_cast names))) (keeps-unary names)
