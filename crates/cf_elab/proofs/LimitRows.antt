-- What passes a limit, and what is broken before it or behind it.
use Rattle.std.proofs.Common.{◌≡◌, ℕ, [], ◌∷◌, refl}
use Rattle.std.specs.Prelude.{Some, codes}
use Rattle.cf_syntax.specs.declared.specifier.BasicType.TheVariants as basic
use Rattle.cf_base.specs.declared.limit.Bound.TheVariants as bound
use Rattle.cf_elab.specs.File.{First, Limit}
use Rattle.cf_elab.specs.Statement.{expression_row}
use Rattle.cf_elab.proofs.Words.{number, named, basic_at, called, pointing, taking, holding, plain, with_value, declared_item, function, elaborates, refusal}

-- char(*f())[n]{x;}
abbrev with_result_of : ℕ → First
with_result_of n =
    elaborates (function (basic_at 0 basic.Char ∷ []) 4 (holding 10 (Some (number 11 n)) (pointing 5 (taking 7 [] (called 6 (codes "f"))))) 19 (expression_row 20 (named 20 (codes "x")) ∷ []) ∷ [])

size_before_the_body : with_result_of 4194305 ≡ Limit bound.Size 4194304
size_before_the_body = refl

size_within : refusal (with_result_of 4194304) ≡ Some (10, 20)
size_within = refl

-- char(*p)[n],x=y;
abbrev before_another : ℕ → First
before_another n =
    elaborates (declared_item 0 (basic_at 0 basic.Char ∷ []) (plain 4 (holding 8 (Some (number 9 n)) (pointing 5 (called 6 (codes "p")))) ∷ with_value 18 (called 18 (codes "x")) 19 20 (named 20 (codes "y")) ∷ []) ∷ [])

size_before_the_next_declarator : before_another 4194305 ≡ Limit bound.Size 4194304
size_before_the_next_declarator = refl

size_within_before_the_next_declarator : refusal (before_another 4194304) ≡ Some (10, 20)
size_within_before_the_next_declarator = refl
