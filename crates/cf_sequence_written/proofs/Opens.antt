-- The locals whose scopes are open, the newest first, as the definition ends them.
use Rattle.std.proofs.Common.{◌≡◌, ◌+◌, List, [], ◌∷◌, ◌++◌, length, take, drop, refl, ap, sym, ◌∙◌, append_assoc, append-nil, length-append, arith}
use Rattle.cf_core.specs.FromTypes.{Tables, type_of}
use Rattle.cf_plain.specs.Plain.{Plains, more}
use Rattle.cf_plain.specs.Plain as plain
use Rattle.cf_sequence.specs.Made.{Local}
use Rattle.cf_sequence.specs.Expressions.{finished}
use Rattle.cf_sequence_stmt.specs.declared.body.Open.{Open}

pub finished-more : (ls ms : List Local) (rest : Plains) → finished (ls ++ ms) rest ≡ finished ls (finished ms rest)
finished-more [] ms rest = refl
finished-more (x ∷ ls) ms rest = ap (more (plain.act (plain.finish x.type x.number))) (finished-more ls ms rest)

pub take-here : {A : Type 0} (xs ys : List A) → take (length xs) (xs ++ ys) ≡ xs
take-here [] ys = refl
take-here (x ∷ xs) ys = ap (λ l. x ∷ l) (take-here xs ys)

pub drop-here : {A : Type 0} (xs ys : List A) → drop (length xs) (xs ++ ys) ≡ ys
drop-here [] ys = refl
drop-here (x ∷ xs) ys = drop-here xs ys

module _ (tables : Tables) where
  abbrev pub ends : List Open → List Local
  ends [] = []
  ends (x ∷ xs) = ends xs ++ record { number = x.number; type = type_of tables x.ty } ∷ []

  pub ends-more : (xs ys : List Open) → ends (xs ++ ys) ≡ ends ys ++ ends xs
  ends-more [] ys = sym (append-nil (ends ys))
  ends-more (x ∷ xs) ys =
      ap (λ l. l ++ record { number = x.number; type = type_of tables x.ty } ∷ []) (ends-more xs ys)
      ∙ append_assoc (ends ys) (ends xs) (record { number = x.number; type = type_of tables x.ty } ∷ [])

  pub no-opens : (xs : List Open) → ends xs ≡ [] → xs ≡ []
  no-opens [] none = refl
  no-opens (x ∷ xs) none =
      let count : length (ends xs) + 1 ≡ 0 = sym (length-append (ends xs) (record { number = x.number; type = type_of tables x.ty } ∷ [])) ∙ ap length none in
      absurd (omega (arith, count))
