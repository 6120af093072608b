-- Several specifiers and several declarators, one after the other.
use Rattle.std.proofs.Common.{◌≡◌, ◌∙◌, ℕ, suc, ◌+◌, ◌<◌, ◌≤◌, List, [], ◌∷◌, ◌++◌, length, get_or, drop, Option, refl, ap, sym, append_assoc, drop-cons, drop_of_length-le, add-one}
use Rattle.std.proofs.lemmas.List.{append-nil, map-append}
use Rattle.cf_unit.specs.declared.declaration.InitDeclarator.{InitDeclarator}
use Rattle.cf_unit.specs.declared.specifier.Specifier.{Specifier}
use Rattle.cf_elab.specs.Answer.{Answer, Made, Refused, Passed, onward}
use Rattle.cf_elab.specs.Env.{Env, Name}
use Rattle.cf_elab.specs.Objects.{Reached}
use Rattle.cf_elab.specs.Specifiers as spec
use Rattle.cf_elab.specs.Specifiers.{Gathered}
use Rattle.cf_elab_env.specs.Answered.{Stops}
use Rattle.cf_elab_env.specs.declared.stop.Stop.{Stop}
use Rattle.cf_elab_env.specs.declared.stop.Stop.TheVariants.{Broken as RuleBroken, Passed as LimitPassed, Memory}
use Rattle.cf_elab_env.proofs.InOrder as order
use Rattle.cf_elab_env.proofs.InOrder.{behind}
use Rattle.cf_elab_specifiers.specs.Said.Seen.{word_seen}
use Rattle.cf_elab_specifiers.specs.declared.said.word.Word.{Word}
use Rattle.cf_elab_specifiers.specs.Named.Seen.{words_seen}
use Rattle.cf_elab_declaration.specs.Declarations.Shut as shut

-- ---- specifiers

pub words_end : (alias : Option Name) (found : List Word) (ss : List Specifier) (i : ℕ) (env : Env) → length ss ≤ i
    → behind (words_seen found) (shut.words alias (drop i ss) env) ≡ Made (words_seen found) env
unfolding shut.words
words_end alias found ss i env le = order.at_end (shut.word alias) (words_seen found) ss i env le

module _ (start : Answer (List spec.Word)) (alias : Option Name) (found : List Word) (ss : List Specifier) (i : ℕ) (s : Specifier) (env : Env)
    (so_far : start ≡ behind (words_seen found) (shut.words alias (drop i ss) env)) (within : i < length ss) (there : s ≡ get_or ss i s) where
  pub words_stop : (stop : Stop) → Stops (shut.word alias s env) stop → Stops start stop
  unfolding shut.words
  words_stop = order.stopped (shut.word alias) (words_seen found) ss i s env start so_far within there

  pub words_go : (w : Word) (next : Env) → shut.word alias s env ≡ Made (word_seen w) next → start ≡ behind (words_seen (found ++ w ∷ [])) (shut.words alias (drop (i + 1) ss) next)
  unfolding shut.words
  words_go w next h =
      order.going (shut.word alias) (words_seen found) ss i s env start so_far within there (word_seen w) next h
      ∙ ap (λ l. behind l (shut.words alias (drop (i + 1) ss) next)) (sym (map-append word_seen found (w ∷ [])))

-- ---- declarators

pub declarators_end : (g : Gathered) (found : List Reached) (ds : List InitDeclarator) (i : ℕ) (env : Env) → length ds ≤ i
    → behind found (shut.declarators g (drop i ds) env) ≡ Made found env
unfolding shut.declarators
declarators_end g found ds i env le = ap (λ (l : List InitDeclarator). behind found (shut.declarators g l env)) (drop_of_length-le ds le) ∙ ap (λ l. Made l env) (append-nil found)

-- what one makes comes before what the rest makes
joined : (found xs : List Reached) (a : Answer (List Reached)) → behind found (onward a (λ ys env. Made (xs ++ ys) env)) ≡ behind (found ++ xs) a
joined found xs (Made ys env) = ap (λ l. Made l env) (sym (append_assoc found xs ys))
joined found xs (Refused rule at) = refl
joined found xs (Passed bound most) = refl

module _ (start : Answer (List Reached)) (g : Gathered) (found : List Reached) (ds : List InitDeclarator) (i : ℕ) (d : InitDeclarator) (env : Env)
    (so_far : start ≡ behind found (shut.declarators g (drop i ds) env)) (within : i < length ds) (there : d ≡ get_or ds i d) where
  abbrev rest : Answer (List Reached) → Answer (List Reached)
  rest a = behind found (onward a (λ xs env. onward (shut.declarators g (drop (i + 1) ds) env) (λ ys env. Made (xs ++ ys) env)))

  here : drop i ds ≡ d ∷ drop (i + 1) ds
  here = drop-cons ds i d within ∙ ap (λ x. x ∷ drop (suc i) ds) (sym there) ∙ ap (λ k. d ∷ drop k ds) (sym (add-one i))

  at_one : start ≡ rest (shut.limited g d env)
  unfolding shut.declarators shut.limited
  at_one = so_far ∙ ap (λ (l : List InitDeclarator). behind found (shut.declarators g l env)) here

  pub declarators_stop : (stop : Stop) → Stops (shut.limited g d env) stop → Stops start stop
  declarators_stop (RuleBroken b) h = at_one ∙ ap rest h
  declarators_stop (LimitPassed l) h = at_one ∙ ap rest h
  declarators_stop Memory h = tt

  pub declarators_go : (xs : List Reached) (next : Env) → shut.limited g d env ≡ Made xs next → start ≡ behind (found ++ xs) (shut.declarators g (drop (i + 1) ds) next)
  declarators_go xs next h = at_one ∙ ap rest h ∙ joined found xs (shut.declarators g (drop (i + 1) ds) next)
