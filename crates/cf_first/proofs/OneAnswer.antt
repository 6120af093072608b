-- A file has one answer.
use Rattle.std.proofs.Common.{◌≡◌, ℕ, List, Option, Some, None, Result, Ok, Err, refl, sym, ap, subst, ◌∙◌}
use Rattle.cf_base.specs.declared.limit.Limit.{Limit}
use Rattle.cf_base.specs.declared.rule.Broken.{Broken}
use Rattle.cf_tokens.specs.Lex.{Lex}
use Rattle.cf_tokens.specs.declared.fault.LexFault.{LexFault}
use Rattle.cf_tokens.specs.declared.fault.LexFault.TheVariants as lexical
use Rattle.cf_tokens.specs.declared.token.Token.{Token}
use Rattle.cf_tokens.proofs.Unique.{one_answer_each}
use Rattle.cf_unit.specs.declared.file.Unit.{Unit as FileTree}
use Rattle.cf_unit.specs.Answers.{IsUnit, Answer}
use Rattle.cf_unit.specs.Answers as grammar
use Rattle.cf_unit.proofs.Whole.{one-answer}
use Rattle.cf_core.specs.FromUnit.{Unit as CoreUnit}
use Rattle.cf_elab.specs.Built.{first_of_file}
use Rattle.cf_elab.specs.File as elaboration
use Rattle.cf_elab_finished.specs.Finished.{Ended}
use Rattle.cf_elab_finished.proofs.Ends.{one_core, end_of_first}
use Rattle.cf_first.specs.First.{Refusal, breaks, passes, HasTree, First, nesting, misspelled, not_built, breaks_form, passes_limit, is_nested, is_misspelled, breaks_rule, passes_in_turn, is_not_built, accepted}

-- ---- a file has one list of tokens

same_ok : (xs ys : List Token) → ◌≡◌ {A = Result (List Token) LexFault} (Ok xs) (Ok ys) → xs ≡ ys
same_ok xs ys e = cc

no_ok : (xs : List Token) (f : LexFault) → ◌≡◌ {A = Result (List Token) LexFault} (Ok xs) (Err f) → ⊥
no_ok xs f e = cc

same_err : (f g : LexFault) → ◌≡◌ {A = Result (List Token) LexFault} (Err f) (Err g) → f ≡ g
same_err f g e = cc

one_list : (bytes : List ℕ) (xs ys : List Token) → Lex bytes (Ok xs) → Lex bytes (Ok ys) → xs ≡ ys
one_list bytes xs ys a b = same_ok xs ys (one_answer_each bytes (Ok xs) (Ok ys) a b)

list_or_fault : (bytes : List ℕ) (xs : List Token) (f : LexFault) → Lex bytes (Ok xs) → Lex bytes (Err f) → ⊥
list_or_fault bytes xs f a b = no_ok xs f (one_answer_each bytes (Ok xs) (Err f) a b)

one_fault : (bytes : List ℕ) (f g : LexFault) → Lex bytes (Err f) → Lex bytes (Err g) → f ≡ g
one_fault bytes f g a b = same_err f g (one_answer_each bytes (Err f) (Err g) a b)

-- ---- the answer of a tree

abbrev of_end : Option CoreUnit → Result CoreUnit Refusal
of_end (Some core) = Ok core
of_end None = Err (breaks not_built)

data Is (tree : FileTree) (r : Result CoreUnit Refusal) : Type 0 where
  broken : (b : Broken) → first_of_file tree ≡ elaboration.Broken b.rule b.at → r ≡ Err (breaks b) → Is tree r
  passed : (l : Limit) → first_of_file tree ≡ elaboration.Limit l.bound l.most → r ≡ Err (passes l) → Is tree r
  ended : (core : Option CoreUnit) → Ended tree core → r ≡ of_end core → Is tree r

abbrev broken_in : elaboration.First → Broken → Broken
broken_in (elaboration.Broken rule at) d = record { rule = rule; at = at }
broken_in (elaboration.Limit bound most) d = d
broken_in (elaboration.Core core) d = d

same_broken : (b c : Broken) → ◌≡◌ {A = elaboration.First} (elaboration.Broken b.rule b.at) (elaboration.Broken c.rule c.at) → b ≡ c
same_broken b c e = ap (λ f. broken_in f b) e

abbrev limit_in : elaboration.First → Limit → Limit
limit_in (elaboration.Limit bound most) d = record { bound = bound; most = most }
limit_in (elaboration.Broken rule at) d = d
limit_in (elaboration.Core core) d = d

same_limit : (l m : Limit) → ◌≡◌ {A = elaboration.First} (elaboration.Limit l.bound l.most) (elaboration.Limit m.bound m.most) → l ≡ m
same_limit l m e = ap (λ f. limit_in f l) e

module _ (tree : FileTree) (r q : Result CoreUnit Refusal) where
  clash : (x y : elaboration.First) → first_of_file tree ≡ x → first_of_file tree ≡ y → x ≡ y
  clash x y e f = sym e ∙ f

  one_of_tree : Is tree r → Is tree q → r ≡ q
  one_of_tree (broken b e s) (broken c f t) = s ∙ ap (λ k. Err (breaks k)) (same_broken b c (clash _ _ e f)) ∙ sym t
  one_of_tree (passed l e s) (passed m f t) = s ∙ ap (λ k. Err (passes k)) (same_limit l m (clash _ _ e f)) ∙ sym t
  one_of_tree (ended x e s) (ended y f t) = s ∙ ap of_end (one_core tree x y e f) ∙ sym t
  one_of_tree (broken b e s) (passed m f t) = let c = clash _ _ e f in absurd cc
  one_of_tree (broken b e s) (ended y f t) = let c = clash _ _ e (end_of_first tree y f) in absurd cc
  one_of_tree (passed l e s) (broken c f t) = let d = clash _ _ e f in absurd cc
  one_of_tree (passed l e s) (ended y f t) = let c = clash _ _ e (end_of_first tree y f) in absurd cc
  one_of_tree (ended x e s) (broken c f t) = let d = clash _ _ (end_of_first tree x e) f in absurd cc
  one_of_tree (ended x e s) (passed m f t) = let c = clash _ _ (end_of_first tree x e) f in absurd cc

-- ---- the answer of tokens

abbrev OfAnswer : Answer → Result CoreUnit Refusal → Type 0
OfAnswer (grammar.accepted tree) r = Is tree r
OfAnswer (grammar.refused at) r = r ≡ Err (breaks (misspelled at))
OfAnswer grammar.too_deep r = r ≡ Err (passes nesting)

one_of_answer : (a : Answer) (r q : Result CoreUnit Refusal) → OfAnswer a r → OfAnswer a q → r ≡ q
one_of_answer (grammar.accepted tree) r q a b = one_of_tree tree r q a b
one_of_answer (grammar.refused at) r q a b = a ∙ sym b
one_of_answer grammar.too_deep r q a b = a ∙ sym b

-- ---- the answer of bytes

-- by a lexical fault; want of memory is none
abbrev refused_by : LexFault → Result CoreUnit Refusal
refused_by (lexical.Broken first) = Err (breaks first)
refused_by (lexical.Limit limit) = Err (passes limit)
refused_by lexical.Memory = Err (breaks not_built)

-- a lexical fault, or tokens that are one thing by the grammar
data Bytes (bytes : List ℕ) (r : Result CoreUnit Refusal) : Type 0 where
  uncut : (f : LexFault) → Lex bytes (Err f) → r ≡ refused_by f → Bytes bytes r
  cut : (listed : List Token) (a : Answer) → Lex bytes (Ok listed) → IsUnit listed a → OfAnswer a r → Bytes bytes r

of_tree : (bytes : List ℕ) (tree : FileTree) (r : Result CoreUnit Refusal) → HasTree bytes tree → Is tree r → Bytes bytes r
of_tree bytes tree r has is = cut has.listed (grammar.accepted tree) has.lexical has.spelled is

which : (bytes : List ℕ) (r : Result CoreUnit Refusal) → First bytes r → Bytes bytes r
which bytes _ (breaks_form first l) = uncut (lexical.Broken first) l refl
which bytes _ (passes_limit limit l) = uncut (lexical.Limit limit) l refl
which bytes _ (is_nested listed l deep) = cut listed grammar.too_deep l deep refl
which bytes _ (is_misspelled listed at l u) = cut listed (grammar.refused at) l u refl
which bytes _ (breaks_rule tree b has e) = of_tree bytes tree _ has (broken b e refl)
which bytes _ (passes_in_turn tree l has e) = of_tree bytes tree _ has (passed l e refl)
which bytes _ (is_not_built tree has e) = of_tree bytes tree _ has (ended None e refl)
which bytes _ (accepted tree core has e) = of_tree bytes tree _ has (ended (Some core) e refl)

both : (bytes : List ℕ) (a b : Result CoreUnit Refusal) → Bytes bytes a → Bytes bytes b → a ≡ b
both bytes a b (uncut f l e) (uncut g m d) = e ∙ (ap refused_by (one_fault bytes f g l m) ∙ sym d)
both bytes a b (uncut f l e) (cut listed x m u d) = absurd (list_or_fault bytes listed f m l)
both bytes a b (cut listed x m u e) (uncut g l d) = absurd (list_or_fault bytes listed g m l)
both bytes a b (cut xs x l u e) (cut ys y m v d) =
    let same : ys ≡ xs = one_list bytes ys xs m l in
    let one : x ≡ y = one-answer xs x y u (subst (λ ts. IsUnit ts y) same v) in
    one_of_answer y a b (subst (λ k. OfAnswer k a) one e) d

pub one_answer : (bytes : List ℕ) (a b : Result CoreUnit Refusal) → First bytes a → First bytes b → a ≡ b
one_answer bytes a b first second = both bytes a b (which bytes a first) (which bytes b second)
