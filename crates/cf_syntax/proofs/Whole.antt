-- At each depth the readings are those of the longest phrases, so tokens have at most one tree.
use Rattle.std.proofs.Common.{◌≡◌, ℕ, zero, suc, true, ◌≤◌, inl, inr, List, [], length, Some, refl, sym, ◌∙◌, ap, arith}
use Rattle.cf_tokens.specs.declared.token.Token.{Token}
use Rattle.cf_syntax.specs.declared.reading.DeclaratorKind.TheVariants as kind
use Rattle.cf_syntax.specs.NamesData.{Names}
use Rattle.cf_syntax.specs.Parse.{Parse, none}
use Rattle.cf_syntax.specs.Language.{Language, Never}
use Rattle.cf_syntax.specs.Grammar.{inside, SpellsCommas, SpellsAssign, SpellsCondition, SpellsDeclarator, SpellsParams, SpellsTypeId}
use Rattle.cf_syntax.specs.Reading.{readers}
use Rattle.cf_syntax.specs.Longest.{HasOneLongest, HasOneTree}
use Rattle.cf_syntax.proofs.Good.{Meets, Good, good-wider, some-value, within}
use Rattle.cf_syntax.proofs.Tails.{good-never}
use Rattle.cf_syntax.proofs.Keeps.{keeps-never}
use Rattle.cf_syntax.proofs.Inner.{Inner, suffixes, behind_condition, behind_assign, behind_commas, behind_declarator, behind_params}
use Rattle.cf_syntax.proofs.Unaries.{good-unary, keeps-unary, good-cast, keeps-cast}
use Rattle.cf_syntax.proofs.Binaries.{good-condition, keeps-condition, good-assign, keeps-assign, good-commas, keeps-commas}
use Rattle.cf_syntax.proofs.Declarators.{good-declarator, keeps-declarator, good-params, keeps-params, good-type_inside, keeps-type_inside}

nothing : {A : Type 0} (g : List ℕ) → within [] g ≡ true → Good {A = A} g none Never
nothing g w = good-wider [] g none Never w good-never

pub all-good : (n : ℕ) → Inner (inside n) (readers n)
all-good zero = record {
  commas = λ _. nothing behind_commas refl;
  assign = λ _. nothing behind_assign refl;
  condition = λ _. nothing behind_condition refl;
  cast = λ _. nothing suffixes refl;
  unary = λ _. nothing suffixes refl;
  type_id = λ _. nothing behind_declarator refl;
  params = λ _. nothing behind_params refl;
  declarator = λ _ _. nothing behind_declarator refl;
  keeps_commas = λ _. keeps-never;
  keeps_assign = λ _. keeps-never;
  keeps_condition = λ _. keeps-never;
  keeps_cast = λ _. keeps-never;
  keeps_unary = λ _. keeps-never;
  keeps_type_id = λ _. keeps-never;
  keeps_params = λ _. keeps-never;
  keeps_declarator = λ _ _. keeps-never;
}
all-good (suc n) = let ok = all-good n in record {
  commas = good-commas (inside n) (readers n) ok;
  assign = good-assign (inside n) (readers n) ok;
  condition = good-condition (inside n) (readers n) ok;
  cast = good-cast (inside n) (readers n) ok;
  unary = good-unary (inside n) (readers n) ok;
  type_id = good-type_inside (inside n) (readers n) ok;
  params = good-params (inside n) (readers n) ok;
  declarator = good-declarator (inside n) (readers n) ok;
  keeps_commas = keeps-commas (inside n) (readers n) ok;
  keeps_assign = keeps-assign (inside n) (readers n) ok;
  keeps_condition = keeps-condition (inside n) (readers n) ok;
  keeps_cast = keeps-cast (inside n) (readers n) ok;
  keeps_unary = keeps-unary (inside n) (readers n) ok;
  keeps_type_id = keeps-type_inside (inside n) (readers n) ok;
  keeps_params = keeps-params (inside n) (readers n) ok;
  keeps_declarator = keeps-declarator (inside n) (readers n) ok;
}

-- ---- one tree

pub read-longest : {A : Type 0} (g : List ℕ) (p : Parse A) (L : Language A) → Good g p L → (ts : List Token) (x : A) (rest : List Token)
    → L ts x rest → ((y : A) (after : List Token) → L ts y after → length rest ≤ length after) → p ts ≡ Some (x, rest)
read-longest {A = A} g p L good ts x rest l most = by_meets (good.meets ts x rest l)
  where
    by_meets : Meets g (p ts) x rest → p ts ≡ Some (x, rest)
    by_meets (inl e) = e
    by_meets (inr y) = let less = y.less in let more = most y.value y.after (good.sound ts y.value y.after y.is) in absurd (omega (arith, less, more))

-- what is read is a longest phrase
pub longest-read : {A : Type 0} (g : List ℕ) (p : Parse A) (L : Language A) → Good g p L → (ts : List Token) (x : A) (rest : List Token)
    → p ts ≡ Some (x, rest) → (y : A) (after : List Token) → L ts y after → length rest ≤ length after
longest-read {A = A} g p L good ts x rest e y after l = by_meets (good.meets ts y after l)
  where
    by_meets : Meets g (p ts) y after → length rest ≤ length after
    by_meets (inl h) = let same = ap (λ (z : A × List Token). length z.1) (some-value (x, rest) (y, after) (sym e ∙ h)) in omega (arith, same)
    by_meets (inr z) = let less = z.less in let same = ap (λ (w : A × List Token). length w.1) (some-value (x, rest) (z.value, z.after) (sym e ∙ z.is)) in omega (arith, same, less)

one-longest : {A : Type 0} (g : List ℕ) (p : Parse A) (L : Language A) → Good g p L → (ts : List Token) (x y : A) (rest after : List Token)
    → L ts x rest → ((z : A) (us : List Token) → L ts z us → length rest ≤ length us)
    → L ts y after → ((z : A) (us : List Token) → L ts z us → length after ≤ length us) → (x ≡ y) × (rest ≡ after)
one-longest {A = A} g p L good ts x y rest after l most m least =
    let same = some-value (x, rest) (y, after) (sym (read-longest g p L good ts x rest l most) ∙ read-longest g p L good ts y after m least) in
    (ap (λ (z : A × List Token). z.0) same, ap (λ (z : A × List Token). z.1) same)

pub has-one : {A : Type 0} (g : List ℕ) (p : ℕ → Parse A) (L : ℕ → Language A) → ((n : ℕ) → Good g (p n) (L n))
    → HasOneLongest (λ ts x rest. L (suc (length ts)) ts x rest)
has-one g p L good ts x y rest after one two =
    let n = suc (length ts) in one-longest g (p n) (L n) (good n) ts x y rest after one.spells one.longest two.spells two.longest

pub has-one-tree : {A : Type 0} (g : List ℕ) (p : ℕ → Parse A) (L : ℕ → Language A) → ((n : ℕ) → Good g (p n) (L n))
    → HasOneTree (λ ts x rest. L (suc (length ts)) ts x rest)
has-one-tree g p L good ts x y one two =
    let n = suc (length ts) in (one-longest g (p n) (L n) (good n) ts x y [] [] one (λ z us l. omega arith) two (λ z us l. omega arith)).0

pub one-commas : (names : Names) → HasOneLongest (SpellsCommas names)
one-commas names = has-one behind_commas (λ n. (readers n).commas names) (λ n. (inside n).commas names) (λ n. (all-good n).commas names)

pub one-assign : (names : Names) → HasOneLongest (SpellsAssign names)
one-assign names = has-one behind_assign (λ n. (readers n).assign names) (λ n. (inside n).assign names) (λ n. (all-good n).assign names)

pub one-condition : (names : Names) → HasOneLongest (SpellsCondition names)
one-condition names = has-one behind_condition (λ n. (readers n).condition names) (λ n. (inside n).condition names) (λ n. (all-good n).condition names)

pub one-declarator : (names : Names) → HasOneLongest (SpellsDeclarator names)
one-declarator names = has-one behind_declarator (λ n. (readers n).declarator kind.Named names) (λ n. (inside n).declarator kind.Named names) (λ n. (all-good n).declarator kind.Named names)

pub one-params : (names : Names) → HasOneLongest (SpellsParams names)
one-params names = has-one behind_params (λ n. (readers n).params names) (λ n. (inside n).params names) (λ n. (all-good n).params names)

pub one-type_id : (names : Names) → HasOneLongest (SpellsTypeId names)
one-type_id names = has-one behind_declarator (λ n. (readers n).type_id names) (λ n. (inside n).type_id names) (λ n. (all-good n).type_id names)

pub one-tree : (names : Names) → HasOneTree (SpellsCommas names)
one-tree names = has-one-tree behind_commas (λ n. (readers n).commas names) (λ n. (inside n).commas names) (λ n. (all-good n).commas names)
