-- Constants and ints among enumerators, one by one.
use Rattle.std.proofs.Common.{◌≡◌, ℕ, ◌+◌, ◌<◌, ◌≤◌, Bool, true, false, not, ◌||◌, List, [], ◌∷◌, length, take, drop, get_or, is_some, All, IsTrue, refl, sym, ap, subst, ◌∙◌}
use Rattle.std.proofs.lemmas.List.{at_drop_more, at_drop_all, take_all}
use Rattle.std.proofs.lemmas.List.Elements.{All-more}
use Rattle.cf_base.specs.Integers.{fits}
use Rattle.cf_base.specs.declared.kind.Kind.TheVariants as kind
use Rattle.cf_elab.specs.Answer.{Answer, Made, Refused, onward, need}
use Rattle.cf_elab.specs.Enumeration.{Counted, number_or_zero}
use Rattle.cf_elab.specs.Env.{Env}
use Rattle.cf_elab.specs.Names.{is_file_scope}
use Rattle.cf_elab_enumeration.specs.Shut as shut

abbrev pub IsInt : Counted → Type 0
IsInt c = IsTrue (fits kind.Int (number_or_zero c.number))

-- those from an index on are left
module _ (cs : List Counted) (i : ℕ) (env : Env) where
  module _ (left : shut.all_constant (drop i cs) env ≡ shut.all_constant cs env) where
    pub constants_end : length cs ≤ i → shut.all_constant cs env ≡ Made tt env
    unfolding shut.all_constant
    constants_end ended = sym left ∙ at_drop_all (λ l. shut.all_constant l env) cs i ended

    module _ (c : Counted) (inside : i < length cs) (is : c ≡ get_or cs i c) where
      constant_turn : shut.all_constant cs env ≡ onward (need (is_some c.number) 19 c.at env) (λ _ e. shut.all_constant (drop (i + 1) cs) e)
      unfolding shut.all_constant
      constant_turn =
          sym left ∙ at_drop_more (λ l. shut.all_constant l env) cs i c inside ∙ ap (λ d. shut.all_constant (d ∷ drop (i + 1) cs) env) (sym is)

      pub one_constant : is_some c.number ≡ true → shut.all_constant (drop (i + 1) cs) env ≡ shut.all_constant cs env
      one_constant h = sym (constant_turn ∙ ap (λ b. onward (need b 19 c.at env) (λ _ e. shut.all_constant (drop (i + 1) cs) e)) h)

      pub one_variable : is_some c.number ≡ false → shut.all_constant cs env ≡ Refused 19 c.at
      one_variable h = constant_turn ∙ ap (λ b. onward (need b 19 c.at env) (λ _ e. shut.all_constant (drop (i + 1) cs) e)) h

  module _ (left : shut.all_ints (drop i cs) env ≡ shut.all_ints cs env) where
    pub ints_end : length cs ≤ i → shut.all_ints cs env ≡ Made tt env
    unfolding shut.all_ints
    ints_end ended = sym left ∙ at_drop_all (λ l. shut.all_ints l env) cs i ended

    module _ (c : Counted) (inside : i < length cs) (is : c ≡ get_or cs i c) where
      int_turn : shut.all_ints cs env ≡ onward (need (fits kind.Int (number_or_zero c.number)) 5 c.at env) (λ _ e. shut.all_ints (drop (i + 1) cs) e)
      unfolding shut.all_ints
      int_turn = sym left ∙ at_drop_more (λ l. shut.all_ints l env) cs i c inside ∙ ap (λ d. shut.all_ints (d ∷ drop (i + 1) cs) env) (sym is)

      pub one_int : fits kind.Int (number_or_zero c.number) ≡ true → shut.all_ints (drop (i + 1) cs) env ≡ shut.all_ints cs env
      one_int h = sym (int_turn ∙ ap (λ b. onward (need b 5 c.at env) (λ _ e. shut.all_ints (drop (i + 1) cs) e)) h)

      pub one_other : fits kind.Int (number_or_zero c.number) ≡ false → shut.all_ints cs env ≡ Refused 5 c.at
      one_other h = int_turn ∙ ap (λ b. onward (need b 5 c.at env) (λ _ e. shut.all_ints (drop (i + 1) cs) e)) h

pub more_ints : (cs : List Counted) (i : ℕ) (c : Counted) → i < length cs → c ≡ get_or cs i c → fits kind.Int (number_or_zero c.number) ≡ true → All IsInt (take i cs) → All IsInt (take (i + 1) cs)
more_ints cs i c inside is h all = All-more IsInt cs i c inside all (subst IsInt is h)

pub ints_are : (cs : List Counted) (i : ℕ) → length cs ≤ i → All IsInt (take i cs) → All IsInt cs
ints_are cs i ended all = let P : List Counted → Type 0 = All IsInt in subst P (take_all i cs ended) all

module _ (named : Bool) (at : ℕ) (env : Env) where
  abbrev placed : Bool → Bool → Answer (Unit {0})
  placed file named = need (file || not named) 48 at env

  pub in_file : is_file_scope env.scopes ≡ true → shut.need_place named at env ≡ Made tt env
  unfolding shut.need_place
  in_file h = ap (λ f. placed f named) h

  pub unnamed : named ≡ false → shut.need_place named at env ≡ Made tt env
  unfolding shut.need_place
  unnamed h = ap (placed (is_file_scope env.scopes)) h ∙ by (is_file_scope env.scopes)
    where
      by : (f : Bool) → placed f false ≡ Made tt env
      by true = refl
      by false = refl

  pub named_in_block : is_file_scope env.scopes ≡ false → named ≡ true → shut.need_place named at env ≡ Refused 48 at
  unfolding shut.need_place
  named_in_block f h = ap (λ f. placed f named) f ∙ ap (placed false) h

pub ruleset place_laws = (in_file, unnamed, named_in_block)

pub ruleset constant_laws = (constants_end, one_constant, one_variable)

pub ruleset int_laws = (ints_end, one_int, one_other, more_ints, ints_are)
