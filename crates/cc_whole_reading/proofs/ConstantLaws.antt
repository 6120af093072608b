-- Reading a constant decides how constants are spelled, where all may be read.
use Rattle.std.proofs.Common.{◌≡◌, ℕ, List, [], ◌∷◌, ◌++◌, length, pos, neg_ℤ, Some, refl, ap, sym, subst, arith}
use Rattle.std.specs.Str.Parse.{digits_value}
use Rattle.cc_whole_tokens.specs.declared.token.Token.{Token}
use Rattle.cc_whole_tokens.specs.declared.token.Token.TheVariants as token
use Rattle.cc_whole.specs.declared.types.CConstant.{CConstant}
use Rattle.cc_whole.specs.declared.types.CConstant.TheVariants as int
use Rattle.cc_whole.specs.SpellsTypes.{SpellsConstant}
use Rattle.cc_whole.specs.SpellsTypes as g
use Rattle.cc_whole_reading.specs.Constants.{Keep, positive, negative, constant}
use Rattle.cc_whole_reading.proofs.Decides.{SameFront, any, SameReading, Stuck, Decides, stuck_here}
use Rattle.cc_whole_reading.proofs.Choices.{answer_front}

-- every constant of a text may be read
abbrev pub all_kept : Keep
all_kept c = Some c

-- what stands behind a `-`
data Digits : CConstant → List Token → Type 0 where
  digits : (ds : List ℕ) → Digits (int.Signed (neg_ℤ (pos (digits_value 10 ds)))) (token.Signed ds ∷ [])

nought : List ℕ
nought = 48 ∷ []

no_digits : (ts : List Token) → ((ds : List ℕ) (us : List Token) → SameFront ts (token.Signed ds ∷ us) → ⊥) → Stuck Digits any ts (length ts)
no_digits ts differ = stuck_here Digits any (record { tree = _; tokens = _; spells = digits nought }) ts never
  where
    never : (b : CConstant) (xs rest us : List Token) → Digits b xs → any rest → xs ++ rest ≡ us → SameFront ts us → ⊥
    never _ _ rest us (digits ds) f e same = differ ds rest (subst (SameFront ts) (sym e) same)

same_digits : (ds : List ℕ) (b : CConstant) (xs rest us : List Token) → Digits b xs → xs ++ rest ≡ token.Signed ds ∷ us
    → SameReading (int.Signed (neg_ℤ (pos (digits_value 10 ds)))) us b rest
same_digits ds _ _ rest us (digits es) e =
    let same : es ≡ ds = cc in
    record { tree = ap (λ l. int.Signed (neg_ℤ (pos (digits_value 10 l)))) same; left = cc }

decides_negative : (n : ℕ) → Decides Digits any n (negative all_kept)
unfolding negative
decides_negative n [] small = no_digits [] (λ ds us same. same)
decides_negative n (token.Mark m ∷ ts) small = no_digits (token.Mark m ∷ ts) (λ ds us same. absurd (cc))
decides_negative n (token.Dash ∷ ts) small = no_digits (token.Dash ∷ ts) (λ ds us same. absurd (cc))
decides_negative n (token.Name word ∷ ts) small = no_digits (token.Name word ∷ ts) (λ ds us same. absurd (cc))
decides_negative n (token.Signed ds ∷ ts) small = record {
  front = token.Signed ds ∷ [];
  spells = digits ds;
  parts = refl;
  only = λ b xs rest us s f e same. same_digits ds b xs rest us s e;
}
decides_negative n (token.Unsigned ds ∷ ts) small = no_digits (token.Unsigned ds ∷ ts) (λ es us same. absurd (cc))
decides_negative n (token.Text bytes ∷ ts) small = no_digits (token.Text bytes ∷ ts) (λ ds us same. absurd (cc))
decides_negative n (token.Shared ∷ ts) small = no_digits (token.Shared ∷ ts) (λ ds us same. absurd (cc))

put_dash : (b : CConstant) (ys : List Token) → Digits b ys → SpellsConstant b (token.Dash ∷ ys)
put_dash _ _ (digits ds) = g.SpellsConstant.negative ds

take_dash : (b : CConstant) (xs rest us : List Token) → SpellsConstant b xs → xs ++ rest ≡ token.Dash ∷ us → (ys : List Token) × Digits b ys × (ys ++ rest ≡ us)
take_dash _ _ rest us (g.SpellsConstant.signed ds) e = absurd (cc)
take_dash _ _ rest us (g.SpellsConstant.negative ds) e = let left : token.Signed ds ∷ rest ≡ us = cc in (token.Signed ds ∷ [], digits ds, left)
take_dash _ _ rest us (g.SpellsConstant.unsigned ds) e = absurd (cc)

-- a token that begins no constant
pub record NoConstant (ts : List Token) : Type 0 where
  pub signed : (ds : List ℕ) (us : List Token) → SameFront ts (token.Signed ds ∷ us) → ⊥
  pub dash : (us : List Token) → SameFront ts (token.Dash ∷ us) → ⊥
  pub unsigned : (ds : List ℕ) (us : List Token) → SameFront ts (token.Unsigned ds ∷ us) → ⊥

no_constant : (ts : List Token) → NoConstant ts → Stuck SpellsConstant any ts (length ts)
no_constant ts differ = stuck_here SpellsConstant any (record { tree = _; tokens = _; spells = g.SpellsConstant.signed nought }) ts never
  where
    never : (b : CConstant) (xs rest us : List Token) → SpellsConstant b xs → any rest → xs ++ rest ≡ us → SameFront ts us → ⊥
    never _ _ rest us (g.SpellsConstant.signed ds) f e same = differ.signed ds rest (subst (SameFront ts) (sym e) same)
    never _ _ rest us (g.SpellsConstant.negative ds) f e same = differ.dash (token.Signed ds ∷ rest) (subst (SameFront ts) (sym e) same)
    never _ _ rest us (g.SpellsConstant.unsigned ds) f e same = differ.unsigned ds rest (subst (SameFront ts) (sym e) same)

same_signed : (ds : List ℕ) (b : CConstant) (xs rest us : List Token) → SpellsConstant b xs → xs ++ rest ≡ token.Signed ds ∷ us
    → SameReading (int.Signed (pos (digits_value 10 ds))) us b rest
same_signed ds _ _ rest us (g.SpellsConstant.signed es) e =
    let same : es ≡ ds = cc in
    record { tree = ap (λ l. int.Signed (pos (digits_value 10 l))) same; left = cc }
same_signed ds _ _ rest us (g.SpellsConstant.negative es) e = absurd (cc)
same_signed ds _ _ rest us (g.SpellsConstant.unsigned es) e = absurd (cc)

same_unsigned : (ds : List ℕ) (b : CConstant) (xs rest us : List Token) → SpellsConstant b xs → xs ++ rest ≡ token.Unsigned ds ∷ us
    → SameReading (int.Unsigned (digits_value 10 ds)) us b rest
same_unsigned ds _ _ rest us (g.SpellsConstant.signed es) e = absurd (cc)
same_unsigned ds _ _ rest us (g.SpellsConstant.negative es) e = absurd (cc)
same_unsigned ds _ _ rest us (g.SpellsConstant.unsigned es) e =
    let same : es ≡ ds = cc in
    record { tree = ap (λ l. int.Unsigned (digits_value 10 l)) same; left = cc }

pub decides_constant : (n : ℕ) → Decides SpellsConstant any n (constant all_kept)
unfolding constant positive
decides_constant n [] small = no_constant [] (record { signed = λ ds us same. same; dash = λ us same. same; unsigned = λ ds us same. same })
decides_constant n (token.Mark m ∷ ts) small =
    no_constant (token.Mark m ∷ ts) (record { signed = λ ds us same. absurd (cc); dash = λ us same. absurd (cc); unsigned = λ ds us same. absurd (cc) })
decides_constant n (token.Dash ∷ ts) small =
    answer_front token.Dash Digits SpellsConstant any put_dash (λ b xs rest us s f e. take_dash b xs rest us s e) ts (negative all_kept ts) (decides_negative n ts (omega (arith, small)))
decides_constant n (token.Name word ∷ ts) small =
    no_constant (token.Name word ∷ ts) (record { signed = λ ds us same. absurd (cc); dash = λ us same. absurd (cc); unsigned = λ ds us same. absurd (cc) })
decides_constant n (token.Signed ds ∷ ts) small = record {
  front = token.Signed ds ∷ [];
  spells = g.SpellsConstant.signed ds;
  parts = refl;
  only = λ b xs rest us s f e same. same_signed ds b xs rest us s e;
}
decides_constant n (token.Unsigned ds ∷ ts) small = record {
  front = token.Unsigned ds ∷ [];
  spells = g.SpellsConstant.unsigned ds;
  parts = refl;
  only = λ b xs rest us s f e same. same_unsigned ds b xs rest us s e;
}
decides_constant n (token.Text bytes ∷ ts) small =
    no_constant (token.Text bytes ∷ ts) (record { signed = λ ds us same. absurd (cc); dash = λ us same. absurd (cc); unsigned = λ ds us same. absurd (cc) })
decides_constant n (token.Shared ∷ ts) small =
    no_constant (token.Shared ∷ ts) (record { signed = λ ds us same. absurd (cc); dash = λ us same. absurd (cc); unsigned = λ ds us same. absurd (cc) })
