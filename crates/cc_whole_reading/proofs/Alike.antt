-- Reading with some constants alone, and with all: both take and refuse the same tokens, up to a constant that may not be read. The trees are
-- equal where constants are read as they stand.
use Rattle.std.proofs.Common.{◌≡◌, ℕ, zero, suc, Bool, true, false, nat_le, List, [], ◌∷◌, ◌++◌, length, pos, neg_ℤ, Option, Some, None, Result, Ok, Err, refl, ap, sym, ◌∙◌, subst}
use Rattle.std.specs.Prelude.{if◌then◌else◌}
use Rattle.std.specs.Str.Parse.{digits_value}
use Rattle.cc_whole_tokens.specs.declared.mark.Mark.TheVariants as mark
use Rattle.cc_whole_tokens.specs.declared.token.Token.{Token}
use Rattle.cc_whole_tokens.specs.declared.token.Token.TheVariants as token
use Rattle.cc_whole.specs.declared.types.CConstant.{CConstant}
use Rattle.cc_whole.specs.declared.types.CConstant.TheVariants as int
use Rattle.cc_whole.specs.Numbers.{fits_constant}
use Rattle.cc_whole_reading.specs.declared.stop.Stop.{Stop}
use Rattle.cc_whole_reading.specs.declared.stop.Stop.TheVariants as stop
use Rattle.cc_whole_reading.specs.declared.constants.Constants.{Constants}
use Rattle.cc_whole_reading.specs.declared.constants.Constants.TheVariants as constants
use Rattle.cc_whole_reading.specs.Parse.{Parse, and_then, ◌>>=◌, pure, behind, sees, past, if_test, or_after, or_else, either, many, all_of}
use Rattle.cc_whole_reading.specs.Constants.{keeps, fitting, zero_of, or_zero, converted, positive, negative, constant}
use Rattle.cc_whole_reading.proofs.ConstantLaws.{all_kept}
use Rattle.cc_whole_reading.proofs.Chains.{separated}

pub record SameTaken {A : Type 0} (E : Type 0) (p q : A × List Token) : Type 0 where
  pub rest : q.1 ≡ p.1
  pub tree : E → q.0 ≡ p.0

-- `E` says that constants are read as they stand
abbrev pub SameResult : {A : Type 0} → Type 0 → Result (A × List Token) Stop → Result (A × List Token) Stop → Type 0
SameResult E (Ok p) (Ok q) = SameTaken E p q
SameResult E (Ok p) (Err f) = ⊥
SameResult E (Err (stop.NotC m)) (Ok q) = ⊥
SameResult E (Err (stop.NotC m)) (Err (stop.NotC n)) = n ≡ m
SameResult E (Err (stop.NotC m)) (Err (stop.Unfit n)) = ⊥
SameResult E (Err (stop.NotC m)) (Err stop.Memory) = ⊥
SameResult E (Err (stop.Unfit m)) s = Unit {0}
SameResult E (Err stop.Memory) s = Unit {0}

abbrev pub Alike : {A : Type 0} → Type 0 → Parse A → Parse A → Type 0
Alike E p q = (ts : List Token) → SameResult E (p ts) (q ts)

pub alike_pure : {A : Type 0} (E : Type 0) (a b : A) → (E → b ≡ a) → Alike E (pure a) (pure b)
alike_pure E a b e ts = record { rest = refl; tree = e }

result_itself : {A : Type 0} (E : Type 0) (r : Result (A × List Token) Stop) → SameResult E r r
result_itself E (Ok q) = record { rest = refl; tree = λ e. refl }
result_itself E (Err (stop.NotC n)) = refl
result_itself E (Err (stop.Unfit n)) = tt
result_itself E (Err stop.Memory) = tt

-- what reads no constant
pub alike_itself : {A : Type 0} (E : Type 0) (p : Parse A) → Alike E p p
alike_itself E p ts = result_itself E (p ts)

then_on : {A B : Type 0} (E : Type 0) (f g : A → Parse B) → ((a b : A) → (E → b ≡ a) → Alike E (f a) (g b)) → (r s : Result (A × List Token) Stop) → SameResult E r s
    → SameResult E (and_then r f) (and_then s g)
then_on E f g next (Ok p) (Ok q) w = subst (λ l. SameResult E (f p.0 p.1) (g q.0 l)) (sym w.rest) (next p.0 q.0 w.tree p.1)
then_on E f g next (Ok p) (Err e) w = absurd w
then_on E f g next (Err (stop.NotC m)) (Ok q) w = absurd w
then_on E f g next (Err (stop.NotC m)) (Err (stop.NotC n)) w = w
then_on E f g next (Err (stop.NotC m)) (Err (stop.Unfit n)) w = absurd w
then_on E f g next (Err (stop.NotC m)) (Err stop.Memory) w = absurd w
then_on E f g next (Err (stop.Unfit m)) s w = tt
then_on E f g next (Err stop.Memory) s w = tt

pub alike_then : {A B : Type 0} (E : Type 0) (p q : Parse A) (f g : A → Parse B) → Alike E p q → ((a b : A) → (E → b ≡ a) → Alike E (f a) (g b)) → Alike E (p >>= f) (q >>= g)
alike_then E p q f g first next ts = then_on E f g next (p ts) (q ts) (first ts)

-- behind what reads no constant
pub alike_next : {A B : Type 0} (E : Type 0) (p : Parse A) (f g : A → Parse B) → ((a : A) → Alike E (f a) (g a)) → Alike E (p >>= f) (p >>= g)
alike_next E p f g next ts = go (p ts)
  where
    go : (r : _) → SameResult E (and_then r f) (and_then r g)
    go (Ok q) = next q.0 q.1
    go (Err (stop.NotC m)) = refl
    go (Err (stop.Unfit m)) = tt
    go (Err stop.Memory) = tt

pub alike_made : {A B : Type 0} (E : Type 0) (h : A → B) (p q : Parse A) → Alike E p q → Alike E (p >>= (λ a. pure (h a))) (q >>= (λ a. pure (h a)))
alike_made E h p q first = alike_then E p q (λ a. pure (h a)) (λ a. pure (h a)) first (λ a b e. alike_pure E (h a) (h b) (λ x. ap h (e x)))

pub alike_if : {A : Type 0} (E : Type 0) (test : List Token → Bool) (p q r s : Parse A) → Alike E p q → Alike E r s → Alike E (if_test test p r) (if_test test q s)
alike_if E test p q r s first second ts = go (test ts)
  where
    go : (c : Bool) → SameResult E (if c then p ts else r ts) (if c then q ts else s ts)
    go true = first ts
    go false = second ts

pub alike_past : {A : Type 0} (E : Type 0) (p q : Parse A) → Alike E p q → Alike E (past p) (past q)
alike_past E p q first ts = first (behind ts)

pub alike_sight : {A : Type 0} (E : Type 0) (m : _) (p q r s : Parse A) → Alike E p q → Alike E r s → Alike E (if_test (sees m) (past p) r) (if_test (sees m) (past q) s)
alike_sight E m p q r s first second = alike_if E (sees m) (past p) (past q) r s (alike_past E p q first) second

later_on : {A : Type 0} (E : Type 0) (m : ℕ) (r s : Result (A × List Token) Stop) → SameResult E r s → SameResult E (or_after m r) (or_after m s)
later_on E m (Ok p) (Ok q) w = w
later_on E m (Ok p) (Err e) w = absurd w
later_on E m (Err (stop.NotC k)) (Ok q) w = absurd w
later_on {A} E m (Err (stop.NotC k)) (Err (stop.NotC n)) w =
    subst (λ j. SameResult {A = A} E (Err (if nat_le m k then stop.NotC m else stop.NotC k)) (Err (if nat_le m j then stop.NotC m else stop.NotC j))) (sym w)
    (result_itself E (Err (if nat_le m k then stop.NotC m else stop.NotC k)))
later_on E m (Err (stop.NotC k)) (Err (stop.Unfit n)) w = absurd w
later_on E m (Err (stop.NotC k)) (Err stop.Memory) w = absurd w
later_on E m (Err (stop.Unfit k)) s w = tt
later_on E m (Err stop.Memory) s w = tt

either_on : {A : Type 0} (E : Type 0) (r s t u : Result (A × List Token) Stop) → SameResult E r s → SameResult E t u → SameResult E (or_else r t) (or_else s u)
either_on E (Ok p) (Ok q) t u w v = w
either_on E (Ok p) (Err e) t u w v = absurd w
either_on E (Err (stop.NotC m)) (Ok q) t u w v = absurd w
either_on E (Err (stop.NotC m)) (Err (stop.NotC n)) t u w v = subst (λ j. SameResult E (or_after m t) (or_after j u)) (sym w) (later_on E m t u v)
either_on E (Err (stop.NotC m)) (Err (stop.Unfit n)) t u w v = absurd w
either_on E (Err (stop.NotC m)) (Err stop.Memory) t u w v = absurd w
either_on E (Err (stop.Unfit m)) s t u w v = tt
either_on E (Err stop.Memory) s t u w v = tt

pub alike_either : {A : Type 0} (E : Type 0) (p q r s : Parse A) → Alike E p q → Alike E r s → Alike E (either p r) (either q s)
alike_either E p q r s first second ts = either_on E (p ts) (q ts) (r ts) (s ts) (first ts) (second ts)

pub alike_many : {A : Type 0} (E : Type 0) (goes : List Token → Bool) (p q : Parse A) → Alike E p q → (n : ℕ) (found other : List A) → (E → other ≡ found)
    → Alike E (many goes p n found) (many goes q n other)
unfolding many
alike_many E goes p q each zero found other e ts = record { rest = refl; tree = e }
alike_many E goes p q each (suc n) found other e ts = go (alike_many E goes p q each n) (goes ts)
  where
    go : ((xs ys : List _) → (E → ys ≡ xs) → Alike E (many goes p n xs) (many goes q n ys)) → (c : Bool)
        → SameResult E (if c then and_then (p ts) (λ x. many goes p n (found ++ x ∷ [])) else Ok (found, ts)) (if c then and_then (q ts) (λ x. many goes q n (other ++ x ∷ [])) else Ok (other, ts))
    go again true = then_on E (λ x. many goes p n (found ++ x ∷ [])) (λ x. many goes q n (other ++ x ∷ []))
        (λ a b f. again (found ++ a ∷ []) (other ++ b ∷ []) (λ x. ap (λ l. l ++ b ∷ []) (e x) ∙ ap (λ y. found ++ y ∷ []) (f x))) (p ts) (q ts) (each ts)
    go again false = record { rest = refl; tree = e }

pub alike_all : {A : Type 0} (E : Type 0) (goes : List Token → Bool) (p q : Parse A) → Alike E p q → (found other : List A) → (E → other ≡ found)
    → Alike E (all_of goes p found) (all_of goes q other)
alike_all E goes p q each found other e ts = alike_many E goes p q each (length ts) found other e ts

pub alike_separated : {A : Type 0} (E : Type 0) (p q : Parse A) → Alike E p q → Alike E (separated p) (separated q)
alike_separated E p q each =
    alike_then E p q (λ x. all_of (sees mark.Comma) (past p) (x ∷ [])) (λ x. all_of (sees mark.Comma) (past q) (x ∷ [])) each
    (λ a b e. alike_all E (sees mark.Comma) (past p) (past q) (alike_past E p q each) (a ∷ []) (b ∷ []) (λ x. ap (λ y. y ∷ []) (e x)))

-- ---- constants

-- constants are read as they stand
abbrev pub AsTheyStand : Constants → Type 0
AsTheyStand wanted = wanted ≡ constants.Exact

same_fitting : (c : CConstant) (left : ℕ) (ts : List Token) (b : Bool) → SameResult (AsTheyStand constants.Exact) (converted (if b then Some c else None) left ts) (Ok (c, ts))
same_fitting c left ts true = record { rest = refl; tree = λ e. refl }
same_fitting c left ts false = tt

same_any : (c : CConstant) (left : ℕ) (ts : List Token) (o : Option CConstant) → SameResult (AsTheyStand constants.Any) (converted (or_zero constants.Any o (zero_of c)) left ts) (Ok (c, ts))
same_any c left ts None = record { rest = refl; tree = λ e. absurd (cc) }
same_any c left ts (Some d) = record { rest = refl; tree = λ e. absurd (cc) }

same_converted : (wanted : Constants) (c : CConstant) (left : ℕ) (ts : List Token) → SameResult (AsTheyStand wanted) (converted (keeps wanted c) left ts) (converted (all_kept c) left ts)
same_converted constants.Exact c left ts = same_fitting c left ts (fits_constant c)
same_converted constants.Any c left ts = same_any c left ts (fitting c)

alike_negative : (wanted : Constants) → Alike (AsTheyStand wanted) (negative (keeps wanted)) (negative all_kept)
unfolding negative
alike_negative wanted [] = refl
alike_negative wanted (token.Mark m ∷ ts) = refl
alike_negative wanted (token.Dash ∷ ts) = refl
alike_negative wanted (token.Name word ∷ ts) = refl
alike_negative wanted (token.Signed ds ∷ ts) = same_converted wanted (int.Signed (neg_ℤ (pos (digits_value 10 ds)))) (suc (length ts)) ts
alike_negative wanted (token.Unsigned ds ∷ ts) = refl
alike_negative wanted (token.Text bytes ∷ ts) = refl
alike_negative wanted (token.Shared ∷ ts) = refl

alike_positive : (wanted : Constants) → Alike (AsTheyStand wanted) (positive (keeps wanted)) (positive all_kept)
unfolding positive
alike_positive wanted [] = refl
alike_positive wanted (token.Mark m ∷ ts) = refl
alike_positive wanted (token.Dash ∷ ts) = refl
alike_positive wanted (token.Name word ∷ ts) = refl
alike_positive wanted (token.Signed ds ∷ ts) = same_converted wanted (int.Signed (pos (digits_value 10 ds))) (suc (length ts)) ts
alike_positive wanted (token.Unsigned ds ∷ ts) = same_converted wanted (int.Unsigned (digits_value 10 ds)) (suc (length ts)) ts
alike_positive wanted (token.Text bytes ∷ ts) = refl
alike_positive wanted (token.Shared ∷ ts) = refl

pub alike_constant : (wanted : Constants) → Alike (AsTheyStand wanted) (constant (keeps wanted)) (constant all_kept)
unfolding constant
alike_constant wanted =
    alike_if (AsTheyStand wanted) _ (past (negative (keeps wanted))) (past (negative all_kept)) (positive (keeps wanted)) (positive all_kept)
    (alike_past (AsTheyStand wanted) (negative (keeps wanted)) (negative all_kept) (alike_negative wanted)) (alike_positive wanted)
