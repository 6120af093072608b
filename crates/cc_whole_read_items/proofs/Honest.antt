-- What reading takes stands at the front, and where a constant stops it that constant stands in the tokens, with its sign: carried from parts to wholes.
use Rattle.std.specs.Prelude.{if◌then◌else◌, nat_le, bytes_eq}
use Rattle.std.proofs.Common.{◌≡◌, ℕ, zero, suc, Bool, true, false, List, [], ◌∷◌, ◌++◌, length, pos, neg_ℤ, Option, Some, None, Result, Ok, Err, refl, ap, sym, ◌∙◌, subst, append_assoc}
use Rattle.std.specs.Str.Parse.{digits_value}
use Rattle.std.proofs.lemmas.Bool.{and_parts, and_from}
use Rattle.cf_base.proofs.Tests.{same_bytes}
use Rattle.cc_whole_tokens.specs.declared.mark.Mark.{Mark}
use Rattle.cc_whole_tokens.specs.declared.mark.Mark.TheVariants as mark
use Rattle.cc_whole_tokens.specs.declared.token.Token.{Token}
use Rattle.cc_whole_tokens.specs.declared.token.Token.TheVariants as token
use Rattle.cc_whole.specs.declared.types.CConstant.{CConstant}
use Rattle.cc_whole.specs.declared.types.CConstant.TheVariants as int
use Rattle.cc_whole.specs.Numbers.{fits_constant}
use Rattle.cc_whole_fitting.specs.declared.before.Before.{Before}
use Rattle.cc_whole_fitting.specs.declared.before.Before.TheVariants as before
use Rattle.cc_whole_fitting.specs.Numbers.{behind_mark, behind as follows, behind_all, token_fits, fit_from}
use Rattle.cc_whole_reading.specs.declared.stop.Stop.{Stop}
use Rattle.cc_whole_reading.specs.declared.stop.Stop.TheVariants as stop
use Rattle.cc_whole_reading.specs.Parse.{Parse, and_then, ◌>>=◌, pure, behind, sees, sees_a, is_dash, past, if_test, if_next, or_after, or_else, either, many, all_of, expect, name, text, nought, end}
use Rattle.cc_whole_reading.specs.Constants.{Keep, converted, positive, negative, constant}
use Rattle.cc_whole_reading.proofs.Chains.{separated}
use Rattle.cc_whole_reading.proofs.Shapes.{sees_is}

-- constants that are read fit
abbrev pub Strict : Keep → Type 0
Strict keep = (c d : CConstant) → keep c ≡ Some d → fits_constant c ≡ true

-- a constant of the tokens that may not be read; `b` stands before the tokens
pub record Refused (keep : Keep) (b : Before) (ts : List Token) : Type 0 where
  pub front : List Token
  pub number : Token
  pub rest : List Token
  pub value : CConstant
  pub parts : ts ≡ front ++ (number ∷ rest)
  pub is : token_fits number (behind_all front b) ≡ fits_constant value
  pub refused : keep value ≡ None

-- `b` stands before the tokens, and `s` before those that are left
pub record Runs (keep : Keep) (b : Before) (ts mid : List Token) (s : Before) : Type 0 where
  pub front : List Token
  pub parts : ts ≡ front ++ mid
  pub after : behind_all front b ≡ s
  pub fit : Strict keep → fit_from front b ≡ true

-- what stands before the tokens that are left
pub data End : Type 0 where
  exactly : Before → End
  anything : End

abbrev pub At : End → Before → Type 0
At (exactly c) s = s ≡ c
At anything s = Unit {0}

pub record Ends (keep : Keep) (b : Before) (e : End) (ts mid : List Token) : Type 0 where
  pub state : Before
  pub run : Runs keep b ts mid state
  pub at : At e state

abbrev pub Honestly : {A : Type 0} → Keep → Before → End → List Token → Result (A × List Token) Stop → Type 0
Honestly keep b e ts (Ok q) = Ends keep b e ts q.1
Honestly keep b e ts (Err (stop.NotC n)) = Unit {0}
Honestly keep b e ts (Err (stop.Unfit n)) = Refused keep b ts
Honestly keep b e ts (Err stop.Memory) = Unit {0}

pub record Honest {A : Type 0} (keep : Keep) (b : Before) (e : End) (p : Parse A) : Type 0 where
  pub holds : (ts : List Token) → Honestly keep b e ts (p ts)

-- ---- tokens one behind another

behind_append : (xs ys : List Token) (b : Before) → behind_all (xs ++ ys) b ≡ behind_all ys (behind_all xs b)
behind_append [] ys b = refl
behind_append (x ∷ xs) ys b = behind_append xs ys (follows x b)

fit_append : (xs ys : List Token) (b : Before) → fit_from xs b ≡ true → fit_from ys (behind_all xs b) ≡ true → fit_from (xs ++ ys) b ≡ true
fit_append [] ys b h k = k
fit_append (x ∷ xs) ys b h k =
    let parts = and_parts (token_fits x b) (fit_from xs (follows x b)) h in
    and_from (token_fits x b) (fit_from (xs ++ ys) (follows x b)) parts.0 (fit_append xs ys (follows x b) parts.1 k)

module _ (keep : Keep) where
  nothing : (b : Before) (ts : List Token) → Runs keep b ts ts b
  nothing b ts = record { front = []; parts = refl; after = refl; fit = λ strict. refl }

  further : (b s t : Before) (ts mid rest : List Token) → Runs keep b ts mid s → Runs keep s mid rest t → Runs keep b ts rest t
  further b s t ts mid rest r q = record {
    front = r.front ++ q.front;
    parts = r.parts ∙ ap (λ l. r.front ++ l) q.parts ∙ sym (append_assoc r.front q.front rest);
    after = behind_append r.front q.front b ∙ (ap (behind_all q.front) r.after ∙ q.after);
    fit = λ strict. fit_append r.front q.front b (r.fit strict) (ap (fit_from q.front) r.after ∙ q.fit strict);
  }

  refused_behind : (b s : Before) (ts mid : List Token) → Runs keep b ts mid s → Refused keep s mid → Refused keep b ts
  refused_behind b s ts mid r f = record {
    front = r.front ++ f.front;
    number = f.number;
    rest = f.rest;
    value = f.value;
    parts = r.parts ∙ ap (λ l. r.front ++ l) f.parts ∙ sym (append_assoc r.front f.front (f.number ∷ f.rest));
    is = ap (token_fits f.number) (behind_append r.front f.front b ∙ ap (behind_all f.front) r.after) ∙ f.is;
    refused = f.refused;
  }

  -- a token that fits is taken
  pub taken : (t : Token) (b : Before) (ts : List Token) → (Strict keep → token_fits t b ≡ true) → ts ≡ t ∷ behind ts → Runs keep b ts (behind ts) (follows t b)
  taken t b ts fits is = record { front = t ∷ []; parts = is; after = refl; fit = λ strict. and_from (token_fits t b) true (fits strict) refl }

  pub moved_on : {A : Type 0} (b s : Before) (e : End) (ts mid : List Token) (r : Result (A × List Token) Stop) → Runs keep b ts mid s → Honestly keep s e mid r
      → Honestly keep b e ts r
  moved_on b s e ts mid (Ok q) run h = record { state = h.state; run = further b s h.state ts mid q.1 run h.run; at = h.at }
  moved_on b s e ts mid (Err (stop.NotC n)) run h = tt
  moved_on b s e ts mid (Err (stop.Unfit n)) run h = refused_behind b s ts mid run h
  moved_on b s e ts mid (Err stop.Memory) run h = tt

  -- ---- parts and wholes

  pub stays : (b : Before) (ts : List Token) → Ends keep b (exactly b) ts ts
  stays b ts = record { state = b; run = nothing b ts; at = refl }

  pub honest_pure : {A : Type 0} {b : Before} (a : A) → Honest keep b (exactly b) (pure a)
  honest_pure {b = b} a = record { holds = λ ts. stays b ts }

  pub honest_any : {A : Type 0} {b : Before} (a : A) → Honest keep b anything (pure a)
  honest_any {b = b} a = record { holds = λ ts. record { state = b; run = nothing b ts; at = tt } }

  then_on : {A B : Type 0} (b : Before) (e g : End) (f : A → Parse B) → ((a : A) (s : Before) → At e s → Honest keep s g (f a)) → (ts : List Token)
      (r : Result (A × List Token) Stop) → Honestly keep b e ts r → Honestly keep b g ts (and_then r f)
  then_on b e g f next ts (Ok q) h = moved_on b h.state g ts q.1 (f q.0 q.1) h.run ((next q.0 h.state h.at).holds q.1)
  then_on b e g f next ts (Err (stop.NotC n)) h = tt
  then_on b e g f next ts (Err (stop.Unfit n)) h = h
  then_on b e g f next ts (Err stop.Memory) h = tt

  -- behind what ends in one state
  pub then_exact : {A B : Type 0} (b c : Before) (g : End) (f : A → Parse B) → ((a : A) → Honest keep c g (f a)) → (ts : List Token)
      (r : Result (A × List Token) Stop) → Honestly keep b (exactly c) ts r → Honestly keep b g ts (and_then r f)
  then_exact b c g f next = then_on b (exactly c) g f (λ a s at. subst (λ x. Honest keep x g (f a)) (sym at) (next a))

  pub honest_then : {A B : Type 0} {b c : Before} {g : End} (p : Parse A) (f : A → Parse B) → Honest keep b (exactly c) p → ((a : A) → Honest keep c g (f a))
      → Honest keep b g (p >>= f)
  honest_then {b = b} {c = c} {g = g} p f first next = record { holds = λ ts. then_exact b c g f next ts (p ts) (first.holds ts) }

  -- behind what ends in some state
  pub honest_after : {A B : Type 0} {b : Before} {g : End} (p : Parse A) (f : A → Parse B) → Honest keep b anything p → ((a : A) (s : Before) → Honest keep s g (f a))
      → Honest keep b g (p >>= f)
  honest_after {b = b} {g = g} p f first next = record { holds = λ ts. then_on b anything g f (λ a s at. next a s) ts (p ts) (first.holds ts) }

  made_on : {A B : Type 0} (b : Before) (e : End) (h : A → B) (ts : List Token) (r : Result (A × List Token) Stop) → Honestly keep b e ts r
      → Honestly keep b e ts (and_then r (λ a. pure (h a)))
  made_on b e h ts (Ok q) k = k
  made_on b e h ts (Err (stop.NotC n)) k = tt
  made_on b e h ts (Err (stop.Unfit n)) k = k
  made_on b e h ts (Err stop.Memory) k = tt

  pub honest_made : {A B : Type 0} {b : Before} {e : End} (h : A → B) (p : Parse A) → Honest keep b e p → Honest keep b e (p >>= (λ a. pure (h a)))
  honest_made {b = b} {e = e} h p first = record { holds = λ ts. made_on b e h ts (p ts) (first.holds ts) }

  loose_on : {A : Type 0} (b : Before) (e : End) (ts : List Token) (r : Result (A × List Token) Stop) → Honestly keep b e ts r → Honestly keep b anything ts r
  loose_on b e ts (Ok q) h = record { state = h.state; run = h.run; at = tt }
  loose_on b e ts (Err (stop.NotC n)) h = tt
  loose_on b e ts (Err (stop.Unfit n)) h = h
  loose_on b e ts (Err stop.Memory) h = tt

  -- what ends in one state ends in some
  pub loose : {A : Type 0} {b c : Before} {p : Parse A} → Honest keep b (exactly c) p → Honest keep b anything p
  loose {b = b} {c = c} {p = p} first = record { holds = λ ts. loose_on b (exactly c) ts (p ts) (first.holds ts) }

  if_on : {A : Type 0} (b : Before) (e : End) (ts : List Token) (c : Bool) (r s : Result (A × List Token) Stop) → Honestly keep b e ts r → Honestly keep b e ts s
      → Honestly keep b e ts (if c then r else s)
  if_on b e ts true r s h k = h
  if_on b e ts false r s h k = k

  pub honest_if : {A : Type 0} {b : Before} {e : End} (test : List Token → Bool) (p q : Parse A) → Honest keep b e p → Honest keep b e q
      → Honest keep b e (if_test test p q)
  honest_if {b = b} {e = e} test p q first second = record { holds = λ ts. if_on b e ts (test ts) (p ts) (q ts) (first.holds ts) (second.holds ts) }

  -- where the test holds a token is taken
  pub honest_seen : {A : Type 0} {b : Before} {e : End} (t : Token) (test : List Token → Bool) (p q : Parse A) → token_fits t b ≡ true
      → ((ts : List Token) → test ts ≡ true → ts ≡ t ∷ behind ts) → Honest keep (follows t b) e p → Honest keep b e q → Honest keep b e (if_test test (past p) q)
  honest_seen {b = b} {e = e} t test p q fits told first second = record { holds = λ ts. go ts (test ts) refl }
    where
      go : (ts : List Token) (c : Bool) → test ts ≡ c → Honestly keep b e ts (if c then p (behind ts) else q ts)
      go ts true is = moved_on b (follows t b) e ts (behind ts) (p (behind ts)) (taken t b ts (λ strict. fits) (told ts is)) (first.holds (behind ts))
      go ts false is = second.holds ts

  pub honest_next : {A : Type 0} {b : Before} {e : End} (m : Mark) (p q : Parse A) → Honest keep (behind_mark m b) e p → Honest keep b e q → Honest keep b e (if_next m p q)
  honest_next m p q first second = honest_seen (token.Mark m) (sees m) p q refl (sees_is m) first second

  after_on : (A : Type 0) (b : Before) (e : End) (m n : ℕ) (ts : List Token) (c : Bool) → Honestly {A = A} keep b e ts (Err (if c then stop.NotC m else stop.NotC n))
  after_on A b e m n ts true = tt
  after_on A b e m n ts false = tt

  later_on : {A : Type 0} (b : Before) (e : End) (m : ℕ) (ts : List Token) (r : Result (A × List Token) Stop) → Honestly keep b e ts r → Honestly keep b e ts (or_after m r)
  later_on b e m ts (Ok q) h = h
  later_on {A} b e m ts (Err (stop.NotC n)) h = after_on A b e m n ts (nat_le m n)
  later_on b e m ts (Err (stop.Unfit n)) h = h
  later_on b e m ts (Err stop.Memory) h = tt

  either_on : {A : Type 0} (b : Before) (e : End) (ts : List Token) (r s : Result (A × List Token) Stop) → Honestly keep b e ts r → Honestly keep b e ts s
      → Honestly keep b e ts (or_else r s)
  either_on b e ts (Ok q) s h k = h
  either_on b e ts (Err (stop.NotC m)) s h k = later_on b e m ts s k
  either_on b e ts (Err (stop.Unfit m)) s h k = h
  either_on b e ts (Err stop.Memory) s h k = tt

  pub honest_either : {A : Type 0} {b : Before} {e : End} (p q : Parse A) → Honest keep b e p → Honest keep b e q → Honest keep b e (either p q)
  honest_either {b = b} {e = e} p q first second = record { holds = λ ts. either_on b e ts (p ts) (q ts) (first.holds ts) (second.holds ts) }

  -- each turn ends in the state in which it begins
  many_on : {A : Type 0} (b : Before) (goes : List Token → Bool) (p : Parse A) → ((ts : List Token) → goes ts ≡ true → Honestly keep b (exactly b) ts (p ts)) → (n : ℕ) (found : List A)
      (ts : List Token) → Honestly keep b (exactly b) ts (many goes p n found ts)
  unfolding many
  many_on b goes p each zero found ts = stays b ts
  many_on {A} b goes p each (suc n) found ts = go (many_on b goes p each n) (goes ts) refl
    where
      go : ((more : List A) (us : List Token) → Honestly keep b (exactly b) us (many goes p n more us)) → (c : Bool) → goes ts ≡ c
          → Honestly keep b (exactly b) ts (if c then and_then (p ts) (λ x. many goes p n (found ++ x ∷ [])) else Ok (found, ts))
      go again true is = then_exact b b (exactly b) (λ x. many goes p n (found ++ x ∷ [])) (λ x. record { holds = again (found ++ x ∷ []) }) ts (p ts) (each ts is)
      go again false is = stays b ts

  pub honest_all : {A : Type 0} {b : Before} (goes : List Token → Bool) (p : Parse A) → Honest keep b (exactly b) p → (found : List A)
      → Honest keep b (exactly b) (all_of goes p found)
  honest_all {b = b} goes p each found = record { holds = λ ts. many_on b goes p (λ us is. each.holds us) (length ts) found ts }

  -- behind each comma, which ends in the state before it
  honest_commas : {A : Type 0} {c : Before} (p : Parse A) → Honest keep before.Other (exactly c) p → (found : List A) → Honest keep c (exactly c) (all_of (sees mark.Comma) (past p) found)
  honest_commas {c = c} p each found = record {
    holds = λ ts. many_on c (sees mark.Comma) (past p)
        (λ us is. moved_on c before.Other (exactly c) us (behind us) (p (behind us)) (taken (token.Mark mark.Comma) c us (λ strict. refl) (sees_is mark.Comma us is)) (each.holds (behind us)))
        (length ts) found ts;
  }

  pub honest_separated : {A : Type 0} {c : Before} (p : Parse A) → Honest keep before.Other (exactly c) p → Honest keep before.Other (exactly c) (separated p)
  honest_separated p each = honest_then p (λ x. all_of (sees mark.Comma) (past p) (x ∷ [])) each (λ x. honest_commas p each (x ∷ []))

  -- ---- single tokens

  expect_on : (b : Before) (m : Mark) (ts : List Token) (c : Bool) → sees m ts ≡ c
      → Honestly {A = Unit {0}} keep b (exactly (behind_mark m b)) ts (if c then Ok (tt, behind ts) else Err (stop.NotC (length ts)))
  expect_on b m ts true is = record { state = behind_mark m b; run = taken (token.Mark m) b ts (λ strict. refl) (sees_is m ts is); at = refl }
  expect_on b m ts false is = tt

  pub honest_expect : {b : Before} (m : Mark) → Honest keep b (exactly (behind_mark m b)) (expect m)
  unfolding expect
  honest_expect {b = b} m = record { holds = λ ts. expect_on b m ts (sees m ts) refl }

  -- a token that is no number, and is taken as it stands
  one_taken : (t : Token) (b : Before) (ts : List Token) → (Strict keep → token_fits t b ≡ true) → Ends keep b (exactly (follows t b)) (t ∷ ts) ts
  one_taken t b ts fits = record { state = follows t b; run = taken t b (t ∷ ts) fits refl; at = refl }

  name_on : (b : Before) (ts : List Token) → Honestly keep b (exactly before.Operand) ts (name ts)
  unfolding name
  name_on b [] = tt
  name_on b (token.Mark m ∷ ts) = tt
  name_on b (token.Dash ∷ ts) = tt
  name_on b (token.Name word ∷ ts) = one_taken (token.Name word) b ts (λ strict. refl)
  name_on b (token.Signed ds ∷ ts) = tt
  name_on b (token.Unsigned ds ∷ ts) = tt
  name_on b (token.Text bytes ∷ ts) = tt
  name_on b (token.Shared ∷ ts) = tt

  text_on : (b : Before) (ts : List Token) → Honestly keep b (exactly before.Other) ts (text ts)
  unfolding text
  text_on b [] = tt
  text_on b (token.Mark m ∷ ts) = tt
  text_on b (token.Dash ∷ ts) = tt
  text_on b (token.Name word ∷ ts) = tt
  text_on b (token.Signed ds ∷ ts) = tt
  text_on b (token.Unsigned ds ∷ ts) = tt
  text_on b (token.Text bytes ∷ ts) = one_taken (token.Text bytes) b ts (λ strict. refl)
  text_on b (token.Shared ∷ ts) = tt

  zero_fits : (ds : List ℕ) → bytes_eq ds (48 ∷ []) ≡ true → fits_constant (int.Signed (pos (digits_value 10 ds))) ≡ true
  zero_fits ds is = subst (λ l. fits_constant (int.Signed (pos (digits_value 10 l))) ≡ true) (sym (same_bytes ds (48 ∷ []) is)) refl

  zero_at : (ds : List ℕ) (ts : List Token) (c : Bool) → bytes_eq ds (48 ∷ []) ≡ c
      → Honestly {A = Unit {0}} keep before.Other (exactly before.Operand) (token.Signed ds ∷ ts) (if c then Ok (tt, ts) else Err (stop.NotC (suc (length ts))))
  zero_at ds ts true is = one_taken (token.Signed ds) before.Other ts (λ strict. zero_fits ds is)
  zero_at ds ts false is = tt

  zero_on : (ts : List Token) → Honestly keep before.Other (exactly before.Operand) ts (nought ts)
  unfolding nought
  zero_on [] = tt
  zero_on (token.Mark m ∷ ts) = tt
  zero_on (token.Dash ∷ ts) = tt
  zero_on (token.Name word ∷ ts) = tt
  zero_on (token.Signed ds ∷ ts) = zero_at ds ts (bytes_eq ds (48 ∷ [])) refl
  zero_on (token.Unsigned ds ∷ ts) = tt
  zero_on (token.Text bytes ∷ ts) = tt
  zero_on (token.Shared ∷ ts) = tt

  end_on : (b : Before) (ts : List Token) → Honestly keep b (exactly b) ts (end ts)
  unfolding end
  end_on b [] = stays b []
  end_on b (t ∷ ts) = tt

  -- ---- constants

  converted_on : (t : Token) (ts : List Token) (b : Before) (c : CConstant) → token_fits t b ≡ fits_constant c → follows t b ≡ before.Operand → (o : Option CConstant) → keep c ≡ o
      → Honestly keep b (exactly before.Operand) (t ∷ ts) (converted o (suc (length ts)) ts)
  converted_on t ts b c is next None e = record { front = []; number = t; rest = ts; value = c; parts = refl; is = is; refused = e }
  converted_on t ts b c is next (Some d) e = record { state = follows t b; run = taken t b (t ∷ ts) (λ strict. is ∙ strict c d e) refl; at = next }

  negative_on : (ts : List Token) → Honestly keep before.Sign (exactly before.Operand) ts (negative keep ts)
  unfolding negative
  negative_on [] = tt
  negative_on (token.Mark m ∷ ts) = tt
  negative_on (token.Dash ∷ ts) = tt
  negative_on (token.Name word ∷ ts) = tt
  negative_on (token.Signed ds ∷ ts) = converted_on (token.Signed ds) ts before.Sign (int.Signed (neg_ℤ (pos (digits_value 10 ds)))) refl refl _ refl
  negative_on (token.Unsigned ds ∷ ts) = tt
  negative_on (token.Text bytes ∷ ts) = tt
  negative_on (token.Shared ∷ ts) = tt

  positive_on : (ts : List Token) → Honestly keep before.Other (exactly before.Operand) ts (positive keep ts)
  unfolding positive
  positive_on [] = tt
  positive_on (token.Mark m ∷ ts) = tt
  positive_on (token.Dash ∷ ts) = tt
  positive_on (token.Name word ∷ ts) = tt
  positive_on (token.Signed ds ∷ ts) = converted_on (token.Signed ds) ts before.Other (int.Signed (pos (digits_value 10 ds))) refl refl _ refl
  positive_on (token.Unsigned ds ∷ ts) = converted_on (token.Unsigned ds) ts before.Other (int.Unsigned (digits_value 10 ds)) refl refl _ refl
  positive_on (token.Text bytes ∷ ts) = tt
  positive_on (token.Shared ∷ ts) = tt

  pub honest_name : {b : Before} → Honest keep b (exactly before.Operand) name
  honest_name {b = b} = record { holds = name_on b }

  pub honest_text : {b : Before} → Honest keep b (exactly before.Other) text
  honest_text {b = b} = record { holds = text_on b }

  pub honest_nought : Honest keep before.Other (exactly before.Operand) nought
  honest_nought = record { holds = zero_on }

  pub honest_end : {b : Before} → Honest keep b (exactly b) end
  honest_end {b = b} = record { holds = end_on b }

  dash_is : (ts : List Token) → sees_a is_dash ts ≡ true → ts ≡ token.Dash ∷ behind ts
  dash_is [] e = absurd (cc)
  dash_is (token.Mark m ∷ ts) e = absurd (cc)
  dash_is (token.Dash ∷ ts) e = refl
  dash_is (token.Name word ∷ ts) e = absurd (cc)
  dash_is (token.Signed ds ∷ ts) e = absurd (cc)
  dash_is (token.Unsigned ds ∷ ts) e = absurd (cc)
  dash_is (token.Text bytes ∷ ts) e = absurd (cc)
  dash_is (token.Shared ∷ ts) e = absurd (cc)

  pub honest_constant : Honest keep before.Other (exactly before.Operand) (constant keep)
  unfolding constant
  honest_constant = honest_seen token.Dash (sees_a is_dash) (negative keep) (positive keep) refl dash_is (record { holds = negative_on }) (record { holds = positive_on })
