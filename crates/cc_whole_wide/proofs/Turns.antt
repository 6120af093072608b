-- Going through tokens: what stands for them, and where their first number is that does not fit.
use Rattle.std.proofs.Common.{◌≡◌, ℕ, ◌+◌, Bool, true, false, List, [], ◌∷◌, ◌++◌, Option, Some, None, refl, ap, sym, ◌∙◌, arith, append_assoc}
use Rattle.std.specs.Prelude.{if◌then◌else◌}
use Rattle.std.proofs.lemmas.Bool.{and_parts, and_from}
use Rattle.cc_whole_tokens.specs.declared.mark.Mark.{Mark}
use Rattle.cc_whole_tokens.specs.declared.mark.Mark.TheVariants as mark
use Rattle.cc_whole_tokens.specs.declared.token.Token.{Token}
use Rattle.cc_whole_tokens.specs.declared.token.Token.TheVariants as token
use Rattle.cc_whole.specs.SpellsTypes.{sign}
use Rattle.cc_whole.specs.Spells.{bracketed}
use Rattle.cc_whole_laws.specs.Landmark.{word_mark, landmark, landmarks_in}
use Rattle.cc_whole_fitting.specs.declared.before.Before.{Before}
use Rattle.cc_whole_fitting.specs.declared.before.Before.TheVariants as before
use Rattle.cc_whole_fitting.specs.Numbers.{behind, behind_mark, behind_all, token_fits, fit_from}
use Rattle.cc_whole_wide.specs.declared.role.Role.{Role}
use Rattle.cc_whole_wide.specs.declared.role.Role.TheVariants as role
use Rattle.cc_whole_wide.specs.Roles.{mark_role, role_behind, roles}
use Rattle.cc_whole_wide.specs.Others.{later, wide_from, kept, put, others_from}
use Rattle.cc_whole_wide.proofs.Stopping.{first_of}

-- what stands before what is put: a sign is put with its number
abbrev pub outer : Before → Before
outer before.Operand = before.Operand
outer before.Word = before.Word
outer before.Sign = before.Other
outer before.Other = before.Other

pub outer_mark : (m : Mark) (b : Before) → behind_mark m (outer b) ≡ outer (behind_mark m b)
outer_mark mark.RightParen before.Operand = refl
outer_mark mark.RightParen before.Word = refl
outer_mark mark.RightParen before.Sign = refl
outer_mark mark.RightParen before.Other = refl
outer_mark mark.Star before.Operand = refl
outer_mark mark.Star before.Word = refl
outer_mark mark.Star before.Sign = refl
outer_mark mark.Star before.Other = refl
outer_mark mark.Char b = refl
outer_mark mark.Short b = refl
outer_mark mark.Int b = refl
outer_mark mark.Unsigned b = refl
outer_mark mark.FunctionPointer b = refl
outer_mark m b = refl

-- `ys` stand for the tokens `xs`, whose first number that does not fit stands there; `b` and `r` are what stands before them, `c` and `q` before what follows.
-- The numbers of `ys` fit.
pub record Turned (b : Before) (r : Role) (xs ys : List Token) (o : Option ℕ) (c : Before) (q : Role) : Type 0 where
  pub puts : others_from xs b r ≡ ys
  pub after : behind_all xs b ≡ c
  pub serves : roles xs b r ≡ q
  pub wide : wide_from xs b ≡ o
  pub fit : fit_from ys (outer b) ≡ true
  pub ends : behind_all ys (outer b) ≡ outer c

-- tokens that stand for themselves
abbrev pub Stays : Before → Role → List Token → Before → Role → Type 0
Stays b r xs c q = Turned b r xs xs None c q

pub nothing : (b : Before) (r : Role) → Stays b r [] b r
nothing b r = record { puts = refl; after = refl; serves = refl; wide = refl; fit = refl; ends = refl }

pub told : {b c : Before} {r q : Role} {xs ys : List Token} {o p : Option ℕ} → o ≡ p → Turned b r xs ys o c q → Turned b r xs ys p c q
told e t = record { puts = t.puts; after = t.after; serves = t.serves; wide = t.wide ∙ e; fit = t.fit; ends = t.ends }

pub later_zero : (o : Option ℕ) → later 0 o ≡ o
later_zero None = refl
later_zero (Some w) = let same : 0 + w ≡ w = omega arith in ap (λ k. Some k) same

pub first_alone : (o : Option ℕ) (n : ℕ) → first_of o n None ≡ o
first_alone None n = refl
first_alone (Some w) n = refl

later_twice : (n m : ℕ) (o : Option ℕ) → later n (later m o) ≡ later (n + m) o
later_twice n m None = refl
later_twice n m (Some w) = let same : n + (m + w) ≡ (n + m) + w = omega arith in ap (λ k. Some k) same

later_first : (l : ℕ) (o : Option ℕ) (n : ℕ) (p : Option ℕ) → later l (first_of o n p) ≡ first_of (later l o) (l + n) p
later_first l None n p = later_twice l n p
later_first l (Some w) n p = refl

after_append : (xs zs : List Token) (b : Before) → behind_all (xs ++ zs) b ≡ behind_all zs (behind_all xs b)
after_append [] zs b = refl
after_append (x ∷ xs) zs b = after_append xs zs (behind x b)

serves_append : (xs zs : List Token) (b : Before) (r : Role) → roles (xs ++ zs) b r ≡ roles zs (behind_all xs b) (roles xs b r)
serves_append [] zs b r = refl
serves_append (x ∷ xs) zs b r = serves_append xs zs (behind x b) (role_behind x b r)

puts_append : (xs zs : List Token) (b : Before) (r : Role) → others_from (xs ++ zs) b r ≡ others_from xs b r ++ others_from zs (behind_all xs b) (roles xs b r)
puts_append [] zs b r = refl
puts_append (x ∷ xs) zs b r =
    ap (λ l. put x b r ++ l) (puts_append xs zs (behind x b) (role_behind x b r))
    ∙ sym (append_assoc (put x b r) (others_from xs (behind x b) (role_behind x b r)) (others_from zs (behind_all xs (behind x b)) (roles xs (behind x b) (role_behind x b r))))

wide_append : (xs zs : List Token) (b : Before) → wide_from (xs ++ zs) b ≡ first_of (wide_from xs b) (landmarks_in xs) (wide_from zs (behind_all xs b))
wide_append [] zs b = sym (later_zero (wide_from zs b))
wide_append (x ∷ xs) zs b = go (token_fits x b) (wide_append xs zs (behind x b))
  where
    go : (f : Bool) → wide_from (xs ++ zs) (behind x b) ≡ first_of (wide_from xs (behind x b)) (landmarks_in xs) (wide_from zs (behind_all xs (behind x b)))
        → (if f then later (landmark x) (wide_from (xs ++ zs) (behind x b)) else Some 0)
        ≡ first_of (if f then later (landmark x) (wide_from xs (behind x b)) else Some 0) (landmark x + landmarks_in xs) (wide_from zs (behind_all xs (behind x b)))
    go true e =
        ap (later (landmark x)) e ∙ later_first (landmark x) (wide_from xs (behind x b)) (landmarks_in xs) (wide_from zs (behind_all xs (behind x b)))
    go false e = refl

fit_both : (xs ys : List Token) (b : Before) → fit_from xs b ≡ true → fit_from ys (behind_all xs b) ≡ true → fit_from (xs ++ ys) b ≡ true
fit_both [] ys b h k = k
fit_both (x ∷ xs) ys b h k =
    let parts = and_parts (token_fits x b) (fit_from xs (behind x b)) h in
    and_from (token_fits x b) (fit_from (xs ++ ys) (behind x b)) parts.0 (fit_both xs ys (behind x b) parts.1 k)

-- some tokens, and then others
pub both : {b c d : Before} {r q s : Role} {xs ys zs vs : List Token} {o p : Option ℕ} → Turned b r xs ys o c q → Turned c q zs vs p d s
    → Turned b r (xs ++ zs) (ys ++ vs) (first_of o (landmarks_in xs) p) d s
both {b} {c} {r = r} {xs = xs} {ys = ys} {zs = zs} {vs = vs} {o = o} {p = p} t u = record {
  puts =
      puts_append xs zs b r
      ∙ (ap (λ l. l ++ others_from zs (behind_all xs b) (roles xs b r)) t.puts
      ∙ ap (λ l. ys ++ l) (ap (λ c. others_from zs c (roles xs b r)) t.after ∙ (ap (λ q. others_from zs c q) t.serves ∙ u.puts)));
  after = after_append xs zs b ∙ (ap (behind_all zs) t.after ∙ u.after);
  serves = serves_append xs zs b r ∙ (ap (λ c. roles zs c (roles xs b r)) t.after ∙ (ap (λ q. roles zs c q) t.serves ∙ u.serves));
  wide =
      wide_append xs zs b
      ∙ (ap (λ k. first_of k (landmarks_in xs) (wide_from zs (behind_all xs b))) t.wide
      ∙ ap (λ k. first_of o (landmarks_in xs) k) (ap (wide_from zs) t.after ∙ u.wide));
  fit = fit_both ys vs (outer b) t.fit (ap (fit_from vs) t.ends ∙ u.fit);
  ends = after_append ys vs (outer b) ∙ (ap (behind_all vs) t.ends ∙ u.ends);
}

-- tokens, and then others that stay
pub closed : {b c d : Before} {r q s : Role} {xs ys zs : List Token} {o : Option ℕ} → Turned b r xs ys o c q → Stays c q zs d s
    → Turned b r (xs ++ zs) (ys ++ zs) o d s
closed {xs = xs} {o = o} t u = told (first_alone o (landmarks_in xs)) (both t u)

-- a sign or word before them
pub marked : {c : Before} {r q : Role} {xs ys : List Token} {o : Option ℕ} {b : Before} (m : Mark) → Turned (behind_mark m b) (mark_role m r) xs ys o c q
    → Turned b r (token.Mark m ∷ xs) (token.Mark m ∷ ys) (later (word_mark m) o) c q
marked {ys = ys} {b = b} m t = record {
  puts = ap (λ l. token.Mark m ∷ l) t.puts;
  after = t.after;
  serves = t.serves;
  wide = ap (later (word_mark m)) t.wide;
  fit = ap (fit_from ys) (outer_mark m b) ∙ t.fit;
  ends = ap (behind_all ys) (outer_mark m b) ∙ t.ends;
}

-- one that is no landmark
pub silent : {c : Before} {r q : Role} {xs ys : List Token} {o : Option ℕ} {b : Before} (m : Mark) → word_mark m ≡ 0 → Turned (behind_mark m b) (mark_role m r) xs ys o c q
    → Turned b r (token.Mark m ∷ xs) (token.Mark m ∷ ys) o c q
silent {o = o} m e t = told (ap (λ n. later n o) e ∙ later_zero o) (marked m t)

-- names stay names
abbrev pub Calm : Role → Type 0
Calm r = (own : List Token) → kept r own ≡ own

pub worded : {c : Before} {r q : Role} {xs ys : List Token} {o : Option ℕ} {b : Before} (name : List ℕ) → Calm r → Turned before.Operand role.Value xs ys o c q
    → Turned b r (token.Name name ∷ xs) (token.Name name ∷ ys) (later 1 o) c q
worded {xs = xs} {b = b} name calm t = record {
  puts = ap (λ l. l ++ others_from xs before.Operand role.Value) (calm (token.Name name ∷ [])) ∙ ap (λ l. token.Name name ∷ l) t.puts;
  after = t.after;
  serves = t.serves;
  wide = ap (later 1) t.wide;
  fit = t.fit;
  ends = t.ends;
}

pub one : (m : Mark) (b : Before) (r : Role) → Stays b r (sign m) (behind_mark m b) (mark_role m r)
one m b r = record { puts = refl; after = refl; serves = refl; wide = refl; fit = refl; ends = outer_mark m b }

pub value_calm : Calm role.Value
value_calm own = refl

pub pair_calm : Calm role.Pair
pair_calm own = refl

-- an operand in brackets is an operand
pub in_brackets : {xs ys : List Token} {o : Option ℕ} (b : Before) (r : Role) → Turned before.Other role.Value xs ys o before.Operand role.Value
    → Turned b r (bracketed xs) (bracketed ys) o before.Operand role.Value
in_brackets b r t = silent mark.LeftParen refl (closed t (one mark.RightParen before.Operand role.Value))
